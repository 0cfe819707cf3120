-- `numbers` meets its contract, case by case: a truth value is its digit.
use mathlib.Core.Path.{◌≡◌, ap, ap₂}
use mathlib.Core.List.{[], ◌∷◌}
use Prim.Native.Nat.{ℕ, suc, ◌+◌}
use native.Mathlib.Omega.{arith}
use Rattle.words.proofs.Truth.{byte-digit}
use Rattle.explained.proofs.numbers.Goals as goal

-- a variable's number from 1
from_one : (v : ℕ) → v + 1 ≡ suc v
from_one v = omega arith

pub returns-in-ConflictWithLevel : goal.returns-in-ConflictWithLevel
returns-in-ConflictWithLevel c =
    rw c.in-ConflictWithLevel.is (ap (λ (v : ℕ). 2 ∷ c.in-ConflictWithLevel.row ∷ v ∷ 0 ∷ []) (from_one c.in-ConflictWithLevel.variable))

pub returns-in-ConflictWithoutLevel : goal.returns-in-ConflictWithoutLevel
returns-in-ConflictWithoutLevel c = rw c.in-ConflictWithoutLevel.is

pub returns-in-Forced : goal.returns-in-Forced
returns-in-Forced c =
    let k = c.in-Forced in
    rw k.is (ap₂ (λ (v b : ℕ). 4 ∷ k.row ∷ v ∷ b ∷ []) (from_one k.variable) (byte-digit k.value))

pub returns-in-Chosen : goal.returns-in-Chosen
returns-in-Chosen c =
    rw c.in-Chosen.is (ap (λ (v : ℕ). 5 ∷ 0 ∷ v ∷ 1 ∷ []) (from_one c.in-Chosen.variable))
