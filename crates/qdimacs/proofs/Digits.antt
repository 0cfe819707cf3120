-- Turns in a word: what is put in is read out again, and a turn after others is a digit of the next unit.
use mathlib.Core.Path.{◌≡◌, refl, ap, ap₂, ◌∙◌}
use mathlib.Core.Bool.{Bool, true, false, ◌&&◌}
use mathlib.Core.List.{List, [], ◌∷◌, ◌++◌}
use Prim.Native.Nat.{ℕ, suc, ◌+◌, ◌*◌, ◌/◌, ◌%◌, ◌^◌, ◌<◌}
use native.Mathlib.Nat.{mul_left_comm}
use native.Mathlib.Omega.{arith}
use lib.Dec.{ltb}
use lib.ListN.{length}
use lib.Pow.{pow_pos, pow-add}
use borrow.Author.Tests.{eq-eqb, ne_eqb, ltb-true}
use Rattle.words.proofs.Truth.{and_l, and_r}
use Rattle.qdimacs.specs.Text.{GameTurn}
use Rattle.qdimacs.specs.TurnsInWords.{turn_digit, turns_word, turn_in, turns_in}

-- each variable's bit is below 16
abbrev pub all_small : List GameTurn → Bool
all_small [] = true
all_small (k ∷ ks) = ltb k.variable 16 && all_small ks

-- ---- out again

first_out : (u : Bool) (v w : ℕ) → v < 16 → turn_in (turn_digit u v + 32 * w) ≡ record { variable = v; universal = u }
first_out true v w h =
    ap₂ (λ (x : ℕ) (b : Bool). record { variable = x; universal = b })
    (let e : (1 + 2 * v + 32 * w) / 2 % 16 ≡ v = omega arith in e)
    (eq-eqb ((1 + 2 * v + 32 * w) % 2) 1 (omega arith))
first_out false v w h =
    ap₂ (λ (x : ℕ) (b : Bool). record { variable = x; universal = b })
    (let e : (0 + 2 * v + 32 * w) / 2 % 16 ≡ v = omega arith in e)
    (ne_eqb ((0 + 2 * v + 32 * w) % 2) 1 (λ q. omega arith))

rest_out : (u : Bool) (v w : ℕ) → v < 16 → (turn_digit u v + 32 * w) / 32 ≡ w
rest_out true v w h = omega arith
rest_out false v w h = omega arith

-- turns of variables below 16 are read out of their word
pub turns-out : (ks : List GameTurn) → all_small ks ≡ true → turns_in (turns_word ks) (length ks) ≡ ks
unfolding turns_word turns_in
turns-out [] e = refl
turns-out (k ∷ ks) e =
    let v : k.variable < 16 = ltb-true k.variable 16 (and_l (ltb k.variable 16) (all_small ks) e) in
    ap₂ (λ (x : GameTurn) (xs : List GameTurn). x ∷ xs)
    (first_out k.universal k.variable (turns_word ks) v)
    (ap (λ (w : ℕ). turns_in w (length ks)) (rest_out k.universal k.variable (turns_word ks) v)
    ∙ turns-out ks (and_r (ltb k.variable 16) (all_small ks) e))

-- ---- units

-- the unit of the next digit
pub unit-more : (k : ℕ) → 2 ^ (5 * suc k) ≡ 32 * 2 ^ (5 * k)
unit-more k = let e : 5 * suc k ≡ 5 + 5 * k = omega arith in ap (λ (x : ℕ). 2 ^ x) e ∙ pow-add 2 5 (5 * k)

pub digit-small : (u : Bool) (v : ℕ) → v < 16 → turn_digit u v < 32
digit-small true v h = omega arith
digit-small false v h = omega arith

-- a word of turns is below its next unit
pub turns-lt : (ks : List GameTurn) → all_small ks ≡ true → turns_word ks < 2 ^ (5 * length ks)
unfolding turns_word
turns-lt [] e = pow_pos (5 * 0)
turns-lt (k ∷ ks) e =
    let v : k.variable < 16 = ltb-true k.variable 16 (and_l (ltb k.variable 16) (all_small ks) e) in
    omega (arith, unit-more (length ks), digit-small k.universal k.variable v, turns-lt ks (and_r (ltb k.variable 16) (all_small ks) e))

-- a turn after others
pub turns_more : (ks : List GameTurn) (t : GameTurn)
    → turns_word (ks ++ t ∷ []) ≡ turns_word ks + turn_digit t.universal t.variable * 2 ^ (5 * length ks)
unfolding turns_word
turns_more [] t = omega arith
turns_more (k ∷ ks) t =
    let d : ℕ = turn_digit t.universal t.variable in
    let x : ℕ = 2 ^ (5 * length ks) in
    let p : d * 2 ^ (5 * suc (length ks)) ≡ 32 * (d * x) = ap (λ (y : ℕ). d * y) (unit-more (length ks)) ∙ mul_left_comm d 32 x in
    go (turn_digit k.universal k.variable) (turns_word ks) (turns_word (ks ++ t ∷ [])) (d * x) (d * 2 ^ (5 * suc (length ks))) (turns_more ks t) p
  where
    go : (c w w' y z : ℕ) → w' ≡ w + y → z ≡ 32 * y → c + 32 * w' ≡ c + 32 * w + z
    go c w w' y z e p = omega arith
