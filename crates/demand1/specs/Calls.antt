-- What a call does, as its contract says it, in one form for every function that hosts call.
use Rattle.std.specs.Prelude.{ℕ, cond, List, [], ◌∷◌, ◌++◌, map}
use Rattle.refusals.specs.Checks.{Check}
use Rattle.refusals.specs.Numbers.{number_of}

-- one call: its contract's right-hand sides, and the checks by which documents 01 and 02 judge it, in their order
pub record Effect : Type 0 where
  -- the number returned
  pub returned : ℕ
  -- the checks
  pub judged : List Check
  -- the buffers lent to be written, as they were: those with a length, then the arrays
  pub lent : List (List ℕ)
  -- the same buffers after the call
  pub left : List (List ℕ)

-- the number of the first check that applies; 0 where none does
unfoldable pub first_number : List Check → ℕ
first_number [] = 0
first_number (c ∷ cs) = cond c.fails (number_of c.refusal) (first_number cs)

-- the numbers of checks, in their order
abbrev pub numbers_of : List Check → List ℕ
numbers_of cs = map (λ (c : Check). number_of c.refusal) cs

-- buffers with what follows their fronts; those at the end that nothing follows are given whole
unfoldable pub beside : List (List ℕ) → List (List ℕ) → List (List ℕ)
beside xs [] = xs
beside [] (r ∷ rs) = []
beside (x ∷ xs) (r ∷ rs) = (x ++ r) ∷ beside xs rs
