-- A host's numbers as bytes: what the checks on them take is the numbers themselves, and what they refuse they refuse of the numbers too.
use mathlib.Core.Path.{◌≡◌, sym, ap, ◌∙◌}
use mathlib.Core.Bool.{Bool, true, false, or-true}
use Prim.Native.Nat.{ℕ, ◌≤◌, ◌<◌}
use native.Mathlib.Omega.{arith}
use lib.Dec.{ltb}
use borrow.Author.Tests.{ltb-true, ltb-false, lt-ltb}
use Rattle.std.specs.Prelude.{Ok, Err}
use Rattle.words.proofs.Truth.{on}
use Rattle.refusals.specs.Checks.{outcome}
use Rattle.refusals.specs.declared.Refusal.TheVariants.{Variables}
use Rattle.refusals.proofs.Outcomes.{check_passed}
use Rattle.dimensions.specs.Sizes.{outside, dimensions, size_checks}
use Rattle.dimensions.proofs.Limits.{most, within}
use Rattle.codes.specs.Codes.{as_byte, host_dimensions, variable_checks}

-- ---- the check on n

pub variables_refused : (n : ℕ) → outside 32 n ≡ true → Err Variables ≡ outcome (variable_checks n)
variables_refused n h = rw h

pub variables_taken : (n : ℕ) → outside 32 n ≡ false → Ok tt ≡ outcome (variable_checks n)
variables_taken n h = rw h

-- an n that its check takes is at most 32
pub taken-low : (n : ℕ) → outcome (variable_checks n) ≡ Ok tt → n ≤ 32
taken-low n e = most 32 n (check_passed (outside 32 n) Variables (Ok tt) e)

-- ---- a number as a byte

low_byte : (k : ℕ) → k ≤ 255 → as_byte k ≡ k
low_byte k h = omega arith

-- a test that is true of every number from 255 on says the same of the byte as of the number
high-alike : (test : ℕ → Bool) → ((k : ℕ) → 255 ≤ k → test k ≡ true) → (k : ℕ) → test (as_byte k) ≡ test k
high-alike test high k =
    on (ltb 255 k)
    (λ e. let h = ltb-true 255 k e in high (as_byte k) (omega (arith, h)) ∙ sym (high k (omega (arith, h))))
    (λ e. ap test (low_byte k (ltb-false 255 k e)))

outside-alike : (limit k : ℕ) → limit < 255 → outside limit (as_byte k) ≡ outside limit k
outside-alike limit k h = high-alike (outside limit) (λ x b. rw (lt-ltb limit x (omega arith)) (or-true (ltb x 1))) k

above_alike : (limit k : ℕ) → limit < 255 → ltb limit (as_byte k) ≡ ltb limit k
above_alike limit k h = high-alike (ltb limit) (λ x b. lt-ltb limit x (omega arith)) k

-- ---- n

-- its check comes to the same on its byte
pub variables_alike : (n : ℕ) → outcome (variable_checks (as_byte n)) ≡ outcome (variable_checks n)
variables_alike n = rw (outside-alike 32 n (omega arith))

-- an n that its check takes is its byte
pub variables_same : (n : ℕ) → outcome (variable_checks n) ≡ Ok tt → as_byte n ≡ n
variables_same n e = low_byte n (omega (arith, taken-low n e))

-- ---- four numbers

module _ (n left right public : ℕ) where
  -- the checks on the sizes come to the same on their bytes
  pub sizes-alike : outcome (size_checks (host_dimensions n left right public)) ≡ outcome (size_checks (dimensions n left right public))
  sizes-alike =
      rw (
        outside-alike 32 n (omega arith),
        outside-alike 128 left (omega arith),
        outside-alike 128 right (omega arith),
        above_alike 128 public (omega arith),
      )

  -- numbers that these checks take are their bytes
  pub sizes-same : outcome (size_checks (dimensions n left right public)) ≡ Ok tt → host_dimensions n left right public ≡ dimensions n left right public
  sizes-same e =
      let w = within (dimensions n left right public) e in
      λ i. record {
        n = low_byte n (omega (arith, w.n-most)) i;
        left = low_byte left (omega (arith, w.left-most)) i;
        right = low_byte right (omega (arith, w.right_most)) i;
        public = low_byte public (omega (arith, w.public_most)) i;
      }
