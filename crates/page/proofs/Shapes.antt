-- Pilots times watches: a factor of n is at most n, so numbers above 32 are refused before they are multiplied; and the checks on shape and
-- size, by their order.
use mathlib.Core.Path.{◌≡◌, ◌∙◌}
use mathlib.Core.Bool.{not}
use Prim.Native.Nat.{ℕ, zero, suc, ◌*◌, ◌≤◌, ◌<◌}
use native.Mathlib.Nat.{mul-zero, mul-suc, mul_comm, mul-le-mul}
use native.Mathlib.Omega.{arith}
use lib.Dec.{eqb, ltb}
use borrow.Author.Tests.{eqb-true, eq-eqb, ne_eqb, lt-ltb, le-ltb, ltb-false, not-false}
use Rattle.std.specs.Prelude.{Ok, Err}
use Rattle.refusals.specs.Checks.{outcome}
use Rattle.refusals.specs.declared.Refusal.TheVariants.{WatchCount, PageBuffer}
use Rattle.refusals.proofs.Outcomes.{check_passed, checks-taken}
use Rattle.page.specs.Entries.{shape_checks}

-- a factor of n is at most n
factor : (p s n : ℕ) → 1 ≤ n → p * s ≡ n → p ≤ n
factor p zero n h e = absurd (omega (arith, mul-zero p))
factor p (suc s) n h e = omega (arith, mul-suc p s)

-- the product of two numbers that are not above 32
pub small_product : (a b : ℕ) → a ≤ 32 → b ≤ 32 → a * b ≤ 1024
small_product a b h k = mul-le-mul h k

module _ (n p s size : ℕ) where
  pub refuse_product : (p * s ≡ n → ⊥) → Err WatchCount ≡ outcome (shape_checks n p s size)
  refuse_product h = rw (ne_eqb (p * s) n h)

  module _ (low : 1 ≤ n) (most : n ≤ 32) where
    pub refuse_pilots : 32 < p → Err WatchCount ≡ outcome (shape_checks n p s size)
    refuse_pilots h = refuse_product (λ e. omega (arith, factor p s n low e))

    pub refuse_watches : 32 < s → Err WatchCount ≡ outcome (shape_checks n p s size)
    refuse_watches h = refuse_product (λ e. omega (arith, factor s p n low (mul_comm s p ∙ e)))

  module _ (product : p * s ≡ n) where
    pub refuse_size : size < 80 * p → Err PageBuffer ≡ outcome (shape_checks n p s size)
    refuse_size h = rw (eq-eqb (p * s) n product, lt-ltb size (80 * p) h)

    pub take_shape : 80 * p ≤ size → Ok tt ≡ outcome (shape_checks n p s size)
    take_shape h = rw (eq-eqb (p * s) n product, le-ltb size (80 * p) h)

-- what a shape that is taken has
pub record Shape (n p s size : ℕ) : Type 0 where
  pub product : p * s ≡ n
  pub pilots_most : p ≤ 32
  pub watches_least : 0 < s
  pub watches_most : s ≤ 32
  pub fits : 80 * p ≤ size

-- numbers that pass the checks have n for their product, and the page has room for a line a pilot
pub shape_taken : (n p s size : ℕ) → 1 ≤ n → n ≤ 32 → outcome (shape_checks n p s size) ≡ Ok tt → Shape n p s size
shape_taken n p s size low most e =
    let product : p * s ≡ n = eqb-true (p * s) n (not-false (eqb (p * s) n) (check_passed (not (eqb (p * s) n)) WatchCount _ e)) in
    let long = check_passed (ltb size (80 * p)) PageBuffer (Ok tt) (checks-taken (not (eqb (p * s) n)) WatchCount _ e) in
    let a = factor p s n low product in
    let b = factor s p n low (mul_comm s p ∙ product) in
    record {
      product = product;
      pilots_most = omega arith;
      watches_least = some s product;
      watches_most = omega arith;
      fits = ltb-false size (80 * p) long;
    }
  where
    some : (s : ℕ) → p * s ≡ n → 0 < s
    some zero d = absurd (omega (arith, mul-zero p))
    some (suc s) d = omega arith
