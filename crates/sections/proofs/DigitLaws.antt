-- How many digits a variable's number has, and bounds on what the digits take: each by the powers of two up to 32.
use mathlib.Core.Path.{◌≡◌}
use mathlib.Core.Bool.{Bool, true, false}
use Prim.Native.Nat.{ℕ, zero, suc, ◌+◌, ◌*◌, ◌-◌, ◌^◌, ◌≤◌, ◌<◌}
use native.Mathlib.Nat.{mul-le-mul, div-le_self, div-mul-le_self}
use native.Mathlib.Omega.{arith}
use lib.Dec.{leb}
use lib.Pow.{pow_mono}
use borrow.Author.Tests.{le-leb, lt-leb}
use Rattle.words.specs.Sets.{lowest}
use Rattle.words.proofs.Truth.{on}
use Rattle.sections.specs.Addressing.{digits_for, thresholds, digits_to}

-- ---- how many digits

-- what passes with none below it is the lowest
lowest-at : (p : ℕ → Bool) (n i : ℕ) → i ≤ n → ((j : ℕ) → j < i → p j ≡ false) → (i < n → p i ≡ true) → i ≡ lowest p n
unfolding lowest
lowest-at p zero i h none hit = omega arith
lowest-at p (suc n) zero h none hit = rw (hit (omega arith), lowest)
lowest-at p (suc n) (suc i) h none hit =
    let e : i ≡ lowest (λ j. p (suc j)) n = lowest-at (λ j. p (suc j)) n i (omega arith) (λ j l. none (suc j) (omega arith)) (λ l. hit (omega arith)) in
    rw (none 0 (omega arith), lowest) (omega (arith, e))

lowest-most : (p : ℕ → Bool) (n : ℕ) → lowest p n ≤ n
unfolding lowest
lowest-most p zero = omega arith
lowest-most p (suc n) = on (p zero) (λ e. rw (e, lowest) (omega arith)) (λ e. rw (e, lowest) (omega (arith, lowest-most (λ j. p (suc j)) n)))

-- the least b with n ≤ 2^b, or 5
pub digits_are : (n b : ℕ) → b ≤ 5 → ((i : ℕ) → i < b → 2 ^ i < n) → (b < 5 → n ≤ 2 ^ b) → (b ≡ digits_for n) × (b ≤ 5)
digits_are n b h more most =
    (lowest-at (λ i. leb n (2 ^ i)) 5 b h (λ i l. lt-leb n (2 ^ i) (more i l)) (λ l. le-leb n (2 ^ b) (most l)), h)

-- a variable's number has at most five digits
pub digits-most : (n : ℕ) → digits_for n ≤ 5
digits-most n = lowest-most (λ i. leb n (2 ^ i)) 5

-- a greater n has every digit that half of a lesser one has
pub powers_below : (n b : ℕ) → 2 ^ b < n → (i : ℕ) → i < suc b → 2 ^ i < n
powers_below n b h i l = omega (arith, pow_mono {i = i} {j = b} (omega arith))

-- ---- thresholds

-- a power of two up to the fifth is at most 32
pub power_few : (d : ℕ) → d ≤ 5 → 2 ^ d ≤ 32
power_few d h = pow_mono {i = d} {j = 5} h

module _ (n m : ℕ) (hn : n ≤ 255) (hm : m ≤ 765) where
  -- for n of at most 255 the digit of weight 2^d has at most 255 thresholds, and its weight times their number is at most n
  pub thresholds-few : (d : ℕ) → (thresholds n d ≤ 255) × (2 ^ d * thresholds n d ≤ n)
  thresholds-few d = (omega (arith, div-le_self (n - 1) (2 ^ d)), omega (arith, div-mul-le_self (n - 1) (2 ^ d)))

  -- for at most 255 variables and at most 765 rows the digits below d have at most d times 195840 gates
  pub digits-few : (d : ℕ) → digits_to n m d ≤ d * 195840
  unfolding digits_to
  digits-few zero = omega arith
  digits-few (suc d) =
      let few : 1 + thresholds n d ≤ 256 = omega (arith, (thresholds-few d).0) in
      let gates : (1 + thresholds n d) * m ≤ 256 * 765 = mul-le-mul few hm in
      omega (arith, digits-few d, gates)
