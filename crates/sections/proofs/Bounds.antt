-- Sums over the addresses fit a word: each is a sum over n, m, their products and what the digits take, and bytes bound these.
use mathlib.Core.Path.{◌≡◌, refl, sym, subst}
use Prim.Native.Nat.{ℕ, ◌+◌, ◌*◌, ◌-◌, ◌/◌, ◌≤◌}
use native.Mathlib.Nat.{mul-le-mul}
use native.Mathlib.Omega.{arith}
use Rattle.sections.specs.declared.Addresses.{Addresses}
use Rattle.sections.specs.Cells as Cells
use Rattle.sections.specs.Addressing.{digits_for, digits_to, addresses_of, addresses, Small}
use Rattle.sections.proofs.DigitLaws.{digits-most, power_few, digits-few}

module _ (n m b : ℕ) (hn : n ≤ 255) (hm : m ≤ 765) (hb : b ≤ 5) where
  pub products : (n * m ≤ 195075) × (n * n ≤ 65025) × (m * b ≤ 3825)
  products = (mul-le-mul hn hm, mul-le-mul hn hn, mul-le-mul hm hb)

  -- so many lanes of the tree
  pub lanes_few : (k : ℕ) → k ≤ 765 → Cells.tree_lane b * k ≤ 49725
  lanes_few k h =
      let few : Cells.tree_lane b ≤ 65 = omega arith in
      mul-le-mul few h

  small_of : Small (addresses_of n m b)
  small_of =
      let p = products in
      let half : m / 2 ≤ 765 = omega arith in
      let rest : m - 1 - m / 2 ≤ 765 = omega arith in
      let skip : 2 * (m / 2) + 1 - m ≤ 1 = omega arith in
      let pairs : b * (m / 2) ≤ 3825 = mul-le-mul hb half in
      let nodes : b * (m - 1 - m / 2) ≤ 3825 = mul-le-mul hb rest in
      let skipped : b * (2 * (m / 2) + 1 - m) ≤ 5 = mul-le-mul hb skip in
      let digits : digits_to n m b ≤ 979200 = omega (arith, digits-few n m hn hm b) in
      let q = power_few b hb in
      omega (arith, lanes_few (m / 2) half, lanes_few (m - 1 - m / 2) rest)

module _ (n m : ℕ) (hn : n ≤ 255) (hm : m ≤ 765) where
  -- the addresses for at most 255 variables and at most 765 rows are so small that sums over them fit a word
  pub small : (a : Addresses) → a ≡ addresses n m → Small a
  small a e = subst Small (sym e) (small_of n m (digits_for n) hn hm (digits-most n))

  -- with the wires of the levels before level l
  pub small-before : (a : Addresses) → a ≡ addresses n m → (l : ℕ) → l ≤ n → Small a × (l ≤ 255) × (3 * a.n * l ≤ 195075)
  small-before a e l h =
      let few : l ≤ 255 = omega arith in
      let q : n * l ≤ 65025 = mul-le-mul hn few in
      subst (λ (x : Addresses). Small x × (l ≤ 255) × (3 * x.n * l ≤ 195075)) (sym e) (small (addresses n m) refl, few, omega arith)

  -- and of all levels
  pub small-behind : (a : Addresses) → a ≡ addresses n m → Small a × (3 * a.n * a.n ≤ 195075)
  small-behind a e =
      let q : n * n ≤ 65025 = mul-le-mul hn hn in
      subst (λ (x : Addresses). Small x × (3 * x.n * x.n ≤ 195075)) (sym e) (small (addresses n m) refl, omega arith)
