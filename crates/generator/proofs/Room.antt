-- The gate words have room for each section, and what the cells' functions ask holds of its numbers: every slot is a sum over addresses, and these are small.
use mathlib.Core.Path.{◌≡◌, refl, sym, subst}
use Prim.Native.Nat.{ℕ, ◌+◌, ◌*◌, ◌-◌, ◌≤◌, ◌<◌}
use native.Mathlib.Nat.{mul-le-mul}
use native.Mathlib.Omega.{arith}
use lib.ListN.{length}
use Rattle.dimensions.specs.declared.Dimensions.{Dimensions}
use Rattle.dimensions.specs.Sizes.{row_count, ceiling}
use Rattle.dimensions.proofs.Limits.{Within}
use Rattle.sections.specs.declared.Addresses.{Addresses}
use Rattle.sections.specs.declared.Section.{Section}
use Rattle.sections.specs.Cells.{all_size}
use Rattle.sections.specs.Addressing.{digits_for, addresses_on, Small}
use Rattle.sections.specs.Sections as Sections
use Rattle.sections.specs.Sections.{section_at}
use Rattle.sections.proofs.DigitLaws.{power_few, thresholds-few, digits-few}
use Rattle.sections.proofs.Bounds.{small}
use Rattle.netlist.specs.Arrays.{Below}
use Rattle.netlist.specs.Netlist.{circuit, gates_for}
use Rattle.netlist.proofs.Counts.{circuit-length, gates_length}
use Rattle.generator.specs.Storing.{Fits}
use Rattle.generator.proofs.Chain.{size}
use Rattle.generator.proofs.Circuit.{Each, at_each}
use Rattle.generator.proofs.Order.{inside}

-- what is asked of a section's counts, slots and steps
abbrev Asked : Section → Type 0
Asked s =
    ((s.template + s.size ≤ all_size) × (s.size ≤ 16)) × ((s.zeros ≤ 4) × (s.lanes ≤ 384) × (s.cells ≤ 384))
    × (Below 16777216 s.slots × Below 65536 s.outer × Below 65536 s.inner)

-- few variables, rows and lanes of the tree
abbrev Few : Addresses → Type 0
Few a = (a.n ≤ 32) × (a.m ≤ 384) × (a.pairs ≤ 384) × (a.nodes ≤ 384) × (a.block ≤ 3104)

module _ (a : Addresses) (sums : Small a) (few : Few a) where
  digit_fits : (d : ℕ) → d < a.b → Asked (Sections.digit a d)
  digit_fits d h = omega (arith, power_few d (omega arith), thresholds-few a.n a.m sums.0 sums.1 d, digits-few a.n a.m sums.0 sums.1 d)

  key_fits : (d : ℕ) → d < a.b → Asked (Sections.key_digit a d)
  key_fits d h = omega (arith, thresholds-few a.n a.m sums.0 sums.1 d, digits-few a.n a.m sums.0 sums.1 d)

  split_fits : (d : ℕ) → d < a.b → Asked (Sections.split a d)
  split_fits d h = omega (arith, power_few d (omega arith))

  level_fits : (l : ℕ) → l < a.n → Asked (Sections.next_level a l)
  level_fits l h =
      let below : l ≤ 32 = omega arith in
      omega (arith, mul-le-mul few.0 below)

  each-asked : Each a Asked
  each-asked = record {
    in_judged = (omega arith, (omega arith, (omega arith, (omega arith, tt))));
    in_digits = digit_fits;
    in_signed = (omega arith, tt);
    in_keys = key_fits;
    in_chosen = (omega arith, (omega arith, (omega arith, (omega arith, (omega arith, (omega arith, (omega arith, (omega arith, tt))))))));
    in_splits = split_fits;
    in_held = (omega (arith, power_few a.b (omega arith)), (omega arith, (omega arith, (omega arith, tt))));
    in_changed = (omega arith, (omega arith, (omega arith, (omega arith, (omega arith, (omega arith, (omega arith, (omega arith, tt))))))));
    in_levels = level_fits;
    in_last = omega arith;
    in_none = omega arith;
  }

-- ---- dimensions that are taken

-- the ceiling
pub ceiling-small : (d : Dimensions) → Within d → ceiling d ≤ 880704
ceiling-small d w = omega (arith, mul-le-mul w.n-most w.rows-most, mul-le-mul w.n-most w.n-most)

module _ (d : Dimensions) (w : Within d) where
  -- no more gates than it
  pub gates_few : length (circuit (addresses_on d)) ≤ ceiling d
  unfolding gates_for
  gates_few = gates_length d.n (row_count d) w.n_least (omega (arith, w.left_least))

  -- the inputs come before all other wires, and these are few
  pub wires_few : (a : Addresses) → a ≡ addresses_on d → (a.inputs ≤ a.wires) × (a.wires ≤ 1048576) × (a.wires - a.inputs ≤ ceiling d)
  wires_few a e =
      let p : d.n * row_count d ≤ 12288 = mul-le-mul w.n-most w.rows-most in
      let q : d.n * d.n ≤ 1024 = mul-le-mul w.n-most w.n-most in
      let i : (addresses_on d).inputs ≤ 27747 = omega (arith, w.n-most) in
      let c = circuit-length d.n (row_count d) (digits_for d.n) in
      subst (λ (x : Addresses). (x.inputs ≤ x.wires) × (x.wires ≤ 1048576) × (x.wires - x.inputs ≤ ceiling d)) (sym e)
      (omega (arith, c, gates_few, ceiling-small d w))

  few-enough : Few (addresses_on d)
  few-enough =
      let wide : 1 + 3 * d.n ≤ 97 = omega (arith, w.n-most) in
      omega (arith, w.n-most, w.rows-most, mul-le-mul wide w.n-most)

  pub fits : (len : ℕ) → 3 * ceiling d ≤ len → (i : ℕ) → i ≡ (addresses_on d).inputs → (k : ℕ) → k < 41 + d.n
      → (s : Section) → s ≡ section_at (addresses_on d) k → Fits i s len
  unfolding size
  fits len h i ei k l s es =
      let a = addresses_on d in
      let e = small d.n (row_count d) (omega (arith, w.n-most)) (omega (arith, w.rows-most)) a refl in
      let t = section_at a k in
      let f = at_each a Asked (each-asked a e few-enough) k in
      let p = inside d.n (row_count d) (digits_for d.n) e.2 k l in
      let c = wires_few a refl in
      let room : 3 * (t.base - a.inputs) + 3 * ((t.zeros + t.size * t.cells) * t.lanes) ≤ len = omega (arith, p, c, h) in
      let high : t.base ≤ 1048576 = omega (arith, p, c) in
      subst (λ (x : ℕ). Fits x s len) (sym ei) (subst (λ (x : Section). Fits a.inputs x len) (sym es)
      (record { named = f.0; counts = f.1; begins = (p.0, high); below = f.2; room = room }))
