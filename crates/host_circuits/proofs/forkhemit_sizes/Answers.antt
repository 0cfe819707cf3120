-- `forkhemit_sizes` meets its contract: the sizes are those of the numbers as bytes, written where these are within the limits; three times the ceiling is no
-- overflow.
use mathlib.Core.Path.{sym, ap, ◌∙◌}
use mathlib.Core.List.{[], ◌∷◌}
use Prim.Native.Nat.{◌*◌}
use native.Mathlib.Omega.{arith}
use Rattle.refusals.specs.Numbers.{code_of}
use Rattle.dimensions.specs.declared.Dimensions.{Dimensions}
use Rattle.codes.specs.Codes.{host_dimensions}
use Rattle.host_circuits.specs.Circuits.{sizes_given}
use Rattle.host_circuits.proofs.Sizes.{sizes-refused, sizes-taken, ceiling-low}
use Rattle.host_circuits.proofs.forkhemit_sizes.Goals as goal

pub returns-in-Err : goal.returns-in-Err
returns-in-Err c =
    let is = sym c.in-Err.is ∙ rw c.dimensions-d.ensures at c.check.ensures.value in
    let a = c.args in record {
      value = c.from.ensures ∙ ap code_of is;
      sizes_after = sizes-refused (host_dimensions a.n a.left_rows a.right_rows a.public_rows) _ (sym is) a.sizes.now;
    }

pub overflow_mul-words : goal.overflow_mul-words
overflow_mul-words c =
    let a = c.args in
    let k = rw c.dimensions-d.ensures at c.ceiling-ceiling.ensures in
    record { fits = omega (arith, k, ceiling-low a.n a.left_rows a.right_rows a.public_rows) }

pub returns : goal.returns
returns c =
    let lent = c.args.sizes.now in
    let k = c.ceiling-ceiling.ensures in
    let is = sym c.in_default.is ∙ c.check.ensures.value in record {
      value = ap code_of (rw c.dimensions-d.ensures at is);
      sizes_after = (λ i. k i ∷ (3 * k i ∷ (c.input_wires.ensures i ∷ (c.state_wires.ensures i ∷ []))))
          ∙ sizes-taken c.dimensions-d.result lent (sym is) ∙ ap (λ (d : Dimensions). sizes_given d lent) c.dimensions-d.ensures;
    }
