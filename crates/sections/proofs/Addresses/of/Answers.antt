-- `Addresses::of` meets its contract: bytes bound the products.
use mathlib.Core.Path.{ap, ◌∙◌}
use Prim.Native.Nat.{◌≤◌}
use native.Mathlib.Omega.{arith}
use Rattle.dimensions.specs.Sizes.{row_count}
use Rattle.sections.specs.Addressing.{addresses_of}
use Rattle.sections.proofs.Bounds.{products}
use Rattle.sections.proofs.Addresses.of.Goals as goal

pub layout-requires : goal.layout-requires
layout-requires c =
    let d = c.args.d in
    let n : d.n ≤ 255 = omega arith in
    let m : row_count d ≤ 765 = omega arith in
    let p = products d.n (row_count d) c.digits_for.result n m c.digits_for.ensures.upper_bound in
    (n, m, c.digits_for.ensures.upper_bound, p.0, p.1, p.2)

pub returns : goal.returns
returns c =
    let d = c.args.d in
    c.layout.ensures ∙ ap (addresses_of d.n (row_count d)) c.digits_for.ensures.value
