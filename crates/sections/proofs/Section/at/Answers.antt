-- `Section::at` meets its contract: the tests are the definition's, and sums over the addresses fit.
use mathlib.Core.Path.{ap, ◌∙◌}
use Prim.Native.Nat.{◌-◌}
use native.Mathlib.Omega.{arith}
use lib.ListN.{get_or}
use Rattle.dimensions.specs.Sizes.{row_count}
use Rattle.sections.specs.declared.Addresses.{Addresses}
use Rattle.sections.specs.Addressing.{addresses_on}
use Rattle.sections.specs.Sections.{first, next_level, next_standing}
use Rattle.sections.proofs.Bounds.{small, small-before, small-behind}
use Rattle.sections.proofs.InOrder.{at_first, at_level, at_last}
use Rattle.sections.proofs.Section.at.Goals as goal

pub first-requires : goal.first-requires
first-requires c =
    let d = c.args.d in
    (small d.n (row_count d) (omega arith) (omega arith) _ c.of-a.ensures, c.if-k-lt40.true)

pub returns-then-k-lt40 : goal.returns-then-k-lt40
returns-then-k-lt40 c =
    let s = c.args in
    c.first.ensures ∙ ap (λ (a : Addresses). get_or (first a) s.k (next_standing a)) c.of-a.ensures
    ∙ at_first (addresses_on s.d) s.k c.if-k-lt40.true

pub next_level-requires : goal.next_level-requires
next_level-requires c =
    let s = c.args in
    small-before s.d.n (row_count s.d) (omega arith) (omega arith) _ c.of-a.ensures (s.k - 40) (omega arith)

pub next_standing-requires : goal.next_standing-requires
next_standing-requires c =
    let d = c.args.d in
    small-behind d.n (row_count d) (omega arith) (omega arith) _ c.of-a.ensures

pub returns-then-l-n : goal.returns-then-l-n
returns-then-l-n c =
    let s = c.args in
    c.next_level.ensures ∙ ap (λ (a : Addresses). next_level a (s.k - 40)) c.of-a.ensures
    ∙ at_level (addresses_on s.d) s.k c.if-k-lt40.false c.if-l-n.true

pub returns-else-l-n : goal.returns-else-l-n
returns-else-l-n c =
    let s = c.args in
    c.next_standing.ensures ∙ ap next_standing c.of-a.ensures
    ∙ at_last (addresses_on s.d) s.k c.if-k-lt40.false c.if-l-n.false
