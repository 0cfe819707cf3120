-- `sections` meets its contract: each turn writes one more section after those before.
use mathlib.Core.Path.{◌≡◌, refl, ap}
use Prim.Native.Nat.{◌+◌, ◌*◌, ◌≤◌, ◌<◌}
use native.Mathlib.Omega.{arith}
use lib.ListN.{length}
use lib.Seq.{length-sets}
use Rattle.dimensions.specs.Sizes.{row_count, ceiling}
use Rattle.dimensions.proofs.Limits.{within}
use Rattle.gates.specs.Memory.{words_of}
use Rattle.sections.specs.Addressing.{digits_for}
use Rattle.sections.proofs.DigitLaws.{digits-most}
use Rattle.generator.proofs.Order.{section_more}
use Rattle.generator.proofs.Room.{fits}
use Rattle.generator.proofs.sections.Goals as goal

pub loop-k-init : goal.loop-k-init
unfolding words_of
loop-k-init c = refl

pub section-requires-clause-fits : goal.section-requires-clause-fits
section-requires-clause-fits c =
    let d = c.args.d in
    let kept : length c.loop-k.words ≡ length c.args.words.now = simp length-sets at (ap length c.loop-k.invariant) in
    let room : 3 * ceiling d ≤ length c.loop-k.words = omega (arith, c.requires.d_value.1) in
    let below : c.loop-k.k < 41 + d.n = omega (arith, c.loop-k-test.true, c.requires.inputs_value.1) in
    fits d (within d c.requires.d_value.0) (length c.loop-k.words) room c.args.inputs c.requires.inputs_value.0 c.loop-k.k below _ c.at-s.ensures

pub loop-k-preserved : goal.loop-k-preserved
loop-k-preserved c =
    let d = c.args.d in
    section_more d.n (row_count d) (digits_for d.n) (digits-most d.n) c.loop-k.k (omega (arith, c.loop-k-test.true, c.requires.inputs_value.1)) c.args.inputs
    c.requires.inputs_value.0 _ c.at-s.ensures c.args.words.now c.loop-k.words _ c.loop-k.invariant c.section.ensures
