-- `array` meets its contract: each turn writes one more lane after those before.
use Rattle.std.proofs.Common.{◌≡◌, ◌+◌, ◌*◌, ◌-◌, length, refl, ap, sym, arith}
use lib.ListN.{length-map}
use lib.Seq.{length-sets}
use Rattle.gates.specs.Memory.{words_of}
use Rattle.netlist.specs.Arrays.{array}
use Rattle.generator.specs.Storing.{gates_in}
use Rattle.generator.proofs.Placing.{lanes_more, turns}
use Rattle.generator.proofs.Steps.{along-below, below_more}
use Rattle.generator.proofs.cells.array.Goals as goal

pub loop-j-init : goal.loop-j-init
unfolding words_of array
loop-j-init c = refl

pub along-here-requires : goal.along-here-requires
along-here-requires c =
    let f = c.requires.fits in
    (below_more 16777216 41943040 c.args.s.slots f.below.0 (omega arith), f.below.1, omega (arith, f.counts.1))

pub lane-requires-clause-below : goal.lane-requires-clause-below
lane-requires-clause-below c =
    let s = c.args.s in
    let f = c.requires.fits in
    let here = along-below 16777216 65536 384 s.slots s.outer c.loop-j.j f.below.0 f.below.1 (omega (arith, f.counts.1)) in
    (rw c.along-here.ensures here, f.below.2)

pub lane-requires-clause-n_in_bounds : goal.lane-requires-clause-n_in_bounds
lane-requires-clause-n_in_bounds c =
    let s = c.args.s in
    let f = c.requires.fits in
    let step = s.zeros + s.size * s.cells in
    let kept : length c.loop-j.words ≡ length c.args.words.now = simp length-sets at (ap length c.loop-j.invariant) in
    let t = turns step s.lanes c.loop-j.j step s.lanes (omega arith) (omega arith) c.loop-j-test.true in
    rw c.requires.template_value.1 (omega (arith, f.room, f.begins, t))

pub loop-j-preserved : goal.loop-j-preserved
loop-j-preserved c =
    let s = c.args.s in
    let e = c.requires.template_value.1 in
    let n = length c.args.template.now in
    let at = s.base + (s.zeros + s.size * s.cells) * c.loop-j.j in
    let on : at ≡ s.base + (s.zeros + n * s.cells) * c.loop-j.j = rw e refl in
    let place : 3 * (at - c.args.inputs) ≡ 3 * (s.base - c.args.inputs) + 3 * ((s.zeros + n * s.cells) * c.loop-j.j) =
    omega (arith, on, c.requires.fits.begins) in
    lanes_more s.zeros (gates_in c.args.template.now) s.slots s.outer s.inner _ s.base at n s.cells c.loop-j.j _ _ _ _ (3 * (at - c.args.inputs))
    c.loop-j.invariant (sym (length-map c.args.template.now _)) place c.along-here.ensures on c.lane.ensures
