-- `store_wires` meets its contract: at each turn the first i of the bytes are at the front.
use Rattle.std.proofs.Common.{◌%◌, arith, sym, take}
use lib.ListN.{get_or-map}
use lib.Seq.{length-take-le}
use Rattle.evaluator.proofs.TrialBytes.{next-byte, stored-length}
use Rattle.evaluator.proofs.store_wires.Goals as goal

pub loop-i-preserved : goal.loop-i-preserved
loop-i-preserved c =
    let s = c.args in
    let front = take s.count s.scratch.now in
    let long = length-take-le s.count s.scratch.now c.requires.count_in_bounds in
    next-byte _ _ _ _ _ c.loop-i.invariant (sym (get_or-map (λ x. x % 2) front c.loop-i.i 0)) (omega (arith, long))
    (omega (arith, long, stored-length s.scratch.now s.count c.requires.count_in_bounds))
