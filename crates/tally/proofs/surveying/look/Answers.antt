-- `look` meets its contract: before variable v, what is seen is what the variables below v show.
use native.Mathlib.Omega.{arith}
use Rattle.tally.proofs.SeenLaws.{seen_none, seen_next, seen_all}
use Rattle.tally.proofs.surveying.look.Goals as goal

pub loop-v-init : goal.loop-v-init
loop-v-init c = let x = c.args in seen_none x.index.now x.t x.f x.w

pub loop-v-preserved : goal.loop-v-preserved
loop-v-preserved c =
    let x = c.args in
    seen_next x.index.now x.t x.f x.w _ _ _ _ _ c.loop-v.invariant c.bit.ensures c.bit-in-loop-v.ensures c.with_variable-seen.ensures

pub returns : goal.returns
returns c =
    let l = c.loop-v in
    let x = c.args in
    seen_all x.index.now x.t x.f x.w l.v _ (omega arith) c.loop-v-test.false l.invariant
