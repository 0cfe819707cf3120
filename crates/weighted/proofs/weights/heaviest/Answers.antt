-- `heaviest` meets its contract: the weight of a turn is compared with the greatest before it.
use mathlib.Core.Path.{◌≡◌, refl, sym, ap, ◌∙◌}
use mathlib.Core.Bool.{Bool}
use mathlib.Core.List.{List}
use Prim.Native.Nat.{ℕ}
use native.Mathlib.Omega.{arith}
use lib.ListN.{get_or}
use lib.Ieee.{Float, nan, lt}
use Rattle.weighted.specs.Weights.{greatest}
use Rattle.weighted.proofs.Greatest.{greatest-next, greatest_stays}
use Rattle.weighted.proofs.weights.heaviest.Goals as goal
use Rattle.weighted.proofs.weights.heaviest.Goals.{then-weights-best, else-weights-best}

abbrev under : List Float → ℕ → ℕ → Bool
under ws i j = lt (get_or ws i nan) (get_or ws j nan)

pub loop-i-init : goal.loop-i-init
unfolding greatest
loop-i-init c = (omega arith, refl)

pub loop-i-preserved : goal.loop-i-preserved
loop-i-preserved c =
    let l = c.loop-i in
    let ws = c.args.weights in
    elim c.if-weights-best.branch [
      | then-weights-best w ↦
          (omega arith, w.best-is ∙ sym (greatest-next (under ws) l.i (rw (sym l.invariant.1) w.if-weights-best.true)))
      | else-weights-best w ↦
          (omega arith, w.best-is ∙ l.invariant.1 ∙ sym (greatest_stays (under ws) l.i (rw (sym l.invariant.1) w.if-weights-best.false)))
    ]

pub returns : goal.returns
returns c = let l = c.loop-i in let e : l.i ≡ 32 = omega arith in l.invariant.1 ∙ ap (greatest (under c.args.weights)) e
