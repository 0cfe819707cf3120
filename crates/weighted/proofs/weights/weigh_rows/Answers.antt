-- `weigh_rows` meets its contract: the pairs of words are the rows in their order, and each turn adds what its row weighs.
use mathlib.Core.Path.{◌≡◌, sym, ap, ◌∙◌}
use Prim.Native.Nat.{◌/◌}
use lib.ListN.{length}
use native.Mathlib.Omega.{arith}
use borrow.Author.Tests.{not-true, not-false}
use Rattle.words.specs.declared.Row.{Row}
use Rattle.tables.specs.Rows.{row_at, judged}
use Rattle.scan.proofs.Fronts.{row-of_pair}
use Rattle.weighted.proofs.Weighing.{weighing-start, weighing-same, weighing-next, weighing_end, share-satisfied, literals-small, raised-share}
use Rattle.weighted.proofs.Weighing.{rest_all, rest-none, rest-first}
use Rattle.weighted.proofs.weights.weigh_rows.Goals as goal
use Rattle.weighted.proofs.weights.weigh_rows.Goals.{After-judge-judged, then-not-judged, else-not-judged}

-- the turn's row is judged
told : (c : After-judge-judged) → let a = c.args in c.judge-judged.result ≡ judged 32 (row_at a.rows.now c.loop-positive.positive-index) a.t a.f
told c =
    let a = c.args in
    c.judge-judged.ensures
    ∙ ap (λ (r : Row). judged 32 r a.t a.f)
    (rw c.as_chunks.ensures.front (row-of_pair a.rows.now (length a.rows.now / 2) c.loop-positive.positive-index (omega arith)))

pub loop-positive-init : goal.loop-positive-init
loop-positive-init c =
    let a = c.args in
    weighing-same _ _ _ _ (weighing-start _ _) _ (λ j. sym (rest_all a.t a.f a.rows.now (length a.rows.now / 2) j))

pub power-requires : goal.power-requires
power-requires c =
    let a = c.args in
    literals-small a.t a.f (row_at a.rows.now c.loop-positive.positive-index) c.judge-judged.result (told (goal.at.power-requires c).After-judge-judged)
    (not-true _ c.if-not-judged.true)

pub loop-positive-preserved : goal.loop-positive-preserved
loop-positive-preserved c =
    let j = c.judge-judged in
    let l = c.loop-positive in
    let a = c.args in
    let i = l.positive-index in
    let is = told (goal.at.loop-positive-preserved c).After-judge-judged in
    elim c.if-not-judged.branch [
      | then-not-judged w ↦
          rw w.weights-is (weighing-next _ _ _ _ l.invariant _ _ (rest-first a.t a.f a.rows.now (length a.rows.now / 2) i (omega arith)) _
          (λ k h small. raised-share a.t a.f (row_at a.rows.now i) j.result is (not-true _ w.if-not-judged.true) l.weights _ k h small
          (rw (sym w.power.ensures) w.raise.ensures)))
      | else-not-judged w ↦
          rw w.weights-is (weighing-same _ _ _ _ l.invariant _
          (λ v. omega (
            arith,
            rest-first a.t a.f a.rows.now (length a.rows.now / 2) i (omega arith) v,
            share-satisfied a.t a.f (row_at a.rows.now i) j.result is (not-false _ w.if-not-judged.false) v,
          )))
    ]

pub returns : goal.returns
returns c =
    let l = c.loop-positive in
    let a = c.args in
    weighing_end _ _ _ _ l.invariant (rest-none a.t a.f a.rows.now _ l.positive-index (omega arith))
