-- `survey_rows` meets its contract: the pairs of words are the rows in their order, and each turn's survey adds its row.
use Rattle.std.proofs.Common.{◌≡◌, ◌+◌, ◌/◌, get_or, [], length, refl, true, arith}
use Rattle.words.specs.declared.Row.{Row}
use Rattle.tables.specs.Rows.{row_at}
use Rattle.scan.specs.declared.Survey.{Survey}
use Rattle.scan.specs.Rules.{rows_of_words}
use Rattle.scan.proofs.Fronts.{row-of_pair}
use Rattle.scan.proofs.SurveyLaws.{after-satisfied, after_conflict, after_open, same_start, same_next, same_end, same-closed, closed_adds}
use Rattle.scan.proofs.survey_rows.Goals as goal
use Rattle.scan.proofs.survey_rows.Goals.{After-judge-judged}

-- the turn's pair as a row
abbrev row : After-judge-judged → Row
row c =
    let pair = get_or c.as_chunks.result.0.now c.loop-positive.positive-index [] in
    record { positive = get_or pair 0 0; negative = get_or pair 1 0 }

row-is : (c : After-judge-judged) → row c ≡ row_at c.args.rows.now c.loop-positive.positive-index
row-is c =
    rw c.as_chunks.ensures.front (row-of_pair c.args.rows.now (length c.args.rows.now / 2) c.loop-positive.positive-index (omega arith))

pub returns-then-s : goal.returns-then-s
returns-then-s c = let a = c.args in closed_adds a.t a.f (rows_of_words a.rows.now) a.s c.if-s.true

pub loop-positive-init : goal.loop-positive-init
loop-positive-init c = let a = c.args in same_start a.t a.f a.rows.now _ a.s

pub loop-positive-preserved-then-satisfied : goal.loop-positive-preserved-then-satisfied
loop-positive-preserved-then-satisfied c =
    let j = c.judge-judged in
    let l = c.loop-positive in
    let a = c.args in
    let seen = (goal.at.loop-positive-preserved-then-satisfied c).After-judge-judged in
    same_next a.t a.f a.rows.now _ a.s _ l.found l.invariant (row seen) (row-is seen) l.found (omega arith)
    (λ rest. after-satisfied a.t a.f (row seen) j.result j.ensures l.found rest c.if-satisfied.true)

pub returns-then-variables-eq0 : goal.returns-then-variables-eq0
returns-then-variables-eq0 c =
    let j = c.judge-judged in
    let l = c.loop-positive in
    let a = c.args in
    let seen = (goal.at.returns-then-variables-eq0 c).After-judge-judged in
    let found : Survey = record { conflict = true; forced = l.found.forced; positive = l.found.positive; free = l.found.free } in
    same-closed a.t a.f a.rows.now _ a.s (l.positive-index + 1) found
    (same_next a.t a.f a.rows.now _ a.s _ l.found l.invariant (row seen) (row-is seen) found (omega arith)
    (λ rest. after_conflict a.t a.f (row seen) j.result j.ensures l.found rest c.if-satisfied.false c.if-variables-eq0.true))
    refl

pub loop-positive-preserved : goal.loop-positive-preserved
loop-positive-preserved c =
    let j = c.judge-judged in
    let l = c.loop-positive in
    let a = c.args in
    let seen = (goal.at.loop-positive-preserved c).After-judge-judged in
    same_next a.t a.f a.rows.now _ a.s _ l.found l.invariant (row seen) (row-is seen) c.survey_row-found.result (omega arith)
    (λ rest. rw c.survey_row-found.ensures
    (after_open a.t a.f (row seen) j.result j.ensures l.found rest c.if-satisfied.false c.if-variables-eq0.false))

pub returns : goal.returns
returns c =
    let l = c.loop-positive in
    let a = c.args in
    same_end a.t a.f a.rows.now _ a.s _ l.found l.invariant (omega arith)
