-- `check_lines` meets its contract. The loop's invariant: what is left gives what the whole gives.
use native.Mathlib.Omega.{arith}
use Rattle.lexer.proofs.Runs.{end_ge, end_le}
use Rattle.drat.proofs.Whole.{in_line, reading_start, reading_more, reading_end}
use Rattle.drat.proofs.check_lines.Goals as goal

pub loop-at-init : goal.loop-at-init
loop-at-init c =
    let a = c.args in
    reading_start a.n a.text.now a.count a.words.now c.requires.count_bound c.requires.in_bounds

pub slice_bounds-take_line-count : goal.slice_bounds-take_line-count
slice_bounds-take_line-count c =
    omega (arith, c.find-end.ensures, end_ge in_line c.args.text.now c.loop-at.at)

pub slice_bounds-take_line-start : goal.slice_bounds-take_line-start
slice_bounds-take_line-start c =
    omega (arith, c.find-end.ensures, end_ge in_line c.args.text.now c.loop-at.at)

pub slice_bounds-take_line-end : goal.slice_bounds-take_line-end
slice_bounds-take_line-end c =
    omega (arith, c.find-end.ensures, end_le in_line c.args.text.now c.loop-at.at c.loop-at-test.true)

pub take_line-checker-requires : goal.take_line-checker-requires
take_line-checker-requires c =
    record { n_bound = c.requires.n_bound; room = c.loop-at.invariant.room }

pub overflow_add-at : goal.overflow_add-at
overflow_add-at c =
    omega (arith, c.find-end.ensures, end_le in_line c.args.text.now c.loop-at.at c.loop-at-test.true)

pub loop-at-smaller : goal.loop-at-smaller
loop-at-smaller c =
    omega (arith, c.find-end.ensures, end_ge in_line c.args.text.now c.loop-at.at)

pub loop-at-preserved : goal.loop-at-preserved
loop-at-preserved c =
    let a = c.args in
    reading_more a.n a.text.now a.count a.words.now c.loop-at.checker c.loop-at.words c.loop-at.at c.loop-at.invariant c.find-end.result
    c.take_line-checker.result c.take_line-checker.new.words c.loop-at-test.true c.find-end.ensures c.take_line-checker.auto.words
    c.take_line-checker.ensures.room_2 c.take_line-checker.ensures.reads

pub outcome_of-requires : goal.outcome_of-requires
outcome_of-requires c = c.loop-at.invariant.room.few

pub returns : goal.returns
returns c =
    let a = c.args in
    reading_end a.n a.text.now a.count a.words.now c.loop-at.checker c.loop-at.words c.loop-at.at c.loop-at.invariant c.outcome_of.result
    c.loop-at-test.false c.outcome_of.ensures
