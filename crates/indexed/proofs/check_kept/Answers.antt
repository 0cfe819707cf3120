-- `check_kept` meets its contract: a check that fails decides.
use mathlib.Core.Path.{◌≡◌, sym, ◌∙◌}
use mathlib.Core.Bool.{Bool, true}
use lib.Dec.{eqb}
use borrow.Author.Tests.{eq-eqb, ne_eqb}
use Rattle.words.specs.Sameness.{same}
use Rattle.state.specs.WellFormed.{well_formed}
use Rattle.indexed.proofs.Checks.{refuse_formed, refuse_exact, refuse_right, refuse_other, take-kept}
use Rattle.indexed.proofs.check_kept.Goals as goal
use Rattle.indexed.proofs.check_kept.Goals.{Else-not-same, Else-not-well_formed, Start}

-- whether index and number are those of the rows
abbrev sets_same : Start → Bool
sets_same s = same s.args.index.now s.args.sets.now

abbrev number_same : Start → Bool
number_same s = eqb s.args.number s.args.unsatisfied

formed : (c : Else-not-well_formed) → well_formed c.args.run ≡ true
formed c = sym c.well_formed-2.ensures ∙ c.if-not-well_formed.false

exact : (c : Else-not-same) → sets_same (goal.at.Else-not-same c).Start ≡ true
exact c = sym c.same.ensures ∙ c.if-not-same.false

pub returns-then-not-well_formed : goal.returns-then-not-well_formed
returns-then-not-well_formed c =
    refuse_formed c.args.n c.args.run (sets_same (goal.at.returns-then-not-well_formed c).Start) (number_same (goal.at.returns-then-not-well_formed c).Start)
    (sym c.well_formed-2.ensures ∙ c.if-not-well_formed.true)

pub returns-then-not-same : goal.returns-then-not-same
returns-then-not-same c =
    refuse_exact c.args.n c.args.run (sets_same (goal.at.returns-then-not-same c).Start) (number_same (goal.at.returns-then-not-same c).Start)
    (formed (goal.at.returns-then-not-same c).Else-not-well_formed) (sym c.same.ensures ∙ c.if-not-same.true)

pub returns-then-number-unsatisfied : goal.returns-then-number-unsatisfied
returns-then-number-unsatisfied c =
    refuse_right c.args.n c.args.run (sets_same (goal.at.returns-then-number-unsatisfied c).Start)
    (number_same (goal.at.returns-then-number-unsatisfied c).Start) (formed (goal.at.returns-then-number-unsatisfied c).Else-not-well_formed)
    (exact (goal.at.returns-then-number-unsatisfied c).Else-not-same) (ne_eqb _ _ c.if-number-unsatisfied.true)

pub returns-then-run-n : goal.returns-then-run-n
returns-then-run-n c =
    refuse_other c.args.n c.args.run (sets_same (goal.at.returns-then-run-n c).Start) (number_same (goal.at.returns-then-run-n c).Start)
    (formed (goal.at.returns-then-run-n c).Else-not-well_formed) (exact (goal.at.returns-then-run-n c).Else-not-same)
    (eq-eqb _ _ c.if-number-unsatisfied.false) c.if-run-n.true

pub returns : goal.returns
returns c =
    take-kept c.args.n c.args.run (sets_same (goal.at.returns c).Start) (number_same (goal.at.returns c).Start)
    (formed (goal.at.returns c).Else-not-well_formed) (exact (goal.at.returns c).Else-not-same)
    (eq-eqb _ _ c.if-number-unsatisfied.false) c.if-run-n.false
