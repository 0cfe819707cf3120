-- `outcome_of` meets its contract: by how far the proof has come.
use Rattle.drat.specs.declared.rup.Stage.TheVariants.{Checking, Accepted, Failed}
use Rattle.drat.proofs.Whole.{ends_malformed, ends_stage}
use Rattle.drat.proofs.outcome_of.Goals as goal

pub returns-then-checker : goal.returns-then-checker
returns-then-checker c = ends_malformed c.args.checker c.if-checker.true

pub returns-in-Checking : goal.returns-in-Checking
returns-in-Checking c =
    ends_stage c.args.checker c.requires c.if-checker.false Checking c.in-Checking.is

pub returns-in-Accepted : goal.returns-in-Accepted
returns-in-Accepted c =
    ends_stage c.args.checker c.requires c.if-checker.false Accepted c.in-Accepted.is

pub returns-in-Failed : goal.returns-in-Failed
returns-in-Failed c =
    ends_stage c.args.checker c.requires c.if-checker.false Failed c.in-Failed.is
