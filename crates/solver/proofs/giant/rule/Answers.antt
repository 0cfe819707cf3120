-- `rule` meets its contract: accepted buffers are long enough for their fronts, and the rule of the fronts is the tables' rule.
use mathlib.Core.Path.{◌∙◌}
use Rattle.tables.specs.Tables.{Tables, words_in}
use Rattle.solver.proofs.AcceptedRule.{rule_of_fronts}
use Rattle.solver.proofs.giant.rule.Goals as goal
use Rattle.solver.proofs.giant.rule.Goals.{Start}

-- the tables at the start
abbrev tables : Start → Tables
tables s = words_in s.args.tables

pub returns : goal.returns
returns c =
    c.find_rule.ensures.value
    ∙ rw (c.rows.ensures.left, c.rows.ensures.right, c.rows.ensures.public)
    (rule_of_fronts c.args.d (tables (goal.at.returns c).Start) c.requires c.args.t c.args.f)
