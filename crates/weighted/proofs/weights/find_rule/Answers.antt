-- `find_rule` meets its contract: rules 1 to 3 are the scan's, and where it found rule 4 the heaviest variable is chosen.
use mathlib.Core.Path.{◌≡◌, ap, ◌∙◌}
use mathlib.Core.List.{◌++◌}
use Rattle.scan.specs.declared.Rule.{Rule}
use Rattle.scan.specs.declared.Rule.TheVariants.{Choice}
use Rattle.weighted.specs.Weights.{weight, heaviest, choosing, weighted_rule}
use Rattle.scan.specs.Rules.{rows_of_words}
use Rattle.weighted.proofs.Choosing.{told}
use Rattle.weighted.proofs.weights.find_rule.Goals as goal
use Rattle.weighted.proofs.weights.find_rule.Goals.{After-find_rule-found}

-- the rule that the scan found is the giant step's
found : (c : After-find_rule-found) → let a = c.args in
    (k : Rule) → c.find_rule-found.result ≡ k
    → let rows = rows_of_words a.tables.left.now ++ (rows_of_words a.tables.right.now ++ rows_of_words a.tables.public.now) in
    choosing (heaviest (weight 32 rows a.t a.f) 32) k ≡ weighted_rule 32 rows a.t a.f
found c k e =
    let a = c.args in
    told 32 (rows_of_words a.tables.left.now ++ (rows_of_words a.tables.right.now ++ rows_of_words a.tables.public.now)) a.t a.f c.find_rule-found.result k
    c.find_rule-found.ensures.value e

pub returns-in-AllSatisfied : goal.returns-in-AllSatisfied
returns-in-AllSatisfied c = c.in-AllSatisfied.is ∙ found (goal.at.returns-in-AllSatisfied c).After-find_rule-found _ c.in-AllSatisfied.is

pub returns-in-Conflict : goal.returns-in-Conflict
returns-in-Conflict c = c.in-Conflict.is ∙ found (goal.at.returns-in-Conflict c).After-find_rule-found _ c.in-Conflict.is

pub returns-in-Unit : goal.returns-in-Unit
returns-in-Unit c = c.in-Unit.is ∙ found (goal.at.returns-in-Unit c).After-find_rule-found _ c.in-Unit.is

pub returns-in-Choice : goal.returns-in-Choice
returns-in-Choice c = ap Choice c.choose.ensures ∙ found (goal.at.returns-in-Choice c).After-find_rule-found _ c.in-Choice.is
