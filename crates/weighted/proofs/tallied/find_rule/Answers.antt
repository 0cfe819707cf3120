-- `find_rule` meets its contract: rules 1 to 3 are the tally's, and where it shows rule 4 the heaviest variable of the unsatisfied rows is chosen.
use mathlib.Core.Path.{◌≡◌, ap, ◌∙◌}
use Prim.Native.Nat.{ℕ, ◌-◌}
use lib.Bits.{bit_or}
use Rattle.scan.specs.declared.Rule.{Rule}
use Rattle.scan.specs.declared.Rule.TheVariants.{Choice}
use Rattle.tally.specs.Ruling.{rule_by}
use Rattle.weighted.specs.Weights.{heaviest, choosing}
use Rattle.weighted.specs.Floats.{set_weight}
use Rattle.weighted.proofs.Weighing.{heaviest_of}
use Rattle.weighted.proofs.Choosing.{told-rule}
use Rattle.weighted.proofs.SetWeights.{set-small}
use Rattle.weighted.proofs.tallied.find_rule.Goals as goal
use Rattle.weighted.proofs.tallied.find_rule.Goals.{After-rule-found, Start}

-- the heaviest variable of the unsatisfied rows
abbrev chosen : Start → ℕ
chosen s = heaviest (set_weight s.args.words.now s.args.tally.unsatisfied (4294967295 - bit_or s.args.t s.args.f)) 32

-- a rule that the tally shows, with it
found : (c : After-rule-found) (k : Rule) → c.rule-found.result ≡ k
    → choosing (chosen (goal.at.After-rule-found c).Start) k
    ≡ choosing (chosen (goal.at.After-rule-found c).Start) (rule_by c.args.index.now c.args.t c.args.f c.args.tally)
found c k e = told-rule (chosen (goal.at.After-rule-found c).Start) c.rule-found.result k _ c.rule-found.ensures e

pub returns-in-AllSatisfied : goal.returns-in-AllSatisfied
returns-in-AllSatisfied c = c.in-AllSatisfied.is ∙ found (goal.at.returns-in-AllSatisfied c).After-rule-found _ c.in-AllSatisfied.is

pub returns-in-Conflict : goal.returns-in-Conflict
returns-in-Conflict c = c.in-Conflict.is ∙ found (goal.at.returns-in-Conflict c).After-rule-found _ c.in-Conflict.is

pub returns-in-Unit : goal.returns-in-Unit
returns-in-Unit c = c.in-Unit.is ∙ found (goal.at.returns-in-Unit c).After-rule-found _ c.in-Unit.is

pub returns-in-Choice : goal.returns-in-Choice
returns-in-Choice c =
    ap Choice (c.heaviest.ensures ∙ heaviest_of c.weigh_set.result _ (λ i b. set-small _ _ _ i) c.weigh_set.ensures)
    ∙ found (goal.at.returns-in-Choice c).After-rule-found _ c.in-Choice.is
