-- `rule_at` meets its contract: a second and a third table without words have no rows.
use mathlib.Core.Path.{ap, ◌∙◌}
use mathlib.Core.List.{List}
use Rattle.words.specs.declared.Row.{Row}
use Rattle.scan.specs.Rules.{rule}
use Rattle.game.proofs.Laws.{one_table}
use Rattle.game.proofs.rule_at.Goals as goal

pub returns : goal.returns
returns c =
    let a = c.args in
    c.find_rule.ensures.value ∙ ap (λ (rows : List Row). rule 32 rows a.t a.f) (one_table a.rows.now)
