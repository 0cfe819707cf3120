-- `play` meets its contract: the first turn, and what the existential side can force after each of its values.
use mathlib.Core.Path.{refl, ◌∙◌}
use Rattle.scan.specs.Rules.{rows_of_words}
use Rattle.game.proofs.Turns.{not_none, apart_none, ready_true, ready_false, first-turn}
use Rattle.game.proofs.play.Goals as goal

pub existential-first-requires : goal.existential-first-requires
existential-first-requires c =
    let s = c.args in
    let ready = ready_true s.turns s.n 0 0 (not_none s.n c.requires.le_n) (c.requires.is_set_value, apart_none) c.put.result c.put.ensures in
    record { f_value = ready.0; apart = ready.1 }

pub existential-second-requires : goal.existential-second-requires
existential-second-requires c =
    let s = c.args in
    let ready = ready_false s.turns s.n 0 0 (not_none s.n c.requires.le_n) (c.requires.is_set_value, apart_none) c.put-2.result c.put-2.ensures in
    record { f_value = ready.0; apart = ready.1 }

pub returns : goal.returns
returns c =
    let s = c.args in
    c.decide.ensures
    ∙ first-turn s.turns s.n (not_none s.n c.requires.le_n) (c.requires.is_set_value, apart_none) (rows_of_words s.rows.now)
    c.put.result _ c.existential-first.result c.existential-second.result c.put.ensures refl c.existential-first.ensures
    c.existential-second.ensures
