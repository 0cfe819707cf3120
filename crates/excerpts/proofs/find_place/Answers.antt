-- `find_place` meets its contract: the clause that is found has the row's place in the text.
use mathlib.Core.Path.{ap, ◌∙◌}
use Rattle.words.specs.declared.Row.{Row}
use Rattle.excerpts.specs.PlaceByWords.{place_held}
use Rattle.excerpts.proofs.Places.{ordered, place_found}
use Rattle.excerpts.proofs.find_place.Goals as goal

pub place_held-requires : goal.place_held-requires
place_held-requires c =
    let a = c.args in
    ordered a.station a.words.now a.text.now a.i _ c.find_clause-clause.ensures

pub returns : goal.returns
returns c =
    let a = c.args in
    place_found a.station a.words.now a.text.now a.i _ c.find_clause-clause.ensures _
    (c.place_held.ensures ∙ ap (λ (r : Row). place_held a.station c.find_clause-clause.result r.positive r.negative) c.row_at-row.ensures)
