-- `place_held` meets its contract by the clause's cases and its two words.
use mathlib.Core.Path.{◌∙◌}
use Rattle.excerpts.proofs.Places.{no_place, other-positive, other-negative, own-place, in_order}
use Rattle.excerpts.proofs.place_held.Goals as goal

pub returns-in_default : goal.returns-in_default
returns-in_default c =
    let a = c.args in
    c.place_between.ensures ∙ no_place a.station a.row.positive a.row.negative a.clause c.in_default.not-Read

pub returns-then-own-row : goal.returns-then-own-row
returns-then-own-row c =
    let a = c.args in
    c.place_between-then-own-row.ensures ∙ other-positive a.station a.row.positive a.row.negative a.clause _ _ _ c.in-Read.is
    c.if-own-row.true

pub returns-then-own-row-2 : goal.returns-then-own-row-2
returns-then-own-row-2 c =
    let a = c.args in
    c.place_between-then-own-row-2.ensures
    ∙ other-negative a.station a.row.positive a.row.negative a.clause _ _ _ c.in-Read.is c.if-own-row.false c.if-own-row-2.true

pub place_between-requires-2 : goal.place_between-requires-2
place_between-requires-2 c =
    let a = c.args in
    in_order a.station a.row.positive a.row.negative a.clause _ _ _ c.in-Read.is c.requires

pub returns : goal.returns
returns c =
    let a = c.args in
    c.place_between-2.ensures
    ∙ own-place a.station a.row.positive a.row.negative a.clause _ _ _ c.in-Read.is c.if-own-row.false c.if-own-row-2.false
