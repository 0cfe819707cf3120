-- A clause's place as code finds it, from the clause's words. No entry's contract rests on this file.
use Rattle.std.specs.Prelude.{ℕ, ◌<◌, ◌&&◌, cond, eqb}
use Rattle.clauses.specs.declared.Clause.{Clause}
use Rattle.clauses.specs.declared.Clause.TheVariants.{Read, End, Unreadable}
use Rattle.excerpts.specs.declared.Place.{Place}
use Rattle.excerpts.specs.Excerpts.{between}

-- the place of a clause that has these two words; else start 0 and length 0
abbrev pub place_held : ℕ → Clause → ℕ → ℕ → Place
place_held station (Read row from to) positive negative = cond (eqb row.positive positive && eqb row.negative negative)
    (between station from to) (between station 0 0)
place_held station End positive negative = between station 0 0
place_held station Unreadable positive negative = between station 0 0

-- a clause ends after its start
abbrev pub Ordered : Clause → Type 0
Ordered (Read row from to) = from < to
Ordered End = Unit
Ordered Unreadable = Unit
