-- A late condition as a host hands it over, in four numbers.
use Rattle.std.specs.Prelude.{ℕ}
use Rattle.late.specs.declared.Condition.{Condition}

-- the station, the row's number from 1 over all tables, and the new row's two words
abbrev pub condition_of : ℕ → ℕ → ℕ → ℕ → Condition
condition_of station number positive negative =
    record { station = station; replaced = number; row = record { positive = positive; negative = negative } }
