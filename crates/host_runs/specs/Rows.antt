-- What judging a row gives a host, as numbers.
use Rattle.std.specs.Prelude.{ℕ, List, [], ◌∷◌}
use Rattle.words.specs.Booleans.{digit}
use Rattle.tables.specs.declared.Judged.{Judged}
use Rattle.tables.specs.Rows.{judged, look_number}

-- a row of a positive and a negative word, judged against T and F
abbrev pub judged_row : ℕ → ℕ → ℕ → ℕ → Judged
judged_row positive negative t f = judged 32 (record { positive = positive; negative = negative }) t f

-- satisfied (0 or 1), free literals, free variables as a word, the variable to look at from 1, or 0
abbrev pub judged_numbers : Judged → List ℕ
judged_numbers j = digit j.satisfied ∷ (j.literals ∷ (j.variables ∷ (look_number j.look ∷ [])))
