-- A clause's own bytes in the bytes that a host lends.
use Rattle.refusals.specs.Numbers.{Outcome}
use Rattle.std.specs.Prelude.{ℕ, List, [], ◌∷◌, ◌++◌, ltb, length}
use Rattle.refusals.specs.Checks.{Check, check, outcome, given}
use Rattle.refusals.specs.declared.Refusal.TheVariants.{LineBuffer}
use Rattle.dimensions.specs.declared.Dimensions.{Dimensions}
use Rattle.tables.specs.Tables.{Tables}
use Rattle.excerpts.specs.Excerpts.{excerpt_checks, clause_bytes}
use Rattle.lent.specs.Lent.{front}

-- 11: a part longer than the lent bytes
abbrev pub room_checks : List ℕ → List ℕ → List Check
room_checks part bytes = check (ltb (length bytes) (length part)) LineBuffer ∷ []

-- the lent bytes with the part over their front; refused, as they were
abbrev pub part_after : Outcome → List ℕ → List ℕ → List ℕ
part_after o part bytes = given o (front part bytes) (λ r. bytes)

-- the lent number: how long the part is; refused, as it was
abbrev pub length_after : Outcome → List ℕ → List ℕ → List ℕ
length_after o part number = given o (length part ∷ []) (λ r. number)

-- asking for a clause's bytes: what its place is refused with, then 11
abbrev pub excerpt_in : Dimensions → Tables → List ℕ → List ℕ → ℕ → List ℕ → Outcome
excerpt_in d tables text_of_left text_of_right row bytes =
    outcome (excerpt_checks d tables text_of_left text_of_right row
    ++ room_checks (clause_bytes d tables text_of_left text_of_right row) bytes)
