-- The first clause from a place on, as code reads it: its literals from the first on, in words of 32 bits.
use Rattle.std.specs.Prelude.{ℕ, Bool, cond, List, [], ◌∷◌, ltb}
use Rattle.lexer.specs.Blanks.{tokens_past}
use Rattle.refusals.specs.Numbers.{number_of as refusal_number}
use Rattle.refusals.specs.declared.Refusal.TheVariants.{Text}
use Rattle.words.specs.declared.Row.{Row}
use Rattle.clauses.specs.Rows.{Literal, with_literal}
use Rattle.clauses.specs.Clauses.{Reading, clause, ended, unreadable, clauses}
use Rattle.clauses.specs.declared.Clause.{Clause}
use Rattle.clauses.specs.declared.Clause.TheVariants.{Read, End, Unreadable}

-- the clauses of a text from a place on that is no line's start, remarks passed by
abbrev pub clauses_from : ℕ → List ℕ → ℕ → Reading
clauses_from n text at = clauses n (tokens_past text at)

-- a row without literals
abbrev pub empty_row : Row
empty_row = record { positive = 0; negative = 0 }

-- a row with a literal more; the row itself where a word has no such bit
abbrev pub row_with : Bool → ℕ → Row → Row
row_with minus i r = cond (ltb i 32) (with_literal minus i r) r

-- a row with all literals of a list more
abbrev pub with_literals : Row → List Literal → Row
with_literals r [] = r
with_literals r (l ∷ ls) = with_literals (row_with l.minus l.bit r) ls

-- the first clause of a reading
abbrev pub first : Reading → Clause
first (clause ls from to rest) = Read (with_literals empty_row ls) from to
first ended = End
first unreadable = Unreadable

-- what the clause reader returns: 0, or 5 of "Turned back because of the input" for "a clause that cannot be read"
abbrev pub clause_code : Clause → ℕ
clause_code (Read row from to) = 0
clause_code End = 0
clause_code Unreadable = refusal_number Text

-- "A row is two 32-bit words, positive then negative"; then the place of the clause's first token and the place after its 0
abbrev pub clause_numbers : Clause → List ℕ
clause_numbers (Read row from to) = row.positive ∷ (row.negative ∷ (from ∷ (to ∷ [])))
clause_numbers End = []
clause_numbers Unreadable = []

-- the number and the values of the first clause of a reading
abbrev pub first_said : Reading → List ℕ
first_said (clause ls from to rest) = let row = with_literals empty_row ls in 0 ∷ (row.positive ∷ (row.negative ∷ (from ∷ (to ∷ []))))
first_said ended = 0 ∷ []
first_said unreadable = 5 ∷ []
