-- What a line of a DRAT text says: a clause added or, with `d` and a space in front, deleted (document 02, "Proofs from other solvers").
-- Ask: What may a line hold, and where?
use Rattle.std.specs.Prelude.{ℕ, ◌-◌, Bool, false, ◌&&◌, ◌||◌, cond, List, [], ◌∷◌, eqb, length, take, drop, get_or, Option, Some, None}
use Rattle.words.specs.declared.Row.{Row}
use Rattle.lexer.specs.Bytes.{is_blank, is_line_feed, run}
use Rattle.lexer.specs.Pieces.{tokens_from}
use Rattle.clauses.specs.Rows.{row_of}
use Rattle.clauses.specs.Clauses.{Reading, clause, ended, unreadable, clauses}
use Rattle.drat_line.specs.declared.Said.{Said}
use Rattle.drat_line.specs.declared.Said.TheVariants.{Nothing, Added, Deleted, Malformed}

-- ---- one clause

-- a CR, or an LF
abbrev pub is_break : ℕ → Bool
is_break b = eqb b 13 || is_line_feed b

-- one among these bytes
unfoldable pub has_break : List ℕ → Bool
has_break [] = false
has_break (b ∷ bs) = is_break b || has_break bs

-- one clause, and then the end
abbrev pub one_clause : Reading → Option Row
one_clause (clause literals from to ended) = Some (row_of literals)
one_clause (clause literals from to (clause more from' to' rest)) = None
one_clause (clause literals from to unreadable) = None
one_clause ended = None
one_clause unreadable = None

-- exactly one clause, of literals from 1 to n, closed by 0 and set off by spaces and tabs: a CR that does not close the line is malformed
unfoldable pub clause_in : ℕ → List ℕ → Option Row
unfolding clauses
clause_in n bytes = cond (has_break bytes) None (one_clause (clauses n (tokens_from bytes 0)))

-- ---- a line

-- the clause added
abbrev pub added_by : Option Row → Said
added_by (Some r) = Added r
added_by None = Malformed

-- the clause deleted
abbrev pub deleted_by : Option Row → Said
deleted_by (Some r) = Deleted r
deleted_by None = Malformed

-- `d` and a space in front
abbrev pub is_deletion : List ℕ → Bool
is_deletion line = eqb (get_or line 0 0) 100 && eqb (get_or line 1 0) 32

-- a line from its first byte on that is no space or tab
abbrev pub said_of : ℕ → List ℕ → Said
said_of n [] = Nothing
said_of n (b ∷ bs) = cond (is_deletion (b ∷ bs)) (deleted_by (clause_in n (drop 2 (b ∷ bs)))) (added_by (clause_in n (b ∷ bs)))

-- how long a line is without a CR that closes it
abbrev pub closed_at : List ℕ → ℕ
closed_at line = cond (eqb (get_or line (length line - 1) 0) 13) (length line - 1) (length line)

-- a line without the spaces and tabs that begin it
abbrev pub without_blanks : List ℕ → List ℕ
without_blanks line = drop (run is_blank line) line

-- a line of the text, without its LF
unfoldable pub line_said : ℕ → List ℕ → Said
unfolding clause_in
line_said n line = said_of n (without_blanks (take (closed_at line) line))
