-- A clause's own bytes, by the number of its row: document 02, "The rule behind each step". Rows are numbered from 1, the left station's
-- first.
-- Ask: Is a clause from its first literal through its 0, in the text as it is? What is given where the row has other words now? Is an
-- overlong text first, and 17 last?
use Rattle.std.specs.Prelude.{Bool, ℕ, Result, Ok, Err}
use Rattle.refusals.specs.declared.Refusal.{Refusal}
use Rattle.std.specs.Prelude.{
  ℕ,
  zero,
  suc,
  ◌+◌,
  ◌-◌,
  Bool,
  true,
  not,
  ◌&&◌,
  ◌||◌,
  cond,
  List,
  [],
  ◌∷◌,
  ◌++◌,
  eqb,
  ltb,
  leb,
  length,
  take,
  drop,
}
use Rattle.refusals.specs.Numbers.{number_of}
use Rattle.refusals.specs.Checks.{Check, check, outcome, given}
use Rattle.refusals.specs.declared.Refusal.TheVariants.{Text, TextsDiffer, NoClause}
use Rattle.words.specs.declared.Row.{Row}
use Rattle.lexer.specs.Blanks.{tokens_past}
use Rattle.header.specs.Header.{header_of}
use Rattle.clauses.specs.Rows.{Literal}
use Rattle.clauses.specs.Rows as rows
use Rattle.clauses.specs.Clauses.{Reading, clause, ended, unreadable, clauses}
use Rattle.dimacs.specs.Text.{TextTable, table_of}
use Rattle.dimensions.specs.declared.Dimensions.{Dimensions}
use Rattle.tables.specs.Tables.{Tables}
use Rattle.tables.specs.Rows.{row_at}
use Rattle.tables.specs.Acceptance.{table_checks}
use Rattle.excerpts.specs.declared.Place.{Place}

-- ---- when it is given

-- what reading a text is refused with: 1, 2 or 5
abbrev pub outcome_checks : TextTable → List Check
outcome_checks t = given t.outcome [] (λ r. check true r ∷ [])

-- a text has these n and row count
abbrev pub of_sizes : TextTable → ℕ → ℕ → Bool
of_sizes t n count = eqb t.n n && eqb t.rows count

-- a left or right row, and each text's n and row count are its table's
abbrev pub has_clause : Dimensions → TextTable → TextTable → ℕ → Bool
has_clause d l r number =
    (ltb 0 number && leb number (d.left + d.right)) && (of_sizes l d.n d.left && of_sizes r d.n d.right)

-- 1, 2, 5 of the left text, of the right text; 6 where they differ in n; 17
abbrev pub text_checks : Dimensions → TextTable → TextTable → ℕ → List Check
text_checks d l r number =
    outcome_checks l ++ (outcome_checks r
    ++ (check (not (eqb l.n r.n)) TextsDiffer ∷ check (not (has_clause d l r number)) NoClause ∷ []))

-- "an overlong text is 5 before all else"
abbrev pub overlong : List ℕ → Bool
overlong text = ltb 65536 (length text)

-- 5 where a text is overlong; 1, 2, 4, 3 of the tables, then the texts'
abbrev pub excerpt_checks : Dimensions → Tables → List ℕ → List ℕ → ℕ → List Check
excerpt_checks d tables text_of_left text_of_right number =
    check (overlong text_of_left || overlong text_of_right) Text
    ∷ (table_checks d tables ++ text_checks d (table_of 1 text_of_left) (table_of 1 text_of_right) number)

-- ---- where it is

-- a reading after its first k clauses
unfoldable pub skip : ℕ → Reading → Reading
skip zero x = x
skip (suc k) (clause ls from to rest) = skip k rest
skip (suc k) ended = unreadable
skip (suc k) unreadable = unreadable

-- the clauses after a header, in the text as it is: remarks are passed by and places are the text's
abbrev pub behind_header : List ℕ → ℕ → Result (ℕ × ℕ) Refusal → Reading
behind_header text end (Ok (n, m)) = clauses n (tokens_past text end)
behind_header text end (Err r) = unreadable

-- a station's text from its clause k on, from 0
unfoldable pub clause_of : List ℕ → ℕ → Reading
unfolding skip
clause_of text k = let header = header_of 1 text in skip k (behind_header text header.end header.sizes)

-- a clause has a row's two words
abbrev pub same_words : List Literal → Row → Bool
same_words ls row = eqb (rows.row_of ls).positive row.positive && eqb (rows.row_of ls).negative row.negative

-- from one byte up to another, in the text of station 0, the left one, or 1, the right one
abbrev pub between : ℕ → ℕ → ℕ → Place
between station from to = record { station = station; start = from; length = to - from }

-- the place of the first clause, from its first literal through its 0, if it has the row's two words; else start 0 and length 0
abbrev pub place_in : ℕ → Reading → Row → Place
place_in station (clause ls from to rest) row = cond (same_words ls row) (between station from to) (between station 0 0)
place_in station ended row = between station 0 0
place_in station unreadable row = between station 0 0

-- a station's row i from 0 is clause i of its text
abbrev pub place_of : ℕ → List ℕ → List ℕ → ℕ → Place
place_of station words text i = place_in station (clause_of text i) (row_at words i)

-- the place of a row's clause in its own station's text
unfoldable pub clause_place : Dimensions → Tables → List ℕ → List ℕ → ℕ → Place
unfolding clause_of
clause_place d tables text_of_left text_of_right number =
    cond (leb number d.left)
    (place_of 0 tables.left text_of_left (number - 1))
    (place_of 1 tables.right text_of_right (number - d.left - 1))

-- ---- what is handed back

-- the place, or the refusal
unfoldable pub placed : Dimensions → Tables → List ℕ → List ℕ → ℕ → Result Place Refusal
unfolding clause_place
placed d tables text_of_left text_of_right number =
    given (outcome (excerpt_checks d tables text_of_left text_of_right number))
    (Ok (clause_place d tables text_of_left text_of_right number)) Err

-- what asking for the place returns: 0, or the refusal's number
abbrev pub placed_code : Result Place Refusal → ℕ
placed_code (Ok place) = 0
placed_code (Err r) = number_of r

-- station, start and length
abbrev pub place_numbers : Place → List ℕ
place_numbers place = place.station ∷ (place.start ∷ (place.length ∷ []))

-- those of the place
abbrev pub placed_numbers : Result Place Refusal → List ℕ
placed_numbers (Ok place) = place_numbers place
placed_numbers (Err r) = []

-- the bytes of one of two texts at a place
abbrev pub bytes_at : List ℕ → List ℕ → Place → List ℕ
bytes_at text_of_left text_of_right place = take place.length (drop place.start (cond (eqb place.station 0) text_of_left text_of_right))

-- the bytes of a row's clause; none where it is refused
unfoldable pub clause_bytes : Dimensions → Tables → List ℕ → List ℕ → ℕ → List ℕ
unfolding clause_place
clause_bytes d tables text_of_left text_of_right number =
    given (outcome (excerpt_checks d tables text_of_left text_of_right number))
    (bytes_at text_of_left text_of_right (clause_place d tables text_of_left text_of_right number)) (λ r. [])
