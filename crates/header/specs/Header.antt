-- The header of a text: `c` lines may come before it, and nothing else; n and m are judged in it (document 01, "DIMACS" and "Turned back").
-- `least` is the least m that is taken: 1 in a station's text, 0 in that of the public rest rules (document 02, "Public rest rules").
use Rattle.refusals.specs.declared.Refusal.{Refusal}
use Rattle.std.specs.Prelude.{ℕ, ◌≡◌, Bool, ◌&&◌, ◌||◌, cond, List, [], ◌∷◌, eqb, ltb, length, Result, Ok, Err}
use Rattle.lexer.specs.Spelling.{bytes}
use Rattle.words.specs.Sameness.{same}
use Rattle.lexer.specs.Bytes.{is_blank, is_tail, trimmed}
use Rattle.lexer.specs.Remarks.{is_remark}
use Rattle.lexer.specs.Pieces.{Piece, behind, lines_from, parts_from}
use Rattle.numbers.specs.Numbers.{Number, number, malformed, number_read}
use Rattle.dimensions.specs.Sizes.{most_variables, most_rows}
use Rattle.refusals.specs.Numbers.{number_of as refusal_number}
use Rattle.refusals.specs.Checks.{Check, check, outcome, given}
use Rattle.refusals.specs.declared.Refusal.TheVariants.{Variables, RowCount, Text}
use Rattle.header.specs.declared.Header.{Header}

-- the lines from the first that is no remark on
unfoldable pub past_remarks : List Piece → List Piece
past_remarks [] = []
past_remarks (l ∷ ls) = cond (is_remark l.bytes) (past_remarks ls) (l ∷ ls)

-- a number that is not from the least to the most
abbrev pub beyond : ℕ → ℕ → Bool → ℕ → Bool
beyond least most minus v = minus || (ltb v least || ltb most v)

-- refusals 1 and 2
abbrev pub limit_checks : ℕ → Bool → ℕ → Bool → ℕ → List Check
limit_checks least s n t m = check (beyond 1 most_variables s n) Variables ∷ check (beyond least most_rows t m) RowCount ∷ []

-- n and m must both be well-formed; n is judged first, then m
abbrev pub judged_sizes : ℕ → Number → Number → Result (ℕ × ℕ) Refusal
judged_sizes least malformed m = Err Text
judged_sizes least (number s n) malformed = Err Text
judged_sizes least (number s n) (number t m) = given (outcome (limit_checks least s n t m)) (Ok (n, m)) Err

-- n and m, and no more
abbrev pub two_numbers : ℕ → List Piece → Result (ℕ × ℕ) Refusal
two_numbers least [] = Err Text
two_numbers least (n ∷ []) = Err Text
two_numbers least (n ∷ (m ∷ [])) = judged_sizes least (number_read n.bytes) (number_read m.bytes)
two_numbers least (n ∷ (m ∷ (x ∷ xs))) = Err Text

-- `p` at the line's first byte, `cnf`, n and m
abbrev pub header_parts : ℕ → List Piece → Result (ℕ × ℕ) Refusal
header_parts least [] = Err Text
header_parts least (p ∷ []) = Err Text
header_parts least (p ∷ (f ∷ ps)) =
    cond (eqb p.at 0 && same p.bytes (bytes "p") && same f.bytes (bytes "cnf")) (two_numbers least ps) (Err Text)

-- a header's line: parts set off by spaces and tabs; spaces, tabs and CRs may follow the last
abbrev pub sizes_of : ℕ → List ℕ → Result (ℕ × ℕ) Refusal
sizes_of least line = header_parts least (parts_from is_blank (trimmed is_tail line) 0)

-- the header is the first of some lines, and the clauses start after it
abbrev pub headed : ℕ → List ℕ → List Piece → Header
headed least text [] = record { sizes = Err Text; end = length text }
headed least text (l ∷ ls) = record { sizes = sizes_of least l.bytes; end = behind l }

-- a text's header is the first line that is no remark
unfoldable pub header_of : ℕ → List ℕ → Header
header_of least text = headed least text (past_remarks (lines_from text 0))

-- what reading a header says: 0, n and m of "`p cnf n m`", or 1, 2 or 5 of "Turned back because of the input"
abbrev pub sizes_said : Result (ℕ × ℕ) Refusal → List ℕ
sizes_said (Ok (n, m)) = 0 ∷ (n ∷ (m ∷ []))
sizes_said (Err r) = refusal_number r ∷ []

-- the number and the values of a text's header
abbrev pub header_said : ℕ → List ℕ → List ℕ
header_said least text = sizes_said (header_of least text).sizes

-- the header may be looked for from a place on, whatever the least
abbrev pub HeaderFrom : List ℕ → ℕ → Type 0
HeaderFrom text at = (least : ℕ) → headed least text (lines_from text at) ≡ header_of least text
