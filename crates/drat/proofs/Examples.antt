-- Small texts against the rows (1 2), (1 -2), (-1 2) and (-1 -2), computed: 0, 18, 19 or 20. And what an accepted one shows of these rows.
use mathlib.Core.Path.{◌≡◌, refl}
use mathlib.Core.Bool.{Bool, false}
use mathlib.Core.List.{[], ◌∷◌}
use Prim.Native.Nat.{ℕ}
use Prim.Native.String.{String}
use Rattle.refusals.specs.Numbers.{code_of}
use Rattle.refusals.specs.Checks.{outcome}
use Rattle.words.specs.declared.Row.{Row}
use Rattle.words.specs.Sets.{bit, put, any, count, lowest}
use Rattle.lexer.specs.Spelling.{bytes}
use Rattle.lexer.specs.Bytes.{run}
use Rattle.lexer.specs.Pieces.{cut, not_empty, parts_from}
use Rattle.numbers.specs.Numbers.{digits_after, decimal_of, number_read}
use Rattle.clauses.specs.Clauses.{clauses}
use Rattle.dimensions.specs.declared.Dimensions.{Dimensions}
use Rattle.tables.specs.Tables.{Tables, all_tables}
use Rattle.tables.specs.Rows.{padding, satisfied, free_literals}
use Rattle.tables.specs.Acceptance.{all_below}
use Rattle.scan.specs.Rules.{any_row, unsatisfied_with, forced_variable, forced_true}
use Rattle.truth.specs.Truth.{all_true}
use Rattle.propagation.specs.Propagation.{reaches, follows}
use Rattle.drat_line.specs.Lines.{has_break, clause_in, line_said}
use Rattle.drat.specs.Proofs.{without, all_follow, adds_empty, additions}
use Rattle.drat.specs.Text.{proof_lines, proof_of, proof_checks}
use Rattle.drat.proofs.Refutation.{accepted-none}

-- two left rows, one right and one public
abbrev sizes : Dimensions
sizes = record { n = 2; left = 2; right = 1; public = 1 }

abbrev tables : Tables
tables = all_tables (3 ∷ (0 ∷ (1 ∷ (2 ∷ [])))) (2 ∷ (1 ∷ [])) (0 ∷ (3 ∷ []))

code : String → ℕ
unfolding proof_of proof_lines line_said clause_in has_break clauses parts_from cut not_empty run number_read decimal_of digits_after put additions all_follow
    adds_empty
    without follows reaches padding satisfied free_literals unsatisfied_with any_row forced_variable forced_true any count lowest bit all_below
code text = code_of (outcome (proof_checks sizes tables (bytes text)))

-- 1 follows, since its negation forces 2 and then leaves a row in conflict; and then so does the empty clause
accepted : code "1 0\n0\n" ≡ 0
unfolding code
accepted = refl

-- the empty clause alone does not: no row forces a literal
empty-alone : code "0" ≡ 19
unfolding code
empty-alone = refl

-- lines after the empty clause are read for form only
behind-empty : code "1 0\n0\n\nd 2 0" ≡ 0
unfolding code
behind-empty = refl

malformed_behind : code "1 0\n0\nx" ≡ 18
unfolding code
malformed_behind = refl

-- 18 comes before 19, however late its line
malformed_first : code "0\n3 0" ≡ 18
unfolding code
malformed_first = refl

-- a row that is deleted is missing: without (1 2) the negation of 1 leads to no conflict
deleted_row : code "d 2 1 0\n1 0\n0\n" ≡ 19
unfolding code
deleted_row = refl

-- a deletion of no row does nothing, and padding follows
nothing_deleted : code "d 1 0\n2 -2 0\nd 2 -2 0\n1 0\n0\n" ≡ 0
unfolding code
nothing_deleted = refl

-- no empty clause: a text without a line, and one whose additions follow
no_line : code "" ≡ 20
unfolding code
no_line = refl

no_empty : code "1 0\nd 1 0\n" ≡ 20
unfolding code
no_empty = refl

-- no assignment makes the four rows true, by the theorem on accepted texts
abbrev row : ℕ → ℕ → Row
row p q = record { positive = p; negative = q }

four-rows : (a : ℕ → Bool) → all_true a (row 3 0 ∷ (row 1 2 ∷ (row 2 1 ∷ (row 0 3 ∷ [])))) ≡ false
unfolding proof_of proof_lines line_said clause_in has_break clauses parts_from cut not_empty run number_read decimal_of digits_after put additions all_follow
    adds_empty
    without follows reaches padding satisfied free_literals unsatisfied_with any_row forced_variable forced_true any count lowest bit all_below
four-rows = accepted-none sizes tables (bytes "1 0\n0\n") refl
