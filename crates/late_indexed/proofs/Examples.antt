-- Late conditions with an index on small tables, computed: index and number afterwards, which a refusal leaves, and 12 before 15.
use mathlib.Core.Path.{◌≡◌, refl, ap, ◌∙◌}
use mathlib.Core.Bool.{Bool, true}
use mathlib.Core.List.{List, [], ◌∷◌, ◌++◌}
use Prim.Native.Nat.{ℕ}
use lib.Dec.{eqb}
use lib.ListN.{set, replicate}
use Rattle.std.specs.Prelude.{Ok}
use Rattle.refusals.specs.Checks.{outcome, given}
use Rattle.refusals.specs.Numbers.{Outcome, code_of}
use Rattle.words.specs.Sets.{bit, any, all, word_of}
use Rattle.words.specs.Sameness.{same}
use Rattle.dimensions.specs.declared.Dimensions.{Dimensions}
use Rattle.dimensions.specs.Sizes.{dimensions}
use Rattle.tables.specs.Tables.{Tables, all_tables}
use Rattle.tables.specs.Rows.{rows_of, padding, satisfied}
use Rattle.tables.specs.Acceptance.{all_below, table_checks}
use Rattle.state.specs.declared.Run.{Run}
use Rattle.state.specs.declared.Standing.TheVariants.{Open}
use Rattle.state.specs.State.{run_of}
use Rattle.state.specs.WellFormed.{disjoint, well_formed}
use Rattle.occurrences.specs.Index.{at, index_of}
use Rattle.tally.specs.Tallies.{count_rows, unsatisfied_rows}
use Rattle.indexed.specs.Tallied.{kept_checks}
use Rattle.indexed.specs.Entries.{stepped_indexed}
use Rattle.late.specs.declared.Condition.{Condition}
use Rattle.late.specs.Replacement.{condition_checks, replaced_in}
use Rattle.late_indexed.specs.Replacement.{replace_checks, tables_then, index_then, number_then, replaced_indexed}
use Rattle.late_indexed.proofs.Again.{replaced_again, replaced-judged}

-- rows 1 and 2: (1 2), (1 -1) | rows 3 and 4: (2 -2), (-1) | row 5, public: (1 -1)
abbrev d : Dimensions
d = dimensions 2 2 2 1

abbrev tables : Tables
tables = all_tables (3 ∷ 0 ∷ 1 ∷ 1 ∷ []) (2 ∷ 2 ∷ 0 ∷ 1 ∷ []) (1 ∷ 1 ∷ [])

-- their index: of 1, 2, -1 and -2 the first words
abbrev four_sets : ℕ → ℕ → ℕ → ℕ → List ℕ
four_sets a b c e = set (set (set (set (replicate 384 0) 0 a) 6 b) 192 c) 198 e

abbrev index : List ℕ
index = four_sets 19 5 26 4

-- an open run of n = 2 with these variables set true
abbrev run : ℕ → Run
run t = run_of 2 (record { standing = Open; t = t; f = 0; levels = [] })

-- the station, the row's number, the new row's words
abbrev late : ℕ → ℕ → ℕ → ℕ → Condition
late station number positive negative = record { station = station; replaced = number; row = record { positive = positive; negative = negative } }

-- ---- the index before and after, computed once

exact : same index (index_of (rows_of d tables)) ≡ true
unfolding same index_of at bit word_of
exact = refl

-- row 3 becomes (1): out of the sets of 2 and -2, into that of 1
later : index_of (rows_of d (replaced_in d tables (late 1 3 1 0))) ≡ four_sets 23 1 26 0
unfolding index_of at bit word_of replaced_in
later = refl

-- ---- the entry

-- what it meets, with an index that is exact or not
met : Bool → Run → ℕ → Condition → Outcome
unfolding unsatisfied_rows count_rows satisfied all_below run_of well_formed disjoint padding bit any all
met b r number c =
    outcome (table_checks d tables ++ (kept_checks 2 r b (eqb number (unsatisfied_rows 2 (rows_of d tables) r.t r.f)) ++ condition_checks d tables r c))

-- its number, and the number of unsatisfied rows that it leaves
answer : Run → ℕ → Condition → List ℕ
unfolding number_then
answer r number c = let x = replaced_indexed d tables index r number c in code_of x.outcome ∷ x.number ∷ []

answer-by : (r : Run) (number : ℕ) (c : Condition)
    → answer r number c
    ≡ code_of (met true r number c) ∷ given (met true r number c) (unsatisfied_rows 2 (rows_of d (replaced_in d tables c)) r.t r.f) (λ e. number) ∷ []
unfolding answer met number_then
answer-by r number c =
    ap
    (λ (b : Bool). code_of (met b r number c) ∷ given (met b r number c) (unsatisfied_rows 2 (rows_of d (replaced_in d tables c)) r.t r.f) (λ e. number) ∷ [])
    exact

after : Run → ℕ → Condition → List ℕ
unfolding index_then
after r number c = index_then d tables index r number c

after-by : (r : Run) (number : ℕ) (c : Condition) → after r number c ≡ given (met true r number c) (index_of (rows_of d (replaced_in d tables c))) (λ e. index)
unfolding after met index_then
after-by r number c = ap (λ (b : Bool). given (met b r number c) (index_of (rows_of d (replaced_in d tables c))) (λ e. index)) exact

-- row 3 becomes (1): one more unsatisfied row
raised : answer (run 0) 2 (late 1 3 1 0) ≡ 0 ∷ 3 ∷ []
unfolding met replaced_in
raised = answer-by (run 0) 2 (late 1 3 1 0)

moved : after (run 0) 2 (late 1 3 1 0) ≡ four_sets 23 1 26 0
unfolding met
moved = after-by (run 0) 2 (late 1 3 1 0) ∙ later

-- the step after it is taken, over tables, index and number as they were handed on, and so is a second replacement of another padding row
taken : outcome (replace_checks d tables index (run 0) 2 (late 1 3 1 0)) ≡ Ok tt
unfolding met
taken = ap (λ (b : Bool). met b (run 0) 2 (late 1 3 1 0)) exact

abbrev handed : Tables × List ℕ × ℕ
handed = (
  tables_then d tables index (run 0) 2 (late 1 3 1 0),
  index_then d tables index (run 0) 2 (late 1 3 1 0),
  number_then d tables index (run 0) 2 (late 1 3 1 0),
)

step_after : (stepped_indexed d handed.0 handed.1 (run 0) handed.2).outcome ≡ Ok tt
step_after = replaced_again d tables index (run 0) 2 (late 1 3 1 0) taken

-- row 2 becomes (-2)
second-after : outcome (replace_checks d handed.0 handed.1 (run 0) handed.2 (late 0 2 0 2)) ≡ Ok tt
unfolding tables_then padding bit any replaced_in run_of
second-after =
    replaced-judged d tables index (run 0) 2 (late 1 3 1 0) taken (late 0 2 0 2)
    ∙ ap (λ (o : Outcome). outcome (condition_checks d (given o (replaced_in d tables (late 1 3 1 0)) (λ r. tables)) (run 0) (late 0 2 0 2))) taken

-- where 1 is true the new row is satisfied
as_before : answer (run 1) 1 (late 1 3 1 0) ≡ 0 ∷ 1 ∷ []
unfolding met replaced_in
as_before = answer-by (run 1) 1 (late 1 3 1 0)

-- the left station has no row 3: number and index stay
refused : answer (run 0) 2 (late 0 3 1 0) ≡ 15 ∷ 2 ∷ []
unfolding met
refused = answer-by (run 0) 2 (late 0 3 1 0)

stays : after (run 0) 2 (late 0 3 1 0) ≡ index
unfolding met
stays = after-by (run 0) 2 (late 0 3 1 0)

-- a wrong number is 12, whoever asks
wrong_number : answer (run 0) 3 (late 0 3 1 0) ≡ 12 ∷ 3 ∷ []
unfolding met
wrong_number = answer-by (run 0) 3 (late 0 3 1 0)
