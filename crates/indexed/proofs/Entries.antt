-- What the entries give: each computes from the outcome of its checks, which decide in order.
use mathlib.Core.Path.{◌≡◌, refl, sym, ap, ap₂, ◌∙◌}
use mathlib.Core.Bool.{true}
use mathlib.Core.List.{List, [], ◌∷◌, ◌++◌}
use Prim.Native.Nat.{ℕ, ◌≤◌}
use Rattle.std.specs.Prelude.{Result, Ok, Err}
use Rattle.refusals.specs.Checks.{Check, outcome, given}
use Rattle.refusals.specs.Numbers.{Outcome, code_of, said}
use Rattle.refusals.specs.declared.Refusal.{Refusal}
use Rattle.refusals.proofs.Outcomes.{outcome-taken, outcome-refused, given-said}
use Rattle.words.specs.declared.Row.{Row}
use Rattle.dimensions.specs.declared.Dimensions.{Dimensions}
use Rattle.tables.specs.Tables.{Tables}
use Rattle.tables.specs.Acceptance.{low_row, table_checks}
use Rattle.tables.specs.Rows.{rows_of}
use Rattle.scan.specs.Rules.{all_rows}
use Rattle.state.specs.declared.Run.{Run}
use Rattle.state.specs.State.{state_of, run_of}
use Rattle.state.specs.WellFormed.{state_checks}
use Rattle.solver.specs.Step.{step}
use Rattle.occurrences.specs.Index.{index_of}
use Rattle.tally.specs.Tallies.{unsatisfied_rows}
use Rattle.indexed.specs.declared.tallied.TalliedRun.{TalliedRun}
use Rattle.indexed.specs.Tallied.{tallied_of, stepped_over}
use Rattle.indexed.specs.Entries.{index_after, counted, counted_code, counted_numbers, indexed_checks, number_after, stepped_by, stepped_indexed}
use Rattle.indexed.specs.Entries.{SteppedIndexed, said_or}
use Rattle.indexed.proofs.Numbers.{tally_number}

-- ---- the index

module _ (d : Dimensions) (tables : Tables) (before : List ℕ) where
  index_as : (o : Outcome) → o ≡ outcome (table_checks d tables) → given o (index_of (rows_of d tables)) (λ r. before) ≡ index_after d tables before
  unfolding index_after
  index_as o e = ap (λ (x : Outcome). given x (index_of (rows_of d tables)) (λ r. before)) e

  pub index-taken : (Ok tt) ≡ outcome (table_checks d tables) → (index : List ℕ) → index ≡ index_of (rows_of d tables)
      → index ≡ index_after d tables before
  index-taken e index q = q ∙ index_as (Ok tt) e

  pub index-refused : (r : Refusal) → Err r ≡ outcome (table_checks d tables) → before ≡ index_after d tables before
  index-refused r e = index_as (Err r) e

-- ---- the number

abbrev says : Result ℕ Refusal → List ℕ
says r = counted_code r ∷ counted_numbers r

module _ (d : Dimensions) (tables : Tables) (run : Run) where
  abbrev checked : Outcome
  checked = outcome (table_checks d tables ++ state_checks d run)

  abbrev number : ℕ
  number = unsatisfied_rows d.n (rows_of d tables) run.t run.f

  counted_as : (o : Outcome) → o ≡ checked → given o (Ok number) Err ≡ counted d tables run
  unfolding counted
  counted_as o e = ap (λ (x : Outcome). given x (Ok number) Err) e

  -- what is given says its number and its values
  with-said : (r : Result ℕ Refusal) → r ≡ counted d tables run → (r ≡ counted d tables run) × (says r ≡ said checked (number ∷ []))
  unfolding counted
  with-said r e =
      (e, ap says e ∙ given-said says checked (Ok number) Err _ refl (λ q. refl))

  pub count-taken : (Ok tt) ≡ checked → (k : ℕ) → k ≡ number
      → (Ok k ≡ counted d tables run) × (says (Ok k) ≡ said checked (number ∷ []))
  count-taken e k q = with-said (Ok k) (ap Ok q ∙ counted_as (Ok tt) e)

  pub count-refused : (r : Refusal) → Err r ≡ checked
      → (Err r ≡ counted d tables run) × (says (Err r) ≡ said checked (number ∷ []))
  count-refused r e = with-said (Err r) (counted_as (Err r) e)

-- ---- the step

-- field by field, as code hands them back
module _ {x y : SteppedIndexed} where
  pub apart : x ≡ y → (x.outcome ≡ y.outcome) × (x.run ≡ y.run) × (x.number ≡ y.number)
  apart e = (ap (λ (s : SteppedIndexed). s.outcome) e, ap (λ (s : SteppedIndexed). s.run) e, ap (λ (s : SteppedIndexed). s.number) e)

  pub together : x.outcome ≡ y.outcome → x.run ≡ y.run → x.number ≡ y.number → x ≡ y
  together e h k = λ i. record { outcome = e i; run = h i; number = k i }

module _ (n : ℕ) (rows : List Row) (index : List ℕ) (run : Run) (number : ℕ) (o : Outcome) (e : o ≡ outcome (indexed_checks n rows index run number)) where
  over_as : stepped_by o n rows run number ≡ stepped_over n rows index run number
  unfolding stepped_over
  over_as = ap (λ (x : Outcome). stepped_by x n rows run number) e

  pub over-taken : o ≡ Ok tt → n ≤ 32 → all_rows (low_row n) rows ≡ true → (next : TalliedRun) → next ≡ tallied_of n rows (step n rows (state_of run))
      → ◌≡◌ {A = SteppedIndexed} (record { outcome = o; run = next.run; number = next.tally.number }) (stepped_over n rows index run number)
  over-taken t narrow low next q =
      let s = step n rows (state_of run) in
      ap₂ (λ (x : Outcome) (h : TalliedRun). record { outcome = x; run = h.run; number = h.tally.number }) t q
      ∙ ap (λ (k : ℕ). record { outcome = Ok tt; run = run_of n s; number = k }) (tally_number n narrow s.t s.f rows low)
      ∙ ap (λ (x : Outcome). stepped_by x n rows run number) (sym t) ∙ over_as

  pub over-refused : (r : Refusal) → o ≡ Err r
      → ◌≡◌ {A = SteppedIndexed} (record { outcome = o; run = run; number = number }) (stepped_over n rows index run number)
  over-refused r t =
      ap (λ (x : Outcome). record { outcome = x; run = run; number = number }) t ∙ ap (λ (x : Outcome). stepped_by x n rows run number) (sym t) ∙ over_as

module _ (d : Dimensions) (tables : Tables) (index : List ℕ) (run : Run) (number : ℕ) where
  abbrev rows : List Row
  rows = rows_of d tables

  abbrev checks : List Check
  checks = indexed_checks d.n rows index run number

  abbrev judged : Outcome
  judged = outcome (table_checks d tables ++ checks)

  abbrev stepped_said : SteppedIndexed → List ℕ
  stepped_said s = code_of s.outcome ∷ (s.number ∷ [])

  says-by : (o : Outcome) → stepped_said (stepped_by o d.n rows run number) ≡ said_or o (number_after d.n rows run) number
  says-by (Ok _) = refl
  says-by (Err r) = refl

  with-stepped : (r : SteppedIndexed) → r ≡ stepped_by judged d.n rows run number
      → (r ≡ stepped_indexed d tables index run number) × (stepped_said r ≡ said_or judged (number_after d.n rows run) number)
  unfolding stepped_indexed
  with-stepped r e = (e, ap stepped_said e ∙ says-by judged)

  pub step-taken : (Ok tt) ≡ outcome (table_checks d tables) → (r : SteppedIndexed) → r ≡ stepped_over d.n rows index run number
      → (r ≡ stepped_indexed d tables index run number) × (stepped_said r ≡ said_or judged (number_after d.n rows run) number)
  unfolding stepped_over
  step-taken e r q =
      with-stepped r
      (q ∙ ap (λ (x : Outcome). stepped_by x d.n rows run number) (sym (outcome-taken (table_checks d tables) checks (sym e))))

  pub step-refused : (o : Outcome) → o ≡ outcome (table_checks d tables) → (r : Refusal) → o ≡ Err r
      → let x : SteppedIndexed = record { outcome = o; run = run; number = number } in
      (x ≡ stepped_indexed d tables index run number) × (stepped_said x ≡ said_or judged (number_after d.n rows run) number)
  step-refused o e r t =
      with-stepped (record { outcome = o; run = run; number = number })
      (ap (λ (x : Outcome). record { outcome = x; run = run; number = number }) t
      ∙ ap (λ (x : Outcome). stepped_by x d.n rows run number) (sym (outcome-refused (table_checks d tables) checks r (sym e ∙ t))))
