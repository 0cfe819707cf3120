-- A step that is taken gives the plain step's run and that run's number, and so is taken again with both: from the checks that it passed.
use mathlib.Core.Path.{◌≡◌, refl, sym, ap, ◌∙◌}
use mathlib.Core.Bool.{Bool, true}
use mathlib.Core.List.{List, ◌++◌}
use Prim.Native.Nat.{ℕ}
use lib.Dec.{eqb}
use borrow.Author.Tests.{eq-eqb}
use Rattle.std.specs.Prelude.{Ok, Err}
use Rattle.refusals.specs.Numbers.{Outcome}
use Rattle.refusals.specs.Checks.{outcome}
use Rattle.refusals.proofs.Outcomes.{refused-taken, outcome-taken, outcome_parts}
use Rattle.words.specs.declared.Row.{Row}
use Rattle.words.specs.Sameness.{same}
use Rattle.dimensions.specs.declared.Dimensions.{Dimensions}
use Rattle.tables.specs.Tables.{Tables}
use Rattle.tables.specs.Rows.{rows_of}
use Rattle.tables.specs.Acceptance.{table_checks}
use Rattle.state.specs.declared.Run.{Run}
use Rattle.state.specs.State.{state_of, run_of}
use Rattle.state.specs.WellFormed.{well_formed, state_checks}
use Rattle.state.proofs.Checks.{take-state}
use Rattle.solver.specs.Step.{step}
use Rattle.solver.specs.Entries.{Stepped, stepped}
use Rattle.solver.proofs.Entries.{step-taken}
use Rattle.solver.proofs.HeldStep.{step_formed_run}
use Rattle.occurrences.specs.Index.{index_of}
use Rattle.tally.specs.Tallies.{unsatisfied_rows}
use Rattle.indexed.specs.Entries.{SteppedIndexed, indexed_checks, number_after, stepped_by, stepped_indexed}
use Rattle.indexed.specs.SameState.{SameState}
use Rattle.indexed.proofs.Checks.{Kept, kept, take-kept}

module _ (d : Dimensions) (tables : Tables) (index : List ℕ) (run : Run) (number : ℕ) where
  abbrev rows : List Row
  rows = rows_of d tables

  abbrev exact : Bool
  exact = same index (index_of rows)

  abbrev next : SteppedIndexed
  next = stepped_indexed d tables index run number

  checks_pass : (o : Outcome) → (stepped_by o d.n rows run number).outcome ≡ Ok tt → o ≡ Ok tt
  checks_pass (Ok _) e = refl
  checks_pass (Err r) e = absurd (refused-taken e)

  module _ (taken : next.outcome ≡ Ok tt) where
    all : outcome (table_checks d tables ++ indexed_checks d.n rows index run number) ≡ Ok tt
    unfolding stepped_indexed
    all = checks_pass (outcome (table_checks d tables ++ indexed_checks d.n rows index run number)) taken

    accepts : outcome (table_checks d tables) ≡ Ok tt
    accepts = (outcome_parts (table_checks d tables) (indexed_checks d.n rows index run number) all).0

    keeps : Kept d.n run exact (eqb number (unsatisfied_rows d.n rows run.t run.f))
    keeps = kept d.n run exact _ (outcome_parts (table_checks d tables) (indexed_checks d.n rows index run number) all).1

    is : next ≡ record { outcome = Ok tt; run = run_of d.n (step d.n rows (state_of run)); number = number_after d.n rows run }
    unfolding stepped_indexed
    is = ap (λ (o : Outcome). stepped_by o d.n rows run number) all

    plain : next.run ≡ (stepped d tables run).run
    plain =
        let e : (Ok tt) ≡ outcome (table_checks d tables ++ state_checks d run) =
        take-state d run keeps.formed keeps.same-n ∙ sym (outcome-taken (table_checks d tables) (state_checks d run) accepts) in
        ap (λ (s : SteppedIndexed). s.run) is
        ∙ ap (λ (s : Stepped). s.run) (step-taken d tables run (Ok tt) e refl (run_of d.n (step d.n rows (state_of run))) refl)

    right : next.number ≡ unsatisfied_rows d.n rows next.run.t next.run.f
    unfolding run_of
    right = ap (λ (s : SteppedIndexed). s.number) is ∙ sym (ap (λ (s : SteppedIndexed). unsatisfied_rows d.n rows s.run.t s.run.f) is)

    formed_then : well_formed next.run ≡ true
    formed_then = ap (λ (s : SteppedIndexed). well_formed s.run) is ∙ step_formed_run d.n rows run keeps.same-n keeps.formed

    same-n-then : next.run.n ≡ d.n
    unfolding run_of
    same-n-then = ap (λ (s : SteppedIndexed). s.run.n) is

    again : (stepped_indexed d tables index next.run next.number).outcome ≡ Ok tt
    unfolding stepped_indexed
    again =
        let e : outcome (table_checks d tables ++ indexed_checks d.n rows index next.run next.number) ≡ Ok tt =
        outcome-taken (table_checks d tables) (indexed_checks d.n rows index next.run next.number) accepts
        ∙ sym (take-kept d.n next.run exact _ formed_then keeps.sets (eq-eqb _ _ right) same-n-then) in
        ap (λ (o : Outcome). (stepped_by o d.n rows next.run next.number).outcome) e

    -- the step with an index gives the plain step's run and the right number, and the next step is taken
    pub same-state : SameState d tables index run next
    same-state = record { plain = plain; right = right; again = again }

-- what the record says: the indexed step's run is the plain step's
pub plain_step : (d : Dimensions) (tables : Tables) (index : List ℕ) (run : Run) (next : SteppedIndexed) → SameState d tables index run next
    → next.run ≡ (stepped d tables run).run
plain_step d tables index run next x = x.plain
