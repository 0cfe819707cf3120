-- A host with an index holds the tables, the run and the count of the host without one, whatever it calls: its index and number stay right, so that no call is
-- refused for them. By induction on the calls.
use mathlib.Core.Path.{◌≡◌, refl, sym, ap, ◌∙◌}
use mathlib.Core.Bool.{true}
use mathlib.Core.List.{List, [], ◌∷◌, ◌++◌, map}
use Prim.Native.Nat.{ℕ, suc, ◌+◌}
use native.Mathlib.Omega.{arith}
use lib.Dec.{eqb}
use borrow.Author.Tests.{eq-eqb}
use Rattle.std.specs.Prelude.{Ok, Err}
use Rattle.refusals.specs.Numbers.{Outcome}
use Rattle.refusals.specs.Checks.{Check, outcome, given}
use Rattle.refusals.proofs.Outcomes.{outcome-taken, outcome_parts, refused-taken}
use Rattle.words.specs.declared.Row.{Row}
use Rattle.words.proofs.Sameness.{same_self}
use Rattle.words.specs.Sameness.{same}
use Rattle.dimensions.specs.declared.Dimensions.{Dimensions}
use Rattle.tables.specs.Tables.{Tables}
use Rattle.tables.specs.Rows.{rows_of}
use Rattle.tables.specs.Acceptance.{table_checks}
use Rattle.tables.proofs.Accepted.{accepted}
use Rattle.state.specs.declared.Run.{Run}
use Rattle.state.specs.State.{fresh, run_of}
use Rattle.state.specs.WellFormed.{well_formed}
use Rattle.state.proofs.HeldRun.{run_of_formed}
use Rattle.solver.proofs.StepLaws.{fresh-well_formed}
use Rattle.occurrences.specs.Index.{index_of}
use Rattle.tally.specs.Tallies.{unsatisfied_rows}
use Rattle.indexed.specs.Entries.{SteppedIndexed, indexed_checks, stepped_by, stepped_indexed}
use Rattle.indexed.specs.SameState.{SameState}
use Rattle.indexed.proofs.Checks.{Kept, kept, take-kept}
use Rattle.indexed.proofs.SameState.{same-state}
use Rattle.late.specs.declared.Condition.{Condition}
use Rattle.late.specs.Replacement.{condition_checks, replaced_in}
use Rattle.late.proofs.Rows.{accepted_still}
use Rattle.late.proofs.Checks.{condition_parts}
use Rattle.late_indexed.specs.Replacement.{replace_checks}
use Rattle.late_indexed.proofs.Replacing.{tables-alike}
use Rattle.repeats.specs.Repeats.{Accepts}
use Rattle.late_runs.specs.Host.{Action, Step, Replace, steps_of}
use Rattle.bounds.specs.CountingHost.{HostCall, StepPlain, ReplaceRow, CountingHost, step_count, act_counting, play_counting, started_counting, steps_asked}
use Rattle.bounds.specs.IndexedHost.{IndexedHost, act_indexed, play_indexed, started_indexed}

-- what it holds without index and number
abbrev without : IndexedHost → CountingHost
without h = record { tables = h.tables; run = h.run; count = h.count }

-- the call without index and number
abbrev call_of : Action → HostCall
call_of Step = StepPlain
call_of (Replace c) = ReplaceRow c

-- these calls
abbrev pub calls_of : List Action → List HostCall
calls_of = map call_of

-- they ask for as many steps as there are
pub steps_asked_lem : (d : Dimensions) (actions : List Action) → steps_asked d (calls_of actions) ≡ steps_of actions
unfolding steps_asked steps_of
steps_asked_lem d [] = refl
steps_asked_lem d (Step ∷ more) = let e : 1 + steps_asked d (calls_of more) ≡ suc (steps_asked d (calls_of more)) = omega arith in
    e ∙ ap suc (steps_asked_lem d more)
steps_asked_lem d (Replace c ∷ more) = let e : 0 + steps_asked d (calls_of more) ≡ steps_asked d (calls_of more) = omega arith in e ∙ steps_asked_lem d more

-- accepted tables, their index, a well-formed run of their n and its number: no call is refused for them
abbrev Right : Dimensions → IndexedHost → Type 0
Right d h = outcome (table_checks d h.tables ++ indexed_checks d.n (rows_of d h.tables) h.index h.run h.number) ≡ Ok tt

module _ (d : Dimensions) where
  -- the parts of it
  right_i : (h : IndexedHost) → Accepts d h.tables → well_formed h.run ≡ true → h.run.n ≡ d.n → h.index ≡ index_of (rows_of d h.tables)
      → h.number ≡ unsatisfied_rows d.n (rows_of d h.tables) h.run.t h.run.f → Right d h
  right_i h acc formed same-n index number =
      let rows = rows_of d h.tables in
      outcome-taken (table_checks d h.tables) (indexed_checks d.n rows h.index h.run h.number) acc
      ∙ sym (take-kept d.n h.run (same h.index (index_of rows)) _ formed
      (ap (λ (l : List ℕ). same l (index_of rows)) index ∙ same_self (index_of rows)) (eq-eqb _ _ number) same-n)

  module _ (h : IndexedHost) (right : Right d h) where
    abbrev rows : List Row
    rows = rows_of d h.tables

    abbrev checks : List Check
    checks = indexed_checks d.n rows h.index h.run h.number

    parts : Accepts d h.tables × (outcome checks ≡ Ok tt)
    parts = outcome_parts (table_checks d h.tables) checks right

    keeps : Kept d.n h.run (same h.index (index_of rows)) (eqb h.number (unsatisfied_rows d.n rows h.run.t h.run.f))
    keeps = kept d.n h.run (same h.index (index_of rows)) _ parts.1

    -- ---- a step

    next : SteppedIndexed
    next = stepped_indexed d h.tables h.index h.run h.number

    step-taken : next.outcome ≡ Ok tt
    unfolding next stepped_indexed
    step-taken = ap (λ (o : Outcome). (stepped_by o d.n rows h.run h.number).outcome) right

    step_same : SameState d h.tables h.index h.run next
    unfolding next
    step_same = same-state d h.tables h.index h.run h.number step-taken

    checks_pass : (run : Run) (number : ℕ) (o : Outcome) → (stepped_by o d.n rows run number).outcome ≡ Ok tt → o ≡ Ok tt
    checks_pass run number (Ok _) e = refl
    checks_pass run number (Err r) e = absurd (refused-taken e)

    step_right : Right d (record { tables = h.tables; index = h.index; run = next.run; number = next.number; count = h.count + step_count h.run })
    unfolding stepped_indexed
    step_right = checks_pass next.run next.number _ step_same.again

    -- ---- a late condition

    module _ (c : Condition) where
      abbrev judged : Outcome
      judged = outcome (replace_checks d h.tables h.index h.run h.number c)

      abbrev left : Outcome → IndexedHost
      left o = record {
        tables = given o (replaced_in d h.tables c) (λ r. h.tables);
        index = given o (index_of (rows_of d (replaced_in d h.tables c))) (λ r. h.index);
        run = h.run;
        number = given o (unsatisfied_rows d.n (rows_of d (replaced_in d h.tables c)) h.run.t h.run.f) (λ r. h.number);
        count = h.count;
      }

      left_right : (o : Outcome) → judged ≡ o → Right d (left o)
      left_right (Err r) e = right
      left_right (Ok _) e =
          let behind = (outcome_parts (table_checks d h.tables) (checks ++ condition_checks d h.tables h.run c) e).1 in
          let fitting = condition_parts d h.tables h.run c (outcome_parts checks (condition_checks d h.tables h.run c) behind).1 in
          right_i (left (Ok tt)) (accepted_still d h.tables c parts.0 fitting.low) keeps.formed keeps.same-n refl refl

    -- ---- a call

    pub act_right : (a : Action) → Right d (act_indexed d h a)
    unfolding act_indexed next
    act_right Step = step_right
    act_right (Replace c) = left_right c (judged c) refl

    pub act-alike : (a : Action) → without (act_indexed d h a) ≡ act_counting d (without h) (call_of a)
    unfolding act_indexed act_counting next
    act-alike Step = ap (λ (r : Run). record { tables = h.tables; run = r; count = h.count + step_count h.run }) step_same.plain
    act-alike (Replace c) =
        ap (λ (t : Tables). record { tables = t; run = h.run; count = h.count })
        (sym (tables-alike d h.tables h.index h.run h.number c right))

  play-alike : (actions : List Action) (h : IndexedHost) → Right d h → without (play_indexed d h actions) ≡ play_counting d (without h) (calls_of actions)
  unfolding play_indexed play_counting
  play-alike [] h right = refl
  play-alike (a ∷ more) h right =
      play-alike more (act_indexed d h a) (act_right h right a) ∙ ap (λ (x : CountingHost). play_counting d x (calls_of more)) (act-alike h right a)

  start_right : (tables : Tables) → Accepts d tables → Right d (started_indexed d tables)
  unfolding run_of
  start_right tables acc =
      let size = (accepted d tables acc).size in
      right_i (started_indexed d tables) acc (run_of_formed d.n fresh size.n_least size.n-most (fresh-well_formed d.n)) refl refl refl

  -- whatever it calls, from the fresh run with its tables' index and number: tables, run and count are those of the host without an index
  pub indexed_alike : (tables : Tables) → Accepts d tables → (actions : List Action)
      → without (play_indexed d (started_indexed d tables) actions) ≡ play_counting d (started_counting d tables) (calls_of actions)
  indexed_alike tables acc actions = play-alike actions (started_indexed d tables) (start_right tables acc)
