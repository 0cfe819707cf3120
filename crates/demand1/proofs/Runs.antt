-- Demand 1 for the functions on tables and runs. Each follows from its checks' outcome, and reads of the tables what `Fronts` says.
use mathlib.Core.Path.{◌≡◌, refl, sym, ap, ap₂, ◌∙◌}
use mathlib.Core.List.{List, [], ◌∷◌, ◌++◌}
use Prim.Native.Nat.{ℕ}
use lib.ListN.{length, take, drop, take-append-drop, length-map}
use native.Mathlib.Omega.{arith}
use Rattle.std.specs.Prelude.{Result, Ok, Err}
use Rattle.refusals.specs.declared.Refusal.{Refusal}
use Rattle.solver.specs.declared.Answer.{Answer}
use Rattle.tables.proofs.Numbering.{tables-length}
use lib.Seq.{sets}
use Rattle.refusals.specs.Numbers.{Outcome, code_of}
use Rattle.refusals.proofs.Outcomes.{refused-taken}
use Rattle.refusals.specs.Checks.{Check, outcome, given}
use Rattle.words.specs.Sets.{bit, all}
use Rattle.dimensions.specs.declared.Dimensions.{Dimensions}
use Rattle.dimensions.specs.Sizes.{size_checks, row_count}
use Rattle.tables.specs.Tables.{Tables}
use Rattle.tables.specs.Rows.{rows_of, free_literals}
use Rattle.tables.specs.Acceptance.{all_below, table_checks}
use Rattle.state.specs.declared.Run.{Run}
use Rattle.state.specs.State.{fresh, run_of}
use Rattle.state.specs.WellFormed.{well_formed, state_checks}
use Rattle.verdicts.specs.Verdicts.{model_checks, model_of, model_code, model_numbers}
use Rattle.scan.specs.Rules.{rule}
use Rattle.solver.specs.Step.{Ruling, always}
use Rattle.solver.specs.Entries.{Stepped, stepped_with, stepped, answer_with, solved_with, solved, solved_code, solved_numbers}
use Rattle.free_counts.specs.Counts.{free_counts_of, count_checks, counts_after}
use Rattle.codes.specs.Codes.{variable_checks}
use Rattle.lent.specs.Lent.{numbers_or, stored_if}
use Rattle.host_circuits.specs.Circuits.{size_numbers}
use Rattle.host_runs.specs.Runs.{step_stored}
use Rattle.stored.specs.Words.{run_in}
use Rattle.demand1.specs.Calls.{Effect, beside}
use Rattle.demand1.specs.Demand1.{Demand1}
use Rattle.demand1.specs.Named.{named_tables}
use Rattle.demand1.specs.Examples.{fresh_words, satisfied_words}
use Rattle.demand1.specs.Runs.{sizes, accept, judge, fresh_run, step_plain, solve, model, count_free}
use Rattle.demand1.proofs.Shapes.{Judged, by-outcome, by-held, demand, whole, as_given, by_number, by-sizes}
use Rattle.demand1.proofs.Fronts.{named-rows, named-short, named-high, named-checks, front-short, sets-front, front_kept}

pub of_sizes_lem : Demand1 sizes
of_sizes_lem =
    whole sizes
    (by-sizes sizes (λ a. a.0) (λ (d, lent) h i. (h i, lent)) (λ a. refl) (λ a. refl) (λ a. refl))
    (λ (d, lent). by-outcome (size_checks d) (lent ∷ []) code_of (λ o. given o (size_numbers d) (λ r. lent) ∷ []) refl (λ r. refl) (λ r. refl))
    (λ a. refl) refl (λ a. refl) (λ a. refl)

pub of_accept : Demand1 accept
unfolding all_below
of_accept =
    whole accept
    (by-sizes accept (λ a. a.0) (λ (d, tables) h i. (h i, tables)) (λ a. refl) (λ a. refl) (λ a. refl))
    (λ (d, tables). by-outcome (table_checks d tables) [] code_of (λ o. []) refl (λ r. refl) (λ r. refl))
    (λ a. refl) refl (λ a. refl)
    (λ (d, tables). ap (λ (cs : List Check). record { returned = code_of (outcome cs); judged = cs; lent = []; left = [] }) (sym (named-checks d tables)))

pub of_judge : Demand1 judge
of_judge =
    whole judge (as_given judge (λ a. refl)) (λ a. record { numbered = refl; unchanged = λ r e. absurd (refused-taken (sym e)) })
    (λ a. refl) refl (λ a. refl) (λ a. refl)

pub of_fresh : Demand1 fresh_run
of_fresh =
    whole fresh_run
    (by_number fresh_run (λ a. a.0) (λ (n, run) h i. (h i, run)) (λ a. refl) (λ a. refl) (λ a. refl))
    (λ (n, run). by-outcome (variable_checks n) (run ∷ []) code_of (λ o. stored_if o (run_of n fresh) run ∷ []) refl (λ r. refl) (λ r. refl))
    (λ a. refl) refl (λ a. refl) (λ a. refl)

-- ---- the step

module _ (ruling : Ruling) (d : Dimensions) (tables : Tables) (run : Run) where
  pub stepped-outcome : (stepped_with ruling d tables run).outcome ≡ outcome (table_checks d tables ++ state_checks d run)
  unfolding stepped_with
  stepped-outcome = go _ (outcome (table_checks d tables ++ state_checks d run))
    where
      go : (x : Run) (o : Outcome) → (given {A = Stepped} o (record { outcome = Ok tt; run = x }) (λ r. record { outcome = Err r; run = run })).outcome ≡ o
      go x (Ok _) = refl
      go x (Err r) = refl

  pub stepped-named : stepped_with ruling d tables run ≡ stepped_with ruling d (named_tables d tables) run
  unfolding stepped_with
  stepped-named = rw (← named-short d tables, ← named-high d tables, ← named-rows d tables)

-- a step of the run in lent words, by any ruling
module _ (ruling : Ruling) (d : Dimensions) (tables : Tables) (run : List ℕ) where
  abbrev step_call : List Check → Stepped → Effect
  step_call cs s = record { returned = code_of s.outcome; judged = cs ++ state_checks d (run_in run); lent = run ∷ []; left = step_stored s run ∷ [] }

  -- its number and its words follow from its checks' outcome
  pub step-judged : Judged (step_call (table_checks d tables) (stepped_with ruling d tables (run_in run)))
  step-judged =
      let s = stepped_with ruling d tables (run_in run) in
      by-held (table_checks d tables ++ state_checks d (run_in run)) (run ∷ []) s.outcome (λ o. stored_if o s.run run ∷ [])
      (stepped-outcome ruling d tables (run_in run)) (λ r. refl)

  -- and it reads the words named alone
  pub step_same : step_call (table_checks d tables) (stepped_with ruling d tables (run_in run))
      ≡ step_call (table_checks d (named_tables d tables)) (stepped_with ruling d (named_tables d tables) (run_in run))
  step_same = ap₂ step_call (sym (named-checks d tables)) (stepped-named ruling d tables (run_in run))

pub of_step : Demand1 step_plain
unfolding stepped run_in all_below fresh_words all bit
of_step =
    whole step_plain
    (by-sizes step_plain (λ a. a.0) (λ (d, tables, run) h i. (h i, tables, run)) (λ a. refl) (λ a. refl) (λ a. refl))
    (λ (d, tables, run). step-judged rule d tables run) (λ a. refl) refl (λ a. refl) (λ (d, tables, run). step_same rule d tables run)

-- ---- the answer of a whole run

module _ (ruling : Ruling) (d : Dimensions) (tables : Tables) (budget : ℕ) (answer : List ℕ) where
  abbrev solve_call : List Check → Result Answer Refusal → Effect
  solve_call cs s = record { returned = solved_code s; judged = cs; lent = answer ∷ []; left = numbers_or (solved_numbers s) answer ∷ [] }

  pub solved-judged : Judged (solve_call (table_checks d tables) (solved_with ruling d tables budget))
  unfolding solved_with
  solved-judged =
      let s : Outcome → Result Answer Refusal = λ o. given o (Ok (answer_with ruling d.n (always (rows_of d tables)) budget)) Err in
      by-outcome (table_checks d tables) (answer ∷ []) (λ o. solved_code (s o)) (λ o. numbers_or (solved_numbers (s o)) answer ∷ []) refl (λ r. refl)
      (λ r. refl)

  pub solved-named : solved_with ruling d tables budget ≡ solved_with ruling d (named_tables d tables) budget
  unfolding solved_with
  solved-named = rw (← named-short d tables, ← named-high d tables, ← named-rows d tables)

  pub solve-same : solve_call (table_checks d tables) (solved_with ruling d tables budget)
      ≡ solve_call (table_checks d (named_tables d tables)) (solved_with ruling d (named_tables d tables) budget)
  solve-same = ap₂ solve_call (sym (named-checks d tables)) solved-named

pub of_solve : Demand1 solve
unfolding solved all_below
of_solve =
    whole solve
    (by-sizes solve (λ a. a.0) (λ (d, tables, budget, answer) h i. (h i, tables, budget, answer)) (λ a. refl) (λ a. refl) (λ a. refl))
    (λ (d, tables, budget, answer). solved-judged rule d tables budget answer) (λ a. refl) refl (λ a. refl)
    (λ (d, tables, budget, answer). solve-same rule d tables budget answer)

pub of_model : Demand1 model
unfolding model_of run_in fresh_words satisfied_words well_formed all bit
of_model =
    whole model (as_given model (λ a. refl))
    (λ (run, lent).
    let m : Outcome → Result ℕ Refusal = λ o. given o (Ok (run_in run).t) Err in
    by-outcome (model_checks (run_in run)) (lent ∷ []) (λ o. model_code (m o)) (λ o. numbers_or (model_numbers (m o)) lent ∷ []) refl (λ r. refl) (λ r. refl))
    (λ a. refl) refl (λ a. refl) (λ a. refl)

-- ---- the counts

module _ (d : Dimensions) (tables : Tables) (run : Run) (counts : List ℕ) where
  count-checked : count_checks d tables run (length counts) ≡ count_checks d (named_tables d tables) run (length (take (row_count d) counts))
  count-checked = rw (← named-short d tables, ← named-high d tables, ← front-short (row_count d) counts)

  count_written : outcome (count_checks d tables run (length counts)) ≡ Ok tt
      → counts_after d tables run counts ≡ counts_after d (named_tables d tables) run (take (row_count d) counts) ++ drop (row_count d) counts
  unfolding counts_after
  count_written h =
      front_kept _ _ _ _ h (ap outcome count-checked)
      (sets-front (free_counts_of d.n (rows_of d tables) run.t run.f) (row_count d) counts
      (omega (arith, length-map (rows_of d tables) (λ r. free_literals d.n r run.t run.f), tables-length d tables))
      ∙ rw (← named-rows d tables))

pub of_count-free : Demand1 count_free
unfolding counts_after run_in fresh_words all_below all bit beside well_formed
of_count-free =
    demand count_free
    (by-sizes count_free (λ a. a.0) (λ (d, tables, run, counts) h i. (h i, tables, run, counts)) (λ a. refl) (λ a. refl) (λ a. refl))
    (record {
      judged = λ (d, tables, run, counts).
          by-outcome (count_checks d tables (run_in run) (length counts)) (counts ∷ []) code_of
          (λ o. given o (sets counts 0 (free_counts_of d.n (rows_of d tables) (run_in run).t (run_in run).f)) (λ r. counts) ∷ []) refl (λ r. refl) (λ r. refl);
      order = λ a. refl;
      occurs = refl;
      split = λ (d, tables, run, counts). ap (λ (l : List ℕ). l ∷ []) (sym (take-append-drop (row_count d) counts));
      checked = λ (d, tables, run, counts). ap outcome (count-checked d tables (run_in run) counts);
      written = λ (d, tables, run, counts) h. ap (λ (l : List ℕ). l ∷ []) (count_written d tables (run_in run) counts h);
    })
