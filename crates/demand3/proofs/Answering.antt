-- A host that calls `repeat` on the fresh run with the budget as the times gets the budgeted run's answer: the call's repeats are demand
-- 3's, every attempt is long enough, so they reach the end, and there the demand says so.
use mathlib.Core.Path.{◌≡◌, refl, sym, ap, ◌∙◌}
use mathlib.Core.Bool.{true}
use mathlib.Core.List.{List}
use Prim.Native.Nat.{ℕ, zero, suc, ◌+◌, ◌≤◌}
use native.Mathlib.Omega.{arith}
use lib.ListN.{length, replicate, length-map}
use borrow.Author.Tests.{le-leb}
use Rattle.std.specs.Prelude.{Ok, Err}
use Rattle.refusals.specs.Numbers.{Outcome}
use Rattle.refusals.specs.Checks.{given}
use Rattle.refusals.proofs.Outcomes.{refused-taken}
use Rattle.words.specs.declared.Row.{Row}
use Rattle.dimensions.specs.declared.Dimensions.{Dimensions}
use Rattle.dimensions.specs.Sizes.{state_wire_count, input_wires}
use Rattle.tables.specs.Tables.{Tables}
use Rattle.tables.specs.Rows.{rows_of}
use Rattle.state.specs.declared.Run.{Run}
use Rattle.state.specs.State.{fresh, run_of}
use Rattle.verdicts.specs.Verdicts.{verdict_of}
use Rattle.solver.specs.declared.Answer.{Answer}
use Rattle.solver.specs.Step.{always}
use Rattle.solver.specs.Entries.{answer_of}
use Rattle.solver.proofs.RunLaws.{run_is_of}
use Rattle.netlist.specs.Netlist.{gates_on}
use Rattle.repeats.specs.Repeats.{Attempt, Repeat, last_run, long_enough, long_ones}
use Rattle.repeats.specs.Repeating.{Repeated, whole, made, repeated_by, refused_with, allowed, repeated}
use Rattle.demand3.specs.Demand3.{history_of, answer_for}
use Rattle.repeats.proofs.RepeatChecks.{sizes-taken, Passed, passed}
use Rattle.demand3.proofs.Demand3.{demand3}
use Rattle.demand3.proofs.Consequences.{answer-is}

-- as many long enough attempts as there are
all_long : (d : Dimensions) (a : Attempt) → long_enough d a ≡ true → (k : ℕ) → long_ones d (replicate k a) ≡ k
unfolding long_ones
all_long d a e zero = refl
all_long d a e (suc k) = rw e (ap suc (all_long d a e k))

-- the answer that a result gives
abbrev pub answered : Repeated → Answer
answered r = record { count = r.repeats; verdict = verdict_of r.run.standing r.run.t }

-- the answer counts no more than the budget
count_most : (n budget : ℕ) (rows : ℕ → List Row) → (answer_of n rows budget).count ≤ budget
unfolding answer_of
count_most n budget rows = (run_is_of n rows budget fresh).most

module _ (d : Dimensions) (tables : Tables) (budget : ℕ) (gates bytes wires : List ℕ) where
  abbrev run : Run
  run = run_of d.n fresh

  abbrev attempts : List Attempt
  attempts = replicate budget (whole d bytes wires)

  -- demand 3's repeats
  abbrev history : List Repeat
  history = history_of d (λ i. tables) budget attempts

  -- every attempt of a call that is taken is long enough
  module _ (p : Passed d tables (length gates) (length bytes) (length wires) run) where
    long : long_enough d (whole d bytes wires) ≡ true
    long = rw (le-leb (input_wires d) (length bytes) p.bytes-enough, le-leb (input_wires d + length (gates_on d)) (length wires) p.wires_enough)
        (le-leb (state_wire_count d.n) (state_wire_count d.n + 1) (omega arith))

    answer_is : answered (repeated_by run history) ≡ answer_of d.n (always (rows_of d tables)) budget
    answer_is =
        ap (λ (k : ℕ). record { count = k; verdict = verdict_of (last_run run history).standing (last_run run history).t })
        (sym (length-map history (λ (r : Repeat). r.mark)))
        ∙ answer-is d (demand3 d (sizes-taken d tables p.tables-taken)) (λ i. tables) (λ i. p.tables-taken) budget attempts
        (answer_for d (λ i. tables) budget) refl
        (omega (arith, all_long d (whole d bytes wires) long budget, count_most d.n budget (always (rows_of d tables))))

  -- repeats and verdict of a call that is taken are the budgeted run's
  pub repeat-answers : (repeated d tables budget gates bytes wires run).outcome ≡ Ok tt
      → answered (repeated d tables budget gates bytes wires run) ≡ answer_of d.n (always (rows_of d tables)) budget
  unfolding repeated allowed made run_of
  repeat-answers e = go (allowed d tables budget gates bytes wires run) refl e
    where
      result : Outcome → Repeated
      result o = given o (repeated_by run history) (refused_with run)

      go : (o : Outcome) → allowed d tables budget gates bytes wires run ≡ o → (result o).outcome ≡ Ok tt
          → answered (result o) ≡ answer_of d.n (always (rows_of d tables)) budget
      go (Ok _) q h = answer_is (passed d tables (length gates) (length bytes) (length wires) run q)
      go (Err r) q h = absurd (refused-taken h)
