-- The run through a whole budget: its applications are giant steps, of closed states too, which `whole_budget/proofs/Applications` gives as one equation; each
-- part of the statement is read off it. What is seen, and what a call leaves, then goes by verdict, model and public rows alone.
use mathlib.Core.Path.{◌≡◌, sym, ap, ap₂, ◌∙◌}
use mathlib.Core.Bool.{true}
use mathlib.Core.List.{List, ◌∷◌}
use Prim.Native.Nat.{ℕ, suc, min, ◌+◌, ◌*◌, ◌≤◌, ◌<◌}
use native.Mathlib.Omega.{arith}
use lib.Dec.{ltb}
use lib.ListN.{length, get_or, replicate}
use Rattle.std.specs.Prelude.{Result, Ok, Err}
use Rattle.refusals.specs.declared.Refusal.{Refusal}
use Rattle.refusals.specs.Numbers.{Outcome}
use Rattle.refusals.specs.Checks.{Check, check, outcome, given}
use Rattle.refusals.specs.declared.Refusal.TheVariants as refusal
use Rattle.refusals.proofs.Outcomes.{outcome-taken}
use Rattle.words.specs.declared.Row.{Row}
use Rattle.words.proofs.Truth.{on}
use Rattle.dimensions.specs.declared.Dimensions.{Dimensions}
use Rattle.dimensions.specs.Sizes.{ceiling, input_wires}
use Rattle.tables.specs.Tables.{Tables}
use Rattle.tables.specs.Rows.{rows_of_public, rows_of}
use Rattle.tables.specs.Acceptance.{table_checks}
use Rattle.scan.specs.Rules.{rule}
use Rattle.state.specs.declared.Run.{Run}
use Rattle.state.specs.State.{State, fresh, run_of, state_of}
use Rattle.verdicts.specs.declared.Verdict.{Verdict}
use Rattle.verdicts.specs.Verdicts.{verdict_of}
use Rattle.solver.specs.declared.Answer.{Answer}
use Rattle.solver.specs.Step.{after}
use Rattle.solver.specs.Entries.{answer_of}
use Rattle.solver.proofs.StepLaws.{fresh-well_formed}
use Rattle.truth.proofs.RuleLaws.{ruled}
use Rattle.demand2.specs.Demand2.{most_steps}
use Rattle.demand2.proofs.Bound.{after-closes}
use Rattle.answers.specs.Printed.{answer_text}
use Rattle.netlist.specs.Netlist.{gates_on}
use Rattle.netlist.specs.Outputs.{closed}
use Rattle.generator.specs.Generation.{written_words}
use Rattle.repeats.specs.Repeats.{Accepts, Attempt, long_ones}
use Rattle.repeats.specs.Repeating.{wire_checks}
use Rattle.whole_budget.specs.Applications.{whole_runs, last_of, whole_answer_in, enough, whole_answer}
use Rattle.whole_budget.specs.WholeBudget.{most_budget, cleared, whole_allowed, solved_whole, gates_after_whole, bytes_after_whole, wires_after_whole}
use Rattle.whole_budget.proofs.Applications.{rows, walked, walked-length, walked_at, walked-last, number, applications_are, enough_long, all_long, final-after}
use Rattle.demand3.specs.Demand3.{circuit_text_of}
use Rattle.demand3.proofs.Histories.{closed_open}
use Rattle.whole_secrecy.specs.WholeSecrecy.{FollowsThrough, plain_verdict, SeenWhole, seen_whole, remains, WholeSecrecy}

-- ---- by the verdict

-- the answer that the whole budget gives
abbrev answer_by : ℕ → Verdict → Answer
answer_by budget v = record { count = budget; verdict = v }

-- what is seen, by verdict and public rows
abbrev seen_by : Dimensions → ℕ → Verdict → List Row → SeenWhole
seen_by d budget v public = (circuit_text_of d, budget, answer_text (min d.n 32) (answer_by budget v), public)

module _ (d : Dimensions) (tables : Tables) (acc : Accepts d tables) (budget : ℕ) where
  module _ (attempts : List Attempt) where
    abbrev runs : List Run
    runs = whole_runs d tables budget attempts

    abbrev k : ℕ
    k = number d tables attempts budget

    is : runs ≡ walked d tables fresh k
    is = applications_are d tables acc attempts budget fresh (fresh-well_formed d.n)

    size : length runs ≡ k
    size = ap length is ∙ walked-length d tables fresh k

    at : (i : ℕ) (none : Run) → i < length runs → get_or runs i none ≡ run_of d.n (after d.n (rows d tables) (suc i) fresh)
    at i none b = ap (λ (h : List Run). get_or h i none) is ∙ walked_at d tables fresh k i none (omega (arith, size))

    follows : FollowsThrough d tables budget runs
    follows = record { each = λ i none b. at i none (omega arith); most = omega (arith, size) }

    ends : length runs ≡ budget → whole_answer_in d.n budget runs ≡ answer_by budget (plain_verdict d tables budget)
    unfolding answer_of run_of
    ends e =
        ap (λ (r : Run). answer_by budget (verdict_of r.standing r.t))
        (ap (last_of (run_of d.n fresh)) (is ∙ ap (walked d tables fresh) (sym size ∙ e)) ∙ walked-last d tables fresh budget)
        ∙ ap (λ (s : State). answer_by budget (verdict_of s.standing s.t)) (sym (final-after d.n budget (rows d tables) fresh))

    reaches : budget ≤ long_ones d attempts → length runs ≡ budget
    reaches h = let all : k ≡ budget = omega arith in size ∙ all

    -- so many steps close the run
    closes : (i : ℕ) → most_steps d.n (rows_of d tables) ≤ suc i → closed (after d.n (rows d tables) (suc i) fresh) ≡ true
    unfolding after
    closes i h =
        let s = after d.n (rows d tables) (suc i) fresh in
        on (closed s) (λ e. e)
        (λ e. absurd (after-closes rule ruled d.n (rows_of d tables) (suc i) (rows d tables) (λ j b v o. o) h (closed_open s.standing e)))

    bounds : (i : ℕ) (none : Run) → i < length runs → most_steps d.n (rows_of d tables) ≤ suc i → closed (state_of (get_or runs i none)) ≡ true
    unfolding run_of
    bounds i none b h = ap (λ (r : Run). closed (state_of r)) (at i none b) ∙ closes i h

    shown : length runs ≡ budget → seen_whole d tables budget attempts ≡ seen_by d budget (plain_verdict d tables budget) (rows_of_public d tables)
    shown e = ap₂ (λ (j : ℕ) (a : Answer). (circuit_text_of d, j, answer_text (min d.n 32) a, rows_of_public d tables)) e (ends e)

  -- the answer of attempts with just enough room
  whole-answer : whole_answer d tables budget ≡ answer_by budget (plain_verdict d tables budget)
  unfolding whole_answer
  whole-answer =
      let attempts = replicate budget (enough d) in
      ends attempts (reaches attempts (omega (arith, all_long d (enough d) (enough_long d) budget)))

  -- ---- a call

  module _ (gates bytes wires : List ℕ) where
    -- the checks after those of the tables
    abbrev later : List Check
    later = check (ltb (length gates) (3 * ceiling d)) refusal.GateBuffer
        ∷ (check (ltb most_budget budget) refusal.WholeBudget ∷ wire_checks d (length bytes) (length wires))

    by-later : whole_allowed d tables budget gates bytes wires ≡ outcome later
    unfolding whole_allowed
    by-later = outcome-taken (table_checks d tables) later acc

-- what a call leaves, by what the checks say and by the verdict
remains_by : Dimensions → ℕ → List ℕ → List ℕ → List ℕ → Outcome → Answer → Result Answer Refusal × List ℕ × List ℕ × List ℕ
remains_by d budget gates bytes wires o a = (
  given o (Ok a) Err,
  given o (written_words d gates) (λ r. gates),
  given o (cleared (input_wires d) bytes) (λ r. bytes),
  given o (cleared (input_wires d + length (gates_on d)) wires) (λ r. wires),
)

remains-is : (d : Dimensions) (tables : Tables) (acc : Accepts d tables) (budget : ℕ) (gates bytes wires : List ℕ)
    → remains d tables budget gates bytes wires
    ≡ remains_by d budget gates bytes wires (outcome (later d tables acc budget gates bytes wires)) (answer_by budget (plain_verdict d tables budget))
unfolding remains_by solved_whole gates_after_whole bytes_after_whole wires_after_whole
remains-is d tables acc budget gates bytes wires =
    ap₂ (remains_by d budget gates bytes wires) (by-later d tables acc budget gates bytes wires) (whole-answer d tables acc budget)

-- of any dimensions: for those that no tables are accepted of, it says nothing
pub whole_secrecy : (d : Dimensions) → WholeSecrecy d
whole_secrecy d = record {
  history = λ tables acc budget attempts. follows d tables acc budget attempts;
  end = λ tables acc budget attempts. (ends d tables acc budget attempts, reaches d tables acc budget attempts);
  bound = λ tables acc budget attempts. bounds d tables acc budget attempts;
  secrecy = λ tables tables' acc acc' same budget attempts attempts' q e e'.
      shown d tables acc budget attempts e
      ∙ ap₂ (λ (v : Verdict) (p : List Row). seen_by d budget v p) q same
      ∙ sym (shown d tables' acc' budget attempts' e');
  calls = λ tables tables' acc acc' budget gates bytes wires q.
      remains-is d tables acc budget gates bytes wires
      ∙ ap (λ (v : Verdict). remains_by d budget gates bytes wires (outcome (later d tables acc budget gates bytes wires)) (answer_by budget v)) q
      ∙ sym (remains-is d tables' acc' budget gates bytes wires);
}
