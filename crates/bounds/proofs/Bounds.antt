-- The bound of every run: each answer from the fresh run is demand 2's, and a host's calls lower the potential that demand 2's bound comes from.
use mathlib.Core.Path.{◌≡◌, refl, sym, ap, ◌∙◌, subst}
use mathlib.Core.List.{List}
use Prim.Native.Nat.{ℕ, zero, suc, ◌^◌, ◌≤◌}
use native.Mathlib.Omega.{arith}
use lib.Pow.{pow_mono}
use lib.ListN.{length}
use Rattle.std.specs.Prelude.{Ok, Err}
use Rattle.refusals.specs.Numbers.{Outcome}
use Rattle.refusals.specs.Checks.{outcome, given}
use Rattle.words.specs.declared.Row.{Row}
use Rattle.dimensions.specs.declared.Dimensions.{Dimensions}
use Rattle.tables.specs.Tables.{Tables}
use Rattle.tables.specs.Rows.{rows_of}
use Rattle.tables.specs.Acceptance.{table_checks}
use Rattle.state.specs.declared.Run.{Run}
use Rattle.state.specs.declared.Standing.{Standing}
use Rattle.state.specs.declared.Standing.TheVariants.{Open, Satisfied, Refuted}
use Rattle.state.specs.State.{State, fresh, run_of}
use Rattle.verdicts.specs.declared.Verdict.TheVariants.{Unknown}
use Rattle.verdicts.specs.Verdicts.{verdict_of}
use Rattle.scan.specs.Rules.{rule}
use Rattle.solver.specs.declared.Answer.{Answer}
use Rattle.solver.specs.Step.{Ruling, always, after_with, after}
use Rattle.solver.specs.Entries.{answer_with, solved_with, solved}
use Rattle.truth.specs.Truth.{occurs, occurring}
use Rattle.truth.proofs.RuleLaws.{Applies, ruled}
use Rattle.demand2.specs.Demand2.{at_end, most_steps, Demand2Of}
use Rattle.demand2.proofs.Demand2.{demand2_tables}
use Rattle.demand2.proofs.Bound.{open_some, fresh_kept, fresh-most, after-closes, occurring_le}
use Rattle.demand2.proofs.Consequences.{one-step}
use Rattle.weighted.specs.Weights.{weighted_rule}
use Rattle.weighted.proofs.Applying.{weighted_applies}
use Rattle.repeats.specs.Repeats.{Accepts, Attempt}
use Rattle.whole_budget.specs.Applications.{whole_answer}
use Rattle.whole_budget.specs.WholeBudget.{whole_allowed, solved_whole}
use Rattle.whole_budget.proofs.Applications.{enough-last}
use Rattle.whole_budget.proofs.WholeChecks.{passed}
use Rattle.demand3.specs.Demand3.{answer_for}
use Rattle.demand3.proofs.Demand3.{repeats-few}
use Rattle.late_runs.specs.Schedule.{Dated, tables_at, rows_at}
use Rattle.late_runs.specs.Host.{Action, steps_of}
use Rattle.late_runs.proofs.Schedule.{tables-accepted}
use Rattle.late_runs.proofs.Demands.{demand2_late, end_late}
use Rattle.bounds.specs.CountingHost.{HostCall, CountingHost, play_counting, started_counting}
use Rattle.bounds.specs.Bounds.{Bounded, Bounds, CircuitBounds, HostBounded, HostBounds, IndexedBounds}
use Rattle.bounds.proofs.CountingHosts.{play_lowers}
use Rattle.bounds.proofs.IndexedHosts.{calls_of, steps_asked_lem, indexed_alike}

-- ---- from demand 2

-- an answer that meets demand 2, of states that begin open, is bounded
bounded : (n : ℕ) (rows : ℕ → List Row) (states : ℕ → State) (budget : ℕ) (answer : Answer) → Demand2Of n rows states budget answer
    → (states 0).standing ≡ Open → Bounded n (at_end rows answer) budget answer
bounded n rows states budget answer holds begins = record {
  most = holds.bound_count;
  enough = holds.bound;
  one = λ none some. let o = one-step n rows budget answer holds none some in (go answer.count refl o.0 some, o.1);
}
  where
    go : (k : ℕ) → answer.count ≡ k → k ≤ 1 → 1 ≤ budget → k ≡ 1
    go zero e b some = absurd (omega (arith, holds.count-closes (ap (λ (j : ℕ). (states j).standing) e ∙ begins)))
    go (suc k) e b some = omega arith

-- ---- what each entry answers

module _ (d : Dimensions) (tables : Tables) (budget : ℕ) where
  -- an entry that gives an answer has passed its checks, and gives this one
  given_of : (checks : Outcome) (a answer : Answer) → given checks (Ok a) Err ≡ Ok answer → (checks ≡ Ok tt) × (a ≡ answer)
  given_of (Ok _) a answer e = (refl, cc)
  given_of (Err r) a answer e = let z : ◌≡◌ {A = ℕ} 0 1 = cc in absurd (omega arith)

  entry_bounded : (ruling : Ruling) → Applies ruling → (answer : Answer) → solved_with ruling d tables budget ≡ Ok answer
      → Bounded d.n (rows_of d tables) budget answer
  unfolding solved_with after_with
  entry_bounded ruling applies answer e =
      let rows = always (rows_of d tables) in
      let g = given_of (outcome (table_checks d tables)) (answer_with ruling d.n rows budget) answer e in
      subst (Bounded d.n (rows_of d tables) budget) g.1
      (bounded d.n rows (λ k. after_with ruling d.n rows k fresh) budget _ (demand2_tables ruling applies d tables budget g.0) refl)

  open_still : (st : Standing) (t : ℕ) → verdict_of st t ≡ Unknown → st ≡ Open
  open_still Open t e = refl
  open_still Satisfied t e = let z : ◌≡◌ {A = ℕ} 0 1 = cc in absurd (omega arith)
  open_still Refuted t e = let z : ◌≡◌ {A = ℕ} 0 1 = cc in absurd (omega arith)

  whole-closes : Accepts d tables → most_steps d.n (rows_of d tables) ≤ budget → (whole_answer d tables budget).verdict ≡ Unknown → ⊥
  unfolding whole_answer after run_of
  whole-closes acc h e =
      let s = after d.n (always (rows_of d tables)) budget fresh in
      after-closes rule ruled d.n (rows_of d tables) budget (always (rows_of d tables)) (λ i b v o. o) h
      (open_still s.standing s.t (ap (λ (r : Run). verdict_of r.standing r.t) (sym (enough-last d tables acc budget)) ∙ e))

  whole-bounded : (gates bytes wires : List ℕ) (answer : Answer) → solved_whole d tables budget gates bytes wires ≡ Ok answer
      → (answer.count ≡ budget) × (most_steps d.n (rows_of d tables) ≤ budget → answer.verdict ≡ Unknown → ⊥)
  unfolding solved_whole whole_allowed whole_answer
  whole-bounded gates bytes wires answer e =
      let g = given_of (whole_allowed d tables budget gates bytes wires) (whole_answer d tables budget) answer e in
      let acc : Accepts d tables = (passed d tables budget (length gates) (length bytes) (length wires) g.0).tables-taken in (
        ap (λ (a : Answer). a.count) (sym g.1),
        λ h u. whole-closes acc h (ap (λ (a : Answer). a.verdict) g.1 ∙ u),
      )

  -- 2 ^ (k + 1) - 1 for what each entry answers, plain, weighted and through a whole budget
  pub bounds : Bounds d tables budget
  unfolding solved
  bounds = record {
    plain = entry_bounded rule ruled;
    weighted = entry_bounded weighted_rule weighted_applies;
    whole = whole-bounded;
    by_n =
        let p : 2 ^ suc (occurring d.n (rows_of d tables)) ≤ 2 ^ suc d.n =
        pow_mono (omega (arith, occurring_le d.n (rows_of d tables))) in omega arith;
  }

-- ---- the circuit's repeats

module _ (d : Dimensions) (tables : Tables) (acc : Accepts d tables) (conditions : List Dated) (budget : ℕ) (attempts : List Attempt) where
  abbrev rows : ℕ → List Row
  rows = rows_at d tables conditions

  abbrev plain_answer : Answer
  plain_answer = answer_for d (tables_at d tables conditions) budget

  plain-bounded : Bounded d.n (at_end rows plain_answer) budget plain_answer
  unfolding after
  plain-bounded = bounded d.n rows (λ k. after d.n rows k fresh) budget plain_answer (demand2_late d tables acc conditions budget) refl

  -- and for the circuit's repeats over tables that change, whatever the attempts
  pub circuit_bounds : CircuitBounds d tables conditions budget attempts
  circuit_bounds = record {
    most = omega (arith, repeats-few d (tables_at d tables conditions) (tables-accepted d conditions tables acc) budget attempts, plain-bounded.most);
    enough = λ h. (end_late d tables acc conditions budget attempts).1 (omega (arith, plain-bounded.most));
    answer = λ ended.
        subst (λ (a : Answer). Bounded d.n (at_end rows a) budget a) (sym ((end_late d tables acc conditions budget attempts).0 ended)) plain-bounded;
  }

-- ---- a host's calls

module _ (d : Dimensions) (tables : Tables) (acc : Accepts d tables) where
  -- and for a host's calls in any order, by the tables that it holds
  pub host_bounds : (calls : List HostCall) → HostBounds d tables calls
  unfolding run_of
  host_bounds calls =
      let h = play_counting d (started_counting d tables) calls in
      let last = rows_of d h.tables in
      let ends = play_lowers d (occurs d.n last) calls tables acc fresh (fresh_kept d.n last) 0 (λ v o. o) in
      let start = fresh-most d.n last in
      record {
        most = omega (arith, ends.counts, ends.lowers.spent);
        enough = λ reach e.
            let none = ends.lowers.reached 0 (omega arith) in
            let some = open_some d.n (occurs d.n last) ends.state (ap (λ (r : Run). r.standing) (sym ends.is) ∙ e) in
            omega arith;
      }

  -- and with an index and a number
  pub indexed_bounds : (actions : List Action) → IndexedBounds d tables actions
  indexed_bounds actions =
      subst (λ (h : CountingHost). HostBounded d (steps_of actions) h.count h.tables h.run) (sym (indexed_alike d tables acc actions))
      (subst (λ (k : ℕ). let h = play_counting d (started_counting d tables) (calls_of actions) in HostBounded d k h.count h.tables h.run)
      (steps_asked_lem d actions) (host_bounds (calls_of actions)))
