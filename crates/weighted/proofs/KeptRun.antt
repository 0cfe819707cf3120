-- A weighted run with its tally: the rule read off the tally is the weighted rule, the tally after it is exactly that of T and F then, and so the loop
-- knows of run and count what every loop of weighted steps knows.
use mathlib.Core.Path.{◌≡◌, refl, sym, ap, ap₂, ◌∙◌, subst⁻¹}
use mathlib.Core.Bool.{Bool, true, false}
use mathlib.Core.List.{List, reverse}
use Prim.Native.Nat.{ℕ, ◌+◌, ◌-◌, ◌^◌, ◌≤◌, ◌<◌}
use native.Mathlib.Nat.{lt_of_lt_of_le}
use native.Mathlib.Omega.{arith}
use lib.Bits.{bit_or}
use lib.Dec.{ltb}
use lib.ListN.{length, replicate, length-append, length-reverse, length-replicate}
use lib.Pow.{pow_mono}
use Rattle.std.specs.Prelude.{Result, Ok, Err}
use Rattle.refusals.specs.declared.Refusal.{Refusal}
use Rattle.words.specs.declared.Row.{Row}
use Rattle.tables.specs.Rows.{rows_from}
use Rattle.tables.specs.Acceptance.{low_row}
use Rattle.scan.specs.declared.Rule.{Rule}
use Rattle.scan.specs.declared.Rule.TheVariants.{AllSatisfied, Conflict, Unit, Choice}
use Rattle.scan.specs.Rules.{rule}
use Rattle.state.specs.declared.Run.{Run}
use Rattle.state.specs.State.{State, fresh, state_of, levels_of, none, run_of, if_open}
use Rattle.state.specs.WellFormed.{well_formed, well_formed_state}
use Rattle.state.proofs.WellFormedLaws.{Formed, formed_e}
use Rattle.state.proofs.HeldRun.{length-levels, state-back, run-back, formed_run_e, formed_tidy}
use Rattle.rules.specs.Followed.{followed}
use Rattle.truth.proofs.RuleLaws.{Ruled, choice_settable}
use Rattle.truth.proofs.LowRows.{low-positive, low-negative}
use Rattle.verdicts.specs.declared.Verdict.{Verdict}
use Rattle.verdicts.specs.Verdicts.{verdict_of}
use Rattle.solver.specs.declared.Answer.{Answer}
use Rattle.solver.specs.Step.{follow, always}
use Rattle.solver.specs.Entries.{Ran, run_with, answer_with}
use Rattle.solver.proofs.HeldRules.{held as kept}
use Rattle.solver.proofs.HeldStep.{fits_ruled, open_step-with}
use Rattle.solver.proofs.BudgetedRun.{RunningWith, open_e, running_from-with, running_on_with, running_done-with}
use Rattle.tally.specs.declared.Tally.{Tally}
use Rattle.tally.specs.Tallies.{tally_of}
use Rattle.tally.specs.Ruling.{rule_by, tally_by}
use Rattle.tally.proofs.AfterSetting.{after_setting}
use Rattle.indexed.specs.declared.StepsTaken.{StepsTaken}
use Rattle.indexed.specs.Tallied.{Indexed}
use Rattle.indexed.specs.Continuing.{Continued, continued_by, steps_taken}
use Rattle.indexed.proofs.RuleTests.{choice_calm}
use Rattle.indexed.proofs.TallyAfter.{wide, ready, rule-read, tally_is}
use Rattle.weighted.specs.Weights.{weight, heaviest, choosing, weighted_rule}
use Rattle.weighted.specs.Floats.{set_weight}
use Rattle.weighted.proofs.Greatest.{greatest_cong}
use Rattle.weighted.proofs.Choosing.{heaviest-rows}
use Rattle.weighted.proofs.SetWeights.{set_is}
use Rattle.weighted.proofs.Applying.{weighted_applies}

heaviest_cong : (w u : ℕ → ℕ) (n : ℕ) → ((i : ℕ) → i < n → w i ≡ u i) → heaviest w n ≡ heaviest u n
unfolding heaviest
heaviest_cong w u n e = greatest_cong (λ i j. ltb (w i) (w j)) (λ i j. ltb (u i) (u j)) n (λ i j a b. ap₂ ltb (e i a) (e j b))

-- a run that holds its own state has 32 places for levels
room_of : (n : ℕ) (run : Run) → run ≡ run_of n (state_of run) → run.depth ≤ 32 → length run.levels ≡ 32
unfolding run_of
room_of n run tidy deep =
    let ls = levels_of run.depth run.levels in
    ap (λ (r : Run). length r.levels) tidy
    ∙ length-append (reverse ls) (replicate (32 - length ls) none)
    ∙ filled (length (reverse ls)) (length (replicate (32 - length ls) none)) (length ls) (length-reverse ls) (length-replicate (32 - length ls) none)
    (omega (arith, deep, length-levels run.depth run.levels))
  where
    filled : (a b k : ℕ) → a ≡ k → b ≡ 32 - k → k ≤ 32 → a + b ≡ 32
    filled a b k p q h = omega arith

-- what the loop knows of run, tally and count, from the state that it began with
pub record Kept (n : ℕ) (rows : List Row) (times : ℕ) (start : State) (run : Run) (tally : Tally) (count : ℕ) : Type 0 where
  pub running : RunningWith weighted_rule n rows times start run count
  pub exact : tally ≡ tally_of rows run.t run.f

-- at its start, of a well-formed run with 32 places for levels
pub kept_from : (rows : List Row) (times : ℕ) (run : Run) → well_formed run ≡ true → length run.levels ≡ 32
    → (tally : Tally) → tally ≡ tally_of rows run.t run.f → Kept run.n rows times (state_of run) run tally 0
kept_from rows times run formed room tally q = record {
  running = running_from-with weighted_rule weighted_applies run.n rows times run refl formed
      (run-back run (formed_tidy run room (formed_run_e run formed)));
  exact = q;
}

module _ (n : ℕ) (words : List ℕ) (m : ℕ) (index : List ℕ) (x : Indexed n words m index) where
  abbrev rows : List Row
  rows = rows_from words 0 m

  module _ (s : State) (o : Formed n s) (tally : Tally) (exact : tally ≡ tally_of rows s.t s.f) where
    wide_low : {a : ℕ} → a < 2 ^ n → a < 2 ^ 32
    wide_low h = lt_of_lt_of_le h (pow_mono x.most)

    -- the heaviest by the set of unsatisfied rows is the heaviest by all rows
    heaviest-is : heaviest (set_weight words tally.unsatisfied (4294967295 - bit_or s.t s.f)) 32 ≡ heaviest (weight n rows s.t s.f) n
    unfolding tally_of
    heaviest-is =
        heaviest_cong _ (weight 32 rows s.t s.f) 32
        (λ i b. ap (λ (y : Tally). set_weight words y.unsatisfied (4294967295 - bit_or s.t s.f) i) exact
        ∙ set_is words s.t s.f (wide_low o.own.low_t) (wide_low o.own.low-f) i b m x.few)
        ∙ heaviest-rows n 32 s.t s.f x.most rows
        (λ r y. let l : low_row n r ≡ true = y (low_row n) x.low in (low-positive n r l, low-negative n r l))

    -- the rule found
    pub weighted_read : choosing (heaviest (set_weight words tally.unsatisfied (4294967295 - bit_or s.t s.f)) 32) (rule_by index s.t s.f tally)
        ≡ weighted_rule n rows s.t s.f
    unfolding weighted_rule
    weighted_read = ap₂ choosing heaviest-is (rule-read n words m index x s o tally exact)

    -- the tally after it
    tally_with : (v : ℕ) (k : Rule) → rule n rows s.t s.f ≡ k → Ruled n rows s.t s.f (choosing v k) → let c = choosing v k in
        tally_by words m index s.t s.f (follow s c).t (follow s c).f c tally ≡ tally_of rows (follow s c).t (follow s c).f
    tally_with v AllSatisfied e w = tally_is n words m index x s o tally exact AllSatisfied e
    tally_with v Conflict e w = tally_is n words m index x s o tally exact Conflict e
    tally_with v (Unit u positive) e w = tally_is n words m index x s o tally exact (Unit u positive) e
    tally_with v (Choice u) e w =
        after_setting words m index s.t s.f v tally
        (ready n words m index x s o tally exact v (choice_settable n rows s.t s.f w)
        (choice_calm 32 rows s.t s.f u (wide n words m index x s.t s.f ∙ e))) true

    pub tally_weighted : (found : Rule) → found ≡ weighted_rule n rows s.t s.f
        → tally_by words m index s.t s.f (follow s found).t (follow s found).f found tally ≡ tally_of rows (follow s found).t (follow s found).f
    unfolding weighted_rule
    tally_weighted found e =
        subst⁻¹
        (λ (c : Rule). tally_by words m index s.t s.f (follow s c).t (follow s c).f c tally ≡ tally_of rows (follow s c).t (follow s c).f)
        e (tally_with _ (rule n rows s.t s.f) refl (weighted_applies n rows s.t s.f))

  -- ---- the loop

  module _ (times : ℕ) (start : State) where
    module _ (run : Run) (tally : Tally) (count : ℕ) (o : Kept n rows times start run tally count) where
      formed : Formed n (state_of run)
      formed =
          formed_e n (state_of run)
          (ap (λ (k : ℕ). well_formed_state k (state_of run)) (sym o.running.same) ∙ (formed_run_e run o.running.formed).state)

      room : length run.levels ≡ 32
      room = room_of n run o.running.tidy (omega (arith, formed.few, length-levels run.depth run.levels, x.most))

      -- where the loop goes on: rule, run and tally as code has them
      pub kept_on : if_open run.standing (ltb count times) false ≡ true
          → (found : Rule)
          → found ≡ choosing (heaviest (set_weight words tally.unsatisfied (4294967295 - bit_or run.t run.f)) 32) (rule_by index run.t run.f tally)
          → (next : Run) → next ≡ followed run found
          → (tally' : Tally) → tally' ≡ tally_by words m index run.t run.f next.t next.f found tally
          → Kept n rows times start next tally' (count + 1)
      unfolding run_of
      kept_on h found e next q tally' k =
          let f : found ≡ weighted_rule n rows run.t run.f = e ∙ weighted_read (state_of run) formed tally o.exact in
          let is-ruled : Ruled n rows run.t run.f found =
          subst⁻¹ (λ (c : Rule). Ruled n rows run.t run.f c) f (weighted_applies n rows run.t run.f) in
          let g : next ≡ run_of run.n (follow (state_of run) found) =
          q ∙ kept run room o.running.formed found (fits_ruled n rows run o.running.same o.running.formed found is-ruled) in
          record {
            running = running_on_with weighted_rule weighted_applies n rows times start run count o.running h next
                (q ∙ open_step-with weighted_rule weighted_applies n rows run o.running.same o.running.formed found f room
                (open_e run.standing (ltb count times) h).0);
            exact = k
                ∙ ap (λ (r : Run). tally_by words m index run.t run.f r.t r.f found tally) g
                ∙ tally_weighted (state_of run) formed tally o.exact found f
                ∙ sym (ap (λ (r : Run). tally_of rows r.t r.f) g);
          }

      -- where it ends, run and count are what the steps reach
      pub kept_end : if_open run.standing (ltb count times) false ≡ false → (b : Bool) → b ≡ if_open run.standing false true
          → ◌≡◌ {A = Continued} (record { outcome = Ok tt; run = run; steps = count; closed = b })
          (continued_by n (run_with weighted_rule n (always rows) times start))
      kept_end h b e =
          ap₂ (λ (r : Run) (c : Bool). record { outcome = Ok tt; run = r; steps = count; closed = c }) o.running.tidy e
          ∙ ap (λ (r : Ran). continued_by n r) (running_done-with weighted_rule weighted_applies n rows times start run count o.running h)

-- ---- the fresh run

-- the steps that a call took; none where it is refused
abbrev steps_in : Result StepsTaken Refusal → ℕ
steps_in (Ok s) = s.steps
steps_in (Err r) = 0

-- count and verdict of what its steps reach are the budgeted run's answer
pub fresh-answer-with : (n : ℕ) (rows : List Row) (budget : ℕ) (run : Run) → run ≡ run_of n fresh
    → let c = continued_by n (run_with weighted_rule n (always rows) budget (state_of run)) in
    (s : StepsTaken) → Ok s ≡ steps_taken c → (last : Run) → last ≡ c.run → (v : Verdict) → v ≡ verdict_of last.standing last.t
    → ◌≡◌ {A = Answer} (record { count = s.steps; verdict = v }) (answer_with weighted_rule n (always rows) budget)
unfolding answer_with run_of
fresh-answer-with n rows budget run e s q last h v w =
    ap₂ (λ (k : ℕ) (x : Verdict). record { count = k; verdict = x }) (ap steps_in q) (w ∙ ap (λ (r : Run). verdict_of r.standing r.t) h)
    ∙ ap (λ (start : State). let c = continued_by n (run_with weighted_rule n (always rows) budget start) in
    record { count = c.steps; verdict = verdict_of c.run.standing c.run.t }) (ap (λ (x : Run). state_of x) e ∙ state-back n fresh)
