-- Demand 3: the repeats are a number of giant steps with their marks, which `Histories` gives as one equation; each part is read off it.
use mathlib.Core.Path.{◌≡◌, refl, sym, ap, ap₂, ◌∙◌, fun_ext}
use mathlib.Core.Bool.{Bool, true, false, not, cond, true≢false, or-true}
use mathlib.Core.List.{List, [], ◌∷◌}
use Prim.Native.Nat.{ℕ, zero, suc, min, ◌≤◌, ◌<◌}
use native.Mathlib.Omega.{arith}
use lib.Dec.{ltb}
use lib.ListN.{length, get_or, length-map}
use borrow.Author.Tests.{eq-eqb, ne_eqb, ltb-true, ltb-false}
use Rattle.std.specs.Prelude.{Ok}
use Rattle.refusals.specs.Checks.{check, outcome}
use Rattle.refusals.specs.declared.Refusal.TheVariants.{Gates}
use Rattle.refusals.proofs.Outcomes.{outcome-taken}
use Rattle.words.specs.declared.Row.{Row}
use Rattle.words.specs.Sets.{any}
use Rattle.words.proofs.Truth.{on}
use Rattle.words.proofs.Last.{any_false}
use Rattle.words.proofs.Upto.{any-i}
use Rattle.dimensions.specs.declared.Dimensions.{Dimensions}
use Rattle.dimensions.specs.Sizes.{size_checks, input_wires}
use Rattle.tables.specs.Tables.{Tables}
use Rattle.solver.specs.declared.Answer.{Answer}
use Rattle.state.specs.declared.Run.{Run}
use Rattle.state.specs.declared.Standing.{Standing}
use Rattle.state.specs.declared.Standing.TheVariants.{Open, Satisfied, Refuted}
use Rattle.verdicts.specs.declared.Verdict.{Verdict}
use Rattle.verdicts.specs.declared.Verdict.TheVariants.{Satisfiable, Unsatisfiable, Unknown}
use Rattle.state.specs.State.{State, fresh, run_of, if_open}
use Rattle.solver.specs.Step.{after}
use Rattle.verdicts.specs.Verdicts.{verdict_of}
use Rattle.solver.specs.Entries.{Ran, run_from, answer_of}
use Rattle.solver.proofs.StepLaws.{fresh-well_formed}
use Rattle.solver.proofs.RunLaws.{RunOf, run_is_of}
use Rattle.gates.specs.Memory.{accepted}
use Rattle.wires.specs.Layout.{upto}
use Rattle.wires.proofs.Series.{upto-at, upto_cong}
use Rattle.netlist.specs.Outputs.{closed}
use Rattle.netlist.proofs.EveryState.{gates_carry_out}
use Rattle.answers.specs.Printed.{answer_text}
use Rattle.bristol.specs.Writing.{circuit_checks}
use Rattle.bristol.proofs.Joining.{requests_join, requests_end}
use Rattle.repeats.specs.Repeats.{Attempt, Repeat, circuit_words, marks, last_run, repeats_ended, long_ones}
use Rattle.demand3.specs.Demand3.{rows_by_step, AllAccepts, SamePublic, history_of, Follows, answer_for, answer_in, circuit_text_of, public_in, Seen, seen}
use Rattle.demand3.specs.Demand3.{Demand3}
use Rattle.repeats.proofs.Applying.{words_third, words-accepted}
use Rattle.demand3.proofs.Histories.{closed_open, open_closed, repeated, repeated-length, repeated-at, repeated-marks, repeated-last, number}
use Rattle.demand3.proofs.Histories.{repeats_are}

-- ---- marks

abbrev any_mark : List Bool → ℕ → Bool
any_mark l k = any (λ i. get_or l i false) k

no_mark : (f : ℕ → Bool) (k : ℕ) → ((i : ℕ) → i < k → f i ≡ false) → any_mark (upto f k) k ≡ false
no_mark f k h = any_false (λ i. get_or (upto f k) i false) k (λ i b. upto-at f k i b ∙ h i b)

some-mark : (f : ℕ → Bool) (k i : ℕ) → i < k → f i ≡ true → any_mark (upto f k) k ≡ true
some-mark f k i b e = any-i (λ j. get_or (upto f k) j false) k i b (upto-at f k i b ∙ e)

-- the marks that an answer has: the last one says whether it is known
abbrev known : Verdict → Bool
known (Satisfiable model) = true
known Unsatisfiable = true
known Unknown = false

known-closed : (st : Standing) (t : ℕ) → if_open st false true ≡ known (verdict_of st t)
known-closed Open t = refl
known-closed Satisfied t = refl
known-closed Refuted t = refl

abbrev mark_by : Answer → ℕ → Bool
mark_by a i = cond (ltb (suc i) a.count) false (known a.verdict)

-- what is seen, by the answer and the public rows
abbrev seen_by : Dimensions → Answer → (ℕ → List Row) → Seen
seen_by d a public = (circuit_text_of d, a.count, upto (mark_by a) a.count, answer_text (min d.n 32) a, public)

module _ (d : Dimensions) (tables : ℕ → Tables) (acc : AllAccepts d tables) (budget : ℕ) where
  abbrev rows : ℕ → List Row
  rows = rows_by_step d tables

  abbrev final : Ran
  final = run_from d.n rows budget fresh

  law : RunOf d.n rows budget fresh final
  law = run_is_of d.n rows budget fresh

  abbrev mark : ℕ → Bool
  mark i = closed (after d.n rows (suc i) fresh)

  early : (i : ℕ) → suc i < final.steps → mark i ≡ false
  early i h = open_closed (law.open_before (suc i) h)

  -- a run that ends before the budget is closed
  closes : final.steps < budget → closed final.final ≡ true
  closes h = on (closed final.final) (λ e. e) (λ e. absurd (omega (arith, law.open_whole (closed_open final.final.standing e))))

  -- the last step's mark
  last-mark : (i : ℕ) → suc i ≡ final.steps → mark i ≡ closed final.final
  last-mark i e = ap (λ (k : ℕ). closed (after d.n rows k fresh)) e ∙ ap closed (sym law.final-after)

  -- no step leaves the fresh state
  start : final.steps ≡ 0 → (after d.n rows final.steps fresh).standing ≡ Open
  unfolding after
  start e = ap (λ (k : ℕ). (after d.n rows k fresh).standing) e

  module _ (attempts : List Attempt) where
    abbrev whole : List Repeat
    whole = history_of d tables budget attempts

    abbrev k : ℕ
    k = number d tables attempts budget fresh

    is : whole ≡ repeated d tables fresh k
    is = repeats_are d attempts tables acc budget fresh (fresh-well_formed d.n) refl

    marks_are : marks whole ≡ upto mark k
    marks_are = ap marks is ∙ repeated-marks d tables fresh k

    size : length whole ≡ k
    size = ap length is ∙ repeated-length d tables fresh k

    pub follows : Follows d tables budget attempts whole
    unfolding answer_of
    follows = record {
      number = size;
      each = λ i none b. ap (λ (h : List Repeat). get_or h i none) is ∙ repeated-at d tables fresh k i none (omega (arith, size));
    }

    -- however many attempts there are, no more repeats than the run takes steps
    pub repeats-few : length whole ≤ (answer_for d tables budget).count
    unfolding answer_of
    repeats-few = omega (arith, size)

    -- repeats that are fewer than the steps have not ended
    unended : k < final.steps → repeats_ended budget whole ≡ false
    unended h =
        let e : any_mark (marks whole) (length whole) ≡ false = ap₂ any_mark marks_are size ∙ no_mark mark k (λ i b. early i (omega arith)) in
        rw e (ne_eqb (length whole) budget (λ q. omega (arith, size, law.most)))

    all_steps : repeats_ended budget whole ≡ true → k ≡ final.steps
    all_steps e =
        on (ltb k final.steps)
        (λ q. absurd (true≢false (sym e ∙ unended (ltb-true k final.steps q))))
        (λ q. omega (arith, ltb-false k final.steps q))

    last-is : repeats_ended budget whole ≡ true → last_run (run_of d.n fresh) whole ≡ run_of d.n final.final
    last-is e =
        ap (last_run (run_of d.n fresh)) is ∙ repeated-last d tables fresh k
        ∙ ap (run_of d.n) (ap (λ (j : ℕ). after d.n rows j fresh) (all_steps e) ∙ sym law.final-after)

    pub ends : repeats_ended budget whole ≡ true → answer_in d.n whole ≡ answer_for d tables budget
    unfolding answer_of run_of
    ends e =
        ap₂ (λ (j : ℕ) (x : Run). record { count = j; verdict = verdict_of x.standing x.t })
        (length-map whole (λ (r : Repeat). r.mark) ∙ size ∙ all_steps e) (last-is e)

    reaches : final.steps ≤ long_ones d attempts → repeats_ended budget whole ≡ true
    reaches h =
        let e : k ≡ final.steps = omega arith in
        on (ltb final.steps budget)
        (λ q. go final.steps refl (closes (ltb-true _ _ q)) e)
        (λ q. rw (eq-eqb (length whole) budget (omega (arith, size, law.most, ltb-false final.steps budget q)))
        (or-true (any_mark (marks whole) (length whole))))
      where
        go : (j : ℕ) → final.steps ≡ j → closed final.final ≡ true → k ≡ final.steps → repeats_ended budget whole ≡ true
        go zero q c e = absurd (true≢false (sym c ∙ open_closed (ap (λ (s : State). s.standing) law.final-after ∙ start q)))
        go (suc i) q c e = rw (ap₂ any_mark marks_are size ∙ some-mark mark k i (omega arith) (last-mark i (sym q) ∙ c))

    pub reached : (answer_for d tables budget).count ≤ long_ones d attempts → repeats_ended budget whole ≡ true
    unfolding answer_of
    reached h = reaches h

    marks-by : repeats_ended budget whole ≡ true → marks whole ≡ upto (mark_by (answer_for d tables budget)) (answer_for d tables budget).count
    unfolding answer_of
    marks-by e =
        marks_are ∙ ap (upto mark) (all_steps e)
        ∙ upto_cong mark (mark_by (answer_for d tables budget)) final.steps
        (λ i b.
        on (ltb (suc i) final.steps)
        (λ q. early i (ltb-true _ _ q) ∙ rw q)
        (λ q. last-mark i (omega (arith, ltb-false (suc i) final.steps q)) ∙ known-closed final.final.standing final.final.t ∙ rw q))

    -- what is seen goes by the answer and the public rows alone
    shown : repeats_ended budget whole ≡ true → seen d tables budget attempts ≡ seen_by d (answer_for d tables budget) (public_in d tables)
    shown e =
        let a = answer_for d tables budget in
        ap (λ (j : ℕ). (circuit_text_of d, j, marks whole, answer_text (min d.n 32) (answer_in d.n whole), public_in d tables))
        (sym (length-map whole (λ (r : Repeat). r.mark)) ∙ ap (λ (x : Answer). x.count) (ends e))
        ∙ ap₂ (λ (l : List Bool) (x : Answer). (circuit_text_of d, a.count, l, answer_text (min d.n 32) x, public_in d tables)) (marks-by e) (ends e)

same_seen : (d : Dimensions) (tables tables' : ℕ → Tables) → AllAccepts d tables → AllAccepts d tables' → SamePublic d tables tables'
    → (budget : ℕ) (attempts attempts' : List Attempt) → answer_for d tables budget ≡ answer_for d tables' budget
    → repeats_ended budget (history_of d tables budget attempts) ≡ true → repeats_ended budget (history_of d tables' budget attempts') ≡ true
    → seen d tables budget attempts ≡ seen d tables' budget attempts'
same_seen d tables tables' acc acc' same budget attempts attempts' q e e' =
    shown d tables acc budget attempts e
    ∙ ap₂ (seen_by d) q (fun_ext same)
    ∙ sym (shown d tables' acc' budget attempts' e')

-- ---- the text

-- the writer takes the circuit's words
writer_takes : (d : Dimensions) → outcome (size_checks d) ≡ Ok tt → outcome (circuit_checks d (circuit_words d)) ≡ Ok tt
writer_takes d e =
    outcome-taken (size_checks d) (check (not (accepted (input_wires d) (circuit_words d))) Gates ∷ []) e ∙ rw (words-accepted d e)

-- of dimensions within their limits: for others no circuit is made
pub demand3 : (d : Dimensions) → outcome (size_checks d) ≡ Ok tt → Demand3 d
unfolding circuit_words
demand3 d fits = record {
  every_state = gates_carry_out d fits;
  history = λ tables acc budget attempts. follows d tables acc budget attempts;
  end = λ tables acc budget attempts. (ends d tables acc budget attempts, reached d tables acc budget attempts);
  text = λ e lent room k h. (
    requests_join d (circuit_words d) (writer_takes d e) lent room k (omega (arith, words_third d)),
    (requests_end d (circuit_words d) (writer_takes d e) lent room k (omega (arith, words_third d))).0,
  );
  secrecy = λ tables tables' acc acc' same budget attempts attempts'. same_seen d tables tables' acc acc' same budget attempts attempts';
}
