-- Demand 3 on small tables of two variables and a row each: the marks of a marked instance of document 01, two pairs of tables that are
-- seen alike, and two that differ in one mark; then two pairs with one public row that are seen alike, and a pair with another that is not.
-- What the plain run does is computed, the rest is what follows from the demand's statement.
use mathlib.Core.Path.{◌≡◌, refl, sym, ap, ◌∙◌}
use mathlib.Core.Bool.{Bool, true, false, true≢false}
use mathlib.Core.List.{List, [], ◌∷◌}
use Prim.Native.Nat.{ℕ, zero, suc, ◌+◌, ◌≤◌, ◌<◌}
use native.Mathlib.Omega.{arith}
use lib.ListN.{length, get_or, replicate}
use Rattle.std.specs.Prelude.{Ok}
use Rattle.refusals.specs.declared.Refusal.TheVariants.{State}
use Rattle.words.specs.declared.Row.{Row}
use Rattle.words.specs.Sets.{bit, put, any, count, lowest}
use Rattle.dimensions.specs.declared.Dimensions.{Dimensions}
use Rattle.dimensions.specs.Sizes.{dimensions}
use Rattle.tables.specs.Tables.{Tables, all_tables}
use Rattle.tables.specs.Rows.{padding, satisfied, free_literals}
use Rattle.tables.specs.Acceptance.{all_below}
use Rattle.state.specs.State.{fresh, run_of}
use Rattle.verdicts.specs.declared.Verdict.{Verdict}
use Rattle.verdicts.specs.declared.Verdict.TheVariants.{Satisfiable, Unknown}
use Rattle.solver.specs.declared.Answer.{Answer}
use Rattle.solver.specs.Step.{after}
use Rattle.solver.specs.Entries.{answer_of}
use Rattle.answers.specs.Printed.{answer_text}
use Rattle.netlist.specs.Netlist.{gates_on}
use Rattle.netlist.specs.Outputs.{closed}
use Rattle.repeats.specs.Repeats.{Attempt, Lent, Otherwise, repeats, last_run, repeats_ended, long_ones}
use Rattle.repeats.specs.Repeating.{repeated}
use Rattle.demand3.proofs.Answering.{answered, repeat-answers}
use Rattle.demand3.specs.Demand3.{rows_by_step, history_of, answer_for, circuit_text_of, Seen, seen, AllAccepts, Demand3}
use Rattle.demand3.proofs.Consequences.{roomy, roomy-ones, marks_are, reached, seen-is, seen_public, Room, hosted, hosts_agree}

abbrev small : Dimensions
small = dimensions 2 1 1 0

-- the words of two rows and of the public ones, the same at every repeat
abbrev rows : ℕ → ℕ → ℕ → ℕ → List ℕ → ℕ → Tables
rows a b c e public = λ i. all_tables (a ∷ b ∷ []) (c ∷ e ∷ []) public

-- (1 2) | (−1), as marked in document 01; (2) | (−1); (1 2) | padding
abbrev marked : ℕ → Tables
marked = rows 3 0 0 1 []

abbrev alike : ℕ → Tables
alike = rows 2 0 0 1 []

abbrev unlike : ℕ → Tables
unlike = rows 3 0 1 1 []

abbrev answer : ℕ → Verdict → Answer
answer steps verdict = record { count = steps; verdict = verdict }

marked-accepted : AllAccepts small marked
unfolding all_below
marked-accepted i = refl

alike-accepted : AllAccepts small alike
unfolding all_below
alike-accepted i = refl

unlike-accepted : AllAccepts small unlike
unfolding all_below
unlike-accepted i = refl

-- ---- the plain run

marked-answer : answer_for small marked 9 ≡ answer 3 (Satisfiable 2)
unfolding answer_of free_literals padding satisfied bit put any count lowest
marked-answer = refl

alike-answer : answer_for small alike 9 ≡ answer 3 (Satisfiable 2)
unfolding answer_of free_literals padding satisfied bit put any count lowest
alike-answer = refl

-- cut off after two steps
marked-cut : answer_for small marked 2 ≡ answer 2 Unknown
unfolding answer_of free_literals padding satisfied bit put any count lowest
marked-cut = refl

unlike-answer : answer_for small unlike 2 ≡ answer 2 (Satisfiable 1)
unfolding answer_of free_literals padding satisfied bit put any count lowest
unlike-answer = refl

-- whether step i + 1 of the marked instance, and of the unlike one, closes the run
marked-closes : (i : ℕ) → i < 3 → closed (after 2 (rows_by_step small marked) (suc i) fresh) ≡ get_or (false ∷ false ∷ true ∷ []) i false
unfolding after free_literals padding satisfied bit put any count lowest
marked-closes zero h = refl
marked-closes (suc zero) h = refl
marked-closes (suc (suc zero)) h = refl
marked-closes (suc (suc (suc i))) h = absurd (omega arith)

unlike-closes : (i : ℕ) → i < 2 → closed (after 2 (rows_by_step small unlike) (suc i) fresh) ≡ get_or (false ∷ true ∷ []) i false
unfolding after free_literals padding satisfied bit put any count lowest
unlike-closes zero h = refl
unlike-closes (suc zero) h = refl
unlike-closes (suc (suc i)) h = absurd (omega arith)

-- ---- the repeats

-- before the first attempt the printed answer is that of no repeat, and not the plain run's
pub nothing_seen : seen small marked 9 [] ≡ (circuit_text_of small, 0, [], answer_text 2 (answer 0 Unknown), λ i. [])
unfolding repeats last_run run_of
nothing_seen = refl

-- one call of `repeat` on the fresh run, where it is taken
pub marked_call : (gates bytes wires : List ℕ) → (repeated small (marked 0) 9 gates bytes wires (run_of 2 fresh)).outcome ≡ Ok tt
    → answered (repeated small (marked 0) 9 gates bytes wires (run_of 2 fresh)) ≡ answer 3 (Satisfiable 2)
marked_call gates bytes wires e = repeat-answers small (marked 0) 9 gates bytes wires e ∙ marked-answer

module _ (x : Demand3 small) where
  -- three attempts that are long enough, whatever others there are
  pub marked-seen : (attempts : List Attempt) → 3 ≤ long_ones small attempts
      → seen small marked 9 attempts ≡ (circuit_text_of small, 3, false ∷ false ∷ true ∷ [], answer_text 2 (answer 3 (Satisfiable 2)), λ i. [])
  marked-seen attempts long =
      seen-is small x marked marked-accepted 9 attempts (answer 3 (Satisfiable 2)) marked-answer long (false ∷ false ∷ true ∷ [])
      (marks_are small x marked marked-accepted 9 attempts (answer 3 (Satisfiable 2)) marked-answer long (false ∷ false ∷ true ∷ []) refl marked-closes)

  -- the same for three after one with nothing lent and one that is refused for another cause
  pub turned-back-seen : seen small marked 9 (Lent [] [] 0 ∷ Otherwise State ∷ replicate 3 (roomy small))
      ≡ (circuit_text_of small, 3, false ∷ false ∷ true ∷ [], answer_text 2 (answer 3 (Satisfiable 2)), λ i. [])
  turned-back-seen = marked-seen _ (roomy-ones small (Lent [] [] 0 ∷ Otherwise State ∷ []) 3)

  module _ (attempts attempts' : List Attempt) where
    -- tables with the same answer
    pub alike-seen : 3 ≤ long_ones small attempts → 3 ≤ long_ones small attempts' → seen small marked 9 attempts ≡ seen small alike 9 attempts'
    alike-seen long long' =
        x.secrecy marked alike marked-accepted alike-accepted (λ i. refl) 9 attempts attempts' (marked-answer ∙ sym alike-answer)
        (reached small x marked marked-accepted 9 attempts (answer 3 (Satisfiable 2)) marked-answer long)
        (reached small x alike alike-accepted 9 attempts' (answer 3 (Satisfiable 2)) alike-answer long')

    -- also by the lines of the text, whatever bytes two hosts lend to the writer for each
    pub alike-hosted : 3 ≤ long_ones small attempts → 3 ≤ long_ones small attempts' → (lent lent' : ℕ → List ℕ) → Room small lent → Room small lent'
        → (k k' : ℕ) → 4 + length (gates_on small) ≤ k → 4 + length (gates_on small) ≤ k'
        → hosted small marked 9 attempts lent k ≡ hosted small alike 9 attempts' lent' k'
    alike-hosted =
        hosts_agree small x refl marked alike marked-accepted alike-accepted (λ i. refl) 9 attempts attempts'
        (answer 3 (Satisfiable 2)) marked-answer alike-answer

    -- under a budget of two, tables whose marks differ in the second
    pub unlike-seen : 2 ≤ long_ones small attempts → 2 ≤ long_ones small attempts' → seen small marked 2 attempts ≡ seen small unlike 2 attempts' → ⊥
    unlike-seen long long' e =
        let l = marks_are small x marked marked-accepted 2 attempts (answer 2 Unknown) marked-cut long (false ∷ false ∷ []) refl
        (λ i h. marked-closes i (omega arith) ∙ cut i h) in
        let r = marks_are small x unlike unlike-accepted 2 attempts' (answer 2 (Satisfiable 1)) unlike-answer long' (false ∷ true ∷ []) refl unlike-closes in
        true≢false (sym (ap (λ (m : List Bool). get_or m 1 false) (sym l ∙ ap (λ (s : Seen). s.2) e ∙ r)))
      where
        cut : (i : ℕ) → i < 2 → get_or (false ∷ false ∷ true ∷ []) i false ≡ get_or (false ∷ false ∷ []) i false
        cut zero h = refl
        cut (suc zero) h = refl
        cut (suc (suc i)) h = absurd (omega arith)

-- ---- a public row

abbrev three : Dimensions
three = dimensions 2 1 1 1

-- (1 2) | (−1) and (2) | (−1), both with (−1 2); (1 2) | (−1) with (1 2)
abbrev with-rule : ℕ → Tables
with-rule = rows 3 0 0 1 (2 ∷ 1 ∷ [])

abbrev rule-alike : ℕ → Tables
rule-alike = rows 2 0 0 1 (2 ∷ 1 ∷ [])

abbrev other-rule : ℕ → Tables
other-rule = rows 3 0 0 1 (3 ∷ 0 ∷ [])

with-accepted : AllAccepts three with-rule
unfolding all_below
with-accepted i = refl

rule-accepted : AllAccepts three rule-alike
unfolding all_below
rule-accepted i = refl

other-accepted : AllAccepts three other-rule
unfolding all_below
other-accepted i = refl

-- one answer of all three
with-answer : answer_for three with-rule 9 ≡ answer 3 (Satisfiable 2)
unfolding answer_of free_literals padding satisfied bit put any count lowest
with-answer = refl

rule-answer : answer_for three rule-alike 9 ≡ answer 3 (Satisfiable 2)
unfolding answer_of free_literals padding satisfied bit put any count lowest
rule-answer = refl

other-answer : answer_for three other-rule 9 ≡ answer 3 (Satisfiable 2)
unfolding answer_of free_literals padding satisfied bit put any count lowest
other-answer = refl

module _ (x : Demand3 three) (attempts attempts' : List Attempt) (long : 3 ≤ long_ones three attempts) (long' : 3 ≤ long_ones three attempts') where
  pub rule-seen : seen three with-rule 9 attempts ≡ seen three rule-alike 9 attempts'
  rule-seen =
      x.secrecy with-rule rule-alike with-accepted rule-accepted (λ i. refl) 9 attempts attempts' (with-answer ∙ sym rule-answer)
      (reached three x with-rule with-accepted 9 attempts (answer 3 (Satisfiable 2)) with-answer long)
      (reached three x rule-alike rule-accepted 9 attempts' (answer 3 (Satisfiable 2)) rule-answer long')

  -- a pair with another public row has all else that secrecy asks, and is not seen alike
  pub other-seen : (answer_for three with-rule 9 ≡ answer_for three other-rule 9)
      × (repeats_ended 9 (history_of three with-rule 9 attempts) ≡ true) × (repeats_ended 9 (history_of three other-rule 9 attempts') ≡ true)
      × (seen three with-rule 9 attempts ≡ seen three other-rule 9 attempts' → ⊥)
  other-seen = (
    with-answer ∙ sym other-answer,
    reached three x with-rule with-accepted 9 attempts (answer 3 (Satisfiable 2)) with-answer long,
    reached three x other-rule other-accepted 9 attempts' (answer 3 (Satisfiable 2)) other-answer long',
    λ e.
        let same = seen_public three with-rule other-rule 9 attempts attempts' e 0 in
        omega (arith, ap (λ (l : List Row). (get_or l 0 (record { positive = 0; negative = 0 })).positive) same),
  )
