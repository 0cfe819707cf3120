-- Demand 2, as one statement about the answer of any accepted tables under any budget, whatever rows took the place of padding rows
-- meanwhile.
-- Ask: Is each sentence of demand 2 a field?
use Rattle.std.specs.Prelude.{ℕ, suc, ◌-◌, ◌^◌, ◌≤◌, ◌<◌, ◌≡◌, Bool, true, false, List}
use Rattle.words.specs.declared.Row.{Row}
use Rattle.words.specs.Sets.{bit}
use Rattle.state.specs.declared.Standing.TheVariants.{Open}
use Rattle.solver.specs.declared.Answer.{Answer}
use Rattle.verdicts.specs.declared.Verdict.TheVariants.{Satisfiable, Unsatisfiable, Unknown}
use Rattle.verdicts.specs.Verdicts.{verdict_of}
use Rattle.state.specs.State.{State, fresh}
use Rattle.solver.specs.Step.{Ruling, after_with, after}
use Rattle.truth.specs.Truth.{all_true, occurring}

-- the rows that the last step read: of a closed run, those at the close
abbrev pub at_end : (ℕ → List Row) → Answer → List Row
at_end rows answer = rows (answer.count - 1)

-- the state after the count's steps, of the states after each number of them
abbrev pub state_at_end : (ℕ → State) → Answer → State
state_at_end states answer = states answer.count

-- 2 ^ (k + 1) - 1, k being the number of variables in rows that are no padding
abbrev pub most_steps : ℕ → List Row → ℕ
most_steps n rows = 2 ^ suc (occurring n rows) - 1

-- n variables, the rows as they are at each step, their words below 2 ^ n, the state after each number of steps, a budget, and the answer
pub record Demand2Of (n : ℕ) (rows : ℕ → List Row) (states : ℕ → State) (budget : ℕ) (answer : Answer) : Type 0 where
  -- a model makes every row true
  pub satisfiable : (model : ℕ) → answer.verdict ≡ Satisfiable model → all_true (bit model) (at_end rows answer) ≡ true
  -- no assignment makes every row true
  pub unsatisfiable : answer.verdict ≡ Unsatisfiable → (a : ℕ → Bool) → all_true a (at_end rows answer) ≡ false
  -- still open after exactly the budget
  pub unknown : answer.verdict ≡ Unknown → (answer.count ≡ budget) × ((states budget).standing ≡ Open)
  -- the count is the least number of steps, at most the budget, that closes the run, else the budget
  pub count_most : answer.count ≤ budget
  pub count_least : (k : ℕ) → k < answer.count → (states k).standing ≡ Open
  pub count-closes : ((state_at_end states answer).standing ≡ Open → answer.count ≡ budget)
  -- the verdict is satisfiable, with T as the model, unsatisfiable or unknown as the standing then is satisfied, refuted or open
  pub by-standing : answer.verdict ≡ verdict_of (state_at_end states answer).standing (state_at_end states answer).t
  -- the count is at most that of the rows at the end, and that many steps suffice; and k is at most n
  pub bound_count : answer.count ≤ most_steps n (at_end rows answer)
  pub bound : most_steps n (at_end rows answer) ≤ budget → answer.verdict ≡ Unknown → ⊥
  pub bound_n : 2 ^ suc n - 1 ≤ budget → answer.verdict ≡ Unknown → ⊥

-- demand 2 of steps by a ruling, from the fresh state
abbrev pub Demand2With : Ruling → ℕ → (ℕ → List Row) → ℕ → Answer → Type 0
Demand2With ruling n rows budget answer = Demand2Of n rows (λ k. after_with ruling n rows k fresh) budget answer

-- demand 2 of giant steps
abbrev pub Demand2 : ℕ → (ℕ → List Row) → ℕ → Answer → Type 0
Demand2 n rows budget answer = Demand2Of n rows (λ k. after n rows k fresh) budget answer
