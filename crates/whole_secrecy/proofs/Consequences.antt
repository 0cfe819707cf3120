-- What follows from the statement alone: a closed run that stays while the applications go on, the plain run's verdict under the budget, one application where
-- no variable occurs, and two hosts that see the same. Each part of `WholeSecrecy` is used, so that none can be left out or weakened.
use mathlib.Core.Path.{◌≡◌, sym, ap, ◌∙◌}
use mathlib.Core.Bool.{true}
use mathlib.Core.List.{List}
use Prim.Native.Nat.{ℕ, suc, ◌-◌, ◌^◌, ◌≤◌, ◌<◌}
use native.Mathlib.Omega.{arith}
use lib.ListN.{length, get_or, replicate}
use Rattle.dimensions.specs.declared.Dimensions.{Dimensions}
use Rattle.tables.specs.Tables.{Tables}
use Rattle.tables.specs.Rows.{rows_of_public, rows_of}
use Rattle.scan.specs.Rules.{rule}
use Rattle.state.specs.declared.Run.{Run}
use Rattle.state.specs.State.{State, fresh, run_of, state_of}
use Rattle.solver.specs.Step.{always, after}
use Rattle.truth.specs.Truth.{occurring}
use Rattle.solver.proofs.StepLaws.{after_last}
use Rattle.netlist.specs.Outputs.{closed}
use Rattle.repeats.specs.Repeats.{Accepts, Attempt, long_ones}
use Rattle.whole_budget.specs.Applications.{whole_runs, whole_answer_in, enough, whole_answer}
use Rattle.whole_budget.proofs.Applications.{enough_long, all_long}
use Rattle.whole_budget.specs.WholeBudget.{solved_whole, gates_after_whole, bytes_after_whole, wires_after_whole}
use Rattle.demand2.specs.Demand2.{most_steps}
use Rattle.demand3.proofs.Consequences.{closed-step}
use Rattle.whole_secrecy.specs.WholeSecrecy.{plain_verdict, SeenWhole, seen_whole, WholeSecrecy}

-- what is seen tells the public rows, so that without the premise of the same ones secrecy would not hold
pub seen_public : (d : Dimensions) (tables tables' : Tables) (budget : ℕ) (attempts attempts' : List Attempt)
    → seen_whole d tables budget attempts ≡ seen_whole d tables' budget attempts' → rows_of_public d tables ≡ rows_of_public d tables'
seen_public d tables tables' budget attempts attempts' e = ap (λ (s : SeenWhole). s.3) e

module _ (d : Dimensions) (x : WholeSecrecy d) where
  module _ (tables : Tables) (acc : Accepts d tables) (budget : ℕ) (attempts : List Attempt) where
    abbrev runs : List Run
    runs = whole_runs d tables budget attempts

    abbrev plain : ℕ → State
    plain k = after d.n (always (rows_of d tables)) k fresh

    -- ---- history

    -- a closed run stays as it is, and the next application follows
    pub closed-goes_on : (i : ℕ) (none : Run) → suc i < length runs → closed (state_of (get_or runs i none)) ≡ true
        → get_or runs (suc i) none ≡ get_or runs i none
    unfolding run_of after
    closed-goes_on i none b c =
        let h = x.history tables acc budget attempts in
        let here : get_or runs i none ≡ run_of d.n (plain (suc i)) = h.each i none (omega arith) in
        let shut : closed (plain (suc i)) ≡ true = sym (ap (λ (r : Run). closed (state_of r)) here) ∙ c in
        h.each (suc i) none b
        ∙ ap (run_of d.n)
        (after_last rule d.n (always (rows_of d tables)) (suc i) fresh ∙ closed-step d.n (rows_of d tables) (plain (suc i)) shut)
        ∙ sym here

    -- no more than the budget
    pub number-most : length runs ≤ budget
    number-most = (x.history tables acc budget attempts).most

    -- ---- end and bound

    module _ (long : budget ≤ long_ones d attempts) where
      -- the whole budget is gone through, whenever the run closes
      pub number_is : length runs ≡ budget
      number_is = (x.end tables acc budget attempts).1 long

      -- the budget, and the plain run's verdict and model
      pub answer-is : whole_answer_in d.n budget runs ≡ record { count = budget; verdict = plain_verdict d tables budget }
      answer-is = (x.end tables acc budget attempts).0 number_is

      -- closed by then, if the budget reaches so far, but it goes on
      pub closed-by-then : (i : ℕ) (none : Run) → i < budget → most_steps d.n (rows_of d tables) ≤ suc i
          → (closed (state_of (get_or runs i none)) ≡ true) × (length runs ≡ budget)
      closed-by-then i none b h = (x.bound tables acc budget attempts i none (omega (arith, number_is)) h, number_is)

    -- where no variable occurs, the first application closes the run
    pub one-closes : occurring d.n (rows_of d tables) ≡ 0 → (none : Run) → 0 < length runs → closed (state_of (get_or runs 0 none)) ≡ true
    one-closes e none b =
        let one : most_steps d.n (rows_of d tables) ≡ 1 = ap (λ (k : ℕ). 2 ^ suc k - 1) e in
        x.bound tables acc budget attempts 0 none b (omega arith)

  -- the whole run's answer: the budget for its count, and the plain run's verdict and model under it
  pub whole_plain : (tables : Tables) → Accepts d tables → (budget : ℕ)
      → whole_answer d tables budget ≡ record { count = budget; verdict = plain_verdict d tables budget }
  unfolding whole_answer
  whole_plain tables acc budget =
      let long = all_long d (enough d) (enough_long d) budget in
      answer-is tables acc budget (replicate budget (enough d)) (omega arith)

  -- ---- two hosts

  module _ (tables tables' : Tables) (acc : Accepts d tables) (acc' : Accepts d tables') (budget : ℕ)
      (same : plain_verdict d tables budget ≡ plain_verdict d tables' budget) where
    -- hosts of two pairs of tables with the same public rows, one verdict and one model see the same
    pub hosts_agree : rows_of_public d tables ≡ rows_of_public d tables' → (attempts attempts' : List Attempt)
        → budget ≤ long_ones d attempts → budget ≤ long_ones d attempts' → seen_whole d tables budget attempts ≡ seen_whole d tables' budget attempts'
    hosts_agree public attempts attempts' long long' =
        x.secrecy tables tables' acc acc' public budget attempts attempts' same
        (number_is tables acc budget attempts long) (number_is tables' acc' budget attempts' long')

    -- and calls with the same buffers give and leave the same
    pub calls-agree : (gates bytes wires : List ℕ)
        → (solved_whole d tables budget gates bytes wires ≡ solved_whole d tables' budget gates bytes wires)
        × (gates_after_whole d tables budget gates bytes wires ≡ gates_after_whole d tables' budget gates bytes wires)
        × (bytes_after_whole d tables budget gates bytes wires ≡ bytes_after_whole d tables' budget gates bytes wires)
        × (wires_after_whole d tables budget gates bytes wires ≡ wires_after_whole d tables' budget gates bytes wires)
    calls-agree gates bytes wires =
        let e = x.calls tables tables' acc acc' budget gates bytes wires same in
        (λ i. (e i).0, λ i. (e i).1, λ i. (e i).2, λ i. (e i).3)
