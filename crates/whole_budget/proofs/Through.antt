-- The loop through the budget: the state at hand, with the steps that are left, comes to the state after as many steps as the budget. From what an
-- application gives and leaves.
use mathlib.Core.Path.{◌≡◌, sym, ap, ◌∙◌}
use mathlib.Core.Bool.{true}
use mathlib.Core.List.{List}
use Prim.Native.Nat.{ℕ, suc, ◌+◌, ◌-◌, ◌≤◌, ◌<◌}
use native.Mathlib.Omega.{arith}
use lib.ListN.{length, drop, replicate}
use Rattle.std.specs.Prelude.{Ok, Err}
use Rattle.refusals.specs.Checks.{outcome}
use Rattle.refusals.specs.declared.Refusal.{Refusal}
use Rattle.dimensions.specs.declared.Dimensions.{Dimensions}
use Rattle.dimensions.specs.Sizes.{state_wire_count, input_wires}
use Rattle.tables.specs.Tables.{Tables}
use Rattle.tables.specs.Rows.{rows_of}
use Rattle.state.specs.declared.Run.{Run}
use Rattle.state.specs.State.{State, fresh, state_of, run_of}
use Rattle.state.specs.WellFormed.{well_formed_state, state_checks}
use Rattle.state.proofs.HeldRun.{state-back}
use Rattle.solver.specs.Step.{step, after}
use Rattle.solver.proofs.StepLaws.{step-well_formed, fresh-well_formed}
use Rattle.wires.specs.Packing.{packed}
use Rattle.netlist.specs.Netlist.{gates_on}
use Rattle.repeats.specs.Application.{Applied, wires_after, applied, mark_result}
use Rattle.repeats.specs.Repeats.{circuit_words}
use Rattle.repeats.proofs.Applying.{fine}
use Rattle.repeats.proofs.Buffers.{Agree, agree_refl, Ready, packed_agrees, filled_agrees, applied-is, applied-taken, ready_same}
use Rattle.whole_budget.specs.Applications.{whole_runs, last_of, enough}
use Rattle.whole_budget.proofs.Applications.{rows, enough-last}

agree_on : (k : ℕ) (a b c : List ℕ) → Agree k a b → Agree k b c → Agree k a c
agree_on k a b c x y = record { long = x.long ∙ y.long; behind = x.behind ∙ y.behind }

-- what the loop knows of bytes, wires, run and number, where it began with other bytes and wires
pub record Through (d : Dimensions) (tables : Tables) (budget : ℕ) (bytes₀ wires₀ bytes wires : List ℕ) (run : Run) (count : ℕ) : Type 0 where
  pub state : State
  pub run_is : run ≡ run_of d.n state
  pub formed : well_formed_state d.n state ≡ true
  pub most : count ≤ budget
  pub comes : after d.n (rows d tables) (budget - count) state ≡ after d.n (rows d tables) budget fresh
  pub bytes-agree : Agree (input_wires d) bytes bytes₀
  pub wires_agree : Agree (input_wires d + length (gates_on d)) wires wires₀

module _ (d : Dimensions) (tables : Tables) (budget : ℕ) (bytes₀ wires₀ : List ℕ) (y : Ready d tables bytes₀ wires₀) where
  pub through_start : (run : Run) → run ≡ run_of d.n fresh → Through d tables budget bytes₀ wires₀ bytes₀ wires₀ run 0
  through_start run e = record {
    state = fresh;
    run_is = e;
    formed = fresh-well_formed d.n;
    most = omega arith;
    comes = ap (λ (k : ℕ). after d.n (rows d tables) k fresh) (let all : budget - 0 ≡ budget = omega arith in all);
    bytes-agree = agree_refl (input_wires d) bytes₀;
    wires_agree = agree_refl (input_wires d + length (gates_on d)) wires₀;
  }

  module _ (bytes wires : List ℕ) (run : Run) (count : ℕ) (o : Through d tables budget bytes₀ wires₀ bytes wires run count) where
    ready : Ready d tables bytes wires
    ready = ready_same d tables bytes₀ wires₀ bytes wires y o.bytes-agree o.wires_agree

    ok : outcome (state_checks d run) ≡ Ok tt
    ok = ap (λ (x : Run). outcome (state_checks d x)) o.run_is ∙ fine d tables y.accepts o.state o.formed

    pub through_on : count < budget → (bytes' wires' : List ℕ) (run' : Run)
        → run' ≡ (applied d tables (circuit_words d) run bytes wires (state_wire_count d.n + 1)).run
        → bytes' ≡ packed d tables run bytes → wires' ≡ wires_after d tables (circuit_words d) run bytes wires
        → Through d tables budget bytes₀ wires₀ bytes' wires' run' (count + 1)
    unfolding after
    through_on h bytes' wires' run' r b w =
        let rest = budget - (count + 1) in
        let left : budget - count ≡ suc rest = omega arith in record {
          state = step d.n (rows_of d tables) o.state;
          run_is = r ∙ ap (λ (x : Applied). x.run) (applied-is d tables bytes wires ready run ok)
              ∙ ap (λ (s : State). run_of d.n (step d.n (rows_of d tables) s)) (ap state_of o.run_is ∙ state-back d.n o.state);
          formed = step-well_formed d.n (rows_of d tables) o.state o.formed;
          most = omega arith;
          comes = sym (ap (λ (k : ℕ). after d.n (rows d tables) k o.state) left) ∙ o.comes;
          bytes-agree = agree_on (input_wires d) bytes' bytes bytes₀ (rw b (packed_agrees d tables bytes wires ready run ok)) o.bytes-agree;
          wires_agree = agree_on (input_wires d + length (gates_on d)) wires' wires wires₀
              (rw w (filled_agrees d tables bytes wires ready run ok)) o.wires_agree;
        }

    -- no application is refused
    pub through_taken : (r : Refusal) → mark_result (applied d tables (circuit_words d) run bytes wires (state_wire_count d.n + 1)) ≡ Err r → ⊥
    through_taken r e = applied-taken d tables bytes wires ready run ok r e

    pub through_end : budget ≤ count
        → (run ≡ last_of (run_of d.n fresh) (whole_runs d tables budget (replicate budget (enough d))))
        × ((drop (input_wires d) bytes ≡ drop (input_wires d) bytes₀)
        × (drop (input_wires d + length (gates_on d)) wires ≡ drop (input_wires d + length (gates_on d)) wires₀))
    unfolding after
    through_end h =
        let none : budget - count ≡ 0 = omega arith in (
          o.run_is
              ∙ ap (run_of d.n) (sym (ap (λ (k : ℕ). after d.n (rows d tables) k o.state) none) ∙ o.comes)
              ∙ sym (enough-last d tables y.accepts budget),
          (o.bytes-agree.behind, o.wires_agree.behind),
        )
