-- `read_back` meets its contract: each test of the code is a condition of the definition, in its order.
use mathlib.Core.Path.{◌≡◌, sym, ap, subst, ◌∙◌}
use mathlib.Core.Bool.{Bool, true, false}
use Prim.Native.Nat.{ℕ, ◌≤◌, ◌<◌}
use lib.ListN.{length}
use Rattle.std.specs.Prelude.{Ok}
use Rattle.state.specs.declared.Run.{Run}
use Rattle.dimensions.specs.Sizes.{outside}
use Rattle.dimensions.proofs.Limits.{most}
use Rattle.readback.proofs.Checks.{no_variables, no_room, no_state, read_taken, found, run_variables, read-said}
use Rattle.readback.proofs.read_back.Goals as goal
use Rattle.readback.proofs.read_back.Goals.{After-state_wires_of, After-variables_outside}

-- what the first test says of n
tested : (c : After-variables_outside) (b : Bool) → c.variables_outside.result ≡ b → outside 32 c.args.n ≡ b
tested c b e = sym c.variables_outside.ensures ∙ e

within : (c : After-state_wires_of) → outside 32 c.args.n ≡ false
within c = tested (goal.at.After-state_wires_of c).After-variables_outside false c.if-variables_outside.false

pub returns-then-variables_outside : goal.returns-then-variables_outside
returns-then-variables_outside c =
    let proved = read-said c.args.n c.args.bytes.now
    (c.refused.ensures ∙ no_variables c.args.n c.args.bytes.now
    (tested (goal.at.returns-then-variables_outside c).After-variables_outside true c.if-variables_outside.true)) in
    record { value = proved.0; outcome_value = proved.1 }

pub returns-then-bytes-state_wires_of : goal.returns-then-bytes-state_wires_of
returns-then-bytes-state_wires_of c =
    let proved = read-said c.args.n c.args.bytes.now
    (c.refused-then-bytes-state_wires_of.ensures
    ∙ no_room c.args.n c.args.bytes.now (within (goal.at.returns-then-bytes-state_wires_of c).After-state_wires_of)
    (subst (λ (k : ℕ). length c.args.bytes.now < k) c.state_wires_of.ensures c.if-bytes-state_wires_of.true)) in
    record { value = proved.0; outcome_value = proved.1 }

pub get_run-run-requires : goal.get_run-run-requires
get_run-run-requires c =
    record {
      n_bound = most 32 c.args.n (within (goal.at.get_run-run-requires c).After-state_wires_of);
      n_in_bounds = subst (λ (k : ℕ). k ≤ length c.args.bytes.now) c.state_wires_of.ensures c.if-bytes-state_wires_of.false;
    }

pub gives-requires : goal.gives-requires
gives-requires c =
    record {
      n_bound = most 32 c.args.n (within (goal.at.gives-requires c).After-state_wires_of);
      n_value = run_variables c.args.n c.args.bytes.now _ c.get_run-run.ensures;
      n_in_bounds =
          subst (λ (k : ℕ). k ≤ length c.args.bytes.now) c.state_wires_of.ensures c.if-bytes-state_wires_of.false;
    }

pub returns-then-not-gives : goal.returns-then-not-gives
returns-then-not-gives c =
    let proved = read-said c.args.n c.args.bytes.now
    (c.refused-then-not-gives.ensures
    ∙ no_state c.args.n c.args.bytes.now (within (goal.at.returns-then-not-gives c).After-state_wires_of)
    (subst (λ (k : ℕ). k ≤ length c.args.bytes.now) c.state_wires_of.ensures c.if-bytes-state_wires_of.false)
    (found c.args.n c.args.bytes.now _ _ c.get_run-run.ensures c.gives.ensures ∙ c.if-not-gives.true)) in
    record { value = proved.0; outcome_value = proved.1 }

pub returns : goal.returns
returns c =
    let proved = read-said c.args.n c.args.bytes.now
    (ap (λ (x : Run). record { outcome = Ok tt; run = x }) c.get_run-run.ensures
    ∙ read_taken c.args.n c.args.bytes.now (within (goal.at.returns c).After-state_wires_of)
    (subst (λ (k : ℕ). k ≤ length c.args.bytes.now) c.state_wires_of.ensures c.if-bytes-state_wires_of.false)
    (found c.args.n c.args.bytes.now _ _ c.get_run-run.ensures c.gives.ensures ∙ c.if-not-gives.false)) in
    record { value = proved.0; outcome_value = proved.1 }
