-- `check_circuit` meets its contract: each test of the code is a check of the definition, in its order.
use mathlib.Core.Path.{◌≡◌, sym, ap, ◌∙◌}
use mathlib.Core.Bool.{not}
use Prim.Native.Nat.{ℕ}
use Rattle.refusals.proofs.Outcomes.{passed_on}
use Rattle.std.specs.Prelude.{Ok}
use Rattle.refusals.specs.Checks.{outcome}
use Rattle.dimensions.specs.Sizes.{size_checks, input_wires}
use Rattle.gates.specs.Memory.{accepted}
use Rattle.bristol.proofs.Requests.{refuse_size, refuse_gates, take-circuit}
use Rattle.bristol.proofs.check_circuit.Goals as goal
use Rattle.bristol.proofs.check_circuit.Goals.{After-accepted}

-- the sizes are within the limits
sized : (c : After-accepted) → outcome (size_checks c.args.d) ≡ Ok tt
sized c = sym c.check.ensures.value ∙ c.in_ok-check.was

-- the gates are judged with the inputs before them
judged : (c : After-accepted) → c.accepted.result ≡ accepted (input_wires c.args.d) c.args.gates.now
judged c =
    c.accepted.ensures ∙ ap (λ (k : ℕ). accepted k c.args.gates.now) c.input_wires.ensures

pub returns-in_err-check : goal.returns-in_err-check
returns-in_err-check c =
    rw (passed_on _ _ c.from_residual.ensures.1) (refuse_size c.args.d c.args.gates.now _ (sym c.check.ensures.value ∙ c.in_err-check.was))

pub returns-then-not-accepted : goal.returns-then-not-accepted
returns-then-not-accepted c =
    refuse_gates c.args.d c.args.gates.now (sized (goal.at.returns-then-not-accepted c).After-accepted)
    (ap not (sym (judged (goal.at.returns-then-not-accepted c).After-accepted) ∙ c.if-not-accepted.true))

pub returns : goal.returns
returns c =
    take-circuit c.args.d c.args.gates.now (sized (goal.at.returns c).After-accepted)
    (ap not (sym (judged (goal.at.returns c).After-accepted) ∙ c.if-not-accepted.false))
