-- `evaluate` meets its contract: each way of evaluating has it, and a trial's premises are what the tests found.
use Rattle.refusals.proofs.Outcomes.{also_said}
use Rattle.evaluator.proofs.evaluate.Goals as goal

pub returns-then-bits : goal.returns-then-bits
returns-then-bits c =
    let e = c.try_out.ensures in
    let t = also_said (e.value, e.wires_after) in
    record { value = t.0; wires_after = t.1.0; result_value = t.1.1 }

pub returns-then-bits-2 : goal.returns-then-bits-2
returns-then-bits-2 c =
    let e = c.try_out-then-bits-2.ensures in
    let t = also_said (e.value, e.wires_after) in
    record { value = t.0; wires_after = t.1.0; result_value = t.1.1 }
