-- `load_inputs` meets its contract: at each turn the bytes of wire 0 and of i more inputs are at the front.
use Rattle.std.proofs.Common.{arith, length-set}
use Rattle.evaluator.proofs.TrialBytes.{first_input, next_input, rest-bit}
use Rattle.evaluator.proofs.load_inputs.Goals as goal

pub loop-i-init : goal.loop-i-init
loop-i-init c = first_input _ _ c.args.scratch.now _ c.in-Some.ensures.cases.0 c.requires.inputs_value (omega (arith, c.in-Some.ensures.cases.1))

pub overflow_add-scratch : goal.overflow_add-scratch
overflow_add-scratch c = omega (arith, rest-bit _ _ _ c.in-Some.ensures.cases.0 c.requires.inputs_value c.loop-i.i)

pub loop-i-preserved : goal.loop-i-preserved
loop-i-preserved c =
    next_input _ _ _ _ _ _ c.in-Some.ensures.cases.0 c.requires.inputs_value (omega arith)
    (omega (arith, length-set c.args.scratch.now 0 c.in-Some.field-0-0.now)) c.loop-i.invariant
