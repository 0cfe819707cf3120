-- `try_in` meets its contract: the trial says whether the gates are accepted, and each return cites the law of what its checks found.
use mathlib.Core.Path.{◌≡◌, sym, ◌∙◌}
use mathlib.Core.Bool.{true}
use native.Mathlib.Omega.{arith}
use lib.ListN.{length}
use Rattle.gates.specs.Memory.{accepted}
use Rattle.two_pass.proofs.Evaluation.{no_gates, no_room, taken}
use Rattle.evaluator.proofs.TrialBytes.{loaded, stored, given_so}
use Rattle.evaluator.proofs.try_in.Goals as goal
use Rattle.evaluator.proofs.try_in.Goals.{Else-not-trial}

-- the gates were taken
accepts : (c : Else-not-trial) → accepted (length c.args.inputs.now) c.args.gates.now ≡ true
accepts c = sym c.trial.ensures.value ∙ c.if-not-trial.false

pub trial-requires : goal.trial-requires
trial-requires c = record {
  gates_in_bounds = omega arith;
  scratch_value = loaded c.args.inputs.now c.args.scratch.now _ c.load_inputs.ensures;
}

pub returns-then-not-trial : goal.returns-then-not-trial
returns-then-not-trial c =
    let a = c.args in
    let t = no_gates a.gates.now a.inputs.now a.wires.now (sym c.trial.ensures.value ∙ c.if-not-trial.true) in
    record { value = t.0; wires_after = t.1 }

pub returns-then-wires-count : goal.returns-then-wires-count
returns-then-wires-count c =
    let a = c.args in
    let t = no_room a.gates.now a.inputs.now a.wires.now (accepts (goal.at.returns-then-wires-count c).Else-not-trial) (omega arith) in
    record { value = t.0; wires_after = t.1 }

pub returns : goal.returns
returns c =
    let a = c.args in
    let taken-gates = accepts (goal.at.returns c).Else-not-trial in
    let k = taken a.gates.now a.inputs.now a.wires.now taken-gates (omega arith) c.requires.inputs_value in
    let v = given_so c.trial.result _ _ c.if-not-trial.false c.trial.ensures.scratch_after in
    let w = stored a.inputs.now a.gates.now taken-gates _ _ v a.wires.now _ c.store_wires.ensures in
    record { value = k.0; wires_after = w ∙ k.1 }
