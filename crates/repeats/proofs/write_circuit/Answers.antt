-- `write_circuit` meets its contract: what the generator says decides, and it says how many gates it wrote.
use mathlib.Core.Path.{sym, ◌∙◌}
use Prim.Native.Nat.{◌*◌}
use native.Mathlib.Omega.{arith}
use Rattle.repeats.proofs.RepeatChecks.{Writes, write_taken, write_refused}
use Rattle.repeats.proofs.write_circuit.Goals as goal
use Rattle.repeats.proofs.write_circuit.Goals.{In-Ok}

-- what was written, where the generator took the words
taken : (c : In-Ok) → Writes c.args.d c.args.gates.now c.generate.new.words (3 * c.in-Ok.count)
taken c =
    write_taken c.args.d c.args.gates.now c.generate.new.words c.generate.ensures.words_after c.in-Ok.count
    (sym c.generate.ensures.value ∙ c.in-Ok.is)

pub overflow_mul-result : goal.overflow_mul-result
overflow_mul-result c = omega (arith, (taken c).1.0)

pub returns-in-Ok : goal.returns-in-Ok
returns-in-Ok c =
    let proved = taken c in
    record { value = proved.0; upper_bound = proved.1.0; gates_after = proved.1.1.0; gates_after_2 = proved.1.1.1 }

pub returns-in-Err : goal.returns-in-Err
returns-in-Err c =
    let proved = write_refused c.args.d c.args.gates.now c.generate.new.words c.generate.ensures.words_after c.in-Err.field-0
    (sym c.generate.ensures.value ∙ c.in-Err.is) in
    record { value = proved.0; upper_bound = proved.1.0; gates_after = proved.1.1.0; gates_after_2 = proved.1.1.1 }
