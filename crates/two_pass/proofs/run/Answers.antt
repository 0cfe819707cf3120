-- `run` meets its contract: `Run` holds at each turn, and at the end says that the buffer is filled.
use Rattle.std.proofs.Common.{◌≡◌, ℕ, ◌+◌, ◌<◌, true, [], get_or, sym, ◌∙◌, arith}
use Rattle.words.proofs.Truth.{and_l}
use Rattle.gates.specs.Memory.{drives}
use Rattle.gates.proofs.Judging.{drives-below}
use Rattle.gates.proofs.InMemory.{bytes_of_bits_of}
use Rattle.two_pass.proofs.Running.{start, judged-at}
use Rattle.two_pass.proofs.InPlace.{read-bit, again, all-ran}
use Rattle.two_pass.proofs.run.Goals as goal
use Rattle.two_pass.proofs.run.Goals.{In-loop-i}

-- the gate of a turn may drive its wire
may-drive : (c : In-loop-i)
    → let word = get_or (get_or c.as_chunks.result.0.now c.loop-i.i []) in
    drives (c.args.n + c.loop-i.i) (word 0 0) (word 1 0) (word 2 0) ≡ true
may-drive c =
    let p = c.requires in
    and_l _ _ (sym (judged-at c.loop-i.invariant p.gates_in_bounds c.as_chunks.ensures.front (omega arith)) ∙ p.gates_value)

-- what is known of that gate
turn : (c : In-loop-i)
    → let word = get_or (get_or c.as_chunks.result.0.now c.loop-i.i []) in
    let m = c.args.n + c.loop-i.i in
    (word 0 0 < 3) × (word 1 0 < m) × (word 2 0 < m)
turn c = drives-below _ _ _ _ (may-drive c)

-- a byte that it reads
bit : (c : In-loop-i) (a : ℕ) → a < c.args.n + c.loop-i.i → get_or c.loop-i.wires a 0 < 2
bit c = read-bit c.loop-i.invariant c.requires.gates_in_bounds (omega arith)

pub loop-i-init : goal.loop-i-init
loop-i-init c = start (sym (bytes_of_bits_of _ c.requires.wires_value))

pub bounds-wires-a : goal.bounds-wires-a
bounds-wires-a c = omega (arith, (turn (goal.at.bounds-wires-a c).In-loop-i).1)

pub bounds-wires-b : goal.bounds-wires-b
bounds-wires-b c = omega (arith, (turn (goal.at.bounds-wires-b c).In-loop-i).2)

pub gate_value-requires-clause-kind_bound : goal.gate_value-requires-clause-kind_bound
gate_value-requires-clause-kind_bound c = (turn (goal.at.gate_value-requires-clause-kind_bound c).In-loop-i).0

pub gate_value-requires-clause-a_bound : goal.gate_value-requires-clause-a_bound
gate_value-requires-clause-a_bound c =
    let now = (goal.at.gate_value-requires-clause-a_bound c).In-loop-i in
    (bit now _ (turn now).1, bit now _ (turn now).2)

pub loop-i-preserved : goal.loop-i-preserved
loop-i-preserved c =
    let d = may-drive (goal.at.loop-i-preserved c).In-loop-i in
    again c.loop-i.invariant c.requires.gates_in_bounds c.as_chunks.ensures.front (omega arith) c.gate_value.result d c.gate_value.ensures

pub returns : goal.returns
returns c =
    let p = c.requires in
    all-ran c.loop-i.invariant p.gates_in_bounds (omega arith) p.gates_value (omega arith)
