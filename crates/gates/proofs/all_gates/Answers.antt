-- `all_gates` meets its contract: what is left of the words is judged, after the wires so far, as the whole is.
use Rattle.std.proofs.Common.{◌≡◌, ℕ, ◌+◌, ◌*◌, ◌&&◌, ◌∙◌, eqb, sym, ap, length, drop, arith, length-drop}
use Rattle.std.proofs.lemmas.Bool.{eqb-false}
use Rattle.gates.specs.Memory as Memory
use Rattle.gates.proofs.Judging.{accepted_uneven, accepted-chunk, accepted_few}
use Rattle.gates.proofs.all_gates.Goals as goal
use Rattle.gates.proofs.all_gates.Goals.{After-drives}

-- what the whole comes to, by the gate that was judged and by what is left
judged : (c : After-drives) → let g = c.args.gates.now in
    Memory.accepted c.args.n g ≡ c.drives.result && Memory.accepted (c.args.n + (c.loop-i.i + 1)) (drop (3 * (c.loop-i.i + 1)) g)
judged c =
    rw c.drives.ensures
    (sym c.loop-i.invariant ∙ accepted-chunk c.args.gates.now _ c.args.n c.loop-i.i c.as_chunks.ensures.front (omega arith))

pub returns-then-not-is_empty : goal.returns-then-not-is_empty
returns-then-not-is_empty c =
    let over = eqb-false _ _ (sym c.is_empty.ensures ∙ c.if-not-is_empty.true) in
    sym (accepted_uneven c.args.n c.args.gates.now (λ e. over (omega (arith, e))))

pub returns-then-not-drives : goal.returns-then-not-drives
returns-then-not-drives c = sym (rw c.if-not-drives.true at (judged (goal.at.returns-then-not-drives c).After-drives))

pub loop-i-preserved : goal.loop-i-preserved
loop-i-preserved c = sym (rw c.if-not-drives.false at (judged (goal.at.loop-i-preserved c).After-drives))

pub returns : goal.returns
returns c =
    let g = c.args.gates.now in
    let left : length (drop (3 * c.loop-i.i) g) ≡ length c.as_chunks.result.1.now = omega (arith, length-drop (3 * c.loop-i.i) g) in
    sym (sym c.is_empty.ensures ∙ c.if-not-is_empty.false)
    ∙ (sym (ap (λ (k : ℕ). eqb k 0) left) ∙ sym (accepted_few _ _ (omega arith)) ∙ c.loop-i.invariant)
