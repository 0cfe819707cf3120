-- `trial` meets its contract: `Run` holds at each turn, in the trial's form of bytes; a gate that may not drive its wire makes the whole refused, and at
-- the end the buffer is filled.
use Rattle.std.proofs.Common.{◌<◌, [], get_or, sym, ◌∙◌, arith}
use borrow.Author.Tests.{le-ltb}
use Rattle.gates.proofs.Judging.{first-late, second-late}
use Rattle.evaluator.proofs.TrialBytes.{refused, ended, trial_read, trial_drives, trial_next}
use Rattle.evaluator.proofs.trial.Goals as goal
use Rattle.evaluator.proofs.trial.Goals.{Else-m-b}

-- what the first wire's byte is below
low : (c : Else-m-b) → get_or c.loop-i.scratch (get_or (get_or c.as_chunks.result.0.now c.loop-i.i []) 1 0) 0 < 4
low c = trial_read c.loop-i.invariant c.requires.gates_in_bounds (omega arith) _ c.if-m-a.false

pub returns-then-m-a-clause-value : goal.returns-then-m-a-clause-value
returns-then-m-a-clause-value c =
    refused c.loop-i.invariant c.requires.gates_in_bounds c.as_chunks.ensures.front (omega arith) (first-late _ _ _ _ c.if-m-a.true)

pub returns-then-m-b-clause-value : goal.returns-then-m-b-clause-value
returns-then-m-b-clause-value c =
    refused c.loop-i.invariant c.requires.gates_in_bounds c.as_chunks.ensures.front (omega arith) (second-late _ _ _ _ c.if-m-a.false c.if-m-b.true)

pub returns-then-at-ge40-clause-value : goal.returns-then-at-ge40-clause-value
returns-then-at-ge40-clause-value c =
    let r = c.loop-i.invariant in
    let p = c.requires.gates_in_bounds in
    refused r p c.as_chunks.ensures.front (omega arith)
    (sym (trial_drives r p (omega arith) _ _ _ c.if-m-a.false c.if-m-b.false)
    ∙ le-ltb _ 10 (omega (arith, low (goal.at.returns-then-at-ge40-clause-value c).Else-m-b)))

pub loop-i-preserved : goal.loop-i-preserved
loop-i-preserved c =
    trial_next c.loop-i.invariant c.requires.gates_in_bounds c.as_chunks.ensures.front (omega arith) c.if-m-a.false c.if-m-b.false
    (omega (arith, low (goal.at.loop-i-preserved c).Else-m-b))

pub returns : goal.returns
returns c =
    let t = ended c.loop-i.invariant c.requires.gates_in_bounds (omega arith) _ (omega arith) c.as_chunks.ensures.back_len in
    rw c.is_empty.ensures record { value = t.0; scratch_after = t.1 }
