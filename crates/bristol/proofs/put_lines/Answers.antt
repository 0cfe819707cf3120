-- `put_lines` meets its contract: the next line is put, or it is too long and changes no byte. Where the turns end no line is left that fits.
use mathlib.Core.Path.{◌≡◌, ap, ◌∙◌}
use Prim.Native.Nat.{◌+◌, ◌-◌, ◌/◌, ◌≤◌}
use native.Mathlib.Omega.{arith}
use lib.ListN.{length, drop}
use Rattle.gates.specs.Memory.{gates_of}
use Rattle.bristol.specs.Text.{circuit_lines}
use Rattle.bristol.specs.Writing.{fitting}
use Rattle.bristol.proofs.Requests.{taken_lines}
use Rattle.bristol.proofs.Fitting.{fitting_past}
use Rattle.bristol.proofs.Filling.{line-more, line-last, lines_put, lines_refused}
use Rattle.bristol.proofs.put_lines.Goals as goal
use Rattle.bristol.proofs.put_lines.Goals.{In-Ok, In-Err, In-Err-2, Start}

-- how many lines there are
number : (c : Start) → length (circuit_lines c.args.d (gates_of c.args.gates.now)) ≡ 4 + length c.args.gates.now / 3
number c = taken_lines c.args.d c.args.gates.now c.requires

pub returns-in-Err : goal.returns-in-Err
returns-in-Err c =
    let s = c.args in
    let l = c.loop-next in
    let q = line-last s.d s.gates.now c.requires s.line s.bytes.now l.bytes l.next l.at l.invariant
    (omega (arith, number (goal.at.returns-in-Err c).Start, c.loop-next-test.true)) c.put_line.result _
    (c.put_line.ensures.value, c.put_line.ensures.bytes_after) c.in-Err.refusal c.in-Err.is in
    let p = lines_refused s.d s.gates.now c.requires s.line s.bytes.now l.bytes l.next l.at l.invariant q.2
    (omega (arith, number (goal.at.returns-in-Err c).Start, c.loop-next-test.true)) c.if-next-line.true in
    record { value = rw q.0 p.0; bytes_after = q.1 ∙ p.1 }

pub returns-in-Err-2 : goal.returns-in-Err-2
returns-in-Err-2 c =
    let s = c.args in
    let l = c.loop-next in
    let q = line-last s.d s.gates.now c.requires s.line s.bytes.now l.bytes l.next l.at l.invariant
    (omega (arith, number (goal.at.returns-in-Err-2 c).Start, c.loop-next-test.true)) c.put_line.result _
    (c.put_line.ensures.value, c.put_line.ensures.bytes_after) _ c.in-Err-2.is in
    let p = lines_put s.d s.gates.now c.requires s.line s.bytes.now l.bytes l.next l.at l.invariant q.2 (λ z. absurd (c.if-next-line.false z)) in
    record { value = p.0; bytes_after = q.1 ∙ p.1 }

pub loop-next-preserved : goal.loop-next-preserved
loop-next-preserved c =
    let s = c.args in
    let l = c.loop-next in
    line-more s.d s.gates.now c.requires s.line s.bytes.now l.bytes l.next l.at l.invariant
    (omega (arith, number (goal.at.loop-next-preserved c).Start, c.loop-next-test.true)) c.put_line.result _
    (c.put_line.ensures.value, c.put_line.ensures.bytes_after) _ c.in-Ok.is

pub returns : goal.returns
returns c =
    let s = c.args in
    let l = c.loop-next in
    let none : 4 + length s.gates.now / 3 ≤ s.line → length (fitting (length s.bytes.now) (drop s.line (circuit_lines s.d (gates_of s.gates.now)))) ≡ 0 =
    λ h. ap length (fitting_past (circuit_lines s.d (gates_of s.gates.now)) s.line _ (omega (arith, number (goal.at.returns c).Start, h))) in
    let counted : c.saturating_sub.result ≡ l.next - s.line =
    grind (arith, l.auto.next-end, l.invariant.counted, none) in
    let proved = lines_put s.d s.gates.now c.requires s.line s.bytes.now l.bytes l.next l.at l.invariant
    (fitting_past (circuit_lines s.d (gates_of s.gates.now)) l.next _ (omega (arith, number (goal.at.returns c).Start, c.loop-next-test.false)))
    (λ z. omega (arith, number (goal.at.returns c).Start, z, c.loop-next-test.false)) in
    record { value = rw counted proved.0; bytes_after = proved.1 }
