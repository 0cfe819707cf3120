-- `next_run` meets its contract: all outputs are handed to the read-back, which decides, and the mark is the closing wire.
use mathlib.Core.Path.{◌≡◌, sym, ap, ◌∙◌}
use mathlib.Core.List.{List}
use Prim.Native.Nat.{ℕ, ◌+◌}
use native.Mathlib.Omega.{arith}
use lib.Dec.{eqb}
use lib.ListN.{get_or, take}
use lib.Seq.{take_all}
use Rattle.refusals.proofs.Outcomes.{passed_on}
use Rattle.dimensions.specs.Sizes.{state_wire_count}
use Rattle.readback.specs.declared.Read.{Read}
use Rattle.readback.specs.Reading.{read_back}
use Rattle.repeats.specs.Application.{Applied, mark_result}
use Rattle.repeats.proofs.Judging.{next-refused, next-taken}
use Rattle.repeats.proofs.next_run.Goals as goal
use Rattle.repeats.proofs.next_run.Goals.{After-read_back-read}

-- what was read, in the definition's words
read_is : (c : After-read_back-read) → c.read_back-read.result ≡ read_back c.args.n (take (state_wire_count c.args.n + 1) c.args.outputs.now)
read_is c =
    c.read_back-read.ensures.value
    ∙ ap (λ (l : List ℕ). read_back c.args.n l) (sym (take_all (state_wire_count c.args.n + 1) c.args.outputs.now (omega (arith, c.requires))))

pub returns-in_err-read : goal.returns-in_err-read
returns-in_err-read c =
    let refused = sym (ap (λ (x : Read). x.outcome) (read_is (goal.at.returns-in_err-read c).After-read_back-read)) ∙ c.in_err-read.was in
    let e = sym (next-refused c.args.n c.args.run.now c.args.outputs.now _ refused) in
    rw (passed_on _ _ c.from_residual.ensures.1) (record { value = ap mark_result e; run_after = ap (λ (x : Applied). x.run) e })

pub returns : goal.returns
returns c =
    let read = read_is (goal.at.returns c).After-read_back-read in
    let taken = sym (ap (λ (x : Read). x.outcome) read) ∙ c.in_ok-read.was in
    let e = next-taken c.args.n c.args.run.now c.args.outputs.now taken _ (ap (λ (x : Read). x.run) read) _
    (ap (λ (k : ℕ). eqb (get_or c.args.outputs.now k 0) 1) c.state_wires_of.ensures) in
    record { value = ap mark_result e; run_after = ap (λ (x : Applied). x.run) e }
