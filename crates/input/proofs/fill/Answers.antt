-- `fill` meets its contract. The invariant: what was read is within the buffer, which keeps its length and its bytes below `from`, and the file gave
-- what was read.
use Rattle.std.proofs.Common.{rules, ◌-◌, ◌++◌, length, take, drop, length-take, subst, ◌∙◌}
use lib.Seq.{take-append-le, take-take}
use native.Mathlib.Omega.{arith}
use Rattle.input.proofs.Giving.{HasGiven, more-given, follows-on}
use Rattle.input.proofs.fill.Goals as goal

pub loop-done-preserved : goal.loop-done-preserved
loop-done-preserved g c =
    let l = c.loop-done in
    let read = c.in-Some.ensures in
    let rest = drop (length l.buf - l.done) (drop l.done l.buf) in (
      search rules,
      search rules,
      search rules,
      take-append-le c.args.from (take l.done l.buf) (c.read_some.new.buf ++ rest) (simp length-take (omega (arith, l.invariant)))
          ∙ take-take c.args.from l.done l.buf l.invariant.2 ∙ l.invariant.3,
      subst (HasGiven g.F.Read.remaining c.args.file.now c.read_some.new.file)
          (follows-on c.args.from l.done c.in-Some.n l.buf c.read_some.new.buf rest l.invariant.2 l.invariant.0 read.bound)
          (more-given g.F.Read.remaining _ _ _ _ _ l.invariant.4 read.given),
    )
