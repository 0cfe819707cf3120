-- `get_set` meets its contract. The loop's invariant: `word` has the wires behind those that are left.
use borrow.Author.Rules.{rules}
use native.Mathlib.Omega.{arith}
use Rattle.readback.proofs.Words.{gathered-start, gathered_turn, gathered_room, gathered_end}
use Rattle.readback.proofs.unpacking.get_set.Goals as goal

pub loop-byte-init : goal.loop-byte-init
loop-byte-init c = gathered-start c.args.bytes.now c.args.at c.args.n c.requires.n_in_bounds _ (search rules)

pub overflow_mul-word : goal.overflow_mul-word
overflow_mul-word c = record { fits = omega (arith, gathered_room _ _ _ _ _ c.loop-byte.invariant _ _ c.in-Some.ensures.steps c.requires.n_bound) }

pub overflow_add-word : goal.overflow_add-word
overflow_add-word c = record {
  fits = omega (
    arith,
    c.value.ensures.upper_bound,
    gathered_room _ _ _ _ _ c.loop-byte.invariant _ _ c.in-Some.ensures.steps c.requires.n_bound,
  );
}

pub loop-byte-preserved : goal.loop-byte-preserved
loop-byte-preserved c = gathered_turn _ _ _ _ _ c.loop-byte.invariant _ _ c.in-Some.ensures.steps _ c.value.ensures.value

pub returns : goal.returns
returns c = gathered_end _ _ _ _ _ c.loop-byte.invariant c.in-None.ensures.steps.0
