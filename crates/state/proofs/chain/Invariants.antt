-- `chain` meets its contract. The loop's invariant: the levels that the iterator still has, before the present T and F, decide what the whole decides.
use Rattle.std.proofs.Common.{◌≡◌, reverse}
use Rattle.std.specs.Slice.Iter.{iter_rest}
use Rattle.std.specs.Iterator.Adapters.{rev_source}
use Rattle.state.specs.State.{levels_of}
use Rattle.state.specs.WellFormed.{chain}
use Rattle.state.proofs.chain.Given as goal

abbrev pub invariant-loop-level : goal.invariant-loop-level
invariant-loop-level l =
    chain l.n l.t l.f (reverse (iter_rest (rev_source l.level-iterator))) ≡ chain l.n l.fn.t l.fn.f (levels_of l.fn.depth l.fn.levels)
