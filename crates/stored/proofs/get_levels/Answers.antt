-- `get_levels` meets its contract: the calls give each level from its three words.
use Prim.Native.Nat.{◌+◌, ◌*◌}
use borrow.Author.Rules.{rules}
use borrow.Author.Tests.{tests}
use Rattle.state.specs.State.{none}
use Rattle.words.proofs.Calls.{given_by_calls}
use Rattle.stored.proofs.Levels.{level_at, levels-read}
use Rattle.stored.proofs.get_levels.Goals as goal

pub returns : goal.returns
returns c = levels-read c.args.words c.from_fn.result c.from_fn.ensures.items.long
    (given_by_calls c.from_fn.result none (λ i. level_at c.args.words (5 + 3 * i)) (λ i y q k. search (rules, tests)) c.from_fn.ensures.items)
