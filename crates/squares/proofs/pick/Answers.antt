-- `pick` meets its contract: the calls give each word from its place.
use Prim.Native.Nat.{ℕ, ◌+◌, ◌*◌}
use lib.ListN.{get_or}
use borrow.Author.Rules.{rules}
use borrow.Author.Tests.{tests}
use Rattle.words.proofs.Calls.{given_by_calls}
use Rattle.squares.proofs.Tabulating.{tabulated}
use Rattle.squares.proofs.pick.Goals as goal

pub returns : goal.returns
returns c =
    let word : ℕ → ℕ = λ j. get_or c.args.words.now (c.args.at + c.args.step * j) 0 in
    tabulated word 32 c.from_fn.result c.from_fn.ensures.items.long
    (given_by_calls c.from_fn.result 0 word (λ j y q k. search (rules, tests)) c.from_fn.ensures.items)
