-- `low` meets its contract, by the law of that word.
use Prim.Native.Nat.{◌^◌, ◌<◌}
use borrow.Author.Rules.{rules}
use Rattle.squares.proofs.Mixing.{low-word}
use Rattle.squares.proofs.low.Goals as goal

pub returns : goal.returns
returns c =
    let a = c.args in
    let ha : a.a < 2 ^ 32 = search rules in
    let hb : a.b < 2 ^ 32 = search rules in
    let hm : a.mask < 2 ^ 32 = search rules in
    low-word a.d a.mask c.requires.1 a.a a.b c.requires.0 hm ha hb
