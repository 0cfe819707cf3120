-- `put_words` meets its contract: the words copied are those that the buffer has room for.
use mathlib.Core.Path.{ap, ◌∙◌}
use mathlib.Core.List.{List, ◌++◌}
use lib.ListN.{drop}
use Prim.Native.Nat.{ℕ}
use Rattle.lent.proofs.Fronts.{front_room}
use Rattle.lent.proofs.put_words.Goals as goal

pub returns : goal.returns
returns c =
    let a = c.args in
    ap (λ (l : List ℕ). l ++ drop c.min-end.result a.lent.now) c.copy_from_slice.ensures.after
    ∙ front_room a.words.now a.lent.now c.min-end.result c.min-end.ensures
