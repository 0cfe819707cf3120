-- `put_rows` meets its contract: the words are the callee's, and no more than there are.
use mathlib.Core.Path.{ap, ◌∙◌}
use mathlib.Core.List.{List}
use Prim.Native.Nat.{ℕ, ◌*◌}
use native.Mathlib.Omega.{arith}
use lib.ListN.{length-take}
use Rattle.lent.specs.Lent.{front}
use Rattle.lent.proofs.Fronts.{first-values}
use Rattle.lent.proofs.put_rows.Goals as goal

pub slice_bounds-put_words-end : goal.slice_bounds-put_words-end
slice_bounds-put_words-end c =
    omega (arith, c.min-end.ensures, length-take c.min-end.result c.args.words)

pub returns : goal.returns
returns c =
    let t = first-values c.args.words (2 * c.args.rows) c.min-end.result (omega (arith, c.min-end.ensures)) in
    c.put_words.ensures ∙ ap (λ (v : List ℕ). front v c.args.lent.now) t
