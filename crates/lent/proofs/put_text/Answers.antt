-- `put_text` meets its contract: the bytes copied are the text's, which are no more than there is room for.
use mathlib.Core.Path.{◌≡◌, ap, ◌∙◌}
use mathlib.Core.List.{List, ◌++◌}
use Prim.Native.Nat.{ℕ, min}
use native.Mathlib.Omega.{arith}
use lib.ListN.{length, drop}
use borrow.Author.Rules.{rules}
use Rattle.lent.proofs.Fronts.{front_copied}
use Rattle.lent.proofs.put_text.Goals as goal

pub returns : goal.returns
returns c =
    let a = c.args in
    let size : length a.text.bytes ≡ 256 = search rules in
    let count : c.min-end.result ≡ min a.text.length (length a.text.bytes) = omega arith in
    ap (λ (l : List ℕ). l ++ drop c.min-end.result a.lent.now) c.copy_from_slice.ensures.after
    ∙ front_copied a.text.bytes a.text.length c.min-end.result count a.lent.now (omega arith)
