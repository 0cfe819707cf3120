-- `put_page` meets its contract: after the loop the front of the bytes is the page.
use mathlib.Core.Path.{◌≡◌, sym, ap, ◌∙◌}
use mathlib.Core.List.{List, ◌++◌}
use Prim.Native.Nat.{ℕ, ◌*◌}
use native.Mathlib.Nat.{zero-add}
use native.Mathlib.Omega.{arith}
use lib.ListN.{length, drop}
use lib.Seq.{sets-eq, ext_get_or, length-take-le}
use Rattle.page.specs.Page.{page_of}
use Rattle.page.proofs.Lines.{page-length, page-at}
use Rattle.page.proofs.put_page.Goals as goal

pub returns : goal.returns
returns c =
    let l = c.loop-q in
    let a = c.args in
    let shown = page_of a.pilots a.watches a.model in
    let long = page-length a.pilots a.watches a.model c.requires.0 c.requires.1 in
    let size : length l.byte-items ≡ 80 * a.pilots = l.auto.byte-items ∙ length-take-le (80 * a.pilots) a.page.now c.requires.2 in
    let same : l.byte-items ≡ shown = ext_get_or 0 l.byte-items shown (size ∙ sym long)
    (λ k b. l.invariant k (omega arith) ∙ sym (page-at a.pilots a.watches a.model c.requires.0 c.requires.1 k (omega arith))) in
    ap (λ (x : List ℕ). x ++ drop (80 * a.pilots) a.page.now) same
    ∙ ap (λ (k : ℕ). shown ++ drop k a.page.now) (sym long ∙ sym (zero-add (length shown)))
    ∙ sym (sets-eq shown a.page.now 0 (omega arith))
