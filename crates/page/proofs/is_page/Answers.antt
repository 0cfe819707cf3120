-- `is_page` meets its contract. The loop's invariant: the bytes below the index are the page's.
use mathlib.Core.Path.{◌≡◌, refl, sym, ap, ◌∙◌}
use mathlib.Core.Bool.{false, true, false≢true}
use mathlib.Core.List.{List}
use Prim.Native.Nat.{ℕ, ◌*◌, ◌<◌}
use native.Mathlib.Omega.{arith}
use lib.ListN.{length, get_or, take}
use lib.Seq.{ext_get_or, length-take-le}
use Rattle.words.proofs.Sameness.{same-is}
use Rattle.page.specs.Page.{page_of}
use Rattle.page.proofs.Lines.{page-length, page-at}
use Rattle.page.proofs.is_page.Goals as goal

pub returns-then-byte-byte_at : goal.returns-then-byte-byte_at
returns-then-byte-byte_at c =
    let a = c.args in
    let q = c.loop-q.q in
    let low : q < 80 * a.pilots = omega (arith, length-take-le (80 * a.pilots) a.page.now c.requires.2) in
    same-is false (take (80 * a.pilots) a.page.now) (page_of a.pilots a.watches a.model) (
      (λ e. absurd (false≢true e)),
      (λ e.
          absurd (c.if-byte-byte_at.true
          (ap (λ (x : List ℕ). get_or x q 0) e ∙ page-at a.pilots a.watches a.model c.requires.0 c.requires.1 q low ∙ sym c.byte_at.ensures))),
    )

pub returns : goal.returns
returns c =
    let l = c.loop-q in
    let a = c.args in
    let front : List ℕ = take (80 * a.pilots) a.page.now in
    let size : length front ≡ 80 * a.pilots = length-take-le (80 * a.pilots) a.page.now c.requires.2 in
    same-is true front (page_of a.pilots a.watches a.model) (
      (λ e.
          ext_get_or 0 front (page_of a.pilots a.watches a.model) (size ∙ sym (page-length a.pilots a.watches a.model c.requires.0 c.requires.1))
          (λ k b. l.invariant k (omega arith) ∙ sym (page-at a.pilots a.watches a.model c.requires.0 c.requires.1 k (omega arith)))),
      (λ e. refl),
    )
