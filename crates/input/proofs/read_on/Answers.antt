-- `read_on` meets its contract. The invariant: the files' ends are within the buffer, which keeps its length and the bytes of `begun`.
use Prim.Native.Nat.{ℕ, ◌≤◌}
use mathlib.Core.Path.{◌≡◌, ◌∙◌, ap, sym}
use mathlib.Core.List.{List, ◌++◌}
use lib.ListN.{length, take, drop, length-drop, length-append}
use lib.Seq.{take-append-le, take-take}
use borrow.Author.Rules.{rules}
use native.Mathlib.Omega.{arith}
use Rattle.input.proofs.read_on.Goals as goal

-- bytes read from place p on, in a buffer's first k, leave those below a
kept : (a p k : ℕ) (xs ys ws : List ℕ) → a ≤ p → p ≤ k → p ≤ length ys → take p ys ≡ take p (take k xs) → take a xs ≡ take a ws
    → take a (ys ++ drop k xs) ≡ take a ws
kept a p k xs ys ws h i j e f =
    take-append-le a ys (drop k xs) (omega arith) ∙ sym (take-take a p ys h) ∙ ap (λ (zs : List ℕ). take a zs) e
    ∙ take-take a p (take k xs) h ∙ take-take a k xs (omega arith) ∙ f

pub returns-then-n-end-clause-buf_unchanged : goal.returns-then-n-end-clause-buf_unchanged
returns-then-n-end-clause-buf_unchanged g c =
    let l = c.loop-files in kept _ _ _ _ _ _ l.invariant.2 c.limit-end.ensures.lower_bound (omega arith) c.fill-n.ensures.buf_unchanged l.invariant.3

pub loop-files-preserved : goal.loop-files-preserved
loop-files-preserved g c =
    let l = c.loop-files in (
      (omega arith, omega arith, simp (length-append, length-drop) (omega arith)),
      search rules,
      omega arith,
      kept _ _ _ _ _ _ l.invariant.2 c.limit-end.ensures.lower_bound (omega arith) c.fill-n.ensures.buf_unchanged l.invariant.3,
    )
