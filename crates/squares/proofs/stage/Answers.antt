-- `stage` meets its contract: the words below 2 × j are filled in, two in each turn.
use mathlib.Core.Path.{◌≡◌, refl, ap₂, subst, ◌∙◌}
use mathlib.Core.Bool.{true, false}
use mathlib.Core.List.{List}
use Prim.Native.Nat.{ℕ, ◌+◌, ◌*◌, ◌/◌, ◌%◌, ◌<◌}
use native.Mathlib.Omega.{arith}
use lib.Dec.{eqb}
use lib.ListN.{get_or, set}
use borrow.Author.Tests.{eq-eqb, ne_eqb}
use Rattle.squares.specs.Steps.{low_word, high_word, mixed_word}
use Rattle.squares.proofs.Tabulating.{Filled, filled-start, filled_next, filled_end}
use Rattle.squares.proofs.stage.Goals as goal

module _ (words : List ℕ) (d j : ℕ) where
  low-at : low_word (get_or words j 0) (get_or words (j + 16) 0) d ≡ mixed_word words d (2 * j)
  unfolding mixed_word
  low-at =
      let half : 2 * j / 2 ≡ j = omega arith in
      let even : eqb (2 * j % 2) 1 ≡ false = ne_eqb (2 * j % 2) 1 (λ (e : 2 * j % 2 ≡ 1). omega arith) in
      rw (even, half) refl

  high-at : high_word (get_or words j 0) (get_or words (j + 16) 0) d ≡ mixed_word words d (2 * j + 1)
  unfolding mixed_word
  high-at =
      let half : (2 * j + 1) / 2 ≡ j = omega arith in
      let odd : eqb ((2 * j + 1) % 2) 1 ≡ true = eq-eqb ((2 * j + 1) % 2) 1 (omega arith) in
      rw (odd, half) refl

  -- a turn
  both-filled : (next : List ℕ) → Filled (mixed_word words d) 32 (2 * j) next → j < 16 → (a b u v : ℕ) → a ≡ get_or words j 0
      → b ≡ get_or words (j + 16) 0 → u ≡ low_word a b d → v ≡ high_word a b d
      → Filled (mixed_word words d) 32 (2 * (j + 1)) (set (set next (2 * j) u) (2 * j + 1) v)
  both-filled next s h a b u v ea eb eu ev =
      let once = filled_next _ 32 (2 * j) next s (omega arith) u (eu ∙ ap₂ (λ (x y : ℕ). low_word x y d) ea eb ∙ low-at) in
      let twice = filled_next _ 32 (2 * j + 1) _ once (omega arith) v (ev ∙ ap₂ (λ (x y : ℕ). high_word x y d) ea eb ∙ high-at) in
      let e : 2 * j + 1 + 1 ≡ 2 * (j + 1) = omega arith in
      subst (λ (x : ℕ). Filled (mixed_word words d) 32 x (set (set next (2 * j) u) (2 * j + 1) v)) e twice

pub loop-j-init : goal.loop-j-init
loop-j-init c = filled-start _ 32 _ refl

pub loop-j-preserved : goal.loop-j-preserved
loop-j-preserved c =
    let a = c.args in
    let l = c.loop-j in
    both-filled a.words a.d l.j l.next l.invariant (omega arith) c.word-a.result c.word-b.result
    c.low.result c.high.result c.word-a.ensures c.word-b.ensures c.low.ensures c.high.ensures

pub returns : goal.returns
returns c = let l = c.loop-j in filled_end _ 32 (2 * l.j) l.next l.invariant (omega arith)
