-- Tests over a list of rows, by the rows' numbers. Each from `any` over the numbers, which is by induction on the list.
use mathlib.Core.Path.{◌≡◌, refl, ap, ◌∙◌}
use mathlib.Core.Bool.{Bool, true, false, not, ◌&&◌, ◌||◌}
use mathlib.Core.List.{List, [], ◌∷◌}
use Prim.Native.Nat.{ℕ, ◌<◌}
use lib.ListN.{length}
use Rattle.words.specs.declared.Row.{Row}
use Rattle.words.specs.Sets.{any}
use Rattle.words.proofs.Truth.{on, taut2, agree, agree_eq}
use Rattle.words.proofs.Upto.{any-i}
use Rattle.words.proofs.Last.{any_false}
use Rattle.scan.specs.Rules.{all_rows, any_row}
use Rattle.wires.proofs.Addresses.{row_of}

module _ (p : Row → Bool) where
  any-numbered : (rows : List Row) → any_row p rows ≡ any (λ j. p (row_of rows j)) (length rows)
  unfolding any_row any
  any-numbered [] = refl
  any-numbered (r ∷ rs) = ap (λ (x : Bool). p r || x) (any-numbered rs)

  all-numbered : (rows : List Row) → all_rows p rows ≡ not (any (λ j. not (p (row_of rows j))) (length rows))
  unfolding all_rows any
  all-numbered [] = refl
  all-numbered (r ∷ rs) =
      ap (λ (x : Bool). p r && x) (all-numbered rs)
      ∙ agree_eq (taut2 (λ a b. agree (a && not b) (not (not a || b))) refl (p r) (any (λ j. not (p (row_of rs j))) (length rs)))

  pub some-row : (rows : List Row) (j : ℕ) → j < length rows → p (row_of rows j) ≡ true → any_row p rows ≡ true
  some-row rows j h e = any-numbered rows ∙ any-i (λ j. p (row_of rows j)) (length rows) j h e

  pub no_row : (rows : List Row) → ((j : ℕ) → j < length rows → p (row_of rows j) ≡ true → ⊥) → any_row p rows ≡ false
  no_row rows h =
      any-numbered rows ∙ any_false (λ j. p (row_of rows j)) (length rows) (λ j l. on (p (row_of rows j)) (λ e. absurd (h j l e)) (λ e. e))

  pub not-all : (rows : List Row) (j : ℕ) → j < length rows → p (row_of rows j) ≡ false → all_rows p rows ≡ false
  not-all rows j h e = all-numbered rows ∙ ap not (any-i (λ j. not (p (row_of rows j))) (length rows) j h (ap not e))

  pub all_pass : (rows : List Row) → ((j : ℕ) → j < length rows → p (row_of rows j) ≡ true) → all_rows p rows ≡ true
  all_pass rows h = all-numbered rows ∙ ap not (any_false (λ j. not (p (row_of rows j))) (length rows) (λ j l. ap not (h j l)))
