-- The index by the literals' numbers: its words, and when 384 words are an index. Word by word.
use mathlib.Core.Path.{◌≡◌, sym, ap, ◌∙◌}
use mathlib.Core.List.{List, []}
use Prim.Native.Nat.{ℕ, ◌+◌, ◌*◌, ◌/◌, ◌%◌, ◌<◌}
use native.Mathlib.Omega.{arith}
use lib.Dec.{ltb}
use lib.ListN.{length, get_or, replicate, length-replicate, get_or-replicate}
use lib.Seq.{ext_get_or}
use borrow.Author.Tests.{ltb-true, ltb-false}
use Rattle.words.specs.declared.Row.{Row}
use Rattle.words.specs.Sets.{word_of}
use Rattle.words.proofs.Truth.{on}
use Rattle.occurrences.specs.Index.{at, word_at, index_of}
use Rattle.occurrences.specs.RowWords.{numbered}
use Rattle.occurrences.proofs.IndexLaws.{index-length, place, literal-at}

place_is : (l : ℕ) → l < 64 → place (ltb l 32) (l % 32) ≡ l
place_is l b = on (ltb l 32) (λ e. rw e (omega (arith, ltb-true l 32 e))) (λ e. rw e (omega (arith, ltb-false l 32 e)))

module _ (rows : List Row) where
  pub number_at : (l w : ℕ) → l < 64 → w < 6 → get_or (index_of rows) (6 * l + w) 0 ≡ word_at (numbered l) rows w
  number_at l w b h =
      ap (λ (x : ℕ). get_or (index_of rows) (6 * x + w) 0) (sym (place_is l b)) ∙ literal-at rows (ltb l 32) (l % 32) w (omega arith) h

  -- 384 words that are the literals' sets
  pub index_ext : (xs : List ℕ) → length xs ≡ 384 → ((l w : ℕ) → l < 64 → w < 6 → get_or xs (6 * l + w) 0 ≡ word_at (numbered l) rows w)
      → xs ≡ index_of rows
  index_ext xs e h =
      ext_get_or 0 xs (index_of rows) (e ∙ sym (index-length rows))
      (λ i b.
      let k : i ≡ 6 * (i / 6) + i % 6 = omega arith in
      let l : i / 6 < 64 = omega arith in
      let w : i % 6 < 6 = omega arith in
      ap (λ (x : ℕ). get_or xs x 0) k ∙ h (i / 6) (i % 6) l w
      ∙ sym (number_at (i / 6) (i % 6) l w) ∙ ap (λ (x : ℕ). get_or (index_of rows) x 0) (sym k))

-- no rows
pub index-none : replicate 384 0 ≡ index_of []
unfolding at word_of
index-none = index_ext [] (replicate 384 0) (length-replicate {A = ℕ} 384 0) (λ l w b h. get_or-replicate {A = ℕ} 384 (6 * l + w) 0 0 (omega arith))
