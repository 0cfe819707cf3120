-- Sets that have exactly the rows they should, and the rows looked at, are exactly the tally: tests of rows by number, then over the list of rows.
use mathlib.Core.Path.{◌≡◌, refl, ap, ap₂, ◌∙◌, fun_ext}
use mathlib.Core.Bool.{Bool, true, false, ◌&&◌, ◌||◌}
use mathlib.Core.List.{List}
use Prim.Native.Nat.{ℕ, ◌+◌, ◌*◌, ◌≤◌, ◌<◌}
use native.Mathlib.Omega.{arith}
use lib.Dec.{eqb, ltb}
use lib.Bits.{bit_or}
use borrow.Author.Tests.{ltb-true, ltb-false}
use Rattle.words.specs.declared.Row.{Row}
use Rattle.words.specs.Sets.{bit, any, word_of}
use Rattle.words.proofs.Truth.{on, taut2, agree, agree_eq}
use Rattle.words.proofs.Upto.{count_cong}
use Rattle.words.proofs.Last.{any_cong}
use Rattle.words.proofs.Bits.{bit-or}
use Rattle.words.proofs.Operations.{bit-and}
use Rattle.words.proofs.WordOf.{word_of_cong}
use Rattle.tables.specs.Rows.{row_at, rows_from, free, free_in}
use Rattle.scan.specs.Rules.{any_row, unsatisfied_with}
use Rattle.occurrences.specs.Index.{at, row_set, holds_literal}
use Rattle.occurrences.proofs.IndexLaws.{set_at}
use Rattle.tables.proofs.Numbering.{table-length}
use Rattle.occurrences.proofs.SetLaws.{at_past, at_words, word-bit, word_size}
use Rattle.tally.specs.Tallies.{count_rows, unmet, unsatisfied_rows, forcing, forced_word, tally_of}
use Rattle.tally.specs.Words.{size_of, some_in, or_some, variables_of, variables_are, word_of_sign, forces_only, forced_in, gathered}
use Rattle.tally.proofs.Sums.{count-six, any-six, count_at, any_at}
use Rattle.tally.proofs.SettingRows.{free_are, only_free}

module _ (words : List ℕ) (m : ℕ) (few : m ≤ 384) where
  abbrev rows : List Row
  rows = rows_from words 0 m

  -- ---- over a set and over the list

  both_at : (p q : Row → Bool) (i : ℕ) → at p rows i && q (row_at words i) ≡ at (λ r. p r && q r) rows i
  both_at p q i =
      on (ltb i m)
      (λ e. rw (here e p, here e (λ r. p r && q r)))
      (λ e. rw (past e p, past e (λ r. p r && q r)))
    where
      here : ltb i m ≡ true → (p : Row → Bool) → at p rows i ≡ p (row_at words i)
      here e p = let z : 0 + i ≡ i = omega arith in at_words p words 0 m i (ltb-true i m e) ∙ ap (λ (x : ℕ). p (row_at words x)) z

      past : ltb i m ≡ false → (p : Row → Bool) → at p rows i ≡ false
      past e p = at_past p rows i (omega (arith, ltb-false i m e, table-length words 0 m))

  some-rows : (x : Bool) (p q : Row → Bool) → or_some x (row_set p rows) (λ i. q (row_at words i)) ≡ x || any_row (λ r. p r && q r) rows
  some-rows x p q =
      let e : (w : ℕ) → w < 6 → some_in (row_set p rows) (λ i. q (row_at words i)) w ≡ any (λ j. at (λ r. p r && q r) rows (64 * w + j)) 64 = word in
      (λ i. x || e 0 (omega arith) i || e 1 (omega arith) i || e 2 (omega arith) i || e 3 (omega arith) i || e 4 (omega arith) i || e 5 (omega arith) i)
      ∙ apart x _ _ _ _ _ _
      ∙ ap (λ (y : Bool). x || y) (any-six (at (λ r. p r && q r) rows) ∙ any_at (λ r. p r && q r) rows 384 (omega (arith, table-length words 0 m)))
    where
      word : (w : ℕ) → w < 6 → some_in (row_set p rows) (λ i. q (row_at words i)) w ≡ any (λ j. at (λ r. p r && q r) rows (64 * w + j)) 64
      word w h =
          any_cong _ _ 64
          (λ j c. ap (λ (y : Bool). y && q (row_at words (64 * w + j))) (ap (λ (s : ℕ). bit s j) (set_at rows p w h) ∙ word-bit p rows w j c)
          ∙ both_at p q (64 * w + j))

      apart : (x a b c d e g : Bool) → x || a || b || c || d || e || g ≡ x || (a || b || c || d || e || g)
      apart true a b c d e g = refl
      apart false a b c d e g = refl

  size-rows : (p : Row → Bool) → size_of (row_set p rows) ≡ count_rows p rows
  size-rows p =
      omega (
        arith,
        word_size p rows 0,
        word_size p rows 1,
        word_size p rows 2,
        word_size p rows 3,
        word_size p rows 4,
        word_size p rows 5,
        count-six (at p rows),
        count_at p rows 384 (omega (arith, table-length words 0 m)),
      )

  -- ---- T, F and the variables free then

  module _ (t f unset : ℕ) (unset-bit : (v : ℕ) → v < 32 → bit unset v ≡ free t f v) where
    -- a row's variables of the free ones
    pub variables_bit : (i v : ℕ) → v < 32 → bit (variables_of words unset i) v ≡ free_in (row_at words i) t f v
    variables_bit i v b =
        let p = (row_at words i).positive in
        let q = (row_at words i).negative in
        bit-and (bit_or p q) unset v ∙ ap₂ (λ (x y : Bool). x && y) (bit-or p q v) (unset-bit v b)
        ∙ agree_eq (taut2 (λ x y. agree (x && y) (y && x)) refl (bit p v || bit q v) (free t f v))

    are_free : (k i : ℕ) → variables_are k words unset i ≡ free_are k 32 t f (row_at words i)
    are_free k i = ap (λ (c : ℕ). eqb c k) (count_cong (bit (variables_of words unset i)) (λ v. free_in (row_at words i) t f v) 32 (variables_bit i))

    forces-only : (sign : Bool) (v : ℕ) → v < 32 → (i : ℕ) → forces_only sign words unset v i ≡ only_free sign 32 t f v (row_at words i)
    forces-only sign v b i = ap₂ (λ (x y : Bool). x && y) (are_free 1 i) (ap₂ (λ (x y : Bool). x && y) (held sign) (variables_bit i v b))
      where
        held : (sign : Bool) → bit (word_of_sign sign words i) v ≡ holds_literal sign v (row_at words i)
        held true = refl
        held false = refl

    -- the rows looked at pass p; `word` are the variables whose literals were forced already, by sign
    module _ (p : Row → Bool) (word : Bool → ℕ) (unsatisfied look : List ℕ)
        (unsatisfied-is : unsatisfied ≡ row_set (unmet 32 t f) rows)
        (look_is : look ≡ row_set p rows)
        (none : any_row (λ r. p r && free_are 0 32 t f r) rows ≡ any_row (unsatisfied_with 0 32 t f) rows)
        (one : (sign : Bool) (v : ℕ) → v < 32
        → bit (word sign) v || any_row (λ r. p r && only_free sign 32 t f v r) rows ≡ any_row (forcing sign 32 t f v) rows) where
      conflict_is : or_some false look (variables_are 0 words unset) ≡ any_row (unsatisfied_with 0 32 t f) rows
      conflict_is = ap₂ (or_some false) look_is (fun_ext (are_free 0)) ∙ some-rows false p (free_are 0 32 t f) ∙ none

      word-is : (sign : Bool) → word_of (λ v. or_some (bit (word sign) v) look (forces_only sign words unset v)) 32 ≡ forced_word sign rows t f
      word-is sign =
          word_of_cong _ _ 32
          (λ v b. ap₂ (or_some (bit (word sign) v)) look_is (fun_ext (forces-only sign v b))
          ∙ some-rows (bit (word sign) v) p (only_free sign 32 t f v) ∙ one sign v b)

      pub gathered-exact : gathered words unset (word true) (word false) unsatisfied look ≡ tally_of rows t f
      unfolding gathered forced_in tally_of unsatisfied_rows
      gathered-exact = λ i. record {
        number = (ap size_of unsatisfied-is ∙ size-rows (unmet 32 t f)) i;
        conflict = conflict_is i;
        unsatisfied = unsatisfied-is i;
        positive = word-is true i;
        negative = word-is false i;
      }
