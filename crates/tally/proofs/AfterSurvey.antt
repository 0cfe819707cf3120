-- The law of `survey`: from the rows and their index, exactly their tally at T and F. Row by row.
use mathlib.Core.Path.{◌≡◌, refl, sym, ap, ap₂, ◌∙◌}
use mathlib.Core.Bool.{Bool, true, false, not, ◌&&◌, ◌||◌, and-false, and-true}
use mathlib.Core.List.{List}
use Prim.Native.Nat.{ℕ, ◌+◌, ◌-◌, ◌*◌, ◌^◌, ◌≤◌, ◌<◌}
use native.Mathlib.Omega.{arith}
use lib.Dec.{eqb, leb, ltb}
use lib.Bits.{bit_or}
use lib.ListN.{get_or}
use borrow.Author.Tests.{eqb-true, ltb-true, ltb-false, lt-leb}
use Rattle.words.specs.declared.Row.{Row}
use Rattle.words.specs.Sets.{bit, any, count}
use Rattle.words.proofs.Truth.{on, taut4, agree, agree_eq}
use Rattle.words.proofs.Upto.{count_cong}
use Rattle.words.proofs.Last.{any_cong}
use Rattle.words.proofs.Bits.{bit-zero}
use Rattle.words.proofs.WordOf.{word_of_cong}
use Rattle.tables.specs.Rows.{row_at, rows_from, satisfied, satisfies, free_in}
use Rattle.tables.proofs.Rows.{satisfied-any}
use Rattle.scan.specs.Rules.{any_row, unsatisfied_with}
use Rattle.scan.proofs.RowLaws.{any-row_cong}
use Rattle.occurrences.specs.Index.{at, word_at, row_set, holds_literal, index_of}
use Rattle.occurrences.proofs.IndexLaws.{positive-at, negative-at}
use Rattle.tables.proofs.Numbering.{table-length}
use Rattle.occurrences.proofs.SetLaws.{at_past, at_words, word-bit}
use Rattle.tally.specs.Tallies.{unmet, forcing, tally_of}
use Rattle.tally.specs.Words.{six_words}
use Rattle.tally.specs.RowsSeen.{met_by, free_by, unmet_by, few_by, left_in, surveyed}
use Rattle.tally.proofs.WordLaws.{six_cong, unset-bit}
use Rattle.tally.proofs.SettingRows.{free_are, only_free, with_variables}
use Rattle.tally.proofs.ExactTally.{gathered-exact}

module _ (words : List ℕ) (m t f : ℕ) where
  abbrev rows : List Row
  rows = rows_from words 0 m

  abbrev index : List ℕ
  index = index_of rows

  -- an unsatisfied row with at most one free variable
  abbrev few : Row → Bool
  few r = unmet 32 t f r && not (leb 2 (count (λ v. free_in r t f v) 32))

  -- ---- one row

  module _ (w j : ℕ) (h : w < 6) (c : j < 64) where
    abbrev i : ℕ
    i = 64 * w + j

    abbrev r : Row
    r = row_at words (0 + i)

    past : ltb i m ≡ false → (p : Row → Bool) → at p rows i ≡ false
    past e p = at_past p rows i (omega (arith, ltb-false i m e, table-length words 0 m))

    -- the row is there
    module _ (e : ltb i m ≡ true) where
      here : (p : Row → Bool) → at p rows i ≡ p r
      here p = at_words p words 0 m i (ltb-true i m e)

      positive-bit : (v : ℕ) → v < 32 → bit (get_or index (6 * v + w) 0) j ≡ bit r.positive v
      positive-bit v b = ap (λ (x : ℕ). bit x j) (positive-at rows v w b h) ∙ word-bit (holds_literal true v) rows w j c ∙ here (holds_literal true v)

      negative-bit : (v : ℕ) → v < 32 → bit (get_or index (6 * (32 + v) + w) 0) j ≡ bit r.negative v
      negative-bit v b = ap (λ (x : ℕ). bit x j) (negative-at rows v w b h) ∙ word-bit (holds_literal false v) rows w j c ∙ here (holds_literal false v)

      met-is : any (met_by index t f w j) 32 ≡ satisfied 32 r t f
      met-is =
          any_cong (met_by index t f w j) (λ v. satisfies r t f v) 32 (λ v b. rw (positive-bit v b, negative-bit v b)) ∙ sym (satisfied-any 32 r t f)

      two_is : leb 2 (count (free_by index t f w j) 32) ≡ leb 2 (count (λ v. free_in r t f v) 32)
      two_is = ap (leb 2) (count_cong (free_by index t f w j) (λ v. free_in r t f v) 32 (λ v b. rw (positive-bit v b, negative-bit v b)))

    unmet-bit : unmet_by index m t f w j ≡ at (unmet 32 t f) rows i
    unmet-bit = on (ltb i m) (λ e. rw e (ap not (met-is e) ∙ sym (here e (unmet 32 t f)))) (λ e. rw e (sym (past e (unmet 32 t f))))

    few-bit : few_by index m t f w j ≡ at few rows i
    few-bit =
        on (ltb i m)
        (λ e. rw e (ap₂ (λ (x y : Bool). not x && not y) (met-is e) (two_is e) ∙ sym (here e few)))
        (λ e. rw e (sym (past e few)))

  -- ---- all rows

  unmet-set : six_words (λ w. (left_in index m t f w).unsatisfied) ≡ row_set (unmet 32 t f) rows
  unmet-set = six_cong (λ w. (left_in index m t f w).unsatisfied) (word_at (unmet 32 t f) rows) (λ w h. word_of_cong _ _ 64 (λ j c. unmet-bit w j h c))

  few-set : six_words (λ w. (left_in index m t f w).few) ≡ row_set few rows
  few-set = six_cong (λ w. (left_in index m t f w).few) (word_at few rows) (λ w h. word_of_cong _ _ 64 (λ j c. few-bit w j h c))

  -- none or one is at most one
  few_are : (k : ℕ) → k < 2 → (r : Row) → few r && free_are k 32 t f r ≡ unsatisfied_with k 32 t f r
  few_are k l r = by (count (λ v. free_in r t f v) 32) ∙ sym (with_variables 32 k t f r)
    where
      by : (n : ℕ) → (unmet 32 t f r && not (leb 2 n)) && eqb n k ≡ unmet 32 t f r && eqb n k
      by n =
          on (eqb n k)
          (λ e. ap (λ (x : Bool). (unmet 32 t f r && not x) && eqb n k) (lt-leb 2 n (omega (arith, l, eqb-true n k e)))
          ∙ ap (λ (x : Bool). x && eqb n k) (and-true (unmet 32 t f r)))
          (λ e. rw e (and-false (unmet 32 t f r && not (leb 2 n)) ∙ sym (and-false (unmet 32 t f r))))

  one : (sign : Bool) (v : ℕ) → v < 32 → bit 0 v || any_row (λ r. few r && only_free sign 32 t f v r) rows ≡ any_row (forcing sign 32 t f v) rows
  one sign v b =
      ap (λ (x : Bool). x || any_row (λ r. few r && only_free sign 32 t f v r) rows) (bit-zero v)
      ∙ any-row_cong _ _ rows
      (λ r i. agree_eq (taut4 (λ a k l d. agree (a && (k && (l && d))) (((a && k) && d) && l)) refl
      (few r) (free_are 1 32 t f r) (holds_literal sign v r) (free_in r t f v))
      ∙ ap (λ (x : Bool). (x && free_in r t f v) && holds_literal sign v r) (few_are 1 (omega arith) r))

-- for any T and F
pub after_survey : (words : List ℕ) (m : ℕ) (index : List ℕ) (t f : ℕ) → m ≤ 384 → index ≡ index_of (rows_from words 0 m) → t < 2 ^ 32 → f < 2 ^ 32
    → surveyed words index m t f ≡ tally_of (rows_from words 0 m) t f
unfolding surveyed
after_survey words m index t f less e ht hf =
    ap (λ (x : List ℕ). surveyed words x m t f) e
    ∙ gathered-exact words m less t f (4294967295 - bit_or t f) (unset-bit t f ht hf) (few words m t f) (λ s. 0) _ _ (unmet-set words m t f)
    (few-set words m t f)
    (any-row_cong _ _ (rows_from words 0 m) (λ r i. few_are words m t f 0 (omega arith) r)) (one words m t f)
