-- The law of `set_literal`: from exactly the tally at T and F, exactly the tally after a free variable is set. The sets word by word, the rest row by row.
use mathlib.Core.Path.{◌≡◌, refl, sym, ap, ap₂, ◌∙◌, fun_ext}
use mathlib.Core.Bool.{Bool, true, false, not, ◌&&◌, ◌||◌}
use mathlib.Core.List.{List}
use Prim.Native.Nat.{ℕ, ◌+◌, ◌-◌, ◌*◌, ◌^◌, ◌≤◌, ◌<◌}
use lib.Dec.{eqb}
use lib.Bits.{bit_and, bit_or, or_lt}
use lib.ListN.{get_or}
use borrow.Author.Tests.{not-true, lt-ltb}
use Rattle.words.specs.declared.Row.{Row}
use Rattle.words.specs.Sets.{bit, put}
use Rattle.words.proofs.Truth.{taut3, agree, agree_eq}
use Rattle.words.proofs.Bits.{bit-or, bit-put, put-lt}
use Rattle.words.proofs.Operations.{bit-and, bit_not, and-lt-left}
use Rattle.words.proofs.WordOf.{bit_word_of, word_of_lt}
use Rattle.tables.specs.Rows.{rows_from, free}
use Rattle.scan.specs.Rules.{any_row, unsatisfied_with}
use Rattle.scan.proofs.RowLaws.{any-row_cong, any-row-or, any-row-and, no_row}
use Rattle.occurrences.specs.Index.{at, word_at, row_set, holds_literal, index_of}
use Rattle.occurrences.proofs.IndexLaws.{set_at, place, literal-at}
use Rattle.occurrences.proofs.SetLaws.{at_both, word-bit}
use Rattle.tally.specs.declared.Tally.{Tally}
use Rattle.tally.specs.Tallies.{unmet, forcing, forced_word, tally_of, set_t, set_f}
use Rattle.tally.specs.Words.{rows_without, rows_holding, all_after, tally_after}
use Rattle.tally.proofs.WordLaws.{word-is, bit-without, six_cong}
use Rattle.tally.proofs.SettingRows.{free_are, only_free, free-after, row-unmet, row-none, row-forced}
use Rattle.tally.proofs.ExactTally.{gathered-exact}

-- m rows in words, their index, T and F, a free variable, and exactly the tally; no row is in conflict
pub record Ready (words : List ℕ) (m : ℕ) (index : List ℕ) (t f v : ℕ) (tally : Tally) : Type 0 where
  pub few : m ≤ 384
  pub indexed : index ≡ index_of (rows_from words 0 m)
  pub t_low : t < 2 ^ 32
  pub f-low : f < 2 ^ 32
  pub low : v < 32
  pub was_free : free t f v ≡ true
  pub exact : tally ≡ tally_of (rows_from words 0 m) t f
  pub calm : any_row (unsatisfied_with 0 32 t f) (rows_from words 0 m) ≡ false

-- ---- the rows of a set with and without a literal

module _ (rows : List Row) (sign : Bool) (v : ℕ) (low : v < 32) (p : Row → Bool) where
  index-bit : (w j : ℕ) → w < 6 → j < 64 → bit (get_or (index_of rows) (6 * place sign v + w) 0) j ≡ at (holds_literal sign v) rows (64 * w + j)
  index-bit w j h c = ap (λ (x : ℕ). bit x j) (literal-at rows sign v w low h) ∙ word-bit (holds_literal sign v) rows w j c

  set-bit : (w j : ℕ) → w < 6 → j < 64 → bit (get_or (row_set p rows) w 0) j ≡ at p rows (64 * w + j)
  set-bit w j h c = ap (λ (x : ℕ). bit x j) (set_at rows p w h) ∙ word-bit p rows w j c

  set-low : (w : ℕ) → w < 6 → get_or (row_set p rows) w 0 < 2 ^ 64
  set-low w h = rw (set_at rows p w h) (word_of_lt (λ j. at p rows (64 * w + j)) 64)

  index-low : (w : ℕ) → w < 6 → get_or (index_of rows) (6 * place sign v + w) 0 < 2 ^ 64
  index-low w h = rw (literal-at rows sign v w low h) (word_of_lt (λ j. at (holds_literal sign v) rows (64 * w + j)) 64)

  without_is : rows_without (row_set p rows) (index_of rows) (place sign v) ≡ row_set (λ r. p r && not (holds_literal sign v r)) rows
  without_is =
      six_cong _ (word_at (λ r. p r && not (holds_literal sign v r)) rows)
      (λ w h. word-is _ _ (and-lt-left 64 _ _ (set-low w h))
      (λ j c. bit-without _ _ j (index-low w h) c ∙ ap₂ (λ (x y : Bool). x && not y) (set-bit w j h c) (index-bit w j h c)
      ∙ sym (at_both p (holds_literal sign v) (λ r. p r && not (holds_literal sign v r)) (λ x y. x && not y) refl (λ r. refl) rows (64 * w + j))))

  holding-is : rows_holding (row_set p rows) (index_of rows) (place sign v) ≡ row_set (λ r. p r && holds_literal sign v r) rows
  holding-is =
      six_cong _ (word_at (λ r. p r && holds_literal sign v r) rows)
      (λ w h. word-is _ _ (and-lt-left 64 _ _ (set-low w h))
      (λ j c. bit-and (get_or (row_set p rows) w 0) _ j ∙ ap₂ (λ (x y : Bool). x && y) (set-bit w j h c) (index-bit w j h c)
      ∙ sym (at_both p (holds_literal sign v) (λ r. p r && holds_literal sign v r) (λ x y. x && y) refl (λ r. refl) rows (64 * w + j))))

module _ (words : List ℕ) (m : ℕ) (index : List ℕ) (t f v : ℕ) (tally : Tally) (o : Ready words m index t f v tally) where
  abbrev rows : List Row
  rows = rows_from words 0 m

  abbrev unset : ℕ
  unset = 4294967295 - put (bit_or t f) v

  module _ (sign : Bool) where
    abbrev t' : ℕ
    t' = set_t sign t v

    abbrev f' : ℕ
    f' = set_f sign f v

    -- the variables free afterwards
    unset-bit : (i : ℕ) → i < 32 → bit unset i ≡ free t' f' i
    unset-bit i c =
        bit_not 32 (put (bit_or t f) v) i (put-lt 32 _ v (or_lt 32 t f o.t_low o.f-low) o.low) c
        ∙ rw (bit-put, bit-or) (agree_eq (taut3 (λ t f x. agree (not ((t || f) || x)) ((not t && not f) && not x)) refl (bit t i) (bit f i) (eqb i v)))
        ∙ sym (free-after t f v sign i)

    still : rows_without (row_set (unmet 32 t f) rows) (index_of rows) (place sign v) ≡ row_set (unmet 32 t' f') rows
    still = without_is rows sign v o.low (unmet 32 t f) ∙ ap (λ (p : Row → Bool). row_set p rows) (fun_ext (row-unmet 32 t f v o.low o.was_free sign))

    -- the rows that are read
    abbrev read : Row → Bool
    read r = unmet 32 t' f' r && holds_literal (not sign) v r

    none : any_row (λ r. read r && free_are 0 32 t' f' r) rows ≡ any_row (unsatisfied_with 0 32 t' f') rows
    none =
        any-row_cong _ _ rows
        (λ r i. row-none 32 t f v o.low o.was_free sign r
        (not-true _ (i (λ x. not (unsatisfied_with 0 32 t f x)) (no_row (unsatisfied_with 0 32 t f) rows o.calm))))

    one : (s : Bool) (u : ℕ) → u < 32 → bit (bit_and (forced_word s rows t f) unset) u || any_row (λ r. read r && only_free s 32 t' f' u r) rows
        ≡ any_row (forcing s 32 t' f' u) rows
    one s u c =
        ap (λ (x : Bool). x || any_row (λ r. read r && only_free s 32 t' f' u r) rows)
        (bit-and (forced_word s rows t f) unset u
        ∙ ap₂ (λ (x y : Bool). x && y) (bit_word_of (λ v. any_row (forcing s 32 t f v) rows) 32 u c) (unset-bit u c)
        ∙ any-row-and (free t' f' u) (forcing s 32 t f u) rows)
        ∙ any-row-or (λ r. forcing s 32 t f u r && free t' f' u) (λ r. read r && only_free s 32 t' f' u r) rows
        ∙ any-row_cong _ _ rows (λ r i. row-forced 32 t f v o.low o.was_free sign r u c s)

    all-is : all_after words index (place sign v) (place (not sign) v) unset tally ≡ tally_of rows t' f'
    unfolding all_after tally_of
    all-is =
        ap₂ (λ (x : List ℕ) (y : Tally). all_after words x (place sign v) (place (not sign) v) unset y) o.indexed o.exact
        ∙ gathered-exact words m o.few t' f' unset unset-bit read (λ s. bit_and (forced_word s rows t f) unset) _ _ still
        (ap (λ (x : List ℕ). rows_holding x (index_of rows) (place (not sign) v)) still ∙ holding-is rows (not sign) v o.low (unmet 32 t' f')) none one

  -- the tally after a free variable is set is that of the run then
  pub after_setting : (positive : Bool) → tally_after words index t f v positive tally ≡ tally_of rows (set_t positive t v) (set_f positive f v)
  unfolding tally_after
  after_setting true = rw (lt-ltb v 32 o.low) (all-is true)
  after_setting false = rw (lt-ltb v 32 o.low) (all-is false)
