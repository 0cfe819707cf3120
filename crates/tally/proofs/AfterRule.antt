-- The law of `rule`: from exactly the tally at T and F, exactly the rule that applies. Rule by rule.
use mathlib.Core.Path.{◌≡◌, refl, sym, ap, ap₂, ◌∙◌}
use mathlib.Core.Bool.{Bool, true, false, not, ◌&&◌, ◌||◌, and_comm}
use mathlib.Core.List.{List, [], ◌∷◌}
use Prim.Native.Nat.{ℕ, ◌+◌, ◌-◌, ◌*◌, ◌^◌, ◌≤◌, ◌<◌}
use native.Mathlib.Omega.{arith}
use lib.Dec.{eqb}
use lib.Bits.{bit_or, or_lt}
use lib.ListN.{length, get_or}
use borrow.Author.Tests.{eqb-true, not-true, not-false}
use Rattle.words.specs.declared.Row.{Row}
use Rattle.words.specs.Sets.{bit, any, count, lowest}
use Rattle.words.proofs.Truth.{on, and_r, taut3, taut4, agree, agree_eq}
use Rattle.words.proofs.Upto.{any-i, any_e, any-or, count-some, lowest_hit, lowest_cong}
use Rattle.words.proofs.Last.{any_cong, any_false}
use Rattle.words.proofs.Bits.{bit-or}
use Rattle.words.proofs.Operations.{any_word}
use Rattle.words.proofs.WordOf.{bit_word_of, word_of_lt}
use Rattle.tables.specs.Rows.{satisfied, free, holds, free_in}
use Rattle.scan.specs.declared.Rule.TheVariants.{Unit, Choice}
use Rattle.scan.specs.Rules.{all_rows, any_row, unsatisfied_with, forces, forced_variable, forced_true, unit_or, choice, rule}
use Rattle.scan.proofs.RowLaws.{any-row-or, any-row-and, any-row_cong}
use Rattle.occurrences.specs.Index.{at, row_set, holds_literal, index_of}
use Rattle.occurrences.proofs.IndexLaws.{set_at, positive-at, negative-at}
use Rattle.occurrences.proofs.SetLaws.{at_both, word-bit}
use Rattle.tally.specs.declared.Tally.{Tally}
use Rattle.tally.specs.Tallies.{unmet, unsatisfied_rows, forcing, forced_word, tally_of}
use Rattle.tally.specs.Ruling.{touches, stands_in, chosen_by, rule_by}
use Rattle.tally.proofs.Sums.{any-six, any_at, none_fails}
use Rattle.tally.proofs.WordLaws.{unset-bit}
use Rattle.tally.proofs.SettingRows.{with_variables}

module _ (rows : List Row) (t f : ℕ) where
  -- ---- rule 3

  -- the variables of the forced literals
  abbrev forced : ℕ
  forced = bit_or (forced_word true rows t f) (forced_word false rows t f)

  sign_bit : (sign : Bool) (v : ℕ) → v < 32 → bit (forced_word sign rows t f) v ≡ any_row (forcing sign 32 t f v) rows
  sign_bit sign v b = bit_word_of (λ v. any_row (forcing sign 32 t f v) rows) 32 v b

  forced-bit : (v : ℕ) → v < 32 → bit forced v ≡ any_row (forces 32 t f v) rows
  forced-bit v b =
      bit-or (forced_word true rows t f) (forced_word false rows t f) v ∙ ap₂ (λ (x y : Bool). x || y) (sign_bit true v b) (sign_bit false v b)
      ∙ any-row-or (forcing true 32 t f v) (forcing false 32 t f v) rows
      ∙ any-row_cong _ _ rows
      (λ r i. agree_eq (taut4 (λ c g p q. agree (((c && (g && (p || q))) && p) || ((c && (g && (p || q))) && q)) (c && (g && (p || q)))) refl
      (unsatisfied_with 1 32 t f r) (free t f v) (bit r.positive v) (bit r.negative v)))

  -- a row with one free literal forces some variable
  forces-some : (r : Row) → any (λ v. forces 32 t f v r) 32 ≡ unsatisfied_with 1 32 t f r
  forces-some r =
      on (unsatisfied_with 1 32 t f r)
      (λ e.
      let c : count (λ v. free_in r t f v) 32 ≡ 1 = eqb-true _ 1 (and_r (unmet 32 t f r) _ (sym (with_variables 32 1 t f r) ∙ e)) in
      let x = count-some (λ v. free_in r t f v) 32 (omega arith) in
      rw e (any-i (λ v. free_in r t f v) 32 x.0 x.1 x.2))
      (λ e. rw e (any_false (λ v. false) 32 (λ v b. refl)))

  some-forced : (rs : List Row) → any (λ v. any_row (forces 32 t f v) rs) 32 ≡ any_row (unsatisfied_with 1 32 t f) rs
  unfolding any_row
  some-forced [] = any_false (λ v. false) 32 (λ v b. refl)
  some-forced (r ∷ rs) =
      any-or (λ v. forces 32 t f v r) (λ v. any_row (forces 32 t f v) rs) 32 ∙ ap₂ (λ (x y : Bool). x || y) (forces-some r) (some-forced rs)

  none-forced : not (eqb forced 0) ≡ any_row (unsatisfied_with 1 32 t f) rows
  none-forced =
      sym (any_word 32 forced (or_lt 32 _ _ (word_of_lt _ 32) (word_of_lt _ 32)))
      ∙ any_cong (bit forced) (λ v. any_row (forces 32 t f v) rows) 32 forced-bit ∙ some-forced rows

  -- the lowest variable, in the sign that is taken
  forced-is : any_row (unsatisfied_with 1 32 t f) rows ≡ true
      → Unit (lowest (bit forced) 32) (bit (forced_word true rows t f) (lowest (bit forced) 32))
      ≡ Unit (forced_variable 32 rows t f) (forced_true 32 rows t f (forced_variable 32 rows t f))
  unfolding forced_variable forced_true
  forced-is e =
      let some = any_e (λ v. any_row (forces 32 t f v) rows) 32 (some-forced rows ∙ e) in
      let hit = lowest_hit (λ v. any_row (forces 32 t f v) rows) 32 some.0 some.1 some.2 in
      ap (λ (v : ℕ). Unit v (bit (forced_word true rows t f) v)) (lowest_cong (bit forced) (λ v. any_row (forces 32 t f v) rows) 32 forced-bit)
      ∙ ap (Unit (forced_variable 32 rows t f)) (sign_bit true (forced_variable 32 rows t f) hit.0)

  -- ---- rule 4

  module _ (few : length rows ≤ 384) (t_low : t < 2 ^ 32) (f-low : f < 2 ^ 32) where
    -- the row is unsatisfied and holds the variable
    abbrev touch : ℕ → Row → Bool
    touch v r = not (satisfied 32 r t f) && holds r v

    touch-at : (v i : ℕ) → at (unmet 32 t f) rows i && (at (holds_literal true v) rows i || at (holds_literal false v) rows i) ≡ at (touch v) rows i
    touch-at v i = sym
        (at_both (unmet 32 t f) (λ r. holds r v) (touch v) (λ x y. x && y) refl (λ r. refl) rows i
        ∙ ap (λ (y : Bool). at (unmet 32 t f) rows i && y) (at_both (holds_literal true v) (holds_literal false v) (λ r. holds r v)
        (λ x y. x || y) refl (λ r. refl) rows i))

    touches-is : (v w : ℕ) → v < 32 → w < 6 → touches (index_of rows) v w (get_or (row_set (unmet 32 t f) rows) w 0)
        ≡ any (λ j. at (touch v) rows (64 * w + j)) 64
    touches-is v w b h =
        any_cong _ _ 64
        (λ j c. ap₂ (λ (x y : Bool). x && y) (ap (λ (s : ℕ). bit s j) (set_at rows (unmet 32 t f) w h) ∙ word-bit (unmet 32 t f) rows w j c)
        (ap₂ (λ (x y : Bool). x || y) (ap (λ (s : ℕ). bit s j) (positive-at rows v w b h) ∙ word-bit (holds_literal true v) rows w j c)
        (ap (λ (s : ℕ). bit s j) (negative-at rows v w b h) ∙ word-bit (holds_literal false v) rows w j c))
        ∙ touch-at v (64 * w + j))

    stands_is : (v : ℕ) → v < 32 → stands_in (index_of rows) v (row_set (unmet 32 t f) rows) ≡ any_row (touch v) rows
    stands_is v b =
        let e : (w : ℕ) → w < 6 → touches (index_of rows) v w (get_or (row_set (unmet 32 t f) rows) w 0) ≡ any (λ j. at (touch v) rows (64 * w + j)) 64 =
        λ w h. touches-is v w b h in
        (λ i. e 0 (omega arith) i || e 1 (omega arith) i || e 2 (omega arith) i || e 3 (omega arith) i || e 4 (omega arith) i || e 5 (omega arith) i)
        ∙ any-six (at (touch v) rows) ∙ any_at (touch v) rows 384 few

    -- where the variable is free, that is a free literal of an unsatisfied row
    free-touch : (v : ℕ) → free t f v && any_row (touch v) rows ≡ any_row (λ r. not (satisfied 32 r t f) && free_in r t f v) rows
    free-touch v =
        and_comm (free t f v) (any_row (touch v) rows) ∙ any-row-and (free t f v) (touch v) rows
        ∙ any-row_cong _ _ rows
        (λ r i. agree_eq (taut3 (λ s h g. agree ((s && h) && g) (s && (g && h))) refl (not (satisfied 32 r t f)) (holds r v) (free t f v)))

    -- the lowest free variable in an unsatisfied row
    chosen_is : chosen_by (index_of rows) (4294967295 - bit_or t f) (row_set (unmet 32 t f) rows) ≡ choice 32 rows t f
    unfolding choice
    chosen_is = lowest_cong _ _ 32 (λ v b. ap₂ (λ (x y : Bool). x && y) (unset-bit t f t_low f-low v b) (stands_is v b) ∙ free-touch v)

    -- ---- the first rule that applies

    -- for at most 384 rows and 32-bit T and F, the rule read off the rows' index and their tally is the rows' rule at 32 variables
    pub after-rule : (index : List ℕ) (tally : Tally) → index ≡ index_of rows → tally ≡ tally_of rows t f → rule_by index t f tally ≡ rule 32 rows t f
    unfolding rule_by rule unit_or tally_of unsatisfied_rows
    after-rule index tally e q =
        ap₂ (λ (x : List ℕ) (y : Tally). rule_by x t f y) e q
        ∙ on (all_rows (λ r. satisfied 32 r t f) rows)
        (λ s. rw (none_fails (λ r. satisfied 32 r t f) rows ∙ s) (rw (s, rule)))
        (λ s. rw (none_fails (λ r. satisfied 32 r t f) rows ∙ s) (rw (s, rule)
        (on (any_row (unsatisfied_with 0 32 t f) rows)
        (λ c. rw c)
        (λ c. rw c (on (any_row (unsatisfied_with 1 32 t f) rows)
        (λ u. rw (not-true (eqb forced 0) (none-forced ∙ u)) (rw (u, unit_or) (forced-is u)))
        (λ u. rw (not-false (eqb forced 0) (none-forced ∙ u)) (rw (u, unit_or) (ap Choice chosen_is))))))))
