-- A proof that is taken leaves no assignment that makes all rows true: an addition that follows is true wherever all rows are, a deletion leaves rows that are,
-- and the empty clause is never true. By induction on the lines.
use mathlib.Core.Path.{◌≡◌, refl, sym, ◌∙◌}
use mathlib.Core.Bool.{Bool, true, false, not, ◌&&◌, ◌||◌, true≢false, false≢true}
use mathlib.Core.List.{List, [], ◌∷◌, ◌++◌}
use Prim.Native.Nat.{ℕ}
use lib.Dec.{eqb}
use borrow.Author.Tests.{eqb-true, not-false}
use Rattle.std.specs.Prelude.{Ok}
use Rattle.refusals.specs.Checks.{outcome}
use Rattle.refusals.specs.declared.Refusal.TheVariants.{NotFollowing, NoEmptyClause}
use Rattle.refusals.proofs.Outcomes.{check_passed, checks-taken}
use Rattle.words.specs.declared.Row.{Row}
use Rattle.words.specs.Sets.{bit}
use Rattle.words.proofs.Truth.{and_l, and_r, and_i, on}
use Rattle.words.proofs.Upto.{any_e}
use Rattle.words.proofs.Bits.{bit-zero}
use Rattle.scan.specs.Rules.{all_rows}
use Rattle.scan.proofs.RowLaws.{all-rows_append}
use Rattle.truth.specs.Truth.{row_true, all_true}
use Rattle.truth.proofs.TruthLaws.{literal}
use Rattle.propagation.specs.Propagation.{follows}
use Rattle.propagation.proofs.Soundness.{follows-true}
use Rattle.drat.specs.Proofs.{ProofLine, added, deleted, is_same_row, is_empty, without, all_follow, adds_empty, addition_checks}

module _ (a : ℕ → Bool) where
  without-true : (c : Row) (rows : List Row) → all_true a rows ≡ true → all_true a (without c rows) ≡ true
  unfolding all_true all_rows without
  without-true c [] e = e
  without-true c (r ∷ rs) e =
      on (is_same_row c r)
      (λ q. rw q (and_r (row_true a r) _ e))
      (λ q. rw q (and_i (and_l (row_true a r) _ e) (without-true c rs (and_r (row_true a r) _ e))))

  added_true : (c : Row) (rows : List Row) → all_true a rows ≡ true → row_true a c ≡ true → all_true a (rows ++ (c ∷ [])) ≡ true
  unfolding all_true all_rows
  added_true c rows e h = all-rows_append (λ r. row_true a r) rows (c ∷ []) e (and_i h refl)

  no_literals : (p q : ℕ) → p ≡ 0 → q ≡ 0 → (i : ℕ) → (bit p i && a i) || (bit q i && not (a i)) ≡ false
  no_literals p q hp hq i = rw (hp, hq, bit-zero) refl

  empty-false : (c : Row) → is_empty c ≡ true → row_true a c ≡ true → ⊥
  unfolding row_true
  empty-false c h e =
      let x = any_e (λ i. literal a c i) 32 e in
      let p = eqb-true _ 0 (and_l (eqb c.positive 0) _ h) in
      let q = eqb-true _ 0 (and_r (eqb c.positive 0) _ h) in
      true≢false (sym x.2 ∙ no_literals c.positive c.negative p q x.0)

  refuted : (ls : List ProofLine) (rows : List Row) → all_true a rows ≡ true → all_follow rows ls ≡ true → adds_empty ls ≡ true → ⊥
  unfolding all_follow adds_empty
  refuted [] rows e f h = false≢true h
  refuted (added c ∷ ls) rows e f h =
      let t = follows-true a rows e c (and_l (follows rows c) _ f) in
      on (is_empty c)
      (λ z. empty-false c z t)
      (λ z. refuted ls (rows ++ (c ∷ [])) (added_true c rows e t) (rw z at (and_r (follows rows c) _ f)) (rw z at h))
  refuted (deleted c ∷ ls) rows e f h = refuted ls (without c rows) (without-true c rows e) f h

-- a proof that is taken: no assignment makes all rows true
pub taken_none : (rows : List Row) (ls : List ProofLine) → outcome (addition_checks rows ls) ≡ Ok tt → (a : ℕ → Bool) → all_true a rows ≡ false
taken_none rows ls h a =
    let f = not-false _ (check_passed (not (all_follow rows ls)) NotFollowing _ h) in
    let e = not-false _ (check_passed (not (adds_empty ls)) NoEmptyClause _ (checks-taken (not (all_follow rows ls)) NotFollowing _ h)) in
    on (all_true a rows) (λ t. absurd (refuted a ls rows t f e)) (λ t. t)
