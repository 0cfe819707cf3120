-- A row in the place of a padding row: true rows were true before, what occurs goes on to occur. By induction on the rows.
use mathlib.Core.Path.{◌≡◌, refl}
use mathlib.Core.Bool.{Bool, true, false, not, ◌&&◌, ◌||◌}
use mathlib.Core.List.{List, [], ◌∷◌}
use Prim.Native.Nat.{ℕ, zero, suc, ◌≤◌}
use native.Mathlib.Omega.{arith}
use lib.ListN.{get_or, set}
use Rattle.words.specs.declared.Row.{Row}
use Rattle.words.specs.Booleans.{imp}
use Rattle.words.specs.Sets.{bit}
use Rattle.words.proofs.Truth.{mp, and_l, and_r, and_i, on, taut3}
use Rattle.words.proofs.Upto.{any_e, any-i}
use Rattle.tables.specs.Rows.{padding, holds, empty}
use Rattle.scan.specs.Rules.{all_rows, any_row}
use Rattle.truth.specs.Truth.{row_true, all_true, occurs}

-- ---- one element of a list

module _ (p : Row → Bool) where
  -- all pass with the new row, and the old one did
  all_set : (rows : List Row) (i : ℕ) (r : Row) → p (get_or rows i empty) ≡ true → all_rows p (set rows i r) ≡ true → all_rows p rows ≡ true
  unfolding all_rows
  all_set [] i r h e = e
  all_set (x ∷ xs) zero r h e = and_i h (and_r (p r) _ e)
  all_set (x ∷ xs) (suc i) r h e = and_i (and_l (p x) _ e) (all_set xs i r h (and_r (p x) _ e))

  -- some row passed, and it was not the old one
  any-set : (rows : List Row) (i : ℕ) (r : Row) → p (get_or rows i empty) ≡ false → any_row p rows ≡ true → any_row p (set rows i r) ≡ true
  unfolding any_row
  any-set [] i r h e = e
  any-set (x ∷ xs) zero r h e = on (p r) (λ q. rw q) (λ q. rw q (rw h at e))
  any-set (x ∷ xs) (suc i) r h e = on (p x) (λ q. rw q) (λ q. rw q (any-set xs i r h (rw q at e)))

-- ---- padding

-- padding is true under every assignment
padding-true : (n : ℕ) → n ≤ 32 → (a : ℕ → Bool) (r : Row) → padding n r ≡ true → row_true a r ≡ true
unfolding padding row_true
padding-true n few a r e =
    let x = any_e (λ i. bit r.positive i && bit r.negative i) n e in
    any-i (λ i. (bit r.positive i && a i) || (bit r.negative i && not (a i))) 32 x.0 (omega (arith, x.1))
    (mp _ _ (taut3 (λ p q a. imp (p && q) ((p && a) || (q && not a))) refl (bit r.positive x.0) (bit r.negative x.0) (a x.0)) x.2)

-- ---- growth

-- later rows: what makes them true made the earlier ones true, and what occurs in the earlier ones occurs in them
pub record Grows (n : ℕ) (old new : List Row) : Type 0 where
  pub true-before : (a : ℕ → Bool) → all_true a new ≡ true → all_true a old ≡ true
  pub occurs_still : (i : ℕ) → occurs n old i ≡ true → occurs n new i ≡ true

-- rows that stay as they are have grown from themselves
pub grows_same : (n : ℕ) (rows : List Row) → Grows n rows rows
grows_same n rows = record { true-before = λ a e. e; occurs_still = λ i e. e }

-- rows that grew from rows that grew have grown from the first
pub grows_on : (n : ℕ) (a b c : List Row) → Grows n a b → Grows n b c → Grows n a c
grows_on n a b c g h = record { true-before = λ x e. g.true-before x (h.true-before x e); occurs_still = λ i e. h.occurs_still i (g.occurs_still i e) }

-- a row in the place of a padding row
pub set_grows : (n : ℕ) → n ≤ 32 → (rows : List Row) (i : ℕ) (r : Row) → padding n (get_or rows i empty) ≡ true → Grows n rows (set rows i r)
unfolding all_true occurs
set_grows n few rows i r pad = record {
  true-before = λ a. all_set (λ r. row_true a r) rows i r (padding-true n few a (get_or rows i empty) pad);
  occurs_still = λ v. any-set (λ r. not (padding n r) && holds r v) rows i r (rw pad);
}
