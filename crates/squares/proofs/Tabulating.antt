-- Lists of a function's values: their lengths, places and parts, and how they are filled.
use mathlib.Core.Path.{◌≡◌, refl, sym, ap, ap₂, ◌∙◌, subst}
use mathlib.Core.List.{List, ◌∷◌, ◌++◌}
use Prim.Native.Nat.{ℕ, zero, suc, ◌+◌, ◌≤◌, ◌<◌}
use mathlib.Core.Logic.{inl, inr}
use native.Mathlib.Nat.{eq-or-lt_of_le, ne_of_lt, not-suc-le-zero, le_of_suc-le-suc, add-zero, zero-add, add-suc, suc-add, zero-lt-suc}
use native.Mathlib.Omega.{arith}
use lib.ListN.{length, get_or, set, length-set}
use lib.Seq.{ext_get_or, get_or-set_same, get_or-set_other}
use Rattle.squares.specs.Squares.{tabulate}

-- so many values
pub length-tabulate : (f : ℕ → ℕ) (i k : ℕ) → length (tabulate f i k) ≡ k
length-tabulate f i zero = refl
length-tabulate f i (suc k) = ap suc (length-tabulate f (suc i) k)

-- each at its place
pub at-tabulate : (f : ℕ → ℕ) (i k j : ℕ) → j < k → get_or (tabulate f i k) j 0 ≡ f (i + j)
at-tabulate f i zero j h = absurd (not-suc-le-zero h)
at-tabulate f i (suc k) zero h = ap f (sym (add-zero i))
at-tabulate f i (suc k) (suc j) h = at-tabulate f (suc i) k j (le_of_suc-le-suc h) ∙ ap f (suc-add i j ∙ sym (add-suc i j))

-- a list in two parts
pub tabulate-split : (f : ℕ → ℕ) (i a b : ℕ) → tabulate f i (a + b) ≡ tabulate f i a ++ tabulate f (i + a) b
tabulate-split f i zero b = ap₂ (λ (x k : ℕ). tabulate f x k) (sym (add-zero i)) (zero-add b)
tabulate-split f i (suc a) b =
    ap (tabulate f i) (suc-add a b)
    ∙ ap (λ (l : List ℕ). f i ∷ l) (tabulate-split f (suc i) a b
    ∙ ap (λ (x : ℕ). tabulate f (suc i) a ++ tabulate f x b) (suc-add i a ∙ sym (add-suc i a)))

-- equal values give equal lists
pub tabulate_cong : (f g : ℕ → ℕ) (i j k : ℕ) → ((x : ℕ) → x < k → f (i + x) ≡ g (j + x)) → tabulate f i k ≡ tabulate g j k
tabulate_cong f g i j zero h = refl
tabulate_cong f g i j (suc k) h =
    ap₂ (λ (x : ℕ) (l : List ℕ). x ∷ l) (ap f (sym (add-zero i)) ∙ h 0 (zero-lt-suc k) ∙ ap g (add-zero j))
    (tabulate_cong f g (suc i) (suc j) k (λ x b. ap f (suc-add i x ∙ sym (add-suc i x)) ∙ h (suc x) (omega arith)
    ∙ ap g (add-suc j x ∙ sym (suc-add j x))))

-- a list that holds the values
pub tabulated : (f : ℕ → ℕ) (k : ℕ) (xs : List ℕ) → length xs ≡ k → ((j : ℕ) → j < k → get_or xs j 0 ≡ f j) → xs ≡ tabulate f 0 k
tabulated f k xs size each =
    ext_get_or 0 xs (tabulate f 0 k) (size ∙ sym (length-tabulate f 0 k))
    (λ j b. let l : j < k = subst (λ (x : ℕ). j < x) size b in each j l ∙ sym (at-tabulate f 0 k j l ∙ ap f (zero-add j)))

-- ---- filled one place after the other

-- of k places those below i are filled
pub record Filled (f : ℕ → ℕ) (k i : ℕ) (xs : List ℕ) : Type 0 where
  pub size : length xs ≡ k
  pub done : (j : ℕ) → j < i → get_or xs j 0 ≡ f j

module _ (f : ℕ → ℕ) (k : ℕ) where
  pub filled-start : (xs : List ℕ) → length xs ≡ k → Filled f k 0 xs
  filled-start xs e = record { size = e; done = λ j h. absurd (not-suc-le-zero h) }

  module _ (i : ℕ) (xs : List ℕ) (s : Filled f k i xs) where
    pub filled_next : i < k → (v : ℕ) → v ≡ f i → Filled f k (i + 1) (set xs i v)
    filled_next h v e = record {
      size = length-set xs i v ∙ s.size;
      done = λ j b. elim (eq-or-lt_of_le (below j b)) [
        | inl q ↦ rw q (get_or-set_same xs i v 0 (subst (λ (x : ℕ). i < x) (sym s.size) h) ∙ e)
        | inr l ↦ get_or-set_other xs i j v 0 (ne_of_lt l) ∙ s.done j l
      ];
    }
      where
        below : (j : ℕ) → j < i + 1 → j ≤ i
        below j b = omega arith

    pub filled_end : k ≤ i → xs ≡ tabulate f 0 k
    filled_end h = tabulated f k xs s.size (λ j l. s.done j (omega arith))
