-- Fields of a text: bytes up to a space or an LF. A number's digits are such bytes, and equal texts part into equal fields, by induction on the first field.
use mathlib.Core.Path.{◌≡◌, refl, sym, ap, ap₂, ◌∙◌}
use mathlib.Core.Bool.{Bool, true, not, ◌||◌, false≢true}
use mathlib.Core.List.{List, [], ◌∷◌, ◌++◌}
use Prim.Native.Nat.{ℕ, ◌+◌}
use native.Mathlib.Omega.{arith}
use borrow.Author.Tests.{ne_eqb, not-true}
use lib.Dec.{eqb}
use Rattle.words.proofs.Truth.{and_l, and_r}
use Rattle.text.specs.Decimal.{decimal}
use Rattle.text.proofs.Decimals.{each, decimal-each}

-- a space or an LF, which ends a field
abbrev pub ends : ℕ → Bool
ends b = eqb b 32 || eqb b 10

-- no byte ends the field
abbrev pub plain : List ℕ → Bool
plain bs = each (λ b. not (ends b)) bs

-- a number's digits hold no space and no LF
pub decimal-plain : (x : ℕ) → plain (decimal x) ≡ true
decimal-plain x = decimal-each (λ b. not (ends b)) (λ d h. rw (ne_eqb (48 + d) 32 (λ e. omega arith), ne_eqb (48 + d) 10 (λ e. omega arith))) x

-- fields up to the byte that ends them, and what follows
pub field_split : (xs ys : List ℕ) (x y : ℕ) (s t : List ℕ) → plain xs ≡ true → plain ys ≡ true → ends x ≡ true → ends y ≡ true
    → xs ++ (x ∷ s) ≡ ys ++ (y ∷ t) → (xs ≡ ys) × (x ≡ y) × (s ≡ t)
field_split [] [] x y s t h k p q e = (refl, cc, cc)
field_split [] (b ∷ ys) x y s t h k p q e =
    let same : b ≡ x = cc in
    absurd (false≢true (sym (not-true (ends b) (and_l (not (ends b)) _ k)) ∙ ap ends same ∙ p))
field_split (a ∷ xs) [] x y s t h k p q e =
    let same : a ≡ y = cc in
    absurd (false≢true (sym (not-true (ends a) (and_l (not (ends a)) _ h)) ∙ ap ends same ∙ q))
field_split (a ∷ xs) (b ∷ ys) x y s t h k p q e =
    let head : a ≡ b = cc in
    let tail : xs ++ (x ∷ s) ≡ ys ++ (y ∷ t) = cc in
    let parts = field_split xs ys x y s t (and_r (not (ends a)) _ h) (and_r (not (ends b)) _ k) p q tail in
    (ap₂ (λ (c : ℕ) (l : List ℕ). c ∷ l) head parts.0, parts.1, parts.2)
