-- Laws of `upto` and `joined`: lengths, what is at an address, one more, and cutting in two. By induction on the number of parts.
use mathlib.Core.Path.{◌≡◌, refl, sym, ap, ap₂, ◌∙◌}
use mathlib.Core.Bool.{Bool, false}
use mathlib.Core.List.{List, [], ◌∷◌, ◌++◌, append_assoc, append-nil}
use Prim.Native.Nat.{ℕ, zero, suc, ◌+◌, ◌*◌, ◌<◌}
use native.Mathlib.Nat.{zero-add, mul-zero, mul-suc, suc-add, le_of_suc-le-suc, not-suc-le-zero}
use native.Mathlib.Omega.{arith}
use lib.ListN.{length, get_or, length-append, get_or-append}
use lib.Seq.{get_or-append-add}
use Rattle.wires.specs.Layout.{upto, joined}

-- ---- wires in a row

pub length-upto : (f : ℕ → Bool) (n : ℕ) → length (upto f n) ≡ n
unfolding upto
length-upto f zero = refl
length-upto f (suc n) = ap suc (length-upto (λ i. f (suc i)) n)

-- of n wires in a row that hold the values of f, wire i holds f's value at i
pub upto-at : (f : ℕ → Bool) (n i : ℕ) → i < n → get_or (upto f n) i false ≡ f i
unfolding upto
upto-at f zero i h = absurd (not-suc-le-zero h)
upto-at f (suc n) zero h = refl
upto-at f (suc n) (suc i) h = upto-at (λ i. f (suc i)) n i (le_of_suc-le-suc h)

-- in the first part, and after it
pub upto-here : (f : ℕ → Bool) (n : ℕ) (r : List Bool) (i : ℕ) → i < n → get_or (upto f n ++ r) i false ≡ f i
upto-here f n r i h = get_or-append (upto f n) r false i (rw (length-upto f n) h) ∙ upto-at f n i h

pub upto_past : (f : ℕ → Bool) (n : ℕ) (r : List Bool) (i : ℕ) → get_or (upto f n ++ r) (n + i) false ≡ get_or r i false
upto_past f n r i = ap (λ (k : ℕ). get_or (upto f n ++ r) (k + i) false) (sym (length-upto f n)) ∙ get_or-append-add (upto f n) r i false

-- functions that agree below n give the same n wires in a row
pub upto_cong : (f g : ℕ → Bool) (n : ℕ) → ((i : ℕ) → i < n → f i ≡ g i) → upto f n ≡ upto g n
unfolding upto
upto_cong f g zero h = refl
upto_cong f g (suc n) h = ap₂ (λ (x : Bool) (l : List Bool). x ∷ l) (h zero (omega arith))
    (upto_cong (λ i. f (suc i)) (λ i. g (suc i)) n (λ i b. h (suc i) (omega arith)))

-- one more at the end
pub upto-more : (f : ℕ → Bool) (n : ℕ) → upto f (suc n) ≡ upto f n ++ (f n ∷ [])
unfolding upto
upto-more f zero = refl
upto-more f (suc n) = ap (λ (l : List Bool). f zero ∷ l) (upto-more (λ i. f (suc i)) n)

pub upto_add : (f : ℕ → Bool) (a b : ℕ) → upto f (a + b) ≡ upto f a ++ upto (λ i. f (a + i)) b
unfolding upto
upto_add f zero b = ap (upto f) (zero-add b) ∙ upto_cong _ _ b (λ i h. ap f (sym (zero-add i)))
upto_add f (suc a) b =
    ap (upto f) (suc-add a b)
    ∙ ap (λ (l : List Bool). f zero ∷ l)
    (upto_add (λ i. f (suc i)) a b ∙ ap (λ (l : List Bool). upto (λ i. f (suc i)) a ++ l) (upto_cong _ _ b (λ i h. ap f (sym (suc-add a i)))))

-- ---- lists of wires in a row

pub joined_cong : (f g : ℕ → List Bool) (n : ℕ) → ((i : ℕ) → i < n → f i ≡ g i) → joined f n ≡ joined g n
unfolding joined
joined_cong f g zero h = refl
joined_cong f g (suc n) h =
    ap₂ (λ (x y : List Bool). x ++ y) (h zero (omega arith)) (joined_cong (λ i. f (suc i)) (λ i. g (suc i)) n (λ i b. h (suc i) (omega arith)))

pub joined-more : (f : ℕ → List Bool) (n : ℕ) → joined f (suc n) ≡ joined f n ++ f n
unfolding joined
joined-more f zero = append-nil (f zero)
joined-more f (suc n) = ap (λ (l : List Bool). f zero ++ l) (joined-more (λ i. f (suc i)) n) ∙ sym (append_assoc (f zero) _ _)

-- lists of w wires each
module _ (w : ℕ) where
  pub length-joined : (f : ℕ → List Bool) (m : ℕ) → ((j : ℕ) → length (f j) ≡ w) → length (joined f m) ≡ w * m
  unfolding joined
  length-joined f zero h = sym (mul-zero w)
  length-joined f (suc m) h = length-append (f zero) _ ∙ ap₂ ◌+◌ (h zero) (length-joined (λ i. f (suc i)) m (λ j. h (suc j))) ∙ omega (arith, mul-suc w m)

  pub joined_at : (f : ℕ → List Bool) (m : ℕ) (r : List Bool) (j i : ℕ) → ((j : ℕ) → length (f j) ≡ w) → j < m → i < w
      → get_or (joined f m ++ r) (w * j + i) false ≡ get_or (f j) i false
  unfolding joined
  joined_at f zero r j i h b k = absurd (not-suc-le-zero b)
  joined_at f (suc m) r zero i h b k =
      let e : w * 0 + i ≡ i = omega (arith, mul-zero w) in
      rw (e, append_assoc) (get_or-append (f zero) _ false i (rw (h zero) k))
  joined_at f (suc m) r (suc j) i h b k =
      let e : w * suc j + i ≡ length (f zero) + (w * j + i) = omega (arith, mul-suc w j, h zero) in
      rw (e, append_assoc) (get_or-append-add (f zero) _ (w * j + i) false ∙ joined_at (λ i. f (suc i)) m r j i (λ j. h (suc j)) (le_of_suc-le-suc b) k)

  pub joined_past : (f : ℕ → List Bool) (m : ℕ) (r : List Bool) (i : ℕ)
      → ((j : ℕ) → length (f j) ≡ w) → get_or (joined f m ++ r) (w * m + i) false ≡ get_or r i false
  joined_past f m r i h = ap (λ (k : ℕ). get_or (joined f m ++ r) (k + i) false) (sym (length-joined f m h)) ∙ get_or-append-add (joined f m) r i false

-- cut into lists of w wires
pub upto_mul : (f : ℕ → Bool) (w m : ℕ) → upto f (w * m) ≡ joined (λ l. upto (λ i. f (w * l + i)) w) m
unfolding joined upto
upto_mul f w zero = ap (upto f) (mul-zero w)
upto_mul f w (suc m) =
    let e : w * suc m ≡ w + w * m = omega (arith, mul-suc w m) in
    ap (upto f) e ∙ upto_add f w (w * m)
    ∙ ap₂ (λ (x y : List Bool). x ++ y)
    (upto_cong _ _ w (λ i h. ap f (omega (arith, mul-zero w))))
    (upto_mul (λ i. f (w + i)) w m ∙ joined_cong _ _ m (λ l h. upto_cong _ _ w (λ i k. ap f (omega (arith, mul-suc w l)))))
