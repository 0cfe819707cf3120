-- Decimal digits: one digit more in front of the last, how many there are, and that they give back their number. By induction on the number of digits allowed.
use mathlib.Core.Path.{◌≡◌, refl, sym, ap, ◌∙◌}
use mathlib.Core.Bool.{Bool, true, false, ◌&&◌}
use mathlib.Core.List.{List, [], ◌∷◌, ◌++◌}
use Prim.Native.Nat.{ℕ, zero, suc, ◌+◌, ◌-◌, ◌*◌, ◌/◌, ◌%◌, ◌^◌, ◌≤◌, ◌<◌, zero-le}
use native.Mathlib.Nat.{lt_trans, pow-suc, mod-lt, zero-lt-suc, div-lt_iff_lt-mul, div-add-mod'}
use native.Mathlib.Omega.{arith}
use lib.Dec.{ltb, lit<}
use lib.ListN.{length, length-append}
use borrow.Author.Tests.{lt-ltb, le-ltb, ltb-true, ltb-false}
use Rattle.words.proofs.Truth.{on, and_i, and_l, and_r}
use Rattle.text.specs.Decimal.{decimal_within, decimal}

one_less : (k x : ℕ) → x < 10 ^ suc k → x / 10 < 10 ^ k
one_less k x h = (div-lt_iff_lt-mul (zero-lt-suc 9)).1 (rw (pow-suc 10 k) at h)

within-digit : (k x : ℕ) → ltb x 10 ≡ true → decimal_within (suc k) x ≡ (48 + x) ∷ []
unfolding decimal_within
within-digit k x e = rw (e, decimal_within)

within_step : (k x : ℕ) → ltb x 10 ≡ false → decimal_within (suc k) x ≡ decimal_within k (x / 10) ++ ((48 + x % 10) ∷ [])
unfolding decimal_within
within_step k x e = rw (e, decimal_within)

-- where the digits have room, more room changes nothing
within_more : (k x : ℕ) → x < 10 ^ suc k → decimal_within (suc (suc k)) x ≡ decimal_within (suc k) x
within_more zero x h = within-digit 1 x (lt-ltb x 10 h) ∙ sym (within-digit 0 x (lt-ltb x 10 h))
within_more (suc k) x h =
    on (ltb x 10)
    (λ e. within-digit (suc (suc k)) x e ∙ sym (within-digit (suc k) x e))
    (λ e. within_step (suc (suc k)) x e
    ∙ ap (λ (l : List ℕ). l ++ ((48 + x % 10) ∷ [])) (within_more k (x / 10) (one_less (suc k) x h))
    ∙ sym (within_step (suc k) x e))

-- a number below 10 is written as its one digit
pub decimal_digit : (x : ℕ) → x < 10 → decimal x ≡ (48 + x) ∷ []
unfolding decimal
decimal_digit x h = within-digit 19 x (lt-ltb x 10 h)

-- a 64-bit number from 10 on is written as its tenth, rounded down, and then its last digit
pub decimal_step : (x : ℕ) → 10 ≤ x → x < 2 ^ 64 → decimal x ≡ decimal (x / 10) ++ ((48 + x % 10) ∷ [])
unfolding decimal
decimal_step x l h =
    within_step 19 x (le-ltb x 10 l)
    ∙ ap (λ (l : List ℕ). l ++ ((48 + x % 10) ∷ [])) (sym (within_more 18 (x / 10) (one_less 19 x (lt_trans h (lit< tt)))))

within-length : (k x : ℕ) → length (decimal_within k x) ≤ k
unfolding decimal_within
within-length zero x = zero-le
within-length (suc k) x =
    on (ltb x 10)
    (λ e. rw (within-digit k x e) (omega arith))
    (λ e. rw (within_step k x e) (omega (arith, length-append (decimal_within k (x / 10)) ((48 + x % 10) ∷ []), within-length k (x / 10))))

-- there are at most twenty digits
pub decimal-length : (x : ℕ) → length (decimal x) ≤ 20
unfolding decimal
decimal-length x = within-length 20 x

within-some : (k x : ℕ) → 1 ≤ length (decimal_within (suc k) x)
within-some k x =
    on (ltb x 10)
    (λ e. rw (within-digit k x e) (omega arith))
    (λ e. rw (within_step k x e) (omega (arith, length-append (decimal_within k (x / 10)) ((48 + x % 10) ∷ []))))

-- there is at least one
pub decimal-some : (x : ℕ) → 1 ≤ length (decimal x)
unfolding decimal
decimal-some x = within-some 19 x

-- below 100 there are at most two
pub decimal-short : (x : ℕ) → x < 100 → length (decimal x) ≤ 2
decimal-short x h =
    on (ltb x 10)
    (λ e. rw (decimal_digit x (ltb-true x 10 e)) (omega arith))
    (λ e. rw (decimal_step x (ltb-false x 10 e) (omega arith)) (rw (decimal_digit (x / 10) (omega arith)) (omega arith)))

one_more : (x : ℕ) → x < 2 ^ 64 → length (decimal x) ≤ 1 + length (decimal (x / 10))
one_more x h =
    on (ltb x 10)
    (λ e. rw (decimal_digit x (ltb-true x 10 e)) (omega arith))
    (λ e. rw (decimal_step x (ltb-false x 10 e) h) (omega (arith, length-append (decimal (x / 10)) ((48 + x % 10) ∷ []))))

-- below 10,000 at most four
pub decimal-four : (x : ℕ) → x < 10000 → length (decimal x) ≤ 4
decimal-four x h = omega (arith, one_more x (omega arith), one_more (x / 10) (omega arith), decimal-short (x / 10 / 10) (omega arith))

-- ---- back from digits

-- the number that digits spell, after those of a
abbrev value_after : ℕ → List ℕ → ℕ
value_after a [] = a
value_after a (d ∷ ds) = value_after (a * 10 + (d - 48)) ds

value_snoc : (a : ℕ) (ds : List ℕ) (d : ℕ) → value_after a (ds ++ (d ∷ [])) ≡ value_after a ds * 10 + (d - 48)
value_snoc a [] d = refl
value_snoc a (e ∷ ds) d = value_snoc (a * 10 + (e - 48)) ds d

value-within : (k x : ℕ) → x < 10 ^ k → value_after 0 (decimal_within k x) ≡ x
unfolding decimal_within
value-within zero x h = omega arith
value-within (suc k) x h =
    on (ltb x 10)
    (λ e. rw (within-digit k x e) (omega arith))
    (λ e. rw (within_step k x e) (value_snoc 0 (decimal_within k (x / 10)) (48 + x % 10)
    ∙ ap (λ (v : ℕ). v * 10 + ((48 + x % 10) - 48)) (value-within k (x / 10) (one_less k x h))
    ∙ ap (λ (v : ℕ). x / 10 * 10 + v) (omega arith) ∙ div-add-mod' x 10))

-- 64-bit numbers with the same digits are equal
pub decimal_injective : (x y : ℕ) → x < 2 ^ 64 → y < 2 ^ 64 → decimal x ≡ decimal y → x ≡ y
unfolding decimal
decimal_injective x y h k e = sym (value-within 20 x (lt_trans h (lit< tt))) ∙ ap (value_after 0) e ∙ value-within 20 y (lt_trans k (lit< tt))

-- ---- digits are no other bytes

-- every byte passes
abbrev pub each : (ℕ → Bool) → List ℕ → Bool
each p [] = true
each p (b ∷ bs) = p b && each p bs

module _ (p : ℕ → Bool) (digits : (d : ℕ) → d < 10 → p (48 + d) ≡ true) where
  each-one : (d : ℕ) → d < 10 → each p ((48 + d) ∷ []) ≡ true
  each-one d h = and_i (digits d h) refl

  each-join : (xs ys : List ℕ) → each p xs ≡ true → each p ys ≡ true → each p (xs ++ ys) ≡ true
  each-join [] ys h k = k
  each-join (x ∷ xs) ys h k = and_i (and_l (p x) _ h) (each-join xs ys (and_r (p x) _ h) k)

  each_within : (k x : ℕ) → each p (decimal_within k x) ≡ true
  unfolding decimal_within
  each_within zero x = refl
  each_within (suc k) x =
      on (ltb x 10)
      (λ e. rw (within-digit k x e) (each-one x (ltb-true x 10 e)))
      (λ e. rw (within_step k x e) (each-join (decimal_within k (x / 10)) _ (each_within k (x / 10)) (each-one (x % 10) (mod-lt x (zero-lt-suc 9)))))

  -- a test that the ten digits pass is passed by every byte of a number
  pub decimal-each : (x : ℕ) → each p (decimal x) ≡ true
  unfolding decimal
  decimal-each x = each_within 20 x
