-- Floats that are whole numbers over 2 ^ 32: each below 2 ^ 53 is held exactly, sums and comparisons are those of the whole numbers, and halving one is exact.
-- Every law goes by values: `HasValue x false a c` says that x is a / c.
use mathlib.Core.Path.{◌≡◌, sym, ap, ap₂, ◌∙◌}
use mathlib.Core.Bool.{true, false, true≢false}
use Prim.Native.Nat.{ℕ, ◌+◌, ◌*◌, ◌^◌, ◌<◌}
use native.Mathlib.Nat.{mul_assoc, mul_comm, mul_right_comm, add-mul, mul-lt-mul_of_pos_right, mul-le-mul_right, le_of_mul-le-mul_right}
use native.Mathlib.Nat.{lt_of_mul-lt-mul_right, lt_of_lt_of_le, mul-pos}
use lib.Dec.{ltb, lit≤}
use lib.Pow.{pow_pos}
use lib.Ieee.{Float, nan, inf, fin, Format, binary64, up, down, round, sum, add, lt}
use lib.Ieee.Fits.{down_pos}
use lib.Ieee.Exact.{HasValue, round_exact}
use lib.Ieee.Scale.{round_same}
use borrow.Author.Tests.{lt-ltb, le-ltb, ltb-true, ltb-false}
use Rattle.words.proofs.Truth.{on}
use Rattle.weighted.specs.Floats.{scaled}

-- ---- by values

-- x * c = a * p and y * c = b * q: over the common denominator p * q the sum is (a + b) / c
cross : (x y a b c p q : ℕ) → x * c ≡ a * p → y * c ≡ b * q → (x * q + y * p) * c ≡ (a + b) * (p * q)
cross x y a b c p q h k =
    add-mul (x * q) (y * p) c
    ∙ ap₂ (λ (u v : ℕ). u + v)
    (mul_right_comm x q c ∙ ap (λ (z : ℕ). z * q) h ∙ mul_assoc a p q)
    (mul_right_comm y p c ∙ ap (λ (z : ℕ). z * p) k ∙ mul_assoc b q p ∙ ap (λ (z : ℕ). b * z) (mul_comm q p))
    ∙ sym (add-mul a b (p * q))

-- a sum of two values over one denominator is rounded once
pub add-values : (f : Format) (x y : Float) (a b c : ℕ) → 0 < c → HasValue x false a c → HasValue y false b c → add f x y ≡ round f false (a + b) c
unfolding add sum
add-values f nan y a b c C h k = absurd h
add-values f (inf s) y a b c C h k = absurd h
add-values f (fin true m e) y a b c C h k = absurd (true≢false h.0)
add-values f (fin false m e) nan a b c C h k = absurd k
add-values f (fin false m e) (inf s) a b c C h k = absurd k
add-values f (fin false m e) (fin true n d) a b c C h k = absurd (true≢false k.0)
add-values f (fin false m e) (fin false n d) a b c C h k =
    round_same f false (m * up e * down d + n * up d * down e) (down e * down d) (a + b) c (mul-pos (down_pos e) (down_pos d)) C
    (cross (m * up e) (n * up d) a b c (down e) (down d) h.1 k.1)

-- x / p against y / q, which are a / c and b / c
order : (x y a b c p q : ℕ) → 0 < c → 0 < p → 0 < q → x * c ≡ a * p → y * c ≡ b * q → ltb (x * q) (y * p) ≡ ltb a b
order x y a b c p q C P Q h k =
    let pq = mul-pos P Q in
    let l : x * q * c ≡ a * (p * q) = mul_right_comm x q c ∙ ap (λ (z : ℕ). z * q) h ∙ mul_assoc a p q in
    let r : y * p * c ≡ b * (p * q) = mul_right_comm y p c ∙ ap (λ (z : ℕ). z * p) k ∙ mul_assoc b q p ∙ ap (λ (z : ℕ). b * z) (mul_comm q p) in
    on (ltb a b)
    (λ e. lt-ltb (x * q) (y * p) (lt_of_mul-lt-mul_right c (rw (l, r) (mul-lt-mul_of_pos_right (ltb-true a b e) pq))) ∙ sym e)
    (λ e. le-ltb (x * q) (y * p) (le_of_mul-le-mul_right {k = c} (rw (l, r) (mul-le-mul_right (p * q) (ltb-false a b e))) C) ∙ sym e)

-- two values over one denominator compare as their numerators
pub lt-values : (x y : Float) (a b c : ℕ) → 0 < c → HasValue x false a c → HasValue y false b c → lt x y ≡ ltb a b
unfolding lt
lt-values nan y a b c C h k = absurd h
lt-values (inf s) y a b c C h k = absurd h
lt-values (fin true m e) y a b c C h k = absurd (true≢false h.0)
lt-values (fin false m e) nan a b c C h k = absurd k
lt-values (fin false m e) (inf s) a b c C h k = absurd k
lt-values (fin false m e) (fin true n d) a b c C h k = absurd (true≢false k.0)
lt-values (fin false m e) (fin false n d) a b c C h k = order (m * up e) (n * up d) a b c (down e) (down d) C (down_pos e) (down_pos d) h.1 k.1

-- ---- over 2 ^ 32

-- below 2 ^ 53 the float is exactly w / 2 ^ 32: nothing is rounded away
pub scaled_exact : (w : ℕ) → w < 2 ^ 53 → HasValue (scaled w) false w (2 ^ 32)
unfolding scaled
scaled_exact w h =
    round_exact binary64 false w (2 ^ 32) w 1042 (pow_pos 32) h
    (lt_of_lt_of_le (mul-lt-mul_of_pos_right h (pow_pos 1042)) (lit≤ tt))
    (sym (mul_assoc w (2 ^ 1042) (2 ^ 32)))

-- so their sum is the sum of the whole numbers
pub scaled-add : (a b : ℕ) → a < 2 ^ 53 → b < 2 ^ 53 → add binary64 (scaled a) (scaled b) ≡ scaled (a + b)
unfolding scaled
scaled-add a b h k = add-values binary64 (scaled a) (scaled b) a b (2 ^ 32) (pow_pos 32) (scaled_exact a h) (scaled_exact b k)

-- and they compare as the whole numbers
pub scaled-lt : (a b : ℕ) → a < 2 ^ 53 → b < 2 ^ 53 → lt (scaled a) (scaled b) ≡ ltb a b
scaled-lt a b h k = lt-values (scaled a) (scaled b) a b (2 ^ 32) (pow_pos 32) (scaled_exact a h) (scaled_exact b k)
