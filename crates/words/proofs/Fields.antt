-- Fields of a word. Neighbours added all at once, `(y & e) + (y >> k & e)` where e has the k low bits of every field of k + k bits, leave the sum of the fields
-- as it was, and the fields of one bit add up to the word's count. By induction on the fields: two halves have room for their sum, so no carry leaves a field.
use mathlib.Core.Path.{◌≡◌, refl, sym, ap, ap₂, ◌∙◌, fun_ext}
use mathlib.Core.Bool.{Bool}
use Prim.Native.Nat.{ℕ, zero, suc, ◌+◌, ◌-◌, ◌*◌, ◌/◌, ◌%◌, ◌^◌, ◌≤◌, ◌<◌}
use native.Mathlib.Nat.{mod-lt, add-mul, add_assoc, add_left_comm, lt_of_lt_of_le, le-add_right}
use native.Mathlib.Omega.{arith}
use lib.Arith.{digits_div, digits_mod}
use lib.Dec.{lit≤}
use lib.Pow.{pow_pos, pow_mono, add-lt-pow, split, shr-shr, mod-mod-pow, ones_lt}
use lib.Bits.{bit_and, and_block, and_mask}
use Rattle.words.specs.Sets.{bit, count}
use Rattle.words.proofs.Bits.{bit-suc}
use Rattle.words.proofs.Operations.{low_digit}

-- the mask of m fields of k + k bits: the k low bits of each
unfoldable halves : ℕ → ℕ → ℕ
halves k zero = 0
halves k (suc m) = halves k m * 2 ^ (k + k) + (2 ^ k - 1)

-- the sum of the m low fields of k bits
unfoldable field_sum : ℕ → ℕ → ℕ → ℕ
field_sum k zero y = 0
field_sum k (suc m) y = y % 2 ^ k + field_sum k m (y / 2 ^ k)

-- neighbouring fields of k bits added, by a mask
abbrev paired : ℕ → ℕ → ℕ → ℕ
paired mask k y = bit_and y mask + bit_and (y / 2 ^ k) mask

-- twice m, so that 2 m fields unfold two at a time
unfoldable twice : ℕ → ℕ
twice zero = 0
twice (suc m) = suc (suc (twice m))

-- ---- neighbours added

-- the mask's lowest field keeps the k low bits of y, and the rest of the mask meets the rest of y
low_field : (k y e : ℕ) → bit_and y (e * 2 ^ (k + k) + (2 ^ k - 1)) ≡ bit_and (y / 2 ^ (k + k)) e * 2 ^ (k + k) + y % 2 ^ k
low_field k y e =
    ap (λ (n : ℕ). bit_and n (e * 2 ^ (k + k) + (2 ^ k - 1))) (sym (split y (k + k)))
    ∙ and_block (k + k) (y / 2 ^ (k + k)) e (y % 2 ^ (k + k)) (2 ^ k - 1)
    (mod-lt y (pow_pos (k + k))) (lt_of_lt_of_le (ones_lt k) (pow_mono (le-add_right k k)))
    ∙ ap (λ (n : ℕ). bit_and (y / 2 ^ (k + k)) e * 2 ^ (k + k) + n) (and_mask (y % 2 ^ (k + k)) k ∙ mod-mod-pow y k k)

sum_fields : (a b p u v : ℕ) → (a * p + u) + (b * p + v) ≡ (a + b) * p + (u + v)
sum_fields a b p u v =
    add_assoc (a * p) u (b * p + v) ∙ ap (λ (n : ℕ). a * p + n) (add_left_comm u (b * p) v) ∙ sym (add_assoc (a * p) (b * p) (u + v))
    ∙ ap (λ (n : ℕ). n + (u + v)) (sym (add-mul a b p))

-- a shift by k and one by k + k, in either order
shift_swap : (k y : ℕ) → y / 2 ^ k / 2 ^ (k + k) ≡ y / 2 ^ (k + k) / 2 ^ k
shift_swap k y = shr-shr y k (k + k) ∙ ap (λ (e : ℕ). y / 2 ^ e) (sym (add_assoc k k k)) ∙ sym (shr-shr y (k + k) k)

-- the halves of the lowest field
abbrev low : ℕ → ℕ → ℕ
low k y = y % 2 ^ k

abbrev high : ℕ → ℕ → ℕ
high k y = y / 2 ^ k % 2 ^ k

-- paired, the lowest field is the sum of its halves, and the fields above it are paired too
paired_field : (k m y : ℕ) → paired (halves k (suc m)) k y ≡ paired (halves k m) k (y / 2 ^ (k + k)) * 2 ^ (k + k) + (low k y + high k y)
unfolding halves
paired_field k m y =
    let e = halves k m in
    let rest = y / 2 ^ (k + k) in
    ap₂ (λ (p q : ℕ). p + q) (low_field k y e) (low_field k (y / 2 ^ k) e)
    ∙ sum_fields (bit_and rest e) (bit_and (y / 2 ^ k / 2 ^ (k + k)) e) (2 ^ (k + k)) (low k y) (high k y)
    ∙ ap (λ (n : ℕ). (bit_and rest e + bit_and n e) * 2 ^ (k + k) + (low k y + high k y)) (shift_swap k y)

-- which has room for it
field_room : (k y : ℕ) → 1 ≤ k → low k y + high k y < 2 ^ (k + k)
field_room k y h = lt_of_lt_of_le (add-lt-pow k (mod-lt y (pow_pos k)) (mod-lt (y / 2 ^ k) (pow_pos k))) (pow_mono (omega arith))

paired-sum : (k m y : ℕ) → 1 ≤ k → field_sum (k + k) m (paired (halves k m) k y) ≡ field_sum k (twice m) y
unfolding field_sum twice
paired-sum k zero y h = refl
paired-sum k (suc m) y h =
    let rest = paired (halves k m) k (y / 2 ^ (k + k)) in
    let room = field_room k y h in
    ap (λ (n : ℕ). n % 2 ^ (k + k) + field_sum (k + k) m (n / 2 ^ (k + k))) (paired_field k m y)
    ∙ ap₂ (λ (a b : ℕ). a + field_sum (k + k) m b) (digits_mod rest room) (digits_div rest room)
    ∙ ap (λ (n : ℕ). low k y + high k y + n) (paired-sum k m (y / 2 ^ (k + k)) h ∙ ap (field_sum k (twice m)) (sym (shr-shr y k k)))
    ∙ add_assoc (low k y) (high k y) (field_sum k (twice m) (y / 2 ^ k / 2 ^ k))

-- ---- the count

bits-sum : (m y : ℕ) → field_sum 1 m y ≡ count (λ i. bit y i) m
unfolding field_sum count
bits-sum zero y = refl
bits-sum (suc m) y =
    ap₂ (λ (a b : ℕ). a + b) (low_digit y) (bits-sum m (y / 2) ∙ ap (λ (p : ℕ → Bool). count p m) (fun_ext (λ i. sym (bit-suc y i))))

-- the counts of a word's fields of two bits, of four and of eight
abbrev pub twos : ℕ → ℕ
twos w = paired 0x5555_5555 1 w

abbrev pub fours : ℕ → ℕ
fours w = paired 0x3333_3333 2 (twos w)

abbrev pub eights : ℕ → ℕ
eights w = paired 0x0f0f_0f0f 4 (fours w)

-- the byte from bit i on
abbrev pub byte : ℕ → ℕ → ℕ
byte y i = bit_and (y / 2 ^ i) 255

pub bytes-sum : (w : ℕ) → let y = eights w in bit_and y 255 + byte y 8 + (byte y 16 + byte y 24) ≡ count (λ i. bit w i) 32
unfolding halves twice field_sum
bytes-sum w =
    fields (eights w) ∙ paired-sum 4 4 (fours w) (lit≤ tt) ∙ paired-sum 2 8 (twos w) (lit≤ tt) ∙ paired-sum 1 16 w (lit≤ tt) ∙ bits-sum 32 w
  where
    regroup : (a b c d : ℕ) → a + b + (c + d) ≡ a + (b + (c + (d + 0)))
    regroup a b c d = omega arith

    fields : (y : ℕ) → bit_and y 255 + byte y 8 + (byte y 16 + byte y 24) ≡ field_sum 8 4 y
    fields y =
        let third = and_mask (y / 2 ^ 16) 8 ∙ ap (λ (n : ℕ). n % 2 ^ 8) (sym (shr-shr y 8 8)) in
        let fourth = and_mask (y / 2 ^ 24) 8 ∙ ap (λ (n : ℕ). n % 2 ^ 8) (sym (ap (λ (n : ℕ). n / 2 ^ 8) (shr-shr y 8 8) ∙ shr-shr y 16 8)) in
        (λ i. and_mask y 8 i + and_mask (y / 2 ^ 8) 8 i + (third i + fourth i)) ∙ regroup (y % 2 ^ 8) (y / 2 ^ 8 % 2 ^ 8) _ _
