-- The bit patterns of the powers of two from 2 ^ -32 to 1: the exponent's field is 1023 - k and the rest is 0. One test that antt computes for all k at once.
use mathlib.Core.Path.{◌≡◌, refl, sym, ap, ◌∙◌, subst}
use mathlib.Core.Bool.{true, false, not, ◌&&◌}
use Prim.Native.Nat.{ℕ, ◌-◌, ◌*◌, ◌%◌, ◌^◌, ◌≤◌}
use native.Mathlib.Omega.{arith}
use lib.Dec.{T, eqb}
use lib.Ieee.{binary64, round, of_bits, to_bits, nan_bits, size}
use lib.Ieee.Bits.{of_bits-to_bits}
use lib.Ieee.Fits.{round-fits}
use borrow.Author.Tests.{eqb-true}
use Rattle.words.specs.Sets.{all}
use Rattle.words.proofs.Truth.{and_l, and_r}
use Rattle.words.proofs.Upto.{all_e}
use Rattle.weighted.specs.Floats.{scaled}

-- the pattern as the code computes it
abbrev pub pattern : ℕ → ℕ
pattern k = ((1023 - k) * 4503599627370496) % 18446744073709551616

-- it is no NaN's, and it is the one of the power of two
all_patterns : all (λ k. not (nan_bits binary64 (pattern k)) && eqb (to_bits binary64 (scaled (2 ^ (32 - k)))) (pattern k)) 33 ≡ true
unfolding all nan_bits to_bits size scaled round
all_patterns = refl

at-pattern : (k : ℕ) → k ≤ 32 → not (nan_bits binary64 (pattern k)) && eqb (to_bits binary64 (scaled (2 ^ (32 - k)))) (pattern k) ≡ true
at-pattern k h = all_e (λ k. not (nan_bits binary64 (pattern k)) && eqb (to_bits binary64 (scaled (2 ^ (32 - k)))) (pattern k)) 33 all_patterns k (omega arith)

pub pattern_number : (k : ℕ) → k ≤ 32 → T (not (nan_bits binary64 (pattern k)))
pattern_number k h = subst T (sym (and_l (not (nan_bits binary64 (pattern k))) (eqb (to_bits binary64 (scaled (2 ^ (32 - k)))) (pattern k)) (at-pattern k h)))
    tt

scaled_fits : (w : ℕ) → of_bits binary64 (to_bits binary64 (scaled w)) ≡ scaled w
unfolding scaled
scaled_fits w = of_bits-to_bits binary64 (scaled w) (round-fits binary64 false w 4294967296)

pub pattern_power : (k : ℕ) → k ≤ 32 → of_bits binary64 (pattern k) ≡ scaled (2 ^ (32 - k))
pattern_power k h =
    ap (of_bits binary64) (sym (eqb-true _ _ (and_r (not (nan_bits binary64 (pattern k))) _ (at-pattern k h)))) ∙ scaled_fits (2 ^ (32 - k))
