-- Words picked at a distance are the words of a square's rows, and those of a plane.
use mathlib.Core.Path.{◌≡◌, ap, ap₂}
use mathlib.Core.List.{List, [], ◌∷◌}
use Prim.Native.Nat.{ℕ, ◌+◌, ◌*◌}
use native.Mathlib.Omega.{arith}
use lib.ListN.{get_or}
use Rattle.squares.specs.Squares.{transposed, sign_words, square_at, plane_at, square_rows}
use Rattle.squares.specs.Steps.{picked}
use Rattle.squares.proofs.Tabulating.{tabulate_cong}

module _ (words : List ℕ) (s sign at : ℕ) where
  picked-rows : at ≡ 64 * s + sign → picked words at 2 ≡ sign_words words s sign
  picked-rows e =
      tabulate_cong (λ j. get_or words (at + 2 * j) 0) (λ j. get_or words (64 * s + 2 * j + sign) 0) 0 0 32
      (λ j b. let p : at + 2 * (0 + j) ≡ 64 * s + 2 * (0 + j) + sign = omega arith in ap (λ (x : ℕ). get_or words x 0) p)

  picked_plane : at ≡ 64 * s + 32 * sign → picked words at 1 ≡ plane_at words s sign
  picked_plane e =
      tabulate_cong (λ i. get_or words (at + 1 * i) 0) (λ i. get_or words (64 * s + 32 * sign + i) 0) 0 0 32
      (λ i b. let p : at + 1 * (0 + i) ≡ 64 * s + 32 * sign + (0 + i) = omega arith in ap (λ (x : ℕ). get_or words x 0) p)

module _ (words : List ℕ) (s : ℕ) where
  pub picked-square : transposed (picked words (64 * s) 2) ∷ transposed (picked words (64 * s + 1) 2) ∷ [] ≡ square_at words s
  picked-square = ap₂ (λ (p q : List ℕ). transposed p ∷ transposed q ∷ []) (picked-rows words s 0 (64 * s) (omega arith))
      (picked-rows words s 1 (64 * s + 1) (omega arith))

  pub picked-back : transposed (picked words (64 * s) 1) ∷ transposed (picked words (64 * s + 32) 1) ∷ [] ≡ square_rows words s
  picked-back = ap₂ (λ (p q : List ℕ). transposed p ∷ transposed q ∷ []) (picked_plane words s 0 (64 * s) (omega arith))
      (picked_plane words s 1 (64 * s + 32) (omega arith))
