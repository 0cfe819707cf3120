-- Pieces written one after the other are a line: their stores are one run of stores.
use mathlib.Core.Path.{◌≡◌, refl, sym, ap, ap₂, ◌∙◌}
use mathlib.Core.List.{List, [], ◌∷◌, ◌++◌}
use Prim.Native.Nat.{ℕ, ◌+◌, ◌*◌, ◌/◌, ◌%◌, ◌^◌, ◌≤◌, ◌<◌}
use native.Mathlib.Numerals.{unary_clauses}
use native.Mathlib.Omega.{arith}
use lib.ListN.{length, get_or, set, replicate, length-append}
use lib.Seq.{sets}
use Rattle.words.proofs.Stores.{sets_append}
use Rattle.dimensions.proofs.Products.{product}
use Rattle.text.specs.Decimal.{decimal}
use Rattle.text.proofs.Decimals.{decimal_digit, decimal_step}
use Rattle.bristol_line.specs.ByValue.{circuit_line_of}

-- a piece written to a list from a place on: the list then, and the place after it
abbrev pub Piece : List ℕ → ℕ → List ℕ → ℕ → List ℕ → Type 0
Piece l at out end more = (end ≡ at + length more) × (out ≡ sets l at more)

-- a piece after a piece
pub further : (l t out front more : List ℕ) (i at end : ℕ) → Piece l i t at front → Piece t at out end more → Piece l i out end (front ++ more)
further l t out front more i at end p q = (
  omega (arith, length-append front more, p.0, q.0),
  q.1 ∙ ap₂ (λ (x : List ℕ) (k : ℕ). sets x k more) p.1 p.0 ∙ sym (sets_append front more l i),
)

-- a byte after a piece
pub byte_more : (l out front : List ℕ) (at end b : ℕ) → Piece l at out end front → Piece l at (set out end b) (end + 1) (front ++ (b ∷ []))
byte_more l out front at end b p = further l out (set out end b) front (b ∷ []) at end (end + 1) p (refl, refl)

-- four bytes, one after the other
pub four_bytes : (l more : List ℕ) (at : ℕ) → length more ≡ 4
    → Piece l at (set (set (set (set l at (get_or more 0 0)) (at + 1) (get_or more 1 0)) (at + 2) (get_or more 2 0)) (at + 3) (get_or more 3 0)) (at + 4) more
four_bytes l [] at h = absurd (omega arith)
four_bytes l (a ∷ []) at h = absurd (omega arith)
four_bytes l (a ∷ b ∷ []) at h = absurd (omega arith)
four_bytes l (a ∷ b ∷ c ∷ []) at h = absurd (omega arith)
four_bytes l (a ∷ b ∷ c ∷ d ∷ []) at h = (refl, simp unary_clauses)
four_bytes l (a ∷ b ∷ c ∷ d ∷ e ∷ more) at h = absurd (omega arith)

-- ---- numbers

pub number-digit : (l : List ℕ) (x at : ℕ) → x < 10 → Piece l at (set l at (48 + x)) (at + 1) (decimal x)
number-digit l x at h =
    let digit = sym (decimal_digit x h) in
    (ap (λ (d : List ℕ). at + length d) digit, ap (sets l at) digit)

-- a number's last digit after the others
pub number_more : (l out : List ℕ) (x at end : ℕ) → 10 ≤ x → x < 2 ^ 64 → Piece l at out end (decimal (x / 10))
    → Piece l at (set out end (48 + x % 10)) (end + 1) (decimal x)
number_more l out x at end h f e =
    let p = byte_more l out (decimal (x / 10)) at end (48 + x % 10) e in
    let step = sym (decimal_step x h f) in
    (p.0 ∙ ap (λ (d : List ℕ). at + length d) step, p.1 ∙ ap (sets l at) step)

-- a row's wires times a row count, whichever
pub width_fits : (a b : ℕ) → a ≤ 65536 → b ≤ 65536 → a * b < 2 ^ 64
width_fits a b h k = omega (arith, product a b h k)

-- ---- lines

-- a number and LF
abbrev pub ended : ℕ → List ℕ
ended x = decimal x ++ (10 ∷ [])

-- pieces from the front on: one, three, four, five
module _ (l : List ℕ) where
  pub one_piece : (a r : List ℕ) (g : ℕ) → (g ≡ length a) × (r ≡ sets l 0 a) → Piece l 0 r g a
  one_piece a r g p = (omega (arith, p.0), p.1)

  pub three_pieces : (a b c r s t : List ℕ) (g h i : ℕ) → Piece l 0 r g a → Piece r g s h b → Piece s h t i c → Piece l 0 t i ((a ++ b) ++ c)
  three_pieces a b c r s t g h i p q v = further l s t (a ++ b) c 0 h i (further l r s a b 0 g h p q) v

  pub four_pieces : (a b c d r s t u : List ℕ) (g h i j : ℕ) → Piece l 0 r g a → Piece r g s h b → Piece s h t i c → Piece t i u j d
      → Piece l 0 u j (((a ++ b) ++ c) ++ d)
  four_pieces a b c d r s t u g h i j p q v w = further l t u ((a ++ b) ++ c) d 0 i j (three_pieces a b c r s t g h i p q v) w

  pub five_pieces : (a b c d e r s t u v : List ℕ) (g h i j k : ℕ) → Piece l 0 r g a → Piece r g s h b → Piece s h t i c → Piece t i u j d → Piece u j v k e
      → Piece l 0 v k ((((a ++ b) ++ c) ++ d) ++ e)
  five_pieces a b c d e r s t u v g h i j k p q w x y = further l u v (((a ++ b) ++ c) ++ d) e 0 j k (four_pieces a b c d r s t u g h i j p q w x) y

-- where a line is written
abbrev pub zeros : List ℕ
zeros = replicate 128 0

-- pieces that are the line
pub made : (front line out : List ℕ) (end : ℕ) → Piece zeros 0 out end front → front ≡ line → record { bytes = out; length = end } ≡ circuit_line_of line
made front line out end p e =
    let bytes : out ≡ sets zeros 0 line = p.1 ∙ ap (sets zeros 0) e in
    let size : end ≡ length line = omega (arith, p.0, ap length e) in
    λ i. record { bytes = bytes i; length = size i }
