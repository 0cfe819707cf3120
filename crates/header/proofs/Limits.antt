-- n and m as they are judged: a value held up to 1000 passes the tests that the exact one passes, and what is taken is within the limits. By the tests' cases.
use mathlib.Core.Path.{◌≡◌, refl, sym, ap, ap₂, ◌∙◌}
use mathlib.Core.Bool.{Bool, false, ◌&&◌, ◌||◌}
use mathlib.Core.List.{List, [], ◌∷◌}
use Prim.Native.Nat.{ℕ, ◌≤◌}
use native.Mathlib.Omega.{arith}
use lib.Dec.{eqb, ltb}
use borrow.Author.Tests.{lt-ltb, le-ltb, ltb-true, ltb-false}
use Rattle.std.specs.Prelude.{Result, Ok, Err, Some, None}
use Rattle.refusals.specs.declared.Refusal.{Refusal}
use Rattle.words.proofs.Truth.{on, or_l, or_r}
use Rattle.lexer.specs.Spelling.{bytes}
use Rattle.words.specs.Sameness.{same}
use Rattle.lexer.specs.Bytes.{is_blank, is_tail, trimmed}
use Rattle.lexer.specs.Pieces.{Piece, lines_from, parts_from}
use Rattle.numbers.specs.Numbers.{Number, number, malformed, number_read}
use Rattle.numbers.specs.CappedNumbers.{held, number_held}
use Rattle.numbers.proofs.Decimals.{held-value, held_none}
use Rattle.dimensions.specs.Sizes.{most_variables, most_rows}
use Rattle.refusals.specs.declared.Refusal.TheVariants.{Variables, RowCount, Text}
use Rattle.header.specs.Header.{past_remarks, beyond, judged_sizes, two_numbers, header_parts, headed, header_of}

-- what is not beyond its limits is within them
pub within : (least most : ℕ) (s : Bool) (v : ℕ) → beyond least most s v ≡ false → (least ≤ v) × (v ≤ most)
within least most s v e =
    let o = or_r s (ltb v least || ltb most v) e in
    (ltb-false v least (or_l (ltb v least) (ltb most v) o), ltb-false most v (or_r (ltb v least) (ltb most v) o))

-- ---- held values

held_low : (least v : ℕ) → least ≤ 1000 → ltb (held v) least ≡ ltb v least
held_low least v h =
    on (ltb v least)
    (λ e. lt-ltb (held v) least (omega (arith, ltb-true v least e)) ∙ sym e)
    (λ e. le-ltb (held v) least (omega (arith, ltb-false v least e)) ∙ sym e)

held_high : (most v : ℕ) → most ≤ 999 → ltb most (held v) ≡ ltb most v
held_high most v h =
    on (ltb most v)
    (λ e. lt-ltb most (held v) (omega (arith, ltb-true most v e)) ∙ sym e)
    (λ e. le-ltb most (held v) (omega (arith, ltb-false most v e)) ∙ sym e)

module _ (least most : ℕ) (s : Bool) (v : ℕ) where
  beyond-held : least ≤ 1000 → most ≤ 999 → beyond least most s (held v) ≡ beyond least most s v
  beyond-held h k = ap₂ (λ (a b : Bool). s || (a || b)) (held_low least v h) (held_high most v k)

  -- a value within its limits is held as it is
  held-within : most ≤ 999 → beyond least most s v ≡ false → held v ≡ v
  held-within h e = omega (arith, (within least most s v e).1)

judged-held : (least : ℕ) (s t : Bool) (v w : ℕ) → least ≤ 1000 → judged_sizes least (number s (held v)) (number t (held w))
    ≡ judged_sizes least (number s v) (number t w)
judged-held least s t v w h =
    let n_held = beyond-held 1 most_variables s v (omega arith) (omega arith) in
    let m-held = beyond-held least most_rows t w h (omega arith) in
    on (beyond 1 most_variables s v)
    (λ a. rw (n_held, a))
    (λ a. on (beyond least most_rows t w)
    (λ b. rw (n_held, m-held, a, b))
    (λ b. rw (n_held, m-held, a, b)
    (let pair : ℕ → ℕ → Result (ℕ × ℕ) Refusal = λ x y. Ok (x, y) in
    ap₂ pair (held-within 1 most_variables s v (omega arith) a) (held-within least most_rows t w (omega arith) b))))

-- ---- two parts as they are read

module _ (least : ℕ) (n m : List ℕ) where
  pub no_n : number_held (number_read n) ≡ None → judged_sizes least (number_read n) (number_read m) ≡ Err Text
  no_n e = rw (held_none (number_read n) e)

  pub no_m : number_held (number_read m) ≡ None → judged_sizes least (number_read n) (number_read m) ≡ Err Text
  no_m e = ap (judged_sizes least (number_read n)) (held_none (number_read m) e) ∙ go (number_read n)
    where
      go : (x : Number) → judged_sizes least x malformed ≡ Err Text
      go malformed = refl
      go (number s v) = refl

  pub both : least ≤ 1000 → (s t : Bool) (v w : ℕ) → number_held (number_read n) ≡ Some (s, v) → number_held (number_read m) ≡ Some (t, w)
      → judged_sizes least (number s v) (number t w) ≡ judged_sizes least (number_read n) (number_read m)
  both h s t v w e f =
      let x = held-value (number_read n) s v e in
      let y = held-value (number_read m) t w f in
      ap₂ (λ (a b : ℕ). judged_sizes least (number s a) (number t b)) (sym x.2) (sym y.2)
      ∙ judged-held least s t x.0 y.0 h ∙ sym (ap₂ (judged_sizes least) x.1 y.1)

-- ---- whatever holds of refusals 1, 2 and 5 and of n and m within their limits holds of a header

module _ (least : ℕ) (P : Result (ℕ × ℕ) Refusal → Type 0) (text-refused : P (Err Text)) (n-refused : P (Err Variables)) (m-refused : P (Err RowCount))
    (taken : (n m : ℕ) → (1 ≤ n) × (n ≤ most_variables) → (least ≤ m) × (m ≤ most_rows) → P (Ok (n, m))) where
  judged_either : (x y : Number) → P (judged_sizes least x y)
  judged_either malformed y = text-refused
  judged_either (number s n) malformed = text-refused
  judged_either (number s n) (number t m) =
      on (beyond 1 most_variables s n)
      (λ a. rw a n-refused)
      (λ a. on (beyond least most_rows t m)
      (λ b. rw (a, b) m-refused)
      (λ b. rw (a, b) (taken n m (within 1 most_variables s n a) (within least most_rows t m b))))

  two_either : (ps : List Piece) → P (two_numbers least ps)
  two_either [] = text-refused
  two_either (n ∷ []) = text-refused
  two_either (n ∷ (m ∷ [])) = judged_either (number_read n.bytes) (number_read m.bytes)
  two_either (n ∷ (m ∷ (x ∷ xs))) = text-refused

  parts_either : (ps : List Piece) → P (header_parts least ps)
  parts_either [] = text-refused
  parts_either (p ∷ []) = text-refused
  parts_either (p ∷ (f ∷ ps)) =
      on (eqb p.at 0 && same p.bytes (bytes "p") && same f.bytes (bytes "cnf"))
      (λ e. rw e (two_either ps))
      (λ e. rw e text-refused)

  lines_either : (text : List ℕ) (lines : List Piece) → P (headed least text lines).sizes
  lines_either text [] = text-refused
  lines_either text (l ∷ ls) = parts_either (parts_from is_blank (trimmed is_tail l.bytes) 0)

  -- what holds of refusals 1, 2 and 5, and of all n and m within their limits, holds of the sizes that any text's header gives
  pub header_either : (text : List ℕ) → P (header_of least text).sizes
  unfolding header_of
  header_either text = lines_either text (past_remarks (lines_from text 0))
