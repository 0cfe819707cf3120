-- One line between header and clauses, by its first byte and its parts.
use Rattle.std.specs.Prelude.{None}
use mathlib.Core.Path.{◌≡◌, refl, sym, ap, ap₂, ◌∙◌}
use mathlib.Core.Bool.{Bool, true, false, ◌||◌, cond}
use mathlib.Core.List.{List, [], ◌∷◌}
use Prim.Native.Nat.{ℕ, ◌-◌}
use native.Mathlib.Omega.{arith}
use lib.Dec.{eqb}
use lib.ListN.{length, get_or}
use borrow.Author.Tests.{eqb-true, eq-eqb, ne_eqb}
use Rattle.words.proofs.Truth.{on}
use Rattle.lexer.specs.Bytes.{is_blank, is_separator}
use Rattle.lexer.specs.Remarks.{is_remark}
use Rattle.lexer.specs.Pieces.{Piece, cut, not_empty, parts_from, tokens_from}
use Rattle.lexer.specs.Places.{part}
use Rattle.lexer.proofs.Cuts.{Found, one_piece}
use Rattle.qdimacs.specs.Lines.{bound_on, some_variable, lettered, is_variable_line, variable_line, no_piece, no_token}
use Rattle.qdimacs.specs.TurnsInWords.{line_held, line_read}
use Rattle.qdimacs.specs.declared.Prefix.{Prefix}
use Rattle.qdimacs.specs.declared.PrefixLine.{PrefixLine}
use Rattle.qdimacs.specs.declared.PrefixLine.TheVariants.{Passed, Clauses, Malformed}

-- ---- the letter

module _ (n : ℕ) (p : Prefix) (u : Bool) (line : List ℕ) where
  abbrev by_letter : PrefixLine
  by_letter = line_held n p (lettered u (parts_from is_blank line 0))

  pub no_letter : parts_from is_blank line 0 ≡ [] → Malformed ≡ by_letter
  no_letter e = sym (ap (λ (ps : List Piece). line_held n p (lettered u ps)) e)

  module _ (from to : ℕ) (f : Found is_blank line 0 from to) where
    width : length (part from to line) ≡ to - from
    width = omega (arith, f.ends)

    by_width : (b : Bool) → eqb (length (part from to line)) 1 ≡ b
        → by_letter ≡ line_held n p (cond b (some_variable (bound_on u (parts_from is_blank line to))) None)
    by_width b e =
        ap (λ (ps : List Piece). line_held n p (lettered u ps)) f.pieces
        ∙ ap (λ (t : Bool). line_held n p (cond t (some_variable (bound_on u (parts_from is_blank line to))) None)) e

    pub long_letter : (to - from ≡ 1 → ⊥) → Malformed ≡ by_letter
    long_letter h = sym (by_width false (ne_eqb (length (part from to line)) 1 (λ q. h (sym width ∙ q))))

    pub own_letter : to - from ≡ 1 → by_letter ≡ line_held n p (some_variable (bound_on u (parts_from is_blank line to)))
    own_letter h = by_width true (eq-eqb (length (part from to line)) 1 (width ∙ h))

-- ---- the first byte

has_token : (line : List ℕ) → (length line ≡ 0 → ⊥) → is_separator (get_or line 0 0) ≡ false → no_token line ≡ false
unfolding parts_from
has_token [] h e = absurd (h refl)
has_token (b ∷ bs) h e = ap no_piece (one_piece is_separator 0 b bs e)

module _ (n : ℕ) (p : Prefix) (line : List ℕ) where
  abbrev others : PrefixLine
  others = cond (is_variable_line line) (line_held n p (variable_line line)) Clauses

  by_tests : (b c : Bool) → is_remark line ≡ b → no_token line ≡ c → line_read n p line ≡ cond (b || c) (Passed p) others
  by_tests b c e h = ap₂ (λ (x y : Bool). cond (x || y) (Passed p) others) e h

  pub empty_passed : length line ≡ 0 → Passed p ≡ line_read n p line
  unfolding parts_from cut not_empty
  empty_passed e = go line e
    where
      go : (l : List ℕ) → length l ≡ 0 → Passed p ≡ line_read n p l
      go [] e = refl
      go (b ∷ bs) e = absurd (omega arith)

  pub remark_passed : get_or line 0 0 ≡ 99 → Passed p ≡ line_read n p line
  remark_passed e = sym (by_tests true (no_token line) (eq-eqb (get_or line 0 0) 99 e) refl)

  pub blank_passed : tokens_from line 0 ≡ [] → Passed p ≡ line_read n p line
  blank_passed e = sym (by_tests (is_remark line) true refl (ap no_piece e) ∙ go (is_remark line))
    where
      go : (b : Bool) → cond (b || true) (Passed p) others ≡ Passed p
      go true = refl
      go false = refl

  module _ (no_remark : get_or line 0 0 ≡ 99 → ⊥) where
    filled-line : no_token line ≡ false → line_read n p line ≡ others
    filled-line e = by_tests false false (ne_eqb (get_or line 0 0) 99 no_remark) e

    pub clauses-line : (q : Piece) (qs : List Piece) → tokens_from line 0 ≡ q ∷ qs → eqb (get_or line 0 0) 97 || eqb (get_or line 0 0) 101 ≡ false
        → Clauses ≡ line_read n p line
    clauses-line q qs e h = sym (filled-line (ap no_piece e) ∙ ap (λ (t : Bool). cond t (line_held n p (variable_line line)) Clauses) h)

    pub letter_line : (length line ≡ 0 → ⊥) → eqb (get_or line 0 0) 97 || eqb (get_or line 0 0) 101 ≡ true
        → line_read n p line ≡ line_held n p (variable_line line)
    letter_line h e =
        filled-line (has_token line h (letter (get_or line 0 0) e)) ∙ ap (λ (t : Bool). cond t (line_held n p (variable_line line)) Clauses) e
      where
        letter : (b : ℕ) → eqb b 97 || eqb b 101 ≡ true → is_separator b ≡ false
        letter b e = on (eqb b 97) (λ q. ap is_separator (eqb-true b 97 q)) (λ q. ap is_separator (eqb-true b 101 (rw q at e)))
