-- The parts of a header's line, one at a time: each that is found is the next of the definition's.
use mathlib.Core.Path.{◌≡◌, ◌∙◌}
use mathlib.Core.Bool.{true, false, cond, ◌&&◌}
use mathlib.Core.List.{List, []}
use Prim.Native.Nat.{ℕ}
use lib.Dec.{eqb}
use borrow.Author.Tests.{eq-eqb, ne_eqb}
use Rattle.std.specs.Prelude.{Err}
use Rattle.words.specs.Sameness.{same}
use Rattle.lexer.specs.Spelling.{bytes}
use Rattle.lexer.specs.Bytes.{is_blank}
use Rattle.lexer.specs.Pieces.{Piece, parts_from}
use Rattle.lexer.specs.Places.{part}
use Rattle.lexer.proofs.Cuts.{Found}
use Rattle.numbers.specs.Numbers.{number_read}
use Rattle.refusals.specs.declared.Refusal.TheVariants.{Text}
use Rattle.header.specs.Header.{judged_sizes, two_numbers, header_parts}

module _ (least : ℕ) (line : List ℕ) where
  abbrev parts_at : ℕ → List Piece
  parts_at at = parts_from is_blank line at

  pub no_part : parts_at 0 ≡ [] → header_parts least (parts_at 0) ≡ Err Text
  no_part e = rw e

  module _ (p pe : ℕ) (P : Found is_blank line 0 p pe) where
    pub one-part : parts_at pe ≡ [] → header_parts least (parts_at 0) ≡ Err Text
    one-part e = rw (P.pieces, e)

    module _ (f fe : ℕ) (F : Found is_blank line pe f fe) where
      named : header_parts least (parts_at 0)
          ≡ cond (eqb p 0 && same (part p pe line) (bytes "p") && same (part f fe line) (bytes "cnf")) (two_numbers least (parts_at fe)) (Err Text)
      named = rw (P.pieces, F.pieces)

      pub not_first : (p ≡ 0 → ⊥) → header_parts least (parts_at 0) ≡ Err Text
      not_first z = named ∙ rw (ne_eqb p 0 z)

      module _ (z : p ≡ 0) where
        pub not_p : same (part p pe line) (bytes "p") ≡ false → header_parts least (parts_at 0) ≡ Err Text
        not_p a = named ∙ rw (eq-eqb p 0 z, a)

        module _ (a : same (part p pe line) (bytes "p") ≡ true) where
          pub not_cnf : same (part f fe line) (bytes "cnf") ≡ false → header_parts least (parts_at 0) ≡ Err Text
          not_cnf b = named ∙ rw (eq-eqb p 0 z, a, b)

          pub both_names : same (part f fe line) (bytes "cnf") ≡ true → header_parts least (parts_at 0) ≡ two_numbers least (parts_at fe)
          both_names b = named ∙ rw (eq-eqb p 0 z, a, b)

  -- ---- the parts after the names

  module _ (at : ℕ) where
    pub no_size : parts_at at ≡ [] → two_numbers least (parts_at at) ≡ Err Text
    no_size e = rw e

    module _ (n ne : ℕ) (N : Found is_blank line at n ne) where
      pub one_size : parts_at ne ≡ [] → two_numbers least (parts_at at) ≡ Err Text
      one_size e = rw (N.pieces, e)

      module _ (m me : ℕ) (M : Found is_blank line ne m me) where
        pub three-sizes : (x xe : ℕ) → Found is_blank line me x xe → two_numbers least (parts_at at) ≡ Err Text
        three-sizes x xe X = rw (N.pieces, M.pieces, X.pieces)

        pub two-sizes : parts_at me ≡ [] → two_numbers least (parts_at at) ≡ judged_sizes least (number_read (part n ne line)) (number_read (part m me line))
        two-sizes e = rw (N.pieces, M.pieces, e)
