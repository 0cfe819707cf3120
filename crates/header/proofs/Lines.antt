-- The lines before the header, one at a time: past a remark come the lines of the text that follows it.
use mathlib.Core.Path.{◌≡◌, sym, ap, ap₂, ◌∙◌}
use mathlib.Core.Bool.{Bool, not}
use mathlib.Core.List.{List, [], ◌∷◌}
use Prim.Native.Nat.{ℕ, suc, ◌+◌, ◌-◌, ◌≤◌, ◌<◌}
use native.Mathlib.Numerals.{add-one}
use native.Mathlib.Omega.{arith}
use lib.Dec.{eqb}
use lib.ListN.{length, drop, take, get_or, drop_of_length-le, length-drop, length-take}
use lib.Seq.{drop-cons, drop-drop}
use borrow.Author.Tests.{eq-eqb, ne_eqb, eqb-true}
use Rattle.std.specs.Prelude.{Err}
use Rattle.words.proofs.Truth.{on}
use Rattle.lexer.specs.Bytes.{is_line_feed, run, trimmed}
use Rattle.lexer.specs.Remarks.{is_remark}
use Rattle.lexer.specs.Pieces.{cut, not_empty, lines_from, parts_from}
use Rattle.lexer.specs.Places.{run_end, part}
use Rattle.refusals.specs.declared.Refusal.TheVariants.{Text}
use Rattle.lexer.proofs.Runs.{end_le}
use Rattle.lexer.proofs.Cuts.{later, cut-first}
use Rattle.header.specs.Header.{past_remarks, sizes_of, headed, header_of, sizes_said, header_said}
use Rattle.header.specs.declared.Header.{Header}

abbrev in_line : ℕ → Bool
in_line b = not (is_line_feed b)

-- whether a line is a remark is seen at its place
line_remark : (b : ℕ) (bs : List ℕ) → is_remark (take (run in_line (b ∷ bs)) (b ∷ bs)) ≡ eqb b 99
unfolding run
line_remark b bs =
    on (eqb b 10)
    (λ e. rw e (sym (ap (λ (x : ℕ). eqb x 99) (eqb-true b 10 e))))
    (λ e. rw e)

module _ (text : List ℕ) (at : ℕ) where
  -- the first line from a place on, and those after it
  lines_first : lines_from text at
      ≡ record { at = at; bytes = take (run in_line (drop at text)) (drop at text) }
      ∷ later is_line_feed (run_end in_line text at) (drop (run_end in_line text at) text)
  unfolding run_end
  lines_first =
      cut-first is_line_feed at (drop at text)
      ∙ ap (λ (l : List ℕ). record { at = at; bytes = take (run in_line (drop at text)) (drop at text) }
      ∷ later is_line_feed (at + run in_line (drop at text)) l)
      (drop-drop (run in_line (drop at text)) at text)

  module _ (h : at < length text) where
    remark_at_lem : is_remark (take (run in_line (drop at text)) (drop at text)) ≡ eqb (get_or text at 0) 99
    remark_at_lem = rw (drop-cons text at 0 h) (line_remark (get_or text at 0) (drop (suc at) text))

    pub other-line : (get_or text at 0 ≡ 99 → ⊥) → past_remarks (lines_from text at) ≡ lines_from text at
    unfolding past_remarks
    other-line e =
        ap past_remarks lines_first
        ∙ rw (remark_at_lem ∙ ne_eqb (get_or text at 0) 99 e) (sym lines_first)

    past_line : get_or text at 0 ≡ 99
        → past_remarks (lines_from text at) ≡ past_remarks (later is_line_feed (run_end in_line text at) (drop (run_end in_line text at) text))
    unfolding past_remarks
    past_line e = ap past_remarks lines_first ∙ rw (remark_at_lem ∙ eq-eqb (get_or text at 0) 99 e)

    pub last_line : get_or text at 0 ≡ 99 → length text ≤ run_end in_line text at → past_remarks (lines_from text at) ≡ []
    unfolding past_remarks
    last_line e l = past_line e ∙ rw (drop_of_length-le text l)

    pub remark_line : get_or text at 0 ≡ 99 → run_end in_line text at < length text
        → past_remarks (lines_from text at) ≡ past_remarks (lines_from text (run_end in_line text at + 1))
    remark_line e l = past_line e ∙ rw (drop-cons text (run_end in_line text at) 0 l, add-one)

  pub no_line : length text ≤ at → past_remarks (lines_from text at) ≡ lines_from text at
  unfolding past_remarks cut
  no_line h = rw (drop_of_length-le text h)

  pub empty-line : (least : ℕ) → length text ≤ at → at ≤ length text → headed least text (lines_from text at) ≡ headed least text []
  unfolding cut trimmed run parts_from not_empty
  empty-line least h k =
      let e : at + 0 ≡ length text = omega arith in
      rw (drop_of_length-le text h) (ap (λ (i : ℕ). record { sizes = Err Text; end = i }) e)

  -- the header is read in its line
  pub header_at : (least end : ℕ) → end ≡ run_end in_line text at → at ≤ length text
      → headed least text (lines_from text at) ≡ record { sizes = sizes_of least (part at end text); end = end }
  unfolding run_end
  header_at least end e h =
      let k = run in_line (drop at text) in
      let bound : at + k ≤ length text = end_le in_line text at h in
      let width : k ≡ end - at = omega (arith, e) in
      let place : at + length (take k (drop at text)) ≡ end = simp (length-take, length-drop) (omega (arith, e, bound)) in
      ap (headed least text) lines_first ∙ ap₂ (λ (i j : ℕ). record { sizes = sizes_of least (take i (drop at text)); end = j }) width place

-- what is given says its number and its values
pub said : (least : ℕ) (text : List ℕ) (h : Header) → h ≡ header_of least text
    → (h ≡ header_of least text) × (sizes_said h.sizes ≡ header_said least text)
said least text h e = (e, ap (λ (x : Header). sizes_said x.sizes) e)
