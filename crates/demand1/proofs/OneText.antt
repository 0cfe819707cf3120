-- What one text is refused with: its header meets 1, 2 or 5, so that the checks in order come to what reading gives; and bytes past the one that makes a text
-- overlong make no difference.
use mathlib.Core.Path.{◌≡◌, refl, sym, ap, ◌∙◌}
use mathlib.Core.Bool.{Bool, true, false, not, ◌&&◌, cond}
use mathlib.Core.List.{List, [], ◌∷◌}
use Prim.Native.Nat.{ℕ, min}
use native.Mathlib.Omega.{arith}
use lib.Dec.{eqb}
use lib.ListN.{length, length-take, length-replicate}
use lib.Seq.{take_all}
use borrow.Author.Tests.{ltb-true, ltb-false, lt-ltb}
use Rattle.std.specs.Prelude.{Result, Ok, Err}
use Rattle.refusals.specs.declared.Refusal.{Refusal}
use Rattle.refusals.specs.Numbers.{Outcome}
use Rattle.refusals.specs.declared.Refusal.TheVariants.{Variables, RowCount, Text}
use Rattle.refusals.specs.Checks.{check, outcome, given}
use Rattle.words.proofs.Truth.{on}
use Rattle.words.specs.Sameness.{same}
use Rattle.lexer.specs.Bytes.{is_blank, is_tail, trimmed}
use Rattle.lexer.specs.Spelling.{bytes}
use Rattle.lexer.specs.Remarks.{without_remarks}
use Rattle.lexer.specs.Pieces.{Piece, lines_from, parts_from, tokens_from}
use Rattle.numbers.specs.Numbers.{Number, number, malformed, number_read}
use Rattle.dimensions.specs.Sizes.{most_variables, most_rows}
use Rattle.header.specs.Header.{past_remarks, beyond, judged_sizes, two_numbers, header_parts, headed, header_of}
use Rattle.clauses.specs.Clauses.{clauses, complete, clause_rows}
use Rattle.dimacs.specs.Text.{refused, accepted_table, from_header, table_of}
use Rattle.excerpts.specs.Excerpts.{overlong}
use Rattle.demand1.specs.Texts.{named_text, overlong_text, header_number, head_of, is_taken, read_judged, text_judged}

-- ---- a header meets 1, 2 or 5

pub data Fair : Result (ℕ × ℕ) Refusal → Type 0 where
  sized : (n m : ℕ) → Fair (Ok (n, m))
  of_variables : Fair (Err Variables)
  of_rows : Fair (Err RowCount)
  of_text : Fair (Err Text)

limits_fair : (a b : Bool) (n m : ℕ) → Fair (given (outcome (check a Variables ∷ check b RowCount ∷ [])) (Ok (n, m)) Err)
limits_fair true b n m = of_variables
limits_fair false true n m = of_rows
limits_fair false false n m = sized n m

judged_fair : (least : ℕ) (x y : Number) → Fair (judged_sizes least x y)
judged_fair least malformed y = of_text
judged_fair least (number s n) malformed = of_text
judged_fair least (number s n) (number t m) = limits_fair (beyond 1 most_variables s n) (beyond least most_rows t m) n m

numbers_fair : (least : ℕ) (ps : List Piece) → Fair (two_numbers least ps)
numbers_fair least [] = of_text
numbers_fair least (n ∷ []) = of_text
numbers_fair least (n ∷ (m ∷ [])) = judged_fair least (number_read n.bytes) (number_read m.bytes)
numbers_fair least (n ∷ (m ∷ (x ∷ xs))) = of_text

parts_fair : (least : ℕ) (ps : List Piece) → Fair (header_parts least ps)
parts_fair least [] = of_text
parts_fair least (p ∷ []) = of_text
parts_fair least (p ∷ (f ∷ ps)) = go (eqb p.at 0 && same p.bytes (bytes "p") && same f.bytes (bytes "cnf"))
  where
    go : (b : Bool) → Fair (cond b (two_numbers least ps) (Err Text))
    go true = numbers_fair least ps
    go false = of_text

headed_fair : (least : ℕ) (text : List ℕ) (ls : List Piece) → Fair (headed least text ls).sizes
headed_fair least text [] = of_text
headed_fair least text (l ∷ ls) = parts_fair least (parts_from is_blank (trimmed is_tail l.bytes) 0)

-- every text's header does
pub head_fair : (least : ℕ) (text : List ℕ) → Fair (head_of least text)
unfolding header_of
head_fair least text = headed_fair least (without_remarks text) (past_remarks (lines_from (without_remarks text) 0))

-- ---- the checks come to what reading gives

-- the header's checks and one more, by what reading gives
abbrev by_head : Result (ℕ × ℕ) Refusal → Outcome → Outcome
by_head z o = outcome (check (eqb (header_number z) 1) Variables ∷ check (eqb (header_number z) 2) RowCount ∷ check (not (is_taken o)) Text ∷ [])

head_decides : (z : Result (ℕ × ℕ) Refusal) → Fair z → (text : List ℕ) (end : ℕ) → by_head z (from_header text end z).outcome ≡ (from_header text end z).outcome
head_decides z of_variables text end = refl
head_decides z of_rows text end = refl
head_decides z of_text text end = refl
head_decides z (sized n m) text end = let reading = clauses n (tokens_from text end) in go (complete reading && eqb (length (clause_rows reading)) m)
  where
    go : (b : Bool) → let o = (cond b (accepted_table n (clause_rows (clauses n (tokens_from text end)))) (refused Text)).outcome in
        cond (not (is_taken o)) (Err Text) (Ok tt) ≡ o
    go true = refl
    go false = refl

module _ (least : ℕ) (text : List ℕ) where
  -- of a text that is not overlong
  pub read-exact : overlong text ≡ false → outcome (read_judged least text) ≡ (table_of least text).outcome
  unfolding table_of
  read-exact e = rw e (head_decides (head_of least text) (head_fair least text) (without_remarks text) (header_of least (without_remarks text)).end)

  -- of any
  pub text_exact : outcome (text_judged least text) ≡ (table_of least text).outcome
  unfolding table_of
  text_exact =
      on (overlong text)
      (λ e. rw e)
      (λ e. rw e (head_decides (head_of least text) (head_fair least text) (without_remarks text) (header_of least (without_remarks text)).end))

-- ---- the bytes that are looked at

named-length : (text : List ℕ) → length (named_text text) ≡ min 65537 (length text)
unfolding named_text
named-length text = length-take 65537 text

-- a text that is not overlong is named whole
pub text_whole : (text : List ℕ) → overlong text ≡ false → named_text text ≡ text
unfolding named_text
text_whole text e = take_all 65537 text (omega (arith, ltb-false 65536 (length text) e))

-- what is named of a text is overlong where the text is
pub text_named : (text : List ℕ) → overlong (named_text text) ≡ overlong text
text_named text =
    on (overlong text)
    (λ e. lt-ltb 65536 (length (named_text text)) (omega (arith, ltb-true 65536 (length text) e, named-length text)) ∙ sym e)
    (λ e. ap (λ (l : List ℕ). overlong l) (text_whole text e))

-- what is read of a text is read of the bytes named
pub table-named : (least : ℕ) (text : List ℕ) → table_of least text ≡ table_of least (named_text text)
unfolding table_of
table-named least text =
    on (overlong text)
    (λ e. rw (e, text_named text ∙ e))
    (λ e. ap (table_of least) (sym (text_whole text e)))

-- the example's text is overlong
pub overlong-true : overlong overlong_text ≡ true
unfolding overlong_text
overlong-true = lt-ltb 65536 (length overlong_text) (omega (arith, length-replicate {A = ℕ} 65537 10))
