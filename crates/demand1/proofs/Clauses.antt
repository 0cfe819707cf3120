-- Demand 1 for the place and the bytes of a clause: texts that are taken are named whole, and a row that is asked for is one of the rows.
use mathlib.Core.Path.{◌≡◌, refl, sym, ap, ap₂, ◌∙◌}
use mathlib.Core.Bool.{Bool, true, false, not, ◌||◌, cond}
use mathlib.Core.List.{List, [], ◌∷◌, ◌++◌, map}
use Prim.Native.Nat.{ℕ, ◌-◌, ◌*◌}
use native.Mathlib.Omega.{arith}
use lib.Dec.{eqb, ltb, leb}
use lib.ListN.{length, take, drop, take-append-drop}
use borrow.Author.Tests.{leb-true, leb-false}
use Rattle.std.specs.Prelude.{Result, Ok, Err}
use Rattle.refusals.specs.declared.Refusal.{Refusal}
use Rattle.excerpts.specs.declared.Place.{Place}
use Rattle.refusals.specs.Numbers.{Outcome}
use Rattle.refusals.specs.declared.Refusal.TheVariants.{Text, TextsDiffer, NoClause, LineBuffer}
use Rattle.refusals.specs.Checks.{Check, check, outcome, given}
use Rattle.refusals.proofs.Outcomes.{check_passed, checks-taken}
use Rattle.words.proofs.Truth.{on, or_l, or_r}
use Rattle.words.specs.Sets.{put}
use Rattle.words.specs.Sameness.{same}
use Rattle.lexer.specs.Bytes.{run, trimmed}
use Rattle.lexer.specs.Remarks.{lines_of, kept, without_remarks}
use Rattle.lexer.specs.Pieces.{cut, not_empty, parts_from}
use Rattle.lexer.specs.Blanks.{blanked, tokens_past}
use Rattle.numbers.specs.Numbers.{digits_after, decimal_of, number_read}
use Rattle.header.specs.Header.{past_remarks, header_of}
use Rattle.clauses.specs.Clauses.{clauses}
use Rattle.dimensions.specs.declared.Dimensions.{Dimensions}
use Rattle.dimensions.specs.Sizes.{size_checks}
use Rattle.tables.specs.Tables.{Tables}
use Rattle.tables.specs.Acceptance.{all_below, table_checks}
use Rattle.words.specs.declared.Row.{Row}
use Rattle.dimacs.specs.Text.{TextTable, table_of}
use Rattle.excerpts.specs.Excerpts.{outcome_checks, has_clause, text_checks, overlong, excerpt_checks, skip, clause_of, place_in, clause_place}
use Rattle.excerpts.specs.Excerpts.{placed, placed_code, placed_numbers, bytes_at, clause_bytes}
use Rattle.excerpts.proofs.Checks.{asked}
use Rattle.codes.proofs.AsBytes.{sizes-alike, sizes-same}
use Rattle.lent.specs.Lent.{front, numbers_or}
use Rattle.host_excerpts.specs.Parts.{room_checks, part_after, length_after, excerpt_in}
use Rattle.demand1.specs.Calls.{beside}
use Rattle.demand1.specs.Demand1.{Demand1}
use Rattle.demand1.specs.Named.{named_tables}
use Rattle.demand1.specs.Texts.{named_text, read_judged}
use Rattle.demand1.specs.Texts.{clause_judged, ClauseAsked, clause_in_bytes, place_clause, excerpt}
use Rattle.demand1.proofs.Shapes.{by-outcome, by-held, rejudged, given-same, outcome_append, outcome-then, demand, leading}
use Rattle.demand1.proofs.Fronts.{front-short, front-row, sets-front, front_stays, named-short, named-high}
use Rattle.demand1.proofs.OneText.{read-exact, text_whole, text_named, table-named, overlong-true}

-- ---- the checks

-- what reading a text is refused with
outcome-checks : (t : TextTable) → outcome (outcome_checks t) ≡ t.outcome
outcome-checks t = go t.outcome
  where
    go : (o : Outcome) → outcome (given o [] (λ r. check true r ∷ [])) ≡ o
    go (Ok _) = refl
    go (Err r) = refl

module _ (d : Dimensions) (tables : Tables) (text_of_left text_of_right : List ℕ) (row : ℕ) where
  abbrev last : List Check
  last =
      check (not (eqb (table_of 1 text_of_left).n (table_of 1 text_of_right).n)) TextsDiffer
      ∷ check (not (has_clause d (table_of 1 text_of_left) (table_of 1 text_of_right) row)) NoClause ∷ []

  texts-exact : overlong text_of_left || overlong text_of_right ≡ false
      → outcome (text_checks d (table_of 1 text_of_left) (table_of 1 text_of_right) row)
      ≡ outcome (read_judged 1 text_of_left ++ (read_judged 1 text_of_right ++ last))
  texts-exact e =
      let l = table_of 1 text_of_left in
      let r = table_of 1 text_of_right in
      outcome-then (outcome_checks l) (outcome_checks r ++ last) l.outcome _ (outcome-checks l)
      (outcome-then (outcome_checks r) last r.outcome (outcome last) (outcome-checks r) refl)
      ∙ sym (outcome-then (read_judged 1 text_of_left) (read_judged 1 text_of_right ++ last) l.outcome _
      (read-exact 1 text_of_left (or_l (overlong text_of_left) (overlong text_of_right) e))
      (outcome-then (read_judged 1 text_of_right) last r.outcome (outcome last)
      (read-exact 1 text_of_right (or_r (overlong text_of_left) (overlong text_of_right) e)) refl))

  -- the definition's checks come to those in the documents' order
  clause_exact : outcome (excerpt_checks d tables text_of_left text_of_right row) ≡ outcome (clause_judged d tables text_of_left text_of_right row)
  clause_exact =
      on (overlong text_of_left || overlong text_of_right)
      (λ e. rw e)
      (λ e. ap (λ (o : Outcome). cond (overlong text_of_left || overlong text_of_right) (Err Text) o)
      (outcome-then (table_checks d tables) (text_checks d (table_of 1 text_of_left) (table_of 1 text_of_right) row) (outcome (table_checks d tables)) _ refl
      (texts-exact e)
      ∙ sym (outcome_append (table_checks d tables) (read_judged 1 text_of_left ++ (read_judged 1 text_of_right ++ last)))))

  -- and the words named are judged as all are
  excerpt-checked : excerpt_checks d tables text_of_left text_of_right row
      ≡ excerpt_checks d (named_tables d tables) (named_text text_of_left) (named_text text_of_right) row
  excerpt-checked =
      rw (
        ← named-short d tables,
        ← named-high d tables,
        ← text_named text_of_left,
        ← text_named text_of_right,
        table-named 1 text_of_left,
        table-named 1
            text_of_right,
      )

  -- ---- the place

  module _ (h : outcome (excerpt_checks d tables text_of_left text_of_right row) ≡ Ok tt) where
    texts_fit : overlong text_of_left || overlong text_of_right ≡ false
    texts_fit = check_passed (overlong text_of_left || overlong text_of_right) Text _ h

    left-whole : named_text text_of_left ≡ text_of_left
    left-whole = text_whole text_of_left (or_l (overlong text_of_left) (overlong text_of_right) texts_fit)

    right_whole : named_text text_of_right ≡ text_of_right
    right_whole = text_whole text_of_right (or_r (overlong text_of_left) (overlong text_of_right) texts_fit)

    place-cut : clause_place d tables text_of_left text_of_right row
        ≡ clause_place d (named_tables d tables) (named_text text_of_left) (named_text text_of_right) row
    unfolding clause_place
    place-cut =
        let a = asked d tables text_of_left text_of_right row h in
        on (leb row d.left)
        (λ e. let k = leb-true row d.left e in
        rw e (ap₂ (λ (x : Row) (text : List ℕ). place_in 0 (clause_of text (row - 1)) x)
        (sym (front-row tables.left (2 * d.left) (row - 1) (omega (arith, a.least)))) (sym left-whole)))
        (λ e. let k = leb-false row d.left e in
        rw e (ap₂ (λ (x : Row) (text : List ℕ). place_in 1 (clause_of text (row - d.left - 1)) x)
        (sym (front-row tables.right (2 * d.right) (row - d.left - 1) (omega (arith, a.most)))) (sym right_whole)))

    bytes_cut : bytes_at text_of_left text_of_right (clause_place d tables text_of_left text_of_right row)
        ≡ bytes_at (named_text text_of_left) (named_text text_of_right)
        (clause_place d (named_tables d tables) (named_text text_of_left) (named_text text_of_right) row)
    bytes_cut =
        ap (bytes_at text_of_left text_of_right) place-cut
        ∙ ap₂ (λ (l r : List ℕ). bytes_at l r (clause_place d (named_tables d tables) (named_text text_of_left) (named_text text_of_right) row))
        (sym left-whole) (sym right_whole)

  placed-cut : placed d tables text_of_left text_of_right row ≡ placed d (named_tables d tables) (named_text text_of_left) (named_text text_of_right) row
  unfolding placed
  placed-cut =
      given-same (outcome (excerpt_checks d tables text_of_left text_of_right row)) _ _ _ Err (ap outcome excerpt-checked)
      (λ h. ap Ok (place-cut h))

  part_cut : clause_bytes d tables text_of_left text_of_right row
      ≡ clause_bytes d (named_tables d tables) (named_text text_of_left) (named_text text_of_right) row
  unfolding clause_bytes
  part_cut =
      given-same (outcome (excerpt_checks d tables text_of_left text_of_right row)) _ _ _ (λ r. []) (ap outcome excerpt-checked)
      (λ h. bytes_cut h)

-- ---- a host's numbers: only overlong texts come before them

abbrev first : ClauseAsked → List Check
first (d, tables, text_of_left, text_of_right, row) = check (overlong text_of_left || overlong text_of_right) Text ∷ size_checks d

first_alike : (c : ClauseAsked) → outcome (first (clause_in_bytes c)) ≡ outcome (first c)
first_alike (d, tables, text_of_left, text_of_right, row) =
    ap (λ (o : Outcome). cond (overlong text_of_left || overlong text_of_right) (Err Text) o) (sizes-alike d.n d.left d.right d.public)

first-same : (c : ClauseAsked) → outcome (first c) ≡ Ok tt → clause_in_bytes c ≡ c
first-same (d, tables, text_of_left, text_of_right, row) h =
    let sized = checks-taken (overlong text_of_left || overlong text_of_right) Text (outcome (size_checks d)) h in
    λ i. (sizes-same d.n d.left d.right d.public sized i, tables, text_of_left, text_of_right, row)

-- ---- the place

clause_occurs : map (λ a. (place_clause.call a).returned) place_clause.examples ≡ 0 ∷ place_clause.numbers
unfolding placed table_of without_remarks lines_of kept header_of past_remarks parts_from cut not_empty run trimmed same clauses number_read decimal_of
    digits_after put
    all_below
clause_occurs = rw overlong-true

pub of_clause : Demand1 place_clause
unfolding placed beside
of_clause =
    demand place_clause (leading place_clause (λ (c, place). first c) (λ a. drop 3 (place_clause.call a).judged)
    (λ (c, place). first_alike c) (λ (c, place) h i. (first-same c h i, place)) (λ a. refl) (λ a. refl)) (record {
      judged = λ ((d, tables, text_of_left, text_of_right, row), place).
          let p : Outcome → Result Place Refusal = λ o. given o (Ok (clause_place d tables text_of_left text_of_right row)) Err in
          rejudged (clause_judged d tables text_of_left text_of_right row) (clause_exact d tables text_of_left text_of_right row)
          (by-outcome (excerpt_checks d tables text_of_left text_of_right row) (place ∷ []) (λ o. placed_code (p o))
          (λ o. numbers_or (placed_numbers (p o)) place ∷ [])
          refl (λ r. refl) (λ r. refl));
      order = λ a. refl;
      occurs = clause_occurs;
      split = λ a. refl;
      checked = λ ((d, tables, text_of_left, text_of_right, row), place).
          sym (clause_exact d tables text_of_left text_of_right row) ∙ ap outcome (excerpt-checked d tables text_of_left text_of_right row)
          ∙ clause_exact d (named_tables d tables) (named_text text_of_left) (named_text text_of_right) row;
      written = λ ((d, tables, text_of_left, text_of_right, row), place) h.
          ap (λ (p : Result Place Refusal). numbers_or (placed_numbers p) place ∷ []) (placed-cut d tables text_of_left text_of_right row);
    })

-- ---- the bytes

module _ (d : Dimensions) (tables : Tables) (text_of_left text_of_right : List ℕ) (row : ℕ) (bytes : List ℕ) where
  abbrev part : List ℕ
  part = clause_bytes d tables text_of_left text_of_right row

  excerpt-exact : excerpt_in d tables text_of_left text_of_right row bytes
      ≡ outcome (clause_judged d tables text_of_left text_of_right row ++ check (ltb (length bytes) (length part)) LineBuffer ∷ [])
  excerpt-exact =
      outcome_append (excerpt_checks d tables text_of_left text_of_right row) (room_checks part bytes)
      ∙ ap (λ (o : Outcome). given o (outcome (room_checks part bytes)) Err) (clause_exact d tables text_of_left text_of_right row)
      ∙ sym (outcome_append (clause_judged d tables text_of_left text_of_right row) (room_checks part bytes))

  abbrev cut_bytes : List ℕ
  cut_bytes = take (length part) bytes

  excerpt-cut : excerpt_in d tables text_of_left text_of_right row bytes
      ≡ excerpt_in d (named_tables d tables) (named_text text_of_left) (named_text text_of_right) row cut_bytes
  excerpt-cut =
      ap (λ (b : Bool). outcome (excerpt_checks d tables text_of_left text_of_right row ++ check b LineBuffer ∷ [])) (sym (front-short (length part) bytes))
      ∙ ap₂ (λ (cs : List Check) (p : List ℕ). outcome (cs ++ room_checks p cut_bytes)) (excerpt-checked d tables text_of_left text_of_right row)
      (part_cut d tables text_of_left text_of_right row)

  bytes-kept : part_after (excerpt_in d tables text_of_left text_of_right row bytes) part bytes
      ≡ part_after (excerpt_in d (named_tables d tables) (named_text text_of_left) (named_text text_of_right) row cut_bytes)
      (clause_bytes d (named_tables d tables) (named_text text_of_left) (named_text text_of_right) row) cut_bytes ++ drop (length part) bytes
  bytes-kept =
      front_stays _ _ _ _ _ excerpt-cut
      (sets-front part (length part) bytes (omega arith)
      ∙ ap (λ (p : List ℕ). front p cut_bytes ++ drop (length part) bytes) (part_cut d tables text_of_left text_of_right row))
      (sym (take-append-drop (length part) bytes))

excerpt-occurs : map (λ a. (excerpt.call a).returned) excerpt.examples ≡ 0 ∷ excerpt.numbers
unfolding clause_bytes clause_place clause_of skip tokens_past blanked table_of without_remarks lines_of kept header_of past_remarks parts_from cut not_empty
    run trimmed
    same clauses number_read decimal_of digits_after put all_below
excerpt-occurs = rw overlong-true

pub of_excerpt : Demand1 excerpt
unfolding beside
of_excerpt =
    demand excerpt (leading excerpt (λ (c, bytes, number). first c) (λ a. drop 3 (excerpt.call a).judged)
    (λ (c, bytes, number). first_alike c) (λ (c, bytes, number) h i. (first-same c h i, bytes, number)) (λ a. refl) (λ a. refl)) (record {
      judged = λ ((d, tables, text_of_left, text_of_right, row), bytes, number).
          by-held (excerpt.call ((d, tables, text_of_left, text_of_right, row), bytes, number)).judged (bytes ∷ number ∷ [])
          (excerpt_in d tables text_of_left text_of_right row bytes)
          (λ o. part_after o (clause_bytes d tables text_of_left text_of_right row) bytes
          ∷ length_after o (clause_bytes d tables text_of_left text_of_right row) number ∷ [])
          (excerpt-exact d tables text_of_left text_of_right row bytes) (λ r. refl);
      order = λ a. refl;
      occurs = excerpt-occurs;
      split = λ ((d, tables, text_of_left, text_of_right, row), bytes, number).
          ap (λ (l : List ℕ). l ∷ number ∷ []) (sym (take-append-drop (length (clause_bytes d tables text_of_left text_of_right row)) bytes));
      checked = λ ((d, tables, text_of_left, text_of_right, row), bytes, number).
          sym (excerpt-exact d tables text_of_left text_of_right row bytes) ∙ excerpt-cut d tables text_of_left text_of_right row bytes
          ∙ excerpt-exact d (named_tables d tables) (named_text text_of_left) (named_text text_of_right) row
          (take (length (clause_bytes d tables text_of_left text_of_right row)) bytes);
      written = λ ((d, tables, text_of_left, text_of_right, row), bytes, number) h.
          ap₂ (λ (l m : List ℕ). l ∷ m ∷ []) (bytes-kept d tables text_of_left text_of_right row bytes)
          (ap₂ (λ (o : Outcome) (p : List ℕ). length_after o p number) (excerpt-cut d tables text_of_left text_of_right row bytes)
          (part_cut d tables text_of_left text_of_right row));
    })
