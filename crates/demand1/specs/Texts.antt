-- The functions that read texts: three texts to tables, the budget line, a proof, a game, and the places of clauses.
-- Read: the first entry.
use Rattle.refusals.specs.declared.Refusal.{Refusal}
use Rattle.std.specs.Prelude.{
  ℕ,
  ◌*◌,
  Bool,
  true,
  false,
  not,
  ◌||◌,
  List,
  [],
  ◌∷◌,
  ◌++◌,
  map,
  eqb,
  ltb,
  length,
  take,
  drop,
  replicate,
  Result,
  Ok,
  Err,
}
use Rattle.refusals.specs.declared.Refusal.TheVariants.{Variables, RowCount, RowBuffer, Text, TextsDiffer, NoClause, LineBuffer}
use Rattle.refusals.specs.Checks.{Check, check, given}
use Rattle.refusals.specs.Numbers.{Outcome, number_of, code_of}
use Rattle.dimensions.specs.declared.Dimensions.{Dimensions}
use Rattle.tables.specs.Tables.{Tables, all_tables}
use Rattle.tables.specs.Acceptance.{table_checks}
use Rattle.lexer.specs.Spelling.{bytes}
use Rattle.lexer.specs.Remarks.{without_remarks}
use Rattle.header.specs.Header.{header_of}
use Rattle.dimacs.specs.Text.{table_of}
use Rattle.excerpts.specs.Excerpts.{overlong, has_clause, placed, placed_code, placed_numbers, clause_bytes}
use Rattle.lent.specs.Lent.{numbers_or}
use Rattle.host_texts.specs.Texts.{Texts, texts_of, has_no_room, read_outcome, tables_read, sizes_read}
use Rattle.host_excerpts.specs.Parts.{part_after, length_after, excerpt_in}
use Rattle.demand1.specs.Demand1.{Entry}
use Rattle.demand1.specs.Named.{as_bytes, named_tables}
use Rattle.demand1.specs.Examples.{two, rows, bad_tables, array}

-- ---- one text

-- the bytes that are looked at: one more than the longest text has
unfoldable pub named_text : List ℕ → List ℕ
named_text text = take 65537 text

-- the number that a header meets; 0 where it is taken
abbrev pub header_number : Result (ℕ × ℕ) Refusal → ℕ
header_number (Ok (n, m)) = 0
header_number (Err r) = number_of r

-- a text's header
abbrev pub head_of : ℕ → List ℕ → Result (ℕ × ℕ) Refusal
head_of least text = (header_of least (without_remarks text)).sizes

-- the call is taken
abbrev pub is_taken : Outcome → Bool
is_taken o = given o true (λ r. false)

-- the header's 1 and 2; 5 where the text is not read for another cause
abbrev pub read_judged : ℕ → List ℕ → List Check
read_judged least text =
    check (eqb (header_number (head_of least text)) 1) Variables
    ∷ check (eqb (header_number (head_of least text)) 2) RowCount
    ∷ check (not (is_taken (table_of least text).outcome)) Text
    ∷ []

-- "an overlong text is 5 before all else"
abbrev pub text_judged : ℕ → List ℕ → List Check
text_judged least text = check (overlong text) Text ∷ read_judged least text

-- an overlong text, a header with n of 33, one without rows, a clause missing: 5, 1, 2, 5
unfoldable pub overlong_text : List ℕ
overlong_text = replicate 65537 10

abbrev pub bad_texts : List (List ℕ)
bad_texts = overlong_text ∷ bytes "p cnf 33 1\n1 0\n" ∷ bytes "p cnf 2 129\n" ∷ bytes "p cnf 2 1\n1\n" ∷ []

-- a text of two variables and one row
abbrev pub good_text : List ℕ
good_text = bytes "p cnf 2 1\n1 2 0\n"

-- ---- three texts to tables

-- the rows that texts have, in the words lent for them
abbrev pub named_lent : Texts → Tables → Tables
named_lent t lent =
    all_tables (take (2 * t.left.rows) lent.left) (take (2 * t.right.rows) lent.right) (take (2 * t.public.rows) lent.public)

-- 6
abbrev pub differ : Texts → Bool
differ t = not (eqb t.left.n t.right.n) || not (eqb t.left.n t.public.n)

-- the words of the three tables
abbrev pub all_words : Tables → List (List ℕ)
all_words tables = tables.left ∷ tables.right ∷ tables.public ∷ []

-- forkhemit_read_tables: the texts, the lent tables, the sizes
abbrev pub read_tables : Entry (List ℕ × List ℕ × List ℕ × Tables × List ℕ)
read_tables = record {
  call = λ (left, right, public, lent, sizes).
      let t = texts_of left right public in
      record {
        returned = code_of (read_outcome t lent);
        judged =
            text_judged 1 left ++ (text_judged 1 right ++ (text_judged 0 public
            ++ (check (has_no_room t (length lent.left) (length lent.right) (length lent.public)) RowBuffer
            ∷ check (differ t) TextsDiffer ∷ [])));
        lent = all_words lent ++ sizes ∷ [];
        left = all_words (tables_read t lent) ++ sizes_read t lent sizes ∷ [];
      };
  in_bytes = λ a. a;
  numbers = 5 ∷ 1 ∷ 2 ∷ 5 ∷ 5 ∷ 1 ∷ 2 ∷ 5 ∷ 5 ∷ 1 ∷ 2 ∷ 5 ∷ 4 ∷ 6 ∷ [];
  named = λ (left, right, public, lent, sizes).
      (named_text left, named_text right, named_text public, named_lent (texts_of left right public) lent, sizes);
  past = λ (left, right, public, lent, sizes).
      let t = texts_of left right public in
      drop (2 * t.left.rows) lent.left ∷ drop (2 * t.right.rows) lent.right ∷ drop (2 * t.public.rows) lent.public ∷ [];
  examples =
      let lent = all_tables (array 2) (array 2) (array 2) in
      (good_text, good_text, good_text, lent, array 4)
      ∷ map (λ text. (text, good_text, good_text, lent, array 4)) bad_texts
      ++ (map (λ text. (good_text, text, good_text, lent, array 4)) bad_texts
      ++ (map (λ text. (good_text, good_text, text, lent, array 4)) bad_texts
      ++ (good_text, good_text, good_text, all_tables (array 1) (array 2) (array 2), array 4)
      ∷ (good_text, good_text, bytes "p cnf 3 0\n", lent, array 4) ∷ []));
}

-- ---- the place of a clause

-- 5 for an overlong text, the tables' 1, 2, 4, 3, each text's 1, 2 and 5, 6, 17
abbrev pub clause_judged : Dimensions → Tables → List ℕ → List ℕ → ℕ → List Check
clause_judged d tables text_of_left text_of_right row =
    let l = table_of 1 text_of_left in
    let r = table_of 1 text_of_right in
    check (overlong text_of_left || overlong text_of_right) Text
    ∷ (table_checks d tables ++ (read_judged 1 text_of_left ++ (read_judged 1 text_of_right
    ++ (check (not (eqb l.n r.n)) TextsDiffer ∷ check (not (has_clause d l r row)) NoClause ∷ []))))

-- tables, texts and a row's number
abbrev pub ClauseAsked : Type 0
ClauseAsked = Dimensions × Tables × List ℕ × List ℕ × ℕ

abbrev pub clause_in_bytes : ClauseAsked → ClauseAsked
clause_in_bytes (d, tables, text_of_left, text_of_right, row) = (as_bytes d, tables, text_of_left, text_of_right, row)

abbrev pub named_clause : ClauseAsked → ClauseAsked
named_clause (d, tables, text_of_left, text_of_right, row) =
    (d, named_tables d tables, named_text text_of_left, named_text text_of_right, row)

-- a taken one, and one for each of 5, 1, 2, 4, 3, 1, 2, 5, 1, 2, 5, 6, 17
abbrev pub good_clause : ClauseAsked
good_clause = (two, rows, good_text, good_text, 1)

abbrev pub bad_clauses : List ClauseAsked
bad_clauses =
    (two, rows, overlong_text, good_text, 1) ∷ map (λ (d, tables). (d, tables, good_text, good_text, 1)) bad_tables
    ++ (map (λ text. (two, rows, text, good_text, 1)) (drop 1 bad_texts)
    ++ (map (λ text. (two, rows, good_text, text, 1)) (drop 1 bad_texts)
    ++ (two, rows, good_text, bytes "p cnf 3 1\n1 0\n", 1) ∷ (two, rows, good_text, good_text, 3) ∷ []))

-- forkhemit_clause
abbrev pub place_clause : Entry (ClauseAsked × List ℕ)
place_clause = record {
  call = λ ((d, tables, text_of_left, text_of_right, row), place).
      let p = placed d tables text_of_left text_of_right row in
      record {
        returned = placed_code p;
        judged = clause_judged d tables text_of_left text_of_right row;
        lent = place ∷ [];
        left = numbers_or (placed_numbers p) place ∷ [];
      };
  in_bytes = λ (c, place). (clause_in_bytes c, place);
  numbers = 5 ∷ 1 ∷ 2 ∷ 4 ∷ 3 ∷ 1 ∷ 2 ∷ 5 ∷ 1 ∷ 2 ∷ 5 ∷ 6 ∷ 17 ∷ [];
  named = λ (c, place). (named_clause c, place);
  past = λ a. [];
  examples = (good_clause, array 3) ∷ map (λ c. (c, array 3)) bad_clauses;
}

-- forkhemit_excerpt: the clause's own bytes
abbrev pub excerpt : Entry (ClauseAsked × List ℕ × List ℕ)
excerpt = record {
  call = λ ((d, tables, text_of_left, text_of_right, row), bytes, number).
      let part = clause_bytes d tables text_of_left text_of_right row in
      let o = excerpt_in d tables text_of_left text_of_right row bytes in
      record {
        returned = code_of o;
        judged = clause_judged d tables text_of_left text_of_right row ++ check (ltb (length bytes) (length part)) LineBuffer ∷ [];
        lent = bytes ∷ number ∷ [];
        left = part_after o part bytes ∷ length_after o part number ∷ [];
      };
  in_bytes = λ (c, bytes, number). (clause_in_bytes c, bytes, number);
  numbers = 5 ∷ 1 ∷ 2 ∷ 4 ∷ 3 ∷ 1 ∷ 2 ∷ 5 ∷ 1 ∷ 2 ∷ 5 ∷ 6 ∷ 17 ∷ 11 ∷ [];
  named = λ ((d, tables, text_of_left, text_of_right, row), bytes, number). (
    named_clause (d, tables, text_of_left, text_of_right, row),
    take (length (clause_bytes d tables text_of_left text_of_right row))
        bytes,
    number,
  );
  past = λ ((d, tables, text_of_left, text_of_right, row), bytes, number).
      drop (length (clause_bytes d tables text_of_left text_of_right row)) bytes ∷ [];
  examples = (good_clause, array 9, array 1) ∷ map (λ c. (c, array 9, array 1)) bad_clauses ++ (good_clause, array 1, array 1) ∷ [];
}
