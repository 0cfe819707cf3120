-- Demand 1 for three texts read into tables, and for the places and bytes of clauses: the checks of each text come to what reading it gives (`OneText`).
use mathlib.Core.Path.{◌≡◌, refl, sym, ap, ap₂, ◌∙◌}
use mathlib.Core.List.{List, [], ◌∷◌, ◌++◌, map}
use Prim.Native.Nat.{ℕ, ◌*◌}
use native.Mathlib.Omega.{arith}
use lib.ListN.{length, take, drop, take-append-drop, length-take}
use Rattle.refusals.specs.Numbers.{Outcome}
use Rattle.refusals.specs.declared.Refusal.TheVariants.{RowBuffer, TextsDiffer}
use Rattle.refusals.specs.Checks.{check, outcome, given}
use Rattle.words.specs.Sets.{put}
use Rattle.words.specs.Sameness.{same}
use Rattle.lexer.specs.Bytes.{run, trimmed}
use Rattle.lexer.specs.Remarks.{lines_of, kept, without_remarks}
use Rattle.lexer.specs.Pieces.{cut, not_empty, parts_from}
use Rattle.numbers.specs.Numbers.{digits_after, decimal_of, number_read}
use Rattle.header.specs.Header.{past_remarks, header_of}
use Rattle.clauses.specs.Clauses.{clauses}
use Rattle.tables.specs.Tables.{Tables}
use Rattle.dimacs.specs.Text.{TextTable, table_of}
use Rattle.host_texts.specs.Texts.{Texts, all_texts, texts_of, has_no_room, read_outcome, rows_given, text_sizes, tables_read, sizes_read}
use Rattle.demand1.specs.Calls.{beside}
use Rattle.demand1.specs.Demand1.{Demand1}
use Rattle.demand1.specs.Texts.{named_text, text_judged, named_lent, differ, all_words, read_tables}
use Rattle.demand1.proofs.Shapes.{by-held, outcome-then, demand, as_given}
use Rattle.demand1.proofs.Fronts.{front-short, sets-front, front_stays}
use Rattle.demand1.proofs.OneText.{text_exact, table-named, overlong-true}

-- ---- three texts

module _ (left right public : List ℕ) where
  abbrev read : Texts
  read = texts_of left right public

  texts-named : texts_of left right public ≡ texts_of (named_text left) (named_text right) (named_text public)
  texts-named =
      ap₂ (λ (l r : TextTable). all_texts l r (table_of 0 public)) (table-named 1 left) (table-named 1 right)
      ∙ ap (λ (p : TextTable). all_texts (table_of 1 (named_text left)) (table_of 1 (named_text right)) p) (table-named 0 public)

  read-checked : (lent : Tables) → read_outcome (texts_of left right public) lent
      ≡ outcome (text_judged 1 left ++ (text_judged 1 right ++ (text_judged 0 public
      ++ (check (has_no_room read (length lent.left) (length lent.right) (length lent.public)) RowBuffer ∷ check (differ read) TextsDiffer ∷ []))))
  read-checked lent =
      let last = check (has_no_room read (length lent.left) (length lent.right) (length lent.public)) RowBuffer ∷ check (differ read) TextsDiffer ∷ [] in
      sym (outcome-then (text_judged 1 left) (text_judged 1 right ++ (text_judged 0 public ++ last)) (table_of 1 left).outcome _ (text_exact 1 left)
      (outcome-then (text_judged 1 right) (text_judged 0 public ++ last) (table_of 1 right).outcome _ (text_exact 1 right)
      (outcome-then (text_judged 0 public) last (table_of 0 public).outcome (outcome last) (text_exact 0 public) refl)))

module _ (t : Texts) (lent : Tables) where
  room_cut : read_outcome t lent ≡ read_outcome t (named_lent t lent)
  room_cut =
      rw (← front-short (2 * t.left.rows) lent.left, ← front-short (2 * t.right.rows) lent.right, ← front-short (2 * t.public.rows) lent.public)

  -- a table's rows over the front of its words
  rows_cut : (o q : Outcome) (x : TextTable) (words : List ℕ) → o ≡ q
      → rows_given o x words ≡ rows_given q x (take (2 * x.rows) words) ++ drop (2 * x.rows) words
  rows_cut o q x words e =
      front_stays _ _ _ _ _ e
      (sets-front (take (2 * x.rows) x.words) (2 * x.rows) words (omega (arith, length-take (2 * x.rows) x.words)))
      (sym (take-append-drop (2 * x.rows) words))

  abbrev behind : List (List ℕ)
  behind = drop (2 * t.left.rows) lent.left ∷ drop (2 * t.right.rows) lent.right ∷ drop (2 * t.public.rows) lent.public ∷ []

  -- all that the call leaves
  abbrev left_read : Texts → Tables → List ℕ → List (List ℕ)
  left_read x l sizes = all_words (tables_read x l) ++ sizes_read x l sizes ∷ []

  read_written : (sizes : List ℕ) → left_read t lent sizes ≡ beside (left_read t (named_lent t lent) sizes) behind
  unfolding beside
  read_written sizes =
      ap₂ (λ (a : List ℕ) (l : List (List ℕ)). a ∷ l) (rows_cut (read_outcome t lent) (read_outcome t (named_lent t lent)) t.left lent.left room_cut)
      (ap₂ (λ (a : List ℕ) (l : List (List ℕ)). a ∷ l) (rows_cut (read_outcome t lent) (read_outcome t (named_lent t lent)) t.right lent.right room_cut)
      (ap₂ (λ (a s : List ℕ). a ∷ s ∷ []) (rows_cut (read_outcome t lent) (read_outcome t (named_lent t lent)) t.public lent.public room_cut)
      (ap (λ (o : Outcome). given o (text_sizes t) (λ q. sizes)) room_cut)))

  words-split : all_words lent ≡ beside (all_words (named_lent t lent)) behind
  unfolding beside
  words-split =
      ap₂ (λ (a : List ℕ) (l : List (List ℕ)). a ∷ l) (sym (take-append-drop (2 * t.left.rows) lent.left))
      (ap₂ (λ (a b : List ℕ). a ∷ b ∷ []) (sym (take-append-drop (2 * t.right.rows) lent.right))
      (sym (take-append-drop (2 * t.public.rows) lent.public)))

read-occurs : map (λ a. (read_tables.call a).returned) read_tables.examples ≡ 0 ∷ read_tables.numbers
unfolding table_of without_remarks lines_of kept header_of past_remarks parts_from cut not_empty run trimmed same clauses number_read decimal_of digits_after
    put
read-occurs = rw overlong-true

pub of_read-tables : Demand1 read_tables
unfolding beside
of_read-tables =
    demand read_tables (as_given read_tables (λ a. refl)) (record {
      judged = λ (left, right, public, lent, sizes).
          let t = texts_of left right public in
          by-held (read_tables.call (left, right, public, lent, sizes)).judged (all_words lent ++ sizes ∷ []) (read_outcome t lent)
          (λ o. rows_given o t.left lent.left ∷ rows_given o t.right lent.right ∷ rows_given o t.public lent.public
          ∷ given o (text_sizes t) (λ q. sizes) ∷ []) (read-checked left right public lent) (λ r. refl);
      order = λ a. refl;
      occurs = read-occurs;
      split = λ (left, right, public, lent, sizes). ap (λ (l : List (List ℕ)). l ++ sizes ∷ []) (words-split (texts_of left right public) lent);
      checked = λ (left, right, public, lent, sizes).
          let t = texts_of left right public in
          sym (read-checked left right public lent) ∙ room_cut t lent
          ∙ ap (λ (x : Texts). read_outcome x (named_lent t lent)) (texts-named left right public)
          ∙ read-checked (named_text left) (named_text right) (named_text public) (named_lent t lent);
      written = λ (left, right, public, lent, sizes) h.
          let t = texts_of left right public in
          read_written t lent sizes
          ∙ ap (λ (x : Texts). beside (left_read t lent x (named_lent t lent) sizes) (behind t lent)) (texts-named left right public);
    })
