-- What the laws of places and of both ways come to: each is used, so that one that said less would be refused here.
use mathlib.Core.Path.{◌≡◌, refl, sym, ap, ◌∙◌, subst}
use mathlib.Core.Bool.{true, false}
use mathlib.Core.List.{List}
use Prim.Native.Nat.{ℕ, ◌*◌, ◌≤◌}
use native.Mathlib.Omega.{arith}
use lib.ListN.{length, get_or, take, replicate}
use lib.Seq.{length-take-le}
use Rattle.std.specs.Prelude.{Ok}
use Rattle.refusals.specs.Checks.{outcome}
use Rattle.refusals.specs.declared.Refusal.TheVariants.{RowBit, PlaneBits}
use Rattle.words.specs.Sets.{bit}
use Rattle.words.proofs.Stores.{stored-take}
use Rattle.tables.specs.Acceptance.{all_below, high}
use Rattle.columns.specs.Planes.{square_count}
use Rattle.columns.specs.Columns.{column_checks, columns_after, stray, row_checks, rows_after}
use Rattle.columns.proofs.Buffers.{within, all-taken}
use Rattle.columns.proofs.Examples.{table}
use Rattle.columns.proofs.Places.{literal-place, missing_row, place-literal}
use Rattle.columns.proofs.Trips.{planes_taken, rows_back, table_taken, columns-back}

-- nothing of a table is lost: accepted tables with the same planes have the same rows
pub same_planes : (n rows : ℕ) (a b planes : List ℕ) → outcome (column_checks n rows a (length planes)) ≡ Ok tt
    → outcome (column_checks n rows b (length planes)) ≡ Ok tt → columns_after n rows a planes ≡ columns_after n rows b planes
    → take (2 * rows) a ≡ take (2 * rows) b
same_planes n rows a b planes ha hb e =
    sym (front a ha)
    ∙ ap (take (2 * rows)) (ap (λ (l : List ℕ). rows_after n rows l a) e
    ∙ rows_back n rows b planes a hb (long a ha))
    ∙ stored-take a (take (2 * rows) b) (subst (λ (k : ℕ). k ≤ length a) (sym (size b hb)) (long a ha)) (2 * rows) (size b hb)
  where
    long : (x : List ℕ) → outcome (column_checks n rows x (length planes)) ≡ Ok tt → 2 * rows ≤ length x
    long x h = (within n rows (length x) (length planes) (all-taken n rows (length x) (length planes) (high n rows x) RowBit h).0).row_words

    size : (x : List ℕ) → outcome (column_checks n rows x (length planes)) ≡ Ok tt → length (take (2 * rows) x) ≡ 2 * rows
    size x h = length-take-le (2 * rows) x (long x h)

    front : (x : List ℕ) (h : outcome (column_checks n rows x (length planes)) ≡ Ok tt)
        → take (2 * rows) (rows_after n rows (columns_after n rows x planes) x) ≡ take (2 * rows) x
    front x h = ap (take (2 * rows)) (rows_back n rows x planes x h (long x h))
        ∙ stored-take x (take (2 * rows) x) (subst (λ (k : ℕ). k ≤ length x) (sym (size x h)) (long x h)) (2 * rows) (size x h)

-- and nothing of planes: accepted ones with the same rows have the same squares
pub same_rows : (n rows : ℕ) (a b words : List ℕ) → outcome (row_checks n rows a (length words)) ≡ Ok tt
    → outcome (row_checks n rows b (length words)) ≡ Ok tt → rows_after n rows a words ≡ rows_after n rows b words
    → take (64 * square_count rows) a ≡ take (64 * square_count rows) b
same_rows n rows a b words ha hb e =
    sym (front a ha)
    ∙ ap (take (64 * square_count rows)) (ap (λ (l : List ℕ). columns_after n rows l a) e
    ∙ columns-back n rows b words a hb (long a ha))
    ∙ stored-take a (take (64 * square_count rows) b) (subst (λ (k : ℕ). k ≤ length a) (sym (size b hb)) (long a ha)) (64 * square_count rows) (size b hb)
  where
    long : (x : List ℕ) → outcome (row_checks n rows x (length words)) ≡ Ok tt → 64 * square_count rows ≤ length x
    long x h = (within n rows (length words) (length x) (all-taken n rows (length words) (length x) (stray n rows x) PlaneBits h).0).plane_words_lem

    size : (x : List ℕ) → outcome (row_checks n rows x (length words)) ≡ Ok tt → length (take (64 * square_count rows) x) ≡ 64 * square_count rows
    size x h = length-take-le (64 * square_count rows) x (long x h)

    front : (x : List ℕ) (h : outcome (row_checks n rows x (length words)) ≡ Ok tt)
        → take (64 * square_count rows) (columns_after n rows (rows_after n rows x words) x) ≡ take (64 * square_count rows) x
    front x h = ap (take (64 * square_count rows)) (columns-back n rows x words x h (long x h))
        ∙ stored-take x (take (64 * square_count rows) x) (subst (λ (k : ℕ). k ≤ length x) (sym (size x h)) (long x h)) (64 * square_count rows) (size x h)

-- ---- the table of 33 rows, with buffers longer than it needs

lent : List ℕ
lent = replicate 130 7

others : List ℕ
others = replicate 68 9

accepted : outcome (column_checks 2 33 table (length lent)) ≡ Ok tt
unfolding table lent all_below
accepted = refl

-- (-1) in row 33 is the lowest bit of the first word of the second square's negative plane
row_33 : bit (get_or (columns_after 2 33 table lent) 96 0) 0 ≡ true
unfolding table bit
row_33 = literal-place 2 33 table lent accepted 32 1 0 (omega arith) (omega arith) (omega arith)

-- no row 34, in which variable 2 could be positive
row_34 : bit (get_or (columns_after 2 33 table lent) 65 0) 1 ≡ false
row_34 = missing_row 2 33 table lent accepted 33 0 1 (omega arith) (omega arith) (omega arith) (omega arith)

-- read back into longer words, whose others stay
back-taken : outcome (row_checks 2 33 (columns_after 2 33 table lent) (length others)) ≡ Ok tt
unfolding others
back-taken = planes_taken 2 33 table lent others accepted (omega arith)

row_33_back : bit (get_or (rows_after 2 33 (columns_after 2 33 table lent) others) 65 0) 0 ≡ true
row_33_back = place-literal 2 33 (columns_after 2 33 table lent) others back-taken 32 1 0 (omega arith) (omega arith) (omega arith) ∙ row_33

others_stay : get_or (rows_after 2 33 (columns_after 2 33 table lent) others) 66 0 ≡ 9
unfolding table others
others_stay = ap (λ (l : List ℕ). get_or l 66 0) (rows_back 2 33 table lent others accepted (omega arith))

-- and once more to planes
again_taken : outcome (column_checks 2 33 (rows_after 2 33 (columns_after 2 33 table lent) others) (length lent)) ≡ Ok tt
unfolding lent
again_taken = table_taken 2 33 (columns_after 2 33 table lent) others lent back-taken (omega arith)
