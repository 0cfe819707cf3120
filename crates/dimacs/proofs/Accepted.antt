-- What holds of the tables that are read: an accepted text's n and row count are within their limits and no row has a bit at or above n, so refusals 1 to 4 do
-- not apply to it. By the clauses' literals, each of which is below n.
use mathlib.Core.Path.{◌≡◌, sym, ◌∙◌, subst}
use mathlib.Core.Bool.{Bool, true, false, not, ◌&&◌, ◌||◌}
use mathlib.Core.List.{List, ◌++◌}
use Prim.Native.Nat.{ℕ, zero, suc, ◌-◌, ◌*◌, ◌^◌, ◌≤◌, ◌<◌}
use native.Mathlib.Omega.{arith}
use lib.Dec.{eqb, ltb}
use lib.Pow.{pow_pos}
use lib.ListN.{length, get_or, replicate, length-append, length-replicate}
use borrow.Author.Tests.{eqb-true, not-false}
use Rattle.std.specs.Prelude.{Ok, Err}
use Rattle.words.proofs.Truth.{on, and_l, and_r, or_l, or_r}
use Rattle.lexer.specs.Remarks.{without_remarks}
use Rattle.lexer.specs.Pieces.{Piece, tokens_from}
use Rattle.refusals.specs.declared.Refusal.{Refusal}
use Rattle.refusals.specs.declared.Refusal.TheVariants as R
use Rattle.refusals.specs.Checks.{given}
use Rattle.refusals.proofs.Outcomes.{refused-taken, check_passed}
use Rattle.dimensions.specs.Sizes.{most_variables, most_rows}
use Rattle.header.specs.Header.{header_of}
use Rattle.header.proofs.Limits.{header_either}
use Rattle.clauses.specs.Rows.{words_of_rows}
use Rattle.clauses.specs.Clauses.{Reading, clause, ended, unreadable, clauses, clause_rows, complete}
use Rattle.clauses.proofs.Literals.{below, row_lt}
use Rattle.clauses.proofs.Reading.{is_below_all, clauses-below}
use Rattle.dimacs.specs.Text.{TextTable, refused, body_of, from_header, table_of}
use Rattle.dimacs.specs.ThreeTexts.{ThreeTables, shared_n, texts_outcome, text_tables}
use Rattle.dimacs.proofs.Fill.{words-length}
use Rattle.dimacs.proofs.ThreeTexts.{given-taken, outcome-is, by-outcome}

-- ---- every row is below 2 ^ n

rows-lt : (n : ℕ) (x : Reading) → is_below_all n x ≡ true → (zs : List ℕ) → ((i : ℕ) → get_or zs i 0 < 2 ^ n) → (i : ℕ)
    → get_or (words_of_rows (clause_rows x) ++ zs) i 0 < 2 ^ n
rows-lt n (clause ls from to rest) e zs h zero = row_lt n false ls (and_l (below n ls) (is_below_all n rest) e)
rows-lt n (clause ls from to rest) e zs h (suc zero) = row_lt n true ls (and_l (below n ls) (is_below_all n rest) e)
rows-lt n (clause ls from to rest) e zs h (suc (suc i)) = rows-lt n rest (and_r (below n ls) (is_below_all n rest) e) zs h i
rows-lt n ended e zs h i = h i
rows-lt n unreadable e zs h i = h i

zeros-lt : (n k i : ℕ) → get_or (replicate k 0) i 0 < 2 ^ n
zeros-lt n zero i = pow_pos n
zeros-lt n (suc k) zero = pow_pos n
zeros-lt n (suc k) (suc i) = zeros-lt n k i

-- ---- an accepted text

-- refusals 1 to 4 do not apply, and the words are 256
pub record Within (least n rows : ℕ) (words : List ℕ) : Type 0 where
  pub variables_low : 1 ≤ n
  pub variables_high : n ≤ most_variables
  pub rows-low : least ≤ rows
  pub rows-high : rows ≤ most_rows
  pub sized : length words ≡ 256
  pub no_high-bit : (i : ℕ) → get_or words i 0 < 2 ^ n

abbrev Fine : ℕ → TextTable → Type 0
Fine least t = t.outcome ≡ Ok tt → Within least t.n t.rows t.words

refused-fine : (least : ℕ) (r : Refusal) → Fine least (refused r)
refused-fine least r e = absurd (refused-taken e)

body-fine : (least n m : ℕ) (ts : List Piece) → (1 ≤ n) × (n ≤ most_variables) → (least ≤ m) × (m ≤ most_rows) → Fine least (body_of n m (clauses n ts))
body-fine least n m ts hn hm =
    on (complete (clauses n ts) && eqb (length (clause_rows (clauses n ts))) m)
    (λ c. let k : length (clause_rows (clauses n ts)) ≡ m = eqb-true _ m (and_r (complete (clauses n ts)) _ c) in
    rw c (λ e. record {
      variables_low = hn.0;
      variables_high = hn.1;
      rows-low = omega (arith, hm.0);
      rows-high = omega (arith, hm.1);
      sized = simp (length-append, length-replicate) (omega (arith, words-length (clause_rows (clauses n ts)), hm.1));
      no_high-bit = let z = 256 - 2 * length (clause_rows (clauses n ts)) in rows-lt n (clauses n ts) (clauses-below n ts) (replicate z 0) (zeros-lt n z);
    }))
    (λ c. rw c (refused-fine least R.Text))

header_fine : (least : ℕ) (text : List ℕ) (end : ℕ) → Fine least (from_header text end (header_of least text).sizes)
header_fine least text end =
    header_either least (λ x. Fine least (from_header text end x)) (refused-fine least R.Text) (refused-fine least R.Variables) (refused-fine least R.RowCount)
    (λ n m hn hm. body-fine least n m (tokens_from text end) hn hm) text

pub accepted_text : (least : ℕ) (text : List ℕ) → Fine least (table_of least text)
unfolding table_of
accepted_text least text =
    on (ltb 65536 (length text))
    (λ e. rw e (refused-fine least R.Text))
    (λ e. rw e (let plain = without_remarks text in header_fine least plain (header_of least plain).end))

-- ---- three accepted texts

module _ (l r p : TextTable) (taken : texts_outcome l r p ≡ Ok tt) where
  left-taken : (l.outcome ≡ Ok tt) × (given r.outcome (given p.outcome (shared_n l r p) Err) Err ≡ Ok tt)
  left-taken = given-taken l.outcome (given r.outcome (given p.outcome (shared_n l r p) Err) Err) taken

  right_taken : (r.outcome ≡ Ok tt) × (given p.outcome (shared_n l r p) Err ≡ Ok tt)
  right_taken = given-taken r.outcome (given p.outcome (shared_n l r p) Err) left-taken.1

  public_taken : (p.outcome ≡ Ok tt) × (shared_n l r p ≡ Ok tt)
  public_taken = given-taken p.outcome (shared_n l r p) right_taken.1

  -- they agree in n
  same-n : (l.n ≡ r.n) × (l.n ≡ p.n)
  same-n =
      let right : Bool = eqb l.n r.n in
      let public : Bool = eqb l.n p.n in
      let agree : not right || not public ≡ false = check_passed (not right || not public) R.TextsDiffer (Ok tt) public_taken.1 in (
        eqb-true l.n r.n (not-false right (or_l (not right) (not public) agree)),
        eqb-true l.n p.n (not-false public (or_r (not right) (not public) agree)),
      )

-- refusals 1 to 4 do not apply to the tables that are read
pub record AllWithin (t : ThreeTables) : Type 0 where
  pub left : Within 1 t.n t.left_rows t.left
  pub right : Within 1 t.n t.right_rows t.right
  pub public : Within 0 t.n t.public_rows t.public

-- where three texts are taken, the tables read from them have 256 words each, and refusals 1 to 4 do not apply to them
pub accepted-texts : (left right public : List ℕ) → (text_tables left right public).outcome ≡ Ok tt → AllWithin (text_tables left right public)
accepted-texts left right public taken =
    let l = table_of 1 left in
    let r = table_of 1 right in
    let p = table_of 0 public in
    let e = sym (outcome-is l r p) ∙ taken in
    let same = same-n l r p e in
    subst AllWithin (sym (by-outcome l r p (Ok tt) e))
    (record {
      left = accepted_text 1 left (left-taken l r p e).0;
      right = subst (λ (n : ℕ). Within 1 n r.rows r.words) (sym same.0) (accepted_text 1 right (right_taken l r p e).0);
      public = subst (λ (n : ℕ). Within 0 n p.rows p.words) (sym same.1) (accepted_text 0 public (public_taken l r p e).0);
    })
