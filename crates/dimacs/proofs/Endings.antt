-- Every text ends in exactly one of accepted, 1, 2 and 5, and any three texts in one of these and 6. By the cases of the definitions.
use mathlib.Core.Path.{◌≡◌, refl, sym, ap, ◌∙◌}
use mathlib.Core.Bool.{Bool, true, false, not, ◌&&◌, ◌||◌, cond}
use mathlib.Core.List.{List}
use Prim.Native.Nat.{ℕ, ◌+◌}
use native.Mathlib.Nat.{add-zero}
use native.Mathlib.Omega.{arith}
use lib.Dec.{eqb, ltb}
use lib.ListN.{length}
use borrow.Author.Tests.{eqb-true}
use Rattle.std.specs.Prelude.{Ok, Err}
use Rattle.words.specs.Booleans.{digit}
use Rattle.words.proofs.Truth.{on}
use Rattle.lexer.specs.Remarks.{without_remarks}
use Rattle.lexer.specs.Pieces.{tokens_from}
use Rattle.refusals.specs.Numbers.{Outcome, number_of, code_of}
use Rattle.refusals.specs.Checks.{given}
use Rattle.refusals.specs.declared.Refusal.TheVariants.{TextsDiffer}
use Rattle.header.specs.Header.{header_of}
use Rattle.header.proofs.Limits.{header_either}
use Rattle.clauses.specs.Clauses.{Reading, clauses, clause_rows, complete}
use Rattle.dimacs.specs.Text.{TextTable, body_of, from_header, table_of}
use Rattle.dimacs.specs.ThreeTexts.{texts_outcome, text_tables}
use Rattle.dimacs.proofs.ThreeTexts.{outcome-is}

-- how many of 0, 1, 2 and 5 a number is
abbrev pub one_of : ℕ → ℕ
one_of k = digit (eqb k 0) + digit (eqb k 1) + digit (eqb k 2) + digit (eqb k 5)

body-ending : (n m : ℕ) (x : Reading) → one_of (code_of (body_of n m x).outcome) ≡ 1
body-ending n m x = on (complete x && eqb (length (clause_rows x)) m) (λ c. rw c) (λ c. rw c)

header_ending : (least : ℕ) (text : List ℕ) (end : ℕ) → one_of (code_of (from_header text end (header_of least text).sizes).outcome) ≡ 1
header_ending least text end =
    header_either least (λ x. one_of (code_of (from_header text end x).outcome) ≡ 1) refl refl refl
    (λ n m hn hm. body-ending n m (clauses n (tokens_from text end))) text

pub text_ending : (least : ℕ) (text : List ℕ) → one_of (code_of (table_of least text).outcome) ≡ 1
unfolding table_of
text_ending least text =
    on (ltb 65536 (length text))
    (λ e. rw e)
    (λ e. rw e (let plain = without_remarks text in header_ending least plain (header_of least plain).end))

-- ---- three texts

-- how many of 0, 1, 2, 5 and 6 a number is
abbrev pub one_of_all : ℕ → ℕ
one_of_all k = one_of k + digit (eqb k 6)

not-six : (k : ℕ) → one_of k ≡ 1 → one_of_all k ≡ 1
not-six k e =
    on (eqb k 6)
    (λ t. absurd (let z : ◌≡◌ {A = ℕ} 0 1 = sym (ap one_of (eqb-true k 6 t)) ∙ e in omega arith))
    (λ t. rw t (add-zero (one_of k) ∙ e))

tables-ending : (l r p : TextTable) → one_of (code_of l.outcome) ≡ 1 → one_of (code_of r.outcome) ≡ 1 → one_of (code_of p.outcome) ≡ 1
    → one_of_all (code_of (texts_outcome l r p)) ≡ 1
tables-ending l r p = go l.outcome r.outcome p.outcome (not (eqb l.n r.n) || not (eqb l.n p.n))
  where
    go : (o q s : Outcome) (t : Bool) → one_of (code_of o) ≡ 1 → one_of (code_of q) ≡ 1 → one_of (code_of s) ≡ 1
        → one_of_all (code_of (given o (given q (given s (cond t (Err TextsDiffer) (Ok tt)) Err) Err) Err)) ≡ 1
    go (Err x) q s t ho hq hs = not-six (number_of x) ho
    go (Ok _) (Err x) s t ho hq hs = not-six (number_of x) hq
    go (Ok _) (Ok _) (Err x) t ho hq hs = not-six (number_of x) hs
    go (Ok _) (Ok _) (Ok _) true ho hq hs = refl
    go (Ok _) (Ok _) (Ok _) false ho hq hs = refl

pub texts-ending : (left right public : List ℕ) → one_of_all (code_of (text_tables left right public).outcome) ≡ 1
texts-ending left right public =
    let l = table_of 1 left in
    let r = table_of 1 right in
    let p = table_of 0 public in
    ap (λ (o : Outcome). one_of_all (code_of o)) (outcome-is l r p)
    ∙ tables-ending l r p (text_ending 1 left) (text_ending 1 right) (text_ending 0 public)
