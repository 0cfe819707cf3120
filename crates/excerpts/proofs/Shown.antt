-- A row that still has the words which its station's text gave it is shown: its clause's place is not empty. By induction on the clauses before it.
use mathlib.Core.Path.{◌≡◌, refl, sym, ap, ap₂, ◌∙◌, subst}
use mathlib.Core.Bool.{◌&&◌}
use mathlib.Core.List.{List, ◌∷◌, ◌++◌}
use Prim.Native.Nat.{ℕ, zero, suc, ◌+◌, ◌-◌, ◌*◌, ◌≤◌, ◌<◌}
use native.Mathlib.Omega.{arith}
use lib.Dec.{eqb, ltb}
use lib.ListN.{length, get_or, replicate}
use borrow.Author.Tests.{eq-eqb, ltb-true, ltb-false}
use Rattle.std.specs.Prelude.{Result, Ok, Err}
use Rattle.refusals.specs.declared.Refusal.{Refusal}
use Rattle.refusals.proofs.Outcomes.{refused-taken}
use Rattle.words.specs.declared.Row.{Row}
use Rattle.words.proofs.Truth.{on}
use Rattle.lexer.specs.Blanks.{tokens_past}
use Rattle.header.specs.Header.{header_of}
use Rattle.clauses.specs.Rows.{row_of, words_of_rows}
use Rattle.clauses.specs.Clauses.{Reading, clause, ended, unreadable, clause_rows, complete}
use Rattle.clauses.specs.First.{clauses_from}
use Rattle.dimacs.specs.Text.{TextTable, table_of}
use Rattle.dimacs.proofs.Remarks.{standing}
use Rattle.dimacs.proofs.Texts.{overlong, by_header}
use Rattle.tables.specs.Rows.{row_at}
use Rattle.excerpts.specs.Excerpts.{skip, behind_header, clause_of, place_in, place_of}
use Rattle.excerpts.proofs.Clauses.{LiesFrom, clauses_lie}

-- the place is not empty
abbrev Shown : ℕ → Reading → Row → Type 0
Shown station x row = 1 ≤ (place_in station x row).length

-- after a row's two words the next row is the first
next_row : (p q : ℕ) (words : List ℕ) (k : ℕ) → row_at (p ∷ (q ∷ words)) (suc k) ≡ row_at words k
next_row p q words k =
    let a : 2 * suc k ≡ suc (suc (2 * k)) = omega arith in
    let b : 2 * suc k + 1 ≡ suc (suc (2 * k + 1)) = omega arith in
    ap₂ (λ (i j : ℕ). record { positive = get_or (p ∷ (q ∷ words)) i 0; negative = get_or (p ∷ (q ∷ words)) j 0 }) a b

-- clause k has row k of the clauses' rows
clause_shown : (station : ℕ) (text zeros : List ℕ) (k i : ℕ) (x : Reading) → LiesFrom text i x → k < length (clause_rows x)
    → Shown station (skip k x) (row_at (words_of_rows (clause_rows x) ++ zeros) k)
unfolding skip
clause_shown station text zeros zero i (clause ls from to rest) l h =
    let p = (row_of ls).positive in
    let q = (row_of ls).negative in
    rw (eq-eqb p p refl, eq-eqb q q refl) (omega (arith, l.1))
clause_shown station text zeros (suc k) i (clause ls from to rest) l h =
    subst (Shown station (skip k rest)) (sym (next_row (row_of ls).positive (row_of ls).negative (words_of_rows (clause_rows rest) ++ zeros) k))
    (clause_shown station text zeros k 0 rest l.3 (omega arith))
clause_shown station text zeros k i ended l h = absurd (omega arith)
clause_shown station text zeros k i unreadable l h = absurd (omega arith)

-- of an accepted text
module _ (station : ℕ) (text : List ℕ) (k : ℕ) where
  -- in the table that is read
  abbrev InTable : Result (ℕ × ℕ) Refusal → TextTable → Type 0
  InTable s t = t.outcome ≡ Ok tt → k < t.rows → Shown station (skip k (behind_header text (header_of 1 text).end s)) (row_at t.words k)

  by-sizes : (s : Result (ℕ × ℕ) Refusal) → InTable s (standing text (header_of 1 text).end s)
  by-sizes (Err r) = λ taken h. absurd (refused-taken taken)
  by-sizes (Ok (n, m)) =
      let end = (header_of 1 text).end in
      let x = clauses_from n text end in
      on (complete x && eqb (length (clause_rows x)) m)
      (λ e. rw e (λ taken h. clause_shown station text (replicate (256 - 2 * length (clause_rows x)) 0) k end x
      (clauses_lie n text (tokens_past text end) end refl) h))
      (λ e. rw e (λ taken h. absurd (refused-taken taken)))

  pub row-shown : (table_of 1 text).outcome ≡ Ok tt → k < (table_of 1 text).rows → (words : List ℕ) → row_at words k ≡ row_at (table_of 1 text).words k
      → 1 ≤ (place_of station words text k).length
  unfolding clause_of
  row-shown taken h words same =
      subst (Shown station (clause_of text k)) (sym same)
      (on (ltb 65536 (length text))
      (λ e. absurd (refused-taken (sym (ap (λ (t : TextTable). t.outcome) (overlong 1 text (ltb-true 65536 (length text) e))) ∙ taken)))
      (λ e. let is = by_header 1 text (ltb-false 65536 (length text) e) (header_of 1 text) refl (header_of 1 text).sizes refl in
      subst (InTable (header_of 1 text).sizes) (sym is) (by-sizes (header_of 1 text).sizes) taken h))
