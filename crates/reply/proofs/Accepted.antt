-- What holds of three texts that were read: n is at most 32, and refusals 1 to 4 do not apply to their tables, so that only the texts and the line are ever
-- refused. From what the reader proves of accepted texts.
use mathlib.Core.Path.{◌≡◌, refl, sym, ap, ◌∙◌, subst}
use mathlib.Core.Bool.{true}
use mathlib.Core.List.{List, [], ◌∷◌}
use Prim.Native.Nat.{ℕ, zero, suc, ◌*◌, ◌^◌, ◌≤◌, ◌<◌, zero-le, min}
use native.Mathlib.Omega.{arith}
use lib.ListN.{length, get_or, take}
use borrow.Author.Tests.{le-ltb, lt-ltb}
use Rattle.std.specs.Prelude.{Result, Ok, Err}
use Rattle.refusals.specs.declared.Refusal.{Refusal}
use Rattle.solver.specs.declared.Answer.{Answer}
use Rattle.refusals.specs.Numbers.{Outcome}
use Rattle.words.specs.declared.Row.{Row}
use Rattle.words.proofs.Truth.{and_i}
use Rattle.refusals.specs.Checks.{given, outcome}
use Rattle.tables.specs.Rows.{rows_of}
use Rattle.tables.specs.Acceptance.{all_below, table_checks}
use Rattle.dimacs.specs.ThreeTexts.{ThreeTables, texts_outcome, text_tables}
use Rattle.dimacs.specs.Text.{TextTable, table_of}
use Rattle.dimacs.proofs.ThreeTexts.{outcome-is, by-outcome}
use Rattle.dimacs.proofs.Accepted.{AllWithin, accepted-texts}
use Rattle.solver.specs.Step.{always}
use Rattle.solver.specs.Entries.{answer_of, solved}
use Rattle.lines.specs.Numbers.{budget_of}
use Rattle.answers.specs.Printed.{solved_text}
use Rattle.reply.specs.Reply.{dimensions_of, tables_in, answered, replied}

-- n of three texts, taken or refused, is at most 32
pub n-high : (left right public : List ℕ) → (text_tables left right public).n ≤ 32
n-high left right public = go (texts_outcome l r p) refl
  where
    l : TextTable
    l = table_of 1 left

    r : TextTable
    r = table_of 1 right

    p : TextTable
    p = table_of 0 public

    go : (o : Outcome) → texts_outcome l r p ≡ o → (text_tables left right public).n ≤ 32
    go (Ok _) e = (accepted-texts left right public (outcome-is l r p ∙ e)).left.variables_high
    go (Err x) e = subst (λ (t : ThreeTables). t.n ≤ 32) (sym (by-outcome l r p (Err x) e)) zero-le

-- ---- refusals 1 to 4

all-below : (n k : ℕ) (words : List ℕ) → ((i : ℕ) → get_or words i 0 < 2 ^ n) → all_below n (take k words) ≡ true
unfolding all_below
all-below n zero words h = refl
all-below n (suc k) [] h = refl
all-below n (suc k) (w ∷ ws) h = and_i (lt-ltb w (2 ^ n) (h zero)) (all-below n k ws (λ i. h (suc i)))

-- tables of texts that lie within the limits are taken: refusals 1 to 4 do not apply to them
pub tables-taken : (t : ThreeTables) → AllWithin t → outcome (table_checks (dimensions_of t) (tables_in t)) ≡ Ok tt
tables-taken t w =
    let l = w.left in
    let r = w.right in
    let p = w.public in
    rw (
      le-ltb t.n 1 l.variables_low,
      le-ltb 32 t.n l.variables_high,
      le-ltb t.left_rows 1 l.rows-low,
      le-ltb 128 t.left_rows l.rows-high,
      le-ltb t.right_rows 1 r.rows-low,
      le-ltb 128 t.right_rows r.rows-high,
      le-ltb 128 t.public_rows p.rows-high,
      le-ltb (length t.left) (2 * t.left_rows) (omega (arith, l.sized, l.rows-high)),
      le-ltb (length t.right) (2 * t.right_rows) (omega (arith, r.sized, r.rows-high)),
      le-ltb (length t.public) (2 * t.public_rows) (omega (arith, p.sized, p.rows-high)),
      all-below t.n (2 * t.left_rows) t.left l.no_high-bit,
      all-below t.n (2 * t.right_rows) t.right r.no_high-bit,
      all-below t.n (2 * t.public_rows) t.public p.no_high-bit,
    )

module _ (left right public : List ℕ) where
  -- the tables as they are read
  abbrev texts : ThreeTables
  texts = text_tables left right public

  -- the rows of all three, which stay as they are
  abbrev pub rows_read : ℕ → List Row
  rows_read = always (rows_of (dimensions_of texts) (tables_in texts))

  -- where the texts and the line are taken, the reply is the answer of the budgeted run over their rows
  pub reply-answers : (line : List ℕ) (steps : ℕ) → texts.outcome ≡ Ok tt → budget_of line ≡ Ok steps
      → replied texts line ≡ Ok (answer_of texts.n rows_read steps)
  unfolding solved
  reply-answers line steps taken e =
      ap (λ (o : Outcome). given o (answered texts (budget_of line)) Err) taken
      ∙ ap (answered texts) e
      ∙ ap (λ (o : Outcome). given o (Ok (answer_of texts.n rows_read steps)) Err)
      (tables-taken texts (accepted-texts left right public taken))

  -- ---- the text

  -- what is printed for texts that were read
  pub printed : (t : ThreeTables) (s : Result Answer Refusal) → t ≡ texts → solved_text (min t.n 32) s ≡ solved_text t.n s
  printed t s e =
      let low : t.n ≤ 32 = subst (λ (x : ThreeTables). x.n ≤ 32) (sym e) (n-high left right public) in
      let same : min t.n 32 ≡ t.n = omega arith in
      ap (λ (k : ℕ). solved_text k s) same
