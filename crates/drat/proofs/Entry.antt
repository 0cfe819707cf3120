-- The entry's checks in order: the tables', an overlong text, then what its lines come to.
use mathlib.Core.Path.{◌≡◌, sym, ap, ◌∙◌}
use mathlib.Core.List.{List, ◌++◌, append_assoc}
use Prim.Native.Nat.{ℕ, ◌≤◌, ◌<◌}
use lib.ListN.{length}
use borrow.Author.Tests.{lt-ltb, le-ltb}
use Rattle.std.specs.Prelude.{Ok, Err}
use Rattle.refusals.specs.Numbers.{Outcome}
use Rattle.refusals.specs.Checks.{outcome}
use Rattle.refusals.specs.declared.Refusal.{Refusal}
use Rattle.refusals.specs.declared.Refusal.TheVariants.{ProofText}
use Rattle.refusals.proofs.Outcomes.{outcome-taken, outcome-refused}
use Rattle.words.specs.declared.Row.{Row}
use Rattle.lexer.specs.Pieces.{lines_from}
use Rattle.dimensions.specs.declared.Dimensions.{Dimensions}
use Rattle.tables.specs.Tables.{Tables}
use Rattle.tables.specs.Rows.{rows_from, rows_of}
use Rattle.tables.specs.Acceptance.{table_checks}
use Rattle.drat.specs.Text.{proof_lines, few_additions, proof_of, proof_text_checks, proof_checks}

-- the tables' rows, one table after the other
pub all-rows : (d : Dimensions) (tables : Tables) (none x y z : List Row) → none ≡ rows_from tables.left 0 0
    → x ≡ none ++ rows_from tables.left 0 d.left → y ≡ x ++ rows_from tables.right 0 d.right → z ≡ y ++ rows_from tables.public 0 d.public
    → z ≡ rows_of d tables
all-rows d tables none x y z e₀ e₁ e₂ e₃ =
    let l = rows_from tables.left 0 d.left in
    let r = rows_from tables.right 0 d.right in
    let p = rows_from tables.public 0 d.public in
    e₃ ∙ ap (λ (rs : List Row). rs ++ p) (e₂ ∙ ap (λ (rs : List Row). rs ++ r) (e₁ ∙ ap (λ (rs : List Row). rs ++ l) e₀)) ∙ append_assoc l r p

module _ (d : Dimensions) (tables : Tables) (text : List ℕ) where
  -- what the tables are refused with, the proof is refused with
  pub tables-refused : (q : Refusal) → outcome (table_checks d tables) ≡ Err q → Err q ≡ outcome (proof_checks d tables text)
  tables-refused q e = sym (outcome-refused (table_checks d tables) (proof_text_checks (rows_of d tables) (proof_of d.n text)) q e)

  module _ (taken : outcome (table_checks d tables) ≡ Ok tt) where
    rest : outcome (proof_checks d tables text) ≡ outcome (proof_text_checks (rows_of d tables) (proof_of d.n text))
    rest = outcome-taken (table_checks d tables) (proof_text_checks (rows_of d tables) (proof_of d.n text)) taken

    pub overlong : 65536 < length text → Err ProofText ≡ outcome (proof_checks d tables text)
    unfolding proof_of
    overlong h = sym (rest ∙ rw (lt-ltb 65536 (length text) h))

    pub lines_checked : length text ≤ 65536 → (rows : List Row) → rows ≡ rows_of d tables → (r : Outcome)
        → r ≡ outcome (proof_text_checks rows (few_additions (proof_lines d.n (lines_from text 0)))) → r ≡ outcome (proof_checks d tables text)
    unfolding proof_of
    lines_checked h rows e r q =
        q ∙ ap (λ (rs : List Row). outcome (proof_text_checks rs (few_additions (proof_lines d.n (lines_from text 0))))) e
        ∙ sym (rest ∙ rw (le-ltb 65536 (length text) h))
