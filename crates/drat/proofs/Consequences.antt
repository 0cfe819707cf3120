-- What the two theorems on accepted proofs are good for. From their statements alone: one that said less would be refused here.
use Rattle.std.specs.Prelude.{Some, Ok}
use mathlib.Core.Path.{◌≡◌}
use mathlib.Core.Bool.{Bool, true, false, false≢true}
use mathlib.Core.List.{List, [], ◌∷◌, ◌++◌}
use Prim.Native.Nat.{ℕ, suc, ◌-◌, ◌^◌, ◌≤◌}
use lib.ListN.{length}
use Rattle.refusals.specs.Checks.{outcome}
use Rattle.refusals.proofs.Outcomes.{outcome_parts}
use Rattle.words.specs.declared.Row.{Row}
use Rattle.words.proofs.Truth.{and_l, and_r, and_i, on}
use Rattle.lexer.specs.Pieces.{lines_from}
use Rattle.dimensions.specs.declared.Dimensions.{Dimensions}
use Rattle.tables.specs.Tables.{Tables}
use Rattle.tables.specs.Rows.{rows_of}
use Rattle.tables.specs.Acceptance.{table_checks}
use Rattle.scan.proofs.RowLaws.{In, not-all-rows}
use Rattle.truth.specs.Truth.{row_true, all_true}
use Rattle.verdicts.specs.declared.Verdict.TheVariants.{Unsatisfiable}
use Rattle.solver.specs.Step.{always}
use Rattle.solver.specs.Entries.{answer_of}
use Rattle.demand2.proofs.Demand2.{demand2}
use Rattle.demand2.proofs.Consequences.{enough_unsatisfiable}
use Rattle.propagation.specs.Propagation.{follows}
use Rattle.drat.specs.Proofs.{ProofLine, added, deleted, is_empty, without, all_follow, adds_empty, additions}
use Rattle.drat.specs.Text.{proof_lines, proof_of, proof_text_checks, proof_checks}
use Rattle.drat.proofs.Refutation.{accepted-none, all-accepted}

module _ (d : Dimensions) (tables : Tables) where
  -- ---- an accepted text

  module _ (text : List ℕ) (h : outcome (proof_checks d tables text) ≡ Ok tt) where
    -- every assignment makes some row of the tables false
    pub accepted-row : (a : ℕ → Bool) → (r : Row) × In r (rows_of d tables) × (row_true a r ≡ false)
    unfolding all_true
    accepted-row a = not-all-rows (row_true a) (rows_of d tables) (accepted-none d tables text h a)

    -- and so the run of these tables, with a budget of 2 ^ (n + 1) - 1, says unsatisfiable too
    pub accepted_unsatisfiable : (budget : ℕ) → 2 ^ suc d.n - 1 ≤ budget
        → (answer_of d.n (always (rows_of d tables)) budget).verdict ≡ Unsatisfiable
    accepted_unsatisfiable budget enough =
        let accepted = (outcome_parts (table_checks d tables) (proof_text_checks (rows_of d tables) (proof_of d.n text)) h).0 in
        enough_unsatisfiable d.n (always (rows_of d tables)) budget (answer_of d.n (always (rows_of d tables)) budget)
        (demand2 d tables budget accepted) enough (accepted-none d tables text h)

  -- ---- lines after the empty clause

  adds_behind : (front more : List ProofLine) → adds_empty front ≡ true → adds_empty (front ++ more) ≡ true
  unfolding adds_empty
  adds_behind [] more e = absurd (false≢true e)
  adds_behind (added c ∷ ls) more e = on (is_empty c) (λ z. rw z) (λ z. rw z (adds_behind ls more (rw z at e)))
  adds_behind (deleted c ∷ ls) more e = adds_behind ls more e

  follow-behind : (front more : List ProofLine) (rows : List Row) → adds_empty front ≡ true → all_follow rows front ≡ true
      → all_follow rows (front ++ more) ≡ true
  unfolding adds_empty all_follow
  follow-behind [] more rows e f = absurd (false≢true e)
  follow-behind (added c ∷ ls) more rows e f =
      and_i (and_l (follows rows c) _ f)
      (on (is_empty c)
      (λ z. rw z)
      (λ z. rw z (follow-behind ls more (rows ++ (c ∷ [])) (rw z at e) (rw z at (and_r (follows rows c) _ f)))))
  follow-behind (deleted c ∷ ls) more rows e f = follow-behind ls more (without c rows) e f

  -- lines after the empty clause are read for form only: with any well-formed ones there, up to 256 additions in all, a proof is accepted
  pub behind-accepted : outcome (table_checks d tables) ≡ Ok tt → (text : List ℕ) → length text ≤ 65536
      → (front more : List ProofLine) → proof_lines d.n (lines_from text 0) ≡ Some (front ++ more) → additions (front ++ more) ≤ 256
      → all_follow (rows_of d tables) front ≡ true → adds_empty front ≡ true → outcome (proof_checks d tables text) ≡ Ok tt
  behind-accepted taken text short front more read few follow empty =
      all-accepted d tables text taken short (front ++ more) read few (follow-behind front more (rows_of d tables) empty follow)
      (adds_behind front more empty)
