-- What acceptance means: no assignment makes all rows of the tables true. And what is accepted: every well-formed text of at most 256 additions that adds the
-- empty clause and whose additions up to it all follow.
use Rattle.std.specs.Prelude.{Option, Some, None, Ok}
use mathlib.Core.Path.{◌≡◌, refl, ◌∙◌}
use mathlib.Core.Bool.{Bool, true, false}
use mathlib.Core.List.{List}
use Prim.Native.Nat.{ℕ, ◌≤◌}
use lib.ListN.{length}
use borrow.Author.Tests.{le-ltb}
use Rattle.refusals.specs.Checks.{outcome}
use Rattle.refusals.proofs.Outcomes.{refused-taken, outcome_parts, outcome-taken}
use Rattle.words.specs.declared.Row.{Row}
use Rattle.lexer.specs.Pieces.{lines_from}
use Rattle.dimensions.specs.declared.Dimensions.{Dimensions}
use Rattle.tables.specs.Tables.{Tables}
use Rattle.tables.specs.Rows.{rows_of}
use Rattle.tables.specs.Acceptance.{table_checks}
use Rattle.truth.specs.Truth.{all_true}
use Rattle.drat.specs.Proofs.{ProofLine, all_follow, adds_empty, additions}
use Rattle.drat.specs.Text.{proof_lines, proof_of, proof_text_checks, proof_checks}
use Rattle.drat.proofs.Soundness.{taken_none}

read_none : (rows : List Row) (proof : Option (List ProofLine)) → outcome (proof_text_checks rows proof) ≡ Ok tt → (a : ℕ → Bool) → all_true a rows ≡ false
read_none rows None h a = absurd (refused-taken h)
read_none rows (Some ls) h a = taken_none rows ls h a

module _ (d : Dimensions) (tables : Tables) (text : List ℕ) where
  -- an accepted proof: no assignment makes all rows of the tables true
  pub accepted-none : outcome (proof_checks d tables text) ≡ Ok tt → (a : ℕ → Bool) → all_true a (rows_of d tables) ≡ false
  accepted-none h a =
      let taken = (outcome_parts (table_checks d tables) (proof_text_checks (rows_of d tables) (proof_of d.n text)) h).1 in
      read_none (rows_of d tables) (proof_of d.n text) taken a

  -- a text of at most 65,536 bytes whose lines are all well-formed, with at most 256 additions, is accepted if all that is added up to the empty clause follows
  -- and the empty clause is added
  pub all-accepted : outcome (table_checks d tables) ≡ Ok tt → length text ≤ 65536
      → (ls : List ProofLine) → proof_lines d.n (lines_from text 0) ≡ Some ls → additions ls ≤ 256
      → all_follow (rows_of d tables) ls ≡ true → adds_empty ls ≡ true → outcome (proof_checks d tables text) ≡ Ok tt
  unfolding proof_of
  all-accepted taken short ls read few follow empty =
      outcome-taken (table_checks d tables) (proof_text_checks (rows_of d tables) (proof_of d.n text)) taken
      ∙ rw (le-ltb 65536 (length text) short) (rw read (rw (le-ltb 256 (additions ls) few) (rw (follow, empty) refl)))
