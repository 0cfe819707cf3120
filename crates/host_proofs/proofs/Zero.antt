-- What the 0 of `forkhemit_check_proof` means to a host: it is said of the numbers that were asked for, since within the limits their bytes are these numbers.
use mathlib.Core.Path.{◌≡◌, refl, sym, subst, ◌∙◌}
use mathlib.Core.Bool.{Bool, false}
use mathlib.Core.List.{List, ◌++◌}
use Prim.Native.Nat.{ℕ}
use Rattle.std.specs.Prelude.{Ok, Err}
use Rattle.refusals.specs.Numbers.{Outcome, code_of}
use Rattle.refusals.specs.Checks.{outcome}
use Rattle.refusals.proofs.Numbers.{number-positive}
use Rattle.refusals.proofs.Outcomes.{outcome_parts}
use Rattle.dimensions.specs.declared.Dimensions.{Dimensions}
use Rattle.dimensions.specs.Sizes.{dimensions, size_checks}
use Rattle.tables.specs.Tables.{Tables}
use Rattle.tables.specs.Rows.{rows_of}
use Rattle.tables.specs.Acceptance.{word_checks}
use Rattle.truth.specs.Truth.{all_true}
use Rattle.codes.specs.Codes.{host_dimensions}
use Rattle.codes.proofs.AsBytes.{sizes-alike, sizes-same}
use Rattle.drat.specs.Text.{proof_of, proof_text_checks, proof_checks}
use Rattle.drat.proofs.Refutation.{accepted-none}

module _ (n left right public : ℕ) (tables : Tables) (text : List ℕ) where
  abbrev held : Dimensions
  held = host_dimensions n left right public

  -- where `forkhemit_check_proof` returns 0, no assignment makes all rows of the tables true
  pub zero-none : code_of (outcome (proof_checks held tables text)) ≡ 0 → (a : ℕ → Bool) → all_true a (rows_of (dimensions n left right public) tables) ≡ false
  zero-none e a =
      let taken = go (outcome (proof_checks held tables text)) e in
      let sized = (outcome_parts (size_checks held) (word_checks held tables ++ proof_text_checks (rows_of held tables) (proof_of held.n text)) taken).0 in
      subst (λ (d : Dimensions). all_true a (rows_of d tables) ≡ false) (sizes-same n left right public (sym (sizes-alike n left right public) ∙ sized))
      (accepted-none held tables text taken a)
    where
      go : (o : Outcome) → code_of o ≡ 0 → o ≡ Ok tt
      go (Ok _) h = refl
      go (Err r) h = absurd (number-positive r h)
