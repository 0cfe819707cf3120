-- A proof under way: its outcome with the lines that are left.
use Rattle.refusals.specs.Numbers.{Outcome}
use Rattle.std.specs.Prelude.{ℕ, ◌≡◌, List, ◌∷◌, Ok, Err}
use Rattle.refusals.specs.Checks.{outcome}
use Rattle.refusals.specs.declared.Refusal.TheVariants.{NotFollowing}
use Rattle.words.specs.declared.Row.{Row}
use Rattle.tables.specs.Rows.{rows_from}
use Rattle.drat.specs.declared.rup.Stage.{Stage}
use Rattle.drat.specs.declared.rup.Stage.TheVariants.{Checking, Accepted, Failed}
use Rattle.drat.specs.declared.rup.Progress.{Progress}
use Rattle.drat.specs.Proofs.{ProofLine, addition_checks}

-- what the rows present and the lines left come to; once it is decided, no line changes it
abbrev pub outcome_at : Stage → List Row → List ProofLine → Outcome
outcome_at Checking rows ls = outcome (addition_checks rows ls)
outcome_at Accepted rows ls = Ok tt
outcome_at Failed rows ls = Err NotFollowing

-- the same for rows in front of words
abbrev pub outcome_with : Progress → List ℕ → List ProofLine → Outcome
outcome_with p words ls = outcome_at p.stage (rows_from words 0 p.count) ls

-- a line is taken: whatever lines follow, the outcome is the same
abbrev pub Takes : ProofLine → Progress → List ℕ → Progress → List ℕ → Type 0
Takes l p words q words' = (ls : List ProofLine) → outcome_with q words' ls ≡ outcome_with p words (l ∷ ls)
