-- A text under way: its outcome with the lines that are left.
use Rattle.refusals.specs.Numbers.{Outcome}
use Rattle.std.specs.Prelude.{ℕ, ◌+◌, ◌≤◌, ◌≡◌, ◌||◌, cond, List, [], ltb, length, Option, Some, None, Err}
use Rattle.refusals.specs.declared.Refusal.TheVariants.{ProofText}
use Rattle.drat_line.specs.declared.Said.{Said}
use Rattle.drat.specs.declared.Checker.{Checker}
use Rattle.drat.specs.Proofs.{ProofLine, additions}
use Rattle.drat.specs.Progress.{outcome_with}
use Rattle.drat.specs.Text.{line_before}

-- 18 where a line is malformed or the additions are too many, else what the proof comes to
abbrev pub ending : Checker → List ℕ → Option (List ProofLine) → Outcome
ending checker words None = Err ProofText
ending checker words (Some ls) =
    cond (checker.malformed || ltb 256 (checker.additions + additions ls)) (Err ProofText) (outcome_with checker.progress words ls)

-- a line is read: whatever lines follow, the outcome is the same
abbrev pub Reads : Said → Checker → List ℕ → Checker → List ℕ → Type 0
Reads s checker words checker' words' =
    (rest : Option (List ProofLine)) → ending checker' words' rest ≡ ending checker words (line_before s rest)

-- there is room for each addition that is left
pub record Room (checker : Checker) (words : List ℕ) : Type 0 where
  pub few : checker.additions ≤ 256
  pub rows : checker.progress.count + 256 ≤ 640 + checker.additions
  pub space : 1280 ≤ length words

-- the outcome of a checker with no line left, whatever the rows
abbrev pub Ends : Checker → Outcome → Type 0
Ends checker r = (words : List ℕ) → r ≡ ending checker words (Some [])
