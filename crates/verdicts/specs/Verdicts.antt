-- What a run's standing says: the verdict, and the model or why there is none. Document 01, "Giant step" and "Turned back".
use Rattle.refusals.specs.declared.Refusal.{Refusal}
use Rattle.std.specs.Prelude.{ℕ, not, List, [], ◌∷◌, Result, Ok, Err}
use Rattle.refusals.specs.Numbers.{number_of}
use Rattle.refusals.specs.Checks.{Check, check, outcome, given}
use Rattle.refusals.specs.declared.Refusal.TheVariants.{NoModel}
use Rattle.refusals.specs.declared.Refusal.TheVariants as refusal
use Rattle.state.specs.declared.Run.{Run}
use Rattle.state.specs.declared.Standing.{Standing}
use Rattle.state.specs.declared.Standing.TheVariants.{Open, Satisfied, Refuted}
use Rattle.state.specs.State.{is_satisfied}
use Rattle.state.specs.WellFormed.{well_formed}
use Rattle.verdicts.specs.declared.Verdict.{Verdict}
use Rattle.verdicts.specs.declared.Verdict.TheVariants.{Satisfiable, Unsatisfiable, Unknown}

-- the verdict, with T as the model if it is satisfiable
abbrev pub verdict_of : Standing → ℕ → Verdict
verdict_of Open t = Unknown
verdict_of Satisfied t = Satisfiable t
verdict_of Refuted t = Unsatisfiable

-- 12, then 14
abbrev pub model_checks : Run → List Check
model_checks run = check (not (well_formed run)) refusal.State ∷ check (not (is_satisfied run.standing)) NoModel ∷ []

-- the model of a run
unfoldable pub model_of : Run → Result ℕ Refusal
unfolding well_formed
model_of run = given (outcome (model_checks run)) (Ok run.t) Err

-- ---- the answers as numbers

-- the number of the standing that the verdict follows from: "satisfiable, unsatisfiable or unknown as the standing then is satisfied,
-- refuted or open"
abbrev pub verdict_number : Verdict → ℕ
verdict_number Unknown = 0
verdict_number (Satisfiable model) = 1
verdict_number Unsatisfiable = 2

-- "A model, given with satisfiable only", as a word: 0 without one
abbrev pub model_word : Verdict → ℕ
model_word Unknown = 0
model_word (Satisfiable model) = model
model_word Unsatisfiable = 0

-- what is returned for a model: 0, or 12 or 14 of "Turned back because of the state"
abbrev pub model_code : Result ℕ Refusal → ℕ
model_code (Ok model) = 0
model_code (Err r) = number_of r

-- the model as a word
abbrev pub model_numbers : Result ℕ Refusal → List ℕ
model_numbers (Ok model) = model ∷ []
model_numbers (Err r) = []
