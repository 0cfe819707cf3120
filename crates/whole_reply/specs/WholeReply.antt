-- What the program that goes through the whole budget prints for two stations' texts, that of the public rest rules and a line of standard
-- input: document 02, "The count kept secret too".
-- Ask: Is 23 before 7?
use Rattle.refusals.specs.declared.Refusal.{Refusal}
use Rattle.solver.specs.declared.Answer.{Answer}
use Rattle.std.specs.Prelude.{ℕ, List, [], ◌∷◌, ltb, Result, Ok, Err}
use Rattle.refusals.specs.Checks.{Check, check, outcome, given}
use Rattle.refusals.specs.declared.Refusal.TheVariants as refusal
use Rattle.dimensions.specs.declared.Dimensions.{Dimensions}
use Rattle.dimensions.specs.Sizes.{ceiling}
use Rattle.dimacs.specs.ThreeTexts.{ThreeTables, text_tables}
use Rattle.lines.specs.Numbers.{budget_of}
use Rattle.answers.specs.Printed.{solved_text}
use Rattle.reply.specs.Reply.{dimensions_of, tables_in}
use Rattle.whole_budget.specs.Applications.{whole_answer}
use Rattle.whole_budget.specs.WholeBudget.{most_budget}

-- 7: a ceiling above 5,461 gates
abbrev pub ceiling_checks : Dimensions → List Check
ceiling_checks d = check (ltb 5461 (ceiling d)) refusal.GateBuffer ∷ []

-- 23, then 7
abbrev pub served_checks : Dimensions → ℕ → List Check
served_checks d steps = check (ltb most_budget steps) refusal.WholeBudget ∷ ceiling_checks d

-- the run through the whole budget over the tables, or 8, 23, 7
abbrev pub whole_answered : ThreeTables → Result ℕ Refusal → Result Answer Refusal
whole_answered t (Ok steps) =
    given (outcome (served_checks (dimensions_of t) steps)) (Ok (whole_answer (dimensions_of t) (tables_in t) steps)) Err
whole_answered t (Err r) = Err r

-- the left text's refusal, the right's, the public one's, then 6, and only then 8, 23, 7
abbrev pub whole_replied : ThreeTables → List ℕ → Result Answer Refusal
whole_replied t line = given t.outcome (whole_answered t (budget_of line)) Err

-- what is printed for the three texts and the line
unfoldable pub whole_text : List ℕ → List ℕ → List ℕ → List ℕ → List ℕ
whole_text left right public line = let t = text_tables left right public in solved_text t.n (whole_replied t line)
