-- The rule behind each step: document 02, Req 07.
-- Ask: Which row does a step name, and is it the lowest? Does it force the very literal taken, sign included? Is a closed run's rule none?
use Rattle.std.specs.Prelude.{ℕ, suc, Bool, true, false, ◌&&◌, List, [], ◌∷◌, Result, Ok, Err}
use Rattle.refusals.specs.Checks.{given}
use Rattle.refusals.specs.Numbers.{Outcome, number_of}
use Rattle.refusals.specs.declared.Refusal.{Refusal}
use Rattle.words.specs.declared.Row.{Row}
use Rattle.words.specs.Booleans.{digit}
use Rattle.dimensions.specs.declared.Dimensions.{Dimensions}
use Rattle.tables.specs.Tables.{Tables}
use Rattle.tables.specs.Rows.{rows_of}
use Rattle.occurrences.specs.Index.{holds_literal}
use Rattle.state.specs.declared.Level.{Level}
use Rattle.state.specs.declared.Run.{Run}
use Rattle.state.specs.State.{State, state_of, if_open}
use Rattle.scan.specs.declared.Rule.{Rule}
use Rattle.scan.specs.declared.Rule.TheVariants as rules
use Rattle.scan.specs.Rules.{unsatisfied_with, forces, rule}
use Rattle.solver.specs.Entries.{stepped}
use Rattle.explained.specs.declared.Told.{Told}
use Rattle.explained.specs.declared.Told.TheVariants.{Nothing, AllSatisfied, ConflictWithLevel, ConflictWithoutLevel, Forced, Chosen}

-- ---- the row that shows a rule

-- the number of the lowest row that passes, the first one having number i; 0 where none does
unfoldable pub lowest_from : ℕ → (Row → Bool) → List Row → ℕ
lowest_from i p [] = 0
lowest_from i p (r ∷ rs) = elim (p r) [ true ↦ i | false ↦ lowest_from (suc i) p rs ]

-- rows are numbered from 1, over all tables
abbrev pub lowest_row : (Row → Bool) → List Row → ℕ
lowest_row p rows = lowest_from 1 p rows

-- the row shows the rule: it is in conflict, or it forces the literal taken, sign included
abbrev pub shows : ℕ → ℕ → ℕ → Rule → Row → Bool
shows n t f rules.AllSatisfied r = false
shows n t f rules.Conflict r = unsatisfied_with 0 n t f r
shows n t f (rules.Unit v positive) r = forces n t f v r && holds_literal positive v r
shows n t f (rules.Choice v) r = false

-- ---- what a step tells

-- a conflict in this row, "with or without a level": with one, its variable goes to F
abbrev pub told_back : ℕ → List Level → Told
told_back row [] = ConflictWithoutLevel row
told_back row (l ∷ ls) = ConflictWithLevel row l.chosen

-- the rule, "the lowest row in conflict, or the lowest row that forces the literal taken", and the literal
unfoldable pub told : ℕ → List Row → State → Rule → Told
unfolding lowest_from unsatisfied_with
told n rows s rules.AllSatisfied = AllSatisfied
told n rows s rules.Conflict = told_back (lowest_row (shows n s.t s.f rules.Conflict) rows) s.levels
told n rows s (rules.Unit v positive) = Forced (lowest_row (shows n s.t s.f (rules.Unit v positive)) rows) v positive
told n rows s (rules.Choice v) = Chosen v

-- "or none where the run was closed already"
unfoldable pub explanation : ℕ → List Row → State → Told
unfolding told rule
explanation n rows s = if_open s.standing (told n rows s (rule n rows s.t s.f)) Nothing

-- ---- the entry

-- the plain step's outcome and run, and what it tells
pub record Explained : Type 0 where
  pub outcome : Outcome
  pub run : Run
  pub told : Told

-- outcome and run are the plain step's; refused, nothing is told
unfoldable pub explained : Dimensions → Tables → Run → Explained
unfolding explanation stepped
explained d tables run =
    let s = stepped d tables run in
    record {
      outcome = s.outcome;
      run = s.run;
      told = given s.outcome (explanation d.n (rows_of d tables) (state_of run)) (λ r. Nothing);
    }

-- rule, row or 0, variable from 1 and value of the literal taken: by a conflict with a level false, by a choice true; else 0 and 0
abbrev pub told_numbers : Told → List ℕ
told_numbers Nothing = 0 ∷ 0 ∷ 0 ∷ 0 ∷ []
told_numbers AllSatisfied = 1 ∷ 0 ∷ 0 ∷ 0 ∷ []
told_numbers (ConflictWithLevel row v) = 2 ∷ row ∷ suc v ∷ 0 ∷ []
told_numbers (ConflictWithoutLevel row) = 3 ∷ row ∷ 0 ∷ 0 ∷ []
told_numbers (Forced row v value) = 4 ∷ row ∷ suc v ∷ digit value ∷ []
told_numbers (Chosen v) = 5 ∷ 0 ∷ suc v ∷ 1 ∷ []

-- what the entry returns: what is told, or the refusal
abbrev pub told_of : Explained → Result Told Refusal
told_of e = given e.outcome (Ok e.told) Err

-- 0 and the numbers of what is told, or the refusal's number alone
abbrev pub explained_said : Result Told Refusal → List ℕ
explained_said (Ok t) = 0 ∷ told_numbers t
explained_said (Err r) = number_of r ∷ []
