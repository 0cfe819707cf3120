-- The giant step, and what some number of steps gives: document 01, "Giant step".
-- Ask: What does `follow` change, and what does it leave? Does `step` leave closed states alone?
use Rattle.std.specs.Prelude.{ℕ, zero, suc, Bool, true, false, List, [], ◌∷◌}
use Rattle.words.specs.declared.Row.{Row}
use Rattle.words.specs.Sets.{put}
use Rattle.state.specs.declared.Level.{Level}
use Rattle.scan.specs.declared.Rule.{Rule}
use Rattle.scan.specs.declared.Rule.TheVariants.{AllSatisfied, Conflict, Unit, Choice}
use Rattle.state.specs.declared.Standing.TheVariants.{Open, Satisfied, Refuted}
use Rattle.state.specs.State.{State, if_open}
use Rattle.scan.specs.Rules.{rule}

-- rule 2: with no level left, refuted; else the last level is removed, its T and F are restored, and its variable goes to F
abbrev pub back : State → List Level → State
back s [] = record { standing = Refuted; t = s.t; f = s.f; levels = [] }
back s (l ∷ ls) = record { standing = Open; t = l.t; f = put l.f l.chosen; levels = ls }

-- rule 3: the literal is made true
abbrev pub assign : State → ℕ → Bool → State
assign s v true = record { standing = Open; t = put s.t v; f = s.f; levels = s.levels }
assign s v false = record { standing = Open; t = s.t; f = put s.f v; levels = s.levels }

-- an open state after the rule
abbrev pub follow : State → Rule → State
follow s AllSatisfied = record { standing = Satisfied; t = s.t; f = s.f; levels = s.levels }
follow s Conflict = back s s.levels
follow s (Unit v positive) = assign s v positive
follow s (Choice v) = record {
  standing = Open;
  t = put s.t v;
  f = s.f;
  levels = record { t = s.t; f = s.f; chosen = v } ∷ s.levels;
}

-- which rule applies, of n, rows, T and F: document 01's `rule`, or one with another choice in the place of rule 4's
abbrev pub Ruling : Type 0
Ruling = ℕ → List Row → ℕ → ℕ → Rule

-- one giant step by a ruling; a closed state stays as it is
unfoldable pub step_with : Ruling → ℕ → List Row → State → State
step_with ruling n rows s = if_open s.standing (follow s (ruling n rows s.t s.f)) s

-- one giant step
unfoldable pub step : ℕ → List Row → State → State
unfolding step_with rule
step = step_with rule

-- the same rows at every step
abbrev pub always : List Row → ℕ → List Row
always rows = λ i. rows

-- the rows from the second step on
abbrev pub later : (ℕ → List Row) → ℕ → List Row
later rows = λ i. rows (suc i)

-- the state after k steps, each over the rows as they are when it begins: rows i for the step that i others precede
unfoldable pub after_with : Ruling → ℕ → (ℕ → List Row) → ℕ → State → State
unfolding step_with
after_with ruling n rows zero s = s
after_with ruling n rows (suc k) s = after_with ruling n (later rows) k (step_with ruling n (rows 0) s)

-- after k giant steps
unfoldable pub after : ℕ → (ℕ → List Row) → ℕ → State → State
unfolding after_with step
after = after_with rule
