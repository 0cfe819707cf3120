-- Document 01's ten marked instances, together as one table over the giant step's definition. By computation.
use mathlib.Core.Path.{◌≡◌, refl}
use Prim.Native.Nat.{ℕ, ◌-◌, ◌^◌}
use mathlib.Core.List.{List, [], ◌∷◌, ◌++◌, map}
use lib.Bits.{bit_or}
use Rattle.words.specs.declared.Row.{Row}
use Rattle.words.specs.Sets.{bit, put, any, count, lowest}
use Rattle.tables.specs.Rows.{padding, satisfied, free_literals, empty}
use Rattle.solver.specs.declared.Answer.{Answer}
use Rattle.verdicts.specs.declared.Verdict.{Verdict}
use Rattle.verdicts.specs.declared.Verdict.TheVariants.{Satisfiable, Unsatisfiable, Unknown}
use Rattle.solver.specs.Step.{always}
use Rattle.solver.specs.Entries.{answer_of}

-- ---- literals side by side, as document 01 writes clauses and models

abbrev pos : ℕ → Row
pos i = record { positive = 2 ^ (i - 1); negative = 0 }

abbrev neg : ℕ → Row
neg i = record { positive = 0; negative = 2 ^ (i - 1) }

infixr 70 ◌·◌
abbrev ◌·◌ : Row → Row → Row
a · b = record { positive = bit_or a.positive b.positive; negative = bit_or a.negative b.negative }

-- a model has the variables of its positive literals, and no other
abbrev model : Row → Verdict
model literals = Satisfiable literals.positive

-- ---- the table

pub record Marked : Type 0 where
  pub n : ℕ
  pub left : List Row
  pub right : List Row
  pub public : List Row
  pub budget : ℕ
  pub answer : Answer

abbrev line : ℕ → List Row → List Row → ℕ → ℕ → Verdict → Marked
line n left right budget steps verdict =
    record { n = n; left = left; right = right; public = []; budget = budget; answer = record { count = steps; verdict = verdict } }

-- where document 01 names no budget: the greatest
abbrev most : ℕ
most = 2 ^ 64 - 1

-- n, left, right, budget, steps, result: no public rows
unfoldable pub table : List Marked
table =
    line 1 (pos 1 ∷ []) (pos 1 ∷ []) most 2 (model (pos 1))
    ∷ line 1 (pos 1 ∷ []) (neg 1 ∷ []) most 2 Unsatisfiable
    ∷ line 2 (pos 1 · pos 2 ∷ pos 1 · neg 2 ∷ []) (neg 1 · pos 2 ∷ neg 1 · neg 2 ∷ []) most 5 Unsatisfiable
    ∷ line 2 (pos 1 · pos 2 ∷ pos 1 · neg 2 ∷ []) (neg 1 · pos 2 ∷ neg 1 · neg 2 ∷ []) 4 4 Unknown
    ∷ line 2 (pos 1 · pos 2 ∷ []) (neg 1 ∷ []) most 3 (model (neg 1 · pos 2))
    ∷ line 1 (pos 1 · neg 1 ∷ []) (pos 1 · neg 1 ∷ []) most 1 (model (neg 1))
    ∷ line 1 (empty ∷ []) (pos 1 ∷ []) most 1 Unsatisfiable
    ∷ line 2 (pos 1 · pos 2 ∷ []) (pos 1 · neg 1 ∷ []) most 2 (model (pos 1 · neg 2))
    ∷ line 3 (pos 2 · pos 3 ∷ []) (neg 2 · pos 3 ∷ []) most 3 (model (neg 1 · pos 2 · pos 3))
    ∷ line 1 (pos 1 ∷ []) (pos 1 ∷ []) 0 0 Unknown
    ∷ []

-- the budgeted run's answer for a line
abbrev pub asked : Marked → Answer
asked m = answer_of m.n (always (m.left ++ (m.right ++ m.public))) m.budget

pub ten_marked : map asked table ≡ map (λ (m : Marked). m.answer) table
unfolding table answer_of free_literals padding satisfied bit put any count lowest
ten_marked = refl
