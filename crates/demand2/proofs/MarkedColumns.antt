-- The columns of document 01's table of marked instances: n, the rows of both stations, the budget, steps and result, as numerals, steps and result read off
-- `ten_marked`. A line that is missing or moved or has other rows is refused here.
use mathlib.Core.Path.{◌≡◌, refl, ap}
use Prim.Native.Nat.{ℕ}
use mathlib.Core.List.{List, [], ◌∷◌, map}
use Rattle.words.specs.declared.Row.{Row}
use Rattle.verdicts.specs.declared.Verdict.TheVariants.{Satisfiable, Unsatisfiable, Unknown}
use Rattle.solver.specs.declared.Answer.{Answer}
use Rattle.demand2.proofs.Marked.{Marked, table, asked, ten_marked}

-- the budgeted run's answers, line by line
abbrev answers : List Answer
answers = map asked table

pub variables_column : map (λ (m : Marked). m.n) table ≡ 1 ∷ 1 ∷ 2 ∷ 2 ∷ 2 ∷ 1 ∷ 1 ∷ 2 ∷ 3 ∷ 1 ∷ []
unfolding table
variables_column = refl

-- a row by its two words, bit i - 1 being variable i
abbrev row : ℕ → ℕ → Row
row positive negative = record { positive = positive; negative = negative }

-- (1); (1); (1 2)(1 -2) twice; (1 2); (1 -1); (); (1 2); (2 3); (1)
pub left-column : map (λ (m : Marked). m.left) table
    ≡ (row 1 0 ∷ [])
    ∷ (row 1 0 ∷ [])
    ∷ (row 3 0 ∷ row 1 2 ∷ [])
    ∷ (row 3 0 ∷ row 1 2 ∷ [])
    ∷ (row 3 0 ∷ [])
    ∷ (row 1 1 ∷ [])
    ∷ (row 0 0 ∷ [])
    ∷ (row 3 0 ∷ [])
    ∷ (row 6 0 ∷ [])
    ∷ (row 1 0 ∷ [])
    ∷ []
unfolding table
left-column = refl

-- (1); (-1); (-1 2)(-1 -2) twice; (-1); (1 -1); (1); (1 -1); (-2 3); (1)
pub right_column : map (λ (m : Marked). m.right) table
    ≡ (row 1 0 ∷ [])
    ∷ (row 0 1 ∷ [])
    ∷ (row 2 1 ∷ row 0 3 ∷ [])
    ∷ (row 2 1 ∷ row 0 3 ∷ [])
    ∷ (row 0 1 ∷ [])
    ∷ (row 1 1 ∷ [])
    ∷ (row 1 0 ∷ [])
    ∷ (row 1 1 ∷ [])
    ∷ (row 4 2 ∷ [])
    ∷ (row 1 0 ∷ [])
    ∷ []
unfolding table
right_column = refl

-- no public rows
pub public_column : map (λ (m : Marked). m.public) table ≡ [] ∷ [] ∷ [] ∷ [] ∷ [] ∷ [] ∷ [] ∷ [] ∷ [] ∷ [] ∷ []
unfolding table
public_column = refl

-- 4 and 0 where document 01 names them, else the greatest
pub budgets_column : map (λ (m : Marked). m.budget) table
    ≡ 18446744073709551615
    ∷ 18446744073709551615
    ∷ 18446744073709551615
    ∷ 4
    ∷ 18446744073709551615
    ∷ 18446744073709551615
    ∷ 18446744073709551615
    ∷ 18446744073709551615
    ∷ 18446744073709551615
    ∷ 0
    ∷ []
unfolding table
budgets_column = refl

pub steps_column : map (λ (a : Answer). a.count) answers ≡ 2 ∷ 2 ∷ 5 ∷ 4 ∷ 3 ∷ 1 ∷ 1 ∷ 2 ∷ 3 ∷ 0 ∷ []
unfolding table
steps_column = ap (map (λ (a : Answer). a.count)) ten_marked

-- models as words: 1; -1 2; -1; 1 -2; -1 2 3
pub results_column : map (λ (a : Answer). a.verdict) answers
    ≡ Satisfiable 1 ∷ Unsatisfiable ∷ Unsatisfiable ∷ Unknown ∷ Satisfiable 2 ∷ Satisfiable 0 ∷ Unsatisfiable ∷ Satisfiable 1 ∷ Satisfiable 6 ∷ Unknown ∷ []
unfolding table
results_column = ap (map (λ (a : Answer). a.verdict)) ten_marked
