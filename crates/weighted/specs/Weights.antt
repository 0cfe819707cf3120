-- The two-sided Jeroslow-Wang choice, and the giant step's rule with it: document 02, Req 10. A weight is a whole number, how many times 2
-- ^ -32 it is: an unsatisfied row is no padding, so it has at most n, that is 32, free literals.
-- Ask: Which rows add to a variable, and how much? Who wins among equals? Do rules 1 to 3 stay as they are?
use Rattle.std.specs.Prelude.{ℕ, zero, suc, ◌+◌, ◌-◌, ◌^◌, Bool, not, ◌&&◌, cond, List, [], ◌∷◌, ltb}
use Rattle.words.specs.declared.Row.{Row}
use Rattle.tables.specs.Rows.{satisfied, free_in, free_literals}
use Rattle.scan.specs.declared.Rule.{Rule}
use Rattle.scan.specs.declared.Rule.TheVariants.{AllSatisfied, Conflict, Unit, Choice}
use Rattle.scan.specs.Rules.{rule}

-- what a row adds to variable i: 2 ^ -(its number of free literals) if it is unsatisfied and holds the variable, which is free
unfoldable pub share : ℕ → ℕ → ℕ → Row → ℕ → ℕ
unfolding satisfied free_literals
share n t f r i = cond (not (satisfied n r t f) && free_in r t f i) (2 ^ (32 - free_literals n r t f)) 0

-- the weight of variable i over the rows
unfoldable pub weight : ℕ → List Row → ℕ → ℕ → ℕ → ℕ
unfolding share
weight n [] t f i = 0
weight n (r ∷ rs) t f i = share n t f r i + weight n rs t f i

-- the greatest of the numbers below n, the lowest among equals, where `less i j` says that i comes to less than j; 0 where n is 0
unfoldable pub greatest : (ℕ → ℕ → Bool) → ℕ → ℕ
greatest less zero = 0
greatest less (suc n) = let g = greatest less n in cond (less g n) n g

-- the variable of the greatest weight, the lowest among equals, of n
unfoldable pub heaviest : (ℕ → ℕ) → ℕ → ℕ
unfolding greatest
heaviest w n = greatest (λ i j. ltb (w i) (w j)) n

-- rules 1 to 3 stay; where rule 4 applies, this variable is chosen
abbrev pub choosing : ℕ → Rule → Rule
choosing v AllSatisfied = AllSatisfied
choosing v Conflict = Conflict
choosing v (Unit u positive) = Unit u positive
choosing v (Choice u) = Choice v

-- the first rule that applies, with the heaviest variable
unfoldable pub weighted_rule : ℕ → List Row → ℕ → ℕ → Rule
unfolding rule weight heaviest
weighted_rule n rows t f = choosing (heaviest (weight n rows t f) n) (rule n rows t f)
