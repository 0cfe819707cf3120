-- Weights, choices and runs, computed: four rows of two literals in which variable 2 occurs four times, so that it is chosen before variable 1 and the run
-- takes five steps instead of seven; ties; rows that add nothing; floats by their bits.
use mathlib.Core.Path.{◌≡◌, refl}
use mathlib.Core.Bool.{true}
use mathlib.Core.List.{List, [], ◌∷◌}
use Prim.Native.Nat.{ℕ, ◌+◌, ◌*◌, ◌^◌}
use lib.Ieee.{binary64, round, to_bits, size}
use Rattle.words.specs.declared.Row.{Row}
use Rattle.words.specs.Sets.{bit, put, any, count, lowest}
use Rattle.tables.specs.Rows.{padding, satisfied, free_literals, empty}
use Rattle.verdicts.specs.declared.Verdict.TheVariants.{Satisfiable, Unsatisfiable}
use Rattle.scan.specs.declared.Rule.TheVariants.{AllSatisfied, Conflict, Unit, Choice}
use Rattle.scan.specs.Rules.{rule}
use Rattle.solver.specs.Step.{always}
use Rattle.solver.specs.Entries.{answer_with, answer_of}
use Rattle.weighted.specs.Weights.{weight, weighted_rule}
use Rattle.weighted.specs.Floats.{scaled}
use Rattle.weighted.specs.WeightedRun.{weighted_answer}

abbrev row : ℕ → ℕ → Row
row positive negative = record { positive = positive; negative = negative }

-- ---- four rows: (2 3)(-1 -2)(1 -2)(2 -3)

abbrev four : List Row
four = row 6 0 ∷ row 0 3 ∷ row 1 2 ∷ row 2 4 ∷ []

-- each row adds 2 ^ -2, that is 2 ^ 30 times 2 ^ -32, to both its variables
pub weights : weight 3 four 0 0 0 ∷ weight 3 four 0 0 1 ∷ weight 3 four 0 0 2 ∷ [] ≡ 2 * 2 ^ 30 ∷ 4 * 2 ^ 30 ∷ 2 * 2 ^ 30 ∷ []
unfolding weight free_literals padding satisfied bit any count
weights = refl

pub heaviest-chosen : weighted_rule 3 four 0 0 ∷ rule 3 four 0 0 ∷ [] ≡ Choice 1 ∷ Choice 0 ∷ []
unfolding weighted_rule free_literals padding satisfied bit any count lowest
heaviest-chosen = refl

pub fewer_steps : weighted_answer 3 (always four) 99 ∷ answer_of 3 (always four) 99 ∷ []
    ≡ record { count = 5; verdict = Unsatisfiable } ∷ record { count = 7; verdict = Unsatisfiable } ∷ []
unfolding answer_with answer_of weighted_rule free_literals padding satisfied bit put any count lowest
fewer_steps = refl

-- ---- a row counts twice as much as one with a literal more, and half as much as one with a literal fewer

-- (1 2 3)(2 3): variables 2 and 3 weigh the same, and the lower is chosen; it is set true
abbrev short : List Row
short = row 7 0 ∷ row 6 0 ∷ []

pub short-rows : weight 3 short 0 0 0 ∷ weight 3 short 0 0 1 ∷ weight 3 short 0 0 2 ∷ [] ≡ 2 ^ 29 ∷ (2 ^ 29 + 2 ^ 30) ∷ (2 ^ 29 + 2 ^ 30) ∷ []
unfolding weight free_literals padding satisfied bit any count
short-rows = refl

pub lower_chosen : weighted_answer 3 (always short) 99 ≡ record { count = 2; verdict = Satisfiable 2 }
unfolding answer_with weighted_rule free_literals padding satisfied bit put any count lowest
lower_chosen = refl

-- ---- what adds nothing: padding, a satisfied row, a variable that is set

-- (1 -1 2)(2 3)(-3 2) at T = {3}: the first is padding, the second satisfied, and of the third variable 3 is set
abbrev idle : List Row
idle = row 3 1 ∷ row 6 0 ∷ row 2 4 ∷ []

pub nothing-added : weight 3 idle 4 0 0 ∷ weight 3 idle 4 0 1 ∷ weight 3 idle 4 0 2 ∷ [] ≡ 0 ∷ 2 ^ 31 ∷ 0 ∷ []
unfolding weight free_literals padding satisfied bit any count
nothing-added = refl

-- ---- rules 1 to 3 are as they were

-- that row forces its literal; an empty row is in conflict; padding alone is satisfied
pub other-rules : weighted_rule 3 idle 4 0 ∷ weighted_rule 3 (empty ∷ four) 0 0 ∷ weighted_rule 3 (row 3 1 ∷ []) 0 0 ∷ []
    ≡ Unit 1 true ∷ Conflict ∷ AllSatisfied ∷ []
unfolding weighted_rule free_literals padding satisfied bit any count lowest
other-rules = refl

-- ---- floats

-- 2 ^ 32 units are 1.0, one unit is 2 ^ -32, and the weight of 384 rows with one free literal each is 192.0
pub floats : to_bits binary64 (scaled (2 ^ 32)) ∷ to_bits binary64 (scaled 1) ∷ to_bits binary64 (scaled (384 * 2 ^ 31)) ∷ []
    ≡ 4607182418800017408 ∷ 4463067230724161536 ∷ 4640959416005296128 ∷ []
unfolding scaled round to_bits size
floats = refl
