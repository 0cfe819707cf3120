-- A proof: clauses added and deleted, one after the other, against rows (document 02, "Proofs from other solvers").
-- Ask: Does a deletion take one row?
use Rattle.std.specs.Prelude.{ℕ, suc, Bool, true, false, not, ◌&&◌, ◌||◌, cond, List, [], ◌∷◌, ◌++◌, eqb}
use Rattle.refusals.specs.Checks.{Check, check}
use Rattle.refusals.specs.declared.Refusal.TheVariants.{NotFollowing, NoEmptyClause}
use Rattle.words.specs.declared.Row.{Row}
use Rattle.propagation.specs.Propagation.{follows}

-- a line: a clause added or deleted
pub data ProofLine : Type 0 where
  added : Row → ProofLine
  deleted : Row → ProofLine

-- no literals
abbrev pub is_empty : Row → Bool
is_empty c = eqb c.positive 0 && eqb c.negative 0

-- the same literals: the same two words
abbrev pub is_same_row : Row → Row → Bool
is_same_row c r = eqb c.positive r.positive && eqb c.negative r.negative

-- the rows without the first that has the same literals; all of them if none has
unfoldable pub without : Row → List Row → List Row
without c [] = []
without c (r ∷ rs) = cond (is_same_row c r) rs (r ∷ without c rs)

-- each addition, up to the empty clause, follows from the rows present then; an added clause is a row from then on
unfoldable pub all_follow : List Row → List ProofLine → Bool
all_follow rows [] = true
all_follow rows (added c ∷ ls) = follows rows c && (is_empty c || all_follow (rows ++ (c ∷ [])) ls)
all_follow rows (deleted c ∷ ls) = all_follow (without c rows) ls

-- the empty clause is added
unfoldable pub adds_empty : List ProofLine → Bool
adds_empty [] = false
adds_empty (added c ∷ ls) = is_empty c || adds_empty ls
adds_empty (deleted c ∷ ls) = adds_empty ls

-- how many clauses are added, the empty one and those after it too
unfoldable pub additions : List ProofLine → ℕ
additions [] = 0
additions (added c ∷ ls) = suc (additions ls)
additions (deleted c ∷ ls) = additions ls

-- 19: an addition that does not follow, up to the empty clause; 20: no empty clause added
abbrev pub addition_checks : List Row → List ProofLine → List Check
addition_checks rows ls = check (not (all_follow rows ls)) NotFollowing ∷ check (not (adds_empty ls)) NoEmptyClause ∷ []
