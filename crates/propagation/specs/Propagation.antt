-- When a clause follows from rows: its negation is assumed, literals are forced, and a conflict is reached (document 02, "Proofs from other
-- solvers"). Conflict and forced literal are those of rules 2 and 3 of the giant step. A row's word has 32 bits.
-- Ask: Have document 02's paragraph on proofs beside you. Is the negation of an added clause assumed, and is a conflict one of rule 2, a
-- forced literal one of rule 3?
use Rattle.std.specs.Prelude.{ℕ, zero, suc, Bool, true, false, ◌||◌, List}
use Rattle.words.specs.declared.Row.{Row}
use Rattle.words.specs.Sets.{put}
use Rattle.tables.specs.Rows.{padding}
use Rattle.scan.specs.Rules.{any_row, unsatisfied_with, forced_variable, forced_true}

-- T with the variable, if its positive literal is made true
abbrev pub true_with : ℕ → Bool → ℕ → ℕ
true_with v true t = put t v
true_with v false t = t

-- F with the variable, if its negative literal is
abbrev pub false_with : ℕ → Bool → ℕ → ℕ
false_with v true f = f
false_with v false f = put f v

-- from T and F on a conflict is reached, with fewer than k literals forced: some unsatisfied row has no free literal, or some has exactly
-- one, which is made true
unfoldable pub reaches : ℕ → List Row → ℕ → ℕ → Bool
unfolding any_row unsatisfied_with forced_variable forced_true
reaches zero rows t f = false
reaches (suc k) rows t f =
    elim (any_row (unsatisfied_with 0 32 t f) rows) [
      | true ↦ true
      | false ↦ elim (any_row (unsatisfied_with 1 32 t f) rows) [
        | true ↦ let v = forced_variable 32 rows t f in
            let positive = forced_true 32 rows t f v in
            reaches k rows (true_with v positive t) (false_with v positive f)
        | false ↦ false
      ]
    ]

-- a clause follows if it holds a variable in both signs, or if its negation leads to a conflict: there are 32 variables, so that no more
-- literals are forced
unfoldable pub follows : List Row → Row → Bool
unfolding padding reaches
follows rows c = padding 32 c || reaches 33 rows c.negative c.positive
