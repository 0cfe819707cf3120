-- The rule read off a tally, and the tally after a rule: what code makes of the words. Both are those of the rule (`after-rule`,
-- `tally/proofs/AfterRule`).
use Rattle.std.specs.Prelude.{ℕ, ◌+◌, ◌-◌, ◌*◌, Bool, true, ◌&&◌, ◌||◌, cond, List, eqb, get_or}
use Rattle.std.specs.Int.Bits.{bit_or}
use Rattle.words.specs.Sets.{bit, any, lowest}
use Rattle.scan.specs.declared.Rule.{Rule}
use Rattle.scan.specs.declared.Rule.TheVariants.{AllSatisfied, Conflict, Unit, Choice}
use Rattle.tally.specs.declared.Tally.{Tally}
use Rattle.tally.specs.Words.{tally_after}
use Rattle.tally.specs.RowsSeen.{surveyed}

-- the variable occurs in a row of part w of a set
abbrev pub touches : List ℕ → ℕ → ℕ → ℕ → Bool
touches index v w part = any (λ j. bit part j && (bit (get_or index (6 * v + w) 0) j || bit (get_or index (6 * (32 + v) + w) 0) j)) 64

abbrev pub stands_in : List ℕ → ℕ → List ℕ → Bool
stands_in index v set =
    touches index v 0 (get_or set 0 0) || touches index v 1 (get_or set 1 0) || touches index v 2 (get_or set 2 0)
    || touches index v 3 (get_or set 3 0) || touches index v 4 (get_or set 4 0) || touches index v 5 (get_or set 5 0)

-- rule 4: the lowest of the free variables that occurs in a row of the set
abbrev pub chosen_by : List ℕ → ℕ → List ℕ → ℕ
chosen_by index unset set = lowest (λ v. bit unset v && stands_in index v set) 32

-- the first rule that applies
unfoldable pub rule_by : List ℕ → ℕ → ℕ → Tally → Rule
rule_by index t f tally =
    let forced = bit_or tally.positive tally.negative in
    cond (eqb tally.number 0) AllSatisfied
    (cond tally.conflict Conflict
    (cond (eqb forced 0) (Choice (chosen_by index (4294967295 - bit_or t f) tally.unsatisfied))
    (let v = lowest (bit forced) 32 in Unit v (bit tally.positive v))))

-- what code makes of a tally after a rule: of T and F as they were, t and f, and as they are then
abbrev pub tally_by : List ℕ → ℕ → List ℕ → ℕ → ℕ → ℕ → ℕ → Rule → Tally → Tally
tally_by words m index t f t' f' AllSatisfied tally = tally
tally_by words m index t f t' f' Conflict tally = surveyed words index m t' f'
tally_by words m index t f t' f' (Unit v positive) tally = tally_after words index t f v positive tally
tally_by words m index t f t' f' (Choice v) tally = tally_after words index t f v true tally
