-- What is told: nothing exactly if the run was closed; and where a conflict or a forced literal is told, some row shows the rule, so that the row named is the
-- lowest that does. The first by the cases of the rule, the second from what holds where each rule applies.
use mathlib.Core.Path.{◌≡◌, refl, sym, ap, ◌∙◌}
use mathlib.Core.Bool.{Bool, true, false, ◌&&◌, ◌||◌, false≢true}
use mathlib.Core.List.{List, [], ◌∷◌}
use Prim.Native.Nat.{ℕ, suc, ◌≤◌}
use native.Mathlib.Omega.{arith}
use lib.ListN.{get_or}
use Rattle.words.specs.declared.Row.{Row}
use Rattle.words.specs.Sets.{bit}
use Rattle.words.proofs.Truth.{and_r, and_i}
use Rattle.tables.specs.Rows.{free, holds}
use Rattle.occurrences.specs.Index.{holds_literal}
use Rattle.state.specs.declared.Level.{Level}
use Rattle.state.specs.declared.Standing.{Standing}
use Rattle.state.specs.declared.Standing.TheVariants.{Open, Satisfied, Refuted}
use Rattle.state.specs.State.{State, if_open}
use Rattle.scan.specs.declared.Rule.{Rule}
use Rattle.scan.specs.declared.Rule.TheVariants as rules
use Rattle.scan.specs.Rules.{rule}
use Rattle.scan.proofs.RowLaws.{any-row-i}
use Rattle.truth.proofs.RuleLaws.{Conflicts, Forces, ruled}
use Rattle.explained.specs.declared.Told.{Told}
use Rattle.explained.specs.declared.Told.TheVariants.{Nothing}
use Rattle.explained.specs.Explanation.{lowest_row, shows, told_back, told, explanation, told_numbers}
use Rattle.explained.proofs.LowestRow.{Lowest, lowest-some}

-- ---- nothing is told exactly if the run was closed

-- the rule's number
abbrev rule_number : Told → ℕ
rule_number t = get_or (told_numbers t) 0 0

back-number : (row : ℕ) (levels : List Level) → 2 ≤ rule_number (told_back row levels)
back-number row [] = omega arith
back-number row (l ∷ ls) = omega arith

module _ (n : ℕ) (rows : List Row) (s : State) where
  told-number : (by : Rule) → 1 ≤ rule_number (told n rows s by)
  unfolding told
  told-number rules.AllSatisfied = omega arith
  told-number rules.Conflict = omega (arith, back-number (lowest_row (shows n s.t s.f rules.Conflict) rows) s.levels)
  told-number (rules.Unit v value) = omega arith
  told-number (rules.Choice v) = omega arith

  pub closed-nothing : if_open s.standing false true ≡ true → explanation n rows s ≡ Nothing
  unfolding explanation
  closed-nothing = go s.standing
    where
      go : (st : Standing) → if_open st false true ≡ true → if_open st (told n rows s (rule n rows s.t s.f)) Nothing ≡ Nothing
      go Open e = absurd (let z : ◌≡◌ {A = Bool} false true = e in false≢true z)
      go Satisfied e = refl
      go Refuted e = refl

  pub nothing-closed : explanation n rows s ≡ Nothing → if_open s.standing false true ≡ true
  unfolding explanation
  nothing-closed = go s.standing
    where
      go : (st : Standing) → if_open st (told n rows s (rule n rows s.t s.f)) Nothing ≡ Nothing → if_open st false true ≡ true
      go Open e = absurd (let z : rule_number (told n rows s (rule n rows s.t s.f))
          ≡ 0 = ap rule_number e in omega (arith, z, told-number (rule n rows s.t s.f)))
      go Satisfied e = refl
      go Refuted e = refl

-- ---- the row named is there

-- the one free literal's sign is the one taken
held : (r : Row) (v : ℕ) (a positive : Bool) → a && holds r v ≡ true → positive ≡ bit r.positive v → holds_literal positive v r ≡ true
held r v a true h e = sym e
held r v a false h e = ap (λ (b : Bool). b || bit r.negative v) e ∙ and_r a (holds r v) h

module _ (n : ℕ) (rows : List Row) (t f : ℕ) where
  -- the number is that of the lowest row that shows the rule
  abbrev pub Named : Rule → Type 0
  Named by = (k : ℕ) × (lowest_row (shows n t f by) rows ≡ suc k) × Lowest (shows n t f by) rows k

  conflict_shown : Conflicts n rows t f → Named rules.Conflict
  conflict_shown c = lowest-some (shows n t f rules.Conflict) rows (any-row-i (shows n t f rules.Conflict) rows c.row c.of_rows c.no_literal)

  unit-shown : (v : ℕ) (positive : Bool) → Forces n rows t f v positive → Named (rules.Unit v positive)
  unit-shown v positive w =
      lowest-some (shows n t f (rules.Unit v positive)) rows
      (any-row-i (shows n t f (rules.Unit v positive)) rows w.row w.of_rows
      (and_i (and_i w.one-literal w.free_there) (held w.row v (free t f v) positive w.free_there w.sign)))

  -- the lowest row in conflict
  pub conflict_named : rule n rows t f ≡ rules.Conflict → Named rules.Conflict
  conflict_named e = conflict_shown (rw e at (ruled n rows t f))

  -- the lowest row that forces the literal taken
  pub unit-named : (v : ℕ) (positive : Bool) → rule n rows t f ≡ rules.Unit v positive → Named (rules.Unit v positive)
  unit-named v positive e = unit-shown v positive (rw e at (ruled n rows t f))
