-- What a step tells, rule by rule, as the definition has it.
use mathlib.Core.Path.{◌≡◌, sym, ap, ◌∙◌}
use mathlib.Core.Bool.{Bool}
use mathlib.Core.List.{List}
use Prim.Native.Nat.{ℕ}
use Rattle.words.specs.declared.Row.{Row}
use Rattle.state.specs.declared.Standing.{Standing}
use Rattle.state.specs.declared.Standing.TheVariants.{Open, Satisfied, Refuted}
use Rattle.state.specs.State.{State, if_open}
use Rattle.scan.specs.declared.Rule.{Rule}
use Rattle.scan.specs.declared.Rule.TheVariants as rules
use Rattle.scan.specs.Rules as Rules
use Rattle.explained.specs.declared.Told.{Told}
use Rattle.explained.specs.declared.Told.TheVariants.{Nothing, AllSatisfied, Forced, Chosen}
use Rattle.explained.specs.Explanation.{lowest_row, shows, told_back, told, explanation}

module _ (n : ℕ) (rows : List Row) (s : State) where
  -- ---- the rule found, and what its case tells

  module _ (found rule : Rule) (e : found ≡ rule) where
    as_found : (by : Rule) → found ≡ by → told n rows s by ≡ told n rows s rule
    as_found by q = ap (told n rows s) (sym q ∙ e)

    pub tells-satisfied : found ≡ rules.AllSatisfied → AllSatisfied ≡ told n rows s rule
    unfolding told
    tells-satisfied q = as_found rules.AllSatisfied q

    pub tells_conflict : found ≡ rules.Conflict → (row : ℕ) → row ≡ lowest_row (shows n s.t s.f found) rows
        → (x : Told) → x ≡ told_back row s.levels → x ≡ told n rows s rule
    unfolding told
    tells_conflict q row h x k =
        k ∙ ap (λ (i : ℕ). told_back i s.levels) (h ∙ ap (λ (y : Rule). lowest_row (shows n s.t s.f y) rows) q) ∙ as_found rules.Conflict q

    pub tells-unit : (v : ℕ) (value : Bool) → found ≡ rules.Unit v value → (row : ℕ) → row ≡ lowest_row (shows n s.t s.f (rules.Unit v value)) rows
        → Forced row v value ≡ told n rows s rule
    unfolding told
    tells-unit v value q row h = ap (λ (i : ℕ). Forced i v value) h ∙ as_found (rules.Unit v value) q

    pub tells-choice : (v : ℕ) → found ≡ rules.Choice v → Chosen v ≡ told n rows s rule
    unfolding told
    tells-choice v q = as_found (rules.Choice v) q

  -- ---- open or closed

  explains : (st : Standing) → s.standing ≡ st → if_open st (told n rows s (Rules.rule n rows s.t s.f)) Nothing ≡ explanation n rows s
  unfolding explanation
  explains st e = ap (λ (x : Standing). if_open x (told n rows s (Rules.rule n rows s.t s.f)) Nothing) (sym e)

  pub explains_open : s.standing ≡ Open → told n rows s (Rules.rule n rows s.t s.f) ≡ explanation n rows s
  explains_open e = explains Open e

  pub explains_satisfied : s.standing ≡ Satisfied → Nothing ≡ explanation n rows s
  explains_satisfied e = explains Satisfied e

  pub explains_refuted : s.standing ≡ Refuted → Nothing ≡ explanation n rows s
  explains_refuted e = explains Refuted e
