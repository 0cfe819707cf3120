-- The tally after the rule that applies is exactly that of T and F then: by cases on the rule.
use mathlib.Core.Path.{◌≡◌, ◌∙◌, subst}
use mathlib.Core.Bool.{Bool, true, false}
use mathlib.Core.List.{List}
use Prim.Native.Nat.{ℕ, ◌^◌, ◌<◌}
use native.Mathlib.Nat.{lt_of_lt_of_le}
use native.Mathlib.Omega.{arith}
use lib.Pow.{pow_mono}
use Rattle.words.specs.declared.Row.{Row}
use Rattle.tables.specs.Rows.{rows_from}
use Rattle.scan.specs.declared.Rule.{Rule}
use Rattle.scan.specs.declared.Rule.TheVariants.{AllSatisfied, Conflict, Unit, Choice}
use Rattle.scan.specs.Rules.{any_row, unsatisfied_with, rule}
use Rattle.state.specs.State.{State}
use Rattle.state.proofs.WellFormedLaws.{Formed}
use Rattle.solver.specs.Step.{follow}
use Rattle.truth.proofs.RuleLaws.{Ruled, ruled, Settable, rule-unit, rule-choice}
use Rattle.solver.proofs.StepLaws.{follow_formed}
use Rattle.solver.proofs.WidthLaws.{rule_width}
use Rattle.tables.proofs.Numbering.{table-length}
use Rattle.tally.specs.declared.Tally.{Tally}
use Rattle.tally.specs.Tallies.{tally_of}
use Rattle.tally.specs.RowsSeen.{surveyed}
use Rattle.tally.specs.Ruling.{rule_by, tally_by}
use Rattle.tally.proofs.AfterRule.{after-rule}
use Rattle.tally.proofs.AfterSurvey.{after_survey}
use Rattle.tally.proofs.AfterSetting.{Ready, after_setting}
use Rattle.indexed.specs.Tallied.{Indexed}
use Rattle.indexed.proofs.RuleTests.{unit_calm, choice_calm}

module _ (n : ℕ) (words : List ℕ) (m : ℕ) (index : List ℕ) (x : Indexed n words m index) where
  abbrev rows : List Row
  rows = rows_from words 0 m

  -- the rule at 32 variables
  pub wide : (t f : ℕ) → rule 32 rows t f ≡ rule n rows t f
  wide t f = rule_width n 32 x.most t f rows x.low

  -- surveying the rows gives the tally of T and F
  pub survey_exact : (t f : ℕ) → t < 2 ^ 32 → f < 2 ^ 32 → surveyed words index m t f ≡ tally_of rows t f
  survey_exact t f ht hf = after_survey words m index t f x.few x.indexed ht hf

  wide_low : {a : ℕ} → a < 2 ^ n → a < 2 ^ 32
  wide_low h = lt_of_lt_of_le h (pow_mono x.most)

  module _ (s : State) (o : Formed n s) (tally : Tally) (exact : tally ≡ tally_of rows s.t s.f) where
    t_low : s.t < 2 ^ 32
    t_low = wide_low o.own.low_t

    f-low : s.f < 2 ^ 32
    f-low = wide_low o.own.low-f

    -- the rule read off the tally
    pub rule-read : rule_by index s.t s.f tally ≡ rule n rows s.t s.f
    rule-read = after-rule rows s.t s.f (omega (arith, table-length words 0 m, x.few)) t_low f-low index tally x.indexed exact ∙ wide s.t s.f

    -- a variable that may be set, where no row is in conflict, is one that the tally can be followed by
    pub ready : (v : ℕ) → Settable n rows s.t s.f v → any_row (unsatisfied_with 0 32 s.t s.f) rows ≡ false → Ready words m index s.t s.f v tally
    ready v w calm = record {
      few = x.few;
      indexed = x.indexed;
      t_low = t_low;
      f-low = f-low;
      low = omega (arith, w.low, x.most);
      was_free = w.is_free;
      exact = exact;
      calm = calm;
    }

    unit_ready : (v : ℕ) (positive : Bool) → rule n rows s.t s.f ≡ Unit v positive → Ready words m index s.t s.f v tally
    unit_ready v positive e =
        ready v (rule-unit n rows s.t s.f v positive e) (unit_calm 32 rows s.t s.f v positive (wide s.t s.f ∙ e))

    choice_ready : (v : ℕ) → rule n rows s.t s.f ≡ Choice v → Ready words m index s.t s.f v tally
    choice_ready v e = ready v (rule-choice n rows s.t s.f v e) (choice_calm 32 rows s.t s.f v (wide s.t s.f ∙ e))

    -- the tally after the giant step's rule is exactly that of T and F then
    pub tally_is : (k : Rule) → rule n rows s.t s.f ≡ k
        → tally_by words m index s.t s.f (follow s k).t (follow s k).f k tally ≡ tally_of rows (follow s k).t (follow s k).f
    tally_is AllSatisfied e = exact
    tally_is Conflict e =
        let next = (follow_formed n rows s Conflict (subst (λ (k : Rule). Ruled n rows s.t s.f k) e (ruled n rows s.t s.f)) o).own in
        survey_exact (follow s Conflict).t (follow s Conflict).f (wide_low next.low_t) (wide_low next.low-f)
    tally_is (Unit v true) e = after_setting words m index s.t s.f v tally (unit_ready v true e) true
    tally_is (Unit v false) e = after_setting words m index s.t s.f v tally (unit_ready v false e) false
    tally_is (Choice v) e = after_setting words m index s.t s.f v tally (choice_ready v e) true
