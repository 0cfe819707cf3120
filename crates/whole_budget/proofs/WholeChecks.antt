-- What the checks of a call of `solve_whole` lead to, each by its condition, what a call that passes them may take for granted, and what the call gives then.
-- From the order of the checks.
use mathlib.Core.Path.{◌≡◌, refl, sym, ap, ◌∙◌}
use mathlib.Core.List.{List, ◌∷◌}
use Prim.Native.Nat.{ℕ, ◌+◌, ◌*◌, ◌≤◌, ◌<◌}
use lib.Dec.{ltb}
use lib.ListN.{length}
use borrow.Author.Tests.{lt-ltb, le-ltb, ltb-false}
use Rattle.std.specs.Prelude.{Result, Ok, Err}
use Rattle.solver.specs.declared.Answer.{Answer}
use Rattle.refusals.specs.Checks.{Check, check, outcome}
use Rattle.refusals.specs.Numbers.{said}
use Rattle.refusals.specs.declared.Refusal.{Refusal}
use Rattle.refusals.specs.declared.Refusal.TheVariants as refusal
use Rattle.refusals.proofs.Outcomes.{outcome-taken, outcome-refused, outcome_parts, check_passed, checks-taken}
use Rattle.dimensions.specs.declared.Dimensions.{Dimensions}
use Rattle.dimensions.specs.Sizes.{ceiling, input_wires}
use Rattle.tables.specs.Tables.{Tables}
use Rattle.tables.specs.Acceptance.{table_checks}
use Rattle.solver.specs.Entries.{answer_numbers, solved_code, solved_numbers}
use Rattle.netlist.specs.Netlist.{gates_on}
use Rattle.generator.specs.Generation.{written_words}
use Rattle.repeats.specs.Repeating.{generation_checks, wire_checks}
use Rattle.repeats.proofs.RepeatChecks.{words_passed, room_passed}
use Rattle.whole_budget.specs.Applications.{whole_answer}
use Rattle.whole_budget.specs.WholeBudget.{
  most_budget,
  whole_checks,
  cleared,
  whole_allowed,
  solved_whole,
  gates_after_whole,
  bytes_after_whole,
  wires_after_whole,
}

-- ---- what the checks say

module _ (d : Dimensions) (tables : Tables) (budget gates bytes wires : ℕ) where
  abbrev later : List Check
  later = check (ltb most_budget budget) refusal.WholeBudget ∷ wire_checks d bytes wires

  pub refuse_words : (r : Refusal) → outcome (generation_checks d tables gates) ≡ Err r
      → Err r ≡ outcome (whole_checks d tables budget gates bytes wires)
  refuse_words r e = sym (outcome-refused (generation_checks d tables gates) later r e)

  module _ (e : outcome (generation_checks d tables gates) ≡ Ok tt) where
    pub refuse_budget : most_budget < budget → Err refusal.WholeBudget ≡ outcome (whole_checks d tables budget gates bytes wires)
    refuse_budget h = sym (outcome-taken (generation_checks d tables gates) later e ∙ rw (lt-ltb most_budget budget h))

    pub room_decides : budget ≤ most_budget → outcome (wire_checks d bytes wires) ≡ outcome (whole_checks d tables budget gates bytes wires)
    room_decides h = sym (outcome-taken (generation_checks d tables gates) later e ∙ rw (le-ltb most_budget budget h))

-- ---- what a call that is taken knows

-- accepted tables, room for the ceiling's gate words, for the inputs' bytes and for all wires, and a budget that is not too large
pub record Passed (d : Dimensions) (tables : Tables) (budget gates bytes wires : ℕ) : Type 0 where
  pub tables-taken : outcome (table_checks d tables) ≡ Ok tt
  pub words-enough : 3 * ceiling d ≤ gates
  pub budget_most : budget ≤ most_budget
  pub bytes-enough : input_wires d ≤ bytes
  pub wires_enough : input_wires d + length (gates_on d) ≤ wires

-- where the checks of a call of `solve_whole` are passed, all of these hold
pub passed : (d : Dimensions) (tables : Tables) (budget gates bytes wires : ℕ) → outcome (whole_checks d tables budget gates bytes wires) ≡ Ok tt
    → Passed d tables budget gates bytes wires
passed d tables budget gates bytes wires e =
    let parts = outcome_parts (generation_checks d tables gates) (later d tables budget gates bytes wires) e in
    let w = words_passed d tables gates parts.0 in
    let above = ltb most_budget budget in
    let r = room_passed d bytes wires (checks-taken above refusal.WholeBudget _ parts.1) in record {
      tables-taken = w.0;
      words-enough = w.1;
      budget_most = ltb-false most_budget budget (check_passed above refusal.WholeBudget _ parts.1);
      bytes-enough = r.0;
      wires_enough = r.1;
    }

-- ---- the call

module _ (d : Dimensions) (tables : Tables) (budget : ℕ) (gates bytes wires : List ℕ) where
  -- result and buffers are the definitions', and the result says its number and its values
  abbrev Meets : Result Answer Refusal → List ℕ → List ℕ → List ℕ → Type 0
  Meets x g b w =
      (x ≡ solved_whole d tables budget gates bytes wires)
      × ((g ≡ gates_after_whole d tables budget gates bytes wires)
      × ((b ≡ bytes_after_whole d tables budget gates bytes wires)
      × ((w ≡ wires_after_whole d tables budget gates bytes wires)
      × (solved_code x ∷ solved_numbers x
      ≡ said (outcome (whole_checks d tables budget (length gates) (length bytes) (length wires))) (answer_numbers (whole_answer d tables budget))))))

  pub whole-refused : (r : Refusal) → outcome (whole_checks d tables budget (length gates) (length bytes) (length wires)) ≡ Err r
      → Meets (Err r) gates bytes wires
  unfolding whole_allowed solved_whole gates_after_whole bytes_after_whole wires_after_whole
  whole-refused r e = rw e (refl, (refl, (refl, (refl, refl))))

  pub whole-taken : outcome (whole_checks d tables budget (length gates) (length bytes) (length wires)) ≡ Ok tt
      → (x : Result Answer Refusal) (g b w : List ℕ) → x ≡ Ok (whole_answer d tables budget) → g ≡ written_words d gates
      → b ≡ cleared (input_wires d) bytes → w ≡ cleared (input_wires d + length (gates_on d)) wires → Meets x g b w
  unfolding whole_allowed solved_whole gates_after_whole bytes_after_whole wires_after_whole
  whole-taken e x g b w p q s t = rw e (p, (q, (s, (t, ap (λ (y : Result Answer Refusal). solved_code y ∷ solved_numbers y) p))))
