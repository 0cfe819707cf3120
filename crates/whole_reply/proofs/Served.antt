-- What the program's own words, bytes and wires lead to: room for every circuit whose ceiling is served, so that only the ceiling is left to judge.
use mathlib.Core.Path.{◌≡◌, sym, ap, ap₂, ◌∙◌}
use mathlib.Core.Bool.{Bool, cond}
use mathlib.Core.List.{List, ◌∷◌}
use Prim.Native.Nat.{ℕ, ◌+◌, ◌*◌, ◌≤◌, ◌<◌}
use native.Mathlib.Omega.{arith}
use lib.Dec.{ltb}
use lib.ListN.{length}
use borrow.Author.Tests.{lt-ltb, le-ltb, ltb-true, ltb-false}
use Rattle.std.specs.Prelude.{Result, Ok, Err}
use Rattle.refusals.specs.declared.Refusal.{Refusal}
use Rattle.solver.specs.declared.Answer.{Answer}
use Rattle.refusals.specs.Numbers.{Outcome}
use Rattle.refusals.specs.Checks.{check, outcome, given}
use Rattle.refusals.specs.declared.Refusal.TheVariants as refusal
use Rattle.refusals.proofs.Outcomes.{outcome-taken}
use Rattle.words.proofs.Truth.{on}
use Rattle.dimensions.specs.declared.Dimensions.{Dimensions}
use Rattle.dimensions.specs.Sizes.{ceiling, input_wires}
use Rattle.dimensions.proofs.Limits.{within}
use Rattle.tables.specs.Tables.{Tables}
use Rattle.tables.specs.Acceptance.{table_checks}
use Rattle.netlist.specs.Netlist.{gates_for, gates_on}
use Rattle.generator.proofs.Room.{gates_few}
use Rattle.repeats.specs.Repeats.{Accepts}
use Rattle.repeats.specs.Repeating.{wire_checks}
use Rattle.repeats.proofs.RepeatChecks.{sizes-taken}
use Rattle.whole_budget.specs.Applications.{whole_answer}
use Rattle.whole_budget.specs.WholeBudget.{most_budget, whole_checks, whole_allowed, solved_whole}
use Rattle.dimacs.specs.ThreeTexts.{ThreeTables}
use Rattle.reply.specs.Reply.{dimensions_of, tables_in}
use Rattle.whole_reply.specs.WholeReply.{ceiling_checks, whole_answered}

-- 16,383 words are three for each of 5,461 gates
limit : (c : ℕ) → ltb 16383 (3 * c) ≡ ltb 5461 c
limit c =
    on (ltb 5461 c)
    (λ e. lt-ltb 16383 (3 * c) (omega (arith, ltb-true 5461 c e)) ∙ sym e)
    (λ e. le-ltb 16383 (3 * c) (omega (arith, ltb-false 5461 c e)) ∙ sym e)

-- such circuits have few inputs
inputs-few : (d : Dimensions) → ceiling d ≤ 5461 → input_wires d ≤ 255
inputs-few d h = omega arith

-- and no more gates than the ceiling
gates_most : (d : Dimensions) (tables : Tables) → Accepts d tables → length (gates_on d) ≤ ceiling d
unfolding gates_for
gates_most d tables acc = gates_few d (within d (sizes-taken d tables acc))

-- so that the last check passes
room : (d : Dimensions) (tables : Tables) → Accepts d tables → ceiling d ≤ 5461 → outcome (wire_checks d 255 5716) ≡ Ok tt
room d tables acc h =
    let i = inputs-few d h in
    let g = gates_most d tables acc in
    rw (le-ltb 255 (input_wires d) i, le-ltb 5716 (input_wires d + length (gates_on d)) (omega arith))

served : (d : Dimensions) (tables : Tables) → Accepts d tables → (budget : ℕ) → budget ≤ most_budget
    → outcome (whole_checks d tables budget 16383 255 5716) ≡ outcome (ceiling_checks d)
served d tables acc budget b =
    outcome-taken (table_checks d tables)
    (check (ltb 16383 (3 * ceiling d)) refusal.GateBuffer ∷ (check (ltb most_budget budget) refusal.WholeBudget ∷ wire_checks d 255 5716)) acc
    ∙ ap₂ (λ (x y : Bool). cond x (Err refusal.GateBuffer) (cond y (Err refusal.WholeBudget) (outcome (wire_checks d 255 5716))))
    (limit (ceiling d)) (le-ltb most_budget budget b)
    ∙ on (ltb 5461 (ceiling d))
    (λ e. rw e)
    (λ e. rw e (room d tables acc (ltb-false 5461 (ceiling d) e)))

pub whole_served : (d : Dimensions) (tables : Tables) → Accepts d tables → (budget : ℕ) → budget ≤ most_budget
    → (gates bytes wires : List ℕ) → length gates ≡ 16383 → length bytes ≡ 255 → length wires ≡ 5716
    → solved_whole d tables budget gates bytes wires ≡ given (outcome (ceiling_checks d)) (Ok (whole_answer d tables budget)) Err
unfolding solved_whole whole_allowed
whole_served d tables acc budget b gates bytes wires g y w =
    let e : outcome (whole_checks d tables budget (length gates) (length bytes) (length wires)) ≡ outcome (ceiling_checks d) =
    rw (g, y, w) (served d tables acc budget b) in
    ap (λ (o : Outcome). given o (Ok (whole_answer d tables budget)) Err) e

-- ---- by the budget

module _ (t : ThreeTables) (b : Result ℕ Refusal) (steps : ℕ) (e : b ≡ Ok steps) where
  -- the answer, by whether the budget is too large
  abbrev answer_by : Bool → Result Answer Refusal
  answer_by above =
      given (cond above (Err refusal.WholeBudget) (outcome (ceiling_checks (dimensions_of t))))
      (Ok (whole_answer (dimensions_of t) (tables_in t) steps)) Err

  -- above 65,535: 23
  pub budget_above : most_budget < steps → Err refusal.WholeBudget ≡ whole_answered t b
  budget_above h = sym (ap (whole_answered t) e ∙ ap answer_by (lt-ltb most_budget steps h))

  -- else the ceiling decides
  pub budget_within : steps ≤ most_budget
      → given (outcome (ceiling_checks (dimensions_of t))) (Ok (whole_answer (dimensions_of t) (tables_in t) steps)) Err ≡ whole_answered t b
  budget_within h = sym (ap (whole_answered t) e ∙ ap answer_by (le-ltb most_budget steps h))
