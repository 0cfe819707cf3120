-- The call that generates the circuit and applies it through a whole budget. Every refusal is judged before anything is written: 1, 2, 4,
-- 3, 7, 23, 10. Afterwards bytes and wires are zeros where they were used: the last wires would tell the closing wire, and the bytes the
-- rows.
-- Ask: What is left in bytes and wires? Is 23 before 10?
use Rattle.refusals.specs.declared.Refusal.{Refusal}
use Rattle.solver.specs.declared.Answer.{Answer}
use Rattle.refusals.specs.Numbers.{Outcome}
use Rattle.std.specs.Prelude.{ℕ, ◌+◌, List, ◌∷◌, ◌++◌, ltb, replicate, Result, Ok, Err}
use Rattle.std.proofs.Math.ListN.{length}
use Rattle.refusals.specs.Checks.{Check, check, outcome, given}
use Rattle.refusals.specs.declared.Refusal.TheVariants as refusal
use Rattle.dimensions.specs.declared.Dimensions.{Dimensions}
use Rattle.dimensions.specs.Sizes.{input_wires}
use Rattle.tables.specs.Tables.{Tables}
use Rattle.gates.specs.Memory.{over}
use Rattle.netlist.specs.Netlist.{gates_on}
use Rattle.generator.specs.Generation.{written_words}
use Rattle.repeats.specs.Repeating.{generation_checks, wire_checks}
use Rattle.whole_budget.specs.Applications.{whole_answer}

-- the greatest budget that is gone through whole
abbrev pub most_budget : ℕ
most_budget = 65535

-- 1, 2, 4, 3, 7; 23 where the budget is above 65,535; 10
abbrev pub whole_checks : Dimensions → Tables → ℕ → ℕ → ℕ → ℕ → List Check
whole_checks d tables budget gates bytes wires =
    generation_checks d tables gates ++ (check (ltb most_budget budget) refusal.WholeBudget ∷ wire_checks d bytes wires)

-- zeros over the first k
abbrev pub cleared : ℕ → List ℕ → List ℕ
cleared k list = over (replicate k 0) list

module _ (d : Dimensions) (tables : Tables) (budget : ℕ) (gates bytes wires : List ℕ) where
  -- what the checks say
  unfoldable pub whole_allowed : Outcome
  whole_allowed = outcome (whole_checks d tables budget (length gates) (length bytes) (length wires))

  -- what the call gives
  unfoldable pub solved_whole : Result Answer Refusal
  unfolding whole_allowed whole_answer
  solved_whole = given whole_allowed (Ok (whole_answer d tables budget)) Err

  -- the gate words afterwards: the generator's; refused, as they were, and so the others
  unfoldable pub gates_after_whole : List ℕ
  unfolding whole_allowed
  gates_after_whole = given whole_allowed (written_words d gates) (λ r. gates)

  -- the bytes: zeros for the inputs, then what was there
  unfoldable pub bytes_after_whole : List ℕ
  unfolding whole_allowed
  bytes_after_whole = given whole_allowed (cleared (input_wires d) bytes) (λ r. bytes)

  -- the wires: zeros for all of the circuit's, then what was there
  unfoldable pub wires_after_whole : List ℕ
  unfolding whole_allowed
  wires_after_whole = given whole_allowed (cleared (input_wires d + length (gates_on d)) wires) (λ r. wires)
