-- What it comes to that gate words carry out the giant step, in a reader's words. From the fields of the record alone, each of which is used:
-- one that said less would be refused here.
use mathlib.Core.Path.{◌≡◌, refl, ap, ◌∙◌}
use mathlib.Core.Bool.{true, false, false≢true}
use mathlib.Core.List.{List, [], ◌∷◌, ◌++◌}
use Prim.Native.Nat.{ℕ, ◌+◌, ◌/◌, ◌≤◌}
use native.Mathlib.Omega.{arith}
use lib.ListN.{length}
use borrow.Author.Tests.{le-ltb}
use Rattle.std.specs.Prelude.{Ok}
use Rattle.refusals.specs.Checks.{outcome}
use Rattle.dimensions.specs.declared.Dimensions.{Dimensions}
use Rattle.dimensions.specs.Sizes.{ceiling, input_wires}
use Rattle.tables.specs.Tables.{Tables}
use Rattle.tables.specs.Rows.{rows_of}
use Rattle.state.specs.declared.Standing.{Standing}
use Rattle.state.specs.declared.Standing.TheVariants.{Open, Satisfied, Refuted}
use Rattle.state.specs.State.{State, if_open}
use Rattle.state.specs.WellFormed.{well_formed_state}
use Rattle.scan.specs.Rules.{rule}
use Rattle.solver.specs.Step.{follow, step}
use Rattle.gates.specs.Memory.{bytes_of, bits}
use Rattle.two_pass.specs.Evaluation.{evaluation_checks, filled_wires}
use Rattle.wires.specs.Layout.{state_bits}
use Rattle.wires.specs.Packing.{input_bits}
use Rattle.netlist.specs.Outputs.{closed, output_bits, outputs_in, CarriesOut}

module _ (d : Dimensions) (gates : List ℕ) (carries : CarriesOut d gates) where
  -- as many wires as the ceiling allows are always enough
  pub ceiling-enough : (wires : List ℕ) → input_wires d + ceiling d ≤ length wires → input_wires d + length gates / 3 ≤ length wires
  ceiling-enough wires h = omega (arith, carries.few)

  -- the evaluator takes the gates on any bytes that are wires, those of no state too
  pub any-inputs : (inputs wires : List ℕ) → length inputs ≡ input_wires d → bits inputs ≡ true → input_wires d + ceiling d ≤ length wires
      → outcome (evaluation_checks gates inputs wires) ≡ Ok tt
  any-inputs inputs wires l b h =
      rw (l, carries.taken, le-ltb (length wires) (input_wires d + length gates / 3) (ceiling-enough wires h), b)

  module _ (tables : Tables) (s : State) (wires : List ℕ) (formed : well_formed_state d.n s ≡ true) (long : input_wires d + ceiling d ≤ length wires) where
    abbrev out : List ℕ
    out = outputs_in d gates (filled_wires gates (bytes_of (input_bits d tables s)) wires)

    -- a closed state passes through, and the closing wire is 1
    pub closed-passes : closed s ≡ true → out ≡ bytes_of (state_bits d.n s ++ (true ∷ []))
    unfolding output_bits step
    closed-passes h = (carries.steps tables s wires formed (ceiling-enough wires long)).1 ∙ go s.standing refl h
      where
        go : (st : Standing) → s.standing ≡ st → if_open st false true ≡ true
            → bytes_of (output_bits d.n (rows_of d tables) s) ≡ bytes_of (state_bits d.n s ++ (true ∷ []))
        go Open e h = absurd (false≢true h)
        go Satisfied e h = rw e
        go Refuted e h = rw e

    -- an open state follows the rule that applies, and the closing wire says whether that closed it
    pub open_follows : s.standing ≡ Open
        → let next = follow s (rule d.n (rows_of d tables) s.t s.f) in out ≡ bytes_of (state_bits d.n next ++ (closed next ∷ []))
    unfolding output_bits step
    open_follows e =
        (carries.steps tables s wires formed (ceiling-enough wires long)).1
        ∙ ap (λ (next : State). bytes_of (state_bits d.n next ++ (closed next ∷ [])))
        (ap (λ (st : Standing). if_open st (follow s (rule d.n (rows_of d tables) s.t s.f)) s) e)
