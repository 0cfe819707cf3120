-- `check_room` meets its contract: all wires of the circuit are its inputs and its gates.
use mathlib.Core.Path.{◌≡◌, sym, ap, ap₂, ◌∙◌}
use mathlib.Core.Bool.{Bool, ◌||◌, cond}
use Prim.Native.Nat.{ℕ, ◌+◌}
use native.Mathlib.Omega.{arith}
use lib.Dec.{ltb}
use lib.ListN.{length}
use Rattle.std.specs.Prelude.{Ok, Err}
use Rattle.refusals.specs.declared.Refusal.TheVariants.{Wires}
use Rattle.refusals.proofs.Outcomes.{outcome-said}
use Rattle.sections.specs.declared.Addresses.{Addresses}
use Rattle.dimensions.specs.Sizes.{input_wires}
use Rattle.netlist.specs.Netlist.{gates_on}
use Rattle.repeats.proofs.RepeatChecks.{all_wires}
use Rattle.repeats.proofs.check_room.Goals as goal
use Rattle.repeats.proofs.check_room.Goals.{After-input_wires}

-- the test, in the definition's words
second : (c : After-input_wires) → ltb c.args.bytes c.input_wires.result || ltb c.args.wires c.of-a.result.wires
    ≡ ltb c.args.bytes (input_wires c.args.d) || ltb c.args.wires (input_wires c.args.d + length (gates_on c.args.d))
second c =
    ap₂ (λ (k l : ℕ). ltb c.args.bytes k || ltb c.args.wires l) c.input_wires.ensures
    (ap (λ (a : Addresses). a.wires) c.of-a.ensures ∙ all_wires c.args.d)

pub overflow_cast-a : goal.overflow_cast-a
overflow_cast-a c = omega arith

pub returns-then-bytes-input_wires : goal.returns-then-bytes-input_wires
returns-then-bytes-input_wires c =
    let proved = outcome-said (sym (ap (λ (b : Bool). cond b (Err Wires) (Ok tt))
    (sym (second (goal.at.returns-then-bytes-input_wires c).After-input_wires) ∙ c.if-bytes-input_wires.true))) in
    record { value = proved.0; result_value = proved.1 }

pub returns : goal.returns
returns c =
    let proved = outcome-said (sym (ap (λ (b : Bool). cond b (Err Wires) (Ok tt))
    (sym (second (goal.at.returns c).After-input_wires) ∙ c.if-bytes-input_wires.false))) in
    record { value = proved.0; result_value = proved.1 }
