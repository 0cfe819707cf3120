-- The circuit carries out the giant step: fed with the bits of rows and of a well-formed state, its last wires are those of the next state,
-- then whether it is closed. Its gates hold of its wires, so the wires meet the equations; the inputs come first, the outputs last.
use mathlib.Core.Path.{◌≡◌, ap, ap₂, sym, ◌∙◌, subst, fun_ext}
use mathlib.Core.Bool.{Bool, true}
use mathlib.Core.List.{List, [], ◌∷◌, ◌++◌, append_assoc}
use Prim.Native.Nat.{ℕ, suc, ◌+◌, ◌*◌, ◌^◌, ◌≤◌, ◌<◌}
use native.Mathlib.Omega.{arith}
use lib.ListN.{length, drop}
use Rattle.words.specs.declared.Row.{Row}
use Rattle.dimensions.specs.Sizes.{state_wire_count}
use Rattle.state.specs.State.{State}
use Rattle.state.specs.WellFormed.{well_formed_state}
use Rattle.state.proofs.WellFormedLaws.{formed_e}
use Rattle.gates.specs.Gates.{wire, wires_of}
use Rattle.gates.proofs.Circuits.{ordered, wires_length}
use Rattle.wires.specs.Layout.{rows_bits, state_bits}
use Rattle.wires.specs.Bits.{bits_in, bits_in_order, state_at}
use Rattle.wires.proofs.Series.{upto-more}
use Rattle.wires.proofs.Addresses.{Same, positive-at, negative-at, rows_past, state-at, state-row}
use Rattle.sections.specs.declared.Addresses.{Addresses}
use Rattle.sections.specs.Addressing.{addresses_of}
use Rattle.netlist.specs.Outputs.{output_bits}
use Rattle.netlist.specs.Netlist.{circuit}
use Rattle.netlist.proofs.Equations as First
use Rattle.netlist.proofs.Changes as Second
use Rattle.netlist.proofs.Steps.{Whole, circuit_steps}
use Rattle.netlist.proofs.LastWires.{wires_behind, last_wires}
use Rattle.netlist.proofs.Values.{Holds, holds}
use Rattle.netlist.proofs.Counts.{circuit-length}
use Rattle.netlist.proofs.SectionGates.{Sections, sections}
use Rattle.netlist.proofs.Wiring.{first_wires, second_wires, halves-joined}
use Rattle.netlist.proofs.CellWiring.{cells-met}
use Rattle.netlist.proofs.ChangeWiring.{changes_met}
use Rattle.netlist.proofs.Accepted.{circuit-ordered}

module _ (n b : ℕ) (rows : List Row) (s : State) (a-row : 0 < length rows) (room : n ≤ 2 ^ b) where
  abbrev inputs : List Bool
  inputs = rows_bits n rows ++ state_bits n s

  abbrev a : Addresses
  a = addresses_of n (length rows) b

  abbrev list : List Bool
  list = wires_of inputs (circuit a)

  abbrev u : First.Wires
  u = first_wires (wire list) a

  abbrev w : Second.Wires
  w = second_wires (wire list) a

  -- the gates' wires, after rows and state
  abbrev rest : List Bool
  rest = (wires_behind inputs (circuit a)).0

  in_parts : list ≡ rows_bits n rows ++ (bits_in_order n (bits_in s) ++ rest)
  unfolding state_bits bits_in_order
  in_parts = (wires_behind inputs (circuit a)).1 ∙ append_assoc (rows_bits n rows) (state_bits n s) rest

  -- the wire of a number, however the number is written
  in_parts_at : (x y : ℕ) → x ≡ y → wire list x ≡ wire (rows_bits n rows ++ (bits_in_order n (bits_in s) ++ rest)) y
  in_parts_at x y e = ap₂ wire in_parts e

  module _ (l : length inputs ≡ a.inputs) (formed : well_formed_state n s ≡ true) where
    gates_hold : Holds (wire list) a.inputs (circuit a)
    gates_hold =
        subst (λ (k : ℕ). Holds (wire list) k (circuit a)) l
        (holds inputs (circuit a) (ap (λ (k : ℕ). ordered k (circuit a)) l ∙ circuit-ordered n (length rows) b room a-row))

    placed : Sections (wire list) a
    placed = sections (wire list) n (length rows) b gates_hold

    whole : Whole n b rows s u w
    whole = record {
      p_is = λ j i h k. in_parts_at _ ((n + n) * j + i) (omega arith) ∙ positive-at n rows _ j i h k;
      q-is = λ j i h k. in_parts_at _ ((n + n) * j + (n + i)) (omega arith) ∙ negative-at n rows _ j i h k;
      now-is = subst (λ (f : ℕ → Bool). Same n (state_at n f) (bits_in s))
          (sym (fun_ext (λ k. in_parts_at (a.state + k) ((n + n) * length rows + k) (omega arith) ∙ rows_past n rows _ k)))
          (state-at n (bits_in s) rest);
      cells = cells-met (wire list) a placed (omega arith) (omega arith) (omega (arith, a-row));
      changes = changes_met (wire list) a placed (omega arith);
      joined = halves-joined (wire list) a;
      formed = formed_e n s formed;
      a-row = a-row;
      room = room;
    }

    pub circuit-outputs : drop a.outputs list ≡ output_bits n rows s
    circuit-outputs =
        last_wires list a.outputs (suc (state_wire_count n)) (wires_length inputs (circuit a) ∙ omega (arith, l, circuit-length n (length rows) b))
        ∙ upto-more (λ k. wire list (a.outputs + k)) (state_wire_count n)
        ∙ ap₂ (λ (bits : List Bool) (x : Bool). bits ++ (x ∷ [])) (sym (state-row n (λ k. wire list (a.outputs + k)))) (ap (wire list) (omega arith))
        ∙ circuit_steps n b rows s u w whole
