-- The mark of an application of any gates is the closing wire, whatever the state that was read back. By cases of its two outcomes.
use mathlib.Core.Path.{◌≡◌, refl}
use mathlib.Core.Bool.{Bool}
use mathlib.Core.List.{List}
use Prim.Native.Nat.{ℕ}
use lib.Dec.{eqb}
use lib.ListN.{get_or, take}
use Rattle.std.specs.Prelude.{Ok, Err}
use Rattle.refusals.specs.Numbers.{Outcome}
use Rattle.refusals.specs.Checks.{given}
use Rattle.refusals.proofs.Outcomes.{refused-taken}
use Rattle.dimensions.specs.declared.Dimensions.{Dimensions}
use Rattle.dimensions.specs.Sizes.{state_wire_count}
use Rattle.tables.specs.Tables.{Tables}
use Rattle.state.specs.declared.Run.{Run}
use Rattle.readback.specs.declared.Read.{Read}
use Rattle.readback.specs.Reading.{read_back}
use Rattle.netlist.specs.Outputs.{outputs_in}
use Rattle.repeats.specs.Application.{Applied, turned_back, application_outcome, wires_after, next_run, applied}

module _ (d : Dimensions) (tables : Tables) (gates : List ℕ) (run : Run) (bytes wires : List ℕ) (handed : ℕ) where
  -- the circuit's output wires, and the last of them
  abbrev outputs : List ℕ
  outputs = outputs_in d gates (wires_after d tables gates run bytes wires)

  abbrev closing : Bool
  closing = eqb (get_or outputs (state_wire_count d.n) 0) 1

  abbrev back : Read
  back = read_back d.n (take handed outputs)

  abbrev read : Outcome → Run → Applied
  read o next = given o (record { outcome = Ok tt; run = next; mark = closing }) (turned_back run)

  reading : (o : Outcome) (next : Run) → (read o next).outcome ≡ Ok tt → (read o next).mark ≡ closing
  reading (Ok _) next e = refl
  reading (Err r) next e = absurd (refused-taken e)

  judging : (o : Outcome) → (given o (read back.outcome back.run) (turned_back run)).outcome ≡ Ok tt
      → (given o (read back.outcome back.run) (turned_back run)).mark ≡ closing
  judging (Ok _) e = reading back.outcome back.run e
  judging (Err r) e = absurd (refused-taken e)

  pub mark-is-wire : (applied d tables gates run bytes wires handed).outcome ≡ Ok tt → (applied d tables gates run bytes wires handed).mark ≡ closing
  unfolding applied next_run
  mark-is-wire e = judging (application_outcome d tables gates run bytes wires) e
