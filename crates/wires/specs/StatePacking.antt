-- A run's state alone, packed into bytes: the same wires without the rows. Reading back rests on `state_bits`, not on this.
use Rattle.std.specs.Prelude.{ℕ, Bool, not, ◌&&◌, cond, List, ltb, length}
use Rattle.dimensions.specs.Sizes.{state_wire_count}
use Rattle.state.specs.declared.Run.{Run}
use Rattle.state.specs.State.{state_of}
use Rattle.state.specs.WellFormed.{well_formed}
use Rattle.gates.specs.Memory.{bytes_of, over}
use Rattle.wires.specs.Layout.{state_bits}

-- the bytes have room for the state, and the run is well-formed
abbrev pub packable : Run → ℕ → Bool
packable run room = not (ltb room (state_wire_count run.n)) && well_formed run

-- the lent bytes afterwards: the state's wires, then what was there; else as they were
unfoldable pub packed_state : Run → List ℕ → List ℕ
packed_state run bytes = cond (packable run (length bytes)) (over (bytes_of (state_bits run.n (state_of run))) bytes) bytes
