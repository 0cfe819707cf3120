-- What calls on circuits leave in the buffers that hosts lend.
use Rattle.std.specs.Prelude.{ℕ, ◌*◌, List, [], ◌∷◌}
use Rattle.refusals.specs.Checks.{outcome, given}
use Rattle.dimensions.specs.Sizes.{size_checks, ceiling, input_wires, state_wire_count}
use Rattle.dimensions.specs.declared.Dimensions.{Dimensions}
use Rattle.readback.specs.declared.Read.{Read}
use Rattle.lent.specs.Lent.{stored_if}

-- the gate ceiling, three words a gate of it, input wires, state wires
abbrev pub size_numbers : Dimensions → List ℕ
size_numbers d = ceiling d ∷ (3 * ceiling d ∷ (input_wires d ∷ (state_wire_count d.n ∷ [])))

-- the lent sizes of dimensions within the limits; of others what was there
abbrev pub sizes_given : Dimensions → List ℕ → List ℕ
sizes_given d lent = given (outcome (size_checks d)) (size_numbers d) (λ r. lent)

-- the lent run after reading back
abbrev pub read_stored : Read → List ℕ → List ℕ
read_stored r words = stored_if r.outcome r.run words
