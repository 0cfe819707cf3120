-- A run of n read back from bytes: document 01, "Circuit", refusals 1, 10 and 12. Bytes past the state's wires are not looked at.
-- Ask: What is given with 10 and 12?
use Rattle.std.specs.Prelude.{ℕ, not, List, [], ◌∷◌, ltb, length, Ok, Err}
use Rattle.refusals.specs.Checks.{Check, check, outcome, given}
use Rattle.refusals.specs.declared.Refusal.TheVariants.{Variables, Wires}
use Rattle.refusals.specs.declared.Refusal.TheVariants as refusal
use Rattle.dimensions.specs.Sizes.{most_variables, outside, state_wire_count}
use Rattle.state.specs.State.{fresh, run_of}
use Rattle.readback.specs.declared.Read.{Read}
use Rattle.readback.specs.Unpacking.{run_in, holds_state}

-- 12: the first bytes are not the packed ones of any well-formed state of n
abbrev pub read_checks : ℕ → List ℕ → List Check
read_checks n bytes =
    check (outside most_variables n) Variables ∷ check (ltb (length bytes) (state_wire_count n)) Wires
    ∷ check (not (holds_state n bytes)) refusal.State ∷ []

-- the run of the state whose packed bytes these are; refused, the fresh one of n
unfoldable pub read_back : ℕ → List ℕ → Read
read_back n bytes =
    given (outcome (read_checks n bytes)) (record { outcome = Ok tt; run = run_in n bytes })
    (λ r. record { outcome = Err r; run = run_of n fresh })
