-- What evaluating gates on input bytes gives, and what it leaves in the wire buffer (document 01, "Circuit", refusals 9 and 10).
-- Ask: What do 9 and 10 leave in the wires?
use Rattle.std.specs.Prelude.{not, List, [], ◌∷◌, ℕ, ◌+◌, ◌/◌, length, ltb}
use Rattle.refusals.specs.declared.Refusal.TheVariants.{Gates, Wires}
use Rattle.refusals.specs.Checks.{Check, check, outcome, given}
use Rattle.gates.specs.Gates.{wires_of}
use Rattle.gates.specs.Memory.{gates_of, accepted, bits_of, bytes_of, bits, over}

-- 9, then 10: a buffer shorter than inputs plus gates, or an input byte that is not 0 or 1
abbrev pub evaluation_checks : List ℕ → List ℕ → List ℕ → List Check
evaluation_checks gates inputs wires =
    check (not (accepted (length inputs) gates)) Gates
    ∷ (check (ltb (length wires) (length inputs + length gates / 3)) Wires
    ∷ (check (not (bits inputs)) Wires ∷ []))

-- the wire buffer afterwards: the wires' values, then the bytes that were there; refused, as it was
abbrev pub filled_wires : List ℕ → List ℕ → List ℕ → List ℕ
filled_wires gates inputs wires =
    given (outcome (evaluation_checks gates inputs wires)) (over (bytes_of (wires_of (bits_of inputs) (gates_of gates))) wires) (λ r. wires)
