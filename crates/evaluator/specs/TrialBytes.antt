-- The bytes of a trial; only the crate's own functions cite this.
use Rattle.std.specs.Prelude.{Bool, List, [], ◌∷◌, map, ℕ, ◌+◌, ◌%◌}
use Rattle.words.specs.Booleans.{digit}

-- wires' values as the trial holds them: wire 0 as its byte, any other as 2 more
abbrev pub trial_bytes : List Bool → List ℕ
trial_bytes [] = []
trial_bytes (x ∷ xs) = digit x ∷ map (λ y. digit y + 2) xs

-- a trial's bytes as the wires' own, 0 and 1
abbrev pub wire_bytes : List ℕ → List ℕ
wire_bytes bytes = map (λ x. x % 2) bytes
