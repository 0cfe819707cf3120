-- Levels read into the run's array.
use Rattle.std.specs.Prelude.{ℕ, ◌+◌, ◌-◌, List, ◌++◌, reverse, replicate}
use Rattle.words.specs.Sets.{lowest, word_of}
use Rattle.state.specs.declared.Level.{Level}
use Rattle.state.specs.State.{none}
use Rattle.wires.specs.Bits.{level_at}
use Rattle.readback.specs.Unpacking.{wire_in, last_first}

-- the level whose wires begin at a place
abbrev pub level_from : ℕ → List ℕ → ℕ → Level
level_from n bytes at = record {
  t = word_of (λ i. wire_in bytes (at + i)) n;
  f = word_of (λ i. wire_in bytes (at + n + i)) n;
  chosen = lowest (λ i. wire_in bytes (at + n + n + i)) n;
}

-- an array whose first levels are a 0, .. , a (d - 1)
abbrev pub array_of : (ℕ → Level) → ℕ → List Level
array_of a d = reverse (last_first d a) ++ replicate (32 - d) none

-- the array of the first depth levels, whose wires begin at a place
abbrev pub levels_from : ℕ → ℕ → List ℕ → ℕ → List Level
levels_from n depth bytes at = array_of (λ l. level_from n bytes (at + level_at n l)) depth
