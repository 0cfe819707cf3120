-- How bytes are unpacked into a run of n. What reading back gives is known by packing alone (`read-front`, `read_held`), so this need not
-- be believed.
use Rattle.std.specs.Prelude.{ℕ, zero, suc, Bool, true, false, ◌&&◌, List, [], ◌∷◌, eqb, get_or, take}
use Rattle.words.specs.Sameness.{same}
use Rattle.words.specs.Sets.{lowest, word_of}
use Rattle.dimensions.specs.Sizes.{state_wire_count}
use Rattle.state.specs.declared.Level.{Level}
use Rattle.state.specs.declared.Run.{Run}
use Rattle.state.specs.declared.Standing.{Standing}
use Rattle.state.specs.declared.Standing.TheVariants as standing
use Rattle.state.specs.State.{State, state_of, run_of}
use Rattle.state.specs.WellFormed.{well_formed}
use Rattle.gates.specs.Memory.{bytes_of}
use Rattle.wires.specs.Layout.{state_bits}
use Rattle.wires.specs.Bits.{Bits, state_at}

-- wire k is set
abbrev pub wire_in : List ℕ → ℕ → Bool
wire_in bytes k = eqb (get_or bytes k 0) 1

-- open where neither closing bit is set
abbrev pub standing_of : Bool → Bool → Standing
standing_of true refuted = standing.Satisfied
standing_of false true = standing.Refuted
standing_of false false = standing.Open

-- level l of some bits
abbrev pub level_of : ℕ → Bits → ℕ → Level
level_of n b l = record { t = word_of (b.level_t l) n; f = word_of (b.level_f l) n; chosen = lowest (b.chosen l) n }

-- the first d of some levels, the last of them first
unfoldable pub last_first : ℕ → (ℕ → Level) → List Level
last_first zero a = []
last_first (suc d) a = a d ∷ last_first d a

-- the state of some bits: a set is its word, one set wire of several its number, depth n where no lower one is set
abbrev pub unpacked : ℕ → Bits → State
unpacked n b = record {
  standing = standing_of b.satisfied b.refuted;
  t = word_of b.T n;
  f = word_of b.F n;
  levels = last_first (lowest b.depth n) (level_of n b);
}

-- the run of n that bytes would hold
unfoldable pub run_in : ℕ → List ℕ → Run
run_in n bytes = run_of n (unpacked n (state_at n (λ k. wire_in bytes k)))

-- bytes of a well-formed state: the run in them is one, and packed again it gives them back. So a byte other than 0 or 1, no depth wire or
-- two, both closing bits or an unused level that is not zero are no such bytes.
unfoldable pub holds_state : ℕ → List ℕ → Bool
holds_state n bytes = well_formed (run_in n bytes)
    && same (bytes_of (state_bits n (state_of (run_in n bytes)))) (take (state_wire_count n) bytes)
