-- The repeats of a circuit over three tables: document 01, "Circuit", second paragraph; each reads the rows as they are when it begins
-- (document 02, Req 06).
-- Ask: Is a repeat the run that it returned and its mark? Is an attempt that is refused, for whatever cause, none?
use Rattle.std.specs.Prelude.{ℕ, zero, suc, ◌+◌, ◌≡◌, Bool, false, ◌||◌, ◌&&◌, cond, List, [], ◌∷◌, map, eqb, leb, length, get_or, Ok}
use Rattle.refusals.specs.Checks.{outcome, given}
use Rattle.refusals.specs.declared.Refusal.{Refusal}
use Rattle.words.specs.Sets.{any}
use Rattle.dimensions.specs.declared.Dimensions.{Dimensions}
use Rattle.dimensions.specs.Sizes.{state_wire_count, input_wires}
use Rattle.tables.specs.Tables.{Tables}
use Rattle.tables.specs.Acceptance.{table_checks}
use Rattle.state.specs.declared.Run.{Run}
use Rattle.state.specs.State.{State, run_of}
use Rattle.gates.specs.Memory.{words_of}
use Rattle.netlist.specs.Netlist.{gates_on}
use Rattle.netlist.specs.Outputs.{closed}
use Rattle.generator.specs.Generation.{generator_checks}
use Rattle.repeats.specs.Application.{Applied, turned_back, applied}

-- the generated circuit in memory: it is made from n and the row counts alone
unfoldable pub circuit_words : Dimensions → List ℕ
circuit_words d = words_of (gates_on d)

-- what the generator writes over the front of lent words: the circuit, and nothing where it refuses
abbrev pub circuit_in : Dimensions → List ℕ → List ℕ
circuit_in d words = given (outcome (generator_checks d words)) (circuit_words d) (λ r. [])

-- tables of these dimensions that none of 1 to 4 refuses
abbrev pub Accepts : Dimensions → Tables → Type 0
Accepts d tables = outcome (table_checks d tables) ≡ Ok tt

-- an attempt to apply the circuit: with the buffers that the host lends and a number of the output wires handed to the read-back, or
-- refused for any other cause
pub data Attempt : Type 0 where
  Lent : (bytes wires : List ℕ) (handed : ℕ) → Attempt
  Otherwise : (cause : Refusal) → Attempt

-- what an attempt gives
abbrev pub attempted : Dimensions → Tables → Run → Attempt → Applied
attempted d tables run (Lent bytes wires handed) = applied d tables (circuit_words d) run bytes wires handed
attempted d tables run (Otherwise refusal) = turned_back run refusal

-- a repeat: the run that it returned, and its mark
pub record Repeat : Type 0 where
  pub run : Run
  pub mark : Bool

-- a state as a repeat returns it: its run, and as the mark whether it is closed
abbrev pub returned : ℕ → State → Repeat
returned n s = record { run = run_of n s; mark = closed s }

-- the marks in order
abbrev pub marks : List Repeat → List Bool
marks = map (λ (r : Repeat). r.mark)

-- the run that the last repeat returned, or the one at the start
unfoldable pub last_run : Run → List Repeat → Run
last_run run [] = run
last_run run (r ∷ later) = last_run r.run later

-- what comes of an attempt, where later ones go on from a run, as they would have without it or one repeat further: refused, it is no
-- repeat and has no mark; the first mark that is 1 is the last
abbrev pub comes_of : Applied → (Run → List Repeat) → (Run → List Repeat) → List Repeat
comes_of r again further =
    given r.outcome (record { run = r.run; mark = r.mark } ∷ cond r.mark [] (further r.run)) (λ refusal. again r.run)

-- the tables from the second repeat on
abbrev pub later_tables : (ℕ → Tables) → ℕ → Tables
later_tables tables = λ i. tables (suc i)

-- the attempts, from a run on, with a number of repeats left; tables i are those that a repeat reads that i others precede
unfoldable pub repeats : Dimensions → (ℕ → Tables) → ℕ → Run → List Attempt → List Repeat
unfolding applied circuit_words
repeats d tables budget run [] = []
repeats d tables zero run (a ∷ later) = []
repeats d tables (suc rest) run (a ∷ later) =
    comes_of (attempted d (tables 0) run a)
    (λ next. repeats d tables (suc rest) next later)
    (λ next. repeats d (later_tables tables) rest next later)

-- repeats end with a mark that is 1, or when they are as many as the budget
abbrev pub repeats_ended : ℕ → List Repeat → Bool
repeats_ended budget h = any (λ i. get_or (marks h) i false) (length h) || eqb (length h) budget

-- buffers with room for the inputs and for all wires, and all of the state's wires handed to the read-back
abbrev pub long_enough : Dimensions → Attempt → Bool
long_enough d (Lent bytes wires handed) =
    leb (input_wires d) (length bytes) && leb (input_wires d + length (gates_on d)) (length wires) && leb (state_wire_count d.n) handed
long_enough d (Otherwise refusal) = false

-- how many attempts have such buffers
unfoldable pub long_ones : Dimensions → List Attempt → ℕ
long_ones d [] = 0
long_ones d (a ∷ later) = cond (long_enough d a) (suc (long_ones d later)) (long_ones d later)
