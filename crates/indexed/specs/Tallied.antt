-- A run with its tally, and when they are exact; only the crate's own functions cite this.
use Rattle.std.specs.Prelude.{ℕ, ◌^◌, ◌≤◌, ◌≡◌, Bool, true, not, ◌&&◌, List, [], ◌∷◌, eqb, ltb}
use Rattle.refusals.specs.Checks.{Check, check, outcome}
use Rattle.refusals.specs.declared.Refusal.TheVariants.{OtherVariables}
use Rattle.refusals.specs.declared.Refusal.TheVariants as refusal
use Rattle.words.specs.declared.Row.{Row}
use Rattle.tables.specs.Rows.{rows_from}
use Rattle.scan.specs.Rules.{all_rows}
use Rattle.state.specs.declared.Run.{Run}
use Rattle.state.specs.State.{State, run_of}
use Rattle.state.specs.WellFormed.{well_formed}
use Rattle.solver.specs.Entries.{Ran}
use Rattle.occurrences.specs.Index.{index_of}
use Rattle.tally.specs.Tallies.{tally_of}
use Rattle.indexed.specs.declared.tallied.TalliedRun.{TalliedRun}
use Rattle.indexed.specs.declared.tallied.Reached.{Reached}
use Rattle.indexed.specs.Entries.{SteppedIndexed, indexed_checks, stepped_by}

-- m rows of n variables in words, each word below 2 ^ n, and their index
pub record Indexed (n : ℕ) (words : List ℕ) (m : ℕ) (index : List ℕ) : Type 0 where
  pub least : 1 ≤ n
  pub most : n ≤ 32
  pub few : m ≤ 384
  pub low : all_rows (λ r. ltb r.positive (2 ^ n) && ltb r.negative (2 ^ n)) (rows_from words 0 m) ≡ true
  pub indexed : index ≡ index_of (rows_from words 0 m)

-- a well-formed run and exactly its tally
pub record Exact (rows : List Row) (held : TalliedRun) : Type 0 where
  pub formed : well_formed held.run ≡ true
  pub exact : held.tally ≡ tally_of rows held.run.t held.run.f

-- the run of a state, and exactly its tally
abbrev pub tallied_of : ℕ → List Row → State → TalliedRun
tallied_of n rows s = record { run = run_of n s; tally = tally_of rows s.t s.f }

-- the run that some steps reach, and how many they are
abbrev pub reached_by : ℕ → Ran → Reached
reached_by n r = record { run = run_of n r.final; steps = r.steps }

-- the checks of a run, an index that is exact or not, and a number that is right or not: 12, 13
abbrev pub kept_checks : ℕ → Run → Bool → Bool → List Check
kept_checks n run exact right =
    check (not (well_formed run)) refusal.State
    ∷ check (not exact) refusal.State
    ∷ check (not right) refusal.State
    ∷ check (not (eqb run.n n)) OtherVariables
    ∷ []

-- the step over rows of accepted tables
unfoldable pub stepped_over : ℕ → List Row → List ℕ → Run → ℕ → SteppedIndexed
stepped_over n rows index run number = stepped_by (outcome (indexed_checks n rows index run number)) n rows run number
