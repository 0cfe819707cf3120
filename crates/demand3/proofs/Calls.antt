-- One call of `repeat` on the run of any open well-formed state, not only of the fresh one: it takes the plain run's steps from there, at most as many as were
-- asked for, and the mark that it gives is the closing wire of its last repeat. From the list of repeats alone.
use mathlib.Core.Path.{◌≡◌, refl, sym, ap, ◌∙◌}
use mathlib.Core.Bool.{Bool, true, false}
use mathlib.Core.List.{List, []}
use Prim.Native.Nat.{ℕ, zero, suc}
use native.Mathlib.Omega.{arith}
use lib.ListN.{length, get_or, replicate}
use Rattle.words.specs.declared.Row.{Row}
use Rattle.dimensions.specs.declared.Dimensions.{Dimensions}
use Rattle.tables.specs.Tables.{Tables}
use Rattle.tables.specs.Rows.{rows_of}
use Rattle.state.specs.declared.Run.{Run}
use Rattle.state.specs.declared.Standing.{Standing}
use Rattle.state.specs.declared.Standing.TheVariants.{Open}
use Rattle.state.specs.State.{State, state_of, run_of, if_open}
use Rattle.state.specs.WellFormed.{well_formed_state}
use Rattle.state.proofs.HeldRun.{state-back}
use Rattle.solver.specs.Step.{always, after}
use Rattle.solver.specs.Entries.{run_from}
use Rattle.solver.proofs.RunLaws.{run_is_of}
use Rattle.wires.proofs.Series.{upto-at}
use Rattle.netlist.specs.Outputs.{closed}
use Rattle.repeats.specs.Repeats.{Accepts, Attempt, Repeat, marks, last_run, repeats, long_enough, long_ones}
use Rattle.repeats.specs.Repeating.{whole, made, repeated_by}
use Rattle.demand3.proofs.Histories.{repeated, repeated-length, repeated-marks, repeated-last, repeats_are}

all_long : (d : Dimensions) (a : Attempt) → long_enough d a ≡ true → (k : ℕ) → long_ones d (replicate k a) ≡ k
unfolding long_ones
all_long d a e zero = refl
all_long d a e (suc k) = rw e (ap suc (all_long d a e k))

module _ (d : Dimensions) (tables : Tables) (acc : Accepts d tables) (times : ℕ) (bytes wires : List ℕ) (long : long_enough d (whole d bytes wires) ≡ true)
    (s : State) (formed : well_formed_state d.n s ≡ true) (o : s.standing ≡ Open) where
  abbrev rows : ℕ → List Row
  rows = always (rows_of d tables)

  -- the plain run's steps from there
  abbrev pub taken : ℕ
  taken = (run_from d.n rows times s).steps

  abbrev pub calls : List Repeat
  calls = made d tables times bytes wires (run_of d.n s)

  abbrev attempts : List Attempt
  attempts = replicate times (whole d bytes wires)

  is : calls ≡ repeated d (λ i. tables) s taken
  unfolding made run_of
  is =
      ap (λ (st : Standing). if_open st (repeats d (λ i. tables) times (run_of d.n s) attempts) []) o
      ∙ repeats_are d attempts (λ i. tables) (λ i. acc) times s formed o
      ∙ ap (repeated d (λ i. tables) s) (omega (arith, all_long d (whole d bytes wires) long times, (run_is_of d.n rows times s).most))

  -- it makes as many repeats
  pub call_count : length calls ≡ taken
  call_count = ap length is ∙ repeated-length d (λ i. tables) s taken

  -- the last of which returned the run of the state after them
  pub call_run : last_run (run_of d.n s) calls ≡ run_of d.n (after d.n rows taken s)
  call_run = ap (last_run (run_of d.n s)) is ∙ repeated-last d (λ i. tables) s taken

  -- the call's mark is its last closing wire
  pub call_mark : (i : ℕ) → suc i ≡ taken → get_or (marks calls) i false ≡ (repeated_by (run_of d.n s) calls).mark
  call_mark i e =
      ap (λ (h : List Repeat). get_or (marks h) i false) is
      ∙ ap (λ (l : List Bool). get_or l i false) (repeated-marks d (λ i. tables) s taken)
      ∙ upto-at (λ i. closed (after d.n rows (suc i) s)) taken i (omega arith)
      ∙ ap (λ (k : ℕ). closed (after d.n rows k s)) e
      ∙ sym (ap (λ (r : Run). closed (state_of r)) call_run ∙ ap closed (state-back d.n (after d.n rows taken s)))
