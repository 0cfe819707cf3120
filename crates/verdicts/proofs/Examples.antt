-- Runs with a model and without, and 12 before 14, computed.
use mathlib.Core.Path.{◌≡◌, refl}
use mathlib.Core.List.{[]}
use Prim.Native.Nat.{ℕ}
use Rattle.std.specs.Prelude.{Result, Ok, Err}
use Rattle.refusals.specs.declared.Refusal.{Refusal}
use Rattle.refusals.specs.declared.Refusal.TheVariants.{NoModel}
use Rattle.refusals.specs.declared.Refusal.TheVariants as refusal
use Rattle.words.specs.Sets.{bit, all}
use Rattle.state.specs.declared.Standing.{Standing}
use Rattle.state.specs.declared.Standing.TheVariants.{Open, Satisfied, Refuted}
use Rattle.state.specs.State.{run_of}
use Rattle.state.specs.WellFormed.{disjoint, within}
use Rattle.verdicts.specs.Verdicts.{model_of}

-- a run of two variables
model : Standing → ℕ → ℕ → Result ℕ Refusal
unfolding model_of run_of disjoint within bit all
model standing t f = model_of (run_of 2 (record { standing = standing; t = t; f = f; levels = [] }))

-- the free variable is false
satisfied : model Satisfied 2 0 ≡ Ok 2
unfolding model
satisfied = refl

still_open : model Open 2 1 ≡ Err NoModel
unfolding model
still_open = refl

refuted : model Refuted 0 0 ≡ Err NoModel
unfolding model
refuted = refl

-- T and F overlap
not_formed_first : model Open 1 1 ≡ Err refusal.State
unfolding model
not_formed_first = refl
