-- Well-formed runs, and each clause of document 01 broken once, computed.
use mathlib.Core.Path.{◌≡◌, refl}
use mathlib.Core.Bool.{Bool, true, false}
use mathlib.Core.List.{List, [], ◌∷◌, ◌++◌}
use Prim.Native.Nat.{ℕ}
use lib.ListN.{replicate}
use Rattle.refusals.specs.Checks.{outcome}
use Rattle.refusals.specs.Numbers.{code_of}
use Rattle.words.specs.Sets.{bit, all}
use Rattle.dimensions.specs.Sizes.{dimensions}
use Rattle.state.specs.declared.Level.{Level}
use Rattle.state.specs.declared.Run.{Run}
use Rattle.state.specs.declared.Standing.TheVariants.{Open}
use Rattle.state.specs.State.{fresh, none, run_of}
use Rattle.state.specs.WellFormed.{disjoint, within, well_formed, state_checks}

-- T, F and the chosen variable, from 0
abbrev level : ℕ → ℕ → ℕ → Level
level t f chosen = record { t = t; f = f; chosen = chosen }

-- an open run of n, T and F; its used levels, the first one first
formed : ℕ → ℕ → ℕ → ℕ → List Level → Bool
unfolding well_formed disjoint within bit all
formed n t f depth levels = well_formed (record { n = n; standing = Open; t = t; f = f; depth = depth; levels = levels ++ replicate 30 none })

-- ---- well-formed: variable 1 chosen, then 2 false, then 3 chosen

two-levels : formed 3 5 2 2 (level 0 0 0 ∷ level 1 2 2 ∷ []) ≡ true
unfolding formed
two-levels = refl

fresh_32 : formed 32 0 0 0 (none ∷ none ∷ []) ≡ true
unfolding formed
fresh_32 = refl

-- ---- and not

no_variables : formed 0 0 0 0 (none ∷ none ∷ []) ≡ false
unfolding formed
no_variables = refl

variables_33 : formed 33 0 0 0 (none ∷ none ∷ []) ≡ false
unfolding formed
variables_33 = refl

sets_overlap : formed 3 1 1 0 (none ∷ none ∷ []) ≡ false
unfolding formed
sets_overlap = refl

t_above_n : formed 3 8 0 0 (none ∷ none ∷ []) ≡ false
unfolding formed
t_above_n = refl

f_above_n : formed 3 0 8 0 (none ∷ none ∷ []) ≡ false
unfolding formed
f_above_n = refl

more-levels_than_n : formed 1 1 0 2 (level 0 0 0 ∷ level 0 0 0 ∷ []) ≡ false
unfolding formed
more-levels_than_n = refl

unused-level : formed 3 1 0 1 (level 0 0 0 ∷ level 0 0 1 ∷ []) ≡ false
unfolding formed
unused-level = refl

chosen-not-free : formed 3 5 2 2 (level 0 0 0 ∷ level 5 2 2 ∷ []) ≡ false
unfolding formed
chosen-not-free = refl

level_overlaps : formed 3 5 2 2 (level 0 0 0 ∷ level 1 3 2 ∷ []) ≡ false
unfolding formed
level_overlaps = refl

t_not-within : formed 3 4 2 2 (level 0 0 0 ∷ level 1 2 2 ∷ []) ≡ false
unfolding formed
t_not-within = refl

f-not-within : formed 3 5 0 2 (level 0 0 0 ∷ level 1 2 2 ∷ []) ≡ false
unfolding formed
f-not-within = refl

chosen-not_in_t : formed 3 1 2 2 (level 0 0 0 ∷ level 1 2 2 ∷ []) ≡ false
unfolding formed
chosen-not_in_t = refl

levels-exchanged : formed 3 5 2 2 (level 1 2 2 ∷ level 0 0 0 ∷ []) ≡ false
unfolding formed
levels-exchanged = refl

-- ---- 12 before 13

code : ℕ → Run → ℕ
unfolding well_formed disjoint within bit all run_of
code n run = code_of (outcome (state_checks (dimensions n 1 1 0) run))

taken : code 2 (run_of 2 fresh) ≡ 0
unfolding code
taken = refl

other-n : code 2 (run_of 3 fresh) ≡ 13
unfolding code
other-n = refl

not_formed_first : code 2 (run_of 33 fresh) ≡ 12
unfolding code
not_formed_first = refl
