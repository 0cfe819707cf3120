-- A run in its words, and words that hold none, computed.
use mathlib.Core.Path.{◌≡◌, refl}
use mathlib.Core.List.{List, [], ◌∷◌, ◌++◌}
use Prim.Native.Nat.{ℕ}
use lib.ListN.{replicate}
use Rattle.state.specs.declared.Run.{Run}
use Rattle.state.specs.declared.Standing.TheVariants.{Satisfied, Refuted}
use Rattle.state.specs.State.{fresh, run_of}
use Rattle.stored.specs.Words.{run_words, run_in}

-- two variables: 1 false, then 2 chosen
abbrev run : Run
run = run_of 2 (record { standing = Satisfied; t = 2; f = 1; levels = record { t = 0; f = 1; chosen = 1 } ∷ [] })

-- n, standing, T, F, depth, then T, F and the chosen variable of each level
abbrev words : List ℕ
words = (2 ∷ 1 ∷ 2 ∷ 1 ∷ 1 ∷ []) ++ (0 ∷ 1 ∷ 1 ∷ []) ++ replicate 93 0

in_words : run_words run ≡ words
unfolding run_words run_of
in_words = refl

and-back : run_in words ≡ run
unfolding run_in
and-back = refl

refuted : (run_in (1 ∷ 2 ∷ replicate 99 0)).standing ≡ Refuted
unfolding run_in
refuted = refl

-- ---- no run: one of no variables instead

standing_3 : run_in (1 ∷ 3 ∷ replicate 99 0) ≡ run_of 0 fresh
unfolding run_in
standing_3 = refl

variables_256 : run_in (256 ∷ 0 ∷ replicate 99 0) ≡ run_of 0 fresh
unfolding run_in
variables_256 = refl
