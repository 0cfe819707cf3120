-- A run's words stored one after the other: they are all 101 that the run has.
use mathlib.Core.Path.{◌≡◌, refl, ap, ◌∙◌}
use mathlib.Core.List.{List, [], ◌∷◌, ◌++◌, append-nil}
use Prim.Native.Nat.{ℕ, ◌+◌, ◌-◌, ◌*◌, ◌^◌, min}
use native.Mathlib.Omega.{arith}
use lib.ListN.{length, set, drop_of_length-le}
use lib.Seq.{sets, sets-eq}
use Rattle.state.specs.declared.Level.{Level}
use Rattle.state.specs.declared.Run.{Run}
use Rattle.state.specs.State.{standing_number as number_of}
use Rattle.stored.specs.Words.{level_words, run_words}

level-words-length : (levels : List Level) → length (level_words levels) ≡ 3 * length levels
unfolding level_words
level-words-length [] = refl
level-words-length (l ∷ ls) = omega (arith, level-words-length ls)

pub words-length : (run : Run) → length run.levels ≡ 32 → length (run_words run) ≡ 101
unfolding run_words
words-length run e = omega (arith, level-words-length run.levels)

module _ (run : Run) (words : List ℕ) (levels : length run.levels ≡ 32) (size : length words ≡ 101) where
  stored-words : sets words 0 (run_words run) ≡ run_words run
  stored-words =
      let all : length (run_words run) ≡ 101 = words-length run levels in
      sets-eq (run_words run) words 0 (omega arith)
      ∙ ap (λ (l : List ℕ). run_words run ++ l) (drop_of_length-le words {i = 0 + length (run_words run)} (omega arith)) ∙ append-nil (run_words run)

  -- five stores, and the levels'
  pub stored-all : (standing depth : ℕ) (after : List ℕ) → standing ≡ number_of run.standing → depth ≡ min run.depth (2 ^ 32 - 1)
      → after ≡ sets (set (set (set (set (set words 0 run.n) 1 standing) 2 run.t) 3 run.f) 4 depth) 5 (level_words run.levels)
      → after ≡ run_words run
  unfolding run_words
  stored-all standing depth after s d a = rw (s, d) at a ∙ stored-words
