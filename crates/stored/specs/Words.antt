-- A run in 32-bit words, for hosts that lend them: n, standing, T, F, depth, then for each of the 32 levels T, F and the chosen variable.
-- Ask: What do words give that hold no run?
use Rattle.std.specs.Prelude.{ℕ, zero, suc, ◌-◌, ◌^◌, min, Bool, ◌&&◌, cond, List, [], ◌∷◌, eqb, ltb, get_or, drop}
use Rattle.state.specs.declared.Level.{Level}
use Rattle.state.specs.declared.Run.{Run}
use Rattle.state.specs.declared.Standing.{Standing}
use Rattle.state.specs.declared.Standing.TheVariants.{Open, Satisfied, Refuted}
use Rattle.state.specs.State.{fresh, run_of, standing_number as number_of}

-- three words a level: T, F, the chosen variable
unfoldable pub level_words : List Level → List ℕ
level_words [] = []
level_words (l ∷ ls) = l.t ∷ (l.f ∷ (l.chosen ∷ level_words ls))

-- a run's words; a depth that no word holds, which no well-formed run has, becomes the largest word
unfoldable pub run_words : Run → List ℕ
unfolding level_words
run_words run = run.n ∷ (number_of run.standing ∷ (run.t ∷ (run.f ∷ (min run.depth (2 ^ 32 - 1) ∷ level_words run.levels))))

-- the standing of a number below 3
abbrev pub standing_of : ℕ → Standing
standing_of k = cond (eqb k 1) Satisfied (cond (eqb k 2) Refuted Open)

-- k levels from the front of the words
unfoldable pub levels_in : ℕ → List ℕ → List Level
levels_in zero words = []
levels_in (suc k) words = record { t = get_or words 0 0; f = get_or words 1 0; chosen = get_or words 2 0 } ∷ levels_in k (drop 3 words)

-- an n that a run's byte holds, and a standing
abbrev pub holds_run : List ℕ → Bool
holds_run words = ltb (get_or words 0 0) 256 && ltb (get_or words 1 0) 3

-- the run that such words hold, well-formed or not
unfoldable pub held_run : List ℕ → Run
unfolding levels_in
held_run words = record {
  n = get_or words 0 0;
  standing = standing_of (get_or words 1 0);
  t = get_or words 2 0;
  f = get_or words 3 0;
  depth = get_or words 4 0;
  levels = levels_in 32 (drop 5 words);
}

-- the run in any words; one of no variables, which is not well-formed, if they hold none
unfoldable pub run_in : List ℕ → Run
unfolding held_run run_of
run_in words = cond (holds_run words) (held_run words) (run_of 0 fresh)
