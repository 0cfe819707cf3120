-- A run's words give the run back, and the run in 101 words gives them back: by induction on the levels, three words a level.
use mathlib.Core.Path.{◌≡◌, refl, sym, ap, ◌∙◌}
use mathlib.Core.Bool.{true}
use mathlib.Core.List.{List, [], ◌∷◌}
use Prim.Native.Nat.{ℕ, zero, suc, ◌-◌, ◌*◌, ◌^◌, ◌≤◌, ◌<◌, min}
use native.Mathlib.Omega.{arith}
use lib.ListN.{length, get_or}
use borrow.Author.Tests.{lt-ltb}
use Rattle.words.proofs.Truth.{and_i}
use Rattle.state.specs.declared.Level.{Level}
use Rattle.state.specs.declared.Run.{Run}
use Rattle.state.specs.declared.Standing.{Standing}
use Rattle.state.specs.declared.Standing.TheVariants.{Open, Satisfied, Refuted}
use Rattle.state.specs.State.{state_of, levels_of, standing_number as number_of}
use Rattle.state.specs.WellFormed.{well_formed}
use Rattle.state.proofs.WellFormedLaws.{formed_e}
use Rattle.state.proofs.HeldRun.{formed_run_e, length-levels}
use Rattle.stored.specs.Words.{standing_of, level_words, levels_in, run_words, holds_run, held_run, run_in}
use Rattle.stored.proofs.Holding.{held-run, held-standing}

-- ---- a run's words read again

standing-back : (s : Standing) → standing_of (number_of s) ≡ s
standing-back Open = refl
standing-back Satisfied = refl
standing-back Refuted = refl

number-low : (s : Standing) → number_of s < 3
number-low Open = omega arith
number-low Satisfied = omega arith
number-low Refuted = omega arith

levels-back : (levels : List Level) → levels_in (length levels) (level_words levels) ≡ levels
unfolding levels_in level_words
levels-back [] = refl
levels-back (l ∷ ls) = ap (λ (r : List Level). l ∷ r) (levels-back ls)

-- a run whose n and depth fit their words
pub run-back : (run : Run) → length run.levels ≡ 32 → run.n < 256 → run.depth < 2 ^ 32 → run_in (run_words run) ≡ run
unfolding run_words held_run
run-back run size n depth =
    let held : holds_run (run_words run) ≡ true = and_i (lt-ltb run.n 256 n) (lt-ltb (number_of run.standing) 3 (number-low run.standing)) in
    let low : min run.depth (2 ^ 32 - 1) ≡ run.depth = omega arith in
    let levels : levels_in 32 (level_words run.levels) ≡ run.levels =
    ap (λ (k : ℕ). levels_in k (level_words run.levels)) (sym size) ∙ levels-back run.levels in
    held-run (run_words run) held
    ∙ (λ i. record { n = run.n; standing = standing-back run.standing i; t = run.t; f = run.f; depth = low i; levels = levels i })

-- ---- a well-formed run

pub well_formed_back : (run : Run) → length run.levels ≡ 32 → well_formed run ≡ true → run_in (run_words run) ≡ run
well_formed_back run size h =
    let formed = formed_run_e run h in
    let few : length (levels_of run.depth run.levels) ≤ run.n = (formed_e run.n (state_of run) formed.state).few in
    run-back run size (omega arith) (omega (arith, few, length-levels run.depth run.levels))

-- ---- the words of a run that was read

number-back : (k : ℕ) → k < 3 → number_of (standing_of k) ≡ k
number-back zero h = refl
number-back (suc zero) h = refl
number-back (suc (suc zero)) h = refl
number-back (suc (suc (suc k))) h = absurd (omega arith)

words_again : (k : ℕ) (words : List ℕ) → length words ≡ 3 * k → level_words (levels_in k words) ≡ words
unfolding levels_in level_words
words_again zero [] h = refl
words_again zero (a ∷ words) h = absurd (omega arith)
words_again (suc k) [] h = absurd (omega arith)
words_again (suc k) (a ∷ []) h = absurd (omega arith)
words_again (suc k) (a ∷ (b ∷ [])) h = absurd (omega arith)
words_again (suc k) (a ∷ (b ∷ (c ∷ words))) h = ap (λ (r : List ℕ). a ∷ (b ∷ (c ∷ r))) (words_again k words (omega arith))

-- words that hold a run, each below 2 ^ 32 as a 32-bit word is; of the depth alone this has to be said
pub words_back : (words : List ℕ) → length words ≡ 101 → holds_run words ≡ true → get_or words 4 0 < 2 ^ 32 → run_words (run_in words) ≡ words
unfolding run_words held_run
words_back words size h d = ap run_words (held-run words h) ∙ five words size (held-standing words h) d
  where
    five : (words : List ℕ) → length words ≡ 101 → get_or words 1 0 < 3 → get_or words 4 0 < 2 ^ 32 → run_words (held_run words) ≡ words
    five (n ∷ (standing ∷ (t ∷ (f ∷ (depth ∷ levels))))) h s d =
        let low : min depth (2 ^ 32 - 1) ≡ depth = omega arith in
        rw (number-back standing s, low, words_again 32 levels (omega arith))
    five (n ∷ (standing ∷ (t ∷ (f ∷ [])))) h s d = absurd (omega arith)
    five (n ∷ (standing ∷ (t ∷ []))) h s d = absurd (omega arith)
    five (n ∷ (standing ∷ [])) h s d = absurd (omega arith)
    five (n ∷ []) h s d = absurd (omega arith)
    five [] h s d = absurd (omega arith)
