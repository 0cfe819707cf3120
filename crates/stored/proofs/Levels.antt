-- Laws of the levels: what is left to store gives what the whole gives, and levels that are read three words apart are those in the words.
use mathlib.Core.Path.{◌≡◌, refl, sym, ap, ◌∙◌}
use mathlib.Core.List.{List, ◌∷◌}
use Prim.Native.Nat.{ℕ, zero, suc, ◌+◌, ◌*◌, ◌<◌}
use native.Mathlib.Omega.{arith}
use native.Mathlib.Nat.{add-zero}
use native.Mathlib.Numerals.{add-one}
use lib.ListN.{length, get_or, drop, set}
use lib.Seq.{sets, drop-cons, drop-length, get_or-drop, drop-drop}
use Rattle.std.proofs.lemmas.List.{ext_get_or}
use Rattle.state.specs.declared.Level.{Level}
use Rattle.state.specs.State.{none}
use Rattle.stored.specs.Words.{level_words, levels_in}

-- ---- storing

-- three stores one after the other
three : (words : List ℕ) (at a b c x y z : ℕ) (rest : List ℕ) → a ≡ suc at → b ≡ suc (suc at) → c ≡ suc (suc (suc at))
    → sets (set (set (set words at x) a y) b z) c rest ≡ sets words at (x ∷ (y ∷ (z ∷ rest)))
three words at a b c x y z rest p q r = rw (p, q, r)

-- what is left to store, from level l on
unfoldable pub with_rest : List Level → List ℕ → ℕ → List ℕ
with_rest levels words l = sets words (5 + 3 * l) (level_words (drop l levels))

module _ (levels : List Level) where
  pub store_turn : (words : List ℕ) (l : ℕ) → l < length levels
      → with_rest levels (set (set (set words (5 + 3 * l) (get_or levels l none).t) (5 + 3 * l + 1) (get_or levels l none).f)
      (5 + 3 * l + 2) (get_or levels l none).chosen) (l + 1)
      ≡ with_rest levels words l
  unfolding with_rest level_words
  store_turn words l h =
      rw (add-one l, drop-cons levels l none h)
      (three words (5 + 3 * l) (5 + 3 * l + 1) (5 + 3 * l + 2) (5 + 3 * suc l) _ _ _ (level_words (drop (suc l) levels)) (omega arith)
      (omega arith) (omega arith))

  pub store_end : (words : List ℕ) (l : ℕ) → length levels ≡ l → with_rest levels words l ≡ words
  unfolding with_rest level_words
  store_end words l e =
      ap (λ (k : ℕ). sets words (5 + 3 * l) (level_words (drop k levels))) (sym e)
      ∙ ap (λ (r : List Level). sets words (5 + 3 * l) (level_words r)) (drop-length levels)

-- ---- reading

-- the level at a place
abbrev pub level_at : List ℕ → ℕ → Level
level_at words at = record { t = get_or words at 0; f = get_or words (at + 1) 0; chosen = get_or words (at + 2) 0 }

levels-length : (k : ℕ) (words : List ℕ) → length (levels_in k words) ≡ k
unfolding levels_in
levels-length zero words = refl
levels-length (suc k) words = ap suc (levels-length k (drop 3 words))

module _ (words : List ℕ) where
  -- the first of the levels left, and the others
  first-left : (k at : ℕ) → levels_in (suc k) (drop at words) ≡ level_at words at ∷ levels_in k (drop (at + 3) words)
  unfolding levels_in
  first-left k at = rw (get_or-drop at words 0 0, get_or-drop at words 1 0, get_or-drop at words 2 0, drop-drop 3 at words, add-zero at)

  level_of : (k i at : ℕ) → i < k → get_or (levels_in k (drop at words)) i none ≡ level_at words (at + 3 * i)
  level_of zero i at h = absurd (omega arith)
  level_of (suc k) zero at h = let e : at ≡ at + 3 * 0 = omega arith in ap (λ (l : List Level). get_or l 0 none) (first-left k at) ∙ ap (level_at words) e
  level_of (suc k) (suc i) at h =
      let e : at + 3 + 3 * i ≡ at + 3 * suc i = omega arith in
      ap (λ (l : List Level). get_or l (suc i) none) (first-left k at) ∙ level_of k i (at + 3) (omega arith) ∙ ap (level_at words) e

  pub levels-read : (levels : List Level) → length levels ≡ 32 → ((i : ℕ) → i < 32 → get_or levels i none ≡ level_at words (5 + 3 * i))
      → levels ≡ levels_in 32 (drop 5 words)
  levels-read levels size each =
      ext_get_or none levels (levels_in 32 (drop 5 words)) (size ∙ sym (levels-length 32 (drop 5 words)))
      (λ i h. let b : i < 32 = omega arith in each i b ∙ sym (level_of 32 i 5 b))
