-- Where the index has a literal's set. By induction on the variables.
use mathlib.Core.Path.{◌≡◌, refl, ap, ap₂, ◌∙◌}
use mathlib.Core.Bool.{Bool, true, false}
use mathlib.Core.List.{List, ◌++◌}
use Prim.Native.Nat.{ℕ, zero, suc, ◌+◌, ◌*◌, ◌<◌}
use native.Mathlib.Omega.{arith}
use lib.ListN.{length, get_or, length-append, get_or-append}
use lib.Seq.{get_or-append-add}
use Rattle.words.specs.declared.Row.{Row}
use Rattle.occurrences.specs.Index.{word_at, row_set, holds_literal, sets_from, index_of}

module _ (rows : List Row) where
  -- the place of a word of a set
  pub set_at : (p : Row → Bool) (w : ℕ) → w < 6 → get_or (row_set p rows) w 0 ≡ word_at p rows w
  set_at p zero h = refl
  set_at p (suc zero) h = refl
  set_at p (suc (suc zero)) h = refl
  set_at p (suc (suc (suc zero))) h = refl
  set_at p (suc (suc (suc (suc zero)))) h = refl
  set_at p (suc (suc (suc (suc (suc zero))))) h = refl
  set_at p (suc (suc (suc (suc (suc (suc w)))))) h = absurd (omega arith)

  sets-length : (sign : Bool) (k v : ℕ) → length (sets_from sign rows v k) ≡ 6 * k
  sets-length sign zero v = refl
  sets-length sign (suc k) v = let h = sets-length sign k (suc v) in
      length-append (row_set (holds_literal sign v) rows) (sets_from sign rows (suc v) k) ∙ omega arith

  -- of k variables from v on, the set of variable v + i
  sets-at : (sign : Bool) (k v i w : ℕ) → i < k → w < 6 → get_or (sets_from sign rows v k) (6 * i + w) 0 ≡ word_at (holds_literal sign (v + i)) rows w
  sets-at sign zero v i w b h = absurd (omega arith)
  sets-at sign (suc k) v zero w b h =
      let e : 6 * 0 + w ≡ w = omega arith in
      let z : v ≡ v + 0 = omega arith in
      ap (λ (x : ℕ). get_or (sets_from sign rows v (suc k)) x 0) e
      ∙ get_or-append (row_set (holds_literal sign v) rows) (sets_from sign rows (suc v) k) 0 w h
      ∙ set_at (holds_literal sign v) w h ∙ ap (λ (x : ℕ). word_at (holds_literal sign x) rows w) z
  sets-at sign (suc k) v (suc i) w b h =
      let e : 6 * suc i + w ≡ 6 + (6 * i + w) = omega arith in
      let z : suc v + i ≡ v + suc i = omega arith in
      ap (λ (x : ℕ). get_or (sets_from sign rows v (suc k)) x 0) e
      ∙ get_or-append-add (row_set (holds_literal sign v) rows) (sets_from sign rows (suc v) k) (6 * i + w) 0
      ∙ sets-at sign k (suc v) i w (omega arith) h ∙ ap (λ (x : ℕ). word_at (holds_literal sign x) rows w) z

  pub index-length : length (index_of rows) ≡ 384
  unfolding index_of
  index-length = length-append (sets_from true rows 0 32) (sets_from false rows 0 32)
      ∙ ap₂ (λ (x y : ℕ). x + y) (sets-length true 32 0) (sets-length false 32 0)

  module _ (v w : ℕ) (b : v < 32) (h : w < 6) where
    plain : 0 + v ≡ v
    plain = omega arith

    -- of a variable below 32, word w of the set of its positive literal is word 6 × v + w of the index, w being below 6
    pub positive-at : get_or (index_of rows) (6 * v + w) 0 ≡ word_at (holds_literal true v) rows w
    unfolding index_of
    positive-at =
        get_or-append (sets_from true rows 0 32) (sets_from false rows 0 32) 0 (6 * v + w) (omega (arith, sets-length true 32 0))
        ∙ sets-at true 32 0 v w b h ∙ ap (λ (x : ℕ). word_at (holds_literal true x) rows w) plain

    -- of a variable below 32, word w of the set of its negative literal is word 6 × (32 + v) + w of the index, w being below 6
    pub negative-at : get_or (index_of rows) (6 * (32 + v) + w) 0 ≡ word_at (holds_literal false v) rows w
    unfolding index_of
    negative-at =
        let e : 6 * (32 + v) + w ≡ length (sets_from true rows 0 32) + (6 * v + w) = omega (arith, sets-length true 32 0) in
        ap (λ (x : ℕ). get_or (sets_from true rows 0 32 ++ sets_from false rows 0 32) x 0) e
        ∙ get_or-append-add (sets_from true rows 0 32) (sets_from false rows 0 32) (6 * v + w) 0
        ∙ sets-at false 32 0 v w b h ∙ ap (λ (x : ℕ). word_at (holds_literal false x) rows w) plain

-- the number of a literal
abbrev pub place : Bool → ℕ → ℕ
place true v = v
place false v = 32 + v

-- in either sign: word w of a literal's set is the index's word at 6 times the literal's number and w more, for a variable below 32 and w below 6
pub literal-at : (rows : List Row) (sign : Bool) (v w : ℕ) → v < 32 → w < 6
    → get_or (index_of rows) (6 * place sign v + w) 0 ≡ word_at (holds_literal sign v) rows w
literal-at rows true v w b h = positive-at rows v w b h
literal-at rows false v w b h = negative-at rows v w b h
