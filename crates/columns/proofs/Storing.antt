-- A table's squares stored, a square at a time: what is left to store gives what the whole run gives.
use mathlib.Core.Path.{◌≡◌, refl, sym, ap, ap₂, ◌∙◌}
use mathlib.Core.List.{List, [], ◌∷◌, ◌++◌, append-nil, append_assoc}
use Prim.Native.Nat.{ℕ, suc, ◌+◌, ◌-◌, ◌*◌, ◌≤◌, ◌<◌}
use native.Mathlib.Numerals.{add-one}
use native.Mathlib.Omega.{arith}
use lib.ListN.{length, get_or, take, drop, length-append}
use lib.Seq.{sets, sets-eq, length-sets}
use borrow.Rule.Slice.PartMut.{put_mid}
use Rattle.std.proofs.lemmas.List.Edits.{paste_all}
use Rattle.std.proofs.lemmas.Slice.{put_mid-paste}
use Rattle.words.proofs.Stores.{sets_append}
use Rattle.squares.specs.Squares.{column, transposed, sign_words, square_at}
use Rattle.columns.specs.Planes.{flat, squares_from}
use Rattle.squares.proofs.Tabulating.{length-tabulate}

-- a square's two planes have 64 words
pub length-square : (table : List ℕ) (s : ℕ) → length (flat (square_at table s)) ≡ 64
length-square table s =
    length-append (transposed (sign_words table s 0)) (transposed (sign_words table s 1) ++ [])
    ∙ ap₂ (λ (a b : ℕ). a + b) (length-tabulate (column (sign_words table s 0)) 0 32)
    (length-append (transposed (sign_words table s 1)) [] ∙ ap (λ (a : ℕ). a + 0) (length-tabulate (column (sign_words table s 1)) 0 32))

-- squares below s are stored
pub record Squaring (table before : List ℕ) (k s : ℕ) (now : List ℕ) : Type 0 where
  pub size : length now ≡ length before
  pub stored : sets now (64 * s) (squares_from table s (k - s)) ≡ sets before 0 (squares_from table 0 k)

module _ (table before : List ℕ) (k : ℕ) where
  pub squaring_start : Squaring table before k 0 before
  squaring_start = record { size = refl; stored = let e : k - 0 ≡ k = omega arith in ap (λ (x : ℕ). sets before 0 (squares_from table 0 x)) e }

  module _ (s : ℕ) (now : List ℕ) (q : Squaring table before k s now) where
    pub squaring_next : s < k → (next : List ℕ) → next ≡ sets now (64 * s) (flat (square_at table s)) → Squaring table before k (s + 1) next
    unfolding squares_from
    squaring_next h next e =
        let a : k - s ≡ suc (k - (s + 1)) = omega arith in
        let b : 64 * s + length (flat (square_at table s)) ≡ 64 * (s + 1) = ap (λ (x : ℕ). 64 * s + x) (length-square table s) ∙ distribute s in
        record {
          size = ap length e ∙ length-sets now (64 * s) (flat (square_at table s)) ∙ q.size;
          stored =
              ap (λ (l : List ℕ). sets l (64 * (s + 1)) (squares_from table (s + 1) (k - (s + 1)))) e
              ∙ ap₂ (λ (x y : ℕ). sets (sets now (64 * s) (flat (square_at table s))) x (squares_from table y (k - (s + 1)))) (sym b) (add-one s)
              ∙ sym (sets_append (flat (square_at table s)) (squares_from table (suc s) (k - (s + 1))) now (64 * s))
              ∙ ap (λ (x : ℕ). sets now (64 * s) (squares_from table s x)) (sym a)
              ∙ q.stored;
        }
      where
        distribute : (s : ℕ) → 64 * s + 64 ≡ 64 * (s + 1)
        distribute s = omega arith

    pub squaring_end : k ≤ s → now ≡ sets before 0 (squares_from table 0 k)
    unfolding squares_from
    squaring_end h = let e : k - s ≡ 0 = omega arith in ap (λ (x : ℕ). sets now (64 * s) (squares_from table s x)) (sym e) ∙ q.stored

-- a part written in place is its words stored
pub part_stored : (before part words : List ℕ) (at k : ℕ) → part ≡ words → length words ≡ k → at + k ≤ length before
    → put_mid at k before part ≡ sets before at words
part_stored before part words at k e size room =
    put_mid-paste at k before part words k e refl (sym size)
    ∙ paste_all before at words k (sym size)
    ∙ ap (λ (n : ℕ). take at before ++ (words ++ drop (at + n) before)) (sym size)
    ∙ sym (sets-eq words before at (omega arith) ∙ append_assoc (take at before) words _)

-- two planes stored one after the other are a square stored
pub two_planes : (before : List ℕ) (at : ℕ) (square : List (List ℕ)) → length square ≡ 2 → length (get_or square 0 []) ≡ 32
    → sets (sets before at (get_or square 0 [])) (at + 32) (get_or square 1 []) ≡ sets before at (flat square)
two_planes before at [] e h = absurd (omega arith)
two_planes before at (p ∷ []) e h = absurd (omega arith)
two_planes before at (p ∷ q ∷ r ∷ rs) e h = absurd (omega arith)
two_planes before at (p ∷ q ∷ []) e h =
    ap (λ (k : ℕ). sets (sets before at p) (at + k) q) (sym h) ∙ sym (sets_append p q before at)
    ∙ ap (λ (l : List ℕ). sets before at (p ++ l)) (sym (append-nil q))
