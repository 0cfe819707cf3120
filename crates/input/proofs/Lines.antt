-- Bytes without an LF are the start of their line: by the definition of a line, a byte more at a time.
use Prim.Native.Nat.{ℕ, ◌+◌, ◌<◌}
use mathlib.Core.Path.{◌≡◌, refl, sym, ◌∙◌, ap}
use mathlib.Core.Bool.{Bool, true, false, cond}
use mathlib.Core.List.{List, [], ◌∷◌, ◌++◌, append_assoc, append-nil}
use lib.Dec.{eqb}
use lib.ListN.{length, take, drop, set}
use lib.Seq.{take-suc-set, drop-set-lt, drop-drop}
use native.Mathlib.Omega.{arith}
use native.Mathlib.Numerals.{add-one}
use Rattle.input.specs.Line.{line_of}

-- no LF is among the bytes: whatever follows them belongs to their line
abbrev pub Unended : List ℕ → Type 0
Unended xs = (ys : List ℕ) → line_of (xs ++ ys) ≡ xs ++ line_of ys

pub unended_none : Unended []
unfolding line_of
unended_none ys = refl

pub line_so_far : (xs : List ℕ) → Unended xs → line_of xs ≡ xs
unfolding line_of
line_so_far xs u = ap line_of (sym (append-nil xs)) ∙ u [] ∙ append-nil xs

one_more : (xs : List ℕ) (b : ℕ) → eqb b 10 ≡ false → Unended xs → Unended (xs ++ b ∷ [])
unfolding line_of
one_more xs b e u ys =
    ap line_of (append_assoc xs (b ∷ []) ys) ∙ u (b ∷ ys) ∙ ap (λ (t : Bool). xs ++ b ∷ cond t [] (line_of ys)) e ∙ sym (append_assoc xs (b ∷ []) (line_of ys))

one_last : (xs : List ℕ) (b : ℕ) → Unended xs → line_of (xs ++ b ∷ []) ≡ xs ++ b ∷ []
unfolding line_of
one_last xs b u = u (b ∷ []) ∙ ap (λ (l : List ℕ). xs ++ b ∷ l) (nothing_either (eqb b 10))
  where
    nothing_either : (t : Bool) → cond {A = List ℕ} t [] [] ≡ []
    nothing_either true = refl
    nothing_either false = refl

pub stored : (xs : List ℕ) (i b : ℕ) → i < length xs → take (i + 1) (set xs i b) ≡ take i xs ++ b ∷ []
stored xs i b h = ap (λ (j : ℕ). take j (set xs i b)) (add-one i) ∙ take-suc-set xs i b h

-- a byte that is no LF
pub goes_on : (xs : List ℕ) (i b : ℕ) → i < length xs → eqb b 10 ≡ false → Unended (take i xs) → Unended (take (i + 1) (set xs i b))
goes_on xs i b h e u ys = ap (λ (l : List ℕ). line_of (l ++ ys)) (stored xs i b h) ∙ one_more (take i xs) b e u ys
    ∙ ap (λ (l : List ℕ). l ++ line_of ys) (sym (stored xs i b h))

-- whatever byte comes last
pub ends : (xs : List ℕ) (i b : ℕ) → i < length xs → Unended (take i xs) → line_of (take (i + 1) (set xs i b)) ≡ take (i + 1) (set xs i b)
ends xs i b h u = ap line_of (stored xs i b h) ∙ one_last (take i xs) b u ∙ sym (stored xs i b h)

-- the bytes after it are left as they were
pub rest-left : (xs ys : List ℕ) (i b : ℕ) → drop i xs ≡ drop i ys → drop (i + 1) (set xs i b) ≡ drop (i + 1) ys
rest-left xs ys i b h = drop-set-lt (i + 1) xs i b (omega arith) ∙ sym (drop-drop 1 i xs) ∙ ap (λ (l : List ℕ). drop 1 l) h ∙ drop-drop 1 i ys
