-- A table's first 2 × rows words have its rows and are judged as the table is. By the lengths and places of a list's front.
use mathlib.Core.Path.{◌≡◌, refl, sym, ap, ap₂, ◌∙◌}
use mathlib.Core.Bool.{Bool, not}
use mathlib.Core.List.{List, [], ◌∷◌, ◌++◌, append_assoc}
use Prim.Native.Nat.{ℕ, zero, suc, ◌+◌, ◌*◌, ◌≤◌, ◌<◌}
use native.Mathlib.Omega.{arith}
use lib.Dec.{ltb}
use lib.ListN.{length, take, drop, set, length-take, take-append-drop}
use lib.Seq.{get_or-take, take-take, sets, take-set-lt, drop-set-lt}
use borrow.Author.Tests.{ltb-true, ltb-false, lt-ltb, le-ltb}
use Rattle.std.specs.Prelude.{Ok, Err}
use Rattle.refusals.specs.Numbers.{Outcome}
use Rattle.words.proofs.Truth.{on}
use Rattle.words.specs.declared.Row.{Row}
use Rattle.dimensions.specs.declared.Dimensions.{Dimensions}
use Rattle.dimensions.specs.Sizes.{size_checks}
use Rattle.refusals.specs.Checks.{check, given}
use Rattle.gates.specs.Memory.{over}
use Rattle.refusals.specs.declared.Refusal.TheVariants.{RowBit, RowBuffer}
use Rattle.tables.specs.Tables.{Tables}
use Rattle.tables.specs.Rows.{row_at, rows_from, rows_of}
use Rattle.tables.specs.Acceptance.{all_below, high, any_short, any_high, table_checks}
use Rattle.demand1.specs.Named.{named_rows, named_tables}

-- a buffer is too short exactly if a front of it is that is no shorter
pub front-within : (j k : ℕ) (l : List ℕ) → j ≤ k → ltb (length (take k l)) j ≡ ltb (length l) j
front-within j k l h =
    on (ltb (length l) j)
    (λ e. lt-ltb (length (take k l)) j (omega (arith, ltb-true (length l) j e, length-take k l)) ∙ sym e)
    (λ e. le-ltb (length (take k l)) j (omega (arith, ltb-false (length l) j e, length-take k l)) ∙ sym e)

pub front-short : (k : ℕ) (l : List ℕ) → ltb (length (take k l)) k ≡ ltb (length l) k
front-short k l = front-within k k l (omega arith)

-- a front's row
pub front-row : (words : List ℕ) (k i : ℕ) → 2 * i + 1 < k → row_at (take k words) i ≡ row_at words i
front-row words k i h = ap₂ (λ (p q : ℕ). record { positive = p; negative = q }) (get_or-take k words (2 * i) 0 (omega arith))
    (get_or-take k words (2 * i + 1) 0 h)

front-rows : (words : List ℕ) (k i c : ℕ) → 2 * (i + c) ≤ k → rows_from (take k words) i c ≡ rows_from words i c
front-rows words k i zero h = refl
front-rows words k i (suc c) h = ap₂ (λ (r : Row) (rs : List Row). r ∷ rs) (front-row words k i (omega arith)) (front-rows words k (suc i) c (omega arith))

-- ---- values over a front

-- what is from a place on, in a front and after it
drop-front : (j k : ℕ) (l : List ℕ) → j ≤ k → drop j (take k l) ++ drop k l ≡ drop j l
drop-front zero k l h = take-append-drop k l
drop-front (suc j) zero l h = absurd (omega arith)
drop-front (suc j) (suc k) [] h = refl
drop-front (suc j) (suc k) (x ∷ xs) h = drop-front j k xs (omega arith)

-- values over the front of a buffer that is cut no sooner than they end
pub over-front : (values : List ℕ) (k : ℕ) (l : List ℕ) → length values ≤ k → over values l ≡ over values (take k l) ++ drop k l
over-front values k l h =
    ap (λ (r : List ℕ). values ++ r) (sym (drop-front (length values) k l h)) ∙ sym (append_assoc values (drop (length values) (take k l)) (drop k l))

-- the same, written value by value
sets-front-at : (values : List ℕ) (k i : ℕ) (l : List ℕ) → i + length values ≤ k → sets l i values ≡ sets (take k l) i values ++ drop k l
sets-front-at [] k i l h = sym (take-append-drop k l)
sets-front-at (v ∷ vs) k i l h =
    sets-front-at vs k (suc i) (set l i v) (omega arith)
    ∙ ap₂ (λ (a b : List ℕ). sets a (suc i) vs ++ b) (take-set-lt k l i v (omega arith)) (drop-set-lt k l i v (omega arith))

pub sets-front : (values : List ℕ) (k : ℕ) (l : List ℕ) → length values ≤ k → sets l 0 values ≡ sets (take k l) 0 values ++ drop k l
sets-front values k l h = sets-front-at values k 0 l (omega arith)

-- a buffer that a taken call writes, the rest of it after the words named
pub front_kept : {o q : Outcome} {x : List ℕ} (y r l m : List ℕ) → o ≡ Ok tt → o ≡ q → x ≡ y ++ r → given o x (λ z. l) ≡ given q y (λ z. m) ++ r
front_kept {o} {q} {x} y r l m h e w =
    ap (λ (z : Outcome). given z x (λ i. l)) h ∙ w ∙ ap (λ (z : Outcome). given z y (λ i. m) ++ r) (sym h ∙ e)

-- the same of a call that is taken or not
pub front_stays : {o q : Outcome} (x y r l m : List ℕ) → o ≡ q → x ≡ y ++ r → l ≡ m ++ r → given o x (λ z. l) ≡ given q y (λ z. m) ++ r
front_stays {o} {q} x y r l m e w v = go o ∙ ap (λ (z : Outcome). given z y (λ i. m) ++ r) e
  where
    go : (z : Outcome) → given z x (λ i. l) ≡ given z y (λ i. m) ++ r
    go (Ok _) = w
    go (Err q) = v

-- ---- the tables

-- the words judged are the front's
pub front-high : (n rows : ℕ) (words : List ℕ) → high n rows (named_rows rows words) ≡ high n rows words
front-high n rows words = ap (λ (l : List ℕ). not (all_below n l)) (take-take (2 * rows) _ words (omega arith))

module _ (d : Dimensions) (tables : Tables) where
  -- the rows of the words named
  pub named-rows : rows_of d (named_tables d tables) ≡ rows_of d tables
  named-rows =
      ap₂ (λ (l r : List Row). l ++ r) (front-rows tables.left (2 * d.left) 0 d.left (omega arith))
      (ap₂ (λ (l r : List Row). l ++ r) (front-rows tables.right (2 * d.right) 0 d.right (omega arith))
      (front-rows tables.public (2 * d.public) 0 d.public (omega arith)))

  pub named-short : any_short d (named_tables d tables) ≡ any_short d tables
  named-short =
      rw (front-short (2 * d.left) tables.left, front-short (2 * d.right) tables.right, front-short (2 * d.public) tables.public)

  pub named-high : any_high d (named_tables d tables) ≡ any_high d tables
  named-high =
      rw (front-high d.n d.left tables.left, front-high d.n d.right tables.right, front-high d.n d.public tables.public)

  -- the checks of the words named
  pub named-checks : table_checks d (named_tables d tables) ≡ table_checks d tables
  named-checks = ap₂ (λ (s h : Bool). size_checks d ++ (check s RowBuffer ∷ check h RowBit ∷ [])) named-short named-high
