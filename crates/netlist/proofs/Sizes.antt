-- How many gates, and how many AND gates, cells and arrays of cells have. Both counts add up over circuits and do not change where a cell is placed,
-- so that one induction on the number of copies serves both.
use mathlib.Core.Path.{◌≡◌, refl, ap, ◌∙◌}
use mathlib.Core.List.{List, [], ◌∷◌, ◌++◌}
use Prim.Native.Nat.{ℕ, zero, suc, ◌+◌, ◌*◌}
use native.Mathlib.Omega.{arith}
use lib.ListN.{length, length-append, length-map}
use Rattle.gates.specs.Gates.{Gate}
use Rattle.gates.specs.Gates.Gate.{XOR, AND, INV}
use Rattle.netlist.specs.Templates.{sum}
use Rattle.netlist.specs.Arrays.{placed, cell, rows, along, none, cells, lane, array}

-- ---- what is counted

-- a count of gates
pub record Count : Type 0 where
  pub of : List Gate → ℕ
  pub of_nil : of [] ≡ 0
  pub of_append : (xs ys : List Gate) → of (xs ++ ys) ≡ of xs + of ys
  pub of_cell : (slots : List ℕ) (b : ℕ) (t : List Gate) → of (cell slots b t) ≡ of t

-- a cell has as many gates as its template
pub cell-length : (slots : List ℕ) (b : ℕ) (t : List Gate) → length (cell slots b t) ≡ length t
cell-length slots b t = length-map t (placed slots b)

abbrev pub all_gates : Count
all_gates = record { of = length; of_nil = refl; of_append = length-append; of_cell = cell-length }

-- the AND gates of a circuit
abbrev pub ands : List Gate → ℕ
ands [] = 0
ands (XOR a b ∷ gs) = ands gs
ands (AND a b ∷ gs) = suc (ands gs)
ands (INV a ∷ gs) = ands gs

pub ands_append : (xs ys : List Gate) → ands (xs ++ ys) ≡ ands xs + ands ys
ands_append [] ys = omega arith
ands_append (XOR a b ∷ xs) ys = ands_append xs ys
ands_append (AND a b ∷ xs) ys = omega (arith, ands_append xs ys)
ands_append (INV a ∷ xs) ys = ands_append xs ys

pub cell-ands : (slots : List ℕ) (b : ℕ) (t : List Gate) → ands (cell slots b t) ≡ ands t
cell-ands slots b [] = refl
cell-ands slots b (XOR x y ∷ t) = cell-ands slots b t
cell-ands slots b (AND x y ∷ t) = ap suc (cell-ands slots b t)
cell-ands slots b (INV x ∷ t) = cell-ands slots b t

abbrev pub and_gates : Count
and_gates = record { of = ands; of_nil = refl; of_append = ands_append; of_cell = cell-ands }

-- ---- arrays of cells

module _ (c : Count) where
  pub rows-count : (f : ℕ → List Gate) (size : ℕ) → ((i : ℕ) → c.of (f i) ≡ size) → (n : ℕ) → c.of (rows f n) ≡ size * n
  rows-count f size e zero = omega (arith, c.of_nil)
  rows-count f size e (suc n) = omega (arith, c.of_append (rows f n) (f n), rows-count f size e n, e n)

  pub cells_count : (t : List Gate) (slots steps : List ℕ) (b n : ℕ) → c.of (cells t slots steps b n) ≡ c.of t * n
  unfolding cells
  cells_count t slots steps b n =
      rows-count (λ i. cell (along slots steps i) (b + length t * i) t) (c.of t) (λ i. c.of_cell (along slots steps i) (b + length t * i) t) n

  pub lane_count : (z : ℕ) (t : List Gate) (slots steps : List ℕ) (b n : ℕ) → c.of (lane z t slots steps b n) ≡ c.of sum * z + c.of t * n
  unfolding lane
  lane_count z t slots steps b n =
      c.of_append (cells sum none none b z) (cells t slots steps (b + z) n)
      ∙ omega (arith, cells_count sum none none b z, cells_count t slots steps (b + z) n)

  pub array_count : (z : ℕ) (t : List Gate) (slots outer inner : List ℕ) (b m n : ℕ)
      → c.of (array z t slots outer inner b m n) ≡ (c.of sum * z + c.of t * n) * m
  unfolding array
  array_count z t slots outer inner b m n =
      rows-count (λ i. lane z t (along slots outer i) inner (b + (z + length t * n) * i) n) (c.of sum * z + c.of t * n)
      (λ i. lane_count z t (along slots outer i) inner (b + (z + length t * n) * i) n) m

-- ---- all gates

-- n circuits of one size, one after the other, have n times that many gates
pub rows-length : (f : ℕ → List Gate) (size : ℕ) → ((i : ℕ) → length (f i) ≡ size) → (n : ℕ) → length (rows f n) ≡ size * n
rows-length = rows-count all_gates

-- n cells have n times their template's gates
pub cells-length : (t : List Gate) (slots steps : List ℕ) (b n : ℕ) → length (cells t slots steps b n) ≡ length t * n
cells-length = cells_count all_gates

-- a lane of z zeros and n cells has z gates and n times its template's
pub lane-length : (z : ℕ) (t : List Gate) (slots steps : List ℕ) (b n : ℕ) → length (lane z t slots steps b n) ≡ z + length t * n
lane-length z t slots steps b n = lane_count all_gates z t slots steps b n ∙ omega arith

-- m lanes of z zeros and n cells each have m times the gates of one such lane
pub array-length : (z : ℕ) (t : List Gate) (slots outer inner : List ℕ) (b m n : ℕ) → length (array z t slots outer inner b m n) ≡ (z + length t * n) * m
array-length z t slots outer inner b m n =
    array_count all_gates z t slots outer inner b m n ∙ ap (λ (k : ℕ). (k + length t * n) * m) (let h : 1 * z ≡ z = omega arith in h)
