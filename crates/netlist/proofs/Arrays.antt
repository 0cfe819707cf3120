-- What the wires of arrays of cells hold, and that a circuit of them is accepted: an array is split into lanes, a lane into cells.
use mathlib.Core.Path.{◌≡◌, refl, ap, ap₂, sym, ◌∙◌, subst}
use mathlib.Core.Bool.{Bool, true, false}
use mathlib.Core.List.{List, [], ◌∷◌, ◌++◌, map}
use Prim.Native.Nat.{ℕ, zero, suc, ◌+◌, ◌*◌, ◌≤◌, ◌<◌}
use native.Mathlib.Nat.{add-zero, lt_of_not-le, not-suc-le-zero, le_of_suc-le-suc}
use native.Mathlib.Decide.{dec_le}
use native.Mathlib.Omega.{arith}
use borrow.Author.Tests.{lt-ltb, le-ltb, ltb-true}
use lib.Dec.{ltb}
use lib.ListN.{length, get_or}
use Rattle.words.proofs.Truth.{and_l, and_r, and_i}
use Rattle.gates.specs.Gates.{Gate, wire, wires_of}
use Rattle.gates.specs.Gates.Gate.{XOR, AND, INV}
use Rattle.gates.proofs.Circuits.{reads, ordered, ordered_append}
use Rattle.netlist.specs.Templates.{sum}
use Rattle.netlist.specs.Arrays.{operand, placed, cell, rows, along, none, cells, lane, array, Below}
use Rattle.netlist.proofs.Chains.{xor_self}
use Rattle.netlist.proofs.Sizes.{rows-length, cell-length, cells-length, lane-length}
use Rattle.netlist.proofs.Values.{Holds, holds-left, holds_right, holds_rows, cell-wire}

-- the same numbers, as equations that arithmetic can prove
abbrev pub Agree : List ℕ → List ℕ → Type 0
Agree [] [] = Unit {0}
Agree [] (y ∷ ys) = ⊥
Agree (x ∷ xs) [] = ⊥
Agree (x ∷ xs) (y ∷ ys) = (x ≡ y) × Agree xs ys

agree : (xs ys : List ℕ) → Agree xs ys → xs ≡ ys
agree [] [] h = refl
agree [] (y ∷ ys) h = absurd h
agree (x ∷ xs) [] h = absurd h
agree (x ∷ xs) (y ∷ ys) h = ap₂ (λ (p : ℕ) (l : List ℕ). p ∷ l) h.0 (agree xs ys h.1)

-- ---- values

module _ (W : ℕ → Bool) (z : ℕ) (t : List Gate) where
  lane-holds : (slots steps : List ℕ) (b n : ℕ) → Holds W b (lane z t slots steps b n) → Holds W (b + z) (cells t slots steps (b + z) n)
  unfolding lane
  lane-holds slots steps b n h =
      let e : b + length (cells sum none none b z) ≡ b + z = omega (arith, cells-length sum none none b z) in
      subst (λ (k : ℕ). Holds W k (cells t slots steps (b + z) n)) e
      (holds_right W b (cells sum none none b z) (cells t slots steps (b + z) n) h)

  array-holds : (slots outer inner : List ℕ) (b m n : ℕ) → Holds W b (array z t slots outer inner b m n) → (j : ℕ) → j < m
      → Holds W (b + (z + length t * n) * j) (lane z t (along slots outer j) inner (b + (z + length t * n) * j) n)
  unfolding array
  array-holds slots outer inner b m n h j l =
      holds_rows W (λ i. lane z t (along slots outer i) inner (b + (z + length t * n) * i) n) (z + length t * n) b
      (λ i. lane-length z t (along slots outer i) inner (b + (z + length t * n) * i) n) m h j l

module _ (W : ℕ → Bool) (t : List Gate) (o : ordered 8 t ≡ true) where
  -- gate k of a cell, at wire x, on the slots s
  pub cell_at : (slots : List ℕ) (b : ℕ) → Holds W b (cell slots b t)
      → (s : List ℕ) → Agree slots s → length s ≡ 8 → (k x : ℕ) → k < length t → x ≡ b + k → W x ≡ wire (wires_of (map W s) t) (8 + k)
  cell_at slots b h s a e8 k x l e =
      let q = agree slots s a in
      ap W e ∙ cell-wire W s e8 b t o (subst (λ (r : List ℕ). Holds W b (cell r b t)) q h) k l

  -- of cell i of n cells
  pub cells_at : (slots steps : List ℕ) (b n : ℕ) → Holds W b (cells t slots steps b n) → (i : ℕ) → i < n
      → (s : List ℕ) → Agree (along slots steps i) s → length s ≡ 8 → (k x : ℕ) → k < length t → x ≡ b + length t * i + k
      → W x ≡ wire (wires_of (map W s) t) (8 + k)
  unfolding cells
  cells_at slots steps b n h i l =
      cell_at (along slots steps i) (b + length t * i)
      (holds_rows W (λ j. cell (along slots steps j) (b + length t * j) t) (length t) b (λ j. cell-length (along slots steps j) (b + length t * j) t) n h i l)

  module _ (z : ℕ) where
    -- of cell i of a lane
    pub lane-at : (slots steps : List ℕ) (b n : ℕ) → Holds W b (lane z t slots steps b n) → (i : ℕ) → i < n
        → (s : List ℕ) → Agree (along slots steps i) s → length s ≡ 8 → (k x : ℕ) → k < length t → x ≡ b + z + length t * i + k
        → W x ≡ wire (wires_of (map W s) t) (8 + k)
    lane-at slots steps b n h = cells_at slots steps (b + z) n (lane-holds W z t slots steps b n h)

    -- of cell i of lane j of an array
    pub array_at : (slots outer inner : List ℕ) (b m n : ℕ) → Holds W b (array z t slots outer inner b m n) → (j i : ℕ) → j < m → i < n
        → (s : List ℕ) → Agree (along (along slots outer j) inner i) s → length s ≡ 8
        → (k x : ℕ) → k < length t → x ≡ b + (z + length t * n) * j + z + length t * i + k
        → W x ≡ wire (wires_of (map W s) t) (8 + k)
    array_at slots outer inner b m n h j i l =
        lane-at (along slots outer j) inner (b + (z + length t * n) * j) n (array-holds W z t slots outer inner b m n h j l) i

module _ (W : ℕ → Bool) where
  -- gates that are 0
  pub zeros-at : (b z : ℕ) → Holds W b (cells sum none none b z) → (i x : ℕ) → i < z → x ≡ b + i → W x ≡ false
  unfolding wires_of ordered
  zeros-at b z h i x l e = cells_at W sum refl none none b z h i l none (omega arith) refl 0 x (omega arith) (omega arith) ∙ xor_self (W 0)

  module _ (z : ℕ) (t : List Gate) where
    -- those before the cells of a lane
    pub lane-zero : (slots steps : List ℕ) (b n : ℕ) → Holds W b (lane z t slots steps b n) → (k x : ℕ) → k < z → x ≡ b + k → W x ≡ false
    unfolding lane
    lane-zero slots steps b n h = zeros-at b z (holds-left W b (cells sum none none b z) (cells t slots steps (b + z) n) h)

    -- and of each lane of an array
    pub array-zero : (slots outer inner : List ℕ) (b m n : ℕ) → Holds W b (array z t slots outer inner b m n) → (j : ℕ) → j < m
        → (k x : ℕ) → k < z → x ≡ b + (z + length t * n) * j + k → W x ≡ false
    array-zero slots outer inner b m n h j l =
        lane-zero (along slots outer j) inner (b + (z + length t * n) * j) n (array-holds W z t slots outer inner b m n h j l)

-- ---- acceptance

-- where every number of a list is below k, the one at each place is
pub below_at : (k : ℕ) (s : List ℕ) → Below k s → (x : ℕ) → x < length s → get_or s x 0 < k
below_at k [] b x h = absurd (not-suc-le-zero h)
below_at k (y ∷ s) b zero h = b.0
below_at k (y ∷ s) b (suc x) h = below_at k s b.1 x (le_of_suc-le-suc h)

pub append_ordered : (b : ℕ) (xs ys : List Gate) → ordered b xs ≡ true → ordered (b + length xs) ys ≡ true → ordered b (xs ++ ys) ≡ true
append_ordered b xs ys p q = ordered_append b xs ys ∙ and_i p q

pub rows-ordered : (f : ℕ → List Gate) (size b : ℕ) → ((i : ℕ) → length (f i) ≡ size) → (n : ℕ)
    → ((i : ℕ) → i < n → ordered (b + size * i) (f i) ≡ true) → ordered b (rows f n) ≡ true
unfolding ordered
rows-ordered f size b e zero h = refl
rows-ordered f size b e (suc n) h =
    append_ordered b (rows f n) (f n) (rows-ordered f size b e n (λ i l. h i (omega arith)))
    (ap (λ (k : ℕ). ordered (b + k) (f n)) (rows-length f size e n) ∙ h n (omega arith))

module _ (slots : List ℕ) (b : ℕ) (e8 : length slots ≡ 8) (u : Below b slots) where
  operand_below : (j x : ℕ) → x < 8 + j → operand slots b x < b + j
  operand_below j x h = go (dec_le 8 x)
    where
      go : Dec (8 ≤ x) → operand slots b x < b + j
      go (yes p) = rw (le-ltb x 8 p) (omega arith)
      go (no n) =
          let l : x < 8 = lt_of_not-le n in
          rw (lt-ltb x 8 l) (omega (arith, below_at b slots u x (omega arith)))

  operand-reads : (j x : ℕ) → ltb x (8 + j) ≡ true → ltb (operand slots b x) (b + j) ≡ true
  operand-reads j x e = lt-ltb (operand slots b x) (b + j) (operand_below j x (ltb-true x (8 + j) e))

  placed-reads : (j : ℕ) (g : Gate) → reads (8 + j) g ≡ true → reads (b + j) (placed slots b g) ≡ true
  placed-reads j (XOR x y) o = and_i (operand-reads j x (and_l _ _ o)) (operand-reads j y (and_r (ltb x (8 + j)) _ o))
  placed-reads j (AND x y) o = and_i (operand-reads j x (and_l _ _ o)) (operand-reads j y (and_r (ltb x (8 + j)) _ o))
  placed-reads j (INV x) o = operand-reads j x o

  cell-from : (t : List Gate) (j : ℕ) → ordered (8 + j) t ≡ true → ordered (b + j) (cell slots b t) ≡ true
  unfolding ordered
  cell-from [] j o = refl
  cell-from (g ∷ t) j o =
      let e : suc (8 + j) ≡ 8 + suc j = omega arith in
      let e' : b + suc j ≡ suc (b + j) = omega arith in
      and_i (placed-reads j g (and_l _ _ o))
      (ap (λ (k : ℕ). ordered k (cell slots b t)) (sym e')
      ∙ cell-from t (suc j) (ap (λ (k : ℕ). ordered k t) (sym e) ∙ and_r (reads (8 + j) g) _ o))

  pub cell-ordered : (t : List Gate) → ordered 8 t ≡ true → ordered b (cell slots b t) ≡ true
  cell-ordered t o = ap (λ (k : ℕ). ordered k (cell slots b t)) (sym (add-zero b)) ∙ cell-from t 0 o

module _ (t : List Gate) (o : ordered 8 t ≡ true) where
  pub cells-ordered : (slots steps : List ℕ) (b n : ℕ)
      → ((i : ℕ) → i < n → (length (along slots steps i) ≡ 8) × Below (b + length t * i) (along slots steps i))
      → ordered b (cells t slots steps b n) ≡ true
  unfolding cells
  cells-ordered slots steps b n h =
      rows-ordered (λ i. cell (along slots steps i) (b + length t * i) t) (length t) b (λ i. cell-length (along slots steps i) (b + length t * i) t) n
      (λ i l. cell-ordered (along slots steps i) (b + length t * i) (h i l).0 (h i l).1 t o)

pub zeros-ordered : (b z : ℕ) → 0 < b → ordered b (cells sum none none b z) ≡ true
unfolding ordered
zeros-ordered b z p = cells-ordered sum refl none none b z (λ i l. (refl, omega arith))

module _ (z : ℕ) (t : List Gate) (o : ordered 8 t ≡ true) where
  pub lane-ordered : (slots steps : List ℕ) (b n : ℕ) → 0 < b
      → ((i : ℕ) → i < n → (length (along slots steps i) ≡ 8) × Below (b + z + length t * i) (along slots steps i))
      → ordered b (lane z t slots steps b n) ≡ true
  unfolding lane
  lane-ordered slots steps b n p h =
      let e : b + length (cells sum none none b z) ≡ b + z = omega (arith, cells-length sum none none b z) in
      append_ordered b (cells sum none none b z) (cells t slots steps (b + z) n) (zeros-ordered b z p)
      (ap (λ (k : ℕ). ordered k (cells t slots steps (b + z) n)) e ∙ cells-ordered t o slots steps (b + z) n h)

  pub array-ordered : (slots outer inner : List ℕ) (b m n : ℕ) → 0 < b
      → ((j i : ℕ) → j < m → i < n → (length (along (along slots outer j) inner i) ≡ 8)
      × Below (b + (z + length t * n) * j + z + length t * i) (along (along slots outer j) inner i))
      → ordered b (array z t slots outer inner b m n) ≡ true
  unfolding array
  array-ordered slots outer inner b m n p h =
      rows-ordered (λ j. lane z t (along slots outer j) inner (b + (z + length t * n) * j) n) (z + length t * n) b
      (λ j. lane-length z t (along slots outer j) inner (b + (z + length t * n) * j) n) m
      (λ j l. lane-ordered (along slots outer j) inner (b + (z + length t * n) * j) n (omega arith) (λ i l'. h j i l l'))
