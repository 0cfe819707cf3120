-- The circuit's equations up to the decoder, what the proof knows of the gates: the wires by section, and one equation for each output of each cell,
-- at the indices that there are. Rows, variables and digits are counted from 0; a chain's wire is numbered by the cells before it.
use mathlib.Core.Path.{◌≡◌}
use mathlib.Core.Bool.{Bool, true, false, not, ◌&&◌, cond}
use mathlib.Core.List.{List}
use Prim.Native.Nat.{ℕ, suc, ◌+◌, ◌*◌, ◌-◌, ◌/◌, ◌^◌, ◌≤◌, ◌<◌}
use lib.Dec.{ltb}
use lib.ListN.{length}
use Rattle.words.specs.declared.Row.{Row}
use Rattle.words.specs.Booleans.{◌⊕◌}
use Rattle.words.specs.Sets.{bit}
use Rattle.wires.proofs.Addresses.{row_of}
use Rattle.netlist.proofs.Chains.{or}
use Rattle.netlist.proofs.Digits.{greater_of}
use Rattle.netlist.proofs.Decoder.{child_one, child_zero}

-- ---- what the cells compute

-- literal: a free positive literal, if the row is not satisfied here or before, from its wire, F, and whether the row is satisfied before
abbrev pub positive_of : Bool → Bool → Bool → Bool
positive_of p f s = (s ⊕ p) && (p ⊕ f)

-- a free negative literal, from its wire and T
abbrev pub negative_of : Bool → Bool → Bool → Bool
negative_of q t s = (s ⊕ q) && (q ⊕ t)

-- a free literal
abbrev pub literal_of : Bool → Bool → Bool → Bool → Bool → Bool
literal_of p q t f s = positive_of p f s ⊕ negative_of q t s

-- the row is satisfied: before, or here both the positive literal or F, and the negative literal or T
abbrev pub satisfied_of : Bool → Bool → Bool → Bool → Bool → Bool
satisfied_of p q t f s = s ⊕ ((f ⊕ positive_of p f s) && (t ⊕ negative_of q t s))

-- rank: satisfied, some and many free literals
abbrev pub few_of : Bool → Bool → Bool
few_of satisfied many = not satisfied && not many

abbrev pub low_of : Bool → Bool → Bool → Bool
low_of satisfied some many = not satisfied ⊕ (few_of satisfied many && some)

-- ---- wires and equations

pub record Wires : Type 0 where
  -- inputs: a row's positive and negative wires, the state's T and F
  pub p : ℕ → ℕ → Bool
  pub q : ℕ → ℕ → Bool
  pub T : ℕ → Bool
  pub F : ℕ → Bool
  -- literal, count: row, then variable
  pub satisfied : ℕ → ℕ → Bool
  pub sign : ℕ → ℕ → Bool
  pub literal : ℕ → ℕ → Bool
  pub some : ℕ → ℕ → Bool
  pub many : ℕ → ℕ → Bool
  -- rank: row; its two digits
  pub high : ℕ → Bool
  pub low : ℕ → Bool
  -- digit: its weight's exponent, row, threshold
  pub sum : ℕ → ℕ → ℕ → Bool
  -- key: row, then digit
  pub key : ℕ → ℕ → Bool
  -- pair, node: a lane of the tree, then digit. Its left item, where its two items differ, and the right one greater; the right one is kept
  pub left : ℕ → ℕ → Bool
  pub differs : ℕ → ℕ → Bool
  pub greater : ℕ → ℕ → Bool
  pub keep : ℕ → Bool
  -- greatest: digit
  pub greatest : ℕ → Bool
  -- split: digits before, then node
  pub act : Bool
  pub node : ℕ → ℕ → Bool

-- the items that the tree compares: the keys of m rows, then what each lane keeps
abbrev pub item_of : ℕ → Wires → ℕ → ℕ → Bool
item_of m w t i = cond (ltb t m) (w.key t i) (w.left (t - m) i ⊕ (w.keep (t - m) && w.differs (t - m) i))

-- the input wires hold the bits of rows, T and F
pub record Inputs (n : ℕ) (rows : List Row) (t f : ℕ) (w : Wires) : Type 0 where
  pub p_is : (j i : ℕ) → j < length rows → i < n → w.p j i ≡ bit (row_of rows j).positive i
  pub q-is : (j i : ℕ) → j < length rows → i < n → w.q j i ≡ bit (row_of rows j).negative i
  pub t_is : (i : ℕ) → i < n → w.T i ≡ bit t i
  pub f_is : (i : ℕ) → i < n → w.F i ≡ bit f i

-- each cell's equations, for n variables, m rows and b digits of a variable's number
pub record Cells (n m b : ℕ) (w : Wires) : Type 0 where
  -- literal
  pub satisfied-zero : (j : ℕ) → j < m → w.satisfied j 0 ≡ false
  pub satisfied-suc : (j i : ℕ) → j < m → i < n → w.satisfied j (suc i) ≡ satisfied_of (w.p j i) (w.q j i) (w.T i) (w.F i) (w.satisfied j i)
  pub literal-is : (j i : ℕ) → j < m → i < n → w.literal j i ≡ literal_of (w.p j i) (w.q j i) (w.T i) (w.F i) (w.satisfied j i)
  pub sign_zero : (j : ℕ) → j < m → w.sign j 0 ≡ false
  pub sign-suc : (j i : ℕ) → j < m → i < n → w.sign j (suc i) ≡ w.sign j i ⊕ positive_of (w.p j i) (w.F i) (w.satisfied j i)
  -- count
  pub some-zero : (j : ℕ) → j < m → w.some j 0 ≡ false
  pub some-suc : (j i : ℕ) → j < m → i < n → w.some j (suc i) ≡ or (w.some j i) (w.literal j i)
  pub many-zero : (j : ℕ) → j < m → w.many j 0 ≡ false
  pub many-suc : (j i : ℕ) → j < m → i < n → w.many j (suc i) ≡ or (w.many j i) (w.some j i && w.literal j i)
  -- rank
  pub high_is : (j : ℕ) → j < m → w.high j ≡ few_of (w.satisfied j n) (w.many j n)
  pub low-is : (j : ℕ) → j < m → w.low j ≡ low_of (w.satisfied j n) (w.some j n) (w.many j n)
  -- digit
  pub sum-zero : (d j : ℕ) → d < b → j < m → w.sum d j 0 ≡ false
  pub sum-suc : (d j k : ℕ) → d < b → j < m → k < (n - 1) / 2 ^ d → w.sum d j (suc k) ≡ w.sum d j k ⊕ w.some j (n - 2 ^ d * ((n - 1) / 2 ^ d - k))
  -- key
  pub key_sign_lem : (j : ℕ) → j < m → w.key j 0 ≡ w.sign j n
  pub key_digit_lem : (j d : ℕ) → j < m → d < b → w.key j (suc d) ≡ w.sum d j ((n - 1) / 2 ^ d)
  pub key_low_lem : (j : ℕ) → j < m → w.key j (suc b) ≡ w.low j
  pub key_high_lem : (j : ℕ) → j < m → w.key j (suc (suc b)) ≡ w.high j
  -- pair, node: lane s compares items 2s and 2s + 1
  pub left_is : (s i : ℕ) → suc s < m → i < suc (suc (suc b)) → w.left s i ≡ item_of m w (2 * s) i
  pub differs-is : (s i : ℕ) → suc s < m → i < suc (suc (suc b)) → w.differs s i ≡ item_of m w (2 * s) i ⊕ item_of m w (2 * s + 1) i
  pub greater_zero : (s : ℕ) → suc s < m → w.greater s 0 ≡ false
  pub greater_suc : (s i : ℕ) → suc s < m → i < suc (suc (suc b))
      → w.greater s (suc i) ≡ greater_of (item_of m w (2 * s) i) (item_of m w (2 * s + 1) i) (w.greater s i)
  pub keep-is : (s : ℕ) → suc s < m → w.keep s ≡ w.greater s (suc (suc (suc b)))
  -- greatest
  pub greatest-is : (i : ℕ) → i < suc (suc (suc b)) → w.greatest i ≡ item_of m w (2 * m - 2) i
  -- split
  pub node-root : w.node 0 0 ≡ w.act
  pub node-one : (d k : ℕ) → d < b → k < 2 ^ d → w.node (suc d) (2 * k) ≡ child_one (w.node d k) (w.greatest (suc (b - suc d)))
  pub node-zero : (d k : ℕ) → d < b → k < 2 ^ d → w.node (suc d) (2 * k + 1) ≡ child_zero (w.node d k) (w.greatest (suc (b - suc d)))

-- the circuit on rows, T and F
pub record OnState (n b : ℕ) (rows : List Row) (t f : ℕ) (w : Wires) : Type 0 where
  pub inputs : Inputs n rows t f w
  pub cells : Cells n (length rows) b w
  -- T and F are disjoint, there is a row, and b digits are enough
  pub apart : (i : ℕ) → i < n → not (bit t i && bit f i) ≡ true
  pub a-row : 0 < length rows
  pub room : n ≤ 2 ^ b
