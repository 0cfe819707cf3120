-- The first half of the circuit meets its equations, from the rows to the decoder: for each section one law says what a gate of its cells
-- gives on the wires that the cell takes, and each equation is that law at one gate, the template computed.
use mathlib.Core.Path.{◌≡◌, refl, ap, ap₂, sym, ◌∙◌, subst}
use mathlib.Core.Bool.{Bool, true, false, ◌&&◌, cond}
use mathlib.Core.List.{List}
use Prim.Native.Nat.{ℕ, suc, ◌+◌, ◌*◌, ◌-◌, ◌^◌, ◌≤◌, ◌<◌}
use native.Mathlib.Nat.{pow-suc, mul-div-le}
use native.Mathlib.Omega.{arith}
use lib.Dec.{ltb}
use borrow.Author.Tests.{lt-ltb, ltb-true, ltb-false}
use Rattle.words.specs.Booleans.{◌⊕◌}
use Rattle.words.proofs.Truth.{on}
use Rattle.gates.specs.Gates.{wires_of}
use Rattle.gates.proofs.Circuits.{ordered}
use Rattle.sections.specs.declared.Addresses.{Addresses}
use Rattle.sections.specs.Cells.{rule, act, literal_lane, count_lane, tree_lane}
use Rattle.sections.specs.Addressing.{thresholds}
use Rattle.sections.specs.Sections.{two, three, six, seven, digit_after, node_at, greatest_at}
use Rattle.netlist.specs.Templates as Templates
use Rattle.netlist.proofs.Chains.{xor_false, xor_self}
use Rattle.netlist.proofs.Arrays.{cell_at, cells_at, lane-at, array_at, array-zero}
use Rattle.netlist.proofs.Digits.{greater_of}
use Rattle.netlist.proofs.Equations.{Wires, Cells, item_of}
use Rattle.netlist.proofs.SectionGates.{Sections}
use Rattle.netlist.proofs.Wiring.{gate_on, again, first_wires, copied}

module _ (W : ℕ → Bool) (a : Addresses) where
  abbrev n : ℕ
  n = a.n

  abbrev m : ℕ
  m = a.m

  abbrev b : ℕ
  b = a.b

  abbrev l : ℕ
  l = tree_lane b

  abbrev row : ℕ
  row = literal_lane n

  abbrev counted : ℕ
  counted = count_lane n

  abbrev u : Wires
  u = first_wires W a

  module _ (s : Sections W a) where
    -- ---- literals to keys

    abbrev literal_wires : ℕ → ℕ → List ℕ
    literal_wires j i =
        six (2 * n * j + i) (2 * n * j + n + i) (a.state + i) (a.state + n + i) (a.literals + row * j + 12 * i) (a.literals + 1 + row * j + 12 * i)

    literal_gate : (j i : ℕ) → j < m → i < n → (k x : ℕ) → k < 12 → x ≡ a.literals + row * j + 2 + 12 * i + k
        → W x ≡ gate_on W (literal_wires j i) Templates.literal k
    unfolding ordered
    literal_gate j i h g = array_at W Templates.literal refl 2 _ _ _ _ _ _ s.literals_hold j i h g (literal_wires j i) (omega arith) refl

    abbrev count_wires : ℕ → ℕ → List ℕ
    count_wires j i = three (a.literals + 10 + row * j + 12 * i) (a.counts + counted * j + 6 * i) (a.counts + 1 + counted * j + 6 * i)

    count_gate : (j i : ℕ) → j < m → i < n → (k x : ℕ) → k < 6 → x ≡ a.counts + counted * j + 2 + 6 * i + k
        → W x ≡ gate_on W (count_wires j i) Templates.count k
    unfolding ordered
    count_gate j i h g = array_at W Templates.count refl 2 _ _ _ _ _ _ s.counts_hold j i h g (count_wires j i) (omega arith) refl

    abbrev rank_wires : ℕ → List ℕ
    rank_wires j = three (a.literals + row * j + 12 * n) (a.counts + counted * j + 6 * n) (a.counts + 1 + counted * j + 6 * n)

    rank_gate : (j : ℕ) → j < m → (k x : ℕ) → k < 5 → x ≡ a.ranks + 5 * j + k → W x ≡ gate_on W (rank_wires j) Templates.rank k
    unfolding ordered
    rank_gate j h = cells_at W Templates.rank refl _ _ _ _ s.ranks_hold j h (rank_wires j) (omega arith) refl

    -- a threshold of digit d, from below
    threshold : (d k : ℕ) → k < thresholds n d → n - 2 ^ d * thresholds n d + 2 ^ d * k ≡ n - 2 ^ d * (thresholds n d - k)
    threshold d k h = ahead n (2 ^ d) (thresholds n d) (thresholds n d - k) k (omega arith) (omega (arith, mul-div-le (n - 1) (2 ^ d)))
      where
        ahead : (n p t u k : ℕ) → t ≡ u + k → p * t ≤ n → n - p * t + p * k ≡ n - p * u
        ahead n p t u k e h = split n (p * t) (p * u) (p * k) (ap (λ (x : ℕ). p * x) e ∙ omega arith) h
          where
            split : (n x y z : ℕ) → x ≡ y + z → x ≤ n → n - x + z ≡ n - y
            split n x y z e h = omega arith

    digit-sum : (d j k : ℕ) → d < b → j < m → k < thresholds n d
        → u.sum d j (suc k) ≡ u.sum d j k ⊕ u.some j (n - 2 ^ d * (thresholds n d - k))
    unfolding wires_of ordered
    digit-sum d j k h g q =
        let t = thresholds n d in
        array_at W Templates.sum refl 1 _ _ _ _ _ _ (s.digit-holds d h) j k g q
        (two (a.counts + counted * j + 6 * (n - 2 ^ d * (t - k))) (digit_after a d + (1 + t) * j + k))
        (omega (arith, threshold d k q)) refl 0 _ (omega arith) (omega arith)
        ∙ swap (W (a.counts + counted * j + 6 * (n - 2 ^ d * (t - k)))) (W (digit_after a d + (1 + t) * j + k))
      where
        swap : (x y : Bool) → x ⊕ y ≡ y ⊕ x
        swap true true = refl
        swap true false = refl
        swap false true = refl
        swap false false = refl

    -- ---- the greatest key

    -- what lane k of the tree keeps; lane 0 is the last row's
    abbrev kept_at : ℕ → ℕ → Bool
    kept_at k i = W (a.tree + 2 + l * k + 8 * i) ⊕ (W (a.tree + l * k + 8 * (3 + b)) && W (a.tree + 5 + l * k + 8 * i))

    abbrev item : ℕ → ℕ → Bool
    item t i = item_of m u t i

    bye_gate : (i : ℕ) → i < 3 + b → (k x : ℕ) → k < 8 → x ≡ a.tree + 1 + 8 * i + k → W x ≡ gate_on W (two (a.keys + m * i + (m - 1)) 0) Templates.bye k
    unfolding ordered
    bye_gate i g = lane-at W Templates.bye refl 1 _ _ _ _ s.bye-holds i g (two (a.keys + m * i + (m - 1)) 0) (omega arith) refl

    bye-kept : (i : ℕ) → i < 3 + b → kept_at 0 i ≡ u.key (m - 1) i
    unfolding wires_of
    bye-kept i g =
        ap₂ (λ (x y : Bool). x ⊕ (y && W (a.tree + 5 + l * 0 + 8 * i)))
        (bye_gate i g 1 (a.tree + 2 + l * 0 + 8 * i) (omega arith) (omega arith) ∙ again (u.key (m - 1) i))
        (bye_gate (2 + b) (omega arith) 7 (a.tree + l * 0 + 8 * (3 + b)) (omega arith) (omega arith) ∙ xor_self (u.key (m - 1) (2 + b)))
        ∙ xor_false (u.key (m - 1) i)

    abbrev pair_wires : ℕ → ℕ → List ℕ
    pair_wires p i = three (a.keys + m * i + 2 * p) (a.keys + m * i + (2 * p + 1)) (a.tree + l * suc p + 8 * i)

    pair_gate : (p i : ℕ) → p < a.pairs → i < 3 + b → (k x : ℕ) → k < 8 → x ≡ a.tree + l * suc p + 1 + 8 * i + k
        → W x ≡ gate_on W (pair_wires p i) Templates.pair k
    unfolding ordered
    pair_gate p i h g k x u e = array_at W Templates.pair refl 1 _ _ _ _ _ _ s.pairs_hold p i h g (pair_wires p i) (omega arith) refl k x u (omega arith)

    -- lane pairs + q takes lanes skip + 2q and the next
    abbrev node_wires : ℕ → ℕ → ℕ → List ℕ
    node_wires k p i =
        seven (a.tree + 2 + l * k + 8 * i) (a.tree + 5 + l * k + 8 * i) (a.tree + l * k + 8 * (3 + b))
        (a.tree + 2 + l * suc k + 8 * i) (a.tree + 5 + l * suc k + 8 * i) (a.tree + l * suc k + 8 * (3 + b)) (a.tree + l * suc p + 8 * i)

    node_gate : (q i : ℕ) → q < a.nodes → i < 3 + b → (k x : ℕ) → k < 8 → x ≡ a.tree + l * suc (a.pairs + q) + 1 + 8 * i + k
        → W x ≡ gate_on W (node_wires (a.skip + 2 * q) (a.pairs + q) i) Templates.node k
    unfolding ordered
    node_gate q i h g k x u e =
        array_at W Templates.node refl 1 _ _ _ _ _ _ s.nodes_hold q i h g
        (node_wires (a.skip + 2 * q) (a.pairs + q) i) (omega arith) refl k x u (omega arith)

    greatest_gate : (i : ℕ) → i < 3 + b → u.greatest i ≡ kept_at (a.pairs + a.nodes) i
    unfolding wires_of ordered
    greatest_gate i g =
        let k = a.pairs + a.nodes in
        cells_at W Templates.choice refl _ _ _ _ s.greatest-holds i g
        (three (a.tree + 2 + l * k + 8 * i) (a.tree + 5 + l * k + 8 * i) (a.tree + l * k + 8 * (3 + b)))
        (omega arith) refl 1 _ (omega arith) (omega arith)

    -- the lanes: those of two rows, the others of two lanes; the last row is left over where the number of rows is odd
    module _ (parity : a.skip + m ≡ 2 * a.pairs + 1) (once : a.skip ≤ 1) (lanes : suc (a.pairs + a.nodes) ≡ m) where
      row-item : (t i : ℕ) → t < m → item t i ≡ u.key t i
      row-item t i h =
          ap (λ (c : Bool). cond c (u.key t i) (u.left (t - m) i ⊕ (u.keep (t - m) && u.differs (t - m) i))) (lt-ltb t m h)

      lane-item : (t k i : ℕ) → 2 * a.pairs ≤ t → t + 1 ≡ m + k → i < 3 + b → item t i ≡ kept_at k i
      lane-item t k i h e g =
          on (ltb t m)
          (λ c. let low : t < m = ltb-true t m c in
          let q : t ≡ m - 1 = omega (arith, parity) in
          let z : 0 ≡ k = omega (arith, parity) in
          row-item t i low ∙ ap (λ (x : ℕ). u.key x i) q ∙ sym (bye-kept i g) ∙ ap (λ (x : ℕ). kept_at x i) z)
          (λ c. let q : suc (t - m) ≡ k = omega (arith, ltb-false t m c) in
          ap (λ (c : Bool). cond c (u.key t i) (u.left (t - m) i ⊕ (u.keep (t - m) && u.differs (t - m) i))) c
          ∙ ap (λ (x : ℕ). kept_at x i) q)

      -- a lane of two rows, or of two lanes
      by-lane : (P : ℕ → Type 0) → ((p : ℕ) → p < a.pairs → P p) → ((q : ℕ) → q < a.nodes → P (a.pairs + q)) → (p : ℕ) → suc p < m → P p
      by-lane P f g p h =
          on (ltb p a.pairs)
          (λ e. f p (ltb-true p a.pairs e))
          (λ e. let q : a.pairs + (p - a.pairs) ≡ p = omega (arith, ltb-false p a.pairs e) in
          subst P q (g (p - a.pairs) (omega (arith, lanes, ltb-false p a.pairs e))))

      -- the two items of a lane of two rows
      pair_items : (p i : ℕ) → p < a.pairs → (item (2 * p) i ≡ u.key (2 * p) i) × (item (2 * p + 1) i ≡ u.key (2 * p + 1) i)
      pair_items p i h = (row-item (2 * p) i (omega (arith, parity, once)), row-item (2 * p + 1) i (omega (arith, parity, once)))

      -- of a lane of two lanes
      node_items : (q i : ℕ) → i < 3 + b
          → (item (2 * (a.pairs + q)) i ≡ kept_at (a.skip + 2 * q) i) × (item (2 * (a.pairs + q) + 1) i ≡ kept_at (suc (a.skip + 2 * q)) i)
      node_items q i g = (
        lane-item (2 * (a.pairs + q)) (a.skip + 2 * q) i (omega arith) (omega (arith, parity)) g,
        lane-item (2 * (a.pairs + q) + 1) (suc (a.skip + 2 * q)) i (omega arith) (omega (arith, parity)) g,
      )

      left-met : (i : ℕ) → i < 3 + b → (p : ℕ) → suc p < m → u.left p i ≡ item (2 * p) i
      unfolding wires_of
      left-met i g =
          by-lane (λ p. u.left p i ≡ item (2 * p) i)
          (λ p h. pair_gate p i h g 1 _ (omega arith) (omega arith) ∙ again (u.key (2 * p) i) ∙ sym (pair_items p i h).0)
          (λ q h. node_gate q i h g 1 _ (omega arith) (omega arith) ∙ sym (node_items q i g).0)

      differs-met : (i : ℕ) → i < 3 + b → (p : ℕ) → suc p < m → u.differs p i ≡ item (2 * p) i ⊕ item (2 * p + 1) i
      unfolding wires_of
      differs-met i g =
          by-lane (λ p. u.differs p i ≡ item (2 * p) i ⊕ item (2 * p + 1) i)
          (λ p h. pair_gate p i h g 4 _ (omega arith) (omega arith) ∙ sym (ap₂ ◌⊕◌ (pair_items p i h).0 (pair_items p i h).1))
          (λ q h. node_gate q i h g 4 _ (omega arith) (omega arith) ∙ sym (ap₂ ◌⊕◌ (node_items q i g).0 (node_items q i g).1))

      greater_started : (p : ℕ) → suc p < m → u.greater p 0 ≡ false
      greater_started =
          by-lane (λ p. u.greater p 0 ≡ false)
          (λ p h. array-zero W 1 Templates.pair _ _ _ _ _ _ s.pairs_hold p h 0 _ (omega arith) (omega arith))
          (λ q h. array-zero W 1 Templates.node _ _ _ _ _ _ s.nodes_hold q h 0 _ (omega arith) (omega arith))

      greater_met : (i : ℕ) → i < 3 + b → (p : ℕ) → suc p < m
          → u.greater p (suc i) ≡ greater_of (item (2 * p) i) (item (2 * p + 1) i) (u.greater p i)
      unfolding wires_of
      greater_met i g =
          by-lane (λ p. u.greater p (suc i) ≡ greater_of (item (2 * p) i) (item (2 * p + 1) i) (u.greater p i))
          (λ p h. pair_gate p i h g 7 _ (omega arith) (omega arith)
          ∙ sym (ap₂ (λ (x y : Bool). greater_of x y (u.greater p i)) (pair_items p i h).0 (pair_items p i h).1))
          (λ q h. node_gate q i h g 7 _ (omega arith) (omega arith)
          ∙ sym (ap₂ (λ (x y : Bool). greater_of x y (u.greater (a.pairs + q) i)) (node_items q i g).0 (node_items q i g).1))

      greatest-met : (i : ℕ) → i < 3 + b → u.greatest i ≡ item (2 * m - 2) i
      greatest-met i g =
          greatest_gate i g ∙ sym (lane-item (2 * m - 2) (a.pairs + a.nodes) i (omega (arith, parity, once, lanes)) (omega (arith, lanes)) g)

    -- ---- the decoder

    split_gate : (d k : ℕ) → d < b → k < 2 ^ d → (i x : ℕ) → i < 2 → x ≡ node_at a (2 * 2 ^ d) + 2 * k + i
        → W x ≡ gate_on W (two (node_at a (2 ^ d) + k) (greatest_at a (suc (b - suc d)))) Templates.split i
    unfolding ordered
    split_gate d k h g =
        cells_at W Templates.split refl _ _ _ _ (s.split-holds d h) k g (two (node_at a (2 ^ d) + k) (greatest_at a (suc (b - suc d))))
        (omega arith) refl

    pub cells-met : a.skip + m ≡ 2 * a.pairs + 1 → a.skip ≤ 1 → suc (a.pairs + a.nodes) ≡ m → Cells n m b u
    unfolding wires_of ordered
    cells-met parity once lanes = record {
      satisfied-zero = λ j h. array-zero W 2 Templates.literal _ _ _ _ _ _ s.literals_hold j h 0 _ (omega arith) (omega arith);
      satisfied-suc = λ j i h g. literal_gate j i h g 10 _ (omega arith) (omega arith);
      literal-is = λ j i h g. literal_gate j i h g 8 _ (omega arith) (omega arith);
      sign_zero = λ j h. array-zero W 2 Templates.literal _ _ _ _ _ _ s.literals_hold j h 1 _ (omega arith) (omega arith);
      sign-suc = λ j i h g. literal_gate j i h g 11 _ (omega arith) (omega arith);
      some-zero = λ j h. array-zero W 2 Templates.count _ _ _ _ _ _ s.counts_hold j h 0 _ (omega arith) (omega arith);
      some-suc = λ j i h g. count_gate j i h g 4 _ (omega arith) (omega arith);
      many-zero = λ j h. array-zero W 2 Templates.count _ _ _ _ _ _ s.counts_hold j h 1 _ (omega arith) (omega arith);
      many-suc = λ j i h g. count_gate j i h g 5 _ (omega arith) (omega arith);
      high_is = λ j h. rank_gate j h 2 _ (omega arith) (omega arith);
      low-is = λ j h. rank_gate j h 4 _ (omega arith) (omega arith);
      sum-zero = λ d j h g. array-zero W 1 Templates.sum _ _ _ _ _ _ (s.digit-holds d h) j g 0 _ (omega arith) (omega arith);
      sum-suc = digit-sum;
      key_sign_lem = λ j h. cells_at W Templates.sum refl _ _ _ _ s.key_sign-holds j h (two (a.literals + 1 + row * j + 12 * n) a.inputs)
          (omega arith) refl 0 _ (omega arith) (omega arith)
          ∙ copied W a s (a.literals + 1 + row * j + 12 * n);
      key_digit_lem = λ j d h g. cells_at W Templates.sum refl _ _ _ _ (s.key_digit-holds d g) j h
          (two (digit_after a d + (1 + thresholds n d) * j + thresholds n d) a.inputs) (omega arith) refl 0 _ (omega arith) (omega arith)
          ∙ copied W a s (digit_after a d + (1 + thresholds n d) * j + thresholds n d);
      key_low_lem = λ j h. cells_at W Templates.sum refl _ _ _ _ s.key_low-holds j h (two (a.ranks + 4 + 5 * j) a.inputs)
          (omega arith) refl 0 _ (omega arith) (omega arith)
          ∙ copied W a s (a.ranks + 4 + 5 * j);
      key_high_lem = λ j h. cells_at W Templates.sum refl _ _ _ _ s.key_high-holds j h (two (a.ranks + 2 + 5 * j) a.inputs)
          (omega arith) refl 0 _ (omega arith) (omega arith)
          ∙ copied W a s (a.ranks + 2 + 5 * j);
      left_is = λ p i h g. left-met parity once lanes i (omega arith) p h;
      differs-is = λ p i h g. differs-met parity once lanes i (omega arith) p h;
      greater_zero = greater_started parity once lanes;
      greater_suc = λ p i h g. greater_met parity once lanes i (omega arith) p h;
      keep-is = λ p h. ap W (omega arith);
      greatest-is = λ i g. greatest-met parity once lanes i (omega arith);
      node-root = cell_at W Templates.sum refl (two (a.rule + act) a.inputs) (a.rule + rule.size) s.root-holds (two (a.rule + act) a.inputs)
          (omega arith) refl 0 _ (omega arith) (omega arith)
          ∙ copied W a s (a.rule + act);
      node-one = λ d k h g. split_gate d k h g 0 _ (omega arith) (omega (arith, pow-suc 2 d));
      node-zero = λ d k h g. split_gate d k h g 1 _ (omega arith) (omega (arith, pow-suc 2 d));
    }
