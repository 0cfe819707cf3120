-- Where the bits of rows and of a state are in a list of wires: the list is cut part by part, in the order of the wires.
use mathlib.Core.Path.{◌≡◌, refl, sym, ap, ap₂, ◌∙◌, subst}
use mathlib.Core.Bool.{Bool}
use mathlib.Core.List.{List, [], ◌∷◌, ◌++◌, append_assoc}
use Prim.Native.Nat.{ℕ, suc, ◌+◌, ◌*◌, ◌≤◌, ◌<◌}
use native.Mathlib.Nat.{le_of_suc-le-suc}
use native.Mathlib.Omega.{arith}
use lib.ListN.{length, get_or}
use Rattle.words.specs.declared.Row.{Row}
use Rattle.words.specs.Sets.{bit}
use Rattle.dimensions.specs.Sizes.{state_wire_count}
use Rattle.gates.specs.Gates.{wire}
use Rattle.wires.specs.Layout.{upto, joined, row_bits, rows_bits}
use Rattle.wires.specs.Bits.{Bits, bits_in_order, level_at, state_at}
use Rattle.wires.proofs.Series.{upto-at, upto-here, upto_past, upto_cong, upto_add, joined_cong, joined_at, joined_past, upto_mul}
use Rattle.wires.proofs.Lengths.{row-length, level-length, width_is}

-- ---- bits that are the same on every wire

-- two states' bits agree on every wire of n variables: T, F, depths 0 to n, the n levels, satisfied and refuted
pub record Same (n : ℕ) (a b : Bits) : Type 0 where
  pub same_t : (i : ℕ) → i < n → a.T i ≡ b.T i
  pub same_f : (i : ℕ) → i < n → a.F i ≡ b.F i
  pub same_depth : (k : ℕ) → k ≤ n → a.depth k ≡ b.depth k
  pub same_level_t : (l i : ℕ) → l < n → i < n → a.level_t l i ≡ b.level_t l i
  pub same_level_f : (l i : ℕ) → l < n → i < n → a.level_f l i ≡ b.level_f l i
  pub same_chosen : (l i : ℕ) → l < n → i < n → a.chosen l i ≡ b.chosen l i
  pub same-satisfied : a.satisfied ≡ b.satisfied
  pub same-refuted : a.refuted ≡ b.refuted

-- bits that agree with others, which agree with third ones, agree with the third
pub same_trans : (n : ℕ) (a b c : Bits) → Same n a b → Same n b c → Same n a c
same_trans n a b c x y = record {
  same_t = λ i h. x.same_t i h ∙ y.same_t i h;
  same_f = λ i h. x.same_f i h ∙ y.same_f i h;
  same_depth = λ k h. x.same_depth k h ∙ y.same_depth k h;
  same_level_t = λ l i h k. x.same_level_t l i h k ∙ y.same_level_t l i h k;
  same_level_f = λ l i h k. x.same_level_f l i h k ∙ y.same_level_f l i h k;
  same_chosen = λ l i h k. x.same_chosen l i h k ∙ y.same_chosen l i h k;
  same-satisfied = x.same-satisfied ∙ y.same-satisfied;
  same-refuted = x.same-refuted ∙ y.same-refuted;
}

-- bits that agree on every wire give the same list of wires
pub order_cong : (n : ℕ) (a b : Bits) → Same n a b → bits_in_order n a ≡ bits_in_order n b
unfolding bits_in_order
order_cong n a b s =
    ap₂ ◌++◌ (upto_cong _ _ n s.same_t) (
    ap₂ ◌++◌ (upto_cong _ _ n s.same_f) (
    ap₂ ◌++◌ (upto_cong _ _ (suc n) (λ k h. s.same_depth k (le_of_suc-le-suc h))) (
    ap₂ ◌++◌
    (joined_cong _ _ n (λ l h. ap₂ ◌++◌ (upto_cong _ _ n (λ i k. s.same_level_t l i h k)) (
    ap₂ ◌++◌ (upto_cong _ _ n (λ i k. s.same_level_f l i h k)) (upto_cong _ _ n (λ i k. s.same_chosen l i h k)))))
    (ap₂ (λ (x y : Bool). x ∷ (y ∷ [])) s.same-satisfied s.same-refuted))))

-- ---- rows

-- the row of number j from 0
abbrev pub row_of : List Row → ℕ → Row
row_of rows j = get_or rows j (record { positive = 0; negative = 0 })

rows-joined : (n : ℕ) (rows : List Row) → rows_bits n rows ≡ joined (λ j. row_bits n (row_of rows j)) (length rows)
unfolding rows_bits joined
rows-joined n [] = refl
rows-joined n (r ∷ rs) = ap (λ (l : List Bool). row_bits n r ++ l) (rows-joined n rs)

module _ (n : ℕ) (rows : List Row) (rest : List Bool) where
  row-at : (j i : ℕ) → j < length rows → i < n + n → wire (rows_bits n rows ++ rest) ((n + n) * j + i) ≡ wire (row_bits n (row_of rows j)) i
  row-at j i h b =
      ap (λ (l : List Bool). wire (l ++ rest) ((n + n) * j + i)) (rows-joined n rows)
      ∙ joined_at (n + n) (λ j. row_bits n (row_of rows j)) (length rows) rest j i (λ j. row-length n (row_of rows j)) h b

  -- with the rows' wires in front, wire 2nj + i holds whether row j has variable i positive
  pub positive-at : (j i : ℕ) → j < length rows → i < n → wire (rows_bits n rows ++ rest) ((n + n) * j + i) ≡ bit (row_of rows j).positive i
  positive-at j i h b = row-at j i h (omega arith) ∙ upto-here _ n _ i b

  -- with the rows' wires in front, wire 2nj + n + i holds whether row j has variable i negative
  pub negative-at : (j i : ℕ) → j < length rows → i < n → wire (rows_bits n rows ++ rest) ((n + n) * j + (n + i)) ≡ bit (row_of rows j).negative i
  negative-at j i h b = row-at j (n + i) h (omega arith) ∙ upto_past _ n _ i ∙ upto-at _ n i b

  -- with the rows' wires in front, 2n for each row, the wires after them are those of the rest
  pub rows_past : (k : ℕ) → wire (rows_bits n rows ++ rest) ((n + n) * length rows + k) ≡ wire rest k
  rows_past k =
      ap (λ (l : List Bool). wire (l ++ rest) ((n + n) * length rows + k)) (rows-joined n rows)
      ∙ joined_past (n + n) (λ j. row_bits n (row_of rows j)) (length rows) rest k (λ j. row-length n (row_of rows j))

-- ---- a state

module _ (n : ℕ) (b : Bits) where
  abbrev level : ℕ → List Bool
  level l = upto (b.level_t l) n ++ (upto (b.level_f l) n ++ upto (b.chosen l) n)

  -- the parts, with the rest after them
  parts : (rest : List Bool) → bits_in_order n b ++ rest ≡ upto b.T n
      ++ (upto b.F n ++ (upto b.depth (suc n) ++ (joined level n ++ (b.satisfied ∷ (b.refuted ∷ rest)))))
  unfolding bits_in_order
  parts rest = simp append_assoc

  module _ (rest : List Bool) where
    abbrev W : List Bool
    W = upto b.T n ++ (upto b.F n ++ (upto b.depth (suc n) ++ (joined level n ++ (b.satisfied ∷ (b.refuted ∷ rest)))))

    levels-at : (k : ℕ) → wire W (n + (n + (suc n + k))) ≡ wire (joined level n ++ (b.satisfied ∷ (b.refuted ∷ rest))) k
    levels-at k = upto_past b.T n _ (n + (suc n + k)) ∙ upto_past b.F n _ (suc n + k) ∙ upto_past b.depth (suc n) _ k

    level-at : (l i : ℕ) → l < n → i < n + (n + n) → wire W (n + (n + (suc n + (level_at n l + i)))) ≡ wire (level l) i
    level-at l i h k = levels-at (level_at n l + i) ∙ joined_at (n + (n + n)) level n _ l i (λ l. level-length n _ _ _) h k

    parts_at : Same n (state_at n (λ k. wire W k)) b
    parts_at = record {
      same_t = λ i h. upto-here _ n _ i h;
      same_f = λ i h. upto_past _ n _ i ∙ upto-here _ n _ i h;
      same_depth = λ k h. upto_past _ n _ (n + k) ∙ upto_past _ n _ k ∙ upto-here _ (suc n) _ k (omega arith);
      same_level_t = λ l i h k. level-at l i h (omega arith) ∙ upto-here _ n _ i k;
      same_level_f = λ l i h k. level-at l (n + i) h (omega arith) ∙ upto_past _ n _ i ∙ upto-here _ n _ i k;
      same_chosen = λ l i h k. level-at l (n + (n + i)) h (omega arith) ∙ upto_past _ n _ (n + i) ∙ upto_past _ n _ i ∙ upto-at _ n i k;
      same-satisfied = levels-at _ ∙ joined_past (n + (n + n)) level n _ 0 (λ l. level-length n _ _ _);
      same-refuted = levels-at _ ∙ joined_past (n + (n + n)) level n _ 1 (λ l. level-length n _ _ _);
    }

    -- with a state's wires in front, in order, each of its bits is found at its wire's number
    pub state-at : Same n (state_at n (λ k. wire (bits_in_order n b ++ rest) k)) b
    state-at = subst (λ (l : List Bool). Same n (state_at n (λ k. wire l k)) b) (sym (parts rest)) parts_at

-- a state's wires in a row, by number
pub state-row : (n : ℕ) (f : ℕ → Bool) → bits_in_order n (state_at n f) ≡ upto f (state_wire_count n)
unfolding bits_in_order upto
state-row n f =
    sym (ap (upto f) (sym (width_is n)) ∙
    upto_add f n _ ∙ ap (λ (l : List Bool). upto f n ++ l) (
    upto_add (λ i. f (n + i)) n _ ∙ ap (λ (l : List Bool). upto (λ i. f (n + i)) n ++ l) (
    upto_add (λ i. f (n + (n + i))) (suc n) _ ∙ ap (λ (l : List Bool). upto (λ i. f (n + (n + i))) (suc n) ++ l) (
    upto_add (λ i. f (n + (n + (suc n + i)))) (level_at n n) 2 ∙ ap (λ (l : List Bool). l ++ upto (λ i. f (n + (n + (suc n + (level_at n n + i))))) 2) (
    upto_mul (λ i. f (n + (n + (suc n + i)))) (n + (n + n)) n ∙ joined_cong _ _ n (λ l h.
    upto_add (λ i. f (n + (n + (suc n + (level_at n l + i))))) n (n + n)
    ∙ ap (λ (x : List Bool). upto (λ i. f (n + (n + (suc n + (level_at n l + i))))) n ++ x) (
    upto_add (λ i. f (n + (n + (suc n + (level_at n l + (n + i)))))) n n)))))))
