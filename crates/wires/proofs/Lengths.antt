-- How many wires rows and a state have: the sum of their parts.
use mathlib.Core.Path.{◌≡◌, sym, ap, ap₂, ◌∙◌}
use mathlib.Core.Bool.{Bool}
use mathlib.Core.List.{List, [], ◌∷◌, ◌++◌}
use Prim.Native.Nat.{ℕ, suc, ◌+◌, ◌*◌}
use native.Mathlib.Nat.{mul-zero, mul-suc, add-mul, mul-add}
use native.Mathlib.Omega.{arith}
use lib.ListN.{length, length-append}
use Rattle.words.specs.declared.Row.{Row}
use Rattle.dimensions.specs.declared.Dimensions.{Dimensions}
use Rattle.tables.specs.Tables.{Tables}
use Rattle.tables.specs.Rows.{rows_of}
use Rattle.tables.proofs.Numbering.{tables-length}
use Rattle.dimensions.specs.Sizes.{row_count, state_wire_count, input_wires}
use Rattle.state.specs.State.{State}
use Rattle.wires.specs.Layout.{upto, row_bits, rows_bits, state_bits}
use Rattle.wires.specs.Bits.{Bits, bits_in, bits_in_order, level_at}
use Rattle.wires.specs.Packing.{input_bits}
use Rattle.wires.proofs.Series.{length-upto, length-joined}

pub row-length : (n : ℕ) (r : Row) → length (row_bits n r) ≡ n + n
row-length n r = simp (length-append, length-upto)

-- a level's wires: three groups of n
pub level-length : (n : ℕ) (t f v : ℕ → Bool) → length (upto t n ++ (upto f n ++ upto v n)) ≡ n + (n + n)
level-length n t f v = simp (length-append, length-upto)

-- the state's wires, part by part
abbrev pub state_width : ℕ → ℕ
state_width n = n + (n + (suc n + (level_at n n + 2)))

-- 3n² + 3n + 3
pub width_is : (n : ℕ) → state_width n ≡ state_wire_count n
width_is n = omega (arith, add-mul n (n + n) n, add-mul n n n, add-mul (n + n) n n, ap (λ (k : ℕ). k * n) (thrice n))
  where
    thrice : (n : ℕ) → 3 * n ≡ n + n + n
    thrice n = omega arith

order_length : (n : ℕ) (b : Bits) → length (bits_in_order n b) ≡ state_width n
unfolding bits_in_order
order_length n b =
    let e = length-joined (n + (n + n)) (λ l. upto (b.level_t l) n ++ (upto (b.level_f l) n ++ upto (b.chosen l) n)) n (λ l. level-length n _ _ _) in
    simp (length-append, length-upto) (ap (λ (k : ℕ). n + (n + (suc n + (k + 2)))) e)

-- a state of n variables has 3n² + 3n + 3 wires
pub state-length : (n : ℕ) (s : State) → length (state_bits n s) ≡ state_wire_count n
unfolding state_bits bits_in_order
state-length n s = order_length n (bits_in s) ∙ width_is n

-- rows of n variables have 2n wires each
pub rows-length : (n : ℕ) (rows : List Row) → length (rows_bits n rows) ≡ (n + n) * length rows
unfolding rows_bits
rows-length n [] = sym (mul-zero (n + n))
rows-length n (r ∷ rs) = length-append (row_bits n r) (rows_bits n rs) ∙ ap₂ ◌+◌ (row-length n r) (rows-length n rs)
    ∙ omega (arith, mul-suc (n + n) (length rs))

-- n + n wires for each of m rows are 2 times n times m
pub twice : (n m : ℕ) → (n + n) * m ≡ 2 * n * m
twice n m = ap (λ (k : ℕ). k * m) (two n)
  where
    two : (n : ℕ) → n + n ≡ 2 * n
    two n = omega arith

-- the input wires
pub input_length : (d : Dimensions) (tables : Tables) (s : State) → length (input_bits d tables s) ≡ input_wires d
unfolding input_bits
input_length d tables s =
    length-append (rows_bits d.n (rows_of d tables)) (state_bits d.n s)
    ∙ ap₂ ◌+◌ (rows-length d.n (rows_of d tables) ∙ ap (λ (k : ℕ). (d.n + d.n) * k) (tables-length d tables)
    ∙ twice d.n (row_count d)) (state-length d.n s)

-- left rows, right rows, public rows and state, one after the other
pub input_parts : (d : Dimensions) → input_wires d ≡ (d.n + d.n) * d.left + (d.n + d.n) * d.right + (d.n + d.n) * d.public + state_wire_count d.n
input_parts d =
    ap (λ (k : ℕ). k + state_wire_count d.n)
    (sym (twice d.n (row_count d)) ∙ mul-add (d.n + d.n) (d.left + d.right) d.public
    ∙ ap (λ (k : ℕ). k + (d.n + d.n) * d.public) (mul-add (d.n + d.n) d.left d.right))
