-- A table's rows, one after the other, and all tables' rows and a state after them. By induction on the number of rows.
use mathlib.Core.Path.{◌≡◌, refl, sym, ap, ap₂, ◌∙◌, fun_ext}
use mathlib.Core.Bool.{Bool}
use mathlib.Core.List.{List, [], ◌∷◌, ◌++◌, append_assoc}
use Prim.Native.Nat.{ℕ, zero, suc, ◌+◌, ◌*◌, ◌≤◌}
use native.Mathlib.Nat.{add-zero}
use native.Mathlib.Omega.{arith}
use lib.ListN.{length}
use Rattle.words.specs.declared.Row.{Row}
use Rattle.dimensions.specs.declared.Dimensions.{Dimensions}
use Rattle.tables.specs.Tables.{Tables}
use Rattle.tables.specs.Rows.{row_at, rows_from}
use Rattle.dimensions.specs.Sizes.{input_wires}
use Rattle.state.specs.declared.Run.{Run}
use Rattle.state.specs.State.{state_of}
use Rattle.gates.specs.Memory.{bytes_of, over}
use Rattle.wires.specs.Layout.{joined, row_bits, rows_bits, state_bits}
use Rattle.wires.specs.Packing.{input_bits}
use Rattle.tables.proofs.Numbering.{table-length}
use Rattle.wires.proofs.Lengths.{rows-length, input_length}
use Rattle.wires.proofs.Stores.{stored, stored-then, stored-front}

rows_append : (n : ℕ) (xs ys : List Row) → rows_bits n (xs ++ ys) ≡ rows_bits n xs ++ rows_bits n ys
unfolding rows_bits
rows_append n [] ys = refl
rows_append n (x ∷ xs) ys = ap (λ (l : List Bool). row_bits n x ++ l) (rows_append n xs ys)
    ∙ sym (append_assoc (row_bits n x) (rows_bits n xs) (rows_bits n ys))

rows-from : (n : ℕ) (words : List ℕ) (i k : ℕ) → rows_bits n (rows_from words i k) ≡ joined (λ j. row_bits n (row_at words (i + j))) k
unfolding rows_bits joined
rows-from n words i zero = refl
rows-from n words i (suc k) =
    ap₂ (λ (x y : List Bool). x ++ y) (ap (λ (j : ℕ). row_bits n (row_at words j)) (sym (add-zero i)))
    (rows-from n words (suc i) k ∙ ap (λ (f : ℕ → List Bool). joined f k) (fun_ext (λ j. ap (λ (m : ℕ). row_bits n (row_at words m)) (next j))))
  where
    next : (j : ℕ) → suc i + j ≡ i + suc j
    next j = omega arith

pub table-joined : (n : ℕ) (words : List ℕ) (k : ℕ) → joined (λ j. row_bits n (row_at words j)) k ≡ rows_bits n (rows_from words 0 k)
table-joined n words k =
    ap (λ (f : ℕ → List Bool). joined f k) (fun_ext (λ j. ap (λ (m : ℕ). row_bits n (row_at words m)) (front j))) ∙ sym (rows-from n words 0 k)
  where
    front : (j : ℕ) → j ≡ 0 + j
    front j = omega arith

-- left rows, right rows, public rows and state, stored one after the other at the front
pub inputs-stored : (d : Dimensions) (tables : Tables) (run : Run) (b b₁ b₂ b₃ b₄ : List ℕ) (p q r : ℕ)
    → b₁ ≡ stored b 0 (rows_bits d.n (rows_from tables.left 0 d.left)) → p ≡ 0 + (d.n + d.n) * d.left
    → b₂ ≡ stored b₁ p (rows_bits d.n (rows_from tables.right 0 d.right)) → q ≡ p + (d.n + d.n) * d.right
    → b₃ ≡ stored b₂ q (rows_bits d.n (rows_from tables.public 0 d.public)) → r ≡ q + (d.n + d.n) * d.public
    → b₄ ≡ stored b₃ r (state_bits d.n (state_of run)) → input_wires d ≤ length b
    → b₄ ≡ over (bytes_of (input_bits d tables (state_of run))) b
unfolding input_bits
inputs-stored d tables run b b₁ b₂ b₃ b₄ p q r e₁ h₁ e₂ h₂ e₃ h₃ e₄ room =
    let ls = rows_from tables.left 0 d.left in
    let rs = rows_from tables.right 0 d.right in
    let ps = rows_from tables.public 0 d.public in
    let L = rows_bits d.n ls in
    let R = rows_bits d.n rs in
    let P = rows_bits d.n ps in
    let S = state_bits d.n (state_of run) in
    stored-then b 0 p L (R ++ (P ++ S)) e₁ (h₁ ∙ ap (λ (k : ℕ). 0 + k) (sym (table_wires tables.left d.left)))
    (stored-then b₁ p q R (P ++ S) e₂ (h₂ ∙ ap (λ (k : ℕ). p + k) (sym (table_wires tables.right d.right)))
    (stored-then b₂ q r P S e₃ (h₃ ∙ ap (λ (k : ℕ). q + k) (sym (table_wires tables.public d.public))) e₄))
    ∙ ap (stored b 0)
    (ap (λ (l : List Bool). L ++ l) (sym (append_assoc R P S)) ∙ sym (append_assoc L (R ++ P) S)
    ∙ ap (λ (l : List Bool). l ++ S) (ap (λ (l : List Bool). L ++ l) (sym (rows_append d.n rs ps)) ∙ sym (rows_append d.n ls (rs ++ ps))))
    ∙ stored-front b (input_bits d tables (state_of run)) (omega (arith, input_length d tables (state_of run)))
  where
    table_wires : (words : List ℕ) (k : ℕ) → length (rows_bits d.n (rows_from words 0 k)) ≡ (d.n + d.n) * k
    table_wires words k = rows-length d.n (rows_from words 0 k) ∙ ap (λ (m : ℕ). (d.n + d.n) * m) (table-length words 0 k)
