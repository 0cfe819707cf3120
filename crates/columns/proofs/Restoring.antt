-- Rows restored a square at a time: what is left to store gives what all rows give.
use mathlib.Core.Path.{◌≡◌, refl, sym, ap, ap₂, ◌∙◌}
use mathlib.Core.Bool.{cond}
use mathlib.Core.List.{List, []}
use Prim.Native.Nat.{ℕ, zero, suc, ◌+◌, ◌-◌, ◌*◌, ◌/◌, ◌%◌, ◌≤◌, ◌<◌}
use native.Mathlib.Nat.{zero-add}
use native.Mathlib.Omega.{arith}
use lib.Dec.{ltb}
use lib.ListN.{length, get_or}
use lib.Seq.{sets, length-sets}
use borrow.Author.Tests.{ltb-true, ltb-false}
use Rattle.words.proofs.Truth.{on}
use Rattle.words.proofs.Stores.{sets_append}
use Rattle.squares.specs.Squares.{tabulate, column, plane_at, square_rows}
use Rattle.columns.specs.Planes.{row_word, table_from}
use Rattle.squares.proofs.Tabulating.{length-tabulate, at-tabulate, tabulate-split, tabulate_cong}

-- ---- one square

module _ (planes : List ℕ) (s : ℕ) where
  at_sign : (sign j : ℕ) → sign < 2 → j < 32 → get_or (get_or (square_rows planes s) sign []) j 0 ≡ column (plane_at planes s sign) j
  at_sign zero j h b = at-tabulate (column (plane_at planes s 0)) 0 32 j b ∙ ap (column (plane_at planes s 0)) (zero-add j)
  at_sign (suc zero) j h b = at-tabulate (column (plane_at planes s 1)) 0 32 j b ∙ ap (column (plane_at planes s 1)) (zero-add j)
  at_sign (suc (suc sign)) j h b = absurd (omega arith)

  -- the words of the square's rows are those of the table from 64 s on
  square-word : (x : ℕ) → x < 64 → get_or (get_or (square_rows planes s) (x % 2) []) (x / 2) 0 ≡ row_word planes (64 * s + x)
  unfolding row_word
  square-word x h =
      let a : s ≡ (64 * s + x) / 64 = omega arith in
      let b : x % 2 ≡ (64 * s + x) % 2 = omega arith in
      let c : x / 2 ≡ (64 * s + x) % 64 / 2 = omega arith in
      at_sign (x % 2) (x / 2) (omega arith) (omega arith)
      ∙ ap (λ (y : ℕ). column (plane_at planes y (x % 2)) (x / 2)) a
      ∙ ap₂ (λ (y z : ℕ). column (plane_at planes ((64 * s + x) / 64) y) z) b c

  square-words : (k : ℕ) → k ≤ 64 → tabulate (λ x. get_or (get_or (square_rows planes s) (x % 2) []) (x / 2) 0) 0 k ≡ tabulate (row_word planes) (64 * s) k
  square-words k h =
      tabulate_cong (λ x. get_or (get_or (square_rows planes s) (x % 2) []) (x / 2) 0) (row_word planes) 0 (64 * s) k
      (λ x b. ap (λ (y : ℕ). get_or (get_or (square_rows planes s) (y % 2) []) (y / 2) 0) (zero-add x) ∙ square-word x (omega arith))

-- ---- all squares

pub record Restoring (planes before : List ℕ) (rows s : ℕ) (now : List ℕ) : Type 0 where
  pub size : length now ≡ length before
  pub stored : sets now (64 * s) (tabulate (row_word planes) (64 * s) (2 * rows - 64 * s)) ≡ sets before 0 (table_from rows planes)

module _ (planes before : List ℕ) (rows : ℕ) where
  pub restoring_start : Restoring planes before rows 0 before
  unfolding table_from
  restoring_start = record {
    size = refl;
    stored = let e : 2 * rows - 0 ≡ 2 * rows = omega arith in ap
        (λ (x : ℕ). sets before 0 (tabulate (row_word planes) 0 x)) e;
  }

  module _ (s : ℕ) (now : List ℕ) (q : Restoring planes before rows s now) where
    left : ℕ
    left = 2 * rows - 64 * s

    -- what is left after a square's share
    rest : (k : ℕ) → k ≡ cond (ltb (2 * rows - 64 * s) 64) (2 * rows - 64 * s) 64
        → sets (sets now (64 * s) (tabulate (row_word planes) (64 * s) k)) (64 * (s + 1))
        (tabulate (row_word planes) (64 * (s + 1)) (2 * rows - 64 * (s + 1)))
        ≡ sets now (64 * s) (tabulate (row_word planes) (64 * s) (2 * rows - 64 * s))
    rest k e =
        on (ltb (2 * rows - 64 * s) 64)
        (λ h.
        let l = ltb-true (2 * rows - 64 * s) 64 h in
        let z : 2 * rows - 64 * (s + 1) ≡ 0 = omega arith in
        let w : k ≡ 2 * rows - 64 * s = e ∙ rw h in
        ap (λ (x : ℕ). sets (sets now (64 * s) (tabulate (row_word planes) (64 * s) k)) (64 * (s + 1)) (tabulate (row_word planes) (64 * (s + 1)) x)) z
        ∙ ap (λ (x : ℕ). sets now (64 * s) (tabulate (row_word planes) (64 * s) x)) w)
        (λ h.
        let l = ltb-false (2 * rows - 64 * s) 64 h in
        let w : k ≡ 64 = e ∙ rw h in
        let d : 2 * rows - 64 * s ≡ 64 + (2 * rows - 64 * (s + 1)) = omega arith in
        let m : 64 * (s + 1) ≡ 64 * s + 64 = omega arith in
        ap (λ (x : ℕ). sets (sets now (64 * s) (tabulate (row_word planes) (64 * s) x)) (64 * (s + 1))
        (tabulate (row_word planes) (64 * (s + 1)) (2 * rows - 64 * (s + 1)))) w
        ∙ ap (λ (x : ℕ). sets (sets now (64 * s) (tabulate (row_word planes) (64 * s) 64)) x (tabulate (row_word planes) x (2 * rows - 64 * (s + 1)))) m
        ∙ ap (λ (x : ℕ). sets (sets now (64 * s) (tabulate (row_word planes) (64 * s) 64)) (64 * s + x)
        (tabulate (row_word planes) (64 * s + 64) (2 * rows - 64 * (s + 1)))) (sym (length-tabulate (row_word planes) (64 * s) 64))
        ∙ sym (sets_append (tabulate (row_word planes) (64 * s) 64) (tabulate (row_word planes) (64 * s + 64) (2 * rows - 64 * (s + 1))) now (64 * s))
        ∙ ap (sets now (64 * s)) (sym (tabulate-split (row_word planes) (64 * s) 64 (2 * rows - 64 * (s + 1))))
        ∙ ap (λ (x : ℕ). sets now (64 * s) (tabulate (row_word planes) (64 * s) x)) (sym d))

    pub share-small : (k : ℕ) → k ≡ cond (ltb (2 * rows - 64 * s) 64) (2 * rows - 64 * s) 64 → (k ≤ 64) × (k ≤ 2 * rows - 64 * s)
    share-small k e =
        on (ltb (2 * rows - 64 * s) 64)
        (λ h. let l = ltb-true (2 * rows - 64 * s) 64 h in let w : k ≡ 2 * rows - 64 * s = e ∙ rw h in (omega arith, omega arith))
        (λ h. let l = ltb-false (2 * rows - 64 * s) 64 h in let w : k ≡ 64 = e ∙ rw h in (omega arith, omega arith))

    pub restoring_next : (k : ℕ) → k ≡ cond (ltb (2 * rows - 64 * s) 64) (2 * rows - 64 * s) 64 → (held : List (List ℕ)) → held ≡ square_rows planes s
        → (next : List ℕ) → next ≡ sets now (64 * s) (tabulate (λ x. get_or (get_or held (x % 2) []) (x / 2) 0) 0 k)
        → Restoring planes before rows (s + 1) next
    restoring_next k e held g next h =
        let w : next ≡ sets now (64 * s) (tabulate (row_word planes) (64 * s) k) =
        h ∙ ap (λ (q : List (List ℕ)). sets now (64 * s) (tabulate (λ x. get_or (get_or q (x % 2) []) (x / 2) 0) 0 k)) g
        ∙ ap (sets now (64 * s)) (square-words planes s k (share-small k e).0) in
        record {
          size = ap length w ∙ length-sets now (64 * s) (tabulate (row_word planes) (64 * s) k) ∙ q.size;
          stored = ap (λ (l : List ℕ). sets l (64 * (s + 1)) (tabulate (row_word planes) (64 * (s + 1)) (2 * rows - 64 * (s + 1)))) w ∙ rest k e
              ∙ q.stored;
        }

    pub restoring_end : 2 * rows ≤ 64 * s → now ≡ sets before 0 (table_from rows planes)
    restoring_end h = let e : 2 * rows - 64 * s ≡ 0 = omega arith in ap (λ (x : ℕ). sets now (64 * s) (tabulate (row_word planes) (64 * s) x))
        (sym e) ∙ q.stored
