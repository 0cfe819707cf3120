-- The lowest row that passes: its number is that of a row that passes, no row before it passes, and it is 0 exactly if no row passes. By induction on the rows.
use mathlib.Core.Path.{◌≡◌, refl, sym}
use mathlib.Core.Bool.{Bool, true, false, true≢false}
use mathlib.Core.List.{List, [], ◌∷◌}
use Prim.Native.Nat.{ℕ, zero, suc, ◌+◌, ◌<◌}
use native.Mathlib.Omega.{arith}
use lib.ListN.{length, get_or}
use Rattle.words.specs.declared.Row.{Row}
use Rattle.words.proofs.Truth.{on}
use Rattle.tables.specs.Rows.{empty}
use Rattle.scan.specs.Rules.{any_row}
use Rattle.explained.specs.Explanation.{lowest_from, lowest_row}

-- ---- what the number says

-- row k, from 0, is the lowest that passes
pub record Lowest (p : Row → Bool) (rows : List Row) (k : ℕ) : Type 0 where
  pub there : k < length rows
  pub passes : p (get_or rows k empty) ≡ true
  pub none_before : (j : ℕ) → j < k → p (get_or rows j empty) ≡ false

module _ (p : Row → Bool) where
  further : (r : Row) (rs : List Row) (k : ℕ) → p r ≡ false → Lowest p rs k → Lowest p (r ∷ rs) (suc k)
  further r rs k e l = record {
    there = omega (arith, l.there);
    passes = l.passes;
    none_before = before;
  }
    where
      before : (j : ℕ) → j < suc k → p (get_or (r ∷ rs) j empty) ≡ false
      before zero b = e
      before (suc j) b = l.none_before j (omega arith)

  -- some row passes, so the number is that of the lowest that does
  from_some : (i : ℕ) (rows : List Row) → any_row p rows ≡ true → (k : ℕ) × (lowest_from i p rows ≡ i + k) × Lowest p rows k
  unfolding lowest_from any_row
  from_some i [] e = absurd (true≢false (sym e))
  from_some i (r ∷ rs) e =
      on (p r)
      (λ h. rw (h, lowest_from) (0, omega arith, record { there = omega arith; passes = h; none_before = λ j b. absurd (omega arith) }))
      (λ h. rw (h, lowest_from)
      (let x = from_some (suc i) rs (rw h at e) in (suc x.0, omega (arith, x.1), further r rs x.0 h x.2)))

  from-none : (i : ℕ) (rows : List Row) → any_row p rows ≡ false → lowest_from i p rows ≡ 0
  unfolding lowest_from any_row
  from-none i [] e = refl
  from-none i (r ∷ rs) e =
      on (p r)
      (λ h. absurd (true≢false (rw h at e)))
      (λ h. rw (h, lowest_from) (from-none (suc i) rs (rw h at e)))

  -- the number is 0 exactly if no row passes
  pub lowest-none : (rows : List Row) → any_row p rows ≡ false → lowest_row p rows ≡ 0
  lowest-none = from-none 1

  pub lowest-some : (rows : List Row) → any_row p rows ≡ true → (k : ℕ) × (lowest_row p rows ≡ suc k) × Lowest p rows k
  lowest-some rows e = let x = from_some 1 rows e in (x.0, omega (arith, x.1), x.2)

  -- any other number is that of a row that passes, with none before it that does
  pub lowest-row : (rows : List Row) (k : ℕ) → lowest_row p rows ≡ suc k → Lowest p rows k
  lowest-row rows k e =
      on (any_row p rows)
      (λ h. let x = lowest-some rows h in let q : x.0 ≡ k = omega (arith, x.1, e) in rw q at x.2)
      (λ h. absurd (let z = lowest-none rows h in omega (arith, z, e)))
