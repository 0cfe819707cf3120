-- The words of rows, taken two at a time, are the rows. By induction on the number of pairs.
use mathlib.Core.Path.{◌≡◌, refl, ap₂, ◌∙◌}
use mathlib.Core.List.{List, ◌∷◌, map}
use Prim.Native.Nat.{ℕ, zero, suc, ◌+◌, ◌*◌, ◌<◌}
use native.Mathlib.Omega.{arith}
use lib.ListN.{get_or, drop}
use lib.Seq.{get_or-take}
use Rattle.std.proofs.lemmas.List.{get_or-drop}
use Rattle.std.specs.Simd.{first_chunks}
use Rattle.words.specs.declared.Row.{Row}
use Rattle.tables.specs.Rows.{rows_from}

-- the row of a pair of words
abbrev pub row : List ℕ → Row
row pair = record { positive = get_or pair 0 0; negative = get_or pair 1 0 }

-- the first k pairs of words are k rows of words that are the same from a place on
pub pairs_rows : (w x : List ℕ) (k i : ℕ) → ((a b : ℕ) → a < 2 * k → b ≡ 2 * i + a → get_or w a 0 ≡ get_or x b 0)
    → map row (first_chunks 2 k w) ≡ rows_from x i k
pairs_rows w x zero i h = refl
pairs_rows w x (suc k) i h =
    ap₂ (λ (r : Row) (rs : List Row). r ∷ rs)
    (ap₂ (λ (p q : ℕ). record { positive = p; negative = q })
    (get_or-take 2 w 0 0 (omega arith) ∙ h 0 (2 * i) (omega arith) (omega arith))
    (get_or-take 2 w 1 0 (omega arith) ∙ h 1 (2 * i + 1) (omega arith) (omega arith)))
    (pairs_rows (drop 2 w) x k (suc i) (λ a b l e. get_or-drop 2 w a 0 ∙ h (2 + a) b (omega arith) (omega arith)))
