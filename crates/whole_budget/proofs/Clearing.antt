-- Zeros over the front of a list. By computation.
use mathlib.Core.Path.{◌≡◌, sym, ap, ◌∙◌}
use mathlib.Core.List.{List, ◌++◌}
use Prim.Native.Nat.{ℕ}
use lib.ListN.{drop, replicate, length-replicate}
use Rattle.whole_budget.specs.WholeBudget.{cleared}

-- zeros, then what was there
pub cleared-is : (k : ℕ) (l : List ℕ) → cleared k l ≡ replicate k 0 ++ drop k l
cleared-is k l = ap (λ (i : ℕ). replicate k 0 ++ drop i l) (length-replicate {A = ℕ} k 0)

-- only what follows matters
pub cleared-same : (j k : ℕ) (x a b : List ℕ) → x ≡ cleared j a → j ≡ k → drop k a ≡ drop k b → x ≡ cleared k b
cleared-same j k x a b e same behind =
    e ∙ ap (λ (i : ℕ). cleared i a) same ∙ cleared-is k a ∙ ap (λ (l : List ℕ). replicate k 0 ++ l) behind ∙ sym (cleared-is k b)
