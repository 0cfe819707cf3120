-- The heaviest variable can be chosen: where some unsatisfied row holds a free variable, it is one of those. And n variables' rows are weighed alike at every
-- greater width.
use mathlib.Core.Path.{◌≡◌, refl, sym, ap, ◌∙◌, subst, fun_ext}
use mathlib.Core.Bool.{Bool, true, false, not, ◌&&◌, cond, false≢true, and-false}
use mathlib.Core.List.{List, [], ◌∷◌}
use mathlib.Core.Logic.{inl, inr}
use Prim.Native.Nat.{ℕ, zero, suc, ◌-◌, ◌^◌, ◌≤◌, ◌<◌}
use native.Mathlib.Nat.{not-suc-le-zero, eq-or-lt_of_le, lt_of_lt_of_le}
use native.Mathlib.Omega.{arith}
use lib.Dec.{ltb}
use lib.Pow.{pow_pos}
use lib.ListN.{get_or}
use lib.Ieee.{Float, nan}
use lib.Ieee.Exact.{HasValue}
use borrow.Author.Tests.{le-ltb}
use Rattle.words.proofs.Truth.{on}
use Rattle.words.proofs.Operations.{bit_high}
use Rattle.words.specs.declared.Row.{Row}
use Rattle.tables.specs.Rows.{satisfied, free, free_in, free_literals}
use Rattle.tables.proofs.Rows.{satisfied_width, literals_width}
use Rattle.scan.specs.declared.Rule.{Rule}
use Rattle.scan.specs.Rules.{any_row, rule}
use Rattle.scan.proofs.RowLaws.{In, in_head, in_tail}
use Rattle.weighted.specs.Weights.{share, weight, greatest, heaviest, choosing, weighted_rule}
use Rattle.weighted.specs.Floats.{Weighs}
use Rattle.weighted.proofs.Exact.{scaled_exact}
use Rattle.weighted.proofs.Greatest.{heaviest-most, heaviest-lt}

-- ---- exact floats

-- each float held is exactly the weight over 2 ^ 32
pub weighs_exact : (floats : List Float) (w : ℕ → ℕ) → Weighs floats w → (i : ℕ) → i < 32 → w i < 2 ^ 53 → HasValue (get_or floats i nan) false (w i) (2 ^ 32)
unfolding Weighs
weighs_exact floats w h i b s = subst (λ (x : Float). HasValue x false (w i) (2 ^ 32)) (sym (h i b)) (scaled_exact (w i) s)

-- ---- a weight above 0

abbrev open_in : ℕ → ℕ → ℕ → ℕ → Row → Bool
open_in n t f i r = not (satisfied n r t f) && free_in r t f i

-- a row adds nothing to a variable that it does not hold free, and nothing where it is satisfied
share-none : (n t f i : ℕ) (r : Row) → open_in n t f i r ≡ false → share n t f r i ≡ 0
unfolding share
share-none n t f i r e = ap (λ (b : Bool). cond b (2 ^ (32 - free_literals n r t f)) 0) e

-- else it adds something
share-some : (n t f i : ℕ) (r : Row) → open_in n t f i r ≡ true → 0 < share n t f r i
unfolding share
share-some n t f i r e = rw e (pow_pos (32 - free_literals n r t f))

-- an unsatisfied row that holds the variable free makes its weight positive
weight-some : (n t f i : ℕ) (rows : List Row) → any_row (λ r. not (satisfied n r t f) && free_in r t f i) rows ≡ true → 0 < weight n rows t f i
unfolding any_row weight
weight-some n t f i [] e = absurd (false≢true e)
weight-some n t f i (r ∷ rs) e =
    on (open_in n t f i r)
    (λ q. omega (arith, share-some n t f i r q))
    (λ q. omega (arith, weight-some n t f i rs (rw q at e)))

-- and only such a row does
some-weight : (n t f i : ℕ) (rows : List Row) → 0 < weight n rows t f i → any_row (λ r. not (satisfied n r t f) && free_in r t f i) rows ≡ true
unfolding any_row weight
some-weight n t f i [] h = absurd (not-suc-le-zero h)
some-weight n t f i (r ∷ rs) h =
    on (open_in n t f i r)
    (λ q. rw q)
    (λ q. rw q (some-weight n t f i rs (omega (arith, h, share-none n t f i r q))))

-- where some variable is free in an unsatisfied row, the heaviest is
pub heaviest_hit : (n t f v : ℕ) (rows : List Row) → v < n → any_row (λ r. not (satisfied n r t f) && free_in r t f v) rows ≡ true
    → (heaviest (weight n rows t f) n < n) × (any_row (λ r. not (satisfied n r t f) && free_in r t f (heaviest (weight n rows t f) n)) rows ≡ true)
heaviest_hit zero t f v rows b e = absurd (not-suc-le-zero b)
heaviest_hit (suc n) t f v rows b e =
    let w = weight (suc n) rows t f in
    (heaviest-lt w n, some-weight (suc n) t f (heaviest w (suc n)) rows (lt_of_lt_of_le (weight-some (suc n) t f v rows e) (heaviest-most w (suc n) v b)))

-- ---- width

-- where no variable from n on has a weight, the heaviest of a greater width is the heaviest of n
pub heaviest_width : (w : ℕ → ℕ) (n k : ℕ) → n ≤ k → ((i : ℕ) → n ≤ i → w i ≡ 0) → heaviest w k ≡ heaviest w n
unfolding heaviest greatest
heaviest_width w n zero h z = let e : n ≡ 0 = omega arith in rw e
heaviest_width w n (suc k) h z =
    elim (eq-or-lt_of_le h) [
      | inl e ↦ rw e
      | inr l ↦ let b : n ≤ k = omega arith in
          let g = greatest (λ i j. ltb (w i) (w j)) k in
          let q : ltb (w g) (w k) ≡ false = le-ltb (w g) (w k) (rw (z k b) (omega arith)) in
          rw q (heaviest_width w n k b z)
    ]

module _ (n k : ℕ) (t f : ℕ) (h : n ≤ k) where
  abbrev low : Row → Type 0
  low r = (r.positive < 2 ^ n) × (r.negative < 2 ^ n)

  pub weight_width : (rows : List Row) → ((r : Row) → In r rows → low r) → (i : ℕ) → weight k rows t f i ≡ weight n rows t f i
  unfolding weight share
  weight_width [] l i = refl
  weight_width (r ∷ rs) l i =
      let b = l r (in_head r rs) in
      rw (satisfied_width n k r t f h b.0 b.1, literals_width n k r t f h b.0 b.1, weight_width rs (λ x m. l x (in_tail x r rs m)) i)

  pub weight-high : (rows : List Row) → ((r : Row) → In r rows → low r) → (i : ℕ) → n ≤ i → weight n rows t f i ≡ 0
  unfolding weight share
  weight-high [] l i b = refl
  weight-high (r ∷ rs) l i b =
      let c = l r (in_head r rs) in
      rw (
        bit_high n r.positive i c.0 b,
        bit_high n r.negative i c.1 b,
        and-false (free t f i),
        and-false (not (satisfied n r t f)),
        weight-high rs (λ x m. l x (in_tail x r rs m)) i b,
      )

  -- the rows of n variables have the same heaviest at every greater width
  pub heaviest-rows : (rows : List Row) → ((r : Row) → In r rows → low r) → heaviest (weight k rows t f) k ≡ heaviest (weight n rows t f) n
  heaviest-rows rows l =
      ap (λ (w : ℕ → ℕ). heaviest w k) (fun_ext (weight_width rows l)) ∙ heaviest_width (weight n rows t f) n k h (weight-high rows l)

-- ---- the rule

-- a rule that was found, taken apart
pub told-rule : (v : ℕ) (found k real : Rule) → found ≡ real → found ≡ k → choosing v k ≡ choosing v real
told-rule v found k real e q = ap (choosing v) (sym q ∙ e)

-- the rule that the scan found
pub told : (n : ℕ) (rows : List Row) (t f : ℕ) (found k : Rule) → found ≡ rule n rows t f → found ≡ k → choosing (heaviest (weight n rows t f) n) k
    ≡ weighted_rule n rows t f
unfolding weighted_rule
told n rows t f found k e q = told-rule (heaviest (weight n rows t f) n) found k (rule n rows t f) e q
