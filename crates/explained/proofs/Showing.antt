-- When a row shows a rule, from what judging it gives: the test of its literals is the judging's, and a literal that the row holds is free if its variable is
-- in neither T nor F.
use mathlib.Core.Path.{◌≡◌, refl, ap, ap₂, ◌∙◌}
use mathlib.Core.Bool.{Bool, true, false, not, ◌&&◌, ◌||◌}
use Prim.Native.Nat.{ℕ}
use lib.Dec.{eqb}
use lib.Bits.{bit_or}
use Rattle.words.specs.declared.Row.{Row}
use Rattle.words.specs.Sets.{bit}
use Rattle.words.proofs.Truth.{not-or, taut4, agree, agree_eq}
use Rattle.words.proofs.Bits.{bit-or}
use Rattle.tables.specs.declared.Judged.{Judged}
use Rattle.tables.specs.Rows.{free, holds, judged}
use Rattle.occurrences.specs.Index.{holds_literal}
use Rattle.scan.specs.declared.Rule.TheVariants.{Unit}
use Rattle.scan.specs.Rules.{unsatisfied_with}
use Rattle.explained.specs.Explanation.{shows}

-- a row that holds a literal holds its variable
held-free : (u a : Bool) (r : Row) (positive : Bool) (v : ℕ) → (u && a) && holds_literal positive v r ≡ (u && (a && holds r v)) && holds_literal positive v r
held-free u a r true v =
    agree_eq (taut4 (λ u a x y. agree ((u && a) && x) ((u && (a && (x || y))) && x)) refl u a (bit r.positive v) (bit r.negative v))
held-free u a r false v =
    agree_eq (taut4 (λ u a x y. agree ((u && a) && y) ((u && (a && (x || y))) && y)) refl u a (bit r.positive v) (bit r.negative v))

module _ (r : Row) (t f : ℕ) (j : Judged) (e : j ≡ judged 32 r t f) where
  pub judged-with : (k : ℕ) → not j.satisfied && eqb j.literals k ≡ unsatisfied_with k 32 t f r
  unfolding unsatisfied_with
  judged-with k = ap (λ (x : Judged). not x.satisfied && eqb x.literals k) e

  pub judged-forces : (v : ℕ) (positive is_set held : Bool) → is_set ≡ bit (bit_or t f) v → held ≡ holds_literal positive v r
      → not j.satisfied && eqb j.literals 1 && not is_set && held ≡ shows 32 t f (Unit v positive) r
  judged-forces v positive is_set held s h =
      ap₂ (λ (x y : Bool). x && y) (ap₂ (λ (x y : Bool). x && y) (judged-with 1) (ap not (s ∙ bit-or t f v) ∙ not-or (bit t v) (bit f v))) h
      ∙ held-free (unsatisfied_with 1 32 t f r) (free t f v) r positive v
