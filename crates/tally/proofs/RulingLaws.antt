-- The rule's parts as code reads them off the words.
use mathlib.Core.Path.{◌≡◌, sym, ap, ◌∙◌}
use mathlib.Core.Bool.{Bool, true, false, not, ◌&&◌, ◌||◌}
use mathlib.Core.List.{List}
use Prim.Native.Nat.{ℕ, ◌-◌, ◌^◌, ◌≤◌, ◌<◌}
use native.Mathlib.Omega.{arith}
use lib.Dec.{eqb}
use lib.Bits.{bit_and, bit_or}
use Rattle.std.specs.Prelude.{Option, Some, None, MatchOption, unwrap_or}
use borrow.Author.Tests.{eq-eqb, ne_eqb, eqb-true}
use Rattle.words.specs.Sets.{bit, any, lowest}
use Rattle.words.proofs.Upto.{lowest-none}
use Rattle.words.proofs.Last.{any_false, lowest-first}
use Rattle.words.proofs.Bits.{bit-or}
use Rattle.words.proofs.Operations.{bit-and, and-lt-left}
use Rattle.scan.specs.declared.Rule.TheVariants.{AllSatisfied, Conflict, Unit, Choice}
use Rattle.tally.specs.declared.Tally.{Tally}
use Rattle.tally.specs.Ruling.{chosen_by, rule_by}
use Rattle.tally.proofs.WordLaws.{some_is}

-- ---- the lowest number that passes

-- what `find` says of the numbers below 32
pub lowest_found : (p : ℕ → Bool) (r : Option ℕ)
    → MatchOption r ((k : ℕ) → 0 ≤ k → k < 32 → p k ≡ false) (λ v. (0 ≤ v) × (v < 32) × (p v ≡ true) × ((k : ℕ) → 0 ≤ k → k < v → p k ≡ false))
    → unwrap_or r 32 ≡ lowest p 32
lowest_found p None none = sym (lowest-none p 32 (λ k b. none k (omega arith) b))
lowest_found p (Some v) (_, h, e, none) =
    eqb-true v (lowest p 32) (sym (lowest-first p 32 v h) ∙ rw (e, any_false p v (λ k b. none k (omega arith) b)))

-- ---- rows of a word that a variable occurs in

pub touched_is : (part p q : ℕ) → part < 2 ^ 64 → not (eqb (bit_and part (bit_or p q)) 0) ≡ any (λ j. bit part j && (bit p j || bit q j)) 64
touched_is part p q h =
    some_is (bit_and part (bit_or p q)) (λ j. bit part j && (bit p j || bit q j)) (and-lt-left 64 part _ h)
    (λ j c. bit-and part (bit_or p q) j ∙ ap (λ (x : Bool). bit part j && x) (bit-or p q j))

-- ---- the first rule that applies

module _ (index : List ℕ) (t f : ℕ) (tally : Tally) where
  abbrev forced : ℕ
  forced = bit_or tally.positive tally.negative

  pub says-satisfied : tally.number ≡ 0 → AllSatisfied ≡ rule_by index t f tally
  unfolding rule_by
  says-satisfied e = rw (eq-eqb tally.number 0 e)

  module _ (z : tally.number ≡ 0 → ⊥) where
    pub says_conflict : tally.conflict ≡ true → Conflict ≡ rule_by index t f tally
    unfolding rule_by
    says_conflict e = rw (ne_eqb tally.number 0 z, e)

    module _ (calm : tally.conflict ≡ false) where
      pub says-forced : (forced ≡ 0 → ⊥) → (v : ℕ) (b : Bool) → v ≡ lowest (bit forced) 32 → b ≡ bit tally.positive v → Unit v b ≡ rule_by index t f tally
      unfolding rule_by
      says-forced h v b e q =
          ap (Unit v) q ∙ ap (λ (x : ℕ). Unit x (bit tally.positive x)) e ∙ rw (ne_eqb tally.number 0 z, calm, ne_eqb forced 0 h)

      pub says-chosen : forced ≡ 0 → (v : ℕ) → v ≡ chosen_by index (4294967295 - bit_or t f) tally.unsatisfied → Choice v ≡ rule_by index t f tally
      unfolding rule_by
      says-chosen h v q = ap Choice q ∙ rw (ne_eqb tally.number 0 z, calm, eq-eqb forced 0 h)
