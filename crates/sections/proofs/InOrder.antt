-- Which section is at a number: by the tests of the definition, and by the places in the list of those before the next levels.
use mathlib.Core.Path.{◌≡◌, refl, ap, sym, ◌∙◌}
use Prim.Native.Nat.{ℕ, zero, suc, ◌+◌, ◌-◌, ◌≤◌, ◌<◌}
use native.Mathlib.Omega.{arith}
use borrow.Author.Tests.{lt-ltb, le-ltb}
use lib.ListN.{get_or}
use Rattle.sections.specs.declared.Addresses.{Addresses}
use Rattle.sections.specs.declared.Section.{Section}
use Rattle.sections.specs.Sections.{digit, key_digit, split, next_level, next_standing, no_section, if_digit, first, section_at}

-- facts P, and that k is none of j numbers from i on
unfoldable pub Past : Type 0 → ℕ → ℕ → ℕ → Type 0
Past P i zero k = P
Past P i (suc j) k = Past P i j k × (k ≡ i + j → ⊥)

pub past_least : (P : Type 0) (i j k : ℕ) → Past P i j k → i ≤ k → i + j ≤ k
unfolding Past
past_least P i zero k p h = omega arith
past_least P i (suc j) k p h = omega (arith, past_least P i j k p.0 h, p.1)

pub earlier : (P : Type 0) (i j k : ℕ) → Past P i j k → P
unfolding Past
earlier P i zero k p = p
earlier P i (suc j) k p = earlier P i j k p.0

module _ (a : Addresses) where
  -- ---- a family's members

  -- for a digit that a variable's number has, the family's member is taken
  pub if_digit_lem : (f : ℕ → Section) (d : ℕ) → d < a.b → f d ≡ if_digit a f d
  if_digit_lem f d h = rw (lt-ltb d a.b h)

  -- for a digit that it does not have, the section of no lanes is
  pub no_digit : (f : ℕ → Section) (d : ℕ) → a.b ≤ d → no_section a ≡ if_digit a f d
  no_digit f d h = rw (le-ltb d a.b h)

  -- ---- before the next levels

  abbrev pub first_at : ℕ → Section
  first_at k = get_or (first a) k (next_standing a)

  pub by_number : (s : Section) (k j : ℕ) → s ≡ first_at j → k ≡ j → s ≡ first_at k
  by_number s k j e h = e ∙ ap first_at (sym h)

  pub digit_at : (d : ℕ) → d < 5 → if_digit a (digit a) d ≡ first_at (4 + d)
  digit_at zero h = refl
  digit_at (suc zero) h = refl
  digit_at (suc (suc zero)) h = refl
  digit_at (suc (suc (suc zero))) h = refl
  digit_at (suc (suc (suc (suc zero)))) h = refl
  digit_at (suc (suc (suc (suc (suc d))))) h = absurd (omega arith)

  pub key_digit-at : (d : ℕ) → d < 5 → if_digit a (key_digit a) d ≡ first_at (10 + d)
  key_digit-at zero h = refl
  key_digit-at (suc zero) h = refl
  key_digit-at (suc (suc zero)) h = refl
  key_digit-at (suc (suc (suc zero))) h = refl
  key_digit-at (suc (suc (suc (suc zero)))) h = refl
  key_digit-at (suc (suc (suc (suc (suc d))))) h = absurd (omega arith)

  pub split_at : (d : ℕ) → d < 5 → if_digit a (split a) d ≡ first_at (23 + d)
  split_at zero h = refl
  split_at (suc zero) h = refl
  split_at (suc (suc zero)) h = refl
  split_at (suc (suc (suc zero))) h = refl
  split_at (suc (suc (suc (suc zero)))) h = refl
  split_at (suc (suc (suc (suc (suc d))))) h = absurd (omega arith)

  -- ---- all sections

  module _ (k : ℕ) where
    -- the first 40 sections are those before the next levels, in order
    pub at_first : k < 40 → first_at k ≡ section_at a k
    at_first h = rw (lt-ltb k 40 h)

    -- from section 40 on come the n sections of the next levels, in order
    pub at_level : 40 ≤ k → k - 40 < a.n → next_level a (k - 40) ≡ section_at a k
    at_level h l = rw (le-ltb k 40 h, lt-ltb (k - 40) a.n l)

    -- at every number after these is the section of the next standing
    pub at_last : 40 ≤ k → a.n ≤ k - 40 → next_standing a ≡ section_at a k
    at_last h l = rw (le-ltb k 40 h, le-ltb (k - 40) a.n l)
