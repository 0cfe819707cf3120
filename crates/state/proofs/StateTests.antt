-- What the code's tests of words say of T, F and levels, in its order: a word is 0 where the definition's test holds of every variable.
use mathlib.Core.Path.{◌≡◌, refl, sym, ap, ap₂, ◌∙◌, fun_ext}
use mathlib.Core.Bool.{Bool, true, false, not, ◌&&◌, ◌||◌}
use mathlib.Core.List.{List, [], ◌∷◌, ◌++◌, reverse}
use Prim.Native.Nat.{ℕ, ◌-◌, ◌^◌, ◌≤◌, ◌<◌}
use native.Mathlib.Omega.{arith}
use lib.Dec.{eqb, ltb, leb}
use lib.Bits.{bit_and, bit_or}
use lib.ListN.{length, take, drop}
use borrow.Author.Tests.{eq-eqb, ne_eqb, lt-ltb, le-ltb, le-leb, lt-leb, ltb-true, ltb-false, not-true, not-false}
use Rattle.std.specs.List.{list_all}
use Rattle.std.proofs.lemmas.List.{reverse-append, reverse-reverse}
use Rattle.words.specs.Booleans.{imp}
use Rattle.words.specs.Sets.{bit, all}
use Rattle.words.proofs.Bits.{bit-or}
use Rattle.words.proofs.Operations.{bit-and, bit_not, bit_high, zero_word, or-zero, and-lt-left}
use Rattle.dimensions.specs.Sizes.{outside}
use Rattle.tables.specs.Rows.{free}
use Rattle.state.specs.declared.Level.{Level}
use Rattle.state.specs.declared.Run.{Run}
use Rattle.state.specs.State.{levels_of}
use Rattle.state.specs.WellFormed.{disjoint, within, sets, precedes, chain, unused, well_formed_state, well_formed}
use Rattle.state.proofs.WellFormedLaws.{sets_e}
use Rattle.state.proofs.HeldRun.{length-levels, levels-back}

-- ---- words

disjoint-word : (n t f : ℕ) → t < 2 ^ n → eqb (bit_and t f) 0 ≡ disjoint n t f
unfolding disjoint
disjoint-word n t f h = zero_word n (bit_and t f) (and-lt-left n t f h) ∙ ap (λ (p : ℕ → Bool). all p n) (fun_ext (λ i. ap not (bit-and t f i)))

imp-not : (a b : Bool) → imp a b ≡ not (a && not b)
imp-not true true = refl
imp-not true false = refl
imp-not false b = refl

within_word : (n a b : ℕ) → a < 2 ^ n → a < 2 ^ 32 → b < 2 ^ 32 → eqb (bit_and a (4294967295 - b)) 0 ≡ within n a b
unfolding within
within_word n a b h ha hb =
    zero_word n (bit_and a (4294967295 - b)) (and-lt-left n a (4294967295 - b) h)
    ∙ ap (λ (p : ℕ → Bool). all p n) (fun_ext (λ i. ap not (bit-and a (4294967295 - b) i ∙ sym (low i (ltb i 32) refl)) ∙ sym (imp-not (bit a i) (bit b i))))
  where
    low : (i : ℕ) (x : Bool) → ltb i 32 ≡ x → bit a i && not (bit b i) ≡ bit a i && bit (4294967295 - b) i
    low i true e = ap (λ (x : Bool). bit a i && x) (sym (bit_not 32 b i hb (ltb-true i 32 e)))
    low i false e = let z : bit a i ≡ false = bit_high 32 a i ha (ltb-false i 32 e) in rw z

-- ---- T and F

pub high_t : (n t f : ℕ) → ltb t (2 ^ n) ≡ false → false ≡ sets n t f
unfolding sets
high_t n t f e = rw e

pub high-f : (n t f : ℕ) → ltb t (2 ^ n) ≡ true → ltb f (2 ^ n) ≡ false → false ≡ sets n t f
unfolding sets
high-f n t f e k = rw (e, k)

pub sets_word : (n t f : ℕ) → ltb t (2 ^ n) ≡ true → ltb f (2 ^ n) ≡ true → eqb (bit_and t f) 0 ≡ sets n t f
unfolding sets
sets_word n t f e k = rw (e, k) (disjoint-word n t f (ltb-true t (2 ^ n) e))

-- ---- a level

module _ (n : ℕ) (l : Level) (t f : ℕ) where
  pub no_sets : sets n l.t l.f ≡ false → false ≡ precedes n l t f
  unfolding precedes
  no_sets e = rw e

  module _ (s : sets n l.t l.f ≡ true) where
    pub no_variable_lem : n ≤ l.chosen → false ≡ precedes n l t f
    unfolding precedes
    no_variable_lem h = rw (s, le-ltb l.chosen n h)

    module _ (v : l.chosen < n) where
      was_free : bit (bit_or l.t l.f) l.chosen ≡ not (free l.t l.f l.chosen)
      was_free = bit-or l.t l.f l.chosen ∙ go (bit l.t l.chosen) (bit l.f l.chosen)
        where
          go : (a b : Bool) → a || b ≡ not (not a && not b)
          go true b = refl
          go false true = refl
          go false false = refl

      pub not_free : bit (bit_or l.t l.f) l.chosen ≡ true → false ≡ precedes n l t f
      unfolding precedes
      not_free h = let z : free l.t l.f l.chosen ≡ false = not-true _ (sym was_free ∙ h) in rw (s, lt-ltb l.chosen n v, z)

      module _ (w : bit (bit_or l.t l.f) l.chosen ≡ false) (lt : l.t < 2 ^ 32) (lf : l.f < 2 ^ 32) (ht : t < 2 ^ 32) (hf : f < 2 ^ 32) where
        both-within : within n l.t t && within n l.f f ≡ eqb (bit_or (bit_and l.t (4294967295 - t)) (bit_and l.f (4294967295 - f))) 0
        both-within =
            ap₂ ◌&&◌ (sym (within_word n l.t t (sets_e n l.t l.f s).low_t lt ht))
            (sym (within_word n l.f f (sets_e n l.t l.f s).low-f lf hf))
            ∙ sym (or-zero (bit_and l.t (4294967295 - t)) (bit_and l.f (4294967295 - f)))

        pub not_within : (bit_or (bit_and l.t (4294967295 - t)) (bit_and l.f (4294967295 - f)) ≡ 0 → ⊥) → false ≡ precedes n l t f
        unfolding precedes
        not_within h =
            let z : free l.t l.f l.chosen ≡ true = not-false _ (sym was_free ∙ w) in
            rw (s, lt-ltb l.chosen n v, z, both-within, ne_eqb _ 0 h)

        pub now-true : bit_or (bit_and l.t (4294967295 - t)) (bit_and l.f (4294967295 - f)) ≡ 0 → bit t l.chosen ≡ precedes n l t f
        unfolding precedes
        now-true h =
            let z : free l.t l.f l.chosen ≡ true = not-false _ (sym was_free ∙ w) in
            rw (s, lt-ltb l.chosen n v, z, both-within, eq-eqb _ 0 h)

-- ---- the levels

-- the code's test of a level: its three words taken together are 0
unused-word : (t f chosen : ℕ) → eqb (bit_or (bit_or t f) chosen) 0 ≡ eqb t 0 && eqb f 0 && eqb chosen 0
unused-word t f chosen = or-zero (bit_or t f) chosen ∙ ap (λ (x : Bool). x && eqb chosen 0) (or-zero t f)

-- levels that all pass it are unused
pub unused-all : (levels : List Level) → list_all (λ l. eqb (bit_or (bit_or l.t l.f) l.chosen) 0) levels ≡ unused levels
unfolding unused
unused-all [] = refl
unused-all (l ∷ ls) = ap₂ ◌&&◌ (unused-word l.t l.f l.chosen) (unused-all ls)

-- the first d levels from the last one back are those of the definition
pub levels_of-reverse : (d : ℕ) (levels : List Level) → d ≤ length levels → reverse (take d levels) ≡ levels_of d levels
levels_of-reverse d levels h = rw (← levels-back d levels h) (reverse-reverse (levels_of d levels))

module _ (n t f : ℕ) where
  pub chain_end : (rest : List Level) → length rest ≡ 0 → true ≡ chain n t f (reverse rest)
  unfolding chain
  chain_end [] e = refl
  chain_end (l ∷ ls) e = absurd (omega arith)

  module _ (rest : List Level) (l : Level) (before : List Level) (e : rest ≡ before ++ (l ∷ [])) where
    -- the last of the levels does not precede T and F
    pub chain-stop : precedes n l t f ≡ false → false ≡ chain n t f (reverse rest)
    unfolding chain
    chain-stop h = rw (e, reverse-append, h) refl

    -- it does, so the levels before it decide
    pub chain_on : precedes n l t f ≡ true → chain n l.t l.f (reverse before) ≡ chain n t f (reverse rest)
    unfolding chain
    chain_on h = rw (e, reverse-append, h) refl

-- ---- a run

module _ (run : Run) where
  pub no_variables : outside 32 run.n ≡ true → false ≡ well_formed run
  unfolding well_formed
  no_variables h = rw h

  module _ (a : outside 32 run.n ≡ false) where
    pub not-sets : sets run.n run.t run.f ≡ false → false ≡ well_formed run
    unfolding well_formed well_formed_state
    not-sets e = rw (a, e)

    module _ (s : sets run.n run.t run.f ≡ true) where
      few : leb (length (levels_of run.depth run.levels)) run.n ≡ leb run.depth run.n
      few = ap (λ (x : ℕ). leb x run.n) (length-levels run.depth run.levels)

      pub too_deep : run.n < run.depth → false ≡ well_formed run
      unfolding well_formed well_formed_state
      too_deep h = rw (a, s, few, lt-leb run.depth run.n h)

      module _ (d : run.depth ≤ run.n) where
        pub not_linked : chain run.n run.t run.f (levels_of run.depth run.levels) ≡ false → false ≡ well_formed run
        unfolding well_formed well_formed_state
        not_linked h = rw (a, s, few, le-leb run.depth run.n d, h)

        pub rest_decides : chain run.n run.t run.f (levels_of run.depth run.levels)
            ≡ true → unused (drop run.depth run.levels) ≡ well_formed run
        unfolding well_formed well_formed_state
        rest_decides h = rw (a, s, few, le-leb run.depth run.n d, h)
