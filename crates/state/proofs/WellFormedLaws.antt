-- The tests of well-formedness as records, taken apart (`-e`) and put together (`-i`), field by field.
use mathlib.Core.Path.{◌≡◌}
use mathlib.Core.Bool.{true, not, ◌&&◌}
use mathlib.Core.List.{List, ◌∷◌}
use Prim.Native.Nat.{ℕ, ◌^◌, ◌≤◌, ◌<◌}
use lib.Dec.{ltb, leb}
use lib.ListN.{length}
use borrow.Author.Tests.{ltb-true, leb-true, lt-ltb, le-leb}
use Rattle.words.specs.Booleans.{imp}
use Rattle.words.specs.Sets.{bit}
use Rattle.words.proofs.Truth.{and_l, and_r, and_i, mp, imp-i}
use Rattle.words.proofs.Upto.{all_e, all-i}
use Rattle.words.proofs.Bits.{Within}
use Rattle.tables.specs.Rows.{free}
use Rattle.state.specs.declared.Level.{Level}
use Rattle.state.specs.State.{State}
use Rattle.state.specs.WellFormed.{within, sets, precedes, chain, well_formed_state}

-- ---- T and F

-- T and F have variables below n only, and none in common
pub record Sets (n t f : ℕ) : Type 0 where
  pub low_t : t < 2 ^ n
  pub low-f : f < 2 ^ n
  pub apart : (i : ℕ) → i < n → not (bit t i && bit f i) ≡ true

module _ (n t f : ℕ) where
  pub sets_e : sets n t f ≡ true → Sets n t f
  unfolding sets
  sets_e e =
      let low = and_l (ltb t (2 ^ n) && ltb f (2 ^ n)) _ e in record {
        low_t = ltb-true t (2 ^ n) (and_l (ltb t (2 ^ n)) _ low);
        low-f = ltb-true f (2 ^ n) (and_r (ltb t (2 ^ n)) _ low);
        apart = all_e _ n (and_r (ltb t (2 ^ n) && ltb f (2 ^ n)) _ e);
      }

  sets-i : Sets n t f → sets n t f ≡ true
  unfolding sets
  sets-i s = and_i (and_i (lt-ltb t (2 ^ n) s.low_t) (lt-ltb f (2 ^ n) s.low-f)) (all-i _ n s.apart)

-- ---- a level before T and F

pub record Precedes (n : ℕ) (l : Level) (t f : ℕ) : Type 0 where
  pub own : Sets n l.t l.f
  pub low : l.chosen < n
  pub was_free : free l.t l.f l.chosen ≡ true
  pub in_t : Within n l.t t
  pub in_f : Within n l.f f
  pub now-true : bit t l.chosen ≡ true

within_e : (n a b : ℕ) → within n a b ≡ true → Within n a b
unfolding within
within_e n a b e i h = mp _ _ (all_e (λ i. imp (bit a i) (bit b i)) n e i h)

within-i : (n a b : ℕ) → Within n a b → within n a b ≡ true
unfolding within
within-i n a b s = all-i _ n (λ i h. imp-i _ _ (s i h))

module _ (n : ℕ) (l : Level) (t f : ℕ) where
  precedes_e : precedes n l t f ≡ true → Precedes n l t f
  unfolding precedes
  precedes_e e =
      let a = sets n l.t l.f in
      let b = ltb l.chosen n && free l.t l.f l.chosen in
      let c = within n l.t t && within n l.f f in
      let abc = and_l (a && b && c) _ e in
      let ab = and_l (a && b) c abc in record {
        own = sets_e n l.t l.f (and_l a b ab);
        low = ltb-true l.chosen n (and_l (ltb l.chosen n) _ (and_r a b ab));
        was_free = and_r (ltb l.chosen n) _ (and_r a b ab);
        in_t = within_e n l.t t (and_l (within n l.t t) _ (and_r (a && b) c abc));
        in_f = within_e n l.f f (and_r (within n l.t t) _ (and_r (a && b) c abc));
        now-true = and_r (a && b && c) _ e;
      }

  precedes-i : Precedes n l t f → precedes n l t f ≡ true
  unfolding precedes
  precedes-i s =
      and_i
      (and_i
      (and_i (sets-i n l.t l.f s.own) (and_i (lt-ltb l.chosen n s.low) s.was_free))
      (and_i (within-i n l.t t s.in_t) (within-i n l.f f s.in_f)))
      s.now-true

  -- ---- levels

  -- where a list of levels, the last one first, is a chain before T and F, the first in the list precedes T and F
  pub chain_head : (ls : List Level) → chain n t f (l ∷ ls) ≡ true → Precedes n l t f
  unfolding chain
  chain_head ls e = precedes_e (and_l (precedes n l t f) _ e)

  -- where a list of levels is a chain before T and F, the levels after its first are a chain before the T and F of that level
  pub chain_tail : (ls : List Level) → chain n t f (l ∷ ls) ≡ true → chain n l.t l.f ls ≡ true
  unfolding chain
  chain_tail ls e = and_r (precedes n l t f) _ e

  -- a level that precedes T and F, in front of levels that are a chain before its own T and F, makes a chain before T and F
  pub chain_cons : (ls : List Level) → Precedes n l t f → chain n l.t l.f ls ≡ true → chain n t f (l ∷ ls) ≡ true
  unfolding chain
  chain_cons ls h e = and_i (precedes-i h) e

-- ---- a state

-- T and F are disjoint and below n, the levels are at most n, each precedes the next and the last one precedes T and F
pub record Formed (n : ℕ) (s : State) : Type 0 where
  pub own : Sets n s.t s.f
  pub few : length s.levels ≤ n
  pub linked : chain n s.t s.f s.levels ≡ true

module _ (n : ℕ) (s : State) where
  -- a well-formed state has disjoint T and F below n, at most n levels, and its levels are a chain before T and F
  pub formed_e : well_formed_state n s ≡ true → Formed n s
  unfolding well_formed_state
  formed_e e =
      let x = and_l (sets n s.t s.f && leb (length s.levels) n) _ e in record {
        own = sets_e n s.t s.f (and_l (sets n s.t s.f) _ x);
        few = leb-true (length s.levels) n (and_r (sets n s.t s.f) _ x);
        linked = and_r (sets n s.t s.f && leb (length s.levels) n) _ e;
      }

  -- a state with disjoint T and F below n and at most n levels, which are a chain before T and F, is well-formed
  pub formed_i : Formed n s → well_formed_state n s ≡ true
  unfolding well_formed_state
  formed_i k = and_i (and_i (sets-i n s.t s.f k.own) (le-leb (length s.levels) n k.few)) k.linked
