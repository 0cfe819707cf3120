-- What setting a free variable keeps: T and F stay disjoint and below n, and levels stay linked. Each by the variable set and the others.
use mathlib.Core.Path.{◌≡◌, refl}
use mathlib.Core.Bool.{true, not, ◌&&◌}
use mathlib.Core.List.{List, [], ◌∷◌}
use Prim.Native.Nat.{ℕ, ◌+◌, ◌≤◌, ◌<◌}
use native.Mathlib.Omega.{arith}
use lib.Dec.{eqb}
use lib.ListN.{length}
use borrow.Author.Tests.{eqb-true}
use Rattle.words.specs.Booleans.{imp}
use Rattle.words.specs.Sets.{bit, put}
use Rattle.words.proofs.Truth.{mp, on, taut3}
use Rattle.words.proofs.Upto.{count_le}
use Rattle.words.proofs.Bits.{put_other, put-lt, Within}
use Rattle.tables.specs.Rows.{free}
use Rattle.state.specs.declared.Level.{Level}
use Rattle.state.specs.WellFormed.{chain}
use Rattle.state.proofs.WellFormedLaws.{Sets, chain_head, chain_tail, chain_cons}
use Rattle.truth.proofs.FreeVariables.{free_among, free_le, free-less}

-- ---- a free variable goes to T or to F

module _ (n t f v : ℕ) (b : v < n) (h : free t f v ≡ true) where
  at-v : (i : ℕ) → eqb i v ≡ true → free t f i ≡ true
  at-v i q = rw (eqb-true i v q) h

  pub sets_t_lem : Sets n t f → Sets n (put t v) f
  sets_t_lem s = record {
    low_t = put-lt n t v s.low_t b;
    low-f = s.low-f;
    apart = λ i c. on (eqb i v)
        (λ q. mp _ _ (taut3 (λ x t f. imp (not t && not f) (not (x && f))) refl (bit (put t v) i) (bit t i) (bit f i)) (at-v i q))
        (λ q. rw (put_other t v i q) (s.apart i c));
  }

  pub sets-f : Sets n t f → Sets n t (put f v)
  sets-f s = record {
    low_t = s.low_t;
    low-f = put-lt n f v s.low-f b;
    apart = λ i c. on (eqb i v)
        (λ q. mp _ _ (taut3 (λ x t f. imp (not t && not f) (not (t && x))) refl (bit (put f v) i) (bit t i) (bit f i)) (at-v i q))
        (λ q. rw (put_other f v i q) (s.apart i c));
  }

-- ---- levels

-- what the last level lies within may grow
pub chain_mono : (n t f t' f' : ℕ) (ls : List Level) → Within n t t' → Within n f f' → chain n t f ls ≡ true → chain n t' f' ls ≡ true
unfolding chain
chain_mono n t f t' f' [] ht hf e = refl
chain_mono n t f t' f' (l ∷ ls) ht hf e =
    let o = chain_head n l t f ls e in
    chain_cons n l t' f' ls
    (record {
      own = o.own;
      low = o.low;
      was_free = o.was_free;
      in_t = λ i b h. ht i b (o.in_t i b h);
      in_f = λ i b h. hf i b (o.in_f i b h);
      now-true = ht l.chosen o.low o.now-true;
    })
    (chain_tail n l t f ls e)

-- each level set at least one variable more, so levels and free variables together are at most n
pub depth_free : (n t f : ℕ) (ls : List Level) → chain n t f ls ≡ true → length ls + free_among (λ i. true) n t f ≤ n
depth_free n t f [] e = omega (arith, free_le (λ i. true) n t f, count_le (λ i. true) n)
depth_free n t f (l ∷ ls) e =
    let o = chain_head n l t f ls e in
    omega (
      arith,
      depth_free n l.t l.f ls (chain_tail n l t f ls e),
      free-less (λ i. true) n l.t l.f t f l.chosen o.low refl o.was_free (rw o.now-true) o.in_t o.in_f,
    )
