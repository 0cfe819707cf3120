-- Free variables: how many of them pass a test, and that fewer do once one of them is set.
use mathlib.Core.Path.{◌≡◌, refl}
use mathlib.Core.Bool.{Bool, true, false, not, ◌&&◌, and-false}
use Prim.Native.Nat.{ℕ, ◌≤◌, ◌<◌}
use Rattle.words.specs.Booleans.{imp}
use Rattle.words.specs.Sets.{bit, put, count}
use Rattle.words.proofs.Truth.{and_l, and_r, and_i, mp, imp-i, taut4}
use Rattle.words.proofs.Upto.{count_mono, count-lt}
use Rattle.words.proofs.Bits.{put_keeps, put_has, Within}
use Rattle.tables.specs.Rows.{free}

-- how many of the n variables pass and are free
unfoldable pub free_among : (ℕ → Bool) → ℕ → ℕ → ℕ → ℕ
free_among p n t f = count (λ i. p i && free t f i) n

module _ (p : ℕ → Bool) (n t f : ℕ) where
  -- no more variables pass and are free than pass
  pub free_le : free_among p n t f ≤ count p n
  unfolding free_among
  free_le = count_mono (λ i. p i && free t f i) p n (λ i b. and_l (p i) _)

  -- where more is set, a free variable that passes too, fewer variables pass and are free
  pub free-less : (t' f' v : ℕ) → v < n → p v ≡ true → free t f v ≡ true → free t' f' v ≡ false → Within n t t' → Within n f f'
      → free_among p n t' f' < free_among p n t f
  unfolding free_among
  free-less t' f' v b hp h k ht hf =
      count-lt (λ i. p i && free t' f' i) (λ i. p i && free t f i) n v b (rw hp k) (and_i hp h)
      (λ i c e. and_i (and_l (p i) _ e) (mp _ _
      (taut4 (λ t f t' f'. imp (imp t t' && imp f f' && (not t' && not f')) (not t && not f)) refl (bit t i) (bit f i) (bit t' i) (bit f' i))
      (and_i (and_i (imp-i _ _ (ht i c)) (imp-i _ _ (hf i c))) (and_r (p i) _ e))))

-- ---- a free variable goes to T or to F

module _ (n t f v : ℕ) (b : v < n) (h : free t f v ≡ true) where
  -- with the free variable in T, fewer of the variables that pass are free, if it passes too
  pub free-less_t : (p : ℕ → Bool) → p v ≡ true → free_among p n (put t v) f < free_among p n t f
  free-less_t p hp = free-less p n t f (put t v) f v b hp h (rw put_has) (λ i c. put_keeps t v i) (λ i c e. e)

  -- with the free variable in F, fewer of the variables that pass are free, if it passes too
  pub free-less-f : (p : ℕ → Bool) → p v ≡ true → free_among p n t (put f v) < free_among p n t f
  free-less-f p hp = free-less p n t f t (put f v) v b hp h (rw put_has (and-false (not (bit t v)))) (λ i c e. e) (λ i c. put_keeps f v i)
