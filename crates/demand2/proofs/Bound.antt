-- 2 ^ (k + 1) - 1 steps close a fresh run, k being the number of variables that occur in a row that is no padding, in rows where all that occurred at any step
-- still occur: a run sets and chooses only these, and each step of an open run lowers a potential that starts there.
use mathlib.Core.Path.{◌≡◌, refl}
use mathlib.Core.Bool.{Bool, true, false, ◌&&◌}
use mathlib.Core.List.{List, [], ◌∷◌}
use Prim.Native.Nat.{ℕ, zero, suc, ◌+◌, ◌-◌, ◌*◌, ◌^◌, ◌≤◌, ◌<◌, suc-le-suc}
use native.Mathlib.Nat.{pow-suc}
use native.Mathlib.Omega.{arith}
use lib.Pow.{pow_pos, pow_mono}
use Rattle.words.specs.declared.Row.{Row}
use Rattle.words.proofs.Truth.{and_l, and_r, and_i}
use Rattle.words.proofs.Upto.{count_le}
use Rattle.state.specs.declared.Level.{Level}
use Rattle.scan.specs.declared.Rule.{Rule}
use Rattle.scan.specs.declared.Rule.TheVariants.{AllSatisfied, Conflict, Unit, Choice}
use Rattle.state.specs.declared.Standing.{Standing}
use Rattle.state.specs.declared.Standing.TheVariants.{Open, Satisfied, Refuted}
use Rattle.state.specs.State.{State, fresh, if_open}
use Rattle.solver.specs.Step.{back, assign, follow, Ruling, step_with, later, after_with}
use Rattle.truth.specs.Truth.{occurs, occurring}
use Rattle.state.specs.WellFormed.{chain}
use Rattle.truth.proofs.RuleLaws.{Ruled, Applies, Settable, unit_settable, choice_settable}
use Rattle.state.proofs.WellFormedLaws.{Formed, chain_head}
use Rattle.truth.proofs.FreeVariables.{free_among, free_le, free-less_t, free-less-f}
use Rattle.solver.proofs.StepLaws.{step_formed_with, fresh_formed}

-- each level's variable passes
abbrev all_chosen : (ℕ → Bool) → List Level → Bool
all_chosen p [] = true
all_chosen p (l ∷ ls) = p l.chosen && all_chosen p ls

-- what the levels have left: for each, the steps after its variable goes to F
unfoldable pub steps_left : (ℕ → Bool) → ℕ → List Level → ℕ
unfolding free_among
steps_left p n [] = 0
steps_left p n (l ∷ ls) = (2 ^ free_among p n l.t l.f - 1) + steps_left p n ls

-- the most steps that an open state has before it: 2 ^ (k + 1) - 1 for its k free variables that may be set, and what its levels have left
abbrev potential_at : (ℕ → Bool) → ℕ → State → Standing → ℕ
potential_at p n s Open = (2 ^ suc (free_among p n s.t s.f) - 1) + steps_left p n s.levels
potential_at p n s Satisfied = 0
potential_at p n s Refuted = 0

-- what `omega` is told of the powers of u and of a lesser u'
falls : (u u' : ℕ) → u' < u → (2 ^ suc u ≡ 2 ^ u * 2) × (2 ^ suc u' ≤ 2 ^ u) × (0 < 2 ^ u) × (0 < 2 ^ suc u')
falls u u' h = (pow-suc 2 u, pow_mono h, pow_pos u, pow_pos (suc u'))

module _ (n : ℕ) (p : ℕ → Bool) where
  -- how many of these variables are free
  abbrev among : ℕ → ℕ → ℕ
  among t f = free_among p n t f

  -- the most steps that a state has before it
  abbrev pub potential : State → ℕ
  potential s = potential_at p n s s.standing

  -- of an open state
  abbrev opened : State → ℕ
  opened s = potential_at p n s Open

  -- what every step keeps: a well-formed state whose levels' variables pass
  abbrev pub Kept : State → Type 0
  Kept s = Formed n s × (all_chosen p s.levels ≡ true)

  -- an open state has a step before it
  pub open_some : (s : State) → s.standing ≡ Open → 0 < potential s
  open_some s = go s.standing
    where
      go : (st : Standing) → st ≡ Open → 0 < potential_at p n s st
      go Open e = omega (arith, pow-suc 2 (among s.t s.f), pow_pos (among s.t s.f))
      go Satisfied e = let z : ◌≡◌ {A = ℕ} 0 1 = cc in absurd (omega arith)
      go Refuted e = let z : ◌≡◌ {A = ℕ} 0 1 = cc in absurd (omega arith)

  -- a closed one has none
  pub closed_none : (s : State) → (s.standing ≡ Open → ⊥) → potential s ≡ 0
  closed_none s = go s.standing
    where
      go : (st : Standing) → (st ≡ Open → ⊥) → potential_at p n s st ≡ 0
      go Open h = absurd (h refl)
      go Satisfied h = refl
      go Refuted h = refl

-- rows in which only variables that pass occur
module _ (n : ℕ) (p : ℕ → Bool) (rows : List Row) (may : (v : ℕ) → occurs n rows v ≡ true → p v ≡ true) where
  -- ---- every chosen variable is one of them

  back-chosen : (s : State) (ls : List Level) → all_chosen p ls ≡ true → all_chosen p (back s ls).levels ≡ true
  back-chosen s [] c = c
  back-chosen s (l ∷ ls) c = and_r (p l.chosen) _ c

  follow-chosen : (s : State) (k : Rule) → Ruled n rows s.t s.f k → all_chosen p s.levels ≡ true → all_chosen p (follow s k).levels ≡ true
  follow-chosen s AllSatisfied w c = c
  follow-chosen s Conflict w c = back-chosen s s.levels c
  follow-chosen s (Unit v true) w c = c
  follow-chosen s (Unit v false) w c = c
  follow-chosen s (Choice v) w c = and_i (may v (choice_settable n rows s.t s.f w).occurring) c

  -- a step keeps it
  pub step_kept : (ruling : Ruling) → Applies ruling → (s : State) → Kept n p s → Kept n p (step_with ruling n rows s)
  unfolding step_with
  step_kept ruling applies s o = (step_formed_with ruling applies n rows s o.0, go s.standing)
    where
      go : (st : Standing) → all_chosen p (if_open st (follow s (ruling n rows s.t s.f)) s).levels ≡ true
      go Open = follow-chosen s (ruling n rows s.t s.f) (applies n rows s.t s.f) o.1
      go Satisfied = o.1
      go Refuted = o.1

  -- ---- the potential falls

  back-falls : (s : State) (ls : List Level) → chain n s.t s.f ls ≡ true → all_chosen p ls ≡ true
      → potential n p (back s ls) < (2 ^ suc (among n p s.t s.f) - 1) + steps_left p n ls
  unfolding steps_left
  back-falls s [] e c = omega (arith, pow-suc 2 (among n p s.t s.f), pow_pos (among n p s.t s.f))
  back-falls s (l ∷ ls) e c =
      let w = chain_head n l s.t s.f ls e in
      omega (
        arith,
        falls _ _ (free-less-f n l.t l.f l.chosen w.low w.was_free p (and_l _ _ c)),
        pow-suc 2 (among n p s.t s.f),
        pow_pos (among n p s.t s.f),
      )

  assign-falls : (s : State) (v : ℕ) (positive : Bool) → Settable n rows s.t s.f v → potential n p (assign s v positive) < opened n p s
  assign-falls s v true w = omega (arith, falls _ _ (free-less_t n s.t s.f v w.low w.is_free p (may v w.occurring)))
  assign-falls s v false w = omega (arith, falls _ _ (free-less-f n s.t s.f v w.low w.is_free p (may v w.occurring)))

  choice-falls : (s : State) (v : ℕ) → Settable n rows s.t s.f v → potential n p (follow s (Choice v)) < opened n p s
  unfolding steps_left
  choice-falls s v w = omega (arith, falls _ _ (free-less_t n s.t s.f v w.low w.is_free p (may v w.occurring)))

  follow-falls : (s : State) (k : Rule) → Ruled n rows s.t s.f k → Kept n p s → potential n p (follow s k) < opened n p s
  follow-falls s AllSatisfied w o = omega (arith, pow-suc 2 (among n p s.t s.f), pow_pos (among n p s.t s.f))
  follow-falls s Conflict w o = back-falls s s.levels o.0.linked o.1
  follow-falls s (Unit v positive) w o = assign-falls s v positive (unit_settable n rows s.t s.f w)
  follow-falls s (Choice v) w o = choice-falls s v (choice_settable n rows s.t s.f w)

  -- and lowers the potential, by one at least
  pub step_falls : (ruling : Ruling) → Applies ruling → (s : State) → Kept n p s → (k : ℕ) → potential n p s ≤ suc k
      → potential n p (step_with ruling n rows s) ≤ k
  unfolding step_with
  step_falls ruling applies s o k = go s.standing refl
    where
      go : (st : Standing) → s.standing ≡ st → potential_at p n s st ≤ suc k → potential n p (if_open st (follow s (ruling n rows s.t s.f)) s) ≤ k
      go Open e h = omega (arith, follow-falls s (ruling n rows s.t s.f) (applies n rows s.t s.f) o)
      go Satisfied e h = rw e (omega arith)
      go Refuted e h = rw e (omega arith)

-- ---- from fresh

module _ (n : ℕ) (last : List Row) where
  -- the fresh state keeps it
  pub fresh_kept : Kept n (occurs n last) fresh
  fresh_kept = (fresh_formed n, refl)

  -- and has at most so many steps before it
  pub fresh-most : potential n (occurs n last) fresh ≤ 2 ^ suc (occurring n last) - 1
  unfolding steps_left occurring
  fresh-most =
      let p : 2 ^ suc (among n (occurs n last) 0 0) ≤ 2 ^ suc (occurring n last) = pow_mono (omega (arith, free_le (occurs n last) n 0 0)) in omega arith

-- ---- so it reaches 0, and no open state has potential 0

module _ (ruling : Ruling) (applies : Applies ruling) where
  closes : (n : ℕ) (p : ℕ → Bool) (k : ℕ) (rows : ℕ → List Row) → ((i : ℕ) → i < k → (v : ℕ) → occurs n (rows i) v ≡ true → p v ≡ true)
      → (s : State) → Kept n p s → potential n p s ≤ k → (after_with ruling n rows k s).standing ≡ Open → ⊥
  unfolding after_with
  closes n p zero rows may s o h = λ e. omega (arith, open_some n p s e)
  closes n p (suc k) rows may s o h =
      closes n p k (later rows) (λ i b. may (suc i) (suc-le-suc b)) (step_with ruling n (rows 0) s)
      (step_kept n p (rows 0) (may 0 (omega arith)) ruling applies s o) (step_falls n p (rows 0) (may 0 (omega arith)) ruling applies s o k h)

  -- what occurs at any step still occurs in the last rows
  pub after-closes : (n : ℕ) (last : List Row) (k : ℕ) (rows : ℕ → List Row)
      → ((i : ℕ) → i < k → (v : ℕ) → occurs n (rows i) v ≡ true → occurs n last v ≡ true)
      → 2 ^ suc (occurring n last) - 1 ≤ k → (after_with ruling n rows k fresh).standing ≡ Open → ⊥
  after-closes n last k rows may h = closes n (occurs n last) k rows may fresh (fresh_kept n last) (omega (arith, fresh-most n last))

-- and there are at most n such variables
pub occurring_le : (n : ℕ) (last : List Row) → occurring n last ≤ n
unfolding occurring
occurring_le n last = count_le (occurs n last) n
