-- What `rules::follow` returns is the run that holds the definition's next state: its levels are kept, one more is stored, or the last is zeroed.
use mathlib.Core.Path.{◌≡◌, refl, sym, ap, ap₂, ◌∙◌}
use mathlib.Core.Bool.{Bool, true, false, cond}
use mathlib.Core.List.{List, ◌∷◌}
use Prim.Native.Nat.{ℕ, zero, suc, ◌+◌, ◌-◌, ◌≤◌, ◌<◌}
use native.Mathlib.Omega.{arith}
use lib.Dec.{eqb}
use lib.ListN.{get_or, set, length, drop, replicate, length-set}
use lib.Seq.{get_or-set_same, get_or-set_other, lt-length-set, drop-cons, drop-drop, drop-set-lt}
use borrow.Author.Tests.{lt-ltb, le-leb, eqb-true, eqb-false}
use Rattle.words.specs.Sets.{put}
use Rattle.words.proofs.Truth.{on}
use Rattle.scan.specs.declared.Rule.{Rule}
use Rattle.scan.specs.declared.Rule.TheVariants.{AllSatisfied, Conflict, Unit, Choice}
use Rattle.state.specs.declared.Level.{Level}
use Rattle.state.specs.declared.Run.{Run}
use Rattle.state.specs.declared.Standing.{Standing}
use Rattle.state.specs.declared.Standing.TheVariants.{Open, Satisfied, Refuted}
use Rattle.state.specs.State.{State, state_of, levels_of, none, run_of}
use Rattle.state.specs.WellFormed.{chain, well_formed}
use Rattle.state.proofs.WellFormedLaws.{formed_e, chain_head}
use Rattle.state.proofs.HeldRun.{Tidy, formed_run_e, formed_tidy, returned}
use Rattle.rules.specs.Followed.{put_in, keeping, removed, stored, followed}
use Rattle.solver.specs.Step.{back, follow}

-- ---- stores

-- a store at or past d leaves the first d levels
beyond : (d k : ℕ) (levels : List Level) (x : Level) → d ≤ k → levels_of d (set levels k x) ≡ levels_of d levels
beyond zero k levels x h = refl
beyond (suc d) k levels x h =
    ap₂ (λ (l : Level) (ls : List Level). l ∷ ls) (get_or-set_other levels k d x none (λ e. omega arith)) (beyond d k levels x (omega arith))

module _ (levels : List Level) (room : length levels ≡ 32) (d : ℕ) (h : d < 32) where
  stored-rest : (x : Level) → drop d levels ≡ replicate (32 - d) none → drop (d + 1) (set levels d x) ≡ replicate (32 - (d + 1)) none
  stored-rest x e =
      let k : 32 - d ≡ suc (32 - (d + 1)) = omega arith in
      drop-set-lt (d + 1) levels d x (omega arith) ∙ sym (drop-drop 1 d levels) ∙ ap (λ (l : List Level). drop 1 l) e
      ∙ ap (λ (n : ℕ). drop 1 (replicate n none)) k

  stored-levels : (x : Level) → levels_of (d + 1) (set levels d x) ≡ x ∷ levels_of d levels
  stored-levels x = let k : d + 1 ≡ suc d = omega arith in rw (k, get_or-set_same levels d x none (omega arith), beyond d d levels x (omega arith))

  zeroed_rest : drop (suc d) levels ≡ replicate (32 - suc d) none → drop d (set levels d none) ≡ replicate (32 - d) none
  zeroed_rest e =
      let k : suc (32 - suc d) ≡ 32 - d = omega arith in
      drop-cons (set levels d none) d none (lt-length-set levels d none (omega arith))
      ∙ ap₂ (λ (l : Level) (ls : List Level). l ∷ ls) (get_or-set_same levels d none none (omega arith)) (drop-set-lt (suc d) levels d none (omega arith) ∙ e)
      ∙ ap (λ (n : ℕ). replicate n none) k

-- ---- the states

back_none : (s : State) (levels : List Level) (d : ℕ) → d ≡ 0
    → ◌≡◌ {A = State} (record { standing = Refuted; t = s.t; f = s.f; levels = levels_of d levels }) (back s (levels_of d levels))
back_none s levels zero e = refl
back_none s levels (suc d) e = absurd (omega arith)

back_last : (s : State) (levels : List Level) (d : ℕ) → 0 < d → let l = get_or levels (d - 1) none in
    ◌≡◌ {A = State} (record { standing = Open; t = l.t; f = put l.f l.chosen; levels = levels_of (d - 1) (set levels (d - 1) none) })
    (back s (levels_of d levels))
back_last s levels zero h = absurd (omega arith)
back_last s levels (suc d) h = let k : suc d - 1 ≡ d = omega arith in rw (k, beyond d d levels none (omega arith))

last-low : (n t f d : ℕ) (levels : List Level) → 0 < d → chain n t f (levels_of d levels) ≡ true → (get_or levels (d - 1) none).chosen < n
last-low n t f zero levels h e = absurd (omega arith)
last-low n t f (suc d) levels h e = let k : suc d - 1 ≡ d = omega arith in rw k (chain_head n (get_or levels d none) t f (levels_of d levels) e).low

-- ---- the runs

-- below 32 a variable is put
put_low : (w v : ℕ) → v < 32 → put_in w v ≡ put w v
put_low w v h = ap (λ (b : Bool). cond b (put w v) w) (lt-ltb v 32 h)

-- a rule that fits a run: its variable is one of 32, and for a choice there is room for a level
pub record Fits (run : Run) (rule : Rule) : Type 0 where
  pub unit-low : (v : ℕ) (positive : Bool) → rule ≡ Unit v positive → v < 32
  pub choice-low : (v : ℕ) → rule ≡ Choice v → v < 32
  pub choice-room : (v : ℕ) → rule ≡ Choice v → run.depth < 32

module _ (run : Run) (room : length run.levels ≡ 32) (w : well_formed run ≡ true) where
  tidy : Tidy run
  tidy = formed_tidy run room (formed_run_e run w)

  -- the last level, and its variable
  abbrev last : Level
  last = get_or run.levels (run.depth - 1) none

  last-chosen : 0 < run.depth → last.chosen < 32
  last-chosen h =
      let o = formed_run_e run w in
      omega (arith, last-low run.n run.t run.f run.depth run.levels h (formed_e run.n (state_of run) o.state).linked, o.most)

  -- another standing, T and F
  kept : (st : Standing) (t f : ℕ) (s : State) → ◌≡◌ {A = State} (record { standing = st; t = t; f = f; levels = levels_of run.depth run.levels }) s
      → keeping run st t f ≡ run_of run.n s
  kept st t f s e = returned run.n s (keeping run st t f) (record { room = tidy.room; deep = tidy.deep; rest = tidy.rest }) refl e

  -- the last level is removed
  popped : 0 < run.depth → removed run (run.depth - 1) last ≡ run_of run.n (follow (state_of run) Conflict)
  popped h = returned run.n (follow (state_of run) Conflict) (removed run (run.depth - 1) last) below refl
      (ap (λ (x : ℕ). record { standing = Open; t = last.t; f = x; levels = levels_of (run.depth - 1) (set run.levels (run.depth - 1) none) })
      (put_low last.f last.chosen (last-chosen h))
      ∙ back_last (state_of run) run.levels run.depth h)
    where
      up : suc (run.depth - 1) ≡ run.depth
      up = omega arith

      below : Tidy (removed run (run.depth - 1) last)
      below = record {
        room = length-set run.levels (run.depth - 1) none ∙ room;
        deep = omega (arith, tidy.deep);
        rest = zeroed_rest run.levels room (run.depth - 1) (omega (arith, tidy.deep))
            (ap (λ (d : ℕ). drop d run.levels) up ∙ tidy.rest ∙ ap (λ (d : ℕ). replicate (32 - d) none) (sym up));
      }

  -- one more level is stored
  pushed : (v : ℕ) → v < 32 → run.depth < 32 → stored run v ≡ run_of run.n (follow (state_of run) (Choice v))
  pushed v k h = returned run.n (follow (state_of run) (Choice v)) (stored run v) above refl
      (ap₂ (λ (x : ℕ) (ls : List Level). record { standing = Open; t = x; f = run.f; levels = ls })
      (put_low run.t v k)
      (stored-levels run.levels room run.depth h (record { t = run.t; f = run.f; chosen = v })))
    where
      above : Tidy (stored run v)
      above = record {
        room = length-set run.levels run.depth (record { t = run.t; f = run.f; chosen = v }) ∙ room;
        deep = omega arith;
        rest = stored-rest run.levels room run.depth h (record { t = run.t; f = run.f; chosen = v }) tidy.rest;
      }

  -- what a rule that fits makes of the run is the run of the state after it
  pub held : (rule : Rule) → Fits run rule → followed run rule ≡ run_of run.n (follow (state_of run) rule)
  held AllSatisfied fits = kept Satisfied run.t run.f (follow (state_of run) AllSatisfied) refl
  held Conflict fits =
      on (eqb run.depth 0)
      (λ e. rw e
      (kept Refuted run.t run.f (follow (state_of run) Conflict) (back_none (state_of run) run.levels run.depth (eqb-true run.depth 0 e))))
      (λ e. rw (e, le-leb run.depth 32 tidy.deep) (popped (omega (arith, eqb-false run.depth 0 e))))
  held (Unit v true) fits = kept Open (put_in run.t v) run.f (follow (state_of run) (Unit v true)) (rw (put_low run.t v (fits.unit-low v true refl)))
  held (Unit v false) fits = kept Open run.t (put_in run.f v) (follow (state_of run) (Unit v false)) (rw (put_low run.f v (fits.unit-low v false refl)))
  held (Choice v) fits = rw (lt-ltb run.depth 32 (fits.choice-room v refl)) (pushed v (fits.choice-low v refl) (fits.choice-room v refl))
