-- A step keeps a state well-formed, and so does any number of steps; at depth n no variable is chosen. By cases on the rule.
use mathlib.Core.Path.{◌≡◌, refl}
use mathlib.Core.Bool.{Bool, true, false}
use mathlib.Core.List.{List, [], ◌∷◌}
use Prim.Native.Nat.{ℕ, zero, suc, ◌≤◌, ◌<◌, zero-le, suc-le-suc}
use native.Mathlib.Omega.{arith}
use lib.ListN.{length}
use lib.Pow.{pow_pos}
use Rattle.words.specs.declared.Row.{Row}
use Rattle.words.specs.Sets.{put}
use Rattle.words.proofs.Bits.{bit-zero, put_keeps, put_has}
use Rattle.state.specs.declared.Level.{Level}
use Rattle.scan.specs.declared.Rule.{Rule}
use Rattle.scan.specs.declared.Rule.TheVariants.{AllSatisfied, Conflict, Unit, Choice}
use Rattle.state.specs.declared.Standing.{Standing}
use Rattle.state.specs.declared.Standing.TheVariants.{Open, Satisfied, Refuted}
use Rattle.scan.specs.Rules.{rule}
use Rattle.state.specs.State.{State, fresh, if_open}
use Rattle.solver.specs.Step.{back, assign, follow, Ruling, step_with, step, later, after_with, after}
use Rattle.state.specs.WellFormed.{chain, well_formed_state}
use Rattle.truth.proofs.RuleLaws.{Ruled, Applies, ruled, Settable, unit_settable, choice_settable, rule-choice}
use Rattle.state.proofs.WellFormedLaws.{Sets, Formed, formed_e, formed_i, chain_head, chain_tail, chain_cons}
use Rattle.truth.proofs.FreeVariables.{free-less_t}
use Rattle.solver.proofs.SettingLaws.{sets_t_lem, sets-f, chain_mono, depth_free}

-- ---- by any ruling

module _ (ruling : Ruling) where
  -- what each step keeps, any number of steps keeps
  pub after_keeps : (n : ℕ) (rows : ℕ → List Row) (P : State → Type 0) (k : ℕ) → ((i : ℕ) → i < k → (s : State) → P s → P (step_with ruling n (rows i) s))
      → (s : State) → P s → P (after_with ruling n rows k s)
  unfolding after_with
  after_keeps n rows P zero h s p = p
  after_keeps n rows P (suc k) h s p = after_keeps n (later rows) P k (λ i b. h (suc i) (suc-le-suc b)) (step_with ruling n (rows 0) s) (h 0 (omega arith) s p)

  -- the last of some steps
  pub after_last : (n : ℕ) (rows : ℕ → List Row) (k : ℕ) (s : State) → after_with ruling n rows (suc k) s
      ≡ step_with ruling n (rows k) (after_with ruling n rows k s)
  unfolding after_with
  after_last n rows zero s = refl
  after_last n rows (suc k) s = after_last n (later rows) k (step_with ruling n (rows 0) s)

-- the fresh state has what makes a state well-formed, for every n
pub fresh_formed : (n : ℕ) → Formed n fresh
unfolding chain
fresh_formed n = record {
  own = record { low_t = pow_pos n; low-f = pow_pos n; apart = λ i b. rw bit-zero };
  few = zero-le;
  linked = refl;
}

module _ (n : ℕ) (rows : List Row) where
  -- a free variable, so fewer than n levels
  pub settable_depth : (s : State) (v : ℕ) → Formed n s → Settable n rows s.t s.f v → length s.levels < n
  settable_depth s v o w =
      omega (
        arith,
        depth_free n s.t s.f s.levels o.linked,
        free-less_t n s.t s.f v w.low w.is_free (λ i. true) refl,
      )

  -- ---- rules

  back_formed : (s : State) (ls : List Level) → Sets n s.t s.f → length ls ≤ n → chain n s.t s.f ls ≡ true → Formed n (back s ls)
  back_formed s [] o k c = record { own = o; few = k; linked = c }
  back_formed s (l ∷ ls) o k c =
      let w = chain_head n l s.t s.f ls c in record {
        own = sets-f n l.t l.f l.chosen w.low w.was_free w.own;
        few = omega arith;
        linked = chain_mono n l.t l.f l.t (put l.f l.chosen) ls (λ i b e. e) (λ i b. put_keeps l.f l.chosen i)
            (chain_tail n l s.t s.f ls c);
      }

  assign_formed : (s : State) (v : ℕ) (positive : Bool) → Settable n rows s.t s.f v → Formed n s → Formed n (assign s v positive)
  assign_formed s v true w o = record {
    own = sets_t_lem n s.t s.f v w.low w.is_free o.own;
    few = o.few;
    linked = chain_mono n s.t s.f (put s.t v) s.f s.levels (λ i b. put_keeps s.t v i) (λ i b e. e) o.linked;
  }
  assign_formed s v false w o = record {
    own = sets-f n s.t s.f v w.low w.is_free o.own;
    few = o.few;
    linked = chain_mono n s.t s.f s.t (put s.f v) s.levels (λ i b e. e) (λ i b. put_keeps s.f v i) o.linked;
  }

  choice_formed : (s : State) (v : ℕ) → Settable n rows s.t s.f v → Formed n s → Formed n (follow s (Choice v))
  choice_formed s v w o = record {
    own = sets_t_lem n s.t s.f v w.low w.is_free o.own;
    few = settable_depth s v o w;
    linked = chain_cons n (record { t = s.t; f = s.f; chosen = v }) (put s.t v) s.f s.levels
        (record {
          own = o.own;
          low = w.low;
          was_free = w.is_free;
          in_t = λ i b. put_keeps s.t v i;
          in_f = λ i b e. e;
          now-true = put_has s.t v;
        })
        o.linked;
  }

  -- following a rule that applies keeps what makes a state well-formed
  pub follow_formed : (s : State) (k : Rule) → Ruled n rows s.t s.f k → Formed n s → Formed n (follow s k)
  follow_formed s AllSatisfied w o = record { own = o.own; few = o.few; linked = o.linked }
  follow_formed s Conflict w o = back_formed s s.levels o.own o.few o.linked
  follow_formed s (Unit v positive) w o = assign_formed s v positive (unit_settable n rows s.t s.f w) o
  follow_formed s (Choice v) w o = choice_formed s v (choice_settable n rows s.t s.f w) o

-- ---- by a ruling whose rule applies

module _ (ruling : Ruling) (applies : Applies ruling) where
  module _ (n : ℕ) (rows : List Row) where
    -- a step keeps what makes a state well-formed
    pub step_formed_with : (s : State) → Formed n s → Formed n (step_with ruling n rows s)
    unfolding step_with
    step_formed_with s o = go s.standing
      where
        go : (st : Standing) → Formed n (if_open st (follow s (ruling n rows s.t s.f)) s)
        go Open = follow_formed n rows s (ruling n rows s.t s.f) (applies n rows s.t s.f) o
        go Satisfied = o
        go Refuted = o

    -- a step keeps a state well-formed
    pub step-well_formed_with : (s : State) → well_formed_state n s ≡ true → well_formed_state n (step_with ruling n rows s) ≡ true
    step-well_formed_with s e = formed_i n (step_with ruling n rows s) (step_formed_with s (formed_e n s e))

  -- any number of steps keeps what makes a state well-formed
  pub after_formed_with : (n : ℕ) (rows : ℕ → List Row) (k : ℕ) (s : State) → Formed n s → Formed n (after_with ruling n rows k s)
  after_formed_with n rows k = after_keeps ruling n rows (Formed n) k (λ i b. step_formed_with n (rows i))

-- ---- by giant steps

module _ (n : ℕ) (rows : List Row) where
  -- a giant step keeps what makes a state well-formed
  pub step_formed : (s : State) → Formed n s → Formed n (step n rows s)
  unfolding step
  step_formed = step_formed_with rule ruled n rows

  -- a giant step keeps a state well-formed
  pub step-well_formed : (s : State) → well_formed_state n s ≡ true → well_formed_state n (step n rows s) ≡ true
  unfolding step
  step-well_formed = step-well_formed_with rule ruled n rows

  -- at depth n no variable is chosen
  pub choice_depth : (s : State) (v : ℕ) → well_formed_state n s ≡ true → rule n rows s.t s.f ≡ Choice v → length s.levels < n
  choice_depth s v e c = settable_depth n rows s v (formed_e n s e) (rule-choice n rows s.t s.f v c)

module _ (n : ℕ) (rows : ℕ → List Row) where
  -- any number of giant steps keeps what makes a state well-formed
  pub after_formed : (k : ℕ) (s : State) → Formed n s → Formed n (after n rows k s)
  unfolding after
  after_formed = after_formed_with rule ruled n rows

  pub after-well_formed : (k : ℕ) (s : State) → well_formed_state n s ≡ true → well_formed_state n (after n rows k s) ≡ true
  after-well_formed k s e = formed_i n (after n rows k s) (after_formed k s (formed_e n s e))

-- ---- from fresh

-- the fresh state passes the test of a well-formed state, for every n
pub fresh-well_formed : (n : ℕ) → well_formed_state n fresh ≡ true
fresh-well_formed n = formed_i n fresh (fresh_formed n)

pub run-well_formed : (n : ℕ) (rows : ℕ → List Row) (k : ℕ) → well_formed_state n (after n rows k fresh) ≡ true
run-well_formed n rows k = after-well_formed n rows k fresh (fresh-well_formed n)
