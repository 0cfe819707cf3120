-- What steps leave of demand 2's potential: those taken are paid from it, and each one asked for lowers it until the run is closed. By induction on the
-- steps, whatever ruling applies, so that calls by different rulings may follow each other.
use mathlib.Core.Path.{◌≡◌, refl}
use mathlib.Core.Bool.{Bool, true}
use mathlib.Core.List.{List}
use Prim.Native.Nat.{ℕ, zero, suc, ◌+◌, ◌-◌, ◌≤◌}
use native.Mathlib.Omega.{arith}
use Rattle.words.specs.declared.Row.{Row}
use Rattle.state.specs.declared.Standing.{Standing}
use Rattle.state.specs.declared.Standing.TheVariants.{Open, Satisfied, Refuted}
use Rattle.state.specs.State.{State, if_open}
use Rattle.solver.specs.Step.{Ruling, always, step_with}
use Rattle.solver.specs.Entries.{Ran, run_with}
use Rattle.truth.specs.Truth.{occurs}
use Rattle.truth.proofs.RuleLaws.{Applies}
use Rattle.demand2.proofs.Bound.{potential, Kept, open_some, closed_none, step_kept, step_falls}

module _ (n : ℕ) (p : ℕ → Bool) where
  -- from one state to another by so many steps asked for and so many taken
  pub record Lowers (s s' : State) (asked taken : ℕ) : Type 0 where
    pub kept : Kept n p s'
    pub spent : taken + potential n p s' ≤ potential n p s
    pub reached : (k : ℕ) → potential n p s ≤ asked + k → potential n p s' ≤ k

  -- no step
  pub lowers_none : (s : State) → Kept n p s → Lowers s s 0 0
  lowers_none s o = record { kept = o; spent = omega arith; reached = λ k h. omega arith }

  -- a closed state stays, however many are asked for
  pub lowers_closed : (s : State) → Kept n p s → (s.standing ≡ Open → ⊥) → (asked : ℕ) → Lowers s s asked 0
  lowers_closed s o e asked = record { kept = o; spent = omega arith; reached = λ k h. omega (arith, closed_none n p s e) }

  -- some and then some more
  pub lowers_on : {s s' s'' : State} {a b c e : ℕ} → Lowers s s' a c → Lowers s' s'' b e → Lowers s s'' (a + b) (c + e)
  lowers_on {s} {s'} {s''} {a} {b} {c} {e} x y = record {
    kept = y.kept;
    spent = omega (arith, x.spent, y.spent);
    reached = λ k h. y.reached k (x.reached (b + k) (omega arith));
  }

  -- rows in which only variables that pass occur, and a ruling that applies
  module _ (rows : List Row) (may : (v : ℕ) → occurs n rows v ≡ true → p v ≡ true) (ruling : Ruling) (applies : Applies ruling) where
    abbrev next : State → State
    next s = step_with ruling n rows s

    paid : (s : State) → Kept n p s → (st : Standing) → s.standing ≡ st → if_open st 1 0 + potential n p (next s) ≤ potential n p s
    paid s o Open e =
        let some = open_some n p s e in
        let lower = step_falls n p rows may ruling applies s o (potential n p s - 1) (omega arith) in omega arith
    paid s o Satisfied e = let same = step_falls n p rows may ruling applies s o (potential n p s) (omega arith) in omega arith
    paid s o Refuted e = let same = step_falls n p rows may ruling applies s o (potential n p s) (omega arith) in omega arith

    -- a step, which counts where the state is open
    pub lowers_step : (s : State) → Kept n p s → Lowers s (next s) 1 (if_open s.standing 1 0)
    lowers_step s o = record {
      kept = step_kept n p rows may ruling applies s o;
      spent = paid s o s.standing refl;
      reached = λ k h. step_falls n p rows may ruling applies s o k (omega arith);
    }

    -- the run continued
    pub lowers_run : (times : ℕ) (s : State) → Kept n p s → let r = run_with ruling n (always rows) times s in Lowers s r.final times r.steps
    unfolding run_with
    lowers_run zero s o = lowers_none s o
    lowers_run (suc times) s o = go (lowers_run times (next s) (lowers_step s o).kept) s.standing refl
      where
        r : Ran
        r = run_with ruling n (always rows) times (next s)

        go : Lowers (next s) r.final times r.steps → (st : Standing) → s.standing ≡ st → let q : Ran = elim st [
          | Open ↦ record { steps = suc r.steps; final = r.final }
          | Satisfied ↦ record { steps = 0; final = s }
          | Refuted ↦ record { steps = 0; final = s }
        ] in Lowers s q.final (suc times) q.steps
        go rest Open e = record {
          kept = rest.kept;
          spent = omega (arith, paid s o Open e, rest.spent);
          reached = λ k h. rest.reached k ((lowers_step s o).reached (times + k) (omega arith));
        }
        go rest Satisfied e = lowers_closed s o (λ h. let z : ◌≡◌ {A = ℕ} 0 1 = cc in omega arith) (suc times)
        go rest Refuted e = lowers_closed s o (λ h. let z : ◌≡◌ {A = ℕ} 0 1 = cc in omega arith) (suc times)
