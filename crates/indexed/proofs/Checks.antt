-- The checks of run, index and number: the first that fails decides, and what passes them is exact.
use mathlib.Core.Path.{◌≡◌, sym, ap, ap₂, subst, ◌∙◌}
use mathlib.Core.Bool.{Bool, true, false, not}
use mathlib.Core.List.{List}
use Prim.Native.Nat.{ℕ, ◌^◌, ◌<◌}
use lib.Dec.{eqb}
use borrow.Author.Tests.{eq-eqb, ne_eqb, eqb-true, not-false}
use Rattle.std.specs.Prelude.{Ok, Err}
use Rattle.refusals.specs.Numbers.{Outcome}
use Rattle.refusals.specs.Checks.{outcome}
use Rattle.refusals.specs.declared.Refusal.TheVariants.{OtherVariables}
use Rattle.refusals.specs.declared.Refusal.TheVariants as refusal
use Rattle.refusals.proofs.Outcomes.{check_passed, checks-taken}
use Rattle.words.specs.declared.Row.{Row}
use Rattle.words.specs.Sameness.{same}
use Rattle.words.proofs.Sameness.{same_true}
use Rattle.tables.specs.Rows.{rows_from}
use Rattle.state.specs.declared.Run.{Run}
use Rattle.state.specs.State.{state_of}
use Rattle.state.specs.WellFormed.{well_formed}
use Rattle.solver.specs.Step.{step}
use Rattle.tally.specs.declared.Tally.{Tally}
use Rattle.tally.specs.Tallies.{tally_of}
use Rattle.tally.specs.RowsSeen.{surveyed}
use Rattle.indexed.specs.declared.tallied.TalliedRun.{TalliedRun}
use Rattle.indexed.specs.Tallied.{Indexed, Exact, tallied_of, kept_checks, stepped_over}
use Rattle.indexed.specs.Entries.{SteppedIndexed, indexed_checks}
use Rattle.indexed.proofs.Numbers.{tally_number}
use Rattle.indexed.proofs.TallyAfter.{survey_exact}
use Rattle.indexed.proofs.Running.{of_run}
use Rattle.indexed.proofs.Entries.{over-taken}

module _ (n : ℕ) (run : Run) (exact right : Bool) where
  pub refuse_formed : well_formed run ≡ false → Err refusal.State ≡ outcome (kept_checks n run exact right)
  refuse_formed e = rw e

  module _ (formed : well_formed run ≡ true) where
    pub refuse_exact : exact ≡ false → Err refusal.State ≡ outcome (kept_checks n run exact right)
    refuse_exact e = rw (formed, e)

    module _ (sets : exact ≡ true) where
      pub refuse_right : right ≡ false → Err refusal.State ≡ outcome (kept_checks n run exact right)
      refuse_right e = rw (formed, sets, e)

      module _ (number : right ≡ true) where
        pub refuse_other : (run.n ≡ n → ⊥) → Err OtherVariables ≡ outcome (kept_checks n run exact right)
        refuse_other h = rw (formed, sets, number, ne_eqb run.n n h)

        -- the run's own n: the call is taken
        pub take-kept : run.n ≡ n → Ok tt ≡ outcome (kept_checks n run exact right)
        take-kept h = rw (formed, sets, number, eq-eqb run.n n h)

  -- what passes is a well-formed run of n, an exact index and the right number
  pub record Kept : Type 0 where
    pub formed : well_formed run ≡ true
    pub sets : exact ≡ true
    pub number : right ≡ true
    pub same-n : run.n ≡ n

  -- where none of the checks refuses, the run is well-formed and of n variables, the index is exact and the number right
  pub kept : outcome (kept_checks n run exact right) ≡ Ok tt → Kept
  kept e =
      let e₁ = checks-taken (not (well_formed run)) refusal.State _ e in
      let e₂ = checks-taken (not exact) refusal.State _ e₁ in
      let e₃ = checks-taken (not right) refusal.State _ e₂ in
      record {
        formed = not-false _ (check_passed (not (well_formed run)) refusal.State _ e);
        sets = not-false _ (check_passed (not exact) refusal.State _ e₁);
        number = not-false _ (check_passed (not right) refusal.State _ e₂);
        same-n = eqb-true run.n n (not-false _ (check_passed (not (eqb run.n n)) OtherVariables _ e₃));
      }

-- as code has them: the index beside the rows' own sets, the number beside that of their tally
module _ (n : ℕ) (words : List ℕ) (m : ℕ) (sets : List ℕ) (x : Indexed n words m sets) (index : List ℕ) (run : Run) (number : ℕ)
    (low_t : run.t < 2 ^ 32) (low-f : run.f < 2 ^ 32) (tally : Tally) (t : tally ≡ surveyed words sets m run.t run.f)
    (o : Outcome) (q : o ≡ outcome (kept_checks n run (same index sets) (eqb number tally.number))) where
  abbrev rows : List Row
  rows = rows_from words 0 m

  tally_exact : tally ≡ tally_of rows run.t run.f
  tally_exact = t ∙ survey_exact n words m sets x run.t run.f low_t low-f

  pub judged : o ≡ outcome (indexed_checks n rows index run number)
  judged =
      q ∙ ap₂ (λ (b : Bool) (k : ℕ). outcome (kept_checks n run b (eqb number k))) (ap (λ (l : List ℕ). same index l) x.indexed)
      (ap (λ (y : Tally). y.number) tally_exact ∙ tally_number n x.most run.t run.f rows x.low)

  module _ (taken : o ≡ Ok tt) where
    passed : Kept n run (same index sets) (eqb number tally.number)
    passed = kept n run (same index sets) (eqb number tally.number) (sym q ∙ taken)

    -- what the step asks, of the index that was judged equal
    pub step_ready : Indexed run.n words m index × Exact rows (record { run = run; tally = tally })
    step_ready = (
      subst (Indexed run.n words m) (sym (same_true index sets passed.sets)) (of_run n words m sets x run passed.same-n),
      record { formed = passed.formed; exact = tally_exact },
    )

    pub stepped : (next : TalliedRun) → next ≡ tallied_of run.n rows (step run.n rows (state_of run))
        → ◌≡◌ {A = SteppedIndexed} (record { outcome = o; run = next.run; number = next.tally.number }) (stepped_over n rows index run number)
    stepped next h =
        over-taken n rows index run number o judged taken x.most x.low next
        (h ∙ ap (λ (k : ℕ). tallied_of k rows (step k rows (state_of run))) passed.same-n)
