-- A step with its tally: the run is that of the state's step, and the tally exactly its T's and F's.
use mathlib.Core.Path.{◌≡◌, refl, sym, ap, ap₂, ◌∙◌}
use mathlib.Core.List.{List}
use Prim.Native.Nat.{ℕ}
use lib.ListN.{length}
use Rattle.words.specs.declared.Row.{Row}
use Rattle.tables.specs.Rows.{rows_from}
use Rattle.scan.specs.declared.Rule.{Rule}
use Rattle.scan.specs.Rules.{rule}
use Rattle.state.specs.declared.Run.{Run}
use Rattle.state.specs.declared.Standing.TheVariants.{Open, Satisfied, Refuted}
use Rattle.state.specs.State.{State, state_of, run_of}
use Rattle.state.proofs.WellFormedLaws.{Formed, formed_e}
use Rattle.state.proofs.HeldRun.{formed_run_e}
use Rattle.rules.specs.Followed.{followed}
use Rattle.solver.specs.Step.{follow, step}
use Rattle.solver.proofs.HeldRules.{held as kept}
use Rattle.solver.proofs.HeldStep.{fits, open_step, satisfied_stays, refuted_stays}
use Rattle.tally.specs.declared.Tally.{Tally}
use Rattle.tally.specs.Tallies.{tally_of}
use Rattle.tally.specs.Ruling.{rule_by, tally_by}
use Rattle.indexed.specs.declared.tallied.TalliedRun.{TalliedRun}
use Rattle.indexed.specs.Tallied.{Indexed, Exact, tallied_of}
use Rattle.indexed.proofs.TallyAfter.{rule-read, tally_is}

-- the run of a state, with exactly the tally of its T and F
pub held-is : (n : ℕ) (rows : List Row) (s : State) (run : Run) → run ≡ run_of n s → (tally : Tally) → tally ≡ tally_of rows run.t run.f
    → ◌≡◌ {A = TalliedRun} (record { run = run; tally = tally }) (tallied_of n rows s)
unfolding run_of
held-is n rows s run e tally q =
    ap₂ (λ (r : Run) (x : Tally). record { run = r; tally = x }) e (q ∙ ap (λ (r : Run). tally_of rows r.t r.f) e)

module _ (words : List ℕ) (m : ℕ) (index : List ℕ) (held : TalliedRun) (x : Indexed held.run.n words m index) (o : Exact (rows_from words 0 m) held)
    (room : length held.run.levels ≡ 32) where
  abbrev rows : List Row
  rows = rows_from words 0 m

  abbrev run : Run
  run = held.run

  formed : Formed run.n (state_of run)
  formed = formed_e run.n (state_of run) (formed_run_e run o.formed).state

  found_is : rule_by index run.t run.f held.tally ≡ rule run.n rows run.t run.f
  found_is = rule-read run.n words m index x (state_of run) formed held.tally o.exact

  -- rule, run and tally as code has them
  pub open_advance : run.standing ≡ Open → (found : Rule) → found ≡ rule_by index run.t run.f held.tally
      → (next : Run) → next ≡ followed run found
      → (tally : Tally) → tally ≡ tally_by words m index run.t run.f next.t next.f found held.tally
      → ◌≡◌ {A = TalliedRun} (record { run = next; tally = tally }) (tallied_of run.n rows (step run.n rows (state_of run)))
  unfolding run_of
  open_advance st found e next q tally k =
      let f : found ≡ rule run.n rows run.t run.f = e ∙ found_is in
      let g : next ≡ run_of run.n (follow (state_of run) found) = q ∙ kept run room o.formed found (fits run.n rows run refl o.formed found f) in
      held-is run.n rows (step run.n rows (state_of run)) next (q ∙ open_step run.n rows run refl o.formed found f room st) tally
      (k ∙ ap (λ (r : Run). tally_by words m index run.t run.f r.t r.f found held.tally) g
      ∙ tally_is run.n words m index x (state_of run) formed held.tally o.exact found (sym f)
      ∙ sym (ap (λ (r : Run). tally_of rows r.t r.f) g))

  pub satisfied_advance : run.standing ≡ Satisfied → held ≡ tallied_of run.n rows (step run.n rows (state_of run))
  satisfied_advance st = held-is run.n rows _ run (satisfied_stays run.n rows run refl o.formed room st) held.tally o.exact

  pub refuted_advance : run.standing ≡ Refuted → held ≡ tallied_of run.n rows (step run.n rows (state_of run))
  refuted_advance st = held-is run.n rows _ run (refuted_stays run.n rows run refl o.formed room st) held.tally o.exact
