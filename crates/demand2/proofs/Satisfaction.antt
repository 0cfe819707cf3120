-- A satisfied run's model makes every row true: the standing becomes satisfied by rule 1 alone, and a variable that satisfies a row makes it true under T.
use mathlib.Core.Path.{◌≡◌, refl, subst⁻¹}
use mathlib.Core.Bool.{true, false, not, ◌&&◌, ◌||◌}
use mathlib.Core.List.{List, [], ◌∷◌}
use Prim.Native.Nat.{ℕ, ◌≤◌}
use native.Mathlib.Omega.{arith}
use Rattle.words.specs.declared.Row.{Row}
use Rattle.words.specs.Booleans.{imp}
use Rattle.words.specs.Sets.{bit, any}
use Rattle.words.proofs.Truth.{mp, and_i, taut4}
use Rattle.words.proofs.Upto.{any_mono}
use Rattle.tables.specs.Rows.{satisfied, satisfies}
use Rattle.tables.proofs.Rows.{satisfied-any}
use Rattle.state.specs.declared.Level.{Level}
use Rattle.scan.specs.declared.Rule.{Rule}
use Rattle.scan.specs.declared.Rule.TheVariants.{AllSatisfied, Conflict, Unit, Choice}
use Rattle.state.specs.declared.Standing.{Standing}
use Rattle.state.specs.declared.Standing.TheVariants.{Open, Satisfied, Refuted}
use Rattle.scan.specs.Rules.{all_rows}
use Rattle.state.specs.State.{State, if_open}
use Rattle.solver.specs.Step.{back, follow, Ruling, step_with}
use Rattle.truth.specs.Truth.{row_true, all_true}
use Rattle.scan.proofs.RowLaws.{all-rows_mono}
use Rattle.truth.proofs.RuleLaws.{Ruled, Applies}
use Rattle.state.proofs.WellFormedLaws.{Sets, Formed}
use Rattle.solver.proofs.StepLaws.{step_formed_with}
use Rattle.tables.specs.Acceptance.{low_row}
use Rattle.truth.proofs.TruthLaws.{literal, row-true}

module _ (n : ℕ) (rows : List Row) where
  -- if the standing is satisfied, all rows are
  abbrev Met : State → Type 0
  Met s = s.standing ≡ Satisfied → all_rows (λ r. satisfied n r s.t s.f) rows ≡ true

  abbrev Unmet : Standing → Type 0
  Unmet st = st ≡ Satisfied → ⊥

  unmet_open : Unmet Open
  unmet_open e = let z : ◌≡◌ {A = ℕ} 0 1 = cc in omega arith

  unmet-refuted : Unmet Refuted
  unmet-refuted e = let z : ◌≡◌ {A = ℕ} 0 1 = cc in omega arith

  back-unmet : (s : State) (ls : List Level) → Unmet (back s ls).standing
  back-unmet s [] = unmet-refuted
  back-unmet s (l ∷ ls) = unmet_open

  follow-met : (s : State) (k : Rule) → Ruled n rows s.t s.f k → Met (follow s k)
  follow-met s AllSatisfied w e = w
  follow-met s Conflict w e = absurd (back-unmet s s.levels e)
  follow-met s (Unit v true) w e = absurd (unmet_open e)
  follow-met s (Unit v false) w e = absurd (unmet_open e)
  follow-met s (Choice v) w e = absurd (unmet_open e)

  -- a step that closes an open run as satisfied has satisfied every row that it read
  pub step-met : (ruling : Ruling) → Applies ruling → (s : State) → s.standing ≡ Open → Met (step_with ruling n rows s)
  unfolding step_with
  step-met ruling applies s o =
      subst⁻¹ (λ (st : Standing). Met (if_open st (follow s (ruling n rows s.t s.f)) s)) o
      (follow-met s (ruling n rows s.t s.f) (applies n rows s.t s.f))

-- a satisfied row is true where T is true and the rest false
satisfied-true : (n t f : ℕ) → Sets n t f → (r : Row) → satisfied n r t f ≡ true → any (λ i. literal (bit t) r i) n ≡ true
satisfied-true n t f d r e =
    any_mono (λ i. satisfies r t f i) (λ i. literal (bit t) r i) n
    (λ i b h. mp _ _
    (taut4 (λ p q t f. imp ((p && q || p && t || q && f) && not (t && f)) ((p && t) || (q && not t))) refl (bit r.positive i)
    (bit r.negative i) (bit t i) (bit f i))
    (and_i h (d.apart i b)))
    (rw (satisfied-any n r t f) at e)

-- from an open state of disjoint sets
pub satisfied-model : (ruling : Ruling) → Applies ruling → (n : ℕ) (rows : List Row) → n ≤ 32 → all_rows (low_row n) rows ≡ true → (s : State) → Formed n s
    → s.standing ≡ Open → (step_with ruling n rows s).standing ≡ Satisfied → all_true (bit (step_with ruling n rows s).t) rows ≡ true
unfolding all_true
satisfied-model ruling applies n rows few low s o p e =
    let x : State = step_with ruling n rows s in
    all-rows_mono (λ r. satisfied n r x.t x.f) (λ r. row_true (bit x.t) r) rows
    (λ r m h. rw (row-true n few (bit x.t) r (m (low_row n) low)) (satisfied-true n x.t x.f (step_formed_with ruling applies n rows s o).own r h))
    (step-met n rows ruling applies s p e)
