-- A refuted run leaves no assignment that makes every row true: such an assignment always agrees with T and F or with a level whose variable is still to go to
-- F, and a refuted run has neither.
use mathlib.Core.Path.{◌≡◌, refl}
use mathlib.Core.Logic.{◌⊎◌, inl, inr}
use mathlib.Core.Bool.{Bool, true, false}
use mathlib.Core.List.{List, [], ◌∷◌}
use Prim.Native.Nat.{ℕ, ◌≤◌, ◌<◌}
use Rattle.words.specs.declared.Row.{Row}
use Rattle.words.specs.Sets.{put, any}
use Rattle.words.proofs.Truth.{on}
use Rattle.words.proofs.Bits.{bit-zero}
use Rattle.state.specs.declared.Level.{Level}
use Rattle.scan.specs.declared.Rule.{Rule}
use Rattle.scan.specs.declared.Rule.TheVariants.{AllSatisfied, Conflict, Unit, Choice}
use Rattle.state.specs.declared.Standing.{Standing}
use Rattle.state.specs.declared.Standing.TheVariants.{Open, Satisfied, Refuted}
use Rattle.scan.specs.Rules.{all_rows}
use Rattle.state.specs.State.{State, fresh, if_open}
use Rattle.solver.specs.Step.{back, assign, follow, Ruling, step_with, after_with}
use Rattle.truth.specs.Truth.{all_true}
use Rattle.scan.proofs.RowLaws.{In}
use Rattle.truth.proofs.RuleLaws.{Ruled, Applies}
use Rattle.solver.proofs.StepLaws.{after_keeps}
use Rattle.tables.specs.Acceptance.{low_row}
use Rattle.truth.proofs.TruthLaws.{literal, all-true_e}
use Rattle.truth.proofs.Agreement.{Agrees, conflict_false, forced, agrees_t, agrees_f}

-- ---- what the search has left

-- the assignment agrees with a level whose variable is false
abbrev Pending : ℕ → (ℕ → Bool) → List Level → Type 0
Pending n a [] = ⊥
Pending n a (l ∷ ls) = Agrees n a l.t (put l.f l.chosen) ⊎ Pending n a ls

-- or with T and F themselves
abbrev Left : ℕ → (ℕ → Bool) → State → Type 0
Left n a s = Agrees n a s.t s.f ⊎ Pending n a s.levels

-- a refuted run has none left
abbrev left_at : ℕ → (ℕ → Bool) → State → Standing → Type 0
left_at n a s Open = Left n a s
left_at n a s Satisfied = Left n a s
left_at n a s Refuted = ⊥

-- an assignment that makes every row true
abbrev Covered : ℕ → (ℕ → Bool) → State → Type 0
Covered n a s = left_at n a s s.standing

module _ (n : ℕ) (rows : List Row) (a : ℕ → Bool) (true-in : (r : Row) → In r rows → any (λ i. literal a r i) n ≡ true) where
  back_covers : (s : State) (ls : List Level) → Pending n a ls → Covered n a (back s ls)
  back_covers s [] p = p
  back_covers s (l ∷ ls) p = p

  assign_covers : (s : State) (v : ℕ) (positive : Bool) → (Agrees n a s.t s.f → a v ≡ positive) → Left n a s → Covered n a (assign s v positive)
  assign_covers s v true h (inl g) = inl (agrees_t n a s.t s.f g v (h g))
  assign_covers s v false h (inl g) = inl (agrees_f n a s.t s.f g v (h g))
  assign_covers s v true h (inr p) = inr p
  assign_covers s v false h (inr p) = inr p

  follow_covers : (s : State) (k : Rule) → Ruled n rows s.t s.f k → Left n a s → Covered n a (follow s k)
  follow_covers s AllSatisfied w c = c
  follow_covers s Conflict w (inl g) = absurd (conflict_false n a s.t s.f g w.row w.no_literal (true-in w.row w.of_rows))
  follow_covers s Conflict w (inr p) = back_covers s s.levels p
  follow_covers s (Unit v positive) w c =
      assign_covers s v positive (λ g. forced n a s.t s.f g rows v positive w (true-in w.row w.of_rows)) c
  follow_covers s (Choice v) w (inl g) =
      on (a v) (λ e. inl (agrees_t n a s.t s.f g v e)) (λ e. inr (inl (agrees_f n a s.t s.f g v e)))
  follow_covers s (Choice v) w (inr p) = inr (inr p)

  step_covers : (ruling : Ruling) → Applies ruling → (s : State) → Covered n a s → Covered n a (step_with ruling n rows s)
  unfolding step_with
  step_covers ruling applies s c = go s.standing refl
    where
      go : (st : Standing) → s.standing ≡ st → Covered n a (if_open st (follow s (ruling n rows s.t s.f)) s)
      go Open e = follow_covers s (ruling n rows s.t s.f) (applies n rows s.t s.f) (rw e at c)
      go Satisfied e = c
      go Refuted e = c

-- no assignment makes the rows of every step true
pub refuted-none : (ruling : Ruling) → Applies ruling → (n : ℕ) (rows : ℕ → List Row) → n ≤ 32 → ((i : ℕ) → all_rows (low_row n) (rows i) ≡ true) → (k : ℕ)
    → (after_with ruling n rows k fresh).standing ≡ Refuted → (a : ℕ → Bool) → ((i : ℕ) → i < k → all_true a (rows i) ≡ true) → ⊥
refuted-none ruling applies n rows few low k e a h =
    rw e at (after_keeps ruling n rows (Covered n a) k
    (λ i b. step_covers n (rows i) a (all-true_e n few a (rows i) (low i) (h i b)) ruling applies)
    fresh (inl (λ i b. rw bit-zero refl)))
