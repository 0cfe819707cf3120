-- What a line makes of a proof under way, for each way that code takes.
use mathlib.Core.Path.{◌≡◌, refl, sym, ap, ◌∙◌}
use mathlib.Core.Bool.{Bool, true, false}
use mathlib.Core.List.{List, [], ◌∷◌, ◌++◌}
use Prim.Native.Nat.{ℕ, ◌+◌, ◌*◌, ◌≤◌}
use lib.Bits.{bit_or}
use lib.ListN.{length, take}
use borrow.Author.Tests.{eq-eqb, ne_eqb}
use Rattle.std.specs.Prelude.{Ok, Err}
use Rattle.refusals.specs.Checks.{outcome}
use Rattle.refusals.specs.declared.Refusal.TheVariants.{NotFollowing}
use Rattle.words.specs.declared.Row.{Row}
use Rattle.words.proofs.Operations.{or-zero}
use Rattle.tables.specs.Rows.{rows_from}
use Rattle.scan.specs.Rules.{rows_of_words}
use Rattle.scan.proofs.Fronts.{rows_in_front}
use Rattle.propagation.specs.Propagation.{follows}
use Rattle.drat.specs.declared.rup.Stage.{Stage}
use Rattle.drat.specs.declared.rup.Stage.TheVariants.{Checking, Accepted, Failed}
use Rattle.drat.specs.declared.rup.Progress.{Progress}
use Rattle.drat.specs.Proofs.{ProofLine, added, deleted, is_empty, without, all_follow, adds_empty, addition_checks}
use Rattle.drat.specs.Progress.{outcome_at, Takes}

-- a proof that is being checked, over so many rows
abbrev pub checking : ℕ → Progress
checking k = record { count = k; stage = Checking }

-- ---- a clause added

module _ (rows : List Row) (c : Row) (ls : List ProofLine) where
  outcome-failed : follows rows c ≡ false → outcome (addition_checks rows (added c ∷ ls)) ≡ Err NotFollowing
  unfolding all_follow
  outcome-failed e = rw e

  outcome-empty : follows rows c ≡ true → is_empty c ≡ true → outcome (addition_checks rows (added c ∷ ls)) ≡ Ok tt
  unfolding all_follow adds_empty
  outcome-empty e z = rw (e, z)

  outcome-added : follows rows c ≡ true → is_empty c ≡ false → outcome (addition_checks rows (added c ∷ ls)) ≡ outcome (addition_checks (rows ++ (c ∷ [])) ls)
  unfolding all_follow adds_empty
  outcome-added e z = rw (e, z)

module _ (w : List ℕ) (k : ℕ) (c : Row) (h : 2 * k ≤ length w) (x : Bool) (told : x ≡ follows (rows_of_words (take (2 * k) w)) c) where
  e : x ≡ follows (rows_from w 0 k) c
  e = told ∙ ap (λ (rows : List Row). follows rows c) (rows_in_front w k h)

  -- the clause does not follow
  pub takes_failed : x ≡ false → Takes (added c) (checking k) w (record { count = k; stage = Failed }) w
  takes_failed q ls = sym (outcome-failed (rows_from w 0 k) c ls (sym e ∙ q))

  -- the empty clause follows
  pub takes_empty : x ≡ true → bit_or c.positive c.negative ≡ 0 → Takes (added c) (checking k) w (record { count = k; stage = Accepted }) w
  takes_empty q z ls = sym (outcome-empty (rows_from w 0 k) c ls (sym e ∙ q) (sym (or-zero c.positive c.negative) ∙ eq-eqb _ 0 z))

  -- another clause follows
  pub takes_added : x ≡ true → (bit_or c.positive c.negative ≡ 0 → ⊥)
      → (y : List ℕ) → rows_from y 0 (k + 1) ≡ rows_from w 0 k ++ (c ∷ []) → Takes (added c) (checking k) w (checking (k + 1)) y
  takes_added q z y r ls =
      ap (λ (rows : List Row). outcome (addition_checks rows ls)) r
      ∙ sym (outcome-added (rows_from w 0 k) c ls (sym e ∙ q) (sym (or-zero c.positive c.negative) ∙ ne_eqb _ 0 z))

-- ---- a clause deleted

-- however far the proof has come
pub takes_deleted : (p : Progress) (w y : List ℕ) (left : ℕ) (c : Row) → rows_from y 0 left ≡ without c (rows_from w 0 p.count)
    → Takes (deleted c) p w (record { count = left; stage = p.stage }) y
unfolding all_follow adds_empty
takes_deleted p w y left c e ls = go p.stage (rows_from w 0 p.count) (rows_from y 0 left) e
  where
    go : (s : Stage) (rows rows' : List Row) → rows' ≡ without c rows → outcome_at s rows' ls ≡ outcome_at s rows (deleted c ∷ ls)
    go Checking rows rows' q = ap (λ (rs : List Row). outcome (addition_checks rs ls)) q
    go Accepted rows rows' q = refl
    go Failed rows rows' q = refl

-- ---- how far the proof has come

module _ (l : ProofLine) (p : Progress) (w : List ℕ) where
  pub takes_checking : (q : Progress) (y : List ℕ) → p.stage ≡ Checking → Takes l (checking p.count) w q y → Takes l p w q y
  takes_checking q y e h ls = h ls ∙ ap (λ (s : Stage). outcome_at s (rows_from w 0 p.count) (l ∷ ls)) (sym e)

  kept : (s : Stage) → p.stage ≡ s → ((rows : List Row) (ls : List ProofLine) → outcome_at s rows ls ≡ outcome_at s rows (l ∷ ls)) → Takes l p w p w
  kept s e h ls =
      ap (λ (s : Stage). outcome_at s (rows_from w 0 p.count) ls) e
      ∙ h (rows_from w 0 p.count) ls
      ∙ ap (λ (s : Stage). outcome_at s (rows_from w 0 p.count) (l ∷ ls)) (sym e)

  pub takes_accepted : p.stage ≡ Accepted → Takes l p w p w
  takes_accepted e = kept Accepted e (λ rows ls. refl)

  pub takes_failed-before : p.stage ≡ Failed → Takes l p w p w
  takes_failed-before e = kept Failed e (λ rows ls. refl)
