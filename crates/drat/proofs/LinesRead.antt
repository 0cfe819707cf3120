-- What a line makes of a text under way, for each way that code takes.
use Rattle.refusals.specs.Numbers.{Outcome}
use Rattle.std.specs.Prelude.{Some, None, Err}
use mathlib.Core.Path.{◌≡◌, refl, sym, ap, ap₂, ◌∙◌}
use mathlib.Core.Bool.{Bool, true, ◌||◌, cond, or-true}
use mathlib.Core.List.{List, ◌∷◌}
use Prim.Native.Nat.{ℕ, suc, ◌+◌, ◌≤◌, ◌<◌}
use native.Mathlib.Omega.{arith}
use lib.Dec.{ltb}
use lib.ListN.{length}
use borrow.Author.Tests.{lt-ltb}
use Rattle.refusals.specs.declared.Refusal.TheVariants.{ProofText}
use Rattle.words.specs.declared.Row.{Row}
use Rattle.drat.specs.declared.rup.Progress.{Progress}
use Rattle.drat.specs.Proofs.{added, deleted, additions}
use Rattle.drat.specs.Progress.{outcome_with, Takes}
use Rattle.drat_line.specs.declared.Said.{Said}
use Rattle.drat_line.specs.declared.Said.TheVariants.{Nothing, Added, Deleted, Malformed}
use Rattle.drat.specs.declared.Checker.{Checker}
use Rattle.drat.specs.Text.{line_before}
use Rattle.drat.specs.Checking.{ending, Reads, Room}

pub reads_nothing : (checker : Checker) (w : List ℕ) → Reads Nothing checker w checker w
reads_nothing checker w rest = refl

-- a checker that was told of a malformed line
abbrev failed : Checker → Checker
failed checker = record { progress = checker.progress; additions = checker.additions; malformed = true }

pub reads_malformed : (checker : Checker) (w : List ℕ) → Reads Malformed checker w (failed checker) w
reads_malformed checker w None = refl
reads_malformed checker w (Some ls) = refl

module _ (checker : Checker) (w : List ℕ) (c : Row) where
  -- one addition too many
  pub reads_over : 256 ≤ checker.additions → Reads (Added c) checker w (failed checker) w
  unfolding additions
  reads_over h None = refl
  reads_over h (Some ls) = sym (ap (λ (b : Bool). cond b (Err ProofText) (outcome_with checker.progress w (added c ∷ ls))) over)
    where
      over : checker.malformed || ltb 256 (checker.additions + additions (added c ∷ ls)) ≡ true
      over = rw (lt-ltb 256 (checker.additions + suc (additions ls)) (omega arith)) (or-true checker.malformed)

  pub reads-added : (p : Progress) (y : List ℕ) → Takes (added c) checker.progress w p y
      → Reads (Added c) checker w (record { progress = p; additions = checker.additions + 1; malformed = checker.malformed }) y
  unfolding additions
  reads-added p y h None = refl
  reads-added p y h (Some ls) =
      ap₂ (λ (k : ℕ) (r : Outcome). cond (checker.malformed || ltb 256 k) (Err ProofText) r) same (h ls)
    where
      same : checker.additions + 1 + additions ls ≡ checker.additions + additions (added c ∷ ls)
      same = omega arith

  pub reads_deleted : (p : Progress) (y : List ℕ) → Takes (deleted c) checker.progress w p y
      → Reads (Deleted c) checker w (record { progress = p; additions = checker.additions; malformed = checker.malformed }) y
  unfolding additions
  reads_deleted p y h None = refl
  reads_deleted p y h (Some ls) =
      ap₂ (λ (k : ℕ) (r : Outcome). cond (checker.malformed || ltb 256 k) (Err ProofText) r) same (h ls)
    where
      same : checker.additions + additions ls ≡ checker.additions + additions (deleted c ∷ ls)
      same = refl

-- ---- room

module _ (checker : Checker) (w : List ℕ) (r : Room checker w) where
  pub room_malformed : Room (failed checker) w
  room_malformed = record { few = r.few; rows = r.rows; space = r.space }

  pub room-added : (p : Progress) (y : List ℕ) → checker.additions < 256 → p.count ≤ checker.progress.count + 1 → length y ≡ length w
      → Room (record { progress = p; additions = checker.additions + 1; malformed = checker.malformed }) y
  room-added p y h few same = record { few = omega arith; rows = omega (arith, r.rows); space = omega (arith, r.space) }

  pub room_deleted : (p : Progress) (y : List ℕ) → p.count ≤ checker.progress.count → length y ≡ length w
      → Room (record { progress = p; additions = checker.additions; malformed = checker.malformed }) y
  room_deleted p y few same = record { few = r.few; rows = omega (arith, r.rows); space = omega (arith, r.space) }

-- ---- the line that was read

pub reads_as : (s t : Said) (checker : Checker) (w : List ℕ) (checker' : Checker) (y : List ℕ) → s ≡ t → Reads t checker w checker' y
    → Reads s checker w checker' y
reads_as s t checker w checker' y e h rest = h rest ∙ ap (λ (x : Said). ending checker w (line_before x rest)) (sym e)
