-- `forkhemit_step_explained` meets its contract: the step is that of the numbers as bytes and of the run in the words; where it is taken, the run is stored
-- and what it tells is written.
use mathlib.Core.Path.{◌≡◌, refl, sym, ap, ◌∙◌}
use mathlib.Core.List.{List}
use Prim.Native.Nat.{ℕ}
use Rattle.std.specs.Prelude.{Ok, Err}
use Rattle.refusals.specs.Checks.{given}
use Rattle.refusals.specs.Numbers.{Outcome, number_of, code_of}
use Rattle.refusals.specs.declared.Refusal.{Refusal}
use Rattle.state.specs.declared.Run.{Run}
use Rattle.explained.specs.declared.Told.{Told}
use Rattle.explained.specs.Explanation.{told_numbers}
use Rattle.lent.specs.Lent.{stored_if}
use Rattle.stored.specs.Words.{run_words}
use Rattle.host_explained.specs.Explanations.{numbers_if}
use Rattle.host_explained.proofs.forkhemit_step_explained.Goals as goal

module _ (run : Run) (told : Told) (words lent : List ℕ) where
  -- what is returned, and what is left in the lent buffers
  abbrev Leaves : Outcome → ℕ → List ℕ → List ℕ → Type 0
  Leaves o code run_then lent_then = (code ≡ code_of o) × (run_then ≡ stored_if o run words) × (lent_then ≡ numbers_if o told lent)

  taken : (o : Outcome) (t : Told) → Ok t ≡ given o (Ok told) Err → Leaves o 0 (run_words run) (told_numbers t)
  taken (Ok _) t q = (refl, refl, ap told_numbers (let same : ◌≡◌ {A = Told} t told = cc in same))
  taken (Err r) t q = absurd cc

  refused : (o : Outcome) (r : Refusal) → Err r ≡ given o (Ok told) Err → Leaves o (number_of r) words lent
  refused (Ok _) r q = absurd cc
  refused (Err r') r q = (ap number_of (let same : ◌≡◌ {A = Refusal} r r' = cc in same), refl, refl)

pub returns-in-Ok : goal.returns-in-Ok
returns-in-Ok c =
    let gave = rw (c.load-next.ensures, c.dimensions-d.ensures) at c.step_explained.ensures in
    let left = taken _ _ c.args.run.now c.args.explanation.now _ _ (sym c.in-Ok.is ∙ gave.value) in record {
      value = left.0;
      run_after = c.words.ensures ∙ ap run_words gave.run_after ∙ left.1;
      explanation_after = c.numbers.ensures ∙ left.2;
    }

pub returns-in-Err : goal.returns-in-Err
returns-in-Err c =
    let gave = rw (c.load-next.ensures, c.dimensions-d.ensures) at c.step_explained.ensures in
    let left = refused _ _ c.args.run.now c.args.explanation.now _ _ (sym c.in-Err.is ∙ gave.value) in record {
      value = c.from.ensures ∙ left.0;
      run_after = left.1;
      explanation_after = left.2;
    }
