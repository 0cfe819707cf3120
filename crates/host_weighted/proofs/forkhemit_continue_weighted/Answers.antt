-- `forkhemit_continue_weighted` meets its contract: the run continued is that of the numbers as bytes and of the run in the words, and what
-- it gives is given on.
use mathlib.Core.Path.{ap, ap₂, ◌∙◌}
use mathlib.Core.List.{List}
use Prim.Native.Nat.{ℕ}
use Rattle.refusals.specs.Numbers.{Outcome, code_of}
use Rattle.state.specs.declared.Run.{Run}
use Rattle.indexed.proofs.Continuing.{told}
use Rattle.lent.specs.Lent.{numbers_or, stored_if}
use Rattle.host_weighted.proofs.forkhemit_continue_weighted.Goals as goal

pub returns : goal.returns
returns c =
    let gave = rw (c.load-held.ensures, c.dimensions-d.ensures) at c.continue_weighted-done.ensures in
    let e = c.give_continued.ensures in
    let t = told _ _ gave.value _ gave.run_after in record {
      value = e.value ∙ ap code_of t.0;
      run_after = e.run_after ∙ ap₂ (λ (o : Outcome) (r : Run). stored_if o r c.args.run.now) t.0 t.1;
      continued_after = e.continued_after ∙ ap (λ (l : List ℕ). numbers_or l c.args.continued.now) t.2;
    }
