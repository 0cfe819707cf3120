-- `forkhemit_unsatisfied` meets its contract: the number is that of the numbers as bytes and of the run in the words, and written where there is one.
use mathlib.Core.Path.{sym, ap, ◌∙◌}
use mathlib.Core.List.{List}
use Prim.Native.Nat.{ℕ}
use Rattle.std.specs.Prelude.{Result}
use Rattle.refusals.specs.declared.Refusal.{Refusal}
use Rattle.indexed.specs.Entries.{counted_code, counted_numbers}
use Rattle.lent.specs.Lent.{numbers_or}
use Rattle.host_indexed.proofs.forkhemit_unsatisfied.Goals as goal
use Rattle.host_indexed.proofs.forkhemit_unsatisfied.Goals.{After-unsatisfied}

-- the lent number
abbrev lent : After-unsatisfied → List ℕ
lent c = c.args.number.now

pub returns-in-Ok : goal.returns-in-Ok
returns-in-Ok c =
    let gave = rw (c.load.ensures, c.dimensions-d.ensures) at c.unsatisfied.ensures.value in
    let is = sym c.in-Ok.is ∙ gave in record {
      value = ap counted_code is;
      number_after = ap (λ (k : Result ℕ Refusal). numbers_or (counted_numbers k) (lent (goal.at.returns-in-Ok c).After-unsatisfied)) is;
    }

pub returns-in-Err : goal.returns-in-Err
returns-in-Err c =
    let gave = rw (c.load.ensures, c.dimensions-d.ensures) at c.unsatisfied.ensures.value in
    let is = sym c.in-Err.is ∙ gave in record {
      value = c.from.ensures ∙ ap counted_code is;
      number_after = ap (λ (k : Result ℕ Refusal). numbers_or (counted_numbers k) (lent (goal.at.returns-in-Err c).After-unsatisfied)) is;
    }
