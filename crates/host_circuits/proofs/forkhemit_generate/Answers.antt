-- `forkhemit_generate` meets its contract: words and count are those of the numbers as bytes, and the count is written where the generator gives one.
use mathlib.Core.Path.{sym, ap, ◌∙◌}
use Rattle.std.specs.Prelude.{ℕ, Result}
use Rattle.refusals.specs.declared.Refusal.{Refusal}
use Rattle.generator.specs.Generation.{generated_code, generated_numbers}
use Rattle.lent.specs.Lent.{numbers_or}
use Rattle.host_circuits.proofs.forkhemit_generate.Goals as goal

pub returns-in-Ok : goal.returns-in-Ok
returns-in-Ok c =
    let e = c.generate.ensures in
    let value = rw c.dimensions-d.ensures at e.value in
    let is = sym c.in-Ok.is ∙ value in record {
      value = ap generated_code is;
      gates_after = rw c.dimensions-d.ensures at e.words_after;
      count_after = ap (λ (x : Result ℕ Refusal). numbers_or (generated_numbers x) c.args.count.now) is;
      carried = rw (c.dimensions-d.ensures, value) at e.carried;
    }

pub returns-in-Err : goal.returns-in-Err
returns-in-Err c =
    let e = c.generate.ensures in
    let value = rw c.dimensions-d.ensures at e.value in
    let is = sym c.in-Err.is ∙ value in record {
      value = c.from.ensures ∙ ap generated_code is;
      gates_after = rw c.dimensions-d.ensures at e.words_after;
      count_after = ap (λ (x : Result ℕ Refusal). numbers_or (generated_numbers x) c.args.count.now) is;
      carried = rw (c.dimensions-d.ensures, value) at e.carried;
    }
