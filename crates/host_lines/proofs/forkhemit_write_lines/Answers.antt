-- `forkhemit_write_lines` meets its contract: the lines are those of the numbers as bytes, and their two numbers are written where the writer gives them.
use mathlib.Core.Path.{sym, ap, ◌∙◌}
use Rattle.std.specs.Prelude.{ℕ, Result}
use Rattle.refusals.specs.declared.Refusal.{Refusal}
use Rattle.bristol.specs.Writing.{lines_code, lines_numbers}
use Rattle.lent.specs.Lent.{numbers_or}
use Rattle.host_lines.proofs.forkhemit_write_lines.Goals as goal

pub returns-in-Ok : goal.returns-in-Ok
returns-in-Ok c =
    let told = c in
    let write = told in
    let sized = write in
    let gave = rw sized.dimensions-d.ensures at write.write_lines.ensures in
    let is = sym told.in-Ok.is ∙ gave.value in record {
      value = ap lines_code is;
      bytes_after = gave.bytes_after;
      written_after = ap (λ (x : Result (ℕ × ℕ) Refusal). numbers_or (lines_numbers x) sized.args.written.now) is;
    }

pub returns-in-Err : goal.returns-in-Err
returns-in-Err c =
    let told = c in
    let write = told in
    let sized = write in
    let gave = rw sized.dimensions-d.ensures at write.write_lines.ensures in
    let is = sym told.in-Err.is ∙ gave.value in
    record {
      value = c.from.ensures ∙ ap lines_code is;
      bytes_after = gave.bytes_after;
      written_after = ap (λ (x : Result (ℕ × ℕ) Refusal). numbers_or (lines_numbers x) sized.args.written.now) is;
    }
