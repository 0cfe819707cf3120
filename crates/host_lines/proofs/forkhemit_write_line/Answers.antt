-- `forkhemit_write_line` meets its contract: the line is that of the numbers as bytes, and its length is written where the writer gives one.
use mathlib.Core.Path.{◌≡◌, sym, ap, ◌∙◌}
use Prim.Native.Nat.{ℕ}
use Rattle.std.specs.Prelude.{Option, Result}
use Rattle.refusals.specs.declared.Refusal.{Refusal}
use Rattle.bristol.specs.Writing.{written_line, filled_line, line_code, line_numbers}
use Rattle.codes.specs.Codes.{host_dimensions}
use Rattle.lent.specs.Lent.{numbers_or}
use Rattle.host_lines.proofs.forkhemit_write_line.Goals as goal
use Rattle.host_lines.proofs.forkhemit_write_line.Goals.{After-write_line}

-- what is asked of the writer, the numbers as bytes
gave : (c : After-write_line) → let a = c.args in let d = host_dimensions a.n a.left_rows a.right_rows a.public_rows in
    (c.write_line.result ≡ written_line d a.gates.now a.line a.bytes.now) × (c.write_line.new.bytes ≡ filled_line d a.gates.now a.line a.bytes.now)
gave c = let e = rw c.dimensions-d.ensures at c.write_line.ensures in (e.value, e.bytes_after)

pub returns-in-Ok-Some : goal.returns-in-Ok-Some
returns-in-Ok-Some c =
    let told = gave (goal.at.returns-in-Ok-Some c).After-write_line in
    let is = sym (rw c.in-Ok-Some.field-0-is at c.in-Ok-Some.is) ∙ told.0 in record {
      value = ap line_code is;
      bytes_after = told.1;
      length_after = ap (λ (x : Result (Option ℕ) Refusal). numbers_or (line_numbers x) c.args.length.now) is;
    }

pub returns-in-Ok-None : goal.returns-in-Ok-None
returns-in-Ok-None c =
    let told = gave (goal.at.returns-in-Ok-None c).After-write_line in
    let is = sym (rw c.in-Ok-None.field-0-is at c.in-Ok-None.is) ∙ told.0 in record {
      value = ap line_code is;
      bytes_after = told.1;
      length_after = ap (λ (x : Result (Option ℕ) Refusal). numbers_or (line_numbers x) c.args.length.now) is;
    }

pub returns-in-Err : goal.returns-in-Err
returns-in-Err c =
    let told = gave (goal.at.returns-in-Err c).After-write_line in
    let is = sym c.in-Err.is ∙ told.0 in record {
      value = c.from.ensures ∙ ap line_code is;
      bytes_after = told.1;
      length_after = ap (λ (x : Result (Option ℕ) Refusal). numbers_or (line_numbers x) c.args.length.now) is;
    }
