-- `byte_at` meets its contract, part by part of a line.
use mathlib.Core.Path.{sym, ap, ◌∙◌}
use Prim.Native.Nat.{ℕ}
use native.Mathlib.Omega.{arith}
use lib.ListN.{get_or}
use Rattle.page.specs.Page.{pilot_line}
use Rattle.page.proofs.Lines.{mark_byte, line-number, line_even, line-odd, line-space, line_end}
use Rattle.page.proofs.Shapes.{small_product}
use Rattle.page.proofs.byte_at.Goals as goal

pub returns-then-column-lt3 : goal.returns-then-column-lt3
returns-then-column-lt3 c = c.number_at.ensures ∙ sym (line-number c.args.watches c.args.model c.args.pilot c.requires.0 c.requires.1 c.args.column
    c.if-column-lt3.true)

pub returns-then-column-eq79 : goal.returns-then-column-eq79
returns-then-column-eq79 c = sym (ap (λ (x : ℕ). get_or (pilot_line c.args.watches c.args.model c.args.pilot) x 0) c.if-column-eq79.true
    ∙ line_end c.args.watches c.args.model c.args.pilot c.requires.0 c.requires.1)

pub returns-then-watches-place : goal.returns-then-watches-place
returns-then-watches-place c = sym (line-space c.args.watches c.args.model c.args.pilot c.requires.0 c.requires.1 c.args.column (omega arith) (omega arith))

pub returns-then-place-eq0 : goal.returns-then-place-eq0
returns-then-place-eq0 c = sym (line_even c.args.watches c.args.model c.args.pilot c.requires.0 c.requires.1 c.args.column (omega arith) (omega arith)
    c.if-place-eq0.true)

pub overflow_mul-pilot : goal.overflow_mul-pilot
overflow_mul-pilot c = let p = small_product c.args.pilot c.args.watches (omega arith) c.requires.0 in
    omega arith

pub overflow_add-pilot-2 : goal.overflow_add-pilot-2
overflow_add-pilot-2 c = let p = small_product c.args.pilot c.args.watches (omega arith) c.requires.0 in
    omega arith

pub overflow_cast-pilot : goal.overflow_cast-pilot
overflow_cast-pilot c = let p = small_product c.args.pilot c.args.watches (omega arith) c.requires.0 in
    omega arith

pub returns-then-bit : goal.returns-then-bit
returns-then-bit c =
    sym (line-odd c.args.watches c.args.model c.args.pilot c.requires.0 c.requires.1 c.args.column (omega arith) (omega arith)
    c.if-place-eq0.false
    ∙ ap mark_byte (sym c.bit.ensures ∙ c.if-bit.true))

pub returns : goal.returns
returns c =
    sym (line-odd c.args.watches c.args.model c.args.pilot c.requires.0 c.requires.1 c.args.column (omega arith) (omega arith)
    c.if-place-eq0.false
    ∙ ap mark_byte (sym c.bit.ensures ∙ c.if-bit.false))
