-- `put_rows` meets its contract. The loop's invariant: the rows below `j` are stored, and `next` is the place after them.
use mathlib.Core.Path.{◌≡◌, ap, ◌∙◌}
use native.Mathlib.Omega.{arith}
use Prim.Native.Nat.{ℕ, ◌+◌, ◌*◌}
use Rattle.words.specs.declared.Row.{Row}
use Rattle.tables.specs.Rows.{row_at}
use Rattle.wires.specs.Layout.{joined, row_bits}
use Rattle.wires.proofs.Lengths.{row-length}
use Rattle.wires.proofs.Tables.{table-joined}
use Rattle.wires.proofs.Stores.{stored, list-start, list-room, list-turn}
use borrow.Author.Rules.{rules}
use Rattle.wires.proofs.packing.put_rows.Goals as goal

pub loop-j-init : goal.loop-j-init
loop-j-init c = list-start _ _ _ _

pub put_row-next-requires : goal.put_row-next-requires
put_row-next-requires c =
    record { n_bound = search rules; n_in_bounds = list-room _ _ _ _ _ _ _ c.loop-j.invariant c.args.rows c.loop-j-test.true c.requires.rows_in_bounds }

pub loop-j-preserved : goal.loop-j-preserved
loop-j-preserved c =
    list-turn _ _ _ _ _ _ _ c.loop-j.invariant _ _ (λ j. row-length c.args.n (row_at c.args.words.now j))
    (c.put_row-next.ensures.bytes_after
    ∙ ap (λ (r : Row). stored c.loop-j.bytes c.loop-j.next (row_bits c.args.n r)) c.row_at.ensures)
    c.put_row-next.ensures.value

pub returns : goal.returns
returns c =
    let e : c.loop-j.j ≡ c.args.rows = omega arith in
    record {
      value = c.loop-j.invariant.place ∙ ap (λ (k : ℕ). c.args.at + (c.args.n + c.args.n) * k) e;
      bytes_after = c.loop-j.invariant.bytes ∙ ap (λ (k : ℕ). stored c.args.bytes.now c.args.at
          (joined (λ j. row_bits c.args.n (row_at c.args.words.now j)) k)) e
          ∙ ap (stored c.args.bytes.now c.args.at) (table-joined c.args.n c.args.words.now c.args.rows);
    }
