-- `put_line` meets its contract: what the line's text holds is copied if it fits.
use mathlib.Core.Path.{◌≡◌, refl, sym, ap, ap₂, ◌∙◌}
use mathlib.Core.List.{List, ◌++◌}
use Prim.Native.Nat.{ℕ}
use lib.ListN.{length, take, drop}
use lib.Seq.{length-take-le}
use borrow.Author.Tests.{lt-ltb, le-ltb}
use lib.Dec.{ltb}
use mathlib.Core.Bool.{true, false}
use Rattle.gates.specs.Memory.{gates_of}
use native.Mathlib.Omega.{arith}
use Rattle.bristol_line.proofs.Lengths.{Holds, holds}
use Rattle.bristol.specs.Writing.{line_at}
use Rattle.bristol.proofs.Numbering.{lines_length}
use Rattle.bristol.proofs.put_line.Goals as goal
use Rattle.bristol.proofs.put_line.Goals.{After-line_text-text}

-- what the line's text holds
text : (c : After-line_text-text) → Holds c.line_text-text.result (line_at c.args.d c.args.gates.now c.args.line)
text c = holds _ _ c.line_text-text.ensures (lines_length c.args.d (gates_of c.args.gates.now) c.args.line)

-- what is copied is as long as the line
copied : (c : After-line_text-text) → length (take c.line_text-text.result.length c.line_text-text.result.bytes) ≡ c.line_text-text.result.length
copied c = length-take-le _ _ (text c).short

pub slice_bounds-own-end : goal.slice_bounds-own-end
slice_bounds-own-end c = omega (arith, (text (goal.at.slice_bounds-own-end c).After-line_text-text).short)

pub slice_bounds-copy_from_slice-end-3 : goal.slice_bounds-copy_from_slice-end-3
slice_bounds-copy_from_slice-end-3 c = sym (copied (goal.at.slice_bounds-copy_from_slice-end-3 c).After-line_text-text)

pub copy_from_slice-requires : goal.copy_from_slice-requires
copy_from_slice-requires c =
    length-take-le _ _ c.if-bytes-length.false ∙ sym (copied (goal.at.copy_from_slice-requires c).After-line_text-text)

pub returns-then-bytes-length : goal.returns-then-bytes-length
returns-then-bytes-length c =
    let long : ltb (length c.args.bytes.now) (length (line_at c.args.d c.args.gates.now c.args.line)) ≡ true =
    lt-ltb _ _ (omega (arith, (text (goal.at.returns-then-bytes-length c).After-line_text-text).size, c.if-bytes-length.true)) in
    record { value = rw long refl; bytes_after = rw long refl }

pub returns : goal.returns
returns c =
    let line = text (goal.at.returns c).After-line_text-text in
    let front = take c.line_text-text.result.length c.line_text-text.result.bytes in
    let fits : ltb (length c.args.bytes.now) (length (line_at c.args.d c.args.gates.now c.args.line)) ≡ false =
    le-ltb _ _ (omega (arith, line.size, c.if-bytes-length.false)) in record {
      value = rw (fits, line.size) refl;
      bytes_after = rw fits (ap₂ (λ (x y : List ℕ). x ++ y) (c.copy_from_slice.ensures.after ∙ line.front) (ap (λ (k : ℕ). drop k c.args.bytes.now) line.size));
    }
