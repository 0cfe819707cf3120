-- `put_text` meets its contract: with room for the whole text the writer puts it, and is not refused.
use mathlib.Core.Path.{sym, ◌∙◌}
use native.Mathlib.Omega.{arith}
use Rattle.listing.proofs.Listing.{text_put, text_taken}
use Rattle.listing.proofs.put_text.Goals as goal

pub returns-in_default-clause-value : goal.returns-in_default-clause-value
returns-in_default-clause-value c =
    absurd (text_taken c.args.d c.args.gates.now c.requires.gates_value c.args.bytes.now (omega (arith, c.requires.gates_len_bound)) _
    (sym c.write_lines.ensures.value ∙ c.in_default.is))

pub returns-in_default-clause-bytes_after : goal.returns-in_default-clause-bytes_after
returns-in_default-clause-bytes_after c =
    absurd (text_taken c.args.d c.args.gates.now c.requires.gates_value c.args.bytes.now (omega (arith, c.requires.gates_len_bound)) _
    (sym c.write_lines.ensures.value ∙ c.in_default.is))

pub returns : goal.returns
returns c =
    let put = text_put c.args.d c.args.gates.now c.requires.gates_value c.args.bytes.now (omega (arith, c.requires.gates_len_bound)) _ _ _
    (sym c.write_lines.ensures.value ∙ c.in-Ok.is) c.write_lines.ensures.bytes_after in
    record { value = put.0; bytes_after = put.1 }
