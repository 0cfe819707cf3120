-- `forkhemit_answer` meets its contract: the check and the text are those of n as a byte, and the text is the composed answer's.
use mathlib.Core.Path.{◌≡◌, sym, ap, ◌∙◌}
use mathlib.Core.List.{List, [], ◌∷◌}
use Prim.Native.Nat.{ℕ, min}
use native.Mathlib.Omega.{arith}
use lib.ListN.{length, take}
use Rattle.refusals.specs.Checks.{given}
use Rattle.refusals.specs.Numbers.{Outcome, code_of}
use Rattle.text.specs.declared.Text.{Text}
use Rattle.text.specs.Texts.{text_of}
use Rattle.text.proofs.Appending.{text_back}
use Rattle.answers.specs.Printed.{answer_text}
use Rattle.codes.specs.Codes.{as_byte}
use Rattle.codes.proofs.AsBytes.{taken-low}
use Rattle.lent.specs.Lent.{front}
use Rattle.host_lines.specs.Answers.{answer_from}
use Rattle.host_lines.proofs.forkhemit_answer.Goals as goal

pub returns-in-Err : goal.returns-in-Err
returns-in-Err c =
    let check = c in
    let byte = check in
    let a = byte.args in
    let text = answer_text (as_byte a.n) (answer_from a.count a.verdict a.model) in
    let is = sym c.in-Err.is ∙ rw byte.byte-k.ensures at check.check_variables.ensures.value in
    record {
      value = c.from.ensures ∙ ap code_of is;
      text_after = ap (λ (o : Outcome). given o (front text a.text.now) (λ r. a.text.now)) is;
      length_after = ap (λ (o : Outcome). given o (length text ∷ []) (λ r. a.length.now)) is;
    }

pub returns : goal.returns
returns c =
    let print = c in
    let verdict = print in
    let told = verdict in
    let check = told in
    let byte = check in
    let a = byte.args in
    let text = answer_text (as_byte a.n) (answer_from a.count a.verdict a.model) in
    let is = sym told.in_default.is ∙ rw byte.byte-k.ensures at check.check_variables.ensures.value in
    let low : min byte.byte-k.result 32 ≡ as_byte a.n = omega (arith, byte.byte-k.ensures, taken-low (as_byte a.n) (sym is)) in
    let e = print.answer_text-printed.ensures ∙ (λ i. text_of (answer_text (low i) (record { count = a.count; verdict = verdict.verdict_from.ensures i }))) in
    record {
      value = ap code_of is;
      text_after = c.put_text.ensures ∙ ap (λ (t : Text). front (take t.length t.bytes) a.text.now) e
          ∙ ap (λ (bytes : List ℕ). front bytes a.text.now) (text_back text)
          ∙ ap (λ (o : Outcome). given o (front text a.text.now) (λ r. a.text.now)) is;
      length_after = ap (λ (t : Text). t.length ∷ []) e ∙ ap (λ (o : Outcome). given o (length text ∷ []) (λ r. a.length.now)) is;
    }
