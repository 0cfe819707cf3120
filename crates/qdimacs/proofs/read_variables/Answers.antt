-- `read_variables` meets its contract: the first part is the letter, and the numbers follow it.
use mathlib.Core.Path.{sym, ◌∙◌}
use native.Mathlib.Omega.{arith}
use Rattle.lexer.specs.Bytes.{is_blank}
use Rattle.lexer.proofs.Cuts.{Found, found, missing}
use Rattle.qdimacs.proofs.OneLine.{no_letter, long_letter, own_letter}
use Rattle.qdimacs.proofs.read_variables.Goals as goal
use Rattle.qdimacs.proofs.read_variables.Goals.{In-Some}

-- the first part
first : (c : In-Some) → Found is_blank c.args.line.now 0 c.in-Some.letter c.in-Some.end
first c = found is_blank _ _ _ _ (sym c.next_part.ensures ∙ c.in-Some.is)

pub returns-in_default : goal.returns-in_default
returns-in_default c =
    let a = c.args in
    no_letter a.n a.before a.universal a.line.now (missing is_blank _ _ (sym c.next_part.ensures ∙ c.in_default.is))

pub overflow_sub-end : goal.overflow_sub-end
overflow_sub-end c = omega (arith, (first c).filled)

pub returns-then-end-letter-ne1 : goal.returns-then-end-letter-ne1
returns-then-end-letter-ne1 c =
    let a = c.args in
    long_letter a.n a.before a.universal a.line.now _ _ (first (goal.at.returns-then-end-letter-ne1 c).In-Some) c.if-end-letter-ne1.true

pub returns : goal.returns
returns c =
    let a = c.args in
    c.read_numbers.ensures ∙ sym (own_letter a.n a.before a.universal a.line.now _ _ (first (goal.at.returns c).In-Some) c.if-end-letter-ne1.false)
