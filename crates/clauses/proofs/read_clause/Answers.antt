-- `read_clause` meets its contract: the token at hand and what follows it end the clause begun at `start`.
use mathlib.Core.Path.{sym, ap, ◌∙◌}
use native.Mathlib.Omega.{arith}
use Rattle.lexer.proofs.Cuts.{none_first}
use Rattle.lexer.proofs.Tokens.{found}
use Rattle.clauses.specs.First.{first}
use Rattle.clauses.proofs.Reading.{said, begun, no_clause, not-a-number, closes, too_high, no_more, goes_on}
use Rattle.clauses.proofs.read_clause.Goals as goal

pub returns-in_default : goal.returns-in_default
returns-in_default c =
    let proved = said _ _ _ _ (ap first (no_clause _ _ _ (none_first _ (sym c.next_token.ensures ∙ c.in_default.is)))) in
    record { value = proved.0; result_value = proved.1 }

pub loop-minus-init : goal.loop-minus-init
loop-minus-init c = begun _ _ _ _ _ (found _ _ _ _ (sym c.next_token.ensures ∙ c.in-Some.is))

pub slice_bounds-read_number-count : goal.slice_bounds-read_number-count
slice_bounds-read_number-count c = omega (arith, c.loop-minus.invariant.filled)

pub returns-in_default-read_number : goal.returns-in_default-read_number
returns-in_default-read_number c =
    let proved = said _ _ _ _ (not-a-number c.loop-minus.invariant (sym c.read_number.ensures ∙ c.in_default-read_number.is)) in
    record { value = proved.0; result_value = proved.1 }

pub returns-then-v-eq0 : goal.returns-then-v-eq0
returns-then-v-eq0 c =
    let proved = said _ _ _ _ (closes c.loop-minus.invariant _ _ (sym c.read_number.ensures ∙ c.in-Some-read_number.is) c.if-v-eq0.true) in
    record { value = proved.0; result_value = proved.1 }

pub returns-then-n-v : goal.returns-then-n-v
returns-then-n-v c =
    let proved = said _ _ _ _ (too_high c.loop-minus.invariant _ _ (sym c.read_number.ensures ∙ c.in-Some-read_number.is) (omega arith) c.if-n-v.true) in
    record { value = proved.0; result_value = proved.1 }

pub loop-minus-smaller : goal.loop-minus-smaller
loop-minus-smaller c =
    let F = found _ _ _ _ (sym c.next_token-in-loop-minus.ensures ∙ c.in-Some-next_token.is) in
    omega (arith, F.past, F.filled, F.within)

pub loop-minus-preserved : goal.loop-minus-preserved
loop-minus-preserved c =
    goes_on c.loop-minus.invariant _ _
    (sym c.read_number.ensures ∙ c.in-Some-read_number.is)
    (omega arith) c.if-v-eq0.false c.if-n-v.false _ c.with_literal-row.ensures _ _
    (found _ _ _ _ (sym c.next_token-in-loop-minus.ensures ∙ c.in-Some-next_token.is))

pub returns : goal.returns
returns c =
    let proved = said _ _ _ _ (no_more c.loop-minus.invariant _ _
    (sym c.read_number.ensures ∙ c.in-Some-read_number.is)
    (omega arith) c.if-v-eq0.false c.if-n-v.false
    (none_first _ (sym c.next_token-in-loop-minus.ensures ∙ c.in_default-next_token.is))) in
    record { value = proved.0; result_value = proved.1 }
