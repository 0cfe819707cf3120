-- `read_numbers` meets its contract: with each number one variable more is bound, and 0 closes the line.
use mathlib.Core.Path.{sym, ◌∙◌}
use native.Mathlib.Omega.{arith}
use Rattle.lexer.specs.Bytes.{is_blank}
use Rattle.lexer.proofs.Cuts.{Found, found, missing}
use Rattle.qdimacs.proofs.Bindings.{listing, no_number, no_such_number, closes, goes_on}
use Rattle.qdimacs.proofs.read_numbers.Goals as goal
use Rattle.qdimacs.proofs.read_numbers.Goals.{In-Some}

-- the part is the next one
next : (c : In-Some)
    → Found is_blank c.args.line.now c.loop-from.at c.in-Some.from c.in-Some.to
next c = found is_blank _ _ _ _ (sym c.next_part.ensures ∙ c.in-Some.is)

pub loop-from-init : goal.loop-from-init
loop-from-init c = listing _ _ _ _ _

pub returns-in_default : goal.returns-in_default
returns-in_default c =
    no_number c.loop-from.invariant (missing is_blank _ _ (sym c.next_part.ensures ∙ c.in_default.is))

pub slice_bounds-read_number-count : goal.slice_bounds-read_number-count
slice_bounds-read_number-count c = omega (arith, (next c).filled)

pub slice_bounds-read_number-start : goal.slice_bounds-read_number-start
slice_bounds-read_number-start c = omega (arith, (next c).filled)

pub slice_bounds-read_number-end : goal.slice_bounds-read_number-end
slice_bounds-read_number-end c = (next c).within

pub returns-in_default-read_number : goal.returns-in_default-read_number
returns-in_default-read_number c =
    no_such_number c.loop-from.invariant _ _ (next (goal.at.returns-in_default-read_number c).In-Some) (sym c.read_number.ensures ∙ c.in_default-read_number.is)

pub returns-then-v-eq0 : goal.returns-then-v-eq0
returns-then-v-eq0 c =
    c.close.ensures
    ∙ sym (closes c.loop-from.invariant _ _ (next (goal.at.returns-then-v-eq0 c).In-Some) _ _ (sym c.read_number.ensures ∙ c.in-Some-read_number.is)
    c.if-v-eq0.true)

pub loop-from-smaller : goal.loop-from-smaller
loop-from-smaller c = omega (
  arith,
  (next (goal.at.loop-from-smaller c).In-Some).past,
  (next (goal.at.loop-from-smaller c).In-Some).filled,
  (next (goal.at.loop-from-smaller c).In-Some).within,
)

pub loop-from-preserved : goal.loop-from-preserved
loop-from-preserved c =
    goes_on c.loop-from.invariant _ _ (next (goal.at.loop-from-preserved c).In-Some) _ _ (sym c.read_number.ensures ∙ c.in-Some-read_number.is)
    c.ranges.n.fits c.if-v-eq0.false _ c.bind-p.ensures
