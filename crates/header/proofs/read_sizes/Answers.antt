-- `read_sizes` meets its contract: a part that is found is the next, and one that is not leaves too few.
use mathlib.Core.Path.{sym, ◌∙◌}
use native.Mathlib.Omega.{arith}
use Rattle.lexer.specs.Bytes.{is_blank}
use Rattle.lexer.proofs.Cuts.{Found, found, missing}
use Rattle.header.proofs.Parts.{no_size, one_size, two-sizes, three-sizes}
use Rattle.header.proofs.read_sizes.Goals as goal
use Rattle.header.proofs.read_sizes.Goals.{In-Some, In-Some-next_part}

-- n and m are the first two parts
n-found : (w : In-Some) → Found is_blank w.args.line.now w.args.at w.in-Some.n w.in-Some.n_end
n-found w = found is_blank _ _ _ _ (sym w.next_part.ensures ∙ w.in-Some.is)

m-found : (w : In-Some-next_part) → Found is_blank w.args.line.now w.in-Some.n_end w.in-Some-next_part.m w.in-Some-next_part.m_end
m-found w = found is_blank _ _ _ _ (sym w.next_part-2.ensures ∙ w.in-Some-next_part.is)

pub returns-in_default : goal.returns-in_default
returns-in_default c =
    sym (no_size c.args.least _ _ (missing is_blank _ _ (sym c.next_part.ensures ∙ c.in_default.is)))

pub returns-in_default-next_part : goal.returns-in_default-next_part
returns-in_default-next_part c =
    sym (one_size c.args.least _ _ _ _ (n-found (goal.at.returns-in_default-next_part c).In-Some)
    (missing is_blank _ _ (sym c.next_part-2.ensures ∙ c.in_default-next_part.is)))

pub returns-in_default-next_part-2 : goal.returns-in_default-next_part-2
returns-in_default-next_part-2 c =
    sym (three-sizes c.args.least _ _ _ _ (n-found (goal.at.returns-in_default-next_part-2 c).In-Some) _ _
    (m-found (goal.at.returns-in_default-next_part-2 c).In-Some-next_part) _ _
    (found is_blank _ _ _ _ (sym c.next_part-3.ensures ∙ c.in_default-next_part-2.is)))

pub slice_bounds-read_both-count : goal.slice_bounds-read_both-count
slice_bounds-read_both-count c = omega (arith, (n-found (goal.at.slice_bounds-read_both-count c).In-Some).filled)

pub slice_bounds-read_both-start : goal.slice_bounds-read_both-start
slice_bounds-read_both-start c = omega (arith, (n-found (goal.at.slice_bounds-read_both-start c).In-Some).filled)

pub slice_bounds-read_both-end : goal.slice_bounds-read_both-end
slice_bounds-read_both-end c = (n-found (goal.at.slice_bounds-read_both-end c).In-Some).within

pub slice_bounds-read_both-count-2 : goal.slice_bounds-read_both-count-2
slice_bounds-read_both-count-2 c = omega (arith, (m-found (goal.at.slice_bounds-read_both-count-2 c).In-Some-next_part).filled)

pub slice_bounds-read_both-start-2 : goal.slice_bounds-read_both-start-2
slice_bounds-read_both-start-2 c = omega (arith, (m-found (goal.at.slice_bounds-read_both-start-2 c).In-Some-next_part).filled)

pub slice_bounds-read_both-end-2 : goal.slice_bounds-read_both-end-2
slice_bounds-read_both-end-2 c = (m-found (goal.at.slice_bounds-read_both-end-2 c).In-Some-next_part).within

pub returns : goal.returns
returns c =
    c.read_both.ensures
    ∙ sym (two-sizes c.args.least _ _ _ _ (n-found (goal.at.returns c).In-Some) _ _ (m-found (goal.at.returns c).In-Some-next_part)
    (missing is_blank _ _ (sym c.next_part-3.ensures ∙ c.in-None.is)))
