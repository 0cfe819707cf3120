-- `read_parts` meets its contract: each part that is found is the next, and each test is the definition's.
use mathlib.Core.Path.{◌≡◌, sym, ◌∙◌}
use mathlib.Core.Bool.{true}
use native.Mathlib.Omega.{arith}
use Rattle.words.specs.Sameness.{same}
use Rattle.words.proofs.Sameness.{same-is}
use Rattle.lexer.specs.Spelling.{bytes}
use Rattle.lexer.specs.Places.{part}
use Rattle.lexer.specs.Bytes.{is_blank}
use Rattle.lexer.proofs.Cuts.{Found, found, missing}
use Rattle.header.proofs.Parts.{no_part, one-part, not_first, not_p, not_cnf, both_names}
use Rattle.header.proofs.read_parts.Goals as goal
use Rattle.header.proofs.read_parts.Goals.{Else-not-same, In-Some, In-Some-next_part}

-- p and f are the first two parts
p-found : (w : In-Some) → Found is_blank w.args.line.now 0 w.in-Some.p w.in-Some.p_end
p-found w = found is_blank _ _ _ _ (sym w.next_part.ensures ∙ w.in-Some.is)

f-found : (w : In-Some-next_part) → Found is_blank w.args.line.now w.in-Some.p_end w.in-Some-next_part.f w.in-Some-next_part.f_end
f-found w = found is_blank _ _ _ _ (sym w.next_part-2.ensures ∙ w.in-Some-next_part.is)

-- the first part is `p`
p-named : (c : Else-not-same) → same (part c.in-Some.p c.in-Some.p_end c.args.line.now) (bytes "p") ≡ true
p-named c = sym (same-is _ _ _ c.same.ensures) ∙ c.if-not-same.false

pub returns-in_default : goal.returns-in_default
returns-in_default c =
    sym (no_part c.args.least _ (missing is_blank _ _ (sym c.next_part.ensures ∙ c.in_default.is)))

pub returns-in_default-next_part : goal.returns-in_default-next_part
returns-in_default-next_part c =
    sym (one-part c.args.least _ _ _ (p-found (goal.at.returns-in_default-next_part c).In-Some)
    (missing is_blank _ _ (sym c.next_part-2.ensures ∙ c.in_default-next_part.is)))

pub returns-then-p-ne0 : goal.returns-then-p-ne0
returns-then-p-ne0 c =
    sym (not_first c.args.least _ _ _ (p-found (goal.at.returns-then-p-ne0 c).In-Some) _ _ (f-found (goal.at.returns-then-p-ne0 c).In-Some-next_part)
    c.if-p-ne0.true)

pub slice_bounds-same-end : goal.slice_bounds-same-end
slice_bounds-same-end c = (p-found (goal.at.slice_bounds-same-end c).In-Some).within

pub returns-then-not-same : goal.returns-then-not-same
returns-then-not-same c =
    sym (not_p c.args.least _ _ _ (p-found (goal.at.returns-then-not-same c).In-Some) _ _ (f-found (goal.at.returns-then-not-same c).In-Some-next_part)
    c.if-p-ne0.false
    (sym (same-is _ _ _ c.same.ensures) ∙ c.if-not-same.true))

pub slice_bounds-same-count-2 : goal.slice_bounds-same-count-2
slice_bounds-same-count-2 c = omega (arith, (f-found (goal.at.slice_bounds-same-count-2 c).In-Some-next_part).filled)

pub slice_bounds-same-start-2 : goal.slice_bounds-same-start-2
slice_bounds-same-start-2 c = omega (arith, (f-found (goal.at.slice_bounds-same-start-2 c).In-Some-next_part).filled)

pub slice_bounds-same-end-3 : goal.slice_bounds-same-end-3
slice_bounds-same-end-3 c = (f-found (goal.at.slice_bounds-same-end-3 c).In-Some-next_part).within

pub returns-then-not-same-2 : goal.returns-then-not-same-2
returns-then-not-same-2 c =
    sym (not_cnf c.args.least _ _ _ (p-found (goal.at.returns-then-not-same-2 c).In-Some) _ _ (f-found (goal.at.returns-then-not-same-2 c).In-Some-next_part)
    c.if-p-ne0.false (p-named (goal.at.returns-then-not-same-2 c).Else-not-same)
    (sym (same-is _ _ _ c.same-2.ensures) ∙ c.if-not-same-2.true))

pub returns : goal.returns
returns c =
    c.read_sizes.ensures
    ∙ sym (both_names c.args.least _ _ _ (p-found (goal.at.returns c).In-Some) _ _ (f-found (goal.at.returns c).In-Some-next_part) c.if-p-ne0.false
    (p-named (goal.at.returns c).Else-not-same)
    (sym (same-is _ _ _ c.same-2.ensures) ∙ c.if-not-same-2.false))
