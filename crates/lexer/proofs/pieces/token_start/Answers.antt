-- `token_start` meets its contract: the first token from `i` on is the first from `at` on.
use mathlib.Core.Path.{refl, sym, ap, ◌∙◌}
use Prim.Native.Nat.{◌≤◌}
use native.Mathlib.Omega.{arith}
use Rattle.lexer.specs.Blanks.{token_start}
use Rattle.lexer.proofs.Runs.{end_ge}
use Rattle.lexer.proofs.Blanks.{stays, later, inside, passes}
use Rattle.lexer.proofs.pieces.token_start.Goals as goal

pub loop-at-init : goal.loop-at-init
loop-at-init c = refl

pub returns-then-not-is_remark : goal.returns-then-not-is_remark
returns-then-not-is_remark c =
    stays _ _ _ c.skip-from.ensures (sym c.is_remark.ensures ∙ c.if-not-is_remark.true) ∙ c.loop-at.invariant

pub loop-at-smaller : goal.loop-at-smaller
loop-at-smaller c =
    let skip = c.skip-from in
    let r = sym c.is_remark.ensures ∙ c.if-not-is_remark.false in
    let past : skip.result ≤ c.find-i.result = rw c.find-i.ensures (end_ge _ _ _) in
    omega (arith, later _ _ _ skip.ensures r, inside _ _ _ skip.ensures r, past)

pub loop-at-preserved : goal.loop-at-preserved
loop-at-preserved c =
    let r = sym c.is_remark.ensures ∙ c.if-not-is_remark.false in
    ap (token_start _) c.find-i.ensures ∙ sym (passes _ _ _ c.skip-from.ensures r) ∙ c.loop-at.invariant
