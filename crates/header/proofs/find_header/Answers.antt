-- `find_header` meets its contract: the lines from `at` on, past their remarks, have the text's header.
use mathlib.Core.Path.{refl, sym, ap, ◌∙◌}
use mathlib.Core.Bool.{not}
use Prim.Native.Nat.{◌≤◌}
use native.Mathlib.Omega.{arith}
use lib.ListN.{length}
use Rattle.lexer.specs.Bytes.{is_line_feed}
use Rattle.lexer.proofs.Runs.{end_ge, end_le}
use Rattle.header.specs.Header.{headed, header_of}
use Rattle.header.proofs.Lines.{other-line, last_line, remark_line, no_line, empty-line}
use Rattle.header.proofs.find_header.Goals as goal

pub loop-at-init : goal.loop-at-init
unfolding header_of
loop-at-init c = (omega arith, λ least. refl)

pub returns-then-text-at-ne99 : goal.returns-then-text-at-ne99
returns-then-text-at-ne99 c =
    record {
      upper_bound = c.loop-at.invariant.0;
      header_from = λ least. sym (ap (headed least _) (other-line _ _ c.loop-at-test.true c.if-text-at-ne99.true))
          ∙ c.loop-at.invariant.1 least;
    }

pub returns-then-text-end : goal.returns-then-text-end
returns-then-text-end c =
    let text = c.args.text.now in
    let end = c.find-end in
    let inside : end.result ≤ length text = omega (arith, c.find-end.ensures, end_le (λ b. not (is_line_feed b)) text c.loop-at.at c.loop-at.invariant.0) in
    record {
      upper_bound = inside;
      header_from = λ least. empty-line _ _ least c.if-text-end.true inside
          ∙ sym (ap (headed least _) (last_line _ _ c.loop-at-test.true c.if-text-at-ne99.false (rw c.find-end.ensures at c.if-text-end.true)))
          ∙ c.loop-at.invariant.1 least;
    }

pub loop-at-smaller : goal.loop-at-smaller
loop-at-smaller c =
    omega (arith, c.find-end.ensures, end_ge (λ b. not (is_line_feed b)) c.args.text.now c.loop-at.at)

pub loop-at-preserved : goal.loop-at-preserved
loop-at-preserved c =
    let end = c.find-end in (
      omega arith,
      λ least. rw c.find-end.ensures
          (sym (ap (headed least _) (remark_line _ _ c.loop-at-test.true c.if-text-at-ne99.false
          (rw c.find-end.ensures at c.if-text-end.false))) ∙ c.loop-at.invariant.1 least),
    )

pub returns : goal.returns
returns c =
    record {
      upper_bound = c.loop-at.invariant.0;
      header_from = λ least. sym (ap (headed least _) (no_line _ _ c.loop-at-test.false))
          ∙ c.loop-at.invariant.1 least;
    }
