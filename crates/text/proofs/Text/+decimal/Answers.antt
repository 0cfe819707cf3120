-- `Text::decimal` meets its contract: the digits of x are those of x / 10 and one more.
use mathlib.Core.Path.{sym, ap, ◌∙◌}
use Prim.Native.Nat.{◌+◌, ◌/◌, ◌%◌}
use native.Mathlib.Omega.{arith}
use Rattle.text.specs.declared.Text.{Text}
use Rattle.text.specs.Decimal.{decimal as decimal'}
use Rattle.text.specs.Texts.{pushed, appended}
use Rattle.text.proofs.Appending.{appended-push}
use Rattle.text.proofs.Decimals.{decimal_digit, decimal_step}
use Rattle.text.proofs.Text.+decimal.Goals as goal

pub returns-then-x-lt10 : goal.returns-then-x-lt10
unfolding appended
returns-then-x-lt10 t c =
    c.push.ensures ∙ ap (pushed c.args.self) c.digit.ensures
    ∙ sym (ap (appended c.args.self) (decimal_digit c.args.x c.if-x-lt10.true))

pub returns-else-x-lt10 : goal.returns-else-x-lt10
returns-else-x-lt10 t c =
    c.push-else-x-lt10.ensures ∙ ap (pushed c.decimal.result) c.digit-else-x-lt10.ensures
    ∙ ap (λ (r : Text). pushed r (48 + c.args.x % 10)) c.decimal.ensures
    ∙ appended-push c.args.self (decimal' (c.args.x / 10)) (48 + c.args.x % 10)
    ∙ sym (ap (appended c.args.self) (decimal_step c.args.x (omega arith) (omega arith)))
