-- `Text::append` meets its contract. The invariant: appending what is left gives what appending the whole gives.
use mathlib.Core.Path.{sym, ap, ◌∙◌}
use mathlib.Core.List.{List}
use Prim.Native.Nat.{ℕ, ◌+◌}
use native.Mathlib.Omega.{arith}
use lib.ListN.{drop, drop_of_length-le}
use Rattle.text.specs.declared.Text.{Text}
use Rattle.text.specs.Texts.{appended}
use Rattle.text.proofs.Appending.{appended-next}
use Rattle.text.proofs.Text.append.Goals as goal

pub loop-byte-preserved : goal.loop-byte-preserved
loop-byte-preserved c =
    ap (λ (t : Text). appended t (drop (c.loop-byte.byte-index + 1) c.args.more.now)) c.push-text.ensures
    ∙ sym (appended-next c.loop-byte.text c.args.more.now c.loop-byte.byte-index (omega arith))
    ∙ c.loop-byte.invariant

pub returns : goal.returns
unfolding appended
returns c =
    sym (ap (λ (l : List ℕ). appended c.loop-byte.text l)
    (drop_of_length-le c.args.more.now {i = c.loop-byte.byte-index} (omega arith)))
    ∙ c.loop-byte.invariant
