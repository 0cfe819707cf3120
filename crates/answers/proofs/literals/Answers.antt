-- `literals` meets its contract. The invariant: appending the literals that are left gives what appending all gives.
use mathlib.Core.Path.{◌≡◌, sym, ap, ◌∙◌}
use mathlib.Core.Bool.{Bool}
use Prim.Native.Nat.{ℕ, ◌-◌, ◌+◌}
use native.Mathlib.Nat.{sub-zero}
use native.Mathlib.Omega.{arith}
use Rattle.text.specs.Texts.{appended}
use Rattle.answers.specs.Printed.{literal_text, literals}
use Rattle.answers.proofs.Composing.{literals-next}
use Rattle.answers.proofs.literals.Goals as goal

pub loop-i-init : goal.loop-i-init
loop-i-init c = rw sub-zero

pub loop-i-preserved : goal.loop-i-preserved
loop-i-preserved c =
    literals-next c.loop-i.out c.literal-out.result c.args.n c.loop-i.i c.args.model (omega arith)
    (c.literal-out.ensures ∙ ap (λ (b : Bool). appended c.loop-i.out (literal_text (c.loop-i.i + 1) b)) c.bit.ensures)
    ∙ c.loop-i.invariant

pub returns : goal.returns
unfolding appended literals
returns c =
    let none : c.args.n - c.loop-i.i ≡ 0 = omega arith in
    sym (ap (λ (k : ℕ). appended c.loop-i.out (literals k c.loop-i.i c.args.model)) none)
    ∙ c.loop-i.invariant
