-- `verdict_from` meets its contract: each arm's number decides the definition's tests, and the mask leaves a word.
use mathlib.Core.Path.{sym, ap, ◌∙◌}
use Prim.Native.Nat.{ℕ}
use lib.Bits.{and_mask, mask_lt}
use borrow.Author.Tests.{ne_eqb}
use Rattle.verdicts.specs.declared.Verdict.TheVariants.{Satisfiable}
use Rattle.codes.specs.Codes.{verdict_from}
use Rattle.codes.proofs.verdict_from.Goals as goal

pub overflow_cast-result : goal.overflow_cast-result
overflow_cast-result c = record { fits = mask_lt c.args.model 32 }

pub returns-in-1 : goal.returns-in-1
returns-in-1 c = ap Satisfiable (and_mask c.args.model 32) ∙ sym (ap (λ (k : ℕ). verdict_from k c.args.model) c.in-1.is)

pub returns-in-2 : goal.returns-in-2
returns-in-2 c = sym (ap (λ (k : ℕ). verdict_from k c.args.model) c.in-2.is)

pub returns-in_default : goal.returns-in_default
returns-in_default c = rw (ne_eqb c.args.number 1 c.in_default.in_default-own.rest.0.1, ne_eqb c.args.number 2 c.in_default.in_default-own.rest.1)
