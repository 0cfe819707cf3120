-- What is printed gives the reply back: two replies of the same n that print the same bytes are the same. A count is at most its budget,
-- which has 64 bits, and a model's variables are below n, so that the printed text loses nothing.
use mathlib.Core.Path.{◌≡◌, refl, sym, ap, ◌∙◌, subst}
use mathlib.Core.List.{List}
use Prim.Native.Nat.{ℕ}
use Rattle.std.specs.Prelude.{Result, Ok, Err}
use Rattle.refusals.specs.declared.Refusal.{Refusal}
use Rattle.solver.specs.declared.Answer.{Answer}
use Rattle.refusals.specs.Numbers.{Outcome}
use Rattle.refusals.specs.Checks.{given}
use Rattle.dimacs.specs.ThreeTexts.{ThreeTables, text_tables}
use Rattle.lines.specs.Numbers.{budget_of}
use Rattle.answers.specs.Printed.{solved_text}
use Rattle.lines.proofs.Readings.{budget_below}
use Rattle.answers.proofs.Injective.{IsSolvedWithin, run-within, printed_injective}
use Rattle.reply.specs.Reply.{answered, replied, reply_text}
use Rattle.reply.proofs.Accepted.{rows_read, reply-answers}

module _ (left right public line : List ℕ) where
  abbrev texts : ThreeTables
  texts = text_tables left right public

  abbrev reply : Result Answer Refusal
  reply = replied texts line

  reply-within : IsSolvedWithin texts.n reply
  reply-within = by-texts texts.outcome refl
    where
      given_by : (o : Outcome) → texts.outcome ≡ o → given o (answered texts (budget_of line)) Err ≡ reply
      given_by o e = sym (ap (λ (o : Outcome). given o (answered texts (budget_of line)) Err) e)

      by-line : (b : Result ℕ Refusal) → texts.outcome ≡ Ok tt → budget_of line ≡ b → IsSolvedWithin texts.n reply
      by-line (Ok steps) taken e =
          subst (IsSolvedWithin texts.n) (sym (reply-answers left right public line steps taken e))
          (run-within texts.n (rows_read left right public) steps (budget_below line steps e))
      by-line (Err r) taken e = subst (IsSolvedWithin texts.n) (sym (ap (answered texts) e) ∙ given_by (Ok tt) taken) tt

      by-texts : (o : Outcome) → texts.outcome ≡ o → IsSolvedWithin texts.n reply
      by-texts (Ok _) e = by-line (budget_of line) e refl
      by-texts (Err r) e = subst (IsSolvedWithin texts.n) (given_by (Err r) e) tt

pub reply_injective : (left right public line left' right' public' line' : List ℕ) → (text_tables left right public).n ≡ (text_tables left' right' public').n
    → reply_text left right public line ≡ reply_text left' right' public' line'
    → replied (text_tables left right public) line ≡ replied (text_tables left' right' public') line'
unfolding reply_text
reply_injective left right public line left' right' public' line' same e =
    let t = text_tables left right public in
    let r = reply left' right' public' line' in
    printed_injective t.n (reply left right public line) r (reply-within left right public line)
    (subst (λ (n : ℕ). IsSolvedWithin n r) (sym same) (reply-within left' right' public' line')) (e ∙ ap (λ (n : ℕ). solved_text n r) (sym same))
