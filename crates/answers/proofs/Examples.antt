-- Answers of document 01, computed.
use mathlib.Core.Path.{◌≡◌, refl}
use Rattle.words.specs.Sets.{bit}
use Rattle.refusals.specs.declared.Refusal.TheVariants.{TextsDiffer}
use Rattle.lexer.specs.Spelling.{bytes}
use Rattle.text.specs.Decimal.{decimal}
use Rattle.verdicts.specs.declared.Verdict.TheVariants.{Satisfiable, Unsatisfiable, Unknown}
use Rattle.answers.specs.Printed.{literals, answer_text, refusal_text}

example : answer_text 2 (record { count = 3; verdict = Satisfiable 2 }) ≡ bytes "c steps 3\ns SATISFIABLE\nv -1 2 0\n"
unfolding answer_text literals decimal bit
example = refl

no_model : answer_text 2 (record { count = 18446744073709551615; verdict = Unsatisfiable }) ≡ bytes "c steps 18446744073709551615\ns UNSATISFIABLE\n"
unfolding answer_text decimal
no_model = refl

no_step : answer_text 1 (record { count = 0; verdict = Unknown }) ≡ bytes "c steps 0\ns UNKNOWN\n"
unfolding answer_text decimal
no_step = refl

a-refusal : refusal_text TextsDiffer ≡ bytes "c refused 6\ns UNKNOWN\n"
unfolding refusal_text decimal
a-refusal = refl
