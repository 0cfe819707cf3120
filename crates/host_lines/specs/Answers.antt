-- What the call that writes an answer leaves in the buffers lent to it.
use Rattle.std.specs.Prelude.{ℕ, List, [], ◌∷◌, length}
use Rattle.refusals.specs.Checks.{outcome, given}
use Rattle.solver.specs.declared.Answer.{Answer}
use Rattle.codes.specs.Codes.{variable_checks, verdict_from}
use Rattle.lent.specs.Lent.{front}

-- an answer from count, verdict and model
abbrev pub answer_from : ℕ → ℕ → ℕ → Answer
answer_from count k model = record { count = count; verdict = verdict_from k model }

-- the lent bytes after a text about n variables: the text, then what was there
abbrev pub text_given : ℕ → List ℕ → List ℕ → List ℕ
text_given n text lent = given (outcome (variable_checks n)) (front text lent) (λ r. lent)

-- the lent length after it
abbrev pub length_given : ℕ → List ℕ → List ℕ → List ℕ
length_given n text lent = given (outcome (variable_checks n)) (length text ∷ []) (λ r. lent)
