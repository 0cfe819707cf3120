-- The printed answer: document 01, "Programs".
-- Ask: Are these the bytes that the pair program prints?
use Rattle.std.specs.Prelude.{ℕ, zero, suc, ◌+◌, Bool, true, false, List, [], ◌++◌, Result, Ok, Err}
use Rattle.words.specs.Sets.{bit}
use Rattle.refusals.specs.declared.Refusal.{Refusal}
use Rattle.lexer.specs.Spelling.{bytes}
use Rattle.text.specs.Decimal.{decimal}
use Rattle.text.specs.Refused.{with_line_feed, refused_line}
use Rattle.solver.specs.declared.Answer.{Answer}
use Rattle.verdicts.specs.declared.Verdict.{Verdict}
use Rattle.verdicts.specs.declared.Verdict.TheVariants.{Satisfiable, Unsatisfiable, Unknown}

-- a space, a minus for false, the variable
abbrev pub literal_text : ℕ → Bool → List ℕ
literal_text v true = bytes " " ++ decimal v
literal_text v false = bytes " -" ++ decimal v

-- the literals of k variables, from bit i on
unfoldable pub literals : ℕ → ℕ → ℕ → List ℕ
literals zero i model = []
literals (suc k) i model = literal_text (i + 1) (bit model i) ++ literals k (suc i) model

-- the verdict's line and, with a model, each variable in order, closed by 0
abbrev pub verdict_text : ℕ → Verdict → List ℕ
verdict_text n (Satisfiable model) = with_line_feed (bytes "s SATISFIABLE")
    ++ with_line_feed (bytes "v" ++ literals n 0 model ++ bytes " 0")
verdict_text n Unsatisfiable = with_line_feed (bytes "s UNSATISFIABLE")
verdict_text n Unknown = with_line_feed (bytes "s UNKNOWN")

-- the answer of a run over n variables
unfoldable pub answer_text : ℕ → Answer → List ℕ
unfolding literals
answer_text n answer = with_line_feed (bytes "c steps " ++ decimal answer.count) ++ verdict_text n answer.verdict

-- a refusal in the pair program
unfoldable pub refusal_text : Refusal → List ℕ
refusal_text r = refused_line r ++ with_line_feed (bytes "s UNKNOWN")

-- what is printed for tables of n variables
abbrev pub solved_text : ℕ → Result Answer Refusal → List ℕ
solved_text n (Ok answer) = answer_text n answer
solved_text n (Err r) = refusal_text r
