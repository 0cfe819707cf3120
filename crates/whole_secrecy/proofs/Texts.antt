-- The program through the whole budget on texts that were read: it prints the budget, and the plain run's verdict and model under it; and two triples of texts
-- of the same sizes that agree in these are answered by the same bytes, whatever the line. From what follows from the statement.
use mathlib.Core.Path.{◌≡◌, refl, sym, ap, ap₂, ◌∙◌}
use mathlib.Core.List.{List}
use Prim.Native.Nat.{ℕ}
use Rattle.std.specs.Prelude.{Result, Ok, Err}
use Rattle.refusals.specs.declared.Refusal.{Refusal}
use Rattle.refusals.specs.Numbers.{Outcome}
use Rattle.refusals.specs.Checks.{outcome, given}
use Rattle.words.specs.Sets.{bit, put, any, count, lowest}
use Rattle.words.specs.Sameness.{same}
use Rattle.lexer.specs.Spelling.{bytes}
use Rattle.lexer.specs.Bytes.{run, trimmed}
use Rattle.lexer.specs.Pieces.{cut, not_empty, parts_from}
use Rattle.lexer.specs.Remarks.{lines_of, kept, without_remarks}
use Rattle.numbers.specs.Numbers.{digits_after, decimal_of, number_read}
use Rattle.text.specs.Decimal.{decimal}
use Rattle.header.specs.Header.{past_remarks, header_of}
use Rattle.clauses.specs.Clauses.{clauses}
use Rattle.dimensions.specs.declared.Dimensions.{Dimensions}
use Rattle.tables.specs.Rows.{padding, satisfied, free_literals}
use Rattle.dimacs.specs.Text.{table_of}
use Rattle.dimacs.specs.ThreeTexts.{ThreeTables, text_tables}
use Rattle.dimacs.proofs.Accepted.{accepted-texts}
use Rattle.verdicts.specs.declared.Verdict.{Verdict}
use Rattle.solver.specs.declared.Answer.{Answer}
use Rattle.solver.specs.Entries.{answer_of}
use Rattle.lines.specs.Numbers.{field_of, budget_of}
use Rattle.answers.specs.Printed.{literals, answer_text, solved_text}
use Rattle.reply.specs.Reply.{dimensions_of, tables_in}
use Rattle.reply.proofs.Accepted.{tables-taken}
use Rattle.whole_reply.specs.WholeReply.{served_checks, whole_answered, whole_text}
use Rattle.whole_secrecy.specs.WholeSecrecy.{plain_verdict}
use Rattle.whole_secrecy.proofs.WholeSecrecy.{whole_secrecy}
use Rattle.whole_secrecy.proofs.Consequences.{whole_plain}

-- the answer by sizes, budget, and the plain run's verdict under it
abbrev answer_by : Dimensions → ℕ → Verdict → Result Answer Refusal
answer_by d steps v = given (outcome (served_checks d steps)) (Ok (record { count = steps; verdict = v })) Err

module _ (left right public : List ℕ) (taken : (text_tables left right public).outcome ≡ Ok tt) where
  abbrev pub read : ThreeTables
  read = text_tables left right public

  abbrev pub verdict : ℕ → Verdict
  verdict steps = plain_verdict (dimensions_of read) (tables_in read) steps

  answered-by : (steps : ℕ) → whole_answered read (Ok steps) ≡ answer_by (dimensions_of read) steps (verdict steps)
  answered-by steps =
      let d = dimensions_of read in
      ap (λ (a : Answer). given (outcome (served_checks d steps)) (Ok a) Err)
      (whole_plain d (whole_secrecy d) (tables_in read) (tables-taken read (accepted-texts left right public taken)) steps)

  -- the texts are not refused, so the line decides
  text_is : (line : List ℕ) → whole_text left right public line ≡ solved_text read.n (whole_answered read (budget_of line))
  unfolding whole_text
  text_is line = ap (λ (o : Outcome). solved_text read.n (given o (whole_answered read (budget_of line)) Err)) taken

  -- a budget and a ceiling that are served
  pub whole_prints : (line : List ℕ) (steps : ℕ) → budget_of line ≡ Ok steps → outcome (served_checks (dimensions_of read) steps) ≡ Ok tt
      → whole_text left right public line ≡ answer_text read.n (record { count = steps; verdict = verdict steps })
  whole_prints line steps e s =
      text_is line
      ∙ ap (λ (b : Result ℕ Refusal). solved_text read.n (whole_answered read b)) e
      ∙ ap (solved_text read.n) (answered-by steps)
      ∙ ap (λ (o : Outcome). solved_text read.n (given o (Ok (record { count = steps; verdict = verdict steps })) Err)) s

-- two triples of texts of the same sizes, one line, and one verdict and model under its budget
module _ (left right public left' right' public' : List ℕ) (taken : (text_tables left right public).outcome ≡ Ok tt)
    (taken' : (text_tables left' right' public').outcome ≡ Ok tt)
    (sizes : dimensions_of (text_tables left right public) ≡ dimensions_of (text_tables left' right' public')) (line : List ℕ)
    (alike : (steps : ℕ) → budget_of line ≡ Ok steps → verdict left right public taken steps ≡ verdict left' right' public' taken' steps) where
  pub programs_agree : whole_text left right public line ≡ whole_text left' right' public' line
  programs_agree =
      text_is left right public taken line ∙ go (budget_of line) refl ∙ sym (text_is left' right' public' taken' line)
    where
      go : (b : Result ℕ Refusal) → budget_of line ≡ b
          → solved_text (read left right public taken).n (whole_answered (read left right public taken) b)
          ≡ solved_text (read left' right' public' taken').n (whole_answered (read left' right' public' taken') b)
      go (Ok steps) e =
          ap (solved_text (read left right public taken).n) (answered-by left right public taken steps)
          ∙ ap₂ (λ (d : Dimensions) (v : Verdict). solved_text d.n (answer_by d steps v)) sizes (alike steps e)
          ∙ sym (ap (solved_text (read left' right' public' taken').n) (answered-by left' right' public' taken' steps))
      go (Err r) e = refl

-- document 01's example, with the budget for its count
pub example : whole_text (bytes "p cnf 2 1\n1 2 0\n") (bytes "p cnf 2 1\n-1 0\n") (bytes "p cnf 2 0\n") (bytes "9\n")
    ≡ bytes "c steps 9\ns SATISFIABLE\nv -1 2 0\n"
unfolding table_of without_remarks lines_of kept header_of past_remarks parts_from cut not_empty trimmed same clauses number_read decimal_of digits_after run
    field_of
    put bit any count lowest padding satisfied free_literals literals answer_text answer_of decimal
example = whole_prints (bytes "p cnf 2 1\n1 2 0\n") (bytes "p cnf 2 1\n-1 0\n") (bytes "p cnf 2 0\n") refl (bytes "9\n") 9 refl refl
