-- Demand 1 for the programs' own functions, by value: what they print for texts and a line.
use Rattle.std.specs.Prelude.{ℕ, suc, ◌≡◌, Bool, true, false, not, cond, List, [], ◌∷◌, ◌++◌, map, eqb, take, Result, Ok, Err}
use Rattle.refusals.specs.declared.Refusal.{Refusal}
use Rattle.refusals.specs.declared.Refusal.TheVariants.{NumberLine, TextsDiffer}
use Rattle.refusals.specs.Checks.{Check, check}
use Rattle.dimensions.specs.declared.Dimensions.{Dimensions}
use Rattle.dimensions.specs.Sizes.{dimensions}
use Rattle.lexer.specs.Spelling.{bytes}
use Rattle.lexer.specs.Bytes.{run}
use Rattle.numbers.specs.Numbers.{is_digit}
use Rattle.text.specs.Refused.{refused_line}
use Rattle.dimacs.specs.ThreeTexts.{text_tables}
use Rattle.lines.specs.Numbers.{budget_of, budget_code, dimension_line_of}
use Rattle.answers.specs.Printed.{answer_text, refusal_text}
use Rattle.reply.specs.Reply.{dimensions_of, tables_in, reply_text}
use Rattle.tables.specs.Rows.{rows_of}
use Rattle.solver.specs.Step.{always}
use Rattle.solver.specs.Entries.{answer_of}
use Rattle.bristol.specs.Text.{circuit_text}
use Rattle.netlist.specs.Netlist.{gates_on}
use Rattle.listing.specs.Listing.{list_checks, listed}
use Rattle.whole_budget.specs.Applications.{whole_answer}
use Rattle.whole_reply.specs.WholeReply.{served_checks, whole_text}
use Rattle.host_texts.specs.Texts.{texts_of}
use Rattle.demand1.specs.Calls.{numbers_of, first_number}
use Rattle.demand1.specs.Texts.{named_text, text_judged, bad_texts, good_text, differ}

-- a program: what it prints, its checks, and what it prints where none applies; how a refusal is printed
pub record Program (A : Type 0) : Type 0 where
  pub printed : A → List ℕ
  pub judged : A → List Check
  pub answer : A → List ℕ
  pub refusal : Refusal → List ℕ
  pub numbers : List ℕ
  pub named : A → A
  pub examples : List A

-- the refusal of the first check that applies as it is printed; else the answer
unfoldable pub first_printed : (Refusal → List ℕ) → List Check → List ℕ → List ℕ
first_printed refusal [] answer = answer
first_printed refusal (c ∷ cs) answer = cond c.fails (refusal c.refusal) (first_printed refusal cs answer)

-- the demand
pub record Demand1Printed {A : Type 0} (p : Program A) : Type 0 where
  pub first : (a : A) → p.printed a ≡ first_printed p.refusal (p.judged a) (p.answer a)
  pub order : (a : A) → numbers_of (p.judged a) ≡ p.numbers
  pub occurs : map (λ (a : A). first_number (p.judged a)) p.examples ≡ 0 ∷ p.numbers
  pub alone : (a : A) → p.printed a ≡ p.printed (p.named a)

-- ---- the pair program

-- 8
abbrev pub line_judged : List ℕ → List Check
line_judged line = check (not (eqb (budget_code (budget_of line)) 0)) NumberLine ∷ []

-- the steps of a line that is read
abbrev pub steps_in : Result ℕ Refusal → ℕ
steps_in (Ok steps) = steps
steps_in (Err r) = 0

-- what refuses the left text, the right one, the public one; 6
abbrev pub three_judged : List ℕ → List ℕ → List ℕ → List Check
three_judged left right public =
    text_judged 1 left ++ (text_judged 1 right ++ (text_judged 0 public ++ (check (differ (texts_of left right public)) TextsDiffer ∷ [])))

-- reply::reply: three texts and a line
abbrev pub pair : Program (List ℕ × List ℕ × List ℕ × List ℕ)
pair = record {
  printed = λ (left, right, public, line). reply_text left right public line;
  judged = λ (left, right, public, line). three_judged left right public ++ line_judged line;
  answer = λ (left, right, public, line).
      let t = text_tables left right public in
      answer_text t.n (answer_of t.n (always (rows_of (dimensions_of t) (tables_in t))) (steps_in (budget_of line)));
  refusal = refusal_text;
  numbers = 5 ∷ 1 ∷ 2 ∷ 5 ∷ 5 ∷ 1 ∷ 2 ∷ 5 ∷ 5 ∷ 1 ∷ 2 ∷ 5 ∷ 6 ∷ 8 ∷ [];
  named = λ (left, right, public, line). (named_text left, named_text right, named_text public, take (suc (run is_digit line)) line);
  examples =
      let line = bytes "1\n" in
      (good_text, good_text, good_text, line)
      ∷ map (λ text. (text, good_text, good_text, line)) bad_texts
      ++ (map (λ text. (good_text, text, good_text, line)) bad_texts
      ++ (map (λ text. (good_text, good_text, text, line)) bad_texts
      ++ (good_text, good_text, bytes "p cnf 3 0\n", line) ∷ (good_text, good_text, good_text, bytes "1") ∷ []));
}

-- ---- the program that goes through the whole budget

-- whole_reply::reply_whole: as the pair program, then 23 and 7
abbrev pub whole_program : Program (List ℕ × List ℕ × List ℕ × List ℕ)
whole_program = record {
  printed = λ (left, right, public, line). whole_text left right public line;
  judged = λ (left, right, public, line).
      three_judged left right public
      ++ (line_judged line ++ served_checks (dimensions_of (text_tables left right public)) (steps_in (budget_of line)));
  answer = λ (left, right, public, line).
      let t = text_tables left right public in answer_text t.n (whole_answer (dimensions_of t) (tables_in t) (steps_in (budget_of line)));
  refusal = refusal_text;
  numbers = 5 ∷ 1 ∷ 2 ∷ 5 ∷ 5 ∷ 1 ∷ 2 ∷ 5 ∷ 5 ∷ 1 ∷ 2 ∷ 5 ∷ 6 ∷ 8 ∷ 23 ∷ 7 ∷ [];
  named = λ (left, right, public, line). (named_text left, named_text right, named_text public, take (suc (run is_digit line)) line);
  examples =
      let line = bytes "1\n" in
      let large = bytes "p cnf 20 1\n1 0\n" in
      (good_text, good_text, good_text, line)
      ∷ map (λ text. (text, good_text, good_text, line)) bad_texts
      ++ (map (λ text. (good_text, text, good_text, line)) bad_texts
      ++ (map (λ text. (good_text, good_text, text, line)) bad_texts
      ++ (good_text, good_text, bytes "p cnf 3 0\n", line) ∷ (good_text, good_text, good_text, bytes "1")
      ∷ (good_text, good_text, good_text, bytes "65536\n") ∷ (large, large, large, line) ∷ []));
}

-- ---- the circuit program

-- the line is not read
abbrev pub unread : Result (ℕ × ℕ × ℕ × ℕ) Refusal → Bool
unread (Ok (n, left, right, public)) = false
unread (Err r) = true

-- the dimensions of a line that is read
abbrev pub sizes_in : Result (ℕ × ℕ × ℕ × ℕ) Refusal → Dimensions
sizes_in (Ok (n, left, right, public)) = dimensions n left right public
sizes_in (Err r) = dimensions 0 0 0 0

-- listing::list: a line
abbrev pub circuit : Program (List ℕ)
circuit = record {
  printed = listed;
  judged = λ line. check (unread (dimension_line_of line)) NumberLine ∷ list_checks (sizes_in (dimension_line_of line));
  answer = λ line. let d = sizes_in (dimension_line_of line) in circuit_text d (gates_on d);
  refusal = refused_line;
  numbers = 8 ∷ 1 ∷ 2 ∷ 7 ∷ [];
  named = λ line. line;
  examples = bytes "2 1 1 1\n" ∷ bytes "2 1 1\n" ∷ bytes "33 1 1 1\n" ∷ bytes "2 0 1 1\n" ∷ bytes "20 1 1 1\n" ∷ [];
}
