-- Demand 1 for what the programs print: the texts' checks come to what reading them gives, and what follows is printed by its refusal.
use mathlib.Core.Path.{◌≡◌, refl, sym, ap, ap₂, ◌∙◌}
use mathlib.Core.Bool.{Bool, true, false, not, cond}
use mathlib.Core.List.{List, [], ◌∷◌, ◌++◌, map}
use Prim.Native.Nat.{ℕ}
use lib.Dec.{eqb}
use Rattle.std.specs.Prelude.{Result, Ok, Err}
use Rattle.refusals.specs.Numbers.{Outcome}
use Rattle.refusals.specs.declared.Refusal.{Refusal}
use Rattle.refusals.specs.declared.Refusal.TheVariants.{NumberLine, TextsDiffer}
use Rattle.refusals.specs.Checks.{Check, check, outcome, given}
use Rattle.words.specs.Sets.{put}
use Rattle.words.specs.Sameness.{same}
use Rattle.lexer.specs.Bytes.{run, trimmed}
use Rattle.lexer.specs.Remarks.{lines_of, kept, without_remarks}
use Rattle.lexer.specs.Pieces.{cut, not_empty, parts_from}
use Rattle.numbers.specs.Numbers.{digits_after, decimal_of, number_read}
use Rattle.header.specs.Header.{past_remarks, header_of}
use Rattle.clauses.specs.Clauses.{clauses}
use Rattle.tables.specs.Rows.{rows_of}
use Rattle.tables.specs.Acceptance.{table_checks}
use Rattle.dimacs.specs.Text.{TextTable, table_of}
use Rattle.dimacs.specs.ThreeTexts.{ThreeTables, refused_texts, accepted_texts, texts_outcome, together, text_tables}
use Rattle.solver.specs.declared.Answer.{Answer}
use Rattle.solver.specs.Step.{always}
use Rattle.solver.specs.Entries.{answer_of}
use Rattle.solver.proofs.Entries.{solve-taken}
use Rattle.lines.specs.Numbers.{Field, field, no_field, field_of, on_field, short_line, budget_of, budget_code, dimension_line_of}
use Rattle.answers.specs.Printed.{answer_text, refusal_text, solved_text}
use Rattle.reply.specs.Reply.{dimensions_of, tables_in, answered, reply_text}
use Rattle.reply.proofs.Accepted.{tables-taken}
use Rattle.dimacs.proofs.Accepted.{accepted-texts}
use Rattle.netlist.specs.Netlist.{gates_on}
use Rattle.bristol.specs.Text.{circuit_text}
use Rattle.text.specs.Refused.{refused_line}
use Rattle.listing.specs.Listing.{list_checks, size_text}
use Rattle.whole_budget.specs.Applications.{whole_answer}
use Rattle.whole_reply.specs.WholeReply.{served_checks, whole_answered, whole_text}
use Rattle.host_texts.specs.Texts.{texts_of}
use Rattle.demand1.specs.Calls.{first_number}
use Rattle.demand1.specs.Texts.{named_text, text_judged, differ}
use Rattle.demand1.specs.Programs.{first_printed, Demand1Printed, line_judged, steps_in, three_judged, pair, whole_program, unread, sizes_in, circuit}
use Rattle.demand1.proofs.Shapes.{outcome-then}
use Rattle.demand1.proofs.OneText.{text_exact, table-named, overlong-true}
use Rattle.demand1.proofs.Checking.{Fair', budgeted, of_line, budget_fair, budget_named}

-- what is printed follows from the outcome of the checks
printed_by : (refusal : Refusal → List ℕ) (cs : List Check) (answer : List ℕ) → given (outcome cs) answer refusal ≡ first_printed refusal cs answer
unfolding first_printed
printed_by refusal [] answer = refl
printed_by refusal (c ∷ cs) answer = go c.fails (outcome cs) (first_printed refusal cs answer) (printed_by refusal cs answer)
  where
    go : (b : Bool) (o : Outcome) (rest : List ℕ) → given o answer refusal ≡ rest
        → given (cond b (Err c.refusal) o) answer refusal ≡ cond b (refusal c.refusal) rest
    go true o rest e = refl
    go false o rest e = e

-- ---- three texts

module _ (left right public : List ℕ) where
  abbrev read : ThreeTables
  read = text_tables left right public

  together-outcome : (l r p : TextTable) → (together l r p).outcome ≡ texts_outcome l r p
  together-outcome l r p = go (texts_outcome l r p)
    where
      go : (o : Outcome) → (given o (accepted_texts l r p) refused_texts).outcome ≡ o
      go (Ok _) = refl
      go (Err r) = refl

  -- the three texts' checks come to what reading them gives
  three-exact : outcome (three_judged left right public) ≡ read.outcome
  three-exact =
      let last = check (differ (texts_of left right public)) TextsDiffer ∷ [] in
      outcome-then (text_judged 1 left) (text_judged 1 right ++ (text_judged 0 public ++ last)) (table_of 1 left).outcome _ (text_exact 1 left)
      (outcome-then (text_judged 1 right) (text_judged 0 public ++ last) (table_of 1 right).outcome _ (text_exact 1 right)
      (outcome-then (text_judged 0 public) last (table_of 0 public).outcome (outcome last) (text_exact 0 public) refl))
      ∙ sym (together-outcome (table_of 1 left) (table_of 1 right) (table_of 0 public))

  -- and the bytes named are read alike
  texts-named : read ≡ text_tables (named_text left) (named_text right) (named_text public)
  texts-named =
      ap₂ (λ (l r : TextTable). together l r (table_of 0 public)) (table-named 1 left) (table-named 1 right)
      ∙ ap (λ (p : TextTable). together (table_of 1 (named_text left)) (table_of 1 (named_text right)) p) (table-named 0 public)

-- ---- the pair program

module _ (t : ThreeTables) (readable : t.outcome ≡ Ok tt → outcome (table_checks (dimensions_of t) (tables_in t)) ≡ Ok tt) where
  abbrev answer_for : Result ℕ Refusal → List ℕ
  answer_for b = answer_text t.n (answer_of t.n (always (rows_of (dimensions_of t) (tables_in t))) (steps_in b))

  pair-by : (b : Result ℕ Refusal) → Fair' b → (o : Outcome) → t.outcome ≡ o
      → solved_text t.n (given t.outcome (answered t b) Err)
      ≡ given (given o (outcome (check (not (eqb (budget_code b) 0)) NumberLine ∷ [])) Err) (answer_for b) refusal_text
  pair-by b f (Err r) e = ap (λ (o : Outcome). solved_text t.n (given o (answered t b) Err)) e
  pair-by b of_line (Ok _) e = ap (λ (o : Outcome). solved_text t.n (given o (answered t b) Err)) e
  pair-by b (budgeted steps) (Ok _) e =
      ap (λ (o : Outcome). solved_text t.n (given o (answered t b) Err)) e
      ∙ ap (solved_text t.n) (sym (solve-taken (dimensions_of t) (tables_in t) steps (sym (readable e))
      (answer_of t.n (always (rows_of (dimensions_of t) (tables_in t))) steps) refl))

pair-first : (left right public line : List ℕ) → reply_text left right public line
    ≡ first_printed refusal_text (three_judged left right public ++ line_judged line) (pair.answer (left, right, public, line))
unfolding reply_text
pair-first left right public line =
    let t = text_tables left right public in
    pair-by t (λ taken. tables-taken t (accepted-texts left right public taken)) (budget_of line) (budget_fair line) t.outcome refl
    ∙ ap (λ (o : Outcome). given o (pair.answer (left, right, public, line)) refusal_text)
    (sym (outcome-then (three_judged left right public) (line_judged line) t.outcome (outcome (line_judged line)) (three-exact left right public) refl))
    ∙ printed_by refusal_text (three_judged left right public ++ line_judged line) (pair.answer (left, right, public, line))

pair-occurs : map (λ a. first_number (pair.judged a)) pair.examples ≡ 0 ∷ pair.numbers
unfolding first_number field_of table_of without_remarks lines_of kept header_of past_remarks parts_from cut not_empty run trimmed same clauses number_read
    decimal_of
    digits_after put
pair-occurs = rw overlong-true

pub of_pair : Demand1Printed pair
unfolding reply_text
of_pair = record {
  first = λ (left, right, public, line). pair-first left right public line;
  order = λ a. refl;
  occurs = pair-occurs;
  alone = λ (left, right, public, line).
      ap₂ (λ (t : ThreeTables) (b : Result ℕ Refusal). solved_text t.n (given t.outcome (answered t b) Err))
      (texts-named left right public) (budget_named line);
}

-- ---- the program that goes through the whole budget

module _ (t : ThreeTables) where
  abbrev whole_for : Result ℕ Refusal → List ℕ
  whole_for b = answer_text t.n (whole_answer (dimensions_of t) (tables_in t) (steps_in b))

  whole_by : (b : Result ℕ Refusal) → Fair' b → (o : Outcome) → t.outcome ≡ o
      → solved_text t.n (given t.outcome (whole_answered t b) Err)
      ≡ given (given o (outcome (check (not (eqb (budget_code b) 0)) NumberLine ∷ served_checks (dimensions_of t) (steps_in b))) Err) (whole_for b)
      refusal_text
  whole_by b f (Err r) e = ap (λ (o : Outcome). solved_text t.n (given o (whole_answered t b) Err)) e
  whole_by b of_line (Ok _) e = ap (λ (o : Outcome). solved_text t.n (given o (whole_answered t b) Err)) e
  whole_by b (budgeted steps) (Ok _) e =
      ap (λ (o : Outcome). solved_text t.n (given o (whole_answered t b) Err)) e
      ∙ go (whole_answer (dimensions_of t) (tables_in t) steps) (outcome (served_checks (dimensions_of t) steps))
    where
      go : (a : Answer) (o : Outcome) → solved_text t.n (given o (Ok a) Err) ≡ given o (answer_text t.n a) refusal_text
      go a (Ok _) = refl
      go a (Err r) = refl

module _ (left right public line : List ℕ) where
  abbrev last : List Check
  last = line_judged line ++ served_checks (dimensions_of (text_tables left right public)) (steps_in (budget_of line))

  whole-first : whole_text left right public line
      ≡ first_printed refusal_text (three_judged left right public ++ last) (whole_program.answer (left, right, public, line))
  unfolding whole_text
  whole-first =
      let t = text_tables left right public in
      whole_by t (budget_of line) (budget_fair line) t.outcome refl
      ∙ ap (λ (o : Outcome). given o (whole_program.answer (left, right, public, line)) refusal_text)
      (sym (outcome-then (three_judged left right public) last t.outcome (outcome last) (three-exact left right public) refl))
      ∙ printed_by refusal_text (three_judged left right public ++ last) (whole_program.answer (left, right, public, line))

whole-occurs : map (λ a. first_number (whole_program.judged a)) whole_program.examples ≡ 0 ∷ whole_program.numbers
unfolding first_number field_of table_of without_remarks lines_of kept header_of past_remarks parts_from cut not_empty run trimmed same clauses number_read
    decimal_of
    digits_after put
whole-occurs = rw overlong-true

pub of_whole : Demand1Printed whole_program
unfolding whole_text
of_whole = record {
  first = λ (left, right, public, line). whole-first left right public line;
  order = λ a. refl;
  occurs = whole-occurs;
  alone = λ (left, right, public, line).
      ap₂ (λ (t : ThreeTables) (b : Result ℕ Refusal). solved_text t.n (given t.outcome (whole_answered t b) Err))
      (texts-named left right public) (budget_named line);
}

-- ---- the circuit program

-- a line is refused with 8 alone
data FairSize : Result (ℕ × ℕ × ℕ × ℕ) Refusal → Type 0 where
  sized : (n left right public : ℕ) → FairSize (Ok (n, left, right, public))
  unsized : FairSize (Err NumberLine)

field_fair : (f : Field) (k : ℕ → List ℕ → Result (ℕ × ℕ × ℕ × ℕ) Refusal) → ((v : ℕ) (rest : List ℕ) → FairSize (k v rest)) → FairSize
    (on_field f (Err NumberLine) k)
field_fair no_field k h = unsized
field_fair (field v rest) k h = h v rest

short_fair : (b : Bool) (n left right public : ℕ) → FairSize (cond b (Ok (n, left, right, public)) (Err NumberLine))
short_fair true n left right public = sized n left right public
short_fair false n left right public = unsized

size_fair : (line : List ℕ) → FairSize (dimension_line_of line)
size_fair line =
    field_fair (field_of 32 line) _ (λ n second. field_fair (field_of 32 second) _ (λ left third. field_fair (field_of 32 third) _ (λ right fourth.
    field_fair (field_of 10 fourth) _ (λ public rest. short_fair (short_line line rest) n left right public))))

circuit-by : (z : Result (ℕ × ℕ × ℕ × ℕ) Refusal) → FairSize z
    → size_text z ≡ given (outcome (check (unread z) NumberLine ∷ list_checks (sizes_in z))) (circuit_text (sizes_in z) (gates_on (sizes_in z))) refused_line
circuit-by z (sized n left right public) = refl
circuit-by z unsized = refl

circuit-occurs : map (λ a. first_number (circuit.judged a)) circuit.examples ≡ 0 ∷ circuit.numbers
unfolding first_number field_of run digits_after
circuit-occurs = refl

pub of_circuit : Demand1Printed circuit
of_circuit = record {
  first = λ line. circuit-by (dimension_line_of line) (size_fair line) ∙ printed_by refused_line (circuit.judged line) (circuit.answer line);
  order = λ a. refl;
  occurs = circuit-occurs;
  alone = λ a. refl;
}
