-- Demands 2 and 3 of three texts that were read: their tables are accepted, so they hold of them, and a host that repeats the circuit over them to the end sees
-- the very bytes that the pair program prints for the texts and a budget. From what the reply's proofs say of texts that were read, and from what follows from
-- the demand.
use mathlib.Core.Path.{◌≡◌, refl, sym, ap, ◌∙◌}
use mathlib.Core.List.{List}
use Prim.Native.Nat.{ℕ, ◌≤◌, min}
use native.Mathlib.Omega.{arith}
use Rattle.std.specs.Prelude.{Ok}
use Rattle.dimensions.specs.declared.Dimensions.{Dimensions}
use Rattle.tables.specs.Tables.{Tables}
use Rattle.dimacs.specs.ThreeTexts.{ThreeTables, text_tables}
use Rattle.dimacs.proofs.Accepted.{accepted-texts}
use Rattle.solver.specs.Entries.{answer_of}
use Rattle.lines.specs.Numbers.{budget_of}
use Rattle.answers.specs.Printed.{answer_text, solved_text}
use Rattle.reply.specs.Reply.{dimensions_of, tables_in, reply_text}
use Rattle.reply.proofs.Accepted.{n-high, tables-taken, rows_read, reply-answers}
use Rattle.demand2.specs.Demand2.{Demand2}
use Rattle.demand2.proofs.Demand2.{demand2}
use Rattle.repeats.specs.Repeats.{Attempt, long_ones}
use Rattle.repeats.proofs.RepeatChecks.{sizes-taken}
use Rattle.demand3.specs.Demand3.{history_of, answer_for, answer_in, Follows, seen, AllAccepts, Demand3}
use Rattle.demand3.proofs.Demand3.{demand3}
use Rattle.demand3.proofs.Consequences.{answer-is}

module _ (left right public : List ℕ) (taken : (text_tables left right public).outcome ≡ Ok tt) where
  abbrev pub read : ThreeTables
  read = text_tables left right public

  abbrev pub sizes : Dimensions
  sizes = dimensions_of read

  -- the tables that were read, at every repeat
  abbrev pub tables : ℕ → Tables
  tables = λ i. tables_in read

  pub read-accepted : AllAccepts sizes tables
  read-accepted i = tables-taken read (accepted-texts left right public taken)

  circuit_demand3 : Demand3 sizes
  circuit_demand3 = demand3 sizes (sizes-taken sizes (tables_in read) (read-accepted 0))

  -- the budgeted run over the rows that were read
  pub reply_demand2 : (steps : ℕ) → Demand2 read.n (rows_read left right public) steps (answer_of read.n (rows_read left right public) steps)
  reply_demand2 steps = demand2 sizes (tables_in read) steps (read-accepted 0)

  -- after every repeat, the plain run over the rows that were read
  pub reply-history : (budget : ℕ) (attempts : List Attempt) → Follows sizes tables budget attempts (history_of sizes tables budget attempts)
  reply-history = circuit_demand3.history tables read-accepted

  -- at the end the composed answer is the pair program's
  pub reply_demand3 : (line : List ℕ) (steps : ℕ) → budget_of line ≡ Ok steps → (attempts : List Attempt)
      → (answer_for sizes tables steps).count ≤ long_ones sizes attempts → (seen sizes tables steps attempts).3 ≡ reply_text left right public line
  unfolding reply_text
  reply_demand3 line steps e attempts long =
      let low : min read.n 32 ≡ read.n = omega (arith, n-high left right public) in
      ap (answer_text (min read.n 32)) (answer-is sizes circuit_demand3 tables read-accepted steps attempts (answer_for sizes tables steps) refl long)
      ∙ ap (λ (k : ℕ). answer_text k (answer_for sizes tables steps)) low
      ∙ sym (ap (solved_text read.n) (reply-answers left right public line steps taken e))

  -- the text of the answer that the repeats give
  pub reply_printed : (line : List ℕ) (steps : ℕ) → budget_of line ≡ Ok steps → (attempts : List Attempt)
      → (answer_for sizes tables steps).count ≤ long_ones sizes attempts
      → answer_text (min read.n 32) (answer_in read.n (history_of sizes tables steps attempts)) ≡ reply_text left right public line
  reply_printed = reply_demand3
