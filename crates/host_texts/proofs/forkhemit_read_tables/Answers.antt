-- `forkhemit_read_tables` meets its contract: tables and sizes are written where the texts are taken, have room and share their n.
use mathlib.Core.Path.{◌≡◌, ap, sym, ◌∙◌}
use Prim.Native.Nat.{ℕ}
use lib.ListN.{length}
use Rattle.std.specs.Prelude.{Ok, Err}
use Rattle.refusals.specs.Checks.{given}
use Rattle.refusals.specs.Numbers.{Outcome, number_of, code_of}
use Rattle.refusals.specs.declared.Refusal.{Refusal}
use Rattle.tables.specs.Tables.{Tables, all_tables}
use Rattle.dimacs.specs.Text.{as_read}
use Rattle.dimacs.proofs.ThreeTexts.{table-is, taken, refusal-is}
use Rattle.host_texts.specs.Texts.{Texts, all_texts, texts_of, text_sizes, rows_given, read_outcome, tables_read, sizes_read}
use Rattle.host_texts.proofs.ThreeTexts.{left-refused, right_refused, public_refused}
use Rattle.host_texts.proofs.forkhemit_read_tables.Goals as goal
use Rattle.host_texts.proofs.forkhemit_read_tables.Goals.{After-check_texts, In-Ok, In-Ok-read, In-Ok-read-2, Start}

-- ---- texts and lent tables

abbrev texts : Start → Texts
texts s = texts_of s.args.left_text.now s.args.right_text.now s.args.public_text.now

abbrev lent : Start → Tables
lent s = all_tables s.args.left.now s.args.right.now s.args.public.now

-- what they are refused with, or not
abbrev judged : Start → Outcome
judged s = read_outcome (texts s) (lent s)

-- where they are refused nothing is written
kept : (s : Start) (q : Refusal) → Err q ≡ judged s → (k : ℕ) → k ≡ number_of q
    → record {
      value : k ≡ code_of (judged s);
      left_after : s.args.left.now ≡ (tables_read (texts s) (lent s)).left;
      right_after : s.args.right.now ≡ (tables_read (texts s) (lent s)).right;
      public_after : s.args.public.now ≡ (tables_read (texts s) (lent s)).public;
      sizes_after : s.args.sizes.now ≡ sizes_read (texts s) (lent s) s.args.sizes.now;
    }
kept s q is k e =
    let t = texts s in
    let l = lent s in
    record {
      value = e ∙ ap code_of is;
      left_after = ap (λ (o : Outcome). rows_given o t.left l.left) is;
      right_after = ap (λ (o : Outcome). rows_given o t.right l.right) is;
      public_after = ap (λ (o : Outcome). rows_given o t.public l.public) is;
      sizes_after = ap (λ (o : Outcome). given o (text_sizes t) (λ q. s.args.sizes.now)) is;
    }

-- ---- what is read

left-taken : (c : In-Ok) → (texts (goal.at.In-Ok c).Start).left.outcome ≡ Ok tt
left-taken c = taken (texts (goal.at.In-Ok c).Start).left _ c.read.ensures.value _ c.in-Ok.is

right_taken : (c : In-Ok-read) → (texts (goal.at.In-Ok-read c).Start).right.outcome ≡ Ok tt
right_taken c = taken (texts (goal.at.In-Ok-read c).Start).right _ c.read-2.ensures.value _ c.in-Ok-read.is

-- the texts
read-are : (c : In-Ok-read-2) → all_texts (as_read c.in-Ok.table) (as_read c.in-Ok-read.table) (as_read c.in-Ok-read-2.table)
    ≡ texts (goal.at.In-Ok-read-2 c).Start
read-are c =
    let t = texts (goal.at.In-Ok-read-2 c).Start in
    λ i. all_texts (table-is t.left _ c.read.ensures.value _ c.in-Ok.is i) (table-is t.right _ c.read-2.ensures.value _ c.in-Ok-read.is i)
    (table-is t.public _ c.read-3.ensures.value _ c.in-Ok-read-2.is i)

-- and so the outcome of the checks is the definition's
checked : (c : After-check_texts) → c.check_texts.result ≡ judged (goal.at.After-check_texts c).Start
checked c =
    let l = lent (goal.at.After-check_texts c).Start in
    c.check_texts.ensures ∙ ap (λ (t : Texts). read_outcome t l) (read-are (goal.at.After-check_texts c).In-Ok-read-2)

-- ---- the answers

pub returns-in-Err : goal.returns-in-Err
returns-in-Err c =
    let s = (goal.at.returns-in-Err c).Start in
    let t = texts s in
    kept s _ (left-refused t (length (lent s).left) (length (lent s).right) (length (lent s).public) _
    (refusal-is t.left _ c.read.ensures.value _ c.in-Err.is)) _ c.from.ensures

pub returns-in-Err-read : goal.returns-in-Err-read
returns-in-Err-read c =
    let s = (goal.at.returns-in-Err-read c).Start in
    let t = texts s in
    kept s _ (right_refused t (length (lent s).left) (length (lent s).right) (length (lent s).public) (left-taken (goal.at.returns-in-Err-read c).In-Ok) _
    (refusal-is t.right _ c.read-2.ensures.value _ c.in-Err-read.is)) _ c.from-in-Err-read.ensures

pub returns-in-Err-read-2 : goal.returns-in-Err-read-2
returns-in-Err-read-2 c =
    let s = (goal.at.returns-in-Err-read-2 c).Start in
    let t = texts s in
    kept s _ (public_refused t (length (lent s).left) (length (lent s).right) (length (lent s).public) (left-taken (goal.at.returns-in-Err-read-2 c).In-Ok)
    (right_taken (goal.at.returns-in-Err-read-2 c).In-Ok-read) _
    (refusal-is t.public _ c.read-3.ensures.value _ c.in-Err-read-2.is)) _ c.from-in-Err-read-2.ensures

pub returns-in-Err-check_texts : goal.returns-in-Err-check_texts
returns-in-Err-check_texts c =
    kept (goal.at.returns-in-Err-check_texts c).Start _ (sym c.in-Err-check_texts.is ∙ checked (goal.at.returns-in-Err-check_texts c).After-check_texts) _
    c.from-in-Err-check_texts.ensures

pub returns : goal.returns
returns c =
    let s = (goal.at.returns c).Start in
    let l = lent s in
    let is = sym c.in_default.is ∙ checked (goal.at.returns c).After-check_texts in
    let e = read-are (goal.at.returns c).In-Ok-read-2 in
    record {
      value = ap code_of is;
      left_after = c.put_rows.ensures ∙ (λ i. rows_given (is i) (e i).left l.left);
      right_after = c.put_rows-2.ensures ∙ (λ i. rows_given (is i) (e i).right l.right);
      public_after = c.put_rows-3.ensures ∙ (λ i. rows_given (is i) (e i).public l.public);
      sizes_after = λ i. given (is i) (text_sizes (e i)) (λ q. s.args.sizes.now);
    }
