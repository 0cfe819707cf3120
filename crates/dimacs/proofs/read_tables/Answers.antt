-- `read_tables` meets its contract: each refusal is the definition's at the same text, and tables that agree in n are joined.
use mathlib.Core.Path.{◌≡◌, ap}
use mathlib.Core.Bool.{Bool, cond}
use Rattle.std.specs.Prelude.{Ok, Err}
use Rattle.refusals.specs.Numbers.{Outcome}
use Rattle.refusals.specs.Checks.{given}
use Rattle.refusals.specs.declared.Refusal.TheVariants.{TextsDiffer}
use Rattle.refusals.proofs.Outcomes.{passed_on}
use Rattle.dimacs.specs.Text.{TextTable, table_of, as_read}
use Rattle.dimacs.specs.ThreeTexts.{refused_texts, accepted_texts, shared_n, together, texts_read}
use Rattle.dimacs.proofs.ThreeTexts.{left-first, then_right, then_public, table-is, taken, refusal-is, texts-said, none_read, by_n}
use Rattle.dimacs.proofs.read_tables.Goals as goal
use Rattle.dimacs.proofs.read_tables.Goals.{Start, In_ok-l, In_ok-r, In_ok-p}

-- the three texts
abbrev left : Start → TextTable
left s = table_of 1 s.args.left.now

abbrev right : Start → TextTable
right s = table_of 1 s.args.right.now

abbrev public : Start → TextTable
public s = table_of 0 s.args.public.now

-- what is read of them
left-taken : (c : In_ok-l) → (left (goal.at.In_ok-l c).Start).outcome ≡ Ok tt
left-taken c = taken (left (goal.at.In_ok-l c).Start) _ c.read.ensures.value _ c.in_ok-l.was

right_taken : (c : In_ok-r) → (right (goal.at.In_ok-r c).Start).outcome ≡ Ok tt
right_taken c = taken (right (goal.at.In_ok-r c).Start) _ c.read-2.ensures.value _ c.in_ok-r.was

by_tables : (c : In_ok-p) → let s = (goal.at.In_ok-p c).Start in let l = as_read c.in_ok-l.l in let r = as_read c.in_ok-r.r in let p = as_read c.in_ok-p.p in
    (o : Outcome) → shared_n l r p ≡ o → texts_read (given o (accepted_texts l r p) refused_texts) ≡ texts_read (together (left s) (right s) (public s))
by_tables c =
    let s = (goal.at.In_ok-p c).Start in
    by_n (left s) (right s) (public s) _ _ _ (table-is (left s) _ c.read.ensures.value _ c.in_ok-l.was)
    (table-is (right s) _ c.read-2.ensures.value _ c.in_ok-r.was) (table-is (public s) _ c.read-3.ensures.value _ c.in_ok-p.was)

-- by whether two of them differ in n
abbrev shared : Bool → Outcome
shared differ = cond differ (Err TextsDiffer) (Ok tt)

pub returns-in_err-l : goal.returns-in_err-l
returns-in_err-l c =
    let s = (goal.at.returns-in_err-l c).Start in
    rw (passed_on _ _ c.from_residual.ensures.1)
    (let proved = texts-said (left s) (right s) (public s) (none_read (left s) (right s) (public s) _
    (left-first (left s) (right s) (public s) _ (refusal-is (left s) _ c.read.ensures.value _ c.in_err-l.was))) in
    record { value = proved.0; outcome_value = proved.1 })

pub returns-in_err-r : goal.returns-in_err-r
returns-in_err-r c =
    let s = (goal.at.returns-in_err-r c).Start in
    rw (passed_on _ _ c.from_residual-in_err-r.ensures.1)
    (let proved = texts-said (left s) (right s) (public s) (none_read (left s) (right s) (public s) _
    (then_right (left s) (right s) (public s) (left-taken (goal.at.returns-in_err-r c).In_ok-l) _
    (refusal-is (right s) _ c.read-2.ensures.value _ c.in_err-r.was))) in
    record { value = proved.0; outcome_value = proved.1 })

pub returns-in_err-p : goal.returns-in_err-p
returns-in_err-p c =
    let s = (goal.at.returns-in_err-p c).Start in
    rw (passed_on _ _ c.from_residual-in_err-p.ensures.1)
    (let proved = texts-said (left s) (right s) (public s) (none_read (left s) (right s) (public s) _
    (then_public (left s) (right s) (public s) (left-taken (goal.at.returns-in_err-p c).In_ok-l) (right_taken (goal.at.returns-in_err-p c).In_ok-r) _
    (refusal-is (public s) _ c.read-3.ensures.value _ c.in_err-p.was))) in
    record { value = proved.0; outcome_value = proved.1 })

pub returns-then-l-r : goal.returns-then-l-r
returns-then-l-r c =
    let s = (goal.at.returns-then-l-r c).Start in
    let proved = texts-said (left s) (right s) (public s) (by_tables (goal.at.returns-then-l-r c).In_ok-p _ (ap shared c.if-l-r.true)) in
    record { value = proved.0; outcome_value = proved.1 }

pub returns : goal.returns
returns c =
    let s = (goal.at.returns c).Start in
    let proved = texts-said (left s) (right s) (public s) (by_tables (goal.at.returns c).In_ok-p _ (ap shared c.if-l-r.false)) in
    record { value = proved.0; outcome_value = proved.1 }
