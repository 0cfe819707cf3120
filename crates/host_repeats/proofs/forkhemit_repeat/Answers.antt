-- `forkhemit_repeat` meets its contract: the repeats are those of the numbers as bytes and of the run in the words, and last run, number and mark are written
-- where they are taken.
use mathlib.Core.Path.{◌≡◌, refl, sym, ap, ◌∙◌}
use mathlib.Core.Bool.{Bool, true, false}
use mathlib.Core.List.{[], ◌∷◌}
use native.Mathlib.Omega.{arith}
use Prim.Native.Nat.{ℕ}
use mir.Val.{bool_byte}
use Rattle.std.specs.Prelude.{Result, Ok, Err}
use Rattle.words.specs.Booleans.{digit}
use Rattle.refusals.specs.Checks.{given}
use Rattle.refusals.specs.Numbers.{Outcome, code_of}
use Rattle.refusals.specs.declared.Refusal.{Refusal}
use Rattle.tables.specs.Tables.{Tables, all_tables}
use Rattle.repeats.specs.declared.Ending.{Ending}
use Rattle.repeats.specs.Repeating.{Repeated, repeated, gates_after, bytes_after, wires_after, ending_result}
use Rattle.codes.specs.Codes.{host_dimensions}
use Rattle.stored.specs.Words.{run_words}
use Rattle.lent.specs.Lent.{stored_if}
use Rattle.host_repeats.specs.Repeats.{repeat_in}
use Rattle.host_repeats.proofs.forkhemit_repeat.Goals as goal
use Rattle.host_repeats.proofs.forkhemit_repeat.Goals.{After-repeat, Start}

-- the mark as a number
bool_digit : (b : Bool) → bool_byte b ≡ digit b
bool_digit true = refl
bool_digit false = refl

-- what a call gives says of its outcome, number and mark
taken : (x : Repeated) (e : Ending) → ending_result x ≡ Ok e → (x.outcome ≡ Ok tt) × (e ≡ record { repeats = x.repeats; mark = x.mark })
taken x e = go x.outcome
  where
    go : (o : Outcome) → given {A = Result Ending Refusal} o (Ok (record { repeats = x.repeats; mark = x.mark })) Err ≡ Ok e
        → (o ≡ Ok tt) × (e ≡ record { repeats = x.repeats; mark = x.mark })
    go (Ok _) h = (refl, cc)
    go (Err q) h = absurd (let z : ◌≡◌ {A = ℕ} 0 1 = cc in omega arith)

refused : (x : Repeated) (r : Refusal) → ending_result x ≡ Err r → x.outcome ≡ Err r
refused x r = go x.outcome
  where
    go : (o : Outcome) → given {A = Result Ending Refusal} o (Ok (record { repeats = x.repeats; mark = x.mark })) Err ≡ Err r → o ≡ Err r
    go (Ok _) h = absurd (let z : ◌≡◌ {A = ℕ} 0 1 = cc in omega arith)
    go (Err q) h = cc

-- ---- what the call gives, in the contract's words

abbrev tables : Start → Tables
tables s = all_tables s.args.left.now s.args.right.now s.args.public.now

abbrev said : Start → Repeated
said s = let a = s.args in
    repeat_in (host_dimensions a.n a.left_rows a.right_rows a.public_rows) (tables s) a.times a.gates.now a.bytes.now a.wires.now a.run.now

gave : (c : After-repeat) → let x = said (goal.at.After-repeat c).Start in
    (c.repeat.result ≡ ending_result x) × (c.repeat.new.run ≡ x.run)
gave c =
    let a = c.args in
    let t = tables (goal.at.After-repeat c).Start in
    let r : repeated c.dimensions-d.result t a.times a.gates.now a.bytes.now a.wires.now c.load-last.result ≡ said (goal.at.After-repeat c).Start =
    λ i. repeated (c.dimensions-d.ensures i) t a.times a.gates.now a.bytes.now a.wires.now (c.load-last.ensures i) in
    (c.repeat.ensures.value ∙ ap ending_result r, c.repeat.ensures.run_after ∙ ap (λ (x : Repeated). x.run) r)

pub returns-in-Ok : goal.returns-in-Ok
returns-in-Ok c =
    let a = c.args in
    let s = (goal.at.returns-in-Ok c).Start in
    let t = tables s in
    let x = said s in
    let d = c.dimensions-d.ensures in
    let run = c.load-last.ensures in
    let e = c.repeat.ensures in
    let told = gave (goal.at.returns-in-Ok c).After-repeat in
    let is = taken x _ (sym told.0 ∙ c.in-Ok.is) in record {
      value = sym (ap code_of is.0);
      gates_after = e.gates_after ∙ (λ i. gates_after (d i) t a.times a.gates.now a.bytes.now a.wires.now (run i));
      bytes_after = e.bytes_after ∙ (λ i. bytes_after (d i) t a.times a.gates.now a.bytes.now a.wires.now (run i));
      wires_after = e.wires_after ∙ (λ i. wires_after (d i) t a.times a.gates.now a.bytes.now a.wires.now (run i));
      run_after = c.words.ensures ∙ ap run_words told.1 ∙ sym (ap (λ (o : Outcome). stored_if o x.run a.run.now) is.0);
      repeated_after = ap (λ (k : ℕ). c.in-Ok.ending.repeats ∷ (k ∷ [])) (bool_digit c.in-Ok.ending.mark)
          ∙ ap (λ (y : Ending). y.repeats ∷ (digit y.mark ∷ [])) is.1
          ∙ sym (ap (λ (o : Outcome). given o (x.repeats ∷ (digit x.mark ∷ [])) (λ q. a.repeated.now)) is.0);
    }

pub returns-in-Err : goal.returns-in-Err
returns-in-Err c =
    let a = c.args in
    let s = (goal.at.returns-in-Err c).Start in
    let t = tables s in
    let x = said s in
    let d = c.dimensions-d.ensures in
    let run = c.load-last.ensures in
    let e = c.repeat.ensures in
    let told = gave (goal.at.returns-in-Err c).After-repeat in
    let is = refused x _ (sym told.0 ∙ c.in-Err.is) in record {
      value = c.from.ensures ∙ sym (ap code_of is);
      gates_after = e.gates_after ∙ (λ i. gates_after (d i) t a.times a.gates.now a.bytes.now a.wires.now (run i));
      bytes_after = e.bytes_after ∙ (λ i. bytes_after (d i) t a.times a.gates.now a.bytes.now a.wires.now (run i));
      wires_after = e.wires_after ∙ (λ i. wires_after (d i) t a.times a.gates.now a.bytes.now a.wires.now (run i));
      run_after = sym (ap (λ (o : Outcome). stored_if o x.run a.run.now) is);
      repeated_after = sym (ap (λ (o : Outcome). given o (x.repeats ∷ (digit x.mark ∷ [])) (λ q. a.repeated.now)) is);
    }
