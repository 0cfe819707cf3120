-- `forkhemit_solve_whole` meets its contract: the run is that of the numbers as bytes, and what it gives is given on.
use mathlib.Core.Path.{ap, ◌∙◌}
use Rattle.std.specs.Prelude.{Result}
use Rattle.refusals.specs.declared.Refusal.{Refusal}
use Rattle.solver.specs.declared.Answer.{Answer}
use Rattle.tables.specs.Tables.{all_tables}
use Rattle.solver.specs.Entries.{solved_code, solved_numbers}
use Rattle.lent.specs.Lent.{numbers_or}
use Rattle.whole_budget.specs.WholeBudget.{solved_whole, gates_after_whole, bytes_after_whole, wires_after_whole}
use Rattle.host_whole.proofs.forkhemit_solve_whole.Goals as goal

pub returns : goal.returns
returns c =
    let a = c.args in
    let t = all_tables a.left.now a.right.now a.public.now in
    let d = c.dimensions-d.ensures in
    let e = c.solve_whole.ensures in
    let gave = e.value ∙ (λ i. solved_whole (d i) t a.budget a.gates.now a.bytes.now a.wires.now) in record {
      value = c.give.ensures.value ∙ ap solved_code gave;
      gates_after = e.gates_after ∙ (λ i. gates_after_whole (d i) t a.budget a.gates.now a.bytes.now a.wires.now);
      bytes_after = e.bytes_after ∙ (λ i. bytes_after_whole (d i) t a.budget a.gates.now a.bytes.now a.wires.now);
      wires_after = e.wires_after ∙ (λ i. wires_after_whole (d i) t a.budget a.gates.now a.bytes.now a.wires.now);
      answer_after = c.give.ensures.answer_after ∙ ap (λ (x : Result Answer Refusal). numbers_or (solved_numbers x) a.answer.now) gave;
    }
