-- `forkhemit_replace` meets its contract: what the late condition meets and leaves is what it does by the numbers as bytes and by the run in the words, and its
-- outcome is given as a number.
use mathlib.Core.Path.{ap, ◌∙◌}
use Rattle.refusals.specs.Checks.{outcome}
use Rattle.refusals.specs.Numbers.{code_of}
use Rattle.tables.specs.Tables.{all_tables}
use Rattle.late.specs.Replacement.{late_checks, tables_after}
use Rattle.host_late.proofs.forkhemit_replace.Goals as goal

pub returns : goal.returns
returns c =
    let e = c.replace.ensures in
    let t = all_tables c.args.left.now c.args.right.now c.args.public.now in
    let d = c.dimensions-d.ensures in
    let run = c.load-held.ensures in
    let wanted = c.condition_of-wanted.ensures in record {
      value = c.code.ensures ∙ ap code_of (e.value ∙ (λ i. outcome (late_checks (d i) t (run i) (wanted i))));
      left_after = e.left_after ∙ (λ i. (tables_after (d i) t (run i) (wanted i)).left);
      right_after = e.right_after ∙ (λ i. (tables_after (d i) t (run i) (wanted i)).right);
    }
