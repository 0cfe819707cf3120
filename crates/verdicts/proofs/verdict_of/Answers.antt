-- `verdict_of` meets its contract: by the standing.
use mathlib.Core.Path.{sym, ap}
use Rattle.state.specs.declared.Standing.{Standing}
use Rattle.verdicts.specs.Verdicts.{verdict_of}
use Rattle.verdicts.proofs.Models.{with-verdict}
use Rattle.verdicts.proofs.verdict_of.Goals as goal

pub returns-in-Open : goal.returns-in-Open
returns-in-Open c =
    let run = c.args.run in
    let proved = with-verdict run.standing run.t _ (sym (ap (λ (st : Standing). verdict_of st run.t) c.in-Open.is)) in
    record { value = proved.0; result_value = proved.1 }

pub returns-in-Satisfied : goal.returns-in-Satisfied
returns-in-Satisfied c =
    let run = c.args.run in
    let proved = with-verdict run.standing run.t _ (sym (ap (λ (st : Standing). verdict_of st run.t) c.in-Satisfied.is)) in
    record { value = proved.0; result_value = proved.1 }

pub returns-in-Refuted : goal.returns-in-Refuted
returns-in-Refuted c =
    let run = c.args.run in
    let proved = with-verdict run.standing run.t _ (sym (ap (λ (st : Standing). verdict_of st run.t) c.in-Refuted.is)) in
    record { value = proved.0; result_value = proved.1 }
