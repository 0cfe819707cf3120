-- `forkhemit_fresh` meets its contract: the check and the run are those of n as a byte, and the run is stored where it is taken.
use mathlib.Core.Path.{ap, ◌∙◌}
use Prim.Native.Nat.{ℕ}
use Rattle.refusals.specs.Checks.{outcome}
use Rattle.refusals.specs.Numbers.{code_of}
use Rattle.state.specs.State.{fresh, run_of}
use Rattle.lent.specs.Lent.{stored_if}
use Rattle.codes.specs.Codes.{variable_checks}
use Rattle.host_runs.proofs.forkhemit_fresh.Goals as goal

pub returns : goal.returns
returns c =
    let words = c.args.run.now in
    let judged = c.check_variables-outcome.ensures.value in
    let k = c.byte-k.ensures in record {
      value = c.code.ensures ∙ ap code_of (judged ∙ ap (λ (x : ℕ). outcome (variable_checks x)) k);
      run_after = c.store_if.ensures ∙ (λ i. stored_if (judged i) (c.fresh.ensures i) words)
          ∙ ap (λ (x : ℕ). stored_if (outcome (variable_checks x)) (run_of x fresh) words) k;
    }
