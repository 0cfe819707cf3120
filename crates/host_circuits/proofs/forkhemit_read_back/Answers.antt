-- `forkhemit_read_back` meets its contract: the run read back is that of n as a byte, and stored where it is taken.
use mathlib.Core.Path.{ap, ◌∙◌}
use Rattle.readback.specs.declared.Read.{Read}
use Rattle.refusals.specs.Numbers.{code_of}
use Rattle.host_circuits.specs.Circuits.{read_stored}
use Rattle.host_circuits.proofs.forkhemit_read_back.Goals as goal

pub returns : goal.returns
returns c =
    let words = c.args.run.now in
    let gave = rw c.byte.ensures at c.read_back-read.ensures.value in record {
      value = c.code.ensures ∙ ap (λ (r : Read). code_of r.outcome) gave;
      run_after = c.store_if.ensures ∙ ap (λ (r : Read). read_stored r words) gave;
    }
