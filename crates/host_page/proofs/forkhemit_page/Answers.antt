-- `forkhemit_page` meets its contract: the page of the run in the words, with the outcome as a number.
use mathlib.Core.Path.{ap, ◌∙◌}
use lib.ListN.{length}
use Rattle.refusals.specs.Checks.{outcome}
use Rattle.refusals.specs.Numbers.{code_of}
use Rattle.state.specs.declared.Run.{Run}
use Rattle.page.specs.Entries.{page_checks, page_after}
use Rattle.host_page.proofs.forkhemit_page.Goals as goal

pub returns : goal.returns
returns c =
    let shown = c in
    let load = shown in
    let a = load.args in
    let held = load.load-run.ensures in record {
      value = c.code.ensures
          ∙ ap code_of (shown.show.ensures.value ∙ ap (λ (run : Run). outcome (page_checks run a.pilots a.watches (length a.page.now))) held);
      page_after = shown.show.ensures.page_after ∙ ap (λ (run : Run). page_after run a.pilots a.watches a.page.now) held;
    }
