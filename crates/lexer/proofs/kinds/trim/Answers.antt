-- `trim` meets its contract: the bytes that it counts from the back are the run in front of the text turned round.
use Rattle.std.proofs.Common.{rules, tests, ◌-◌, ◌∙◌, ap, length, ℕ}
use Rattle.std.specs.Prelude.{reverse}
use Rattle.std.proofs.lemmas.Iterator.Adapters.{YieldsList-from_rev_slice}
use Rattle.std.proofs.lemmas.Iterator.Consumers.{count_from_yields_List}
use Rattle.std.proofs.lemmas.Iterator.Search.{YieldsList-from_take_while}
use lib.ListN.{length-drop, length-reverse}
use Rattle.lexer.specs.Bytes.{trimmed}
use Rattle.lexer.specs.Kinds.{passes}
use Rattle.lexer.proofs.Runs.{run_is}
use Rattle.lexer.proofs.kinds.trim.Goals as goal

pub returns : goal.returns
unfolding trimmed
returns c =
    let p = passes c.args.kind in
    let text = c.args.text.now in
    let counted = count_from_yields_List c.take_while.result _ c.count.ensures.ran
    (YieldsList-from_take_while _ p (YieldsList-from_rev_slice text (cc)) c.take_while.ensures.closure c.take_while.ensures.done
    (λ x b q k. search (rules, tests))) in
    simp (length-reverse, length-drop) (ap (λ (x : ℕ). length text - x) (counted ∙ run_is p (reverse text)))
