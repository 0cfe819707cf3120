-- `get_one` meets its contract: the first byte of the part that is 1 is the lowest wire that is set.
use borrow.Author.Rules.{rules}
use borrow.Author.Tests.{tests}
use mathlib.Core.Path.{◌≡◌, ◌∙◌}
use mathlib.Core.Logic.{◌≢◌}
use Rattle.std.proofs.lemmas.Iterator.{YieldsList-from_slice, IsFirst-from_position}
use Rattle.readback.proofs.Words.{lowest-found}
use Rattle.readback.proofs.unpacking.get_one.Goals as goal

pub returns-clause-value : goal.returns-clause-value
returns-clause-value c =
    c.unwrap_or.ensures
    ∙ lowest-found c.args.bytes.now c.args.at c.args.n c.requires c.position.result
    (IsFirst-from_position _ _ _ (λ x. x ≡ 1) (λ x. x ≢ 1) c.position.ensures.ran (YieldsList-from_slice _ c.iter.ensures.rest)
    (λ x q k. search (rules, tests)) (λ x q k. search (rules, tests)))
