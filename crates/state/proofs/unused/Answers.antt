-- `unused` meets its contract: the chain's test of each level's three words is the definition's.
use Rattle.std.proofs.Common.{◌∙◌, rules, bit_or, nat_eq}
use Rattle.std.proofs.lemmas.Iterator.{YieldsList-from_slice}
use Rattle.std.proofs.lemmas.Iterator.Adapters.{YieldsList-from_skip}
use Rattle.std.proofs.lemmas.Iterator.Search.{all_from_yields_List}
use borrow.Author.Tests.{tests}
use Rattle.state.specs.declared.Level.{Level}
use Rattle.state.proofs.StateTests.{unused-all}
use Rattle.state.proofs.unused.Goals as goal

pub returns : goal.returns
returns c =
    all_from_yields_List (λ (l : Level). nat_eq (bit_or (bit_or l.t l.f) l.chosen) 0) _ _ c.all.result c.all.ensures.ran
    (YieldsList-from_skip c.args.depth (YieldsList-from_slice c.args.levels cc) cc) (λ x b q k. search (rules, tests))
    ∙ unused-all _
