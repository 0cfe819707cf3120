-- `all_below` meets its contract: the chain tests each word as the definition does.
use Rattle.std.proofs.Common.{◌∙◌, ◌^◌, rules, nat_lt}
use Rattle.std.proofs.lemmas.Iterator.{YieldsList-from_slice}
use Rattle.std.proofs.lemmas.Iterator.Search.{all_from_yields_List}
use borrow.Author.Tests.{tests}
use Rattle.tables.proofs.Below.{below-all}
use Rattle.tables.proofs.all_below.Goals as goal

pub returns : goal.returns
returns c =
    all_from_yields_List (λ w. nat_lt w (2 ^ c.args.n)) _ _ c.all.result c.all.ensures.ran (YieldsList-from_slice c.args.words.now cc)
    (λ x b q k. search (rules, tests))
    ∙ below-all _ _
