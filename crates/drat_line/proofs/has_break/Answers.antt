-- `has_break` meets its contract: `any` says whether some byte passes the definition's test.
use Rattle.std.proofs.Common.{rules, tests, ◌∙◌}
use Rattle.std.proofs.lemmas.Iterator.{YieldsList-from_slice}
use Rattle.std.proofs.lemmas.Iterator.Search.{any_from_yields_List}
use Rattle.drat_line.specs.Lines.{is_break}
use Rattle.drat_line.proofs.Reading.{some_break}
use Rattle.drat_line.proofs.has_break.Goals as goal

pub returns : goal.returns
returns c =
    any_from_yields_List is_break _ _ _ c.any.ensures.ran (YieldsList-from_slice c.args.part.now (cc)) (λ x b q k. search (rules, tests))
    ∙ some_break c.args.part.now
