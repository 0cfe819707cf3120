-- `find_clause` meets its contract by what reading the header gives.
use Rattle.dimacs.proofs.Texts.{limits}
use Rattle.excerpts.proofs.Clauses.{no_header, clause_found}
use Rattle.excerpts.proofs.find_clause.Goals as goal

pub returns-in_default : goal.returns-in_default
returns-in_default c =
    no_header c.args.text.now _ c.read_header-header.result c.read_header-header.ensures.value _ c.in_default.is

pub nth_clause-requires : goal.nth_clause-requires
nth_clause-requires c = (limits 1 c.args.text.now c.read_header-header.result c.read_header-header.ensures.value _ _ c.in-Ok.is).0

pub returns : goal.returns
returns c =
    clause_found c.args.text.now _ c.read_header-header.result c.read_header-header.ensures.value _ _ c.in-Ok.is _ c.nth_clause.ensures
