-- `bits` meets its contract: `all` answers as the definition does, a byte at a time.
use Rattle.std.proofs.Common.{◌&&◌, ltb, refl, ◌∙◌, rules, tests}
use Rattle.std.specs.List.{list_all}
use Rattle.std.proofs.lemmas.Iterator.{YieldsList-from_slice}
use Rattle.std.proofs.lemmas.Iterator.Search.{all_from_yields_List}
use Rattle.std.proofs.lemmas.List.Recursion.{same_from_clauses}
use Rattle.gates.specs.Memory as Memory
use Rattle.gates.proofs.bits.Goals as goal

pub returns : goal.returns
unfolding Memory.bits
returns c =
    all_from_yields_List (λ x. ltb x 2) _ _ _ c.all.ensures.ran (YieldsList-from_slice c.args.bytes.now cc) (λ x b q k. search (rules, tests))
    ∙ same_from_clauses (list_all (λ x. ltb x 2)) Memory.bits (λ x b. ltb x 2 && b) refl (λ _ _. refl) (λ _ _. refl) c.args.bytes.now
