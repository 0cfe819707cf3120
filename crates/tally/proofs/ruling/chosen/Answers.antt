-- `chosen` meets its contract: what `find` gives of the variables is the lowest that passes.
use Rattle.std.proofs.Common.{◌≡◌, ℕ, Bool, true, false, ◌&&◌, ◌∙◌, rules}
use Rattle.std.proofs.lemmas.Iterator.{first_from_Range}
use borrow.Author.Tests.{tests}
use Rattle.words.specs.Sets.{bit}
use Rattle.tally.specs.Ruling.{stands_in}
use Rattle.tally.proofs.RulingLaws.{lowest_found}
use Rattle.tally.proofs.ruling.chosen.Goals as goal

pub returns : goal.returns
returns c =
    let x = c.args in
    let p : ℕ → Bool = λ v. bit x.unset v && stands_in x.index.now v x.set in
    c.unwrap_or.ensures
    ∙ lowest_found p c.find.result
    (first_from_Range _ _ _ c.find.result (λ v. p v ≡ true) (λ v. p v ≡ false) c.find.ensures.ran
    (λ v q k. search (rules, tests)) (λ v q k. search (rules, tests)))
