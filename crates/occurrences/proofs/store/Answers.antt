-- `store` meets its contract: the words that have a place are copied there, and the others change nothing.
use Rattle.std.proofs.Common.{◌≡◌, ◌+◌, ◌-◌, ◌++◌, List, ℕ, take, drop, sym, ap, ◌∙◌, arith}
use Rattle.occurrences.specs.RowWords.{table_words}
use Rattle.occurrences.proofs.Storing.{front, stored-all}
use Rattle.occurrences.proofs.store.Goals as goal

pub returns-clause-all_after : goal.returns-clause-all_after
returns-clause-all_after c =
    let a = c.args in
    let from = c.min-from.result in
    let stored = c.min-stored.result in
    let count : from + stored - from ≡ stored = omega arith in
    rw (c.copy_from_slice.ensures.after, count)
    (ap (λ (xs : List ℕ). take from a.all.now ++ (xs ++ drop stored (drop from a.all.now))) (sym (front a.rows a.words.now stored (omega arith)))
    ∙ stored-all (table_words a.rows a.words.now) a.all.now a.at from stored c.min-from.ensures (omega arith))
