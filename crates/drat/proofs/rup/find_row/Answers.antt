-- `find_row` meets its contract: the pairs of words are the rows, and the first that passes is the place.
use mathlib.Core.Path.{◌≡◌, sym, ap, ◌∙◌}
use mathlib.Core.Bool.{true, false}
use mathlib.Core.List.{List, map}
use Prim.Native.Nat.{ℕ, ◌*◌, ◌/◌}
use lib.ListN.{length, take}
use lib.Seq.{length-take-le}
use Rattle.std.specs.Simd.{first_chunks}
use Rattle.tables.specs.Rows.{rows_from}
use Rattle.drat.specs.Places.{place}
use native.Mathlib.Omega.{arith}
use borrow.Author.Tests.{tests}
use Rattle.std.proofs.Common.{rules}
use Rattle.std.proofs.lemmas.Iterator.{YieldsList-from_slice, IsFirst-from_position, index_from_first}
use Rattle.drat.specs.Proofs.{is_same_row}
use Rattle.tables.proofs.Pairs.{row}
use Rattle.drat.proofs.Present.{front_rows, pair_place, place_hit, place_miss, place_none}
use Rattle.drat.proofs.rup.find_row.Goals as goal

pub returns-clause-value : goal.returns-clause-value
returns-clause-value c =
    let Yes : List ℕ → Type 0 = λ x. is_same_row c.args.clause (row x) ≡ true in
    let No : List ℕ → Type 0 = λ x. is_same_row c.args.clause (row x) ≡ false in
    let first = IsFirst-from_position _ _ c.position.result Yes No c.position.ensures.ran (YieldsList-from_slice c.as_chunks.result.0.now cc)
    (λ x q k. search (rules, tests)) (λ x q k. search (rules, tests)) in
    let found = index_from_first (pair_place c.args.clause) Yes No (place_none c.args.clause) (place_hit c.args.clause) (place_miss c.args.clause)
    c.as_chunks.result.0.now c.position.result first in
    let number : length (take (2 * c.args.count) c.args.words.now) / 2 ≡ c.args.count =
    omega (arith, length-take-le (2 * c.args.count) c.args.words.now (omega arith)) in
    let rows : map row c.as_chunks.result.0.now ≡ rows_from c.args.words.now 0 c.args.count =
    ap (map row) (c.as_chunks.ensures.front ∙ ap (λ (k : ℕ). first_chunks 2 k (take (2 * c.args.count) c.args.words.now)) number)
    ∙ front_rows c.args.words.now c.args.count in
    sym (rw (c.as_chunks.ensures.front_len ∙ number) at found) ∙ ap (place c.args.clause) rows
