-- `search` meets its contract: the pairs of words are the rows, and the first that passes is the lowest.
use mathlib.Core.Path.{◌≡◌, sym, ap, ◌∙◌}
use mathlib.Core.Bool.{true, false}
use mathlib.Core.List.{List, map}
use Prim.Native.Nat.{ℕ, ◌+◌, ◌<◌}
use native.Mathlib.Omega.{arith}
use lib.ListN.{length}
use borrow.Author.Tests.{tests}
use Rattle.std.proofs.Common.{rules, unwrap_or}
use Rattle.std.proofs.lemmas.Iterator.{YieldsList-from_slice, IsFirst-from_position, index_from_first}
use Rattle.scan.specs.Rules.{rows_of_words}
use Rattle.explained.specs.Explanation.{shows, lowest_from}
use Rattle.tables.proofs.Pairs.{row}
use Rattle.explained.proofs.Searching.{pairs_all, misses, misses_none, misses_hit, misses_more, lowest_found, lowest_none}
use Rattle.explained.proofs.lowest.search.Goals as goal
use Rattle.explained.proofs.lowest.search.Goals.{After-position-shown}

-- the pairs before the first that shows the rule
before : (c : After-position-shown) → let a = c.args in let rows = c.as_chunks.result.0.now in
    misses (shows 32 a.t a.f a.rule) rows ≡ unwrap_or c.position-shown.result (length rows)
before c =
    let p = shows 32 c.args.t c.args.f c.args.rule in
    let Yes : List ℕ → Type 0 = λ x. p (row x) ≡ true in
    let No : List ℕ → Type 0 = λ x. p (row x) ≡ false in
    let first = IsFirst-from_position _ _ c.position-shown.result Yes No c.position-shown.ensures.ran (YieldsList-from_slice c.as_chunks.result.0.now cc)
    (λ x q k. search (rules, tests)) (λ x q k. search (rules, tests)) in
    index_from_first (misses p) Yes No (misses_none p) (misses_hit p) (misses_more p) c.as_chunks.result.0.now c.position-shown.result first

-- the pairs are the rows
rows : (c : After-position-shown) → map row c.as_chunks.result.0.now ≡ rows_of_words c.args.words.now
rows c = ap (map row) c.as_chunks.ensures.front ∙ pairs_all c.args.words.now

pub returns-in_default : goal.returns-in_default
returns-in_default c =
    let a = c.args in
    let seen = (goal.at.returns-in_default c).After-position-shown in
    let none = rw c.in_default.is at (before seen) in
    rw c.if-earlier-ne0.false (lowest_none (shows 32 a.t a.f a.rule) c.as_chunks.result.0.now a.first (omega (arith, none))
    ∙ ap (lowest_from a.first (shows 32 a.t a.f a.rule)) (rows seen))

pub returns : goal.returns
returns c =
    let a = c.args in
    let seen = (goal.at.returns c).After-position-shown in
    let one = rw c.in-Some.is at (before seen) in
    let there : c.in-Some.i < length c.as_chunks.result.0.now = search rules in
    rw c.if-earlier-ne0.false (ap (λ (k : ℕ). a.first + k) (sym one)
    ∙ lowest_found (shows 32 a.t a.f a.rule) c.as_chunks.result.0.now a.first (omega (arith, one, there))
    ∙ ap (lowest_from a.first (shows 32 a.t a.f a.rule)) (rows seen))
