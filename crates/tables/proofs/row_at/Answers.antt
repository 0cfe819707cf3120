-- `row_at` meets its contract: each word is the one at its place, and past the end both are 0.
use mathlib.Core.Path.{sym, ap₂}
use Prim.Native.Nat.{ℕ}
use native.Mathlib.Omega.{arith}
use lib.ListN.{get_or-eq_default}
use Rattle.words.specs.declared.Row.{Row}
use Rattle.tables.proofs.row_at.Goals as goal

abbrev row : ℕ → ℕ → Row
row p n = record { positive = p; negative = n }

pub returns-then-words-i : goal.returns-then-words-i
returns-then-words-i c =
    let words = c.args.words.now in
    sym (ap₂ row (get_or-eq_default words 0 (omega (arith, c.if-words-i.true))) (get_or-eq_default words 0 (omega (arith, c.if-words-i.true))))

pub returns : goal.returns
returns c = ap₂ row c.word_at.ensures c.word_at-2.ensures
