-- That a conflict can be reached by forcing literals, in whatever order. `reaches` takes the lowest variable first; that it makes no
-- difference is proved in proofs/Confluence.
use Rattle.std.specs.Prelude.{ℕ, ◌<◌, ◌≡◌, true, List}
use Rattle.words.specs.declared.Row.{Row}
use Rattle.words.specs.Sets.{bit}
use Rattle.scan.specs.Rules.{unsatisfied_with, forces}
use Rattle.scan.proofs.RowLaws.{In}
use Rattle.propagation.specs.Propagation.{true_with, false_with}

-- a row is in conflict; or a row's one free literal is made true, and a conflict can be reached from there
pub data Reachable (rows : List Row) : ℕ → ℕ → Type 0 where
  conflict : {t f : ℕ} (r : Row) → In r rows → unsatisfied_with 0 32 t f r ≡ true → Reachable rows t f
  force : {t f : ℕ} (r : Row) (v : ℕ) → In r rows → v < 32 → forces 32 t f v r ≡ true
      → Reachable rows (true_with v (bit r.positive v) t) (false_with v (bit r.positive v) f) → Reachable rows t f
