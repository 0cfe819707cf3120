-- What a step tells over the fronts of accepted buffers, at 32 variables, is what it tells over the tables at n: a front holds the table's rows, and accepted
-- rows are judged alike.
use mathlib.Core.Path.{◌≡◌, refl, ap, ap₂, ◌∙◌}
use mathlib.Core.Bool.{Bool, true, ◌&&◌}
use mathlib.Core.List.{List, [], ◌∷◌, ◌++◌}
use Prim.Native.Nat.{ℕ, suc, ◌*◌, ◌≤◌}
use lib.ListN.{take}
use Rattle.std.specs.Prelude.{Ok}
use Rattle.refusals.specs.Checks.{outcome}
use Rattle.words.specs.declared.Row.{Row}
use Rattle.words.proofs.Truth.{on}
use Rattle.dimensions.specs.declared.Dimensions.{Dimensions}
use Rattle.tables.specs.Tables.{Tables}
use Rattle.tables.specs.Rows.{free_in, rows_of}
use Rattle.tables.specs.Acceptance.{low_row, table_checks}
use Rattle.tables.proofs.Accepted.{accepted}
use Rattle.occurrences.specs.Index.{holds_literal}
use Rattle.state.specs.State.{State}
use Rattle.scan.specs.declared.Rule.{Rule}
use Rattle.scan.specs.declared.Rule.TheVariants as rules
use Rattle.scan.specs.Rules.{rows_of_words, all_rows, rule}
use Rattle.scan.proofs.RowLaws.{In, in_head, in_tail}
use Rattle.truth.proofs.LowRows.{accepted-low}
use Rattle.solver.proofs.WidthLaws.{with-alike, rule_width}
use Rattle.scan.proofs.Fronts.{rows_in_front}
use Rattle.explained.specs.declared.Told.TheVariants.{Forced}
use Rattle.explained.specs.Explanation.{lowest_from, lowest_row, shows, told_back, told}

-- tests that agree on these rows
lowest_cong : (p q : Row → Bool) (rows : List Row) (i : ℕ) → ((r : Row) → In r rows → p r ≡ q r) → lowest_from i p rows ≡ lowest_from i q rows
unfolding lowest_from
lowest_cong p q [] i h = refl
lowest_cong p q (r ∷ rs) i h =
    on (q r)
    (λ e. rw (h r (in_head r rs) ∙ e, lowest_from) (rw (e, lowest_from)))
    (λ e. rw (h r (in_head r rs) ∙ e, lowest_from) (rw (e, lowest_from) (lowest_cong p q rs (suc i) (λ x m. h x (in_tail x r rs m)))))

module _ (n k : ℕ) (wide : n ≤ k) (t f : ℕ) where
  shows_alike : (by : Rule) (r : Row) → low_row n r ≡ true → shows k t f by r ≡ shows n t f by r
  shows_alike rules.AllSatisfied r low = refl
  shows_alike rules.Conflict r low = with-alike n k wide t f 0 r low
  shows_alike (rules.Unit v positive) r low = ap (λ (b : Bool). (b && free_in r t f v) && holds_literal positive v r) (with-alike n k wide t f 1 r low)
  shows_alike (rules.Choice v) r low = refl

  row-alike : (by : Rule) (rows : List Row) → all_rows (low_row n) rows ≡ true → lowest_row (shows k t f by) rows ≡ lowest_row (shows n t f by) rows
  row-alike by rows low = lowest_cong (shows k t f by) (shows n t f by) rows 1 (λ r m. shows_alike by r (m (low_row n) low))

told-alike : (n k : ℕ) → n ≤ k → (rows : List Row) → all_rows (low_row n) rows ≡ true → (s : State) (by : Rule) → told k rows s by ≡ told n rows s by
unfolding told
told-alike n k wide rows low s rules.AllSatisfied = refl
told-alike n k wide rows low s rules.Conflict = ap (λ (i : ℕ). told_back i s.levels) (row-alike n k wide s.t s.f rules.Conflict rows low)
told-alike n k wide rows low s (rules.Unit v value) = ap (λ (i : ℕ). Forced i v value) (row-alike n k wide s.t s.f (rules.Unit v value) rows low)
told-alike n k wide rows low s (rules.Choice v) = refl

pub told_of_fronts : (d : Dimensions) (tables : Tables) → outcome (table_checks d tables) ≡ Ok tt → (s : State)
    → let front : ℕ → List ℕ → List Row = λ rows words. rows_of_words (take (2 * rows) words) in
    let fronts = front d.left tables.left ++ (front d.right tables.right ++ front d.public tables.public) in
    told 32 fronts s (rule 32 fronts s.t s.f) ≡ told d.n (rows_of d tables) s (rule d.n (rows_of d tables) s.t s.f)
told_of_fronts d tables ok s =
    let a = accepted d tables ok in
    let rows = rows_of d tables in
    ap₂ (λ (x y : List Row). told 32 (x ++ y) s (rule 32 (x ++ y) s.t s.f)) (rows_in_front tables.left d.left a.left-length)
    (ap₂ ◌++◌ (rows_in_front tables.right d.right a.right_length) (rows_in_front tables.public d.public a.public_length))
    ∙ ap (told 32 rows s) (rule_width d.n 32 a.size.n-most s.t s.f rows (accepted-low d tables ok))
    ∙ told-alike d.n 32 a.size.n-most rows (accepted-low d tables ok) s (rule d.n rows s.t s.f)
