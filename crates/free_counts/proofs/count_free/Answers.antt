-- `count_free` meets its contract: the checks decide, and then the counts of the left rows, the right and the public ones are stored one after the other.
use mathlib.Core.Path.{◌≡◌, sym, ◌∙◌}
use Prim.Native.Nat.{◌≤◌}
use native.Mathlib.Omega.{arith}
use lib.ListN.{length}
use Rattle.std.specs.Prelude.{Ok}
use Rattle.refusals.specs.Checks.{outcome}
use Rattle.refusals.proofs.Outcomes.{also_said, passed_on}
use Rattle.dimensions.specs.Sizes.{row_count}
use Rattle.tables.specs.Tables.{Tables, words_in}
use Rattle.tables.proofs.Accepted.{Accepted}
use Rattle.free_counts.specs.Counts.{count_checks}
use Rattle.free_counts.proofs.Checks.{passed, count-refused, count-taken}
use Rattle.free_counts.proofs.Counting.{tables-counted}
use Rattle.free_counts.proofs.count_free.Goals as goal
use Rattle.free_counts.proofs.count_free.Goals.{In_ok-check_counts, Start}

-- the tables at the start
abbrev tables : Start → Tables
tables s = words_in s.args.tables

-- the checks that are passed where rows are counted, and what they give
passes : (c : In_ok-check_counts) → outcome (count_checks c.args.d (tables (goal.at.In_ok-check_counts c).Start) c.args.run (length c.args.counts.now)) ≡ Ok tt
passes c = sym c.check_counts.ensures ∙ c.in_ok-check_counts.was

allowed : (c : In_ok-check_counts) → Accepted c.args.d (tables (goal.at.In_ok-check_counts c).Start) × (row_count c.args.d ≤ length c.args.counts.now)
allowed c = passed c.args.d (tables (goal.at.In_ok-check_counts c).Start) c.args.run (length c.args.counts.now) (passes c)

pub returns-in_err-check_counts : goal.returns-in_err-check_counts
returns-in_err-check_counts c =
    rw (passed_on _ _ c.from_residual.ensures.1) (let e = sym c.check_counts.ensures ∙ c.in_err-check_counts.was in
    let proved = also_said (sym e, count-refused c.args.d (tables (goal.at.returns-in_err-check_counts c).Start) c.args.run c.args.counts.now _ e) in
    record { value = proved.0; counts_after = proved.1.0; result_value = proved.1.1 })

pub count_rows-right_at-requires : goal.count_rows-right_at-requires
count_rows-right_at-requires c =
    let g = allowed (goal.at.count_rows-right_at-requires c).In_ok-check_counts in
    omega (arith, g.1)

pub count_rows-public_at-requires : goal.count_rows-public_at-requires
count_rows-public_at-requires c =
    let g = allowed (goal.at.count_rows-public_at-requires c).In_ok-check_counts in
    let p = c.count_rows-right_at in
    let k : length c.count_rows-right_at.new.counts ≡ length c.args.counts.now = c.count_rows-right_at.auto.counts in
    omega (arith, c.count_rows-right_at.ensures.value, g.1)

pub count_rows-requires : goal.count_rows-requires
count_rows-requires c =
    let g = allowed (goal.at.count_rows-requires c).In_ok-check_counts in
    let p = c.count_rows-right_at in
    let q = c.count_rows-public_at in
    let k : length c.count_rows-right_at.new.counts ≡ length c.args.counts.now = c.count_rows-right_at.auto.counts in
    let l : length c.count_rows-public_at.new.counts ≡ length c.count_rows-right_at.new.counts = c.count_rows-public_at.auto.counts in
    omega (arith, c.count_rows-right_at.ensures.value, c.count_rows-public_at.ensures.value, g.1)

pub returns : goal.returns
returns c =
    let e = passes (goal.at.returns c).In_ok-check_counts in
    let p = c.count_rows-right_at in
    let q = c.count_rows-public_at in
    let stored = tables-counted c.args.d (tables (goal.at.returns c).Start) (allowed (goal.at.returns c).In_ok-check_counts).0 c.args.run.t c.args.run.f
    c.args.counts.now
    _ _ _ _ _
    c.count_rows-right_at.ensures.counts_after c.count_rows-right_at.ensures.value c.count_rows-public_at.ensures.counts_after
    c.count_rows-public_at.ensures.value c.count_rows.ensures.counts_after in
    let proved = also_said (sym e, stored ∙ count-taken c.args.d (tables (goal.at.returns c).Start) c.args.run c.args.counts.now e) in
    record { value = proved.0; counts_after = proved.1.0; result_value = proved.1.1 }
