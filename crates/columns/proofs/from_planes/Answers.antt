-- `from_planes` meets its contract: each refusal leaves the table, and planes that are taken have their rows stored.
use mathlib.Core.Path.{◌≡◌, sym, ◌∙◌}
use lib.ListN.{length}
use Rattle.std.specs.Prelude.{Ok}
use Rattle.refusals.specs.Checks.{outcome}
use Rattle.refusals.proofs.Outcomes.{also_said, passed_on}
use Rattle.refusals.specs.declared.Refusal.TheVariants.{PlaneBits}
use Rattle.columns.specs.Columns.{buffer_checks, stray}
use Rattle.columns.proofs.Buffers.{Within, within, refuse_size, refuse_last, take_last, rows-refused, rows_taken}
use Rattle.columns.proofs.from_planes.Goals as goal
use Rattle.columns.proofs.from_planes.Goals.{In_ok-check_buffers}

-- sizes that are taken
sizes-taken : (c : In_ok-check_buffers) → let a = c.args in outcome
    (buffer_checks a.n a.rows (length a.table.now) (length a.planes.now)) ≡ Ok tt
sizes-taken c = sym c.check_buffers.ensures ∙ c.in_ok-check_buffers.was

sizes-in : (c : In_ok-check_buffers) → let a = c.args in Within a.n a.rows (length a.table.now)
    (length a.planes.now)
sizes-in c = within _ _ _ _ (sizes-taken c)

pub returns-in_err-check_buffers : goal.returns-in_err-check_buffers
returns-in_err-check_buffers c =
    rw (passed_on _ _ c.from_residual.ensures.1) (let a = c.args in
    let e = refuse_size a.n a.rows (length a.table.now) (length a.planes.now) (stray a.n a.rows a.planes.now) PlaneBits _
    (sym c.check_buffers.ensures ∙ c.in_err-check_buffers.was) in
    let proved = also_said (e, rows-refused a.n a.rows a.planes.now a.table.now _ e) in
    record { value = proved.0; table_after = proved.1.0; result_value = proved.1.1 })

pub has_stray-requires : goal.has_stray-requires
has_stray-requires c = let w = sizes-in c in (w.n-most, w.rows-most, w.plane_words_lem)

pub returns-then-has_stray : goal.returns-then-has_stray
returns-then-has_stray c =
    let a = c.args in
    let e = refuse_last a.n a.rows (length a.table.now) (length a.planes.now) (stray a.n a.rows a.planes.now) PlaneBits
    (sizes-taken (goal.at.returns-then-has_stray c).In_ok-check_buffers) (sym c.has_stray.ensures ∙ c.if-has_stray.true) in
    let proved = also_said (e, rows-refused a.n a.rows a.planes.now a.table.now _ e) in
    record { value = proved.0; table_after = proved.1.0; result_value = proved.1.1 }

pub put_table-requires : goal.put_table-requires
put_table-requires c = let w = sizes-in (goal.at.put_table-requires c).In_ok-check_buffers in (w.rows-most, w.row_words)

pub returns : goal.returns
returns c =
    let a = c.args in
    let e = take_last a.n a.rows (length a.table.now) (length a.planes.now) (stray a.n a.rows a.planes.now) PlaneBits
    (sizes-taken (goal.at.returns c).In_ok-check_buffers)
    (sym c.has_stray.ensures ∙ c.if-has_stray.false) in
    let proved = also_said (e, c.put_table.ensures ∙ rows_taken a.n a.rows a.planes.now a.table.now e) in
    record { value = proved.0; table_after = proved.1.0; result_value = proved.1.1 }
