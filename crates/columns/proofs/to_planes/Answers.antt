-- `to_planes` meets its contract: each refusal leaves the planes, and a table that is taken has its squares stored.
use mathlib.Core.Bool.{not}
use mathlib.Core.Path.{◌≡◌, sym, ap, ◌∙◌}
use native.Mathlib.Omega.{arith}
use lib.ListN.{length}
use lib.Seq.{length-take-le}
use Rattle.std.specs.Prelude.{Ok}
use Rattle.refusals.specs.Checks.{outcome}
use Rattle.refusals.proofs.Outcomes.{also_said, passed_on}
use Rattle.refusals.specs.declared.Refusal.TheVariants.{RowBit}
use Rattle.tables.specs.Acceptance.{high}
use Rattle.columns.specs.Planes.{planes_of}
use Rattle.columns.specs.Columns.{buffer_checks}
use Rattle.columns.proofs.Buffers.{Within, within, refuse_size, refuse_last, take_last, columns-refused, columns-taken}
use Rattle.columns.proofs.to_planes.Goals as goal
use Rattle.columns.proofs.to_planes.Goals.{In_ok-check_buffers}

-- sizes that are taken
sizes-taken : (c : In_ok-check_buffers) → let a = c.args in outcome
    (buffer_checks a.n a.rows (length a.table.now) (length a.planes.now)) ≡ Ok tt
sizes-taken c = sym c.check_buffers.ensures ∙ c.in_ok-check_buffers.was

sizes-in : (c : In_ok-check_buffers) → let a = c.args in Within a.n a.rows (length a.table.now)
    (length a.planes.now)
sizes-in c = within _ _ _ _ (sizes-taken c)

pub returns-in_err-check_buffers : goal.returns-in_err-check_buffers
returns-in_err-check_buffers c =
    rw (passed_on _ _ c.from_residual.ensures.1) (let a = c.args in
    let e = refuse_size a.n a.rows (length a.table.now) (length a.planes.now) (high a.n a.rows a.table.now) RowBit _
    (sym c.check_buffers.ensures ∙ c.in_err-check_buffers.was) in
    let proved = also_said (e, columns-refused a.n a.rows a.table.now a.planes.now _ e) in
    record { value = proved.0; planes_after = proved.1.0; result_value = proved.1.1 })

pub overflow_mul-words : goal.overflow_mul-words
overflow_mul-words c = omega (arith, (sizes-in c).rows-most)

pub slice_bounds-front-end : goal.slice_bounds-front-end
slice_bounds-front-end c = sym (length-take-le _ _ (sizes-in c).row_words)

pub overflow_cast-n : goal.overflow_cast-n
overflow_cast-n c = omega (arith, (sizes-in c).n-most)

pub returns-then-not-all_below : goal.returns-then-not-all_below
returns-then-not-all_below c =
    let a = c.args in
    let e = refuse_last a.n a.rows (length a.table.now) (length a.planes.now) (high a.n a.rows a.table.now) RowBit
    (sizes-taken (goal.at.returns-then-not-all_below c).In_ok-check_buffers) (ap not (sym c.all_below.ensures) ∙ c.if-not-all_below.true-raw) in
    let proved = also_said (e, columns-refused a.n a.rows a.table.now a.planes.now _ e) in
    record { value = proved.0; planes_after = proved.1.0; result_value = proved.1.1 }

pub overflow_add-rows : goal.overflow_add-rows
overflow_add-rows c = omega (arith, (sizes-in (goal.at.overflow_add-rows c).In_ok-check_buffers).rows-most)

pub put_squares-requires : goal.put_squares-requires
put_squares-requires c = let w = sizes-in (goal.at.put_squares-requires c).In_ok-check_buffers in (omega (arith, w.rows-most), w.plane_words_lem)

pub returns : goal.returns
unfolding planes_of
returns c =
    let a = c.args in
    let e = take_last a.n a.rows (length a.table.now) (length a.planes.now) (high a.n a.rows a.table.now) RowBit
    (sizes-taken (goal.at.returns c).In_ok-check_buffers)
    (ap not (sym c.all_below.ensures) ∙ c.if-not-all_below.false-raw) in
    let proved = also_said (e, c.put_squares.ensures ∙ columns-taken a.n a.rows a.table.now a.planes.now e) in
    record { value = proved.0; planes_after = proved.1.0; result_value = proved.1.1 }
