-- `clause_bytes` meets its contract: the place says which text and which part of it.
use mathlib.Core.Path.{◌≡◌, sym, ◌∙◌}
use native.Mathlib.Omega.{arith}
use Rattle.std.specs.Prelude.{Ok}
use Rattle.tables.specs.Tables.{Tables, words_in}
use Rattle.excerpts.specs.Excerpts.{placed}
use Rattle.excerpts.proofs.Places.{no_bytes, left-within, right_within, left-bytes, right_bytes}
use Rattle.excerpts.proofs.clause_bytes.Goals as goal
use Rattle.excerpts.proofs.clause_bytes.Goals.{In-Ok, Start}

-- the tables
abbrev tables : Start → Tables
tables s = words_in s.args.tables

-- the place that is known is the definition's
is-placed : (c : In-Ok) → Ok c.in-Ok.place ≡ placed c.args.d (tables (goal.at.In-Ok c).Start) c.args.left_text.now c.args.right_text.now c.args.number
is-placed c = sym c.in-Ok.is ∙ c.clause_place-asked.ensures.value

pub returns-in_default : goal.returns-in_default
returns-in_default c =
    no_bytes c.args.d (tables (goal.at.returns-in_default c).Start) c.args.left_text.now c.args.right_text.now c.args.number _
    (sym c.in_default.is ∙ c.clause_place-asked.ensures.value)

pub overflow_add-result : goal.overflow_add-result
overflow_add-result c =
    let within = left-within c.args.d (tables (goal.at.overflow_add-result c).Start) c.args.left_text.now c.args.right_text.now c.args.number _
    (is-placed (goal.at.overflow_add-result c).In-Ok) c.if-place-eq0.true in
    record { fits = omega (arith, within) }

pub slice_bounds-result-end-then-place-eq0 : goal.slice_bounds-result-end-then-place-eq0
slice_bounds-result-end-then-place-eq0 c =
    left-within c.args.d (tables (goal.at.slice_bounds-result-end-then-place-eq0 c).Start) c.args.left_text.now c.args.right_text.now c.args.number _
    (is-placed (goal.at.slice_bounds-result-end-then-place-eq0 c).In-Ok) c.if-place-eq0.true

pub returns-then-place-eq0 : goal.returns-then-place-eq0
returns-then-place-eq0 c =
    left-bytes c.args.d (tables (goal.at.returns-then-place-eq0 c).Start) c.args.left_text.now c.args.right_text.now c.args.number _
    (is-placed (goal.at.returns-then-place-eq0 c).In-Ok) c.if-place-eq0.true

pub overflow_add-result-2 : goal.overflow_add-result-2
overflow_add-result-2 c =
    let within = right_within c.args.d (tables (goal.at.overflow_add-result-2 c).Start) c.args.left_text.now c.args.right_text.now c.args.number _
    (is-placed (goal.at.overflow_add-result-2 c).In-Ok) c.if-place-eq0.false in
    record { fits = omega (arith, within) }

pub slice_bounds-result-end-2 : goal.slice_bounds-result-end-2
slice_bounds-result-end-2 c =
    right_within c.args.d (tables (goal.at.slice_bounds-result-end-2 c).Start) c.args.left_text.now c.args.right_text.now c.args.number _
    (is-placed (goal.at.slice_bounds-result-end-2 c).In-Ok) c.if-place-eq0.false

pub returns : goal.returns
returns c =
    right_bytes c.args.d (tables (goal.at.returns c).Start) c.args.left_text.now c.args.right_text.now c.args.number _ (is-placed (goal.at.returns c).In-Ok)
    c.if-place-eq0.false
