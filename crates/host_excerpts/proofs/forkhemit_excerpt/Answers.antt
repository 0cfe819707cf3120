-- `forkhemit_excerpt` meets its contract: checks and bytes are those of the numbers as bytes; where the checks take the call, the part given is the clause's,
-- and only its room is left to judge.
use mathlib.Core.Path.{◌≡◌, sym, ◌∙◌}
use Rattle.dimensions.specs.declared.Dimensions.{Dimensions}
use Rattle.tables.specs.Tables.{Tables, all_tables}
use Rattle.refusals.specs.Checks.{outcome}
use Rattle.codes.specs.Codes.{host_dimensions}
use Rattle.excerpts.specs.Excerpts.{excerpt_checks, clause_bytes}
use Rattle.host_excerpts.proofs.Parts.{refused_call, taken_call}
use Rattle.host_excerpts.proofs.forkhemit_excerpt.Goals as goal
use Rattle.host_excerpts.proofs.forkhemit_excerpt.Goals.{After-check_excerpt, Start}

-- the dimensions, from the numbers as bytes
abbrev sizes : Start → Dimensions
sizes s = host_dimensions s.args.n s.args.left_rows s.args.right_rows s.args.public_rows

-- the tables
abbrev tables : Start → Tables
tables s = all_tables s.args.left.now s.args.right.now s.args.public.now

-- the checks are those of these dimensions
judged : (c : After-check_excerpt) → let s = c in
    c.check_excerpt.result ≡ outcome (excerpt_checks (sizes (goal.at.After-check_excerpt s).Start) (tables (goal.at.After-check_excerpt s).Start)
    s.args.left_text.now s.args.right_text.now s.args.row)
judged c = rw c.dimensions-d.ensures at c.check_excerpt.ensures.value

pub returns-in-Err : goal.returns-in-Err
returns-in-Err c =
    let told = c in
    let check = told in
    let s = check in let proved = refused_call (excerpt_checks (sizes (goal.at.returns-in-Err s).Start) (tables (goal.at.returns-in-Err s).Start)
    s.args.left_text.now s.args.right_text.now s.args.row)
    (clause_bytes (sizes (goal.at.returns-in-Err s).Start) (tables (goal.at.returns-in-Err s).Start) s.args.left_text.now s.args.right_text.now
    s.args.row)
    s.args.bytes.now s.args.length.now _ (sym (judged (goal.at.returns-in-Err check).After-check_excerpt) ∙ told.in-Err.is) _ c.from.ensures in
    record { value = proved.0; bytes_after = proved.1.0; length_after = proved.1.1 }

pub returns : goal.returns
returns c =
    let give = c in
    let part = give in
    let told = part in
    let check = told in
    let s = check in let proved = taken_call (excerpt_checks (sizes (goal.at.returns s).Start) (tables (goal.at.returns s).Start) s.args.left_text.now
    s.args.right_text.now s.args.row)
    (clause_bytes (sizes (goal.at.returns s).Start) (tables (goal.at.returns s).Start) s.args.left_text.now s.args.right_text.now s.args.row)
    s.args.bytes.now s.args.length.now (sym (judged (goal.at.returns check).After-check_excerpt) ∙ told.in_default.is) _
    (rw check.dimensions-d.ensures at part.clause_bytes-part.ensures) _ _ _
    (give.give.ensures.value, (give.give.ensures.bytes_after, give.give.ensures.length_after)) in
    record { value = proved.0; bytes_after = proved.1.0; length_after = proved.1.1 }
