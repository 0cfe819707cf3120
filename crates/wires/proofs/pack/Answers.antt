-- `pack` meets its contract: left rows, right rows, public rows and state are stored one after the other.
use mathlib.Core.Path.{◌≡◌, sym, ◌∙◌}
use native.Mathlib.Omega.{arith}
use lib.ListN.{length}
use Rattle.std.specs.Prelude.{Ok}
use Rattle.refusals.specs.Checks.{outcome}
use Rattle.refusals.proofs.Outcomes.{also_said, passed_on}
use Rattle.tables.specs.Tables.{Tables, words_in}
use Rattle.wires.proofs.Lengths.{input_parts}
use Rattle.wires.specs.Packing.{pack_checks}
use Rattle.wires.proofs.Checks.{Passed, passed, pack-refused, pack-taken}
use Rattle.wires.proofs.Tables.{inputs-stored}
use Rattle.wires.proofs.pack.Goals as goal
use Rattle.wires.proofs.pack.Goals.{In_ok-check_pack, Start}

-- the tables at the start
abbrev tables : Start → Tables
tables s = words_in s.args.tables

-- the checks that are passed where rows are put
passes : (c : In_ok-check_pack) → outcome (pack_checks c.args.d (tables (goal.at.In_ok-check_pack c).Start) c.args.run (length c.args.bytes.now)) ≡ Ok tt
passes c = sym c.check_pack.ensures.value ∙ c.in_ok-check_pack.was

taken : (c : In_ok-check_pack) → Passed c.args.d (tables (goal.at.In_ok-check_pack c).Start) c.args.run (length c.args.bytes.now)
taken c = passed c.args.d (tables (goal.at.In_ok-check_pack c).Start) c.args.run (length c.args.bytes.now) (passes c)

pub returns-in_err-check_pack : goal.returns-in_err-check_pack
returns-in_err-check_pack c =
    rw (passed_on _ _ c.from_residual.ensures.1) (let e = sym c.check_pack.ensures.value ∙ c.in_err-check_pack.was in
    let proved = also_said (sym e, pack-refused c.args.d (tables (goal.at.returns-in_err-check_pack c).Start) c.args.run c.args.bytes.now _ e) in
    record { value = proved.0; bytes_after = proved.1.0; result_value = proved.1.1 })

pub put_rows-behind_left-requires : goal.put_rows-behind_left-requires
put_rows-behind_left-requires c =
    let o = taken (goal.at.put_rows-behind_left-requires c).In_ok-check_pack in
    record { n_bound = o.allowed.size.n-most; rows_in_bounds = omega (arith, o.enough, input_parts c.args.d) }

pub put_rows-behind_right-requires : goal.put_rows-behind_right-requires
put_rows-behind_right-requires c =
    let o = taken (goal.at.put_rows-behind_right-requires c).In_ok-check_pack in
    let p = c.put_rows-behind_left in
    let k : length c.put_rows-behind_left.new.bytes ≡ length c.args.bytes.now = c.put_rows-behind_left.auto.bytes in
    record { n_bound = o.allowed.size.n-most; rows_in_bounds = omega (arith, c.put_rows-behind_left.ensures.value, o.enough, input_parts c.args.d) }

pub put_rows-behind_rows-requires : goal.put_rows-behind_rows-requires
put_rows-behind_rows-requires c =
    let o = taken (goal.at.put_rows-behind_rows-requires c).In_ok-check_pack in
    let p = c.put_rows-behind_left in
    let q = c.put_rows-behind_right in
    let k : length c.put_rows-behind_left.new.bytes ≡ length c.args.bytes.now = c.put_rows-behind_left.auto.bytes in
    let l : length c.put_rows-behind_right.new.bytes ≡ length c.put_rows-behind_left.new.bytes = c.put_rows-behind_right.auto.bytes in
    record {
      n_bound = o.allowed.size.n-most;
      rows_in_bounds = omega
          (arith, c.put_rows-behind_left.ensures.value, c.put_rows-behind_right.ensures.value, o.enough, input_parts c.args.d);
    }

pub put_state-requires : goal.put_state-requires
put_state-requires c =
    let o = taken (goal.at.put_state-requires c).In_ok-check_pack in
    let p = c.put_rows-behind_left in
    let q = c.put_rows-behind_right in
    let r = c.put_rows-behind_rows in
    let k : length c.put_rows-behind_left.new.bytes ≡ length c.args.bytes.now = c.put_rows-behind_left.auto.bytes in
    let l : length c.put_rows-behind_right.new.bytes ≡ length c.put_rows-behind_left.new.bytes = c.put_rows-behind_right.auto.bytes in
    let m : length c.put_rows-behind_rows.new.bytes ≡ length c.put_rows-behind_right.new.bytes = c.put_rows-behind_rows.auto.bytes in
    record {
      n_bound = o.allowed.size.n-most;
      n_in_bounds = omega (
        arith,
        c.put_rows-behind_left.ensures.value,
        c.put_rows-behind_right.ensures.value,
        c.put_rows-behind_rows.ensures.value,
        o.enough,
        input_parts
            c.args.d,
      );
    }

pub returns : goal.returns
returns c =
    let e = passes (goal.at.returns c).In_ok-check_pack in
    let p = c.put_rows-behind_left in
    let q = c.put_rows-behind_right in
    let r = c.put_rows-behind_rows in
    let t = c.put_state in
    let stored =
    inputs-stored c.args.d (tables (goal.at.returns c).Start) c.args.run c.args.bytes.now _ _ _ _ _ _ _ c.put_rows-behind_left.ensures.bytes_after
    c.put_rows-behind_left.ensures.value c.put_rows-behind_right.ensures.bytes_after c.put_rows-behind_right.ensures.value
    c.put_rows-behind_rows.ensures.bytes_after c.put_rows-behind_rows.ensures.value c.put_state.ensures (taken (goal.at.returns c).In_ok-check_pack).enough in
    let proved = also_said (sym e, stored ∙ pack-taken c.args.d (tables (goal.at.returns c).Start) c.args.run c.args.bytes.now e) in
    record { value = proved.0; bytes_after = proved.1.0; result_value = proved.1.1 }
