-- `fill` meets its contract: accepted tables have 384 rows at most, one table's after the other's.
use mathlib.Core.Path.{refl}
use native.Mathlib.Omega.{arith}
use Rattle.tables.specs.Tables.{Tables, words_in}
use Rattle.tables.proofs.Accepted.{Accepted, accepted}
use Rattle.drat.proofs.Entry.{all-rows}
use Rattle.drat.proofs.fill.Goals as goal
use Rattle.drat.proofs.fill.Goals.{Start}

-- the tables
abbrev tables : Start → Tables
tables s = words_in s.args.tables

-- what is known of them
limits : (s : Start) → Accepted s.args.d (tables s)
limits s = accepted s.args.d (tables s) s.requires.public_value

pub append-first-requires : goal.append-first-requires
append-first-requires c =
    let a = limits (goal.at.append-first-requires c).Start in
    record { rows_in_bounds = omega (arith, a.size.left-most); rows_in_bounds_2 = a.left-length }

pub append-second-requires : goal.append-second-requires
append-second-requires c =
    let a = limits (goal.at.append-second-requires c).Start in
    record {
      rows_in_bounds = omega (arith, a.size.left-most, a.size.right_most, c.append-first.ensures.value, c.append-first.auto.words);
      rows_in_bounds_2 = a.right_length;
    }

pub append-requires : goal.append-requires
append-requires c =
    let a = limits (goal.at.append-requires c).Start in
    record {
      rows_in_bounds = omega (
        arith,
        a.size.left-most,
        a.size.right_most,
        a.size.public_most,
        c.append-first.ensures.value,
        c.append-second.ensures.value,
        c.append-first.auto.words,
        c.append-second.auto.words,
      );
      rows_in_bounds_2 = a.public_length;
    }

pub returns : goal.returns
returns c =
    let a = limits (goal.at.returns c).Start in
    record {
      result_after = all-rows c.args.d (tables (goal.at.returns c).Start) _ _ _ _ refl c.append-first.ensures.result_after c.append-second.ensures.result_after
          c.append.ensures.result_after;
      upper_bound = omega (
        arith,
        a.size.left-most,
        a.size.right_most,
        a.size.public_most,
        c.append-first.ensures.value,
        c.append-second.ensures.value,
        c.append.ensures.value,
      );
    }
