-- `forkhemit_clause` meets its contract: the place is that of the numbers as bytes, and its numbers are written where there is one.
use mathlib.Core.Path.{sym, ap, ◌∙◌}
use mathlib.Core.List.{List}
use Prim.Native.Nat.{ℕ}
use Rattle.std.specs.Prelude.{Result}
use Rattle.refusals.specs.declared.Refusal.{Refusal}
use Rattle.excerpts.specs.declared.Place.{Place}
use Rattle.excerpts.specs.Excerpts.{placed_code, placed_numbers}
use Rattle.lent.specs.Lent.{numbers_or}
use Rattle.host_excerpts.proofs.forkhemit_clause.Goals as goal
use Rattle.host_excerpts.proofs.forkhemit_clause.Goals.{After-dimensions-d}

-- the lent place, from the call of the dimensions
abbrev lent : After-dimensions-d → List ℕ
lent c = let tables = c in tables.args.place.now

pub returns-in-Ok : goal.returns-in-Ok
returns-in-Ok c =
    let told = c in
    let place = told in
    let is = sym told.in-Ok.is ∙ rw place.dimensions-d.ensures at place.clause_place.ensures.value in
    record {
      value = ap placed_code is;
      place_after = ap (λ (p : Result Place Refusal). numbers_or (placed_numbers p) (lent (goal.at.returns-in-Ok place).After-dimensions-d))
          is;
    }

pub returns-in-Err : goal.returns-in-Err
returns-in-Err c =
    let told = c in
    let place = told in
    let is = sym told.in-Err.is ∙ rw place.dimensions-d.ensures at place.clause_place.ensures.value in
    record {
      value = c.from.ensures ∙ ap placed_code is;
      place_after = ap (λ (p : Result Place Refusal). numbers_or (placed_numbers p) (lent (goal.at.returns-in-Err place).After-dimensions-d)) is;
    }
