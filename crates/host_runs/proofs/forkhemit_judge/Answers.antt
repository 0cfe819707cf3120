-- `forkhemit_judge` meets its contract: the numbers are those of the row judged, a truth value as its digit, a variable by its number.
use mathlib.Core.Path.{refl, ap, ap₂, ◌∙◌}
use mathlib.Core.List.{[], ◌∷◌}
use Prim.Native.Nat.{ℕ}
use Rattle.words.proofs.Truth.{byte-digit}
use Rattle.host_runs.specs.Rows.{judged_numbers}
use Rattle.host_runs.proofs.forkhemit_judge.Goals as goal

pub returns : goal.returns
returns c =
    let j = c.judge-row.result in record {
      value = refl;
      judged_after = ap₂ (λ (x y : ℕ). x ∷ (j.literals ∷ (j.variables ∷ (y ∷ [])))) (byte-digit j.satisfied) c.look_number.ensures
          ∙ ap judged_numbers c.judge-row.ensures;
    }
