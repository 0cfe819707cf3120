-- `transpose` meets its contract: five steps exchange rows and columns.
use mathlib.Core.Path.{ap, ◌∙◌}
use mathlib.Core.List.{List}
use Prim.Native.Nat.{ℕ}
use native.Mathlib.Omega.{arith}
use Rattle.squares.specs.Steps.{staged}
use Rattle.squares.proofs.Masks.{fine_16, fine_8, fine_4, fine_2, fine_1}
use Rattle.squares.proofs.Whole.{whole}
use Rattle.squares.proofs.transpose.Goals as goal

pub stage-a-requires : goal.stage-a-requires
stage-a-requires c = (omega arith, fine_16)

pub stage-b-requires : goal.stage-b-requires
stage-b-requires c = (omega arith, fine_8)

pub stage-c-requires : goal.stage-c-requires
stage-c-requires c = (omega arith, fine_4)

pub stage-d-requires : goal.stage-d-requires
stage-d-requires c = (omega arith, fine_2)

pub stage-requires : goal.stage-requires
stage-requires c = (omega arith, fine_1)

pub returns : goal.returns
returns c =
    c.stage.ensures
    ∙ ap (λ (l : List ℕ). staged l 1) (c.stage-d.ensures
    ∙ ap (λ (l : List ℕ). staged l 2) (c.stage-c.ensures
    ∙ ap (λ (l : List ℕ). staged l 4) (c.stage-b.ensures
    ∙ ap (λ (l : List ℕ). staged l 8) c.stage-a.ensures)))
    ∙ whole c.args.words
