-- `generate` meets its contract: each way out is the outcome of its checks.
use mathlib.Core.Path.{◌≡◌, sym, ◌∙◌}
use native.Mathlib.Omega.{arith}
use Rattle.refusals.proofs.Outcomes.{passed_on}
use Rattle.std.specs.Prelude.{Ok}
use Rattle.refusals.specs.Checks.{outcome}
use Rattle.dimensions.specs.Sizes.{size_checks}
use Rattle.dimensions.proofs.Limits.{within}
use Rattle.generator.proofs.Room.{ceiling-small}
use Rattle.generator.proofs.Generating.{with-said, refuse_size, refuse_buffer, taken}
use Rattle.generator.proofs.generate.Goals as goal
use Rattle.generator.proofs.generate.Goals.{In_ok-check}

-- the sizes are taken where the ceiling is asked for
sizes : (c : In_ok-check) → outcome (size_checks c.args.d) ≡ Ok tt
sizes c = sym c.check.ensures.value ∙ c.in_ok-check.was

pub returns-in_err-check : goal.returns-in_err-check
returns-in_err-check c =
    rw (passed_on _ _ c.from_residual.ensures.1) (let a = c.args in
    let proved = with-said a.d a.words.now _ _ (refuse_size a.d a.words.now _ (sym c.check.ensures.value ∙ c.in_err-check.was)) in
    record { value = proved.0; words_after = proved.1.0; carried = proved.1.1.0; result_value = proved.1.1.1 })

pub overflow_mul-ceiling : goal.overflow_mul-ceiling
overflow_mul-ceiling c =
    let d = c.args.d in
    omega (arith, c.ceiling.ensures, ceiling-small d (within d (sizes (goal.at.overflow_mul-ceiling c).In_ok-check)))

pub returns-then-words-ceiling : goal.returns-then-words-ceiling
returns-then-words-ceiling c =
    let a = c.args in
    let proved = with-said a.d a.words.now _ _
    (refuse_buffer a.d a.words.now (sizes (goal.at.returns-then-words-ceiling c).In_ok-check) (rw c.ceiling.ensures at c.if-words-ceiling.true)) in
    record { value = proved.0; words_after = proved.1.0; carried = proved.1.1.0; result_value = proved.1.1.1 }

pub write-requires : goal.write-requires
write-requires c =
    (sizes (goal.at.write-requires c).In_ok-check, rw c.ceiling.ensures at c.if-words-ceiling.false)

pub returns : goal.returns
returns c =
    let a = c.args in
    let proved = with-said a.d a.words.now _ _
    (taken a.d a.words.now (sizes (goal.at.returns c).In_ok-check)
    (rw c.ceiling.ensures at c.if-words-ceiling.false) _ _ c.write.ensures.value c.write.ensures.words_after) in
    record { value = proved.0; words_after = proved.1.0; carried = proved.1.1.0; result_value = proved.1.1.1 }
