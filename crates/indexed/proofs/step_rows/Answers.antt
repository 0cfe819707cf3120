-- `step_rows` meets its contract: index and number are judged by the rows' own sets and tally.
use mathlib.Core.Path.{refl, sym, ◌∙◌}
use Prim.Native.Nat.{◌^◌, ◌<◌}
use native.Mathlib.Omega.{arith}
use Rattle.refusals.proofs.Outcomes.{passed_on}
use Rattle.indexed.proofs.Entries.{apart, over-refused}
use Rattle.indexed.proofs.Checks.{judged, step_ready, stepped}
use Rattle.indexed.proofs.step_rows.Goals as goal
use Rattle.indexed.proofs.step_rows.Goals.{Start}

t_low : (s : Start) → s.args.run.now.t < 2 ^ 32
t_low s = omega arith

f-low : (s : Start) → s.args.run.now.f < 2 ^ 32
f-low s = omega arith

pub returns-in_err-check_kept : goal.returns-in_err-check_kept
returns-in_err-check_kept c =
    let s = (goal.at.returns-in_err-check_kept c).Start in
    rw (passed_on _ _ c.from_residual.ensures.1) (let proved = apart (over-refused _ _ _ c.args.run.now c.args.number.now _
    (judged _ _ _ _ c.requires _ c.args.run.now c.args.number.now (t_low s) (f-low s) _ c.survey-tally.ensures _
    (sym c.in_err-check_kept.was ∙ c.check_kept.ensures)) c.in_err-check_kept.field-0.0 refl) in
    record { value = proved.0; run_after = proved.1; number_after = proved.2 })

pub advance-next-requires : goal.advance-next-requires
advance-next-requires c =
    let s = (goal.at.advance-next-requires c).Start in
    let proved = step_ready _ _ _ _ c.requires _ c.args.run.now c.args.number.now (t_low s) (f-low s) _ c.survey-tally.ensures _
    c.check_kept.ensures c.in_ok-check_kept.was in
    record { indexed = proved.0; exact = proved.1 }

pub returns : goal.returns
returns c =
    let s = (goal.at.returns c).Start in
    let proved = apart (stepped _ _ _ _ c.requires _ c.args.run.now c.args.number.now (t_low s) (f-low s) _ c.survey-tally.ensures _
    (sym c.in_ok-check_kept.was ∙ c.check_kept.ensures) refl _ c.advance-next.ensures) in
    record { value = proved.0; run_after = proved.1; number_after = proved.2 }
