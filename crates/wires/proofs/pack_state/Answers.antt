-- `pack_state` meets its contract: each test of the code is a condition of the definition, in its order, and the state's wires are stored at the front.
use mathlib.Core.Path.{◌≡◌, sym, subst, ◌∙◌}
use mathlib.Core.Bool.{true, false}
use Prim.Native.Nat.{ℕ, ◌≤◌, ◌<◌}
use native.Mathlib.Omega.{arith}
use lib.ListN.{length}
use Rattle.state.specs.State.{state_of}
use Rattle.state.specs.WellFormed.{well_formed}
use Rattle.state.proofs.HeldRun.{formed_run_e}
use Rattle.wires.specs.Layout.{state_bits}
use Rattle.wires.proofs.Lengths.{state-length}
use Rattle.wires.proofs.Stores.{stored-front}
use Rattle.wires.proofs.Checks.{state_no_room, state-decided, state-kept, state-packed}
use Rattle.wires.proofs.pack_state.Goals as goal

pub returns-then-bytes-state_wires_of : goal.returns-then-bytes-state_wires_of
returns-then-bytes-state_wires_of c =
    let proved = state_no_room c.args.run c.args.bytes.now
    (subst (λ (k : ℕ). length c.args.bytes.now < k) c.state_wires_of.ensures c.if-bytes-state_wires_of.true) in
    record { value = proved.0; bytes_after = proved.1 }

pub returns-then-not-well_formed : goal.returns-then-not-well_formed
returns-then-not-well_formed c =
    let h = subst (λ (k : ℕ). k ≤ length c.args.bytes.now) c.state_wires_of.ensures c.if-bytes-state_wires_of.false in
    let f : well_formed c.args.run ≡ false = sym c.well_formed-2.ensures ∙ c.if-not-well_formed.true in
    record { value = sym f ∙ state-decided c.args.run c.args.bytes.now h; bytes_after = state-kept c.args.run c.args.bytes.now h f }

pub put_state-requires : goal.put_state-requires
put_state-requires c =
    let f : well_formed c.args.run ≡ true = sym c.well_formed-2.ensures ∙ c.if-not-well_formed.false in
    record { n_bound = (formed_run_e c.args.run f).most; n_in_bounds = omega (arith, c.state_wires_of.ensures) }

pub returns : goal.returns
returns c =
    let w = state_bits c.args.run.n (state_of c.args.run) in
    let h = subst (λ (k : ℕ). k ≤ length c.args.bytes.now) c.state_wires_of.ensures c.if-bytes-state_wires_of.false in
    let f : well_formed c.args.run ≡ true = sym c.well_formed-2.ensures ∙ c.if-not-well_formed.false in
    record {
      value = sym f ∙ state-decided c.args.run c.args.bytes.now h;
      bytes_after = c.put_state.ensures ∙ stored-front c.args.bytes.now w (omega (arith, h, state-length c.args.run.n (state_of c.args.run)))
          ∙ state-packed c.args.run c.args.bytes.now h f;
    }
