-- `gives` meets its contract: the bytes of the run packed again are compared with those given.
use mathlib.Core.Path.{◌≡◌, sym, ap, ap₂, ◌∙◌}
use mathlib.Core.Bool.{true, false}
use native.Mathlib.Omega.{arith}
use Prim.Native.Nat.{ℕ, ◌≤◌}
use lib.ListN.{take, replicate}
use lib.Seq.{length-take-le}
use Rattle.words.specs.Sameness.{same}
use Rattle.words.proofs.Sameness.{same-is}
use Rattle.dimensions.specs.Sizes.{state_wire_count}
use Rattle.state.specs.WellFormed.{well_formed}
use Rattle.readback.proofs.Checks.{state-most, again_decided, again_bytes}
use Rattle.readback.proofs.gives.Goals as goal
use Rattle.readback.proofs.gives.Goals.{Start}

-- the array has room for the state
enough : (s : Start) → state_wire_count s.args.n ≤ 3171
enough s = state-most s.args.n s.requires.n_bound

pub returns-then-not-pack_state : goal.returns-then-not-pack_state
returns-then-not-pack_state c =
    let f : well_formed c.args.run ≡ false =
    again_decided c.args.n c.args.run c.requires.n_value (replicate 3171 0) (enough (goal.at.returns-then-not-pack_state c).Start)
    ∙ sym c.pack_state.ensures.value ∙ c.if-not-pack_state.true in
    rw f

pub slice_bounds-same-end : goal.slice_bounds-same-end
slice_bounds-same-end c =
    sym (length-take-le _ _ (omega (arith, c.state_wires_of-k.ensures, enough (goal.at.slice_bounds-same-end c).Start)))

pub slice_bounds-same-end-2 : goal.slice_bounds-same-end-2
slice_bounds-same-end-2 c =
    sym (length-take-le _ _ (omega (arith, c.state_wires_of-k.ensures, c.requires.n_in_bounds)))

pub returns : goal.returns
returns c =
    let p = c.pack_state in
    let k : c.state_wires_of-k.result ≡ state_wire_count c.args.n = c.state_wires_of-k.ensures in
    let f : well_formed c.args.run ≡ true =
    again_decided c.args.n c.args.run c.requires.n_value (replicate 3171 0) (enough (goal.at.returns c).Start)
    ∙ sym c.pack_state.ensures.value ∙ c.if-not-pack_state.false in
    rw f
    (same-is _ _ _ c.same.ensures
    ∙ ap₂ same (ap₂ take k c.pack_state.ensures.bytes_after
    ∙ again_bytes c.args.n c.args.run c.requires.n_value (replicate 3171 0) (enough (goal.at.returns c).Start) f)
    (ap (λ (j : ℕ). take j c.args.bytes.now) k))
