-- What the checks of reading back lead to, each by its condition. From the order of the checks.
use mathlib.Core.Path.{◌≡◌, refl, sym, ap, ◌∙◌, subst}
use mathlib.Core.Bool.{Bool, true, false, ◌&&◌}
use mathlib.Core.List.{List, [], ◌∷◌}
use Prim.Native.Nat.{ℕ, ◌*◌, ◌≤◌, ◌<◌}
use native.Mathlib.Nat.{mul-le-mul}
use native.Mathlib.Omega.{arith}
use lib.ListN.{length, take, length-map}
use lib.Seq.{take_at}
use borrow.Author.Tests.{lt-ltb, le-ltb}
use Rattle.std.specs.Prelude.{Ok, Err}
use Rattle.refusals.specs.Checks.{outcome}
use Rattle.refusals.specs.Numbers.{code_of, said}
use Rattle.refusals.specs.declared.Refusal.TheVariants.{Variables, Wires}
use Rattle.refusals.specs.declared.Refusal.TheVariants as refusal
use Rattle.refusals.proofs.Outcomes.{given-said}
use Rattle.words.specs.Booleans.{digit}
use Rattle.words.specs.Sameness.{same}
use Rattle.dimensions.specs.Sizes.{outside, state_wire_count}
use Rattle.state.specs.declared.Run.{Run}
use Rattle.state.specs.State.{fresh, state_of, run_of}
use Rattle.state.specs.WellFormed.{well_formed}
use Rattle.gates.specs.Memory.{bytes_of, over}
use Rattle.wires.specs.Layout.{state_bits}
use Rattle.wires.specs.StatePacking.{packable, packed_state}
use Rattle.wires.proofs.Lengths.{state-length}
use Rattle.wires.proofs.Checks.{state-decided, state-packed}
use Rattle.readback.specs.declared.Read.{Read}
use Rattle.readback.specs.Unpacking.{run_in, holds_state}
use Rattle.readback.specs.Reading.{read_checks, read_back}

-- ---- the run packed again

-- a state of at most 32 variables has at most 3171 wires
pub state-most : (n : ℕ) → n ≤ 32 → state_wire_count n ≤ 3171
state-most n h = omega (arith, mul-le-mul {n₁ = 3 * n} {m₁ = n} {n₂ = 96} {m₂ = 32} (omega arith) h)

-- a run of n, packed into bytes that have room for its state
module _ (n : ℕ) (run : Run) (e : run.n ≡ n) (b : List ℕ) (h : state_wire_count n ≤ length b) where
  room : state_wire_count run.n ≤ length b
  room = subst (λ (k : ℕ). state_wire_count k ≤ length b) (sym e) h

  pub again_decided : well_formed run ≡ packable run (length b)
  again_decided = state-decided run b room

  pub again_bytes : well_formed run ≡ true → take (state_wire_count n) (packed_state run b) ≡ bytes_of (state_bits n (state_of run))
  again_bytes k =
      ap (take (state_wire_count n)) (sym (state-packed run b room k) ∙ ap (λ (j : ℕ). over (bytes_of (state_bits j (state_of run))) b) e)
      ∙ take_at (bytes_of (state_bits n (state_of run))) _ (state_wire_count n) (length-map (state_bits n (state_of run)) digit ∙ state-length n (state_of run))

-- ---- the entry

module _ (n : ℕ) (bytes : List ℕ) where
  -- n outside 1 to 32: 1
  pub no_variables : outside 32 n ≡ true → ◌≡◌ {A = Read} (record { outcome = Err Variables; run = run_of n fresh }) (read_back n bytes)
  unfolding read_back
  no_variables e = rw e

  module _ (e : outside 32 n ≡ false) where
    -- fewer bytes than the wires of a state of n, for n from 1 to 32, are refused with 10, and the run is the fresh one of n
    pub no_room : length bytes < state_wire_count n → ◌≡◌ {A = Read} (record { outcome = Err Wires; run = run_of n fresh }) (read_back n bytes)
    unfolding read_back
    no_room h = rw (e, lt-ltb (length bytes) (state_wire_count n) h)

    module _ (h : state_wire_count n ≤ length bytes) where
      -- bytes that hold no state: 12
      pub no_state : holds_state n bytes ≡ false → ◌≡◌ {A = Read} (record { outcome = Err refusal.State; run = run_of n fresh }) (read_back n bytes)
      unfolding read_back
      no_state k = rw (e, le-ltb (length bytes) (state_wire_count n) h, k)

      -- bytes that hold a state: its run
      pub read_taken : holds_state n bytes ≡ true → ◌≡◌ {A = Read} (record { outcome = Ok tt; run = run_in n bytes }) (read_back n bytes)
      unfolding read_back
      read_taken k = rw (e, le-ltb (length bytes) (state_wire_count n) h, k)

  -- what reading back gives says the number of its outcome
  pub read-said : {r : Read} → r ≡ read_back n bytes → (r ≡ read_back n bytes) × (code_of r.outcome ∷ [] ≡ said (outcome (read_checks n bytes)) [])
  unfolding read_back
  read-said e =
      let says : Read → List ℕ = λ x. code_of x.outcome ∷ [] in
      let whole : Read = record { outcome = Ok tt; run = run_in n bytes } in
      (e, ap says e ∙ given-said says (outcome (read_checks n bytes)) whole (λ q. record { outcome = Err q; run = run_of n fresh }) [] refl (λ q. refl))

  -- what comparing the packed run with the bytes found
  pub found : (run : Run) (r : Bool) → run ≡ run_in n bytes
      → r ≡ well_formed run && same (bytes_of (state_bits n (state_of run))) (take (state_wire_count n) bytes)
      → holds_state n bytes ≡ r
  unfolding holds_state
  found run r e q = sym (q ∙ ap (λ (x : Run). well_formed x && same (bytes_of (state_bits n (state_of x))) (take (state_wire_count n) bytes)) e)

  pub run_variables : (run : Run) → run ≡ run_in n bytes → run.n ≡ n
  unfolding run_in run_of
  run_variables run e = ap (λ (x : Run). x.n) e
