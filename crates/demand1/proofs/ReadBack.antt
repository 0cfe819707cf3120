-- Demand 1 for reading back: a state's bytes are read back as that state wherever they come first, so the bytes after them make no difference.
use mathlib.Core.Path.{◌≡◌, refl, sym, ap, ◌∙◌}
use mathlib.Core.Bool.{true, false, not, ◌&&◌}
use mathlib.Core.List.{List, [], ◌∷◌}
use Prim.Native.Nat.{ℕ, ◌≤◌}
use native.Mathlib.Omega.{arith}
use lib.Dec.{ltb}
use lib.ListN.{length, take, drop, length-take}
use lib.Seq.{take-take}
use borrow.Author.Tests.{ltb-true, ltb-false}
use Rattle.std.specs.Prelude.{Ok, Err}
use Rattle.refusals.specs.Numbers.{Outcome}
use Rattle.refusals.specs.Checks.{outcome, given}
use Rattle.words.proofs.Truth.{on, and_l, and_r, or_l, or_r}
use Rattle.words.specs.Sets.{bit, all, lowest, word_of}
use Rattle.words.specs.Sameness.{same}
use Rattle.dimensions.specs.Sizes.{outside, state_wire_count}
use Rattle.state.specs.declared.Run.{Run}
use Rattle.state.specs.State.{state_of, run_of, fresh}
use Rattle.state.specs.WellFormed.{well_formed, well_formed_state, unused}
use Rattle.readback.specs.declared.Read.{Read}
use Rattle.readback.specs.Reading.{read_checks, read_back}
use Rattle.readback.specs.Unpacking as Unpacking
use Rattle.readback.specs.Unpacking.{holds_state, last_first}
use Rattle.readback.proofs.Checks.{no_variables, no_room, no_state, read_taken}
use Rattle.readback.proofs.RoundTrip.{read-front, read_held}
use Rattle.wires.specs.Layout.{state_bits, upto, joined, on_level}
use Rattle.lent.specs.Lent.{stored_if}
use Rattle.demand1.specs.Calls.{beside}
use Rattle.demand1.specs.Demand1.{Demand1}
use Rattle.demand1.specs.Circuits.{read_back_run}
use Rattle.demand1.proofs.Shapes.{by-held, demand, by_number}

read-outcome : (n : ℕ) (bytes : List ℕ) → (read_back n bytes).outcome ≡ outcome (read_checks n bytes)
unfolding read_back
read-outcome n bytes = go (outcome (read_checks n bytes))
  where
    go : (o : Outcome)
        → (given {A = Read} o (record { outcome = Ok tt; run = Unpacking.run_in n bytes }) (λ r. record { outcome = Err r; run = run_of n fresh })).outcome
        ≡ o
    go (Ok _) = refl
    go (Err r) = refl

-- a well-formed run's state
state-part : (r : Run) → well_formed r ≡ true → well_formed_state r.n (state_of r) ≡ true
unfolding well_formed
state-part r w =
    let inside = not (outside 32 r.n) in
    let state = well_formed_state r.n (state_of r) in
    and_r inside state (and_l (inside && state) (unused (drop r.depth r.levels)) w)

module _ (n : ℕ) (x y : List ℕ) (front : take (state_wire_count n) x ≡ take (state_wire_count n) y) (within : outside 32 n ≡ false) where
  -- bytes that are taken, and others with the same front
  front-taken : (read_back n x).outcome ≡ Ok tt → read_back n x ≡ read_back n y
  front-taken e =
      let k = read_held n x e in
      let r = (read_back n x).run in
      let least = ltb-false n 1 (or_l (ltb n 1) (ltb 32 n) within) in
      let most = ltb-false 32 n (or_r (ltb n 1) (ltb 32 n) within) in
      read-front n (state_of r) x (formed r k.variables k.formed) least most k.again
      ∙ sym (read-front n (state_of r) y (formed r k.variables k.formed) least most (k.again ∙ front))
    where
      formed : (r : Run) → r.n ≡ n → well_formed r ≡ true → well_formed_state n (state_of r) ≡ true
      formed r v w = ap (λ (j : ℕ). well_formed_state j (state_of r)) (sym v) ∙ state-part r w

module _ (n : ℕ) (bytes : List ℕ) where
  abbrev cut : List ℕ
  cut = take (state_wire_count n) bytes

  front_read : read_back n bytes ≡ read_back n cut
  front_read =
      on (outside 32 n)
      (λ e. sym (no_variables n bytes e) ∙ no_variables n cut e)
      (λ e. on (ltb (length bytes) (state_wire_count n))
      (λ s. let h = ltb-true (length bytes) (state_wire_count n) s in
      sym (no_room n bytes e h) ∙ no_room n cut e (omega (arith, length-take (state_wire_count n) bytes)))
      (λ s. let h = ltb-false (length bytes) (state_wire_count n) s in
      let k : state_wire_count n ≤ length cut = omega (arith, length-take (state_wire_count n) bytes) in
      let f : take (state_wire_count n) bytes ≡ take (state_wire_count n) cut = sym (take-take (state_wire_count n) (state_wire_count n) bytes (omega arith)) in
      on (holds_state n bytes)
      (λ t. front-taken n bytes cut f e (ap (λ (r : Read). r.outcome) (sym (read_taken n bytes e h t))))
      (λ t. on (holds_state n cut)
      (λ u. sym (front-taken n cut bytes (sym f) e (ap (λ (r : Read). r.outcome) (sym (read_taken n cut e k u)))))
      (λ u. sym (no_state n bytes e h t) ∙ no_state n cut e k u))))

pub of_read-back : Demand1 read_back_run
unfolding read_back beside state_bits holds_state upto well_formed joined Unpacking.run_in run_of word_of bit all last_first lowest same on_level
of_read-back =
    demand read_back_run
    (by_number read_back_run (λ a. a.0) (λ (n, bytes, run) h i. (h i, bytes, run)) (λ a. refl) (λ a. refl) (λ a. refl))
    (record {
      judged = λ (n, bytes, run). by-held (read_checks n bytes) (run ∷ []) (read_back n bytes).outcome (λ o. stored_if o (read_back n bytes).run run ∷ [])
          (read-outcome n bytes) (λ r. refl);
      order = λ a. refl;
      occurs = refl;
      split = λ a. refl;
      checked = λ (n, bytes, run). sym (read-outcome n bytes) ∙ ap (λ (r : Read). r.outcome) (front_read n bytes)
          ∙ read-outcome n (take (state_wire_count n) bytes);
      written = λ (n, bytes, run) h. ap (λ (r : Read). stored_if r.outcome r.run run ∷ []) (front_read n bytes);
    })
