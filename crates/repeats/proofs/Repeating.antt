-- The repeats of a call, one at a time: an open run's are one and those of the next run, a closed run's are none. The loop's invariant is that the repeats done
-- and those of the present run are the call's. From what an attempt gives.
use mathlib.Core.Path.{◌≡◌, refl, sym, ap, ap₂, ◌∙◌}
use mathlib.Core.Bool.{Bool, true, false, cond, true≢false}
use mathlib.Core.List.{List, [], ◌∷◌, ◌++◌, append_assoc, append-nil}
use Prim.Native.Nat.{ℕ, zero, suc, ◌+◌, ◌-◌, ◌≤◌, ◌<◌}
use native.Mathlib.Omega.{arith}
use lib.Dec.{ltb}
use lib.ListN.{length, replicate, length-append}
use lib.Seq.{take_at}
use borrow.Author.Tests.{lt-ltb, ltb-true}
use Rattle.std.specs.Prelude.{Ok, Err}
use Rattle.refusals.specs.Checks.{outcome}
use Rattle.refusals.specs.declared.Refusal.{Refusal}
use Rattle.dimensions.specs.declared.Dimensions.{Dimensions}
use Rattle.dimensions.specs.Sizes.{state_wire_count, input_wires}
use Rattle.tables.specs.Tables.{Tables}
use Rattle.state.specs.declared.Run.{Run}
use Rattle.state.specs.declared.Standing.{Standing}
use Rattle.state.specs.declared.Standing.TheVariants.{Open, Satisfied, Refuted}
use Rattle.state.specs.State.{state_of, run_of, if_open}
use Rattle.state.specs.WellFormed.{state_checks}
use Rattle.solver.proofs.BudgetedRun.{open_e, left_over}
use Rattle.wires.specs.Packing.{packed}
use Rattle.netlist.specs.Netlist.{gates_on}
use Rattle.netlist.specs.Outputs.{closed}
use Rattle.repeats.specs.Application.{Applied, wires_after, applied, mark_result}
use Rattle.repeats.specs.Repeats.{Repeat, returned, circuit_words, last_run, comes_of, repeats}
use Rattle.repeats.specs.Repeating.{Repeated, whole, made, run_before, bytes_left_by, wires_left, repeated_by}
use Rattle.repeats.proofs.Buffers.{Agree, agree_refl, Ready, packed_agrees, filled_agrees, next, applied-is, next-fine, ready_same, packed-same}
use Rattle.repeats.proofs.Buffers.{filled-same, applied-taken}

-- ---- one more repeat after others

last_more : (run : Run) (h : List Repeat) (r : Repeat) → last_run run (h ++ (r ∷ [])) ≡ r.run
unfolding last_run
last_more run [] r = refl
last_more run (q ∷ h) r = last_more q.run h r

before_more : (run : Run) (h : List Repeat) (r : Repeat) → run_before run (h ++ (r ∷ [])) ≡ last_run run h
before_more run h r = ap (last_run run) (take_at h (r ∷ []) (length (h ++ (r ∷ [])) - 1) (omega (arith, length-append h (r ∷ []))))

module _ (d : Dimensions) (tables : Tables) (bytes wires : List ℕ) (run : Run) (h : List Repeat) (r : Repeat) where
  bytes-more : bytes_left_by d tables bytes run (h ++ (r ∷ [])) ≡ packed d tables (last_run run h) bytes
  bytes-more = go h ∙ ap (λ (x : Run). packed d tables x bytes) (before_more run h r)
    where
      go : (l : List Repeat) → bytes_left_by d tables bytes run (l ++ (r ∷ [])) ≡ packed d tables (run_before run (l ++ (r ∷ []))) bytes
      go [] = refl
      go (q ∷ l) = refl

  wires_more : wires_left d tables bytes wires run (h ++ (r ∷ [])) ≡ wires_after d tables (circuit_words d) (last_run run h) bytes wires
  wires_more = go h ∙ ap (λ (x : Run). wires_after d tables (circuit_words d) x bytes wires) (before_more run h r)
    where
      go : (l : List Repeat) → wires_left d tables bytes wires run (l ++ (r ∷ [])) ≡ wires_after d tables (circuit_words d)
          (run_before run (l ++ (r ∷ []))) bytes wires
      go [] = refl
      go (q ∷ l) = refl

-- ---- the next repeat

module _ (d : Dimensions) (tables : Tables) (bytes wires : List ℕ) (y : Ready d tables bytes wires) (k : ℕ) (run : Run) where
  -- an open run's repeats
  made_more : (ok : outcome (state_checks d run) ≡ Ok tt) → run.standing ≡ Open → let s = next d tables bytes wires y run ok in
      made d tables (suc k) bytes wires run ≡ returned d.n s ∷ made d tables k bytes wires (run_of d.n s)
  unfolding made repeats run_of
  made_more ok o =
      let a = whole d bytes wires in
      let s = next d tables bytes wires y run ok in
      ap (λ (st : Standing). if_open st (repeats d (λ i. tables) (suc k) run (replicate (suc k) a)) []) o
      ∙ ap (λ (x : Applied). comes_of x (λ r. repeats d (λ i. tables) (suc k) r (replicate k a)) (λ r. repeats d (λ i. tables) k r (replicate k a)))
      (applied-is d tables bytes wires y run ok)
      ∙ ap (λ (l : List Repeat). returned d.n s ∷ l) (go s.standing (repeats d (λ i. tables) k (run_of d.n s) (replicate k a)))
    where
      go : (st : Standing) (l : List Repeat) → cond (if_open st false true) [] l ≡ if_open st l []
      go Open l = refl
      go Satisfied l = refl
      go Refuted l = refl

  -- a run that goes no further
  made_none : if_open run.standing (ltb 0 k) false ≡ false → made d tables k bytes wires run ≡ []
  unfolding made repeats
  made_none e = go run.standing k e
    where
      go : (st : Standing) (j : ℕ) → if_open st (ltb 0 j) false ≡ false → if_open st (repeats d (λ i. tables) j run (replicate j (whole d bytes wires))) [] ≡ []
      go Satisfied j h = refl
      go Refuted j h = refl
      go Open zero h = refl
      go Open (suc j) h = absurd (true≢false (sym (lt-ltb 0 (suc j) (omega arith)) ∙ h))

-- what the lent buffers hold does not matter to the repeats
module _ (d : Dimensions) (tables : Tables) (bytes wires bytes' wires' : List ℕ) (y : Ready d tables bytes wires) (y' : Ready d tables bytes' wires') where
  none-same : (k : ℕ) (run : Run) → if_open run.standing (ltb 0 k) false ≡ false → made d tables k bytes wires run ≡ made d tables k bytes' wires' run
  none-same k run e = made_none d tables bytes wires y k run e ∙ sym (made_none d tables bytes' wires' y' k run e)

  -- in two pairs of long enough buffers the repeats are the same
  pub made-same : (k : ℕ) (run : Run) → outcome (state_checks d run) ≡ Ok tt → made d tables k bytes wires run ≡ made d tables k bytes' wires' run
  made-same zero run ok = none-same zero run (go run.standing)
    where
      go : (st : Standing) → if_open st (ltb 0 0) false ≡ false
      go Open = refl
      go Satisfied = refl
      go Refuted = refl
  made-same (suc k) run ok =
      let s = next d tables bytes wires y run ok in
      go run.standing refl (made-same k (run_of d.n s) (next-fine d tables bytes wires y run ok))
    where
      go : (st : Standing) → run.standing ≡ st → let r = run_of d.n (next d tables bytes wires y run ok) in
          made d tables k bytes wires r ≡ made d tables k bytes' wires' r → made d tables (suc k) bytes wires run ≡ made d tables (suc k) bytes' wires' run
      go Open e h =
          made_more d tables bytes wires y k run ok e
          ∙ ap (λ (l : List Repeat). returned d.n (next d tables bytes wires y run ok) ∷ l) h
          ∙ sym (made_more d tables bytes' wires' y' k run ok e)
      go Satisfied e h = none-same (suc k) run (ap (λ (x : Standing). if_open x (ltb 0 (suc k)) false) e)
      go Refuted e h = none-same (suc k) run (ap (λ (x : Standing). if_open x (ltb 0 (suc k)) false) e)

-- ---- the loop

-- what the loop knows of run, number, bytes and wires, where it began with others
pub record Repeating (d : Dimensions) (tables : Tables) (times : ℕ) (bytes₀ wires₀ : List ℕ) (run₀ : Run) (bytes wires : List ℕ)
    (run : Run) (count : ℕ) : Type 0 where
  -- the repeats done
  pub done : List Repeat
  pub count-is : length done ≡ count
  pub most : count ≤ times
  pub whole_is : made d tables times bytes₀ wires₀ run₀ ≡ done ++ made d tables (times - count) bytes₀ wires₀ run
  pub run_is : last_run run₀ done ≡ run
  pub run-fine : outcome (state_checks d run) ≡ Ok tt
  pub bytes_are : bytes ≡ bytes_left_by d tables bytes₀ run₀ done
  pub wires_are : wires ≡ wires_left d tables bytes₀ wires₀ run₀ done
  pub bytes-agree : Agree (input_wires d) bytes bytes₀
  pub wires_agree : Agree (input_wires d + length (gates_on d)) wires wires₀

module _ (d : Dimensions) (tables : Tables) (times : ℕ) (bytes₀ wires₀ : List ℕ) (y : Ready d tables bytes₀ wires₀) (run₀ : Run) where
  pub repeating_start : outcome (state_checks d run₀) ≡ Ok tt → Repeating d tables times bytes₀ wires₀ run₀ bytes₀ wires₀ run₀ 0
  unfolding last_run
  repeating_start ok = record {
    done = [];
    count-is = refl;
    most = omega arith;
    whole_is = ap (λ (k : ℕ). made d tables k bytes₀ wires₀ run₀) (omega arith);
    run_is = refl;
    run-fine = ok;
    bytes_are = refl;
    wires_are = refl;
    bytes-agree = agree_refl (input_wires d) bytes₀;
    wires_agree = agree_refl (input_wires d + length (gates_on d)) wires₀;
  }

  module _ (bytes wires : List ℕ) (run : Run) (count : ℕ) (o : Repeating d tables times bytes₀ wires₀ run₀ bytes wires run count) where
    pub repeating_less : if_open run.standing (ltb count times) false ≡ true → count < times
    repeating_less e = ltb-true count times (open_e run.standing (ltb count times) e).1

    -- the present buffers are as good
    ready : Ready d tables bytes wires
    ready = ready_same d tables bytes₀ wires₀ bytes wires y o.bytes-agree o.wires_agree

    pub repeating_on : if_open run.standing (ltb count times) false ≡ true
        → (bytes' wires' : List ℕ) (run' : Run)
        → run' ≡ (applied d tables (circuit_words d) run bytes wires (state_wire_count d.n + 1)).run
        → bytes' ≡ packed d tables run bytes → wires' ≡ wires_after d tables (circuit_words d) run bytes wires
        → Repeating d tables times bytes₀ wires₀ run₀ bytes' wires' run' (count + 1)
    repeating_on e bytes' wires' run' r b w =
        let g = open_e run.standing (ltb count times) e in
        let ok = o.run-fine in
        let one = returned d.n (next d tables bytes₀ wires₀ y run ok) in
        let rest = times - (count + 1) in
        let run-next : run' ≡ one.run = r ∙ ap (λ (x : Applied). x.run) (applied-is d tables bytes wires ready run ok) in
        let bytes_next : bytes' ≡ packed d tables run bytes₀ = b ∙ packed-same d tables bytes₀ wires₀ bytes wires y o.bytes-agree o.wires_agree run ok in
        let wires-next : wires' ≡ wires_after d tables (circuit_words d) run bytes₀ wires₀ =
        w ∙ filled-same d tables bytes₀ wires₀ bytes wires y o.bytes-agree o.wires_agree run ok in
        let left : times - count ≡ suc rest = omega (arith, ltb-true count times g.1) in record {
          done = o.done ++ (one ∷ []);
          count-is = length-append o.done (one ∷ []) ∙ ap (λ (k : ℕ). k + 1) o.count-is;
          most = omega (arith, ltb-true count times g.1);
          whole_is = o.whole_is
              ∙ ap (λ (l : List Repeat). o.done ++ l)
              (ap (λ (k : ℕ). made d tables k bytes₀ wires₀ run) left
              ∙ made_more d tables bytes₀ wires₀ y rest run ok g.0
              ∙ ap (λ (x : Run). one ∷ made d tables rest bytes₀ wires₀ x) (sym run-next))
              ∙ sym (append_assoc o.done (one ∷ []) (made d tables rest bytes₀ wires₀ run'));
          run_is = last_more run₀ o.done one ∙ sym run-next;
          run-fine = ap (λ (x : Run). outcome (state_checks d x)) run-next ∙ next-fine d tables bytes₀ wires₀ y run ok;
          bytes_are = bytes_next ∙ ap (λ (x : Run). packed d tables x bytes₀) (sym o.run_is) ∙ sym (bytes-more d tables bytes₀ wires₀ run₀ o.done one);
          wires_are = wires-next ∙ ap (λ (x : Run). wires_after d tables (circuit_words d) x bytes₀ wires₀) (sym o.run_is)
              ∙ sym (wires_more d tables bytes₀ wires₀ run₀ o.done one);
          bytes-agree = rw bytes_next (packed_agrees d tables bytes₀ wires₀ y run ok);
          wires_agree = rw wires-next (filled_agrees d tables bytes₀ wires₀ y run ok);
        }

    -- no application is refused
    pub repeating_taken : (r : Refusal) → mark_result (applied d tables (circuit_words d) run bytes wires (state_wire_count d.n + 1)) ≡ Err r → ⊥
    repeating_taken r e = applied-taken d tables bytes wires ready run o.run-fine r e

    -- none is left: those done are all
    all_done : if_open run.standing (ltb count times) false ≡ false → made d tables times bytes₀ wires₀ run₀ ≡ o.done
    all_done e =
        o.whole_is
        ∙ ap (λ (l : List Repeat). o.done ++ l)
        (made_none d tables bytes₀ wires₀ y (times - count) run (ap (λ (b : Bool). if_open run.standing b false) (left_over count times) ∙ e))
        ∙ append-nil o.done

    pub repeating_end : if_open run.standing (ltb count times) false ≡ false → (mark : Bool) → mark ≡ closed (state_of run)
        → let h = made d tables times bytes₀ wires₀ run₀ in
        (◌≡◌ {A = Repeated} (record { outcome = Ok tt; run = run; repeats = count; mark = mark }) (repeated_by run₀ h))
        × ((bytes ≡ bytes_left_by d tables bytes₀ run₀ h) × (wires ≡ wires_left d tables bytes₀ wires₀ run₀ h))
    repeating_end e mark m =
        let q = sym (all_done e) in (
          ap (λ (b : Bool). record { outcome = Ok tt; run = run; repeats = count; mark = b }) m
              ∙ ap₂ (λ (x : Run) (k : ℕ). record { outcome = Ok tt; run = x; repeats = k; mark = closed (state_of x) }) (sym o.run_is) (sym o.count-is)
              ∙ ap (repeated_by run₀) q,
          (
            o.bytes_are ∙ ap (bytes_left_by d tables bytes₀ run₀) q,
            o.wires_are ∙ ap (wires_left d tables bytes₀ wires₀ run₀) q,
          ),
        )
