-- What the two numbers of an answer say to a host: the lines are within the bytes, at least one while there is one, and no more than there are. By
-- what the checks found.
use mathlib.Core.Path.{◌≡◌, refl, ap, sym, ◌∙◌}
use mathlib.Core.Bool.{Bool, true, false}
use mathlib.Core.List.{List, flatten}
use Prim.Native.Nat.{ℕ, ◌+◌, ◌/◌, min, ◌≤◌, ◌<◌}
use native.Mathlib.Omega.{arith}
use borrow.Author.Tests.{ltb-false}
use lib.Dec.{ltb}
use lib.ListN.{length, drop, length-take, length-drop}
use Rattle.std.specs.Prelude.{Ok, Err}
use Rattle.refusals.specs.Numbers.{Outcome}
use Rattle.refusals.specs.Checks.{outcome}
use Rattle.dimensions.specs.declared.Dimensions.{Dimensions}
use Rattle.gates.specs.Memory.{gates_of}
use Rattle.bristol.specs.Text.{circuit_lines}
use Rattle.bristol.specs.Writing.{circuit_checks, line_at, lines_written_from, written_lines}
use Rattle.bristol.proofs.Fitting.{fitting-next, fitting-front, fitting-room}
use Rattle.bristol.proofs.Requests.{taken_lines, refuse_lines, lines_by-room}

module _ (d : Dimensions) (ws : List ℕ) (i : ℕ) (lent : List ℕ) (k n : ℕ) (e : written_lines d ws i lent ≡ Ok (k, n)) where
  -- the circuit was taken, and the first line had room
  record Answered : Type 0 where
    pub taken : outcome (circuit_checks d ws) ≡ Ok tt
    pub room : length (line_at d ws i) ≤ length lent
    pub count : k ≡ length (lines_written_from d ws i lent)
    pub size : n ≡ length (flatten (lines_written_from d ws i lent))

  answered : Answered
  answered = go (outcome (circuit_checks d ws)) refl (ltb (length lent) (length (line_at d ws i))) refl
    where
      go : (o : Outcome) → outcome (circuit_checks d ws) ≡ o → (b : Bool) → ltb (length lent) (length (line_at d ws i)) ≡ b → Answered
      go (Err r) h b q = absurd (let x = (refuse_lines d ws i lent r h).0 in let z : ◌≡◌ {A = ℕ} 0 1 = cc in omega arith)
      go (Ok _) h true q = absurd (let x = (lines_by-room d ws i lent h true q).0 in let z : ◌≡◌ {A = ℕ} 0 1 = cc in omega arith)
      go (Ok _) h false q =
          let x = (lines_by-room d ws i lent h false q).0 in
          let both : ◌≡◌ {A = ℕ × ℕ} (k, n) (length (lines_written_from d ws i lent), length (flatten (lines_written_from d ws i lent))) = cc in
          record { taken = h; room = ltb-false _ _ q; count = ap (λ (x : ℕ × ℕ). x.0) both; size = ap (λ (x : ℕ × ℕ). x.1) both }

  number : length (circuit_lines d (gates_of ws)) ≡ 4 + length ws / 3
  number = taken_lines d ws answered.taken

  pub lines_within : n ≤ length lent
  lines_within = omega (arith, answered.size, fitting-room (length lent) (drop i (circuit_lines d (gates_of ws))))

  pub lines_some : i < 4 + length ws / 3 → 1 ≤ k
  lines_some h = omega (arith, answered.count, ap length (fitting-next (circuit_lines d (gates_of ws)) i (length lent) (omega (arith, number)) answered.room))

  pub lines_few : i < 4 + length ws / 3 → i + k ≤ 4 + length ws / 3
  lines_few h =
      let ls = drop i (circuit_lines d (gates_of ws)) in
      let front : k ≡ min k (length ls) = answered.count ∙ ap length (fitting-front (length lent) ls) ∙ length-take (length (lines_written_from d ws i lent)) ls
      ∙ ap (λ (x : ℕ). min x (length ls)) (sym answered.count) in
      omega (arith, front, number, length-drop i (circuit_lines d (gates_of ws)))
