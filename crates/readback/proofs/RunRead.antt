-- The run that the code reads is the one that the definition has: the same wires under the definition's addresses.
use mathlib.Core.Path.{◌≡◌, sym, ap, ap₂, ◌∙◌, fun_ext}
use mathlib.Core.List.{List, ◌++◌, reverse}
use Prim.Native.Nat.{ℕ, suc, ◌+◌, ◌-◌, ◌*◌, ◌≤◌}
use native.Mathlib.Nat.{zero-add, add_assoc, mul-le-mul_left}
use native.Mathlib.Omega.{arith}
use lib.ListN.{length, replicate}
use Rattle.words.specs.Sets.{lowest, word_of}
use Rattle.words.proofs.Upto.{lowest_cong}
use Rattle.words.proofs.WordOf.{word_of_cong}
use Rattle.dimensions.specs.Sizes.{state_wire_count}
use Rattle.state.specs.declared.Level.{Level}
use Rattle.state.specs.declared.Run.{Run}
use Rattle.state.specs.declared.Standing.{Standing}
use Rattle.state.specs.State.{none, run_of}
use Rattle.wires.specs.Bits.{level_at, state_at}
use Rattle.wires.proofs.Lengths.{width_is}
use Rattle.readback.specs.Unpacking.{wire_in, standing_of, level_of, last_first, run_in}
use Rattle.readback.specs.Levels.{level_from, array_of, levels_from}
use Rattle.readback.proofs.ArrayLevels.{length_last}

module _ (n : ℕ) (bytes : List ℕ) where
  level-from : (l : ℕ) → level_from n bytes (3 * n + 1 + level_at n l) ≡ level_of n (state_at n (λ k. wire_in bytes k)) l
  level-from l = λ i. record {
    t = word_of_cong _ _ n (λ j h. ap (wire_in bytes) (at_t j)) i;
    f = word_of_cong _ _ n (λ j h. ap (wire_in bytes) (at_f j)) i;
    chosen = lowest_cong _ _ n (λ j h. ap (wire_in bytes) (at-v j)) i;
  }
    where
      at_t : (j : ℕ) → 3 * n + 1 + level_at n l + j ≡ n + (n + (suc n + (level_at n l + j)))
      at_t j = omega arith

      at_f : (j : ℕ) → 3 * n + 1 + level_at n l + n + j ≡ n + (n + (suc n + (level_at n l + (n + j))))
      at_f j = omega arith

      at-v : (j : ℕ) → 3 * n + 1 + level_at n l + n + n + j ≡ n + (n + (suc n + (level_at n l + (n + (n + j)))))
      at-v j = omega arith

  -- the levels lie within a state's wires
  pub levels-room : (depth : ℕ) → depth ≤ n → state_wire_count n ≤ length bytes → 3 * n + 1 + (n + (n + n)) * depth ≤ length bytes
  levels-room depth h r = omega (arith, mul-le-mul_left (n + (n + n)) h, width_is n)

  -- the closing wires, the last two of the state's
  closing : (last : ℕ) → last + 2 ≡ state_wire_count n → (k : ℕ) → last + k ≡ n + (n + (suc n + (level_at n n + k)))
  closing last e k = omega (arith, e, width_is n)

  pub run-read : (last : ℕ) → last + 2 ≡ state_wire_count n → (st : Standing) (t f depth : ℕ) (levels : List Level)
      → st ≡ standing_of (wire_in bytes last) (wire_in bytes (last + 1))
      → t ≡ word_of (λ i. wire_in bytes (0 + i)) n → f ≡ word_of (λ i. wire_in bytes (n + i)) n
      → depth ≡ lowest (λ i. wire_in bytes (n + n + i)) n → levels ≡ levels_from n depth bytes (3 * n + 1)
      → ◌≡◌ {A = Run} (record { n = n; standing = st; t = t; f = f; depth = depth; levels = levels }) (run_in n bytes)
  unfolding run_in run_of
  run-read last at_last st t f depth levels es et ef ed el =
      let b = state_at n (λ k. wire_in bytes k) in
      let d : ℕ = lowest b.depth n in
      let e : depth ≡ d = ed ∙ lowest_cong _ _ n (λ j h. ap (wire_in bytes) (add_assoc n n j)) in
      let first : last ≡ n + (n + (suc n + (level_at n n + 0))) = omega (arith, closing last at_last 0) in
      λ i. record {
        n = n;
        standing = (es ∙ ap₂ (λ (x y : ℕ). standing_of (wire_in bytes x) (wire_in bytes y)) first (closing last at_last 1)) i;
        t = (et ∙ word_of_cong _ _ n (λ j h. ap (wire_in bytes) (zero-add j))) i;
        f = ef i;
        depth = (e ∙ sym (length_last d (level_of n b))) i;
        levels = (el ∙ ap₂ array_of (fun_ext level-from) e ∙ ap (λ (k : ℕ). reverse (last_first d (level_of n b)) ++ replicate (32 - k) none)
            (sym (length_last d (level_of n b)))) i;
      }
