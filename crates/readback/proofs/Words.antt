-- Wires in a part of the bytes: the lowest that is set, and the word of those that are, gathered from the last to the first.
use mathlib.Core.Path.{◌≡◌, sym, ap, ap₂, ◌∙◌}
use mathlib.Core.Bool.{Bool, true, false}
use mathlib.Core.List.{List, [], ◌∷◌, ◌++◌}
use mathlib.Core.Logic.{◌≢◌}
use Prim.Native.Nat.{ℕ, ◌+◌, ◌-◌, ◌*◌, ◌^◌, ◌<◌, ◌≤◌}
use native.Mathlib.Omega.{arith}
use lib.Dec.{eqb}
use lib.ListN.{length, get_or, length-append, get_or-append}
use lib.Seq.{get_or-append-add}
use borrow.Author.Tests.{eqb-true, eq-eqb, ne_eqb}
use Rattle.std.specs.Prelude.{Option, Some, None}
use Rattle.std.specs.Option.{MatchOption, unwrap_or}
use Rattle.std.specs.List.{between, AllWithin, HoldsAt}
use Rattle.std.proofs.lemmas.List.Edits.{length-between, get_or-between}
use Rattle.words.specs.Booleans.{digit}
use Rattle.words.specs.Sets.{lowest, word_of}
use Rattle.words.proofs.Upto.{lowest-none}
use Rattle.words.proofs.Last.{any_false, lowest-first}
use Rattle.words.proofs.WordOf.{word-start, word-turn, word_room, word_end}
use Rattle.readback.specs.Unpacking.{wire_in}

-- the lowest is the one that passes where none below it does
pub lowest-at : (p : ℕ → Bool) (n i : ℕ) → i < n → p i ≡ true → ((k : ℕ) → k < i → p k ≡ false) → lowest p n ≡ i
lowest-at p n i h e none = sym (eqb-true i (lowest p n) (sym (lowest-first p n i h) ∙ rw (e, any_false p i none)))

-- of n bytes from a place on those that are left, and the word of the wires behind them
pub record Gathered (bytes : List ℕ) (at n : ℕ) (rest : List ℕ) (word : ℕ) : Type 0 where
  pub most : length rest ≤ n
  pub left : (j : ℕ) → j < length rest → get_or rest j 0 ≡ get_or bytes (at + j) 0
  pub value : word ≡ word_of (λ j. wire_in bytes (at + (length rest + j))) (n - length rest)

-- ---- a part of n bytes from a place on

module _ (bytes : List ℕ) (at n : ℕ) (room : at + n ≤ length bytes) where
  abbrev part : List ℕ
  part = between at (at + n) bytes

  part-length : length part ≡ n
  part-length = omega (arith, length-between bytes at (at + n) room)

  part_at : (i : ℕ) → i < n → get_or part i 0 ≡ get_or bytes (at + i) 0
  part_at i h = get_or-between bytes at (at + n) i 0 (omega arith)

  -- the first byte that is 1, or n
  pub lowest-found : (r : Option ℕ)
      → MatchOption r (AllWithin (λ x. x ≢ 1) part 0 (length part)) (λ i. (i < length part) × HoldsAt (λ x. x ≡ 1) part i × AllWithin (λ x. x ≢ 1) part 0 i)
      → unwrap_or r n ≡ lowest (λ i. wire_in bytes (at + i)) n
  lowest-found None h =
      sym (lowest-none (λ i. wire_in bytes (at + i)) n
      (λ i b. let other : get_or part i 0 ≢ 1 = h i 0 (omega arith) (omega (arith, part-length)) in ne_eqb _ _ (λ e. other (part_at i b ∙ e))))
  lowest-found (Some i) (b, one, none) =
      let h : i < n = omega (arith, part-length) in
      let it : get_or part i 0 ≡ 1 = one 0 in
      sym (lowest-at (λ i. wire_in bytes (at + i)) n i h (eq-eqb _ _ (sym (part_at i h) ∙ it))
      (λ k l. let other : get_or part k 0 ≢ 1 = none k 0 (omega arith) l in ne_eqb _ _ (λ e. other (part_at k (omega arith) ∙ e))))

  -- ---- gone through from the end: the word has the wires behind those that are left

  pub gathered-start : (rest : List ℕ) → rest ≡ part → Gathered bytes at n rest 0
  gathered-start rest e =
      let size : length rest ≡ n = ap length e ∙ part-length in
      record {
        most = omega arith;
        left = λ j h. ap (λ (l : List ℕ). get_or l j 0) e ∙ part_at j (omega arith);
        value = word-start (λ j. wire_in bytes (at + (length rest + j))) n
            ∙ ap (λ (m : ℕ). word_of (λ j. wire_in bytes (at + (length rest + j))) (n - m)) (sym size);
      }

module _ (bytes : List ℕ) (at n : ℕ) (rest : List ℕ) (word : ℕ) (g : Gathered bytes at n rest word) where
  abbrev wire : ℕ → Bool
  wire i = wire_in bytes (at + i)

  module _ (left : List ℕ) (byte : ℕ) (e : rest ≡ left ++ byte ∷ []) where
    size : length rest ≡ length left + 1
    size = ap length e ∙ length-append left (byte ∷ [])

    pub gathered_room : n ≤ 32 → word < 2 ^ 31
    gathered_room h = omega (arith, g.value, size, word_room (λ j. wire (length rest + j)) n (length rest) (omega (arith, size)) h)

    pub gathered_turn : (v : ℕ) → v ≡ digit (eqb byte 1) → Gathered bytes at n left (v + 2 * word)
    gathered_turn v d = record {
      most = omega (arith, g.most, size);
      left = λ j h. sym (ap (λ (l : List ℕ). get_or l j 0) e ∙ get_or-append left (byte ∷ []) 0 j h) ∙ g.left j (omega (arith, size));
      value = ap₂ (λ (x y : ℕ). x + 2 * y) (d ∙ ap (λ (x : ℕ). digit (eqb x 1)) byte-is) g.value
          ∙ ap (λ (m : ℕ). digit (wire m) + 2 * word_of (λ j. wire (length rest + j)) (n - length rest)) (sym last)
          ∙ sym (word-turn wire n (length rest) (omega (arith, size)) g.most)
          ∙ ap (λ (m : ℕ). word_of (λ j. wire (m + j)) (n - m)) last;
    }
      where
        last : length rest - 1 ≡ length left
        last = omega (arith, size)

        byte-is : byte ≡ get_or bytes (at + length left) 0
        byte-is =
            let e₀ : length left + 0 ≡ length left = omega arith in
            sym (ap₂ (λ (l : List ℕ) (i : ℕ). get_or l i 0) e (sym e₀) ∙ get_or-append-add left (byte ∷ []) 0 0)
            ∙ g.left (length left) (omega (arith, size))

  pub gathered_end : length rest ≡ 0 → word ≡ word_of wire n
  gathered_end h = g.value ∙ word_end wire n (length rest) h
