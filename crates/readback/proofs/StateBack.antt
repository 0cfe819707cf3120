-- What has the bits of a well-formed state is unpacked as that state: its words from their bits, its levels by induction from the last.
use mathlib.Core.Path.{◌≡◌, refl, ap, ap₂, ◌∙◌}
use mathlib.Core.Bool.{Bool, true}
use mathlib.Core.List.{List, [], ◌∷◌}
use Prim.Native.Nat.{ℕ, zero, suc, ◌^◌, ◌≤◌, ◌<◌}
use native.Mathlib.Nat.{le_of_suc-le-suc}
use native.Mathlib.Omega.{arith}
use lib.Dec.{eqb, eqb-zero-suc, eqb-suc-suc}
use lib.ListN.{length}
use Rattle.words.specs.Sets.{bit, lowest, word_of}
use Rattle.words.proofs.Upto.{lowest_cong}
use Rattle.words.proofs.WordOf.{word_of_cong, word_of_bit}
use Rattle.state.specs.declared.Level.{Level}
use Rattle.state.specs.declared.Standing.{Standing}
use Rattle.state.specs.declared.Standing.TheVariants.{Open, Satisfied, Refuted}
use Rattle.state.specs.State.{State, is_satisfied}
use Rattle.state.specs.WellFormed.{chain, well_formed_state}
use Rattle.state.proofs.WellFormedLaws.{formed_e, chain_head, chain_tail}
use Rattle.wires.specs.Layout.{on_level, is_refuted}
use Rattle.wires.specs.Bits.{Bits, bits_in}
use Rattle.wires.proofs.Levels.{level-last, level_older}
use Rattle.wires.proofs.Addresses.{Same}
use Rattle.readback.specs.Unpacking.{standing_of, level_of, last_first, unpacked}

-- a word below 2^n is the word of its bits
word-is : (f : ℕ → Bool) (n w : ℕ) → w < 2 ^ n → ((i : ℕ) → i < n → f i ≡ bit w i) → word_of f n ≡ w
word-is f n w h e = word_of_cong f (λ i. bit w i) n e ∙ word_of_bit w n h

-- of n wires of which only k can be set, k is the lowest; also if k is n
lowest-one : (n k : ℕ) → k ≤ n → lowest (λ i. eqb i k) n ≡ k
unfolding lowest
lowest-one zero k h = omega arith
lowest-one (suc n) zero h = refl
lowest-one (suc n) (suc k) h = rw (eqb-zero-suc k, lowest) (ap suc (simp eqb-suc-suc (lowest-one n k (le_of_suc-le-suc h))))

lowest-is : (f : ℕ → Bool) (n k : ℕ) → k ≤ n → ((i : ℕ) → i < n → f i ≡ eqb i k) → lowest f n ≡ k
lowest-is f n k h e = lowest_cong f (λ i. eqb i k) n e ∙ lowest-one n k h

-- ---- levels

-- the bits of a level are those of the list's
record Agree (n : ℕ) (b : Bits) (xs : List Level) (l : ℕ) : Type 0 where
  agree_t : (i : ℕ) → i < n → b.level_t l i ≡ on_level (λ x. bit x.t i) xs l
  agree-f : (i : ℕ) → i < n → b.level_f l i ≡ on_level (λ x. bit x.f i) xs l
  agree-v : (i : ℕ) → i < n → b.chosen l i ≡ on_level (λ x. eqb i x.chosen) xs l

levels-back : (n t f : ℕ) (b : Bits) (xs : List Level) → chain n t f xs ≡ true → ((l : ℕ) → l < length xs → Agree n b xs l)
    → last_first (length xs) (level_of n b) ≡ xs
unfolding last_first
levels-back n t f b [] c h = refl
levels-back n t f b (x ∷ xs) c h =
    let o = chain_head n x t f xs c in
    let a = h (length xs) (omega arith) in
    ap₂ (λ (y : Level) (ys : List Level). y ∷ ys)
    (λ i. record {
      t = word-is (b.level_t (length xs)) n x.t o.own.low_t (λ i k. a.agree_t i k ∙ level-last (λ y. bit y.t i) x xs) i;
      f = word-is (b.level_f (length xs)) n x.f o.own.low-f (λ i k. a.agree-f i k ∙ level-last (λ y. bit y.f i) x xs) i;
      chosen = lowest-is (b.chosen (length xs)) n x.chosen (omega (arith, o.low)) (λ i k. a.agree-v i k ∙ level-last (λ y. eqb i y.chosen) x xs) i;
    })
    (levels-back n x.t x.f b xs (chain_tail n x t f xs c) (λ l j. let a' = h l (omega arith) in record {
      agree_t = λ i k. a'.agree_t i k ∙ level_older (λ y. bit y.t i) x xs l j;
      agree-f = λ i k. a'.agree-f i k ∙ level_older (λ y. bit y.f i) x xs l j;
      agree-v = λ i k. a'.agree-v i k ∙ level_older (λ y. eqb i y.chosen) x xs l j;
    }))

-- ---- the state

standing-back : (st : Standing) → standing_of (is_satisfied st) (is_refuted st) ≡ st
standing-back Open = refl
standing-back Satisfied = refl
standing-back Refuted = refl

pub unpacked-is : (n : ℕ) (s : State) (b : Bits) → well_formed_state n s ≡ true → Same n b (bits_in s) → unpacked n b ≡ s
unpacked-is n s b h e =
    let o = formed_e n s h in
    let d : lowest b.depth n ≡ length s.levels = lowest-is b.depth n (length s.levels) o.few (λ k j. e.same_depth k (omega arith)) in
    λ i. record {
      standing = (ap₂ standing_of e.same-satisfied e.same-refuted ∙ standing-back s.standing) i;
      t = word-is b.T n s.t o.own.low_t e.same_t i;
      f = word-is b.F n s.f o.own.low-f e.same_f i;
      levels = (ap (λ (k : ℕ). last_first k (level_of n b)) d ∙ levels-back n s.t s.f b s.levels o.linked (λ l j. record {
        agree_t = λ i k. e.same_level_t l i (omega (arith, o.few)) k;
        agree-f = λ i k. e.same_level_f l i (omega (arith, o.few)) k;
        agree-v = λ i k. e.same_chosen l i (omega (arith, o.few)) k;
      })) i;
    }
