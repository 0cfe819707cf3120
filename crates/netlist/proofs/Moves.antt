-- What the signals of a rule make of a state's bits: `moved` writes out the sections from select to output, and each rule's signals make the bits of the next
-- state. The depth is one-hot, so the XOR over the levels is what is at the last one.
use mathlib.Core.Path.{◌≡◌, refl, sym, ap, ap₂, ◌∙◌}
use mathlib.Core.Bool.{Bool, true, false, ◌&&◌, or-false}
use mathlib.Core.List.{List, ◌∷◌}
use Prim.Native.Nat.{ℕ, suc, ◌<◌}
use lib.Dec.{eqb, eqb-suc-suc}
use lib.ListN.{length}
use borrow.Author.Tests.{eqb-true}
use Rattle.words.specs.Booleans.{◌⊕◌}
use Rattle.words.specs.Sets.{bit, put}
use Rattle.words.proofs.Truth.{on, taut2, agree, agree_eq}
use Rattle.words.proofs.Bits.{bit-put}
use Rattle.state.specs.declared.Level.{Level}
use Rattle.state.specs.declared.Standing.{Standing}
use Rattle.state.specs.declared.Standing.TheVariants.{Open}
use Rattle.state.specs.State.{State, is_satisfied}
use Rattle.wires.specs.Layout.{on_level, is_refuted}
use Rattle.wires.specs.Bits.{Bits, bits_in}
use Rattle.wires.proofs.Levels.{level-last}
use Rattle.wires.proofs.Addresses.{Same}
use Rattle.netlist.proofs.Chains.{xor_false, parity, parity-none, parity-at}
use Rattle.netlist.proofs.Levels.{level-added, level-removed}

-- what the cell `rule` says
pub record Signals : Type 0 where
  pub done : Bool
  pub refute : Bool
  pub pop : Bool
  pub push : Bool
  pub set_f : Bool
  pub set_t : Bool

-- a state by its parts
abbrev pub state : Standing → ℕ → ℕ → List Level → State
state standing t f ls = record { standing = standing; t = t; f = f; levels = ls }

module _ (n : ℕ) (g : Signals) (variable : ℕ → Bool) (s : State) where
  abbrev now : Bits
  now = bits_in s

  -- the wires pop_at and push_at of number k
  abbrev pub pop_at : ℕ → Bool
  pop_at k = g.pop && now.depth k

  abbrev pub push_at : ℕ → Bool
  push_at k = g.push && eqb k (suc (length s.levels))

  abbrev pub moved : Bits
  moved = record {
    T = λ i. now.T i ⊕ (((g.pop && now.T i) ⊕ parity (λ l. pop_at (suc l) && now.level_t l i) n) ⊕ (g.set_t && variable i));
    F = λ i. now.F i ⊕ (((g.pop && now.F i) ⊕ parity (λ l. pop_at (suc l) && (now.level_f l i ⊕ now.chosen l i)) n) ⊕ (g.set_f && variable i));
    depth = λ k. now.depth k ⊕ (((pop_at k ⊕ push_at k) ⊕ pop_at (suc k)) ⊕ push_at (suc k));
    level_t = λ l i. now.level_t l i ⊕ ((pop_at (suc l) && now.level_t l i) ⊕ (push_at (suc l) && now.T i));
    level_f = λ l i. now.level_f l i ⊕ ((pop_at (suc l) && now.level_f l i) ⊕ (push_at (suc l) && now.F i));
    chosen = λ l i. now.chosen l i ⊕ ((pop_at (suc l) && now.chosen l i) ⊕ (push_at (suc l) && variable i));
    satisfied = now.satisfied ⊕ g.done;
    refuted = now.refuted ⊕ g.refute;
  }

-- a wire that no level changes
kept : (a c : Bool) (n : ℕ) → a ⊕ (parity (λ l. false) n ⊕ c) ≡ a ⊕ c
kept a c n = ap (λ (x : Bool). a ⊕ (x ⊕ c)) (parity-none (λ l. false) n (λ l b. refl))

-- a variable that a word has not is put in by XOR
put_xor : (w v i : ℕ) → bit w v ≡ false → bit w i ⊕ eqb i v ≡ bit (put w v) i
put_xor w v i h =
    on (eqb i v)
    (λ e. rw (bit-put, e, eqb-true i v e, h))
    (λ e. rw (bit-put, e) (xor_false (bit w i) ∙ sym (or-false (bit w i))))

-- ---- no level added or removed

module _ (n t f : ℕ) (ls : List Level) (variable : ℕ → Bool) where
  -- T and F become t' and f', and the standing `to`
  level-kept : (from to : Standing) (d r sf st : Bool) (t' f' : ℕ)
      → ((i : ℕ) → i < n → bit t i ⊕ (st && variable i) ≡ bit t' i) → ((i : ℕ) → i < n → bit f i ⊕ (sf && variable i) ≡ bit f' i)
      → is_satisfied from ⊕ d ≡ is_satisfied to → is_refuted from ⊕ r ≡ is_refuted to
      → Same n (moved n (record { done = d; refute = r; pop = false; push = false; set_f = sf; set_t = st }) variable (state from t f ls))
      (bits_in (state to t' f' ls))
  level-kept from to d r sf st t' f' ht hf hs hr = record {
    same_t = λ i b. kept (bit t i) (st && variable i) n ∙ ht i b;
    same_f = λ i b. kept (bit f i) (sf && variable i) n ∙ hf i b;
    same_depth = λ k b. xor_false _;
    same_level_t = λ l i b c. xor_false _;
    same_level_f = λ l i b c. xor_false _;
    same_chosen = λ l i b c. xor_false _;
    same-satisfied = hs;
    same-refuted = hr;
  }

  -- nothing changes but the closing bits
  pub moved-closing : (from to : Standing) (d r : Bool) → is_satisfied from ⊕ d ≡ is_satisfied to → is_refuted from ⊕ r ≡ is_refuted to
      → Same n (moved n (record { done = d; refute = r; pop = false; push = false; set_f = false; set_t = false }) variable
      (state from t f ls)) (bits_in (state to t f ls))
  moved-closing from to d r = level-kept from to d r false false t f (λ i b. xor_false (bit t i)) (λ i b. xor_false (bit f i))

  module _ (v : ℕ) (picks : (i : ℕ) → i < n → variable i ≡ eqb i v) where
    put_in : (x i : ℕ) → i < n → bit x v ≡ false → bit x i ⊕ variable i ≡ bit (put x v) i
    put_in x i b h = ap (λ (y : Bool). bit x i ⊕ y) (picks i b) ∙ put_xor x v i h

    pub moved-true : bit t v ≡ false
        → Same n (moved n (record { done = false; refute = false; pop = false; push = false; set_f = false; set_t = true }) variable (state Open t f ls))
        (bits_in (state Open (put t v) f ls))
    moved-true h = level-kept Open Open false false false true (put t v) f (λ i b. put_in t i b h) (λ i b. xor_false (bit f i)) refl refl

    pub moved-false : bit f v ≡ false
        → Same n (moved n (record { done = false; refute = false; pop = false; push = false; set_f = true; set_t = false }) variable (state Open t f ls))
        (bits_in (state Open t (put f v) ls))
    moved-false h = level-kept Open Open false false true false t (put f v) (λ i b. xor_false (bit t i)) (λ i b. put_in f i b h) refl refl

    -- ---- a level added

    abbrev added : Level
    added = record { t = t; f = f; chosen = v }

    pub moved-choice : bit t v ≡ false
        → Same n (moved n (record { done = false; refute = false; pop = false; push = true; set_f = false; set_t = true }) variable (state Open t f ls))
        (bits_in (state Open (put t v) f (added ∷ ls)))
    moved-choice h = record {
      same_t = λ i b. kept (bit t i) (variable i) n ∙ put_in t i b h;
      same_f = λ i b. kept (bit f i) false n ∙ xor_false (bit f i);
      same_depth = λ k b. simp eqb-suc-suc (agree_eq (taut2 (λ a b. agree (a ⊕ ((b ⊕ false) ⊕ a)) b) refl (eqb k (length ls)) (eqb k (suc (length ls)))));
      same_level_t = λ l i b c. simp eqb-suc-suc (level-added (λ x. bit x.t i) added ls l);
      same_level_f = λ l i b c. simp eqb-suc-suc (level-added (λ x. bit x.f i) added ls l);
      same_chosen = λ l i b c. simp eqb-suc-suc (ap (λ (y : Bool). on_level (λ x. eqb i x.chosen) ls l ⊕ (eqb l (length ls) && y)) (picks i c)
          ∙ level-added (λ x. eqb i x.chosen) added ls l);
      same-satisfied = refl;
      same-refuted = refl;
    }

-- ---- the last level removed

module _ (n t f : ℕ) (l : Level) (ls : List Level) (variable : ℕ → Bool) (few : length ls < n) where
  abbrev d : ℕ
  d = length ls

  -- what the last level has
  restored : (g : Level → Bool) → parity (λ k. eqb k d && on_level g (l ∷ ls) k) n ≡ g l
  restored g = parity-at (λ k. on_level g (l ∷ ls) k) n d few ∙ level-last g l ls

  restored_two : (g h : Level → Bool) → parity (λ k. eqb k d && (on_level g (l ∷ ls) k ⊕ on_level h (l ∷ ls) k)) n ≡ g l ⊕ h l
  restored_two g h = parity-at (λ k. on_level g (l ∷ ls) k ⊕ on_level h (l ∷ ls) k) n d few ∙ ap₂ ◌⊕◌ (level-last g l ls) (level-last h l ls)

  taken : (a x : Bool) → a ⊕ ((a ⊕ x) ⊕ false) ≡ x
  taken a x = agree_eq (taut2 (λ a x. agree (a ⊕ ((a ⊕ x) ⊕ false)) x) refl a x)

  removed : (g : Level → Bool) (k : ℕ) → on_level g (l ∷ ls) k ⊕ ((eqb k d && on_level g (l ∷ ls) k) ⊕ false) ≡ on_level g ls k
  removed g k = ap (λ (x : Bool). on_level g (l ∷ ls) k ⊕ x) (xor_false (eqb k d && on_level g (l ∷ ls) k)) ∙ level-removed g l ls k

  pub moved_back : bit l.f l.chosen ≡ false
      → Same n (moved n (record { done = false; refute = false; pop = true; push = false; set_f = false; set_t = false }) variable (state Open t f (l ∷ ls)))
      (bits_in (state Open l.t (put l.f l.chosen) ls))
  moved_back h = record {
    same_t = λ i b. simp eqb-suc-suc (ap (λ (x : Bool). bit t i ⊕ ((bit t i ⊕ x) ⊕ false)) (restored (λ x. bit x.t i)) ∙ taken (bit t i) (bit l.t i));
    same_f = λ i b. simp eqb-suc-suc (ap (λ (x : Bool). bit f i ⊕ ((bit f i ⊕ x) ⊕ false)) (restored_two (λ x. bit x.f i) (λ x. eqb i x.chosen))
        ∙ taken (bit f i) (bit l.f i ⊕ eqb i l.chosen) ∙ put_xor l.f l.chosen i h);
    same_depth = λ k b. simp eqb-suc-suc (agree_eq (taut2 (λ a b. agree (a ⊕ (((a ⊕ false) ⊕ b) ⊕ false)) b) refl (eqb k (suc d)) (eqb k d)));
    same_level_t = λ k i b c. simp eqb-suc-suc (removed (λ x. bit x.t i) k);
    same_level_f = λ k i b c. simp eqb-suc-suc (removed (λ x. bit x.f i) k);
    same_chosen = λ k i b c. simp eqb-suc-suc (removed (λ x. eqb i x.chosen) k);
    same-satisfied = refl;
    same-refuted = refl;
  }
