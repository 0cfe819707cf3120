-- One turn: the variable at the last place goes to T or to F, and what was asked of the turns holds of those that are left.
use mathlib.Core.Path.{◌≡◌, refl, sym, ap, ap₂, ◌∙◌, fun_ext}
use mathlib.Core.Bool.{Bool, true, false, beq, not, ◌&&◌, ◌||◌, cond, true≢false}
use mathlib.Core.List.{List, ◌∷◌}
use Prim.Native.Nat.{ℕ, zero, suc, ◌-◌, ◌/◌, ◌%◌, ◌≤◌, ◌<◌}
use native.Mathlib.Numerals.{sub-one}
use native.Mathlib.Omega.{arith}
use lib.Dec.{eqb, ltb}
use borrow.Author.Tests.{eqb-true, not-true, ltb-true}
use Rattle.words.specs.Booleans.{imp}
use Rattle.words.specs.Sets.{bit, put}
use Rattle.words.proofs.Truth.{and_l, and_r, mp, on, taut2, taut3, agree, agree_eq}
use Rattle.words.proofs.Bits.{bit-put, bit-zero}
use Rattle.words.specs.declared.Row.{Row}
use Rattle.truth.specs.Truth.{all_true}
use Rattle.truth.proofs.Agreement.{agreed, Agrees}
use Rattle.qdimacs.specs.TurnsInWords.{turn_in, turns_in}
use Rattle.game.specs.Game.{fixed, decided, forced, winner, winner_of}
use Rattle.game.specs.Cuts.{is_set, are_all_new, Apart}

-- what both functions ask
abbrev pub Ready : ℕ → ℕ → ℕ → ℕ → Type 0
Ready w u t f = (are_all_new (turns_in w u) (is_set t f) ≡ true) × Apart t f

-- the variable of the first turn, and whose it is
abbrev pub next : ℕ → ℕ
next w = w / 2 % 16

abbrev pub is_universal : ℕ → Bool
is_universal w = eqb (w % 2) 1

-- a word with a variable more, as code makes it
abbrev pub with : ℕ → ℕ → ℕ
with w v = cond (ltb v 32) (put w v) w

pub apart_agrees : (t f : ℕ) → Apart t f → Agrees 32 (bit t) t f
apart_agrees t f h i b = mp _ _ (taut2 (λ t f. imp (not (t && f)) (agreed t f t)) refl (bit t i) (bit f i)) (ap not (h i))

module _ (w : ℕ) where
  turns : (u : ℕ) → (u ≡ 0 → ⊥) → turns_in w u ≡ turn_in w ∷ turns_in (w / 32) (u - 1)
  unfolding turns_in
  turns zero h = absurd (h refl)
  turns (suc k) h = rw (sub-one (suc k))

  module _ (u t f : ℕ) (h : u ≡ 0 → ⊥) (r : Ready w u t f) where
    opened : are_all_new (turn_in w ∷ turns_in (w / 32) (u - 1)) (is_set t f) ≡ true
    opened = rw (turns u h) at r.0

    low : ltb (next w) 32 ≡ true
    unfolding are_all_new
    low = and_l (ltb (next w) 32) _ (and_l (ltb (next w) 32 && not (is_set t f (next w))) _ opened)

    unset : is_set t f (next w) ≡ false
    unfolding are_all_new
    unset = not-true _ (and_r (ltb (next w) 32) _ (and_l (ltb (next w) 32 && not (is_set t f (next w))) _ opened))

    rest : are_all_new (turns_in (w / 32) (u - 1)) (λ i. is_set t f i || eqb i (next w)) ≡ true
    unfolding are_all_new
    rest = and_r (ltb (next w) 32 && not (is_set t f (next w))) _ opened

    put-true : with t (next w) ≡ put t (next w)
    put-true = rw low

    put-false : with f (next w) ≡ put f (next w)
    put-false = rw low

    -- ---- what is asked of the turns that are left

    set-true : (λ (i : ℕ). is_set t f i || eqb i (next w)) ≡ is_set (put t (next w)) f
    set-true = fun_ext (λ i. rw bit-put (agree_eq (taut3 (λ t f x. agree ((t || f) || x) ((t || x) || f)) refl (bit t i) (bit f i) (eqb i (next w)))))

    set-false : (λ (i : ℕ). is_set t f i || eqb i (next w)) ≡ is_set t (put f (next w))
    set-false = fun_ext (λ i. rw bit-put (agree_eq (taut3 (λ t f x. agree ((t || f) || x) (t || (f || x))) refl (bit t i) (bit f i) (eqb i (next w)))))

    apart_true : Apart (put t (next w)) f
    apart_true i =
        rw bit-put (on (eqb i (next w))
        (λ q. let e : is_set t f i ≡ false = rw (eqb-true i _ q) unset in
        rw q (not-true _ (mp _ _ (taut2 (λ t f. imp (not (t || f)) (not ((t || true) && f))) refl (bit t i) (bit f i)) (ap not e))))
        (λ q. rw q (not-true _ (mp _ _ (taut2 (λ t f. imp (not (t && f)) (not ((t || false) && f))) refl (bit t i) (bit f i)) (ap not (r.1 i))))))

    apart_false : Apart t (put f (next w))
    apart_false i =
        rw bit-put (on (eqb i (next w))
        (λ q. let e : is_set t f i ≡ false = rw (eqb-true i _ q) unset in
        rw q (not-true _ (mp _ _ (taut2 (λ t f. imp (not (t || f)) (not (t && (f || true)))) refl (bit t i) (bit f i)) (ap not e))))
        (λ q. rw q (not-true _ (mp _ _ (taut2 (λ t f. imp (not (t && f)) (not (t && (f || false)))) refl (bit t i) (bit f i)) (ap not (r.1 i))))))

    pub next_low : next w < 32
    next_low = ltb-true _ _ low

    pub ready_true : (p : ℕ) → p ≡ with t (next w) → Ready (w / 32) (u - 1) p f
    ready_true p e = rw (e, put-true) (rw set-true at rest, apart_true)

    pub ready_false : (p : ℕ) → p ≡ with f (next w) → Ready (w / 32) (u - 1) t p
    ready_false p e = rw (e, put-false) (rw set-false at rest, apart_false)

    -- ---- the assignment

    fixed-true : fixed (bit t) (next w) true ≡ bit (with t (next w))
    fixed-true = rw put-true (fun_ext (λ i. rw bit-put (go (eqb i (next w)) (bit t i))))
      where
        go : (q b : Bool) → cond q true b ≡ b || q
        go true true = refl
        go true false = refl
        go false true = refl
        go false false = refl

    fixed-false : fixed (bit t) (next w) false ≡ bit t
    fixed-false = fun_ext (λ i. on (eqb i (next w))
        (λ q. let e : is_set t f i ≡ false = rw (eqb-true i _ q) unset in
        rw q (sym (not-true _ (mp _ _ (taut2 (λ t f. imp (not (t || f)) (not t)) refl (bit t i) (bit f i)) (ap not e)))))
        (λ q. rw q))

    -- ---- the outcome

    outcome : (rows : List Row) → forced rows (turns_in w u) (bit t)
        ≡ decided (is_universal w) (forced rows (turns_in (w / 32) (u - 1)) (bit (with t (next w)))) (forced rows (turns_in (w / 32) (u - 1)) (bit t))
    unfolding forced
    outcome rows = rw (turns u h) (ap₂ (λ (a b : ℕ → Bool). decided (is_universal w) (forced rows (turns_in (w / 32) (u - 1)) a)
        (forced rows (turns_in (w / 32) (u - 1)) b)) fixed-true fixed-false)

    module _ (rows : List Row) (p : ℕ) (b : Bool) (ep : p ≡ with t (next w)) (eb : b ≡ is_universal w) where
      -- what is forced after true and after false
      abbrev after-true : Bool
      after-true = forced rows (turns_in (w / 32) (u - 1)) (bit p)

      abbrev after-false : Bool
      after-false = forced rows (turns_in (w / 32) (u - 1)) (bit t)

      both_values : forced rows (turns_in w u) (bit t) ≡ decided b after-true after-false
      both_values = rw (eb, ep) (outcome rows)

      -- the first value decides where it gives the side that moves its aim; else the second does
      pub existential_first : (x : Bool) → x ≡ not after-true → not x ≡ not b → not x ≡ forced rows (turns_in w u) (bit t)
      existential_first x ex e = rw both_values (go b x after-true after-false ex e)
        where
          go : (b x y z : Bool) → x ≡ not y → not x ≡ not b → not x ≡ decided b y z
          go true true true z ex e = absurd (true≢false ex)
          go true true false z ex e = refl
          go true false true z ex e = absurd (true≢false e)
          go true false false z ex e = absurd (true≢false (sym ex))
          go false true true z ex e = absurd (true≢false ex)
          go false true false z ex e = absurd (true≢false (sym e))
          go false false true z ex e = refl
          go false false false z ex e = absurd (true≢false (sym ex))

      pub existential_second : (x y : Bool) → x ≡ not after-true → y ≡ not after-false → (not x ≡ not b → ⊥) → not y ≡ forced rows (turns_in w u) (bit t)
      existential_second x y ex ey e = rw (both_values, ey) (go b x after-true after-false ex e)
        where
          go : (b x y z : Bool) → x ≡ not y → (not x ≡ not b → ⊥) → not (not z) ≡ decided b y z
          go true true y z ex e = absurd (e refl)
          go true false true true ex e = refl
          go true false true false ex e = refl
          go true false false z ex e = absurd (true≢false (sym ex))
          go false true true z ex e = absurd (true≢false ex)
          go false true false true ex e = refl
          go false true false false ex e = refl
          go false false y z ex e = absurd (e refl)

      pub universal_first : (x : Bool) → x ≡ after-true → not x ≡ b → not x ≡ not (forced rows (turns_in w u) (bit t))
      universal_first x ex e = rw (both_values, ← ex) (go b x after-false e)
        where
          go : (b x z : Bool) → not x ≡ b → not x ≡ not (decided b x z)
          go true true z e = absurd (true≢false (sym e))
          go true false z e = refl
          go false true z e = refl
          go false false z e = absurd (true≢false e)

      pub universal_second : (x y : Bool) → x ≡ after-true → y ≡ after-false → (not x ≡ b → ⊥) → not y ≡ not (forced rows (turns_in w u) (bit t))
      universal_second x y ex ey e = rw (both_values, ← ex, ← ey) (go b x y e)
        where
          go : (b x z : Bool) → (not x ≡ b → ⊥) → not z ≡ not (decided b x z)
          go true true z e = refl
          go true false z e = absurd (e refl)
          go false true z e = absurd (e refl)
          go false false z e = refl

-- two flags that a test finds equal, or not
pub same_flags : (a b : Bool) → beq a b ≡ true → a ≡ b
same_flags true true e = refl
same_flags true false e = absurd (true≢false (sym e))
same_flags false true e = absurd (true≢false (sym e))
same_flags false false e = refl

pub other_flags : (a b : Bool) → beq a b ≡ false → a ≡ b → ⊥
other_flags true true e q = true≢false e
other_flags true false e q = true≢false q
other_flags false true e q = true≢false (sym q)
other_flags false false e q = true≢false e

-- the number of unset variables falls
pub fewer : (u t : ℕ) → (u ≡ 0 → ⊥) → u ≡ t → u - 1 < t
fewer zero t h e = absurd (h refl)
fewer (suc u) t h e = omega arith

-- no variable is left
pub none_left : (w : ℕ) (u : ℕ) (rows : List Row) (a : ℕ → Bool) → u ≡ 0 → all_true a rows ≡ forced rows (turns_in w u) a
unfolding forced turns_in
none_left w u rows a e = rw e

-- ---- from the first turn on

pub bit-none : bit 0 ≡ (λ (i : ℕ). false)
bit-none = fun_ext bit-zero

pub apart_none : Apart 0 0
apart_none i = rw bit-zero refl

module _ (w : ℕ) (n : ℕ) (h : n ≡ 0 → ⊥) (r : Ready w n 0 0) (rows : List Row) where
  pub first-turn : (p : ℕ) (b x y : Bool) → p ≡ with 0 (next w) → b ≡ is_universal w
      → x ≡ forced rows (turns_in (w / 32) (n - 1)) (bit p) → y ≡ forced rows (turns_in (w / 32) (n - 1)) (bit 0)
      → winner (next w) b x y ≡ winner_of rows (turns_in w n)
  first-turn p b x y ep eb ex ey =
      rw (eb, ex, ey, ep, turns w n h)
      (sym (ap₂ (λ (a c : ℕ → Bool). winner (next w) (is_universal w) (forced rows (turns_in (w / 32) (n - 1)) a) (forced rows (turns_in (w / 32) (n - 1)) c))
      (ap (λ (a : ℕ → Bool). fixed a (next w) true) (sym bit-none) ∙ fixed-true w n 0 0 h r)
      (ap (λ (a : ℕ → Bool). fixed a (next w) false) (sym bit-none) ∙ fixed-false w n 0 0 h r)))

pub not_none : (n : ℕ) → 1 ≤ n → n ≡ 0 → ⊥
not_none n h e = omega arith
