-- Lists of sections: what holds of each, and where each begins if it begins where the one before ends. By induction on the list; of a family by the test
-- that counts its members.
use mathlib.Core.Path.{◌≡◌, refl, ap, ap₂, sym, ◌∙◌, subst}
use mathlib.Core.List.{List, [], ◌∷◌, ◌++◌, append_assoc, append-nil}
use Prim.Native.Nat.{ℕ, zero, suc, min, ◌+◌, ◌*◌, ◌≤◌, ◌<◌}
use native.Mathlib.Nat.{not-suc-le-zero, le_of_suc-le-suc}
use native.Mathlib.Omega.{arith}
use borrow.Author.Tests.{ltb-true, ltb-false}
use lib.Dec.{ltb}
use lib.ListN.{length, get_or}
use Rattle.words.proofs.Truth.{on}
use Rattle.gates.specs.Gates.{Gate}
use Rattle.sections.specs.declared.Addresses.{Addresses}
use Rattle.sections.specs.declared.Section.{Section}
use Rattle.sections.specs.Sections.{no_section, if_digit, five}
use Rattle.sections.proofs.InOrder.{if_digit_lem, no_digit}
use Rattle.netlist.specs.Arrays.{rows, array}
use Rattle.generator.specs.Storing.{gates_of}

-- ---- what holds of each

abbrev pub All : (Section → Type 0) → List Section → Type 0
All P [] = Unit {0}
All P (s ∷ ss) = P s × All P ss

pub all-at : (P : Section → Type 0) (ss : List Section) (d : Section) → All P ss → (k : ℕ) → k < length ss → P (get_or ss k d)
all-at P [] d h k l = absurd (not-suc-le-zero l)
all-at P (s ∷ ss) d h zero l = h.0
all-at P (s ∷ ss) d h (suc k) l = all-at P ss d h.1 k (le_of_suc-le-suc l)

pub all_append : (P : Section → Type 0) (xs ys : List Section) → All P xs → All P ys → All P (xs ++ ys)
all_append P [] ys h k = k
all_append P (x ∷ xs) ys h k = (h.0, all_append P xs ys h.1 k)

-- ---- where each begins

-- how many gates a section has
unfoldable pub size : Section → ℕ
size s = (s.zeros + s.size * s.cells) * s.lanes

-- a section after i inputs and gates that end at b: it begins there if it has lanes
abbrev pub Begins : ℕ → ℕ → Section → Type 0
Begins i b s = (0 < s.lanes → s.base ≡ b) × (i ≤ s.base) × (s.base ≤ b)

-- the first begins at b, each where the one before ends, and the last ends at e
abbrev pub Chain : ℕ → ℕ → List Section → ℕ → Type 0
Chain i b [] e = b ≡ e
Chain i b (s ∷ ss) e = Begins i b s × Chain i (b + size s) ss e

-- where the first k end
abbrev pub ends : ℕ → List Section → ℕ → ℕ
ends b ss zero = b
ends b [] (suc k) = b
ends b (s ∷ ss) (suc k) = ends (b + size s) ss k

pub chain-at : (i b : ℕ) (ss : List Section) (e : ℕ) (d : Section) → Chain i b ss e → (k : ℕ) → k < length ss → Begins i (ends b ss k) (get_or ss k d)
chain-at i b [] e d c k l = absurd (not-suc-le-zero l)
chain-at i b (s ∷ ss) e d c zero l = c.0
chain-at i b (s ∷ ss) e d c (suc k) l = chain-at i (b + size s) ss e d c.1 k (le_of_suc-le-suc l)

pub chain_end : (i b : ℕ) (ss : List Section) (e : ℕ) → Chain i b ss e → ends b ss (length ss) ≡ e
chain_end i b [] e c = c
chain_end i b (s ∷ ss) e c = chain_end i (b + size s) ss e c.1

pub ends_more : (b : ℕ) (ss : List Section) (d : Section) (k : ℕ) → k < length ss → ends b ss (suc k) ≡ ends b ss k + size (get_or ss k d)
ends_more b [] d k l = absurd (not-suc-le-zero l)
ends_more b (s ∷ ss) d zero l = refl
ends_more b (s ∷ ss) d (suc k) l = ends_more (b + size s) ss d k (le_of_suc-le-suc l)

pub chain_append : (i b c c' e : ℕ) (xs ys : List Section) → Chain i b xs c → c ≡ c' → Chain i c' ys e → Chain i b (xs ++ ys) e
chain_append i b c c' e [] ys h q k = subst (λ (x : ℕ). Chain i x ys e) (sym (h ∙ q)) k
chain_append i b c c' e (x ∷ xs) ys h q k = (h.0, chain_append i (b + size x) c c' e xs ys h.1 q k)

-- ---- their gates

abbrev pub joined : List Section → List Gate
joined [] = []
joined (s ∷ ss) = gates_of s ++ joined ss

pub joined_append : (xs ys : List Section) → joined (xs ++ ys) ≡ joined xs ++ joined ys
joined_append [] ys = refl
joined_append (x ∷ xs) ys = ap (λ (l : List Gate). gates_of x ++ l) (joined_append xs ys) ∙ sym (append_assoc (gates_of x) (joined xs) (joined ys))

-- ---- a family's five members, of which those for digits from b on have no lanes

module _ (a : Addresses) (f : ℕ → Section) where
  member : (P : Section → Type 0) (d : ℕ) → (d < a.b → P (f d)) → (a.b ≤ d → P (no_section a)) → P (if_digit a f d)
  member P d below behind =
      on (ltb d a.b)
      (λ e. subst P (if_digit_lem a f d (ltb-true d a.b e)) (below (ltb-true d a.b e)))
      (λ e. subst P (no_digit a f d (ltb-false d a.b e)) (behind (ltb-false d a.b e)))

  pub all-five : (P : Section → Type 0) → ((d : ℕ) → d < a.b → P (f d)) → P (no_section a) → All P (five a f)
  all-five P h none =
      let each : (d : ℕ) → P (if_digit a f d) = λ d. member P d (h d) (λ l. none) in
      (each 0, (each 1, (each 2, (each 3, (each 4, tt)))))

  -- k members from member d on
  abbrev members : ℕ → ℕ → List Section
  members d zero = []
  members d (suc k) = if_digit a f d ∷ members (suc d) k

  -- the gates of the first k
  upto : (g : ℕ → List Gate) → ((d : ℕ) → gates_of (f d) ≡ g d) → (k : ℕ) → rows (λ d. gates_of (if_digit a f d)) k ≡ rows g (min k a.b)
  unfolding array
  upto g same zero =
      let e : 0 ≡ min 0 a.b = omega arith in
      ap (rows g) e
  upto g same (suc k) =
      member (λ s. rows (λ d. gates_of (if_digit a f d)) k ++ gates_of s ≡ rows g (min (suc k) a.b)) k
      (λ l.
      let e : min k a.b ≡ k = omega arith in
      let e' : min (suc k) a.b ≡ suc k = omega arith in
      ap₂ ◌++◌ (upto g same k ∙ ap (rows g) e) (same k) ∙ sym (ap (rows g) e'))
      (λ l.
      let e : min k a.b ≡ min (suc k) a.b = omega arith in
      append-nil (rows (λ d. gates_of (if_digit a f d)) k) ∙ upto g same k ∙ ap (rows g) e)

  module _ (few : a.b ≤ 5) where
    all : min 5 a.b ≡ a.b
    all = omega arith

    -- their gates are those of the first b
    pub five-joined : (g : ℕ → List Gate) → ((d : ℕ) → gates_of (f d) ≡ g d) → joined (five a f) ≡ rows g a.b
    five-joined g same =
        let e : joined (five a f) ≡ rows (λ d. gates_of (if_digit a f d)) 5 = simp (append_assoc, append-nil) in
        e ∙ upto g same 5 ∙ ap (rows g) all

    -- where each member begins where the one before ends, the last of these ends at base b
    module _ (base : ℕ → ℕ) (at : (d : ℕ) → (f d).base ≡ base d) (next : (d : ℕ) → base d + size (f d) ≡ base (suc d))
        (late : (d : ℕ) → a.inputs ≤ base d) where
      step : (d : ℕ) → Begins a.inputs (base (min d a.b)) (if_digit a f d) × (base (min d a.b) + size (if_digit a f d) ≡ base (min (suc d) a.b))
      unfolding size
      step d =
          member (λ s. Begins a.inputs (base (min d a.b)) s × (base (min d a.b) + size s ≡ base (min (suc d) a.b))) d
          (λ l.
          let e : min d a.b ≡ d = omega arith in
          let e' : min (suc d) a.b ≡ suc d = omega arith in
          omega (arith, ap base e, ap base e', at d, next d, late d))
          (λ l.
          let e : min d a.b ≡ min (suc d) a.b = omega arith in
          omega (arith, ap base e, late (min d a.b)))

      from : (k d : ℕ) → Chain a.inputs (base (min d a.b)) (members d k) (base (min (d + k) a.b))
      from zero d =
          let e : min d a.b ≡ min (d + 0) a.b = omega arith in
          ap base e
      from (suc k) d =
          let e : suc d + k ≡ d + suc k = omega arith in (
            (step d).0,
            subst (λ (x : ℕ). Chain a.inputs x (members (suc d) k) (base (min (d + suc k) a.b))) (sym (step d).1)
                (subst (λ (x : ℕ). Chain a.inputs (base (min (suc d) a.b)) (members (suc d) k) (base (min x a.b))) e (from k (suc d))),
          )

      pub five_chained : Chain a.inputs (base 0) (five a f) (base a.b)
      five_chained =
          let none : min 0 a.b ≡ 0 = omega arith in
          subst (λ (x : ℕ). Chain a.inputs (base 0) (five a f) (base x)) all
          (subst (λ (x : ℕ). Chain a.inputs (base x) (five a f) (base (min 5 a.b))) none (from 5 0))
