-- The variables of a prefix in words: the lines' variables one after the other, and those on no line in front of them.
use Rattle.std.specs.Prelude.{Option, Some, None}
use mathlib.Core.Path.{◌≡◌, refl, sym, ap, ap₂, ◌∙◌, subst}
use mathlib.Core.Bool.{Bool, true, false, not, ◌&&◌, ◌||◌, cond, true≢false}
use mathlib.Core.List.{List, [], ◌∷◌, ◌++◌, append-nil, append_assoc}
use Prim.Native.Nat.{ℕ, zero, suc, ◌+◌, ◌-◌, ◌*◌, ◌%◌, ◌^◌, ◌≤◌, ◌<◌}
use native.Mathlib.Nat.{mod-eq_of_lt}
use native.Mathlib.Omega.{arith}
use lib.Dec.{eqb, ltb}
use lib.ListN.{length, length-append}
use lib.Pow.{pow_mono}
use borrow.Author.Tests.{eqb-true, eq-eqb, ne_eqb, eqb-false, lt-ltb, le-ltb, lt-leb}
use Rattle.words.specs.Sets.{bit, put}
use Rattle.words.proofs.Truth.{and_i, on, taut1, taut5, agree, agree_eq}
use Rattle.words.proofs.Bits.{bit-put, bit-zero}
use Rattle.words.proofs.Upto.{count_le}
use Rattle.header.specs.Header.{beyond}
use Rattle.header.proofs.Limits.{within}
use Rattle.qdimacs.specs.Lines.{Bound, bound_before, is_variable_line, variable_line, prefix_of, behind_prefix}
use Rattle.qdimacs.specs.Text.{on_line, proper, GameTurn, unlisted, line_turns, game_turns}
use Rattle.qdimacs.specs.TurnsInWords.{turn_digit, turns_word, no_variable, improper, is_full, bound_by, bound_all, arranged}
use Rattle.qdimacs.specs.Walk.{Walked, walked_on, walked}
use Rattle.qdimacs.specs.declared.Prefix.{Prefix}
use Rattle.qdimacs.proofs.Turns.{has_turn, bit-value, on_has, occurs-low, listed-count, line-turns-length, turns-length}
use Rattle.qdimacs.proofs.Digits.{all_small, unit-more, turns-lt, turns_more}
use Rattle.qdimacs.proofs.Bindings.{with_this, beyond_spoils, again_spoils, bound_more}

-- ---- the lines of a prefix

-- what a prefix and the lines after it come to
abbrev pub walked_as : ℕ → Prefix → Option (List Bound) → List (List ℕ) → Option Walked
walked_as n p None rest = None
walked_as n p (Some bs) rest = Some (record { prefix = bound_all n p bs; rest = rest })

bound_append : (n : ℕ) (p : Prefix) (bs cs : List Bound) → bound_all n (bound_all n p bs) cs ≡ bound_all n p (bs ++ cs)
bound_append n p [] cs = refl
bound_append n p (b ∷ bs) cs = bound_append n (bound_by n p b.universal b.minus b.value) bs cs

pub walked-is : (n : ℕ) (p : Prefix) (ls : List (List ℕ)) → walked n p ls ≡ walked_as n p (prefix_of ls) (behind_prefix ls)
unfolding walked prefix_of behind_prefix
walked-is n p [] = refl
walked-is n p (l ∷ ls) =
    on (is_variable_line l)
    (λ e. rw e (line (variable_line l) (λ q. walked-is n q ls)))
    (λ e. rw e)
  where
    joined : (bs : List Bound) (o : Option (List Bound)) → walked_as n (bound_all n p bs) o (behind_prefix ls) ≡ walked_as n p (bound_before (Some bs) o)
        (behind_prefix ls)
    joined bs None = refl
    joined bs (Some cs) = ap (λ (q : Prefix). Some (record { prefix = q; rest = behind_prefix ls })) (bound_append n p bs cs)

    line : (o : Option (List Bound)) → ((q : Prefix) → walked n q ls ≡ walked_as n q (prefix_of ls) (behind_prefix ls))
        → walked_on n p o (λ q. walked n q ls) ≡ walked_as n p (bound_before o (prefix_of ls)) (behind_prefix ls)
    line None h = refl
    line (Some bs) h = h (bound_all n p bs) ∙ joined bs (prefix_of ls)

-- ---- one variable after others

on_line-more : (v : ℕ) (fs : List Bound) (b : Bound) → on_line v (fs ++ b ∷ []) ≡ on_line v fs || eqb b.value v
on_line-more v [] b = agree_eq (taut1 (λ x. agree (x || false) (false || x)) refl (eqb b.value v))
on_line-more v (a ∷ fs) b = on (eqb a.value v) (λ e. rw e) (λ e. rw e (on_line-more v fs b))

same_either : (x y : ℕ) → eqb x y ≡ eqb y x
same_either x y = on (eqb y x) (λ e. eq-eqb x y (sym (eqb-true y x e)) ∙ sym e) (λ e. ne_eqb x y (λ q. eqb-false y x e (sym q)) ∙ sym e)

module _ (n : ℕ) where
  abbrev inside : Bound → Bool
  inside b = not (beyond 1 n b.minus b.value)

  pub proper-more : (fs : List Bound) (b : Bound) → proper n (fs ++ b ∷ []) ≡ proper n fs && (inside b && not (on_line b.value fs))
  proper-more [] b = agree_eq (taut1 (λ x. agree ((x && true) && true) (true && (x && true))) refl (inside b))
  proper-more (a ∷ fs) b =
      ap₂ (λ (x y : Bool). (inside a && not x) && y) (on_line-more a.value fs b
      ∙ ap (λ (x : Bool). on_line a.value fs || x) (same_either b.value a.value))
      (proper-more fs b)
      ∙ go (inside a) (on_line a.value fs) (eqb a.value b.value) (proper n fs) (inside b) (on_line b.value fs)
    where
      go : (i o e p j q : Bool) → (i && not (o || e)) && (p && (j && not q)) ≡ ((i && not o) && p) && (j && not (e || q))
      go true o e p j q = agree_eq (taut5 (λ o e p j q. agree ((true && not (o || e)) && (p && (j && not q)))
          (((true && not o) && p) && (j && not (e || q)))) refl o e p j q)
      go false o e p j q = refl

line-turns-more : (fs : List Bound) (b : Bound) → line_turns (fs ++ b ∷ []) ≡ line_turns fs ++ record { variable = b.value - 1; universal = b.universal } ∷ []
line-turns-more [] b = refl
line-turns-more (a ∷ fs) b = ap (λ (ks : List GameTurn). record { variable = a.value - 1; universal = a.universal } ∷ ks) (line-turns-more fs b)

-- turns of variables below 16
pub small_if : (ks : List GameTurn) → ((i : ℕ) → has_turn ks i ≡ true → i < 16) → all_small ks ≡ true
small_if [] h = refl
small_if (k ∷ ks) h =
    and_i (lt-ltb k.variable 16 (h k.variable (rw (eq-eqb k.variable k.variable refl))))
    (small_if ks (λ i e. h i (go (eqb i k.variable) (has_turn ks i) e)))
  where
    go : (a b : Bool) → b ≡ true → a || b ≡ true
    go true b e = refl
    go false b e = e

-- ---- all variables

-- the words hold the lines' variables, fs far fs these are proper
pub record Holds (n : ℕ) (p : Prefix) (fs : List Bound) : Type 0 where
  pub proper-is : p.proper ≡ proper n fs
  pub turns-is : proper n fs ≡ true → p.turns ≡ turns_word (line_turns fs)
  pub unit-is : proper n fs ≡ true → p.unit ≡ 2 ^ (5 * length fs)
  pub listed-is : proper n fs ≡ true → (i : ℕ) → bit p.listed i ≡ on_line (suc i) fs

module _ (n : ℕ) (few : n ≤ 12) where
  pub line_small : (fs : List Bound) → proper n fs ≡ true → all_small (line_turns fs) ≡ true
  line_small fs h = small_if (line_turns fs) (λ i e. omega (arith, occurs-low n fs h i (sym (on_has n fs h i) ∙ e)))

  pub line-few : (fs : List Bound) → proper n fs ≡ true → length fs ≤ n
  line-few fs h = omega (arith, listed-count n fs h, count_le (λ j. on_line (suc j) fs) n)

  holds-none : Holds n no_variable []
  unfolding turns_word
  holds-none = record { proper-is = refl; turns-is = λ e. refl; unit-is = λ e. refl; listed-is = λ e i. bit-zero i }

  module _ (p : Prefix) (fs : List Bound) (b : Bound) (h : Holds n p fs) where
    abbrev next : Prefix
    next = bound_by n p b.universal b.minus b.value

    spoilt : next ≡ improper → proper n (fs ++ b ∷ []) ≡ false → Holds n next (fs ++ b ∷ [])
    spoilt e f = subst (λ (q : Prefix). Holds n q (fs ++ b ∷ [])) (sym e) (record {
      proper-is = sym f;
      turns-is = λ t. absurd (true≢false (sym t ∙ f));
      unit-is = λ t. absurd (true≢false (sym t ∙ f));
      listed-is = λ t. absurd (true≢false (sym t ∙ f));
    })

    module _ (mine : proper n fs ≡ true) (inner : beyond 1 n b.minus b.value ≡ false) where
      first_test : not p.proper || beyond 1 n b.minus b.value ≡ false
      first_test = rw (h.proper-is ∙ mine, inner) refl

      limits : (1 ≤ b.value) × (b.value ≤ n)
      limits = within 1 n b.minus b.value inner

      seen : bit p.listed (b.value - 1) ≡ on_line b.value fs
      seen = h.listed-is mine (b.value - 1) ∙ ap (λ (v : ℕ). on_line v fs) (let e : suc (b.value - 1) ≡ b.value = omega (arith, limits.0) in e)

      twice : on_line b.value fs ≡ true → Holds n next (fs ++ b ∷ [])
      twice e =
          spoilt (again_spoils n p b.universal b.minus b.value first_test (rw (seen ∙ e) refl))
          (proper-more n fs b ∙ rw (mine, inner, e) refl)

      module _ (new : on_line b.value fs ≡ false) where
        all-proper : proper n (fs ++ b ∷ []) ≡ true
        all-proper = proper-more n fs b ∙ rw (mine, inner, new) refl

        places : length fs ≤ 11
        places = omega (arith, line-few (fs ++ b ∷ []) all-proper, length-append fs (b ∷ []))

        room : is_full p ≡ false
        room =
            let x : p.unit ≡ 2 ^ (5 * length fs) = h.unit-is mine in
            let y : 2 ^ (5 * length fs) ≤ 2 ^ 55 = pow_mono (let e : 5 * length fs ≤ 55 = omega (arith, places) in e) in
            let z : p.turns < p.unit = omega (
              arith,
              x,
              h.turns-is mine,
              turns-lt (line_turns fs) (line_small fs mine),
              ap (λ (k : ℕ). 2 ^ (5 * k)) (line-turns-length fs),
            ) in
            rw (le-ltb (2 ^ 55) p.unit (omega (arith, x, y)), lt-leb p.unit p.turns z) refl

        more-is : next ≡ with_this n p b.universal b.minus b.value
        more-is = bound_more n p b.universal b.minus b.value first_test (rw (seen ∙ new, room) refl)

        turns_next : p.turns + turn_digit b.universal (b.value - 1) * p.unit ≡ turns_word (line_turns (fs ++ b ∷ []))
        turns_next =
            ap₂ (λ (x y : ℕ). x + turn_digit b.universal (b.value - 1) * y) (h.turns-is mine)
            (h.unit-is mine ∙ ap (λ (k : ℕ). 2 ^ (5 * k)) (sym (line-turns-length fs)))
            ∙ sym (ap turns_word (line-turns-more fs b) ∙ turns_more (line_turns fs) (record { variable = b.value - 1; universal = b.universal }))

        unit-next : 32 * p.unit ≡ 2 ^ (5 * length (fs ++ b ∷ []))
        unit-next =
            ap (λ (x : ℕ). 32 * x) (h.unit-is mine) ∙ sym (unit-more (length fs))
            ∙ ap (λ (k : ℕ). 2 ^ (5 * k)) (let e : suc (length fs) ≡ length (fs ++ b ∷ []) = omega (arith, length-append fs (b ∷ [])) in e)

        listed_next : (i : ℕ) → bit (cond (ltb (b.value - 1) 32) (put p.listed (b.value - 1)) p.listed) i ≡ on_line (suc i) (fs ++ b ∷ [])
        listed_next i =
            ap (λ (t : Bool). bit (cond t (put p.listed (b.value - 1)) p.listed) i) (lt-ltb (b.value - 1) 32 (omega (arith, limits.1)))
            ∙ bit-put p.listed (b.value - 1) i
            ∙ ap₂ (λ (x y : Bool). x || y) (h.listed-is mine i) (bit-value i b.value limits.0)
            ∙ sym (on_line-more (suc i) fs b)

        once : Holds n next (fs ++ b ∷ [])
        once = subst (λ (q : Prefix). Holds n q (fs ++ b ∷ [])) (sym more-is) (record {
          proper-is = sym all-proper;
          turns-is = λ t. turns_next;
          unit-is = λ t. unit-next;
          listed-is = λ t. listed_next;
        })

    holds_more : Holds n next (fs ++ b ∷ [])
    holds_more =
        on (proper n fs)
        (λ mine. on (beyond 1 n b.minus b.value)
        (λ out. spoilt (beyond_spoils n p b.universal b.minus b.value (rw (h.proper-is ∙ mine, out) refl)) (proper-more n fs b ∙ rw (mine, out) refl))
        (λ inner. on (on_line b.value fs) (twice mine inner) (once mine inner)))
        (λ not-mine. spoilt (beyond_spoils n p b.universal b.minus b.value (rw (h.proper-is ∙ not-mine) refl))
        (proper-more n fs b ∙ rw not-mine refl))

  holds_append : (p : Prefix) (fs bs : List Bound) → Holds n p fs → Holds n (bound_all n p bs) (fs ++ bs)
  holds_append p fs [] h = subst (Holds n p) (sym (append-nil fs)) h
  holds_append p fs (b ∷ bs) h =
      subst (Holds n (bound_all n (bound_by n p b.universal b.minus b.value) bs)) (append_assoc fs (b ∷ []) bs)
      (holds_append (bound_by n p b.universal b.minus b.value) (fs ++ b ∷ []) bs (holds_more p fs b h))

  -- what is held of a prefix is its variables
  pub holds-all : (bs : List Bound) → Holds n (bound_all n no_variable bs) bs
  holds-all bs = holds_append no_variable [] bs holds-none

-- ---- variables on no line

module _ (bs : List Bound) where
  abbrev alone : ℕ → GameTurn
  alone i = record { variable = i; universal = false }

  -- the last of some variables
  unlisted-last : (i k : ℕ) → unlisted bs i (suc k) ≡ unlisted bs i k ++ cond (on_line (suc (i + k)) bs) [] (alone (i + k) ∷ [])
  unlisted-last i zero = let e : i ≡ i + 0 = omega arith in ap (λ (j : ℕ). cond (on_line (suc j) bs) [] (alone j ∷ [])) e
  unlisted-last i (suc k) =
      let e : suc i + k ≡ i + suc k = omega arith in
      let rest : unlisted bs (suc i) (suc k) ≡ unlisted bs (suc i) k ++ cond (on_line (suc (i + suc k)) bs) [] (alone (i + suc k) ∷ []) =
      unlisted-last (suc i) k ∙ ap (λ (j : ℕ). unlisted bs (suc i) k ++ cond (on_line (suc j) bs) [] (alone j ∷ [])) e in
      on (on_line (suc i) bs)
      (λ q. ap (λ (t : Bool). cond t (unlisted bs (suc i) (suc k)) (alone i ∷ unlisted bs (suc i) (suc k))) q ∙ rest
      ∙ sym (ap (λ (t : Bool). cond t (unlisted bs (suc i) k) (alone i ∷ unlisted bs (suc i) k) ++ cond (on_line (suc (i + suc k)) bs) []
      (alone (i + suc k) ∷ [])) q))
      (λ q. ap (λ (t : Bool). cond t (unlisted bs (suc i) (suc k)) (alone i ∷ unlisted bs (suc i) (suc k))) q ∙ ap (λ (ks : List GameTurn). alone i ∷ ks) rest
      ∙ sym (ap (λ (t : Bool). cond t (unlisted bs (suc i) k) (alone i ∷ unlisted bs (suc i) k) ++ cond (on_line (suc (i + suc k)) bs) []
      (alone (i + suc k) ∷ [])) q))

  module _ (listed : ℕ) (same : (i : ℕ) → bit listed i ≡ on_line (suc i) bs) where
    arranged_is : (k : ℕ) → k ≤ 16 → (ks : List GameTurn) → all_small ks ≡ true → length (unlisted bs 0 k ++ ks) ≤ 12
        → arranged listed (turns_word ks) k ≡ turns_word (unlisted bs 0 k ++ ks)
    unfolding arranged turns_word
    arranged_is zero h ks small few = refl
    arranged_is (suc k) h ks small few =
        let zero-k : 0 + k ≡ k = omega arith in
        let last : unlisted bs 0 (suc k) ≡ unlisted bs 0 k ++ cond (on_line (suc k) bs) [] (alone k ∷ []) =
        unlisted-last 0 k ∙ ap (λ (j : ℕ). unlisted bs 0 k ++ cond (on_line (suc j) bs) [] (alone j ∷ [])) zero-k in
        on (on_line (suc k) bs)
        (λ q. let whole : unlisted bs 0 (suc k) ++ ks ≡ unlisted bs 0 k ++ ks =
        ap (λ (x : List GameTurn). x ++ ks) (last ∙ ap (λ (t : Bool). unlisted bs 0 k ++ cond t [] (alone k ∷ [])) q ∙ append-nil (unlisted bs 0 k)) in
        ap (λ (t : Bool). arranged listed (cond t (turns_word ks) ((turns_word ks * 32) % 2 ^ 64 + 2 * k)) k) (same k ∙ q)
        ∙ arranged_is k (omega arith) ks small (subst (λ (x : List GameTurn). length x ≤ 12) whole few)
        ∙ ap turns_word (sym whole))
        (λ q. let whole : unlisted bs 0 (suc k) ++ ks ≡ unlisted bs 0 k ++ (alone k ∷ ks) =
        ap (λ (x : List GameTurn). x ++ ks) (last ∙ ap (λ (t : Bool). unlisted bs 0 k ++ cond t [] (alone k ∷ [])) q)
        ∙ append_assoc (unlisted bs 0 k) (alone k ∷ []) ks in
        let few' : length (unlisted bs 0 k ++ (alone k ∷ ks)) ≤ 12 = subst (λ (x : List GameTurn). length x ≤ 12) whole few in
        let short : length ks ≤ 11 = omega (arith, few', length-append (unlisted bs 0 k) (alone k ∷ ks)) in
        let y : 2 ^ (5 * length ks) ≤ 2 ^ 55 = pow_mono (let e : 5 * length ks ≤ 55 = omega arith in e) in
        let exact : (turns_word ks * 32) % 2 ^ 64 ≡ turns_word ks * 32 =
        mod-eq_of_lt (let e : turns_word ks * 32 < 2 ^ 64 = omega (arith, turns-lt ks small, y) in e) in
        let word : (turns_word ks * 32) % 2 ^ 64 + 2 * k ≡ turns_word (alone k ∷ ks) = omega (arith, exact) in
        ap (λ (t : Bool). arranged listed (cond t (turns_word ks) ((turns_word ks * 32) % 2 ^ 64 + 2 * k)) k) (same k ∙ q)
        ∙ ap (λ (w : ℕ). arranged listed w k) word
        ∙ arranged_is k (omega arith) (alone k ∷ ks) (and_i (lt-ltb k 16 (omega arith)) small) few'
        ∙ ap turns_word (sym whole))

-- all turns
pub arranged-all : (n : ℕ) → n ≤ 12 → (p : Prefix) (bs : List Bound) → Holds n p bs → proper n bs ≡ true
    → arranged p.listed p.turns n ≡ turns_word (game_turns n bs)
unfolding game_turns
arranged-all n few p bs h mine =
    ap (λ (w : ℕ). arranged p.listed w n) (h.turns-is mine)
    ∙ arranged_is bs p.listed (h.listed-is mine) n (omega arith) (line_turns bs) (line_small n few bs mine) (omega (arith, turns-length n bs mine))
