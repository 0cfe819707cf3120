-- A proper prefix gives each of the n variables one turn: the turns are as many as n, their variables are below n, and none comes twice.
use mathlib.Core.Path.{◌≡◌, refl, sym, ap, ◌∙◌}
use mathlib.Core.Logic.{◌⊎◌, inl, inr}
use mathlib.Core.Bool.{Bool, true, false, not, ◌&&◌, ◌||◌, false≢true, or-true}
use mathlib.Core.List.{List, [], ◌∷◌, ◌++◌}
use Prim.Native.Nat.{ℕ, zero, suc, ◌+◌, ◌-◌, ◌≤◌, ◌<◌}
use native.Mathlib.Nat.{zero-lt-suc, not-suc-le-zero, le_of_suc-le-suc}
use native.Mathlib.Omega.{arith}
use lib.Dec.{eqb}
use lib.ListN.{length, length-append}
use borrow.Author.Tests.{eqb-true, eqb-false, eq-eqb, ne_eqb, not-true}
use Rattle.words.specs.Booleans.{digit}
use Rattle.words.specs.Sets.{count}
use Rattle.words.proofs.Truth.{and_l, and_r, and_i, on}
use Rattle.words.proofs.Upto.{count_cong, count-or}
use Rattle.header.specs.Header.{beyond}
use Rattle.header.proofs.Limits.{within}
use Rattle.qdimacs.specs.Lines.{Bound}
use Rattle.qdimacs.specs.Text.{on_line, proper, GameTurn, unlisted, line_turns, game_turns}

-- ---- turns of different variables

-- the variable has a turn
abbrev pub has_turn : List GameTurn → ℕ → Bool
has_turn [] i = false
has_turn (k ∷ ks) i = eqb i k.variable || has_turn ks i

-- no variable has two turns
abbrev pub distinct : List GameTurn → Bool
distinct [] = true
distinct (k ∷ ks) = not (has_turn ks k.variable) && distinct ks

same_variable : (v : ℕ) → eqb v v ≡ true
same_variable v = eq-eqb v v refl

or_cases : (a b : Bool) → a || b ≡ true → (a ≡ true) ⊎ (b ≡ true)
or_cases true b e = inl refl
or_cases false b e = inr e

has_append : (xs ys : List GameTurn) (i : ℕ) → has_turn (xs ++ ys) i ≡ has_turn xs i || has_turn ys i
has_append [] ys i = refl
has_append (k ∷ ks) ys i = on (eqb i k.variable) (λ e. rw e) (λ e. rw e (has_append ks ys i))

distinct_append : (xs ys : List GameTurn) → distinct xs ≡ true → distinct ys ≡ true → ((i : ℕ) → has_turn xs i ≡ true → has_turn ys i ≡ false)
    → distinct (xs ++ ys) ≡ true
distinct_append [] ys dx dy h = dy
distinct_append (k ∷ ks) ys dx dy h =
    and_i
    (ap not (has_append ks ys k.variable ∙ none (has_turn ks k.variable) _
    (not-true (has_turn ks k.variable) (and_l (not (has_turn ks k.variable)) _ dx)) (h k.variable (rw (same_variable k.variable)))))
    (distinct_append ks ys (and_r (not (has_turn ks k.variable)) _ dx) dy (λ i e. h i (rw e (or-true (eqb i k.variable)))))
  where
    none : (a b : Bool) → a ≡ false → b ≡ false → a || b ≡ false
    none true b p q = p
    none false b p q = q

-- ---- the variables on no line

module _ (bs : List Bound) where
  unlisted_has : (i k j : ℕ) → has_turn (unlisted bs i k) j ≡ true → (i ≤ j) × ((j < i + k) × (on_line (suc j) bs ≡ false))
  unlisted_has i zero j e = absurd (false≢true e)
  unlisted_has i (suc k) j e =
      let listed : has_turn (unlisted bs (suc i) k) j ≡ true → (i ≤ j) × ((j < i + suc k) × (on_line (suc j) bs ≡ false)) =
      λ e. let x = unlisted_has (suc i) k j e in (omega (arith, x.0), (omega (arith, x.1.0), x.1.1)) in
      on (on_line (suc i) bs)
      (λ q. listed (rw q at e))
      (λ q. let e' : eqb j i || has_turn (unlisted bs (suc i) k) j ≡ true = rw q at e in
      on (eqb j i)
      (λ z. let w = eqb-true j i z in (omega arith, (omega arith, ap (λ (x : ℕ). on_line (suc x) bs) w ∙ q)))
      (λ z. listed (rw z at e')))

  unlisted-distinct : (i k : ℕ) → distinct (unlisted bs i k) ≡ true
  unlisted-distinct i zero = refl
  unlisted-distinct i (suc k) =
      on (on_line (suc i) bs)
      (λ q. rw q (unlisted-distinct (suc i) k))
      (λ q. rw q (and_i
      (on (has_turn (unlisted bs (suc i) k) i) (λ e. absurd (later (unlisted_has (suc i) k i e).0)) (λ e. ap not e))
      (unlisted-distinct (suc i) k)))
    where
      later : suc i ≤ i → ⊥
      later h = omega arith

  unlisted-each : (i k j : ℕ) → i ≤ j → j < i + k → on_line (suc j) bs ≡ false → has_turn (unlisted bs i k) j ≡ true
  unlisted-each i zero j h b e = absurd (omega arith)
  unlisted-each i (suc k) j h b e =
      on (eqb j i)
      (λ z. let w = eqb-true j i z in
      let q : on_line (suc i) bs ≡ false = ap (λ (x : ℕ). on_line (suc x) bs) (sym w) ∙ e in
      rw (q, z) refl)
      (λ z. let later : has_turn (unlisted bs (suc i) k) j ≡ true = unlisted-each (suc i) k j (omega (arith, eqb-false j i z)) (omega arith) e in
      on (on_line (suc i) bs)
      (λ q. rw q later)
      (λ q. rw (q, z) later))

  unlisted-length : (i k : ℕ) → length (unlisted bs i k) + count (λ j. on_line (suc (i + j)) bs) k ≡ k
  unfolding count
  unlisted-length i zero = refl
  unlisted-length i (suc k) =
      let e : on_line (suc (i + 0)) bs ≡ on_line (suc i) bs = ap (λ (x : ℕ). on_line (suc x) bs) (omega arith) in
      let c : count (λ j. on_line (suc (i + suc j)) bs) k ≡ count (λ j. on_line (suc (suc i + j)) bs) k =
      count_cong (λ j. on_line (suc (i + suc j)) bs) (λ j. on_line (suc (suc i + j)) bs) k (λ j b. ap (λ (x : ℕ). on_line (suc x) bs) (omega arith)) in
      on (on_line (suc i) bs)
      (λ q. rw (e, q) (omega (arith, c, unlisted-length (suc i) k)))
      (λ q. rw (e, q) (omega (arith, c, unlisted-length (suc i) k)))

-- ---- the variables on the lines

count-zero : (p : ℕ → Bool) (n : ℕ) → ((i : ℕ) → i < n → p i ≡ false) → count p n ≡ 0
unfolding count
count-zero p zero h = refl
count-zero p (suc n) h = rw (h 0 (zero-lt-suc n)) (omega (arith, count-zero (λ i. p (suc i)) n (λ i b. h (suc i) (omega arith))))

count_equal : (n v : ℕ) → v < n → count (λ j. eqb v j) n ≡ 1
unfolding count
count_equal zero v b = absurd (not-suc-le-zero b)
count_equal (suc n) zero b = omega (arith, count-zero (λ j. eqb 0 (suc j)) n (λ j c. ne_eqb 0 (suc j) (λ q. omega arith)))
count_equal (suc n) (suc v) b =
    omega (
      arith,
      ap digit (ne_eqb (suc v) 0 (λ q. omega arith)),
      count_cong (λ j. eqb (suc v) (suc j)) (λ j. eqb v j) n
          (λ j c. on (eqb v j) (λ q. eq-eqb (suc v) (suc j) (ap suc (eqb-true v j q)) ∙ sym q)
          (λ q. ne_eqb (suc v) (suc j) (λ z. eqb-false v j q (omega arith)) ∙ sym q)),
      count_equal n v (le_of_suc-le-suc b),
    )

-- as many turns as variables on the lines
pub line-turns-length : (bs : List Bound) → length (line_turns bs) ≡ length bs
line-turns-length [] = refl
line-turns-length (b ∷ bs) = ap suc (line-turns-length bs)

-- a variable's bit and its value
pub bit-value : (j v : ℕ) → 1 ≤ v → eqb j (v - 1) ≡ eqb v (suc j)
bit-value j v p =
    on (eqb v (suc j))
    (λ q. let w = eqb-true v (suc j) q in eq-eqb j (v - 1) (omega arith) ∙ sym q)
    (λ q. ne_eqb j (v - 1) (λ z. eqb-false v (suc j) q (omega arith)) ∙ sym q)

module _ (n : ℕ) where
  abbrev inside : Bound → Bool
  inside b = not (beyond 1 n b.minus b.value)

  -- a proper variable is a value from 1 to n
  limits : (b : Bound) (bs : List Bound) → proper n (b ∷ bs) ≡ true → (1 ≤ b.value) × (b.value ≤ n)
  limits b bs h = within 1 n b.minus b.value (not-true (beyond 1 n b.minus b.value)
      (and_l (inside b) _ (and_l (inside b && not (on_line b.value bs)) _ h)))

  once : (b : Bound) (bs : List Bound) → proper n (b ∷ bs) ≡ true → on_line b.value bs ≡ false
  once b bs h = not-true (on_line b.value bs) (and_r (inside b) _ (and_l (inside b && not (on_line b.value bs)) _ h))

  rest : (b : Bound) (bs : List Bound) → proper n (b ∷ bs) ≡ true → proper n bs ≡ true
  rest b bs h = and_r (inside b && not (on_line b.value bs)) _ h

  pub on_has : (bs : List Bound) → proper n bs ≡ true → (j : ℕ) → has_turn (line_turns bs) j ≡ on_line (suc j) bs
  on_has [] h j = refl
  on_has (b ∷ bs) h j = let l = limits b bs h in rw (on_has bs (rest b bs h) j) (ap (λ (x : Bool). x || on_line (suc j) bs) (bit-value j b.value l.0))

  on_distinct : (bs : List Bound) → proper n bs ≡ true → distinct (line_turns bs) ≡ true
  on_distinct [] h = refl
  on_distinct (b ∷ bs) h =
      let l = limits b bs h in
      and_i (ap not (on_has bs (rest b bs h) (b.value - 1) ∙ ap (λ (x : ℕ). on_line x bs)
      (let e : suc (b.value - 1) ≡ b.value = omega (arith, l.0) in e) ∙ once b bs h))
      (on_distinct bs (rest b bs h))

  pub occurs-low : (bs : List Bound) → proper n bs ≡ true → (j : ℕ) → on_line (suc j) bs ≡ true → j < n
  occurs-low [] h j e = absurd (false≢true e)
  occurs-low (b ∷ bs) h j e =
      on (eqb b.value (suc j))
      (λ q. let l = limits b bs h in omega (arith, l.1, eqb-true b.value (suc j) q))
      (λ q. occurs-low bs (rest b bs h) j (rw q at e))

  pub listed-count : (bs : List Bound) → proper n bs ≡ true → count (λ j. on_line (suc j) bs) n ≡ length bs
  listed-count [] h = count-zero (λ j. false) n (λ i b. refl)
  listed-count (b ∷ bs) h =
      let l = limits b bs h in
      let v : ℕ = b.value - 1 in
      let e : suc v ≡ b.value = omega (arith, l.0) in
      count-or (λ j. eqb b.value (suc j)) (λ j. on_line (suc j) bs) n
      (λ j c. on (eqb b.value (suc j)) (λ q. rw q (ap (λ (x : ℕ). on_line x bs) (sym (eqb-true b.value (suc j) q)) ∙ once b bs h)) (λ q. rw q))
      ∙ omega (
        arith,
        count_cong (λ j. eqb b.value (suc j)) (λ j. eqb v j) n
            (λ j c. on (eqb v j) (λ q. eq-eqb b.value (suc j) (sym e ∙ ap suc (eqb-true v j q)) ∙ sym q)
            (λ q. ne_eqb b.value (suc j) (λ z. eqb-false v j q (omega arith)) ∙ sym q)),
        count_equal n v (omega (arith, l.0, l.1)),
        listed-count bs (rest b bs h),
      )

  -- ---- all turns

  module _ (bs : List Bound) (h : proper n bs ≡ true) where
    pub turns-length : length (game_turns n bs) ≡ n
    unfolding game_turns
    turns-length =
        length-append (unlisted bs 0 n) (line_turns bs)
        ∙ omega (
          arith,
          line-turns-length bs,
          listed-count bs h,
          unlisted-length bs 0 n,
          count_cong (λ j. on_line (suc (0 + j)) bs) (λ j. on_line (suc j) bs) n
              (λ j b. ap (λ (x : ℕ). on_line (suc x) bs) (let e : 0 + j ≡ j = omega arith in e)),
        )

    pub turns-distinct : distinct (game_turns n bs) ≡ true
    unfolding game_turns
    turns-distinct = distinct_append (unlisted bs 0 n) (line_turns bs) (unlisted-distinct bs 0 n) (on_distinct bs h)
        (λ i e. on_has bs h i ∙ (unlisted_has bs 0 n i e).1.1)

    pub turns-low : (i : ℕ) → has_turn (game_turns n bs) i ≡ true → i < n
    unfolding game_turns
    turns-low i e =
        low (or_cases (has_turn (unlisted bs 0 n) i) (has_turn (line_turns bs) i) (sym (has_append (unlisted bs 0 n) (line_turns bs) i) ∙ e))
      where
        low : (has_turn (unlisted bs 0 n) i ≡ true) ⊎ (has_turn (line_turns bs) i ≡ true) → i < n
        low (inl q) = let x = unlisted_has bs 0 n i q in omega (arith, x.1.0)
        low (inr q) = occurs-low bs h i (sym (on_has bs h i) ∙ q)

    -- each of the n variables has a turn
    pub each_turn : (i : ℕ) → i < n → has_turn (game_turns n bs) i ≡ true
    unfolding game_turns
    each_turn i b =
        has_append (unlisted bs 0 n) (line_turns bs) i
        ∙ on (on_line (suc i) bs)
        (λ q. rw (on_has bs h i ∙ q) (or-true (has_turn (unlisted bs 0 n) i)))
        (λ q. rw (unlisted-each bs 0 n i (omega arith) (omega arith) q))
