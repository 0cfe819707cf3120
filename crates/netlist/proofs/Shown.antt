-- The sections up to the decoder find the rule that applies: the greatest key's rank says which one, and its variable and sign are those of rule 3 or 4. By the
-- greatest key's rank; a row that spoke for another rule, a lower variable or the other sign would have a greater key.
use mathlib.Core.Path.{◌≡◌, refl, sym, ap, ap₂, ◌∙◌}
use mathlib.Core.Bool.{Bool, true, false, not, ◌&&◌, ◌||◌, true≢false}
use mathlib.Core.List.{List}
use Prim.Native.Nat.{ℕ, suc, ◌^◌, ◌≤◌, ◌<◌}
use native.Mathlib.Nat.{le_refl, le_of_suc-le-suc}
use native.Mathlib.Omega.{arith}
use lib.Dec.{eqb}
use lib.ListN.{length}
use borrow.Author.Tests.{ltb-true, eqb-true, not-true}
use Rattle.words.specs.declared.Row.{Row}
use Rattle.words.specs.Booleans.{imp, digit}
use Rattle.words.specs.Sets.{bit, lowest}
use Rattle.words.proofs.Truth.{on, and_l, and_r, and_i, mp, taut2, taut3, agree, agree_eq, digit_lt}
use Rattle.words.proofs.Upto.{any-i, count-some, count-one, lowest_hit}
use Rattle.words.proofs.Last.{any_false, lowest-first}
use Rattle.tables.specs.Rows.{satisfied, free, free_in}
use Rattle.scan.specs.declared.Rule.{Rule}
use Rattle.scan.specs.declared.Rule.TheVariants.{AllSatisfied, Conflict, Unit, Choice}
use Rattle.scan.specs.Rules.{any_row, unsatisfied_with, forces, forced_variable, forced_true, unit_or, choice, rule}
use Rattle.truth.proofs.RuleLaws.{with-unsatisfied, with-count, with-some}
use Rattle.wires.proofs.Addresses.{row_of}
use Rattle.netlist.proofs.RowNumbers.{some-row, no_row, not-all, all_pass}
use Rattle.netlist.proofs.Thresholds.{any_below}
use Rattle.netlist.proofs.Decoder.{at_leaf}
use Rattle.netlist.proofs.Equations.{Wires, OnState}
use Rattle.netlist.proofs.RowWires.{sign-row, high-row, low-row}
use Rattle.netlist.proofs.Keys.{ranked, rank_of, rank_le, below, below-lt, below-number, winner, k, most, best-high, best-low, best-sign, picked-lowest}

-- ---- the lowest

lowest_le : (p : ℕ → Bool) (n i : ℕ) → i < n → p i ≡ true → lowest p n ≤ i
lowest_le p n i h e = le_of_suc-le-suc (ltb-true (lowest p n) (suc i) (sym (any_below p n (suc i) h) ∙ any-i p (suc i) i (le_refl (suc i)) e))

lowest-is : (p : ℕ → Bool) (n v : ℕ) → v < n → p v ≡ true → ((i : ℕ) → i < v → p i ≡ false) → v ≡ lowest p n
lowest-is p n v h e none = eqb-true v (lowest p n) (sym (lowest-first p n v h) ∙ ap₂ (λ (a b : Bool). a && not b) e (any_false p v none))

-- ---- what the wires say where the rule applies

-- the greatest key is that of variable v
abbrev picks : ℕ → ℕ → Wires → ℕ → Type 0
picks n b w v = (i : ℕ) → i < n → at_leaf (λ d. w.greatest (suc d)) b n i ≡ eqb i v

-- and it is below n and free
abbrev Sets : ℕ → ℕ → ℕ → ℕ → Wires → ℕ → Type 0
Sets n b t f w v = picks n b w v × (v < n) × (free t f v ≡ true)

-- its two digits of rank, and its sign
abbrev pub Shows : ℕ → ℕ → ℕ → ℕ → Wires → Rule → Type 0
Shows n b t f w AllSatisfied = (w.greatest (suc (suc b)) ≡ false) × (w.greatest (suc b) ≡ false)
Shows n b t f w Conflict = (w.greatest (suc (suc b)) ≡ true) × (w.greatest (suc b) ≡ true)
Shows n b t f w (Unit v positive) = (w.greatest (suc (suc b)) ≡ true) × (w.greatest (suc b) ≡ false) × (w.greatest 0 ≡ positive) × Sets n b t f w v
Shows n b t f w (Choice v) = (w.greatest (suc (suc b)) ≡ false) × (w.greatest (suc b) ≡ true) × Sets n b t f w v

module _ (n b : ℕ) (rows : List Row) (t f : ℕ) (w : Wires) (on_state : OnState n b rows t f w) where
  abbrev m : ℕ
  m = length rows

  -- the greatest key's row, and what a key has below the rank
  abbrev best : ℕ
  best = k n b rows t f w on_state

  abbrev under : ℕ → ℕ
  under j = below n b rows t f w on_state j

  -- ---- a row's kind, by its two digits of rank

  module _ (j : ℕ) (h : j < m) where
    abbrev r : Row
    r = row_of rows j

    abbrev sat : Bool
    sat = satisfied n r t f

    abbrev conflicts : Bool
    conflicts = unsatisfied_with 0 n t f r

    abbrev unit : Bool
    unit = unsatisfied_with 1 n t f r

    high_is : w.high j ≡ not sat && (conflicts || unit)
    high_is = high-row n b rows t f w on_state j h

    low-is : w.low j ≡ not sat && not unit
    low-is = low-row n b rows t f w on_state j h

    -- a row in conflict is no unit row
    conflict_rank : conflicts ≡ true → (w.high j ≡ true) × (w.low j ≡ true)
    conflict_rank e =
        let s = with-unsatisfied 0 n t f r e in
        let u : unit ≡ false = on unit (λ q. absurd (omega (arith, with-count 0 n t f r e, with-count 1 n t f r q))) (λ q. q) in
        (high_is ∙ ap₂ (λ (a c : Bool). not a && (c || unit)) s e, low-is ∙ ap₂ (λ (a c : Bool). not a && not c) s u)

    unit-rank : unit ≡ true → (w.high j ≡ true) × (w.low j ≡ false)
    unit-rank e =
        let s = with-unsatisfied 1 n t f r e in (
          high_is ∙ ap₂ (λ (a c : Bool). not a && (conflicts || c)) s e ∙ agree_eq (taut2 (λ x y. agree (x || true) true) refl conflicts conflicts),
          low-is ∙ ap₂ (λ (a c : Bool). not a && not c) s e,
        )

    -- an unsatisfied row has a digit set
    open_rank : sat ≡ false → (w.high j || w.low j) ≡ true
    open_rank e =
        ap₂ (λ (a c : Bool). a || c) high_is low-is ∙ ap (λ (a : Bool). not a && (conflicts || unit) || not a && not unit) e
        ∙ agree_eq (taut2 (λ x y. agree ((x || y) || not y) true) refl conflicts unit)

    satisfied_kind : w.high j ≡ false → w.low j ≡ false → sat ≡ true
    satisfied_kind p q = on sat (λ e. e) (λ e. absurd (true≢false (sym (open_rank e) ∙ ap₂ (λ (a c : Bool). a || c) p q)))

    conflict_kind : w.high j ≡ true → w.low j ≡ true → (sat ≡ false) × (conflicts ≡ true)
    conflict_kind p q =
        let s : not sat ≡ true = and_l (not sat) _ (sym low-is ∙ q) in
        let u : not unit ≡ true = and_r (not sat) _ (sym low-is ∙ q) in
        let c : conflicts || unit ≡ true = and_r (not sat) _ (sym high_is ∙ p) in
        (not-true sat s, mp _ _ (taut2 (λ x y. imp ((x || y) && not y) x) refl conflicts unit) (and_i c u))

    unit_kind : w.high j ≡ true → w.low j ≡ false → unit ≡ true
    unit_kind p q =
        let s : not sat ≡ true = and_l (not sat) _ (sym high_is ∙ p) in
        let l : not sat && not unit ≡ false = sym low-is ∙ q in
        mp _ _ (taut2 (λ x y. imp (not x && not (not x && not y)) y) refl sat unit) (and_i s (ap not l))

    choice_kind : w.high j ≡ false → w.low j ≡ true → (sat ≡ false) × (conflicts ≡ false)
    choice_kind p q =
        let s : not sat ≡ true = and_l (not sat) _ (sym low-is ∙ q) in
        let c : not sat && (conflicts || unit) ≡ false = sym high_is ∙ p in (
          not-true sat s,
          not-true conflicts (mp _ _ (taut3 (λ x y z. imp (not x && not (not x && (y || z))) (not y)) refl sat conflicts unit)
              (and_i s (ap not c))),
        )

    -- an unsatisfied row that is not in conflict has a free variable
    some-free : sat ≡ false → conflicts ≡ false → (lowest (λ i. free_in r t f i) n < n) × (free_in r t f (lowest (λ i. free_in r t f i) n) ≡ true)
    some-free e c =
        let x = count-some (λ i. free_in r t f i) n (with-some n t f r e c) in
        lowest_hit (λ i. free_in r t f i) n x.0 x.1 x.2

    -- its rank is no greater than the greatest key's
    rank_most : rank_of (w.high j) (w.low j) ≤ rank_of (w.high best) (w.low best)
    rank_most =
        rank_le (w.high j) (w.low j) (w.high best) (w.low best) (under j) (under best) (2 ^ suc b)
        (below-lt n b rows t f w on_state j) (below-lt n b rows t f w on_state best) (most n b rows t f w on_state j h)

    -- with the same rank, neither is what is below the rank
    below-most : w.high j ≡ w.high best → w.low j ≡ w.low best → under j ≤ under best
    below-most p q =
        let same : ranked (w.high j) (w.low j) (under j) (2 ^ suc b) ≡ ranked (w.high best) (w.low best) (under j) (2 ^ suc b) =
        ap₂ (λ (x y : Bool). ranked x y (under j) (2 ^ suc b)) p q in
        omega (arith, same, most n b rows t f w on_state j h)

  -- ---- the greatest key's row

  abbrev here : best < m
  here = (winner n b rows t f w on_state).low

  abbrev rk : Row
  rk = row_of rows best

  abbrev vk : ℕ
  vk = lowest (λ i. free_in rk t f i) n

  -- a row of the same rank has no free variable below the greatest key's
  module _ (e : satisfied n rk t f ≡ false) (low : vk < n) where
    not_lower : (j : ℕ) (h : j < m) → satisfied n (row_of rows j) t f ≡ false → w.high j ≡ w.high best → w.low j ≡ w.low best
        → (i : ℕ) → i < n → free_in (row_of rows j) t f i ≡ true → vk ≤ i
    not_lower j h s p q i l free =
        let vj : lowest (λ i. free_in (row_of rows j) t f i) n ≤ i = lowest_le (λ i. free_in (row_of rows j) t f i) n i l free in
        omega (
          arith,
          vj,
          below-most j h p q,
          below-number n b rows t f w on_state j h s (omega arith),
          below-number n b rows t f w on_state best here e low,
          digit_lt (w.sign j n),
          digit_lt (w.sign best n),
        )

    sets-best : free_in rk t f vk ≡ true → Sets n b t f w vk
    sets-best g = (picked-lowest n b rows t f w on_state e low, low, and_l (free t f vk) _ g)

  -- ---- rule 3

  module _ (p : w.high best ≡ true) (q : w.low best ≡ false) where
    unit-best : unsatisfied_with 1 n t f rk ≡ true
    unit-best = unit_kind best here p q

    open_best : satisfied n rk t f ≡ false
    open_best = with-unsatisfied 1 n t f rk unit-best

    no_conflict : any_row (unsatisfied_with 0 n t f) rows ≡ false
    no_conflict =
        no_row (unsatisfied_with 0 n t f) rows (λ j h e.
        let r = conflict_rank j h e in
        let x : rank_of true true ≤ rank_of true false = rw (r.0, r.1, p, q) at (rank_most j h) in absurd (omega arith))

    free-best : (vk < n) × (free_in rk t f vk ≡ true)
    free-best =
        some-free best here open_best (on (unsatisfied_with 0 n t f rk) (λ e. absurd (omega (arith, with-count 0 n t f rk e, with-count 1 n t f rk unit-best)))
        (λ e. e))

    -- a unit row forces its sign
    signed : (j : ℕ) (h : j < m) → unsatisfied_with 1 n t f (row_of rows j) ≡ true → (v : ℕ) → v < n → free_in (row_of rows j) t f v ≡ true
        → w.sign j n ≡ bit (row_of rows j).positive v
    signed j h u v l free =
        sign-row n b rows t f w on_state j h (with-unsatisfied 1 n t f (row_of rows j) u) v l free
        (λ i l' free'. count-one (λ i. free_in (row_of rows j) t f i) n (with-count 1 n t f (row_of rows j) u) i v l' l free' free)

    same_rank : (j : ℕ) (h : j < m) → unsatisfied_with 1 n t f (row_of rows j) ≡ true → (w.high j ≡ w.high best) × (w.low j ≡ w.low best)
    same_rank j h u = let r = unit-rank j h u in (r.0 ∙ sym p, r.1 ∙ sym q)

    forced-is : vk ≡ forced_variable n rows t f
    unfolding forced_variable
    forced-is =
        lowest-is (λ i. any_row (forces n t f i) rows) n vk free-best.0 (some-row (forces n t f vk) rows best here (and_i unit-best free-best.1))
        (λ i l. no_row (forces n t f i) rows (λ j h e.
        let u = and_l (unsatisfied_with 1 n t f (row_of rows j)) _ e in
        let g = and_r (unsatisfied_with 1 n t f (row_of rows j)) _ e in
        let s = same_rank j h u in
        absurd (omega (
          arith,
          free-best.0,
          not_lower open_best free-best.0 j h (with-unsatisfied 1 n t f (row_of rows j) u) s.0 s.1 i
              (omega (arith, free-best.0)) g,
        ))))

    -- the greatest key's sign
    sign-best : w.sign best n ≡ bit rk.positive vk
    sign-best = signed best here unit-best vk free-best.0 free-best.1

    true-is : w.sign best n ≡ forced_true n rows t f vk
    unfolding forced_true
    true-is =
        on (w.sign best n)
        (λ e. e ∙ sym (some-row (λ r. forces n t f vk r && bit r.positive vk) rows best here (and_i (and_i unit-best free-best.1) (sym sign-best ∙ e))))
        (λ e. e ∙ sym (no_row (λ r. forces n t f vk r && bit r.positive vk) rows (λ j h x.
        let fo = and_l (forces n t f vk (row_of rows j)) _ x in
        let u = and_l (unsatisfied_with 1 n t f (row_of rows j)) _ fo in
        let g = and_r (unsatisfied_with 1 n t f (row_of rows j)) _ fo in
        let s = same_rank j h u in
        let o = with-unsatisfied 1 n t f (row_of rows j) u in
        let vj : lowest (λ i. free_in (row_of rows j) t f i) n ≤ vk = lowest_le (λ i. free_in (row_of rows j) t f i) n vk free-best.0 g in
        let one : w.sign j n ≡ true = signed j h u vk free-best.0 g ∙ and_r (forces n t f vk (row_of rows j)) _ x in
        let dj : digit (w.sign j n) ≡ 1 = ap digit one in
        let dk : digit (w.sign best n) ≡ 0 = ap digit e in
        absurd (omega (
          arith,
          vj,
          dj,
          dk,
          below-most j h s.0 s.1,
          below-number n b rows t f w on_state j h o (omega (arith, free-best.0)),
          below-number n b rows t f w on_state best here open_best free-best.0,
        )))))

    shown-unit : Shows n b t f w (rule n rows t f)
    unfolding rule unit_or
    shown-unit =
        rw (not-all (λ r. satisfied n r t f) rows best here open_best, rule)
        (rw no_conflict
        (rw (some-row (unsatisfied_with 1 n t f) rows best here unit-best, unit_or)
        (rw (← forced-is) (
          best-high n b rows t f w on_state ∙ p,
          best-low n b rows t f w on_state ∙ q,
          best-sign n b rows t f w on_state
              ∙ true-is,
          sets-best open_best free-best.0 free-best.1,
        ))))

  -- ---- rule 4

  module _ (p : w.high best ≡ false) (q : w.low best ≡ true) where
    kind : (satisfied n rk t f ≡ false) × (unsatisfied_with 0 n t f rk ≡ false)
    kind = choice_kind best here p q

    free-lowest : (vk < n) × (free_in rk t f vk ≡ true)
    free-lowest = some-free best here kind.0 kind.1

    -- no row has a greater rank
    no_high : (j : ℕ) → j < m → w.high j ≡ false
    no_high j h = on (w.high j) (λ e. let x : rank_of true (w.low j) ≤ rank_of false true = rw (e, p, q) at (rank_most j h) in absurd (omega arith)) (λ e. e)

    none_in_conflict : any_row (unsatisfied_with 0 n t f) rows ≡ false
    none_in_conflict = no_row (unsatisfied_with 0 n t f) rows (λ j h e. true≢false (sym (conflict_rank j h e).0 ∙ no_high j h))

    no_unit : any_row (unsatisfied_with 1 n t f) rows ≡ false
    no_unit = no_row (unsatisfied_with 1 n t f) rows (λ j h e. true≢false (sym (unit-rank j h e).0 ∙ no_high j h))

    choice-is : vk ≡ choice n rows t f
    unfolding choice
    choice-is =
        lowest-is (λ i. any_row (λ r. not (satisfied n r t f) && free_in r t f i) rows) n vk free-lowest.0
        (some-row (λ r. not (satisfied n r t f) && free_in r t f vk) rows best here (and_i (ap not kind.0) free-lowest.1))
        (λ i l. no_row (λ r. not (satisfied n r t f) && free_in r t f i) rows (λ j h e.
        let o = not-true (satisfied n (row_of rows j) t f) (and_l (not (satisfied n (row_of rows j) t f)) _ e) in
        let g = and_r (not (satisfied n (row_of rows j) t f)) _ e in
        let hj = no_high j h in
        let lj : w.low j ≡ true = sym (ap (λ (x : Bool). x || w.low j) hj) ∙ open_rank j h o in
        absurd (omega (arith, free-lowest.0, not_lower kind.0 free-lowest.0 j h o (hj ∙ sym p) (lj ∙ sym q) i (omega (arith, free-lowest.0)) g))))

    shown-choice : Shows n b t f w (rule n rows t f)
    unfolding rule unit_or
    shown-choice =
        rw (not-all (λ r. satisfied n r t f) rows best here kind.0, rule)
        (rw none_in_conflict
        (rw (no_unit, unit_or)
        (rw (← choice-is)
        (best-high n b rows t f w on_state ∙ p, best-low n b rows t f w on_state ∙ q, sets-best kind.0 free-lowest.0 free-lowest.1))))

  -- ---- rules 1 and 2

  shown_conflict : w.high best ≡ true → w.low best ≡ true → Shows n b t f w (rule n rows t f)
  unfolding rule
  shown_conflict p q =
      let x = conflict_kind best here p q in
      rw (not-all (λ r. satisfied n r t f) rows best here x.0, rule)
      (rw (some-row (unsatisfied_with 0 n t f) rows best here x.1) (best-high n b rows t f w on_state ∙ p, best-low n b rows t f w on_state ∙ q))

  shown-satisfied : w.high best ≡ false → w.low best ≡ false → Shows n b t f w (rule n rows t f)
  unfolding rule
  shown-satisfied p q =
      rw (
        all_pass (λ r. satisfied n r t f) rows (λ j h.
            let x : rank_of (w.high j) (w.low j) ≤ 0 = rw (p, q) at (rank_most j h) in
            satisfied_kind j h
            (on (w.high j) (λ e. let y : rank_of true (w.low j) ≤ 0 = rw e at x in absurd (omega arith)) (λ e. e))
            (on (w.low j) (λ e. let y : rank_of (w.high j) true ≤ 0 = rw e at x in absurd (omega arith)) (λ e. e))),
        rule,
      )
      (best-high n b rows t f w on_state ∙ p, best-low n b rows t f w on_state ∙ q)

  -- ---- the rule

  pub shown : Shows n b t f w (rule n rows t f)
  shown =
      on (w.high best)
      (λ p. on (w.low best) (λ q. shown_conflict p q) (λ q. shown-unit p q))
      (λ p. on (w.low best) (λ q. shown-choice p q) (λ q. shown-satisfied p q))
