-- The sections literal, count and rank: the chains of a row say whether it is satisfied and, where it is not, which literals are free, whether there is one and
-- whether there are two, and of a unit row its sign; the rank says which of four kinds the row is. A truth table gives each cell, the laws of chains give the
-- row.
use mathlib.Core.Path.{◌≡◌, refl, sym, ap, ap₂, ◌∙◌}
use mathlib.Core.Bool.{Bool, true, false, not, ◌&&◌, ◌||◌}
use mathlib.Core.List.{List}
use Prim.Native.Nat.{ℕ, zero, suc, ◌≤◌, ◌<◌}
use native.Mathlib.Nat.{le_refl}
use native.Mathlib.Omega.{arith}
use lib.Dec.{eqb, eqb-suc-zero, eqb-suc-suc}
use lib.ListN.{length}
use Rattle.words.specs.declared.Row.{Row}
use Rattle.words.specs.Booleans.{◌⊕◌, imp}
use Rattle.words.specs.Sets.{bit, any, count}
use Rattle.words.proofs.Truth.{on, and_i, mp, taut4, taut5, agree, agree_eq}
use Rattle.words.proofs.Last.{any_false}
use Rattle.tables.specs.Rows.{satisfied, satisfies, free_in}
use Rattle.tables.proofs.Rows.{satisfied-any, unsatisfied-none, unsatisfied-literals}
use Rattle.scan.specs.Rules.{unsatisfied_with}
use Rattle.wires.proofs.Addresses.{row_of}
use Rattle.netlist.proofs.Chains.{or, or_is, any-chain, single_chain, some_of, many_of, count-chain}
use Rattle.netlist.proofs.Equations.{Wires, OnState, satisfied_of, literal_of, positive_of, few_of, low_of}

-- ---- a cell, where T and F are disjoint

module _ (r : Row) (t f i : ℕ) (apart : not (bit t i && bit f i) ≡ true) where
  satisfied-here : (s : Bool) → satisfied_of (bit r.positive i) (bit r.negative i) (bit t i) (bit f i) s ≡ s || satisfies r t f i
  satisfied-here s =
      agree_eq (mp _ _ (taut5 (λ p q t f s. imp (not (t && f)) (agree (satisfied_of p q t f s) (s || (p && q || p && t || q && f)))) refl
      (bit r.positive i) (bit r.negative i) (bit t i) (bit f i) s) apart)

  -- where the row is not satisfied here
  literal-here : satisfies r t f i ≡ false → literal_of (bit r.positive i) (bit r.negative i) (bit t i) (bit f i) false ≡ free_in r t f i
  literal-here e =
      agree_eq (mp _ _ (taut4 (λ p q t f. imp (not (t && f) && not (p && q || p && t || q && f))
      (agree (literal_of p q t f false) ((not t && not f) && (p || q)))) refl
      (bit r.positive i) (bit r.negative i) (bit t i) (bit f i)) (and_i apart (ap not e)))

  positive-here : satisfies r t f i ≡ false → positive_of (bit r.positive i) (bit f i) false ≡ free_in r t f i && bit r.positive i
  positive-here e =
      agree_eq (mp _ _ (taut4 (λ p q t f. imp (not (t && f) && not (p && q || p && t || q && f))
      (agree (positive_of p f false) (((not t && not f) && (p || q)) && p))) refl
      (bit r.positive i) (bit r.negative i) (bit t i) (bit f i)) (and_i apart (ap not e)))

-- ---- the rank, by the number of free literals

high_kinds : (c : ℕ) → few_of false (many_of c) ≡ eqb c 0 || eqb c 1
high_kinds zero = refl
high_kinds (suc zero) = refl
high_kinds (suc (suc c)) = rw (eqb-suc-zero (suc c), eqb-suc-suc (suc c) 0, eqb-suc-zero c)

low_kinds : (c : ℕ) → low_of false (some_of c) (many_of c) ≡ not (eqb c 1)
low_kinds zero = refl
low_kinds (suc zero) = refl
low_kinds (suc (suc c)) = rw (eqb-suc-suc (suc c) 0, eqb-suc-zero c)

-- ---- a row

module _ (n b : ℕ) (rows : List Row) (t f : ℕ) (w : Wires) (on_state : OnState n b rows t f w) (j : ℕ) (h : j < length rows) where
  abbrev r : Row
  r = row_of rows j

  satisfied-wire : (i : ℕ) → i ≤ n → w.satisfied j i ≡ any (λ i. satisfies r t f i) i
  satisfied-wire =
      any-chain (w.satisfied j) (λ i. satisfies r t f i) n (on_state.cells.satisfied-zero j h)
      (λ i l. on_state.cells.satisfied-suc j i h l
      ∙ (λ k. satisfied_of (on_state.inputs.p_is j i h l k) (on_state.inputs.q-is j i h l k) (on_state.inputs.t_is i l k) (on_state.inputs.f_is i l k)
      (w.satisfied j i))
      ∙ satisfied-here r t f i (on_state.apart i l) (w.satisfied j i))

  pub satisfied-row : w.satisfied j n ≡ satisfied n r t f
  satisfied-row = satisfied-wire n (le_refl n) ∙ sym (satisfied-any n r t f)

  -- ---- an unsatisfied row

  module _ (e : satisfied n r t f ≡ false) where
    none_before : (i : ℕ) → i < n → w.satisfied j i ≡ false
    none_before i l =
        satisfied-wire i (omega arith) ∙ any_false (λ i. satisfies r t f i) i (λ k m. unsatisfied-none n r t f e k (omega arith))

    pub literal-row : (i : ℕ) → i < n → w.literal j i ≡ free_in r t f i
    literal-row i l =
        on_state.cells.literal-is j i h l
        ∙ (λ k. literal_of (on_state.inputs.p_is j i h l k) (on_state.inputs.q-is j i h l k) (on_state.inputs.t_is i l k) (on_state.inputs.f_is i l k)
        (none_before i l k))
        ∙ literal-here r t f i (on_state.apart i l) (unsatisfied-none n r t f e i l)

    pub some-row : (i : ℕ) → i ≤ n → w.some j i ≡ any (λ i. free_in r t f i) i
    some-row =
        any-chain (w.some j) (λ i. free_in r t f i) n (on_state.cells.some-zero j h)
        (λ i l. on_state.cells.some-suc j i h l ∙ or_is (w.some j i) (w.literal j i) ∙ ap (λ (x : Bool). w.some j i || x) (literal-row i l))

    counted : (w.some j n ≡ some_of (count (λ i. free_in r t f i) n)) × (w.many j n ≡ many_of (count (λ i. free_in r t f i) n))
    counted =
        count-chain (w.some j) (w.many j) (λ i. free_in r t f i) n (on_state.cells.some-zero j h) (on_state.cells.many-zero j h)
        (λ i l. on_state.cells.some-suc j i h l ∙ ap (λ (x : Bool). or (w.some j i) x) (literal-row i l))
        (λ i l. on_state.cells.many-suc j i h l ∙ ap (λ (x : Bool). or (w.many j i) (w.some j i && x)) (literal-row i l))
        n (le_refl n)

    with-is : (k : ℕ) → unsatisfied_with k n t f r ≡ eqb (count (λ i. free_in r t f i) n) k
    unfolding unsatisfied_with
    with-is k = rw e (ap (λ (c : ℕ). eqb c k) (unsatisfied-literals n r t f e))

    pub sign-row : (v : ℕ) → v < n → free_in r t f v ≡ true → ((k : ℕ) → k < n → free_in r t f k ≡ true → k ≡ v) → w.sign j n ≡ bit r.positive v
    sign-row v l q u =
        single_chain (w.sign j) (λ i. free_in r t f i) (λ i. bit r.positive i) n (on_state.cells.sign_zero j h)
        (λ i m. on_state.cells.sign-suc j i h m
        ∙ (λ k. w.sign j i ⊕ positive_of (on_state.inputs.p_is j i h m k) (on_state.inputs.f_is i m k) (none_before i m k))
        ∙ ap (λ (x : Bool). w.sign j i ⊕ x) (positive-here r t f i (on_state.apart i m) (unsatisfied-none n r t f e i m)))
        n v (le_refl n) l q u

  -- ---- the rank

  -- no free literal or one
  pub high-row : w.high j ≡ not (satisfied n r t f) && (unsatisfied_with 0 n t f r || unsatisfied_with 1 n t f r)
  high-row =
      on_state.cells.high_is j h ∙ ap (λ (x : Bool). few_of x (w.many j n)) satisfied-row
      ∙ on (satisfied n r t f)
      (λ e. rw e)
      (λ e. rw e (ap (λ (x : Bool). few_of false x) (counted e).1 ∙ high_kinds (count (λ i. free_in r t f i) n)
      ∙ sym (ap₂ (λ (x y : Bool). x || y) (with-is e 0) (with-is e 1))))

  -- unsatisfied, and not with one
  pub low-row : w.low j ≡ not (satisfied n r t f) && not (unsatisfied_with 1 n t f r)
  low-row =
      on_state.cells.low-is j h ∙ ap (λ (x : Bool). low_of x (w.some j n) (w.many j n)) satisfied-row
      ∙ on (satisfied n r t f)
      (λ e. rw e)
      (λ e. rw e (ap₂ (λ (x y : Bool). low_of false x y) (counted e).0 (counted e).1 ∙ low_kinds (count (λ i. free_in r t f i) n) ∙ sym (ap not (with-is e 1))))
