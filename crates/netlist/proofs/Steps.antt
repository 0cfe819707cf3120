-- The circuit carries out the giant step: where each cell's equation holds, on the bits of rows and of a well-formed state, the outputs are the bits
-- of the state after one giant step and whether it is closed. By cases on the rule that applies: its signals move the state's bits as the rule does.
use mathlib.Core.Path.{◌≡◌, refl, ap, ap₂, ◌∙◌}
use mathlib.Core.Bool.{Bool, true, false, not, ◌&&◌}
use mathlib.Core.List.{List, [], ◌∷◌, ◌++◌}
use Prim.Native.Nat.{ℕ, suc, ◌+◌, ◌-◌, ◌^◌, ◌≤◌, ◌<◌}
use native.Mathlib.Omega.{arith}
use lib.Dec.{eqb, eqb-zero-suc}
use lib.ListN.{length}
use borrow.Author.Tests.{ne_eqb, not-true}
use Rattle.words.specs.declared.Row.{Row}
use Rattle.words.specs.Booleans.{◌⊕◌}
use Rattle.words.specs.Sets.{bit}
use Rattle.words.proofs.Truth.{and_l, and_r}
use Rattle.tables.specs.Rows.{free}
use Rattle.state.specs.declared.Level.{Level}
use Rattle.scan.specs.declared.Rule.{Rule}
use Rattle.scan.specs.declared.Rule.TheVariants.{AllSatisfied, Conflict, Unit, Choice}
use Rattle.state.specs.declared.Standing.{Standing}
use Rattle.state.specs.declared.Standing.TheVariants.{Open, Satisfied, Refuted}
use Rattle.state.specs.State.{State, is_satisfied, if_open}
use Rattle.scan.specs.Rules.{rule}
use Rattle.solver.specs.Step.{follow, step}
use Rattle.state.proofs.WellFormedLaws.{Formed, chain_head}
use Rattle.truth.proofs.FreeVariables.{free-less_t}
use Rattle.solver.proofs.SettingLaws.{depth_free}
use Rattle.wires.specs.Layout.{is_refuted, state_bits}
use Rattle.wires.specs.Bits.{Bits, bits_in, bits_in_order}
use Rattle.wires.proofs.Addresses.{Same, order_cong}
use Rattle.wires.proofs.Addresses.{row_of}
use Rattle.netlist.proofs.Moves.{Signals, state, moved, moved-closing, moved-true, moved-false, moved-choice, moved_back}
use Rattle.netlist.specs.Outputs.{output_bits}
use Rattle.netlist.proofs.Equations as First
use Rattle.netlist.proofs.Equations.{Cells, OnState}
use Rattle.netlist.proofs.Decoder.{at_leaf}
use Rattle.netlist.proofs.Keys.{variable_set}
use Rattle.netlist.proofs.Shown.{Shows, shown}
use Rattle.netlist.proofs.Changes.{Wires, Changes, signals, rule_wires_lem, moved_by}

-- the two halves of the circuit, for n variables and b digits: what the second takes from the first
pub record Joined (n b : ℕ) (u : First.Wires) (w : Wires) : Type 0 where
  pub t_same : (i : ℕ) → i < n → u.T i ≡ w.now.T i
  pub f_same : (i : ℕ) → i < n → u.F i ≡ w.now.F i
  pub high_same : w.high ≡ u.greatest (suc (suc b))
  pub low_same : w.low ≡ u.greatest (suc b)
  pub sign_same : w.sign ≡ u.greatest 0
  pub act-same : u.act ≡ w.act
  pub variable_same : (i : ℕ) → i < n → w.variable i ≡ u.node b (2 ^ b - n + i)

-- the circuit on rows and a well-formed state
pub record Whole (n b : ℕ) (rows : List Row) (s : State) (u : First.Wires) (w : Wires) : Type 0 where
  pub p_is : (j i : ℕ) → j < length rows → i < n → u.p j i ≡ bit (row_of rows j).positive i
  pub q-is : (j i : ℕ) → j < length rows → i < n → u.q j i ≡ bit (row_of rows j).negative i
  pub now-is : Same n w.now (bits_in s)
  pub cells : Cells n (length rows) b u
  pub changes : Changes n w
  pub joined : Joined n b u w
  pub formed : Formed n s
  pub a-row : 0 < length rows
  pub room : n ≤ 2 ^ b

free_t : (t f v : ℕ) → free t f v ≡ true → bit t v ≡ false
free_t t f v h = not-true (bit t v) (and_l (not (bit t v)) _ h)

free-f : (t f v : ℕ) → free t f v ≡ true → bit f v ≡ false
free-f t f v h = not-true (bit f v) (and_r (not (bit t v)) _ h)

module _ (n b : ℕ) (rows : List Row) (u : First.Wires) (w : Wires) where
  abbrev m : ℕ
  m = length rows

  -- the variable of the greatest key
  abbrev B : ℕ → Bool
  B i = at_leaf (λ d. u.greatest (suc d)) b n i

  module _ (s : State) (c : Whole n b rows s u w) where
    on_state : OnState n b rows s.t s.f u
    on_state = record {
      inputs = record {
        p_is = c.p_is;
        q-is = c.q-is;
        t_is = λ i h. c.joined.t_same i h ∙ c.now-is.same_t i h;
        f_is = λ i h. c.joined.f_same i h ∙ c.now-is.same_f i h;
      };
      cells = c.cells;
      apart = c.formed.own.apart;
      a-row = c.a-row;
      room = c.room;
    }

    picked : (i : ℕ) → i < n → w.variable i ≡ w.act && B i
    picked i h = c.joined.variable_same i h ∙ variable_set n b rows s.t s.f u on_state i h ∙ ap (λ (x : Bool). x && B i) c.joined.act-same

    signals_are : (high low sign : Bool) → u.greatest (suc (suc b)) ≡ high → u.greatest (suc b) ≡ low → u.greatest 0 ≡ sign
        → w.rule ≡ signals (not (is_satisfied s.standing ⊕ is_refuted s.standing)) high low sign (eqb 0 (length s.levels))
    signals_are high low sign p q r =
        rule_wires_lem n s w c.changes c.now-is c.formed.few B picked
        ∙ (λ k. signals (not (is_satisfied s.standing ⊕ is_refuted s.standing)) ((c.joined.high_same ∙ p) k) ((c.joined.low_same ∙ q) k)
        ((c.joined.sign_same ∙ r) k) (eqb 0 (length s.levels)))

    moves : (g : Signals) → w.rule ≡ g → g.push && eqb n (length s.levels) ≡ false → (bits : Bits) → Same n (moved n g B s) bits → Same n w.next bits
    moves = moved_by n s w c.changes c.now-is c.formed.few B picked

  -- ---- an open state

  module _ (t f : ℕ) where
    followed : (ls : List Level) (k : Rule) → Whole n b rows (state Open t f ls) u w → Shows n b t f u k
        → Same n w.next (bits_in (follow (state Open t f ls) k))
    followed ls AllSatisfied c e =
        let s = state Open t f ls in
        moves s c _ (signals_are s c false false (u.greatest 0) e.0 e.1 refl) refl _ (moved-closing n t f ls B Open Satisfied true false refl refl)
    followed [] Conflict c e =
        let s = state Open t f [] in
        moves s c _ (signals_are s c true true (u.greatest 0) e.0 e.1 refl) refl _ (moved-closing n t f [] B Open Refuted false true refl refl)
    followed (l ∷ ls) Conflict c e =
        let s = state Open t f (l ∷ ls) in
        let few : length ls < n = c.formed.few in
        moves s c _ (signals_are s c true true (u.greatest 0) e.0 e.1 refl
        ∙ ap (λ (x : Bool). signals true true true (u.greatest 0) x) (eqb-zero-suc (length ls))) refl _
        (moved_back n t f l ls B few (free-f l.t l.f l.chosen (chain_head n l t f ls c.formed.linked).was_free))
    followed ls (Unit v true) c e =
        let s = state Open t f ls in
        moves s c _ (signals_are s c true false true e.0 e.1 e.2) refl _ (moved-true n t f ls B v e.3.0 (free_t t f v e.3.2))
    followed ls (Unit v false) c e =
        let s = state Open t f ls in
        moves s c _ (signals_are s c true false false e.0 e.1 e.2) refl _ (moved-false n t f ls B v e.3.0 (free-f t f v e.3.2))
    followed ls (Choice v) c e =
        let s = state Open t f ls in
        let few : length ls < n = omega (arith, depth_free n t f ls c.formed.linked, free-less_t n t f v e.2.1 e.2.2 (λ i. true) refl) in
        moves s c _ (signals_are s c false true (u.greatest 0) e.0 e.1 refl) (ne_eqb n (length ls) (λ q. omega arith)) _
        (moved-choice n t f ls B v e.2.0 (free_t t f v e.2.2))

  -- ---- any state

  stepped : (st : Standing) (t f : ℕ) (ls : List Level) → Whole n b rows (state st t f ls) u w → Same n w.next (bits_in (step n rows (state st t f ls)))
  unfolding step
  stepped Open t f ls c = followed t f ls (rule n rows t f) c (shown n b rows t f u (on_state (state Open t f ls) c))
  stepped Satisfied t f ls c =
      let s = state Satisfied t f ls in
      moves s c _ (signals_are s c (u.greatest (suc (suc b))) (u.greatest (suc b)) (u.greatest 0) refl refl refl) refl _
      (moved-closing n t f ls B Satisfied Satisfied false false refl refl)
  stepped Refuted t f ls c =
      let s = state Refuted t f ls in
      moves s c _ (signals_are s c (u.greatest (suc (suc b))) (u.greatest (suc b)) (u.greatest 0) refl refl refl) refl _
      (moved-closing n t f ls B Refuted Refuted false false refl refl)

-- the closing bits together say whether the standing is closed
closed-bits : (st : Standing) → is_satisfied st ⊕ is_refuted st ≡ if_open st false true
closed-bits Open = refl
closed-bits Satisfied = refl
closed-bits Refuted = refl

module _ (n b : ℕ) (rows : List Row) (s : State) (u : First.Wires) (w : Wires) (c : Whole n b rows s u w) where
  next-same : Same n w.next (bits_in (step n rows s))
  next-same = stepped n b rows u w s.standing s.t s.f s.levels c

  pub circuit_steps : bits_in_order n w.next ++ (w.closing ∷ []) ≡ output_bits n rows s
  unfolding output_bits state_bits bits_in_order
  circuit_steps =
      ap₂ (λ (bits : List Bool) (x : Bool). bits ++ (x ∷ []))
      (order_cong n _ _ next-same)
      (c.changes.closing-is ∙ ap₂ ◌⊕◌ next-same.same-satisfied next-same.same-refuted ∙ closed-bits (step n rows s).standing)
