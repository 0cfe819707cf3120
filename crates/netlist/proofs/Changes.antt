-- The sections from rule to output: their equations, and that the outputs are the state's bits moved by the signals, as `moved` writes them out. A level's wire
-- and what is pushed onto it are never both set, nor are pop and push, so one product serves both; the XOR of the changes along the levels is what a pop
-- restores, and what a push adds is taken off.
use mathlib.Core.Path.{◌≡◌, refl, sym, ap, ap₂, ◌∙◌, subst}
use mathlib.Core.Bool.{Bool, true, false, not, ◌&&◌, and-false, true≢false, false≢true}
use mathlib.Core.List.{List}
use Prim.Native.Nat.{ℕ, zero, suc, ◌≤◌, ◌<◌}
use native.Mathlib.Nat.{le_refl}
use native.Mathlib.Omega.{arith}
use lib.Dec.{eqb, ltb, eqb-zero-suc, eqb-suc-suc}
use lib.ListN.{length}
use borrow.Author.Tests.{ltb-true, ltb-false, eqb-true, eq-eqb, ne_eqb}
use Rattle.words.specs.Booleans.{◌⊕◌, imp}
use Rattle.words.specs.Sets.{bit}
use Rattle.words.proofs.Truth.{on, and_i, mp, taut1, taut2, taut3, taut4, agree, agree_eq}
use Rattle.state.specs.declared.Level.{Level}
use Rattle.state.specs.State.{State, is_satisfied}
use Rattle.wires.specs.Layout.{on_level, is_refuted}
use Rattle.wires.specs.Bits.{Bits, bits_in}
use Rattle.wires.proofs.Addresses.{Same, same_trans}
use Rattle.netlist.proofs.Chains.{parity, parity-none, parity-at, parity_xor, parity-both, xor_chain}
use Rattle.netlist.proofs.Levels.{level-unused}
use Rattle.netlist.proofs.Moves.{Signals, pop_at, push_at, moved}

-- ---- the rule's cell: open; the two digits of rank, the sign; depth 0

abbrev pub open_of : Bool → Bool → Bool
open_of satisfied refuted = not (satisfied ⊕ refuted)

abbrev pub clash_of : Bool → Bool → Bool → Bool
clash_of o high low = (o && high) && low

abbrev pub force_of : Bool → Bool → Bool → Bool
force_of o high low = (o && high) ⊕ clash_of o high low

abbrev pub push_of : Bool → Bool → Bool → Bool
push_of o high low = (o ⊕ (o && high)) && low

abbrev pub done_of : Bool → Bool → Bool → Bool
done_of o high low = (o ⊕ (o && high)) ⊕ push_of o high low

abbrev pub refute_of : Bool → Bool → Bool → Bool → Bool
refute_of o high low d = clash_of o high low && d

abbrev pub pop_of : Bool → Bool → Bool → Bool → Bool
pop_of o high low d = clash_of o high low ⊕ refute_of o high low d

abbrev pub act_of : Bool → Bool → Bool → Bool
act_of o high low = force_of o high low ⊕ push_of o high low

abbrev pub set_fof : Bool → Bool → Bool → Bool → Bool
set_fof o high low sign = force_of o high low && not sign

-- what the cell says; a variable is set true where one is set and not set false
abbrev pub signals : Bool → Bool → Bool → Bool → Bool → Signals
signals o high low sign d = record {
  done = done_of o high low;
  refute = refute_of o high low d;
  pop = pop_of o high low d;
  push = push_of o high low;
  set_f = set_fof o high low sign;
  set_t = act_of o high low ⊕ set_fof o high low sign;
}

-- ---- wires and equations

pub record Wires : Type 0 where
  -- the state, and the greatest key's rank and sign
  pub now : Bits
  pub high : Bool
  pub low : Bool
  pub sign : Bool
  -- rule
  pub rule : Signals
  pub act : Bool
  -- split: the variable, if one is set; set: what sets F, what is pushed, what sets T
  pub variable : ℕ → Bool
  pub sets_f : ℕ → Bool
  pub pushed : ℕ → Bool
  pub sets_t : ℕ → Bool
  -- hold
  pub pop_t : ℕ → Bool
  pub push_t : ℕ → Bool
  pub pop_f : ℕ → Bool
  pub push_f : ℕ → Bool
  -- select: level l is number l + 1, number 0 and number n + 1 are zero
  pub changes : ℕ → Bool
  -- level: level, then variable; the chains: variable, then level
  pub δlevel_t : ℕ → ℕ → Bool
  pub δlevel_f : ℕ → ℕ → Bool
  pub δchosen : ℕ → ℕ → Bool
  pub total_t : ℕ → ℕ → Bool
  pub total_f : ℕ → ℕ → Bool
  pub total_v : ℕ → ℕ → Bool
  -- assignment, depth
  pub δT : ℕ → Bool
  pub δF : ℕ → Bool
  pub δdepth : ℕ → Bool
  -- outputs
  pub next : Bits
  pub closing : Bool

pub record Changes (n : ℕ) (w : Wires) : Type 0 where
  pub rule-is : w.rule ≡ signals (open_of w.now.satisfied w.now.refuted) w.high w.low w.sign (w.now.depth 0)
  pub act-is : w.act ≡ act_of (open_of w.now.satisfied w.now.refuted) w.high w.low
  pub sets_f_is : (i : ℕ) → i < n → w.sets_f i ≡ w.variable i && w.rule.set_f
  pub pushed-is : (i : ℕ) → i < n → w.pushed i ≡ w.variable i && w.rule.push
  pub sets_t-is : (i : ℕ) → i < n → w.sets_t i ≡ w.variable i ⊕ (w.variable i && w.rule.set_f)
  pub pop_t_is : (i : ℕ) → i < n → w.pop_t i ≡ w.now.T i && w.rule.pop
  pub push_t_is : (i : ℕ) → i < n → w.push_t i ≡ w.now.T i && w.rule.push
  pub pop_f_is : (i : ℕ) → i < n → w.pop_f i ≡ w.now.F i && w.rule.pop
  pub push_f_is : (i : ℕ) → i < n → w.push_f i ≡ w.now.F i && w.rule.push
  pub changes_zero : w.changes 0 ≡ false
  pub changes_suc : (l : ℕ) → l < n → w.changes (suc l) ≡ (w.rule.push ⊕ w.now.depth (suc l)) && (w.rule.pop ⊕ w.now.depth l)
  pub changes_end : w.changes (suc n) ≡ false
  pub δlevel_t_is : (l i : ℕ) → l < n → i < n → w.δlevel_t l i ≡ w.changes (suc l) && (w.now.level_t l i ⊕ w.push_t i)
  pub δlevel_f_is : (l i : ℕ) → l < n → i < n → w.δlevel_f l i ≡ w.changes (suc l) && (w.now.level_f l i ⊕ w.push_f i)
  pub δchosen-is : (l i : ℕ) → l < n → i < n → w.δchosen l i ≡ w.changes (suc l) && (w.now.chosen l i ⊕ w.pushed i)
  pub total_t_zero : (i : ℕ) → i < n → w.total_t i 0 ≡ false
  pub total_t_suc : (i l : ℕ) → i < n → l < n → w.total_t i (suc l) ≡ w.total_t i l ⊕ w.δlevel_t l i
  pub total_f_zero : (i : ℕ) → i < n → w.total_f i 0 ≡ false
  pub total_f_suc : (i l : ℕ) → i < n → l < n → w.total_f i (suc l) ≡ w.total_f i l ⊕ w.δlevel_f l i
  pub total_v_zero : (i : ℕ) → i < n → w.total_v i 0 ≡ false
  pub total_v_suc : (i l : ℕ) → i < n → l < n → w.total_v i (suc l) ≡ w.total_v i l ⊕ w.δchosen l i
  pub δt_is : (i : ℕ) → i < n → w.δT i ≡ ((w.pop_t i ⊕ w.total_t i n) ⊕ w.push_t i) ⊕ w.sets_t i
  pub δf_is : (i : ℕ) → i < n → w.δF i ≡ ((((w.pop_f i ⊕ w.total_f i n) ⊕ w.push_f i) ⊕ w.total_v i n) ⊕ w.pushed i) ⊕ w.sets_f i
  pub δdepth-is : (k : ℕ) → k ≤ n → w.δdepth k ≡ w.changes k ⊕ w.changes (suc k)
  -- output
  pub t_is : (i : ℕ) → i < n → w.next.T i ≡ w.now.T i ⊕ w.δT i
  pub f_is : (i : ℕ) → i < n → w.next.F i ≡ w.now.F i ⊕ w.δF i
  pub depth_is : (k : ℕ) → k ≤ n → w.next.depth k ≡ w.now.depth k ⊕ w.δdepth k
  pub level_t_is : (l i : ℕ) → l < n → i < n → w.next.level_t l i ≡ w.now.level_t l i ⊕ w.δlevel_t l i
  pub level_f_is : (l i : ℕ) → l < n → i < n → w.next.level_f l i ≡ w.now.level_f l i ⊕ w.δlevel_f l i
  pub chosen_is : (l i : ℕ) → l < n → i < n → w.next.chosen l i ≡ w.now.chosen l i ⊕ w.δchosen l i
  pub satisfied-is : w.next.satisfied ≡ w.now.satisfied ⊕ w.rule.done
  pub refuted-is : w.next.refuted ≡ w.now.refuted ⊕ w.rule.refute
  pub closing-is : w.closing ≡ w.next.satisfied ⊕ w.next.refuted

-- ---- laws of the cells

-- pop and push exclude each other; push and set false are among what sets a variable; with no level nothing is removed
pub apart : (o high low d : Bool) → not (pop_of o high low d && push_of o high low) ≡ true
apart = taut4 (λ o h l d. not (pop_of o h l d && push_of o h l)) refl

pub push_acts : (o high low : Bool) → imp (push_of o high low) (act_of o high low) ≡ true
push_acts = taut3 (λ o h l. imp (push_of o h l) (act_of o h l)) refl

pub set_f_acts : (o high low sign : Bool) → imp (set_fof o high low sign) (act_of o high low) ≡ true
set_f_acts = taut4 (λ o h l s. imp (set_fof o h l s) (act_of o h l)) refl

pub pop_deep : (o high low d : Bool) → pop_of o high low d && d ≡ false
pop_deep o h l d = agree_eq (taut4 (λ o h l d. agree (pop_of o h l d && d) false) refl o h l d)

-- one product: pop and push apart, the depth one-hot
select_law : (pop push above here : Bool) → not (pop && push) ≡ true → not (above && here) ≡ true
    → (push ⊕ above) && (pop ⊕ here) ≡ (pop && above) ⊕ (push && here)
select_law pop push above here p q =
    agree_eq (mp _ _ (taut4 (λ pop push above here. imp (not (pop && push) && not (above && here))
    (agree ((push ⊕ above) && (pop ⊕ here)) ((pop && above) ⊕ (push && here)))) refl
    pop push above here) (and_i p q))

-- an unused level is zero
level_law : (pop push above here x y : Bool) → not (pop && push) ≡ true → not (here && x) ≡ true
    → ((pop && above) ⊕ (push && here)) && (x ⊕ (y && push)) ≡ ((pop && above) && x) ⊕ ((push && here) && y)
level_law true true above here x y p q = absurd (false≢true p)
level_law true false above here x y p q = agree_eq (taut3 (λ a x y. agree ((a ⊕ false) && (x ⊕ (y && false))) ((a && x) ⊕ false)) refl above x y)
level_law false true above here x y p q =
    agree_eq (mp _ _ (taut3 (λ h x y. imp (not (h && x)) (agree (h && (x ⊕ (y && true))) (h && y))) refl here x y) q)
level_law false false above here x y p q = refl

-- a state's wire popped, and a total without what a push adds
regroup : (a p t u : Bool) → ((a && p) ⊕ t) ⊕ u ≡ (p && a) ⊕ (t ⊕ u)
regroup a p t u = agree_eq (taut4 (λ a p t u. agree (((a && p) ⊕ t) ⊕ u) ((p && a) ⊕ (t ⊕ u))) refl a p t u)

-- and a second
regroup_two : (a p t u v x : Bool) → ((((a && p) ⊕ t) ⊕ u) ⊕ v) ⊕ x ≡ (p && a) ⊕ ((t ⊕ u) ⊕ (v ⊕ x))
regroup_two a p t u v x =
    ap (λ (y : Bool). (y ⊕ v) ⊕ x) (regroup a p t u) ∙ agree_eq (taut4 (λ a t v x. agree (((a ⊕ t) ⊕ v) ⊕ x) (a ⊕ (t ⊕ (v ⊕ x)))) refl (p && a) (t ⊕ u) v x)

-- ---- levels

module _ (g : Level → Bool) where
  -- the level at the depth
  pub at_depth : (ls : List Level) (k : ℕ) → not (eqb k (length ls) && on_level g ls k) ≡ true
  at_depth ls k =
      on (eqb k (length ls)) (λ e. let z : k ≡ length ls = eqb-true k (length ls) e in rw e (ap not (level-unused g ls k (omega arith)))) (λ e. rw e)

one_hot : (l d : ℕ) → not (eqb (suc l) d && eqb l d) ≡ true
one_hot l d = on (eqb l d) (λ e. let z : l ≡ d = eqb-true l d e in rw (ne_eqb (suc l) d (λ q. omega arith))) (λ e. rw e (ap not (and-false (eqb (suc l) d))))

-- ---- the outputs

module _ (n : ℕ) (s : State) (w : Wires) (c : Changes n w) (now : Same n w.now (bits_in s)) (few : length s.levels ≤ n)
    (B : ℕ → Bool) (variable-is : (i : ℕ) → i < n → w.variable i ≡ w.act && B i) where
  abbrev d : ℕ
  d = length s.levels

  abbrev o : Bool
  o = open_of w.now.satisfied w.now.refuted

  abbrev pop : Bool
  pop = w.rule.pop

  abbrev push : Bool
  push = w.rule.push

  pub rule_wires_lem : w.rule ≡ signals (open_of (is_satisfied s.standing) (is_refuted s.standing)) w.high w.low w.sign (eqb 0 d)
  rule_wires_lem =
      c.rule-is ∙ (λ k. signals (open_of (now.same-satisfied k) (now.same-refuted k)) w.high w.low w.sign (now.same_depth 0 (omega arith) k))

  exclusive : not (pop && push) ≡ true
  exclusive = ap (λ (g : Signals). not (g.pop && g.push)) c.rule-is ∙ apart o w.high w.low (w.now.depth 0)

  pushes : imp push w.act ≡ true
  pushes = ap₂ (λ (g : Signals) (a : Bool). imp g.push a) c.rule-is c.act-is ∙ push_acts o w.high w.low

  falsifies : imp w.rule.set_f w.act ≡ true
  falsifies = ap₂ (λ (g : Signals) (a : Bool). imp g.set_f a) c.rule-is c.act-is ∙ set_f_acts o w.high w.low w.sign

  set_t_is : w.rule.set_t ≡ w.act ⊕ w.rule.set_f
  set_t_is = ap (λ (g : Signals). g.set_t) c.rule-is ∙ sym (ap₂ (λ (a : Bool) (g : Signals). a ⊕ g.set_f) c.act-is c.rule-is)

  pop-zero : pop && eqb 0 d ≡ false
  pop-zero =
      ap₂ (λ (g : Signals) (x : Bool). g.pop && x) c.rule-is (sym (now.same_depth 0 (omega arith))) ∙ pop_deep o w.high w.low (w.now.depth 0)

  -- what is pushed and what sets T and F, by the variable
  pushed-by : (i : ℕ) → i < n → w.pushed i ≡ B i && push
  pushed-by i h =
      c.pushed-is i h ∙ ap (λ (x : Bool). x && push) (variable-is i h)
      ∙ agree_eq (mp _ _ (taut3 (λ a b p. imp (imp p a) (agree ((a && b) && p) (b && p))) refl w.act (B i) push) pushes)

  sets_f_by : (i : ℕ) → i < n → w.sets_f i ≡ w.rule.set_f && B i
  sets_f_by i h =
      c.sets_f_is i h ∙ ap (λ (x : Bool). x && w.rule.set_f) (variable-is i h)
      ∙ agree_eq (mp _ _ (taut3 (λ a b p. imp (imp p a) (agree ((a && b) && p) (p && b))) refl w.act (B i) w.rule.set_f) falsifies)

  sets_t-by : (i : ℕ) → i < n → w.sets_t i ≡ w.rule.set_t && B i
  sets_t-by i h =
      c.sets_t-is i h ∙ ap (λ (x : Bool). x ⊕ (x && w.rule.set_f)) (variable-is i h)
      ∙ agree_eq (mp _ _ (taut3 (λ a b p. imp (imp p a) (agree ((a && b) ⊕ ((a && b) && p)) ((a ⊕ p) && b))) refl w.act (B i) w.rule.set_f) falsifies)
      ∙ ap (λ (x : Bool). x && B i) (sym set_t_is)

  -- a level changes where it is popped or pushed
  module _ (room : push && eqb n d ≡ false) where
    abbrev pops : ℕ → Bool
    pops k = pop_at n w.rule B s k

    abbrev pushs : ℕ → Bool
    pushs k = push_at n w.rule B s k

    changes_wire : (l : ℕ) → l < n → w.changes (suc l) ≡ (pop && eqb (suc l) d) ⊕ (push && eqb l d)
    changes_wire l h =
        c.changes_suc l h ∙ (λ k. (push ⊕ now.same_depth (suc l) h k) && (pop ⊕ now.same_depth l (omega arith) k))
        ∙ select_law pop push (eqb (suc l) d) (eqb l d) exclusive (one_hot l d)

    changes_are : (k : ℕ) → k ≤ suc n → w.changes k ≡ pops k ⊕ pushs k
    changes_are zero h = c.changes_zero ∙ sym (ap₂ ◌⊕◌ pop-zero (ap (λ (x : Bool). push && x) (eqb-zero-suc d) ∙ and-false push))
    changes_are (suc l) h =
        rw (eqb-suc-suc l d)
        (on (ltb l n)
        (λ e. changes_wire l (ltb-true l n e))
        (λ e. let z : l ≡ n = omega (arith, ltb-false l n e) in
        rw z (c.changes_end ∙ sym (ap₂ ◌⊕◌ (ap (λ (x : Bool). pop && x) (ne_eqb (suc n) d (λ q. omega arith)) ∙ and-false pop) room))))

    -- a level's wire x, and what is pushed onto it
    level-change : (g : Level → Bool) (l : ℕ) (y : Bool) → l < n
        → w.changes (suc l) && (on_level g s.levels l ⊕ (y && push)) ≡ (pops (suc l) && on_level g s.levels l) ⊕ (pushs (suc l) && y)
    level-change g l y h =
        rw (eqb-suc-suc l d)
        (ap (λ (x : Bool). x && (on_level g s.levels l ⊕ (y && push))) (changes_wire l h)
        ∙ level_law pop push (eqb (suc l) d) (eqb l d) (on_level g s.levels l) y exclusive (at_depth g s.levels l))

    -- what a push adds, over all levels
    added : (y : Bool) → parity (λ l. pushs (suc l) && y) n ≡ y && push
    added y =
        on push
        (λ e. let h : d < n = omega (arith, few, deep e) in
        rw e (simp eqb-suc-suc (parity-at (λ l. y) n d h ∙ agree_eq (taut1 (λ a. agree a (a && true)) refl y))))
        (λ e. rw e (parity-none (λ l. false) n (λ l h. refl) ∙ sym (and-false y)))
      where
        deep : push ≡ true → n ≡ d → ⊥
        deep e q = true≢false (sym (and_i e (eq-eqb n d q)) ∙ room)

    -- the chain along the levels, without what a push adds
    restored : (g : Level → Bool) (y : Bool) (total : ℕ → Bool) → total 0 ≡ false
        → ((l : ℕ) → l < n → total (suc l) ≡ total l ⊕ ((pops (suc l) && on_level g s.levels l) ⊕ (pushs (suc l) && y)))
        → total n ⊕ (y && push) ≡ parity (λ l. pops (suc l) && on_level g s.levels l) n
    restored g y total start next =
        ap (λ (x : Bool). x ⊕ (y && push))
        (xor_chain total (λ l. (pops (suc l) && on_level g s.levels l) ⊕ (pushs (suc l) && y)) n start next n (le_refl n)
        ∙ parity_xor (λ l. pops (suc l) && on_level g s.levels l) (λ l. pushs (suc l) && y) n
        ∙ ap (λ (x : Bool). parity (λ l. pops (suc l) && on_level g s.levels l) n ⊕ x) (added y))
        ∙ agree_eq (taut2 (λ a b. agree ((a ⊕ b) ⊕ b) a) refl (parity (λ l. pops (suc l) && on_level g s.levels l) n) (y && push))

    -- ---- the changes as `moved` has them

    abbrev was : Bits
    was = bits_in s

    level_t_change : (l i : ℕ) → l < n → i < n → w.δlevel_t l i ≡ (pops (suc l) && was.level_t l i) ⊕ (pushs (suc l) && was.T i)
    level_t_change l i h b =
        c.δlevel_t_is l i h b ∙ (λ k. w.changes (suc l) && (now.same_level_t l i h b k ⊕ (c.push_t_is i b ∙ ap (λ (x : Bool). x && push) (now.same_t i b)) k))
        ∙ level-change (λ x. bit x.t i) l (was.T i) h

    level_f_change : (l i : ℕ) → l < n → i < n → w.δlevel_f l i ≡ (pops (suc l) && was.level_f l i) ⊕ (pushs (suc l) && was.F i)
    level_f_change l i h b =
        c.δlevel_f_is l i h b ∙ (λ k. w.changes (suc l) && (now.same_level_f l i h b k ⊕ (c.push_f_is i b ∙ ap (λ (x : Bool). x && push) (now.same_f i b)) k))
        ∙ level-change (λ x. bit x.f i) l (was.F i) h

    chosen-change : (l i : ℕ) → l < n → i < n → w.δchosen l i ≡ (pops (suc l) && was.chosen l i) ⊕ (pushs (suc l) && B i)
    chosen-change l i h b =
        c.δchosen-is l i h b ∙ (λ k. w.changes (suc l) && (now.same_chosen l i h b k ⊕ pushed-by i b k))
        ∙ level-change (λ x. eqb i x.chosen) l (B i) h

    t_change : (i : ℕ) → i < n → w.δT i ≡ ((pop && was.T i) ⊕ parity (λ l. pops (suc l) && was.level_t l i) n) ⊕ (w.rule.set_t && B i)
    t_change i h =
        c.δt_is i h
        ∙ (λ k. (((c.pop_t_is i h ∙ ap (λ (x : Bool). x && pop) (now.same_t i h)) k ⊕ w.total_t i n) ⊕ (c.push_t_is i h
        ∙ ap (λ (x : Bool). x && push) (now.same_t i h)) k) ⊕ sets_t-by i h k)
        ∙ ap (λ (x : Bool). x ⊕ (w.rule.set_t && B i))
        (regroup (was.T i) pop (w.total_t i n) (was.T i && push)
        ∙ ap (λ (x : Bool). (pop && was.T i) ⊕ x)
        (restored (λ x. bit x.t i) (was.T i) (w.total_t i) (c.total_t_zero i h)
        (λ l b. c.total_t_suc i l h b ∙ ap (λ (x : Bool). w.total_t i l ⊕ x) (level_t_change l i b h))))

    f_change : (i : ℕ) → i < n → w.δF i ≡ ((pop && was.F i) ⊕ parity (λ l. pops (suc l) && (was.level_f l i ⊕ was.chosen l i)) n) ⊕ (w.rule.set_f && B i)
    f_change i h =
        c.δf_is i h
        ∙ (λ k. (((((c.pop_f_is i h ∙ ap (λ (x : Bool). x && pop) (now.same_f i h)) k ⊕ w.total_f i n) ⊕ (c.push_f_is i h
        ∙ ap (λ (x : Bool). x && push) (now.same_f i h)) k) ⊕ w.total_v i n)
        ⊕ pushed-by i h k) ⊕ sets_f_by i h k)
        ∙ ap (λ (x : Bool). x ⊕ (w.rule.set_f && B i))
        (regroup_two (was.F i) pop (w.total_f i n) (was.F i && push) (w.total_v i n) (B i && push)
        ∙ ap (λ (x : Bool). (pop && was.F i) ⊕ x)
        (ap₂ ◌⊕◌
        (restored (λ x. bit x.f i) (was.F i) (w.total_f i) (c.total_f_zero i h)
        (λ l b. c.total_f_suc i l h b ∙ ap (λ (x : Bool). w.total_f i l ⊕ x) (level_f_change l i b h)))
        (restored (λ x. eqb i x.chosen) (B i) (w.total_v i) (c.total_v_zero i h)
        (λ l b. c.total_v_suc i l h b ∙ ap (λ (x : Bool). w.total_v i l ⊕ x) (chosen-change l i b h)))
        ∙ sym (parity-both (λ l. pops (suc l)) (λ l. was.level_f l i) (λ l. was.chosen l i) n)))

    depth_change : (k : ℕ) → k ≤ n → w.δdepth k ≡ ((pops k ⊕ pushs k) ⊕ pops (suc k)) ⊕ pushs (suc k)
    depth_change k h =
        c.δdepth-is k h ∙ ap₂ ◌⊕◌ (changes_are k (omega arith)) (changes_are (suc k) (omega arith))
        ∙ agree_eq (taut3 (λ a x y. agree (a ⊕ (x ⊕ y)) ((a ⊕ x) ⊕ y)) refl (pops k ⊕ pushs k) (pops (suc k)) (pushs (suc k)))

    next-moved : Same n w.next (moved n w.rule B s)
    next-moved = record {
      same_t = λ i h. c.t_is i h ∙ ap₂ ◌⊕◌ (now.same_t i h) (t_change i h);
      same_f = λ i h. c.f_is i h ∙ ap₂ ◌⊕◌ (now.same_f i h) (f_change i h);
      same_depth = λ k h. c.depth_is k h ∙ ap₂ ◌⊕◌ (now.same_depth k h) (depth_change k h);
      same_level_t = λ l i h b. c.level_t_is l i h b ∙ ap₂ ◌⊕◌ (now.same_level_t l i h b) (level_t_change l i h b);
      same_level_f = λ l i h b. c.level_f_is l i h b ∙ ap₂ ◌⊕◌ (now.same_level_f l i h b) (level_f_change l i h b);
      same_chosen = λ l i h b. c.chosen_is l i h b ∙ ap₂ ◌⊕◌ (now.same_chosen l i h b) (chosen-change l i h b);
      same-satisfied = c.satisfied-is ∙ ap (λ (x : Bool). x ⊕ w.rule.done) now.same-satisfied;
      same-refuted = c.refuted-is ∙ ap (λ (x : Bool). x ⊕ w.rule.refute) now.same-refuted;
    }

  -- the signals are g, so the output wires are what g moves
  pub moved_by : (g : Signals) → w.rule ≡ g → g.push && eqb n d ≡ false → (bits : Bits) → Same n (moved n g B s) bits → Same n w.next bits
  moved_by g e room bits h =
      same_trans n w.next _ bits
      (subst (λ (g : Signals). Same n w.next (moved n g B s)) e (next-moved (ap (λ (g : Signals). g.push && eqb n d) e ∙ room)))
      h
