-- The sections one after the other are the circuit: a section of one lane, of cells alone or of one cell is an array too.
use mathlib.Core.Path.{◌≡◌, refl, ap, ap₂, sym, ◌∙◌, subst}
use mathlib.Core.List.{List, [], ◌∷◌, ◌++◌, append_assoc, append-nil}
use Prim.Native.Nat.{ℕ, zero, suc, ◌+◌, ◌*◌, ◌-◌, ◌^◌, ◌≤◌, ◌<◌}
use native.Mathlib.Nat.{not-suc-le-zero, le_refl}
use native.Mathlib.Omega.{arith}
use borrow.Author.Tests.{ltb-true, ltb-false}
use lib.Dec.{ltb}
use lib.ListN.{length, get_or, take, drop, length-drop}
use lib.Seq.{length-take-le, take-suc}
use Rattle.words.proofs.Truth.{on}
use Rattle.gates.specs.Gates.{Gate}
use Rattle.sections.specs.declared.Addresses.{Addresses}
use Rattle.sections.specs.declared.Section.{Section}
use Rattle.sections.specs.Cells.{all_size}
use Rattle.sections.specs.Sections as Sections
use Rattle.sections.specs.Sections.{no_section, five, first, section_at}
use Rattle.sections.proofs.InOrder.{at_first, at_level, at_last}
use Rattle.netlist.specs.Templates as Templates
use Rattle.netlist.specs.Arrays.{cell, rows, along, none, cells, lane, array}
use Rattle.netlist.specs.Netlist as Netlist
use Rattle.netlist.specs.Netlist.{next_level, circuit}
use Rattle.netlist.proofs.Sizes.{array-length}
use Rattle.generator.specs.Storing.{templates, gates_of}
use Rattle.generator.proofs.Chain.{All, all-at, all_append, size, joined, joined_append, all-five, five-joined}

-- ---- arrays of one lane, without zeros, of one cell

along-none : (slots steps : List ℕ) → length slots ≡ length steps → along slots steps 0 ≡ slots
along-none [] steps e = refl
along-none (x ∷ slots) [] e = absurd (not-suc-le-zero (subst (λ (k : ℕ). suc (length slots) ≤ k) e (le_refl (suc (length slots)))))
along-none (x ∷ slots) (d ∷ steps) e =
    let h : x + d * 0 ≡ x = omega arith in
    ap₂ (λ (y : ℕ) (l : List ℕ). y ∷ l) h (along-none slots steps (omega arith))

one_lane : (z : ℕ) (t : List Gate) (slots inner : List ℕ) (b n : ℕ) → length slots ≡ 8 → array z t slots none inner b 1 n ≡ lane z t slots inner b n
unfolding array
one_lane z t slots inner b n e =
    let h : b + (z + length t * n) * 0 ≡ b = omega arith in
    ap₂ (λ (l : List ℕ) (k : ℕ). lane z t l inner k n) (along-none slots none e) h

no_zeros : (t : List Gate) (slots steps : List ℕ) (b n : ℕ) → lane 0 t slots steps b n ≡ cells t slots steps b n
unfolding lane cells
no_zeros t slots steps b n =
    let h : b + 0 ≡ b = omega arith in
    ap (λ (k : ℕ). cells t slots steps k n) h

one_cell : (t : List Gate) (slots : List ℕ) (b : ℕ) → length slots ≡ 8 → cells t slots none b 1 ≡ cell slots b t
unfolding cells
one_cell t slots b e =
    let h : b + length t * 0 ≡ b = omega arith in
    ap₂ (λ (l : List ℕ) (k : ℕ). cell l k t) (along-none slots none e) h

-- one lane of cells
in_cells : (t : List Gate) (slots inner : List ℕ) (b n : ℕ) → length slots ≡ 8 → array 0 t slots none inner b 1 n ≡ cells t slots inner b n
in_cells t slots inner b n e = one_lane 0 t slots inner b n e ∙ no_zeros t slots inner b n

-- ---- how many gates a section has

gates_size : (s : Section) → s.template + s.size ≤ all_size → length (gates_of s) ≡ size s
unfolding size
gates_size s h =
    let all : length templates ≡ all_size = refl in
    let room : s.size ≤ length (drop s.template templates) = omega (arith, length-drop s.template templates) in
    array-length s.zeros (take s.size (drop s.template templates)) s.slots s.outer s.inner s.base s.lanes s.cells
    ∙ ap (λ (k : ℕ). (s.zeros + k * s.cells) * s.lanes) (length-take-le s.size (drop s.template templates) room)

joined-last : (ss : List Section) (s : Section) → joined (ss ++ (s ∷ [])) ≡ joined ss ++ gates_of s
joined-last ss s = joined_append ss (s ∷ []) ∙ ap (λ (l : List Gate). joined ss ++ l) (append-nil (gates_of s))

-- the circuit's groups of sections
grouped : (judging digits sign keys low high bye pairs nodes greatest rule root splits holding changing assignment depth levels standing : List Gate)
    → ((judging ++ (digits ++ (sign ++ (keys ++ ((low ++ (high ++ (bye ++ (pairs ++ (nodes ++ (greatest ++ (rule ++ root)))))))
    ++ (splits ++ (holding ++ (changing ++ (assignment ++ depth)))))))))
    ++ levels) ++ standing
    ≡ judging ++ ((digits ++ (sign ++ (keys ++ (low ++ high)))) ++ ((bye ++ (pairs ++ (nodes ++ (greatest ++ (rule ++ (root ++ splits))))))
    ++ (holding ++ (changing ++ (assignment ++ (depth ++ (levels ++ standing)))))))
grouped judging digits sign keys low high bye pairs nodes greatest rule root splits holding changing assignment depth levels standing = simp append_assoc

module _ (a : Addresses) where
  -- the last of all
  abbrev pub last : Section
  last = Sections.next_standing a

  -- the gates of section k
  abbrev pub f : ℕ → List Gate
  f k = gates_of (section_at a k)

  -- ---- the sections before the next levels, between families

  abbrev pub judged : List Section
  judged = Sections.zero_gate a ∷ Sections.literals a ∷ Sections.counts a ∷ Sections.ranks a ∷ []

  abbrev pub signed : List Section
  signed = Sections.key_sign a ∷ []

  abbrev pub chosen : List Section
  chosen =
      Sections.key_low a ∷ Sections.key_high a ∷ Sections.bye a ∷ Sections.pairs a ∷ Sections.nodes a ∷ Sections.greatest a
      ∷ Sections.rule a ∷ Sections.root a ∷ []

  abbrev pub held : List Section
  held = Sections.targets a ∷ Sections.guards a ∷ Sections.selects a ∷ Sections.select_end a ∷ []

  abbrev pub changed : List Section
  changed =
      Sections.levels_t a ∷ Sections.levels_f a ∷ Sections.levels_v a ∷ Sections.assign_t a ∷ Sections.assign_f a ∷ Sections.depths a
      ∷ Sections.next_assignment a ∷ Sections.next_depth a ∷ []

  -- those from each family on
  abbrev pub from_splits : List Section
  from_splits = five a (Sections.split a) ++ (held ++ changed)

  abbrev pub from_keys : List Section
  from_keys = five a (Sections.key_digit a) ++ (chosen ++ from_splits)

  abbrev pub from-digits : List Section
  from-digits = five a (Sections.digit a) ++ (signed ++ from_keys)

  -- what holds of every section
  pub record Each (P : Section → Type 0) : Type 0 where
    pub in_judged : All P judged
    pub in_digits : (d : ℕ) → d < a.b → P (Sections.digit a d)
    pub in_signed : All P signed
    pub in_keys : (d : ℕ) → d < a.b → P (Sections.key_digit a d)
    pub in_chosen : All P chosen
    pub in_splits : (d : ℕ) → d < a.b → P (Sections.split a d)
    pub in_held : All P held
    pub in_changed : All P changed
    pub in_levels : (l : ℕ) → l < a.n → P (Sections.next_level a l)
    pub in_last : P last
    pub in_none : P (no_section a)

  in_first : (P : Section → Type 0) → Each P → All P (first a)
  in_first P h =
      all_append P judged from-digits h.in_judged
      (all_append P (five a (Sections.digit a)) (signed ++ from_keys) (all-five a (Sections.digit a) P h.in_digits h.in_none)
      (all_append P signed from_keys h.in_signed
      (all_append P (five a (Sections.key_digit a)) (chosen ++ from_splits) (all-five a (Sections.key_digit a) P h.in_keys h.in_none)
      (all_append P chosen from_splits h.in_chosen
      (all_append P (five a (Sections.split a)) (held ++ changed) (all-five a (Sections.split a) P h.in_splits h.in_none)
      (all_append P held changed h.in_held h.in_changed))))))

  pub at_each : (P : Section → Type 0) → Each P → (k : ℕ) → P (section_at a k)
  at_each P h k =
      on (ltb k 40)
      (λ e. subst P (at_first a k (ltb-true k 40 e)) (all-at P (first a) last (in_first P h) k (ltb-true k 40 e)))
      (λ e. on (ltb (k - 40) a.n)
      (λ e'. subst P (at_level a k (ltb-false k 40 e) (ltb-true (k - 40) a.n e')) (h.in_levels (k - 40) (ltb-true (k - 40) a.n e')))
      (λ e'. subst P (at_last a k (ltb-false k 40 e) (ltb-false (k - 40) a.n e')) h.in_last))

  named : Each (λ s. s.template + s.size ≤ all_size)
  named = record {
    in_judged = omega arith;
    in_digits = omega arith;
    in_signed = omega arith;
    in_keys = omega arith;
    in_chosen = omega arith;
    in_splits = omega arith;
    in_held = omega arith;
    in_changed = omega arith;
    in_levels = omega arith;
    in_last = omega arith;
    in_none = omega arith;
  }

  pub f-length : (k : ℕ) → length (f k) ≡ size (section_at a k)
  f-length k = gates_size (section_at a k) (at_each (λ s. s.template + s.size ≤ all_size) named k)

  -- ---- all sections

  first_rows : (k : ℕ) → k ≤ 40 → rows f k ≡ joined (take k (first a))
  first_rows zero h = refl
  first_rows (suc k) h =
      ap₂ ◌++◌ (first_rows k (omega arith)) (ap gates_of (sym (at_first a k h))) ∙ sym (joined-last (take k (first a)) (get_or (first a) k last))
      ∙ sym (ap joined (take-suc (first a) k last h))

  level-rows : (l : ℕ) → l ≤ a.n → (k : ℕ) → k ≡ 40 + l → rows f k ≡ joined (first a) ++ rows (next_level a) l
  level-rows zero h k e =
      let e' : k ≡ 40 = omega arith in
      subst (λ (j : ℕ). rows f j ≡ joined (first a) ++ []) (sym e') (first_rows 40 (omega arith) ∙ sym (append-nil (joined (first a))))
  level-rows (suc l) h zero e = absurd (omega arith)
  level-rows (suc l) h (suc k) e =
      let at : k - 40 ≡ l = omega arith in
      ap₂ ◌++◌ (level-rows l (omega arith) k (omega arith)) (ap gates_of (sym (at_level a k (omega arith) (omega arith))) ∙ ap (next_level a) at)
      ∙ append_assoc (joined (first a)) (rows (next_level a) l) (next_level a l)

  judged_gates : joined judged ≡ Netlist.judging a
  judged_gates =
      ap₂ ◌++◌ (in_cells Templates.sum _ _ _ 1 refl ∙ one_cell Templates.sum _ _ refl)
      (ap (λ (l : List Gate). Netlist.literals a ++ (Netlist.counts a ++ l)) (append-nil _ ∙ in_cells Templates.rank _ _ _ a.m refl))

  signed_gates : joined signed ≡ Netlist.key_sign a
  signed_gates = append-nil _ ∙ in_cells Templates.sum _ _ _ a.m refl

  chosen_gates : joined chosen
      ≡ Netlist.key_low a ++ (Netlist.key_high a
      ++ (Netlist.bye a ++ (Netlist.pairs a ++ (Netlist.nodes a ++ (Netlist.greatest a ++ (Netlist.rule a ++ Netlist.root a))))))
  chosen_gates =
      ap₂ ◌++◌ (in_cells Templates.sum _ _ _ a.m refl)
      (ap₂ ◌++◌ (in_cells Templates.sum _ _ _ a.m refl)
      (ap₂ ◌++◌ (one_lane 1 Templates.bye _ _ _ (3 + a.b) refl)
      (ap (λ (l : List Gate). Netlist.pairs a ++ (Netlist.nodes a ++ l))
      (ap₂ ◌++◌ (in_cells Templates.choice _ _ _ (3 + a.b) refl)
      (ap₂ ◌++◌ (in_cells Templates.rule _ _ _ 1 refl ∙ one_cell Templates.rule _ _ refl)
      (append-nil _ ∙ in_cells Templates.sum _ _ _ 1 refl ∙ one_cell Templates.sum _ _ refl))))))

  held_gates : joined held ≡ Netlist.holding a
  held_gates =
      ap₂ ◌++◌ (in_cells Templates.target _ _ _ a.n refl)
      (ap (λ (l : List Gate). Netlist.guards a ++ l)
      (ap₂ ◌++◌ (one_lane 1 Templates.select _ _ _ a.n refl) (append-nil _ ∙ in_cells Templates.sum _ _ _ 3 refl)))

  changed_gates : joined changed ≡ Netlist.changing a ++ (Netlist.next_assignment a ++ Netlist.next_depth a)
  changed_gates =
      ap (λ (l : List Gate). Netlist.levels_t a ++ (Netlist.levels_f a ++ (Netlist.levels_v a ++ l)))
      (ap₂ ◌++◌ (in_cells Templates.assignment _ _ _ a.n refl)
      (ap₂ ◌++◌ (in_cells Templates.assignment _ _ _ a.n refl)
      (ap₂ ◌++◌ (in_cells Templates.sum _ _ _ (a.n + 1) refl)
      (ap (λ (l : List Gate). Netlist.next_assignment a ++ l) (append-nil _ ∙ in_cells Templates.sum _ _ _ (a.n + 1) refl)))))
      ∙ simp append_assoc

  module _ (few : a.b ≤ 5) where
    splits_on : joined from_splits ≡ rows (Netlist.split a) a.b
        ++ (Netlist.holding a ++ (Netlist.changing a ++ (Netlist.next_assignment a ++ Netlist.next_depth a)))
    splits_on =
        joined_append (five a (Sections.split a)) (held ++ changed)
        ∙ ap₂ ◌++◌ (five-joined a (Sections.split a) few (Netlist.split a) (λ d. in_cells Templates.split _ _ _ (2 ^ d) refl))
        (joined_append held changed ∙ ap₂ ◌++◌ held_gates changed_gates)

    keys_on : joined from_keys ≡ rows (Netlist.key_digit a) a.b ++ (joined chosen ++ joined from_splits)
    keys_on =
        joined_append (five a (Sections.key_digit a)) (chosen ++ from_splits)
        ∙ ap₂ ◌++◌ (five-joined a (Sections.key_digit a) few (Netlist.key_digit a) (λ d. in_cells Templates.sum _ _ _ a.m refl))
        (joined_append chosen from_splits)

    first_gates : joined (first a) ≡ Netlist.judging a ++ (rows (Netlist.digit a) a.b ++ (Netlist.key_sign a ++ joined from_keys))
    first_gates =
        joined_append judged from-digits
        ∙ ap₂ ◌++◌ judged_gates
        (joined_append (five a (Sections.digit a)) (signed ++ from_keys)
        ∙ ap₂ ◌++◌ (five-joined a (Sections.digit a) few (Netlist.digit a) (λ d. refl))
        (joined_append signed from_keys ∙ ap (λ (l : List Gate). l ++ joined from_keys) signed_gates))

    pub all_sections : (k : ℕ) → k ≡ 41 + a.n → rows f k ≡ circuit a
    all_sections zero e = absurd (omega arith)
    all_sections (suc k) e =
        ap₂ ◌++◌ (level-rows a.n (le_refl a.n) k (omega arith))
        (ap gates_of (sym (at_last a k (omega arith) (omega arith))) ∙ in_cells Templates.standing _ _ _ 1 refl ∙ one_cell Templates.standing _ _ refl)
        ∙ ap (λ (l : List Gate). (l ++ rows (next_level a) a.n) ++ Netlist.next_standing a) first_gates
        ∙ ap (λ (l : List Gate). ((Netlist.judging a ++ (rows (Netlist.digit a) a.b ++ (Netlist.key_sign a ++ l))) ++ rows (next_level a)
        a.n) ++ Netlist.next_standing a)
        (keys_on ∙ ap (λ (l : List Gate). rows (Netlist.key_digit a) a.b ++ l) (ap₂ ◌++◌ chosen_gates splits_on))
        ∙ grouped (Netlist.judging a) (rows (Netlist.digit a) a.b) (Netlist.key_sign a) (rows (Netlist.key_digit a) a.b) (Netlist.key_low a)
        (Netlist.key_high a) (Netlist.bye a)
        (Netlist.pairs a) (Netlist.nodes a) (Netlist.greatest a) (Netlist.rule a) (Netlist.root a) (rows (Netlist.split a) a.b)
        (Netlist.holding a) (Netlist.changing a)
        (Netlist.next_assignment a) (Netlist.next_depth a) (rows (next_level a) a.n) (Netlist.next_standing a)
