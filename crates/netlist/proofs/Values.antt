-- What a placed cell's wires hold: on the final wires each gate's equation holds, so a cell's wires are its template's on the slots' wires, by induction on the
-- gates.
use mathlib.Core.Path.{◌≡◌, refl, ap, ap₂, sym, ◌∙◌, subst}
use mathlib.Core.Bool.{Bool, true, false, not, ◌&&◌}
use mathlib.Core.List.{List, [], ◌∷◌, ◌++◌, map, append_assoc, append-nil}
use Prim.Native.Nat.{ℕ, zero, suc, ◌+◌, ◌*◌, ◌-◌, ◌≤◌, ◌<◌}
use native.Mathlib.Nat.{add-zero, lt_of_not-le, not-suc-le-zero, le_of_suc-le-suc}
use native.Mathlib.Decide.{dec_le}
use native.Mathlib.Omega.{arith}
use borrow.Author.Tests.{lt-ltb, le-ltb, ltb-true}
use lib.Dec.{ltb}
use lib.ListN.{length, get_or, length-append, length-map, get_or-append}
use lib.Seq.{get_or-append-add, get_or-append_seam}
use Rattle.words.specs.Booleans.{◌⊕◌}
use Rattle.words.proofs.Truth.{and_l, and_r}
use Rattle.gates.specs.Gates.{Gate, wire, value, wires_of}
use Rattle.gates.specs.Gates.Gate.{XOR, AND, INV}
use Rattle.gates.proofs.Circuits.{reads, ordered, wires_keep, value-keep}
use Rattle.netlist.specs.Arrays.{operand, placed, cell, rows}
use Rattle.netlist.proofs.Sizes.{rows-length}

-- a gate's value, by all wires
abbrev pub gives : (ℕ → Bool) → Gate → Bool
gives W (XOR a b) = W a ⊕ W b
gives W (AND a b) = W a && W b
gives W (INV a) = not (W a)

-- the gates from wire b on hold of the wires
abbrev pub Holds : (ℕ → Bool) → ℕ → List Gate → Type 0
Holds W b [] = Unit {0}
Holds W b (g ∷ gs) = (W b ≡ gives W g) × Holds W (suc b) gs

gives-value : (w : List Bool) (g : Gate) → value w g ≡ gives (wire w) g
gives-value w (XOR a b) = refl
gives-value w (AND a b) = refl
gives-value w (INV a) = refl

-- a circuit's gates hold of its wires
pub holds : (w : List Bool) (gs : List Gate) → ordered (length w) gs ≡ true → Holds (wire (wires_of w gs)) (length w) gs
unfolding wires_of ordered
holds w [] o = tt
holds w (g ∷ gs) o =
    let v : List Bool = w ++ (value w g ∷ []) in
    let e : length v ≡ suc (length w) = length-append w (value w g ∷ []) ∙ omega arith in
    let l : length w < length v = omega arith in (
      wires_keep v gs (length w) l ∙ get_or-append_seam w (value w g) [] false
          ∙ sym (value-keep w (g ∷ gs) g (and_l _ _ o)) ∙ gives-value (wires_of v gs) g,
      subst (λ (k : ℕ). Holds (wire (wires_of v gs)) k gs) e
          (holds v gs (ap (λ (k : ℕ). ordered k gs) e ∙ and_r (reads (length w) g) _ o)),
    )

map_at : (W : ℕ → Bool) (slots : List ℕ) (x : ℕ) → x < length slots → get_or (map W slots) x false ≡ W (get_or slots x 0)
map_at W [] x h = absurd (not-suc-le-zero h)
map_at W (y ∷ slots) zero h = refl
map_at W (y ∷ slots) (suc x) h = map_at W slots x (le_of_suc-le-suc h)

module _ (W : ℕ → Bool) where
  pub holds-left : (b : ℕ) (xs ys : List Gate) → Holds W b (xs ++ ys) → Holds W b xs
  holds-left b [] ys h = tt
  holds-left b (g ∷ xs) ys h = (h.0, holds-left (suc b) xs ys h.1)

  pub holds_right : (b : ℕ) (xs ys : List Gate) → Holds W b (xs ++ ys) → Holds W (b + length xs) ys
  holds_right b [] ys h = subst (λ (k : ℕ). Holds W k ys) (sym (add-zero b)) h
  holds_right b (g ∷ xs) ys h =
      let e : suc b + length xs ≡ b + suc (length xs) = omega arith in
      subst (λ (k : ℕ). Holds W k ys) e (holds_right (suc b) xs ys h.1)

  pub holds_rows : (f : ℕ → List Gate) (size b : ℕ) → ((i : ℕ) → length (f i) ≡ size) → (n : ℕ) → Holds W b (rows f n)
      → (i : ℕ) → i < n → Holds W (b + size * i) (f i)
  holds_rows f size b e zero h i l = absurd (not-suc-le-zero l)
  holds_rows f size b e (suc n) h i l = go (λ l'. holds_rows f size b e n (holds-left b (rows f n) (f n) h) i l') (dec_le n i)
    where
      go : (i < n → Holds W (b + size * i) (f i)) → Dec (n ≤ i) → Holds W (b + size * i) (f i)
      go ih (yes p) =
          let q : n ≡ i = omega arith in
          subst (λ (k : ℕ). Holds W (b + size * k) (f k)) q
          (subst (λ (k : ℕ). Holds W (b + k) (f n)) (rows-length f size e n) (holds_right b (rows f n) (f n) h))
      go ih (no p) = ih (lt_of_not-le p)

  module _ (slots : List ℕ) (e8 : length slots ≡ 8) (b : ℕ) where
    values_length : length (map W slots) ≡ 8
    values_length = length-map slots W ∙ e8

    -- r: the values of the cell's gates so far
    module _ (r : List Bool) (inv : (k : ℕ) → k < length r → wire r k ≡ W (b + k)) where
      operand-value : (x : ℕ) → x < 8 + length r → W (operand slots b x) ≡ wire (map W slots ++ r) x
      operand-value x h = go (dec_le 8 x)
        where
          go : Dec (8 ≤ x) → W (operand slots b x) ≡ wire (map W slots ++ r) x
          go (yes p) =
              let q : x ≡ length (map W slots) + (x - 8) = omega (arith, values_length) in
              rw (le-ltb x 8 p)
              (sym (inv (x - 8) (omega arith))
              ∙ sym (ap (λ (k : ℕ). wire (map W slots ++ r) k) q ∙ get_or-append-add (map W slots) r (x - 8) false))
          go (no n) =
              let l : x < 8 = lt_of_not-le n in
              let k : x < length slots = omega arith in
              rw (lt-ltb x 8 l)
              (sym (get_or-append (map W slots) r false x (omega (arith, values_length)) ∙ map_at W slots x k))

      gate_value : (g : Gate) → reads (8 + length r) g ≡ true → gives W (placed slots b g) ≡ value (map W slots ++ r) g
      gate_value (XOR x y) o =
          ap₂ (λ (p q : Bool). p ⊕ q) (operand-value x (ltb-true x _ (and_l _ _ o))) (operand-value y (ltb-true y _ (and_r (ltb x (8 + length r)) _ o)))
      gate_value (AND x y) o =
          ap₂ (λ (p q : Bool). p && q) (operand-value x (ltb-true x _ (and_l _ _ o))) (operand-value y (ltb-true y _ (and_r (ltb x (8 + length r)) _ o)))
      gate_value (INV x) o = ap not (operand-value x (ltb-true x _ o))

    cell-wire-from : (t : List Gate) (r : List Bool) → ((k : ℕ) → k < length r → wire r k ≡ W (b + k)) → ordered (8 + length r) t ≡ true
        → Holds W (b + length r) (cell slots b t) → (k : ℕ) → k < length r + length t → W (b + k) ≡ wire (wires_of (map W slots ++ r) t) (8 + k)
    unfolding wires_of ordered
    cell-wire-from [] r inv o h k l =
        let q : 8 + k ≡ length (map W slots) + k = omega (arith, values_length) in
        sym (ap (λ (j : ℕ). wire (map W slots ++ r) j) q ∙ get_or-append-add (map W slots) r k false ∙ inv k (omega arith))
    cell-wire-from (g ∷ t) r inv o h k l =
        let v : Bool = value (map W slots ++ r) g in
        let r' : List Bool = r ++ (v ∷ []) in
        let e : length r' ≡ suc (length r) = length-append r (v ∷ []) ∙ omega arith in
        let e₁ : W (b + length r) ≡ v = h.0 ∙ gate_value r inv g (and_l _ _ o) in
        let e₂ : suc (8 + length r) ≡ 8 + length r' = omega arith in
        let e₃ : suc (b + length r) ≡ b + length r' = omega arith in
        let inv' : (k : ℕ) → k < length r' → wire r' k ≡ W (b + k) = λ j lj. kept r v e₁ inv j (omega arith) in
        cell-wire-from t r' inv' (ap (λ (j : ℕ). ordered j t) (sym e₂) ∙ and_r (reads (8 + length r) g) _ o)
        (subst (λ (j : ℕ). Holds W j (cell slots b t)) e₃ h.1) k (omega arith)
        ∙ ap (λ (u : List Bool). wire (wires_of u t) (8 + k)) (sym (append_assoc (map W slots) r (v ∷ [])))
      where
        kept : (r : List Bool) (v : Bool) → W (b + length r) ≡ v → ((k : ℕ) → k < length r → wire r k ≡ W (b + k))
            → (j : ℕ) → j < suc (length r) → wire (r ++ (v ∷ [])) j ≡ W (b + j)
        kept r v e inv j l = go (dec_le (length r) j)
          where
            go : Dec (length r ≤ j) → wire (r ++ (v ∷ [])) j ≡ W (b + j)
            go (yes p) =
                let q : length r ≡ j = omega arith in
                subst (λ (k : ℕ). wire (r ++ (v ∷ [])) k ≡ W (b + k)) q (get_or-append_seam r v [] false ∙ sym e)
            go (no p) = get_or-append r (v ∷ []) false j (lt_of_not-le p) ∙ inv j (lt_of_not-le p)

    -- the wire of a placed cell's gate k
    pub cell-wire : (t : List Gate) → ordered 8 t ≡ true → Holds W b (cell slots b t) → (k : ℕ) → k < length t
        → W (b + k) ≡ wire (wires_of (map W slots) t) (8 + k)
    cell-wire t o h k l =
        cell-wire-from t [] (λ j lj. absurd (not-suc-le-zero lj)) o (subst (λ (j : ℕ). Holds W j (cell slots b t)) (sym (add-zero b)) h) k (omega arith)
        ∙ ap (λ (u : List Bool). wire (wires_of u t) (8 + k)) (append-nil (map W slots))
