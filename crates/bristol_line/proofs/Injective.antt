-- A line determines what it says. No field holds a space or an LF, so a line parts into its fields, and a number is determined by its digits.
use mathlib.Core.Path.{◌≡◌, refl, sym, ap, ap₂, ◌∙◌}
use mathlib.Core.Bool.{Bool, true, false, ◌&&◌, cond, false≢true}
use mathlib.Core.List.{List, [], ◌∷◌, ◌++◌, append_assoc}
use Prim.Native.Nat.{ℕ, ◌*◌, ◌^◌, ◌≤◌, ◌<◌}
use native.Mathlib.Nat.{mul-le-mul, mul-le-mul_left, eq_of_mul-eq-mul_left}
use native.Mathlib.Omega.{arith}
use borrow.Author.Tests.{ltb-true, ltb-false, eqb-true}
use lib.Dec.{eqb, ltb}
use lib.ListN.{get_or}
use Rattle.words.proofs.Truth.{and_l, and_r, and_i, on}
use Rattle.lexer.specs.Spelling.{bytes}
use Rattle.text.specs.Decimal.{decimal}
use Rattle.text.proofs.Decimals.{decimal_injective}
use Rattle.text.proofs.Fields.{plain, decimal-plain, field_split}
use Rattle.dimensions.specs.declared.Dimensions.{Dimensions}
use Rattle.dimensions.specs.Sizes.{dimensions, state_wire_count}
use Rattle.dimensions.proofs.Limits.{Within}
use Rattle.dimensions.proofs.Products.{product}
use Rattle.gates.specs.Gates.{Gate}
use Rattle.gates.specs.Gates.Gate.{XOR, AND, INV}
use Rattle.gates.proofs.Circuits.{reads}
use Rattle.bristol_line.specs.Lines.{line, size_line, three_values, four_values, input_fields, input_line, output_line, gate_fields, gate_line}

-- ---- a line's fields

-- one or more fields without a space or an LF
abbrev plains : List (List ℕ) → Bool
plains [] = false
plains (f ∷ []) = plain f
plains (f ∷ g ∷ fs) = plain f && plains (g ∷ fs)

-- lines of plain fields that start the same bytes have the same fields
line-split : (fs gs : List (List ℕ)) (s t : List ℕ) → plains fs ≡ true → plains gs ≡ true → line fs ++ s ≡ line gs ++ t → (fs ≡ gs) × (s ≡ t)
line-split [] gs s t h k e = absurd (false≢true h)
line-split (f ∷ fs) [] s t h k e = absurd (false≢true k)
line-split (f ∷ []) (g ∷ []) s t h k e =
    let p = field_split f g 10 10 s t h k refl refl (sym (append_assoc f (10 ∷ []) s) ∙ e ∙ append_assoc g (10 ∷ []) t) in
    (ap (λ (x : List ℕ). x ∷ []) p.0, p.2)
line-split (f ∷ []) (g ∷ g' ∷ gs) s t h k e =
    let p = field_split f g 10 32 s (line (g' ∷ gs) ++ t) h (and_l (plain g) _ k) refl refl
    (sym (append_assoc f (10 ∷ []) s) ∙ e ∙ append_assoc g (32 ∷ line (g' ∷ gs)) t) in
    absurd (let z : ◌≡◌ {A = ℕ} 10 32 = p.1 in omega arith)
line-split (f ∷ f' ∷ fs) (g ∷ []) s t h k e =
    let p = field_split f g 32 10 (line (f' ∷ fs) ++ s) t (and_l (plain f) _ h) k refl refl (sym (append_assoc f (32 ∷ line (f' ∷ fs)) s)
    ∙ e ∙ append_assoc g (10 ∷ []) t) in
    absurd (let z : ◌≡◌ {A = ℕ} 32 10 = p.1 in omega arith)
line-split (f ∷ f' ∷ fs) (g ∷ g' ∷ gs) s t h k e =
    let p = field_split f g 32 32 (line (f' ∷ fs) ++ s) (line (g' ∷ gs) ++ t) (and_l (plain f) _ h) (and_l (plain g) _ k) refl refl
    (sym (append_assoc f (32 ∷ line (f' ∷ fs)) s) ∙ e ∙ append_assoc g (32 ∷ line (g' ∷ gs)) t) in
    let q = line-split (f' ∷ fs) (g' ∷ gs) s t (and_r (plain f) _ h) (and_r (plain g) _ k) p.2 in
    (ap₂ (λ (x : List ℕ) (l : List (List ℕ)). x ∷ l) p.0 q.0, q.1)

-- ---- gates

gate_plain : (wire : ℕ) (g : Gate) → plains (gate_fields wire g) ≡ true
gate_plain wire (XOR a b) = and_i (decimal-plain a) (and_i (decimal-plain b) (and_i (decimal-plain wire) refl))
gate_plain wire (AND a b) = and_i (decimal-plain a) (and_i (decimal-plain b) (and_i (decimal-plain wire) refl))
gate_plain wire (INV a) = and_i (decimal-plain a) (and_i (decimal-plain wire) refl)

-- equal fields have the same first byte at each place
differ : (fs gs : List (List ℕ)) (i : ℕ) → fs ≡ gs → get_or (get_or fs i []) 0 0 ≡ get_or (get_or gs i []) 0 0
differ fs gs i e = ap (λ (l : List (List ℕ)). get_or (get_or l i []) 0 0) e

module _ (wire m : ℕ) (h : m ≤ 2 ^ 64) where
  -- a wire that is read has a number of 64 bits
  same-wire : (a b : ℕ) → ltb a m ≡ true → ltb b m ≡ true → decimal a ≡ decimal b → a ≡ b
  same-wire a b p q e = decimal_injective a b (omega (arith, ltb-true a m p)) (omega (arith, ltb-true b m q)) e

  fields_injective : (f g : Gate) → reads m f ≡ true → reads m g ≡ true → gate_fields wire f ≡ gate_fields wire g → f ≡ g
  fields_injective (XOR a b) (XOR x y) p q e =
      ap₂ XOR (same-wire a x (and_l _ _ p) (and_l _ _ q) cc) (same-wire b y (and_r (ltb a m) _ p) (and_r (ltb x m) _ q) cc)
  fields_injective (AND a b) (AND x y) p q e =
      ap₂ AND (same-wire a x (and_l _ _ p) (and_l _ _ q) cc) (same-wire b y (and_r (ltb a m) _ p) (and_r (ltb x m) _ q) cc)
  fields_injective (INV a) (INV x) p q e = ap INV (same-wire a x p q cc)
  fields_injective (XOR a b) (AND x y) p q e = absurd (let z : ◌≡◌ {A = ℕ} 88 65 = differ _ _ 5 e in omega arith)
  fields_injective (AND a b) (XOR x y) p q e = absurd (let z : ◌≡◌ {A = ℕ} 65 88 = differ _ _ 5 e in omega arith)
  fields_injective (XOR a b) (INV x) p q e = absurd (let z : ◌≡◌ {A = ℕ} 50 49 = differ _ _ 0 e in omega arith)
  fields_injective (AND a b) (INV x) p q e = absurd (let z : ◌≡◌ {A = ℕ} 50 49 = differ _ _ 0 e in omega arith)
  fields_injective (INV a) (XOR x y) p q e = absurd (let z : ◌≡◌ {A = ℕ} 49 50 = differ _ _ 0 e in omega arith)
  fields_injective (INV a) (AND x y) p q e = absurd (let z : ◌≡◌ {A = ℕ} 49 50 = differ _ _ 0 e in omega arith)

  -- gates that read 64-bit wires and drive one wire, whose lines start the same bytes, are equal, and so is what follows the lines
  pub gate_split : (f g : Gate) (s t : List ℕ) → reads m f ≡ true → reads m g ≡ true → gate_line wire f ++ s ≡ gate_line wire g ++ t → (f ≡ g) × (s ≡ t)
  gate_split f g s t p q e =
      let parts = line-split (gate_fields wire f) (gate_fields wire g) s t (gate_plain wire f) (gate_plain wire g) e in
      (fields_injective f g p q parts.0, parts.1)

-- a gate's line is not empty
pub gate_some : (wire : ℕ) (g : Gate) (t : List ℕ) → gate_line wire g ++ t ≡ [] → ⊥
gate_some wire (XOR a b) t e = let z : ◌≡◌ {A = ℕ} 50 0 = ap (λ (l : List ℕ). get_or l 0 0) e in omega arith
gate_some wire (AND a b) t e = let z : ◌≡◌ {A = ℕ} 50 0 = ap (λ (l : List ℕ). get_or l 0 0) e in omega arith
gate_some wire (INV a) t e = let z : ◌≡◌ {A = ℕ} 49 0 = ap (λ (l : List ℕ). get_or l 0 0) e in omega arith

-- ---- header lines

abbrev size_fields : ℕ → ℕ → List (List ℕ)
size_fields gates wires = decimal gates ∷ decimal wires ∷ []

abbrev output_fields : Dimensions → List (List ℕ)
output_fields d = bytes "2" ∷ decimal (state_wire_count d.n) ∷ bytes "1" ∷ []

size-plain : (gates wires : ℕ) → plains (size_fields gates wires) ≡ true
size-plain gates wires = and_i (decimal-plain gates) (decimal-plain wires)

input_plain : (d : Dimensions) → plains (input_fields d) ≡ true
input_plain d = go (eqb d.public 0)
  where
    go : (b : Bool) → plains (cond b (three_values d) (four_values d)) ≡ true
    go true = and_i (decimal-plain _) (and_i (decimal-plain _) (decimal-plain _))
    go false = and_i (decimal-plain _) (and_i (decimal-plain _) (and_i (decimal-plain _) (decimal-plain _)))

output_plain : (d : Dimensions) → plains (output_fields d) ≡ true
output_plain d = and_i (decimal-plain (state_wire_count d.n)) refl

-- lines that start the same bytes, and what follows
pub size-split : (gates wires gates' wires' : ℕ) (s t : List ℕ) → size_line gates wires ++ s ≡ size_line gates' wires' ++ t → s ≡ t
size-split gates wires gates' wires' s t e =
    (line-split (size_fields gates wires) (size_fields gates' wires') s t (size-plain gates wires) (size-plain gates' wires') e).1

-- second header lines that start the same bytes have the same fields, and what follows them is equal
pub input_split : (d e : Dimensions) (s t : List ℕ) → input_line d ++ s ≡ input_line e ++ t → (input_fields d ≡ input_fields e) × (s ≡ t)
input_split d e s t h = line-split (input_fields d) (input_fields e) s t (input_plain d) (input_plain e) h

-- what follows third header lines that start the same bytes is equal
pub output_split : (d e : Dimensions) (s t : List ℕ) → output_line d ++ s ≡ output_line e ++ t → s ≡ t
output_split d e s t h = (line-split (output_fields d) (output_fields e) s t (output_plain d) (output_plain e) h).1

-- ---- the dimensions

-- more variables have more wires
state-less : (n m : ℕ) → n < m → state_wire_count n ≡ state_wire_count m → ⊥
state-less n m h e = let squares : 3 * n * n ≤ 3 * m * m = mul-le-mul (mul-le-mul_left 3 (omega arith)) (omega arith) in omega arith

state_injective : (n m : ℕ) → state_wire_count n ≡ state_wire_count m → n ≡ m
state_injective n m e =
    on (ltb n m) (λ p. absurd (state-less n m (ltb-true n m p) e))
    (λ p. on (ltb m n) (λ q. absurd (state-less m n (ltb-true m n q) (sym e))) (λ q. omega (arith, ltb-false n m p, ltb-false m n q)))

rows-below : (n rows : ℕ) → n ≤ 32 → rows ≤ 128 → 2 * n * rows < 2 ^ 64
rows-below n rows h k = omega (arith, product (2 * n) rows (omega arith) (omega arith))

state-below : (n : ℕ) → n ≤ 32 → state_wire_count n < 2 ^ 64
state-below n h = omega (arith, product (3 * n) n (omega arith) (omega arith))

-- two tables of dimensions with the same n
same_rows : (n m a b : ℕ) → n ≡ m → 1 ≤ n → n ≤ 32 → a ≤ 128 → b ≤ 128 → decimal (2 * n * a) ≡ decimal (2 * m * b) → a ≡ b
same_rows n m a b e least most ha hb h =
    let h' : decimal (2 * n * a) ≡ decimal (2 * n * b) = h ∙ ap (λ (k : ℕ). decimal (2 * k * b)) (sym e) in
    eq_of_mul-eq-mul_left (2 * n) (omega arith) a b
    (decimal_injective (2 * n * a) (2 * n * b) (rows-below n a most ha) (rows-below n b most hb) h')

module _ (d e : Dimensions) (wd : Within d) (we : Within e) where
  -- the widths that both lines have, and the public rows
  same_widths : decimal (state_wire_count d.n) ≡ decimal (state_wire_count e.n) → decimal (2 * d.n * d.left) ≡ decimal (2 * e.n * e.left)
      → decimal (2 * d.n * d.right) ≡ decimal (2 * e.n * e.right) → (d.n ≡ e.n → d.public ≡ e.public) → d ≡ e
  same_widths s l r p =
      let n : d.n ≡ e.n = state_injective d.n e.n
      (decimal_injective (state_wire_count d.n) (state_wire_count e.n) (state-below d.n wd.n-most) (state-below e.n we.n-most) s) in
      let left : d.left ≡ e.left = same_rows d.n e.n d.left e.left n wd.n_least wd.n-most wd.left-most we.left-most l in
      let right : d.right ≡ e.right = same_rows d.n e.n d.right e.right n wd.n_least wd.n-most wd.right_most we.right_most r in
      let public : d.public ≡ e.public = p n in
      λ i. dimensions (n i) (left i) (right i) (public i)

  -- three values or four: the first field tells
  pub dimensions_injective : input_fields d ≡ input_fields e → d ≡ e
  dimensions_injective h = go (eqb d.public 0) (eqb e.public 0) refl refl h
    where
      go : (a b : Bool) → eqb d.public 0 ≡ a → eqb e.public 0 ≡ b → cond a (three_values d) (four_values d) ≡ cond b (three_values e) (four_values e) → d ≡ e
      go true true p q h = same_widths (cc) (cc) (cc) (λ n. eqb-true d.public 0 p ∙ sym (eqb-true e.public 0 q))
      go false false p q h =
          same_widths (cc) (cc) (cc) (λ n. same_rows d.n e.n d.public e.public n wd.n_least wd.n-most wd.public_most we.public_most cc)
      go true false p q h = absurd (let z : ◌≡◌ {A = ℕ} 51 52 = differ _ _ 0 h in omega arith)
      go false true p q h = absurd (let z : ◌≡◌ {A = ℕ} 52 51 = differ _ _ 0 h in omega arith)
