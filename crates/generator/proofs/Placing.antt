-- What placing a cell's gates keeps from turn to turn: the rest of the template, stored now, gives what the whole gives, stored at first.
use mathlib.Core.Path.{◌≡◌, refl, ap, ap₂, sym, ◌∙◌}
use mathlib.Core.Bool.{true, ◌&&◌, cond}
use mathlib.Core.List.{List, [], ◌∷◌, ◌++◌}
use Prim.Native.Nat.{ℕ, zero, suc, ◌+◌, ◌*◌, ◌/◌, ◌%◌, ◌≤◌, ◌<◌}
use native.Mathlib.Nat.{not-suc-le-zero, le_of_suc-le-suc, mul-le-mul, mul-le-mul_left}
use native.Mathlib.Nat.{add-zero}
use native.Mathlib.Numerals.{add-one, add-two, add-three}
use native.Mathlib.Omega.{arith}
use borrow.Author.Tests.{ltb-true}
use lib.Dec.{eqb, ltb}
use lib.ListN.{length, get_or, drop, set, length-set, drop_of_length-le}
use lib.Seq.{drop-cons, sets}
use Rattle.words.proofs.Truth.{and_l, and_r}
use Rattle.words.proofs.Stores.{sets_append}
use Rattle.gates.specs.Gates.{Gate}
use Rattle.gates.specs.Memory.{gate_words, words_of, gate_of}
use Rattle.gates.proofs.InMemory.{words_append, words-length}
use Rattle.netlist.specs.Templates.{sum}
use Rattle.netlist.specs.Arrays.{operand, placed, cell, rows, along, none, cells, lane, array}
use Rattle.netlist.proofs.Sizes.{rows-length, cell-length, cells-length, lane-length}
use Rattle.generator.specs.Storing.{gates_in, tidy}

-- the words of a placed gate
placed-words : (s : List ℕ) (b k x y : ℕ) → k < 3
    → gate_words (placed s b (gate_of k x y)) ≡ k ∷ operand s b x ∷ cond (eqb k 2) 0 (operand s b y) ∷ []
placed-words s b zero x y h = refl
placed-words s b (suc zero) x y h = refl
placed-words s b (suc (suc zero)) x y h = refl
placed-words s b (suc (suc (suc k))) x y h = absurd (not-suc-le-zero (le_of_suc-le-suc (le_of_suc-le-suc (le_of_suc-le-suc h))))

pub record Placing (w₀ t s : List ℕ) (base p₀ : ℕ) (w : List ℕ) (i : ℕ) : Type 0 where
  pub good : tidy (drop i t) ≡ true
  pub same : sets w (p₀ + 3 * i) (words_of (cell s base (gates_in (drop i t)))) ≡ sets w₀ p₀ (words_of (cell s base (gates_in t)))
  pub size : length w ≡ length w₀

pub start : (w t s : List ℕ) (base p : ℕ) → tidy t ≡ true → Placing w t s base p w 0
start w t s base p e = record { good = e; same = rw (add-zero p) refl; size = refl }

module _ (w₀ t s : List ℕ) (base p₀ : ℕ) (w : List ℕ) (i : ℕ) (r : Placing w₀ t s base p₀ w i) (h : i < length t) where
  abbrev g : ℕ
  g = get_or t i 0

  judged : ltb (g / 65536) 3 && tidy (drop (suc i) t) ≡ true
  judged = sym (ap tidy (drop-cons t i 0 h)) ∙ r.good

  cell-words :
      words_of (cell s base (gates_in (drop i t)))
      ≡ g / 65536 ∷ operand s base (g / 256 % 256) ∷ cond (eqb (g / 65536) 2) 0 (operand s base (g % 256)) ∷ words_of (cell s base (gates_in (drop (suc i) t)))
  unfolding words_of
  cell-words =
      ap (λ (l : List ℕ). words_of (cell s base (gates_in l))) (drop-cons t i 0 h)
      ∙ ap (λ (l : List ℕ). l ++ words_of (cell s base (gates_in (drop (suc i) t))))
      (placed-words s base (g / 65536) (g / 256 % 256) (g % 256) (ltb-true _ _ (and_l (ltb (g / 65536) 3) (tidy (drop (suc i) t)) judged)))

  pub again : (a b : ℕ) → a ≡ operand s base (g / 256 % 256) → b ≡ cond (eqb (g / 65536) 2) 0 (operand s base (g % 256))
      → let p = p₀ + 3 * i in Placing w₀ t s base p₀ (set (set (set w p (g / 65536)) (p + 1) a) (p + 2) b) (i + 1)
  again a b ea eb =
      let p = p₀ + 3 * i in
      let next : p₀ + 3 * (i + 1) ≡ p + 3 = omega arith in
      record {
        good = rw (add-one i) (and_r (ltb (g / 65536) 3) (tidy (drop (suc i) t)) judged);
        same =
            rw (next, add-one i, add-one p, add-two p, add-three p, ea, eb)
            (sym (ap (λ (l : List ℕ). sets w p l) cell-words) ∙ r.same);
        size = simp length-set r.size;
      }

-- where the template ends
pub done : (w₀ t s : List ℕ) (base p₀ : ℕ) (w : List ℕ) (i : ℕ) → Placing w₀ t s base p₀ w i → length t ≤ i
    → w ≡ sets w₀ p₀ (words_of (cell s base (gates_in t)))
unfolding words_of
done w₀ t s base p₀ w i r h = rw (drop_of_length-le t h) at r.same

-- gates after gates: q is where the second ones are stored
pub followed-by : (A B : List Gate) (w₀ w w' : List ℕ) (p q : ℕ) → w ≡ sets w₀ p (words_of A) → q ≡ p + 3 * length A
    → w' ≡ sets w q (words_of B) → w' ≡ sets w₀ p (words_of (A ++ B))
followed-by A B w₀ w w' p q e h e' =
    e' ∙ ap₂ (λ (l : List ℕ) (k : ℕ). sets l k (words_of B)) e (h ∙ ap (λ (k : ℕ). p + k) (sym (words-length A)))
    ∙ sym (ap (λ (l : List ℕ). sets w₀ p l) (words_append A B) ∙ sets_append (words_of A) (words_of B) w₀ p)

-- a turn of a loop that places: one more row after those before
pub row_more : (f : ℕ → List Gate) (w₀ w w' : List ℕ) (p q i : ℕ) → w ≡ sets w₀ p (words_of (rows f i)) → q ≡ p + 3 * length (rows f i)
    → w' ≡ sets w q (words_of (f i)) → w' ≡ sets w₀ p (words_of (rows f (i + 1)))
row_more f w₀ w w' p q i e h e' = rw (add-one i) (followed-by (rows f i) (f i) w₀ w w' p q e h e')

-- one more cell
pub cells-more : (t : List Gate) (slots steps here : List ℕ) (b at size i : ℕ) (w₀ w w' : List ℕ) (p q : ℕ)
    → w ≡ sets w₀ p (words_of (cells t slots steps b i)) → size ≡ length t → q ≡ p + 3 * (size * i)
    → here ≡ along slots steps i → at ≡ b + size * i
    → w' ≡ sets w q (words_of (cell here at t)) → w' ≡ sets w₀ p (words_of (cells t slots steps b (i + 1)))
unfolding cells
cells-more t slots steps here b at size i w₀ w w' p q e s h eh ea e' =
    row_more (λ j. cell (along slots steps j) (b + length t * j) t) w₀ w w' p q i e
    (h ∙ ap (λ (k : ℕ). p + 3 * k)
    (ap (λ (k : ℕ). k * i) s ∙ sym (rows-length (λ j. cell (along slots steps j) (b + length t * j) t) (length t)
    (λ j. cell-length (along slots steps j) (b + length t * j) t) i)))
    (e' ∙ ap₂ (λ (l : List ℕ) (k : ℕ). sets w q (words_of (cell l k t))) eh (ea ∙ ap (λ (k : ℕ). b + k * i) s))

-- one more lane
pub lanes_more : (z : ℕ) (t : List Gate) (slots outer inner here : List ℕ) (b at size n i : ℕ) (w₀ w w' : List ℕ) (p q : ℕ)
    → w ≡ sets w₀ p (words_of (array z t slots outer inner b i n)) → size ≡ length t → q ≡ p + 3 * ((z + size * n) * i)
    → here ≡ along slots outer i → at ≡ b + (z + size * n) * i
    → w' ≡ sets w q (words_of (lane z t here inner at n)) → w' ≡ sets w₀ p (words_of (array z t slots outer inner b (i + 1) n))
unfolding array
lanes_more z t slots outer inner here b at size n i w₀ w w' p q e s h eh ea e' =
    row_more (λ j. lane z t (along slots outer j) inner (b + (z + length t * n) * j) n) w₀ w w' p q i e
    (h ∙ ap (λ (k : ℕ). p + 3 * k)
    (ap (λ (k : ℕ). (z + k * n) * i) s ∙ sym (rows-length (λ j. lane z t (along slots outer j) inner (b + (z + length t * n) * j) n) (z + length t * n)
    (λ j. lane-length z t (along slots outer j) inner (b + (z + length t * n) * j) n) i)))
    (e' ∙ ap₂ (λ (l : List ℕ) (k : ℕ). sets w q (words_of (lane z t l inner k n))) eh (ea ∙ ap (λ (k : ℕ). b + (z + k * n) * i) s))

-- zeros, then cells
pub lane_whole : (z : ℕ) (t : List Gate) (slots steps : List ℕ) (b n : ℕ) (w₀ w w' : List ℕ) (p q : ℕ)
    → w ≡ sets w₀ p (words_of (cells sum none none b z)) → q ≡ p + 3 * z
    → w' ≡ sets w q (words_of (cells t slots steps (b + z) n)) → w' ≡ sets w₀ p (words_of (lane z t slots steps b n))
unfolding lane
lane_whole z t slots steps b n w₀ w w' p q e h e' =
    followed-by (cells sum none none b z) (cells t slots steps (b + z) n) w₀ w w' p q e (omega (arith, cells-length sum none none b z)) e'

-- the products of a turn
pub turns : (size n i k m : ℕ) → size ≤ k → n ≤ m → i < n → (size * i + size ≤ size * n) × (size * n ≤ k * m)
turns size n i k m s h l = (omega (arith, mul-le-mul_left size l), mul-le-mul s h)
