-- What the loops that run gates go by: the values so far, with the gates that are left, give what the whole gives; a turn adds the value of its gate.
use mathlib.Core.Path.{◌≡◌, refl, ap, ap₂, sym, ◌∙◌}
use mathlib.Core.Bool.{Bool, true, not, ◌&&◌}
use mathlib.Core.List.{List, [], ◌∷◌, ◌++◌}
use Prim.Native.Nat.{ℕ, zero, suc, ◌+◌, ◌*◌, ◌/◌, ◌≤◌, ◌<◌}
use native.Mathlib.Nat.{add-zero}
use native.Mathlib.Omega.{arith}
use lib.Dec.{eqb}
use lib.ListN.{length, get_or, take, drop, set, length-set, length-map, drop_of_length-le, take-append-drop}
use lib.Seq.{drop-drop, get_or-take, take-suc-set, drop-set-lt, length-take-le}
use Rattle.std.specs.Simd.{first_chunks}
use Rattle.words.specs.Booleans.{digit, ◌⊕◌}
use Rattle.words.specs.Sets.{all}
use Rattle.words.proofs.Truth.{digit-bit}
use Rattle.words.proofs.Upto.{all_e}
use Rattle.gates.specs.Gates.{Gate, wire, value, wires_of}
use Rattle.gates.specs.Memory.{gate_of, gates_of, drives, accepted, bits_of, over}
use Rattle.gates.proofs.Chunks.{drop-chunk}
use Rattle.gates.proofs.Judging.{accepted-chunk}
use Rattle.gates.proofs.Circuits.{wires_length}

-- a gate's value from the bytes that it reads
pub value_read : (w : List Bool) (k a b x y : ℕ) → x ≡ digit (wire w a) → y ≡ digit (wire w b)
    → value (bits_of (x ∷ (y ∷ []))) (gate_of k 0 1) ≡ value w (gate_of k a b)
value_read w k a b x y ex ey = go k (ap (λ (v : ℕ). eqb v 1) ex ∙ digit-bit (wire w a)) (ap (λ (v : ℕ). eqb v 1) ey ∙ digit-bit (wire w b))
  where
    go : (k : ℕ) → eqb x 1 ≡ wire w a → eqb y 1 ≡ wire w b → value (bits_of (x ∷ (y ∷ []))) (gate_of k 0 1) ≡ value w (gate_of k a b)
    go zero p q = ap₂ (λ (s t : Bool). s ⊕ t) p q
    go (suc zero) p q = ap₂ (λ (s t : Bool). s && t) p q
    go (suc (suc k)) p q = ap not p

-- what was computed at all kinds and pairs of bytes holds at each
pub at_each : (p : ℕ → ℕ → ℕ → Bool) (n : ℕ) → all (λ k. all (λ a. all (λ b. p k a b) n) n) 3 ≡ true
    → (k a b : ℕ) → k < 3 → a < n → b < n → p k a b ≡ true
at_each p n e k a b hk ha hb =
    all_e (λ y. p k a y) n (all_e (λ x. all (λ y. p k x y) n) n (all_e (λ j. all (λ x. all (λ y. p j x y) n) n) 3 e k hk) a ha) b hb

-- the gate of chunk i, and the rest
wires-chunk : (g : List ℕ) (cs : List (List ℕ)) (i : ℕ) → cs ≡ first_chunks 3 (length g / 3) g → i < length g / 3 → (w : List Bool)
    → let word = get_or (get_or cs i []) in
    wires_of w (gates_of (drop (3 * i) g)) ≡ wires_of (w ++ (value w (gate_of (word 0 0) (word 1 0) (word 2 0)) ∷ [])) (gates_of (drop (3 * (i + 1)) g))
unfolding wires_of gates_of
wires-chunk g cs i e h w = ap (λ (l : List ℕ). wires_of w (gates_of l)) (drop-chunk g cs i e h)

-- what a loop keeps after i gates: the values so far are at the front, in the loop's form of bytes, and with the gates that are left they
-- give all that s gives; the gates that are left are judged as all are
pub record Run (form : List Bool → List ℕ) (s : List Bool) (g w₀ : List ℕ) (n : ℕ) (w : List ℕ) (i : ℕ) : Type 0 where
  pub judged : accepted (n + i) (drop (3 * i) g) ≡ accepted n g
  pub values : List Bool
  pub front : take (n + i) w ≡ form values
  pub same : wires_of values (gates_of (drop (3 * i) g)) ≡ wires_of s (gates_of g)
  pub rest : drop (n + i) w ≡ drop (n + i) w₀
  pub size : length w ≡ length w₀

-- a loop may start where the first n bytes are the values s in its form
pub start : {form : List Bool → List ℕ} {s : List Bool} {g w : List ℕ} {n : ℕ} → take n w ≡ form s → Run form s g w n w 0
start {s = s} {g = g} {w = w} {n = n} e = record {
  judged = ap (λ (k : ℕ). accepted k g) (add-zero n);
  values = s;
  front = ap (λ (k : ℕ). take k w) (add-zero n) ∙ e;
  same = refl;
  rest = refl;
  size = refl;
}

module _ {form : List Bool → List ℕ} {s : List Bool} {g w₀ : List ℕ} {n : ℕ} {w : List ℕ} {i : ℕ} (r : Run form s g w₀ n w i)
    (room : n + length g / 3 ≤ length w₀) (upto : i ≤ length g / 3) where
  -- a byte of the buffer before the next gate's wire is that byte of the values so far, in the loop's form
  pub read-front : (a : ℕ) → a < n + i → get_or w a 0 ≡ get_or (form r.values) a 0
  read-front a h = sym (get_or-take (n + i) w a 0 h) ∙ ap (λ (l : List ℕ). get_or l a 0) r.front

  -- the values so far, in the loop's form, are n + i bytes
  pub front_length : n + i ≡ length (form r.values)
  front_length = sym (length-take-le (n + i) w (omega (arith, r.size))) ∙ ap length r.front

  -- where no gate is left, the buffer is as it was at first with the values of all wires, in the loop's form, written over its front
  pub done : length g ≤ 3 * i → w ≡ over (form (wires_of s (gates_of g))) w₀
  unfolding wires_of gates_of
  done h =
      let e : r.values ≡ wires_of s (gates_of g) =
      sym (ap (λ (l : List ℕ). wires_of r.values (gates_of l)) (drop_of_length-le g h)) ∙ r.same in
      sym (take-append-drop (n + i) w)
      ∙ ap₂ (λ (x y : List ℕ). x ++ y) r.front (r.rest ∙ ap (λ (k : ℕ). drop k w₀) front_length)
      ∙ ap (λ (l : List Bool). over (form l) w₀) e

module _ {form : List Bool → List ℕ} {s : List Bool} {g w₀ : List ℕ} {n : ℕ} {w : List ℕ} {i : ℕ} (r : Run form s g w₀ n w i)
    (room : n + length g / 3 ≤ length w₀) {cs : List (List ℕ)} (chunks : cs ≡ first_chunks 3 (length g / 3) g) (h : i < length g / 3) where
  abbrev word : ℕ → ℕ
  word j = get_or (get_or cs i []) j 0

  -- what the whole comes to, by gate i and by what is left after it
  pub judged-at : accepted n g ≡ drives (n + i) (word 0) (word 1) (word 2) && accepted (n + (i + 1)) (drop (3 * (i + 1)) g)
  judged-at = sym r.judged ∙ accepted-chunk g cs n i chunks h

  -- a gate that may drive its wire, and the byte of its value at that wire
  pub next : (v : ℕ) → drives (n + i) (word 0) (word 1) (word 2) ≡ true
      → form (r.values ++ (value r.values (gate_of (word 0) (word 1) (word 2)) ∷ [])) ≡ form r.values ++ (v ∷ [])
      → Run form s g w₀ n (set w (n + i) v) (i + 1)
  next v d e =
      let m = n + i in
      let m₁ : n + (i + 1) ≡ suc m = omega arith in
      record {
        judged = sym (judged-at ∙ ap (λ (t : Bool). t && accepted (n + (i + 1)) (drop (3 * (i + 1)) g)) d);
        values = r.values ++ (value r.values (gate_of (word 0) (word 1) (word 2)) ∷ []);
        front =
            ap (λ (j : ℕ). take j (set w m v)) m₁ ∙ take-suc-set w m v (omega (arith, r.size))
            ∙ ap (λ (l : List ℕ). l ++ (v ∷ [])) r.front ∙ sym e;
        same = sym (wires-chunk g cs i chunks h r.values) ∙ r.same;
        rest =
            drop-set-lt (n + (i + 1)) w m v (omega arith)
            ∙ ap (λ j. drop j w) (omega arith) ∙ sym (drop-drop 1 m w) ∙ ap (λ (l : List ℕ). drop 1 l) r.rest
            ∙ drop-drop 1 m w₀ ∙ ap (λ j. drop j w₀) (omega arith);
        size = length-set w m v ∙ r.size;
      }

-- a value for each input and each gate
pub values_length : (s : List ℕ) (gs : List Gate) → length (wires_of (bits_of s) gs) ≡ length s + length gs
values_length s gs = wires_length (bits_of s) gs ∙ ap (λ (k : ℕ). k + length gs) (length-map s (λ x. eqb x 1))
