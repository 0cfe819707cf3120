-- The trial's bytes, 2 more than a wire's value but wire 0's value alone: their laws by cases of the list, the table's by computation, and a turn of `Run` by
-- both.
use mathlib.Core.Path.{◌≡◌, refl, ap, ap₂, sym, ◌∙◌}
use mathlib.Core.Bool.{Bool, true, false, ◌&&◌, cond, false≢true}
use mathlib.Core.List.{List, [], ◌∷◌, ◌++◌, map, map-append}
use Prim.Native.Nat.{ℕ, zero, suc, ◌+◌, ◌*◌, ◌/◌, ◌%◌, ◌≤◌, ◌<◌}
use native.Mathlib.Nat.{zero-add, not-suc-le-zero, le_of_suc-le-suc, add-zero}
use native.Mathlib.Numerals.{add-one}
use native.Mathlib.Omega.{arith}
use borrow.Author.Tests.{lt-ltb, le-ltb, ne_eqb, eqb-true}
use lib.Dec.{eqb, ltb}
use lib.ListN.{length, get_or, take, drop, set, length-map, length-drop, get_or-map}
use lib.Seq.{take_at, length-take-le, paste-suc}
use Rattle.words.specs.Booleans.{digit, imp}
use Rattle.words.specs.Sets.{all}
use Rattle.words.proofs.Truth.{mp, digit_lt, on}
use Rattle.gates.specs.Gates.{wire, value, wires_of}
use Rattle.gates.specs.Memory.{gate_of, gates_of, drives, accepted, bytes_of, bits_of, bits, over}
use Rattle.std.specs.Simd.{first_chunks}
use Rattle.gates.proofs.Judging.{accepted_few}
use Rattle.gates.proofs.InMemory.{accepted-length, bytes_of_bits_of}
use Rattle.two_pass.proofs.Running.{Run, value_read, at_each, read-front, front_length, next, values_length, judged-at, done}
use Rattle.evaluator.specs.TrialBytes.{trial_bytes, wire_bytes}

-- what wire i's byte has beyond its value
abbrev mark : ℕ → ℕ
mark zero = 0
mark (suc i) = 2

mark_le : (i : ℕ) → mark i ≤ 2
mark_le zero = omega arith
mark_le (suc i) = omega arith

parity : (p : Bool) (i : ℕ) → (digit p + mark i) % 2 ≡ digit p
parity true zero = refl
parity true (suc i) = refl
parity false zero = refl
parity false (suc i) = refl

-- ---- the bytes

trial_length : (v : List Bool) → length (trial_bytes v) ≡ length v
trial_length [] = refl
trial_length (x ∷ v) = ap suc (length-map v (λ y. digit y + 2))

trial_at : (v : List Bool) (i : ℕ) → i < length v → get_or (trial_bytes v) i 0 ≡ digit (wire v i) + mark i
trial_at [] i h = absurd (not-suc-le-zero h)
trial_at (x ∷ v) zero h = sym (add-zero (digit x))
trial_at (x ∷ v) (suc i) h = go v i (le_of_suc-le-suc h)
  where
    go : (v : List Bool) (i : ℕ) → i < length v → get_or (map (λ y. digit y + 2) v) i 0 ≡ digit (wire v i) + 2
    go [] i h = absurd (not-suc-le-zero h)
    go (x ∷ v) zero h = refl
    go (x ∷ v) (suc i) h = go v i (le_of_suc-le-suc h)

trial_append : (v : List Bool) (x : Bool) → 0 < length v → trial_bytes (v ++ (x ∷ [])) ≡ trial_bytes v ++ ((digit x + 2) ∷ [])
trial_append [] x h = absurd (not-suc-le-zero h)
trial_append (y ∷ v) x h = ap (λ (l : List ℕ). digit y ∷ l) (map-append (λ z. digit z + 2) v (x ∷ []))

trial_stored : (v : List Bool) → wire_bytes (trial_bytes v) ≡ bytes_of v
trial_stored [] = refl
trial_stored (x ∷ v) = ap₂ (λ (y : ℕ) (l : List ℕ). y ∷ l) (ap (λ (y : ℕ). y % 2) (sym (add-zero (digit x))) ∙ parity x 0) (go v)
  where
    go : (v : List Bool) → wire_bytes (map (λ y. digit y + 2) v) ≡ bytes_of v
    go [] = refl
    go (x ∷ v) = ap₂ (λ (y : ℕ) (l : List ℕ). y ∷ l) (parity x 1) (go v)

-- ---- judging

-- kind and held second wire as one number: where both words name earlier wires, it says all that is left to judge
trial_kinds : (m k a b : ℕ) (p : Bool) → a < m → b < m → ltb (4 * k + (digit p + mark b)) 10 ≡ drives m k a b
trial_kinds m zero a b p h l = rw (lt-ltb a m h, lt-ltb b m l) (lt-ltb (4 * 0 + (digit p + mark b)) 10 (omega (arith, digit_lt p, mark_le b)))
trial_kinds m (suc zero) a b p h l = rw (lt-ltb a m h, lt-ltb b m l) (lt-ltb (4 * 1 + (digit p + mark b)) 10 (omega (arith, digit_lt p, mark_le b)))
trial_kinds m (suc (suc zero)) a zero p h l = rw (lt-ltb a m h) (lt-ltb (4 * 2 + (digit p + 0)) 10 (omega (arith, digit_lt p)))
trial_kinds m (suc (suc zero)) a (suc b) p h l = rw (lt-ltb a m h, ne_eqb (suc b) 0 (λ e. omega arith)) (le-ltb (4 * 2 + (digit p + 2)) 10 (omega arith))
trial_kinds m (suc (suc (suc k))) a b p h l =
    rw (le-ltb (suc (suc (suc k))) 3 (omega arith)) (le-ltb (4 * suc (suc (suc k)) + (digit p + mark b)) 10 (omega arith))

-- the trial's table: at 4 × (4k + y) + x, 2 more than the value of a gate of kind k on wires held as x and y
abbrev table : List ℕ
table =
    2 ∷ (3 ∷ (2 ∷ (3 ∷ (3 ∷ (2 ∷ (3 ∷ (2 ∷ (2 ∷ (3 ∷ (2 ∷ (3 ∷ (3 ∷ (2 ∷ (3 ∷ (2
    ∷ (2 ∷ (2 ∷ (2 ∷ (2 ∷ (2 ∷ (3 ∷ (2 ∷ (3 ∷ (2 ∷ (2 ∷ (2 ∷ (2 ∷ (2 ∷ (3 ∷ (2 ∷ (3
    ∷ (3 ∷ (2 ∷ (3 ∷ (2 ∷ (3 ∷ (2 ∷ (3 ∷ (2 ∷ [])))))))))))))))))))))))))))))))))))))))

abbrev shows : ℕ → ℕ → ℕ → Bool
shows k x y =
    imp (ltb (4 * k + y) 10) (eqb (get_or table (4 * (4 * k + y) + x) 0) (digit (value (bits_of (x % 2 ∷ (y % 2 ∷ []))) (gate_of k 0 1)) + 2))

table_at : (k x y : ℕ) → x < 4 → y < 4 → 4 * k + y < 10
    → get_or table (4 * (4 * k + y) + x) 0 ≡ digit (value (bits_of (x % 2 ∷ (y % 2 ∷ []))) (gate_of k 0 1)) + 2
unfolding all
table_at k x y hx hy h = eqb-true _ _ (mp _ _ (at_each shows 4 refl k x y (omega arith) hx hy) (lt-ltb _ 10 h))

-- ---- the trial's turns

module _ {s : List Bool} {g w₀ : List ℕ} {n : ℕ} {w : List ℕ} {i : ℕ} (r : Run trial_bytes s g w₀ n w i) (room : n + length g / 3 ≤ length w₀)
    (upto : i ≤ length g / 3) where
  values-many : n + i ≡ length r.values
  values-many = front_length r room upto ∙ trial_length r.values

  read : (a : ℕ) → a < n + i → get_or w a 0 ≡ digit (wire r.values a) + mark a
  read a h = read-front r room upto a h ∙ trial_at r.values a (omega (arith, values-many))

  pub trial_read : (a : ℕ) → a < n + i → get_or w a 0 < 4
  trial_read a h = omega (arith, read a h, digit_lt (wire r.values a), mark_le a)

  read-parity : (a : ℕ) → a < n + i → get_or w a 0 % 2 ≡ digit (wire r.values a)
  read-parity a h = ap (λ (x : ℕ). x % 2) (read a h) ∙ parity (wire r.values a) a

  -- one number says whether a gate that names earlier wires may drive its wire
  pub trial_drives : (k a b : ℕ) → a < n + i → b < n + i → ltb (4 * k + get_or w b 0) 10 ≡ drives (n + i) k a b
  trial_drives k a b h l = ap (λ (y : ℕ). ltb (4 * k + y) 10) (read b l) ∙ trial_kinds (n + i) k a b (wire r.values b) h l

  -- all gates ran: the words were accepted where no word is left over, and then the buffer is filled
  pub ended : (left : ℕ) → length g / 3 ≤ i → left ≡ length g % 3
      → let F = over (trial_bytes (wires_of s (gates_of g))) w₀ in
      (eqb left 0 ≡ accepted n g) × (cond (eqb left 0) w [] ≡ cond (eqb left 0) F [])
  ended left h e =
      let few : length (drop (3 * i) g) ≡ left = omega (arith, length-drop (3 * i) g) in (
        sym (ap (λ (k : ℕ). eqb k 0) few) ∙ sym (accepted_few _ _ (omega arith)) ∙ r.judged,
        on (eqb left 0) (λ t. rw t (done r room upto (omega (arith, eqb-true left 0 t)))) (λ t. rw t refl),
      )

module _ {s : List Bool} {g w₀ : List ℕ} {n : ℕ} {w : List ℕ} {i : ℕ} (r : Run trial_bytes s g w₀ n w i) (room : n + length g / 3 ≤ length w₀)
    {cs : List (List ℕ)} (chunks : cs ≡ first_chunks 3 (length g / 3) g) (h : i < length g / 3) where
  abbrev word : ℕ → ℕ
  word j = get_or (get_or cs i []) j 0

  -- a gate that may not drive its wire makes the whole refused
  pub refused : drives (n + i) (word 0) (word 1) (word 2) ≡ false → false ≡ accepted n g
  refused d = sym (judged-at r room chunks h ∙ ap (λ (t : Bool). t && accepted (n + (i + 1)) (drop (3 * (i + 1)) g)) d)

  pub trial_next : let k = word 0 in
      let a = word 1 in
      let b = word 2 in
      a < n + i → b < n + i → 4 * k + get_or w b 0 < 10
      → Run trial_bytes s g w₀ n (set w (n + i) (get_or table (4 * (4 * k + get_or w b 0) + get_or w a 0) 0)) (i + 1)
  trial_next ha hb hu =
      let k = word 0 in
      let a = word 1 in
      let b = word 2 in
      let upto : i ≤ length g / 3 = omega arith in
      let u : Bool = value r.values (gate_of k a b) in
      let e : get_or table (4 * (4 * k + get_or w b 0) + get_or w a 0) 0 ≡ digit u + 2 =
      table_at k (get_or w a 0) (get_or w b 0) (trial_read r room upto a ha) (trial_read r room upto b hb) hu
      ∙ ap (λ (t : Bool). digit t + 2) (value_read r.values k a b _ _ (read-parity r room upto a ha) (read-parity r room upto b hb)) in
      next r room chunks h _ (sym (trial_drives r room upto k a b ha hb) ∙ lt-ltb _ 10 hu)
      (trial_append r.values u (omega (arith, values-many r room upto)) ∙ ap (λ (x : ℕ). trial_bytes r.values ++ (x ∷ [])) (sym e))

-- ---- in and out

-- a list written over a buffer, a byte a turn
pub next-byte : (d l w : List ℕ) (i v : ℕ) → w ≡ take i l ++ drop i d → v ≡ get_or l i 0 → i < length d → i < length l
    → set w i v ≡ take (i + 1) l ++ drop (i + 1) d
next-byte d l w i v e f hd hl =
    ap₂ (λ (x : List ℕ) (y : ℕ). set x i y) e f
    ∙ rw (zero-add i, zero-add (suc i)) at (paste-suc d 0 l i 0 (omega arith) hl)
    ∙ ap (λ (k : ℕ). take k l ++ drop k d) (sym (add-one i))

module _ (s : List ℕ) (b : bits s ≡ true) where
  byte_at : (i : ℕ) → digit (wire (bits_of s) i) ≡ get_or s i 0
  byte_at i = sym (get_or-map digit (bits_of s) i false) ∙ ap (λ (l : List ℕ). get_or l i 0) (bytes_of_bits_of s b)

  pub input_bit : (i : ℕ) → get_or s i 0 < 2
  input_bit i = omega (arith, byte_at i, digit_lt (wire (bits_of s) i))

  pub trial_input : (i : ℕ) → 0 < i → i < length s → get_or s i 0 + 2 ≡ get_or (trial_bytes (bits_of s)) i 0
  trial_input zero p h = absurd (not-suc-le-zero p)
  trial_input (suc i) p h =
      sym (trial_at (bits_of s) (suc i) (omega (arith, length-map s (λ x. eqb x 1))) ∙ ap (λ (x : ℕ). x + 2) (byte_at (suc i)))

pub inputs-length : (s : List ℕ) → length (trial_bytes (bits_of s)) ≡ length s
inputs-length s = trial_length (bits_of s) ∙ length-map s (λ x. eqb x 1)

-- wire 0's byte, loaded
pub first_input : (s t w : List ℕ) (x : ℕ) → s ≡ x ∷ t → bits s ≡ true → 0 < length w
    → set w 0 x ≡ take 1 (trial_bytes (bits_of s)) ++ drop 1 (set w 0 x)
first_input s t [] x e b h = absurd (not-suc-le-zero h)
first_input s t (y ∷ w) x e b h =
    let b₁ : bits (x ∷ t) ≡ true = ap bits (sym e) ∙ b in
    rw e (ap (λ (v : ℕ). v ∷ w) (sym (byte_at (x ∷ t) b₁ 0)))

-- each input after the first is 0 or 1
pub rest-bit : (s t : List ℕ) (x : ℕ) → s ≡ x ∷ t → bits s ≡ true → (i : ℕ) → get_or t i 0 < 2
rest-bit s t x e b i = let same : get_or s (suc i) 0 ≡ get_or t i 0 = ap (λ (l : List ℕ). get_or l (suc i) 0) e in omega (arith, same, input_bit s b (suc i))

-- the byte of one input more, loaded
pub next_input : (s t d w : List ℕ) (x i : ℕ) → s ≡ x ∷ t → bits s ≡ true → i < length t → length s ≤ length d
    → let l = trial_bytes (bits_of s) in
    w ≡ take (1 + i) l ++ drop (1 + i) d → set w (1 + i) (get_or t i 0 + 2) ≡ take (1 + (i + 1)) l ++ drop (1 + (i + 1)) d
next_input s t d w x i e b h room f =
    let one : 1 + i ≡ suc i = omega arith in
    let next : (1 + i) + 1 ≡ 1 + (i + 1) = omega arith in
    let many : length s ≡ suc (length t) = ap length e in
    let same : get_or t i 0 ≡ get_or s (1 + i) 0 = rw (e, one) refl in
    let l = trial_bytes (bits_of s) in
    next-byte d l w (1 + i) _ f (ap (λ (y : ℕ). y + 2) same ∙ trial_input s b (1 + i) (omega arith) (omega arith)) (omega arith)
    (omega (arith, inputs-length s))
    ∙ ap (λ (k : ℕ). take k l ++ drop k d) next

-- bytes of the front, stored
module _ (v : List ℕ) (n : ℕ) (h : n ≤ length v) where
  pub stored-length : length (wire_bytes (take n v)) ≡ n
  stored-length = length-map (take n v) (λ x. x % 2) ∙ length-take-le n v h

-- what is at the front of loaded bytes
pub loaded : (s w w₁ : List ℕ) → w₁ ≡ over (trial_bytes (bits_of s)) w → take (length s) w₁ ≡ trial_bytes (bits_of s)
loaded s w w₁ e =
    ap (λ (l : List ℕ). take (length s) l) e
    ∙ take_at (trial_bytes (bits_of s)) (drop (length (trial_bytes (bits_of s))) w) (length s) (inputs-length s)

-- what a trial filled, its front stored elsewhere
pub stored : (s g : List ℕ) → accepted (length s) g ≡ true → (w₁ v : List ℕ) → v ≡ over (trial_bytes (wires_of (bits_of s) (gates_of g))) w₁
    → (x w₂ : List ℕ) → w₂ ≡ over (wire_bytes (take (length s + length g / 3) v)) x → w₂ ≡ over (bytes_of (wires_of (bits_of s) (gates_of g))) x
stored s g a w₁ v h x w₂ f =
    let all-values : List Bool = wires_of (bits_of s) (gates_of g) in
    let q : length (trial_bytes all-values) ≡ length s + length g / 3 =
    omega (arith, accepted-length (length s) g a, values_length s (gates_of g), trial_length all-values) in
    let t : wire_bytes (take (length s + length g / 3) v) ≡ bytes_of all-values =
    ap (λ (l : List ℕ). wire_bytes (take (length s + length g / 3) l)) h
    ∙ ap wire_bytes (take_at (trial_bytes all-values) (drop (length (trial_bytes all-values)) w₁) (length s + length g / 3) q)
    ∙ trial_stored all-values in
    f ∙ ap (λ (l : List ℕ). over l x) t

-- a list that is given only where the test holds
pub given_so : (t : Bool) (x y : List ℕ) → t ≡ true → cond t x [] ≡ cond t y [] → x ≡ y
given_so true x y e h = h
given_so false x y e h = absurd (false≢true e)
