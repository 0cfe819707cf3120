-- Gates run in the buffer itself: the table's entries hold by computation at each kind and pair of bytes, and a turn of `Run` on plain bytes needs no more.
use mathlib.Core.Path.{◌≡◌, refl, ap, ap₂, sym, ◌∙◌}
use mathlib.Core.Bool.{Bool, true, false}
use mathlib.Core.List.{List, [], ◌∷◌, ◌++◌, map-append}
use Prim.Native.Nat.{ℕ, ◌+◌, ◌*◌, ◌/◌, ◌≤◌, ◌<◌}
use native.Mathlib.Omega.{arith}
use borrow.Author.Tests.{eqb-true}
use lib.Dec.{eqb}
use lib.ListN.{length, get_or, take, drop, set, length-map, get_or-map}
use lib.Seq.{take-append_seam, drop-append-add, drop-drop}
use Rattle.std.specs.Simd.{first_chunks}
use Rattle.words.specs.Booleans.{digit}
use Rattle.words.specs.Sets.{all}
use Rattle.words.proofs.Truth.{digit_lt}
use Rattle.gates.specs.Gates.{Gate, wire, value, wires_of}
use Rattle.gates.specs.Memory.{gate_of, gates_of, drives, accepted, bytes_of, bits_of, over}
use Rattle.gates.proofs.Judging.{drives-below}
use Rattle.gates.proofs.InMemory.{accepted-length}
use Rattle.two_pass.specs.Table.{table}
use Rattle.two_pass.proofs.Running.{Run, value_read, at_each, read-front, next, done, values_length}

-- ---- the table

-- entry 2 × (2k + a) + b is the value of a gate of kind k on wires a and b
abbrev shows : ℕ → ℕ → ℕ → Bool
shows k a b = eqb (get_or table (2 * (2 * k + a) + b) 0) (digit (value (bits_of (a ∷ (b ∷ []))) (gate_of k 0 1)))

pub table_at : (k a b : ℕ) → k < 3 → a < 2 → b < 2
    → get_or table (2 * (2 * k + a) + b) 0 ≡ digit (value (bits_of (a ∷ (b ∷ []))) (gate_of k 0 1))
unfolding all
table_at k a b hk ha hb = eqb-true _ _ (at_each shows 2 refl k a b hk ha hb)

-- ---- turns, on bytes as they are

module _ {s : List Bool} {g w₀ : List ℕ} {n : ℕ} {w : List ℕ} {i : ℕ} (r : Run bytes_of s g w₀ n w i) (room : n + length g / 3 ≤ length w₀)
    (upto : i ≤ length g / 3) where
  read : (a : ℕ) → a < n + i → get_or w a 0 ≡ digit (wire r.values a)
  read a h = read-front r room upto a h ∙ get_or-map digit r.values a false

  pub read-bit : (a : ℕ) → a < n + i → get_or w a 0 < 2
  read-bit a h = omega (arith, read a h, digit_lt (wire r.values a))

  -- all gates of accepted words ran
  pub all-ran : accepted n g ≡ true → length g / 3 ≤ i → w ≡ over (bytes_of (wires_of s (gates_of g))) w₀
  all-ran e h = done r room upto (omega (arith, accepted-length n g e))

-- a gate that may drive its wire ran
pub again : {s : List Bool} {g w₀ : List ℕ} {n : ℕ} {w : List ℕ} {i : ℕ} (r : Run bytes_of s g w₀ n w i) → n + length g / 3 ≤ length w₀
    → {cs : List (List ℕ)} → cs ≡ first_chunks 3 (length g / 3) g → i < length g / 3
    → let word = get_or (get_or cs i []) in
    (v : ℕ) → drives (n + i) (word 0 0) (word 1 0) (word 2 0) ≡ true
    → v ≡ digit (value (bits_of (get_or w (word 1 0) 0 ∷ (get_or w (word 2 0) 0 ∷ []))) (gate_of (word 0 0) 0 1))
    → Run bytes_of s g w₀ n (set w (n + i) v) (i + 1)
again {g = g} {n = n} {i = i} r room {cs = cs} chunks h v d e =
    let word = get_or (get_or cs i []) in
    let k = word 0 0 in
    let a = word 1 0 in
    let b = word 2 0 in
    let below = drives-below (n + i) k a b d in
    let upto : i ≤ length g / 3 = omega arith in
    let u : Bool = value r.values (gate_of k a b) in
    let e' : v ≡ digit u = e ∙ ap digit (value_read r.values k a b _ _ (read r room upto a below.1) (read r room upto b below.2)) in
    next r room chunks h v d (map-append digit r.values (u ∷ []) ∙ ap (λ (x : ℕ). bytes_of r.values ++ (x ∷ [])) (sym e'))

-- ---- the inputs, copied first

-- a buffer to whose front the inputs were copied
module _ (s w w₁ : List ℕ) (e : w₁ ≡ s ++ drop (length s) w) where
  pub copied : take (length s) w₁ ≡ s
  copied = ap (λ (l : List ℕ). take (length s) l) e ∙ take-append_seam s (drop (length s) w)

  -- what the gates' values are written over is what was there before
  pub written : (gs : List Gate) (w₂ : List ℕ) → w₂ ≡ over (bytes_of (wires_of (bits_of (take (length s) w₁)) gs)) w₁
      → w₂ ≡ over (bytes_of (wires_of (bits_of s) gs)) w
  written gs w₂ f =
      let F = bytes_of (wires_of (bits_of s) gs) in
      let q : length F ≡ length s + length gs = length-map (wires_of (bits_of s) gs) digit ∙ values_length s gs in
      f
      ∙ ap (λ (l : List ℕ). over (bytes_of (wires_of (bits_of l) gs)) w₁) copied
      ∙ ap (λ (l : List ℕ). F ++ l)
      (ap₂ (λ (k : ℕ) (l : List ℕ). drop k l) q e
      ∙ drop-append-add s (drop (length s) w) (length gs)
      ∙ drop-drop (length gs) (length s) w
      ∙ ap (λ (k : ℕ). drop k w) (sym q))
