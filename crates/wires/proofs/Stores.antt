-- Wires stored in bytes from a place on: one more, and a list after a list. From `sets` of two lists in a row.
use mathlib.Core.Path.{◌≡◌, refl, sym, ap, ap₂, ◌∙◌}
use mathlib.Core.Bool.{Bool, false}
use mathlib.Core.List.{List, [], ◌∷◌, ◌++◌, map-append, append_assoc}
use Prim.Native.Nat.{ℕ, suc, ◌+◌, ◌*◌, ◌≤◌, ◌<◌}
use native.Mathlib.Nat.{zero-add, mul-zero, mul-suc, mul-le-mul_left}
use native.Mathlib.Numerals.{add-one}
use native.Mathlib.Omega.{arith}
use lib.ListN.{length, get_or, set, take, drop, length-map}
use lib.Seq.{sets, sets-eq, length-sets}
use borrow.Rule.Slice.PartMut.{put_mid}
use Rattle.std.proofs.lemmas.List.{get_or-map, ext_get_or}
use Rattle.std.proofs.lemmas.List.Edits.{paste_all}
use Rattle.std.proofs.lemmas.Slice.{put_mid-paste}
use Rattle.words.specs.Booleans.{digit}
use Rattle.words.proofs.Stores.{sets_append}
use Rattle.gates.specs.Memory.{bytes_of, over}
use Rattle.wires.specs.Layout.{upto, joined}
use Rattle.wires.proofs.Series.{length-upto, upto-at, length-joined, joined-more}

-- the bytes b with wires stored at a place
abbrev pub stored : List ℕ → ℕ → List Bool → List ℕ
stored b at w = sets b at (bytes_of w)

stored-length : (b : List ℕ) (at : ℕ) (w : List Bool) → length (stored b at w) ≡ length b
stored-length b at w = length-sets b at (bytes_of w)

stored_append : (b : List ℕ) (at : ℕ) (v w : List Bool) → stored b at (v ++ w) ≡ stored (stored b at v) (at + length v) w
stored_append b at v w =
    ap (λ (l : List ℕ). sets b at l) (map-append digit v w)
    ∙ sets_append (bytes_of v) (bytes_of w) b at
    ∙ ap (λ (k : ℕ). sets (stored b at v) (at + k) (bytes_of w)) (length-map v digit)

-- what is stored after what was stored
pub stored-then : (b : List ℕ) {c d : List ℕ} (at next : ℕ) (v w : List Bool) → c ≡ stored b at v → next ≡ at + length v
    → d ≡ stored c next w → d ≡ stored b at (v ++ w)
stored-then b at next v w e k f = f ∙ ap₂ (λ (l : List ℕ) (p : ℕ). stored l p w) e k ∙ sym (stored_append b at v w)

-- a part of n bytes that holds the digits of f 0, f 1, .., written in place
module _ (f : ℕ → Bool) (n : ℕ) where
  digits-length : length (bytes_of (upto f n)) ≡ n
  digits-length = length-map (upto f n) digit ∙ length-upto f n

  digit_at : (i : ℕ) → i < n → get_or (bytes_of (upto f n)) i 0 ≡ digit (f i)
  digit_at i h =
      let b : i < length (upto f n) = omega (arith, length-upto f n) in
      get_or-map digit (upto f n) i false 0 b ∙ ap digit (upto-at f n i h)

  pub stored-part : (b part : List ℕ) (at k : ℕ) → k ≡ n → length part ≡ n → at + n ≤ length b
      → ((i : ℕ) → i < n → get_or part i 0 ≡ digit (f i)) → put_mid at k b part ≡ stored b at (upto f n)
  stored-part b part at k e size room each =
      let same : part ≡ bytes_of (upto f n) = ext_get_or 0 part (bytes_of (upto f n)) (size ∙ sym digits-length)
      (λ i l. let h : i < n = omega arith in each i h ∙ sym (digit_at i h)) in
      put_mid-paste at k b part (bytes_of (upto f n)) n same (sym e) (sym digits-length)
      ∙ paste_all b at (bytes_of (upto f n)) n (sym digits-length)
      ∙ ap (λ (m : ℕ). take at b ++ (bytes_of (upto f n) ++ drop (at + m) b)) (sym digits-length)
      ∙ sym (sets-eq (bytes_of (upto f n)) b at (omega (arith, digits-length)) ∙ append_assoc (take at b) (bytes_of (upto f n)) _)

-- two wires
pub stored-two : (b : List ℕ) (at : ℕ) (p q : Bool) (x y : ℕ) → x ≡ digit p → y ≡ digit q → set (set b at x) (at + 1) y ≡ stored b at (p ∷ (q ∷ []))
stored-two b at p q x y e f = ap (λ (k : ℕ). set (set b at x) k y) (add-one at) ∙ ap₂ (λ (u v : ℕ). set (set b at u) (suc at) v) e f

-- what is stored after n wires
pub upto-then : (b : List ℕ) {c d : List ℕ} (at next : ℕ) (f : ℕ → Bool) (n : ℕ) (w : List Bool)
    → c ≡ stored b at (upto f n) → next ≡ at + n → d ≡ stored c next w → d ≡ stored b at (upto f n ++ w)
upto-then b at next f n w e k h = stored-then b at next (upto f n) w e (k ∙ ap (λ (m : ℕ). at + m) (sym (length-upto f n))) h

-- a loop that stores the lists f 0, f 1, .. of w wires each: i of them are stored
pub record Listed (w : ℕ) (f : ℕ → List Bool) (b₀ : List ℕ) (at : ℕ) (b : List ℕ) (next i : ℕ) : Type 0 where
  pub size : length b ≡ length b₀
  pub place : next ≡ at + w * i
  pub bytes : b ≡ stored b₀ at (joined f i)

module _ (w : ℕ) (f : ℕ → List Bool) (b₀ : List ℕ) (at : ℕ) where
  pub list-start : Listed w f b₀ at b₀ at 0
  unfolding joined
  list-start = record { size = refl; place = omega (arith, mul-zero w); bytes = refl }

  module _ (b : List ℕ) (next i : ℕ) (l : Listed w f b₀ at b next i) where
    -- there is room for one more of m
    pub list-room : (m : ℕ) → i < m → at + w * m ≤ length b₀ → next + w ≤ length b
    list-room m h r = omega (arith, l.size, l.place, mul-le-mul_left w h, mul-suc w i)

    pub list-turn : (d : List ℕ) (next' : ℕ) → ((j : ℕ) → length (f j) ≡ w) → d ≡ stored b next (f i) → next' ≡ next + w → Listed w f b₀ at d next' (i + 1)
    list-turn d next' h e p = record {
      size = ap length e ∙ stored-length b next (f i) ∙ l.size;
      place = omega (arith, p, l.place, mul-suc w i, ap (λ (k : ℕ). w * k) (add-one i));
      bytes = stored-then b₀ at next (joined f i) (f i) l.bytes (l.place ∙ ap (λ (k : ℕ). at + k) (sym (length-joined w f i h))) e
          ∙ ap (stored b₀ at) (sym (ap (joined f) (add-one i) ∙ joined-more f i));
    }

-- stored at the front
pub stored-front : (b : List ℕ) (w : List Bool) → length w ≤ length b → stored b 0 w ≡ over (bytes_of w) b
stored-front b w h =
    sets-eq (bytes_of w) b 0 (omega (arith, length-map w digit))
    ∙ ap (λ (k : ℕ). bytes_of w ++ drop k b) (zero-add (length (bytes_of w)))
