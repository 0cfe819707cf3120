-- Where each byte of a page is: the number's three columns, then two for each watch, spaces, and the line feed in column 80. By the parts
-- of a line, and of a page by induction on its lines.
use mathlib.Core.Path.{◌≡◌, refl, sym, ap, ap₂, ◌∙◌}
use mathlib.Core.Bool.{Bool, true, false, cond}
use mathlib.Core.List.{List, [], ◌∷◌, ◌++◌}
use Prim.Native.Nat.{ℕ, zero, suc, ◌+◌, ◌-◌, ◌*◌, ◌/◌, ◌%◌, ◌≤◌, ◌<◌}
use native.Mathlib.Nat.{add-zero, zero-add}
use native.Mathlib.Omega.{arith}
use lib.Dec.{eqb, ltb}
use lib.ListN.{length, get_or, length-append, length-replicate, get_or-replicate, get_or-append}
use lib.Seq.{get_or-append-add}
use borrow.Author.Tests.{lt-ltb, le-ltb, ltb-true, ltb-false, eq-eqb, ne_eqb}
use Rattle.words.specs.Sets.{bit}
use Rattle.words.proofs.Truth.{on}
use Rattle.text.specs.Decimal.{decimal}
use Rattle.text.proofs.Decimals.{decimal_digit, decimal_step}
use Rattle.page.specs.Page.{spaces, aligned, mark, watch_marks, pilot_line, pilot_lines, page_of}

-- ---- a place in one of two lists joined

module _ (xs ys : List ℕ) (k c : ℕ) (e : length xs ≡ k) where
  in_first : c < k → get_or (xs ++ ys) c 0 ≡ get_or xs c 0
  in_first h = get_or-append xs ys 0 c (omega arith)

  in_second : k ≤ c → get_or (xs ++ ys) c 0 ≡ get_or ys (c - k) 0
  in_second h =
      let p : c ≡ length xs + (c - k) = omega arith in
      ap (λ (x : ℕ). get_or (xs ++ ys) x 0) p ∙ get_or-append-add xs ys (c - k) 0

-- ---- the number

-- its second column
abbrev pub tens : ℕ → ℕ
tens x = cond (ltb x 10) 32 (48 + x / 10)

pub aligned-is : (x : ℕ) → x < 100 → aligned x ≡ 32 ∷ (tens x ∷ ((48 + x % 10) ∷ []))
unfolding aligned
aligned-is x h = on (ltb x 10) one two
  where
    one : ltb x 10 ≡ true → spaces (3 - length (decimal x)) ++ decimal x ≡ 32 ∷ (tens x ∷ ((48 + x % 10) ∷ []))
    one e =
        let l = ltb-true x 10 e in
        let m : x % 10 ≡ x = omega arith in
        rw (decimal_digit x l, e, m)

    two : ltb x 10 ≡ false → spaces (3 - length (decimal x)) ++ decimal x ≡ 32 ∷ (tens x ∷ ((48 + x % 10) ∷ []))
    two e =
        let l = ltb-false x 10 e in
        let d : x / 10 < 10 = omega arith in
        rw (decimal_step x l (omega arith), decimal_digit (x / 10) d, e)

module _ (x c : ℕ) (h : x < 100) where
  pub number-first : c ≡ 0 → 32 ≡ get_or (aligned x) c 0
  number-first e = sym (ap₂ (λ (l : List ℕ) (k : ℕ). get_or l k 0) (aligned-is x h) e)

  pub number-space : c ≡ 1 → x < 10 → 32 ≡ get_or (aligned x) c 0
  number-space e l = sym (ap₂ (λ (l : List ℕ) (k : ℕ). get_or l k 0) (aligned-is x h) e ∙ rw (lt-ltb x 10 l))

  pub number-tens : c ≡ 1 → 10 ≤ x → 48 + x / 10 ≡ get_or (aligned x) c 0
  number-tens e l = sym (ap₂ (λ (l : List ℕ) (k : ℕ). get_or l k 0) (aligned-is x h) e ∙ rw (le-ltb x 10 l))

  pub number-last : c ≡ 2 → 48 + x % 10 ≡ get_or (aligned x) c 0
  number-last e = sym (ap₂ (λ (l : List ℕ) (k : ℕ). get_or l k 0) (aligned-is x h) e)

-- ---- the marks

-- the byte of a mark
abbrev pub mark_byte : Bool → ℕ
mark_byte b = cond b 35 46

mark-length : (b : Bool) → length (mark b) ≡ 2
mark-length true = refl
mark-length false = refl

at_first : (b : Bool) (rest : List ℕ) → get_or (mark b ++ rest) 0 0 ≡ 32
at_first true rest = refl
at_first false rest = refl

at_second : (b : Bool) (rest : List ℕ) → get_or (mark b ++ rest) 1 0 ≡ mark_byte b
at_second true rest = refl
at_second false rest = refl

at-later : (b : Bool) (rest : List ℕ) (c : ℕ) → get_or (mark b ++ rest) (suc (suc c)) 0 ≡ get_or rest c 0
at-later true rest c = refl
at-later false rest c = refl

marks-length : (k v m : ℕ) → length (watch_marks k v m) ≡ 2 * k
unfolding watch_marks
marks-length zero v m = refl
marks-length (suc k) v m = length-append (mark (bit m v)) (watch_marks k (suc v) m) ∙ omega (arith, mark-length (bit m v), marks-length k (suc v) m)

-- a space in each even place, and after it the mark
pub marks-at : (k v m c : ℕ) → c < 2 * k → get_or (watch_marks k v m) c 0 ≡ cond (eqb (c % 2) 0) 32 (mark_byte (bit m (v + c / 2)))
unfolding watch_marks
marks-at zero v m c h = absurd (omega arith)
marks-at (suc k) v m zero h = at_first (bit m v) (watch_marks k (suc v) m)
marks-at (suc k) v m (suc zero) h = at_second (bit m v) (watch_marks k (suc v) m) ∙ ap (λ (x : ℕ). mark_byte (bit m x)) (sym (add-zero v))
marks-at (suc k) v m (suc (suc c)) h =
    at-later (bit m v) (watch_marks k (suc v) m) c
    ∙ marks-at k (suc v) m c (omega arith)
    ∙ ap₂ (λ (x y : ℕ). cond (eqb x 0) 32 (mark_byte (bit m y))) (parity c) (place v c)
  where
    parity : (c : ℕ) → c % 2 ≡ suc (suc c) % 2
    parity c = omega arith

    place : (v c : ℕ) → suc v + c / 2 ≡ v + suc (suc c) / 2
    place v c = omega arith

-- ---- a line

module _ (s m i : ℕ) (hs : s ≤ 32) (hi : i < 32) where
  number-length : length (aligned (i + 1)) ≡ 3
  number-length = ap length (aligned-is (i + 1) (omega arith))

  front_length : length (aligned (i + 1) ++ watch_marks s (i * s) m) ≡ 3 + 2 * s
  front_length = length-append (aligned (i + 1)) (watch_marks s (i * s) m) ∙ ap₂ (λ (x y : ℕ). x + y) number-length (marks-length s (i * s) m)

  -- the line without its line feed
  abbrev body : List ℕ
  body = (aligned (i + 1) ++ watch_marks s (i * s) m) ++ spaces (79 - length (aligned (i + 1) ++ watch_marks s (i * s) m))

  body-length : length body ≡ 79
  body-length =
      length-append (aligned (i + 1) ++ watch_marks s (i * s) m) (spaces (79 - length (aligned (i + 1) ++ watch_marks s (i * s) m)))
      ∙ omega (arith, front_length, length-replicate {A = ℕ} (79 - length (aligned (i + 1) ++ watch_marks s (i * s) m)) 32)

  pub line-length : length (pilot_line s m i) ≡ 80
  unfolding pilot_line
  line-length = length-append body (10 ∷ []) ∙ ap (λ (x : ℕ). x + 1) body-length

  pub line-number : (c : ℕ) → c < 3 → get_or (pilot_line s m i) c 0 ≡ get_or (aligned (i + 1)) c 0
  unfolding pilot_line
  line-number c h =
      in_first body (10 ∷ []) 79 c body-length (omega arith)
      ∙ in_first (aligned (i + 1) ++ watch_marks s (i * s) m) (spaces (79 - length (aligned (i + 1) ++ watch_marks s (i * s) m))) (3 + 2 * s) c front_length
      (omega arith)
      ∙ in_first (aligned (i + 1)) (watch_marks s (i * s) m) 3 c number-length h

  line-mark : (c : ℕ) → 3 ≤ c → c < 3 + 2 * s → get_or (pilot_line s m i) c 0 ≡ get_or (watch_marks s (i * s) m) (c - 3) 0
  unfolding pilot_line
  line-mark c l h =
      in_first body (10 ∷ []) 79 c body-length (omega arith)
      ∙ in_first (aligned (i + 1) ++ watch_marks s (i * s) m) (spaces (79 - length (aligned (i + 1) ++ watch_marks s (i * s) m))) (3 + 2 * s) c front_length h
      ∙ in_second (aligned (i + 1)) (watch_marks s (i * s) m) 3 c number-length l

  module _ (c : ℕ) (l : 3 ≤ c) (h : c < 3 + 2 * s) where
    -- before each mark a space
    pub line_even : (c - 3) % 2 ≡ 0 → get_or (pilot_line s m i) c 0 ≡ 32
    line_even e = line-mark c l h ∙ marks-at s (i * s) m (c - 3) (omega arith) ∙ rw (eq-eqb ((c - 3) % 2) 0 e)

    pub line-odd : ((c - 3) % 2 ≡ 0 → ⊥) → get_or (pilot_line s m i) c 0 ≡ mark_byte (bit m (i * s + (c - 3) / 2))
    line-odd e = line-mark c l h ∙ marks-at s (i * s) m (c - 3) (omega arith) ∙ rw (ne_eqb ((c - 3) % 2) 0 e)

  pub line-space : (c : ℕ) → 3 + 2 * s ≤ c → c < 79 → get_or (pilot_line s m i) c 0 ≡ 32
  unfolding pilot_line
  line-space c l h =
      in_first body (10 ∷ []) 79 c body-length h
      ∙ in_second (aligned (i + 1) ++ watch_marks s (i * s) m) (spaces (79 - length (aligned (i + 1) ++ watch_marks s (i * s) m))) (3 + 2 * s) c front_length l
      ∙ get_or-replicate (79 - length (aligned (i + 1) ++ watch_marks s (i * s) m)) (c - (3 + 2 * s)) 32 0 (omega (arith, front_length))

  pub line_end : get_or (pilot_line s m i) 79 0 ≡ 10
  unfolding pilot_line
  line_end = in_second body (10 ∷ []) 79 79 body-length (omega arith)

-- ---- a page

pub lines_length : (s m i k : ℕ) → s ≤ 32 → i + k ≤ 32 → length (pilot_lines s m i k) ≡ 80 * k
unfolding pilot_lines
lines_length s m i zero hs hk = refl
lines_length s m i (suc k) hs hk =
    length-append (pilot_line s m i) (pilot_lines s m (suc i) k)
    ∙ omega (arith, line-length s m i hs (omega arith), lines_length s m (suc i) k hs (omega arith))

lines_at : (s m i k q : ℕ) → s ≤ 32 → i + k ≤ 32 → q < 80 * k → get_or (pilot_lines s m i k) q 0 ≡ get_or (pilot_line s m (i + q / 80)) (q % 80) 0
unfolding pilot_lines
lines_at s m i zero q hs hk hq = absurd (omega arith)
lines_at s m i (suc k) q hs hk hq =
    on (ltb q 80)
    (λ e.
    let h = ltb-true q 80 e in
    let a : i ≡ i + q / 80 = omega arith in
    let b : q ≡ q % 80 = omega arith in
    in_first (pilot_line s m i) (pilot_lines s m (suc i) k) 80 q (line-length s m i hs (omega arith)) h
    ∙ ap₂ (λ (x y : ℕ). get_or (pilot_line s m x) y 0) a b)
    (λ e.
    let h = ltb-false q 80 e in
    let a : suc i + (q - 80) / 80 ≡ i + q / 80 = omega arith in
    let b : (q - 80) % 80 ≡ q % 80 = omega arith in
    in_second (pilot_line s m i) (pilot_lines s m (suc i) k) 80 q (line-length s m i hs (omega arith)) h
    ∙ lines_at s m (suc i) k (q - 80) hs (omega arith) (omega arith)
    ∙ ap₂ (λ (x y : ℕ). get_or (pilot_line s m x) y 0) a b)

module _ (p s m : ℕ) (hp : p ≤ 32) (hs : s ≤ 32) where
  -- "The page is thus 80 × p bytes"
  pub page-length : length (page_of p s m) ≡ 80 * p
  unfolding page_of
  page-length = lines_length s m 0 p hs (omega arith)

  pub page-at : (q : ℕ) → q < 80 * p → get_or (page_of p s m) q 0 ≡ get_or (pilot_line s m (q / 80)) (q % 80) 0
  unfolding page_of
  page-at q h = lines_at s m 0 p q hs (omega arith) h ∙ ap (λ (x : ℕ). get_or (pilot_line s m x) (q % 80) 0) (zero-add (q / 80))
