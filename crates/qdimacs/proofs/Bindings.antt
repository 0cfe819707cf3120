-- The variables of one line, a number at a time: what is left of the line gives with the variables so far what the whole line gives.
use Rattle.std.specs.Prelude.{Option, Some, None}
use mathlib.Core.Path.{◌≡◌, refl, sym, ap, ap₂, ◌∙◌}
use mathlib.Core.Bool.{Bool, true, false, not, ◌||◌, cond}
use mathlib.Core.List.{List, [], ◌∷◌}
use Prim.Native.Nat.{ℕ, zero, suc, ◌+◌, ◌-◌, ◌*◌, ◌^◌, ◌≤◌, ◌<◌}
use native.Mathlib.Nat.{mul-le-mul}
use native.Mathlib.Omega.{arith}
use lib.Dec.{ltb}
use mir.Val.{bool_byte}
use borrow.Author.Tests.{lt-ltb, le-ltb, ltb-true, ltb-false, leb-false}
use Rattle.words.specs.Sets.{bit, put}
use Rattle.words.proofs.Truth.{on, or_l, or_r, taut3, byte-digit, digit_lt}
use Rattle.lexer.specs.Bytes.{is_blank}
use Rattle.lexer.specs.Pieces.{Piece, parts_from}
use Rattle.lexer.specs.Places.{part}
use Rattle.lexer.proofs.Cuts.{Found}
use Rattle.numbers.specs.Numbers.{Number, number, malformed, number_read}
use Rattle.numbers.specs.CappedNumbers.{held, number_held}
use Rattle.numbers.proofs.Decimals.{held-value, held_none}
use Rattle.header.specs.Header.{beyond}
use Rattle.header.proofs.Limits.{within}
use Rattle.qdimacs.specs.Lines.{Bound, bound_then, bound_on, some_variable}
use Rattle.qdimacs.specs.TurnsInWords.{turn_digit, improper, is_full, bound_by, line_held}
use Rattle.qdimacs.specs.Walk.{last_part}
use Rattle.qdimacs.specs.declared.Prefix.{Prefix}
use Rattle.qdimacs.specs.declared.PrefixLine.{PrefixLine}
use Rattle.qdimacs.specs.declared.PrefixLine.TheVariants.{Passed, Malformed}

-- ---- one variable more

module _ (n : ℕ) (p : Prefix) (u s : Bool) (v : ℕ) where
  -- the variables with this one
  abbrev pub with_this : Prefix
  with_this = record {
    proper = true;
    turns = p.turns + turn_digit u (v - 1) * p.unit;
    unit = 32 * p.unit;
    listed = cond (ltb (v - 1) 32) (put p.listed (v - 1)) p.listed;
  }

  pub beyond_spoils : not p.proper || beyond 1 n s v ≡ true → bound_by n p u s v ≡ improper
  beyond_spoils e = ap (λ (t : Bool). cond t improper (cond (bit p.listed (v - 1) || is_full p) improper with_this)) e

  module _ (e : not p.proper || beyond 1 n s v ≡ false) where
    within-next : bound_by n p u s v ≡ cond (bit p.listed (v - 1) || is_full p) improper with_this
    within-next = ap (λ (t : Bool). cond t improper (cond (bit p.listed (v - 1) || is_full p) improper with_this)) e

    pub again_spoils : bit p.listed (v - 1) || is_full p ≡ true → bound_by n p u s v ≡ improper
    again_spoils h = within-next ∙ ap (λ (t : Bool). cond t improper with_this) h

    pub bound_more : bit p.listed (v - 1) || is_full p ≡ false → bound_by n p u s v ≡ with_this
    bound_more h = within-next ∙ ap (λ (t : Bool). cond t improper with_this) h

-- what is not full has room for a digit
room : (unit turns d : ℕ) → (unit ≤ 2 ^ 55) → (turns < unit) → (d < 512) → (d * unit < 2 ^ 64) × (turns + d * unit < 2 ^ 64)
room unit turns d hu ht hd =
    let h : d * unit ≤ 511 * 2 ^ 55 = mul-le-mul (let e : d ≤ 511 = omega arith in e) hu in
    (omega (arith, h), omega (arith, h))

module _ (n : ℕ) (p : Prefix) (u s : Bool) (v : ℕ) (few : n < 256) (e : not p.proper || beyond 1 n s v ≡ false) where
  pub some-value : (1 ≤ v) × (v ≤ n)
  some-value = within 1 n s v (or_r (not p.proper) (beyond 1 n s v) e)

  -- the digit that code makes
  abbrev pub made : ℕ
  made = bool_byte u + 2 * (v - 1)

  pub made-small : made < 512
  made-small = omega (arith, ap (λ (x : ℕ). x + 2 * (v - 1)) (byte-digit u), digit_lt u, some-value.1)

  module _ (h : bit p.listed (v - 1) || is_full p ≡ false) where
    unit-small : p.unit ≤ 2 ^ 55
    unit-small = ltb-false (2 ^ 55) p.unit (or_l (ltb (2 ^ 55) p.unit) _ (or_r (bit p.listed (v - 1)) (is_full p) h))

    turns-small : p.turns < p.unit
    turns-small = leb-false p.unit p.turns (or_r (ltb (2 ^ 55) p.unit) _ (or_r (bit p.listed (v - 1)) (is_full p) h))

    pub made_fits : (made * p.unit < 2 ^ 64) × (p.turns + made * p.unit < 2 ^ 64)
    made_fits = room p.unit p.turns made unit-small turns-small made-small

    pub unit_fits : 32 * p.unit < 2 ^ 64
    unit_fits = omega (arith, unit-small)

    pub made-is : (w : ℕ) → w ≡ cond (ltb (v - 1) 32) (put p.listed (v - 1)) p.listed
        → ◌≡◌ {A = Prefix} (record { proper = true; turns = p.turns + made * p.unit; unit = 32 * p.unit; listed = w }) (bound_by n p u s v)
    made-is w q =
        ap₂ (λ (d l : ℕ). record { proper = true; turns = p.turns + (d + 2 * (v - 1)) * p.unit; unit = 32 * p.unit; listed = l }) (byte-digit u) q
        ∙ sym (bound_more n p u s v e h)

-- a value held up to 1000 binds as the exact one does
last-true : (a b c : Bool) → a || (b || (c || true)) ≡ true
last-true a b c = taut3 (λ a b c. a || (b || (c || true))) refl a b c

pub bound_held : (n : ℕ) (p : Prefix) (u s : Bool) (x v : ℕ) → n < 256 → v ≡ held x → bound_by n p u s v ≡ bound_by n p u s x
bound_held n p u s x v h e =
    on (ltb 1000 x)
    (λ t. let l : 1000 < x = ltb-true 1000 x t in
    beyond_spoils n p u s v (rw (lt-ltb n v (omega (arith, e))) (last-true (not p.proper) s (ltb v 1)))
    ∙ sym (beyond_spoils n p u s x (rw (lt-ltb n x (omega arith)) (last-true (not p.proper) s (ltb x 1)))))
    (λ t. let q : v ≡ x = omega (arith, e, ltb-false 1000 x t) in ap (bound_by n p u s) q)

-- ---- the numbers of a line

-- what is left of a line, with the variables so far; `told` says whether there are any
abbrev pub rest_held : ℕ → Bool → Prefix → Option (List Bound) → PrefixLine
rest_held n told p o = line_held n p (cond told o (some_variable o))

number_more : (n : ℕ) (told : Bool) (p : Prefix) (u s : Bool) (w : ℕ) (ps : List Piece) (o : Option (List Bound))
    → rest_held n told p (bound_then u (number s (suc w)) ps o) ≡ rest_held n true (bound_by n p u s (suc w)) o
number_more n true p u s w ps None = refl
number_more n true p u s w ps (Some bs) = refl
number_more n false p u s w ps None = refl
number_more n false p u s w ps (Some bs) = refl

number-last : (n : ℕ) (told : Bool) (p : Prefix) (u s : Bool) (ps : List Piece) (o : Option (List Bound))
    → rest_held n told p (bound_then u (number s zero) ps o) ≡ cond (last_part told ps) (Passed p) Malformed
number-last n true p u s [] o = refl
number-last n true p u s (q ∷ qs) o = refl
number-last n false p u s [] o = refl
number-last n false p u s (q ∷ qs) o = refl

none-held : (n : ℕ) (told : Bool) (p : Prefix) → rest_held n told p None ≡ Malformed
none-held n true p = refl
none-held n false p = refl

-- The numbers from `start` on give what those from `at` on give with the variables so far.
pub record Listing (line : List ℕ) (start n : ℕ) (u : Bool) (before : Prefix) (p : Prefix) (at : ℕ) : Type 0 where
  pub later : start ≤ at
  pub whole : line_held n before (some_variable (bound_on u (parts_from is_blank line start)))
      ≡ rest_held n (ltb start at) p (bound_on u (parts_from is_blank line at))

pub listing : (line : List ℕ) (start n : ℕ) (u : Bool) (p : Prefix) → Listing line start n u p p start
listing line start n u p = record { later = omega arith; whole = rw (le-ltb start start (omega arith)) refl }

module _ {line : List ℕ} {start n : ℕ} {u : Bool} {before p : Prefix} {at : ℕ} (l : Listing line start n u before p at) where
  abbrev given-line : PrefixLine
  given-line = line_held n before (some_variable (bound_on u (parts_from is_blank line start)))

  pub no_number : parts_from is_blank line at ≡ [] → Malformed ≡ given-line
  unfolding bound_on
  no_number e = sym (l.whole ∙ rw e (none-held n (ltb start at) p))

  module _ (from to : ℕ) (f : Found is_blank line at from to) where
    by_number : (x : Number) → number_read (part from to line) ≡ x
        → given-line ≡ rest_held n (ltb start at) p (bound_then u x (parts_from is_blank line to) (bound_on u (parts_from is_blank line to)))
    unfolding bound_on
    by_number x e =
        l.whole
        ∙ ap (λ (ps : List Piece). rest_held n (ltb start at) p (bound_on u ps)) f.pieces
        ∙ ap (λ (y : Number). rest_held n (ltb start at) p (bound_then u y (parts_from is_blank line to) (bound_on u (parts_from is_blank line to)))) e

    pub no_such_number : number_held (number_read (part from to line)) ≡ None → Malformed ≡ given-line
    no_such_number e = sym (by_number malformed (held_none (number_read (part from to line)) e) ∙ none-held n (ltb start at) p)

    module _ (minus : Bool) (v : ℕ) (e : number_held (number_read (part from to line)) ≡ Some (minus, v)) where
      pub closes : v ≡ 0 → given-line ≡ cond (last_part (ltb start at) (parts_from is_blank line to)) (Passed p) Malformed
      closes z =
          let x = held-value (number_read (part from to line)) minus v e in
          let q : x.0 ≡ 0 = omega (arith, x.2) in
          by_number (number minus zero) (x.1 ∙ ap (number minus) q)
          ∙ number-last n (ltb start at) p u minus (parts_from is_blank line to) (bound_on u (parts_from is_blank line to))

      pub goes_on : n < 256 → (v ≡ 0 → ⊥) → (q : Prefix) → q ≡ bound_by n p u minus v → Listing line start n u before q to
      goes_on h z q b =
          let x = held-value (number_read (part from to line)) minus v e in
          let i : ℕ = x.0 - 1 in
          let w : x.0 ≡ suc i = omega (arith, x.2, z) in
          let told : ltb start to ≡ true = lt-ltb start to (omega (arith, l.later, f.past, f.filled)) in
          record {
            later = omega (arith, l.later, f.past, f.filled);
            whole = by_number (number minus (suc i)) (x.1 ∙ ap (number minus) w)
                ∙ number_more n (ltb start at) p u minus i (parts_from is_blank line to) (bound_on u (parts_from is_blank line to))
                ∙ ap₂ (λ (t : Bool) (y : Prefix). rest_held n t y (bound_on u (parts_from is_blank line to))) (sym told)
                (ap (bound_by n p u minus) (sym w) ∙ sym (bound_held n p u minus x.0 v h (sym x.2)) ∙ sym b);
          }
