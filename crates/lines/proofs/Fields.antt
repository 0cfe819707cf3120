-- A field read digit by digit: `field_after` is a field whose first digits gave v already, and one digit more changes v alone.
use Rattle.std.specs.Prelude.{Option, Some, None}
use mathlib.Core.Path.{◌≡◌, refl, sym, ap, ◌∙◌}
use mathlib.Core.Bool.{Bool, true, false, ◌&&◌, cond}
use mathlib.Core.List.{List, [], ◌∷◌}
use Prim.Native.Nat.{ℕ, ◌+◌, ◌-◌, ◌*◌, ◌^◌, ◌≤◌, ◌<◌}
use native.Mathlib.Numerals.{add-one}
use native.Mathlib.Omega.{arith}
use lib.Dec.{eqb, ltb}
use lib.ListN.{length, get_or, take, drop, length-drop, drop_of_length-le}
use lib.Seq.{drop-cons}
use borrow.Author.Tests.{le-ltb, lt-ltb}
use Rattle.words.proofs.Truth.{on}
use Rattle.lexer.specs.Bytes.{run}
use Rattle.numbers.specs.Numbers.{is_digit, digits_after}
use Rattle.lines.specs.Numbers.{Field, field, no_field, bounded, closed_field, field_of}
use Rattle.lines.specs.Places.{end_of_field, field_end_at}

-- as `field_end`, with v read already and a digit seen
abbrev closing_after : ℕ → ℕ → List ℕ → List ℕ → Field
closing_after v closing ds [] = no_field
closing_after v closing ds (b ∷ rest) = cond (eqb b closing) (bounded (digits_after v ds) rest) no_field

-- `seen` says whether a digit was seen
abbrev field_closed_after : ℕ → Bool → ℕ → List ℕ → List ℕ → Field
field_closed_after v true closing ds rest = closing_after v closing ds rest
field_closed_after v false closing [] rest = no_field
field_closed_after v false closing (d ∷ ds) rest = closing_after v closing (d ∷ ds) rest

unfoldable pub field_after : ℕ → Bool → ℕ → List ℕ → Field
field_after v seen closing text = field_closed_after v seen closing (take (run is_digit text) text) (drop (run is_digit text) text)

field_start : (closing : ℕ) (text : List ℕ) → field_after 0 false closing text ≡ field_of closing text
unfolding field_after field_of
field_start closing text = go (take (run is_digit text) text) (drop (run is_digit text) text)
  where
    go : (ds rest : List ℕ) → field_closed_after 0 false closing ds rest ≡ closed_field closing ds rest
    go [] rest = refl
    go (d ∷ ds) [] = refl
    go (d ∷ ds) (b ∷ rest) = refl

field_end : (v : ℕ) (seen : Bool) (closing : ℕ) → field_after v seen closing [] ≡ no_field
unfolding field_after run
field_end v true closing = refl
field_end v false closing = refl

field_digit : (v : ℕ) (seen : Bool) (closing b : ℕ) (bs : List ℕ) → is_digit b ≡ true
    → field_after v seen closing (b ∷ bs) ≡ field_after (v * 10 + (b - 48)) true closing bs
unfolding field_after run digits_after
field_digit v seen closing b bs e = rw (e, run) (go seen (take (run is_digit bs) bs) (drop (run is_digit bs) bs))
  where
    one : (s : Bool) (ds rest : List ℕ) → field_closed_after v true closing (b ∷ ds) rest ≡ field_closed_after (v * 10 + (b - 48)) true closing ds rest
    one s ds [] = refl
    one s ds (c ∷ rest) = rw (e, digits_after)

    go : (s : Bool) (ds rest : List ℕ) → field_closed_after v s closing (b ∷ ds) rest ≡ field_closed_after (v * 10 + (b - 48)) true closing ds rest
    go true ds rest = one true ds rest
    go false ds rest = one false ds rest

-- a byte that is no digit closes the field or spoils it
field_closed : (v closing b : ℕ) (bs : List ℕ) → is_digit b ≡ false → field_after v true closing (b ∷ bs) ≡ cond (eqb b closing) (bounded (Some v) bs) no_field
unfolding field_after run digits_after
field_closed v closing b bs e = rw (e, run)

field_empty : (v closing b : ℕ) (bs : List ℕ) → is_digit b ≡ false → field_after v false closing (b ∷ bs) ≡ no_field
unfolding field_after run
field_empty v closing b bs e = rw (e, run)

-- no digits make a value smaller
field_over : (v closing : ℕ) (text : List ℕ) → 2 ^ 64 ≤ v → field_after v true closing text ≡ no_field
unfolding field_after digits_after
field_over v closing text h = go (take (run is_digit text) text) (drop (run is_digit text) text)
  where
    over : (v : ℕ) (ds rest : List ℕ) → 2 ^ 64 ≤ v → bounded (digits_after v ds) rest ≡ no_field
    over v [] rest h = rw (le-ltb v (2 ^ 64) h)
    over v (d ∷ ds) rest h = on (is_digit d) (λ e. rw (e, digits_after) (over (v * 10 + (d - 48)) ds rest (omega arith))) (λ e. rw (e, digits_after))

    go : (ds rest : List ℕ) → field_closed_after v true closing ds rest ≡ no_field
    go ds [] = refl
    go ds (b ∷ rest) = on (eqb b closing) (λ e. rw e (over v ds rest h)) (λ e. rw e)

-- ---- places

next-byte : (line : List ℕ) (i : ℕ) → i < length line → drop i line ≡ get_or line i 0 ∷ drop (i + 1) line
next-byte line i h = drop-cons line i 0 h ∙ ap (λ (k : ℕ). get_or line i 0 ∷ drop k line) (sym (add-one i))

place-behind : (line : List ℕ) (v i : ℕ) → i < length line → end_of_field line (field v (drop (i + 1) line)) ≡ Some (v, (i + 1))
place-behind line v i h = (let f : ℕ → Option (ℕ × ℕ) = λ b. Some (v, b) in ap f (let e = length-drop (i + 1) line in omega arith))

module _ (line : List ℕ) (at closing i v : ℕ) (low : i < length line)
    (inv : field_after v (ltb at i) closing (drop i line) ≡ field_of closing (drop at line)) where
  -- a byte that is no digit
  pub ends : is_digit (get_or line i 0) ≡ false → v < 2 ^ 64
      → cond (ltb at i && eqb (get_or line i 0) closing) (Some (v, (i + 1))) None ≡ field_end_at line at closing
  ends e h = go (ltb at i) (sym (ap (λ (l : List ℕ). field_after v (ltb at i) closing l) (next-byte line i low)) ∙ inv)
    where
      go : (seen : Bool) → field_after v seen closing (get_or line i 0 ∷ drop (i + 1) line) ≡ field_of closing (drop at line)
          → cond (seen && eqb (get_or line i 0) closing) (Some (v, (i + 1))) None ≡ field_end_at line at closing
      go false k = ap (end_of_field line) (sym (field_empty v closing (get_or line i 0) (drop (i + 1) line) e) ∙ k)
      go true k =
          on (eqb (get_or line i 0) closing)
          (λ q.
          let taken : cond (eqb (get_or line i 0) closing) (bounded (Some v) (drop (i + 1) line)) no_field ≡ field v (drop (i + 1) line) =
          rw q (rw (lt-ltb v (2 ^ 64) h)) in
          rw q (sym (place-behind line v i low) ∙ ap (end_of_field line) (sym (field_closed v closing (get_or line i 0) (drop (i + 1) line) e ∙ taken) ∙ k)))
          (λ q.
          let spoilt : cond (eqb (get_or line i 0) closing) (bounded (Some v) (drop (i + 1) line)) no_field ≡ no_field = rw q in
          rw q (ap (end_of_field line) (sym (field_closed v closing (get_or line i 0) (drop (i + 1) line) e ∙ spoilt) ∙ k)))

  -- a digit
  pub goes_on : is_digit (get_or line i 0) ≡ true → at ≤ i
      → field_after (v * 10 + (get_or line i 0 - 48)) (ltb at (i + 1)) closing (drop (i + 1) line) ≡ field_of closing (drop at line)
  goes_on e h =
      ap (λ (s : Bool). field_after (v * 10 + (get_or line i 0 - 48)) s closing (drop (i + 1) line)) (lt-ltb at (i + 1) (omega arith))
      ∙ sym (field_digit v (ltb at i) closing (get_or line i 0) (drop (i + 1) line) e)
      ∙ sym (ap (λ (l : List ℕ). field_after v (ltb at i) closing l) (next-byte line i low)) ∙ inv

  pub too_great : is_digit (get_or line i 0) ≡ true → at ≤ i → 2 ^ 64 ≤ v * 10 + (get_or line i 0 - 48) → None ≡ field_end_at line at closing
  too_great e h k =
      ap (end_of_field line)
      (sym (field_over (v * 10 + (get_or line i 0 - 48)) closing (drop (i + 1) line) k)
      ∙ sym (ap (λ (s : Bool). field_after (v * 10 + (get_or line i 0 - 48)) s closing (drop (i + 1) line)) (lt-ltb at (i + 1) (omega arith)))
      ∙ goes_on e h)

-- no byte left
pub runs-out : (line : List ℕ) (at closing i v : ℕ) → length line ≤ i → field_after v (ltb at i) closing (drop i line) ≡ field_of closing (drop at line)
    → None ≡ field_end_at line at closing
runs-out line at closing i v h inv =
    ap (end_of_field line) (sym (ap (λ (l : List ℕ). field_after v (ltb at i) closing l) (drop_of_length-le line h) ∙ field_end v (ltb at i) closing) ∙ inv)

pub starts : (line : List ℕ) (at closing : ℕ) → field_after 0 (ltb at at) closing (drop at line) ≡ field_of closing (drop at line)
starts line at closing = ap (λ (s : Bool). field_after 0 s closing (drop at line)) (le-ltb at at (omega arith)) ∙ field_start closing (drop at line)
