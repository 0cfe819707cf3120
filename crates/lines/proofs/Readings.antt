-- What a place found says of the text: the field there, and that what is left of the line starts at the place after it.
use Rattle.std.specs.Prelude.{Option, Some, None, Ok, Err}
use mathlib.Core.Path.{◌≡◌, refl, sym, ap, ◌∙◌}
use mathlib.Core.Bool.{cond}
use mathlib.Core.List.{List, [], ◌∷◌}
use Prim.Native.Nat.{ℕ, ◌+◌, ◌-◌, ◌^◌, ◌≤◌, ◌<◌}
use native.Mathlib.Omega.{arith}
use lib.Dec.{eqb, ltb, leb}
use lib.ListN.{length, take, drop, length-drop, drop_of_length-le}
use lib.Seq.{drop-drop}
use borrow.Author.Tests.{ltb-true, ltb-false}
use Rattle.words.proofs.Truth.{on}
use Rattle.lexer.specs.Bytes.{run}
use Rattle.numbers.specs.Numbers.{is_digit, digits_after}
use Rattle.refusals.specs.declared.Refusal.TheVariants.{NumberLine}
use Rattle.lines.specs.Numbers.{Field, field, no_field, bounded, closed_field, field_of, short_line, budget_of, dimension_line_of}
use Rattle.lines.specs.Places.{end_of_field, field_end_at, budget_from, first_from, second_from, third_from, fourth_from}

bounded-rest : (d : Option ℕ) (text rest : List ℕ) (v : ℕ) → bounded d text ≡ field v rest → text ≡ rest
bounded-rest None text rest v e = cc
bounded-rest (Some w) text rest v e = on (ltb w (2 ^ 64)) (λ q. let f = rw q at e in cc) (λ q. let f = rw q at e in cc)

-- a field's rest starts after the closing byte
closed-rest : (closing : ℕ) (ds text rest : List ℕ) (v : ℕ) → closed_field closing ds text ≡ field v rest → drop 1 text ≡ rest
closed-rest closing [] text rest v e = cc
closed-rest closing (d ∷ ds) [] rest v e = cc
closed-rest closing (d ∷ ds) (b ∷ bs) rest v e =
    on (eqb b closing) (λ q. bounded-rest (digits_after 0 (d ∷ ds)) bs rest v (rw q at e)) (λ q. let f = rw q at e in cc)

bounded-below : (d : Option ℕ) (text rest : List ℕ) (v : ℕ) → bounded d text ≡ field v rest → v < 2 ^ 64
bounded-below None text rest v e = let z : ◌≡◌ {A = ℕ} 0 1 = cc in omega arith
bounded-below (Some w) text rest v e =
    on (ltb w (2 ^ 64))
    (λ q. let f = rw q at e in let same : w ≡ v = cc in omega (arith, ltb-true w (2 ^ 64) q))
    (λ q. let f = rw q at e in let z : ◌≡◌ {A = ℕ} 0 1 = cc in omega arith)

closed-below : (closing : ℕ) (ds text rest : List ℕ) (v : ℕ) → closed_field closing ds text ≡ field v rest → v < 2 ^ 64
closed-below closing [] text rest v e = let z : ◌≡◌ {A = ℕ} 0 1 = cc in omega arith
closed-below closing (d ∷ ds) [] rest v e = let z : ◌≡◌ {A = ℕ} 0 1 = cc in omega arith
closed-below closing (d ∷ ds) (b ∷ bs) rest v e =
    on (eqb b closing)
    (λ q. bounded-below (digits_after 0 (d ∷ ds)) bs rest v (rw q at e))
    (λ q. let f = rw q at e in let z : ◌≡◌ {A = ℕ} 0 1 = cc in omega arith)

-- a field's value has 64 bits
field_below : (closing : ℕ) (text rest : List ℕ) (v : ℕ) → field_of closing text ≡ field v rest → v < 2 ^ 64
unfolding field_of
field_below closing text rest v e = closed-below closing (take (run is_digit text) text) (drop (run is_digit text) text) rest v e

-- what is left of a line begins as far from its end as it is long
left_behind : (line : List ℕ) (k : ℕ) → drop (length line - length (drop k line)) line ≡ drop k line
left_behind line k =
    on (ltb k (length line))
    (λ q.
    let same : length line - length (drop k line) ≡ k = omega (arith, length-drop k line, ltb-true k (length line) q) in
    ap (λ (j : ℕ). drop j line) same)
    (λ q.
    let past : length line ≤ k = ltb-false k (length line) q in
    let far : length line ≤ length line - length (drop k line) = omega (arith, length-drop k line) in
    drop_of_length-le line far ∙ sym (drop_of_length-le line past))

-- a field of a line from `at` on, with the place after it
pub record Found (line : List ℕ) (at closing v end : ℕ) : Type 0 where
  pub reads : field_of closing (drop at line) ≡ field v (drop end line)
  pub behind : length line - length (drop end line) ≡ end

-- the rest of a field of a line is the end of the line
rest_in : (line : List ℕ) (at closing v : ℕ) (rest : List ℕ) → field_of closing (drop at line) ≡ field v rest → drop (length line - length rest) line ≡ rest
unfolding field_of
rest_in line at closing v rest e =
    let digits = run is_digit (drop at line) in
    let here : drop (at + digits + 1) line ≡ rest =
    sym (drop-drop 1 (at + digits) line) ∙ ap (drop 1) (sym (drop-drop digits at line))
    ∙ closed-rest closing (take digits (drop at line)) (drop digits (drop at line)) rest v e in
    ap (λ (r : List ℕ). drop (length line - length r) line) (sym here) ∙ left_behind line (at + digits + 1) ∙ here

pub found : (line : List ℕ) (at closing v end : ℕ) → field_end_at line at closing ≡ Some (v, end) → Found line at closing v end
found line at closing v end p = go (field_of closing (drop at line)) refl p
  where
    go : (f : Field) → field_of closing (drop at line) ≡ f → end_of_field line f ≡ Some (v, end) → Found line at closing v end
    go (field w rest) e q =
        let both : ◌≡◌ {A = ℕ × ℕ} (w, length line - length rest) (v, end) = cc in
        let place : length line - length rest ≡ end = ap (λ (x : ℕ × ℕ). x.1) both in
        let value : w ≡ v = ap (λ (x : ℕ × ℕ). x.0) both in
        let there : drop end line ≡ rest = ap (λ (j : ℕ). drop j line) (sym place) ∙ rest_in line at closing w rest e in
        record {
          reads = e ∙ ap (λ (x : ℕ). field x rest) value ∙ ap (field v) (sym there);
          behind = ap (λ (r : List ℕ). length line - length r) there ∙ place;
        }
    go no_field e q = record { reads = cc; behind = cc }

pub lost : (line : List ℕ) (at closing : ℕ) → field_end_at line at closing ≡ None → field_of closing (drop at line) ≡ no_field
lost line at closing p = go (field_of closing (drop at line)) p
  where
    go : (f : Field) → end_of_field line f ≡ None → f ≡ no_field
    go (field w rest) q = cc
    go no_field q = refl

-- ---- the budget line

pub no_budget : (input : List ℕ) → field_end_at input 0 10 ≡ None → budget_of input ≡ Err NumberLine
no_budget input p = ap (budget_from input) (lost input 0 10 p)

pub one_budget : (input : List ℕ) (v end : ℕ) → field_end_at input 0 10 ≡ Some (v, end) → budget_of input
    ≡ cond (leb end 100) (Ok v) (Err NumberLine)
one_budget input v end p =
    let f = found input 0 10 v end p in
    ap (budget_from input) f.reads ∙ ap (λ (k : ℕ). cond (leb k 100) (Ok v) (Err NumberLine)) f.behind

-- a budget has 64 bits
pub budget_below : (input : List ℕ) (v : ℕ) → budget_of input ≡ Ok v → v < 2 ^ 64
budget_below input v e = go (field_of 10 input) refl e
  where
    go : (f : Field) → field_of 10 input ≡ f → budget_from input f ≡ Ok v → v < 2 ^ 64
    go no_field h k = let z : ◌≡◌ {A = ℕ} 0 1 = cc in omega arith
    go (field w rest) h k =
        on (short_line input rest)
        (λ q. let f = rw q at k in let same : w ≡ v = cc in omega (arith, field_below 10 input rest w h))
        (λ q. let f = rw q at k in let z : ◌≡◌ {A = ℕ} 0 1 = cc in omega arith)

-- ---- the dimension line

pub no_first : (input : List ℕ) → field_end_at input 0 32 ≡ None → dimension_line_of input ≡ Err NumberLine
no_first input p = ap (first_from input) (lost input 0 32 p)

pub one-first : (input : List ℕ) (n second : ℕ) → field_end_at input 0 32 ≡ Some (n, second) → dimension_line_of input ≡ second_from input n
    (field_of 32 (drop second input))
one-first input n second p = ap (first_from input) (found input 0 32 n second p).reads

pub one-second : (input : List ℕ) (n second left third : ℕ) → field_end_at input second 32 ≡ Some (left, third)
    → second_from input n (field_of 32 (drop second input)) ≡ third_from input n left (field_of 32 (drop third input))
one-second input n second left third p = ap (second_from input n) (found input second 32 left third p).reads

pub one_third : (input : List ℕ) (n left third right fourth : ℕ) → field_end_at input third 32 ≡ Some (right, fourth)
    → third_from input n left (field_of 32 (drop third input)) ≡ fourth_from input n left right (field_of 10 (drop fourth input))
one_third input n left third right fourth p = ap (third_from input n left) (found input third 32 right fourth p).reads

pub one_fourth : (input : List ℕ) (n left right fourth public end : ℕ) → field_end_at input fourth 10 ≡ Some (public, end)
    → fourth_from input n left right (field_of 10 (drop fourth input)) ≡ cond (leb end 100) (Ok (n, left, right, public)) (Err NumberLine)
one_fourth input n left right fourth public end p =
    let f = found input fourth 10 public end p in
    ap (fourth_from input n left right) f.reads ∙ ap (λ (k : ℕ). cond (leb k 100) (Ok (n, left, right, public)) (Err NumberLine))
    f.behind
