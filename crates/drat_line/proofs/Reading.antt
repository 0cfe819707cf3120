-- What a line's bytes say, as code finds it.
use mathlib.Core.Path.{◌≡◌, refl, sym, ap, ◌∙◌}
use mathlib.Core.Bool.{Bool, true, false, ◌&&◌, ◌||◌, true≢false, false≢true}
use mathlib.Core.List.{List, [], ◌∷◌}
use Prim.Native.Nat.{ℕ, ◌-◌, ◌≤◌, ◌<◌}
use native.Mathlib.Omega.{arith}
use lib.Dec.{eqb, ltb}
use lib.ListN.{length, take, drop, get_or, length-drop}
use lib.Seq.{take_all}
use borrow.Author.Tests.{eq-eqb, ne_eqb, lt-ltb, le-ltb, ltb-true, ltb-false}
use Rattle.std.specs.Prelude.{Some, None}
use Rattle.std.specs.List.{list_any}
use Rattle.words.specs.declared.Row.{Row}
use Rattle.words.proofs.Truth.{or_l, or_r, on}
use Rattle.lexer.specs.Bytes.{is_blank, is_separator, is_line_feed, run}
use Rattle.lexer.specs.Pieces.{Piece, cut, not_empty, parts_from, tokens_from}
use Rattle.lexer.specs.Places.{run_end}
use Rattle.lexer.specs.Blanks.{further, blanked, tokens_past}
use Rattle.lexer.proofs.Runs.{end_le}
use Rattle.clauses.specs.declared.Clause.TheVariants.{Read, End, Unreadable}
use Rattle.clauses.specs.Rows.{Literal, row_of}
use Rattle.clauses.specs.Clauses.{Reading, clause, ended, unreadable, clauses}
use Rattle.clauses.specs.First.{clauses_from, first}
use Rattle.clauses.proofs.Reading.{read_is}
use Rattle.drat_line.specs.declared.Said.TheVariants.{Nothing, Malformed}
use Rattle.drat_line.specs.Lines.{is_break, has_break, one_clause, clause_in, added_by, deleted_by, is_deletion, said_of, closed_at, without_blanks, line_said}
use Rattle.drat_line.specs.TotalLines.{is_ended, line_held}

-- ---- a CR or an LF

-- some byte is one
pub some_break : (bs : List ℕ) → list_any is_break bs ≡ has_break bs
unfolding has_break
some_break [] = refl
some_break (b ∷ bs) = ap (λ (x : Bool). is_break b || x) (some_break bs)

-- bytes without an LF have no remark
no_remark : (bs : List ℕ) → has_break bs ≡ false → blanked further bs ≡ bs
unfolding has_break blanked
no_remark [] e = refl
no_remark (b ∷ bs) e =
    let l : is_line_feed b ≡ false = or_r (eqb b 13) _ (or_l (is_break b) _ e) in
    rw l (ap (λ (xs : List ℕ). b ∷ xs) (no_remark bs (or_r (is_break b) _ e)))

same_tokens : (bs : List ℕ) → has_break bs ≡ false → tokens_past bs 0 ≡ tokens_from bs 0
unfolding tokens_past parts_from
same_tokens bs e = ap (λ (l : List ℕ). not_empty (cut is_separator 0 l)) (no_remark bs e)

-- ---- the end

pub end_told : (x : Reading) → first x ≡ End → is_ended x ≡ true
end_told (clause ls s e rest) h = absurd (let z : ◌≡◌ {A = ℕ} 0 1 = cc in omega arith)
end_told ended h = refl
end_told unreadable h = absurd (let z : ◌≡◌ {A = ℕ} 0 1 = cc in omega arith)

pub read_told : (x : Reading) (r : Row) (s e : ℕ) → first x ≡ Read r s e → is_ended x ≡ false
read_told (clause ls s' e' rest) r s e h = refl
read_told ended r s e h = absurd (let z : ◌≡◌ {A = ℕ} 0 1 = cc in omega arith)
read_told unreadable r s e h = refl

pub unreadable_told : (x : Reading) → first x ≡ Unreadable → is_ended x ≡ false
unreadable_told (clause ls s e rest) h = refl
unreadable_told ended h = absurd (let z : ◌≡◌ {A = ℕ} 0 1 = cc in omega arith)
unreadable_told unreadable h = refl

-- ---- one clause

module _ (n : ℕ) (bs : List ℕ) where
  pub one_break : has_break bs ≡ true → None ≡ clause_in n bs
  unfolding clause_in
  one_break e = rw e

  module _ (sound : has_break bs ≡ false) where
    by_reading : one_clause (clauses_from n bs 0) ≡ clause_in n bs
    unfolding clause_in
    by_reading = rw sound (ap (λ (ts : List Piece). one_clause (clauses n ts)) (same_tokens bs sound))

    pub one_end : first (clauses_from n bs 0) ≡ End → None ≡ clause_in n bs
    one_end f = go (clauses_from n bs 0) f ∙ by_reading
      where
        go : (x : Reading) → first x ≡ End → None ≡ one_clause x
        go (clause ls s e rest) h = absurd (let z : ◌≡◌ {A = ℕ} 0 1 = cc in omega arith)
        go ended h = refl
        go unreadable h = refl

    pub one_unreadable : first (clauses_from n bs 0) ≡ Unreadable → None ≡ clause_in n bs
    one_unreadable f = go (clauses_from n bs 0) f ∙ by_reading
      where
        go : (x : Reading) → first x ≡ Unreadable → None ≡ one_clause x
        go (clause ls s e rest) h = absurd (let z : ◌≡◌ {A = ℕ} 0 1 = cc in omega arith)
        go ended h = refl
        go unreadable h = refl

    module _ (few : n ≤ 32) (r : Row) (s e : ℕ) (f : first (clauses_from n bs 0) ≡ Read r s e) where
      as_clause : one_clause (clause (read_is n bs few 0 r s e f).0 s e (clauses_from n bs e)) ≡ clause_in n bs
      as_clause = ap one_clause (sym (read_is n bs few 0 r s e f).1) ∙ by_reading

      go_more : (ls : List Literal) (x : Reading) → is_ended x ≡ false → None ≡ one_clause (clause ls s e x)
      go_more ls (clause ls' s' e' rest) h = refl
      go_more ls ended h = absurd (true≢false h)
      go_more ls unreadable h = refl

      go_just : (ls : List Literal) (x : Reading) → is_ended x ≡ true → Some (row_of ls) ≡ one_clause (clause ls s e x)
      go_just ls (clause ls' s' e' rest) h = absurd (false≢true h)
      go_just ls ended h = refl
      go_just ls unreadable h = absurd (false≢true h)

      pub one_more : (x : Bool) → x ≡ is_ended (clauses_from n bs e) → x ≡ false → None ≡ clause_in n bs
      one_more x q z = go_more (read_is n bs few 0 r s e f).0 (clauses_from n bs e) (sym q ∙ z) ∙ as_clause

      pub one_just : (x : Bool) → x ≡ is_ended (clauses_from n bs e) → x ≡ true → Some r ≡ clause_in n bs
      one_just x q z =
          ap Some (sym (read_is n bs few 0 r s e f).2)
          ∙ go_just (read_is n bs few 0 r s e f).0 (clauses_from n bs e) (sym q ∙ z) ∙ as_clause

-- ---- a deletion

pub short_deletion : (bs : List ℕ) → length bs < 2 → false ≡ is_deletion bs
short_deletion [] h = refl
short_deletion (b ∷ []) h = go (eqb b 100)
  where
    go : (x : Bool) → false ≡ x && false
    go true = refl
    go false = refl
short_deletion (b ∷ (c ∷ bs)) h = absurd (omega arith)

pub deletion_long : (bs : List ℕ) → is_deletion bs ≡ true → 2 ≤ length bs
deletion_long bs e =
    on (ltb (length bs) 2)
    (λ q. absurd (true≢false (sym e ∙ sym (short_deletion bs (ltb-true (length bs) 2 q)))))
    (λ q. ltb-false (length bs) 2 q)

pub said-nothing : (n : ℕ) (bs : List ℕ) → length bs ≡ 0 → Nothing ≡ said_of n bs
said-nothing n [] h = refl
said-nothing n (b ∷ bs) h = absurd (omega arith)

pub said_deleted : (n : ℕ) (bs : List ℕ) → (length bs ≡ 0 → ⊥) → is_deletion bs ≡ true → deleted_by (clause_in n (drop 2 bs)) ≡ said_of n bs
said_deleted n [] z e = absurd (z refl)
said_deleted n (b ∷ bs) z e = rw e

pub said-added : (n : ℕ) (bs : List ℕ) → (length bs ≡ 0 → ⊥) → is_deletion bs ≡ false → added_by (clause_in n bs) ≡ said_of n bs
said-added n [] z e = absurd (z refl)
said-added n (b ∷ bs) z e = rw e

-- ---- a line's end

pub closed_none : (l : List ℕ) → length l ≡ 0 → 0 ≡ closed_at l
closed_none [] h = refl
closed_none (b ∷ bs) h = absurd (omega arith)

pub closed_return : (l : List ℕ) → get_or l (length l - 1) 0 ≡ 13 → length l - 1 ≡ closed_at l
closed_return l e = rw (eq-eqb (get_or l (length l - 1) 0) 13 e)

pub closed-other : (l : List ℕ) → (get_or l (length l - 1) 0 ≡ 13 → ⊥) → length l ≡ closed_at l
closed-other l e = rw (ne_eqb (get_or l (length l - 1) 0) 13 e)

pub closed_le : (l : List ℕ) (end : ℕ) → end ≡ closed_at l → end ≤ length l
closed_le l end e =
    on (eqb (get_or l (length l - 1) 0) 13)
    (λ q. let z : end ≡ length l - 1 = rw q at e in omega arith)
    (λ q. let z : end ≡ length l = rw q at e in omega arith)

pub blanks_le : (l : List ℕ) (from : ℕ) → from ≡ run_end is_blank l 0 → from ≤ length l
blanks_le l from e = omega (arith, e, end_le is_blank l 0 (omega arith))

-- ---- a part that goes to the end

pub to_end : (i : ℕ) (l : List ℕ) → take (length l - i) (drop i l) ≡ drop i l
to_end i l = take_all (length l - i) (drop i l) (simp length-drop (omega arith))

-- ---- a whole line

-- of at most 32 variables a line says what its definition says
pub held-line : (n : ℕ) (l : List ℕ) → n ≤ 32 → line_held n l ≡ line_said n l
held-line n l h = rw (le-ltb 32 n h) refl

pub line-held : (n : ℕ) (l : List ℕ) (end from : ℕ) → n ≤ 32 → end ≡ closed_at l → from ≡ run_end is_blank (take end l) 0
    → said_of n (drop from (take end l)) ≡ line_held n l
unfolding line_said run_end
line-held n l end from few e f =
    let skipped : from ≡ run is_blank (take end l) = omega (arith, f) in
    ap (λ (i : ℕ). said_of n (drop i (take end l))) skipped
    ∙ ap (λ (i : ℕ). said_of n (without_blanks (take i l))) e
    ∙ sym (held-line n l few)

pub high_held : (n : ℕ) (l : List ℕ) → 32 < n → Malformed ≡ line_held n l
high_held n l h = rw (lt-ltb 32 n h) refl
