-- A text's game by the places in the text as it is: the header has the same sizes, and the lines after it are the same, as without the remark lines.
use Rattle.std.specs.Prelude.{Option, Some, None, Result, Ok, Err}
use mathlib.Core.Path.{◌≡◌, refl, sym, ap, ap₂, ◌∙◌, subst}
use mathlib.Core.Bool.{Bool, true, false, ◌&&◌, cond}
use mathlib.Core.List.{List, [], ◌∷◌, ◌++◌}
use Prim.Native.Nat.{ℕ, ◌-◌, ◌*◌, ◌≤◌, ◌<◌}
use native.Mathlib.Omega.{arith}
use lib.Dec.{eqb, ltb}
use lib.ListN.{length, drop, replicate}
use borrow.Author.Tests.{lt-ltb, le-ltb}
use Rattle.words.specs.declared.Row.{Row}
use Rattle.words.proofs.Truth.{on}
use Rattle.lexer.specs.Remarks.{without_remarks}
use Rattle.lexer.specs.Pieces.{lines_from}
use Rattle.lexer.specs.Blanks.{tokens_past}
use Rattle.lexer.proofs.Kept.{bytes_of}
use Rattle.refusals.specs.Numbers.{said}
use Rattle.refusals.specs.declared.Refusal.{Refusal}
use Rattle.refusals.specs.declared.Refusal.TheVariants.{Text, GameVariables, LineVariables}
use Rattle.header.specs.declared.Header.{Header}
use Rattle.header.specs.Header.{header_of}
use Rattle.header.proofs.Kept.{header_same}
use Rattle.clauses.specs.Rows.{words_of_rows}
use Rattle.clauses.specs.Clauses.{Reading, clauses, clause_rows, complete}
use Rattle.clauses.specs.First.{clauses_from}
use Rattle.clauses.proofs.Unplaced.{rows_same, complete-same}
use Rattle.dimacs.specs.Text.{body_of, table_read}
use Rattle.dimacs.specs.Body.{body_within}
use Rattle.dimacs.specs.declared.Table.{Table}
use Rattle.qdimacs.specs.Lines.{Bound, no_token, lines_behind, prefix_of, behind_prefix, tokens_on}
use Rattle.qdimacs.specs.Text.{proper, GameText, game, no_game, game_on, game_lines, game_behind, plain_game, game_text, game_turns, most_game_variables}
use Rattle.qdimacs.specs.TurnsInWords.{turns_word, no_variable, bound_all, quantified, game_outcome, quantified_code}
use Rattle.qdimacs.specs.Walk.{LineCut, line_cut, lines_past, Walked, walked, PrefixEnds, standing_game}
use Rattle.qdimacs.specs.declared.Prefix.{Prefix}
use Rattle.qdimacs.specs.declared.Quantified.{Quantified}
use Rattle.qdimacs.proofs.Turns.{turns-length}
use Rattle.qdimacs.proofs.Lines.{kept_lines, lines_behind_lem, tokens_past_lem}
use Rattle.qdimacs.proofs.Prefixes.{walked_as, walked-is, Holds, holds-all}

-- ---- the header

-- what a header leads to in the text as it is
abbrev pub standing : List ℕ → ℕ → Result (ℕ × ℕ) Refusal → GameText
standing text end (Err r) = no_game r
standing text end (Ok (n, m)) = standing_game n m text end

module _ (text : List ℕ) where
  lines_same : lines_behind (lines_from (without_remarks text) (header_of 1 (without_remarks text)).end) ≡ lines_past text (header_of 1 text).end
  lines_same =
      let plain = without_remarks text in
      lines_behind_lem plain (header_of 1 plain).end
      ∙ ap (λ (l : List ℕ). (line_cut no_token l).later) (header_same 1 text).rest
      ∙ ap (λ (c : LineCut). c.later) (kept_lines (drop (header_of 1 text).end text))

  by-sizes : (x : Result (ℕ × ℕ) Refusal) → game_behind (without_remarks text) (header_of 1 (without_remarks text)).end x
      ≡ standing text (header_of 1 text).end x
  by-sizes (Err r) = refl
  by-sizes (Ok (n, m)) = ap (λ (ls : List (List ℕ)). cond (ltb most_game_variables n) (no_game GameVariables) (game_lines n m ls)) lines_same

  as_it_stands : plain_game (without_remarks text) ≡ standing text (header_of 1 text).end (header_of 1 text).sizes
  as_it_stands =
      ap (game_behind (without_remarks text) (header_of 1 (without_remarks text)).end) (header_same 1 text).sizes ∙ by-sizes (header_of 1 text).sizes

  -- a text of more than 65536 bytes is refused with 5
  pub overlong : 65536 < length text → game_text text ≡ no_game Text
  unfolding game_text
  overlong h = rw (lt-ltb 65536 (length text) h)

  -- any other text has its header's refusal, or the game after the header in the text as it is
  pub by_header : length text ≤ 65536 → (h : Header) → h ≡ header_of 1 text → (x : Result (ℕ × ℕ) Refusal) → h.sizes ≡ x
      → game_text text ≡ standing text h.end x
  unfolding game_text
  by_header short h e x q =
      rw (le-ltb 65536 (length text) short)
      (as_it_stands ∙ ap (λ (y : Header). standing text y.end y.sizes) (sym e) ∙ ap (standing text h.end) q)

-- what is read of a text says the number of its outcome
pub quantified-said : (g : GameText) {x : Result Quantified Refusal} → x ≡ quantified g
    → (x ≡ quantified g) × (quantified_code x ∷ [] ≡ said (game_outcome g) [])
quantified-said g e = (e, ap (λ (x : Result Quantified Refusal). quantified_code x ∷ []) e ∙ go g)
  where
    go : (g : GameText) → quantified_code (quantified g) ∷ [] ≡ said (game_outcome g) []
    go (game rows turns) = refl
    go (no_game r) = refl

-- ---- after it

module _ (n m : ℕ) (text : List ℕ) (end : ℕ) where
  pub too_many : 12 < n → standing_game n m text end ≡ no_game GameVariables
  too_many h = rw (lt-ltb 12 n h)

  module _ (few : n ≤ 12) where
    by_lines : standing_game n m text end ≡ game_lines n m (lines_past text end)
    by_lines = ap (λ (t : Bool). cond t (no_game GameVariables) (game_lines n m (lines_past text end))) (le-ltb 12 n few)

    -- a line of the prefix that is malformed
    pub broken : walked n no_variable (lines_past text end) ≡ None → standing_game n m text end ≡ no_game Text
    broken e =
        by_lines ∙ ap (λ (o : Option (List Bound)). game_on n m o (clauses n (tokens_on (behind_prefix (lines_past text end)))))
        (go (prefix_of (lines_past text end)) (sym (walked-is n no_variable (lines_past text end)) ∙ e))
      where
        go : (o : Option (List Bound)) → walked_as n no_variable o (behind_prefix (lines_past text end)) ≡ None → o ≡ None
        go None e = refl
        go (Some bs) e = absurd (let z : ◌≡◌ {A = ℕ} 0 1 = cc in omega arith)

    -- the prefix is read: its variables, as they are held, and the clauses after it
    pub record Ended (p : Prefix) (at : ℕ) : Type 0 where
      pub variables : List Bound
      pub held : Holds n p variables
      pub whole : standing_game n m text end ≡ game_on n m (Some variables) (clauses_from n text at)

    pub ended : (p : Prefix) (at : ℕ) → PrefixEnds text (walked n no_variable (lines_past text end)) (Some (p, at)) → Ended p at
    ended p at (e, first) = go (prefix_of (lines_past text end)) refl (sym (walked-is n no_variable (lines_past text end)) ∙ e)
      where
        some_same : (v w : Walked) → Some v ≡ Some w → v ≡ w
        some_same v w e = cc

        reading : (bs : List Bound) (rest : List (List ℕ)) → rest ≡ lines_past text at
            → game_on n m (Some bs) (clauses n (tokens_on rest)) ≡ game_on n m (Some bs) (clauses_from n text at)
        reading bs rest r =
            ap (λ (ls : List (List ℕ)). game_on n m (Some bs) (clauses n (tokens_on ls))) r
            ∙ (let same : bytes_of (tokens_on (lines_past text at)) ≡ bytes_of (tokens_past text at) = sym (tokens_past_lem text at first) in
            ap₂ (λ (c : Bool) (rs : List Row). cond (c && eqb (length rs) m) (cond (proper n bs) (game rs (game_turns n bs)) (no_game LineVariables))
            (no_game Text))
            (complete-same n (tokens_on (lines_past text at)) (tokens_past text at) same)
            (rows_same n (tokens_on (lines_past text at)) (tokens_past text at) same))

        go : (o : Option (List Bound)) → prefix_of (lines_past text end) ≡ o
            → walked_as n no_variable o (behind_prefix (lines_past text end)) ≡ Some (record { prefix = p; rest = lines_past text at }) → Ended p at
        go None q e = absurd (let z : ◌≡◌ {A = ℕ} 0 1 = cc in omega arith)
        go (Some bs) q e =
            let both = some_same (record { prefix = bound_all n no_variable bs; rest = behind_prefix (lines_past text end) })
            (record { prefix = p; rest = lines_past text at }) e in
            let held : bound_all n no_variable bs ≡ p = ap (λ (w : Walked). w.prefix) both in
            let rest : behind_prefix (lines_past text end) ≡ lines_past text at = ap (λ (w : Walked). w.rest) both in
            record {
              variables = bs;
              held = subst (λ (x : Prefix). Holds n x bs) held (holds-all n few bs);
              whole = by_lines
                  ∙ ap (λ (o : Option (List Bound)). game_on n m o (clauses n (tokens_on (behind_prefix (lines_past text end))))) q
                  ∙ reading bs (behind_prefix (lines_past text end)) rest;
            }

-- ---- the clauses

module _ (n m : ℕ) (hn : n ≤ 12) (hm : m ≤ 128) (x : Reading) (t : Result Table Refusal) (e : t ≡ table_read (body_within n m x)) (bs : List Bound) where
  abbrev fills : Bool
  fills = complete x && eqb (length (clause_rows x)) m

  -- the table of the clauses
  abbrev table : Table
  table = record { n = n; rows = length (clause_rows x); words = words_of_rows (clause_rows x) ++ replicate (256 - 2 * length (clause_rows x)) 0 }

  within : t ≡ table_read (body_of n m x)
  within = e ∙ ap table_read (rw (le-ltb 32 n (omega arith), le-ltb 128 m hm) refl)

  accepted : fills ≡ true → t ≡ Ok table
  accepted q = within ∙ rw q refl

  turned-back : fills ≡ false → t ≡ Err Text
  turned-back q = within ∙ rw q refl

  pub table-refused : (r : Refusal) → t ≡ Err r → game_on n m (Some bs) x ≡ no_game r
  table-refused r h =
      on fills
      (λ q. absurd (either r table (sym h ∙ accepted q)))
      (λ q. let z : r ≡ Text = same r (sym h ∙ turned-back q) in rw q (ap no_game (sym z)))
    where
      same : (r : Refusal) → ◌≡◌ {A = Result Table Refusal} (Err r) (Err Text) → r ≡ Text
      same r e = cc

      either : (r : Refusal) (y : Table) → ◌≡◌ {A = Result Table Refusal} (Err r) (Ok y) → ⊥
      either r y e = let z : ◌≡◌ {A = ℕ} 0 1 = cc in omega arith

  module _ (y : Table) (h : t ≡ Ok y) where
    filled : fills ≡ true
    filled = on fills (λ q. q) (λ q. absurd (let k : ◌≡◌ {A = Result Table Refusal} (Ok y) (Err Text) = sym h ∙ turned-back q in
        let z : ◌≡◌ {A = ℕ} 0 1 = cc in omega arith))

    table-is : y ≡ table
    table-is = same y table (sym h ∙ accepted filled)
      where
        same : (y z : Table) → ◌≡◌ {A = Result Table Refusal} (Ok y) (Ok z) → y ≡ z
        same y z e = cc

    pub table-improper : proper n bs ≡ false → game_on n m (Some bs) x ≡ no_game LineVariables
    table-improper q = rw (filled, q) refl

    table_game : proper n bs ≡ true → game_on n m (Some bs) x ≡ game (clause_rows x) (game_turns n bs)
    table_game q = rw (filled, q) refl

    pub table_taken : proper n bs ≡ true → (w : ℕ) → w ≡ turns_word (game_turns n bs)
        → ◌≡◌ {A = Result Quantified Refusal} (Ok (record { n = n; turns = w; rows = y.rows; words = y.words })) (quantified (game_on n m (Some bs) x))
    table_taken q w v =
        ap₂ (λ (z : Table) (v : ℕ). Ok (record { n = n; turns = v; rows = z.rows; words = z.words })) table-is v
        ∙ ap (λ (k : ℕ). Ok (record { n = k; turns = turns_word (game_turns n bs); rows = table.rows; words = table.words })) (sym (turns-length n bs q))
        ∙ sym (ap quantified (table_game q))
