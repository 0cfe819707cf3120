-- The lines of a text one at a time: without its remarks, in the text as it is, and as tokens.
use Rattle.std.specs.Prelude.{Option, Some, None}
use mathlib.Core.Path.{◌≡◌, refl, sym, ap, ap₂, ◌∙◌, subst}
use mathlib.Core.Bool.{Bool, true, false, not, cond}
use mathlib.Core.List.{List, [], ◌∷◌, ◌++◌}
use Prim.Native.Nat.{ℕ, suc, ◌+◌, ◌-◌, ◌≤◌, ◌<◌}
use native.Mathlib.Numerals.{add-one}
use native.Mathlib.Omega.{arith}
use lib.Dec.{eqb}
use lib.ListN.{length, drop, take, get_or, drop_of_length-le}
use lib.Seq.{drop-cons, drop-drop}
use borrow.Author.Tests.{eqb-true, not-false}
use Rattle.words.proofs.Truth.{on}
use Rattle.lexer.specs.Bytes.{is_separator, is_line_feed, run}
use Rattle.lexer.specs.Pieces.{Piece, cut, not_empty, lines_from, parts_from, tokens_from}
use Rattle.lexer.specs.Places.{run_end, part}
use Rattle.lexer.specs.Blanks.{start, further, remark, tokens_past}
use Rattle.lexer.proofs.Cuts.{stops}
use Rattle.lexer.proofs.Kept.{part_kept_from, bytes_of, same_tokens, Words, filled_words, all, with_byte, words, pieces_words}
use Rattle.qdimacs.specs.Lines.{Bound, no_piece, no_token, token_lines, lines_behind, is_variable_line, variable_line, tokens_on}
use Rattle.qdimacs.specs.TurnsInWords.{no_variable, line_held, line_read}
use Rattle.qdimacs.specs.Walk.{LineCut, unless, line_ahead, line_cut, passed_by, lines_past, walked_on, walked, PrefixEnds}
use Rattle.qdimacs.specs.declared.Prefix.{Prefix}
use Rattle.qdimacs.specs.declared.PrefixLine.{PrefixLine}
use Rattle.qdimacs.specs.declared.PrefixLine.TheVariants.{Passed, Clauses, Malformed}

abbrev in_line : ℕ → Bool
in_line b = not (is_line_feed b)

-- ---- without remarks

-- all lines that are not left out
abbrev lines_all : (List ℕ → Bool) → LineCut → List (List ℕ)
lines_all out c = unless (out c.line) c.line c.later

-- a text without its remarks has the lines that are no remark, from within a line on, from a line's start on, and from within a remark on
SameLines : List ℕ → Type 0
SameLines bs =
    (line_cut no_token (part_kept_from further bs) ≡ line_cut passed_by bs)
    × (lines_all no_token (line_cut no_token (part_kept_from start bs)) ≡ lines_all passed_by (line_cut passed_by bs))
    × (lines_all no_token (line_cut no_token (part_kept_from remark bs)) ≡ (line_cut passed_by bs).later)

no_token-none : no_token [] ≡ true
unfolding parts_from cut not_empty
no_token-none = refl

same_lines : (bs : List ℕ) → SameLines bs
unfolding SameLines line_cut part_kept_from
same_lines [] = (refl, refl, rw no_token-none)
same_lines (b ∷ bs) = go (same_lines bs)
  where
    go : SameLines bs → SameLines (b ∷ bs)
    go (l, s, r) =
        on (eqb b 10)
        (λ e. rw (eqb-true b 10 e, no_token-none) (ap (λ (ls : List (List ℕ)). record { line = []; later = ls }) s, s, s))
        (λ e. on (eqb b 99)
        (λ c. rw (e, c) (ap (line_ahead passed_by false b) l, r, r))
        (λ c. rw (c, e, c) (ap (line_ahead passed_by false b) l, ap (λ (w : LineCut). unless (no_token (b ∷ w.line)) (b ∷ w.line) w.later) l, r)))

-- from within a line on
pub kept_lines : (bs : List ℕ) → line_cut no_token (part_kept_from further bs) ≡ line_cut passed_by bs
unfolding SameLines
kept_lines bs = (same_lines bs).0

cut_lines : (at : ℕ) (bs : List ℕ)
    → (q : Piece) × (qs : List Piece) × (cut is_line_feed at bs ≡ q ∷ qs) × (q.bytes ≡ (line_cut no_token bs).line)
    × (token_lines qs ≡ (line_cut no_token bs).later)
unfolding cut line_cut
cut_lines at [] = (record { at = at; bytes = [] }, [], refl, refl, refl)
cut_lines at (b ∷ bs) =
    let (q, qs, c, w, m) = cut_lines (suc at) bs in
    on (is_line_feed b)
    (λ e. (record { at = at; bytes = [] }, q ∷ qs, rw (e, c), rw e, rw e (ap₂ (λ (l : List ℕ) (ls : List (List ℕ)). unless (no_token l) l ls) w m)))
    (λ e. (record { at = at; bytes = b ∷ q.bytes }, qs, rw (e, c), rw e (ap (λ (l : List ℕ). b ∷ l) w), rw e m))

-- the definition's lines
pub lines_behind_lem : (text : List ℕ) (at : ℕ) → lines_behind (lines_from text at) ≡ (line_cut no_token (drop at text)).later
lines_behind_lem text at =
    let (q, qs, c, w, m) = cut_lines at (drop at text) in
    ap lines_behind c ∙ m

-- ---- as tokens

module _ where
  abbrev sep : ℕ → Bool
  sep = is_separator

  -- the words of some lines
  abbrev words_on : List (List ℕ) → List (List ℕ)
  words_on ls = bytes_of (tokens_on ls)

  bytes_append : (ps qs : List Piece) → bytes_of (ps ++ qs) ≡ bytes_of ps ++ bytes_of qs
  bytes_append [] qs = refl
  bytes_append (p ∷ ps) qs = ap (λ (l : List (List ℕ)). p.bytes ∷ l) (bytes_append ps qs)

  filled_append : (w : List ℕ) (a b : List (List ℕ)) → filled_words w (a ++ b) ≡ filled_words w a ++ b
  filled_append [] a b = refl
  filled_append (x ∷ xs) a b = refl

  line-words : (l : List ℕ) → bytes_of (tokens_from l 0) ≡ all (words sep l)
  unfolding parts_from
  line-words l = pieces_words sep 0 l

  -- a line in front of others
  words-line : (l : List ℕ) (ls : List (List ℕ)) → all (words sep l) ++ words_on ls ≡ words_on (unless (no_token l) l ls)
  unfolding tokens_on
  words-line l ls = go (tokens_from l 0) (line-words l)
    where
      go : (ps : List Piece) → bytes_of ps ≡ all (words sep l) → all (words sep l) ++ words_on ls ≡ bytes_of (tokens_on (cond (no_piece ps) ls (l ∷ ls)))
      go [] e = ap (λ (x : List (List ℕ)). x ++ words_on ls) (sym e)
      go (q ∷ qs) e = ap (λ (x : List (List ℕ)). x ++ words_on ls) (sym (line-words l)) ∙ sym (bytes_append (tokens_from l 0) (tokens_on ls))

  -- the words of a first line and of the lines after it
  abbrev line_words : LineCut → Words
  line_words c = record { word = (words sep c.line).word; later = (words sep c.line).later ++ words_on c.later }

  cut-words : (bs : List ℕ) → words sep bs ≡ line_words (line_cut no_token bs)
  unfolding words line_cut tokens_on
  cut-words [] = refl
  cut-words (b ∷ bs) =
      let c = line_cut no_token bs in
      let more : all (words sep bs) ≡ all (words sep c.line) ++ words_on c.later =
      ap all (cut-words bs) ∙ filled_append (words sep c.line).word (words sep c.line).later (words_on c.later) in
      on (is_line_feed b)
      (λ e. ap (λ (t : Bool). with_byte t b (words sep bs)) (ap sep (eqb-true b 10 e))
      ∙ ap (λ (ls : List (List ℕ)). record { word = []; later = ls }) (more ∙ words-line c.line c.later)
      ∙ sym (ap (λ (t : Bool). line_words (line_ahead no_token t b c)) e))
      (λ e. byte (sep b) more (cut-words bs) ∙ sym (ap (λ (t : Bool). line_words (line_ahead no_token t b c)) e))
    where
      byte : (t : Bool) → all (words sep bs) ≡ all (words sep (line_cut no_token bs).line) ++ words_on (line_cut no_token bs).later
          → words sep bs ≡ line_words (line_cut no_token bs)
          → with_byte t b (words sep bs)
          ≡ record {
            word = (with_byte t b (words sep (line_cut no_token bs).line)).word;
            later = (with_byte t b (words sep (line_cut no_token bs).line)).later ++ words_on (line_cut no_token bs).later;
          }
      byte true more same = ap (λ (ls : List (List ℕ)). record { word = []; later = ls }) more
      byte false more same = ap (with_byte false b) same

-- where a line ends, the tokens from there on are those of the lines after it
pub tokens_past_lem : (text : List ℕ) (at : ℕ) → (line_cut passed_by (drop at text)).line ≡ []
    → bytes_of (tokens_past text at) ≡ bytes_of (tokens_on (lines_past text at))
unfolding words tokens_past
tokens_past_lem text at e =
    let bs = drop at text in
    sym (same_tokens at 0 bs)
    ∙ pieces_words sep 0 (part_kept_from further bs)
    ∙ ap all (cut-words (part_kept_from further bs) ∙ ap line_words (kept_lines bs))
    ∙ ap (λ (l : List ℕ). all (line_words (record { line = l; later = (line_cut passed_by bs).later }))) e

-- ---- in the text as it is

cut_line : (out : List ℕ → Bool) (bs : List ℕ) → (line_cut out bs).line ≡ take (run in_line bs) bs
unfolding line_cut run
cut_line out [] = refl
cut_line out (b ∷ bs) = on (eqb b 10) (λ e. rw e) (λ e. rw e (ap (λ (l : List ℕ). b ∷ l) (cut_line out bs)))

cut_later : (out : List ℕ → Bool) (bs : List ℕ) → (line_cut out (drop (run in_line bs) bs)).later ≡ (line_cut out bs).later
unfolding line_cut run
cut_later out [] = refl
cut_later out (b ∷ bs) = on (eqb b 10) (λ e. rw (e, line_cut) (rw e)) (λ e. rw e (cut_later out bs))

-- the lines after a place are those after the end of its line
pub past_end : (text : List ℕ) (at end : ℕ) → end ≡ run_end in_line text at → lines_past text end ≡ lines_past text at
unfolding run_end
past_end text at end e =
    ap (lines_past text) e ∙ sym (ap (λ (l : List ℕ). (line_cut passed_by l).later) (drop-drop (run in_line (drop at text)) at text))
    ∙ cut_later passed_by (drop at text)

-- a line ends at its LF
pub ends_there : (text : List ℕ) (at end : ℕ) → end ≡ run_end in_line text at → end < length text → get_or text end 0 ≡ 10
ends_there text at end e h =
    eqb-true (get_or text end 0) 10
    (not-false (eqb (get_or text end 0) 10) (ap (λ (i : ℕ). in_line (get_or text i 0)) e ∙ stops in_line text at (rw e at h)))

module _ (text : List ℕ) (at : ℕ) where
  -- past the end there are no lines
  module _ (h : length text ≤ at) where
    pub no_lines : lines_past text at ≡ []
    unfolding line_cut
    no_lines = ap (λ (l : List ℕ). (line_cut passed_by l).later) (drop_of_length-le text h)

    pub no_first : (line_cut passed_by (drop at text)).line ≡ []
    unfolding line_cut
    no_first = ap (λ (l : List ℕ). (line_cut passed_by l).line) (drop_of_length-le text h)

  module _ (h : at < length text) (feed : get_or text at 0 ≡ 10) where
    at_feed : drop at text ≡ 10 ∷ drop (at + 1) text
    at_feed = drop-cons text at 0 h ∙ ap₂ (λ (b : ℕ) (i : ℕ). b ∷ drop i text) feed (sym (add-one at))

    pub feed_first : (line_cut passed_by (drop at text)).line ≡ []
    unfolding line_cut
    feed_first = ap (λ (l : List ℕ). (line_cut passed_by l).line) at_feed

    -- the line after an LF, and those after it
    pub next-line : (end : ℕ) → end ≡ run_end in_line text (at + 1)
        → lines_past text at ≡ unless (passed_by (part (at + 1) end text)) (part (at + 1) end text) (lines_past text end)
    unfolding line_cut run_end
    next-line end e =
        let bs = drop (at + 1) text in
        let k : run in_line bs ≡ end - (at + 1) = omega (arith, e) in
        ap (λ (l : List ℕ). (line_cut passed_by l).later) at_feed
        ∙ ap₂ (λ (l : List ℕ) (ls : List (List ℕ)). unless (passed_by l) l ls)
        (cut_line passed_by bs ∙ ap (λ (i : ℕ). take i bs) k)
        (sym (past_end text (at + 1) end e))

-- ---- the walk

module _ (n : ℕ) (p : Prefix) (l : List ℕ) (ls : List (List ℕ)) where
  -- what a line leads to; `out` says whether it is passed by
  abbrev Leads : Bool → PrefixLine → Type 0
  Leads out (Passed q) = walked n p (unless out l ls) ≡ walked n q ls
  Leads out Clauses = walked n p (unless out l ls) ≡ Some (record { prefix = p; rest = unless out l ls })
  Leads out Malformed = walked n p (unless out l ls) ≡ None

  line_leads : (r : PrefixLine) → r ≡ line_read n p l → Leads (passed_by l) r
  unfolding walked
  line_leads r e = subst (Leads (passed_by l)) (sym e) (go (passed_by l) (is_variable_line l) (variable_line l) refl)
    where
      go : (out v : Bool) (o : Option (List Bound))
          → walked n p (l ∷ ls) ≡ cond v (walked_on n p o (λ q. walked n q ls)) (Some (record { prefix = p; rest = l ∷ ls }))
          → Leads out (cond out (Passed p) (cond v (line_held n p o) Clauses))
      go true v o e = refl
      go false true None e = e
      go false true (Some bs) e = e
      go false false o e = e

-- The lines after `from` lead with no variable read to what the lines after `at`, where a line ends, lead to with those read so far.
pub record Walking (text : List ℕ) (n from : ℕ) (p : Prefix) (at : ℕ) : Type 0 where
  pub ended : at < length text → get_or text at 0 ≡ 10
  pub whole : walked n p (lines_past text at) ≡ walked n no_variable (lines_past text from)

pub walking : (text : List ℕ) (n from at : ℕ) → at ≡ run_end in_line text from → Walking text n from no_variable at
walking text n from at e = record { ended = ends_there text from at e; whole = ap (walked n no_variable) (past_end text from at e) }

module _ {text : List ℕ} {n from : ℕ} {p : Prefix} {at : ℕ} (w : Walking text n from p at) where
  -- the text ends
  pub walk_over : length text ≤ at → PrefixEnds text (walked n no_variable (lines_past text from)) (Some (p, at))
  unfolding walked
  walk_over h = (
    sym w.whole ∙ ap (walked n p) (no_lines text at h)
        ∙ ap (λ (ls : List (List ℕ)). Some (record { prefix = p; rest = ls })) (sym (no_lines text at h)),
    no_first text at h,
  )

  module _ (h : at < length text) (end : ℕ) (e : end ≡ run_end in_line text (at + 1)) where
    next : lines_past text at ≡ unless (passed_by (part (at + 1) end text)) (part (at + 1) end text) (lines_past text end)
    next = next-line text at h (w.ended h) end e

    pub walk_on : (q : Prefix) → Passed q ≡ line_read n p (part (at + 1) end text) → Walking text n from q end
    walk_on q r = record {
      ended = ends_there text (at + 1) end e;
      whole = sym (line_leads n p (part (at + 1) end text) (lines_past text end) (Passed q) r) ∙ sym (ap (walked n p) next) ∙ w.whole;
    }

    pub walk_ends : Clauses ≡ line_read n p (part (at + 1) end text) → PrefixEnds text (walked n no_variable (lines_past text from)) (Some (p, at))
    walk_ends r = (
      sym w.whole ∙ ap (walked n p) next
          ∙ line_leads n p (part (at + 1) end text) (lines_past text end) Clauses r
          ∙ ap (λ (ls : List (List ℕ)). Some (record { prefix = p; rest = ls })) (sym next),
      feed_first text at h (w.ended h),
    )

    pub walk_breaks : Malformed ≡ line_read n p (part (at + 1) end text) → walked n no_variable (lines_past text from) ≡ None
    walk_breaks r = sym w.whole ∙ ap (walked n p) next ∙ line_leads n p (part (at + 1) end text) (lines_past text end) Malformed r
