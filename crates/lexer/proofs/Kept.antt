-- A text without its remarks, a byte at a time: it begins where the text does, and has the words that the text with remarks as spaces has.
use mathlib.Core.Path.{◌≡◌, refl, sym, ap, ap₂, ◌∙◌}
use mathlib.Core.Bool.{Bool, true, false, not, cond}
use mathlib.Core.List.{List, [], ◌∷◌, ◌++◌}
use Prim.Native.Nat.{ℕ, suc}
use lib.Dec.{eqb}
use lib.ListN.{drop, take, get_or}
use borrow.Author.Tests.{eqb-true, ne_eqb}
use Rattle.words.proofs.Truth.{on}
use Rattle.lexer.specs.Bytes.{is_separator, is_line_feed, run}
use Rattle.lexer.specs.Remarks.{ahead, lines_of, kept, without_remarks}
use Rattle.lexer.specs.Pieces.{Piece, cut, not_empty}
use Rattle.lexer.specs.Blanks.{LinePlace, start, further, remark, place_behind, blanked}

-- whether a byte is left out: a remark's are, with its LF
abbrev left_out : LinePlace → ℕ → Bool
left_out start b = eqb b 99
left_out further b = false
left_out remark b = true

-- bytes without the remarks among them, by where in a line the first is
unfoldable pub part_kept_from : LinePlace → List ℕ → List ℕ
part_kept_from s [] = []
part_kept_from s (b ∷ bs) = cond (left_out s b) (part_kept_from (place_behind s b) bs) (b ∷ part_kept_from (place_behind s b) bs)

-- ---- by lines and by bytes

-- the first line, whatever its first byte, and what is kept of the others
abbrev first_kept : List (List ℕ) → List ℕ
first_kept [] = []
first_kept (l ∷ ls) = l ++ kept ls

-- what is kept of the lines after the first
abbrev later_kept : List (List ℕ) → List ℕ
later_kept [] = []
later_kept (l ∷ ls) = kept ls

-- what is left of lines is left of bytes, wherever the first byte is: at a line's start, further on, or in a remark
abbrev Left : List (List ℕ) → List ℕ → Type 0
Left ls bs = (kept ls ≡ part_kept_from start bs) × (first_kept ls ≡ part_kept_from further bs) × (later_kept ls ≡ part_kept_from remark bs)

more : (b : ℕ) {x y : List ℕ} → x ≡ y → b ∷ x ≡ b ∷ y
more b e = ap (λ (l : List ℕ). b ∷ l) e

one_more : (b : ℕ) (ls : List (List ℕ)) (bs : List ℕ) → Left ls bs → Left (ahead b ls) (b ∷ bs)
unfolding kept part_kept_from
one_more b [] bs (s, l, r) =
    on (eqb b 10)
    (λ e. rw (eqb-true b 10 e) (more 10 s, more 10 s, s))
    (λ e. on (eqb b 99)
    (λ c. rw (e, c) (r, more b l, r))
    (λ c. rw (e, c) (more b l, more b l, r)))
one_more b (l₁ ∷ ls) bs (s, l, r) =
    on (eqb b 10)
    (λ e. rw (eqb-true b 10 e) (more 10 s, more 10 s, s))
    (λ e. on (eqb b 99)
    (λ c. rw (e, c) (r, more b l, r))
    (λ c. rw (e, c) (more b l, more b l, r)))

left : (bs : List ℕ) → Left (lines_of bs) bs
unfolding lines_of kept part_kept_from
left [] = (refl, refl, refl)
left (b ∷ bs) = one_more b (lines_of bs) bs (left bs)

-- a text without its remark lines is what is kept of it byte by byte, with the first byte at a line's start
pub kept-is : (text : List ℕ) → without_remarks text ≡ part_kept_from start text
unfolding without_remarks
kept-is text = (left text).0

-- ---- the first line

abbrev in_line : ℕ → Bool
in_line b = not (is_line_feed b)

-- from within a line on, the first byte is the same when remarks are left out
pub first-kept : (bs : List ℕ) → get_or (part_kept_from further bs) 0 0 ≡ get_or bs 0 0
unfolding part_kept_from
first-kept [] = refl
first-kept (b ∷ bs) = refl

-- from within a line on, there are as many bytes up to the line's LF when remarks are left out
pub line-run : (bs : List ℕ) → run in_line (part_kept_from further bs) ≡ run in_line bs
unfolding part_kept_from run
line-run [] = refl
line-run (b ∷ bs) = on (eqb b 10) (λ e. rw e) (λ e. rw e (ap suc (line-run bs)))

-- from within a line on, the bytes up to the line's LF are the same when remarks are left out
pub line-take : (bs : List ℕ) → take (run in_line bs) (part_kept_from further bs) ≡ take (run in_line bs) bs
unfolding part_kept_from run
line-take [] = refl
line-take (b ∷ bs) = on (eqb b 10) (λ e. rw e) (λ e. rw e (more b (line-take bs)))

-- from within a line on, the bytes up to the line's LF may be dropped before remarks are left out or after, with the same result
pub line-drop : (bs : List ℕ) → drop (run in_line bs) (part_kept_from further bs) ≡ part_kept_from further (drop (run in_line bs) bs)
unfolding part_kept_from run
line-drop [] = refl
line-drop (b ∷ bs) = on (eqb b 10) (λ e. rw (e, part_kept_from) (rw e)) (λ e. rw e (line-drop bs))

-- a line that is no remark is kept
pub other-kept : (bs : List ℕ) → (get_or bs 0 0 ≡ 99 → ⊥) → part_kept_from start bs ≡ part_kept_from further bs
unfolding part_kept_from
other-kept [] h = refl
other-kept (b ∷ bs) h = rw (ne_eqb b 99 h)

-- a remark is left out with its LF
past_remark : (bs : List ℕ) → part_kept_from remark bs ≡ part_kept_from start (drop (suc (run in_line bs)) bs)
unfolding part_kept_from run
past_remark [] = refl
past_remark (b ∷ bs) = on (eqb b 10) (λ e. rw e) (λ e. rw e (past_remark bs))

-- where the first byte of a line is `c`, what is kept is what is kept of the bytes after the line's LF
pub remark_kept : (bs : List ℕ) → get_or bs 0 0 ≡ 99 → part_kept_from start bs ≡ part_kept_from start (drop (suc (run in_line bs)) bs)
unfolding part_kept_from run
remark_kept [] h = refl
remark_kept (b ∷ bs) h = rw h (past_remark bs)

-- ---- words

-- the bytes of pieces
abbrev pub bytes_of : List Piece → List (List ℕ)
bytes_of [] = []
bytes_of (q ∷ qs) = q.bytes ∷ bytes_of qs

-- bytes cut at separators: the first word, which may be empty, and the later ones that are not
pub record Words : Type 0 where
  pub word : List ℕ
  pub later : List (List ℕ)

-- a word in front of others, if it is not empty
abbrev pub filled_words : List ℕ → List (List ℕ) → List (List ℕ)
filled_words [] ws = ws
filled_words (b ∷ bs) ws = (b ∷ bs) ∷ ws

-- all words that are not empty
abbrev pub all : Words → List (List ℕ)
all w = filled_words w.word w.later

-- a byte in front: a separator ends an empty word, another joins the first
abbrev pub with_byte : Bool → ℕ → Words → Words
with_byte true b w = record { word = []; later = all w }
with_byte false b w = record { word = b ∷ w.word; later = w.later }

module _ (p : ℕ → Bool) where
  -- the words of bytes
  unfoldable pub words : List ℕ → Words
  words [] = record { word = []; later = [] }
  words (b ∷ bs) = with_byte (p b) b (words bs)

  -- where LF and space are separators, a remark as spaces leaves the same words as none
  SameWords : List ℕ → Type 0
  SameWords bs =
      (words (blanked further bs) ≡ words (part_kept_from further bs))
      × (all (words (blanked start bs)) ≡ all (words (part_kept_from start bs)))
      × (all (words (blanked remark bs)) ≡ all (words (part_kept_from remark bs)))

  same-words : p 10 ≡ true → p 32 ≡ true → (bs : List ℕ) → SameWords bs
  unfolding SameWords blanked part_kept_from words
  same-words feed space [] = (refl, refl, refl)
  same-words feed space (b ∷ bs) = go (same-words feed space bs)
    where
      go : SameWords bs → SameWords (b ∷ bs)
      go (l, s, r) =
          on (eqb b 10)
          (λ e. rw (eqb-true b 10 e, feed) (ap (λ (ws : List (List ℕ)). record { word = []; later = ws }) s, s, s))
          (λ e. on (eqb b 99)
          (λ c. rw (e, c, space) (ap (with_byte (p b) b) l, r, r))
          (λ c. rw (e, c, space) (ap (with_byte (p b) b) l, ap (λ (w : Words). all (with_byte (p b) b w)) l, r)))

  -- ---- pieces without their places

  filled-bytes : (q : Piece) (qs : List Piece) → bytes_of (not_empty (q ∷ qs)) ≡ filled_words q.bytes (bytes_of (not_empty qs))
  unfolding not_empty
  filled-bytes q qs = go q.bytes refl
    where
      go : (w : List ℕ) → q.bytes ≡ w → bytes_of (elim w [ [] ↦ not_empty qs | b ∷ bs ↦ q ∷ not_empty qs ]) ≡ filled_words w (bytes_of (not_empty qs))
      go [] e = refl
      go (b ∷ bs) e = ap (λ (x : List ℕ). x ∷ bytes_of (not_empty qs)) e

  cut-words : (at : ℕ) (bs : List ℕ)
      → (q : Piece) × (qs : List Piece) × (cut p at bs ≡ q ∷ qs) × (q.bytes ≡ (words bs).word) × (bytes_of (not_empty qs) ≡ (words bs).later)
  unfolding cut words not_empty
  cut-words at [] = (record { at = at; bytes = [] }, [], refl, refl, refl)
  cut-words at (b ∷ bs) =
      let (q, qs, c, w, m) = cut-words (suc at) bs in
      on (p b)
      (λ e. (record { at = at; bytes = [] }, q ∷ qs, rw (e, c), rw e, rw e (filled-bytes q qs ∙ ap₂ filled_words w m)))
      (λ e. (record { at = at; bytes = b ∷ q.bytes }, qs, rw (e, c), rw e (more b w), rw e m))

  -- the pieces that are not empty, their places aside, are the words
  pub pieces_words : (at : ℕ) (bs : List ℕ) → bytes_of (not_empty (cut p at bs)) ≡ all (words bs)
  pieces_words at bs =
      let (q, qs, c, w, m) = cut-words at bs in
      ap (λ (x : List Piece). bytes_of (not_empty x)) c ∙ filled-bytes q qs ∙ ap₂ filled_words w m

-- from within a line on, a text without its remarks has the same tokens, their places aside, as the text with each byte of a remark a space
pub same_tokens : (at i : ℕ) (bs : List ℕ) → bytes_of (not_empty (cut is_separator i (part_kept_from further bs)))
    ≡ bytes_of (not_empty (cut is_separator at (blanked further bs)))
unfolding SameWords
same_tokens at i bs =
    pieces_words is_separator i (part_kept_from further bs) ∙ ap all (sym (same-words is_separator refl refl bs).0)
    ∙ sym (pieces_words is_separator at (blanked further bs))
