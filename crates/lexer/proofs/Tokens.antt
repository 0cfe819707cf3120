-- The next token of a text past its remarks: in the text with remarks as spaces the pieces between separators, with the bytes of the text itself.
use mathlib.Core.Path.{◌≡◌, refl, sym, ap, ap₂, ◌∙◌}
use mathlib.Core.Bool.{Bool, false, not}
use mathlib.Core.List.{List, [], ◌∷◌}
use Prim.Native.Nat.{ℕ, suc, ◌+◌, ◌-◌, ◌≤◌, ◌<◌}
use native.Mathlib.Omega.{arith}
use lib.Dec.{eqb}
use lib.ListN.{length, drop, take, get_or, drop_of_length-le}
use lib.Seq.{drop-cons, drop-drop}
use borrow.Author.Tests.{eqb-true}
use Rattle.std.specs.Prelude.{Some}
use Rattle.words.proofs.Truth.{on}
use Rattle.lexer.specs.Bytes.{is_separator, run}
use Rattle.lexer.specs.Pieces.{Piece, cut, not_empty}
use Rattle.lexer.specs.Places.{run_end, part, first_of}
use Rattle.lexer.specs.Blanks.{LinePlace, further, in_remark, place_behind, blanked, tokens_past, token_start}
use Rattle.lexer.proofs.Cuts.{run-over, no_run, skip-run, one_piece, FoundBy, StartsAt, found_by}

abbrev in_word : ℕ → Bool
in_word b = not (is_separator b)

-- ---- a token's bytes are the text's, and its line goes on after it

word-run : (bs : List ℕ) → run in_word (blanked further bs) ≡ run in_word bs
unfolding blanked run
word-run [] = refl
word-run (b ∷ bs) =
    on (eqb b 10)
    (λ e. rw (eqb-true b 10 e))
    (λ e. on (in_word b) (λ w. rw (w, e) (ap suc (word-run bs))) (λ w. rw w))

word-take : (bs : List ℕ) → take (run in_word bs) (blanked further bs) ≡ take (run in_word bs) bs
unfolding blanked run
word-take [] = refl
word-take (b ∷ bs) =
    on (eqb b 10)
    (λ e. rw (eqb-true b 10 e))
    (λ e. on (in_word b) (λ w. rw (w, e) (ap (λ (l : List ℕ). b ∷ l) (word-take bs))) (λ w. rw w))

word-drop : (bs : List ℕ) → drop (run in_word bs) (blanked further bs) ≡ blanked further (drop (run in_word bs) bs)
unfolding blanked run
word-drop [] = refl
word-drop (b ∷ bs) =
    on (eqb b 10)
    (λ e. rw (eqb-true b 10 e) refl)
    (λ e. on (in_word b) (λ w. rw (w, e) (word-drop bs)) (λ w. rw (w, blanked) refl))

-- after separators and remarks, what follows is blanked as further on in a line
separators_drop : (s : LinePlace) (bs : List ℕ)
    → drop (run is_separator (blanked s bs)) (blanked s bs) ≡ blanked further (drop (run is_separator (blanked s bs)) bs)
unfolding blanked run
separators_drop s [] = refl
separators_drop s (b ∷ bs) =
    on (in_remark s b)
    (λ e. rw e (rw e at (separators_drop (place_behind s b) bs)))
    (λ e. on (is_separator b) (λ w. rw (e, w) (rw e at (separators_drop (place_behind s b) bs))) (λ w. rw (e, w)))

-- ---- the tokens of a text from a place on

module _ (text : List ℕ) (at : ℕ) where
  abbrev rest : List ℕ
  rest = blanked further (drop at text)

  behind-start : drop (run is_separator rest) rest ≡ blanked further (drop (at + run is_separator rest) text)
  behind-start = separators_drop further (drop at text) ∙ ap (blanked further) (drop-drop (run is_separator rest) at text)

  skip-token : tokens_past text at ≡ tokens_past text (token_start text at)
  unfolding token_start tokens_past
  skip-token = skip-run is_separator at rest ∙ ap (λ (l : List ℕ). not_empty (cut is_separator (at + run is_separator rest) l)) behind-start

  no_token_lem : length text ≤ token_start text at → tokens_past text at ≡ []
  unfolding tokens_past blanked not_empty cut
  no_token_lem h = skip-token ∙ rw (drop_of_length-le text h)

  stops : token_start text at < length text → is_separator (get_or text (token_start text at) 0) ≡ false
  unfolding token_start blanked
  stops h =
      let k = run is_separator rest in
      no_run is_separator (get_or text (at + k) 0) (blanked (place_behind further (get_or text (at + k) 0)) (drop (suc (at + k)) text))
      (ap (run is_separator) (sym (behind-start ∙ ap (blanked further) (drop-cons text (at + k) 0 h))) ∙ run-over is_separator rest)

  module _ (s : ℕ) (hs : s ≡ token_start text at) (h : s < length text) where
    stop : is_separator (get_or text s 0) ≡ false
    stop = ap (λ (x : ℕ). is_separator (get_or text x 0)) hs ∙ stops (rw hs at h)

    abbrev token : List ℕ → ℕ → List Piece
    token b j = record { at = s; bytes = take j b } ∷ not_empty (cut is_separator (s + j) (drop j b))

    token_next : let e = run_end in_word text s in tokens_past text at ≡ record { at = s; bytes = part s e text } ∷ tokens_past text e
    unfolding tokens_past run_end blanked
    token_next =
        let k = run in_word (drop s text) in
        let b = blanked further (drop s text) in
        let one : not_empty (cut is_separator s b) ≡ token b (run in_word b)
        = rw (drop-cons text s 0 h) (one_piece is_separator s (get_or text s 0) (blanked (place_behind further (get_or text s 0)) (drop (suc s) text)) stop) in
        let width : k ≡ s + k - s = omega arith in
        skip-token ∙ ap (tokens_past text) (sym hs) ∙ one
        ∙ ap (token b) (word-run (drop s text))
        ∙ ap₂ (λ (w : List ℕ) (l : List Piece). record { at = s; bytes = w } ∷ l)
        (word-take (drop s text) ∙ ap (λ (i : ℕ). take i (drop s text)) width)
        (ap (λ (l : List ℕ). not_empty (cut is_separator (s + k) l)) (word-drop (drop s text) ∙ ap (blanked further) (drop-drop k s text)))

  start_ge : at ≤ token_start text at
  unfolding token_start
  start_ge = omega arith

  pub token_starts : StartsAt is_separator text (tokens_past text) at (token_start text at)
  token_starts = record { past = start_ge; stop = stops; next = token_next _ refl; none = no_token_lem }

  -- what the answer says
  pub found : (s e : ℕ) → first_of (tokens_past text at) ≡ Some (s, e) → FoundBy (tokens_past text) text at s e
  found = found_by is_separator text (tokens_past text) at (token_start text at) token_starts
