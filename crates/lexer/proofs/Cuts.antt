-- The next piece of a text, by runs of bytes: what is cut off in front leaves the pieces of the rest.
use mathlib.Core.Path.{◌≡◌, refl, sym, ap, ap₂, ◌∙◌, subst}
use mathlib.Core.Bool.{Bool, false, not, true≢false}
use mathlib.Core.List.{List, [], ◌∷◌}
use Prim.Native.Nat.{ℕ, suc, ◌+◌, ◌-◌, ◌≤◌, ◌<◌}
use native.Mathlib.Nat.{add-zero, add-suc, suc-add}
use native.Mathlib.Omega.{arith}
use lib.Dec.{ltb}
use lib.ListN.{length, drop, take, get_or, drop_of_length-le, length-drop, length-take}
use lib.Seq.{drop-cons, drop-drop}
use borrow.Author.Tests.{ltb-true, ltb-false}
use Rattle.std.specs.Prelude.{Option, Some, None}
use Rattle.lexer.specs.Bytes.{run}
use Rattle.lexer.specs.Pieces.{Piece, cut, not_empty, parts_from}
use Rattle.lexer.specs.Places.{run_end, part, piece_at, first_of}
use Rattle.words.proofs.Truth.{on}
use Rattle.lexer.proofs.Runs.{end_ge, end_le}

-- where a run has ended, none starts
pub run-over : (p : ℕ → Bool) (bs : List ℕ) → run p (drop (run p bs) bs) ≡ 0
unfolding run
run-over p [] = refl
run-over p (b ∷ bs) = on (p b) (λ e. rw e (run-over p bs)) (λ e. rw (e, run) (rw e))

pub no_run : (p : ℕ → Bool) (b : ℕ) (bs : List ℕ) → run p (b ∷ bs) ≡ 0 → p b ≡ false
unfolding run
no_run p b bs h = on (p b) (λ e. absurd (let z : suc (run p bs) ≡ 0 = rw e at h in omega arith)) (λ e. e)

-- the pieces after the first
abbrev pub later : (ℕ → Bool) → ℕ → List ℕ → List Piece
later p at [] = []
later p at (b ∷ bs) = cut p (suc at) bs

-- the first piece is the run of bytes that are not cut at
pub cut-first : (p : ℕ → Bool) (at : ℕ) (bs : List ℕ)
    → cut p at bs
    ≡ record { at = at; bytes = take (run (λ b. not (p b)) bs) bs }
    ∷ later p (at + run (λ b. not (p b)) bs) (drop (run (λ b. not (p b)) bs) bs)
unfolding cut run
cut-first p at [] = refl
cut-first p at (b ∷ bs) =
    on (p b)
    (λ e. rw (e, add-zero at))
    (λ e. rw (e, cut-first p (suc at) bs, add-suc, suc-add))

-- after a piece come the pieces of the text that follows it
filled-later : (p : ℕ → Bool) (at : ℕ) (bs : List ℕ) → run (λ b. not (p b)) bs ≡ 0 → not_empty (later p at bs) ≡ not_empty (cut p at bs)
unfolding cut not_empty
filled-later p at [] h = refl
filled-later p at (b ∷ bs) h = on (p b) (λ e. rw e) (λ e. absurd (true≢false (sym (ap not e) ∙ no_run (λ b. not (p b)) b bs h)))

-- bytes to cut at, in front, do not count
pub skip-run : (p : ℕ → Bool) (at : ℕ) (bs : List ℕ) → not_empty (cut p at bs) ≡ not_empty (cut p (at + run p bs) (drop (run p bs) bs))
unfolding cut not_empty run
skip-run p at [] = refl
skip-run p at (b ∷ bs) =
    on (p b)
    (λ e. rw (e, not_empty) (skip-run p (suc at) bs ∙ rw (add-suc, suc-add)))
    (λ e. rw (e, add-zero at, e))

-- bytes whose first is not cut at: a piece, and the pieces of the rest
pub one_piece : (p : ℕ → Bool) (at b : ℕ) (bs : List ℕ) → p b ≡ false
    → not_empty (cut p at (b ∷ bs))
    ≡ record { at = at; bytes = take (run (λ b. not (p b)) (b ∷ bs)) (b ∷ bs) }
    ∷ not_empty (cut p (at + run (λ b. not (p b)) (b ∷ bs)) (drop (run (λ b. not (p b)) (b ∷ bs)) (b ∷ bs)))
unfolding not_empty run
one_piece p at b bs e =
    let o = run-over (λ b. not (p b)) (b ∷ bs) in
    rw (cut-first p at (b ∷ bs), e) (ap (λ (l : List Piece). record { at = at; bytes = b ∷ take (run (λ b. not (p b)) bs) bs } ∷ l)
    (filled-later p _ _ (rw e at o)))

-- the place after a piece
pub behind-part : (text : List ℕ) (s e : ℕ) → s ≤ e → e ≤ length text → s + length (part s e text) ≡ e
behind-part text s e h k = simp (length-take, length-drop) (omega arith)

-- ---- pieces that a search finds: from the place where it starts

-- a piece is found: it is the first, the pieces from its end on follow, and it has its place in the text
pub record FoundBy (from : ℕ → List Piece) (text : List ℕ) (at s e : ℕ) : Type 0 where
  pub pieces : from at ≡ record { at = s; bytes = part s e text } ∷ from e
  pub past : at ≤ s
  pub filled : s < e
  pub within : e ≤ length text
  pub ends : s + length (part s e text) ≡ e

-- the first piece from `at` on starts at i, and goes on to the next byte that passes; there is none where i is the text's end
pub record StartsAt (p : ℕ → Bool) (text : List ℕ) (from : ℕ → List Piece) (at i : ℕ) : Type 0 where
  pub past : at ≤ i
  pub stop : i < length text → p (get_or text i 0) ≡ false
  pub next : i < length text → let e = run_end (λ b. not (p b)) text i in from at ≡ record { at = i; bytes = part i e text } ∷ from e
  pub none : length text ≤ i → from at ≡ []

module _ (p : ℕ → Bool) (text : List ℕ) (from : ℕ → List Piece) (at i : ℕ) (l : StartsAt p text from at i) where
  abbrev end : ℕ
  end = run_end (λ b. not (p b)) text i

  longer : i < length text → i < end
  unfolding run_end run
  longer h =
      let k : end ≡ i + suc (run (λ b. not (p b)) (drop (suc i) text)) = rw (drop-cons text i 0 h, l.stop h) in
      omega (arith, k)

  here : i < length text → FoundBy from text at i end
  here h =
      let within : end ≤ length text = end_le (λ b. not (p b)) text i (omega arith) in
      record {
        pieces = l.next h;
        past = l.past;
        filled = longer h;
        within = within;
        ends = behind-part text i end (omega (arith, longer h)) within;
      }

  -- it is the piece there
  pub first_piece : piece_at p text i ≡ first_of (from at)
  first_piece =
      on (ltb i (length text))
      (λ t. let h : i < length text = ltb-true i (length text) t in
      let f : ℕ → Option (ℕ × ℕ) = λ b. Some (i, b) in
      rw t (sym (ap first_of (l.next h) ∙ ap f (here h).ends)))
      (λ t. rw t (sym (ap first_of (l.none (ltb-false i (length text) t)))))

  -- where it is answered by two places, it is found there
  pub found_by : (s e : ℕ) → first_of (from at) ≡ Some (s, e) → FoundBy from text at s e
  found_by s e f =
      on (ltb i (length text))
      (λ t. let q = rw t at first_piece ∙ f in
      let both : ◌≡◌ {A = ℕ × ℕ} (i, end) (s, e) = cc q in
      let P : ℕ × ℕ → Type 0 = λ x. FoundBy from text at x.0 x.1 in
      subst P both (here (ltb-true i (length text) t)))
      (λ t. let q = rw t at first_piece ∙ f in absurd (let z : ◌≡◌ {A = ℕ} 0 1 = cc q in omega arith))

-- where the first of some pieces is nothing, there are none
pub none_first : (ps : List Piece) → first_of ps ≡ None → ps ≡ []
none_first [] e = refl
none_first (q ∷ qs) e = absurd (let z : ◌≡◌ {A = ℕ} 0 1 = cc in omega arith)

-- ---- the pieces of a text from a place on

-- found among the longest runs of bytes that do not pass: the first of them from `at` on is the one from s to e
abbrev pub Found : (ℕ → Bool) → List ℕ → ℕ → ℕ → ℕ → Type 0
Found p text at s e = FoundBy (parts_from p text) text at s e

module _ (p : ℕ → Bool) (text : List ℕ) (at : ℕ) where
  skipped : parts_from p text at ≡ parts_from p text (run_end p text at)
  unfolding run_end parts_from
  skipped = skip-run p at (drop at text) ∙ ap (λ (l : List ℕ). not_empty (cut p (at + run p (drop at text)) l)) (drop-drop (run p (drop at text)) at text)

  none_left : length text ≤ run_end p text at → parts_from p text at ≡ []
  unfolding not_empty cut parts_from
  none_left h = skipped ∙ rw (drop_of_length-le text h)

  -- where a run ends within the text, there is a byte that does not pass
  pub stops : run_end p text at < length text → p (get_or text (run_end p text at) 0) ≡ false
  unfolding run_end
  stops h =
      no_run p (get_or text (at + run p (drop at text)) 0) (drop (suc (at + run p (drop at text))) text)
      (ap (run p) (sym (drop-drop (run p (drop at text)) at text ∙ drop-cons text (at + run p (drop at text)) 0 h)) ∙ run-over p (drop at text))

  part_next : (s : ℕ) → s ≡ run_end p text at → s < length text
      → let e = run_end (λ b. not (p b)) text s in parts_from p text at ≡ record { at = s; bytes = part s e text } ∷ parts_from p text e
  unfolding run_end parts_from
  part_next s hs h =
      let k = run (λ b. not (p b)) (drop s text) in
      let one : not_empty (cut p s (drop s text)) ≡ record { at = s; bytes = take k (drop s text) } ∷ not_empty (cut p (s + k) (drop k (drop s text)))
      = rw (drop-cons text s 0 h) (one_piece p s (get_or text s 0) (drop (suc s) text) (rw hs (stops (rw hs at h)))) in
      let width : k ≡ s + k - s = omega arith in
      skipped ∙ ap (λ (x : ℕ). not_empty (cut p x (drop x text))) (sym hs) ∙ one
      ∙ ap₂ (λ (b : List ℕ) (l : List Piece). record { at = s; bytes = b } ∷ l)
      (ap (λ (i : ℕ). take i (drop s text)) width)
      (ap (λ (l : List ℕ). not_empty (cut p (s + k) l)) (drop-drop k s text))

  pub part_starts : StartsAt p text (parts_from p text) at (run_end p text at)
  part_starts = record { past = end_ge p text at; stop = stops; next = part_next _ refl; none = none_left }

  -- where the first piece from a place on is answered by two places, it is found there: it is between them, and the pieces from its end on follow
  pub found : (s e : ℕ) → first_of (parts_from p text at) ≡ Some (s, e) → Found p text at s e
  found = found_by p text (parts_from p text) at (run_end p text at) part_starts

  -- where the first piece from a place on is answered by nothing, there is no piece from that place on
  pub missing : first_of (parts_from p text at) ≡ None → parts_from p text at ≡ []
  missing f = none_first (parts_from p text at) f
