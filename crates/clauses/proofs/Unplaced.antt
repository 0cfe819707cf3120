-- Clauses without their places: tokens of the same bytes have clauses of the same literals, wherever they are. By induction on the tokens.
use mathlib.Core.Path.{◌≡◌, refl, sym, ap, ◌∙◌}
use mathlib.Core.List.{List, [], ◌∷◌}
use Prim.Native.Nat.{ℕ, zero, suc}
use lib.Dec.{ltb}
use Rattle.words.specs.declared.Row.{Row}
use Rattle.words.proofs.Truth.{on}
use Rattle.lexer.specs.Pieces.{Piece}
use Rattle.lexer.proofs.Kept.{bytes_of}
use Rattle.numbers.specs.Numbers.{Number, number, malformed, number_read}
use Rattle.clauses.specs.Rows.{Literal, row_of}
use Rattle.clauses.specs.Clauses.{Reading, clause, ended, unreadable, joined_literal, before, clauses, clause_rows, complete}

-- every place as 0
abbrev unplaced : Reading → Reading
unplaced (clause ls from to rest) = clause ls 0 0 (unplaced rest)
unplaced ended = ended
unplaced unreadable = unreadable

abbrev nowhere : Piece
nowhere = record { at = 0; bytes = [] }

-- clauses of tokens that have bytes and no place
unfoldable clauses_of : ℕ → List (List ℕ) → Reading
clauses_of n [] = ended
clauses_of n (w ∷ ws) = before n nowhere (number_read w) (clauses_of n ws)

joined-unplaced : (l : Literal) (at : ℕ) (x : Reading) → unplaced (joined_literal l at x) ≡ joined_literal l 0 (unplaced x)
joined-unplaced l at (clause ls from to rest) = refl
joined-unplaced l at ended = refl
joined-unplaced l at unreadable = refl

before-unplaced : (n : ℕ) (t : Piece) (v : Number) (x : Reading) → unplaced (before n t v x) ≡ before n nowhere v (unplaced x)
before-unplaced n t malformed x = refl
before-unplaced n t (number s zero) x = refl
before-unplaced n t (number s (suc i)) x =
    on (ltb i n)
    (λ e. rw e (joined-unplaced (record { minus = s; bit = i }) t.at x))
    (λ e. rw e)

clauses-unplaced : (n : ℕ) (ts : List Piece) → unplaced (clauses n ts) ≡ clauses_of n (bytes_of ts)
unfolding clauses clauses_of
clauses-unplaced n [] = refl
clauses-unplaced n (t ∷ ts) = before-unplaced n t (number_read t.bytes) (clauses n ts) ∙ ap (before n nowhere (number_read t.bytes)) (clauses-unplaced n ts)

rows-unplaced : (x : Reading) → clause_rows (unplaced x) ≡ clause_rows x
rows-unplaced (clause ls from to rest) = ap (λ (rs : List Row). row_of ls ∷ rs) (rows-unplaced rest)
rows-unplaced ended = refl
rows-unplaced unreadable = refl

complete-unplaced : (x : Reading) → complete (unplaced x) ≡ complete x
complete-unplaced (clause ls from to rest) = complete-unplaced rest
complete-unplaced ended = refl
complete-unplaced unreadable = refl

-- rows and completeness of the clauses rest on the tokens' bytes alone
module _ (n : ℕ) (ts us : List Piece) (same : bytes_of ts ≡ bytes_of us) where
  unplaced-same : unplaced (clauses n ts) ≡ unplaced (clauses n us)
  unplaced-same = clauses-unplaced n ts ∙ ap (clauses_of n) same ∙ sym (clauses-unplaced n us)

  -- tokens of the same bytes give the same rows
  pub rows_same : clause_rows (clauses n ts) ≡ clause_rows (clauses n us)
  rows_same = sym (rows-unplaced (clauses n ts)) ∙ ap clause_rows unplaced-same ∙ rows-unplaced (clauses n us)

  -- whether all clauses can be read is the same for tokens of the same bytes
  pub complete-same : complete (clauses n ts) ≡ complete (clauses n us)
  complete-same = sym (complete-unplaced (clauses n ts)) ∙ ap complete unplaced-same ∙ complete-unplaced (clauses n us)
