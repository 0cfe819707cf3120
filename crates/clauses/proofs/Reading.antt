-- Clauses, a token at a time: what was read of a clause is carried on to the clause that the rest begins with.
use mathlib.Core.Path.{◌≡◌, refl, sym, ap, ◌∙◌}
use mathlib.Core.Bool.{Bool, true, ◌&&◌}
use mathlib.Core.List.{List, [], ◌∷◌}
use Prim.Native.Nat.{ℕ, zero, suc, ◌+◌, ◌-◌, ◌≤◌, ◌<◌}
use native.Mathlib.Omega.{arith}
use lib.Dec.{ltb}
use lib.ListN.{length}
use borrow.Author.Tests.{lt-ltb, le-ltb}
use Rattle.std.specs.Prelude.{Some, None}
use Rattle.words.specs.declared.Row.{Row}
use Rattle.words.proofs.Truth.{on, and_l, and_r, and_i}
use Rattle.lexer.specs.Pieces.{Piece, behind}
use Rattle.lexer.specs.Places.{part, first_of}
use Rattle.lexer.specs.Blanks.{tokens_past}
use Rattle.lexer.proofs.Cuts.{FoundBy}
use Rattle.lexer.proofs.Tokens.{found}
use Rattle.numbers.specs.Numbers.{Number, number, malformed, number_read}
use Rattle.numbers.specs.CappedNumbers.{number_held}
use Rattle.numbers.proofs.Decimals.{held-value, held_none}
use Rattle.clauses.specs.Rows.{Literal, row_of}
use Rattle.clauses.specs.Clauses.{Reading, clause, ended, unreadable, joined_literal, before, clauses}
use Rattle.clauses.specs.First.{clauses_from, empty_row, row_with, with_literals, first, clause_code, clause_numbers, first_said}
use Rattle.clauses.specs.declared.Clause.{Clause}
use Rattle.clauses.specs.declared.Clause.TheVariants.{Read, Unreadable}
use Rattle.clauses.proofs.Literals.{below, below_more, row-filled}

-- what is given says its number and its values
pub said : (n : ℕ) (text : List ℕ) (at : ℕ) (c : Clause) → first (clauses_from n text at) ≡ c
    → (c ≡ first (clauses_from n text at)) × (clause_code c ∷ clause_numbers c ≡ first_said (clauses_from n text at))
said n text at c e = (sym e, ap (λ (y : Clause). clause_code y ∷ clause_numbers y) (sym e) ∙ go (clauses_from n text at))
  where
    go : (y : Reading) → clause_code (first y) ∷ clause_numbers (first y) ≡ first_said y
    go (clause ls from to rest) = refl
    go ended = refl
    go unreadable = refl

-- a clause begun at a place, with a row so far, goes on with the first clause of a reading
abbrev pub carried : Row → ℕ → Reading → Clause
carried row start (clause ls from to rest) = Read (with_literals row ls) start to
carried row start ended = Unreadable
carried row start unreadable = Unreadable

carried-joined : (row : Row) (start at : ℕ) (l : Literal) (x : Reading) → carried row start (joined_literal l at x)
    ≡ carried (row_with l.minus l.bit row) start x
carried-joined row start at l (clause ls from to rest) = refl
carried-joined row start at l ended = refl
carried-joined row start at l unreadable = refl

first-joined : (start : ℕ) (l : Literal) (x : Reading) → first (joined_literal l start x) ≡ carried empty_row start (joined_literal l start x)
first-joined start l (clause ls from to rest) = refl
first-joined start l ended = refl
first-joined start l unreadable = refl

-- a clause begins with its first token
first-before : (n : ℕ) (t : Piece) (x : Number) (rest : Reading) → first (before n t x rest) ≡ carried empty_row t.at (before n t x rest)
first-before n t malformed rest = refl
first-before n t (number s zero) rest = refl
first-before n t (number s (suc i)) rest =
    on (ltb i n)
    (λ e. rw e (first-joined t.at (record { minus = s; bit = i }) rest))
    (λ e. rw e)

-- the reading of a token and of what comes after it
abbrev token_then : ℕ → List ℕ → ℕ → ℕ → Reading
token_then n text from to = before n (record { at = from; bytes = part from to text }) (number_read (part from to text)) (clauses_from n text to)

next-is : (n : ℕ) (text : List ℕ) (at from to : ℕ) → FoundBy (tokens_past text) text at from to → clauses_from n text at ≡ token_then n text from to
unfolding clauses
next-is n text at from to F = ap (clauses n) F.pieces

pub no_clause : (n : ℕ) (text : List ℕ) (at : ℕ) → tokens_past text at ≡ [] → clauses_from n text at ≡ ended
unfolding clauses
no_clause n text at e = rw e

-- A clause begun at `start`, with its row so far and the token at hand: with what follows it is the first clause from `at` on.
pub record Begun (n : ℕ) (text : List ℕ) (at start : ℕ) (row : Row) (from to : ℕ) : Type 0 where
  pub whole : carried row start (token_then n text from to) ≡ first (clauses_from n text at)
  pub filled : from < to
  pub within : to ≤ length text
  pub ends : from + length (part from to text) ≡ to

pub begun : (n : ℕ) (text : List ℕ) (at from to : ℕ) → FoundBy (tokens_past text) text at from to → Begun n text at from empty_row from to
begun n text at from to F = record {
  whole = sym (ap first (next-is n text at from to F) ∙ first-before n (record { at = from; bytes = part from to text })
      (number_read (part from to text)) (clauses_from n text to));
  filled = F.filled;
  within = F.within;
  ends = F.ends;
}

module _ {n : ℕ} {text : List ℕ} {at start : ℕ} {row : Row} {from to : ℕ} (B : Begun n text at start row from to) where
  by_number : (x : Number) → number_read (part from to text) ≡ x
      → first (clauses_from n text at) ≡ carried row start (before n (record { at = from; bytes = part from to text }) x (clauses_from n text to))
  by_number x e = sym B.whole
      ∙ ap (λ (y : Number). carried row start (before n (record { at = from; bytes = part from to text }) y (clauses_from n text to))) e

  pub not-a-number : number_held (number_read (part from to text)) ≡ None → first (clauses_from n text at) ≡ Unreadable
  not-a-number e = by_number malformed (held_none (number_read (part from to text)) e)

  module _ (minus : Bool) (v : ℕ) (e : number_held (number_read (part from to text)) ≡ Some (minus, v)) where
    pub closes : v ≡ 0 → first (clauses_from n text at) ≡ Read row start to
    closes z =
        let x = held-value (number_read (part from to text)) minus v e in
        let q : x.0 ≡ 0 = omega (arith, x.2) in
        by_number (number minus zero) (x.1 ∙ ap (number minus) q) ∙ ap (Read row start) B.ends

    pub too_high : n < 256 → n < v → first (clauses_from n text at) ≡ Unreadable
    too_high h l =
        let x = held-value (number_read (part from to text)) minus v e in
        let i = x.0 - 1 in
        let q : x.0 ≡ suc i = omega (arith, x.2) in
        by_number (number minus (suc i)) (x.1 ∙ ap (number minus) q) ∙ rw (le-ltb i n (omega (arith, x.2)))

    module _ (h : n < 256) (z : v ≡ 0 → ⊥) (l : v ≤ n) where
      joins : first (clauses_from n text at) ≡ carried (row_with minus (v - 1) row) start (clauses_from n text to)
      joins =
          let x = held-value (number_read (part from to text)) minus v e in
          let i = v - 1 in
          let q : x.0 ≡ suc i = omega (arith, x.2, z) in
          by_number (number minus (suc i)) (x.1 ∙ ap (number minus) q)
          ∙ rw (lt-ltb i n (omega (arith, z))) (carried-joined row start from (record { minus = minus; bit = i }) (clauses_from n text to))

      pub no_more : tokens_past text to ≡ [] → first (clauses_from n text at) ≡ Unreadable
      no_more q = joins ∙ ap (carried (row_with minus (v - 1) row) start) (no_clause n text to q)

      pub goes_on : (r : Row) → r ≡ row_with minus (v - 1) row → (next end : ℕ) → FoundBy (tokens_past text) text to next end → Begun n text at start r next end
      goes_on r w next end F = record {
        whole = ap (λ (x : Row). carried x start (token_then n text next end)) w
            ∙ sym (joins ∙ ap (carried (row_with minus (v - 1) row) start) (next-is n text to next end F));
        filled = F.filled;
        within = F.within;
        ends = F.ends;
      }

-- ---- every literal that is read is below n

-- every literal of every clause of a reading has its bit below n
abbrev pub is_below_all : ℕ → Reading → Bool
is_below_all n (clause ls from to rest) = below n ls && is_below_all n rest
is_below_all n ended = true
is_below_all n unreadable = true

joined-below : (n : ℕ) (l : Literal) (at : ℕ) (x : Reading) → ltb l.bit n ≡ true → is_below_all n x ≡ true → is_below_all n (joined_literal l at x) ≡ true
joined-below n l at (clause ls from to rest) h e =
    and_i (and_i h (and_l (below n ls) (is_below_all n rest) e)) (and_r (below n ls) (is_below_all n rest) e)
joined-below n l at ended h e = refl
joined-below n l at unreadable h e = refl

before-below : (n : ℕ) (t : Piece) (x : Number) (rest : Reading) → is_below_all n rest ≡ true → is_below_all n (before n t x rest) ≡ true
before-below n t malformed rest e = refl
before-below n t (number s zero) rest e = e
before-below n t (number s (suc i)) rest e =
    on (ltb i n)
    (λ h. rw h (joined-below n (record { minus = s; bit = i }) t.at rest h e))
    (λ h. rw h)

-- every literal of the clauses that tokens give over n variables has its bit below n
pub clauses-below : (n : ℕ) (ts : List Piece) → is_below_all n (clauses n ts) ≡ true
unfolding clauses
clauses-below n [] = refl
clauses-below n (t ∷ ts) = before-below n t (number_read t.bytes) (clauses n ts) (clauses-below n ts)

-- ---- the clauses after the first

module _ (n : ℕ) (text : List ℕ) where
  -- after a token come the tokens of the text from its end on
  tail_is : (i : ℕ) (t : Piece) (ts : List Piece) → t ∷ ts ≡ tokens_past text i → ts ≡ tokens_past text (behind t)
  tail_is i t ts e =
      let F = found text i t.at (behind t) (sym (ap first_of e)) in
      let both : t ∷ ts ≡ record { at = t.at; bytes = part t.at (behind t) text } ∷ tokens_past text (behind t) = e ∙ F.pieces in
      cc both

  rest-step : (t : Piece) (x : Number) (ts : List Piece) (y : Reading) (ls : List Literal) (s e : ℕ) (rest : Reading)
      → ts ≡ tokens_past text (behind t) → y ≡ clauses n ts
      → ((ls : List Literal) (s e : ℕ) (rest : Reading) → y ≡ clause ls s e rest → rest ≡ clauses_from n text e)
      → before n t x y ≡ clause ls s e rest → rest ≡ clauses_from n text e
  rest-step t malformed ts y ls s e rest h q ih f = absurd (let z : ◌≡◌ {A = ℕ} 0 1 = cc in omega arith)
  rest-step t (number m zero) ts y ls s e rest h q ih f =
      let a : y ≡ rest = cc in
      let b : behind t ≡ e = cc in
      sym a ∙ q ∙ ap (clauses n) (h ∙ ap (tokens_past text) b)
  rest-step t (number m (suc i)) ts y ls s e rest h q ih f =
      on (ltb i n)
      (λ g. go y ih (rw g at f))
      (λ g. absurd (let k : unreadable ≡ clause ls s e rest = rw g at f in let z : ◌≡◌ {A = ℕ} 0 1 = cc in omega arith))
    where
      go : (y : Reading) → ((ls : List Literal) (s e : ℕ) (rest : Reading) → y ≡ clause ls s e rest → rest ≡ clauses_from n text e)
          → joined_literal (record { minus = m; bit = i }) t.at y ≡ clause ls s e rest → rest ≡ clauses_from n text e
      go (clause ls' s' e' rest') ih k =
          let a : rest' ≡ rest = cc in
          let b : e' ≡ e = cc in
          sym a ∙ ih ls' s' e' rest' refl ∙ ap (clauses_from n text) b
      go ended ih k = absurd (let z : ◌≡◌ {A = ℕ} 0 1 = cc in omega arith)
      go unreadable ih k = absurd (let z : ◌≡◌ {A = ℕ} 0 1 = cc in omega arith)

  rest-is : (ts : List Piece) (i : ℕ) → ts ≡ tokens_past text i → (ls : List Literal) (s e : ℕ) (rest : Reading)
      → clauses n ts ≡ clause ls s e rest → rest ≡ clauses_from n text e
  unfolding clauses
  rest-is [] i h ls s e rest f = absurd (let z : ◌≡◌ {A = ℕ} 0 1 = cc in omega arith)
  rest-is (t ∷ ts) i h ls s e rest f =
      rest-step t (number_read t.bytes) ts (clauses n ts) ls s e rest (tail_is i t ts h) refl
      (λ ls s e rest k. rest-is ts (behind t) (tail_is i t ts h) ls s e rest k) f

  -- where the first clause ends, the reading of the rest starts; its row is the definition's where the words have a bit for each variable
  pub read_is : n ≤ 32 → (at : ℕ) (r : Row) (s e : ℕ) → first (clauses_from n text at) ≡ Read r s e
      → (ls : List Literal) × (clauses_from n text at ≡ clause ls s e (clauses_from n text e)) × (row_of ls ≡ r)
  read_is h at r s e f = go (clauses_from n text at) refl (clauses-below n (tokens_past text at)) f
    where
      go : (x : Reading) → clauses_from n text at ≡ x → is_below_all n x ≡ true → first x ≡ Read r s e
          → (ls : List Literal) × (clauses_from n text at ≡ clause ls s e (clauses_from n text e)) × (row_of ls ≡ r)
      go (clause ls s' e' rest) q b k =
          let a : s' ≡ s = cc in
          let c : e' ≡ e = cc in
          let w : with_literals empty_row ls ≡ r = cc in
          let d : rest ≡ clauses_from n text e = rest-is (tokens_past text at) at refl ls s' e' rest q ∙ ap (clauses_from n text) c in
          (ls, cc, sym (row-filled ls (below_more n 32 ls h (and_l (below n ls) (is_below_all n rest) b))) ∙ w)
      go ended q b k = absurd (let z : ◌≡◌ {A = ℕ} 0 1 = cc in omega arith)
      go unreadable q b k = absurd (let z : ◌≡◌ {A = ℕ} 0 1 = cc in omega arith)
