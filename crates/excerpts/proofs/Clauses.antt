-- Clause k of a text: it lies in the text, and the words have a bit for each of its literals. By induction on the tokens, then on k; the code goes clause by
-- clause.
use mathlib.Core.Path.{◌≡◌, refl, sym, ap, ◌∙◌, subst}
use mathlib.Core.Bool.{true}
use mathlib.Core.List.{List, [], ◌∷◌}
use Prim.Native.Nat.{ℕ, zero, suc, ◌+◌, ◌-◌, ◌≤◌, ◌<◌}
use native.Mathlib.Omega.{arith}
use lib.Dec.{ltb}
use lib.ListN.{length}
use Rattle.std.specs.Prelude.{Result, Ok, Err}
use Rattle.refusals.specs.declared.Refusal.{Refusal}
use Rattle.words.specs.declared.Row.{Row}
use Rattle.words.proofs.Truth.{on, and_l, and_r}
use Rattle.lexer.specs.Pieces.{Piece, behind}
use Rattle.lexer.specs.Places.{part, first_of}
use Rattle.lexer.specs.Blanks.{tokens_past}
use Rattle.lexer.proofs.Tokens.{found}
use Rattle.numbers.specs.Numbers.{Number, number, malformed, number_read}
use Rattle.header.specs.declared.Header.{Header}
use Rattle.header.specs.Header.{header_of}
use Rattle.clauses.specs.Rows.{Literal, row_of}
use Rattle.clauses.specs.Clauses.{Reading, clause, ended, unreadable, joined_literal, before, clauses}
use Rattle.clauses.specs.First.{clauses_from, empty_row, with_literals, first}
use Rattle.clauses.specs.declared.Clause.{Clause}
use Rattle.clauses.specs.declared.Clause.TheVariants.{Read, Unreadable}
use Rattle.clauses.proofs.Literals.{below, below_more, row-filled}
use Rattle.clauses.proofs.Reading.{is_below_all, clauses-below, read_is}
use Rattle.dimacs.proofs.Texts.{limits}
use Rattle.excerpts.specs.Excerpts.{skip, behind_header, clause_of}

-- ---- every clause lies in the text

-- the first clause not before i
abbrev pub LiesFrom : List ℕ → ℕ → Reading → Type 0
LiesFrom text i (clause ls from to rest) = (i ≤ from) × (from < to) × (to ≤ length text) × LiesFrom text 0 rest
LiesFrom text i ended = Unit
LiesFrom text i unreadable = Unit

module _ (n : ℕ) (text : List ℕ) where
  earlier : (i j : ℕ) (x : Reading) → i ≤ j → LiesFrom text j x → LiesFrom text i x
  earlier i j (clause ls from to rest) h l = (omega (arith, l.0), l.1, l.2, l.3)
  earlier i j ended h l = tt
  earlier i j unreadable h l = tt

  joined_lies : (i : ℕ) (l : Literal) (at : ℕ) (x : Reading) → i ≤ at → LiesFrom text at x → LiesFrom text i (joined_literal l at x)
  joined_lies i l at (clause ls from to rest) h k = (h, omega (arith, k.0, k.1), k.2, k.3)
  joined_lies i l at ended h k = tt
  joined_lies i l at unreadable h k = tt

  before_lies : (i : ℕ) (t : Piece) (x : Number) (rest : Reading) → i ≤ t.at → t.at < behind t → behind t ≤ length text → LiesFrom text (behind t) rest
      → LiesFrom text i (before n t x rest)
  before_lies i t malformed rest h f e l = tt
  before_lies i t (number s zero) rest h f e l = (h, f, e, earlier 0 (behind t) rest (omega arith) l)
  before_lies i t (number s (suc v)) rest h f e l =
      on (ltb v n)
      (λ q. rw q (joined_lies i (record { minus = s; bit = v }) t.at rest h (earlier t.at (behind t) rest (omega arith) l)))
      (λ q. rw q tt)

  pub clauses_lie : (ts : List Piece) (i : ℕ) → ts ≡ tokens_past text i → LiesFrom text i (clauses n ts)
  unfolding clauses
  clauses_lie [] i h = tt
  clauses_lie (t ∷ ts) i h =
      let F = found text i t.at (behind t) (sym (ap first_of h)) in
      let both : t ∷ ts ≡ record { at = t.at; bytes = part t.at (behind t) text } ∷ tokens_past text (behind t) = h ∙ F.pieces in
      let tail : ts ≡ tokens_past text (behind t) = cc both in
      before_lies i t (number_read t.bytes) (clauses n ts) F.past F.filled F.within (clauses_lie ts (behind t) tail)

-- ---- clause k of a text

-- the first clause of a reading lies in the text, and its words have its literals
abbrev pub Lies : List ℕ → Reading → Type 0
Lies text (clause ls from to rest) = (from < to) × (to ≤ length text) × (with_literals empty_row ls ≡ row_of ls)
Lies text ended = Unit
Lies text unreadable = Unit

skip_lies : (n : ℕ) (text : List ℕ) → n ≤ 32 → (k i : ℕ) (x : Reading) → LiesFrom text i x → is_below_all n x ≡ true → Lies text (skip k x)
unfolding skip
skip_lies n text few zero i (clause ls from to rest) l b = (l.1, l.2, row-filled ls (below_more n 32 ls few (and_l (below n ls) (is_below_all n rest) b)))
skip_lies n text few zero i ended l b = tt
skip_lies n text few zero i unreadable l b = tt
skip_lies n text few (suc k) i (clause ls from to rest) l b = skip_lies n text few k 0 rest l.3 (and_r (below n ls) (is_below_all n rest) b)
skip_lies n text few (suc k) i ended l b = tt
skip_lies n text few (suc k) i unreadable l b = tt

skip-none : (k : ℕ) → skip k unreadable ≡ unreadable
unfolding skip
skip-none zero = refl
skip-none (suc k) = refl

pub clause_lies : (text : List ℕ) (k : ℕ) → Lies text (clause_of text k)
unfolding clause_of
clause_lies text k = go (header_of 1 text).sizes refl
  where
    go : (s : Result (ℕ × ℕ) Refusal) → (header_of 1 text).sizes ≡ s → Lies text (skip k (behind_header text (header_of 1 text).end s))
    go (Err r) q = rw (skip-none k) tt
    go (Ok (n, m)) q =
        let end = (header_of 1 text).end in
        skip_lies n text (limits 1 text (header_of 1 text) refl n m q).0 k end (clauses_from n text end) (clauses_lie n text (tokens_past text end) end refl)
        (clauses-below n (tokens_past text end))

-- ---- clause by clause

-- an answer that is no clause
abbrev pub NoneRead : Clause → Type 0
NoneRead y = (row : Row) → (from to : ℕ) → y ≡ Read row from to → ⊥

module _ (n : ℕ) (text : List ℕ) (start k : ℕ) where
  -- i clauses are passed, and those from `at` on give what those from `start` on give
  pub record Skipping (at i : ℕ) : Type 0 where
    pub within : i ≤ k
    pub left : skip (k - i) (clauses_from n text at) ≡ skip k (clauses_from n text start)

  pub none_skipped : Skipping start 0
  none_skipped = let e : k - 0 ≡ k = omega arith in record { within = omega arith; left = ap (λ (j : ℕ). skip j (clauses_from n text start)) e }

  module _ (at i : ℕ) (w : Skipping at i) where
    module _ (h : i < k) where
      down : k - i ≡ suc (k - (i + 1))
      down = omega arith

      pub one_skipped : n ≤ 32 → (row : Row) (from to : ℕ) → first (clauses_from n text at) ≡ Read row from to → Skipping to (i + 1)
      unfolding skip
      one_skipped few row from to e =
          let c = read_is n text few at row from to e in
          record {
            within = omega arith;
            left = sym (ap (λ (j : ℕ). skip j (clause c.0 from to (clauses_from n text to))) down) ∙ sym (ap (skip (k - i)) c.1) ∙ w.left;
          }

      pub none_left : (y : Clause) → y ≡ first (clauses_from n text at) → NoneRead y → Unreadable ≡ first (skip k (clauses_from n text start))
      unfolding skip
      none_left y e q =
          sym (ap first (sym w.left ∙ ap (λ (j : ℕ). skip j (clauses_from n text at)) down) ∙ go (clauses_from n text at) (subst NoneRead e q))
        where
          go : (x : Reading) → NoneRead (first x) → first (skip (suc (k - (i + 1))) x) ≡ Unreadable
          go (clause ls from to rest) z = absurd (z _ _ _ refl)
          go ended z = refl
          go unreadable z = refl

    pub all_skipped : k ≤ i → first (clauses_from n text at) ≡ first (skip k (clauses_from n text start))
    unfolding skip
    all_skipped h = let e : 0 ≡ k - i = omega (arith, w.within) in ap (λ (j : ℕ). first (skip j (clauses_from n text at))) e ∙ ap first w.left

-- ---- after the header

module _ (text : List ℕ) (k : ℕ) (h : Header) (e : h ≡ header_of 1 text) where
  by-sizes : (s : Result (ℕ × ℕ) Refusal) → h.sizes ≡ s → skip k (behind_header text h.end s) ≡ clause_of text k
  unfolding clause_of
  by-sizes s q =
      ap (λ (x : Result (ℕ × ℕ) Refusal). skip k (behind_header text h.end x)) (sym q) ∙ ap (λ (x : Header). skip k (behind_header text x.end x.sizes)) e

  pub no_header : (r : Refusal) → h.sizes ≡ Err r → Unreadable ≡ first (clause_of text k)
  no_header r q = ap first (sym (skip-none k) ∙ by-sizes (Err r) q)

  pub clause_found : (n m : ℕ) → h.sizes ≡ Ok (n, m) → (y : Clause) → y ≡ first (skip k (clauses_from n text h.end)) → y ≡ first (clause_of text k)
  clause_found n m q y z = z ∙ ap first (by-sizes (Ok (n, m)) q)
