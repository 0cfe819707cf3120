-- Rows filled into words, a clause at a time: the rows still to come fill the words as all rows fill empty ones.
use mathlib.Core.Path.{◌≡◌, refl, sym, ap, ap₂, ◌∙◌, subst}
use mathlib.Core.Bool.{Bool, true, false, false≢true, ◌&&◌, and-false}
use mathlib.Core.List.{List, [], ◌∷◌, ◌++◌}
use Prim.Native.Nat.{ℕ, zero, suc, ◌+◌, ◌-◌, ◌*◌, ◌≤◌, ◌<◌}
use native.Mathlib.Omega.{arith}
use lib.Dec.{eqb, eqb-zero-suc, eqb-suc-zero, eqb-suc-suc}
use lib.ListN.{length, drop, set, replicate, length-replicate, length-set}
use lib.Seq.{sets, sets-eq}
use Rattle.std.specs.Prelude.{Ok}
use Rattle.refusals.specs.declared.Refusal.TheVariants.{Text}
use Rattle.words.specs.declared.Row.{Row}
use Rattle.clauses.specs.Rows.{words_of_rows}
use Rattle.clauses.specs.Clauses.{Reading, clause, ended, unreadable, clause_rows, complete}
use Rattle.dimacs.specs.Text.{TextTable, refused, body_of}
use Rattle.clauses.specs.First.{clauses_from, first}
use Rattle.clauses.specs.declared.Clause.{Clause}
use Rattle.clauses.specs.declared.Clause.TheVariants.{Read, End}
use Rattle.clauses.proofs.Reading.{read_is}

-- m clauses, and then the end
abbrev counts : ℕ → Reading → Bool
counts zero (clause ls from to rest) = false
counts zero ended = true
counts zero unreadable = false
counts (suc m) (clause ls from to rest) = counts m rest
counts (suc m) ended = false
counts (suc m) unreadable = false

-- ---- an answer that a pattern leaves

-- an answer that is no clause that was read
abbrev pub NotRead : Clause → Type 0
NotRead y = (r : Row) → (s e : ℕ) → y ≡ Read r s e → ⊥

not-read : (x : Reading) (i : ℕ) → NotRead (first x) → counts (suc i) x ≡ false
not-read (clause ls s e rest) i q = absurd (q _ _ _ refl)
not-read ended i q = refl
not-read unreadable i q = refl

not-ended : (x : Reading) → (first x ≡ End → ⊥) → counts 0 x ≡ false
not-ended (clause ls s e rest) q = refl
not-ended ended q = absurd (q refl)
not-ended unreadable q = refl

is-ended : (x : Reading) → first x ≡ End → x ≡ ended
is-ended (clause ls s e rest) h = absurd (let z : ◌≡◌ {A = ℕ} 0 1 = cc in omega arith)
is-ended ended h = refl
is-ended unreadable h = absurd (let z : ◌≡◌ {A = ℕ} 0 1 = cc in omega arith)

-- ---- words

words_more : (w : List ℕ) (k : ℕ) (r : Row) (rs : List Row)
    → sets w (2 * k) (words_of_rows (r ∷ rs)) ≡ sets (set (set w (2 * k) r.positive) (2 * k + 1) r.negative) (2 * (k + 1)) (words_of_rows rs)
words_more w k r rs =
    ap₂ (λ (i j : ℕ). sets (set (set w (2 * k) r.positive) i r.negative) j (words_of_rows rs)) (omega arith) (omega arith)

zeros : ℕ → List ℕ
zeros n = replicate n 0

drop-zeros : (n k : ℕ) → drop k (zeros n) ≡ zeros (n - k)
unfolding zeros
drop-zeros n zero = let q : n ≡ n - 0 = omega arith in ap zeros q
drop-zeros zero (suc k) = let q : 0 ≡ 0 - suc k = omega arith in ap zeros q
drop-zeros (suc n) (suc k) = let q : n - k ≡ suc n - suc k = omega arith in drop-zeros n k ∙ ap zeros q

-- rows have two words each
pub words-length : (rs : List Row) → length (words_of_rows rs) ≡ 2 * length rs
words-length [] = refl
words-length (r ∷ rs) = omega (arith, words-length rs)

words-all : (z : ℕ) (rs : List Row) → 2 * length rs ≤ z → sets (replicate z 0) 0 (words_of_rows rs) ≡ words_of_rows rs ++ replicate (z - 2 * length rs) 0
unfolding zeros
words-all z rs h =
    sets-eq (words_of_rows rs) (zeros z) 0 (omega (arith, words-length rs, length-replicate {A = ℕ} z 0))
    ∙ ap (λ (l : List ℕ). words_of_rows rs ++ l) (drop-zeros z (0 + length (words_of_rows rs))
    ∙ (let q : z - (0 + length (words_of_rows rs)) ≡ z - 2 * length rs = omega (arith, words-length rs) in ap zeros q))

counts-length : (m : ℕ) (x : Reading) → counts m x ≡ true → length (clause_rows x) ≡ m
counts-length zero (clause ls s e rest) h = absurd (false≢true h)
counts-length zero ended h = refl
counts-length zero unreadable h = absurd (false≢true h)
counts-length (suc m) (clause ls s e rest) h = ap suc (counts-length m rest h)
counts-length (suc m) ended h = absurd (false≢true h)
counts-length (suc m) unreadable h = absurd (false≢true h)

-- counting the clauses one by one
counts-is : (m : ℕ) (x : Reading) → complete x && eqb (length (clause_rows x)) m ≡ counts m x
counts-is zero (clause ls s e rest) = rw eqb-suc-zero (and-false (complete rest))
counts-is zero ended = refl
counts-is zero unreadable = refl
counts-is (suc m) (clause ls s e rest) = rw eqb-suc-suc (counts-is m rest)
counts-is (suc m) ended = rw eqb-zero-suc
counts-is (suc m) unreadable = refl

-- ---- the loop

-- k rows are filled in, and the clauses from `at` on give what those from `start` on give
pub record Filling (n m : ℕ) (text : List ℕ) (start : ℕ) (words : List ℕ) (at k : ℕ) : Type 0 where
  pub low : k ≤ m
  pub sized : length words ≡ 256
  pub counted : counts (m - k) (clauses_from n text at) ≡ counts m (clauses_from n text start)
  pub filled : sets words (2 * k) (words_of_rows (clause_rows (clauses_from n text at)))
      ≡ sets (replicate 256 0) 0 (words_of_rows (clause_rows (clauses_from n text start)))

pub empty : (n m : ℕ) (text : List ℕ) (start : ℕ) → Filling n m text start (replicate 256 0) start 0
empty n m text start =
    let z : m - 0 ≡ m = omega arith in
    record { low = omega arith; sized = refl; counted = ap (λ (i : ℕ). counts i (clauses_from n text start)) z; filled = refl }

module _ {n m : ℕ} {text : List ℕ} {start : ℕ} {words : List ℕ} {at k : ℕ} (F : Filling n m text start words at k) where
  pub one_more : n ≤ 32 → (r : Row) (s e : ℕ) → k < m → first (clauses_from n text at) ≡ Read r s e
      → Filling n m text start (set (set words (2 * k) r.positive) (2 * k + 1) r.negative) e (k + 1)
  one_more b r s e h f =
      let x = read_is n text b at r s e f in
      let rest = clauses_from n text e in
      let left : m - k ≡ suc (m - (k + 1)) = omega arith in
      record {
        low = omega arith;
        sized = simp length-set F.sized;
        counted = sym (ap (counts (m - k)) x.1 ∙ ap (λ (i : ℕ). counts i (clause x.0 s e rest)) left) ∙ F.counted;
        filled = sym (words_more words k r (clause_rows rest))
            ∙ sym (ap (λ (y : Row). sets words (2 * k) (words_of_rows (y ∷ clause_rows rest))) x.2)
            ∙ sym (ap (λ (y : Reading). sets words (2 * k) (words_of_rows (clause_rows y))) x.1) ∙ F.filled;
      }

  -- a clause that is missing or cannot be read
  pub unread : (y : Clause) → k < m → y ≡ first (clauses_from n text at) → NotRead y → body_of n m (clauses_from n text start) ≡ refused Text
  unread y h e q =
      let left : m - k ≡ suc (m - (k + 1)) = omega arith in
      rw (counts-is m (clauses_from n text start) ∙ sym F.counted ∙ ap (λ (i : ℕ). counts i (clauses_from n text at)) left ∙ not-read (clauses_from n text at)
      (m - (k + 1)) (subst NotRead e q))

  module _ (h : m ≤ k) where
    none_left : counts 0 (clauses_from n text at) ≡ counts m (clauses_from n text start)
    none_left = let z : 0 ≡ m - k = omega arith in ap (λ (i : ℕ). counts i (clauses_from n text at)) z ∙ F.counted

    -- a clause too many
    pub overfull : (y : Clause) → y ≡ first (clauses_from n text at) → (y ≡ End → ⊥) → body_of n m (clauses_from n text start) ≡ refused Text
    overfull y e q = rw (counts-is m (clauses_from n text start) ∙ sym none_left ∙ not-ended (clauses_from n text at) (subst (λ (z : Clause). z ≡ End → ⊥) e q))

    pub full : m ≤ 128 → first (clauses_from n text at) ≡ End
        → ◌≡◌ {A = TextTable} (record { outcome = Ok tt; n = n; rows = m; words = words }) (body_of n m (clauses_from n text start))
    full b e =
        let x = clauses_from n text start in
        let last = is-ended (clauses_from n text at) e in
        let all : counts m x ≡ true = sym none_left ∙ ap (counts 0) last in
        let rows : length (clause_rows x) ≡ m = counts-length m x all in
        let fill : words ≡ sets (replicate 256 0) 0 (words_of_rows (clause_rows x)) =
        sym (ap (λ (y : Reading). sets words (2 * k) (words_of_rows (clause_rows y))) last) ∙ F.filled in
        rw (counts-is m x ∙ all)
        (ap₂ (λ (i : ℕ) (l : List ℕ). record { outcome = Ok tt; n = n; rows = i; words = l }) (sym rows)
        (fill ∙ words-all 256 (clause_rows x) (omega arith)))
