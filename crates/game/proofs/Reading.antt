-- What is read of a text is what the game is played with: its turns are new and are read out of their word, and its rows are those of the front of its words.
use mathlib.Core.Path.{◌≡◌, refl, sym, ap, ap₂, ◌∙◌, fun_ext, subst}
use mathlib.Core.Bool.{Bool, true, false, not, ◌||◌, true≢false, or-true}
use mathlib.Core.List.{List, [], ◌∷◌, ◌++◌}
use Prim.Native.Nat.{ℕ, zero, suc, ◌+◌, ◌-◌, ◌*◌, ◌≤◌, ◌<◌}
use native.Mathlib.Omega.{arith}
use lib.Dec.{eqb}
use lib.ListN.{length, take, get_or, replicate, length-append}
use borrow.Author.Tests.{eqb-true, eq-eqb, lt-ltb, not-true}
use Rattle.std.specs.Prelude.{Result, Ok, Err}
use Rattle.words.specs.declared.Row.{Row}
use Rattle.words.proofs.Truth.{and_l, and_r, and_i, on}
use Rattle.words.proofs.Bits.{bit-zero}
use Rattle.refusals.specs.declared.Refusal.{Refusal}
use Rattle.tables.specs.Rows.{row_at, rows_from}
use Rattle.scan.specs.Rules.{rows_of_words}
use Rattle.scan.proofs.Fronts.{rows_in_front}
use Rattle.clauses.specs.Rows.{words_of_rows}
use Rattle.dimacs.proofs.Fill.{words-length}
use Rattle.qdimacs.specs.Text.{GameTurn, GameText, game, no_game}
use Rattle.qdimacs.specs.TurnsInWords.{turns_word, turns_in, quantified}
use Rattle.qdimacs.specs.declared.Quantified.{Quantified}
use Rattle.qdimacs.proofs.Turns.{has_turn, distinct}
use Rattle.qdimacs.proofs.Fine.{Played, Fine, fine-turns}
use Rattle.game.specs.Cuts.{is_set, are_all_new}

-- ---- turns

-- different variables, none of the set, each a bit of a word
new_distinct : (ks : List GameTurn) (s : ℕ → Bool) → distinct ks ≡ true → ((i : ℕ) → has_turn ks i ≡ true → (i < 32) × (s i ≡ false)) → are_all_new ks s ≡ true
unfolding are_all_new
new_distinct [] s d h = refl
new_distinct (k ∷ ks) s d h =
    let v = k.variable in
    let own = h v (rw (eq-eqb v v refl)) in
    let once : has_turn ks v ≡ false = not-true (has_turn ks v) (and_l (not (has_turn ks v)) _ d) in
    and_i (and_i (lt-ltb v 32 own.0) (ap not own.1))
    (new_distinct ks (λ i. s i || eqb i v) (and_r (not (has_turn ks v)) _ d)
    (λ i e. let x = h i (rw e (or-true (eqb i v))) in
    (x.0, rw x.1 (on (eqb i v) (λ q. absurd (true≢false (sym e ∙ ap (has_turn ks) (eqb-true i v q) ∙ once))) (λ q. q)))))

none-set : is_set 0 0 ≡ (λ (i : ℕ). false)
none-set = fun_ext (λ i. rw bit-zero refl)

all_new : {rows : List Row} {turns : List GameTurn} → Played rows turns → are_all_new turns (is_set 0 0) ≡ true
all_new {turns = turns} p =
    ap (are_all_new turns) none-set ∙ new_distinct turns (λ i. false) p.once (λ i e. (omega (arith, p.low i e, p.few-turns), refl))

-- ---- rows

row-behind : (a b : ℕ) (words : List ℕ) (i : ℕ) → row_at (a ∷ (b ∷ words)) (suc i) ≡ row_at words i
row-behind a b words i =
    let e : 2 * suc i ≡ suc (suc (2 * i)) = omega arith in
    let f : 2 * suc i + 1 ≡ suc (suc (2 * i + 1)) = omega arith in
    ap₂ (λ (x y : ℕ). record { positive = get_or (a ∷ (b ∷ words)) x 0; negative = get_or (a ∷ (b ∷ words)) y 0 }) e f

rows_behind : (a b : ℕ) (words : List ℕ) (i k : ℕ) → rows_from (a ∷ (b ∷ words)) (suc i) k ≡ rows_from words i k
rows_behind a b words i zero = refl
rows_behind a b words i (suc k) = ap₂ (λ (r : Row) (rs : List Row). r ∷ rs) (row-behind a b words i) (rows_behind a b words (suc i) k)

rows_back : (rs : List Row) (zs : List ℕ) → rows_from (words_of_rows rs ++ zs) 0 (length rs) ≡ rs
rows_back [] zs = refl
rows_back (r ∷ rs) zs =
    ap (λ (l : List Row). r ∷ l) (rows_behind r.positive r.negative (words_of_rows rs ++ zs) 0 (length rs) ∙ rows_back rs zs)

-- ---- what is read

-- what is read of a text that is taken
pub record Given (q : Quantified) (g : GameText) : Type 0 where
  pub rows : List Row
  pub turns : List GameTurn
  pub is : g ≡ game rows turns
  pub some_turn : 1 ≤ q.n
  pub room : 2 * q.rows ≤ length q.words
  pub new : are_all_new (turns_in q.turns q.n) (is_set 0 0) ≡ true
  pub turns_are : turns_in q.turns q.n ≡ turns
  pub rows_are : rows_of_words (take (2 * q.rows) q.words) ≡ rows

-- rows and turns as they are held
abbrev held : List Row → List GameTurn → Quantified
held rows turns =
    record {
      n = length turns;
      turns = turns_word turns;
      rows = length rows;
      words = words_of_rows rows ++ replicate (256 - 2 * length rows) 0;
    }

given_game : (rows : List Row) (turns : List GameTurn) → Played rows turns → Given (held rows turns) (game rows turns)
given_game rows turns p =
    let words = words_of_rows rows ++ replicate (256 - 2 * length rows) 0 in
    let fits : 2 * length rows ≤ length words = omega (arith, length-append (words_of_rows rows) (replicate (256 - 2 * length rows) 0), words-length rows) in
    record {
      rows = rows;
      turns = turns;
      is = refl;
      some_turn = p.some_turn;
      room = fits;
      new = ap (λ (ks : List GameTurn). are_all_new ks (is_set 0 0)) (fine-turns p) ∙ all_new p;
      turns_are = fine-turns p;
      rows_are = rows_in_front words (length rows) fits ∙ rows_back rows (replicate (256 - 2 * length rows) 0);
    }

module _ (g : GameText) (q : Result Quantified Refusal) (e : q ≡ quantified g) where
  pub refused-is : (r : Refusal) → q ≡ Err r → g ≡ no_game r
  refused-is r h = go g (sym e ∙ h)
    where
      go : (g : GameText) → quantified g ≡ Err r → g ≡ no_game r
      go (game rows turns) h = absurd (let z : ◌≡◌ {A = ℕ} 0 1 = cc in omega arith)
      go (no_game s) h = let z : s ≡ r = cc in ap no_game z

  pub given : Fine g → (y : Quantified) → q ≡ Ok y → Given y g
  given f y h = go g f (sym e ∙ h)
    where
      go : (g : GameText) → Fine g → quantified g ≡ Ok y → Given y g
      go (game rows turns) f h = let z : held rows turns ≡ y = cc in subst (λ (x : Quantified). Given x (game rows turns)) z (given_game rows turns f)
      go (no_game s) f h = absurd (let z : ◌≡◌ {A = ℕ} 0 1 = cc in omega arith)
