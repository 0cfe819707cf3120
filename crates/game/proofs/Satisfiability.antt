-- With no variable on a line the question is plain satisfiability: the existential side follows an assignment that makes all rows true.
use Prim.Native.Nat.{ℕ, zero, suc, ◌^◌, ◌≤◌, ◌<◌}
use native.Mathlib.Omega.{arith}
use mathlib.Core.Path.{◌≡◌, refl, sym, ap, ap₂, ◌∙◌}
use mathlib.Core.Bool.{Bool, true, false, not, ◌&&◌, ◌||◌, or-true, true≢false}
use mathlib.Core.List.{List, [], ◌∷◌, append-nil}
use lib.Dec.{eqb}
use lib.ListN.{length}
use borrow.Author.Tests.{eqb-true, not-true, lt-ltb}
use Rattle.words.proofs.Truth.{and_l, and_r, and_i, on}
use Rattle.words.specs.declared.Row.{Row}
use Rattle.scan.specs.Rules.{all_rows}
use Rattle.scan.proofs.RowLaws.{all-rows_cong}
use Rattle.truth.specs.Truth.{row_true, all_true}
use Rattle.tables.specs.Acceptance.{low_row}
use Rattle.truth.proofs.TruthLaws.{literal, row-true}
use Rattle.clauses.specs.Clauses.{Reading, clause, ended, unreadable, clause_rows}
use Rattle.clauses.proofs.Literals.{below, row_lt}
use Rattle.clauses.proofs.Reading.{is_below_all}
use Rattle.qdimacs.specs.Text.{GameTurn, unlisted, game_turns, game, game_text}
use Rattle.qdimacs.proofs.Turns.{has_turn}
use Rattle.qdimacs.proofs.Fine.{Played, fine_game}
use Rattle.game.specs.Game.{fixed, decided, forced, unfixed}
use Rattle.game.proofs.Laws.{any_cong}

-- all turns are the existential side's
abbrev pub all_existential : List GameTurn → Bool
all_existential [] = true
all_existential (k ∷ ks) = not k.universal && all_existential ks

module _ (n : ℕ) (few : n ≤ 32) (rows : List Row) (low : all_rows (low_row n) rows ≡ true) where
  -- rows of n variables are true alike under assignments that agree on them
  true-alike : (a m : ℕ → Bool) → ((i : ℕ) → i < n → a i ≡ m i) → all_true a rows ≡ all_true m rows
  unfolding all_true
  true-alike a m h =
      all-rows_cong (λ r. row_true a r) (λ r. row_true m r) rows
      (λ r x. row-true n few a r (x (low_row n) low)
      ∙ any_cong (λ i. literal a r i) (λ i. literal m r i) n (λ i b. rw (h i b))
      ∙ sym (row-true n few m r (x (low_row n) low)))

  -- what is forced rests on the variables without a turn alone, of which the assignments agree
  alike : (ks : List GameTurn) (a m : ℕ → Bool) → ((i : ℕ) → i < n → has_turn ks i ≡ false → a i ≡ m i) → forced rows ks a ≡ forced rows ks m
  unfolding forced
  alike [] a m h = true-alike a m (λ i b. h i b refl)
  alike (k ∷ ks) a m h =
      let v = k.variable in
      let keeps : (b : Bool) (i : ℕ) → i < n → has_turn ks i ≡ false → fixed a v b i ≡ fixed m v b i = λ b i c no.
      on (eqb i v) (λ z. rw z refl) (λ z. rw z (h i c (rw z no))) in
      ap₂ (decided k.universal) (alike ks (fixed a v true) (fixed m v true) (keeps true)) (alike ks (fixed a v false) (fixed m v false) (keeps false))

  -- the side that follows the assignment m
  followed : (m : ℕ → Bool) → all_true m rows ≡ true → (ks : List GameTurn) → all_existential ks ≡ true → (a : ℕ → Bool)
      → ((i : ℕ) → i < n → has_turn ks i ≡ false → a i ≡ m i) → forced rows ks a ≡ true
  unfolding forced
  followed m e [] x a h = true-alike a m (λ i b. h i b refl) ∙ e
  followed m e (k ∷ ks) x a h =
      let v = k.variable in
      let keeps : (b : Bool) → m v ≡ b → (i : ℕ) → i < n → has_turn ks i ≡ false → fixed a v b i ≡ m i = λ b q i c no.
      on (eqb i v) (λ z. rw z (sym q ∙ ap m (sym (eqb-true i v z)))) (λ z. rw z (h i c (rw z no))) in
      let rest : all_existential ks ≡ true = and_r (not k.universal) _ x in
      rw (not-true k.universal (and_l (not k.universal) _ x))
      (on (m v)
      (λ q. rw (followed m e ks rest (fixed a v true) (keeps true q)))
      (λ q. rw (followed m e ks rest (fixed a v false) (keeps false q)) (or-true (forced rows ks (fixed a v true)))))

-- an assignment that is reached
forced_satisfiable : (rows : List Row) (ks : List GameTurn) → all_existential ks ≡ true → (a : ℕ → Bool) → forced rows ks a ≡ true
    → (m : ℕ → Bool) × (all_true m rows ≡ true)
unfolding forced
forced_satisfiable rows [] x a h = (a, h)
forced_satisfiable rows (k ∷ ks) x a h =
    let v = k.variable in
    let rest : all_existential ks ≡ true = and_r (not k.universal) _ x in
    let one : forced rows ks (fixed a v true) || forced rows ks (fixed a v false) ≡ true = rw (not-true k.universal (and_l (not k.universal) _ x)) at h in
    on (forced rows ks (fixed a v true))
    (λ q. forced_satisfiable rows ks rest (fixed a v true) q)
    (λ q. forced_satisfiable rows ks rest (fixed a v false) (rw q at one))

-- ---- the game of a text

unlisted_mine : (i k : ℕ) → all_existential (unlisted [] i k) ≡ true
unlisted_mine i zero = refl
unlisted_mine i (suc k) = unlisted_mine (suc i) k

-- with no variable on a line all turns are the existential side's
pub no_line : (n : ℕ) → all_existential (game_turns n []) ≡ true
unfolding game_turns
no_line n = ap all_existential (append-nil (unlisted [] 0 n)) ∙ unlisted_mine 0 n

-- clauses of n variables have no bit at or above n
low_reading : (n : ℕ) (x : Reading) → is_below_all n x ≡ true → all_rows (low_row n) (clause_rows x) ≡ true
unfolding all_rows
low_reading n (clause ls from to rest) e =
    let b = and_l (below n ls) (is_below_all n rest) e in
    and_i (and_i (lt-ltb _ (2 ^ n) (row_lt n false ls b)) (lt-ltb _ (2 ^ n) (row_lt n true ls b)))
    (low_reading n rest (and_r (below n ls) (is_below_all n rest) e))
low_reading n ended e = refl
low_reading n unreadable e = refl

module _ (text : List ℕ) (rows : List Row) (turns : List GameTurn) (e : game_text text ≡ game rows turns) where
  its : Played rows turns
  its = fine_game text rows turns e

  low_rows : all_rows (low_row (length turns)) rows ≡ true
  low_rows = ap (all_rows (low_row (length turns))) its.read ∙ low_reading (length turns) its.reading its.below

  few : length turns ≤ 32
  few = omega (arith, its.few-turns)

  -- what the assignment says before any turn has no effect
  pub text_unfixed : (a : ℕ → Bool) → forced rows turns a ≡ forced rows turns unfixed
  text_unfixed a = alike (length turns) few rows low_rows turns a unfixed (λ i b no. absurd (true≢false (sym (its.each i b) ∙ no)))

  -- "with no variable on a line the question is plain satisfiability"
  pub plain-forced : all_existential turns ≡ true → (m : ℕ → Bool) → all_true m rows ≡ true → forced rows turns unfixed ≡ true
  plain-forced mine m h =
      followed (length turns) few rows low_rows m h turns mine unfixed (λ i b no. absurd (true≢false (sym (its.each i b) ∙ no)))

  pub plain_satisfiable : all_existential turns ≡ true → forced rows turns unfixed ≡ true → (m : ℕ → Bool) × (all_true m rows ≡ true)
  plain_satisfiable mine h = forced_satisfiable rows turns mine unfixed h
