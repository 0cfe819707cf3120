-- What holds of every game that is read: 1 to 12 turns of different variables, one for each of the n variables, and at most 128 rows, which hold no others.
use Rattle.std.specs.Prelude.{Option, Some, None}
use mathlib.Core.Path.{◌≡◌, refl, ap, ◌∙◌}
use mathlib.Core.Bool.{true, ◌&&◌}
use mathlib.Core.List.{List}
use Prim.Native.Nat.{ℕ, ◌≤◌, ◌<◌}
use native.Mathlib.Omega.{arith}
use lib.Dec.{eqb, ltb}
use lib.ListN.{length}
use borrow.Author.Tests.{eqb-true, ltb-false}
use Rattle.words.specs.declared.Row.{Row}
use Rattle.words.proofs.Truth.{on, and_r}
use Rattle.lexer.specs.Remarks.{without_remarks}
use Rattle.lexer.specs.Pieces.{lines_from}
use Rattle.header.specs.Header.{header_of}
use Rattle.header.proofs.Limits.{header_either}
use Rattle.clauses.specs.Clauses.{Reading, clauses, clause_rows, complete}
use Rattle.clauses.proofs.Reading.{is_below_all, clauses-below}
use Rattle.qdimacs.specs.Lines.{Bound, lines_behind, prefix_of, behind_prefix, tokens_on}
use Rattle.qdimacs.specs.Text.{proper, GameTurn, game_turns, GameText, game, no_game, game_on, game_behind, game_text}
use Rattle.qdimacs.specs.TurnsInWords.{turns_word, turns_in}
use Rattle.qdimacs.proofs.Turns.{has_turn, distinct, turns-length, turns-distinct, turns-low, each_turn}
use Rattle.qdimacs.proofs.Digits.{turns-out}
use Rattle.qdimacs.proofs.Prefixes.{small_if}

-- rows and turns that a game can be played with
pub record Played (rows : List Row) (turns : List GameTurn) : Type 0 where
  pub some_turn : 1 ≤ length turns
  pub few-turns : length turns ≤ 12
  pub some-row : 1 ≤ length rows
  pub few-rows : length rows ≤ 128
  pub once : distinct turns ≡ true
  pub low : (i : ℕ) → has_turn turns i ≡ true → i < length turns
  pub each : (i : ℕ) → i < length turns → has_turn turns i ≡ true
  pub reading : Reading
  pub read : rows ≡ clause_rows reading
  pub below : is_below_all (length turns) reading ≡ true

-- a game is fine, a refusal anyhow
abbrev pub Fine : GameText → Type 0
Fine (game rows turns) = Played rows turns
Fine (no_game r) = Unit

on_fine : (n m : ℕ) → 1 ≤ n → n ≤ 12 → (1 ≤ m) × (m ≤ 128) → (o : Option (List Bound)) (x : Reading) → is_below_all n x ≡ true
    → Fine (game_on n m o x)
on_fine n m one few hm None x b = tt
on_fine n m one few hm (Some bs) x b =
    on (complete x && eqb (length (clause_rows x)) m)
    (λ c. on (proper n bs)
    (λ p. let k : length (clause_rows x) ≡ m = eqb-true _ m (and_r (complete x) _ c) in
    let l : length (game_turns n bs) ≡ n = turns-length n bs p in
    rw (c, p) (record {
      some_turn = omega arith;
      few-turns = omega arith;
      some-row = omega (arith, hm.0);
      few-rows = omega (arith, hm.1);
      once = turns-distinct n bs p;
      low = λ i e. omega (arith, turns-low n bs p i e);
      each = λ i q. each_turn n bs p i (omega (arith, q));
      reading = x;
      read = refl;
      below = ap (λ (k : ℕ). is_below_all k x) l ∙ b;
    }))
    (λ p. rw (c, p) tt))
    (λ c. rw c tt)

header_fine : (text : List ℕ) (end : ℕ) → Fine (game_behind text end (header_of 1 text).sizes)
header_fine text end =
    header_either 1 (λ x. Fine (game_behind text end x)) tt tt tt
    (λ n m hn hm. on (ltb 12 n)
    (λ e. rw e tt)
    (λ e. let lines = lines_behind (lines_from text end) in
    let tokens = tokens_on (behind_prefix lines) in
    rw e (on_fine n m hn.0 (ltb-false 12 n e) hm (prefix_of lines) (clauses n tokens) (clauses-below n tokens)))) text

-- every text gives a fine game, or none
pub text_fine : (text : List ℕ) → Fine (game_text text)
unfolding game_text
text_fine text =
    on (ltb 65536 (length text))
    (λ e. rw e tt)
    (λ e. rw e (let plain = without_remarks text in header_fine plain (header_of 1 plain).end))

-- a game that is read can be played with
pub fine_game : (text : List ℕ) (rows : List Row) (turns : List GameTurn) → game_text text ≡ game rows turns → Played rows turns
fine_game text rows turns e = let f = text_fine text in rw e at f

-- the turns of a fine game are read out of their word
pub fine-turns : {rows : List Row} {turns : List GameTurn} → Played rows turns → turns_in (turns_word turns) (length turns) ≡ turns
fine-turns {turns = turns} p = turns-out turns (small_if turns (λ i e. omega (arith, p.low i e, p.few-turns)))
