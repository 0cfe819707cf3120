-- `marked` meets its contract. The loop's invariant: the word has the marks from v on.
use mathlib.Core.Path.{sym, ap, ◌∙◌}
use mathlib.Core.Bool.{Bool}
use Prim.Native.Nat.{ℕ, ◌+◌, ◌-◌, ◌*◌}
use native.Mathlib.Omega.{arith}
use lib.Dec.{eqb}
use lib.ListN.{get_or}
use Rattle.words.specs.Booleans.{digit}
use Rattle.words.proofs.Truth.{digit_lt}
use Rattle.words.proofs.WordOf.{word-start, word-turn, word_room, word_end}
use Rattle.page.specs.Reading.{mark_place, marked}
use Rattle.page.proofs.Marking.{bool_digit}
use Rattle.page.proofs.marked.Goals as goal

pub loop-v-init : goal.loop-v-init
loop-v-init c = word-start (λ j. eqb (get_or c.args.page.now (mark_place c.args.watches (c.args.n + j)) 0) 35) c.args.n

pub overflow_mul-word : goal.overflow_mul-word
overflow_mul-word c = let l = c.loop-v in
    record {
      fits = omega (
        arith,
        l.invariant,
        word_room (λ j. eqb (get_or c.args.page.now (mark_place c.args.watches (l.v + j)) 0) 35)
            c.args.n l.v c.loop-v-test.true c.requires.0,
      );
    }

pub overflow_add-word : goal.overflow_add-word
overflow_add-word c = let l = c.loop-v in
    record {
      fits = omega (
        arith,
        l.invariant,
        bool_digit (eqb c.byte.result 35),
        digit_lt (eqb c.byte.result 35),
        word_room (λ j. eqb (get_or c.args.page.now (mark_place c.args.watches (l.v + j)) 0) 35) c.args.n l.v
            c.loop-v-test.true c.requires.0,
      );
    }

pub loop-v-preserved : goal.loop-v-preserved
loop-v-preserved c =
    let l = c.loop-v in
    let p : ℕ → Bool = λ v. eqb (get_or c.args.page.now (mark_place c.args.watches v) 0) 35 in
    ap (λ (x : ℕ). x + 2 * l.word) (bool_digit (eqb c.byte.result 35) ∙ ap (λ (x : ℕ). digit (eqb x 35)) c.byte.ensures)
    ∙ ap (λ (x : ℕ). digit (p (l.v - 1)) + 2 * x) l.invariant
    ∙ sym (word-turn p c.args.n l.v c.loop-v-test.true l.auto.v)

pub returns : goal.returns
unfolding marked
returns c =
    let l = c.loop-v in
    l.invariant ∙ word_end (λ v. eqb (get_or c.args.page.now (mark_place c.args.watches v) 0) 35) c.args.n l.v (omega arith)
