-- `existential` and `universal` meet their contracts, each from the other's.
use mathlib.Core.Path.{refl, sym, ap, ◌∙◌}
use mathlib.Core.Bool.{not}
use Rattle.words.specs.Sets.{bit}
use Rattle.scan.specs.Rules.{rows_of_words}
use Rattle.qdimacs.specs.TurnsInWords.{turns_in}
use Rattle.game.proofs.Laws.{forced-cut}
use Rattle.game.proofs.Turns.{same_flags, other_flags, apart_agrees, fewer, none_left, ready_true, ready_false}
use Rattle.game.proofs.Turns.{existential_first, existential_second, universal_first, universal_second}
use Rattle.game.proofs.+existential_universal.Goals as goal

-- ---- `existential`

pub existential-returns-then-unset-eq0 : goal.existential-returns-then-unset-eq0
existential-returns-then-unset-eq0 t c =
    let s = c.args in
    c.all_true.ensures ∙ none_left s.turns s.unset (rows_of_words s.rows.now) (bit s.t) c.if-unset-eq0.true

pub existential-returns-in-Some : goal.existential-returns-in-Some
existential-returns-in-Some t c =
    let s = c.args in
    sym
    (forced-cut (rows_of_words s.rows.now) s.t s.f c.in-Some.b (sym c.cut.ensures ∙ c.in-Some.is)
    (turns_in s.turns s.unset) c.requires.f_value (bit s.t) (apart_agrees s.t s.f c.requires.apart))

pub existential-universal-first-requires : goal.existential-universal-first-requires
existential-universal-first-requires t c =
    let s = c.args in (
      fewer s.unset t c.if-unset-eq0.false c.decreases,
      ready_true s.turns s.unset s.t s.f c.if-unset-eq0.false (c.requires.f_value, c.requires.apart) c.put.result c.put.ensures,
    )

pub existential-returns-then-first-own : goal.existential-returns-then-first-own
existential-returns-then-first-own t c =
    let s = c.args in
    existential_first s.turns s.unset s.t s.f c.if-unset-eq0.false (c.requires.f_value, c.requires.apart) (rows_of_words s.rows.now)
    c.put.result _ c.put.ensures refl c.universal-first.result c.universal-first.ensures (same_flags _ _ c.if-first-own.true)

pub existential-universal-requires : goal.existential-universal-requires
existential-universal-requires t c =
    let s = c.args in (
      fewer s.unset t c.if-unset-eq0.false c.decreases,
      ready_false s.turns s.unset s.t s.f c.if-unset-eq0.false (c.requires.f_value, c.requires.apart) c.put-2.result c.put-2.ensures,
    )

pub existential-returns : goal.existential-returns
existential-returns t c =
    let s = c.args in
    existential_second s.turns s.unset s.t s.f c.if-unset-eq0.false (c.requires.f_value, c.requires.apart) (rows_of_words s.rows.now)
    c.put.result _ c.put.ensures refl c.universal-first.result c.universal.result c.universal-first.ensures c.universal.ensures
    (other_flags _ _ c.if-first-own.false)

-- ---- `universal`

pub universal-returns-then-unset-eq0 : goal.universal-returns-then-unset-eq0
universal-returns-then-unset-eq0 t c =
    let s = c.args in
    ap not (c.all_true.ensures ∙ none_left s.turns s.unset (rows_of_words s.rows.now) (bit s.t) c.if-unset-eq0.true)

pub universal-returns-in-Some : goal.universal-returns-in-Some
universal-returns-in-Some t c =
    let s = c.args in
    ap not (sym
    (forced-cut (rows_of_words s.rows.now) s.t s.f c.in-Some.b (sym c.cut.ensures ∙ c.in-Some.is)
    (turns_in s.turns s.unset) c.requires.f_value (bit s.t) (apart_agrees s.t s.f c.requires.apart)))

pub universal-existential-first-requires : goal.universal-existential-first-requires
universal-existential-first-requires t c =
    let s = c.args in (
      fewer s.unset t c.if-unset-eq0.false c.decreases,
      ready_true s.turns s.unset s.t s.f c.if-unset-eq0.false (c.requires.f_value, c.requires.apart) c.put.result c.put.ensures,
    )

pub universal-returns-then-first-own : goal.universal-returns-then-first-own
universal-returns-then-first-own t c =
    let s = c.args in
    universal_first s.turns s.unset s.t s.f c.if-unset-eq0.false (c.requires.f_value, c.requires.apart) (rows_of_words s.rows.now)
    c.put.result _ c.put.ensures refl c.existential-first.result c.existential-first.ensures (same_flags _ _ c.if-first-own.true)

pub universal-existential-requires : goal.universal-existential-requires
universal-existential-requires t c =
    let s = c.args in (
      fewer s.unset t c.if-unset-eq0.false c.decreases,
      ready_false s.turns s.unset s.t s.f c.if-unset-eq0.false (c.requires.f_value, c.requires.apart) c.put-2.result c.put-2.ensures,
    )

pub universal-returns : goal.universal-returns
universal-returns t c =
    let s = c.args in
    universal_second s.turns s.unset s.t s.f c.if-unset-eq0.false (c.requires.f_value, c.requires.apart) (rows_of_words s.rows.now)
    c.put.result _ c.put.ensures refl c.existential-first.result c.existential.result c.existential-first.ensures c.existential.ensures
    (other_flags _ _ c.if-first-own.false)
