-- The place of a row's clause and its bytes: a row that is not refused has its station's words, and its clause lies in its station's text.
use mathlib.Core.Path.{◌≡◌, refl, sym, ap, ◌∙◌, subst}
use mathlib.Core.Bool.{Bool, ◌&&◌, cond}
use mathlib.Core.List.{List, [], ◌∷◌}
use Prim.Native.Nat.{ℕ, ◌+◌, ◌-◌, ◌≤◌, ◌<◌}
use native.Mathlib.Omega.{arith}
use lib.Dec.{eqb, leb}
use lib.ListN.{length, take, drop}
use borrow.Author.Tests.{eq-eqb, ne_eqb, le-leb, lt-leb, leb-true, leb-false}
use Rattle.std.specs.Prelude.{Result, Ok, Err}
use Rattle.refusals.specs.Numbers.{Outcome, said}
use Rattle.refusals.specs.Checks.{outcome, given}
use Rattle.refusals.specs.declared.Refusal.{Refusal}
use Rattle.refusals.proofs.Outcomes.{given-said}
use Rattle.words.specs.declared.Row.{Row}
use Rattle.words.proofs.Truth.{on}
use Rattle.lexer.specs.Places.{part}
use Rattle.clauses.specs.Clauses.{Reading, clause, ended, unreadable}
use Rattle.clauses.specs.First.{first}
use Rattle.clauses.specs.declared.Clause.{Clause}
use Rattle.clauses.specs.declared.Clause.TheVariants.{Read, End, Unreadable}
use Rattle.dimensions.specs.declared.Dimensions.{Dimensions}
use Rattle.tables.specs.Tables.{Tables}
use Rattle.tables.specs.Rows.{row_at}
use Rattle.excerpts.specs.declared.Place.{Place}
use Rattle.excerpts.specs.Excerpts.{excerpt_checks, clause_of, same_words, between, place_in, place_of, clause_place, placed, placed_code, place_numbers}
use Rattle.excerpts.specs.Excerpts.{placed_numbers, bytes_at, clause_bytes}
use Rattle.excerpts.specs.PlaceByWords.{place_held, Ordered}
use Rattle.excerpts.proofs.Clauses.{Lies, clause_lies, NoneRead}
use Rattle.excerpts.proofs.Checks.{asked}

-- ---- a clause's place from its words

module _ (station : ℕ) (positive negative : ℕ) (y : Clause) where
  pub no_place : NoneRead y → between station 0 0 ≡ place_held station y positive negative
  no_place q = go y q
    where
      go : (z : Clause) → NoneRead z → between station 0 0 ≡ place_held station z positive negative
      go (Read row from to) q = absurd (q _ _ _ refl)
      go End q = refl
      go Unreadable q = refl

  module _ (row : Row) (from to : ℕ) (h : y ≡ Read row from to) where
    by-words : place_held station y positive negative
        ≡ cond (eqb row.positive positive && eqb row.negative negative) (between station from to) (between station 0 0)
    by-words = ap (λ (z : Clause). place_held station z positive negative) h

    pub other-positive : (row.positive ≡ positive → ⊥) → between station 0 0 ≡ place_held station y positive negative
    other-positive n = sym (by-words ∙ rw (ne_eqb row.positive positive n))

    pub other-negative : row.positive ≡ positive → (row.negative ≡ negative → ⊥) → between station 0 0 ≡ place_held station y positive negative
    other-negative p n = sym (by-words ∙ rw (eq-eqb row.positive positive p, ne_eqb row.negative negative n))

    pub own-place : row.positive ≡ positive → row.negative ≡ negative → between station from to ≡ place_held station y positive negative
    own-place p n = sym (by-words ∙ rw (eq-eqb row.positive positive p, eq-eqb row.negative negative n))

    pub in_order : Ordered y → from ≤ to
    in_order o = let k : from < to = subst Ordered h o in omega arith

-- ---- the place of a station's row

held-is : (station : ℕ) (text : List ℕ) (row : Row) (x : Reading) → Lies text x → place_held station (first x) row.positive
    row.negative ≡ place_in station x row
held-is station text row (clause ls from to rest) l =
    ap (λ (r : Row). cond (eqb r.positive row.positive && eqb r.negative row.negative) (between station from to)
    (between station 0 0)) l.2
held-is station text row ended l = refl
held-is station text row unreadable l = refl

first-ordered : (text : List ℕ) (x : Reading) → Lies text x → Ordered (first x)
first-ordered text (clause ls from to rest) l = l.0
first-ordered text ended l = tt
first-ordered text unreadable l = tt

module _ (station : ℕ) (words text : List ℕ) (i : ℕ) (y : Clause) (e : y ≡ first (clause_of text i)) where
  pub ordered : Ordered y
  ordered = subst Ordered (sym e) (first-ordered text (clause_of text i) (clause_lies text i))

  pub place_found : (p : Place) → p ≡ place_held station y (row_at words i).positive (row_at words i).negative → p ≡ place_of station words text i
  place_found p h =
      h ∙ ap (λ (z : Clause). place_held station z (row_at words i).positive (row_at words i).negative) e
      ∙ held-is station text (row_at words i) (clause_of text i) (clause_lies text i)

-- ---- places lie in the texts

-- in the text of its station
abbrev Within : List ℕ → Place → Type 0
Within text p = p.start + p.length ≤ length text

nothing-within : (station : ℕ) (text : List ℕ) → Within text (between station 0 0)
nothing-within station text = omega arith

place-within : (station : ℕ) (text : List ℕ) (row : Row) (x : Reading) → Lies text x → Within text (place_in station x row)
place-within station text row (clause ls from to rest) l =
    on (same_words ls row)
    (λ e. rw e (omega (arith, l.0, l.1)))
    (λ e. rw e (nothing-within station text))
place-within station text row ended l = nothing-within station text
place-within station text row unreadable l = nothing-within station text

station_kept : (station : ℕ) (x : Reading) (row : Row) → (place_in station x row).station ≡ station
station_kept station (clause ls from to rest) row = on (same_words ls row) (λ e. rw e) (λ e. rw e)
station_kept station ended row = refl
station_kept station unreadable row = refl

module _ (d : Dimensions) (tables : Tables) (text_of_left text_of_right : List ℕ) (number : ℕ) where
  -- a row of the left station, and one of the right
  left_is : number ≤ d.left → clause_place d tables text_of_left text_of_right number ≡ place_of 0 tables.left text_of_left (number - 1)
  unfolding clause_place
  left_is h = rw (le-leb number d.left h)

  right_is : d.left < number → clause_place d tables text_of_left text_of_right number ≡ place_of 1 tables.right text_of_right (number - d.left - 1)
  unfolding clause_place
  right_is h = rw (lt-leb number d.left h)

  -- of either station, the place is in its text
  either : (P : Place → Type 0)
      → ((p : Place) → p.station ≡ 0 → Within text_of_left p → P p)
      → ((p : Place) → p.station ≡ 1 → Within text_of_right p → P p) → P (clause_place d tables text_of_left text_of_right number)
  either P left right =
      on (leb number d.left)
      (λ e. let i = number - 1 in
      subst P (sym (left_is (leb-true number d.left e)))
      (left _ (station_kept 0 (clause_of text_of_left i) (row_at tables.left i))
      (place-within 0 text_of_left (row_at tables.left i) (clause_of text_of_left i) (clause_lies text_of_left i))))
      (λ e. let i = number - d.left - 1 in
      subst P (sym (right_is (leb-false number d.left e)))
      (right _ (station_kept 1 (clause_of text_of_right i) (row_at tables.right i))
      (place-within 1 text_of_right (row_at tables.right i) (clause_of text_of_right i) (clause_lies text_of_right i))))

  -- ---- the answer

  abbrev answer : Outcome → Result Place Refusal
  answer o = given o (Ok (clause_place d tables text_of_left text_of_right number)) Err

  -- it says its number and its values
  pub with-said : (p : Result Place Refusal) → p ≡ placed d tables text_of_left text_of_right number
      → (p ≡ placed d tables text_of_left text_of_right number)
      × (placed_code p ∷ placed_numbers p
      ≡ said (outcome (excerpt_checks d tables text_of_left text_of_right number)) (place_numbers (clause_place d tables text_of_left text_of_right number)))
  unfolding placed
  with-said p e = (
    e,
    ap (λ (x : Result Place Refusal). placed_code x ∷ placed_numbers x) e
        ∙ given-said (λ (x : Result Place Refusal). placed_code x ∷ placed_numbers x) (outcome (excerpt_checks d tables text_of_left text_of_right number))
        (Ok (clause_place d tables text_of_left text_of_right number)) Err
        (place_numbers (clause_place d tables text_of_left text_of_right number)) refl (λ r. refl),
  )

  -- where asking for a clause is refused, that refusal is handed back and no place
  pub place-refused : (q : Refusal) → Err q ≡ outcome (excerpt_checks d tables text_of_left text_of_right number)
      → Err q ≡ placed d tables text_of_left text_of_right number
  unfolding placed
  place-refused q e = ap answer e

  module _ (e : (Ok tt) ≡ outcome (excerpt_checks d tables text_of_left text_of_right number)) where
    place-taken : Ok (clause_place d tables text_of_left text_of_right number) ≡ placed d tables text_of_left text_of_right number
    unfolding placed
    place-taken = ap answer e

    pub left-place : number ≤ d.left → (p : Place) → p ≡ place_of 0 tables.left text_of_left (number - 1) → Ok p
        ≡ placed d tables text_of_left text_of_right number
    left-place h p q = ap Ok (q ∙ sym (left_is h)) ∙ place-taken

    pub right_place : d.left < number → (p : Place) → p ≡ place_of 1 tables.right text_of_right (number - d.left - 1)
        → Ok p ≡ placed d tables text_of_left text_of_right number
    right_place h p q = ap Ok (q ∙ sym (right_is h)) ∙ place-taken

    pub some-row : 1 ≤ number
    some-row = (asked d tables text_of_left text_of_right number (sym e)).least

  -- ---- the bytes

  pub no_bytes : (q : Refusal) → Err q ≡ placed d tables text_of_left text_of_right number
      → [] ≡ clause_bytes d tables text_of_left text_of_right number
  unfolding placed clause_bytes
  no_bytes q e = go (outcome (excerpt_checks d tables text_of_left text_of_right number)) e
    where
      go : (o : Outcome) → Err q ≡ answer o
          → [] ≡ given o (bytes_at text_of_left text_of_right (clause_place d tables text_of_left text_of_right number)) (λ r. [])
      go (Ok _) h = absurd (let z : ◌≡◌ {A = ℕ} 0 1 = cc in omega arith)
      go (Err r) h = refl

  module _ (p : Place) (e : Ok p ≡ placed d tables text_of_left text_of_right number) where
    -- what is placed is the clause's place, and its bytes are there
    both : (p ≡ clause_place d tables text_of_left text_of_right number)
        × (bytes_at text_of_left text_of_right p ≡ clause_bytes d tables text_of_left text_of_right number)
    unfolding placed clause_bytes
    both = go (outcome (excerpt_checks d tables text_of_left text_of_right number)) e
      where
        go : (o : Outcome) → Ok p ≡ answer o
            → (p ≡ clause_place d tables text_of_left text_of_right number)
            × (bytes_at text_of_left text_of_right p ≡ given o (bytes_at text_of_left text_of_right (clause_place d tables text_of_left text_of_right number))
            (λ r. []))
        go (Ok _) h = let q : p ≡ clause_place d tables text_of_left text_of_right number = cc in (q, ap (bytes_at text_of_left text_of_right) q)
        go (Err r) h = absurd (let z : ◌≡◌ {A = ℕ} 0 1 = cc in omega arith)

    pub left-within : p.station ≡ 0 → p.start + p.length ≤ length text_of_left
    left-within =
        subst (λ (x : Place). x.station ≡ 0 → Within text_of_left x) (sym both.0)
        (either (λ x. x.station ≡ 0 → Within text_of_left x) (λ x s w h. w) (λ x s w h. absurd (omega (arith, s, h))))

    pub right_within : (p.station ≡ 0 → ⊥) → p.start + p.length ≤ length text_of_right
    right_within =
        subst (λ (x : Place). (x.station ≡ 0 → ⊥) → Within text_of_right x) (sym both.0)
        (either (λ x. (x.station ≡ 0 → ⊥) → Within text_of_right x) (λ x s w h. absurd (h s)) (λ x s w h. w))

    pub left-bytes : p.station ≡ 0 → part p.start (p.start + p.length) text_of_left ≡ clause_bytes d tables text_of_left text_of_right number
    left-bytes h =
        let k : p.start + p.length - p.start ≡ p.length = omega arith in
        ap (λ (i : ℕ). take i (drop p.start text_of_left)) k
        ∙ sym (ap (λ (t : Bool). take p.length (drop p.start (cond t text_of_left text_of_right))) (eq-eqb p.station 0 h)) ∙ both.1

    pub right_bytes : (p.station ≡ 0 → ⊥) → part p.start (p.start + p.length) text_of_right ≡ clause_bytes d tables text_of_left text_of_right number
    right_bytes h =
        let k : p.start + p.length - p.start ≡ p.length = omega arith in
        ap (λ (i : ℕ). take i (drop p.start text_of_right)) k
        ∙ sym (ap (λ (t : Bool). take p.length (drop p.start (cond t text_of_left text_of_right))) (ne_eqb p.station 0 h)) ∙ both.1
