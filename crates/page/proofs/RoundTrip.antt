-- Both ways: the model read off the page of a model is that model, a page that is read is exactly the page of the model read, and what is
-- read off a run's page is the run's model. Mark by mark: variable v has its mark in the line of pilot v / s.
use mathlib.Core.Path.{◌≡◌, refl, sym, ap, ap₂, ◌∙◌, subst}
use mathlib.Core.Bool.{Bool, true, false, not}
use mathlib.Core.List.{List, [], ◌∷◌}
use Prim.Native.Nat.{ℕ, ◌+◌, ◌-◌, ◌*◌, ◌/◌, ◌%◌, ◌^◌, ◌≤◌, ◌<◌}
use native.Mathlib.Nat.{mod-lt, div-lt_iff_lt-mul, div-add-mod'}
use native.Mathlib.Omega.{arith}
use lib.Dec.{eqb}
use lib.ListN.{length, get_or, take}
use lib.Seq.{sets, length-sets, get_or-take}
use borrow.Author.Tests.{not-false, le-ltb}
use Rattle.std.specs.Prelude.{Ok, Err}
use Rattle.refusals.specs.Numbers.{Outcome}
use Rattle.refusals.specs.Checks.{check, outcome, given}
use Rattle.refusals.specs.declared.Refusal.TheVariants.{Variables, PageForm}
use Rattle.refusals.proofs.Outcomes.{check_passed, checks-taken, outcome_parts}
use Rattle.words.specs.Sets.{bit}
use Rattle.words.proofs.WordOf.{word_of_lt, word_of_bit, word_of_cong}
use Rattle.words.proofs.Stores.{stored-take}
use Rattle.words.proofs.Sameness.{same_self, same_true}
use Rattle.words.specs.Sameness.{same}
use Rattle.dimensions.specs.Sizes.{outside}
use Rattle.dimensions.proofs.Limits.{least, most}
use Rattle.state.specs.declared.Run.{Run}
use Rattle.verdicts.specs.Verdicts.{model_checks, model_of}
use Rattle.page.specs.Page.{pilot_line, page_of}
use Rattle.page.specs.Reading.{mark_place, marked, is_page}
use Rattle.page.specs.Entries.{shape_checks, page_checks, page_after, model_on}
use Rattle.page.proofs.Lines.{mark_byte, line-odd, page-length, page-at}
use Rattle.page.proofs.Shapes.{Shape, shape_taken}
use Rattle.page.proofs.Answering.{shown, read-model, model-read}

-- a mark is `#` exactly where it means true
mark-tells : (b : Bool) → eqb (mark_byte b) 35 ≡ b
mark-tells true = refl
mark-tells false = refl

-- the place of a mark, taken apart
place-line : (a b : ℕ) → b < 32 → (80 * a + (4 + 2 * b)) / 80 ≡ a
place-line a b h = omega arith

place-column : (a b : ℕ) → b < 32 → (80 * a + (4 + 2 * b)) % 80 ≡ 4 + 2 * b
place-column a b h = omega arith

module _ (n p s size m : ℕ) (w : Shape n p s size) where
  -- the mark of variable v on the page of a model
  mark-shows : (v : ℕ) → v < n → get_or (page_of p s m) (mark_place s v) 0 ≡ mark_byte (bit m v)
  mark-shows v h =
      let a : ℕ = v / s in
      let b : ℕ = v % s in
      let b-low : b < s = mod-lt v w.watches_least in
      let b-small : b < 32 = omega (arith, w.watches_most) in
      let a-low : a < p = (div-lt_iff_lt-mul w.watches_least).1 (subst (λ (x : ℕ). v < x) (sym w.product) h) in
      let inside : 80 * a + (4 + 2 * b) < 80 * p = omega arith in
      let odd : (4 + 2 * b - 3) % 2 ≡ 0 → ⊥ = λ e. omega arith in
      let half : (4 + 2 * b - 3) / 2 ≡ b = omega arith in
      page-at p s m w.pilots_most w.watches_most (80 * a + (4 + 2 * b)) inside
      ∙ ap₂ (λ (x y : ℕ). get_or (pilot_line s m x) y 0) (place-line a b b-small) (place-column a b b-small)
      ∙ line-odd s m a w.watches_most (omega (arith, w.pilots_most)) (4 + 2 * b) (omega arith) (omega arith) odd
      ∙ ap (λ (x : ℕ). mark_byte (bit m (a * s + x))) half
      ∙ ap (λ (x : ℕ). mark_byte (bit m x)) (div-add-mod' v s)

  mark-inside : (v : ℕ) → v < n → mark_place s v < 80 * p
  mark-inside v h =
      let b-low : v % s < s = mod-lt v w.watches_least in
      let a-low : v / s < p = (div-lt_iff_lt-mul w.watches_least).1 (subst (λ (x : ℕ). v < x) (sym w.product) h) in
      within (v / s) (v % s) a-low (omega (arith, w.watches_most))
    where
      within : (a b : ℕ) → a < p → b < 32 → 80 * a + (4 + 2 * b) < 80 * p
      within a b h k = omega arith

  -- the marks of a page say its model
  marks_say : (page : List ℕ) → m < 2 ^ n → take (80 * p) page ≡ page_of p s m → marked n s page ≡ m
  unfolding marked
  marks_say page low e =
      word_of_cong (λ v. eqb (get_or page (mark_place s v) 0) 35) (bit m) n
      (λ v h.
      ap (λ (x : ℕ). eqb x 35)
      (sym (get_or-take (80 * p) page (mark_place s v) 0 (mark-inside v h)) ∙ ap (λ (l : List ℕ). get_or l (mark_place s v) 0) e ∙ mark-shows v h)
      ∙ mark-tells (bit m v))
      ∙ word_of_bit m n low

-- "the model can be read off it again": whatever page has the page of a model in front is read as that model, so that 27 says that no
-- model's page is there
pub page-read : (n p s m : ℕ) (page : List ℕ) → outside 32 n ≡ false → outcome (shape_checks n p s (length page)) ≡ Ok tt → m < 2 ^ n
    → take (80 * p) page ≡ page_of p s m → model_on n p s page ≡ Ok m
unfolding is_page
page-read n p s m page h taken low e =
    let w = shape_taken n p s (length page) (least 32 n h) (most 32 n h) taken in
    let says = marks_say n p s (length page) m w page low e in
    sym (read-model n p s page h taken
    (ap₂ same e (ap (page_of p s) says) ∙ same_self (page_of p s m)))
    ∙ ap Ok says

-- a page that is read is exactly the page of the model read, which is one of n variables
pub read-page : (n p s m : ℕ) (page : List ℕ) → model_on n p s page ≡ Ok m → (take (80 * p) page ≡ page_of p s m) × (m < 2 ^ n)
unfolding is_page marked
read-page n p s m page e =
    let parts = model-read n p s page m (sym e) in
    let form = (outcome_parts (shape_checks n p s (length page)) (check (not (is_page n p s page)) PageForm ∷ [])
    (checks-taken (outside 32 n) Variables _ parts.0)).1 in
    let is : is_page n p s page ≡ true = not-false (is_page n p s page) (check_passed (not (is_page n p s page)) PageForm (Ok tt) form) in (
      same_true (take (80 * p) page) (page_of p s (marked n s page)) is ∙ ap (page_of p s) (sym parts.1),
      subst (λ (x : ℕ). x < 2 ^ n) (sym parts.1) (word_of_lt (λ v. eqb (get_or page (mark_place s v) 0) 35) n),
    )

-- n is within its limits
inside : (n : ℕ) → 1 ≤ n → n ≤ 32 → outside 32 n ≡ false
inside n h k = rw (le-ltb n 1 h, le-ltb 32 n k)

-- "The page shows the model of the run it was made from": what is read off the page of a run is the run's model
pub run-shown : (run : Run) (p s : ℕ) (page : List ℕ) → outcome (page_checks run p s (length page)) ≡ Ok tt
    → model_on run.n p s (page_after run p s page) ≡ model_of run
unfolding page_after model_of
run-shown run p s page e =
    let parts = outcome_parts (model_checks run) (shape_checks run.n p s (length page)) e in
    let f = shown run parts.0 in
    let w = shape_taken run.n p s (length page) f.least f.most parts.1 in
    let left : page_after run p s page ≡ sets page 0 (page_of p s run.t)
    = ap (λ (o : Outcome). given o (sets page 0 (page_of p s run.t)) (λ r. page)) e in
    let long = page-length p s run.t w.pilots_most w.watches_most in
    let size : length (page_after run p s page) ≡ length page = ap length left ∙ length-sets page 0 (page_of p s run.t) in
    page-read run.n p s run.t (page_after run p s page) (inside run.n f.least f.most)
    (ap (λ (k : ℕ). outcome (shape_checks run.n p s k)) size ∙ parts.1)
    f.low
    (ap (take (80 * p)) left ∙ stored-take page (page_of p s run.t) (subst (λ (k : ℕ). k ≤ length page) (sym long) w.fits) (80 * p) long)
    ∙ sym (ap (λ (o : Outcome). given o (Ok run.t) Err) parts.0)
