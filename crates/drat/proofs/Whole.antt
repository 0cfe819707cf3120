-- The lines of a text one after the other: what is left gives what the whole gives.
use Rattle.refusals.specs.Numbers.{Outcome}
use Rattle.std.specs.Prelude.{Option, Some, None, Ok, Err}
use mathlib.Core.Path.{◌≡◌, refl, sym, ap, ◌∙◌}
use mathlib.Core.Bool.{Bool, true, false, not, ◌||◌, cond, true≢false}
use mathlib.Core.List.{List, []}
use Prim.Native.Nat.{ℕ, ◌+◌, ◌-◌, ◌≤◌, ◌<◌}
use native.Mathlib.Numerals.{add-one}
use native.Mathlib.Omega.{arith}
use lib.Dec.{ltb}
use lib.ListN.{length, take, drop, drop_of_length-le}
use lib.Seq.{drop-cons, drop-drop}
use borrow.Author.Tests.{le-ltb, ltb-true, ltb-false}
use Rattle.refusals.specs.Checks.{outcome}
use Rattle.refusals.specs.declared.Refusal.TheVariants.{ProofText, NotFollowing, NoEmptyClause}
use Rattle.words.specs.declared.Row.{Row}
use Rattle.words.proofs.Truth.{on}
use Rattle.lexer.specs.Bytes.{is_line_feed, run}
use Rattle.lexer.specs.Places.{run_end}
use Rattle.lexer.specs.Pieces.{cut, lines_from}
use Rattle.lexer.proofs.Cuts.{later, cut-first}
use Rattle.lexer.proofs.Runs.{end_le}
use Rattle.tables.specs.Rows.{rows_from}
use Rattle.drat_line.specs.Lines.{line_said}
use Rattle.drat.specs.declared.rup.Stage.{Stage}
use Rattle.drat.specs.declared.rup.Stage.TheVariants.{Checking, Accepted, Failed}
use Rattle.drat.specs.declared.Checker.{Checker}
use Rattle.drat.specs.Proofs.{ProofLine, all_follow, adds_empty, additions}
use Rattle.drat.specs.Progress.{outcome_at}
use Rattle.drat.specs.Text.{line_before, proof_lines, few_additions, proof_text_checks}
use Rattle.drat.specs.Checking.{ending, Reads, Room, Ends}

abbrev pub in_line : ℕ → Bool
in_line b = not (is_line_feed b)

module _ (n : ℕ) (text : List ℕ) where
  -- past the end there is an empty line, which says nothing
  past : (i : ℕ) → length text < i → proof_lines n (lines_from text i) ≡ Some []
  unfolding proof_lines line_said cut run_end run
  past i h = rw (drop_of_length-le text (let z : length text ≤ i = omega arith in z))

  no_lines : proof_lines n [] ≡ Some []
  unfolding proof_lines
  no_lines = refl

  behind-line : (i : ℕ) → proof_lines n (later is_line_feed i (drop i text)) ≡ proof_lines n (lines_from text (i + 1))
  behind-line i =
      on (ltb i (length text))
      (λ e. rw (drop-cons text i 0 (ltb-true i (length text) e), add-one))
      (λ e. let h = ltb-false i (length text) e in
      ap (λ (l : List ℕ). proof_lines n (later is_line_feed i l)) (drop_of_length-le text h) ∙ no_lines ∙ sym (past (i + 1) (omega arith)))

  first-line : (at k : ℕ) → k ≡ run in_line (drop at text)
      → proof_lines n (lines_from text at) ≡ line_before (line_said n (take k (drop at text)))
      (proof_lines n (later is_line_feed (at + k) (drop (at + k) text)))
  unfolding proof_lines
  first-line at k e =
      ap (proof_lines n) (cut-first is_line_feed at (drop at text))
      ∙ ap (λ (j : ℕ). line_before (line_said n (take j (drop at text))) (proof_lines n (later is_line_feed (at + j) (drop j (drop at text))))) (sym e)
      ∙ ap (λ (l : List ℕ). line_before (line_said n (take k (drop at text))) (proof_lines n (later is_line_feed (at + k) l))) (drop-drop k at text)

  -- a line, and the lines after it
  line_step : (at end : ℕ) → end ≡ run_end in_line text at
      → proof_lines n (lines_from text at) ≡ line_before (line_said n (take (end - at) (drop at text))) (proof_lines n (lines_from text (end + 1)))
  unfolding run_end
  line_step at end e =
      let z : at + (end - at) + 1 ≡ end + 1 = omega (arith, e) in
      first-line at (end - at) (omega (arith, e))
      ∙ ap (line_before (line_said n (take (end - at) (drop at text)))) (behind-line (at + (end - at)) ∙ ap (λ (j : ℕ). proof_lines n (lines_from text j)) z)

-- ---- start and end

start_is : (w : List ℕ) (count : ℕ) (x : Option (List ProofLine))
    → ending (record { progress = record { count = count; stage = Checking }; additions = 0; malformed = false }) w x
    ≡ outcome (proof_text_checks (rows_from w 0 count) (few_additions x))
start_is w count None = refl
start_is w count (Some ls) =
    let e : 0 + additions ls ≡ additions ls = omega arith in
    rw e (on (ltb 256 (additions ls)) (λ q. rw q) (λ q. rw q))

-- the outcome of how far a proof has come at the end
abbrev pub outcome_by : Stage → Outcome
outcome_by Checking = Err NoEmptyClause
outcome_by Accepted = Ok tt
outcome_by Failed = Err NotFollowing

no_additions : additions [] ≡ 0
unfolding additions
no_additions = refl

final : (m l : Bool) (s : Stage) (rows : List Row) → m ≡ false → l ≡ false → outcome_by s ≡ cond (m || l) (Err ProofText) (outcome_at s rows [])
unfolding all_follow adds_empty
final true l s rows a b = absurd (true≢false a)
final false true s rows a b = absurd (true≢false b)
final false false Checking rows a b = refl
final false false Accepted rows a b = refl
final false false Failed rows a b = refl

pub ends_malformed : (checker : Checker) → checker.malformed ≡ true → Ends checker (Err ProofText)
ends_malformed checker e w = rw e

module _ (checker : Checker) (few : checker.additions ≤ 256) (h : checker.malformed ≡ false) where
  not-over : ltb 256 (checker.additions + additions []) ≡ false
  not-over = le-ltb 256 (checker.additions + additions []) (omega (arith, no_additions))

  pub ends_stage : (s : Stage) → checker.progress.stage ≡ s → Ends checker (outcome_by s)
  ends_stage s e w =
      ap outcome_by (sym e)
      ∙ final checker.malformed (ltb 256 (checker.additions + additions [])) checker.progress.stage (rows_from w 0 checker.progress.count) h not-over

-- ---- a line taken

line_taken : (n : ℕ) (text : List ℕ) (at end : ℕ) (checker : Checker) (w : List ℕ) (checker' : Checker) (y : List ℕ) → end ≡ run_end in_line text at
    → Reads (line_said n (take (end - at) (drop at text))) checker w checker' y
    → ending checker' y (proof_lines n (lines_from text (end + 1))) ≡ ending checker w (proof_lines n (lines_from text at))
line_taken n text at end checker w checker' y e h = h (proof_lines n (lines_from text (end + 1))) ∙ ap (ending checker w) (sym (line_step n text at end e))

all-taken : (n : ℕ) (text : List ℕ) (at : ℕ) (checker : Checker) (w : List ℕ) (r : Outcome) → length text < at → Ends checker r
    → r ≡ ending checker w (proof_lines n (lines_from text at))
all-taken n text at checker w r h e = e w ∙ ap (ending checker w) (sym (past n text at h))

-- ---- the loop

-- what is left gives what the whole gives
pub record Reading (n : ℕ) (text : List ℕ) (count : ℕ) (w₀ : List ℕ) (checker : Checker) (w : List ℕ) (at : ℕ) : Type 0 where
  pub room : Room checker w
  pub same_length : length w ≡ length w₀
  pub within : at ≤ length text + 1
  pub left : ending checker w (proof_lines n (lines_from text at))
      ≡ outcome (proof_text_checks (rows_from w₀ 0 count) (few_additions (proof_lines n (lines_from text 0))))

pub reading_start : (n : ℕ) (text : List ℕ) (count : ℕ) (w : List ℕ) → count ≤ 384 → 1280 ≤ length w
    → Reading n text count w (record { progress = record { count = count; stage = Checking }; additions = 0; malformed = false }) w 0
reading_start n text count w few space = record {
  room = record { few = omega arith; rows = omega arith; space = space };
  same_length = refl;
  within = omega arith;
  left = start_is w count (proof_lines n (lines_from text 0));
}

module _ (n : ℕ) (text : List ℕ) (count : ℕ) (w₀ : List ℕ) (checker : Checker) (w : List ℕ) (at : ℕ) (R : Reading n text count w₀ checker w at) where
  pub reading_more : (end : ℕ) (checker' : Checker) (y : List ℕ) → at ≤ length text → end ≡ run_end in_line text at → length y ≡ length w → Room checker' y
      → Reads (line_said n (take (end - at) (drop at text))) checker w checker' y → Reading n text count w₀ checker' y (end + 1)
  reading_more end checker' y h e same room reads = record {
    room = room;
    same_length = same ∙ R.same_length;
    within = omega (arith, e, end_le in_line text at h);
    left = line_taken n text at end checker w checker' y e reads ∙ R.left;
  }

  pub reading_end : (r : Outcome) → length text < at → Ends checker r
      → r ≡ outcome (proof_text_checks (rows_from w₀ 0 count) (few_additions (proof_lines n (lines_from text 0))))
  reading_end r h e = all-taken n text at checker w r h e ∙ R.left
