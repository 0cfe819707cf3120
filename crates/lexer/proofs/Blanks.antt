-- Remarks passed by: after separators comes a token, or a remark whose bytes are separators too up to its LF. A byte at a time.
use mathlib.Core.Path.{◌≡◌, refl, sym, ap, ◌∙◌}
use mathlib.Core.Bool.{Bool, true, false, not, ◌&&◌, cond}
use mathlib.Core.List.{List, [], ◌∷◌}
use Prim.Native.Nat.{ℕ, zero, suc, ◌+◌, ◌-◌, ◌<◌}
use native.Mathlib.Nat.{zero-add, add-zero, suc-add}
use native.Mathlib.Omega.{arith}
use lib.Dec.{eqb, ltb}
use lib.ListN.{length, drop, get_or, drop_of_length-le, get_or-eq_default}
use lib.Seq.{drop-cons, drop-drop, get_or-drop}
use borrow.Author.Tests.{eqb-true, lt-ltb, le-ltb, ltb-true, ltb-false}
use Rattle.words.proofs.Truth.{on, and_l, and_r}
use Rattle.lexer.specs.Bytes.{is_separator, is_line_feed, run}
use Rattle.lexer.specs.Places.{run_end}
use Rattle.lexer.specs.Blanks.{LinePlace, start, further, remark, blanked, token_start, remark_at}
use Rattle.lexer.proofs.Cuts.{stops}

abbrev in_line : ℕ → Bool
in_line b = not (is_line_feed b)

-- a line's start, or further on
abbrev opens : Bool → LinePlace
opens t = cond t start further

-- ---- separators in front

separator_no_c : (b : ℕ) → is_separator b ≡ true → eqb b 99 ≡ false
separator_no_c b e =
    on (eqb b 99)
    (λ c. let f : false ≡ true = sym (ap is_separator (eqb-true b 99 c)) ∙ e in absurd (let z : ◌≡◌ {A = ℕ} 0 1 = cc in omega arith))
    (λ c. c)

separator_stays : (t : Bool) (b : ℕ) (bs : List ℕ) → is_separator b ≡ true → blanked (opens t) (b ∷ bs) ≡ b ∷ blanked (opens (is_line_feed b)) bs
unfolding blanked
separator_stays true b bs e = rw (separator_no_c b e)
separator_stays false b bs e = refl

-- whether a line starts after some bytes
abbrev behind : Bool → List ℕ → ℕ → Bool
behind t bs zero = t
behind t bs (suc j) = is_line_feed (get_or bs j 0)

behind_more : (t : Bool) (b : ℕ) (bs : List ℕ) (k : ℕ) → behind (is_line_feed b) bs k ≡ behind t (b ∷ bs) (suc k)
behind_more t b bs zero = refl
behind_more t b bs (suc j) = refl

separators_stay : (t : Bool) (bs : List ℕ)
    → run is_separator (blanked (opens t) bs) ≡ run is_separator bs + run is_separator
    (blanked (opens (behind t bs (run is_separator bs))) (drop (run is_separator bs) bs))
unfolding run blanked
separators_stay t [] = refl
separators_stay t (b ∷ bs) =
    on (is_separator b)
    (λ e. ap (run is_separator) (separator_stays t b bs e) ∙ rw e
    (ap suc (separators_stay (is_line_feed b) bs)
    ∙ sym (suc-add (run is_separator bs) _)
    ∙ ap (λ (x : Bool). suc (run is_separator bs) + run is_separator (blanked (opens x) (drop (run is_separator bs) bs)))
    (behind_more t b bs (run is_separator bs))))
    (λ e. rw e (sym (zero-add _)))

-- ---- a token or a remark after them

token_stops : (t : Bool) (b : ℕ) (bs : List ℕ) → is_separator b ≡ false → eqb b 99 && t ≡ false → run is_separator (blanked (opens t) (b ∷ bs)) ≡ 0
unfolding run blanked
token_stops true b bs e c = on (eqb b 99) (λ d. absurd (let z : true ≡ false = sym (rw d) ∙ c in let y : ◌≡◌ {A = ℕ} 0 1 = cc in omega arith)) (λ d. rw (d, e))
token_stops false b bs e c = rw e

remark_run : (bs : List ℕ) → run is_separator (blanked remark bs) ≡ run in_line bs + run is_separator (blanked further (drop (run in_line bs) bs))
unfolding blanked run
remark_run [] = refl
remark_run (b ∷ bs) =
    on (eqb b 10)
    (λ e. rw (eqb-true b 10 e) (sym (zero-add _)))
    (λ e. rw e (ap suc (remark_run bs) ∙ sym (suc-add _ _)))

remark_passes : (b : ℕ) (bs : List ℕ) → b ≡ 99
    → run is_separator (blanked start (b ∷ bs)) ≡ run in_line (b ∷ bs) + run is_separator (blanked further (drop (run in_line (b ∷ bs)) (b ∷ bs)))
unfolding blanked run
remark_passes b bs e = rw e (ap suc (remark_run bs) ∙ sym (suc-add _ _))

-- ---- the next token from a place on

-- a line starts right after separators where the byte before is an LF that is not before `at`
behind-is : (text : List ℕ) (at k : ℕ) → behind false (drop at text) k ≡ ltb at (at + k) && is_line_feed (get_or text (at + k - 1) 0)
behind-is text at zero = rw (le-ltb at (at + 0) (omega arith))
behind-is text at (suc j) =
    let i : at + j ≡ at + suc j - 1 = omega arith in
    rw (lt-ltb at (at + suc j) (omega arith)) (ap is_line_feed (get_or-drop at text j 0 ∙ ap (λ (x : ℕ). get_or text x 0) i))

module _ (text : List ℕ) (at from : ℕ) (e : from ≡ run_end is_separator text at) where
  abbrev fresh : Bool
  fresh = ltb at from && is_line_feed (get_or text (from - 1) 0)

  front : token_start text at ≡ from + run is_separator (blanked (opens fresh) (drop from text))
  unfolding token_start run_end
  front =
      let k = run is_separator (drop at text) in
      let a : run is_separator (blanked further (drop at text))
      ≡ k + run is_separator (blanked (opens (ltb at (at + k) && is_line_feed (get_or text (at + k - 1) 0))) (drop (at + k) text))
      = separators_stay false (drop at text)
      ∙ ap (λ (x : Bool). k + run is_separator (blanked (opens x) (drop k (drop at text)))) (behind-is text at k)
      ∙ ap (λ (l : List ℕ). k + run is_separator (blanked (opens (ltb at (at + k) && is_line_feed (get_or text (at + k - 1) 0))) l)) (drop-drop k at text) in
      rw e (omega (arith, a))

  -- no remark: a token, or the end
  pub stays : remark_at text at from ≡ false → from ≡ token_start text at
  unfolding run blanked
  stays c =
      on (ltb from (length text))
      (λ l. let h : from < length text = ltb-true from (length text) l in
      let stop : is_separator (get_or text from 0) ≡ false = ap (λ (x : ℕ). is_separator (get_or text x 0)) e ∙ stops is_separator text at (rw e at h) in
      sym (front ∙ ap (λ (x : List ℕ). from + run is_separator (blanked (opens fresh) x)) (drop-cons text from 0 h)
      ∙ ap (λ (x : ℕ). from + x) (token_stops fresh (get_or text from 0) (drop (suc from) text) stop c) ∙ add-zero from))
      (λ l. sym (front ∙ rw (drop_of_length-le text (ltb-false from (length text) l)) (add-zero from)))

  module _ (c : remark_at text at from ≡ true) where
    pub later : at < from
    later = ltb-true at from (and_l (ltb at from) _ (and_r (eqb (get_or text from 0) 99) fresh c))

    pub inside : from < length text
    inside =
        on (ltb from (length text))
        (λ l. ltb-true from (length text) l)
        (λ l. let z : get_or text from 0 ≡ 99 = eqb-true (get_or text from 0) 99 (and_l (eqb (get_or text from 0) 99) fresh c) in
        absurd (omega (arith, z, get_or-eq_default text 0 (ltb-false from (length text) l))))

    -- a remark: what comes after it
    pub passes : token_start text at ≡ token_start text (run_end in_line text from)
    unfolding token_start run_end
    passes =
        let k = run in_line (drop from text) in
        let b = get_or text from 0 in
        let is_c : b ≡ 99 = eqb-true b 99 (and_l (eqb b 99) fresh c) in
        let first : drop from text ≡ b ∷ drop (suc from) text = drop-cons text from 0 inside in
        let s : run is_separator (blanked start (drop from text)) ≡ k + run is_separator (blanked further (drop (from + k) text))
        = rw first (remark_passes b (drop (suc from) text) is_c) ∙ ap (λ (x : List ℕ). k + run is_separator (blanked further x)) (drop-drop k from text) in
        front ∙ ap (λ (x : Bool). from + run is_separator (blanked (opens x) (drop from text))) (and_r (eqb b 99) fresh c) ∙ omega (arith, s)
