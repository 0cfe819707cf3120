-- The header is the same without the remarks: what comes before it is left out, its line is kept, and what is kept of the text goes on after it. By the lines
-- before the header, one at a time.
use mathlib.Core.Path.{◌≡◌, refl, sym, ap, ap₂, ◌∙◌}
use mathlib.Core.Bool.{Bool, not}
use mathlib.Core.List.{List, []}
use mathlib.Core.Logic.{◌⊎◌, inl, inr, ⊎_elim}
use Prim.Native.Nat.{ℕ, zero, suc, ◌+◌, ◌-◌, ◌≤◌, ◌<◌}
use native.Mathlib.Nat.{add-zero}
use native.Mathlib.Omega.{arith}
use lib.Dec.{eqb, ltb}
use lib.ListN.{length, drop, take, get_or, drop_of_length-le, get_or-eq_default}
use lib.Seq.{drop-drop, get_or-drop}
use borrow.Author.Tests.{eqb-true, eqb-false, ltb-true, ltb-false}
use Rattle.std.specs.Prelude.{Err}
use Rattle.words.proofs.Truth.{on}
use Rattle.lexer.specs.Bytes.{is_line_feed, run, trimmed}
use Rattle.lexer.specs.Remarks.{without_remarks}
use Rattle.lexer.specs.Pieces.{cut, not_empty, lines_from, parts_from}
use Rattle.lexer.specs.Places.{run_end, part}
use Rattle.lexer.specs.Blanks.{start, further}
use Rattle.lexer.proofs.Runs.{end_ge}
use Rattle.lexer.proofs.Kept.{part_kept_from, kept-is, first-kept, line-run, line-take, line-drop, other-kept, remark_kept}
use Rattle.refusals.specs.declared.Refusal.TheVariants.{Text}
use Rattle.header.specs.declared.Header.{Header}
use Rattle.header.specs.Header.{past_remarks, sizes_of, headed, header_of}
use Rattle.header.proofs.Lines.{other-line, last_line, remark_line, no_line, header_at}

abbrev in_line : ℕ → Bool
in_line b = not (is_line_feed b)

module _ (text : List ℕ) where
  -- all lines from a place on are remarks
  abbrev NoLine : ℕ → Type 0
  NoLine at = (past_remarks (lines_from text at) ≡ []) × (part_kept_from start (drop at text) ≡ [])

  -- the first line that is not a remark is at h
  abbrev LineAt : ℕ → ℕ → Type 0
  LineAt at h =
      (h ≤ length text) × (past_remarks (lines_from text at) ≡ lines_from text h) × (get_or (drop h text) 0 0 ≡ 99 → ⊥)
      × (part_kept_from start (drop at text) ≡ part_kept_from further (drop h text))

  abbrev Search : ℕ → Type 0
  Search at = NoLine at ⊎ ((h : ℕ) × LineAt at h)

  byte_at : (at : ℕ) → get_or (drop at text) 0 0 ≡ get_or text at 0
  byte_at at = get_or-drop at text 0 0 ∙ ap (λ (i : ℕ). get_or text i 0) (add-zero at)

  -- the line at hand is the header's
  here : (at : ℕ) → at ≤ length text → past_remarks (lines_from text at) ≡ lines_from text at → (get_or text at 0 ≡ 99 → ⊥) → Search at
  here at h e c = let d : get_or (drop at text) 0 0 ≡ 99 → ⊥ = λ x. c (sym (byte_at at) ∙ x) in inr (at, (h, e, d, other-kept (drop at text) d))

  -- past a remark
  kept_past : (at : ℕ) → get_or text at 0 ≡ 99 → part_kept_from start (drop at text) ≡ part_kept_from start (drop (run_end in_line text at + 1) text)
  unfolding run_end
  kept_past at c =
      let k = run in_line (drop at text) in
      let i : at + suc k ≡ at + k + 1 = omega arith in
      remark_kept (drop at text) (byte_at at ∙ c) ∙ ap (part_kept_from start) (drop-drop (suc k) at text ∙ ap (λ (x : ℕ). drop x text) i)

  remark_here : (at : ℕ) → at < length text → get_or text at 0 ≡ 99 → (run_end in_line text at < length text → Search (run_end in_line text at + 1)) → Search at
  unfolding part_kept_from
  remark_here at l c next =
      let e = run_end in_line text at in
      on (ltb e (length text))
      (λ t. let k : e < length text = ltb-true e (length text) t in
      ⊎_elim
      (λ n. inl (remark_line text at l c k ∙ n.0, kept_past at c ∙ n.1))
      (λ n. inr (n.0, (n.1.0, remark_line text at l c k ∙ n.1.1, n.1.2, kept_past at c ∙ n.1.3)))
      (next k))
      (λ t. let k = ltb-false e (length text) t in
      inl (last_line text at l c k, kept_past at c ∙ rw (drop_of_length-le {A = ℕ} text {i = e + 1} (omega (arith, k)))))

  by_byte : (at : ℕ) → at ≤ length text → (at < length text → get_or text at 0 ≡ 99 → Search at) → Search at
  by_byte at h remark-case =
      on (ltb at (length text))
      (λ l. let i = ltb-true at (length text) l in
      on (eqb (get_or text at 0) 99)
      (λ c. remark-case i (eqb-true (get_or text at 0) 99 c))
      (λ c. let d = eqb-false (get_or text at 0) 99 c in here at h (other-line text at i d) d))
      (λ l. let o = ltb-false at (length text) l in
      here at h (no_line text at o) (λ x. let z : ◌≡◌ {A = ℕ} 0 99 = sym (get_or-eq_default text 0 o) ∙ x in omega arith))

  search_from : (fuel at : ℕ) → length text - at ≤ fuel → at ≤ length text → Search at
  search_from zero at f h = by_byte at h (λ l c. absurd (omega arith))
  search_from (suc fuel) at f h =
      by_byte at h (λ l c. remark_here at l c (λ k. search_from fuel (run_end in_line text at + 1) (omega (arith, end_ge in_line text at)) (omega arith)))

-- ---- the header, whatever the least row count

module _ (least : ℕ) (text : List ℕ) where
  -- the text without its remarks has the same sizes in its header, and goes on after it with what is kept of the text
  pub record Same : Type 0 where
    pub sizes : (header_of least (without_remarks text)).sizes ≡ (header_of least text).sizes
    pub rest : drop (header_of least (without_remarks text)).end (without_remarks text) ≡ part_kept_from further (drop (header_of least text).end text)

  same : (v : List ℕ) (g h : Header) → without_remarks text ≡ v → header_of least v ≡ g → header_of least text ≡ h
      → g.sizes ≡ h.sizes → drop g.end v ≡ part_kept_from further (drop h.end text) → Same
  same v g h w eg eh s r =
      let e : header_of least (without_remarks text) ≡ g = ap (header_of least) w ∙ eg in
      record {
        sizes = ap (λ (x : Header). x.sizes) e ∙ s ∙ sym (ap (λ (x : Header). x.sizes) eh);
        rest = ap₂ (λ (x : Header) (l : List ℕ). drop x.end l) e w ∙ r ∙ sym (ap (λ (x : Header). part_kept_from further (drop x.end text)) eh);
      }

  -- a text of remarks alone
  none : NoLine text 0 → Same
  unfolding header_of past_remarks cut trimmed run parts_from not_empty part_kept_from
  none (e, k) =
      same [] (record { sizes = Err Text; end = 0 }) (record { sizes = Err Text; end = length text })
      (kept-is text ∙ k) refl (ap (headed least text) e) refl (sym (rw (drop_of_length-le {A = ℕ} text {i = length text} (omega arith))))

  -- a text whose header's line is at h
  found : (h : ℕ) → LineAt text 0 h → Same
  unfolding header_of run_end
  found h (within, e, c, k) =
      let rest = drop h text in
      let v = part_kept_from further rest in
      let width = run in_line rest in
      let first : past_remarks (lines_from v 0) ≡ lines_from v 0
      = on (ltb 0 (length v))
      (λ l. other-line v 0 (ltb-true 0 (length v) l) (λ x. c (sym (first-kept rest) ∙ x)))
      (λ l. no_line v 0 (ltb-false 0 (length v) l)) in
      same v (record { sizes = sizes_of least (part 0 (0 + run in_line v) v); end = 0 + run in_line v })
      (record { sizes = sizes_of least (part h (h + width) text); end = h + width })
      (kept-is text ∙ k)
      (ap (headed least v) first ∙ header_at v 0 least (0 + run in_line v) refl (omega arith))
      (ap (headed least text) e ∙ header_at text h least (h + width) refl within)
      (ap (sizes_of least) (let i : 0 + run in_line v - 0 ≡ width = omega (arith, line-run rest) in let j : h + width - h ≡ width = omega arith in
      ap (λ (x : ℕ). take x v) i ∙ line-take rest ∙ sym (ap (λ (x : ℕ). take x rest) j)))
      (let i : 0 + run in_line v ≡ width = omega (arith, line-run rest) in
      ap (λ (x : ℕ). drop x v) i ∙ line-drop rest ∙ ap (part_kept_from further) (drop-drop width h text))

  -- whatever the least row count, a text without its remarks has the same sizes in its header, and after the header what is kept of the text
  pub header_same : Same
  header_same = ⊎_elim none (λ n. found n.0 n.1) (search_from text (length text) 0 (omega arith) (omega arith))
