-- Lines put one after the other: those that are put, and those that still fit after them, are those that fit from the first on. Each turn unfolds `fitting`
-- once.
use mathlib.Core.Path.{◌≡◌, refl, sym, ap, ap₂, ◌∙◌}
use mathlib.Core.Bool.{Bool, true, false}
use mathlib.Core.List.{List, [], ◌∷◌, ◌++◌, append_assoc, append-nil, flatten}
use Prim.Native.Nat.{ℕ, suc, ◌+◌, ◌-◌, ◌≤◌, ◌<◌}
use native.Mathlib.Omega.{arith}
use native.Mathlib.Nat.{sub-zero}
use borrow.Author.Tests.{ltb-true, ltb-false}
use lib.Dec.{ltb}
use borrow.Rule.Slice.PartMut.{mid_of, put_mid}
use lib.ListN.{length, get_or, take, drop, length-append, length-drop, take-append-drop, get_or-eq_default}
use lib.Seq.{length-take-le, take_at, drop_at, drop-drop}
use Rattle.std.specs.Prelude.{Result, Ok, Err}
use Rattle.refusals.specs.declared.Refusal.{Refusal}
use Rattle.refusals.specs.declared.Refusal.TheVariants.{LineBuffer}
use Rattle.refusals.specs.Checks.{outcome}
use Rattle.dimensions.specs.declared.Dimensions.{Dimensions}
use Rattle.gates.specs.Memory.{gates_of, over}
use Rattle.bristol.specs.Text.{circuit_lines}
use Rattle.bristol.specs.Writing.{circuit_checks, line_at, fitting, lines_written_from, written_lines, filled_lines}
use Rattle.bristol.proofs.Parts.{lent_part, put_back}
use Rattle.bristol.proofs.Fitting.{fitting-next, fitting-none}
use Rattle.bristol.proofs.Requests.{Fits, was-put, not-put, lines_by-room}

-- the lent bytes after some turns, with the number of the line to come and of the bytes put
pub record Put (ls : List (List ℕ)) (lent : List ℕ) (line : ℕ) (bytes : List ℕ) (next at : ℕ) : Type 0 where
  pub after : line ≤ next
  pub inside : at ≤ length lent
  pub same : length bytes ≡ length lent
  pub counted : next - line + length (fitting (length lent - at) (drop next ls)) ≡ length (fitting (length lent) (drop line ls))
  pub text : take at bytes ++ flatten (fitting (length lent - at) (drop next ls)) ≡ flatten (fitting (length lent) (drop line ls))
  pub kept : drop at bytes ≡ drop at lent

module _ (ls : List (List ℕ)) (lent : List ℕ) (line : ℕ) where
  pub none-put : Put ls lent line lent line 0
  none-put = record {
    after = omega arith;
    inside = omega arith;
    same = refl;
    counted = rw sub-zero (omega arith);
    text = ap (λ (k : ℕ). flatten (fitting k (drop line ls))) (sub-zero (length lent));
    kept = refl;
  }

  module _ (bytes : List ℕ) (next at : ℕ) (p : Put ls lent line bytes next at) where
    -- one line more, written over the bytes after those that are put
    module _ (l out : List ℕ) (h : next < length ls) (e : get_or ls next [] ≡ l) (f : length l ≤ length (drop at bytes))
        (o : out ≡ take at bytes ++ over l (drop at bytes)) where
      room : at + length l ≤ length lent
      room = omega (arith, length-drop at bytes, p.same, p.inside)

      more : fitting (length lent - at) (drop next ls) ≡ l ∷ fitting (length lent - (at + length l)) (drop (suc next) ls)
      more =
          let less : length lent - at - length l ≡ length lent - (at + length l) = omega arith in
          fitting-next ls next (length lent - at) h (omega (arith, room, ap length e))
          ∙ ap (λ (x : List ℕ). x ∷ fitting (length lent - at - length x) (drop (suc next) ls)) e
          ∙ ap (λ (k : ℕ). l ∷ fitting k (drop (suc next) ls)) less

      front : length (take at bytes ++ l) ≡ at + length l
      front = omega (arith, length-append (take at bytes) l, length-take-le at bytes (omega (arith, p.same, p.inside)))

      split : out ≡ (take at bytes ++ l) ++ drop (length l) (drop at bytes)
      split = o ∙ sym (append_assoc (take at bytes) l (drop (length l) (drop at bytes)))

      one_more : Put ls lent line out (suc next) (at + length l)
      unfolding flatten
      one_more = record {
        after = omega (arith, p.after);
        inside = room;
        same = ap length split ∙ omega (
          arith,
          length-append (take at bytes ++ l) (drop (length l) (drop at bytes)),
          front,
          length-drop (length l) (drop at bytes),
          length-drop at bytes,
          p.same,
          room,
        );
        counted = omega (arith, p.counted, p.after, ap length more);
        text =
            ap (λ (x : List ℕ). x ++ flatten (fitting (length lent - (at + length l)) (drop (suc next) ls)))
            (ap (take (at + length l)) split ∙ take_at (take at bytes ++ l) (drop (length l) (drop at bytes)) (at + length l) front)
            ∙ append_assoc (take at bytes) l (flatten (fitting (length lent - (at + length l)) (drop (suc next) ls)))
            ∙ ap (λ (x : List (List ℕ)). take at bytes ++ flatten x) (sym more) ∙ p.text;
        kept =
            ap (drop (at + length l)) split ∙ drop_at (take at bytes ++ l) (drop (length l) (drop at bytes)) (at + length l) front
            ∙ ap (drop (length l)) p.kept ∙ drop-drop (length l) at lent;
      }

    -- nothing fits any more: what is put is what fits
    module _ (z : fitting (length lent - at) (drop next ls) ≡ []) where
      put_text : take at bytes ≡ flatten (fitting (length lent) (drop line ls))
      unfolding flatten
      put_text = sym (ap (λ (x : List (List ℕ)). take at bytes ++ flatten x) z ∙ append-nil (take at bytes)) ∙ p.text

      put_count : next - line ≡ length (fitting (length lent) (drop line ls))
      put_count = omega (arith, p.counted, ap length z)

      put-length : at ≡ length (flatten (fitting (length lent) (drop line ls)))
      put-length = sym (length-take-le at bytes (omega (arith, p.same, p.inside))) ∙ ap length put_text

      put-bytes : bytes ≡ over (flatten (fitting (length lent) (drop line ls))) lent
      put-bytes =
          sym (take-append-drop at bytes) ∙ ap₂ (λ (x y : List ℕ). x ++ y) put_text p.kept
          ∙ ap (λ (k : ℕ). flatten (fitting (length lent) (drop line ls)) ++ drop k lent) put-length

-- ---- a turn: the next line is put to the bytes after those that are put, or it is too long

module _ (d : Dimensions) (ws : List ℕ) (e : outcome (circuit_checks d ws) ≡ Ok tt) (line : ℕ) (lent bytes : List ℕ) (next at : ℕ)
    (p : Put (circuit_lines d (gates_of ws)) lent line bytes next at) (h : next < length (circuit_lines d (gates_of ws))) (r : Result ℕ Refusal) (out : List ℕ)
    (f : Fits (line_at d ws next) (mid_of at (length bytes - at) bytes) r out) where
  part : Fits (line_at d ws next) (drop at bytes) r out
  part = rw (lent_part bytes at) at f

  pub line-more : (k : ℕ) → r ≡ Ok k → Put (circuit_lines d (gates_of ws)) lent line (put_mid at (length bytes - at) bytes out) (next + 1) (at + k)
  line-more k w =
      let q = was-put (line_at d ws next) (drop at bytes) r out k part w in
      let more = one_more (circuit_lines d (gates_of ws)) lent line bytes next at p (line_at d ws next) (put_mid at (length bytes - at) bytes out) h refl q.1
      (put_back bytes at out ∙ ap (λ (x : List ℕ). take at bytes ++ x) q.2) in
      let step : suc next ≡ next + 1 = omega arith in
      rw (step, q.0) at more

  pub line-last : (q : Refusal) → r ≡ Err q
      → (q ≡ LineBuffer) × (put_mid at (length bytes - at) bytes out ≡ bytes)
      × (fitting (length lent - at) (drop next (circuit_lines d (gates_of ws))) ≡ [])
  line-last z w =
      let q = not-put (line_at d ws next) (drop at bytes) r out z part w in (
        q.0,
        put_back bytes at out ∙ ap (λ (x : List ℕ). take at bytes ++ x) q.2 ∙ take-append-drop at bytes,
        fitting-none (circuit_lines d (gates_of ws)) next (length lent - at) h (omega (arith, length-drop at bytes, p.same, q.1)),
      )

-- ---- what is answered where the turns stop

module _ (d : Dimensions) (ws : List ℕ) (e : outcome (circuit_checks d ws) ≡ Ok tt) (line : ℕ) (lent bytes : List ℕ) (next at : ℕ)
    (p : Put (circuit_lines d (gates_of ws)) lent line bytes next at) (z : fitting (length lent - at) (drop next (circuit_lines d (gates_of ws))) ≡ []) where
  -- a first line that there is and that has no room: none is put
  long_first : line < length (circuit_lines d (gates_of ws)) → ltb (length lent) (length (line_at d ws line)) ≡ true → next ≡ line
  long_first h q = omega (
    arith,
    p.after,
    put_count (circuit_lines d (gates_of ws)) lent line bytes next at p z,
    ap length (fitting-none (circuit_lines d (gates_of ws)) line (length lent) h (ltb-true _ _ q)),
  )

  pub lines_put : (next ≡ line → length (circuit_lines d (gates_of ws)) ≤ line) → (Ok ((next - line), at) ≡ written_lines d ws line lent)
      × (bytes ≡ filled_lines d ws line lent)
  lines_put some =
      let q = lines_by-room d ws line lent e false
      (fits (ltb (length lent) (length (line_at d ws line))) refl (ltb line (length (circuit_lines d (gates_of ws)))) refl) in (
        ap₂ (λ (a : ℕ) (b : ℕ). Ok (a, b)) (put_count (circuit_lines d (gates_of ws)) lent line bytes next at p z)
            (put-length (circuit_lines d (gates_of ws)) lent line bytes next at p z)
            ∙ sym q.0,
        put-bytes (circuit_lines d (gates_of ws)) lent line bytes next at p z ∙ sym q.1,
      )
    where
      fits : (b : Bool) → ltb (length lent) (length (line_at d ws line)) ≡ b → (c : Bool) → ltb line (length (circuit_lines d (gates_of ws))) ≡ c
          → ltb (length lent) (length (line_at d ws line)) ≡ false
      fits false q c r = q
      fits true q true r = let there : line < length (circuit_lines d (gates_of ws)) = ltb-true _ _ r in absurd (omega (arith, some (long_first there q)))
      fits true q false r =
          let none : line_at d ws line ≡ [] = get_or-eq_default (circuit_lines d (gates_of ws)) [] (ltb-false _ _ r) in
          absurd (omega (arith, ltb-true (length lent) (length (line_at d ws line)) q, ap length none))

  pub lines_refused : line < length (circuit_lines d (gates_of ws)) → next ≡ line → (Err LineBuffer ≡ written_lines d ws line lent)
      × (bytes ≡ filled_lines d ws line lent)
  unfolding flatten
  lines_refused h none =
      let q = lines_by-room d ws line lent e true (long (ltb (length lent) (length (line_at d ws line))) refl) in
      (sym q.0, put-bytes (circuit_lines d (gates_of ws)) lent line bytes next at p z ∙ ap (λ (x : List (List ℕ)). over (flatten x) lent) empty ∙ sym q.1)
    where
      long : (b : Bool) → ltb (length lent) (length (line_at d ws line)) ≡ b → ltb (length lent) (length (line_at d ws line)) ≡ true
      long true q = q
      long false q =
          absurd (omega (
            arith,
            none,
            put_count (circuit_lines d (gates_of ws)) lent line bytes next at p z,
            ap length (fitting-next (circuit_lines d (gates_of ws)) line (length lent) h (ltb-false _ _ q)),
          ))

      empty : lines_written_from d ws line lent ≡ []
      empty = fitting-none (circuit_lines d (gates_of ws)) line (length lent) h (ltb-true _ _ (long (ltb (length lent) (length (line_at d ws line))) refl))
