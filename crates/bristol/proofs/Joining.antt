-- The writer's lines in order are the text: asked from the first line on, each time with room for a line, and each time from where the last request
-- ended, it leaves in front of the lent bytes what joins to the text, and past the last line nothing. By induction on the requests, once for both
-- entries. With room for the whole text one request puts it.
use mathlib.Core.Path.{◌≡◌, refl, sym, ap, ap₂, ◌∙◌}
use mathlib.Core.Bool.{Bool, true, false, cond}
use mathlib.Core.List.{List, [], ◌∷◌, ◌++◌, append_assoc, append-nil, flatten}
use Prim.Native.Nat.{ℕ, zero, suc, ◌+◌, ◌/◌, ◌≤◌, ◌<◌}
use native.Mathlib.Omega.{arith}
use borrow.Author.Tests.{le-ltb, ltb-true, ltb-false}
use lib.Dec.{ltb}
use lib.ListN.{length, take, drop, drop_of_length-le, length-append}
use lib.Seq.{take-append_seam, drop-cons, drop-drop}
use Rattle.std.specs.Prelude.{Option, Some, None, Result, Ok, Err}
use Rattle.refusals.specs.declared.Refusal.{Refusal}
use Rattle.refusals.specs.declared.Refusal.TheVariants.{LineBuffer}
use Rattle.refusals.specs.Checks.{outcome}
use Rattle.dimensions.specs.declared.Dimensions.{Dimensions}
use Rattle.gates.specs.Memory.{gates_of, over}
use Rattle.bristol.specs.Text.{circuit_lines, circuit_text}
use Rattle.bristol.specs.Writing.{circuit_checks, line_at, written_line, filled_line, front_put, requested, lines_written_from, written_lines, filled_lines}
use Rattle.bristol.proofs.Fitting.{fitting_past, fitting-next, fitting-front, fitting-all}
use Rattle.bristol.proofs.Requests.{taken_lines, past_last, line-put, lines_by-room}

-- ---- requests in a row, whatever each puts

-- what k requests put, from a line's number on: each from the line after those that the last one counted
unfoldable pub asked : (ℕ → List ℕ) → (ℕ → ℕ) → ℕ → ℕ → List ℕ
asked put count i zero = []
asked put count i (suc k) = put i ++ asked put count (i + count i) k

-- a front of the lines and what comes after it
flatten_front : (k : ℕ) (ls : List (List ℕ)) → flatten (take k ls) ++ flatten (drop k ls) ≡ flatten ls
unfolding flatten
flatten_front zero ls = refl
flatten_front (suc k) [] = refl
flatten_front (suc k) (l ∷ ls) = append_assoc l (flatten (take k ls)) (flatten (drop k ls)) ∙ ap (λ (x : List ℕ). l ++ x) (flatten_front k ls)

-- requests that put the lines they count, and at least one while there is one
module _ (ls : List (List ℕ)) (put : ℕ → List ℕ) (count : ℕ → ℕ)
    (whole : (i : ℕ) → put i ≡ flatten (take (count i) (drop i ls))) (some : (i : ℕ) → i < length ls → 1 ≤ count i) where
  pub asked-join : (i k : ℕ) → length ls ≤ i + k → asked put count i k ≡ flatten (drop i ls)
  unfolding asked flatten
  asked-join i zero h =
      let all : length ls ≤ i = omega arith in
      ap flatten (sym (drop_of_length-le ls all))
  asked-join i (suc k) h =
      ap₂ (λ (x y : List ℕ). x ++ y) (whole i) (asked-join (i + count i) k (enough (ltb i (length ls)) refl) ∙ ap flatten (sym (drop-drop (count i) i ls)))
      ∙ flatten_front (count i) (drop i ls)
    where
      enough : (b : Bool) → ltb i (length ls) ≡ b → length ls ≤ i + count i + k
      enough true e = omega (arith, some i (ltb-true i (length ls) e), h)
      enough false e = omega (arith, ltb-false i (length ls) e)

-- ---- a line a request

-- the lent bytes have room for the line that is asked
module _ (d : Dimensions) (ws : List ℕ) (e : outcome (circuit_checks d ws) ≡ Ok tt) (lent : ℕ → List ℕ)
    (room : (i : ℕ) → length (line_at d ws i) ≤ length (lent i)) where
  fits : (i : ℕ) → ltb (length (lent i)) (length (line_at d ws i)) ≡ false
  fits i = le-ltb (length (lent i)) (length (line_at d ws i)) (room i)

  one_line : (i : ℕ) → front_put (written_line d ws i (lent i)) (filled_line d ws i (lent i)) ≡ flatten (take 1 (drop i (circuit_lines d (gates_of ws))))
  unfolding flatten
  one_line i = go (ltb i (length (circuit_lines d (gates_of ws)))) refl
    where
      go : (b : Bool) → ltb i (length (circuit_lines d (gates_of ws))) ≡ b → front_put (written_line d ws i (lent i)) (filled_line d ws i (lent i))
          ≡ flatten (take 1 (drop i (circuit_lines d (gates_of ws))))
      go true q =
          let p = line-put d ws i (lent i) e (ltb-true _ _ q) in
          ap₂ front_put
          (sym p.0 ∙ ap (λ b. cond b (Err LineBuffer) (Ok (Some (length (line_at d ws i))))) (fits i))
          (sym p.1 ∙ ap (λ b. cond b (lent i) (over (line_at d ws i) (lent i))) (fits i))
          ∙ take-append_seam (line_at d ws i) (drop (length (line_at d ws i)) (lent i)) ∙ sym (append-nil (line_at d ws i))
          ∙ ap (λ (x : List (List ℕ)). flatten (take 1 x)) (sym (drop-cons (circuit_lines d (gates_of ws)) i [] (ltb-true _ _ q)))
      go false q =
          ap (λ (x : Result (Option ℕ) Refusal). front_put x (filled_line d ws i (lent i))) (sym (past_last d ws i (lent i) e (ltb-false _ _ q)).0)
          ∙ ap (λ (x : List (List ℕ)). flatten (take 1 x)) (sym (drop_of_length-le (circuit_lines d (gates_of ws)) (ltb-false _ _ q)))

  abbrev put : ℕ → List ℕ
  put j = front_put (written_line d ws j (lent j)) (filled_line d ws j (lent j))

  -- the next number is one more
  in_a_row : (i k : ℕ) → requested d ws lent i k ≡ asked put (λ j. 1) i k
  unfolding requested asked
  in_a_row i zero = refl
  in_a_row i (suc k) = ap (λ (x : List ℕ). put i ++ x) (in_a_row (suc i) k ∙ ap (λ (j : ℕ). asked put (λ l. 1) j k) (omega arith))

  -- requests in a row from line 0 on, each with room for its line and at least as many as there are lines, put the text of a circuit that is taken
  pub requests_join : (k : ℕ) → 4 + length ws / 3 ≤ k → requested d ws lent 0 k ≡ circuit_text d (gates_of ws)
  unfolding circuit_text
  requests_join k h = in_a_row 0 k ∙ asked-join (circuit_lines d (gates_of ws)) put (λ j. 1) one_line (λ i b. omega arith) 0 k
      (omega (arith, taken_lines d ws e))

  -- and there is no further line
  pub requests_end : (i : ℕ) → 4 + length ws / 3 ≤ i → (written_line d ws i (lent i) ≡ (Ok None)) × (filled_line d ws i (lent i) ≡ lent i)
  requests_end i h =
      let p = past_last d ws i (lent i) e (omega (arith, taken_lines d ws e)) in
      (sym p.0, sym p.1)

-- ---- as many lines a request as fit

-- how many lines a request put
abbrev pub counted : Result (ℕ × ℕ) Refusal → ℕ
counted (Ok (k, n)) = k
counted (Err r) = 0

-- and their bytes
abbrev pub fronts : Result (ℕ × ℕ) Refusal → List ℕ → List ℕ
fronts (Ok (k, n)) bytes = take n bytes
fronts (Err r) bytes = []

-- the fronts of k requests, each from the line after those that the last one put, each with lent bytes of its own
abbrev pub requested_lines : Dimensions → List ℕ → (ℕ → List ℕ) → ℕ → ℕ → List ℕ
requested_lines d ws lent i k = asked (λ j. fronts (written_lines d ws j (lent j)) (filled_lines d ws j (lent j)))
    (λ j. counted (written_lines d ws j (lent j))) i k

-- lent bytes that take the line from which they are asked
module _ (d : Dimensions) (ws : List ℕ) (e : outcome (circuit_checks d ws) ≡ Ok tt) (lent : ℕ → List ℕ)
    (room : (i : ℕ) → length (line_at d ws i) ≤ length (lent i)) where
  given_lines : (i : ℕ) → (written_lines d ws i (lent i)
      ≡ Ok ((length (lines_written_from d ws i (lent i))), (length (flatten (lines_written_from d ws i (lent i))))))
      × (filled_lines d ws i (lent i) ≡ over (flatten (lines_written_from d ws i (lent i))) (lent i))
  given_lines i = lines_by-room d ws i (lent i) e false (le-ltb (length (lent i)) (length (line_at d ws i)) (room i))

  some_lines : (i : ℕ) → fronts (written_lines d ws i (lent i)) (filled_lines d ws i (lent i))
      ≡ flatten (take (counted (written_lines d ws i (lent i))) (drop i (circuit_lines d (gates_of ws))))
  some_lines i =
      let p = given_lines i in
      ap₂ fronts p.0 p.1 ∙ take-append_seam (flatten (lines_written_from d ws i (lent i)))
      (drop (length (flatten (lines_written_from d ws i (lent i)))) (lent i))
      ∙ ap flatten (fitting-front (length (lent i)) (drop i (circuit_lines d (gates_of ws))))
      ∙ ap (λ (x : Result (ℕ × ℕ) Refusal). flatten (take (counted x) (drop i (circuit_lines d (gates_of ws))))) (sym p.0)

  one-at_least : (i : ℕ) → i < length (circuit_lines d (gates_of ws)) → 1 ≤ counted (written_lines d ws i (lent i))
  one-at_least i h = omega (arith, ap counted (given_lines i).0, ap length (fitting-next (circuit_lines d (gates_of ws)) i (length (lent i)) h (room i)))

  -- a request for each line is enough, however many lines each puts
  pub lines_join : (k : ℕ) → 4 + length ws / 3 ≤ k → requested_lines d ws lent 0 k ≡ circuit_text d (gates_of ws)
  unfolding circuit_text
  lines_join k h =
      asked-join (circuit_lines d (gates_of ws)) (λ j. fronts (written_lines d ws j (lent j)) (filled_lines d ws j (lent j)))
      (λ j. counted (written_lines d ws j (lent j)))
      some_lines one-at_least 0 k (omega (arith, taken_lines d ws e))

  -- and past the last line none is put
  pub lines_end : (i : ℕ) → 4 + length ws / 3 ≤ i → (written_lines d ws i (lent i) ≡ Ok (0, 0)) × (filled_lines d ws i (lent i) ≡ lent i)
  unfolding flatten
  lines_end i h =
      let none : lines_written_from d ws i (lent i) ≡ [] = fitting_past (circuit_lines d (gates_of ws)) i (length (lent i))
      (omega (arith, taken_lines d ws e)) in (
        (given_lines i).0 ∙ ap (λ (x : List (List ℕ)). Ok ((length x), (length (flatten x)))) none,
        (given_lines i).1 ∙ ap (λ (x : List (List ℕ)). over (flatten x) (lent i)) none,
      )

-- ---- lent bytes that take the whole text: one request puts it

module _ (d : Dimensions) (ws : List ℕ) (e : outcome (circuit_checks d ws) ≡ Ok tt) (lent : List ℕ)
    (room : length (circuit_text d (gates_of ws)) ≤ length lent) where
  first_fits : length (line_at d ws 0) ≤ length lent
  unfolding circuit_text circuit_lines flatten
  first_fits = omega (arith, room, length-append (line_at d ws 0) (flatten (drop 1 (circuit_lines d (gates_of ws)))))

  all_lines : lines_written_from d ws 0 lent ≡ circuit_lines d (gates_of ws)
  unfolding circuit_text
  all_lines = fitting-all (length lent) (circuit_lines d (gates_of ws)) room

  -- with room for the text of a taken circuit, a request from line 0 on says its lines and bytes, and leaves it in front of the lent bytes
  pub lines_whole : (written_lines d ws 0 lent ≡ Ok ((length (circuit_lines d (gates_of ws))), (length (circuit_text d (gates_of ws)))))
      × (filled_lines d ws 0 lent ≡ over (circuit_text d (gates_of ws)) lent)
  unfolding circuit_text
  lines_whole =
      let p = lines_by-room d ws 0 lent e false (le-ltb (length lent) (length (line_at d ws 0)) first_fits) in (
        p.0 ∙ ap (λ (x : List (List ℕ)). Ok ((length x), (length (flatten x)))) all_lines,
        p.1 ∙ ap (λ (x : List (List ℕ)). over (flatten x) lent) all_lines,
      )
