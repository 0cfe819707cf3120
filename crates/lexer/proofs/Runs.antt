-- Where a run of bytes ends, from whether the first of the bytes that are left passes, and that it is what std counts.
use mathlib.Core.Path.{◌≡◌, refl, sym, ◌∙◌}
use mathlib.Core.Bool.{Bool, true, false, cond}
use mathlib.Core.List.{List, [], ◌∷◌}
use Prim.Native.Nat.{ℕ, suc, ◌+◌, ◌≤◌, ◌<◌, max}
use native.Mathlib.Nat.{add-zero}
use native.Mathlib.Numerals.{add-one}
use native.Mathlib.Omega.{arith}
use borrow.Author.Tests.{ltb-true, ltb-false}
use lib.Dec.{ltb}
use lib.ListN.{length, drop, get_or, drop_of_length-le, length-drop}
use lib.Seq.{drop-cons}
use Rattle.std.specs.List.{prefix_len, take_while}
use Rattle.std.proofs.lemmas.List.Folds.{length-prefix_len}
use Rattle.words.proofs.Truth.{on}
use Rattle.lexer.specs.Bytes.{run}
use Rattle.lexer.specs.Places.{run_end}

-- past the end there is no run
pub end_out : (p : ℕ → Bool) (text : List ℕ) (at : ℕ) → length text ≤ at → run_end p text at ≡ at
unfolding run_end run
end_out p text at h = rw (drop_of_length-le text h) (add-zero at)

-- a byte that does not pass ends it
pub end_stop : (p : ℕ → Bool) (text : List ℕ) (at : ℕ) → at < length text → p (get_or text at 0) ≡ false → run_end p text at ≡ at
unfolding run_end run
end_stop p text at h e = rw (drop-cons text at 0 h, e) (add-zero at)

-- a byte that passes belongs to it
pub end_more : (p : ℕ → Bool) (text : List ℕ) (at : ℕ) → at < length text → p (get_or text at 0) ≡ true → run_end p text at ≡ run_end p text (at + 1)
unfolding run_end run
end_more p text at h e = rw (add-one, drop-cons text at 0 h, e) (omega arith)

-- where no byte from `at` to the end stops it, it ends at the end, or at `at` if that is past it
pub end_max : (p : ℕ → Bool) (text : List ℕ) (at i : ℕ) → run_end p text i ≡ run_end p text at → length text ≤ i
    → (at ≤ length text → i ≤ length text) → max at (length text) ≡ run_end p text at
end_max p text at i e h k =
    on (ltb (length text) at)
    (λ q. let past = ltb-true (length text) at q in
    let own : max at (length text) ≡ at = omega (arith, past) in own ∙ sym (end_out p text at (omega (arith, past))))
    (λ q. let within = k (ltb-false (length text) at q) in
    let last : max at (length text) ≡ i = omega (arith, within, h, ltb-false (length text) at q) in last ∙ sym (end_out p text i h) ∙ e)

run_le : (p : ℕ → Bool) (bs : List ℕ) → run p bs ≤ length bs
unfolding run
run_le p [] = omega arith
run_le p (b ∷ bs) = go (p b) (run_le p bs)
  where
    go : (t : Bool) → run p bs ≤ length bs → cond t (suc (run p bs)) 0 ≤ suc (length bs)
    go true h = omega arith
    go false h = omega arith

-- a run ends no earlier than where it starts
pub end_ge : (p : ℕ → Bool) (text : List ℕ) (at : ℕ) → at ≤ run_end p text at
unfolding run_end
end_ge p text at = omega arith

-- a run that starts no later than the text's end ends no later than it
pub end_le : (p : ℕ → Bool) (text : List ℕ) (at : ℕ) → at ≤ length text → run_end p text at ≤ length text
unfolding run_end
end_le p text at h = omega (arith, run_le p (drop at text), length-drop at text)

-- how many bytes are in front: what std counts
prefix_is : (p : ℕ → Bool) (bs : List ℕ) → prefix_len p bs ≡ run p bs
unfolding run
prefix_is p [] = refl
prefix_is p (b ∷ bs) = on (p b) (λ e. rw e (omega (arith, prefix_is p bs))) (λ e. rw e)

pub run_is : (p : ℕ → Bool) (bs : List ℕ) → length (take_while p bs) ≡ run p bs
run_is p bs = length-prefix_len p bs ∙ prefix_is p bs
