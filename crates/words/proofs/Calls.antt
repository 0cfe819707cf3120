-- What `from_fn` gives, of a function whose calls leave it as it was: by induction on the calls.
use mathlib.Core.Path.{◌≡◌, subst, ◌∙◌}
use mathlib.Core.List.{List}
use Prim.Native.Nat.{ℕ, zero, suc, ◌+◌, ◌<◌}
use native.Mathlib.Omega.{arith}
use lib.ListN.{get_or}
use denote.Param.Members.{Mut}
use Rattle.std.specs.Fn.{Called}
use Rattle.std.specs.Array.{IsFromFnResult, IsFromFnResultFrom}

module _ {F B : Type 0} {g : Mut F (ℕ × Unit {0}) B} {f : F} (ys : List B) (d : B) (h : ℕ → B)
    (gives : (i : ℕ) (y : B) (q : F) → Called g f (i, tt) y q → (q ≡ f) × (y ≡ h i)) where
  given_from : (n i : ℕ) → IsFromFnResultFrom g f ys i n → (k : ℕ) → k < n → get_or ys (i + k) d ≡ h (i + k)
  given_from zero i w k b = absurd (omega arith)
  given_from (suc n) i (q, y, at, called, rest) zero b =
      let e : i + 0 ≡ i = omega arith in
      rw e (at.1 d ∙ (gives i y q called).1)
  given_from (suc n) i (q, y, at, called, rest) (suc k) b =
      let e : i + suc k ≡ i + 1 + k = omega arith in
      let later : IsFromFnResultFrom g f ys (i + 1) n = subst (λ (p : F). IsFromFnResultFrom g p ys (i + 1) n) (gives i y q called).0 rest in
      rw e (given_from n (i + 1) later k (omega arith))

  -- element k is what the function gives for k
  pub given_by_calls : {n : ℕ} → IsFromFnResult g f ys n → (k : ℕ) → k < n → get_or ys k d ≡ h k
  given_by_calls {n} w k b = let e : 0 + k ≡ k = omega arith in rw e at (given_from n 0 w.each k b)
