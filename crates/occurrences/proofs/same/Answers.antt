-- `same` meets its contract: `==` compares pair by pair, as the definition does. By induction on the words.
use Rattle.std.proofs.Common.{◌≡◌, ℕ, ◌&&◌, List, [], ◌∷◌, nat_eq, refl, ap}
use lib.Pointwise.{pointwise}
use Rattle.words.specs.Sameness.{same}
use Rattle.occurrences.proofs.same.Goals as goal

pair_by_pair : (a b : List ℕ) → pointwise nat_eq a b ≡ same a b
unfolding same
pair_by_pair [] [] = refl
pair_by_pair [] (y ∷ ys) = refl
pair_by_pair (x ∷ xs) [] = refl
pair_by_pair (x ∷ xs) (y ∷ ys) = ap (λ b. nat_eq x y && b) (pair_by_pair xs ys)

pub returns : goal.returns
returns c = let e = pair_by_pair c.args.a.now c.args.b.now in cc
