-- A part of the templates in memory holds that part of their gates: by what `take` and `drop` leave of a list.
use mathlib.Core.Path.{◌≡◌, refl, ap, ◌∙◌}
use mathlib.Core.Bool.{true}
use mathlib.Core.List.{List, [], ◌∷◌}
use Prim.Native.Nat.{ℕ, zero, suc, ◌+◌, ◌-◌, ◌/◌, ◌%◌, ◌≤◌}
use native.Mathlib.Omega.{arith}
use lib.Dec.{ltb}
use lib.ListN.{length, take, drop, length-drop}
use lib.Seq.{length-take-le}
use Rattle.words.proofs.Truth.{and_l, and_r}
use Rattle.gates.specs.Gates.{Gate}
use Rattle.gates.specs.Memory.{gate_of}
use Rattle.sections.specs.Cells as Cells
use Rattle.sections.specs.Cells.{Template, all_size}
use Rattle.netlist.specs.Templates as Templates
use Rattle.generator.specs.Storing.{gates_in, tidy, templates}

take_gates : (k : ℕ) (t : List ℕ) → gates_in (take k t) ≡ take k (gates_in t)
take_gates zero t = refl
take_gates (suc k) [] = refl
take_gates (suc k) (g ∷ t) = ap (λ (l : List Gate). gate_of (g / 65536) (g / 256 % 256) (g % 256) ∷ l) (take_gates k t)

drop_gates : (k : ℕ) (t : List ℕ) → gates_in (drop k t) ≡ drop k (gates_in t)
drop_gates zero t = refl
drop_gates (suc k) [] = refl
drop_gates (suc k) (g ∷ t) = drop_gates k t

tidy-take : (k : ℕ) (t : List ℕ) → tidy t ≡ true → tidy (take k t) ≡ true
tidy-take zero t e = refl
tidy-take (suc k) [] e = refl
tidy-take (suc k) (g ∷ t) e =
    rw (
      and_l (ltb (g / 65536) 3) (tidy t) e,
      tidy-take k t (and_r (ltb (g / 65536) 3) (tidy t) e),
    )

tidy-drop : (k : ℕ) (t : List ℕ) → tidy t ≡ true → tidy (drop k t) ≡ true
tidy-drop zero t e = e
tidy-drop (suc k) [] e = refl
tidy-drop (suc k) (g ∷ t) e = tidy-drop k t (and_r (ltb (g / 65536) 3) (tidy t) e)

-- gates f to e of all templates t
pub part : (t : List ℕ) → gates_in t ≡ templates → tidy t ≡ true → length t ≡ all_size → (from end f k : ℕ) → from ≡ f → end ≡ f + k → f + k ≤ all_size
    → (tidy (take (end - from) (drop from t)) ≡ true) × (length (take (end - from) (drop from t)) ≡ k)
    × (gates_in (take (end - from) (drop from t)) ≡ take k (drop f templates))
part t g e l from end f k ef ee h =
    let size : end - from ≡ k = omega arith in
    let room : end - from ≤ length (drop from t) = omega (arith, length-drop from t) in (
      tidy-take (end - from) (drop from t) (tidy-drop from t e),
      length-take-le (end - from) (drop from t) room ∙ size,
      take_gates (end - from) (drop from t) ∙ ap (take (end - from)) (drop_gates from t ∙ ap (drop from) g) ∙ ap (λ (j : ℕ). take j (drop from templates)) size
          ∙ ap (λ (j : ℕ). take k (drop j templates)) ef,
    )

-- ---- the numbers that `sections` has for the templates

-- the gates that a template's numbers name
abbrev numbered : Template → List Gate
numbered t = take t.size (drop t.first templates)

-- they are the template's
pub templates-numbered :
    (numbered Cells.sum ≡ Templates.sum)
    × (numbered Cells.literal ≡ Templates.literal)
    × (numbered Cells.count ≡ Templates.count)
    × (numbered Cells.rank ≡ Templates.rank)
    × (numbered Cells.bye ≡ Templates.bye)
    × (numbered Cells.pair ≡ Templates.pair)
    × (numbered Cells.node ≡ Templates.node)
    × (numbered Cells.choice ≡ Templates.choice)
    × (numbered Cells.rule ≡ Templates.rule)
    × (numbered Cells.split ≡ Templates.split)
    × (numbered Cells.target ≡ Templates.target)
    × (numbered Cells.guard ≡ Templates.guard)
    × (numbered Cells.select ≡ Templates.select)
    × (numbered Cells.level ≡ Templates.level)
    × (numbered Cells.assignment ≡ Templates.assignment)
    × (numbered Cells.standing ≡ Templates.standing)
templates-numbered = (refl, refl, refl, refl, refl, refl, refl, refl, refl, refl, refl, refl, refl, refl, refl, refl)
