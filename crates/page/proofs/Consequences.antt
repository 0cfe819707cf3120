-- What the round trips come to, from their statements alone: no page shows two models and no model has two pages, what is refused with 27 is no model's page,
-- and the model of a satisfied run of six variables is read off its page.
use mathlib.Core.Path.{◌≡◌, refl, sym, ◌∙◌}
use mathlib.Core.Bool.{false}
use mathlib.Core.List.{List}
use Prim.Native.Nat.{ℕ, ◌*◌, ◌^◌, ◌<◌}
use native.Mathlib.Omega.{arith}
use lib.ListN.{length, take, replicate}
use Rattle.std.specs.Prelude.{Ok, Err}
use Rattle.refusals.specs.Checks.{outcome}
use Rattle.refusals.specs.declared.Refusal.TheVariants.{PageForm}
use Rattle.words.specs.Sets.{bit, all}
use Rattle.dimensions.specs.Sizes.{outside}
use Rattle.state.specs.declared.Standing.TheVariants.{Satisfied}
use Rattle.state.specs.WellFormed.{disjoint, within, well_formed}
use Rattle.verdicts.specs.Verdicts.{model_of}
use Rattle.page.specs.Page.{page_of}
use Rattle.page.specs.Entries.{shape_checks, page_after, model_on}
use Rattle.page.proofs.RoundTrip.{page-read, read-page, run-shown}
use Rattle.page.proofs.Examples.{run}

module _ (n p s : ℕ) where
  -- pages that are read as one model have the same first 80 × p bytes
  one-page : (m : ℕ) (page other : List ℕ) → model_on n p s page ≡ Ok m → model_on n p s other ≡ Ok m → take (80 * p) page ≡ take (80 * p) other
  one-page m page other e f = (read-page n p s m page e).0 ∙ sym (read-page n p s m other f).0

  -- two models of n variables do not have one page
  one-model : (m : ℕ) (page : List ℕ) → outside 32 n ≡ false → outcome (shape_checks n p s (length page)) ≡ Ok tt → model_on n p s page ≡ Ok m
      → (k : ℕ) → k < 2 ^ n → page_of p s k ≡ page_of p s m → k ≡ m
  one-model m page h taken e k low same-pages =
      let again : Ok k ≡ Ok m = sym (page-read n p s k page h taken low ((read-page n p s m page e).0 ∙ sym same-pages)) ∙ e in
      cc

  -- what is refused with 27 is no model's page
  no_page : (page : List ℕ) → outside 32 n ≡ false → outcome (shape_checks n p s (length page)) ≡ Ok tt → model_on n p s page ≡ Err PageForm
      → (m : ℕ) → m < 2 ^ n → take (80 * p) page ≡ page_of p s m → ⊥
  no_page page h taken e m low is =
      let both : Ok m ≡ Err PageForm = sym (page-read n p s m page h taken low is) ∙ e in
      let z : ◌≡◌ {A = ℕ} 0 1 = cc in
      omega arith

  -- a model that is read is one of n variables
  read_low : (m : ℕ) (page : List ℕ) → model_on n p s page ≡ Ok m → m < 2 ^ n
  read_low m page e = (read-page n p s m page e).1

-- the run of six variables with T = 35, its page over 161 bytes that were 0
shown_again : model_on 6 2 3 (page_after (run Satisfied 35 4) 2 3 (replicate 161 0)) ≡ Ok 35
unfolding run well_formed disjoint within bit all model_of
shown_again = run-shown (run Satisfied 35 4) 2 3 (replicate 161 0) refl
