-- How a walk of MIR shows several promises at its end, one by one.
use mathlib.Core.List.{List}
use seplogic.Ra.Ura.{Ura}
use base.Logic.{SProp, sep, assoc∗}
use types.Logic.{Logic}
use contract.Monad.{fact}
use types.Kit.{Item, prop, Step, step, ◌$◌, suffices}
use denote.Triple.Walked.{says}

-- a goal P ∗ (⌜φ⌝ ∗ ⌜ψ⌝), as two `ensures` make it: both are shown, and P is left
pub says_both : {M : Type 1} {𝓤 : Ura M} {𝓛 : Logic 𝓤} {K : Type 0} {Γ : List (Item 𝓤)} → K → {φ ψ : Type 0} {P : SProp 𝓤}
    → φ → ψ → Step K 𝓛 Γ (prop P) Γ (prop (sep 𝓤 P (sep 𝓤 (fact 𝓤 φ) (fact 𝓤 ψ))))
says_both {𝓤 = 𝓤} t {φ} {ψ} {P} x y = step (λ s. suffices t _ (assoc∗ 𝓤 P (fact 𝓤 φ) (fact 𝓤 ψ)) $ says t y $ says t x $ s)

-- and as three make it
pub says_three : {M : Type 1} {𝓤 : Ura M} {𝓛 : Logic 𝓤} {K : Type 0} {Γ : List (Item 𝓤)} → K → {φ ψ χ : Type 0} {P : SProp 𝓤}
    → φ → ψ → χ → Step K 𝓛 Γ (prop P) Γ (prop (sep 𝓤 P (sep 𝓤 (fact 𝓤 φ) (sep 𝓤 (fact 𝓤 ψ) (fact 𝓤 χ)))))
says_three {𝓤 = 𝓤} t {φ} {ψ} {χ} {P} x y z =
    step (λ s. suffices t _ (assoc∗ 𝓤 P (fact 𝓤 φ) (sep 𝓤 (fact 𝓤 ψ) (fact 𝓤 χ))) $ says_both t y z $ says t x $ s)
