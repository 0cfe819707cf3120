-- `digits_to` meets its contract: the digits' gates are summed as the definition adds them.
use Rattle.std.proofs.Common.{◌≡◌, ℕ, zero, suc, ◌+◌, ◌*◌, ◌≤◌, refl, ap, ◌∙◌, arith, rules, map, sum}
use Rattle.std.specs.List.{range_with_len}
use Rattle.std.proofs.lemmas.Iterator.{YieldsList-from_map, YieldsList-from_range}
use Rattle.std.proofs.lemmas.Iterator.Consumers.{sum_from_yields_List, fits_from_yields_list}
use Rattle.std.proofs.lemmas.List.FromFn.{sum_by-map-range_with_len_more}
use Rattle.sections.specs.Addressing.{digits_to, thresholds}
use Rattle.sections.proofs.DigitLaws.{digits-few}
use Rattle.sections.proofs.digits.digits_to.Goals as goal
use Rattle.sections.proofs.digits.digits_to.Goals.{After-map}

-- the gates of the digit of weight 2^k
abbrev gates : ℕ → ℕ → ℕ → ℕ
gates n m k = (1 + thresholds n k) * m

sum_is : (n m d : ℕ) → sum (map (gates n m) (range_with_len 0 d)) ≡ digits_to n m d
unfolding digits_to
sum_is n m zero = refl
sum_is n m (suc d) =
    let next : suc d ≡ d + 1 = omega arith in
    ap (λ k. sum (map (gates n m) (range_with_len 0 k))) next
    ∙ sum_by-map-range_with_len_more (λ x. x) (gates n m) 0 d d (omega arith)
    ∙ ap (λ s. s + gates n m d) (sum_is n m d)

few : (c : After-map) → digits_to c.args.n c.args.m c.args.d ≤ 979200
few c = let s = c.args in omega (arith, digits-few s.n s.m c.requires.0 c.requires.1 s.d, c.requires.2)

pub sum-requires-clause-fits : goal.sum-requires-clause-fits
sum-requires-clause-fits c =
    let s = c.args in
    fits_from_yields_list _ _
    (YieldsList-from_map _ (gates s.n s.m) (YieldsList-from_range 0 s.d s.d c.map.ensures.source (omega arith)) c.map.ensures.closure
    (λ x r q k. search rules))
    (omega (arith, sum_is s.n s.m s.d, few (goal.at.sum-requires-clause-fits c).After-map))

pub returns : goal.returns
returns c =
    let s = c.args in
    let value : c.sum.result ≡ digits_to s.n s.m s.d =
    sum_from_yields_List _ _ c.sum.ensures.ran
    (YieldsList-from_map _ (gates s.n s.m) (YieldsList-from_range 0 s.d s.d c.map.ensures.source (omega arith)) c.map.ensures.closure
    (λ x r q k. search rules))
    ∙ sum_is s.n s.m s.d in
    record { value = value; upper_bound = omega (arith, few (goal.at.returns c).After-map) }
