-- From the form of contracts to demand 1: what a call gives follows from the outcome of its checks, so each part is shown for a taken outcome and
-- for a refused one.
use mathlib.Core.Path.{◌≡◌, refl, sym, ap, ap₂, subst, ◌∙◌}
use mathlib.Core.Bool.{Bool, true, false, cond}
use mathlib.Core.List.{List, [], ◌∷◌, ◌++◌, map}
use Prim.Native.Nat.{ℕ}
use lib.ListN.{drop}
use Rattle.std.specs.Prelude.{Ok, Err}
use Rattle.refusals.specs.declared.Refusal.{Refusal}
use Rattle.refusals.specs.Numbers.{Outcome, number_of, code_of}
use Rattle.refusals.specs.Checks.{Check, outcome, given}
use Rattle.refusals.proofs.Outcomes.{outcome-refused, outcome_parts}
use Rattle.dimensions.specs.declared.Dimensions.{Dimensions}
use Rattle.dimensions.specs.Sizes.{size_checks}
use Rattle.codes.specs.Codes.{as_byte, variable_checks}
use Rattle.codes.proofs.AsBytes.{variables_alike, variables_same, sizes-alike, sizes-same}
use Rattle.demand1.specs.Calls.{Effect, first_number, numbers_of, beside}
use Rattle.demand1.specs.Demand1.{Entry, done, Demand1}
use Rattle.demand1.specs.Named.{as_bytes}

-- the outcome's number is the first check's that applies
pub first-number : (cs : List Check) → code_of (outcome cs) ≡ first_number cs
unfolding first_number
first-number [] = refl
first-number (c ∷ cs) = go c.fails c.refusal (outcome cs) (first_number cs) (first-number cs)
  where
    go : (b : Bool) (r : Refusal) (o : Outcome) (k : ℕ) → code_of o ≡ k → code_of (cond b (Err r) o) ≡ cond b (number_of r) k
    go true r o k e = refl
    go false r o k e = e

-- a call that is judged by its checks: the number is the outcome's, and refused it leaves every buffer
pub record Judged (c : Effect) : Type 0 where
  pub numbered : c.returned ≡ code_of (outcome c.judged)
  pub unchanged : (r : Refusal) → outcome c.judged ≡ Err r → c.left ≡ c.lent

-- number and buffers that follow from the outcome
pub by-outcome : (judged : List Check) (lent : List (List ℕ)) (returned : Outcome → ℕ) (left : Outcome → List (List ℕ))
    → returned (Ok tt) ≡ 0 → ((r : Refusal) → returned (Err r) ≡ number_of r) → ((r : Refusal) → left (Err r) ≡ lent)
    → Judged (record { returned = returned (outcome judged); judged = judged; lent = lent; left = left (outcome judged) })
by-outcome judged lent returned left taken refused stays = record {
  numbered = go (outcome judged);
  unchanged = λ r e. ap left e ∙ stays r;
}
  where
    go : (o : Outcome) → returned o ≡ code_of o
    go (Ok _) = taken
    go (Err r) = refused r

-- the same, where the outcome is a part of what the call gives
pub by-held : (judged : List Check) (lent : List (List ℕ)) (o : Outcome) (left : Outcome → List (List ℕ))
    → o ≡ outcome judged → ((r : Refusal) → left (Err r) ≡ lent)
    → Judged (record { returned = code_of o; judged = judged; lent = lent; left = left o })
by-held judged lent o left e stays = record {
  numbered = ap code_of e;
  unchanged = λ r x. ap left (e ∙ x) ∙ stays r;
}

-- the same call by other checks that come to the same
pub rejudged : {c : Effect} (cs : List Check) → outcome c.judged ≡ outcome cs → Judged c
    → Judged (record { returned = c.returned; judged = cs; lent = c.lent; left = c.left })
rejudged cs e j = record { numbered = j.numbered ∙ ap code_of e; unchanged = λ r x. j.unchanged r (e ∙ x) }

-- what follows from the same outcome, where it is the same if that is taken
pub given-same : {B : Type 0} (o q : Outcome) (x y : B) (f : Refusal → B) → o ≡ q → (o ≡ Ok tt → x ≡ y) → given o x f ≡ given q y f
given-same {B} o q x y f e h = go o h ∙ ap (λ (z : Outcome). given z y f) e
  where
    go : (z : Outcome) → (z ≡ Ok tt → x ≡ y) → given z x f ≡ given z y f
    go (Ok _) k = k refl
    go (Err r) k = refl

-- ---- checks one after the other

-- the first checks decide, or else the others
pub outcome_append : (xs ys : List Check) → outcome (xs ++ ys) ≡ given (outcome xs) (outcome ys) Err
outcome_append [] ys = refl
outcome_append (c ∷ cs) ys = go c.fails (outcome cs) (outcome (cs ++ ys)) (outcome_append cs ys)
  where
    go : (b : Bool) (o p : Outcome) → p ≡ given o (outcome ys) Err
        → cond b (Err c.refusal) p ≡ given (cond b (Err c.refusal) o) (outcome ys) Err
    go true o p e = refl
    go false o p e = e

-- checks that come to an outcome, and others after them
pub outcome-then : (xs ys : List Check) (o q : Outcome) → outcome xs ≡ o → outcome ys ≡ q → outcome (xs ++ ys) ≡ given o q Err
outcome-then xs ys o q e h = outcome_append xs ys ∙ ap₂ (λ (a b : Outcome). given a b Err) e h

module _ {A : Type 0} (e : Entry A) where
  -- ---- the arguments as the contract has them

  -- they are judged as the arguments are, and are the same where these are taken
  pub record InBytes : Type 0 where
    pub alike : (a : A) → outcome (e.call (e.in_bytes a)).judged ≡ outcome (e.call a).judged
    pub same : (a : A) → outcome (e.call a).judged ≡ Ok tt → e.in_bytes a ≡ a
    pub kept : (a : A) → (e.call (e.in_bytes a)).lent ≡ (e.call a).lent

  -- of a function whose contract has them as they are given
  pub as_given : ((a : A) → e.in_bytes a ≡ a) → InBytes
  as_given h = record {
    alike = λ a. ap (λ (b : A). outcome (e.call b).judged) (h a);
    same = λ a x. h a;
    kept = λ a. ap (λ (b : A). (e.call b).lent) (h a);
  }

  -- of a function whose first checks come to the same on them, and are not taken unless they are the same
  pub leading : (first rest : A → List Check) → ((a : A) → outcome (first (e.in_bytes a)) ≡ outcome (first a))
      → ((a : A) → outcome (first a) ≡ Ok tt → e.in_bytes a ≡ a)
      → ((a : A) → (e.call a).judged ≡ first a ++ rest a) → ((a : A) → (e.call (e.in_bytes a)).lent ≡ (e.call a).lent) → InBytes
  leading first rest alike taken begins kept = record {
    alike = λ a. go a (outcome (first a)) refl;
    same = λ a x. taken a (outcome_parts (first a) (rest a) (sym (ap outcome (begins a)) ∙ x)).0;
    kept = kept;
  }
    where
      refused : (a : A) (r : Refusal) → outcome (first a) ≡ Err r → outcome (e.call a).judged ≡ Err r
      refused a r x = ap outcome (begins a) ∙ outcome-refused (first a) (rest a) r x

      go : (a : A) (o : Outcome) → outcome (first a) ≡ o → outcome (e.call (e.in_bytes a)).judged ≡ outcome (e.call a).judged
      go a (Ok _) x = ap (λ (b : A). outcome (e.call b).judged) (taken a x)
      go a (Err r) x = refused (e.in_bytes a) r (alike a ∙ x) ∙ sym (refused a r x)

  -- of one that judges a host's four numbers first
  pub by-sizes : (d : A → Dimensions) → ((a : A) → as_bytes (d a) ≡ d a → e.in_bytes a ≡ a) → ((a : A) → d (e.in_bytes a) ≡ as_bytes (d a))
      → ((a : A) → (e.call a).judged ≡ size_checks (d a) ++ drop 2 (e.call a).judged) → ((a : A) → (e.call (e.in_bytes a)).lent ≡ (e.call a).lent) → InBytes
  by-sizes d same bytes =
      leading (λ a. size_checks (d a)) (λ a. drop 2 (e.call a).judged)
      (λ a. ap (λ (x : Dimensions). outcome (size_checks x)) (bytes a) ∙ sizes-alike (d a).n (d a).left (d a).right (d a).public)
      (λ a x. same a (sizes-same (d a).n (d a).left (d a).right (d a).public x))

  -- of one that judges a host's n first
  pub by_number : (n : A → ℕ) → ((a : A) → as_byte (n a) ≡ n a → e.in_bytes a ≡ a) → ((a : A) → n (e.in_bytes a) ≡ as_byte (n a))
      → ((a : A) → (e.call a).judged ≡ variable_checks (n a) ++ drop 1 (e.call a).judged) → ((a : A) → (e.call (e.in_bytes a)).lent ≡ (e.call a).lent)
      → InBytes
  by_number n same bytes =
      leading (λ a. variable_checks (n a)) (λ a. drop 1 (e.call a).judged)
      (λ a. ap (λ (k : ℕ). outcome (variable_checks k)) (bytes a) ∙ variables_alike (n a))
      (λ a x. same a (variables_same (n a) x))

  -- where every call is judged by its checks, it does what it does by the arguments as given
  same-calls : InBytes → ((a : A) → Judged (e.call a)) → (λ (a : A). done e a) ≡ e.call
  same-calls h j = λ i a. record {
    returned = ((j (e.in_bytes a)).numbered ∙ ap code_of (h.alike a) ∙ sym (j a).numbered) i;
    judged = (e.call a).judged;
    lent = (e.call a).lent;
    left = go a (outcome (e.call a).judged) refl i;
  }
    where
      go : (a : A) (o : Outcome) → outcome (e.call a).judged ≡ o → (e.call (e.in_bytes a)).left ≡ (e.call a).left
      go a (Ok _) x = ap (λ (b : A). (e.call b).left) (h.same a x)
      go a (Err r) x = (j (e.in_bytes a)).unchanged r (h.alike a ∙ x) ∙ h.kept a ∙ sym ((j a).unchanged r x)

  -- ---- the demand

  -- what is shown of a function, by the arguments as given
  pub record Shown : Type 0 where
    pub judged : (a : A) → Judged (e.call a)
    pub order : (a : A) → numbers_of (e.call a).judged ≡ e.numbers
    pub occurs : map (λ (a : A). (e.call a).returned) e.examples ≡ 0 ∷ e.numbers
    pub split : (a : A) → (e.call a).lent ≡ beside (e.call (e.named a)).lent (e.past a)
    pub checked : (a : A) → outcome (e.call a).judged ≡ outcome (e.call (e.named a)).judged
    pub written : (a : A) → outcome (e.call a).judged ≡ Ok tt → (e.call a).left ≡ beside (e.call (e.named a)).left (e.past a)

  -- the demand's parts, of calls that do this
  record Parts (call : A → Effect) : Type 0 where
    first : (a : A) → (call a).returned ≡ first_number (call a).judged
    order : (a : A) → numbers_of (call a).judged ≡ e.numbers
    occurs : map (λ (a : A). (call a).returned) e.examples ≡ 0 ∷ e.numbers
    untouched : (a : A) → ((call a).returned ≡ 0 → ⊥) → (call a).left ≡ (call a).lent
    split : (a : A) → (call a).lent ≡ beside (call (e.named a)).lent (e.past a)
    alone : (a : A) → (call a).returned ≡ (call (e.named a)).returned
    stays : (a : A) → (call a).left ≡ beside (call (e.named a)).left (e.past a)

  untouched_by : (c : Effect) → Judged c → (c.returned ≡ 0 → ⊥) → c.left ≡ c.lent
  untouched_by c j h = go (outcome c.judged) refl
    where
      go : (o : Outcome) → outcome c.judged ≡ o → c.left ≡ c.lent
      go (Ok _) x = absurd (h (j.numbered ∙ ap code_of x))
      go (Err r) x = j.unchanged r x

  parts : Shown → Parts e.call
  parts s = record {
    first = λ a. (s.judged a).numbered ∙ first-number (e.call a).judged;
    order = s.order;
    occurs = s.occurs;
    untouched = λ a h. untouched_by (e.call a) (s.judged a) h;
    split = s.split;
    alone = λ a. (s.judged a).numbered ∙ ap code_of (s.checked a) ∙ sym (s.judged (e.named a)).numbered;
    stays = λ a. go a (outcome (e.call a).judged) refl;
  }
    where
      go : (a : A) (o : Outcome) → outcome (e.call a).judged ≡ o → (e.call a).left ≡ beside (e.call (e.named a)).left (e.past a)
      go a (Ok _) x = s.written a x
      go a (Err r) x =
          (s.judged a).unchanged r x ∙ s.split a
          ∙ ap (λ (l : List (List ℕ)). beside l (e.past a)) (sym ((s.judged (e.named a)).unchanged r (sym (s.checked a) ∙ x)))

  -- and that this is the demand
  pub demand : InBytes → Shown → Demand1 e
  demand h s =
      let all = subst (λ (call : A → Effect). Parts call) (sym (same-calls h s.judged)) (parts s) in
      record {
        first = all.first;
        order = all.order;
        occurs = all.occurs;
        untouched = all.untouched;
        split = all.split;
        alone = all.alone;
        stays = all.stays;
      }

  -- of a function whose lent buffers are all named whole, that a call does what it does with the words named alone
  pub whole : InBytes → ((a : A) → Judged (e.call a)) → ((a : A) → numbers_of (e.call a).judged ≡ e.numbers)
      → map (λ (a : A). (e.call a).returned) e.examples ≡ 0 ∷ e.numbers → ((a : A) → e.past a ≡ []) → ((a : A) → e.call a ≡ e.call (e.named a))
      → Demand1 e
  unfolding beside
  whole bytes judged order occurs nothing same = demand bytes (record {
    judged = judged;
    order = order;
    occurs = occurs;
    split = λ a. ap (λ (c : Effect). c.lent) (same a) ∙ ap (λ l. beside (e.call (e.named a)).lent l) (sym (nothing a));
    checked = λ a. ap (λ (c : Effect). outcome c.judged) (same a);
    written = λ a h. ap (λ (c : Effect). c.left) (same a) ∙ ap (λ l. beside (e.call (e.named a)).left l) (sym (nothing a));
  })
