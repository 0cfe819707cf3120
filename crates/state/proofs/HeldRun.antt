-- A run whose unused levels are zero is the one that holds its state, so a contract can equate the whole run. By induction on the depth.
use mathlib.Core.Path.{◌≡◌, refl, sym, ap, ap₂, ◌∙◌}
use mathlib.Core.Bool.{true, not, ◌&&◌}
use mathlib.Core.List.{List, [], ◌∷◌, ◌++◌, reverse, reverse-cons, append_assoc}
use Prim.Native.Nat.{ℕ, zero, suc, ◌+◌, ◌-◌, ◌≤◌}
use native.Mathlib.Omega.{arith}
use lib.Dec.{eqb}
use lib.ListN.{get_or, length, take, drop, replicate, take-append-drop, length-drop, length-reverse}
use lib.Seq.{take-suc, get_or-append-add, drop_at}
use borrow.Author.Tests.{eqb-true, le-ltb, not-true}
use Rattle.words.proofs.Truth.{and_l, and_r}
use Rattle.dimensions.specs.Sizes.{outside}
use Rattle.dimensions.proofs.Limits.{least, most}
use Rattle.state.specs.declared.Level.{Level}
use Rattle.state.specs.declared.Run.{Run}
use Rattle.state.specs.State.{State, state_of, levels_of, none, run_of}
use Rattle.state.specs.WellFormed.{unused, well_formed_state, well_formed}
use Rattle.state.proofs.WellFormedLaws.{formed_e}

-- the first d levels of a run are d in number, even where the array has fewer
pub length-levels : (d : ℕ) (levels : List Level) → length (levels_of d levels) ≡ d
length-levels zero levels = refl
length-levels (suc d) levels = ap suc (length-levels d levels)

-- room for 32 levels, of which those past the depth are zero
pub record Tidy (run : Run) : Type 0 where
  pub room : length run.levels ≡ 32
  pub deep : run.depth ≤ 32
  pub rest : drop run.depth run.levels ≡ replicate (32 - run.depth) none

-- the levels of the definition from the last one back are the first d
pub levels-back : (d : ℕ) (levels : List Level) → d ≤ length levels → reverse (levels_of d levels) ≡ take d levels
levels-back zero levels h = refl
levels-back (suc d) levels h =
    reverse-cons (get_or levels d none) (levels_of d levels)
    ∙ ap (λ (l : List Level). l ++ (get_or levels d none ∷ [])) (levels-back d levels (omega arith))
    ∙ sym (take-suc levels d none h)

-- a tidy run is the run of its n variables that holds its state
pub run-back : (run : Run) → Tidy run → run ≡ run_of run.n (state_of run)
unfolding run_of
run-back run h = λ i. record {
  n = run.n;
  standing = run.standing;
  t = run.t;
  f = run.f;
  depth = sym (length-levels run.depth run.levels) i;
  levels = whole i;
}
  where
    whole : run.levels ≡ reverse (levels_of run.depth run.levels) ++ replicate (32 - length (levels_of run.depth run.levels)) none
    whole =
        sym (take-append-drop run.depth run.levels)
        ∙ ap₂ (λ (a b : List Level). a ++ b) (sym (levels-back run.depth run.levels (omega (arith, h.room, h.deep)))) h.rest
        ∙ ap (λ (k : ℕ). reverse (levels_of run.depth run.levels) ++ replicate (32 - k) none) (sym (length-levels run.depth run.levels))

-- what a function that keeps a run tidy returns
pub returned : (n : ℕ) (s : State) (run : Run) → Tidy run → run.n ≡ n → state_of run ≡ s → run ≡ run_of n s
returned n s run h e q = run-back run h ∙ ap₂ run_of e q

-- levels that pass the test are zero
unused-zero : (levels : List Level) → unused levels ≡ true → levels ≡ replicate (length levels) none
unfolding unused
unused-zero [] e = refl
unused-zero (l ∷ ls) e =
    let abc = and_l (eqb l.t 0 && eqb l.f 0 && eqb l.chosen 0) (unused ls) e in
    let ab = and_l (eqb l.t 0 && eqb l.f 0) (eqb l.chosen 0) abc in
    ap₂ (λ (x : Level) (xs : List Level). x ∷ xs)
    (λ i. record {
      t = eqb-true l.t 0 (and_l (eqb l.t 0) (eqb l.f 0) ab) i;
      f = eqb-true l.f 0 (and_r (eqb l.t 0) (eqb l.f 0) ab) i;
      chosen = eqb-true l.chosen 0 (and_r (eqb l.t 0 && eqb l.f 0) (eqb l.chosen 0) abc) i;
    })
    (unused-zero ls (and_r (eqb l.t 0 && eqb l.f 0 && eqb l.chosen 0) (unused ls) e))

-- ---- a well-formed run

-- the test of a run, taken apart (`-e`) and put together (`-i`)
pub record FormedRun (run : Run) : Type 0 where
  pub least : 1 ≤ run.n
  pub most : run.n ≤ 32
  pub state : well_formed_state run.n (state_of run) ≡ true
  pub rest : unused (drop run.depth run.levels) ≡ true

-- a well-formed run has 1 to 32 variables and a well-formed state, and its levels past the depth are zero
pub formed_run_e : (run : Run) → well_formed run ≡ true → FormedRun run
unfolding well_formed
formed_run_e run w =
    let i = and_l (not (outside 32 run.n) && well_formed_state run.n (state_of run)) _ w in
    let n = not-true (outside 32 run.n) (and_l (not (outside 32 run.n)) _ i) in record {
      least = least 32 run.n n;
      most = most 32 run.n n;
      state = and_r (not (outside 32 run.n)) _ i;
      rest = and_r (not (outside 32 run.n) && well_formed_state run.n (state_of run)) _ w;
    }

formed_run-i : (run : Run) → FormedRun run → well_formed run ≡ true
unfolding well_formed
formed_run-i run o = rw (le-ltb run.n 1 o.least, le-ltb 32 run.n o.most, o.state) o.rest

-- a well-formed run with room for 32 levels is tidy
pub formed_tidy : (run : Run) → length run.levels ≡ 32 → FormedRun run → Tidy run
formed_tidy run room o = record {
  room = room;
  deep = omega (arith, (formed_e run.n (state_of run) o.state).few, length-levels run.depth run.levels, o.most);
  rest = unused-zero (drop run.depth run.levels) o.rest
      ∙ ap (λ (k : ℕ). replicate k none) (length-drop run.depth run.levels ∙ ap (λ (k : ℕ). k - run.depth) room);
}

-- ---- the run of a state

held-levels : (levels rest : List Level) → levels_of (length levels) (reverse levels ++ rest) ≡ levels
held-levels [] rest = refl
held-levels (l ∷ ls) rest =
    rw (reverse-cons l ls, append_assoc (reverse ls) (l ∷ []) rest)
    (ap₂ (λ (x : Level) (xs : List Level). x ∷ xs)
    (ap (λ (k : ℕ). get_or (reverse ls ++ (l ∷ rest)) k none) (let e : length ls ≡ length (reverse ls) + 0 = omega (arith, length-reverse ls) in e)
    ∙ get_or-append-add (reverse ls) (l ∷ rest) 0 none)
    (held-levels ls (l ∷ rest)))

-- the run made to hold a state holds that state
pub state-back : (n : ℕ) (s : State) → state_of (run_of n s) ≡ s
unfolding run_of
state-back n s = λ i. record {
  standing = s.standing;
  t = s.t;
  f = s.f;
  levels = held-levels s.levels (replicate (32 - length s.levels) none) i;
}

unused-replicate : (k : ℕ) → unused (replicate k none) ≡ true
unfolding unused
unused-replicate zero = refl
unused-replicate (suc k) = unused-replicate k

-- the run made to hold a well-formed state of 1 to 32 variables is well-formed
pub run_of_formed : (n : ℕ) (s : State) → 1 ≤ n → n ≤ 32 → well_formed_state n s ≡ true → well_formed (run_of n s) ≡ true
unfolding run_of
run_of_formed n s a b w = formed_run-i (run_of n s) (record {
  least = a;
  most = b;
  state = ap (λ (x : State). well_formed_state n x) (state-back n s) ∙ w;
  rest = ap unused (drop_at (reverse s.levels) (replicate (32 - length s.levels) none) (length s.levels) (length-reverse s.levels))
      ∙ unused-replicate (32 - length s.levels);
})
