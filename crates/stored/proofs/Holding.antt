-- When words hold a run: each test that fails makes the definition false, and where it holds each test does.
use mathlib.Core.Path.{◌≡◌}
use mathlib.Core.Bool.{true, false}
use mathlib.Core.List.{List}
use Prim.Native.Nat.{ℕ, ◌≤◌, ◌<◌}
use lib.Dec.{ltb}
use lib.ListN.{get_or}
use native.Mathlib.Omega.{arith}
use borrow.Author.Tests.{ltb-true, lt-ltb, le-ltb}
use Rattle.words.proofs.Truth.{and_l, and_r}
use Rattle.state.specs.State.{fresh, run_of}
use Rattle.stored.specs.Words.{holds_run, held_run, run_in}

module _ (words : List ℕ) where
  pub wide_n : 255 < get_or words 0 0 → holds_run words ≡ false
  wide_n n = rw (le-ltb (get_or words 0 0) 256 n)

  pub standing_decides : get_or words 0 0 ≤ 255 → holds_run words ≡ ltb (get_or words 1 0) 3
  standing_decides n = let m : get_or words 0 0 < 256 = omega arith in rw (lt-ltb (get_or words 0 0) 256 m)

  pub no_run : holds_run words ≡ false → run_in words ≡ run_of 0 fresh
  unfolding run_in
  no_run h = rw h

  module _ (h : holds_run words ≡ true) where
    pub held-run : run_in words ≡ held_run words
    unfolding run_in
    held-run = rw h

    pub held-n : get_or words 0 0 < 256
    held-n = ltb-true _ _ (and_l _ _ h)

    pub held-standing : get_or words 1 0 < 3
    held-standing = ltb-true _ _ (and_r (ltb (get_or words 0 0) 256) _ h)
