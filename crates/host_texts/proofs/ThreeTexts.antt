-- What refuses three texts and the room for their rows: the first test that fails decides, since the definition computes by the tests.
use mathlib.Core.Path.{◌≡◌}
use mathlib.Core.Bool.{true, false, not, ◌||◌}
use Prim.Native.Nat.{ℕ}
use lib.Dec.{eqb}
use Rattle.std.specs.Prelude.{Ok, Err}
use Rattle.refusals.specs.declared.Refusal.{Refusal}
use Rattle.refusals.specs.declared.Refusal.TheVariants.{RowBuffer, TextsDiffer}
use Rattle.host_texts.specs.Texts.{Texts, has_no_room, lent_outcome}

module _ (t : Texts) (left right public : ℕ) where
  pub left-refused : (q : Refusal) → t.left.outcome ≡ Err q → Err q ≡ lent_outcome t left right public
  left-refused q e = rw e

  module _ (left-taken : t.left.outcome ≡ Ok tt) where
    pub right_refused : (q : Refusal) → t.right.outcome ≡ Err q → Err q ≡ lent_outcome t left right public
    right_refused q e = rw (left-taken, e)

    module _ (right_taken : t.right.outcome ≡ Ok tt) where
      pub public_refused : (q : Refusal) → t.public.outcome ≡ Err q → Err q ≡ lent_outcome t left right public
      public_refused q e = rw (left-taken, right_taken, e)

      module _ (public_taken : t.public.outcome ≡ Ok tt) where
        pub no_room : has_no_room t left right public ≡ true → Err RowBuffer ≡ lent_outcome t left right public
        no_room h = rw (left-taken, right_taken, public_taken, h)

        module _ (room : has_no_room t left right public ≡ false) where
          pub differ : not (eqb t.left.n t.right.n) || not (eqb t.left.n t.public.n) ≡ true
              → Err TextsDiffer ≡ lent_outcome t left right public
          differ h = rw (left-taken, right_taken, public_taken, room, h)

          pub agree : not (eqb t.left.n t.right.n) || not (eqb t.left.n t.public.n) ≡ false → Ok tt ≡ lent_outcome t left right public
          agree h = rw (left-taken, right_taken, public_taken, room, h)
