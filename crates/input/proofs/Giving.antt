-- What a reader gave, put where it goes.
use Rattle.std.proofs.Common.{
  ◌≡◌,
  ◌≢◌,
  ℕ,
  ◌+◌,
  ◌<◌,
  ◌≤◌,
  List,
  [],
  ◌∷◌,
  ◌++◌,
  None,
  Some,
  length,
  take,
  drop,
  sym,
  ap,
  ◌∙◌,
  subst,
  arith,
  slice_set,
  slice_index_or,
  length-take-le,
}
use Rattle.std.specs.Prelude.{⊤}
use Rattle.std.specs.declared.option.Option.{Option}
use Rattle.std.specs.Io.KnownBytes.{Consumes}
use Rattle.std.proofs.KnownBytes.{Consumes-trans}
use lib.Seq.{drop-append-le, take-append-add, take-append-le}
use Rattle.input.specs.Files.{Gives}
use Rattle.input.proofs.Lines.{stored}

-- a byte read into an array of one is stored after those before
pub byte-given : (a b c : Option (List ℕ)) (xs one : List ℕ) (i n : ℕ) → i < length xs → length one ≡ 1 → n ≤ length one → n ≢ 0
    → Consumes a b (take i xs) → Consumes b c (take n one) → Consumes a c (take (i + 1) (slice_set xs i (slice_index_or one 0 0)))
byte-given a b c xs [] i n h e k z p q = absurd (omega (arith, e))
byte-given a b c xs (x ∷ []) i n h e k z p q =
    let one : n ≡ 1 = omega (arith, k, z) in
    subst (Consumes a c) (sym (stored xs i x h)) (Consumes-trans a b c _ _ p (subst (λ m. Consumes b c (take m (x ∷ []))) one q))
byte-given a b c xs (x ∷ y ∷ ys) i n h e k z p q = absurd (omega (arith, e))

-- what a file gave so far: one that is not open stays so
abbrev pub HasGiven : {F : Type 0} → (F → Option (List ℕ)) → Option F → Option F → List ℕ → Type 0
HasGiven remaining None None bytes = ⊤
HasGiven remaining None (Some g) bytes = ⊥
HasGiven remaining (Some f) None bytes = ⊥
HasGiven remaining (Some f) (Some g) bytes = Consumes (remaining f) (remaining g) bytes

-- one read more
pub more-given : {F : Type 0} (remaining : F → Option (List ℕ)) (a b c : Option F) (bs cs : List ℕ) → HasGiven remaining a b bs → Gives remaining b c cs
    → HasGiven remaining a c (bs ++ cs)
more-given remaining None None c bs cs p q = absurd q
more-given remaining None (Some g) c bs cs p q = absurd p
more-given remaining (Some f) None c bs cs p q = absurd p
more-given remaining (Some f) (Some g) None bs cs p q = absurd q
more-given remaining (Some f) (Some g) (Some h) bs cs p q = Consumes-trans (remaining f) (remaining g) (remaining h) bs cs p q

-- n bytes read into a buffer from place d on follow those from place a to d, whatever comes after them
pub follows-on : (a d n : ℕ) (xs ys zs : List ℕ) → a ≤ d → d ≤ length xs → n ≤ length ys
    → drop a (take d xs) ++ take n ys ≡ drop a (take (d + n) (take d xs ++ (ys ++ zs)))
follows-on a d n xs ys zs h i j =
    let long : length (take d xs) ≡ d = length-take-le d xs i in
    let cut : take (d + n) (take d xs ++ (ys ++ zs)) ≡ take d xs ++ take n (ys ++ zs) =
    subst (λ k. take (k + n) (take d xs ++ (ys ++ zs)) ≡ take d xs ++ take n (ys ++ zs)) long (take-append-add (take d xs) (ys ++ zs) n) in
    let joined : take (d + n) (take d xs ++ (ys ++ zs)) ≡ take d xs ++ take n ys = cut ∙ ap (λ l. take d xs ++ l) (take-append-le n ys zs j) in
    sym (drop-append-le a (take d xs) (take n ys) (omega arith)) ∙ ap (drop a) (sym joined)
