-- The words of tables stored one after the other, cut where there is no place left. By the laws of stores.
use mathlib.Core.Path.{◌≡◌, refl, sym, ap, ap₂, ◌∙◌}
use mathlib.Core.List.{List, [], ◌∷◌, ◌++◌, append_assoc}
use Prim.Native.Nat.{ℕ, suc, ◌+◌, ◌-◌, ◌*◌, ◌≤◌, ◌<◌, min}
use native.Mathlib.Omega.{arith}
use lib.Dec.{ltb}
use lib.ListN.{length, take, drop, replicate, length-take, take-append-drop, drop_of_length-le}
use lib.Seq.{sets, set_out, sets-eq, length-sets, length-take-le, take_all}
use Rattle.std.proofs.lemmas.List.{take-take, drop-drop}
use borrow.Author.Tests.{ltb-true, ltb-false}
use Rattle.words.proofs.Truth.{on}
use Rattle.words.proofs.Stores.{sets_append}
use Rattle.dimensions.specs.declared.Dimensions.{Dimensions}
use Rattle.tables.specs.Tables.{Tables}
use Rattle.occurrences.specs.RowWords.{table_words, gathered}

-- no place
sets-out : (xs l : List ℕ) (i : ℕ) → length l ≤ i → sets l i xs ≡ l
sets-out [] l i h = refl
sets-out (x ∷ xs) l i h = ap (λ (k : List ℕ). sets k (suc i) xs) (set_out l i x h) ∙ sets-out xs l (suc i) (omega arith)

module _ (rows : ℕ) (words : List ℕ) where
  -- how many they are, by two ways
  pub all_asked : 2 * rows < length words → 2 * rows ≡ length (table_words rows words)
  all_asked h = sym (length-take-le (2 * rows) words (omega arith))

  pub all-given : length words ≤ 2 * rows → length words ≡ length (table_words rows words)
  all-given h = sym (ap length (take_all (2 * rows) words h))

  -- the first of them are the buffer's
  pub front : (k : ℕ) → k ≤ length (table_words rows words) → take k (table_words rows words) ≡ take k words
  front k h = take-take k (2 * rows) words (omega (arith, length-take (2 * rows) words))

-- of words that go from place i on, those that have a place are stored
module _ (xs l : List ℕ) (i from stored : ℕ) (start : from ≡ min i (length l)) (few : stored ≡ min (length xs) (length l - from)) where
  there : sets l from (take stored xs) ≡ sets l i (take stored xs)
  there =
      on (ltb i (length l))
      (λ e. let k : from ≡ i = omega (arith, ltb-true i (length l) e) in ap (λ (n : ℕ). sets l n (take stored xs)) k)
      (λ e. let k : stored ≡ 0 = omega (arith, ltb-false i (length l) e) in rw k)

  -- the others change nothing
  others : sets (sets l i (take stored xs)) (i + length (take stored xs)) (drop stored xs) ≡ sets l i (take stored xs)
  others =
      on (ltb stored (length xs))
      (λ e. sets-out (drop stored xs) (sets l i (take stored xs)) (i + length (take stored xs))
      (omega (arith, ltb-true stored (length xs) e, length-sets l i (take stored xs), length-take-le stored xs)))
      (λ e. let h = ltb-false stored (length xs) e in let none : drop stored xs ≡ [] = rw drop_of_length-le in rw none)

  pub stored-all : take from l ++ (take stored xs ++ drop stored (drop from l)) ≡ sets l i xs
  stored-all =
      let n = length-take-le stored xs (omega arith) in
      ap (λ (r : List ℕ). take from l ++ (take stored xs ++ r)) (drop-drop stored from l ∙ ap (λ (k : ℕ). drop (from + k) l) (sym n))
      ∙ sym (append_assoc (take from l) (take stored xs) _) ∙ sym (sets-eq (take stored xs) l from (omega (arith, n)))
      ∙ there ∙ sym others ∙ sym (sets_append (take stored xs) (drop stored xs) l i) ∙ ap (sets l i) (take-append-drop stored xs)

-- ---- three tables

pub gathered-is : (d : Dimensions) (tables : Tables) (x y z : List ℕ) (i j : ℕ)
    → i ≡ 0 + length (table_words d.left tables.left) → x ≡ sets (replicate 768 0) 0 (table_words d.left tables.left)
    → j ≡ i + length (table_words d.right tables.right) → y ≡ sets x i (table_words d.right tables.right)
    → z ≡ sets y j (table_words d.public tables.public) → z ≡ gathered d tables
unfolding gathered
gathered-is d tables x y z i j ei ex ej ey ez =
    let l = table_words d.left tables.left in
    let r = table_words d.right tables.right in
    let p = table_words d.public tables.public in
    ez ∙ ap₂ (λ (a : List ℕ) (k : ℕ). sets a k p) (ey ∙ ap₂ (λ (a : List ℕ) (k : ℕ). sets a k r) ex ei) (ej ∙ ap (λ (k : ℕ). k + length r) ei)
    ∙ sym (sets_append l (r ++ p) (replicate 768 0) 0 ∙ sets_append r p (sets (replicate 768 0) 0 l) (0 + length l))
