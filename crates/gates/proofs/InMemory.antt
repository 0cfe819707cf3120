-- Gates and their words, wires and their bytes, there and back: by induction on the list, a gate or a byte at a time.
use mathlib.Core.Path.{◌≡◌, refl, ap, ap₂, sym, ◌∙◌}
use mathlib.Core.Bool.{Bool, true, false, ◌&&◌, false≢true, and_comm}
use mathlib.Core.List.{List, [], ◌∷◌, ◌++◌, append_assoc}
use Prim.Native.Nat.{ℕ, zero, suc, ◌*◌, ◌<◌}
use native.Mathlib.Nat.{not-suc-le-zero, le_of_suc-le-suc}
use native.Mathlib.Omega.{arith}
use borrow.Author.Tests.{ltb-true, eqb-true}
use lib.Dec.{eqb, ltb}
use lib.ListN.{length, length-append}
use Rattle.words.specs.Booleans.{digit}
use Rattle.words.proofs.Truth.{and_l, and_r}
use Rattle.gates.specs.Gates.{Gate}
use Rattle.gates.specs.Gates.Gate.{XOR, AND, INV}
use Rattle.gates.specs.Memory.{gate_words, words_of, gate_of, gates_of, drives, accepted, bytes_of, bits_of, bits}
use Rattle.gates.proofs.Circuits.{reads, ordered}

-- ---- gates and words

-- the words of two lists of gates joined are the words of each, joined
pub words_append : (xs ys : List Gate) → words_of (xs ++ ys) ≡ words_of xs ++ words_of ys
unfolding words_of
words_append [] ys = refl
words_append (g ∷ xs) ys =
    ap (λ (l : List ℕ). gate_words g ++ l) (words_append xs ys) ∙ sym (append_assoc (gate_words g) (words_of xs) (words_of ys))

three : (g : Gate) → length (gate_words g) ≡ 3
three (XOR a b) = refl
three (AND a b) = refl
three (INV a) = refl

-- gates have three words each
pub words-length : (gs : List Gate) → length (words_of gs) ≡ 3 * length gs
unfolding words_of
words-length [] = refl
words-length (g ∷ gs) = omega (arith, length-append (gate_words g) (words_of gs), three g, words-length gs)

-- the words of gates are read back as these gates
pub gates_words : (gs : List Gate) → gates_of (words_of gs) ≡ gs
unfolding gates_of words_of
gates_words [] = refl
gates_words (XOR a b ∷ gs) = ap (λ (l : List Gate). XOR a b ∷ l) (gates_words gs)
gates_words (AND a b ∷ gs) = ap (λ (l : List Gate). AND a b ∷ l) (gates_words gs)
gates_words (INV a ∷ gs) = ap (λ (l : List Gate). INV a ∷ l) (gates_words gs)

-- ---- acceptance

-- the words of a gate may drive a wire if the gate reads earlier ones
drives-words : (m : ℕ) (g : Gate) (ws : List ℕ) → accepted m (gate_words g ++ ws) ≡ reads m g && accepted (suc m) ws
unfolding accepted
drives-words m (XOR a b) ws = refl
drives-words m (AND a b) ws = refl
drives-words m (INV a) ws = ap (λ (b : Bool). b && accepted (suc m) ws) (and_comm (ltb a m) true)

-- the words of gates are accepted after m wires just if each gate reads wires before its own only
pub accepted-words : (m : ℕ) (gs : List Gate) → accepted m (words_of gs) ≡ ordered m gs
unfolding accepted words_of ordered
accepted-words m [] = refl
accepted-words m (g ∷ gs) = drives-words m g (words_of gs) ∙ ap (λ (b : Bool). reads m g && b) (accepted-words (suc m) gs)

-- three words that may drive a wire are the words of their gate
words_gate : (m k a b : ℕ) → drives m k a b ≡ true → gate_words (gate_of k a b) ≡ k ∷ (a ∷ (b ∷ []))
words_gate m zero a b e = refl
words_gate m (suc zero) a b e = refl
words_gate m (suc (suc zero)) a b e = ap (λ (x : ℕ). 2 ∷ (a ∷ (x ∷ []))) (sym (eqb-true b 0 (and_r (ltb a m) _ e)))
words_gate m (suc (suc (suc k))) a b e =
    absurd (not-suc-le-zero (le_of_suc-le-suc (le_of_suc-le-suc (le_of_suc-le-suc (ltb-true (suc (suc (suc k))) 3 (and_l _ _ e))))))

-- accepted words are the words of their gates
pub words_gates : (m : ℕ) (ws : List ℕ) → accepted m ws ≡ true → words_of (gates_of ws) ≡ ws
unfolding accepted words_of gates_of
words_gates m [] e = refl
words_gates m (k ∷ []) e = absurd (false≢true e)
words_gates m (k ∷ (a ∷ [])) e = absurd (false≢true e)
words_gates m (k ∷ (a ∷ (b ∷ ws))) e =
    ap₂ (λ (x y : List ℕ). x ++ y) (words_gate m k a b (and_l _ _ e)) (words_gates (suc m) ws (and_r (drives m k a b) _ e))

-- of words accepted after m wires, each gate reads wires before its own only
pub accepted-ordered : (m : ℕ) (ws : List ℕ) → accepted m ws ≡ true → ordered m (gates_of ws) ≡ true
accepted-ordered m ws e =
    sym (accepted-words m (gates_of ws)) ∙ ap (λ (l : List ℕ). accepted m l) (words_gates m ws e) ∙ e

-- three words for each gate
pub accepted-length : (m : ℕ) (ws : List ℕ) → accepted m ws ≡ true → length ws ≡ 3 * length (gates_of ws)
accepted-length m ws e = ap length (sym (words_gates m ws e)) ∙ words-length (gates_of ws)

-- ---- wires and bytes

-- written as bytes, wires' values are each 0 or 1
pub bits-bytes : (w : List Bool) → bits (bytes_of w) ≡ true
unfolding bits
bits-bytes [] = refl
bits-bytes (true ∷ w) = bits-bytes w
bits-bytes (false ∷ w) = bits-bytes w

-- wires' values, written as bytes and read back, are the same values
pub bits_of_bytes_of : (w : List Bool) → bits_of (bytes_of w) ≡ w
bits_of_bytes_of [] = refl
bits_of_bytes_of (true ∷ w) = ap (λ (l : List Bool). true ∷ l) (bits_of_bytes_of w)
bits_of_bytes_of (false ∷ w) = ap (λ (l : List Bool). false ∷ l) (bits_of_bytes_of w)

digit-eqb : (x : ℕ) → x < 2 → digit (eqb x 1) ≡ x
digit-eqb zero h = refl
digit-eqb (suc zero) h = refl
digit-eqb (suc (suc x)) h = absurd (not-suc-le-zero (le_of_suc-le-suc (le_of_suc-le-suc h)))

-- bytes that are each 0 or 1, read as wires' values and written again, are the same bytes
pub bytes_of_bits_of : (s : List ℕ) → bits s ≡ true → bytes_of (bits_of s) ≡ s
unfolding bits
bytes_of_bits_of [] e = refl
bytes_of_bits_of (x ∷ s) e =
    ap₂ (λ (y : ℕ) (l : List ℕ). y ∷ l) (digit-eqb x (ltb-true x 2 (and_l _ _ e))) (bytes_of_bits_of s (and_r (ltb x 2) _ e))
