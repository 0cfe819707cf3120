-- What evaluating gives, by what its checks find: each law computes the list of checks. The last is the one for circuits.
use mathlib.Core.Path.{◌≡◌, refl, ap, ap₂, sym, ◌∙◌}
use mathlib.Core.Bool.{Bool, true, false}
use mathlib.Core.List.{List}
use Prim.Native.Nat.{ℕ, ◌+◌, ◌/◌, ◌≤◌, ◌<◌}
use native.Mathlib.Omega.{arith}
use borrow.Author.Tests.{lt-ltb, le-ltb}
use lib.ListN.{length, length-map}
use Rattle.std.specs.Prelude.{Ok, Err}
use Rattle.words.specs.Booleans.{digit}
use Rattle.refusals.specs.declared.Refusal.TheVariants.{Gates, Wires}
use Rattle.refusals.specs.Checks.{outcome}
use Rattle.gates.specs.Gates.{Gate, wires_of}
use Rattle.gates.specs.Memory.{words_of, gates_of, accepted, bytes_of, bits_of, bits, over}
use Rattle.two_pass.specs.Evaluation.{evaluation_checks, filled_wires}
use Rattle.gates.proofs.Circuits.{ordered}
use Rattle.gates.proofs.InMemory.{words-length, gates_words, accepted-words, bits-bytes, bits_of_bytes_of}

module _ (g s w : List ℕ) where
  -- words not accepted after the inputs are refused as gates, and the buffer stays as it was
  pub no_gates : accepted (length s) g ≡ false → (Err Gates ≡ outcome (evaluation_checks g s w)) × (w ≡ filled_wires g s w)
  no_gates e = rw e (refl, refl)

  module _ (e : accepted (length s) g ≡ true) where
    -- accepted words with a buffer shorter than inputs plus gates are refused for the wires, and the buffer stays as it was
    pub no_room : length w < length s + length g / 3 → (Err Wires ≡ outcome (evaluation_checks g s w)) × (w ≡ filled_wires g s w)
    no_room h = rw (e, lt-ltb _ _ h) (refl, refl)

    module _ (h : length s + length g / 3 ≤ length w) where
      pub no_bits : bits s ≡ false → (Err Wires ≡ outcome (evaluation_checks g s w)) × (w ≡ filled_wires g s w)
      no_bits b = rw (e, le-ltb _ _ h, b) (refl, refl)

      -- accepted words, a buffer with room for inputs and gates, and input bytes 0 or 1: taken, and the wires' values are written over the front
      pub taken : bits s ≡ true → (Ok tt ≡ outcome (evaluation_checks g s w)) × (over (bytes_of (wires_of (bits_of s) (gates_of g))) w ≡ filled_wires g s w)
      taken b = rw (e, le-ltb _ _ h, b) (refl, refl)

-- a circuit's words on its inputs' bytes: with room for its wires they are taken, and the circuit's values fill the front
pub evaluates : (w : List Bool) (gs : List Gate) (buffer : List ℕ) → ordered (length w) gs ≡ true → length w + length gs ≤ length buffer
    → (outcome (evaluation_checks (words_of gs) (bytes_of w) buffer) ≡ Ok tt) × (filled_wires (words_of gs) (bytes_of w) buffer
    ≡ over (bytes_of (wires_of w gs)) buffer)
evaluates w gs buffer o h =
    let e : accepted (length (bytes_of w)) (words_of gs) ≡ true =
    ap (λ (k : ℕ). accepted k (words_of gs)) (length-map w digit) ∙ accepted-words (length w) gs ∙ o in
    let t = taken (words_of gs) (bytes_of w) buffer e (omega (arith, length-map w digit, words-length gs)) (bits-bytes w) in (
      sym t.0,
      sym t.1 ∙ ap₂ (λ (v : List Bool) (l : List Gate). over (bytes_of (wires_of v l)) buffer) (bits_of_bytes_of w) (gates_words gs),
    )
