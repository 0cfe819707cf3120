-- Reading back what was packed gives the run, and packing what was read back gives the bytes, for every n from 1 to 32. By the wires' addresses there,
-- and by the comparison that reading back makes here.
use mathlib.Core.Path.{◌≡◌, refl, sym, ap, ap₂, ◌∙◌, fun_ext}
use mathlib.Core.Bool.{Bool, true, false, not, ◌&&◌}
use mathlib.Core.List.{List, ◌++◌, map-append, append_assoc}
use Prim.Native.Nat.{ℕ, ◌+◌, ◌*◌, ◌≤◌}
use native.Mathlib.Omega.{arith}
use lib.Dec.{eqb, ltb}
use lib.ListN.{length, get_or, take, drop, length-append, length-map, take-append-drop, get_or-map}
use lib.Seq.{take_at, drop_at}
use borrow.Author.Tests.{le-ltb, ltb-false, not-false}
use Rattle.std.specs.Prelude.{Ok, Err}
use Rattle.refusals.specs.Numbers.{Outcome}
use Rattle.refusals.specs.Checks.{outcome, given}
use Rattle.refusals.specs.declared.Refusal.TheVariants.{Variables, Wires}
use Rattle.refusals.specs.declared.Refusal.TheVariants as refusal
use Rattle.refusals.proofs.Outcomes.{check_passed, checks-taken, refused-taken}
use Rattle.words.specs.Booleans.{digit}
use Rattle.words.specs.Sameness.{same}
use Rattle.words.proofs.Truth.{and_l, and_r, and_i}
use Rattle.words.proofs.Sameness.{same_self, same_true}
use Rattle.dimensions.specs.declared.Dimensions.{Dimensions}
use Rattle.tables.specs.Tables.{Tables}
use Rattle.tables.specs.Rows.{rows_of}
use Rattle.dimensions.specs.Sizes.{outside, row_count, state_wire_count}
use Rattle.state.specs.declared.Run.{Run}
use Rattle.state.specs.State.{State, fresh, state_of, run_of}
use Rattle.state.specs.WellFormed.{well_formed_state, well_formed}
use Rattle.state.proofs.HeldRun.{state-back, run-back, run_of_formed, formed_run_e, formed_tidy}
use Rattle.gates.specs.Gates.{wire}
use Rattle.gates.specs.Memory.{bytes_of, bits_of, over}
use Rattle.gates.proofs.InMemory.{bits_of_bytes_of}
use Rattle.wires.specs.Layout.{rows_bits, state_bits}
use Rattle.wires.specs.Bits.{bits_in, bits_in_order, state_at}
use Rattle.wires.specs.Packing.{input_bits, pack_checks, packed}
use Rattle.tables.proofs.Numbering.{tables-length}
use Rattle.wires.proofs.Lengths.{state-length, rows-length, twice}
use Rattle.wires.proofs.Addresses.{state-at}
use Rattle.wires.proofs.Checks.{passed, pack-taken}
use Rattle.readback.specs.declared.Read.{Read}
use Rattle.readback.specs.Unpacking.{wire_in, unpacked, run_in, holds_state}
use Rattle.readback.specs.Reading.{read_checks, read_back}
use Rattle.readback.proofs.StateBack.{unpacked-is}
use Rattle.readback.proofs.Checks.{read_taken, run_variables}

-- the wires in the bytes of some bits, whatever follows them
wires_back : (w : List Bool) (rest : List ℕ) (k : ℕ) → wire_in (bytes_of w ++ rest) k ≡ wire (w ++ bits_of rest) k
wires_back w rest k =
    sym (get_or-map (λ x. eqb x 1) (bytes_of w ++ rest) k 0)
    ∙ ap (λ (l : List Bool). get_or l k false) (map-append (λ x. eqb x 1) (bytes_of w) rest ∙ ap (λ (l : List Bool). l ++ bits_of rest) (bits_of_bytes_of w))

module _ (n : ℕ) (s : State) (rest : List ℕ) (h : well_formed_state n s ≡ true) where
  run-back_in : run_in n (bytes_of (state_bits n s) ++ rest) ≡ run_of n s
  unfolding run_in state_bits bits_in_order
  run-back_in =
      ap (λ (f : ℕ → Bool). run_of n (unpacked n (state_at n f))) (fun_ext (wires_back (bits_in_order n (bits_in s)) rest))
      ∙ ap (run_of n) (unpacked-is n s (state_at n (λ k. wire (bits_in_order n (bits_in s) ++ bits_of rest) k)) h (state-at n (bits_in s) (bits_of rest)))

  module _ (a : 1 ≤ n) (b : n ≤ 32) where
    abbrev bytes : List ℕ
    bytes = bytes_of (state_bits n s) ++ rest

    packed-length : length (bytes_of (state_bits n s)) ≡ state_wire_count n
    packed-length = length-map (state_bits n s) digit ∙ state-length n s

    holds-packed : holds_state n bytes ≡ true
    unfolding holds_state
    holds-packed =
        ap (λ (r : Run). well_formed r && same (bytes_of (state_bits n (state_of r))) (take (state_wire_count n) bytes)) run-back_in
        ∙ and_i (run_of_formed n s a b h)
        (ap₂ same (ap (λ (x : State). bytes_of (state_bits n x)) (state-back n s)) (take_at (bytes_of (state_bits n s)) rest (state_wire_count n) packed-length)
        ∙ same_self (bytes_of (state_bits n s)))

    -- a well-formed state's bytes are read back as its run
    pub read-packed : read_back n bytes ≡ record { outcome = Ok tt; run = run_of n s }
    read-packed =
        sym (read_taken n bytes within (omega (arith, length-append (bytes_of (state_bits n s)) rest, packed-length)) holds-packed)
        ∙ ap (λ (r : Run). record { outcome = Ok tt; run = r }) run-back_in
      where
        within : outside 32 n ≡ false
        within = rw (le-ltb n 1 a, le-ltb 32 n b)

-- bytes that begin with those of a well-formed state are read back as its run: 12 is only where no well-formed state has such bytes
pub read-front : (n : ℕ) (s : State) (bytes : List ℕ) → well_formed_state n s ≡ true → 1 ≤ n → n ≤ 32
    → bytes_of (state_bits n s) ≡ take (state_wire_count n) bytes
    → read_back n bytes ≡ record { outcome = Ok tt; run = run_of n s }
read-front n s bytes h a b e =
    ap (read_back n) (sym (ap (λ (l : List ℕ). l ++ drop (state_wire_count n) bytes) e ∙ take-append-drop (state_wire_count n) bytes))
    ∙ read-packed n s (drop (state_wire_count n) bytes) h a b

-- what is read back is a well-formed run of n, and its packed bytes are those that it was read from
pub record Held (n : ℕ) (bytes : List ℕ) (run : Run) : Type 0 where
  pub variables : run.n ≡ n
  pub formed : well_formed run ≡ true
  pub again : bytes_of (state_bits n (state_of run)) ≡ take (state_wire_count n) bytes

module _ (n : ℕ) (bytes : List ℕ) where
  abbrev read_of : Outcome → Read
  read_of o = given o (record { outcome = Ok tt; run = run_in n bytes }) (λ r. record { outcome = Err r; run = run_of n fresh })

  taken : (o : Outcome) → outcome (read_checks n bytes) ≡ o → (read_back n bytes).outcome ≡ Ok tt → o ≡ Ok tt
  unfolding read_back
  taken (Ok _) q e = refl
  taken (Err r) q e = absurd (refused-taken (sym (ap (λ (o : Outcome). (read_of o).outcome) q) ∙ e))

  held : {r : Run} → r ≡ run_in n bytes → holds_state n bytes ≡ true → Held n bytes r
  unfolding holds_state
  held {r} q k = record {
    variables = run_variables n bytes r q;
    formed = ap well_formed q ∙ and_l (well_formed (run_in n bytes)) _ k;
    again = ap (λ (x : Run). bytes_of (state_bits n (state_of x))) q ∙ same_true _ _ (and_r (well_formed (run_in n bytes)) _ k);
  }

  -- bytes that are read back are those of a well-formed state of n
  pub read_held : (read_back n bytes).outcome ≡ Ok tt → Held n bytes (read_back n bytes).run
  read_held e =
      let t = taken (outcome (read_checks n bytes)) refl e in
      let t₁ = checks-taken (outside 32 n) Variables _ t in
      let t₂ = checks-taken (ltb (length bytes) (state_wire_count n)) Wires _ t₁ in
      let k : holds_state n bytes ≡ true = not-false (holds_state n bytes) (check_passed (not (holds_state n bytes)) refusal.State _ t₂) in
      let q : (read_back n bytes).run ≡ run_in n bytes =
      ap (λ (r : Read). r.run)
      (sym (read_taken n bytes (check_passed (outside 32 n) Variables _ t)
      (ltb-false (length bytes) (state_wire_count n) (check_passed (ltb (length bytes) (state_wire_count n)) Wires _ t₁)) k)) in
      held q k

-- ---- by the entries

module _ (d : Dimensions) (tables : Tables) (run : Run) (bytes : List ℕ) (e : outcome (pack_checks d tables run (length bytes)) ≡ Ok tt) where
  abbrev row_bytes : List ℕ
  row_bytes = bytes_of (rows_bits d.n (rows_of d tables))

  abbrev state_bytes : List ℕ
  state_bytes = bytes_of (state_bits d.n (state_of run))

  split : packed d tables run bytes ≡ row_bytes ++ (state_bytes ++ drop (length (bytes_of (input_bits d tables (state_of run)))) bytes)
  unfolding input_bits
  split =
      sym (pack-taken d tables run bytes e)
      ∙ ap (λ (l : List ℕ). l ++ drop (length (bytes_of (input_bits d tables (state_of run)))) bytes)
      (map-append digit (rows_bits d.n (rows_of d tables)) (state_bits d.n (state_of run)))
      ∙ append_assoc row_bytes state_bytes _

  -- after the rows, a packed run is read back
  pub read-behind-rows : length run.levels ≡ 32
      → read_back d.n (drop (2 * d.n * row_count d) (packed d tables run bytes)) ≡ record { outcome = Ok tt; run = run }
  read-behind-rows room =
      let o = passed d tables run (length bytes) e in
      let f = formed_run_e run o.formed in
      ap (read_back d.n) (ap (drop (2 * d.n * row_count d)) split ∙ drop_at row_bytes _ (2 * d.n * row_count d) rows_wide)
      ∙ read-packed d.n (state_of run) _ (ap (λ (k : ℕ). well_formed_state k (state_of run)) (sym o.same) ∙ f.state)
      o.allowed.size.n_least o.allowed.size.n-most
      ∙ ap (λ (r : Run). record { outcome = Ok tt; run = r }) (ap (λ (k : ℕ). run_of k (state_of run)) (sym o.same)
      ∙ sym (run-back run (formed_tidy run room f)))
    where
      rows_wide : length row_bytes ≡ 2 * d.n * row_count d
      rows_wide =
          length-map (rows_bits d.n (rows_of d tables)) digit ∙ rows-length d.n (rows_of d tables)
          ∙ ap (λ (k : ℕ). (d.n + d.n) * k) (tables-length d tables) ∙ twice d.n (row_count d)

  -- a run that was read from some bytes puts those bytes after the rows
  pub pack-read : (from : List ℕ) → Held d.n from run → packed d tables run bytes ≡ over (row_bytes ++ take (state_wire_count d.n) from) bytes
  unfolding input_bits
  pack-read from h =
      sym (pack-taken d tables run bytes e)
      ∙ ap (λ (l : List ℕ). over l bytes)
      (map-append digit (rows_bits d.n (rows_of d tables)) (state_bits d.n (state_of run)) ∙ ap (λ (l : List ℕ). row_bytes ++ l) h.again)
