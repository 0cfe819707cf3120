-- A host that mixes attempts with late conditions has the repeats of demand 3 over the tables as the conditions leave them, each after as many repeats: an
-- attempt that is refused goes on with the run and the tables that it met. By induction on the turns.
use mathlib.Core.Path.{◌≡◌, refl, sym, ap, ap₂, ◌∙◌, fun_ext, subst}
use mathlib.Core.Bool.{Bool, true, false, cond}
use mathlib.Core.List.{List, [], ◌∷◌, ◌++◌}
use Prim.Native.Nat.{ℕ, zero, suc, ◌+◌, ◌-◌, ◌*◌, ◌≤◌, min}
use native.Mathlib.Omega.{arith}
use lib.Dec.{leb}
use lib.ListN.{length, replicate, length-map}
use Rattle.words.proofs.Truth.{on, and_r}
use Rattle.dimensions.specs.declared.Dimensions.{Dimensions}
use Rattle.dimensions.specs.Sizes.{ceiling}
use Rattle.tables.specs.Tables.{Tables}
use Rattle.tables.specs.Rows.{rows_of_public, rows_of}
use Rattle.state.specs.declared.Run.{Run}
use Rattle.state.specs.declared.Standing.{Standing}
use Rattle.state.specs.State.{State, fresh, run_of, state_of, if_open}
use Rattle.state.specs.WellFormed.{well_formed_state}
use Rattle.state.proofs.HeldRun.{state-back}
use Rattle.solver.specs.Step.{step}
use Rattle.solver.proofs.StepLaws.{step-well_formed, fresh-well_formed}
use Rattle.netlist.specs.Outputs.{closed}
use Rattle.solver.specs.declared.Answer.{Answer}
use Rattle.repeats.specs.Repeats.{Accepts, Attempt, Lent, Otherwise, Repeat, returned, marks, attempted, comes_of, later_tables, repeats}
use Rattle.repeats.specs.Repeats.{repeats_ended, last_run, long_enough, long_ones}
use Rattle.repeats.specs.Repeating.{whole, made}
use Rattle.repeats.proofs.Applying.{short-turned, attempt_is}
use Rattle.answers.specs.Printed.{answer_text}
use Rattle.demand3.specs.Demand3.{history_of, Follows, answer_for, answer_in, circuit_text_of, Seen, seen}
use Rattle.late_runs.specs.Schedule.{Dated, tables_with, tables_at}
use Rattle.late_runs.specs.Host.{Turn, Try, Call, Renew, repeats_by, count_by, room_for, attempts_in, conditions_in}
use Rattle.late_runs.proofs.Schedule.{with-accepted, tables-accepted}
use Rattle.late_runs.proofs.Demands.{history-late, end_late, secrecy_late}
use Rattle.late_runs.proofs.Host.{open_replaces, at_once}
use Rattle.late_runs.proofs.CircuitDates.{not_yet, shifted, first_date}
use Rattle.late_runs.proofs.CircuitCalls.{call_taken, call_refused, further, taken-goes, refused-goes, counts-add-up}
use Rattle.demand3.proofs.Histories.{closed_open}

-- an attempt that is refused gives the same, whichever accepted tables it read
pub turned-alike : (d : Dimensions) (t t' : Tables) → Accepts d t → Accepts d t' → (s : State) → well_formed_state d.n s ≡ true
    → (a : Attempt) → long_enough d a ≡ false → attempted d t (run_of d.n s) a ≡ attempted d t' (run_of d.n s) a
turned-alike d t t' acc acc' s w (Lent bytes wires handed) e = short-turned d t acc s w bytes wires handed e
    ∙ sym (short-turned d t' acc' s w bytes wires handed e)
turned-alike d t t' acc acc' s w (Otherwise refusal) e = refl

module _ (d : Dimensions) where
  -- ---- the turns

  -- demand 3's repeats over the tables as the conditions leave them
  abbrev mixed : Tables → ℕ → State → List Turn → List Repeat
  mixed t budget s turns = repeats d (tables_at d t (conditions_in d 0 turns)) budget (run_of d.n s) (attempts_in d turns)

  module _ (t : Tables) (acc : Accepts d t) (s : State) (formed : well_formed_state d.n s ≡ true) (rest : ℕ) (a : Attempt) (more : List Turn) where
    abbrev run : Run
    run = run_of d.n s

    abbrev next : State
    next = step d.n (rows_of d t) s

    -- what comes of the attempt, by whether it is long enough
    abbrev goes : List Repeat → List Repeat → Bool → List Repeat
    goes again further long = cond long (returned d.n next ∷ cond (closed next) [] further) again

    -- demand 3's repeats where the later conditions are dated after the attempt, or not
    abbrev dating : Bool → List Repeat
    dating long = repeats d (tables_at d t (conditions_in d (first_date long) more)) (suc rest) run (a ∷ attempts_in d more)

    -- the host's
    host-goes : repeats_by d t (suc rest) run (Try a ∷ more) ≡ goes (repeats_by d t (suc rest) run more)
        (repeats_by d t rest (run_of d.n next) more) (long_enough d a)
    unfolding repeats_by
    host-goes = attempt_is d t acc s formed (λ r. repeats_by d t (suc rest) r more) (λ r. repeats_by d t rest r more) a

    -- demand 3's: a repeat reads these tables, since the next conditions come after it
    mixed_long : long_enough d a ≡ true → mixed t (suc rest) s (Try a ∷ more) ≡ goes (mixed t (suc rest) s more) (mixed t rest next more) true
    unfolding repeats attempts_in conditions_in
    mixed_long e =
        ap dating e
        ∙ ap (λ (x : Tables). comes_of (attempted d x run a) again further) (not_yet d more 0 1 (omega arith) t)
        ∙ attempt_is d t acc s formed again further a
        ∙ ap₂ (λ (b : Bool) (at : ℕ → Tables). cond b
        (returned d.n next ∷ cond (closed next) [] (repeats d at rest (run_of d.n next) (attempts_in d more))) (again run))
        e (fun_ext (λ k. shifted d more 0 k t))
      where
        again : Run → List Repeat
        again r = repeats d (tables_at d t (conditions_in d 1 more)) (suc rest) r (attempts_in d more)

        further : Run → List Repeat
        further r = repeats d (later_tables (tables_at d t (conditions_in d 1 more))) rest r (attempts_in d more)

    -- an attempt that is refused comes to nothing, whatever accepted tables it reads
    mixed-short : long_enough d a ≡ false → mixed t (suc rest) s (Try a ∷ more) ≡ mixed t (suc rest) s more
    unfolding repeats attempts_in conditions_in
    mixed-short e =
        ap dating e
        ∙ attempt_is d (at 0) (tables-accepted d (conditions_in d 0 more) t acc 0) s formed again further a
        ∙ ap (λ (b : Bool). cond b (returned d.n read ∷ cond (closed read) [] (further (run_of d.n read))) (again run)) e
      where
        at : ℕ → Tables
        at = tables_at d t (conditions_in d 0 more)

        read : State
        read = step d.n (rows_of d (at 0)) s

        again : Run → List Repeat
        again r = repeats d at (suc rest) r (attempts_in d more)

        further : Run → List Repeat
        further r = repeats d (later_tables at) rest r (attempts_in d more)

    mixed-goes : mixed t (suc rest) s (Try a ∷ more) ≡ goes (mixed t (suc rest) s more) (mixed t rest next more) (long_enough d a)
    mixed-goes = on (long_enough d a) (λ e. rw e (mixed_long e)) (λ e. rw e (mixed-short e))

  -- ---- a call of `repeat`

  -- it is dated and attempted as so many attempts
  call_attempts : (a : Attempt) (more : List Turn) (k : ℕ) → attempts_in d (replicate k (Try a) ++ more) ≡ replicate k a ++ attempts_in d more
  unfolding attempts_in
  call_attempts a more zero = refl
  call_attempts a more (suc k) = ap (λ (l : List Attempt). a ∷ l) (call_attempts a more k)

  call_dates : (a : Attempt) → long_enough d a ≡ true → (more : List Turn) (k j : ℕ)
      → conditions_in d j (replicate k (Try a) ++ more) ≡ conditions_in d (j + k) more
  unfolding conditions_in
  call_dates a e more zero j = let z : j ≡ j + 0 = omega arith in ap (λ (i : ℕ). conditions_in d i more) z
  call_dates a e more (suc k) j =
      let z : suc j + k ≡ j + suc k = omega arith in
      ap (λ (b : Bool). conditions_in d (cond b (suc j) j) (replicate k (Try a) ++ more)) e
      ∙ call_dates a e more k (suc j) ∙ ap (λ (i : ℕ). conditions_in d i more) z

  -- with no budget left there are no repeats
  mixed-none : (t : Tables) (s : State) (turns : List Turn) → mixed t 0 s turns ≡ []
  unfolding repeats
  mixed-none t s turns = go (attempts_in d turns)
    where
      go : (attempts : List Attempt) → repeats d (tables_at d t (conditions_in d 0 turns)) 0 (run_of d.n s) attempts ≡ []
      go [] = refl
      go (a ∷ later) = refl

  module _ (t : Tables) (acc : Accepts d t) (bytes wires : List ℕ) (long : long_enough d (whole d bytes wires) ≡ true) (more : List Turn)
      (follow : (budget : ℕ) (s : State) → well_formed_state d.n s ≡ true → closed s ≡ false
      → repeats_by d t budget (run_of d.n s) more ≡ mixed t budget s more) where
    -- k repeats of the call, and the turns after it
    abbrev calls : ℕ → State → List Repeat
    calls k s = repeats d (λ i. t) k (run_of d.n s) (replicate k (whole d bytes wires))

    abbrev behind : ℕ → State → List Repeat → List Repeat
    behind budget s = further d t more budget (run_of d.n s)

    abbrev tries : ℕ → List Turn
    tries k = replicate k (Try (whole d bytes wires)) ++ more

    none_made : (budget : ℕ) (s : State) → well_formed_state d.n s ≡ true → closed s ≡ false → behind budget s [] ≡ mixed t budget s more
    unfolding last_run
    none_made budget s w o =
        let z : budget - 0 ≡ budget = omega arith in
        ap₂ (λ (b : Bool) (k : ℕ). cond b [] (repeats_by d t k (run_of d.n s) more)) (ap closed (state-back d.n s) ∙ o) z
        ∙ follow budget s w o

    call_follows : (k j budget : ℕ) (s : State) → well_formed_state d.n s ≡ true → closed s ≡ false → j ≡ min k budget
        → behind budget s (calls j s) ≡ mixed t budget s (tries k)
    unfolding repeats last_run
    call_follows zero zero budget s w o e = none_made budget s w o
    call_follows zero (suc j) budget s w o e = absurd (omega arith)
    call_follows (suc k) zero zero s w o e = none_made zero s w o ∙ mixed-none t s more ∙ sym (mixed-none t s (tries (suc k)))
    call_follows (suc k) (suc j) zero s w o e = absurd (omega arith)
    call_follows (suc k) zero (suc rest) s w o e = absurd (omega arith)
    call_follows (suc k) (suc j) (suc rest) s w o e =
        ap (behind (suc rest) s)
        (attempt_is d t acc s w again next-ones a
        ∙ ap (λ (b : Bool). cond b (returned d.n next' ∷ cond (closed next') [] (calls j next')) (again (run_of d.n s))) long)
        ∙ go (closed next') refl (λ o'. call_follows k j rest next' w' o' (omega arith))
        ∙ sym (mixed-goes t acc s w rest a (tries k)
        ∙ ap (goes t acc s w rest a (tries k) (mixed t (suc rest) s (tries k)) (mixed t rest next' (tries k))) long)
      where
        a : Attempt
        a = whole d bytes wires

        next' : State
        next' = step d.n (rows_of d t) s

        w' : well_formed_state d.n next' ≡ true
        w' = step-well_formed d.n (rows_of d t) s w

        again : Run → List Repeat
        again r = repeats d (λ i. t) (suc j) r (replicate j (whole d bytes wires))

        next-ones : Run → List Repeat
        next-ones r = repeats d (λ i. t) j r (replicate j (whole d bytes wires))

        go : (c : Bool) → closed next' ≡ c → (closed next' ≡ false → behind rest next' (calls j next') ≡ mixed t rest next' (tries k))
            → behind (suc rest) s (returned d.n next' ∷ cond c [] (calls j next')) ≡ returned d.n next' ∷ cond c [] (mixed t rest next' (tries k))
        go true q h =
            ap (λ (b : Bool). returned d.n next' ∷ cond b [] (repeats_by d t (suc rest - 1) (run_of d.n next') more))
            (ap closed (state-back d.n next') ∙ q)
        go false q h =
            let z : suc rest - suc (length (calls j next')) ≡ rest - length (calls j next') = omega arith in
            ap (λ (k : ℕ). returned d.n next' ∷ (calls j next' ++ cond (closed (state_of (last_run (run_of d.n next') (calls j next')))) []
            (repeats_by d t k (last_run (run_of d.n next') (calls j next')) more))) z
            ∙ ap (λ (l : List Repeat). returned d.n next' ∷ l) (h q)

  module _ (t : Tables) (acc : Accepts d t) (s : State) (formed : well_formed_state d.n s ≡ true) (o : closed s ≡ false) (budget times : ℕ)
      (gates bytes wires : List ℕ) (more : List Turn) where
    -- a refused call comes to nothing
    call_short : room_for d gates bytes wires ≡ false → repeats_by d t budget (run_of d.n s) more ≡ mixed t budget s more
        → repeats_by d t budget (run_of d.n s) (Call times gates bytes wires ∷ more) ≡ mixed t budget s (Call times gates bytes wires ∷ more)
    unfolding attempts_in conditions_in
    call_short e h =
        let r = call_refused d t acc s formed (min times budget) gates bytes wires e in
        refused-goes d t budget (run_of d.n s) times gates bytes wires more r.0 r.1 ∙ h ∙ rw e

    -- one that is taken comes to its attempts
    call_long : room_for d gates bytes wires ≡ true
        → ((budget : ℕ) (s : State) → well_formed_state d.n s ≡ true → closed s ≡ false → repeats_by d t budget (run_of d.n s) more ≡ mixed t budget s more)
        → repeats_by d t budget (run_of d.n s) (Call times gates bytes wires ∷ more) ≡ mixed t budget s (Call times gates bytes wires ∷ more)
    unfolding attempts_in conditions_in made run_of
    call_long e h =
        let long = and_r (leb (3 * ceiling d) (length gates)) (long_enough d (whole d bytes wires)) e in
        taken-goes d t budget (run_of d.n s) times gates bytes wires more (call_taken d t acc s formed (min times budget) gates bytes wires e)
        ∙ ap (λ (st : Standing). behind t acc bytes wires long more h budget s (if_open st (calls t acc bytes wires long more h (min times budget) s) []))
        (closed_open s.standing o)
        ∙ call_follows t acc bytes wires long more h times (min times budget) budget s formed o refl
        ∙ ap₂ (λ (at : List Dated) (l : List Attempt). repeats d (tables_at d t at) budget (run_of d.n s) l)
        (call_dates (whole d bytes wires) long more times 0) (call_attempts (whole d bytes wires) more times)
        ∙ rw e

  repeats-follow : (turns : List Turn) (t : Tables) → Accepts d t → (budget : ℕ) (s : State) → well_formed_state d.n s ≡ true → closed s ≡ false
      → repeats_by d t budget (run_of d.n s) turns ≡ mixed t budget s turns
  unfolding repeats_by repeats attempts_in conditions_in
  repeats-follow [] t acc budget s w o = refl
  repeats-follow (Renew c ∷ more) t acc budget s w o =
      ap (λ (x : Tables). repeats_by d x budget (run_of d.n s) more) (open_replaces d t acc s w c o)
      ∙ repeats-follow more (tables_with d t c) (with-accepted d t acc c) budget s w o
      ∙ ap (λ (at : ℕ → Tables). repeats d at budget (run_of d.n s) (attempts_in d more)) (at_once d c (conditions_in d 0 more) t)
  repeats-follow (Call times gates bytes wires ∷ more) t acc budget s w o =
      on (room_for d gates bytes wires)
      (λ e. call_long t acc s w o budget times gates bytes wires more e (repeats-follow more t acc))
      (λ e. call_short t acc s w o budget times gates bytes wires more e (repeats-follow more t acc budget s w o))
  repeats-follow (Try a ∷ more) t acc zero s w o = refl
  repeats-follow (Try a ∷ more) t acc (suc rest) s w o =
      host-goes t acc s w rest a more
      ∙ ap (λ (l : List Repeat). goes t acc s w rest a more l (repeats_by d t rest (run_of d.n next') more) (long_enough d a))
      (repeats-follow more t acc (suc rest) s w o)
      ∙ on (closed next')
      (λ e. rw e)
      (λ e. ap (λ (l : List Repeat). goes t acc s w rest a more (mixed t (suc rest) s more) l (long_enough d a))
      (repeats-follow more t acc rest next' (step-well_formed d.n (rows_of d t) s w) e))
      ∙ sym (mixed-goes t acc s w rest a more)
    where
      next' : State
      next' = step d.n (rows_of d t) s

-- ---- from the fresh run

module _ (d : Dimensions) (tables : Tables) (acc : Accepts d tables) (budget : ℕ) (turns : List Turn) where
  -- the repeats of demand 3, over the tables as the conditions leave them
  pub host-repeats : repeats_by d tables budget (run_of d.n fresh) turns
      ≡ history_of d (tables_at d tables (conditions_in d 0 turns)) budget (attempts_in d turns)
  host-repeats = repeats-follow d turns tables acc budget fresh (fresh-well_formed d.n) refl

  -- so each repeat returned the state after as many steps of the plain run over the same replacements
  pub host-history : Follows d (tables_at d tables (conditions_in d 0 turns)) budget (attempts_in d turns) (repeats_by d tables budget (run_of d.n fresh) turns)
  host-history =
      subst (Follows d (tables_at d tables (conditions_in d 0 turns)) budget (attempts_in d turns)) (sym host-repeats)
      (history-late d tables acc (conditions_in d 0 turns) budget (attempts_in d turns))

  abbrev pub host_repeats : List Repeat
  host_repeats = repeats_by d tables budget (run_of d.n fresh) turns

  -- the plain run's answer over the same replacements, each after as many steps as repeats
  abbrev pub plain_answer : Answer
  plain_answer = answer_for d (tables_at d tables (conditions_in d 0 turns)) budget

  -- repeats that have ended give it
  pub host_end : repeats_ended budget host_repeats ≡ true → answer_in d.n host_repeats ≡ plain_answer
  host_end =
      subst (λ (h : List Repeat). repeats_ended budget h ≡ true → answer_in d.n h ≡ plain_answer) (sym host-repeats)
      (end_late d tables acc (conditions_in d 0 turns) budget (attempts_in d turns)).0

  -- and they end where attempts and calls are long enough for as many repeats as it counts
  pub host-ends : plain_answer.count ≤ long_ones d (attempts_in d turns) → repeats_ended budget host_repeats ≡ true
  host-ends h = ap (repeats_ended budget) host-repeats ∙ (end_late d tables acc (conditions_in d 0 turns) budget (attempts_in d turns)).1 h

  -- the numbers of repeats that the host was given add up to its count
  pub host-count : repeats_ended budget host_repeats ≡ true → count_by d tables budget (run_of d.n fresh) turns ≡ plain_answer.count
  host-count e =
      counts-add-up d turns tables budget (run_of d.n fresh)
      ∙ sym (length-map host_repeats (λ (r : Repeat). r.mark)) ∙ ap (λ (a : Answer). a.count) (host_end e)

  -- what is seen of them outside the gates
  abbrev pub host_sees : List ℕ × ℕ × List Bool × List ℕ
  host_sees = (circuit_text_of d, length host_repeats, marks host_repeats, answer_text (min d.n 32) (answer_in d.n host_repeats))

  host-seen : host_sees ≡ (let s = seen d (tables_at d tables (conditions_in d 0 turns)) budget (attempts_in d turns) in (s.0, s.1, s.2, s.3))
  host-seen = ap (λ (h : List Repeat). (circuit_text_of d, length h, marks h, answer_text (min d.n 32) (answer_in d.n h))) host-repeats

-- two hosts, each with turns of its own, that have ended and agree in verdict, model and count see the same, wherever their replacements fell
pub hosts_alike : (d : Dimensions) (tables tables' : Tables) (acc : Accepts d tables) (acc' : Accepts d tables')
    → rows_of_public d tables ≡ rows_of_public d tables'
    → (budget : ℕ) (turns turns' : List Turn) → plain_answer d tables acc budget turns ≡ plain_answer d tables' acc' budget turns'
    → repeats_ended budget (host_repeats d tables acc budget turns) ≡ true → repeats_ended budget (host_repeats d tables' acc' budget turns') ≡ true
    → host_sees d tables acc budget turns ≡ host_sees d tables' acc' budget turns'
hosts_alike d tables tables' acc acc' same budget turns turns' q e e' =
    host-seen d tables acc budget turns
    ∙ ap (λ (s : Seen). (s.0, s.1, s.2, s.3))
    (secrecy_late d tables tables' acc acc' (conditions_in d 0 turns) (conditions_in d 0 turns') same budget (attempts_in d turns) (attempts_in d turns') q
    (ap (repeats_ended budget) (sym (host-repeats d tables acc budget turns)) ∙ e)
    (ap (repeats_ended budget) (sym (host-repeats d tables' acc' budget turns')) ∙ e'))
    ∙ sym (host-seen d tables' acc' budget turns')
