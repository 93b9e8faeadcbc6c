-- One step of a run, by the machine's answer to it.
use Rattle.std.proofs.Common.{◌≡◌, ◌+◌, length, ℕ, zero, suc, Bool, true, false, List, Option, Some, None, refl, sym}
use Rattle.std.proofs.Common.{ap, ◌∙◌, subst, true≢false}
use Rattle.fore_base.specs.declared.fault.Fault.{Fault as Kind}
use Rattle.fore_base.specs.declared.shape.Shape.{Shape}
use Rattle.fore_base.specs.declared.store.Store.{Store}
use Rattle.c_types.specs.declared.mode.MallocMode.{MallocMode}
use Rattle.c_types.specs.declared.outcome.Outcome.{Outcome}
use Rattle.c_types.specs.declared.outcome.Outcome.TheVariants.{Ended as RunEnded, Fault as RunFault, StillRunning}
use Rattle.c_types.specs.Control.{Items, Done, opened}
use Rattle.c_types.specs.Control.{start_of}
use Rattle.c_types.specs.Steps.{Goes, Stops, Faults, turn_of, takes, mark_of}
use Rattle.c_types.specs.Steps as steps
use Rattle.c_types.specs.Program.{Program}
use Rattle.c_types.specs.Runs.{supply, after_turn, at_end, go, own_line, empty_store, run}
use Rattle.c_machine.specs.declared.state.Turn.{Turn}
use Rattle.c_machine.specs.declared.state.Turn.TheVariants.{Next, Fault, Ended, NeedsChoice}
use Rattle.c_machine.specs.declared.state.Machine.{Machine}
use Rattle.c_machine.specs.Machines.{program_of, mode_of, todo, store_of, over_of, is_done, Stepped, Answers}
use Rattle.c_acts.specs.Choices.{chosen}
use Rattle.c_machine.specs.inner.Going.{going}

module _ (shapes : List Shape) (mode : MallocMode) where
  pub ends_at : (is : Items) (step : ℕ) → is_done is ≡ true → at_end is step ≡ RunEnded step
  ends_at Done step e = refl
  ends_at _ step e = absurd (true≢false (sym e))

  pub runs_on : (is : Items) (step : ℕ) → is_done is ≡ false → at_end is step ≡ StillRunning
  runs_on Done step e = absurd (true≢false e)
  runs_on _ step e = refl

  pub done_ends : (n step : ℕ) (is : Items) (s : Store) (cs : List ℕ) (used : ℕ) → is_done is ≡ true
      → going shapes mode (suc n) step is s cs used ≡ RunEnded step
  done_ends n step Done s cs used e = refl
  done_ends n step _ s cs used e = absurd (true≢false (sym e))

  -- the rest of a run after a choice
  abbrev pub next_of : ℕ → ℕ → Items → Store → ℕ → List ℕ → ℕ → Outcome
  next_of n step is s x ds u =
      after_turn (turn_of shapes mode is s x) (mark_of is) (step + 1)
      (λ js t. go shapes mode own_line at_end n (step + 1) js t ds u)

  pub steps_on : (n step : ℕ) (is : Items) (s : Store) (cs : List ℕ) (used : ℕ) → is_done is ≡ false
      → going shapes mode (suc n) step is s cs used ≡ supply (takes mode is) cs (step + 1) used (next_of n step is s)
  steps_on n step Done s cs used e = absurd (true≢false e)
  steps_on n step _ s cs used e = refl

  pub go_going : (n step : ℕ) (is : Items) (s : Store) (cs : List ℕ) (used : ℕ)
      → go shapes mode own_line at_end n step is s cs used ≡ going shapes mode n step (opened is) s cs used
  go_going zero step is s cs used = refl
  go_going (suc n) step is s cs used = refl

  -- a turn, by what the machine answered
  pub turn_next : (t : steps.Turn) (old new : Machine) (line st n u : ℕ) (ds : List ℕ) → Stepped t old new Next
      → after_turn t line st (λ js v. go shapes mode own_line at_end n st js v ds u)
      ≡ going shapes mode n st (todo new) (store_of new) ds u
  turn_next (Goes js v) old new line st n u ds h = go_going n st js v ds u
      ∙ ap (λ is. going shapes mode n st is v ds u) (sym h.1)
      ∙ ap (λ (s : Store). going shapes mode n st (todo new) s ds u) (sym h.2)
  turn_next Stops old new line st n u ds h = absurd (let e : Next ≡ Ended = h.0 in cc)
  turn_next (Faults k) old new line st n u ds h = absurd (let e : Next ≡ Fault k (mark_of (todo old)) = h.0 in cc)

  pub turn_ended : (t : steps.Turn) (old new : Machine) (line st : ℕ) (k : Items → Store → Outcome)
      → Stepped t old new Ended → after_turn t line st k ≡ RunEnded st
  turn_ended (Goes js v) old new line st k h = absurd (let e : Ended ≡ Next = h.0 in cc)
  turn_ended Stops old new line st k h = refl
  turn_ended (Faults kind) old new line st k h = absurd (let e : Ended ≡ Fault kind (mark_of (todo old)) = h.0 in cc)

  pub turn_fault : (t : steps.Turn) (old new : Machine) (kind : Kind) (line st : ℕ) (k : Items → Store → Outcome)
      → Stepped t old new (Fault kind line) → after_turn t (mark_of (todo old)) st k ≡ RunFault kind line st
  turn_fault (Goes js v) old new kind line st k h = absurd (let e : Fault kind line ≡ Next = h.0 in cc)
  turn_fault Stops old new kind line st k h = absurd (let e : Fault kind line ≡ Ended = h.0 in cc)
  turn_fault (Faults other) old new kind line st k h =
      let e : Fault kind line ≡ Fault other (mark_of (todo old)) = h.0 in cc

-- what was answered on the choice that there was
pub answered : (old new : Machine) (answer : Turn) (needed : Bool) (choice : Option ℕ) (x : ℕ) → chosen needed choice
    ≡ Some x → Answers (chosen needed choice) old new answer
    → Stepped (turn_of (program_of old).shapes.structs (mode_of old) (todo old) (store_of old) x) old new answer
answered old new answer needed choice x e h = subst (λ c. Answers c old new answer) e h

-- a step that was taken wants no choice
pub not_needed : (t : steps.Turn) (old new : Machine) → Stepped t old new NeedsChoice → ⊥
not_needed (Goes js v) old new h = let e : NeedsChoice ≡ Next = h.0 in cc
not_needed Stops old new h = let e : NeedsChoice ≡ Ended = h.0 in cc
not_needed (Faults k) old new h = let e : NeedsChoice ≡ Fault k (mark_of (todo old)) = h.0 in cc

pub still_on : (t : steps.Turn) (old new : Machine) → Stepped t old new Next → over_of new ≡ None
still_on (Goes js v) old new h = h.3
still_on Stops old new h = absurd (let e : Next ≡ Ended = h.0 in cc)
still_on (Faults k) old new h = absurd (let e : Next ≡ Fault k (mark_of (todo old)) = h.0 in cc)

-- a run from its start
pub run_going : (p : Program) (mode : MallocMode) (cs : List ℕ) (n : ℕ)
    → run p mode cs n
    ≡ going p.shapes.structs mode n 0 (opened (start_of p)) (empty_store (length p.vars) (length p.data_vars)) cs 0
unfolding run
run_going p mode cs n =
    go_going p.shapes.structs mode n 0 (start_of p) (empty_store (length p.vars) (length p.data_vars)) cs 0

-- the same rest of a run
pub same_going : (shapes shapes' : List Shape) (mode mode' : MallocMode) (n n' step : ℕ) (is is' : Items) (s s' : Store)
    (cs : List ℕ) (used : ℕ) → shapes ≡ shapes' → mode ≡ mode' → n ≡ n' → is ≡ is' → s ≡ s'
    → going shapes mode n step is s cs used ≡ going shapes' mode' n' step is' s' cs used
same_going shapes shapes' mode mode' n n' step is is' s s' cs used a m b c d =
    ap (λ (x : List Shape). going x mode n step is s cs used) a
    ∙ ap (λ x. going shapes' x n step is s cs used) m
    ∙ ap (λ x. going shapes' mode' x step is s cs used) b
    ∙ ap (λ x. going shapes' mode' n' step x s cs used) c
    ∙ ap (λ (x : Store). going shapes' mode' n' step is' x cs used) d
