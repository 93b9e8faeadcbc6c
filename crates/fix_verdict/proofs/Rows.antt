-- Worked values of the words on verdicts, each made by hand from what the word says.
use Rattle.std.proofs.Common.{◌≡◌, ◌∙◌, ◌<◌, inl, inr, List, [], ◌∷◌, length, ℕ, true, Some, sym, subst, arith}
use Rattle.std.proofs.lemmas.Option.{none-some, same_Some}
use Rattle.fore_base.specs.declared.fault.Fault.TheVariants.{Leak}
use Rattle.fore_base.specs.declared.store.Store.{Store}
use Rattle.fore_base.specs.Lists.{Every}
use Rattle.c_types.specs.declared.mode.MallocMode.{MallocMode}
use Rattle.c_types.specs.Over.{IsFault}
use Rattle.c_types.specs.Program.{Program}
use Rattle.c_types.specs.Runs.{run}
use Rattle.c_types.specs.declared.outcome.Outcome.TheVariants.{StillRunning, Fault}
use Rattle.c_cfg.specs.LoopFree.{has_no_loop}
use Rattle.c_prefixes.specs.Prefixes.{AtMost}
use Rattle.fa_core.specs.Boxes.{Boxes}
use Rattle.fa_core.specs.declared.forest.Forest.{Forest}
use Rattle.fa_core.specs.declared.forest.Target.TheVariants.{Uninit}
use Rattle.fix_core.specs.Follows.{IsMember}
use Rattle.fix_core.specs.declared.explored.AbsTrace.{AbsTrace}
use Rattle.fix_core.specs.declared.explored.Explored.TheVariants.{Closed, Faulty, Spent}
use Rattle.fix_core.specs.declared.nodes.Node.{Node}
use Rattle.fix_core.proofs.Rows.{bare, n1, n3, nodes, graph}
use Rattle.fix_verdict.specs.Verdicts.{IsExact, AreExact, TraceOf, IsVerdict, IsNeverLoose}
use Rattle.fix_verdict.specs.declared.verdict.Verdict.TheVariants.{Safe, Unsafe, FullBudget, LooseTrace}

module _ (T : Boxes) where
  -- Nodes that gained no members: without a middle forest, or with one that has them all

  exact_without_a_middle : IsExact T nodes 1
  exact_without_a_middle n M i m =
      absurd (none-some M (subst (λ (x : Node). x.state.middle ≡ Some M) (sym (same_Some n1 n i)) m))

  exact_with_its_middle : IsExact T nodes 3
  exact_with_its_middle n M i m s h =
      let e : n3 ≡ n = same_Some n3 n i in
      let f = subst (λ (x : Node). x.state.middle ≡ Some M) (sym e) m in
      let g = subst (λ (x : Node). IsMember T x.state.forest s) (sym e) h in
      subst (λ (F : Forest). IsMember T F s) (same_Some (bare (Uninit ∷ [])) M f) g

  -- node 0 does not count
  exact_at_the_entry : (all : List Node) → AreExact T all (0 ∷ [])
  exact_at_the_entry all j h (inl e) = absurd (omega (arith, h, e))
  exact_at_the_entry all j h (inr i) = absurd i

-- Verdicts: each end has its own, and a trace has two

module _ (T : Boxes) (p : Program) (m : MallocMode) (k budget : ℕ) (tr : AbsTrace) (s : Store) where
  closed_is_not_unsafe : IsVerdict T p m graph k budget (Closed nodes) (Unsafe Leak 1 1) → ⊥
  closed_is_not_unsafe h = h

  closed_is_not_spent : IsVerdict T p m graph k budget (Closed nodes) FullBudget → ⊥
  closed_is_not_spent h = h

  closed_is_not_loose : IsVerdict T p m graph k budget (Closed nodes) (LooseTrace s) → ⊥
  closed_is_not_loose h = h

  faulty_is_not_safe : IsVerdict T p m graph k budget (Faulty nodes tr) Safe → ⊥
  faulty_is_not_safe h = h

  faulty_is_not_spent : IsVerdict T p m graph k budget (Faulty nodes tr) FullBudget → ⊥
  faulty_is_not_spent h = h

  -- the fault is that of the program's run on the trace's choices, in the line and step that are told
  unsafe_by_the_run : TraceOf T p m graph k budget nodes tr → run p m tr.choices 2 ≡ Fault Leak 7 2
      → IsVerdict T p m graph k budget (Faulty nodes tr) (Unsafe Leak 7 2)
  unsafe_by_the_run of e = record { of = of; meets = e }

  unsafe_in_another_line : run p m tr.choices 2 ≡ Fault Leak 7 2
      → IsVerdict T p m graph k budget (Faulty nodes tr) (Unsafe Leak 8 2) → ⊥
  unsafe_in_another_line e h = let lines : (a b : ℕ) → Fault Leak a 2 ≡ Fault Leak b 2 → a ≡ b = λ a b f. cc in
      omega (arith, lines 7 8 (sym e ∙ h.meets))

  unsafe_past_the_step : run p m tr.choices 3 ≡ StillRunning
      → IsVerdict T p m graph k budget (Faulty nodes tr) (Unsafe Leak 7 3) → ⊥
  unsafe_past_the_step e h = let met = h.meets in cc

  -- no trace of more nodes than the budget
  unsafe_above_the_budget : budget < length nodes
      → IsVerdict T p m graph k budget (Faulty nodes tr) (Unsafe Leak 7 2) → ⊥
  unsafe_above_the_budget less h = omega (arith, less, h.of.within)

  -- a choice that is neither 0 nor 1
  unsafe_on_another_choice : tr.choices ≡ 2 ∷ []
      → IsVerdict T p m graph k budget (Faulty nodes tr) (Unsafe Leak 7 2) → ⊥
  unsafe_on_another_choice e h = omega (arith, (subst (Every (λ x. x < 2)) e h.of.choices).0)

  -- the run may meet its fault after the trace's last step, at the last step that is replayed; one step later it is not
  -- looked for
  loose_to_the_last_step : run p m tr.choices 1000000 ≡ Fault Leak 7 1000000
      → IsVerdict T p m graph k budget (Faulty nodes tr) (LooseTrace s) → ⊥
  loose_to_the_last_step e h = h.no_fault 1000000 (inl (omega arith)) (subst IsFault (sym e) tt)

  loose_in_its_steps : tr.steps ≡ 3 → run p m tr.choices 3 ≡ Fault Leak 7 2
      → IsVerdict T p m graph k budget (Faulty nodes tr) (LooseTrace s) → ⊥
  loose_in_its_steps steps e h = h.no_fault 3 (inr (omega (arith, steps))) (subst IsFault (sym e) tt)

  -- a budget as large as the number of prefixes is not full, where there is no loop
  spent_with_few_prefixes : has_no_loop p ≡ true → AtMost budget graph
      → IsVerdict T p m graph k budget (Spent nodes) FullBudget → ⊥
  spent_with_few_prefixes free most h = h.prefixes free most

  spent_is_not_safe : IsVerdict T p m graph k budget (Spent nodes) Safe → ⊥
  spent_is_not_safe h = h

  spent_is_not_unsafe : IsVerdict T p m graph k budget (Spent nodes) (Unsafe Leak 1 1) → ⊥
  spent_is_not_unsafe h = h

  spent_is_not_loose : IsVerdict T p m graph k budget (Spent nodes) (LooseTrace s) → ⊥
  spent_is_not_loose h = h

  loose : IsNeverLoose (LooseTrace s) → ⊥
  loose h = h

never_loose : IsNeverLoose Safe × IsNeverLoose (Unsafe Leak 1 1) × IsNeverLoose FullBudget
never_loose = (tt, tt, tt)
