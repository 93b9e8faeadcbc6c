-- Worked values of the words on successors, each made by hand from what the word says.
use Rattle.std.proofs.Common.{◌≡◌, ◌<◌, ℕ, List, [], ◌∷◌, None, refl, sym, ◌∙◌, subst, arith, inl}
use Rattle.fore_base.specs.declared.fault.Fault.TheVariants.{Leak}
use Rattle.fore_base.specs.declared.store.Store.{Store}
use Rattle.fore_base.specs.Lists.{IsIn}
use Rattle.fa_core.specs.Boxes.{Boxes}
use Rattle.fa_core.specs.declared.boxes.BoxDef.{BoxDef}
use Rattle.fa_core.specs.declared.forest.Forest.{Forest}
use Rattle.fa_sound.specs.Soundness.{SoundForest}
use Rattle.c_cfg.specs.Edges.{Passed, Faulted, Halted, NotPassed}
use Rattle.c_cfg.specs.Graphs.{ControlGraph}
use Rattle.c_cfg.specs.declared.graph.Edge.{Edge}
use Rattle.c_cfg.specs.declared.graph.Instr.TheVariants.{Free}
use Rattle.fix_core.specs.Follows.{IsMember}
use Rattle.fix_core.specs.States.{AbstractState}
use Rattle.fix_successors.specs.declared.images.EdgeImage.{EdgeImage}
use Rattle.fix_successors.specs.Arriving.{EachTwo, states_of, carried}
use Rattle.fix_successors.specs.Exits.{Rises}
use Rattle.fix_successors.specs.Images.{IsKeptIn, edge_numbers}

-- each number and each later one
each_two : EachTwo {X = ℕ} (λ a b. a < b) (1 ∷ 2 ∷ 4 ∷ [])
each_two = ((omega arith, (omega arith, tt)), ((omega arith, tt), (tt, tt)))

not_the_outer_two : EachTwo {X = ℕ} (λ a b. a < b) (2 ∷ 3 ∷ 1 ∷ []) → ⊥
not_the_outer_two h = omega (arith, h.0.1.0)

rises : Rises (0 ∷ 3 ∷ 4 ∷ [])
rises = ((omega arith, (omega arith, tt)), ((omega arith, tt), (tt, tt)))

does_not_rise : Rises (3 ∷ 3 ∷ []) → ⊥
does_not_rise h = omega (arith, h.0.0)

numbers : (x y : EdgeImage) → x.edge ≡ 4 → y.edge ≡ 7 → edge_numbers (x ∷ y ∷ []) ≡ 4 ∷ 7 ∷ []
numbers x y e f = rw (e, f) refl

carried_as_it_is : (M : SoundForest)
    → carried M ≡ record { face = M.face; forest = M.forest; middle = None; folds = [] }
carried_as_it_is M = refl

states : (a b : AbstractState) (F G : Forest)
    → states_of (record { state = a; grouped = F } ∷ record { state = b; grouped = G } ∷ []) ≡ a ∷ b ∷ []
states a b F G = refl

module _ (T : Boxes) (g : ControlGraph) (a : AbstractState) (s : Store) where
  -- a member that passes is in one of the states, and no member meets a fault
  in_a_state : IsMember T a.forest s → IsKeptIn T g (a ∷ []) (Passed s)
  in_a_state m = record { state = a; listed = inl refl; member = m }

  in_no_state : IsKeptIn T g [] (Passed s) → ⊥
  in_no_state h = h.listed

  at_a_fault : IsKeptIn T g (a ∷ []) (Faulted Leak) → ⊥
  at_a_fault h = h

  halted : IsKeptIn T g [] Halted
  halted = tt

  not_passed : IsKeptIn T g [] NotPassed
  not_passed = tt
