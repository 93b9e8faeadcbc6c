-- The cases of an edge, and what becomes of them.
use Rattle.std.specs.Prelude.{◌≡◌, ◌≤◌, ℕ, List, [], ◌∷◌, map, length, true, None, Some}
use Rattle.fore_base.specs.declared.store.Store.{Store}
use Rattle.fore_base.specs.Lists.{IsIn, Every, Paired}
use Rattle.ta_core.specs.Auto.{IsRanked}
use Rattle.fa_core.specs.Boxes.{Boxes}
use Rattle.fa_core.specs.Boxless.{HasNoBoxes}
use Rattle.fa_core.specs.Filled.{IsSound}
use Rattle.fa_core.specs.declared.forest.Forest.{Forest}
use Rattle.fa_join.specs.Joinable.{NoneJoinable}
use Rattle.fa_sound.specs.Soundness.{SoundForest}
use Rattle.fa_sound.specs.Unions.{forests}
use Rattle.c_cfg.specs.Graphs.{ControlGraph}
use Rattle.c_cfg.specs.declared.graph.Edge.{Edge}
use Rattle.sym_core.specs.Cases.{CaseOf}
use Rattle.sym_core.specs.Kept.{Keeps}
use Rattle.sym_core.specs.Quiet.{is_quiet}
use Rattle.fix_core.specs.Explorations.{is_head, IsApart}
use Rattle.fix_core.specs.Follows.{IsMember, Settles, Arrives}
use Rattle.fix_core.specs.States.{AbstractState}
use Rattle.fix_successors.specs.Ready.{IsNormal}

-- each item of the list and each later one are so related
abbrev pub EachTwo : {X : Type 0} → (X → X → Type 0) → List X → Type 0
EachTwo P [] = Unit {0}
EachTwo P (x ∷ xs) = Every (P x) xs × EachTwo P xs

-- a state, and what its case was folded and regrouped into where it stands at a loop head
pub record Arrival : Type 0 where
  pub state : AbstractState
  pub grouped : Forest

-- the states
abbrev pub states_of : List Arrival → List AbstractState
states_of xs = map (λ (x : Arrival). x.state) xs

-- the state of the forest as it is
abbrev pub carried : SoundForest → AbstractState
carried M = record { face = M.face; forest = M.forest; middle = None; folds = [] }

-- the state of a case as it is, which is sound
pub record IsCarriedOver (M : SoundForest) (a : AbstractState) : Type 0 where
  pub sound : IsSound M.face M.forest
  pub is : a ≡ carried M

-- the states of the cases as they are
abbrev pub AreCarried : List SoundForest → List AbstractState → Type 0
AreCarried Ms made = Paired IsCarriedOver Ms made

module _ (T : Boxes) where
  -- the store is a member of a state of the list
  pub record IsHeld (states : List AbstractState) (t : Store) : Type 0 where
    pub state : AbstractState
    pub listed : IsIn state states
    pub member : IsMember T state.forest t

  -- the store is a member of a forest of the list
  pub record StandsInCase (Ms : List SoundForest) (t : Store) : Type 0 where
    pub case_of : SoundForest
    pub listed : IsIn case_of Ms
    pub member : IsMember T case_of.forest t

  module _ (g : ControlGraph) where
    -- the forest is a case of the edge from F
    pub record IsRawCase (F : Forest) (e : Edge) (M : SoundForest) : Type 0 where
      pub normal : IsNormal T g M
      pub ranked : Every IsRanked M.forest.autos
      pub plain : Every HasNoBoxes F.autos → Every HasNoBoxes M.forest.autos
      pub true_case : CaseOf T.face T.defs F e M.forest
      pub keeps : Keeps T.face T.defs F e M.forest

    -- the forests are the cases of the edge from F
    pub record AreCases (F : Forest) (e : Edge) (Ms : List SoundForest) : Type 0 where
      pub each : Every (IsRawCase F e) Ms
      pub apart : NoneJoinable T.face.boxes (forests Ms)
      pub quiet : is_quiet e.instr ≡ true → length Ms ≤ 1

    module _ (k : ℕ) where
      -- the edge leads from F to the state, whose case was folded and regrouped into this forest, if it was
      pub record IsArrival (F : Forest) (e : Edge) (x : Arrival) : Type 0 where
        pub arrives : Arrives T g (is_head g e.to) k F e x.state
        pub groups : (M : Forest) → x.state.middle ≡ Some M → Settles T k M x.grouped x.state

      -- two states to which the edge leads
      abbrev pub AreApart : Edge → Arrival → Arrival → Type 0
      AreApart e x y = IsApart T g k e x.state y.state x.grouped y.grouped

      -- the edge leads from F to these states; no case is cut in one child
      pub record AreTargets (F : Forest) (e : Edge) (states : List AbstractState) : Type 0 where
        pub arrivals : List Arrival
        pub are : states_of arrivals ≡ states
        pub each : Every (IsArrival F e) arrivals
        pub apart : EachTwo (AreApart e) arrivals

      -- the states are what the cases of an edge become
      pub record AreArrivals (F : Forest) (e : Edge) (Ms : List SoundForest) (made : List AbstractState) : Type 0 where
        pub targets : AreTargets F e made
        pub kept : (s : Store) → StandsInCase Ms s → IsHeld made s
