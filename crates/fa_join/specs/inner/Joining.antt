-- The automaton that joins two, the forest that joins two, and what holds while the forests of a list are joined.
use Rattle.std.specs.Prelude.{◌≡◌, ◌≤◌, ℕ, ◌+◌, ◌||◌, nat_eq, if◌then◌else◌, List, [], ◌∷◌, ◌++◌, length, slice_set}
use Rattle.fore_base.specs.Lists.{Every}
use Rattle.ta_core.specs.Auto.{Automaton}
use Rattle.ta_core.specs.Joined.{united}
use Rattle.ta_core.specs.declared.auto.Rule.{Rule}
use Rattle.fa_core.specs.Boxless.{HasNoBoxes}
use Rattle.fa_core.specs.Canonical.{IsCanonical}
use Rattle.fa_core.specs.Covering.{Reduced}
use Rattle.fa_core.specs.Filled.{IsSound}
use Rattle.fa_core.specs.declared.boxes.BoxDef.{BoxDef}
use Rattle.fa_core.specs.declared.faces.BoxFace.{BoxFace}
use Rattle.fa_core.specs.declared.faces.Face.{Face}
use Rattle.fa_core.specs.declared.forest.Forest.{Forest}
use Rattle.fa_sound.specs.Soundness.{SoundForest}
use Rattle.fa_sound.specs.Components.{component_at, with_component}
use Rattle.fa_sound.specs.Unions.{forests}
use Rattle.fa_split.specs.Split.{CanSplit, top_rule, child_state}
use Rattle.fa_join.specs.Joinable.{Joinable}
use Rattle.fa_join.specs.Joined.{IsJoined, Joins}

-- the rules of states p and q, at state z
abbrev pub of_both : ℕ → ℕ → ℕ → List Rule → List Rule
of_both z p q [] = []
of_both z p q (x ∷ xs) = if nat_eq x.state p || nat_eq x.state q then record x { state = z } ∷ of_both z p q xs
    else of_both z p q xs

-- the rule at the top of a, at state z, with the next state for the child at place p
abbrev pub joined_top : Automaton → ℕ → ℕ → Rule
joined_top a p z = record
    { state = z; symbol = (top_rule a).symbol; children = slice_set (top_rule a).children p (z + 1) }

-- the rules behind those of a and b, which have z states together: the one at the top, and those of both children at
-- place p
abbrev pub joined_rules : Automaton → Automaton → ℕ → ℕ → List Rule
joined_rules a b p z = joined_top a p z
    ∷ of_both (z + 1) (child_state a p) (child_state b p + a.states) (united a b).rules

-- the automaton whose one rule at the top has, at place p, the trees that a has there and those that b has there
abbrev pub joined : Automaton → Automaton → ℕ → Automaton
joined a b p = record {
  states = a.states + b.states + 2;
  roots = (a.states + b.states) ∷ [];
  rules = (united a b).rules ++ joined_rules a b p (a.states + b.states);
}

-- F, with the automaton that joins the components of F and G at root r
abbrev pub joined_at : Forest → Forest → ℕ → ℕ → Forest
joined_at F G r p = with_component F r (joined (component_at F.autos r) (component_at G.autos r) p)

-- the forests can be split at this child of this root, and the forest that joins them there is sound and canonical
pub record JoinsBelow (face : Face) (F G : Forest) (r p : ℕ) : Type 0 where
  pub first : CanSplit F r p
  pub second : CanSplit G r p
  pub sound : IsSound face (joined_at F G r p)
  pub canonical : IsCanonical face (joined_at F G r p)
  pub joins : Joins F G (joined_at F G r p)
  pub plain : Every HasNoBoxes F.autos → Every HasNoBoxes G.autos → Every HasNoBoxes (joined_at F G r p).autos

-- the forest stands over the face, is canonical and reduced
pub record IsReady (face : Face) (F : SoundForest) : Type 0 where
  pub over : F.face ≡ face
  pub canonical : IsCanonical F.face F.forest
  pub reduced : Reduced F.forest

-- no box edges
abbrev pub HasNoEdges : SoundForest → Type 0
HasNoEdges F = Every HasNoBoxes F.forest.autos

-- no forest of the list can be joined with a later one
abbrev pub NoLater : List BoxFace → List SoundForest → Type 0
NoLater bs [] = Unit {0}
NoLater bs (F ∷ Fs) = Every (λ G. Joinable bs F.forest G.forest → ⊥) Fs × NoLater bs Fs

-- while the forests of a list are joined: those to do and those done have the dressed forests of the given ones, of
-- those done no two can be joined, and without box edges none come
pub record IsJoining (face : Face) (given todo done : List SoundForest) : Type 0 where
  pub todo_ready : Every (IsReady face) todo
  pub done_ready : Every (IsReady face) done
  pub apart : NoLater face.boxes done
  pub plain : Every HasNoEdges given → Every HasNoEdges todo × Every HasNoEdges done
  pub joined : (T : List BoxDef) → IsJoined T (forests given) (forests todo ++ forests done)
  pub fewer : length todo + length done ≤ length given
