-- The forests into which a forest is unfolded at a box edge of a root.
use Rattle.std.specs.Prelude.{◌≡◌, ℕ, List, ◌∷◌, Some}
use Rattle.fore_base.specs.Lists.{IsIn}
use Rattle.ta_core.specs.Auto.{Automaton}
use Rattle.ta_core.specs.declared.auto.Rule.{Rule}
use Rattle.fa_core.specs.declared.forest.Forest.{Forest}
use Rattle.fa_core.specs.declared.forest.Target.{Target}
use Rattle.fa_core.specs.Boxes.{Boxes}
use Rattle.fa_core.specs.Member.{inside_of}
use Rattle.fa_unfold.specs.Sites.{IsHookAt, IsLinkAt}
use Rattle.fa_unfold.specs.Unfolding.{AreHookTops, AreLinkTops, Tops, hook_unfoldings, link_unfoldings}

-- the forests are those in which the Link at slot p of root i, of box b, whose end is the leaf y, is replaced
pub record AreLinkUnfoldings (t : Boxes) (F : Forest) (i p b : ℕ) (y : Target) (Gs : List Forest) : Type 0 where
  pub input : Automaton
  pub output : Automaton
  pub inner : List Automaton
  pub tops : Tops
  pub is : inside_of t.defs b ≡ Some (input ∷ (output ∷ inner))
  pub are : AreLinkTops F i y input output tops
  pub all : Gs ≡ link_unfoldings t.face.boxes F i p y input output inner tops

-- the forests are those in which the Hook at slot p of root i, of box b, is replaced
pub record AreHookUnfoldings (t : Boxes) (F : Forest) (i p b : ℕ) (Gs : List Forest) : Type 0 where
  pub input : Automaton
  pub inner : List Automaton
  pub ins : List Rule
  pub is : inside_of t.defs b ≡ Some (input ∷ inner)
  pub are : AreHookTops F i input ins
  pub all : Gs ≡ hook_unfoldings t.face.boxes F i p input inner ins

-- G is one of the forests in which the Link of F at slot p of root i, whose end is one leaf, is replaced
pub record IsLinkUnfolding (t : Boxes) (F : Forest) (i p : ℕ) (G : Forest) : Type 0 where
  pub box : ℕ
  pub end : Target
  pub list : List Forest
  pub at : IsLinkAt F i p box end
  pub are : AreLinkUnfoldings t F i p box end list
  pub one : IsIn G list

-- G is one of the forests in which the Hook of F at slot p of root i is replaced
pub record IsHookUnfolding (t : Boxes) (F : Forest) (i p : ℕ) (G : Forest) : Type 0 where
  pub box : ℕ
  pub list : List Forest
  pub at : IsHookAt F i p box
  pub are : AreHookUnfoldings t F i p box list
  pub one : IsIn G list
