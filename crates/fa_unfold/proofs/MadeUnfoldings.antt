-- The parts of an unfolding, put together: numbers of roots counted, references placed, and rules found.
use Rattle.std.proofs.Common.{◌≡◌, ℕ, length, List, ◌∷◌, map, flat_map, sym, ap, subst, ◌∙◌, Some}
use Rattle.fore_base.specs.Lists.{Every}
use Rattle.ta_core.specs.Auto.{Automaton}
use Rattle.ta_core.specs.declared.auto.Rule.{Rule}
use Rattle.fa_core.specs.declared.faces.BoxFace.{BoxFace}
use Rattle.fa_core.specs.declared.forest.Forest.{Forest}
use Rattle.fa_core.specs.declared.forest.Target.{Target}
use Rattle.fa_core.specs.declared.forest.Target.TheVariants.{Null, Uninit, Dangling, At}
use Rattle.fa_core.specs.Boxes.{Boxes}
use Rattle.fa_core.specs.Member.{inside_of}
use Rattle.fa_core.specs.Placed.{placed_auto}
use Rattle.fa_sound.specs.Components.{component_at}
use Rattle.fa_unfold.specs.Outside.{outside, outside_hook}
use Rattle.fa_unfold.specs.Sites.{IsHookAt, IsLinkAt, IsOver}
use Rattle.fa_unfold.specs.Unfold.{AreLinkUnfoldings, AreHookUnfoldings}
use Rattle.fa_unfold.specs.Unfolding.{AreHookTops, AreLinkTops, AreTops, Tops, open_root, with_end, with_inner}
use Rattle.fa_unfold.specs.inner.Ranges.{CanOpen, CanUnfoldBy}
use Rattle.fa_unfold.proofs.RankedUnfoldings.{can_unfold, can_open}

-- The end.

abbrev number_of : Target → ℕ
number_of Null = 0
number_of Uninit = 0
number_of Dangling = 0
number_of (At k) = k

pub end_tops : (F : Forest) (y : Target) (k : ℕ) → y ≡ At k → (rs : List Rule) → AreTops (component_at F.autos k) rs
    → (j : ℕ) → y ≡ At j → AreTops (component_at F.autos j) rs
end_tops F y k e rs h = λ j q.
    subst (λ (v : ℕ). AreTops (component_at F.autos v) rs) (ap number_of (sym e ∙ q)) h

-- A Link.

module _ (t : Boxes) (F : Forest) (over : IsOver t F) (i p b : ℕ) (y : Target) (input output : Automaton)
    (inner : List Automaton) (at : IsLinkAt F i p b y)
    (is : inside_of t.defs b ≡ Some (input ∷ (output ∷ inner))) (n : ℕ) (count : n ≡ length F.autos)
    (ins outs ends : List Rule) (first_tops : AreTops (placed_auto (outside i y n) input) ins)
    (last_tops : AreTops (placed_auto (outside i y n) output) outs)
    (end_tops : (j : ℕ) → y ≡ At j → AreTops (component_at F.autos j) ends) (first last : Automaton)
    (first_is : first ≡ placed_auto (outside i y n) input) (last_is : last ≡ placed_auto (outside i y n) output) where
  abbrev bs : List BoxFace
  bs = t.face.boxes

  abbrev tops : Tops
  tops = record { ins = ins; outs = outs; ends = ends }

  are : AreLinkTops F i y input output tops
  are = record {
    ins = subst (λ (k : ℕ). AreTops (placed_auto (outside i y k) input) ins) count first_tops;
    outs = subst (λ (k : ℕ). AreTops (placed_auto (outside i y k) output) outs) count last_tops;
    ends = end_tops;
  }

  here : (a c : Automaton) → c ≡ placed_auto (outside i y n) a → c ≡ placed_auto (outside i y (length F.autos)) a
  here a c e = e ∙ ap (λ (k : ℕ). placed_auto (outside i y k) a) count

  pub links_ready : Every (CanUnfoldBy bs F i p y ends first last outs) ins
  links_ready =
      subst (λ (c : Automaton). Every (CanUnfoldBy bs F i p y ends c last outs) ins) (sym (here input first first_is))
      (subst
      (λ (c : Automaton). Every
      (CanUnfoldBy bs F i p y ends (placed_auto (outside i y (length F.autos)) input) c outs) ins)
      (sym (here output last last_is)) (can_unfold t F over i p b y input output inner tops at is are))

  abbrev listed : Automaton → Automaton → List Automaton → List Forest
  listed a c more =
      flat_map (λ z. map (with_inner more) (with_end bs (open_root bs F i p a z) i y ends c outs)) ins

  pub links_made : (more : List Automaton) → more ≡ map (placed_auto (outside i y n)) inner → (Gs : List Forest)
      → Gs ≡ listed first last more → AreLinkUnfoldings t F i p b y Gs
  links_made more m Gs e =
      let all : more ≡ map (placed_auto (outside i y (length F.autos))) inner =
      m ∙ ap (λ (k : ℕ). map (placed_auto (outside i y k)) inner) count in
      record {
        input = input;
        output = output;
        inner = inner;
        tops = tops;
        is = is;
        are = are;
        all = e ∙ ap (λ (c : Automaton). listed c last more) (here input first first_is)
            ∙ ap (λ (c : Automaton). listed (placed_auto (outside i y (length F.autos)) input) c more)
            (here output last last_is)
            ∙ ap
            (λ (v : List Automaton). listed (placed_auto (outside i y (length F.autos)) input)
            (placed_auto (outside i y (length F.autos)) output) v) all;
      }

-- A Hook.

module _ (t : Boxes) (F : Forest) (over : IsOver t F) (i p b : ℕ) (input : Automaton) (inner : List Automaton)
    (at : IsHookAt F i p b) (is : inside_of t.defs b ≡ Some (input ∷ inner)) (n : ℕ) (count : n ≡ length F.autos)
    (ins : List Rule) (port_tops : AreTops (placed_auto (outside_hook i n) input) ins) (port : Automaton)
    (port_is : port ≡ placed_auto (outside_hook i n) input) where
  abbrev faces : List BoxFace
  faces = t.face.boxes

  hook_are : AreHookTops F i input ins
  hook_are = subst (λ (k : ℕ). AreTops (placed_auto (outside_hook i k) input) ins) count port_tops

  port_here : port ≡ placed_auto (outside_hook i (length F.autos)) input
  port_here = port_is ∙ ap (λ (k : ℕ). placed_auto (outside_hook i k) input) count

  pub hooks_ready : Every (CanOpen faces F i p port) ins
  hooks_ready = subst (λ (c : Automaton). Every (CanOpen faces F i p c) ins) (sym port_here)
      (can_open t F over i p b input inner ins at is hook_are)

  abbrev hook_listed : Automaton → List Automaton → List Forest
  hook_listed a more = map (λ z. with_inner more (open_root faces F i p a z)) ins

  pub hooks_made : (more : List Automaton) → more ≡ map (placed_auto (outside_hook i n)) inner → (Gs : List Forest)
      → Gs ≡ hook_listed port more → AreHookUnfoldings t F i p b Gs
  hooks_made more m Gs e =
      record {
        input = input;
        inner = inner;
        ins = ins;
        is = is;
        are = hook_are;
        all = e ∙ ap (λ (c : Automaton). hook_listed c more) port_here
            ∙ ap (λ (v : List Automaton). hook_listed (placed_auto (outside_hook i (length F.autos)) input) v)
            (m ∙ ap (λ (k : ℕ). map (placed_auto (outside_hook i k)) inner) count);
      }
