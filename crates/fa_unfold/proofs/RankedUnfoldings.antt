-- What a Link or a Hook needs so that its lists can be made: the inside has ports, and components keep their ranges.
use Rattle.std.proofs.Common.{◌≡◌, ℕ, zero, suc, ◌<◌, length, List, [], ◌∷◌, sym, ap, subst, ◌∙◌, Option, Some, None}
use Rattle.std.proofs.Common.{refl, slice_get, slice_set, length-set, arith}
use Rattle.std.proofs.lemmas.Option.{none-some, same_Some}
use Rattle.fore_base.specs.Lists.{IsIn, Every}
use Rattle.fore_base.proofs.ListLemmas.{in_every}
use Rattle.ta_core.specs.Auto.{Automaton, IsRanked}
use Rattle.ta_core.specs.Single.{HasOneTop}
use Rattle.ta_core.specs.declared.auto.Rule.{Rule}
use Rattle.ta_core.specs.declared.symbol.Slot.TheVariants.{Link}
use Rattle.fa_core.specs.declared.boxes.BoxDef.{BoxDef}
use Rattle.fa_core.specs.declared.faces.BoxFace.{BoxFace}
use Rattle.fa_core.specs.declared.forest.Forest.{Forest}
use Rattle.fa_core.specs.declared.forest.Target.{Target}
use Rattle.fa_core.specs.Boxes.{Boxes, PortsCover, faces_of}
use Rattle.fa_core.specs.Filled.{face_of}
use Rattle.fa_core.specs.Member.{inside_of}
use Rattle.fa_core.specs.Placed.{placed_auto}
use Rattle.fa_core.proofs.Placing.{placed_ranked}
use Rattle.fa_sound.specs.Components.{component_at}
use Rattle.fa_split.specs.Split.{top_rule}
use Rattle.fa_split.proofs.ChosenForests.{picked_each}
use Rattle.fa_split.proofs.OtherComponent.{component_set}
use Rattle.fa_unfold.specs.Outside.{outside, outside_hook}
use Rattle.fa_unfold.specs.Sites.{IsHookAt, IsLinkAt, IsOver}
use Rattle.fa_unfold.specs.Slots.{without, rule_places}
use Rattle.fa_unfold.specs.Unfolding.{IsTop, AreHookTops, AreLinkTops, Tops, grown, open_root, end_rules}
use Rattle.fa_unfold.specs.inner.Ranges.{CanGrow, CanOpen, CanUnfoldBy}
use Rattle.fa_unfold.proofs.EndStructs.{link_structs, hook_structs}
use Rattle.fa_unfold.proofs.FilledForests.{first_good, hook_good, end_rule}
use Rattle.fa_unfold.proofs.GoodComponents.{IsGood}
use Rattle.fa_unfold.proofs.GrownTrees.{grown_one, grown_right}
use Rattle.fa_unfold.proofs.OpenedRoots.{base_right, component_has, rule_right}
use Rattle.fa_unfold.proofs.TableBoxes.{box_of_table}
use Rattle.fa_unfold.proofs.TableInsides.{ranked_inside}

-- The inside.

pub inside_at : (T : List BoxDef) (b : ℕ) (d : BoxDef) → slice_get T b ≡ Some d → inside_of T b ≡ Some d.inside.autos
inside_at [] b d e = absurd (none-some d e)
inside_at (x ∷ T) zero d e = ap (λ (z : BoxDef). Some z.inside.autos) (same_Some x d e)
inside_at (x ∷ T) (suc b) d e = inside_at T b d e

-- a face stands for a box
box_here : (T : List BoxDef) (b : ℕ) (x : BoxFace) → face_of (faces_of T) b ≡ Some x
    → (b < length T) × ((autos : List Automaton) × (inside_of T b ≡ Some autos))
box_here [] b x e = absurd (none-some x e)
box_here (d ∷ T) zero x e = (omega arith, (d.inside.autos, refl))
box_here (d ∷ T) (suc b) x e = let k = box_here T b x e in (omega (arith, k.0), k.1)

-- the number is that of a box, whose inside is an input and others
pub record IsInsideOf (T : List BoxDef) (b : ℕ) : Type 0 where
  pub there : b < length T
  pub input : Automaton
  pub others : List Automaton
  pub is : inside_of T b ≡ Some (input ∷ others)

pub record HasPorts (T : List BoxDef) (b : ℕ) : Type 0 where
  pub number : b < length T
  pub first : Automaton
  pub last : Automaton
  pub inner : List Automaton
  pub inside : inside_of T b ≡ Some (first ∷ (last ∷ inner))

module _ (t : Boxes) (F : Forest) (over : IsOver t F) where
  abbrev bs : List BoxFace
  bs = t.face.boxes

  ports_of : (b : ℕ) (x : BoxFace) → face_of bs b ≡ Some x → (autos : List Automaton) → inside_of t.defs b ≡ Some autos
      → (fs : List BoxFace) × PortsCover fs x.output autos
  ports_of b x e autos is =
      let k = box_of_table t.face.shapes t.defs over.table.sound b autos is in
      let same : k.def.face ≡ x =
      same_Some k.def.face x (sym k.here ∙ (sym (ap (λ (fs : List BoxFace). face_of fs b) over.table.faces) ∙ e)) in (
        faces_of k.before,
        subst (λ (v : List Automaton). PortsCover (faces_of k.before) x.output v) k.inside
            (subst (λ (v : BoxFace). PortsCover (faces_of k.before) v.output k.def.inside.autos) same k.sound.ports),
      )

  face_there : (b : ℕ) (x : BoxFace) → face_of bs b ≡ Some x → face_of (faces_of t.defs) b ≡ Some x
  face_there b x e = sym (ap (λ (fs : List BoxFace). face_of fs b) over.table.faces) ∙ e

  some_ports : (b : ℕ) → b < length t.defs → (fs : List BoxFace) (out : ℕ) (autos : List Automaton)
      → inside_of t.defs b ≡ Some autos → PortsCover fs (Some out) autos → HasPorts t.defs b
  some_ports b l fs out [] is h = absurd h
  some_ports b l fs out (a ∷ []) is h = absurd h
  some_ports b l fs out (a ∷ (c ∷ inner)) is h =
      record { number = l; first = a; last = c; inner = inner; inside = is }

  one_port : (b : ℕ) → b < length t.defs → (fs : List BoxFace) (autos : List Automaton)
      → inside_of t.defs b ≡ Some autos → PortsCover fs None autos → IsInsideOf t.defs b
  one_port b l fs [] is h = absurd h
  one_port b l fs (a ∷ autos) is h = record { there = l; input = a; others = autos; is = is }

  pub link_inside : (i p b : ℕ) (y : Target) → IsLinkAt F i p b y → HasPorts t.defs b
  link_inside i p b y at =
      let st = link_structs t F over i p b y at in
      let k = box_here t.defs b st.face_is (face_there b st.face_is st.is) in
      let c = ports_of b st.face_is st.is k.1.0 k.1.1 in
      some_ports b k.0 c.0 st.end k.1.0 k.1.1 (subst (λ (o : Option ℕ). PortsCover c.0 o k.1.0) st.output c.1)

  pub hook_inside : (i p b : ℕ) → IsHookAt F i p b → IsInsideOf t.defs b
  hook_inside i p b at =
      let st = hook_structs t F over i p b at in
      let k = box_here t.defs b st.hook_face (face_there b st.hook_face st.hook_is) in
      let c = ports_of b st.hook_face st.hook_is k.1.0 k.1.1 in
      one_port b k.0 c.0 k.1.0 k.1.1 (subst (λ (o : Option ℕ). PortsCover c.0 o k.1.0) st.hook_output c.1)

  -- a root put into the forest, whose components are good
  set_ranked : (i : ℕ) → i < length F.autos → (g : Automaton) → Every (IsGood t.face) (slice_set F.autos i g)
      → IsRanked g
  set_ranked i l g h =
      subst IsRanked (component_set F.autos i g l)
      (component_has (IsGood t.face) (slice_set F.autos i g) i
      (subst (λ (n : ℕ). i < n) (sym (length-set F.autos i g)) l) h).0

  -- A Link.

  module _ (i p b : ℕ) (y : Target) (input output : Automaton) (inner : List Automaton) (tops : Tops)
      (at : IsLinkAt F i p b y) (is : inside_of t.defs b ≡ Some (input ∷ (output ∷ inner)))
      (are : AreLinkTops F i y input output tops) where
    abbrev f : ℕ → Target
    f = outside i y (length F.autos)

    abbrev first : Automaton
    first = placed_auto f input

    abbrev last : Automaton
    last = placed_auto f output

    abbrev a : Automaton
    a = component_at F.autos i

    abbrev g : Rule → Automaton
    g z = grown bs a (top_rule a) (without p (rule_places (top_rule a))) first z

    abbrev opened : Rule → Forest
    opened z = open_root bs F i p first z

    ranked : Every IsRanked (input ∷ (output ∷ inner))
    ranked = ranked_inside t.defs b (input ∷ (output ∷ inner)) over.insides is

    longer : (z : Rule) (j : ℕ) → j < length F.autos → j < length (opened z).autos
    longer z j l = subst (λ (n : ℕ). j < n) (sym (length-set F.autos i (g z))) l

    can_grow : (z : Rule) → IsIn z tops.ins → CanGrow bs (opened z) i y tops.ends last tops.outs
    can_grow z k =
        let m = (picked_each (IsTop first) are.ins z k).0 in
        let right = placed_ranked f input ranked.0 in
        let left = component_has IsRanked F.autos i at.root over.ranked in
        let base = base_right bs t.defs F over.ranked i p at.root at.top (Link b, at.state ∷ []) at.slot first right z m
        in
        let one = grown_one bs a (top_rule a) (without p (rule_places (top_rule a))) first z left right m base in
        let good = first_good t F over i p b y input output inner tops at is are z k in
        record {
          root = longer z i at.root;
          top = subst HasOneTop (sym (component_set F.autos i (g z) at.root)) one;
          end = λ j q. longer z j (at.end j q);
          ranked = λ j q. in_every
              (λ (w : Rule). Every
              (λ (o : Rule). IsRanked (grown bs (component_at (opened z).autos j) w (rule_places w) last o)) tops.outs)
              (end_rules (opened z) i j tops.ends)
              (λ w iw.
              (let c = component_at (opened z).autos j in
              let held = (component_has (IsGood t.face) (opened z).autos j (longer z j (at.end j q)) good).0 in
              let e = end_rule t F over i p b y input output inner tops at is are z k j q w iw in
              in_every (λ (o : Rule). IsRanked (grown bs c w (rule_places w) last o)) tops.outs
              (λ o io.
              grown_right bs c w (rule_places w) last o held (placed_ranked f output ranked.1.0)
              (picked_each (IsTop last) are.outs o io).0 (rule_right c w held e.there)
              (link_structs t F over i p b y at).end e.datums e.cell)));
        }

    pub can_unfold : Every (CanUnfoldBy bs F i p y tops.ends first last tops.outs) tops.ins
    can_unfold = in_every (CanUnfoldBy bs F i p y tops.ends first last tops.outs) tops.ins
        (λ z k.
        (set_ranked i at.root (g z) (first_good t F over i p b y input output inner tops at is are z k), can_grow z k))

  -- A Hook.

  module _ (i p b : ℕ) (input : Automaton) (inner : List Automaton) (ins : List Rule) (at : IsHookAt F i p b)
      (is : inside_of t.defs b ≡ Some (input ∷ inner)) (are : AreHookTops F i input ins) where
    pub can_open : Every (CanOpen bs F i p (placed_auto (outside_hook i (length F.autos)) input)) ins
    can_open = in_every (CanOpen bs F i p (placed_auto (outside_hook i (length F.autos)) input)) ins
        (λ z k.
        set_ranked i at.root
        (grown bs (component_at F.autos i) (top_rule (component_at F.autos i))
        (without p (rule_places (top_rule (component_at F.autos i))))
        (placed_auto (outside_hook i (length F.autos)) input) z)
        (hook_good t F over i p b input inner ins at is are z k))
