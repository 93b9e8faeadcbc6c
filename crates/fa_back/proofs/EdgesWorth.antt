-- Over a table of sound boxes each box edge of a dressed forest is worth what its face says.
use Rattle.std.proofs.Common.{◌≡◌, ◌≢◌, inl, inr, ℕ, zero, suc, true, false, List, [], ◌∷◌}
use Rattle.std.proofs.Common.{refl, sym, ap, subst, ◌∙◌, Option, Some, None, true≢false}
use Rattle.std.proofs.lemmas.Option.{none-some, same_Some}
use Rattle.fore_base.specs.Lists.{IsIn, IsDistinct}
use Rattle.fore_base.specs.declared.store.Value.{Value}
use Rattle.fore_base.specs.declared.store.Value.TheVariants.{Dangling as DanglingValue, Cell}
use Rattle.fore_base.proofs.ListLemmas.{in_append}
use Rattle.ta_core.specs.Auto.{Automaton}
use Rattle.fa_core.specs.declared.boxes.BoxDef.{BoxDef}
use Rattle.fa_core.specs.declared.faces.BoxFace.{BoxFace}
use Rattle.fa_core.specs.Boxes.{Reaches, heads, OutFits, PortsFit, IsReached, LeadsUp, LeadsNowhere}
use Rattle.fa_core.specs.Dressed.{Node, Parts, End, Nodes, node, no_parts, field, link, hook, under, leaf, no_nodes}
use Rattle.fa_core.specs.Dressed.{more, end_value, inside_facts}
use Rattle.fa_core.specs.Filled.{face_of}
use Rattle.fa_core.specs.Member.{InsidesOf, InsidesOfParts, InsidesOfEnd, TreesOf, inside_of}
use Rattle.fa_core.specs.Ways.{back_of}
use Rattle.fa_back.specs.inner.Hops.{Edge, link_edge, hook_edge, tree_edges, part_edges, end_edges, forest_edges}
use Rattle.fa_back.proofs.FactParts.{number_of, no_cell}
use Rattle.fa_back.proofs.Facts.{Within, inside_local}
use Rattle.fa_back.proofs.Hopping.{Meets}
use Rattle.fa_back.proofs.CellsReached.{EdgeSound}

-- what a SoundBox says of reaching
pub record BoxKnown (bs : List BoxFace) (T : List BoxDef) (b : ℕ) (autos : List Automaton) : Type 0 where
  pub face : BoxFace
  pub is : face_of bs b ≡ Some face
  pub reached : IsReached T face autos
  pub gives : face.back ≡ true → face.gives_out ≢ []
  pub up : face.back ≡ true → LeadsUp T autos
  pub never : (t : ℕ) → face.output ≡ Some t → face.back ≡ false → LeadsNowhere T autos

abbrev pub TableKnown : List BoxFace → List BoxDef → Type 0
TableKnown bs T = (b : ℕ) (autos : List Automaton) → inside_of T b ≡ Some autos → BoxKnown bs T b autos

-- each box edge ends as its box wants
abbrev mutual
  pub LinksFit : List BoxFace → List Value → Node → Type 0
  LinksFit bs vs (node c s ds ps) = PartsFit bs vs ps

  pub PartsFit : List BoxFace → List Value → Parts → Type 0
  PartsFit bs vs no_parts = Unit {0}
  PartsFit bs vs (field f e ps) = EndFits bs vs e × PartsFit bs vs ps
  PartsFit bs vs (link b inside e ps) = ((x : BoxFace) × (t : ℕ) × (face_of bs b ≡ Some x) × (x.output ≡ Some t)
      × OutFits x (end_value vs e)) × EndFits bs vs e × PartsFit bs vs ps
  PartsFit bs vs (hook b inside ps) = ((x : BoxFace) × (face_of bs b ≡ Some x) × (x.output ≡ None)) × PartsFit bs vs ps

  pub EndFits : List BoxFace → List Value → End → Type 0
  EndFits bs vs (under n) = LinksFit bs vs n
  EndFits bs vs (leaf t) = Unit {0}

abbrev pub AllFit : List BoxFace → List Value → Nodes → Type 0
AllFit bs vs no_nodes = Unit {0}
AllFit bs vs (more n ns) = LinksFit bs vs n × AllFit bs vs ns

back_is : (bs : List BoxFace) (b : ℕ) (x : BoxFace) → face_of bs b ≡ Some x → back_of bs b ≡ x.back
back_is [] b x e = absurd (none-some x e)
back_is (y ∷ bs) zero x e = ap (λ (z : BoxFace). z.back) (same_Some y x e)
back_is (y ∷ bs) (suc b) x e = back_is bs b x e

module _ (bs : List BoxFace) (T : List BoxDef) (known : TableKnown bs T) (vs : List Value) where
  link_sound : (c b : ℕ) (inside : Nodes) (e : End) (autos : List Automaton) → inside_of T b ≡ Some autos
      → TreesOf T autos inside
      → (x : BoxFace) (t : ℕ) → face_of bs b ≡ Some x → x.output ≡ Some t → OutFits x (end_value vs e)
      → EdgeSound (link_edge bs vs c b inside e)
  link_sound c b inside e autos i trees x t g o out =
      let k = known b autos i in
      let same : x ≡ k.face = same_Some x k.face (sym g ∙ k.is) in
      let ports : List Value = Cell c ∷ (end_value vs e ∷ []) in
      let fit : PortsFit x x.output c (Cell c ∷ (end_value vs e ∷ [])) =
      subst (λ (z : Option ℕ). PortsFit x z c (Cell c ∷ (end_value vs e ∷ []))) (sym o)
      (end_value vs e, refl, out) in
      let backs : back_of bs b ≡ k.face.back = back_is bs b k.face k.is in
      let all = subst (λ (z : BoxFace). IsReached T z autos) (sym same) k.reached in
      record {
        reached = λ n h. all inside trees c (Cell c ∷ (end_value vs e ∷ [])) fit n
            (elim h [ inl y ↦ inl y | inr y ↦ inr (inr (inl (sym y))) ]);
        local = λ m f n y. (let w = inside_local m f n ports inside y in (meet m w.0, meet n w.1));
        cells = λ y.
            (elim out [
              | inl z ↦ z
              | inr z ↦
                  absurd (k.gives (sym backs ∙ y) (ap (λ (f : BoxFace). f.gives_out) (sym same) ∙ z.1))
            ]);
        up = λ y m z. subst (λ (w : Value). Reaches (Cell m ∷ []) (inside_facts (Cell c ∷ (w ∷ [])) inside) c) (sym z)
            (k.up (sym backs ∙ y) inside trees c m);
        never = λ y m z d w. k.never t (ap (λ (f : BoxFace). f.output) (sym same) ∙ o) (sym backs ∙ y) inside trees c m
            (subst (λ (v : Value). IsDistinct (c ∷ (m ∷ heads (inside_facts (Cell c ∷ (v ∷ [])) inside)))) z d)
            (subst (λ (v : Value). Reaches (Cell m ∷ []) (inside_facts (Cell c ∷ (v ∷ [])) inside) c) z w);
      }
    where
      meet : (m : ℕ) → Within (heads (inside_facts (Cell c ∷ (end_value vs e ∷ [])) inside))
          (Cell c ∷ (end_value vs e ∷ [])) m → Meets (link_edge bs vs c b inside e) m
      meet m (inl y) = inl y
      meet m (inr (inl y)) = inr (inl (ap number_of y))
      meet m (inr (inr (inl y))) = inr (inr (sym y))
      meet m (inr (inr (inr y))) = absurd y

  hook_sound : (c b : ℕ) (inside : Nodes) (autos : List Automaton) → inside_of T b ≡ Some autos → TreesOf T autos inside
      → (x : BoxFace) → face_of bs b ≡ Some x → x.output ≡ None → EdgeSound (hook_edge c inside)
  hook_sound c b inside autos i trees x g o =
      let k = known b autos i in
      let same : x ≡ k.face = same_Some x k.face (sym g ∙ k.is) in
      let fit : PortsFit x x.output c (Cell c ∷ []) = subst (λ (z : Option ℕ). PortsFit x z c (Cell c ∷ [])) (sym o)
      refl in
      let all = subst (λ (z : BoxFace). IsReached T z autos) (sym same) k.reached in
      record {
        reached = λ n h. all inside trees c (Cell c ∷ []) fit n
            (elim h [ inl y ↦ inl y | inr y ↦ absurd (no_cell DanglingValue n y) ]);
        local = λ m f n y. (let w = inside_local m f n (Cell c ∷ []) inside y in (meet m w.0, meet n w.1));
        cells = λ y. absurd (true≢false (sym y));
        up = λ y m z. absurd (no_cell DanglingValue m z);
        never = λ y m z d w. no_cell DanglingValue m z;
      }
    where
      meet : (m : ℕ) → Within (heads (inside_facts (Cell c ∷ []) inside)) (Cell c ∷ []) m → Meets (hook_edge c inside) m
      meet m (inl y) = inl y
      meet m (inr (inl y)) = inr (inl (ap number_of y))
      meet m (inr (inr y)) = absurd y

  mutual
    tree_sound : (n : Node) → InsidesOf T n → LinksFit bs vs n → (x : Edge) → IsIn x (tree_edges bs vs n) → EdgeSound x
    tree_sound (node c s ds ps) i l x h = parts_sound c ps i l x h

    pub parts_sound : (c : ℕ) (ps : Parts) → InsidesOfParts T ps → PartsFit bs vs ps → (x : Edge)
        → IsIn x (part_edges bs vs c ps) → EdgeSound x
    parts_sound c no_parts i l x h = absurd h
    parts_sound c (field f e ps) i l x h = elim (in_append x (end_edges bs vs e) (part_edges bs vs c ps) h) [
      | inl j ↦ end_sound e i.0 l.0 x j
      | inr j ↦ parts_sound c ps i.1 l.1 x j
    ]
    parts_sound c (link b inside e ps) i l x (inl h) = subst EdgeSound (sym h)
        (link_sound c b inside e i.0.0 i.0.1 i.0.2 l.0.0 l.0.1 l.0.2 l.0.3 l.0.4)
    parts_sound c (link b inside e ps) i l x (inr h) =
        elim (in_append x (end_edges bs vs e) (part_edges bs vs c ps) h) [
          | inl j ↦ end_sound e i.1 l.1 x j
          | inr j ↦ parts_sound c ps i.2 l.2 x j
        ]
    parts_sound c (hook b inside ps) i l x (inl h) = subst EdgeSound (sym h)
        (hook_sound c b inside i.0.0 i.0.1 i.0.2 l.0.0 l.0.1 l.0.2)
    parts_sound c (hook b inside ps) i l x (inr h) = parts_sound c ps i.1 l.1 x h

    end_sound : (e : End) → InsidesOfEnd T e → EndFits bs vs e → (x : Edge) → IsIn x (end_edges bs vs e) → EdgeSound x
    end_sound (under n) i l x h = tree_sound n i l x h
    end_sound (leaf t) i l x h = absurd h

  -- each box edge of a dressed forest over the table is worth what its face says
  pub forest_sound : (autos : List Automaton) (d : Nodes) → TreesOf T autos d → AllFit bs vs d → (x : Edge)
      → IsIn x (forest_edges bs vs d) → EdgeSound x
  forest_sound autos no_nodes o l x h = absurd h
  forest_sound [] (more n ns) o l x h = absurd o
  forest_sound (a ∷ autos) (more n ns) o l x h = elim (in_append x (tree_edges bs vs n) (forest_edges bs vs ns) h) [
    | inl j ↦ tree_sound n o.1 l.0 x j
    | inr j ↦ forest_sound autos ns o.2 l.1 x j
  ]
