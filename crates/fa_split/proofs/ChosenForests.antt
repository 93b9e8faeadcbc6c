-- Forests with one rule chosen at a root.
use Rattle.std.proofs.Common.{◌≡◌, inl, inr, ℕ, ◌<◌, ◌≤◌, length, List, [], ◌∷◌, ◌++◌, map, refl, sym, ap, subst, Some}
use Rattle.fore_base.specs.Lists.{IsIn, Every}
use Rattle.fore_base.proofs.ListLemmas.{every_in, in_every, in_map, in_mapped}
use Rattle.ta_core.specs.Auto.{Automaton, IsRanked}
use Rattle.ta_core.specs.Language.{RunOf, run, InLanguage, IsWithin}
use Rattle.ta_core.specs.Single.{HasOneTop}
use Rattle.ta_core.specs.declared.auto.Rule.{Rule}
use Rattle.ta_core.specs.declared.tree.Tree.{Tree}
use Rattle.fa_core.specs.declared.boxes.BoxDef.{BoxDef}
use Rattle.fa_core.specs.declared.faces.BoxFace.{BoxFace}
use Rattle.fa_core.specs.declared.faces.Face.{Face}
use Rattle.fa_core.specs.declared.forest.Forest.{Forest}
use Rattle.fa_core.specs.Boxless.{IsPlain, HasNoBoxes}
use Rattle.fa_core.specs.Covering.{Covers}
use Rattle.fa_core.specs.Dressed.{Node, Nodes, cells, roots_of, value_in}
use Rattle.fa_core.specs.Filled.{SymbolFits, RulesFit, HasSignatures, IsSound}
use Rattle.fa_core.specs.Member.{OfForest, Regroups, RegroupsInto, bare}
use Rattle.fa_core.proofs.Rearranging.{same}
use Rattle.fa_back.specs.Reached.{node_at}
use Rattle.fa_sound.specs.Components.{component_at}
use Rattle.fa_merge.proofs.MergedAnywhere.{nat_cases}
use Rattle.fa_merge.proofs.PlacedForests.{component_has}
use Rattle.fa_split.specs.Chosen.{Picked, none, take, leave, IsBy}
use Rattle.fa_split.specs.Chosen.{StandsAtTop, chosen, chosen_at, AreChosen, IsChosenBy, IsChosenOf}
use Rattle.fa_split.specs.Divided.{HasVarsOf}
use Rattle.fa_split.proofs.ChosenTrees.{chosen_back, chosen_of, to_chosen, chosen_symbols, chosen_one, chosen_stay}
use Rattle.fa_split.proofs.ChosenTrees.{chosen_roots}
use Rattle.fa_split.proofs.OtherComponent.{component_set, every_put, tree_at, tree_in, trees_keep, within_sound}
use Rattle.fa_split.proofs.OtherComponent.{within_covers, within_dressed, within_regroups}

-- signatures stay uniform where each new state is one with trees of an old one
pub fresh_signed : (bs : List BoxFace) (a b : Automaton) (s : ℕ)
    → ((q : ℕ) (t : Tree) → q < a.states → RunOf b.rules q t → RunOf a.rules q t)
    → ((q : ℕ) (t : Tree) → RunOf b.rules q t → a.states ≤ q → RunOf a.rules s t)
    → ((q : ℕ) → IsIn q b.roots → a.states ≤ q) → HasSignatures bs a → HasSignatures bs b
fresh_signed bs a b s old new tops h = record {
  states = λ q t u x y. elim (nat_cases q a.states) [
    | inl l ↦ h.states q t u (old q t l x) (old q u l y)
    | inr l ↦ h.states s t u (new q t x l) (new q u y l)
  ];
  component = λ t u x y. h.states s t u (new x.0 t x.2 (tops x.0 x.1)) (new y.0 u y.2 (tops y.0 y.1));
}

module _ (F : Forest) (r : ℕ) (x : Rule) (ranked : Every IsRanked F.autos) (root : r < length F.autos)
    (rule : IsIn x (component_at F.autos r).rules) (top : IsIn x.state (component_at F.autos r).roots) where
  abbrev a : Automaton
  a = component_at F.autos r

  a_ranked : IsRanked a
  a_ranked = component_has IsRanked F.autos r ranked root

  by_rule : (t : Tree) → IsBy a.rules x t → RunOf a.rules x.state t
  by_rule t k = run x rule refl k.0 k.1

  chosen_within : IsWithin (chosen a x) a
  chosen_within t w = (x.state, top, by_rule t (chosen_of a x a_ranked rule t w))

  -- the dressed forests are those of F by the rule
  pub chosen_dressed : (T : List BoxDef) → IsChosenBy T F r x (chosen_at F r x)
  chosen_dressed T d = (
    (λ h.
        let k = tree_in T F.autos r (chosen a x) d root h in (
          within_dressed F r (chosen a x) chosen_within T d root h,
          (k.0, k.1, chosen_of a x a_ranked rule (bare k.0) k.2),
        )),
    (λ h.
        let k = h.1 in
        trees_keep T F.autos r (chosen a x) d k.0 h.0 k.1 (to_chosen a x a_ranked rule (bare k.0) k.2)),
  )

  pub chosen_regroups : (T : List BoxDef) → Regroups T F (chosen_at F r x)
  chosen_regroups T = within_regroups F r (chosen a x) chosen_within T root

  pub chosen_covers : Covers F (chosen_at F r x)
  chosen_covers = within_covers F r (chosen a x) chosen_within

  pub chosen_plain : Every HasNoBoxes F.autos → HasNoBoxes (chosen a x)
  chosen_plain plain = chosen_symbols a x a_ranked rule IsPlain (component_has HasNoBoxes F.autos r plain root)

  pub chosen_all_plain : Every HasNoBoxes F.autos → Every HasNoBoxes (chosen_at F r x).autos
  chosen_all_plain plain = every_put HasNoBoxes F.autos r (chosen a x) plain (chosen_plain plain)

  pub chosen_sound : (face : Face) → IsSound face F → (t : Tree) → IsBy a.rules x t → IsSound face (chosen_at F r x)
  chosen_sound face sound t k = within_sound F r (chosen a x) chosen_within face
      (chosen_symbols a x a_ranked rule (SymbolFits face)
      (component_has (RulesFit face) F.autos r sound.well_formed.filled.rules root))
      (fresh_signed face.boxes a (chosen a x) x.state
      (λ q u l w. chosen_stay a x a_ranked rule q u l w)
      (λ q u w l. by_rule u (chosen_back a x a_ranked rule q u l w))
      (λ q i. chosen_roots a x a_ranked rule q i)
      (component_has (HasSignatures face.boxes) F.autos r sound.well_formed.signatures root))
      (t, to_chosen a x a_ranked rule t k)
      sound

-- The items that meet P.

module _ {X : Type 0} (P : X → Type 0) where
  pub picked_each : {xs ys : List X} → Picked P xs ys → (y : X) → IsIn y ys → IsIn y xs × P y
  picked_each none y i = absurd i
  picked_each (take x h k) y (inl e) = (inl e, subst P (sym e) h)
  picked_each (take x h k) y (inr i) = let m = picked_each k y i in (inr m.0, m.1)
  picked_each (leave x h k) y i = let m = picked_each k y i in (inr m.0, m.1)

  pub picked_all : {xs ys : List X} → Picked P xs ys → (y : X) → IsIn y xs → P y → IsIn y ys
  picked_all none y i h = i
  picked_all (take x g k) y (inl e) h = inl e
  picked_all (take x g k) y (inr i) h = inr (picked_all k y i h)
  picked_all (leave x g k) y (inl e) h = absurd (g (subst P e h))
  picked_all (leave x g k) y (inr i) h = picked_all k y i h

  pub picked_take : {xs ys : List X} (x : X) → P x → Picked P xs ys → Picked P (xs ++ x ∷ []) (ys ++ x ∷ [])
  picked_take x h none = take x h none
  picked_take x h (take z g k) = take z g (picked_take x h k)
  picked_take x h (leave z g k) = leave z g (picked_take x h k)

  pub picked_leave : {xs ys : List X} (x : X) → (P x → ⊥) → Picked P xs ys → Picked P (xs ++ x ∷ []) ys
  picked_leave x h none = leave x h none
  picked_leave x h (take z g k) = take z g (picked_leave x h k)
  picked_leave x h (leave z g k) = leave z g (picked_leave x h k)

-- The list of all of them.

module _ (F : Forest) (r : ℕ) (ranked : Every IsRanked F.autos) (root : r < length F.autos) where
  -- what each rule that stands at the top of some tree gives, each forest of the list has
  each_chosen : (P : Forest → Type 0)
      → ((x : Rule) → IsIn x (component_at F.autos r).rules → StandsAtTop (component_at F.autos r) x
      → P (chosen_at F r x)) → (Gs : List Forest) → AreChosen F r Gs → Every P Gs
  each_chosen P h Gs k = in_every P Gs (λ G i.
      let m = in_mapped (chosen_at F r) G k.0 (subst (λ (Hs : List Forest). IsIn G Hs) k.2 i) in
      let w = picked_each (StandsAtTop (component_at F.autos r)) k.1 m.0 m.1 in
      subst P (sym m.2) (h m.0 w.0 w.1))

  pub all_dressed : (T : List BoxDef) (Gs : List Forest) → AreChosen F r Gs → Every (IsChosenOf T F r) Gs
  all_dressed T = each_chosen (IsChosenOf T F r)
      (λ x i k. (x, i, k, refl, chosen_covers F r x ranked root i k.0, chosen_dressed F r x ranked root i k.0 T))

  pub all_regroup : (T : List BoxDef) (Gs : List Forest) → AreChosen F r Gs → Every (Regroups T F) Gs
  all_regroup T = each_chosen (Regroups T F) (λ x i k. chosen_regroups F r x ranked root i k.0 T)

  pub all_vars : (Gs : List Forest) → AreChosen F r Gs → Every (HasVarsOf F) Gs
  all_vars = each_chosen (HasVarsOf F) (λ x i k. (refl, refl))

  pub all_plain : Every HasNoBoxes F.autos → (Gs : List Forest) → AreChosen F r Gs
      → Every (λ G. Every HasNoBoxes G.autos) Gs
  all_plain plain = each_chosen (λ G. Every HasNoBoxes G.autos)
      (λ x i k. chosen_all_plain F r x ranked root i k.0 plain)

  pub all_topped : (Gs : List Forest) → AreChosen F r Gs → Every (λ G. HasOneTop (component_at G.autos r)) Gs
  all_topped = each_chosen (λ G. HasOneTop (component_at G.autos r)) (λ x i k.
      let a = component_at F.autos r in
      subst HasOneTop (sym (component_set F.autos r (chosen a x) root))
      (chosen_one a x (component_has IsRanked F.autos r ranked root) i))

  -- none is lost: each dressed forest is one by some rule
  pub none_lost : (T : List BoxDef) (Gs : List Forest) → AreChosen F r Gs → (d : Nodes) → OfForest T F d → (G : Forest)
      × IsIn G Gs × OfForest T G d
  none_lost T Gs k d h =
      let n = tree_at T F.autos r d root h in
      by_run n.0 n.1 n.2
    where
      a : Automaton
      a = component_at F.autos r

      by_run : (n : Node) → node_at d r ≡ Some n → InLanguage a (bare n) → (G : Forest) × IsIn G Gs × OfForest T G d
      by_run n e (q, j, run x i s y w) =
          let by : IsBy a.rules x (bare n) = (y, w) in
          let top : IsIn x.state a.roots = subst (λ (z : ℕ). IsIn z a.roots) (sym s) j in
          let g = picked_all (StandsAtTop a) k.1 x i (top, (bare n, by)) in (
            chosen_at F r x,
            subst (λ (Hs : List Forest). IsIn (chosen_at F r x) Hs) (sym k.2)
                (in_map (chosen_at F r) x k.0 g),
            (chosen_dressed F r x ranked root i top T d).1 (h, (n, e, by)),
          )

  pub all_whole : (T : List BoxDef) (Gs : List Forest) → AreChosen F r Gs → RegroupsInto T F Gs
  all_whole T Gs k d h =
      let g = none_lost T Gs k d h in
      let v = every_in (HasVarsOf F) Gs g.0 (all_vars Gs k) g.1 in (
        g.0,
        g.1,
        (
          d,
          record {
            of = g.2;
            same_cells = same (cells d);
            vars = ap (map (value_in (roots_of d))) (sym v.0);
            data_vars = sym v.1;
          },
        ),
      )
