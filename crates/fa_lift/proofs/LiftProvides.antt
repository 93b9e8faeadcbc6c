-- The marks of a signature say which fields edges give to a root.
use Rattle.std.proofs.Common.{◌≡◌, ◌⊎◌, inl, inr, ℕ, Bool, true, false, nat_eq, if◌then◌else◌, List, [], ◌∷◌, ◌++◌, map}
use Rattle.std.proofs.Common.{flat_map, refl, sym, ap, subst, ◌∙◌, slice_get}
use Rattle.std.proofs.Common.{◌<◌, ◌+◌, length, take, slice_index_or}
use Rattle.std.proofs.lemmas.Bool.{eqb-true}
use Rattle.std.proofs.lemmas.Option.{get_or_from_slice_get}
use Rattle.fore_base.specs.Lists.{IsIn}
use Rattle.fore_base.proofs.ListLemmas.{in_map, in_mapped, in_from_place, take_item, every_in}
use Rattle.ta_core.specs.Auto.{Automaton, IsRanked}
use Rattle.ta_core.specs.Language.{RunOf, InLanguage, HasTree}
use Rattle.ta_core.specs.declared.tree.Tree.{Tree}
use Rattle.fa_core.specs.declared.faces.BoxFace.{BoxFace}
use Rattle.fa_core.specs.declared.signature.RefMark.{RefMark}
use Rattle.fa_core.specs.declared.forest.Forest.{Forest}
use Rattle.fa_core.specs.Dressed.{Node}
use Rattle.fa_core.specs.Filled.{HasSignatures}
use Rattle.fa_core.specs.Member.{bare}
use Rattle.fa_core.specs.Ways.{Way, ways, to_root, given, roots_met, mark, signature}
use Rattle.fa_core.proofs.Numbers.{has_once}
use Rattle.fa_core.proofs.Rearranging.{back}
use Rattle.fa_core.proofs.Sorting.{ordered}
use Rattle.fa_core.proofs.Permuted.{in_rearranged}
use Rattle.fa_sound.specs.Components.{component_at}
use Rattle.fa_sound.specs.Soundness.{IsStateOf}
use Rattle.fa_sound.proofs.ComponentLemmas.{component_got}
use Rattle.fa_split.proofs.RunPlaces.{at_index}
use Rattle.fa_lift.specs.Lift.{fields_given, Provides}
use Rattle.fa_lift.specs.inner.Lifting.{MarksProvide}
use Rattle.fa_lift.proofs.LiftEdges.{HasEdge, edge_of}
use Rattle.fa_back.proofs.RootMarks.{has_in, in_has}

module _ (bs : List BoxFace) (r f : ℕ) where
  -- a root to which some way gives a field is met
  met : (ws : List Way) → IsIn f (flat_map (λ (w : Way). given bs w.steps) (to_root r ws))
      → IsIn r (map (λ (w : Way). w.root) ws)
  met [] h = absurd h
  met (w ∷ ws) h = here (nat_eq r w.root) refl h (met ws)
    where
      here : (b : Bool) → nat_eq r w.root ≡ b
          → IsIn f (flat_map (λ (w : Way). given bs w.steps) (if b then w ∷ to_root r ws else to_root r ws))
          → (IsIn f (flat_map (λ (w : Way). given bs w.steps) (to_root r ws)) → IsIn r (map (λ (w : Way). w.root) ws))
          → IsIn r (map (λ (w : Way). w.root) (w ∷ ws))
      here true e i g = inl (eqb-true r w.root e)
      here false e i g = inr (g i)

  -- the signature has a mark that says so
  pub marks_of : (t : Tree) → IsIn f (fields_given bs r t) → MarksProvide r f (signature bs t)
  marks_of t h = (
    mark bs (ways t) r,
    in_map (mark bs (ways t)) r (roots_met (ways t))
        (has_in r (roots_met (ways t))
        (has_once r (map (λ (w : Way). w.root) (ways t))
        ∙ in_has r (map (λ (w : Way). w.root) (ways t)) (met (ways t) h))),
    refl,
    in_rearranged f (ordered (fields_given bs r t)) h,
  )

  -- and a mark that says so is right
  pub of_marks : (t : Tree) → MarksProvide r f (signature bs t) → IsIn f (fields_given bs r t)
  of_marks t (m, i, e, h) =
      let k = in_mapped (mark bs (ways t)) m (roots_met (ways t)) i in
      let z : k.0 ≡ r = sym (ap (λ (v : RefMark). v.root) k.2) ∙ e in
      let y : IsIn f (mark bs (ways t) k.0).provided = subst (λ (v : RefMark). IsIn f v.provided) k.2 h in
      subst (λ (n : ℕ). IsIn f (fields_given bs n t)) z (in_rearranged f (back (ordered (fields_given bs k.0 t))) y)

  -- where one tree of the component has such an edge, each has
  pub all_edged : (a : Automaton) → HasSignatures bs a → Provides bs r f a → (n : Node) → InLanguage a (bare n)
      → HasEdge bs f r n
  all_edged a h (t, l, i) n k =
      edge_of bs f r n
      (of_marks (bare n) (subst (λ (ms : List RefMark).
      MarksProvide r f ms) (h.component t (bare n) l k) (marks_of t i)))

  -- no mark provides anything
  pub none_provided : MarksProvide r f [] → ⊥
  none_provided (m, i, e, h) = i

  -- the marks of a root state that has a tree say it of the component
  pub state_provides : (a : Automaton) (q : ℕ) (ms : List RefMark) → IsIn q a.roots
      → ((t : Tree) → RunOf a.rules q t → ms ≡ signature bs t) → ((ms ≡ []) ⊎ HasTree a.rules q)
      → MarksProvide r f ms → Provides bs r f a
  state_provides a q ms i each (inl e) h =
      absurd (none_provided (subst (λ (xs : List RefMark). MarksProvide r f xs) e h))
  state_provides a q ms i each (inr (t, w)) h =
      (t, (q, i, w), of_marks t (subst (λ (xs : List RefMark). MarksProvide r f xs) (each t w) h))

  -- a tree that has such an edge says it of the marks of its state
  pub provided_by : (a : Automaton) (q : ℕ) (ms : List RefMark) (t : Tree) → RunOf a.rules q t
      → ((t : Tree) → RunOf a.rules q t → ms ≡ signature bs t) → IsIn f (fields_given bs r t) → MarksProvide r f ms
  provided_by a q ms t w each i = subst (λ (xs : List RefMark). MarksProvide r f xs) (sym (each t w)) (marks_of t i)

-- The states of a list of root states, one after the other.

pub item_in : (qs : List ℕ) (i : ℕ) → i < length qs → IsIn (slice_index_or qs i 0) qs
item_in qs i l = in_from_place qs i (slice_index_or qs i 0) (at_index qs i l)

pub take_next : (qs : List ℕ) (i : ℕ) → i < length qs → take (i + 1) qs ≡ take i qs ++ slice_index_or qs i 0 ∷ []
take_next qs i l =
    let q = slice_index_or qs i 0 in
    take_item qs i q l (sym (get_or_from_slice_get qs i q q (at_index qs i l)))

pub state_of : (F : Forest) (t : ℕ) → t < length F.autos → IsRanked (component_at F.autos t) → (q : ℕ)
    → IsIn q (component_at F.autos t).roots → IsStateOf (slice_get F.autos t) q
state_of F t l ranked q i =
    rw (component_got F.autos t l)
    (every_in (λ k. k < (component_at F.autos t).states) (component_at F.autos t).roots q ranked.0 i)
