-- Dressed forests in which the tree of one root gains the slots of a port.
use Rattle.std.proofs.Common.{◌≡◌, ℕ, zero, suc, ◌<◌, length, List, refl, sym, ap, ap₂, subst, ◌∙◌, Some}
use Rattle.std.proofs.Common.{slice_set}
use Rattle.std.proofs.lemmas.Option.{same_Some}
use Rattle.fore_base.specs.Lists.{IsIn, Every, Paired}
use Rattle.fore_base.specs.declared.store.Datum.{Datum}
use Rattle.fore_base.proofs.ListLemmas.{every_in}
use Rattle.ta_core.specs.Auto.{Automaton, IsRanked, IsRankedRule}
use Rattle.ta_core.specs.Language.{RunOf, InLanguage}
use Rattle.ta_core.specs.declared.auto.Rule.{Rule}
use Rattle.fa_core.specs.declared.boxes.BoxDef.{BoxDef}
use Rattle.fa_core.specs.declared.faces.BoxFace.{BoxFace}
use Rattle.fa_core.specs.declared.forest.Forest.{Forest}
use Rattle.fa_core.specs.Dressed.{Node, Parts, Nodes, node, no_nodes, more}
use Rattle.fa_core.specs.Member.{OfForest, TreesOf, InsidesOf, bare}
use Rattle.fa_back.specs.Reached.{node_at}
use Rattle.fa_sound.specs.Components.{component_at, with_component}
use Rattle.fa_split.specs.Split.{set_node}
use Rattle.fa_split.proofs.OtherComponent.{tree_in, trees_set, set_components}
use Rattle.fa_split.proofs.Places.{node_set, node_twice}
use Rattle.fa_unfold.specs.Parts.{Part}
use Rattle.fa_unfold.specs.Slots.{Place, joined, rule_places}
use Rattle.fa_unfold.specs.Unfolding.{grown}
use Rattle.fa_unfold.specs.inner.Trees.{unlisted, part_key, joined_parts, on_slots, at_root}
use Rattle.fa_unfold.proofs.GrownTrees.{IsCellOf, from_grown, to_grown, run_by_places}
use Rattle.fa_unfold.proofs.PartItems.{listed_again, unlisted_again}
use Rattle.fa_unfold.proofs.Joins.{joined_every}
use Rattle.fa_unfold.proofs.PlaceRuns.{PlaceOf, IsPlace}
use Rattle.fa_unfold.proofs.PortTrees.{PartInside, insides_listed, insides_unlisted, joined_each}

-- Slots changed at a root, and its tree put there.

pub at_set : (g : Parts → Parts) (r : ℕ) (d : Nodes) (n : Node) → node_at d r ≡ Some n → at_root g r d
    ≡ set_node r (on_slots g n) d
at_set g r no_nodes n e = refl
at_set g zero (more m ns) n e = ap (λ (z : Node). more (on_slots g z) ns) (same_Some m n e)
at_set g (suc r) (more m ns) n e = ap (more m) (at_set g r ns n e)

pub set_at : (g : Parts → Parts) (r : ℕ) (d : Nodes) (n m : Node) → node_at d r ≡ Some n
    → at_root g r (set_node r m d) ≡ set_node r (on_slots g m) d
set_at g r d n m e = at_set g r (set_node r m d) m (node_set r d n m e) ∙ node_twice r d (on_slots g m) m

-- slots of lists
pub lists_joined : (bs : List BoxFace) (xs ys : List Part) → joined_parts bs (unlisted xs) (unlisted ys)
    ≡ unlisted (joined (part_key bs) xs ys)
lists_joined bs xs ys =
    ap₂ (λ (us vs : List Part). unlisted (joined (part_key bs) us vs)) (unlisted_again xs) (unlisted_again ys)

module _ (bs : List BoxFace) (T : List BoxDef) (F : Forest) (r : ℕ) (there : r < length F.autos) (x : Rule)
    (base : List Place) (b : Automaton) (z : Rule) (left : IsRanked (component_at F.autos r)) (right : IsRanked b)
    (rule : IsIn z b.rules) (places : Every (IsPlace (component_at F.autos r).states) base) where
  abbrev a : Automaton
  a = component_at F.autos r

  abbrev made : Automaton
  made = grown bs a x base b z

  -- what stands at the root of a dressed forest of the new forest
  pub record IsGrownAt (e : Nodes) : Type 0 where
    pub cell : ℕ
    pub shape : ℕ
    pub datums : List Datum
    pub own : List Part
    pub gained : List Part
    pub at : node_at e r ≡ Some (node cell shape datums (unlisted (joined (part_key bs) own gained)))
    pub is_cell : IsCellOf x.symbol shape datums
    pub runs : Paired (PlaceOf (RunOf a.rules)) base own
    pub more : Paired (PlaceOf (RunOf b.rules)) (rule_places z) gained
    pub inner : Every (PartInside T) own
    pub outer : Every (PartInside T) gained

  pub grown_at : (e : Nodes) → OfForest T (with_component F r made) e → IsGrownAt e
  grown_at e h = let k = tree_in T F.autos r made e there h in told k.0 k.1 k.2 k.3
    where
      told : (n : Node) → node_at e r ≡ Some n → InLanguage made (bare n) → InsidesOf T n → IsGrownAt e
      told (node c s ds ps) w l i =
          let g = from_grown bs a x base b z left right rule places c s ds ps l in
          let j = joined_each (PartInside T) (part_key bs) g.own g.gained
          (subst (Every (PartInside T)) g.is (insides_listed T ps i)) in
          record {
            cell = c;
            shape = s;
            datums = ds;
            own = g.own;
            gained = g.gained;
            at = w ∙ ap (λ (q : Parts). Some (node c s ds q)) (sym (listed_again ps) ∙ ap unlisted g.is);
            is_cell = g.cell;
            runs = g.runs;
            more = g.more;
            inner = j.0;
            outer = j.1;
          }

  -- the tree with other slots in its place, where these run by the rule
  pub set_from : (e : Nodes) → OfForest T (with_component F r made) e → (c s : ℕ) (ds : List Datum) (ys : List Part)
      → IsIn x a.rules → IsIn x.state a.roots → IsCellOf x.symbol s ds
      → Paired (PlaceOf (RunOf a.rules)) (rule_places x) ys → Every (PartInside T) ys
      → OfForest T F (set_node r (node c s ds (unlisted ys)) e)
  set_from e h c s ds ys i j y w k =
      subst (λ (v : List Automaton). TreesOf T v (set_node r (node c s ds (unlisted ys)) e))
      (set_components F.autos r made there)
      (trees_set T (slice_set F.autos r made) r a e (node c s ds (unlisted ys)) h (
        x.state,
        j,
        run_by_places a.rules a.states x c s ds ys i (every_in (IsRankedRule a.states) a.rules x left.1 i) y w,
      )
      (insides_unlisted T ys k))

  -- a dressed forest of the new forest
  pub set_to : (d : Nodes) → OfForest T F d → (c s : ℕ) (ds : List Datum) (ks rs : List Part) → IsCellOf x.symbol s ds
      → Paired (PlaceOf (RunOf a.rules)) base ks → Paired (PlaceOf (RunOf b.rules)) (rule_places z) rs
      → Every (PartInside T) ks → Every (PartInside T) rs
      → OfForest T (with_component F r made)
      (set_node r (node c s ds (unlisted (joined (part_key bs) ks rs))) d)
  set_to d h c s ds ks rs y w v k q =
      trees_set T F.autos r made d (node c s ds (unlisted (joined (part_key bs) ks rs))) h
      (to_grown bs a x base b z left right rule places c s ds ks rs y w v)
      (insides_unlisted T (joined (part_key bs) ks rs)
      (joined_every (part_key bs) (PartInside T) ks rs k q))
