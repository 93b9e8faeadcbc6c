-- The steps of unfolding, on dressed forests: a slot of a root makes room for the slots of a port, another root gains
-- slots, inner roots come behind.
use Rattle.std.proofs.Common.{◌≡◌, ℕ, zero, suc, ◌<◌, length, List, [], ◌∷◌, ◌++◌, map, refl, sym, ap, subst, ◌∙◌, Some}
use Rattle.std.proofs.Common.{slice_get, arith}
use Rattle.std.proofs.lemmas.Option.{same_Some}
use Rattle.fore_base.specs.Lists.{IsIn, Every, Paired}
use Rattle.fore_base.specs.declared.store.Datum.{Datum}
use Rattle.fore_base.proofs.ListLemmas.{every_in, in_from_place}
use Rattle.ta_core.specs.Auto.{Automaton, IsRanked, IsRankedRule}
use Rattle.ta_core.specs.Language.{RunOf, InLanguage}
use Rattle.ta_core.specs.Single.{HasOneTop}
use Rattle.ta_core.specs.declared.auto.Rule.{Rule}
use Rattle.fa_core.specs.declared.boxes.BoxDef.{BoxDef}
use Rattle.fa_core.specs.declared.faces.BoxFace.{BoxFace}
use Rattle.fa_core.specs.declared.forest.Forest.{Forest}
use Rattle.fa_core.specs.declared.forest.Target.{Target}
use Rattle.fa_core.specs.Cells.{is_leaf}
use Rattle.fa_core.specs.Dressed.{Node, Parts, Nodes, node, no_nodes, more}
use Rattle.fa_core.specs.Folding.{symbol_slots}
use Rattle.fa_core.specs.Member.{OfForest, TreesOf, InsidesOf, bare}
use Rattle.fa_core.specs.Placed.{placed_all, placed_auto}
use Rattle.fa_core.proofs.Placing.{trees_placed, trees_from}
use Rattle.fa_back.specs.Reached.{node_at}
use Rattle.fa_sound.specs.Components.{component_at}
use Rattle.fa_split.specs.Split.{set_node, top_rule}
use Rattle.fa_split.proofs.OtherComponent.{tree_at}
use Rattle.fa_split.proofs.Places.{node_set, node_same}
use Rattle.fa_split.proofs.TopRules.{top_in, top_root, top_alone}
use Rattle.fa_unfold.specs.Parts.{Part, listed}
use Rattle.fa_unfold.specs.Slots.{Place, joined, without, rule_places}
use Rattle.fa_unfold.specs.Unfolding.{IsTop, open_root, grow_root, with_inner}
use Rattle.fa_unfold.specs.inner.Trees.{unlisted, part_key, joined_parts, parts_without, on_slots, at_root, with_all}
use Rattle.fa_unfold.proofs.GrownRoots.{at_set, set_at, lists_joined, IsGrownAt, grown_at, set_from, set_to}
use Rattle.fa_unfold.proofs.GrownTrees.{IsCellOf, top_rule_of, top_by, rule_runs}
use Rattle.fa_unfold.proofs.Joins.{put_at, put_back, without_paired, item_paired}
use Rattle.fa_unfold.proofs.PartItems.{unlisted_again}
use Rattle.fa_unfold.proofs.PlaceRuns.{PlaceOf, IsPlace, places_right, without_every}
use Rattle.fa_unfold.proofs.PortTrees.{PartInside, insides_listed}

pub component_has : (P : Automaton → Type 0) (autos : List Automaton) (r : ℕ) → r < length autos → Every P autos
    → P (component_at autos r)
component_has P [] r l h = absurd (omega (arith, l))
component_has P (a ∷ autos) zero l h = h.0
component_has P (a ∷ autos) (suc r) l h =
    component_has P autos r (let z : suc r < suc (length autos) = l in omega (arith, z)) h.1

put_at_every : {X : Type 0} (P : X → Type 0) (p : ℕ) (x : X) (xs : List X) → P x → Every P xs → Every P (put_at p x xs)
put_at_every P zero x xs h k = (h, k)
put_at_every P (suc p) x [] h k = (h, tt)
put_at_every P (suc p) x (y ∷ xs) h k = (k.0, put_at_every P p x xs h k.1)

pub rule_right : (a : Automaton) (x : Rule) → IsRanked a → IsIn x a.rules → Every (IsPlace a.states) (rule_places x)
rule_right a x r i =
    places_right a.states (symbol_slots x.symbol) x.children (every_in (IsRankedRule a.states) a.rules x r.1 i).1

-- root i of the dressed forest has the slot y at place p
pub record HasPart (d : Nodes) (i p : ℕ) (y : Part) : Type 0 where
  pub cell : ℕ
  pub shape : ℕ
  pub datums : List Datum
  pub parts : Parts
  pub at : node_at d i ≡ Some (node cell shape datums parts)
  pub has : slice_get (listed parts) p ≡ Some y

module _ (bs : List BoxFace) (T : List BoxDef) (F : Forest) (ranked : Every IsRanked F.autos) where
  -- the tree of a root, slot by slot
  record RootRun (r c s : ℕ) (ds : List Datum) (os : Parts) : Type 0 where
    rule : Rule
    there : IsIn rule (component_at F.autos r).rules
    top : IsTop (component_at F.autos r) rule
    is_cell : IsCellOf rule.symbol s ds
    runs : Paired (PlaceOf (RunOf (component_at F.autos r).rules)) (rule_places rule) (listed os)
    insides : Every (PartInside T) (listed os)

  root_run : (r : ℕ) → r < length F.autos → (d : Nodes) → OfForest T F d → (c s : ℕ) (ds : List Datum) (os : Parts)
      → node_at d r ≡ Some (node c s ds os) → RootRun r c s ds os
  root_run r l d h c s ds os e =
      let k = tree_at T F.autos r d l h in
      let same : k.0 ≡ node c s ds os = same_Some k.0 (node c s ds os) (sym k.1 ∙ e) in
      told (subst (λ (n : Node). InLanguage (component_at F.autos r) (bare n)) same k.2)
      (subst (λ (n : Node). InsidesOf T n) same k.3)
    where
      told : InLanguage (component_at F.autos r) (bare (node c s ds os)) → InsidesOf T (node c s ds os)
          → RootRun r c s ds os
      told (q, i, w) v =
          let a = component_at F.autos r in
          let x = top_rule_of a.rules q c s ds os w in
          record {
            rule = x.0;
            there = x.1;
            top = (
              (
                subst (λ (k : ℕ). IsIn k a.roots) (sym x.2) i,
                (bare (node c s ds os), top_by a.rules x.0 c s ds os x.3 x.4),
              ),
              ap is_leaf x.3,
            );
            is_cell = (_, x.3);
            runs = rule_runs a.rules x.0 s ds os x.3 x.4;
            insides = insides_listed T os v;
          }

  -- A slot opened.

  module _ (i p : ℕ) (there : i < length F.autos) (one : HasOneTop (component_at F.autos i)) (edge : Place)
      (slot : slice_get (rule_places (top_rule (component_at F.autos i))) p ≡ Some edge) where
    abbrev a : Automaton
    a = component_at F.autos i

    abbrev top : Rule
    top = top_rule a

    left : IsRanked a
    left = component_has IsRanked F.autos i there ranked

    -- the tree of the root is by its one rule
    pub top_run : (d : Nodes) → OfForest T F d → (c s : ℕ) (ds : List Datum) (os : Parts)
        → node_at d i ≡ Some (node c s ds os) → IsCellOf top.symbol s ds
        × Paired (PlaceOf (RunOf a.rules)) (rule_places top) (listed os) × Every (PartInside T) (listed os)
    top_run d h c s ds os e =
        let k = root_run i there d h c s ds os e in
        let w : k.rule ≡ top = top_alone a one k.rule k.there k.top.0.0 in (
          subst (λ (x : Rule). IsCellOf x.symbol s ds) w k.is_cell,
          subst (λ (x : Rule). Paired (PlaceOf (RunOf a.rules)) (rule_places x) (listed os)) w k.runs,
          k.insides,
        )

    -- each dressed forest has a slot there, by the edge
    pub part_there : (d : Nodes) → OfForest T F d
        → (y : Part) × HasPart d i p y × PlaceOf (RunOf a.rules) edge y × PartInside T y
    part_there d h = let k = tree_at T F.autos i d there h in told k.0 k.1
      where
        told : (m : Node) → node_at d i ≡ Some m
            → (y : Part) × HasPart d i p y × PlaceOf (RunOf a.rules) edge y × PartInside T y
        told (node c s ds os) e =
            let t = top_run d h c s ds os e in
            let x = item_paired (PlaceOf (RunOf a.rules)) p (rule_places top) (listed os) edge t.1 slot in (
              x.0,
              record { cell = c; shape = s; datums = ds; parts = os; at = e; has = x.1 },
              x.2,
              every_in (PartInside T) (listed os) x.0 t.2 (in_from_place (listed os) p x.0 x.1),
            )

    module _ (b : Automaton) (right : IsRanked b) (z : Rule) (rule : IsIn z b.rules) where
      pub base_right : Every (IsPlace a.states) (without p (rule_places top))
      base_right = without_every (IsPlace a.states) p (rule_places top) (rule_right a top left (top_in a one))

      -- the dressed forest with the slot y in its place, and without the slots that were gained
      pub record IsClosedBy (gained : List Part) (e : Nodes) (y : Part) : Type 0 where
        pub before : Nodes
        pub of : OfForest T F before
        pub part : HasPart before i p y
        pub opened : at_root (λ os. joined_parts bs os (unlisted gained)) i (at_root (parts_without p) i before) ≡ e

      pub record IsClosed (e : Nodes) : Type 0 where
        pub gained : List Part
        pub more : Paired (PlaceOf (RunOf b.rules)) (rule_places z) gained
        pub outer : Every (PartInside T) gained
        pub closed : (y : Part) → PlaceOf (RunOf a.rules) edge y → PartInside T y → IsClosedBy gained e y

      pub opened_from : (e : Nodes) → OfForest T (open_root bs F i p b z) e → IsClosed e
      opened_from e h =
          let g = grown_at bs T F i there top (without p (rule_places top)) b z left right rule base_right e h in
          record { gained = g.gained; more = g.more; outer = g.outer; closed = close g }
        where
          close : (g : IsGrownAt bs T F i there top (without p (rule_places top)) b z left right rule base_right e)
              → (y : Part) → PlaceOf (RunOf a.rules) edge y → PartInside T y → IsClosedBy g.gained e y
          close g y w k =
              let ys = put_at p y g.own in
              let n : Node = node g.cell g.shape g.datums (unlisted ys) in
              let pb = put_back (PlaceOf (RunOf a.rules)) p (rule_places top) g.own edge y slot w g.runs in
              let again : listed (unlisted ys) ≡ ys = unlisted_again ys in
              let less : parts_without p (unlisted ys) ≡ unlisted g.own =
              ap (λ (v : List Part). unlisted (without p v)) again ∙ ap unlisted pb.1 in
              let J : Parts → Parts = λ os. joined_parts bs os (unlisted g.gained) in
              record {
                before = set_node i n e;
                of = set_from bs T F i there top (without p (rule_places top)) b z left right rule base_right e h g.cell
                    g.shape g.datums ys (top_in a one) (top_root a one) g.is_cell pb.0
                    (put_at_every (PartInside T) p y g.own k g.inner);
                part = record {
                  cell = g.cell;
                  shape = g.shape;
                  datums = g.datums;
                  parts = unlisted ys;
                  at = node_set i e _ n g.at;
                  has = subst (λ (v : List Part). slice_get v p ≡ Some y) (sym again) pb.2;
                };
                opened = ap (at_root J i) (set_at (parts_without p) i e _ n g.at)
                    ∙ set_at J i e _ (on_slots (parts_without p) n) g.at
                    ∙ ap (λ (v : Parts). set_node i (node g.cell g.shape g.datums (J v)) e) less
                    ∙ ap (λ (v : Parts). set_node i (node g.cell g.shape g.datums v) e) (lists_joined bs g.own g.gained)
                    ∙ node_same i e _ g.at;
              }

      pub opened_to : (d : Nodes) → OfForest T F d → (c s : ℕ) (ds : List Datum) (os : Parts)
          → node_at d i ≡ Some (node c s ds os) → (qs : Parts)
          → Paired (PlaceOf (RunOf b.rules)) (rule_places z) (listed qs) → Every (PartInside T) (listed qs)
          → OfForest T (open_root bs F i p b z)
          (at_root (λ x. joined_parts bs x qs) i (at_root (parts_without p) i d))
      opened_to d h c s ds os e qs w k =
          let t = top_run d h c s ds os e in
          let n : Node = node c s ds os in
          let J : Parts → Parts = λ x. joined_parts bs x qs in
          let m : Node = node c s ds (parts_without p os) in
          let o = set_to bs T F i there top (without p (rule_places top)) b z left right rule base_right d h c s ds
          (without p (listed os)) (listed qs) t.0
          (without_paired (PlaceOf (RunOf a.rules)) p (rule_places top) (listed os) t.1) w
          (without_every (PartInside T) p (listed os) t.2) k in
          let f : at_root J i (at_root (parts_without p) i d)
          ≡ set_node i (node c s ds (unlisted (joined (part_key bs) (without p (listed os)) (listed qs)))) d =
          ap (at_root J i) (at_set (parts_without p) i d n e) ∙ set_at J i d n m e
          ∙ ap (λ (v : List Part). set_node i (node c s ds (unlisted (joined (part_key bs) v (listed qs)))) d)
          (unlisted_again (without p (listed os))) in
          subst (λ (v : Nodes). OfForest T (open_root bs F i p b z) v) (sym f) o

  -- A root that gains slots.

  module _ (j : ℕ) (there : j < length F.autos) (b : Automaton) (right : IsRanked b) (z : Rule)
      (rule : IsIn z b.rules) where
    abbrev c0 : Automaton
    c0 = component_at F.autos j

    held : IsRanked c0
    held = component_has IsRanked F.autos j there ranked

    pub record IsGrownFrom (e : Nodes) : Type 0 where
      pub gained : List Part
      pub more : Paired (PlaceOf (RunOf b.rules)) (rule_places z) gained
      pub outer : Every (PartInside T) gained
      pub before : Nodes
      pub of : OfForest T F before
      pub opened : at_root (λ os. joined_parts bs os (unlisted gained)) j before ≡ e

    pub grown_from : (w : Rule) → IsIn w c0.rules → IsIn w.state c0.roots → (e : Nodes)
        → OfForest T (grow_root bs F j b w z) e
        → IsGrownFrom e
    grown_from w iw jw e h =
        let r = rule_right c0 w held iw in
        let g = grown_at bs T F j there w (rule_places w) b z held right rule r e h in
        let n : Node = node g.cell g.shape g.datums (unlisted g.own) in
        let J : Parts → Parts = λ os. joined_parts bs os (unlisted g.gained) in
        record {
          gained = g.gained;
          more = g.more;
          outer = g.outer;
          before = set_node j n e;
          of = set_from bs T F j there w (rule_places w) b z held right rule r e h g.cell g.shape g.datums g.own iw jw
              g.is_cell g.runs g.inner;
          opened = set_at J j e _ n g.at
              ∙ ap (λ (v : Parts). set_node j (node g.cell g.shape g.datums v) e) (lists_joined bs g.own g.gained)
              ∙ node_same j e _ g.at;
        }

    pub grown_to : (d : Nodes) → OfForest T F d → (qs : Parts)
        → Paired (PlaceOf (RunOf b.rules)) (rule_places z) (listed qs) → Every (PartInside T) (listed qs)
        → (w : Rule) × IsIn w c0.rules × IsTop c0 w
        × OfForest T (grow_root bs F j b w z) (at_root (λ x. joined_parts bs x qs) j d)
    grown_to d h qs w k = let t = tree_at T F.autos j d there h in told t.0 t.1
      where
        told : (n : Node) → node_at d j ≡ Some n → (w : Rule) × IsIn w c0.rules × IsTop c0 w
            × OfForest T (grow_root bs F j b w z) (at_root (λ x. joined_parts bs x qs) j d)
        told (node c s ds os) e =
            let t = root_run j there d h c s ds os e in
            let r = rule_right c0 t.rule held t.there in (
              t.rule,
              t.there,
              t.top,
              subst (λ (v : Nodes). OfForest T (grow_root bs F j b t.rule z) v)
                  (sym (at_set (λ x. joined_parts bs x qs) j d (node c s ds os) e))
                  (set_to bs T F j there t.rule (rule_places t.rule) b z held right rule r d h c s ds (listed os)
                  (listed qs) t.is_cell t.runs w t.insides k),
            )

-- Inner roots.

module _ (T : List BoxDef) where
  both_trees : (xs ys : List Automaton) (d e : Nodes) → TreesOf T xs d → TreesOf T ys e
      → TreesOf T (xs ++ ys) (with_all d e)
  both_trees [] ys no_nodes e h k = k
  both_trees [] ys (more n ns) e h k = absurd h
  both_trees (x ∷ xs) ys no_nodes e h k = absurd h
  both_trees (x ∷ xs) ys (more n ns) e h k = (h.0, h.1, both_trees xs ys ns e h.2 k)

  trees_apart : (xs ys : List Automaton) (d : Nodes) → TreesOf T (xs ++ ys) d → (e m : Nodes) × (with_all e m ≡ d)
      × TreesOf T xs e × TreesOf T ys m
  trees_apart [] ys d h = (no_nodes, d, refl, tt, h)
  trees_apart (x ∷ xs) ys no_nodes h = absurd h
  trees_apart (x ∷ xs) ys (more n ns) h =
      let k = trees_apart xs ys ns h.2 in (more n k.0, k.1, ap (more n) k.2, (h.0, h.1, k.3), k.4)

  pub inner_to : (f : ℕ → Target) (inner : List Automaton) (F : Forest) (d ns : Nodes) → OfForest T F d
      → TreesOf T inner ns → OfForest T (with_inner (map (placed_auto f) inner) F) (with_all d (placed_all f ns))
  inner_to f inner F d ns h k =
      both_trees F.autos (map (placed_auto f) inner) d (placed_all f ns) h (trees_placed f T inner ns k)

  pub inner_from : (f : ℕ → Target) (inner : List Automaton) (F : Forest) (e : Nodes)
      → OfForest T (with_inner (map (placed_auto f) inner) F) e → (d ns : Nodes)
      × (with_all d (placed_all f ns) ≡ e) × OfForest T F d × TreesOf T inner ns
  inner_from f inner F e h =
      let k = trees_apart F.autos (map (placed_auto f) inner) e h in
      let m = trees_from f T inner k.1 k.4 in
      (k.0, m.0, ap (with_all k.0) m.1 ∙ k.2, k.3, m.2)
