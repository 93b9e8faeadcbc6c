-- A sound forest stays sound when an idle root is dropped. A root is idle where the forest has no box edges, and where
-- it can be dropped.
use Rattle.std.proofs.Common.{◌≡◌, ◌≢◌, inl, inr, ℕ, zero, suc, ◌<◌, ◌+◌, Bool, true, false, true≢false, if◌then◌else◌}
use Rattle.std.proofs.Common.{cond, nat_eq, length, List, [], ◌∷◌, ◌++◌, map, flat_map, refl, sym, ap, ap₂, subst, ◌∙◌}
use Rattle.std.proofs.Common.{slice_get, Some, append-nil, arith}
use Rattle.std.proofs.lemmas.Bool.{eq-eqb}
use Rattle.std.proofs.lemmas.Option.{none-some, same_Some, slice_get_within}
use Rattle.fore_base.specs.Lists.{IsIn, Every}
use Rattle.fore_base.proofs.ListLemmas.{in_every, every_map, place_of as place_in_list, same_item}
use Rattle.ta_core.specs.Auto.{Automaton, IsRanked}
use Rattle.ta_core.specs.Language.{InLanguage}
use Rattle.ta_core.specs.declared.tree.Tree.{Tree}
use Rattle.fa_core.specs.declared.boxes.BoxDef.{BoxDef}
use Rattle.fa_core.specs.declared.faces.BoxFace.{BoxFace}
use Rattle.fa_core.specs.declared.faces.Face.{Face}
use Rattle.fa_core.specs.declared.forest.Forest.{Forest}
use Rattle.fa_core.specs.declared.forest.Target.{Target}
use Rattle.fa_core.specs.declared.forest.Target.TheVariants.{Null, Uninit, Dangling, At}
use Rattle.fa_core.specs.Boxless.{HasNoBoxes}
use Rattle.fa_core.specs.Choices.{bares}
use Rattle.fa_core.specs.Dressed.{Node, Parts, Nodes, node, no_parts, field, link, hook, under, leaf, no_nodes, more}
use Rattle.fa_core.specs.Filled.{Choice, ChoiceFilled, TopsAre, TreesFilled, IsRoot, RulesFit, given_at}
use Rattle.fa_core.specs.Filled.{HasSome, HasSignatures, IsSound}
use Rattle.fa_core.specs.Member.{bare}
use Rattle.fa_core.specs.Placed.{placed, placed_leaf, placed_all, placed_auto}
use Rattle.fa_core.specs.Ways.{ways, to_root, given}
use Rattle.fa_core.proofs.Dressing.{choice_length}
use Rattle.fa_core.proofs.FilledKept.{choice_with}
use Rattle.fa_core.proofs.Given.{Tip, tip_to, tips_of, all_tips}
use Rattle.fa_core.proofs.GivenTips.{given_tips}
use Rattle.fa_core.proofs.Placing.{placed_boxless, placed_fit}
use Rattle.fa_sound.proofs.NothingGiven.{nothing_given}
use Rattle.fa_back.specs.Reached.{node_at}
use Rattle.fa_merge.specs.Dropped.{drop_leaf, but_place, dropped_forest, without_node, AreLeaves, IsFlat, IsIdle}
use Rattle.fa_merge.specs.Dropped.{CanDrop, IsCut}
use Rattle.fa_merge.specs.Merged.{lowered}
use Rattle.fa_sound.specs.Components.{component_at}
use Rattle.fa_merge.proofs.Apart.{dropped_signed}
use Rattle.fa_merge.proofs.DroppedLists.{lowered_less}
use Rattle.fa_merge.proofs.DroppedSpots.{AreIdle, none_given, given_same, trees_filled}
use Rattle.fa_merge.proofs.Dropping.{cut_forest, flat_node}
use Rattle.fa_merge.proofs.FieldFacts.{no_list}
use Rattle.fa_merge.proofs.Named.{var_below}
use Rattle.fa_merge.proofs.OtherOrders.{mapped_length}
use Rattle.fa_merge.proofs.PlacedForests.{component_has}
use Rattle.fa_merge.proofs.PutForests.{node_of_tree, put_before, put_some}
use Rattle.fa_sound.proofs.ComponentLemmas.{component_got}
use Rattle.fa_merge.proofs.PlacedSpots.{tops_placed}

-- Lists without the item at a place.

pub in_but : {X : Type 0} (i : ℕ) (xs : List X) (x : X) → IsIn x (but_place i xs) → IsIn x xs
in_but i [] x h = h
in_but zero (y ∷ xs) x h = inr h
in_but (suc i) (y ∷ xs) x (inl e) = inl e
in_but (suc i) (y ∷ xs) x (inr h) = inr (in_but i xs x h)

pub every_but : {X : Type 0} (P : X → Type 0) (i : ℕ) (xs : List X) → Every P xs → Every P (but_place i xs)
every_but P i [] h = tt
every_but P zero (x ∷ xs) h = h.1
every_but P (suc i) (x ∷ xs) h = (h.0, every_but P i xs h.1)

pub but_length : {X : Type 0} (i : ℕ) (xs : List X) → i < length xs → length (but_place i xs) + 1 ≡ length xs
but_length i [] l = absurd (omega (arith, l))
but_length zero (x ∷ xs) l = let e : length xs + 1 ≡ suc (length xs) = omega arith in e
but_length (suc i) (x ∷ xs) l =
    let k : length (but_place i xs) + 1 ≡ length xs = but_length i xs (omega (arith, l)) in
    let e : suc (length (but_place i xs)) + 1 ≡ suc (length xs) = omega (arith, k) in
    e

bares_without : (r : ℕ) (d : Nodes) → bares (without_node r d) ≡ but_place r (bares d)
bares_without r no_nodes = refl
bares_without zero (more n ns) = refl
bares_without (suc r) (more n ns) = ap (λ (z : List Tree). bare n ∷ z) (bares_without r ns)

tops_but : (r : ℕ) (ts : List Tree) (tops : List ℕ) → TopsAre ts tops → TopsAre (but_place r ts) (but_place r tops)
tops_but r [] [] h = tt
tops_but r [] (s ∷ tops) h = absurd h
tops_but r (t ∷ ts) [] h = absurd h
tops_but zero (t ∷ ts) (s ∷ tops) h = h.1
tops_but (suc r) (t ∷ ts) (s ∷ tops) h = (h.0, tops_but r ts tops h.1)

pub but_map : {X Y : Type 0} (g : X → Y) (i : ℕ) (xs : List X) → but_place i (map g xs) ≡ map g (but_place i xs)
but_map g i [] = refl
but_map g zero (x ∷ xs) = refl
but_map {X} {Y} g (suc i) (x ∷ xs) = ap (λ (z : List Y). g x ∷ z) (but_map g i xs)

abbrev IsAt : Target → Type 0
IsAt (At k) = Unit {0}
IsAt u = ⊥

abbrev at_of : Target → ℕ
at_of (At k) = k
at_of u = 0

-- targets without the root
vars_dropped : (r n m : ℕ) (us : List Target) → ((k : ℕ) → IsIn (At k) us → k ≢ r → lowered r k < m)
    → Every (IsRoot m) (map (placed_leaf (drop_leaf r)) us)
vars_dropped r n m [] h = tt
vars_dropped r n m (u ∷ us) h = (one u (λ k e. h k (inl e)), vars_dropped r n m us (λ k i. h k (inr i)))
  where
    none : (u : Target) → (IsAt u → ⊥) → IsRoot m u
    none u d k e = absurd (d (subst IsAt (sym e) tt))

    one : (u : Target) → ((k : ℕ) → At k ≡ u → k ≢ r → lowered r k < m) → IsRoot m (placed_leaf (drop_leaf r) u)
    one Null h = none Null (λ z. z)
    one Uninit h = none Uninit (λ z. z)
    one Dangling h = none Dangling (λ z. z)
    one (At k) h = here (nat_eq r k) refl
      where
        here : (b : Bool) → nat_eq r k ≡ b → IsRoot m (if b then Dangling else At (lowered r k))
        here true q j e = none Dangling (λ z. z) j e
        here false q j e = subst (λ (z : ℕ). z < m) (ap at_of e)
            (h k refl (λ z. true≢false (sym (eq-eqb r k (sym z)) ∙ q)))

-- a dressed tree for each tree of a choice
nodes_of : (f : ℕ → Target) (autos : List Automaton) (us : List Tree)
    → Every (λ a. (t : Tree) → InLanguage (placed_auto f a) t → (n : Node) × InLanguage a (bare n)
    × (bare (placed f n) ≡ t)) autos → Choice (map (placed_auto f) autos) us
    → (e : Nodes) × Choice autos (bares e) × (bares (placed_all f e) ≡ us)
nodes_of f [] [] h c = (no_nodes, tt, refl)
nodes_of f [] (u ∷ us) h c = absurd c
nodes_of f (a ∷ autos) [] h c = absurd c
nodes_of f (a ∷ autos) (u ∷ us) h c =
    let n = h.0 u c.0 in
    let k = nodes_of f autos us h.1 c.1 in (
      more n.0 k.0,
      (n.1, k.1),
      subst (λ (z : Tree). bare (placed f n.0) ∷ bares (placed_all f k.0) ≡ z ∷ us) n.2
          (ap (λ (z : List Tree). bare (placed f n.0) ∷ z) k.2),
    )

-- and one more, for root r
choice_added : (autos : List Automaton) (r : ℕ) (a : Automaton) (n : Node) (d : Nodes) → slice_get autos r ≡ Some a
    → InLanguage a (bare n) → Choice (but_place r autos) (bares d) → (e : Nodes) × Choice autos (bares e)
    × (without_node r e ≡ d) × (node_at e r ≡ Some n)
choice_added [] r a n d e w c = absurd (none-some a e)
choice_added (b ∷ autos) zero a n d e w c =
    (more n d, (subst (λ (z : Automaton). InLanguage z (bare n)) (sym (same_Some b a e)) w, c), refl, refl)
choice_added (b ∷ autos) (suc r) a n no_nodes e w c = absurd c
choice_added (b ∷ autos) (suc r) a n (more m d) e w c =
    let k = choice_added autos r a n d e w c.1 in
    (more m k.0, (c.0, k.1), ap (more m) k.2, k.3)

tree_of_root : (r : ℕ) (d : Nodes) (n : Node) → node_at d r ≡ Some n → slice_get (bares d) r ≡ Some (bare n)
tree_of_root r no_nodes n e = absurd (none-some n e)
tree_of_root zero (more m ns) n e = ap (λ (z : Node). Some (bare z)) (same_Some m n e)
tree_of_root (suc r) (more m ns) n e = tree_of_root r ns n e

module _ (face : Face) (F : Forest) (r : ℕ) (root : r < length F.autos) (ranked : Every IsRanked F.autos)
    (sound : IsSound face F) where
  abbrev size : ℕ
  size = length F.autos

  abbrev f : ℕ → Target
  f = drop_leaf r

  abbrev rest : List Automaton
  rest = but_place r F.autos

  abbrev G : Forest
  G = dropped_forest r F

  abbrev comp : ℕ → Automaton
  comp k = component_at F.autos k

  -- what each component of F has, each of the rest has
  each_rest : (P : Automaton → Type 0) → ((k : ℕ) → k < size → P (comp k)) → Every P rest
  each_rest P h = in_every P rest (λ a i.
      let k = place_in_list F.autos a (in_but r F.autos a i) in
      let l : k.0 < size = slice_get_within F.autos k.0 a k.1 in
      subst P (same_item F.autos k.0 (comp k.0) a (component_got F.autos k.0 l) k.1) (h k.0 l))

  each_dropped : (P : Automaton → Type 0) → ((k : ℕ) → k < size → P (placed_auto f (comp k))) → Every P G.autos
  each_dropped P h = every_map (placed_auto f) P rest (each_rest (λ a. P (placed_auto f a)) h)

  pub dropped_plain : Every HasNoBoxes F.autos → Every HasNoBoxes G.autos
  dropped_plain plain = each_dropped HasNoBoxes
      (λ k l. placed_boxless f (comp k) (component_has HasNoBoxes F.autos k plain l))

  same_size : length G.autos + 1 ≡ size
  same_size = let a = but_length r F.autos root in
      let b : length G.autos ≡ length rest = mapped_length (placed_auto f) rest in omega (arith, a, b)

  -- a tree of the root
  own_node : (n : Node) × InLanguage (comp r) (bare n)
  own_node =
      let own = component_has HasSome F.autos r sound.full root in
      let n = node_of_tree face F sound.well_formed.filled sound.full ranked r root own.0 own.1 in
      (n.0, subst (λ (z : Tree). InLanguage (comp r) z) (sym n.1) own.1)

  module _ (idle : IsIdle face.boxes F r) where
    -- each choice is that of dressed trees of F without the tree of root r
    by_nodes : (us : List Tree) → Choice G.autos us → (e : Nodes) (n : Node) → Choice F.autos (bares e)
        → node_at e r ≡ Some n → bares (placed_all (drop_leaf r) (without_node r e)) ≡ us → ChoiceFilled face G us
    by_nodes us c e n choice is w =
        let ts = bares e in
        let cf = sound.well_formed.filled.trees ts choice in
        let tops = but_place r cf.tops in
        let there : slice_get ts r ≡ Some (bare n) = tree_of_root r e n is in
        let none : AreIdle r (all_tips face.boxes e) =
        none_given r (all_tips face.boxes e) (sym (given_tips face.boxes r e) ∙ idle.own ts choice) in
        let new : TreesFilled face us tops 0 us =
        subst (λ (zs : List Tree). TreesFilled face zs tops 0 zs) w
        (trees_filled face r cf.tops ts (bares (placed_all f (without_node r e)))
        (λ k d. given_same r k d face.boxes e n is (idle.out ts (bare n) choice there k)) 0 r e (omega arith) none
        cf.cells) in
        let are : TopsAre us tops =
        subst (λ (us : List Tree). TopsAre us tops) w
        (tops_placed f (without_node r e) tops
        (subst (λ (us : List Tree). TopsAre us tops) (sym (bares_without r e))
        (tops_but r ts cf.tops cf.are))) in
        let long : length us ≡ length G.autos = choice_length G.autos us c in
        let one = same_size in
        record {
          tops = tops;
          are = are;
          vars = vars_dropped r size (length us) F.vars
              (λ k i d.
              (let l = lowered_less r k size root (var_below face F sound.well_formed.filled ts choice k i) d in
              omega (arith, l, long, one)));
          cells = new;
        }

    choice_filled : (us : List Tree) → Choice G.autos us → ChoiceFilled face G us
    choice_filled us c =
        let nodes = nodes_of f rest us
        (each_rest (λ a. (t : Tree) → InLanguage (placed_auto f a) t → (n : Node) × InLanguage a (bare n)
        × (bare (placed f n) ≡ t))
        (λ k l t h. put_before face F sound.well_formed.filled sound.full ranked f k l t h)) c in
        let own = own_node in
        let e = choice_added F.autos r (comp r) own.0 nodes.0 (component_got F.autos r root) own.1 nodes.1 in
        by_nodes us c e.0 own.0 e.1 e.3 (ap (λ (z : Nodes). bares (placed_all f z)) e.2 ∙ nodes.2)

    pub dropped_sound : IsSound face (dropped_forest r F)
    dropped_sound = record {
      well_formed = record {
        filled = record {
          data_vars = sound.well_formed.filled.data_vars;
          rules = each_dropped (RulesFit face)
              (λ k l. placed_fit f face (comp k)
              (component_has (RulesFit face) F.autos k sound.well_formed.filled.rules l));
          trees = choice_filled;
        };
        signatures = each_dropped (HasSignatures face.boxes)
            (λ k l. dropped_signed face r (comp k) (component_has IsRanked F.autos k ranked l)
            (component_has (RulesFit face) F.autos k sound.well_formed.filled.rules l)
            (component_has (HasSignatures face.boxes) F.autos k sound.well_formed.signatures l));
      };
      full = each_dropped HasSome
          (λ k l. put_some face F sound.well_formed.filled sound.full ranked f k l);
    }

  -- it is the forest cut
  pub cut_of : (T : List BoxDef) → CanDrop face.boxes F r → IsCut T F G r
  cut_of T can =
      let n = own_node in
      let c = choice_with F.autos sound.full r (comp r) (bare n.0) (component_got F.autos r root) n.1 in
      cut_forest T face.boxes F r can n.0 (comp r, component_got F.autos r root, n.1) (can.flat c.0 (bare n.0) c.1 c.2)

-- Idle roots.

-- the gifts of one tree are among those of all
none_of_all : (bs : List BoxFace) (k r : ℕ) (ts : List Tree) (t : Tree) → slice_get ts r ≡ Some t
    → given_at bs ts k ≡ [] → given_at bs (t ∷ []) k ≡ []
none_of_all bs k r [] t e h = absurd (none-some t e)
none_of_all bs k zero (u ∷ ts) t e h =
    ap (λ (z : Tree). given_at bs (z ∷ []) k) (sym (same_Some u t e)) ∙ first (gift u) (given_at bs ts k) h
  where
    gift : Tree → List ℕ
    gift t = flat_map (λ w. given bs w.steps) (to_root k (ways t))

    first : (xs ys : List ℕ) → xs ++ ys ≡ [] → xs ++ [] ≡ []
    first [] ys e = refl
    first (x ∷ xs) ys e = absurd (no_list (sym e))
none_of_all bs k (suc r) (u ∷ ts) t e h =
    none_of_all bs k r ts t e (later (flat_map (λ w. given bs w.steps) (to_root k (ways u))) (given_at bs ts k) h)
  where
    later : (xs ys : List ℕ) → xs ++ ys ≡ [] → ys ≡ []
    later [] ys e = e
    later (x ∷ xs) ys e = absurd (no_list (sym e))

-- without box edges each root is idle
pub plain_idle : (bs : List BoxFace) (F : Forest) (r : ℕ) → Every HasNoBoxes F.autos → IsIdle bs F r
plain_idle bs F r plain = record {
  own = λ ts c. nothing_given bs F.autos plain ts c r;
  out = λ ts t c e k. none_of_all bs k r ts t e (nothing_given bs F.autos plain ts c k);
}

abbrev nothing : List ℕ
nothing = []

-- a flat cell gives nothing
flat_gives : (bs : List BoxFace) (k : ℕ) (ps : Parts) → AreLeaves ps → flat_map (tip_to k) (tips_of bs ps) ≡ []
flat_gives bs k no_parts h = refl
flat_gives bs k (field g (leaf t) ps) h = ap₂ (λ (x y : List ℕ). x ++ y) (none t) (flat_gives bs k ps h)
  where
    none : (t : Target) → tip_to k (t, []) ≡ []
    none Null = refl
    none Uninit = refl
    none Dangling = refl
    none (At j) = here (nat_eq k j)
      where
        here : (b : Bool) → cond b nothing nothing ≡ nothing
        here true = refl
        here false = refl
flat_gives bs k (field g (under n) ps) h = absurd h
flat_gives bs k (link b i e ps) h = absurd h
flat_gives bs k (hook b i ps) h = absurd h

pub tree_in : (autos : List Automaton) (ts : List Tree) (r : ℕ) (t : Tree) → Choice autos ts → slice_get ts r ≡ Some t
    → InLanguage (component_at autos r) t
tree_in [] [] r t c e = absurd (none-some t e)
tree_in [] (u ∷ ts) r t c e = absurd c
tree_in (a ∷ autos) [] r t c e = absurd c
tree_in (a ∷ autos) (u ∷ ts) zero t c e = subst (InLanguage a) (same_Some u t e) c.0
tree_in (a ∷ autos) (u ∷ ts) (suc r) t c e = tree_in autos ts r t c.1 e

-- a root that can be dropped is idle
pub can_idle : (face : Face) (F : Forest) (r : ℕ) → IsSound face F → Every IsRanked F.autos → CanDrop face.boxes F r
    → IsIdle face.boxes F r
can_idle face F r sound ranked can = record {
  own = can.own;
  out = λ ts t c e k. (let n = node_of_tree face F sound.well_formed.filled sound.full ranked r can.root t
      (tree_in F.autos ts r t c e) in
      subst (λ (z : Tree). given_at face.boxes (z ∷ []) k ≡ []) n.1
      (flat k n.0 (subst IsFlat (sym n.1) (can.flat ts t c e))));
}
  where
    flat : (k : ℕ) (n : Node) → IsFlat (bare n) → given_at face.boxes (bare n ∷ []) k ≡ []
    flat k (node c s ds ps) h =
        given_tips face.boxes k (more (node c s ds ps) no_nodes)
        ∙ ap (λ (xs : List Tip). flat_map (tip_to k) xs) (append-nil (tips_of face.boxes ps))
        ∙ flat_gives face.boxes k ps (flat_node c s ds ps h)
