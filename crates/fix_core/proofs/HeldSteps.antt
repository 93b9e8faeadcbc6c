-- The steps by which nodes are held, by their outcomes.
use Rattle.std.proofs.Common.{◌≡◌, ℕ, ◌+◌, ◌<◌, ◌^◌, Bool, List, [], ◌∷◌, ◌++◌, map, length, slice_get}
use Rattle.std.proofs.Common.{Option, Some, Result, Ok, Err, IfOk, OnOk, OnErr}
use Rattle.std.proofs.Common.{refl, sym, ap, ◌∙◌, subst, arith, inl}
use Rattle.std.proofs.lemmas.List.{length-append, length-map}
use Rattle.fore_base.specs.Lists.{IsIn}
use Rattle.fore_base.proofs.ListLemmas.{every_in, in_from_place}
use Rattle.ta_core.specs.Auto.{Automaton}
use Rattle.fa_core.specs.Filled.{IsSound}
use Rattle.fa_core.specs.declared.faces.Face.{Face}
use Rattle.fa_core.specs.declared.folds.FoldStep.{FoldStep}
use Rattle.fa_core.specs.declared.forest.Forest.{Forest}
use Rattle.fa_sound.specs.Soundness.{SoundForest}
use Rattle.fa_pool.specs.Pools.{IsKeptIn}
use Rattle.fa_pool.specs.declared.kept.Kept.{Kept}
use Rattle.fix_core.specs.Reads.{read, read_if}
use Rattle.fix_core.specs.Covered.{NoneCovers, CoversOrNot, IsPlaced}
use Rattle.fix_core.specs.Explorations.{IsNode}
use Rattle.fix_core.specs.Held.{node_of, nodes_of, IsHeldIn, IsHeld}
use Rattle.fix_core.specs.States.{AbstractState, IsSoundState}
use Rattle.fix_core.specs.inner.Holding.{HasGrown, IsKeptAs, IsKeptIfThere, IsHeldAs, IsPushed, StaysHeld, IsHeldWith}
use Rattle.fix_core.specs.inner.Holding.{IsHeldAlone}
use Rattle.fix_core.specs.declared.held.Held.{Held}
use Rattle.fix_core.specs.declared.held.HeldNode.{HeldNode}
use Rattle.fix_core.specs.declared.nodes.Node.{Node}
use Rattle.fix_core.specs.declared.nodes.Placed.{Placed}
use Rattle.fix_core.specs.declared.nodes.Placed.TheVariants.{Covered, Added, Full}
use Rattle.fix_core.proofs.Holding.{at_map, held_still, nodes_still, kept_still, held_with, stays_held}
use Rattle.fix_core.proofs.Lists.{some_same}

-- what a node of the pool has

module _ (face : Face) (pool : List Automaton) (items : List HeldNode) (seen : List Node)
    (view : map (node_of face pool) items ≡ seen) where
  pub place_inside : (j : ℕ) → j < length seen → j < length items
  place_inside j low = subst (λ z. j < z) (ap length (sym view) ∙ length-map items (node_of face pool)) low

  -- the node is the one as which the held node of its number reads
  pub node_is : (j : ℕ) (h : HeldNode) (n : Node) → slice_get items j ≡ Some h → IsNode seen j n
      → node_of face pool h ≡ n
  node_is j h n at is =
      some_same (node_of face pool h) n
      (sym (at_map (node_of face pool) items j h at)
      ∙ subst (λ (ns : List Node). slice_get ns j ≡ Some n) (sym view) is)

  -- it stands over one face with all
  pub first_face : (g : Face) → 0 < length items → ((n : Node) → IsIn n seen → n.state.face ≡ g) → face ≡ g
  first_face g some over = of_items items some
      (λ n i. over n (subst (λ (ns : List Node). IsIn n ns) view i))
    where
      of_items : (hs : List HeldNode) → 0 < length hs
          → ((n : Node) → IsIn n (map (node_of face pool) hs) → n.state.face ≡ g) → face ≡ g
      of_items [] none own = absurd (omega (arith, none))
      of_items (h ∷ hs) one own = own (node_of face pool h) (inl refl)

module _ (face : Face) (held : Held) (is : IsHeld face held) (j : ℕ) (h : HeldNode)
    (at : slice_get held.nodes j ≡ Some h) where
  held_there : IsHeldIn held.pool h
  held_there = every_in (IsHeldIn held.pool) held.nodes h is.kept (in_from_place held.nodes j h at)

  sound_there : IsSoundState (node_of face held.pool h).state
  sound_there =
      every_in (λ (n : Node). IsSoundState n.state) (nodes_of face held) (node_of face held.pool h) is.sound
      (in_from_place (nodes_of face held) j (node_of face held.pool h)
      (at_map (node_of face held.pool) held.nodes j h at))

  pub forest_kept : IsKeptIn held.pool h.forest
  forest_kept = held_there.forest

  pub forest_sound : IsSound face (read held.pool h.forest)
  forest_sound = sound_there.forest

  pub middle_sound : (kept : Kept) → h.middle ≡ Some kept → IsSound face (read held.pool kept)
  middle_sound kept there =
      sound_there.middle (read held.pool kept) (ap (λ (o : Option Kept). read_if held.pool o) there)

pub forest_is : {E : Type 0} (r : Result SoundForest E) (seen : List Node) (j : ℕ) (m : Node)
    → ((n : Node) → IsNode seen j n → m ≡ n) → IfOk r (λ s. s.forest ≡ m.state.forest)
    → IfOk r (λ s. s.face ≡ m.state.face)
    → IfOk r (λ s. (n : Node) → IsNode seen j n → (s.forest ≡ n.state.forest) × (s.face ≡ n.state.face))
forest_is (Ok s) seen j m one forest face = λ n is. (
  forest ∙ ap (λ (z : Node). z.state.forest) (one n is),
  face ∙ ap (λ (z : Node). z.state.face) (one n is),
)
forest_is (Err e) seen j m one forest face = tt

-- a node that is to be added

abbrev made : HeldNode → AbstractState → Forest → Option Forest → List FoldStep → Node
made node a F M folds =
    record { head = node.head; state = record { face = a.face; forest = F; middle = M; folds = folds } }

pub held_as : (before after : Held) (node : HeldNode) (a : AbstractState) → HasGrown before after
    → IsKeptAs before.pool a.forest node.forest → IsKeptIfThere after.pool a.middle node.middle → node.folds ≡ a.folds
    → IsHeldAs a.face after.pool (record { head = node.head; state = a }) node
held_as before after node a grown forest middle folds =
    let kept = kept_still before after a.forest node.forest grown forest in (
      record { forest = kept.0; middle = middle.0 },
      ap (λ (F : Forest). made node a F (read_if after.pool node.middle) node.folds) kept.1
          ∙ ap (λ (M : Option Forest). made node a a.forest M node.folds) middle.1
          ∙ ap (λ (fs : List FoldStep). made node a a.forest a.middle fs) folds,
    )

module _ {X E : Type 0} (face : Face) (before between after : Held) (held : IsHeld face before)
    (grown : HasGrown before between) where
  pub added : (r : Result X E) (node : HeldNode) (n : Node) → IsHeldAs face between.pool n node
      → IsSoundState n.state → length before.nodes + 1 < 2 ^ 32 → OnOk r (IsPushed between node after)
      → OnOk r (IsHeldWith face before n after)
  added (Ok x) node n are sound few pushed =
      let joined =
      held_with face between after node n (held_still face before between grown held) pushed are sound
      (subst (λ (ns : List HeldNode). length ns + 1 < 2 ^ 32) (sym grown.nodes) few) in
      (joined.0, joined.1 ∙ ap (λ (ns : List Node). ns ++ n ∷ []) (nodes_still face before between grown held))
  added (Err e) node n are sound few pushed = tt

  pub not_added : (r : Result X E) → OnErr r (HasGrown between after) → OnErr r (StaysHeld face before after)
  not_added (Ok x) more = tt
  not_added (Err e) more =
      let still = stays_held face before between grown held in
      let last = stays_held face between after more still.0 in
      (last.0, last.1 ∙ still.1)

-- the node alone

pub alone_few : (none between : Held) → none.nodes ≡ [] → HasGrown none between → length between.nodes + 1 < 2 ^ 32
alone_few none between empty grown =
    subst (λ (ns : List HeldNode). length ns + 1 < 2 ^ 32) (sym (grown.nodes ∙ empty)) (omega arith)

pub alone : (none between after : Held) (n : Node) → none.nodes ≡ [] → IsHeld n.state.face none
    → HasGrown none between → IsHeldWith n.state.face between n after → IsHeldAlone n after
alone none between after n empty held grown joined =
    let before : nodes_of n.state.face between ≡ [] =
    nodes_still n.state.face none between grown held
    ∙ ap (λ (ns : List HeldNode). map (node_of n.state.face none.pool) ns) empty in
    let are : nodes_of n.state.face after ≡ n ∷ [] = joined.1 ∙ ap (λ (ns : List Node). ns ++ n ∷ []) before in
    let one : length after.nodes ≡ 1 =
    sym (length-map after.nodes (node_of n.state.face after.pool)) ∙ ap (λ (ns : List Node). length ns) are in
    record { some = omega (arith, one); held_is = joined.0; nodes_are = are }

-- a state that is to be a node

pub nodes_long : (face : Face) (held : Held) → length (nodes_of face held) ≡ length held.nodes
nodes_long face held = length-map held.nodes (node_of face held.pool)

-- no node of the location covers the one that is to be added
module _ (face : Face) (before after : Held) (n : Node) (budget : ℕ) where
  pub placed_then : {E : Type 0} (between : Held) (r : Result Placed E) → StaysHeld face before between
      → NoneCovers (nodes_of face before) n.head.location n.state.forest
      → IfOk r (λ placed. NoneCovers (nodes_of face between) n.head.location n.state.forest
      → IsPlaced (nodes_of face between) n budget (nodes_of face after) placed)
      → IfOk r (IsPlaced (nodes_of face before) n budget (nodes_of face after))
  placed_then between (Ok placed) stays none is =
      subst (λ (ns : List Node). IsPlaced ns n budget (nodes_of face after) placed) stays.1
      (is (subst (λ (ns : List Node). NoneCovers ns n.head.location n.state.forest) (sym stays.1) none))
  placed_then between (Err e) stays none is = tt

  pub err_then : {X E : Type 0} (between : Held) (r : Result X E) → StaysHeld face before between
      → OnErr r (nodes_of face after ≡ nodes_of face between) → OnErr r (nodes_of face after ≡ nodes_of face before)
  err_then between (Ok x) stays same = tt
  err_then between (Err e) stays same = same ∙ stays.1

-- the forest was kept, and then it was asked what covers
pub covered_before : (face : Face) (before kept : Held) (location : ℕ) (F : Forest) (forest : Kept) (holds : Bool)
    → HasGrown before kept → IsHeld face before → IsKeptAs kept.pool F forest
    → ((f : Face) → IsHeld f kept → CoversOrNot (nodes_of f kept) location (read kept.pool forest) holds)
    → CoversOrNot (nodes_of face before) location F holds
covered_before face before kept location F forest holds grown held reads covers =
    subst (λ (ns : List Node). CoversOrNot ns location F holds) (nodes_still face before kept grown held)
    (subst (λ (G : Forest). CoversOrNot (nodes_of face kept) location G holds) reads.1
    (covers face (held_still face before kept grown held)))

-- one at least stays
pub some_placed : {E : Type 0} (r : Result Placed E) (old new : List Node) (n : Node) (budget : ℕ) → 0 < length old
    → IfOk r (IsPlaced old n budget new) → OnErr r (new ≡ old) → 0 < length new
some_placed (Ok Covered) old new n budget some placed err =
    subst (λ (ns : List Node). 0 < length ns) (sym placed.1) some
some_placed (Ok Added) old new n budget some placed err =
    subst (λ (ns : List Node). 0 < length ns) (sym placed.2) (omega (arith, some, length-append old (n ∷ [])))
some_placed (Ok Full) old new n budget some placed err =
    subst (λ (ns : List Node). 0 < length ns) (sym placed.2) some
some_placed (Err e) old new n budget some placed err = subst (λ (ns : List Node). 0 < length ns) (sym err) some

-- by the face of the nodes
module _ {E : Type 0} (r : Result Placed E) (face g : Face) (before after : Held) (seen : List Node) (n : Node)
    (budget : ℕ) (same : face ≡ g) (view : nodes_of face before ≡ seen) where
  seen_as : nodes_of g before ≡ seen
  seen_as = ap (λ (f : Face). nodes_of f before) (sym same) ∙ view

  pub placed_is : IfOk r (IsPlaced (nodes_of g before) n budget (nodes_of g after))
      → IfOk r (IsPlaced seen n budget (nodes_of face after))
  placed_is placed =
      subst (λ (f : Face). IfOk r (IsPlaced seen n budget (nodes_of f after))) (sym same)
      (subst (λ (ns : List Node). IfOk r (IsPlaced ns n budget (nodes_of g after))) seen_as placed)

  pub err_is : OnErr r (nodes_of g after ≡ nodes_of g before) → OnErr r (nodes_of face after ≡ seen)
  err_is err =
      subst (λ (f : Face). OnErr r (nodes_of f after ≡ seen)) (sym same)
      (subst (λ (ns : List Node). OnErr r (nodes_of g after ≡ ns)) seen_as err)

  pub some_stays : 0 < length before.nodes → IfOk r (IsPlaced (nodes_of g before) n budget (nodes_of g after))
      → OnErr r (nodes_of g after ≡ nodes_of g before) → 0 < length after.nodes
  some_stays some placed err =
      let old = nodes_long g before in
      let new = nodes_long g after in
      let more = some_placed r (nodes_of g before) (nodes_of g after) n budget (omega (arith, some, old)) placed err in
      omega (arith, more, new)

-- what holds in any case holds after an error
pub any_err : {X E : Type 0} (r : Result X E) (P : Type 0) → P → OnErr r P
any_err (Ok x) P p = tt
any_err (Err e) P p = p
