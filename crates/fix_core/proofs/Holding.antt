-- What is held: how nodes read in a pool that grows, one node more, and which nodes cover a forest.
use Rattle.std.proofs.Common.{◌≡◌, ◌⊎◌, ◌↔◌, ℕ, zero, suc, ◌+◌, ◌<◌, ◌^◌, Bool, true, false, List, [], ◌∷◌, ◌++◌}
use Rattle.std.proofs.Common.{map, length, take, get_or, slice_get, Option, Some, None, MatchOption}
use Rattle.std.proofs.Common.{Result, Ok, Err, IfOk, OnOk, OnErr}
use Rattle.std.proofs.Common.{refl, sym, ap, ◌∙◌, subst, arith, inl, inr}
use Rattle.std.specs.Option.{IfSome}
use Rattle.std.proofs.lemmas.List.{append-nil, append_assoc, length-append, length-map, map-append, take_more}
use Rattle.std.proofs.lemmas.Option.{none-some, slice_get_within}
use Rattle.fore_base.specs.Lists.{IsIn, Every, Paired}
use Rattle.fore_base.proofs.ListLemmas.{every_in, every_push, in_every, in_from_place, paired_long, paired_push}
use Rattle.fore_base.proofs.ListLemmas.{same_item}
use Rattle.ta_core.specs.Auto.{Automaton}
use Rattle.ta_core.specs.Language.{IsWithin}
use Rattle.fa_core.specs.Covering.{Covers}
use Rattle.fa_core.specs.declared.faces.Face.{Face}
use Rattle.fa_core.specs.declared.forest.Forest.{Forest}
use Rattle.fa_pool.specs.Looks.{with_looks}
use Rattle.fa_pool.specs.Pools.{ReadsAs, IsKeptIn, IsGrown}
use Rattle.fa_pool.specs.declared.kept.Kept.{Kept}
use Rattle.fa_kept.specs.Memos.{Answer, Agrees}
use Rattle.fa_kept.proofs.Growing.{agrees_when_grown}
use Rattle.fa_groups.specs.Grouped.{Key, Grouped, numbers_of, AreSame}
use Rattle.fa_groups.proofs.Grouping.{in_joined, none_grouped, same_then}
use Rattle.fix_core.specs.Covered.{CoversOrNot}
use Rattle.fix_core.specs.Held.{key_at, node_of, nodes_of, IsHeldIn, HasKey, AreGrouped, IsHeld}
use Rattle.fix_core.specs.Reads.{auto_at, read, read_if}
use Rattle.fix_core.specs.States.{IsSoundState}
use Rattle.fix_core.specs.inner.Holding.{HasGrown, IsKeptAs, IsHeldAs, IsPushed, IsForestOf, IsCoveredBy, StaysHeld}
use Rattle.fix_core.specs.inner.Holding.{IsHeldWith}
use Rattle.fix_core.specs.declared.held.Held.{Held}
use Rattle.fix_core.specs.declared.held.HeldNode.{HeldNode}
use Rattle.fix_core.specs.declared.nodes.Node.{Node}
use Rattle.fix_core.proofs.Lists.{get_last, get_more, get_push, some_same}
use Rattle.fix_core.proofs.Reading.{is_read, kept_grown, read_grown}

-- a node by its number

pub at_map : {X Y : Type 0} (f : X → Y) (xs : List X) (i : ℕ) (x : X) → slice_get xs i ≡ Some x
    → slice_get (map f xs) i ≡ Some (f x)
at_map f [] i x h = absurd (none-some x h)
at_map f (y ∷ ys) zero x h = ap (λ z. Some (f z)) (some_same y x h)
at_map f (y ∷ ys) (suc i) x h = at_map f ys i x h

pub map_at : {X Y : Type 0} (f : X → Y) (xs : List X) (i : ℕ) (y : Y) → slice_get (map f xs) i ≡ Some y
    → (x : X) × (slice_get xs i ≡ Some x) × (f x ≡ y)
map_at f [] i y h = absurd (none-some y h)
map_at f (x ∷ xs) zero y h = (x, refl, some_same (f x) y h)
map_at f (x ∷ xs) (suc i) y h = map_at f xs i y h

-- a pool that grows

-- the node with these forests
abbrev pub with_forests : Face → HeldNode → Forest → Option Forest → Node
with_forests face n F M =
    record { head = n.head; state = record { face = face; forest = F; middle = M; folds = n.folds } }

module _ (pool more : List Automaton) where
  kept_longer : (o : Option Kept) → IfSome o (IsKeptIn pool) → IfSome o (IsKeptIn (pool ++ more))
  kept_longer None h = tt
  kept_longer (Some k) h = kept_grown pool more (pool ++ more) k refl h

  read_longer : (o : Option Kept) → IfSome o (IsKeptIn pool) → read_if (pool ++ more) o ≡ read_if pool o
  read_longer None h = refl
  read_longer (Some k) h = ap (λ (F : Forest). Some F) (read_grown pool more (pool ++ more) k refl h)

  held_longer : (n : HeldNode) → IsHeldIn pool n → IsHeldIn (pool ++ more) n
  held_longer n h = record {
    forest = kept_grown pool more (pool ++ more) n.forest refl h.forest;
    middle = kept_longer n.middle h.middle;
  }

  node_longer : (face : Face) (n : HeldNode) → IsHeldIn pool n → node_of face (pool ++ more) n ≡ node_of face pool n
  node_longer face n h =
      ap (λ (F : Forest). with_forests face n F (read_if (pool ++ more) n.middle))
      (read_grown pool more (pool ++ more) n.forest refl h.forest)
      ∙ ap (with_forests face n (read pool n.forest)) (read_longer n.middle h.middle)

  every_longer : (ns : List HeldNode) → Every (IsHeldIn pool) ns → Every (IsHeldIn (pool ++ more)) ns
  every_longer [] h = tt
  every_longer (n ∷ ns) h = (held_longer n h.0, every_longer ns h.1)

  nodes_longer : (face : Face) (ns : List HeldNode) → Every (IsHeldIn pool) ns
      → map (node_of face (pool ++ more)) ns ≡ map (node_of face pool) ns
  nodes_longer face [] h = refl
  nodes_longer face (n ∷ ns) h =
      ap (λ (m : Node). m ∷ map (node_of face (pool ++ more)) ns) (node_longer face n h.0)
      ∙ ap (λ (ms : List Node). node_of face pool n ∷ ms) (nodes_longer face ns h.1)

module _ (face : Face) (before after : Held) (grown : HasGrown before after) (held : IsHeld face before) where
  pub nodes_still : nodes_of face after ≡ nodes_of face before
  nodes_still =
      ap (λ (ns : List HeldNode). map (node_of face after.pool) ns) grown.nodes
      ∙ ap (λ (p : List Automaton). map (node_of face p) before.nodes) grown.pool
      ∙ nodes_longer before.pool grown.more face before.nodes held.kept

  grouped_still : AreGrouped after.nodes after.groups
  grouped_still key number = (
    (λ i. subst (λ (ns : List HeldNode). HasKey ns key number) (sym grown.nodes)
        ((held.grouped key number).0 (subst (IsIn number) (grown.groups key) i))),
    (λ h. subst (IsIn number) (sym (grown.groups key))
        ((held.grouped key number).1 (subst (λ (ns : List HeldNode). HasKey ns key number) grown.nodes h))),
  )

  -- what is held keeps what it keeps
  pub held_still : IsHeld face after
  held_still = record {
    few = subst (λ (ns : List HeldNode). length ns < 2 ^ 32) (sym grown.nodes) held.few;
    kept =
        subst (λ (ns : List HeldNode). Every (IsHeldIn after.pool) ns) (sym grown.nodes)
        (subst (λ (p : List Automaton). Every (IsHeldIn p) before.nodes) (sym grown.pool)
        (every_longer before.pool grown.more before.nodes held.kept));
    sound = subst (Every (λ (n : Node). IsSoundState n.state)) (sym nodes_still) held.sound;
    agrees = grown.memo held.agrees;
    grouped = λ key number. grouped_still key number;
  }

  pub stays_held : StaysHeld face before after
  stays_held = (held_still, nodes_still)

-- a forest that is kept stays kept
pub kept_still : (before after : Held) (F : Forest) (kept : Kept) → HasGrown before after
    → IsKeptAs before.pool F kept → IsKeptAs after.pool F kept
kept_still before after F kept grown is = (
  kept_grown before.pool grown.more after.pool kept grown.pool is.0,
  read_grown before.pool grown.more after.pool kept grown.pool is.0 ∙ is.1,
)

-- no nodes
pub nothing_held : (face : Face) (held : Held) → held.nodes ≡ [] → held.memo ≡ [] → held.groups.entries ≡ []
    → IsHeld face held
nothing_held face held nodes memo groups = record {
  few = subst (λ (ns : List HeldNode). length ns < 2 ^ 32) (sym nodes) (omega arith);
  kept = subst (λ (ns : List HeldNode). Every (IsHeldIn held.pool) ns) (sym nodes) tt;
  sound =
      subst (λ (ns : List HeldNode). Every (λ (n : Node). IsSoundState n.state) (map (node_of face held.pool) ns))
      (sym nodes) tt;
  agrees = subst (λ (z : List Answer). Agrees z held.pool) (sym memo) tt;
  grouped = λ key number. (
    (λ i. absurd (subst (IsIn number) (none_grouped held.groups key groups) i)),
    (λ h. absurd (none-some h.node (subst (λ (ns : List HeldNode). slice_get ns number ≡ Some h.node) nodes h.is))),
  );
}

-- steps, one after the other

pub grows_then : (before between after : Held) → HasGrown before between → HasGrown between after
    → HasGrown before after
grows_then before between after p q = record {
  nodes = q.nodes ∙ p.nodes;
  more = p.more ++ q.more;
  pool =
      q.pool ∙ ap (λ (z : List Automaton). z ++ q.more) p.pool ∙ append_assoc before.pool p.more q.more;
  memo = λ agrees. q.memo (p.memo agrees);
  groups = same_then before.groups between.groups after.groups p.groups q.groups;
}

-- a forest was kept
pub pool_grows : {X E : Type 0} (r : Result X E) (held : Held) (pool autos : List Automaton)
    → OnOk r (IsGrown held.pool autos pool) → OnErr r (pool ≡ held.pool) → HasGrown held (record held { pool = pool })
pool_grows (Ok x) held pool autos ok err = record {
  nodes = refl;
  more = ok.0;
  pool = ok.1;
  memo = λ agrees. agrees_when_grown held.memo held.pool autos pool ok agrees;
  groups = λ key. refl;
}
pool_grows (Err e) held pool autos ok err = record {
  nodes = refl;
  more = [];
  pool = err ∙ sym (append-nil held.pool);
  memo = λ agrees. subst (Agrees held.memo) (sym err) agrees;
  groups = λ key. refl;
}

pub kept_as : {E : Type 0} (r : Result Kept E) (pool : List Automaton) (F : Forest)
    → IfOk r (λ k. ReadsAs pool k F) → IfOk r (IsKeptIn pool) → IfOk r (IsKeptAs pool F)
kept_as (Ok k) pool F reads low = (low, sym (is_read pool k F reads))
kept_as (Err e) pool F reads low = tt

-- it was asked what covers
pub memo_grows : (held : Held) (memo : List Answer) → Agrees memo held.pool
    → HasGrown held (record held { memo = memo })
memo_grows held memo agrees = record {
  nodes = refl;
  more = [];
  pool = sym (append-nil held.pool);
  memo = λ old. agrees;
  groups = λ key. refl;
}

-- the last one is taken off again

abbrev first_of : {X : Type 0} → List X → Option X
first_of [] = None
first_of (x ∷ xs) = Some x

abbrev rest_of : {X : Type 0} → List X → List X
rest_of [] = []
rest_of (x ∷ xs) = xs

last_off : {X : Type 0} (xs ys : List X) (x y : X) → xs ++ x ∷ [] ≡ ys ++ y ∷ [] → ys ≡ xs
last_off [] [] x y e = refl
last_off [] (b ∷ ys) x y e =
    absurd (omega (arith, ap (λ zs. length zs) e, length-append ys (y ∷ [])))
last_off (a ∷ xs) [] x y e =
    absurd (omega (arith, ap (λ zs. length zs) e, length-append xs (x ∷ [])))
last_off (a ∷ xs) (b ∷ ys) x y e =
    ap (λ z. z ∷ ys) (some_same b a (sym (ap first_of e)))
    ∙ ap (λ zs. a ∷ zs) (last_off xs ys x y (ap rest_of e))

pub push_undone : (held : Held) (node : HeldNode) (pushed popped : List HeldNode) (groups : Grouped)
    (last : Option HeldNode) → pushed ≡ held.nodes ++ node ∷ []
    → MatchOption last ((pushed ≡ []) × (popped ≡ [])) (λ l. pushed ≡ popped ++ l ∷ []) → AreSame held.groups groups
    → HasGrown held (record { nodes = popped; pool = held.pool; memo = held.memo; groups = groups })
push_undone held node pushed popped groups None is e same = absurd
    (omega (arith, ap (λ (ns : List HeldNode). length ns) (sym is ∙ e.0), length-append held.nodes (node ∷ [])))
push_undone held node pushed popped groups (Some l) is e same = record {
  nodes = last_off held.nodes popped node l (sym is ∙ e);
  more = [];
  pool = sym (append-nil held.pool);
  memo = λ agrees. agrees;
  groups = same;
}

-- one node more

module _ (face : Face) (before after : Held) (node : HeldNode) (n : Node) (held : IsHeld face before)
    (pushed : IsPushed before node after) (are : IsHeldAs face before.pool n node) (sound : IsSoundState n.state)
    (few : length before.nodes + 1 < 2 ^ 32) where
  nodes_with : nodes_of face after ≡ nodes_of face before ++ n ∷ []
  nodes_with =
      ap (λ (p : List Automaton). map (node_of face p) after.nodes) pushed.pool
      ∙ ap (λ (ns : List HeldNode). map (node_of face before.pool) ns) pushed.nodes
      ∙ map-append (node_of face before.pool) before.nodes (node ∷ [])
      ∙ ap (λ (m : Node). nodes_of face before ++ m ∷ []) are.1

  there_before : (key : Key) (number : ℕ) → HasKey before.nodes key number
      → HasKey (before.nodes ++ node ∷ []) key number
  there_before key number h = record {
    node = h.node;
    is = get_more before.nodes (node ∷ []) number h.node h.is;
    same_key = h.same_key;
  }

  last_there : (key : Key) (number : ℕ) → key ≡ key_at node.head.location node.forest
      → number ≡ length before.nodes → HasKey (before.nodes ++ node ∷ []) key number
  last_there key number at last = record {
    node = node;
    is =
        subst (λ (n : ℕ). slice_get (before.nodes ++ node ∷ []) n ≡ Some node) (sym last)
        (get_last before.nodes node);
    same_key = sym at;
  }

  joined_to : (key : Key) (number : ℕ) → IsIn number (numbers_of after.groups key)
      ↔ (IsIn number (numbers_of before.groups key)
      ⊎ ((key ≡ key_at node.head.location node.forest) × (number ≡ length before.nodes)))
  joined_to key number =
      in_joined before.groups after.groups (key_at node.head.location node.forest) (length before.nodes) pushed.groups
      key number

  grouped_to : (key : Key) (number : ℕ) → IsIn number (numbers_of after.groups key)
      → HasKey (before.nodes ++ node ∷ []) key number
  grouped_to key number i = elim ((joined_to key number).0 i) [
    | inl was ↦ there_before key number ((held.grouped key number).0 was)
    | inr own ↦ last_there key number own.0 own.1
  ]

  grouped_from : (key : Key) (number : ℕ) → HasKey (before.nodes ++ node ∷ []) key number
      → IsIn number (numbers_of after.groups key)
  grouped_from key number h = (joined_to key number).1
      (elim (get_push before.nodes node number h.node h.is) [
        | inl was ↦ inl ((held.grouped key number).1
            (record { node = h.node; is = was; same_key = h.same_key }))
        | inr own ↦ inr (
          sym h.same_key ∙ ap (λ (m : HeldNode). key_at m.head.location m.forest) own.1,
          own.0,
        )
      ])

  grouped_with : AreGrouped after.nodes after.groups
  grouped_with = subst (λ (ns : List HeldNode). AreGrouped ns after.groups) (sym pushed.nodes)
      (λ key number. (grouped_to key number, grouped_from key number))

  pub held_with : IsHeldWith face before n after
  held_with = (
    record {
      few =
          subst (λ (ns : List HeldNode). length ns < 2 ^ 32) (sym pushed.nodes)
          (omega (arith, few, length-append before.nodes (node ∷ [])));
      kept =
          subst (λ (ns : List HeldNode). Every (IsHeldIn after.pool) ns) (sym pushed.nodes)
          (subst (λ (p : List Automaton). Every (IsHeldIn p) (before.nodes ++ node ∷ [])) (sym pushed.pool)
          (every_push (IsHeldIn before.pool) before.nodes node held.kept are.0));
      sound =
          subst (Every (λ (m : Node). IsSoundState m.state)) (sym nodes_with)
          (every_push (λ (m : Node). IsSoundState m.state) (nodes_of face before) n held.sound sound);
      agrees =
          subst (λ (z : List Answer). Agrees z after.pool) (sym pushed.memo)
          (subst (Agrees before.memo) (sym pushed.pool) held.agrees);
      grouped = grouped_with;
    },
    nodes_with,
  )

-- covers

-- what covers a forest at its location has its key
same_key : (pool : List Automaton) (there location : ℕ) (wide narrow : Kept) → there ≡ location
    → Covers (read pool wide) (read pool narrow) → key_at there wide ≡ key_at location narrow
same_key pool there location wide narrow at c =
    let long : length narrow.parts ≡ length wide.parts =
    sym (length-map narrow.parts (auto_at pool))
    ∙ paired_long IsWithin (map (auto_at pool) narrow.parts) (map (auto_at pool) wide.parts) c.within
    ∙ length-map wide.parts (auto_at pool) in
    ap (λ l. (l, with_looks 0 wide.vars wide.data_vars (length wide.parts))) at
    ∙ ap (λ vs. (location, with_looks 0 vs wide.data_vars (length wide.parts))) (sym c.vars)
    ∙ ap (λ ds. (location, with_looks 0 narrow.vars ds (length wide.parts))) (sym c.data_vars)
    ∙ ap (λ k. (location, with_looks 0 narrow.vars narrow.data_vars k)) (sym long)

-- one number more, with the forest of its node
pub one_more_forest : (nodes : List HeldNode) (ns : List ℕ) (i d : ℕ) (forests : List Kept) (node : HeldNode)
    (kept : Kept) → i < length ns → Paired (IsForestOf nodes) (take i ns) forests
    → slice_get nodes (get_or ns i d) ≡ Some node → kept ≡ node.forest
    → Paired (IsForestOf nodes) (take (i + 1) ns) (forests ++ kept ∷ [])
one_more_forest nodes ns i d forests node kept low h at same =
    subst (λ ms. Paired (IsForestOf nodes) ms (forests ++ kept ∷ [])) (sym (take_more ns i d low))
    (paired_push (IsForestOf nodes) (take i ns) forests (get_or ns i d) kept h (node, at, same))

-- what is in one of two lists that are paired has its like in the other
right_of : {X Y : Type 0} (R : X → Y → Type 0) (xs : List X) (ys : List Y) (x : X) → Paired R xs ys → IsIn x xs
    → (y : Y) × IsIn y ys × R x y
right_of R [] ys x h i = absurd i
right_of R (a ∷ xs) [] x h i = absurd h
right_of R (a ∷ xs) (b ∷ ys) x h (inl e) = (b, inl refl, subst (λ z. R z b) (sym e) h.0)
right_of R (a ∷ xs) (b ∷ ys) x h (inr i) = let r = right_of R xs ys x h.1 i in (r.0, inr r.1, r.2)

left_of : {X Y : Type 0} (R : X → Y → Type 0) (xs : List X) (ys : List Y) (y : Y) → Paired R xs ys → IsIn y ys
    → (x : X) × IsIn x xs × R x y
left_of R xs [] y h i = absurd i
left_of R [] (b ∷ ys) y h i = absurd h
left_of R (a ∷ xs) (b ∷ ys) y h (inl e) = (a, inl refl, subst (R a) (sym e) h.0)
left_of R (a ∷ xs) (b ∷ ys) y h (inr i) = let r = left_of R xs ys y h.1 i in (r.0, inr r.1, r.2)

module _ (face : Face) (held : Held) (is : IsHeld face held) (location : ℕ) (narrow : Kept) where
  abbrev key : Key
  key = key_at location narrow

  -- the group of the key has numbers of nodes
  pub numbers_low : Every (λ n. n < length held.nodes) (numbers_of held.groups key)
  numbers_low =
      in_every (λ n. n < length held.nodes) (numbers_of held.groups key)
      (λ n i. let own = (is.grouped key n).0 i in slice_get_within held.nodes n own.node own.is)

  module _ (alike : List Kept) (are : Paired (IsForestOf held.nodes) (numbers_of held.groups key) alike) where
    number_in : (wide : Kept) → IsIn wide alike → (n : ℕ) × IsIn n (numbers_of held.groups key)
        × IsForestOf held.nodes n wide
    number_in wide i = left_of (IsForestOf held.nodes) (numbers_of held.groups key) alike wide are i

    -- the forests of these nodes are kept in the pool
    pub alike_kept : Every (IsKeptIn held.pool) alike
    alike_kept =
        in_every (IsKeptIn held.pool) alike
        (λ wide i.
        let found = number_in wide i in
        let there = in_from_place held.nodes found.0 found.2.0 found.2.1 in
        subst (IsKeptIn held.pool) (sym found.2.2)
        (every_in (IsHeldIn held.pool) held.nodes found.2.0 is.kept there).forest)

    -- what they say, says what the nodes of the location say
    pub alike_say : (yes : Bool) → IsCoveredBy held.pool alike narrow yes
        → CoversOrNot (nodes_of face held) location (read held.pool narrow) yes
    alike_say true c =
        let found = number_in c.0 c.1 in
        let own = (is.grouped key found.0).0 found.1 in
        let same = found.2.2
        ∙ ap (λ (m : HeldNode). m.forest) (same_item held.nodes found.0 found.2.0 own.node found.2.1 own.is) in
        record {
          at = found.0;
          node = node_of face held.pool own.node;
          is = at_map (node_of face held.pool) held.nodes found.0 own.node own.is;
          there = ap (λ (k : Key). k.0) own.same_key;
          covers = subst (λ (k : Kept). Covers (read held.pool k) (read held.pool narrow)) same c.2;
        }
    alike_say false none = λ j m is_m there cov.
        let at = map_at (node_of face held.pool) held.nodes j m is_m in
        let c : Covers (read held.pool at.0.forest) (read held.pool narrow) =
        subst (λ (z : Node). Covers z.state.forest (read held.pool narrow)) (sym at.2) cov in
        let same = same_key held.pool at.0.head.location location at.0.forest narrow
        (subst (λ (z : Node). z.head.location ≡ location) (sym at.2) there) c in
        let found = right_of (IsForestOf held.nodes) (numbers_of held.groups key) alike j are
        ((is.grouped key j).1 (record { node = at.0; is = at.1; same_key = same })) in
        let own = found.2.2
        ∙ ap (λ (m : HeldNode). m.forest) (same_item held.nodes j found.2.0 at.0 found.2.1 at.1) in
        none found.0 found.1
        (subst (λ (k : Kept). Covers (read held.pool k) (read held.pool narrow)) (sym own) c)
