-- The walk of a forest: it places roots that are there, each root that is reached, and the roots of a canonical forest
-- in the order of their numbers.
use Rattle.std.proofs.Common.{◌≡◌, inl, inr, ℕ, zero, suc, ◌<◌, length, List, [], ◌∷◌, map, refl, sym, ap, ap₂, subst}
use Rattle.std.proofs.Common.{◌∙◌, slice_get, Some}
use Rattle.std.proofs.lemmas.Option.{slice_get_within}
use Rattle.fore_base.specs.Lists.{IsIn, Every, Paired}
use Rattle.fore_base.proofs.ListLemmas.{in_every}
use Rattle.ta_core.specs.Auto.{Automaton}
use Rattle.ta_core.specs.declared.auto.Rule.{Rule}
use Rattle.ta_core.specs.declared.symbol.Symbol.{Symbol}
use Rattle.ta_core.specs.declared.symbol.Symbol.TheVariants.{Null as NullSymbol, Uninit as UninitSymbol}
use Rattle.ta_core.specs.declared.symbol.Symbol.TheVariants.{Dangling as DanglingSymbol, Ref, Cell as CellSymbol}
use Rattle.ta_core.specs.declared.tree.Tree.{Tree}
use Rattle.fa_core.specs.Canonical.{LeadsBack, RefersTo, Walks, GoesOn, IsCanonical, provides, refs_at, var_roots}
use Rattle.fa_core.specs.Cells.{roots_in}
use Rattle.fa_core.specs.Filled.{Choice, IsSound}
use Rattle.fa_core.specs.Placed.{placed_leaf, placed_symbol, placed_rule, placed_auto}
use Rattle.fa_core.specs.References.{AllBelow, tree_refs}
use Rattle.fa_core.specs.Ways.{ways, roots_met}
use Rattle.fa_core.specs.declared.faces.Face.{Face}
use Rattle.fa_core.specs.declared.forest.Forest.{Forest}
use Rattle.fa_core.specs.declared.forest.Target.{Target}
use Rattle.fa_core.specs.declared.forest.Target.TheVariants.{Null, Uninit, Dangling, At}
use Rattle.fa_core.specs.declared.signature.Signature.{Signature}
use Rattle.fa_core.proofs.Counts.{in_or_out}
use Rattle.fa_back.specs.Reached.{RootReached, by_var, by_tree, by_way, IsSignedBy}
use Rattle.fa_merge.specs.Reached.{AreAllReached}
use Rattle.fa_merge.specs.Reordered.{counted, IsOrderOf, place_of, renumber, reordered}
use Rattle.fa_sound.specs.Components.{component_at}
use Rattle.fa_back.proofs.ByMarks.{in_var_roots, var_roots_in}
use Rattle.fa_back.proofs.RootMarks.{in_once, once_in, way_led, reach_in_mark, reach_refers}
use Rattle.fa_back.proofs.Dressable.{some_choice}
use Rattle.fa_merge.specs.Signed.{IsSignatureOf}
use Rattle.fa_merge.proofs.LeaksDecided.{signed_choice}
use Rattle.fa_merge.proofs.Named.{choice_long, refers_below, var_below}
use Rattle.fa_merge.proofs.OtherOrders.{counted_later}
use Rattle.fa_order.specs.Placing.{IsWalkOrder, PlacingOn}
use Rattle.fa_order.specs.inner.Backs.{AreLedWithin, GivesBy, LeadsBy, refs_of}
use Rattle.fa_order.specs.inner.Stacks.{nth_refs}
use Rattle.fa_order.proofs.BackDecided.{leads_decided}
use Rattle.fa_order.proofs.GivenOnce.{given_once}
use Rattle.fa_order.proofs.Places.{place_counted}
use Rattle.fa_order.proofs.RefsAt.{refs_got, refs_every}
use Rattle.fa_order.proofs.SameMarks.{signature_roots}
use Rattle.fa_order.proofs.SignedBacks.{by_gives, by_leads, gives_by, leads_by, led_within}
use Rattle.fa_order.proofs.Visits.{IsBackGiving, same_placing, todo_placed, placed_closed, none_left, one_order}
use Rattle.fa_order.proofs.Visits.{walk_is_order}
use Rattle.fa_order.proofs.WalkBack.{walks_placed, placed_walks}
use Rattle.fa_order.proofs.WalkedOn.{TreesOn}

refers_at : (ts : List Tree) (i r : ℕ) (t : Tree) → slice_get ts i ≡ Some t → RefersTo t r → IsIn r (refs_at ts i)
refers_at ts i r t e h = subst (λ (ks : List ℕ). IsIn r ks) (sym (refs_got ts i t e)) (in_once r (tree_refs t) h)

-- The walk by signatures is that of the trees.

refs_listed : (face : Face) (ts : List Tree) (ss : List Signature) → Paired (IsSignedBy face.boxes) ts ss → (r : ℕ)
    → nth_refs (refs_of ss) r ≡ refs_at ts r
refs_listed face [] [] h r = refl
refs_listed face [] (s ∷ ss) h r = absurd h
refs_listed face (t ∷ ts) [] h r = absurd h
refs_listed face (t ∷ ts) (s ∷ ss) h zero = sym (ap roots_in h.0) ∙ signature_roots face.boxes t
refs_listed face (t ∷ ts) (s ∷ ss) h (suc r) = refs_listed face ts ss h.1 r

pub refs_long : (ss : List Signature) → length (refs_of ss) ≡ length ss
refs_long [] = refl
refs_long (s ∷ ss) = ap (λ (n : ℕ). suc n) (refs_long ss)

-- what holds of the references of each root holds of each list
pub every_listed : (P : List ℕ → Type 0) (rss : List (List ℕ)) → ((r : ℕ) → P (nth_refs rss r)) → Every P rss
every_listed P [] h = tt
every_listed P (rs ∷ rss) h = (h 0, every_listed P rss (λ r. h (suc r)))

module _ (face : Face) (F : Forest) (ss : List Signature) (signed : Paired (IsSignatureOf face.boxes) F.autos ss) where
  module _ (ts : List Tree) (c : Choice F.autos ts) where
    trees : Paired (IsSignedBy face.boxes) ts ss
    trees = signed_choice face.boxes F.autos ss ts signed c

    walk_here : (order : List ℕ) → PlacingOn (nth_refs (refs_of ss)) (LeadsBy ss) (GivesBy ss) (var_roots F.vars) []
        order
        → TreesOn face.boxes ts (var_roots F.vars) [] order
    walk_here order w =
        same_placing (nth_refs (refs_of ss)) (refs_at ts) (refs_listed face ts ss trees) (LeadsBy ss)
        (LeadsBack face.boxes ts) (GivesBy ss) (provides face.boxes ts) (by_leads face.boxes ts ss trees)
        (leads_by face.boxes ts ss trees) (by_gives face.boxes ts ss trees) (gives_by face.boxes ts ss trees) w

  pub is_walk : (order : List ℕ)
      → PlacingOn (nth_refs (refs_of ss)) (LeadsBy ss) (GivesBy ss) (var_roots F.vars) [] order
      → IsWalkOrder face F order
  is_walk order w ts c = walk_here ts c order w

module _ (face : Face) (F : Forest) (sound : IsSound face F) where
  abbrev size : ℕ
  size = length F.autos

  pub vars_below : AllBelow size (var_roots F.vars)
  vars_below =
      let c = some_choice F.autos sound.full in
      in_every (λ k. k < size) (var_roots F.vars)
      (λ r i. var_below face F sound.well_formed.filled c.0 c.1 r (var_roots_in F.vars r i))

  pub refs_below : (ts : List Tree) → Choice F.autos ts → (r : ℕ) → AllBelow size (refs_at ts r)
  refs_below ts c r = refs_every (λ k. k < size) ts r
      (λ t e. in_every (λ k. k < size) (roots_met (ways t))
      (λ k i. refers_below face F sound.well_formed.filled ts c r k t e (once_in k (tree_refs t) i)))

  module _ (ss : List Signature) (signed : Paired (IsSignatureOf face.boxes) F.autos ss) where
    pub all_refs_below : Every (AllBelow size) (refs_of ss)
    all_refs_below =
        let c = some_choice F.autos sound.full in
        every_listed (AllBelow size) (refs_of ss)
        (λ r. subst (AllBelow size) (sym (refs_listed face c.0 ss (trees face F ss signed c.0 c.1) r))
        (refs_below c.0 c.1 r))

    pub all_led_within : AreLedWithin ss (refs_of ss)
    all_led_within i j r h =
        let c = some_choice F.autos sound.full in
        let p = trees face F ss signed c.0 c.1 in
        elim (led_within face.boxes c.0 ss p i j r h) [
          | inl e ↦ inl e
          | inr k ↦ inr (subst (λ (z : List ℕ). IsIn r z) (sym (refs_listed face c.0 ss p j)) k)
        ]

  -- a way back leads to a root that is there
  pub leads_below : (ts : List Tree) → Choice F.autos ts → (i j r : ℕ) → LeadsBack face.boxes ts i j r → r < size
  leads_below ts c i j r (t, e, (w, h, q, z)) = elim z [
    | inl l ↦ subst (λ (n : ℕ). n < size) (sym l.0)
        (subst (λ (n : ℕ). j < n) (choice_long F.autos ts c) (slice_get_within ts j t e))
    | inr l ↦ refers_below face F sound.well_formed.filled ts c j r t e (reach_refers face.boxes t w.root r
        (reach_in_mark face.boxes t w.root r (way_led face.boxes t w.root r w h refl l)))
  ]

  -- each root that is reached is placed, where each way back gives a field
  reached_placed : (ts : List Tree) → IsBackGiving (LeadsBack face.boxes ts) (provides face.boxes ts)
      → (order : List ℕ) → TreesOn face.boxes ts (var_roots F.vars) [] order → (r : ℕ)
      → RootReached face.boxes F.vars ts r → IsIn r order
  reached_placed ts gives order w r (by_var i) =
      todo_placed (refs_at ts) (LeadsBack face.boxes ts) (provides face.boxes ts) w r (in_var_roots F.vars r i)
  reached_placed ts gives order w r (by_tree i t h e refers) =
      elim (placed_closed (refs_at ts) (LeadsBack face.boxes ts) (provides face.boxes ts) w i
      (reached_placed ts gives order w i h)) [
        | inl z ↦ absurd z
        | inr all ↦ all r (refers_at ts i r t e refers)
      ]
  reached_placed ts gives order w r (by_way i j h l) = elim (in_or_out r order) [
    | inl k ↦ k
    | inr o ↦ absurd (none_left (refs_at ts) (LeadsBack face.boxes ts) (provides face.boxes ts) gives w i j
        (reached_placed ts gives order w i h) (r, o, l))
  ]

  pub is_order : ((ts : List Tree) → Choice F.autos ts
      → IsBackGiving (LeadsBack face.boxes ts) (provides face.boxes ts))
      → AreAllReached face F → (order : List ℕ) → IsWalkOrder face F order → IsOrderOf F order
  is_order gives reached order walk =
      let c = some_choice F.autos sound.full in
      walk_is_order (refs_at c.0) (LeadsBack face.boxes c.0) (provides face.boxes c.0)
      (λ i j r. leads_decided face.boxes i j r c.0) (var_roots F.vars) size order (walk c.0 c.1) vars_below
      (refs_below c.0 c.1) (leads_below c.0 c.1)
      (λ r l. reached_placed c.0 (gives c.0 c.1) order (walk c.0 c.1) r (reached r l c.0 c.1))

  -- the roots stand in the order of the walk exactly where the walk places them in the order of their numbers
  pub walks_in_order : (order : List ℕ) → IsWalkOrder face F order → order ≡ counted 0 size → (ts : List Tree)
      → Choice F.autos ts → Walks (refs_at ts) (GoesOn face.boxes ts) (var_roots F.vars) 0 (length ts)
  walks_in_order order walk e ts c =
      placed_walks face.boxes ts (var_roots F.vars) (length ts)
      (subst (λ (z : List ℕ). TreesOn face.boxes ts (var_roots F.vars) [] z)
      (e ∙ ap (counted 0) (sym (choice_long F.autos ts c))) (walk ts c))

  pub in_order_walks : (order : List ℕ) → IsWalkOrder face F order → IsCanonical face F → order ≡ counted 0 size
  in_order_walks order walk can =
      let c = some_choice F.autos sound.full in
      let long = choice_long F.autos c.0 c.1 in
      one_order (refs_at c.0) (LeadsBack face.boxes c.0) (provides face.boxes c.0)
      (λ i j r. leads_decided face.boxes i j r c.0)
      (λ i j k f. given_once face F sound.well_formed.filled c.0 c.1 i j k f) (walk c.0 c.1)
      (walks_placed face.boxes c.0
      (λ i j x l. subst (λ (n : ℕ). x < n) (sym long) (leads_below c.0 c.1 i j x l)) (can.order c.0 c.1))
      ∙ ap (counted 0) long

-- Roots that keep their numbers.

module _ (f : ℕ → ℕ) (same : (k : ℕ) → f k ≡ k) where
  symbol_same : (y : Symbol) → placed_symbol (renumber f) y ≡ y
  symbol_same NullSymbol = refl
  symbol_same UninitSymbol = refl
  symbol_same DanglingSymbol = refl
  symbol_same (Ref k) = ap Ref (same k)
  symbol_same (CellSymbol s ds ss) = refl

  rules_same : (rules : List Rule) → map (placed_rule (renumber f)) rules ≡ rules
  rules_same [] = refl
  rules_same (x ∷ rules) =
      ap₂ (λ (y : Symbol) (z : List Rule). record { state = x.state; symbol = y; children = x.children } ∷ z)
      (symbol_same x.symbol) (rules_same rules)

  auto_same : (a : Automaton) → placed_auto (renumber f) a ≡ a
  auto_same a = ap (λ (z : List Rule). record { states = a.states; roots = a.roots; rules = z }) (rules_same a.rules)

  autos_same : (autos : List Automaton)
      → map (λ k. placed_auto (renumber f) (component_at autos k)) (counted 0 (length autos)) ≡ autos
  autos_same [] = refl
  autos_same (a ∷ autos) =
      ap₂ (λ (x : Automaton) (z : List Automaton). x ∷ z) (auto_same a)
      (counted_later (λ k. placed_auto (renumber f) (component_at (a ∷ autos) k)) 0 (length autos) ∙ autos_same autos)

  vars_same : (vs : List Target) → map (placed_leaf (renumber f)) vs ≡ vs
  vars_same [] = refl
  vars_same (Null ∷ vs) = ap (λ (z : List Target). Null ∷ z) (vars_same vs)
  vars_same (Uninit ∷ vs) = ap (λ (z : List Target). Uninit ∷ z) (vars_same vs)
  vars_same (Dangling ∷ vs) = ap (λ (z : List Target). Dangling ∷ z) (vars_same vs)
  vars_same (At k ∷ vs) = ap₂ (λ (y : ℕ) (z : List Target). At y ∷ z) (same k) (vars_same vs)

-- the forest whose roots stand in the order of their numbers is the forest itself
pub reordered_same : (F : Forest) → reordered (counted 0 (length F.autos)) F ≡ F
reordered_same F =
    let f = place_of (counted 0 (length F.autos)) in
    ap₂ (λ (x : List Automaton) (y : List Target). record { autos = x; vars = y; data_vars = F.data_vars })
    (autos_same f (place_counted (length F.autos)) F.autos) (vars_same f (place_counted (length F.autos)) F.vars)
