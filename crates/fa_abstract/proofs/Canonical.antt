-- The quotient of a canonical forest is canonical: each choice of its trees has the outlines of one of the forest.
use Rattle.std.proofs.Common.{◌≡◌, inl, ℕ, zero, suc, ◌<◌, ◌≤◌, List, [], ◌∷◌, map, Some, slice_get, refl, sym, ap, ap₂}
use Rattle.std.proofs.Common.{subst, ◌∙◌, arith}
use Rattle.std.proofs.lemmas.List.{length-map}
use Rattle.std.proofs.lemmas.Option.{none-some, same_Some}
use Rattle.fore_base.specs.Lists.{IsIn, Every, Paired}
use Rattle.fore_base.proofs.ListLemmas.{every_in, in_from_place, only_item, place_of, same_item}
use Rattle.ta_core.specs.Auto.{Automaton, IsRanked, IsRankedRule}
use Rattle.ta_core.specs.Language.{InLanguage, HasSameLanguage, IsTrim, IsWithin, run}
use Rattle.ta_core.proofs.Descending.{passing_run}
use Rattle.ta_core.specs.Renumbered.{renumbered}
use Rattle.ta_core.specs.Single.{HasOneTop}
use Rattle.ta_core.specs.declared.auto.Rule.{Rule}
use Rattle.ta_core.specs.declared.symbol.Symbol.{Symbol}
use Rattle.ta_core.specs.declared.tree.Tree.{Tree, out-Tree}
use Rattle.fa_core.specs.Canonical.{IsCanonical}
use Rattle.fa_core.specs.Filled.{Choice, IsTopped, TopsAre, HasSome}
use Rattle.fa_core.specs.Ways.{Way, ways, roots_met, mark, signature}
use Rattle.fa_core.specs.declared.faces.BoxFace.{BoxFace}
use Rattle.fa_core.specs.declared.faces.Face.{Face}
use Rattle.fa_core.specs.declared.forest.Forest.{Forest}
use Rattle.fa_core.specs.declared.signature.RefMark.{RefMark}
use Rattle.fa_order.specs.Outlines.{Stub, Outline, outline, stub, stub_by}
use Rattle.fa_order.proofs.Outlined.{outlined_canonical}
use Rattle.fa_height.specs.Quotients.{IsQuotient, Quotient}
use Rattle.fa_height.specs.Structs.{HasOneStruct}
use Rattle.fa_height.proofs.Images.{LooksLike, outlined}
use Rattle.fa_height.proofs.Sound.{quotient_sound}

-- Outlines.

-- the roots that a tree refers to are those of its signature
marked_roots : (bs : List BoxFace) (ws : List Way) (rs : List ℕ) → map (λ (m : RefMark). m.root) (map (mark bs ws) rs)
    ≡ rs
marked_roots bs ws [] = refl
marked_roots bs ws (r ∷ rs) = ap (λ (z : List ℕ). r ∷ z) (marked_roots bs ws rs)

stub_same : (bs : List BoxFace) (t u : Tree) → LooksLike bs t u → stub t ≡ stub u
stub_same bs t u h = ap₂ stub_by h.0
    (sym (marked_roots bs (ways t) (roots_met (ways t)))
    ∙ ap (λ (ms : List RefMark). map (λ (m : RefMark). m.root) ms) h.1 ∙ marked_roots bs (ways u) (roots_met (ways u)))

stubs_same : (bs : List BoxFace) (ts us : List Tree) → Paired (LooksLike bs) ts us → map stub ts ≡ map stub us
stubs_same bs [] [] h = refl
stubs_same bs [] (u ∷ us) h = absurd h
stubs_same bs (t ∷ ts) [] h = absurd h
stubs_same bs (t ∷ ts) (u ∷ us) h =
    ap₂ (λ (x : Stub) (xs : List Stub). x ∷ xs) (stub_same bs t u h.0) (stubs_same bs ts us h.1)

outline_same : (bs : List BoxFace) (t u : Tree) → LooksLike bs t u
    → Paired (LooksLike bs) (out-Tree t).children (out-Tree u).children → outline bs t ≡ outline bs u
outline_same bs t u h k =
    ap₂ (λ (y : Symbol) (ms : List RefMark). record { top = y; marks = ms; stubs = map stub (out-Tree t).children }) h.0
    h.1
    ∙ ap (λ (xs : List Stub). record { top = (out-Tree u).symbol; marks = signature bs u; stubs = xs })
    (stubs_same bs (out-Tree t).children (out-Tree u).children k)

-- One component.

-- a component with one top each of whose states takes part has a tree
one_tree : (a : Automaton) → IsRanked a → IsTrim a → HasOneTop a → HasSome a
one_tree a ranked trim h =
    let low : h.root < a.states = (subst (Every (λ q. q < a.states)) h.alone ranked.0).0 in
    let p = trim h.root low in
    (p.1, (p.0, p.2, passing_run a.rules p.3))

-- its trees have one struct at their tops, where one of them has a cell there
one_struct : (a : Automaton) → HasOneTop a → (s : ℕ) (t : Tree) → InLanguage a t → IsTopped s t → (u : Tree)
    → InLanguage a u → IsTopped s u
one_struct a h s t l k u m = (k.0, k.1, sym (top_symbol u m) ∙ top_symbol t l ∙ k.2)
  where
    top_symbol : (t : Tree) → InLanguage a t → h.rule.symbol ≡ (out-Tree t).symbol
    top_symbol t (q, i, run r j e y w) =
        let root : q ≡ h.root = only_item q h.root a.roots h.alone i in
        let p = place_of a.rules r j in
        let same : r ≡ h.rule = same_item a.rules h.place r h.rule
        (subst (λ (n : ℕ). slice_get a.rules n ≡ Some r) (h.only p.0 r p.1 (e ∙ root)) p.1) h.there in
        ap (λ (x : Rule). x.symbol) (sym same) ∙ y

mapped_at : {X Y : Type 0} (f : X → Y) (xs : List X) (i : ℕ) (y : Y) → slice_get (map f xs) i ≡ Some y → (x : X)
    × (slice_get xs i ≡ Some x) × (y ≡ f x)
mapped_at f [] i y e = absurd (none-some y e)
mapped_at f (x ∷ xs) zero y e = (x, refl, sym (same_Some (f x) y e))
mapped_at f (x ∷ xs) (suc i) y e = mapped_at f xs i y e

at_mapped : {X Y : Type 0} (f : X → Y) (xs : List X) (i : ℕ) (x : X) → slice_get xs i ≡ Some x → slice_get (map f xs) i
    ≡ Some (f x)
at_mapped f [] i x e = absurd (none-some x e)
at_mapped f (y ∷ xs) zero x e = ap (λ (z : _). Some (f z)) (same_Some y x e)
at_mapped f (y ∷ xs) (suc i) x e = at_mapped f xs i x e

module _ (bs : List BoxFace) (k : ℕ) (a b : Automaton) (ranked : IsRanked a) (h : IsQuotient bs k a b) where
  -- the one top stays one
  pub top_kept : HasOneTop a → HasOneTop b
  top_kept t = subst HasOneTop (sym h.images) (record {
    root = h.to t.root;
    alone = ap (map h.to) t.alone;
    place = t.place;
    rule = renumbered h.to t.rule;
    there = at_mapped (renumbered h.to) a.rules t.place t.rule t.there;
    top = ap h.to t.top;
    only = λ i r e s. (
        let o = mapped_at (renumbered h.to) a.rules i r e in
        let low : o.0.state < a.states =
        (every_in (IsRankedRule a.states) a.rules o.0 ranked.1 (in_from_place a.rules i o.0 o.1)).0 in
        let root : IsIn t.root a.roots = subst (IsIn t.root) (sym t.alone) (inl refl) in
        let same : t.root ≡ o.0.state = h.lone t.root o.0.state root low (sym s ∙ ap (λ (x : Rule). x.state) o.2) in
        t.only i o.0 o.1 (sym same));
  })

  images_low : (qs : List ℕ) → Every (λ q. q < a.states) qs → Every (λ q. q < b.states) (map h.to qs)
  images_low [] l = tt
  images_low (q ∷ qs) l = (h.below q l.0, images_low qs l.1)

  rules_low : (rs : List Rule) → Every (IsRankedRule a.states) rs
      → Every (IsRankedRule b.states) (map (renumbered h.to) rs)
  rules_low [] l = tt
  rules_low (r ∷ rs) l =
      ((h.below r.state l.0.0, images_low r.children l.0.1, length-map r.children h.to ∙ l.0.2), rules_low rs l.1)

  -- the quotient is in range
  pub image_ranked : IsRanked b
  image_ranked = subst IsRanked (sym h.images) (images_low a.roots ranked.0, rules_low a.rules ranked.1)

-- All components.

module _ (face : Face) (k : ℕ) where
  abbrev AreQuotients : List Automaton → List Automaton → Type 0
  AreQuotients autos made = Paired (IsQuotient face.boxes (suc k)) autos made

  all_ranked : (autos made : List Automaton) → AreQuotients autos made → Every IsRanked autos → Every IsRanked made
  all_ranked [] [] h r = tt
  all_ranked [] (b ∷ made) h r = absurd h
  all_ranked (a ∷ autos) [] h r = absurd h
  all_ranked (a ∷ autos) (b ∷ made) h r = (image_ranked face.boxes (suc k) a b r.0 h.0, all_ranked autos made h.1 r.1)

  all_tops : (autos made : List Automaton) → AreQuotients autos made → Every IsRanked autos → Every HasOneTop autos
      → Every HasOneTop made
  all_tops [] [] h r t = tt
  all_tops [] (b ∷ made) h r t = absurd h
  all_tops (a ∷ autos) [] h r t = absurd h
  all_tops (a ∷ autos) (b ∷ made) h r t = (top_kept face.boxes (suc k) a b r.0 h.0 t.0, all_tops autos made h.1 r.1 t.1)

  -- each choice of trees has the outlines of one of the forest
  choice_outlined : (autos made : List Automaton) → AreQuotients autos made → Every IsRanked autos → Every IsTrim autos
      → (ts : List Tree) → Choice made ts → (us : List Tree) × Choice autos us
      × (map (outline face.boxes) ts ≡ map (outline face.boxes) us)
  choice_outlined [] [] h r m [] c = ([], tt, refl)
  choice_outlined [] [] h r m (t ∷ ts) c = absurd c
  choice_outlined [] (b ∷ made) h r m ts c = absurd h
  choice_outlined (a ∷ autos) [] h r m ts c = absurd h
  choice_outlined (a ∷ autos) (b ∷ made) h r m [] c = absurd c
  choice_outlined (a ∷ autos) (b ∷ made) h r m (t ∷ ts) c =
      let u = outlined face.boxes k a b r.0 m.0 h.0 t c.0 in
      let us = choice_outlined autos made h.1 r.1 m.1 ts c.1 in (
        u.0 ∷ us.0,
        (u.1, us.1),
        ap₂ (λ (x : Outline) (xs : List Outline). x ∷ xs) (outline_same face.boxes t u.0 u.2 u.3) us.2,
      )

-- the trees of all components
all_full : (autos : List Automaton) → Every IsRanked autos → Every IsTrim autos → Every HasOneTop autos
    → Every HasSome autos
all_full [] r m t = tt
all_full (a ∷ autos) r m t = (one_tree a r.0 m.0 t.0, all_full autos r.1 m.1 t.1)

one_choice : (autos : List Automaton) → Every HasSome autos → (ts : List Tree) × Choice autos ts
one_choice [] f = ([], tt)
one_choice (a ∷ autos) f = let c = one_choice autos f.1 in (f.0.0 ∷ c.0, (f.0.1, c.1))

structs_of : (autos : List Automaton) (ts : List Tree) (tops : List ℕ) → Every HasOneTop autos → Choice autos ts
    → TopsAre ts tops → Every HasOneStruct autos
structs_of [] ts tops h c t = tt
structs_of (a ∷ autos) [] tops h c t = absurd c
structs_of (a ∷ autos) (u ∷ ts) [] h c t = absurd t
structs_of (a ∷ autos) (u ∷ ts) (s ∷ tops) h c t =
    ((s, one_struct a h.0 s u c.0 t.0), structs_of autos ts tops h.1 c.1 t.1)

module _ (face : Face) (F : Forest) (can : IsCanonical face F) (ranked : Every IsRanked F.autos)
    (trim : Every IsTrim F.autos) where
  full : Every HasSome F.autos
  full = all_full F.autos ranked trim can.tops

  -- in a canonical forest cells of one struct stand at the tops of a component's trees
  pub canonical_structs : Every HasOneStruct F.autos
  canonical_structs =
      let c = one_choice F.autos full in
      let f = can.well_formed.filled.trees c.0 c.1 in
      structs_of F.autos c.0 f.tops can.tops c.1 f.are

  canonical_higher : (k : ℕ) (G : Forest) → Quotient face.boxes F (suc k) G → IsCanonical face G
  canonical_higher k G h =
      let right = all_ranked face k F.autos G.autos h.autos ranked in
      let sound = quotient_sound face k F G h ranked trim canonical_structs right
      (record { well_formed = can.well_formed; full = full }) in
      outlined_canonical face F G can sound.well_formed (all_tops face k F.autos G.autos h.autos ranked can.tops) h.vars
      (choice_outlined face k F.autos G.autos h.autos ranked trim)

  pub quotient_canonical : (k : ℕ) (G : Forest) → 1 ≤ k → Quotient face.boxes F k G → IsCanonical face G
  quotient_canonical zero G l h = absurd (omega (arith, l))
  quotient_canonical (suc k) G l h = canonical_higher k G h

-- languages within each other both ways are the same
pub same_languages : (xs ys : List Automaton) → Paired IsWithin xs ys → Paired IsWithin ys xs
    → Paired HasSameLanguage xs ys
same_languages [] [] h k = tt
same_languages [] (y ∷ ys) h k = absurd h
same_languages (x ∷ xs) [] h k = absurd h
same_languages (x ∷ xs) (y ∷ ys) h k = ((λ t. (h.0 t, k.0 t)), same_languages xs ys h.1 k.1)
