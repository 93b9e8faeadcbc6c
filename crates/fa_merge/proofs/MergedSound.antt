-- A root merged into another: the forest stays filled, all trees of the merged component have one signature, and
-- without
-- box edges it stays sound.
use Rattle.std.proofs.Common.{◌≡◌, ◌≢◌, ◌⊎◌, inl, inr, ℕ, zero, suc, ◌<◌, ◌++◌, true≢false, length, List, [], ◌∷◌, map}
use Rattle.std.proofs.Common.{flat_map, refl, sym, ap, subst, ◌∙◌, slice_get, slice_set, Some, length-set, arith}
use Rattle.std.proofs.lemmas.Bool.{eq-eqb}
use Rattle.std.proofs.lemmas.Option.{none-some, same_Some}
use Rattle.fore_base.specs.Lists.{IsIn, Every}
use Rattle.fore_base.proofs.ListLemmas.{every_in, in_every, in_append, place_of as place_in_list, in_from_place}
use Rattle.ta_core.specs.Auto.{Automaton, IsRanked}
use Rattle.ta_core.specs.Language.{InLanguage}
use Rattle.ta_core.specs.declared.auto.Rule.{Rule}
use Rattle.ta_core.specs.declared.symbol.Symbol.{Symbol}
use Rattle.ta_core.specs.declared.symbol.Symbol.TheVariants.{Ref}
use Rattle.ta_core.specs.declared.tree.Tree.{Tree}
use Rattle.fa_core.specs.declared.faces.Face.{Face}
use Rattle.fa_core.specs.declared.forest.Forest.{Forest}
use Rattle.fa_core.specs.Boxless.{IsPlain, HasNoBoxes}
use Rattle.fa_core.specs.Dressed.{Node, End, under, leaf, refs, end_refs}
use Rattle.fa_core.specs.Filled.{IsRoot, SymbolFits, RulesFit, HasSignatures, HasSome, IsFilled, IsSound}
use Rattle.fa_core.specs.Formed.{IsFormed}
use Rattle.fa_core.specs.Member.{bare, bare_end}
use Rattle.fa_core.specs.References.{AllBelow, IsNever, IsOnce, AreAlike, RefersAlike, tree_refs}
use Rattle.fa_core.proofs.FilledKept.{IsFormedTree, filled_kept, formed_by}
use Rattle.fa_core.proofs.NodeRuns.{EndRun, node_bare}
use Rattle.fa_core.proofs.Placing.{placed_boxless, placed_fit, refs_put}
use Rattle.fa_core.proofs.Uniform.{signed_alike, alike_signed, alike_ends, alike_tops}
use Rattle.fa_core.proofs.WaysOf.{tree_roots}
use Rattle.fa_merge.specs.Merged.{kept, moved, bridges, merged, merged_at, last_order, to_last}
use Rattle.fa_merge.specs.Reordered.{renumber, counted}
use Rattle.fa_sound.specs.Components.{component_at}
use Rattle.fa_merge.specs.inner.Lone.{TopsAreCells, IsLone}
use Rattle.fa_core.proofs.Counts.{never_below}
use Rattle.fa_core.specs.Ways.{signature}
use Rattle.fa_leaves.proofs.PluggedTrees.{plugged_signature}
use Rattle.fa_leaves.proofs.PutSigns.{put_signed}
use Rattle.fa_leaves.specs.Grafting.{plug}
use Rattle.fa_leaves.specs.Leaves.{AreApart}
use Rattle.fa_merge.proofs.Apart.{renumber_apart}
use Rattle.fa_merge.proofs.CutTrees.{FillsEnd, once_tree}
use Rattle.fa_merge.proofs.MergedAlike.{merged_alike, end_low}
use Rattle.fa_merge.proofs.MergedAnywhere.{f, rest, rest_differ, at_place, numbers_mapped, new, others_new, last_new}
use Rattle.fa_merge.proofs.MergedAnywhere.{refers_new, alone, place_less, new_ranked, renumbered_tops, others_in}
use Rattle.fa_merge.proofs.MergedAnywhere.{merge_any, unmerge_any, no_children, is, once_new}
use Rattle.fa_merge.proofs.MergedRanks.{merged_ranked}
use Rattle.fa_merge.proofs.MergedTrees.{kept_in, moved_in, bridges_in, Top, cut}
use Rattle.fa_merge.proofs.OtherOrders.{counted_below, one_place, root_at, root_place}
use Rattle.fa_merge.proofs.PlacedForests.{component_has, node_topped}
use Rattle.fa_merge.proofs.PutForests.{end_of_run, put_formed, put_some, full_kept}
use Rattle.fa_merge.proofs.ReorderedSound.{renumbered_vars}

-- an item of a list in which one was changed: the new one, or one that stands elsewhere
in_set : {X : Type 0} (xs : List X) (p : ℕ) (x a : X) → IsIn a (slice_set xs p x) → (a ≡ x)
    ⊎ ((j : ℕ) × (j ≢ p) × (slice_get xs j ≡ Some a))
in_set [] p x a i = absurd i
in_set (y ∷ xs) zero x a (inl e) = inl e
in_set (y ∷ xs) zero x a (inr i) = let k = place_in_list xs a i in inr (suc k.0, (λ e. not_zero k.0 e), k.1)
  where
    not_zero : (n : ℕ) → suc n ≡ 0 → ⊥
    not_zero n e = omega (arith, e)
in_set {X} (y ∷ xs) (suc p) x a (inl e) = inr (0, (λ e. not_zero p e), ap (λ (z : X). Some z) (sym e))
  where
    not_zero : (n : ℕ) → 0 ≡ suc n → ⊥
    not_zero n e = omega (arith, e)
in_set (y ∷ xs) (suc p) x a (inr i) =
    elim (in_set xs p x a i) [ inl e ↦ inl e | inr k ↦ inr (suc k.0, (λ e. k.1 (less k.0 p e)), k.2) ]
  where
    less : (m n : ℕ) → suc m ≡ suc n → m ≡ n
    less m n e = omega (arith, e)

-- what stands at a place of a mapped list
pub got_mapped : {X Y : Type 0} (h : X → Y) (xs : List X) (j : ℕ) (y : Y) → slice_get (map h xs) j ≡ Some y → (x : X)
    × (slice_get xs j ≡ Some x) × (y ≡ h x)
got_mapped h [] j y e = absurd (none-some y e)
got_mapped h (x ∷ xs) zero y e = (x, refl, sym (same_Some (h x) y e))
got_mapped h (x ∷ xs) (suc j) y e = got_mapped h xs j y e

-- the new numbers of roots but r are below that of r
less_mapped : (g : ℕ → ℕ) (r n m : ℕ) (ks : List ℕ) → ((k : ℕ) → k < n → k ≢ r → g k < m) → AllBelow n ks → IsNever r ks
    → AllBelow m (map g ks)
less_mapped g r n m [] h b d = tt
less_mapped g r n m (k ∷ ks) h b d =
    (h k b.0 (λ e. true≢false (sym (eq-eqb r k (sym e)) ∙ d.0)), less_mapped g r n m ks h b.1 d.1)

-- what holds of the symbols of both automata holds of those of the merged one
pub merged_symbols : (P : Symbol → Type 0) (r : ℕ) (t l : Automaton) → Every (λ (x : Rule). P x.symbol) t.rules
    → Every (λ (x : Rule). P x.symbol) l.rules → Every (λ (x : Rule). P x.symbol) (merged r t l).rules
merged_symbols P r t l h k =
    in_every (λ (x : Rule). P x.symbol) (merged r t l).rules
    (λ x i. elim (in_append x (kept r t.rules) (moved t.states l.rules ++ bridges t.states r l t.rules) i) [
      | inl j ↦ every_in (λ (x : Rule). P x.symbol) t.rules x h (kept_in r t.rules x j).0
      | inr j ↦ elim (in_append x (moved t.states l.rules) (bridges t.states r l t.rules) j) [
        | inl m ↦ (let w = moved_in t.states l.rules x m in
            subst P (sym (ap (λ (v : Rule). v.symbol) w.2)) (every_in (λ (x : Rule). P x.symbol) l.rules w.0 k w.1))
        | inr m ↦ (let w = bridges_in t.states r l t.rules x m in
            subst P (sym (ap (λ (v : Rule). v.symbol) w.6)) (every_in (λ (x : Rule). P x.symbol) l.rules w.1 k w.4))
      ]
    ])

module _ (face : Face) (F : Forest) (r i : ℕ) (h : IsLone F r i) (sound : IsSound face F) where
  abbrev g : ℕ → ℕ
  g = f F r i h

  abbrev t : Automaton
  t = new F r i h i

  abbrev l : Automaton
  l = new F r i h r

  abbrev R : ℕ
  R = length (others_new F r i h)

  abbrev G : Forest
  G = merged_at r i F

  abbrev both : Automaton
  both = merged R t l

  same_size : length G.autos ≡ R
  same_size = length-set (others_new F r i h) (to_last (length F.autos) r i) both

  in_rest : (k : ℕ) → IsIn k (rest F r i h) → (k < length F.autos) × (k ≢ r)
  in_rest k x =
      let o = others_in r (counted 0 (length F.autos)) k x in (
        every_in (λ j. j < length F.autos) (counted 0 (length F.autos)) k
            (counted_below 0 (length F.autos) (length F.autos) (omega arith)) o.0,
        o.1,
      )

  -- what each other component has and one more has, each has where that one stands in the place of the merged one
  pub each_with : (P : Automaton → Type 0) (x : Automaton)
      → ((k : ℕ) → k < length F.autos → k ≢ r → k ≢ i → P (new F r i h k)) → P x
      → Every P (slice_set (others_new F r i h) (to_last (length F.autos) r i) x)
  each_with P x old one = in_every P (slice_set (others_new F r i h) (to_last (length F.autos) r i) x)
      (λ a y. elim (in_set (others_new F r i h) (to_last (length F.autos) r i) x a y) [
        | inl e ↦ subst P (sym e) one
        | inr m ↦ (let k = got_mapped (new F r i h) (rest F r i h) m.0 a m.2 in
            let o = in_rest k.0 (in_from_place (rest F r i h) m.0 k.0 k.1) in
            subst P (sym k.2)
            (old k.0 o.0 o.1
            (λ e.
            m.1
            (one_place (rest F r i h) m.0 (to_last (length F.autos) r i) k.0 (rest_differ F r i h) k.1
            (subst (λ (z : ℕ). slice_get (rest F r i h) (to_last (length F.autos) r i) ≡ Some z) (sym e)
            (at_place F r i h))))))
      ])

  each_merged : (P : Automaton → Type 0) → ((k : ℕ) → k < length F.autos → k ≢ r → k ≢ i → P (new F r i h k)) → P both
      → Every P G.autos
  each_merged P old one = each_with P both old one

  pub new_fits : (k : ℕ) → k < length F.autos → RulesFit face (new F r i h k)
  new_fits k l = placed_fit (renumber g) face (component_at F.autos k)
      (component_has (RulesFit face) F.autos k sound.well_formed.filled.rules l)

  both_ranked : IsRanked both
  both_ranked = merged_ranked R t l (new_ranked F r i h i) (new_ranked F r i h r)

  both_fits : RulesFit face both
  both_fits = merged_symbols (SymbolFits face) R t l (new_fits i h.into) (new_fits r h.root)

  new_tops : (k : ℕ) → k < length F.autos → TopsAreCells (new F r i h k)
  new_tops k l = renumbered_tops g (component_at F.autos k) (h.tops k l)

  -- the trees of the other components
  low : (k : ℕ) → k < length F.autos → k ≢ i → (m : Node) → InLanguage (component_at F.autos k) (bare m)
      → AllBelow R (flat_map (refs_put (renumber g)) (refs m))
  low k b d m w =
      let last : g r ≡ R = last_new F r i h in
      subst (λ (n : ℕ). AllBelow n (flat_map (refs_put (renumber g)) (refs m))) last
      (subst (λ (ks : List ℕ). AllBelow (g r) ks) (sym (numbers_mapped g (refs m)))
      (less_mapped g r (length F.autos) (g r) (refs m) (place_less F r i h) (h.refers k m b w) (h.never k m b d w)))

  old_formed : (k : ℕ) → k < length F.autos → k ≢ r → k ≢ i → (t : Tree) → InLanguage (new F r i h k) t
      → IsFormedTree R t
  old_formed k b d e t w =
      put_formed face F sound.well_formed.filled sound.full h.ranked (renumber g) R k b (low k b e) t w

  -- the trees of the merged one
  flat_t : (x : Rule) → IsIn x t.rules → x.symbol ≡ Ref R → x.children ≡ []
  flat_t x j e = no_children t (new_ranked F r i h i) R x j e

  abbrev IsTop : Node → Type 0
  IsTop m = Top R t l (new_ranked F r i h i).1 (new_tops r h.root) flat_t m

  top_in : (m : Node) → IsTop m → InLanguage l (bare m)
  top_in m w = (w.0, w.1, node_bare l.rules w.0 m w.2)

  top_low : (m : Node) → IsTop m → AllBelow R (refs m)
  top_low m w = subst (λ (n : ℕ). AllBelow n (refs m)) (last_new F r i h) (alone F r i h m (top_in m w))

  both_formed : (u : Tree) → InLanguage both u → IsFormedTree R u
  both_formed u w =
      let e = end_of_run face both both_ranked both_fits w.0 u w.2 in
      let c = cut R t l (new_ranked F r i h i).1 (new_tops r h.root) flat_t w.0 e.0
      (every_in (λ q. q < t.states) t.roots w.0 (new_ranked F r i h i).0 w.1) e.2 in
      subst (λ (z : Tree). IsFormedTree R z) e.1 (by_cut c.0 c.1 e.0 c.2 c.3 c.4)
    where
      by_cut : (d : End) (ms : List Node) (e : End) → EndRun t.rules w.0 d → Every IsTop ms → FillsEnd R d ms e
          → IsFormedTree R (bare_end e)
      by_cut (leaf y) ms e g a x =
          absurd (new_tops i h.into g.0 g.1 (subst (λ (q : ℕ). IsIn q t.roots) (sym g.2) w.1) y g.3)
      by_cut (under n) ms e g a x =
          let from : InLanguage t (bare n) = (w.0, w.1, node_bare t.rules w.0 n g) in
          let old : AllBelow (suc R) (refs n) =
          subst (λ (m : ℕ). AllBelow (suc m) (refs n)) (last_new F r i h) (refers_new F r i h i n h.into from)
          in
          let below : AllBelow R (end_refs e) = end_low R IsTop top_low (under n) ms e x a old in
          subst (λ (z : End). IsFormedTree R (bare_end z)) (sym x.1) (
            node_topped x.0,
            subst (λ (ks : List ℕ). AllBelow R ks) (sym (tree_roots x.0))
                (subst (λ (z : End). AllBelow R (end_refs z)) x.1 below),
          )

  vars_new : Every (IsRoot R) G.vars
  vars_new = renumbered_vars g R F.vars
      (λ k x. subst (λ (n : ℕ). g k < n) (last_new F r i h) (place_less F r i h k (h.vars k x).0 (h.vars k x).1))

  formed : IsFormed face G
  formed = record {
    ranked = each_merged IsRanked (λ k l d e. new_ranked F r i h k) both_ranked;
    data_vars = sound.well_formed.filled.data_vars;
    rules = each_merged (RulesFit face) (λ k l d e. new_fits k l) both_fits;
    choices =
        formed_by G
        (rw same_size (each_merged (λ a. (u : Tree) → InLanguage a u → IsFormedTree R u) old_formed both_formed))
        (rw same_size vars_new);
  }

  pub merged_filled : IsFilled face G
  merged_filled = filled_kept face F G sound.well_formed.filled (unmerge_any F r i h) formed

  pub merged_full : Every HasSome G.autos
  merged_full = full_kept face F sound.well_formed.filled sound.full h.ranked G (λ T. merge_any F r i h T)

  -- Signatures.

  apart : AreApart (renumber g)
  apart = renumber_apart g (root_at (length F.autos) g (last_order (length F.autos) r) (is F r i h))
      (root_place (length F.autos) g (last_order (length F.autos) r) (is F r i h))

  -- the other components keep theirs
  pub new_signed : (k : ℕ) → k < length F.autos → HasSignatures face.boxes (new F r i h k)
  new_signed k b =
      put_signed face (renumber g) apart (component_at F.autos k) (component_has IsRanked F.autos k h.ranked b)
      (component_has (RulesFit face) F.autos k sound.well_formed.filled.rules b)
      (component_has (HasSignatures face.boxes) F.autos k sound.well_formed.signatures b)

  pub new_some : (k : ℕ) → k < length F.autos → HasSome (new F r i h k)
  new_some k b = put_some face F sound.well_formed.filled sound.full h.ranked (renumber g) k b

  -- each tree of the merged component is a graft
  grafted : (u : Tree) → InLanguage both u → (n : Node) × (m : Node) × InLanguage t (bare n) × InLanguage l (bare m)
      × (u ≡ bare (plug R m n)) × IsOnce R (refs n) × IsNever R (refs m)
  grafted u w =
      let e = end_of_run face both both_ranked both_fits w.0 u w.2 in
      let c = cut R t l (new_ranked F r i h i).1 (new_tops r h.root) flat_t w.0 e.0
      (every_in (λ q. q < t.states) t.roots w.0 (new_ranked F r i h i).0 w.1) e.2 in
      by_cut c.0 c.1 e.0 e.1 c.2 c.3 c.4
    where
      by_cut : (d : End) (ms : List Node) (e : End) → bare_end e ≡ u → EndRun t.rules w.0 d → Every IsTop ms
          → FillsEnd R d ms e → (n : Node) × (m : Node) × InLanguage t (bare n) × InLanguage l (bare m)
          × (u ≡ bare (plug R m n)) × IsOnce R (refs n) × IsNever R (refs m)
      by_cut (leaf y) ms e q g a x =
          absurd (new_tops i h.into g.0 g.1 (subst (λ (q : ℕ). IsIn q t.roots) (sym g.2) w.1) y g.3)
      by_cut (under n) ms e q g a x =
          let from : InLanguage t (bare n) = (w.0, w.1, node_bare t.rules w.0 n g) in
          let once : IsOnce R (refs n) = subst (λ (k : ℕ). IsOnce k (refs n)) (last_new F r i h)
          (once_new F r i h n from) in
          let k = once_tree R n ms x.0 x.2 once in
          let top : IsTop k.0 = (subst (λ (z : List Node). Every IsTop z) k.1 a).0 in (
            n,
            k.0,
            from,
            top_in k.0 top,
            sym q ∙ ap bare_end x.1 ∙ ap bare k.2,
            once,
            never_below R (refs k.0) (top_low k.0 top),
          )

  -- so they have one signature, though the trees of one of its states may have several
  pub one_signature : (u w : Tree) → InLanguage both u → InLanguage both w → signature face.boxes u
      ≡ signature face.boxes w
  one_signature u w x y =
      let a = grafted u x in
      let b = grafted w y in
      ap (signature face.boxes) a.4
      ∙ plugged_signature face.boxes R a.1 a.0 b.1 b.0 a.5 a.6 b.5 b.6
      ((new_signed i h.into).component (bare a.0) (bare b.0) a.2 b.2)
      ((new_signed r h.root).component (bare a.1) (bare b.1) a.3 b.3)
      ∙ sym (ap (signature face.boxes) b.4)

  -- Without box edges.

  module _ (plain : Every HasNoBoxes F.autos) where
    new_plain : (k : ℕ) → k < length F.autos → HasNoBoxes (new F r i h k)
    new_plain k l = placed_boxless (renumber g) (component_at F.autos k) (component_has HasNoBoxes F.autos k plain l)

    both_plain : HasNoBoxes both
    both_plain = merged_symbols IsPlain R t l (new_plain i h.into) (new_plain r h.root)

    pub merged_plain : Every HasNoBoxes G.autos
    merged_plain = each_merged HasNoBoxes (λ k l d e. new_plain k l) both_plain

    new_alike : (k : ℕ) → k < length F.autos → RefersAlike (new F r i h k)
    new_alike k b = signed_alike face.boxes (new F r i h k) (new_plain k b) (new_signed k b)

    both_alike : RefersAlike both
    both_alike =
        let s = new_some r h.root in
        let tops : (m : Node) → IsTop m → AreAlike (refs m) (tree_refs s.0) =
        (λ m w. subst (λ (ks : List ℕ). AreAlike ks (tree_refs s.0)) (tree_roots m)
        ((new_alike r h.root).component (bare m) s.0 (top_in m w) s.1)) in
        merged_alike R t l (new_ranked F r i h i).1 (new_tops r h.root) flat_t (tree_refs s.0) tops
        (alike_ends t (new_alike i h.into)) (alike_ends l (new_alike r h.root))
        (new_ranked F r i h i).0 (alike_tops t (new_alike i h.into)) both_ranked both_plain

    pub merged_sound : IsSound face G
    merged_sound = record {
      well_formed = record {
        filled = merged_filled;
        signatures = each_merged (HasSignatures face.boxes) (λ k b d e. new_signed k b)
            (alike_signed face.boxes both both_plain both_alike);
      };
      full = merged_full;
    }
