-- Components whose rules fit and whose trees have cells at their tops: those of a sound forest, those that gain the
-- slots of a port, and the inner roots of a box.
use Rattle.std.proofs.Common.{◌≡◌, inl, inr, ℕ, zero, suc, length, List, [], ◌∷◌, map, refl, sym, ap, subst}
use Rattle.std.proofs.Common.{◌∙◌, Some, slice_get}
use Rattle.std.proofs.lemmas.List.{nil_from_length}
use Rattle.std.proofs.lemmas.Option.{none-some, same_Some}
use Rattle.fore_base.specs.Lists.{IsIn, Every, IsDistinct}
use Rattle.fore_base.specs.declared.shape.Shapes.{Shapes}
use Rattle.fore_base.specs.declared.store.Datum.{Datum}
use Rattle.fore_base.proofs.ListLemmas.{every_in, every_weaker, in_every, in_mapped, place_of}
use Rattle.ta_core.specs.Arity.{arity}
use Rattle.ta_core.specs.Auto.{Automaton, IsRanked, IsRankedRule}
use Rattle.ta_core.specs.Language.{run, run_none, InLanguage}
use Rattle.ta_core.specs.Single.{HasOneTop}
use Rattle.ta_core.specs.declared.auto.Rule.{Rule}
use Rattle.ta_core.specs.declared.symbol.Symbol.{Symbol}
use Rattle.ta_core.specs.declared.symbol.Symbol.TheVariants.{Null as NullSymbol, Uninit as UninitSymbol}
use Rattle.ta_core.specs.declared.symbol.Symbol.TheVariants.{Dangling as DanglingSymbol, Ref, Cell}
use Rattle.ta_core.specs.declared.tree.Tree.{Tree, out-Tree, out-roll-Tree}
use Rattle.fa_core.specs.declared.boxes.BoxDef.{BoxDef}
use Rattle.fa_core.specs.declared.faces.BoxFace.{BoxFace}
use Rattle.fa_core.specs.declared.faces.Face.{Face}
use Rattle.fa_core.specs.declared.forest.Forest.{Forest}
use Rattle.fa_core.specs.declared.forest.Target.{Target}
use Rattle.fa_core.specs.declared.forest.Target.TheVariants.{Null, Uninit, Dangling, At}
use Rattle.fa_core.specs.Boxes.{Boxes, InsideRulesFit, faces_of}
use Rattle.fa_core.specs.Choices.{bares, all_numbers}
use Rattle.fa_core.specs.Dressed.{Nodes, leaf}
use Rattle.fa_core.specs.Filled.{Choice, ChoiceFilled, IsFilled, DatumFits, HasSome, IsTopped, RulesFit, SlotFits}
use Rattle.fa_core.specs.Filled.{SymbolFits, TopsAre}
use Rattle.fa_core.specs.Folding.{symbol_slots}
use Rattle.fa_core.specs.Member.{OfForest, bare_end, leaf_symbol}
use Rattle.fa_core.specs.Placed.{placed_rule, placed_symbol, placed_auto}
use Rattle.fa_core.proofs.Dressing.{dress_all, numbered_differ, leaf_top, cell_is_no_leaf}
use Rattle.fa_core.proofs.FilledKept.{choice_with, top_of_filled}
use Rattle.fa_core.proofs.Placing.{placed_fit, placed_ranked}
use Rattle.fa_split.specs.Chosen.{StandsAtTop}
use Rattle.fa_split.specs.Split.{top_rule}
use Rattle.fa_split.proofs.TopRules.{top_alone}
use Rattle.fa_unfold.specs.Sites.{IsOver}
use Rattle.fa_unfold.specs.Slots.{Place, joined, rule_places, place_key, moved_place, with_slots}
use Rattle.fa_unfold.specs.Unfolding.{below_tops, grown}
use Rattle.fa_unfold.proofs.EndStructs.{insides_of}
use Rattle.fa_unfold.proofs.FittingRules.{grown_fits, rules_grow}
use Rattle.fa_unfold.proofs.GrownTrees.{IsCellOf, grown_right, grown_symbol}
use Rattle.fa_unfold.proofs.PlaceRuns.{IsPlace}
use Rattle.fa_unfold.proofs.TableBoxes.{IsBoxOf}

-- each tree has a cell at its top
abbrev pub Topped : Automaton → Type 0
Topped a = (u : Tree) → InLanguage a u → (s : ℕ) × IsTopped s u

abbrev pub IsGood : Face → Automaton → Type 0
IsGood face a = IsRanked a × RulesFit face a × Topped a

-- the one rule at the top stands at the top of each tree
pub top_stands : (a : Automaton) → HasOneTop a → HasSome a → StandsAtTop a (top_rule a)
top_stands a one (u, (q, i, run x j e y k)) =
    let r : IsIn x.state a.roots = subst (λ (z : ℕ). IsIn z a.roots) (sym e) i in
    subst (StandsAtTop a) (top_alone a one x j r) (r, (u, (y, k)))

module _ (t : Boxes) (F : Forest) (over : IsOver t F) where
  pub own_good : Every (IsGood t.face) F.autos
  own_good =
      let filled = over.sound.well_formed.filled in
      in_every (IsGood t.face) F.autos
      (λ a i. (
        every_in IsRanked F.autos a over.ranked i,
        every_in (RulesFit t.face) F.autos a filled.rules i,
        λ u w. (let k = place_of F.autos a i in top_of_filled t.face F filled over.sound.full k.0 a u k.1 w),
      ))

  tops_of : (autos : List Automaton) (ts : List Tree) → Every (IsGood t.face) autos → Choice autos ts
      → (tops : List ℕ) × TopsAre ts tops
  tops_of [] [] h c = ([], tt)
  tops_of [] (u ∷ ts) h c = absurd c
  tops_of (a ∷ autos) [] h c = absurd c
  tops_of (a ∷ autos) (u ∷ ts) h c =
      let k = h.0.2 u c.0 in
      let r = tops_of autos ts h.1 c.1 in
      (k.0 ∷ r.0, (k.1, r.1))

  -- a forest of such components is filled, if its dressed forests are
  pub filled_of : (G : Forest) → Every (IsGood t.face) G.autos → G.data_vars ≡ F.data_vars
      → ((e : Nodes) → OfForest t.defs G e → IsDistinct (all_numbers e) → ChoiceFilled t.face G (bares e))
      → IsFilled t.face G
  filled_of G g v h =
      let rules : Every (RulesFit t.face) G.autos =
      every_weaker (IsGood t.face) (RulesFit t.face) G.autos (λ a k. k.1) g in
      record {
        data_vars = subst (λ (ds : List Datum). Every DatumFits ds) (sym v) over.sound.well_formed.filled.data_vars;
        rules = rules;
        trees = λ ts c.
            (let m = tops_of G.autos ts g c in
            let d = dress_all t.defs 0 G.autos ts m.0 (every_weaker (IsGood t.face) IsRanked G.autos (λ a k. k.0) g)
            (insides_of t F over G.autos rules) c m.1 in
            subst (λ (us : List Tree). ChoiceFilled t.face G us) d.trees
            (h d.nodes d.of (numbered_differ 0 (all_numbers d.nodes) d.cells)));
      }

-- A component that gains slots.

pub grown_good : (face : Face) (bs : List BoxFace) (a : Automaton) (x : Rule) (base : List Place) (b : Automaton)
    (z : Rule) → IsGood face a → IsRanked b → IsIn z b.rules → Every (IsPlace a.states) base → (s : ℕ)
    (ds : List Datum) → IsCellOf x.symbol s ds → SymbolFits face x.symbol → RulesFit face (below_tops b)
    → Every (λ (p : Place). SlotFits face s p.0) base → Every (SlotFits face s) (symbol_slots z.symbol)
    → IsGood face (grown bs a x base b z)
grown_good face bs a x base b z g right rule places s ds c h fb own more = (
  grown_right bs a x base b z g.0 right rule places s ds c,
  grown_fits face bs a x base b z s ds c h own more g.1 fb,
  λ u w. (
    s,
    (
      ds,
      map (λ p. p.0) (joined (place_key bs) base (map (moved_place a.states) (rule_places z))),
      grown_symbol bs a x base b z g.0 right rule places u w
          ∙ ap (λ (y : Symbol). with_slots y
          (map (λ p. p.0) (joined (place_key bs) base (map (moved_place a.states) (rule_places z))))) c.1,
    ),
  ),
)

-- The inner roots of a box.

module _ (S : Shapes) (T : List BoxDef) (b : ℕ) (autos : List Automaton) (k : IsBoxOf S T b autos) where
  abbrev lower : Face
  lower = record { shapes = S; boxes = faces_of k.before }

  abbrev face : Face
  face = record { shapes = S; boxes = faces_of T }

  topped_at : (ts : List Tree) (tops : List ℕ) (r : ℕ) (u : Tree) → TopsAre ts tops → slice_get ts r ≡ Some u
      → (s : ℕ) × IsTopped s u
  topped_at [] tops r u h e = absurd (none-some u e)
  topped_at (v ∷ ts) [] r u h e = absurd h
  topped_at (v ∷ ts) (s ∷ tops) zero u h e = (s, subst (λ (z : Tree). IsTopped s z) (same_Some v u e) h.0)
  topped_at (v ∷ ts) (s ∷ tops) (suc r) u h e = topped_at ts tops r u h.1 e

  -- a leaf by a rule of a root state
  leaf_tree : (a : Automaton) → IsRanked a → (x : Rule) → IsIn x a.rules → IsIn x.state a.roots → (v : Target)
      → x.symbol ≡ leaf_symbol v → InLanguage a (bare_end (leaf v))
  leaf_tree a p x i j v q =
      let o = out-roll-Tree (record { symbol = leaf_symbol v; children = [] }) in
      let l : length x.children ≡ 0 =
      (every_in (IsRankedRule a.states) a.rules x p.1 i).2 ∙ ap arity q ∙ leaf_arity v in
      let c : x.children ≡ [] = nil_from_length x.children l in
      (x.state, j, run x i refl (rw o q) (rw (o, c) run_none))
    where
      leaf_arity : (v : Target) → arity (leaf_symbol v) ≡ 0
      leaf_arity Null = refl
      leaf_arity Uninit = refl
      leaf_arity Dangling = refl
      leaf_arity (At n) = refl

  -- no tree of a component of the inside is a leaf
  no_leaf : (r : ℕ) (a : Automaton) → slice_get autos r ≡ Some a → (u : Target) → InLanguage a (bare_end (leaf u)) → ⊥
  no_leaf r a e u w =
      let c = choice_with k.def.inside.autos k.sound.full r a (bare_end (leaf u))
      (subst (λ (v : List Automaton). slice_get v r ≡ Some a) (sym k.inside) e) w in
      let f = k.sound.fits c.0 c.1 in
      let m = topped_at c.0 f.tops r (bare_end (leaf u)) f.are c.2 in
      cell_is_no_leaf u m.0 m.1.0 m.1.1 (sym (leaf_top u) ∙ m.1.2)

  module _ (f : ℕ → Target) where
    by_symbol : (r : ℕ) (a : Automaton) → slice_get autos r ≡ Some a → IsRanked a → (x : Rule) → IsIn x a.rules
        → IsIn x.state a.roots → (y : Symbol) → x.symbol ≡ y → (u : Tree) → placed_symbol f y ≡ (out-Tree u).symbol
        → (s : ℕ) × IsTopped s u
    by_symbol r a e p x i j (Cell s ds ss) q u w = (s, (ds, ss, sym w))
    by_symbol r a e p x i j NullSymbol q u w = absurd (no_leaf r a e Null (leaf_tree a p x i j Null q))
    by_symbol r a e p x i j UninitSymbol q u w = absurd (no_leaf r a e Uninit (leaf_tree a p x i j Uninit q))
    by_symbol r a e p x i j DanglingSymbol q u w = absurd (no_leaf r a e Dangling (leaf_tree a p x i j Dangling q))
    by_symbol r a e p x i j (Ref n) q u w = absurd (no_leaf r a e (At n) (leaf_tree a p x i j (At n) q))

    inner_topped : (r : ℕ) (a : Automaton) → slice_get autos r ≡ Some a → IsRanked a → Topped (placed_auto f a)
    inner_topped r a e p u (q, i, run x j s y h) =
        let m = in_mapped (placed_rule f) x a.rules j in
        by_symbol r a e p m.0 m.1
        (subst (λ (z : Rule). IsIn z.state a.roots) m.2 (subst (λ (z : ℕ). IsIn z a.roots) (sym s) i)) m.0.symbol refl u
        (sym (ap (λ (z : Rule). z.symbol) m.2) ∙ y)

    -- those of the list from place r on
    pub inner_good : (xs : List Automaton) → Every IsRanked xs → InsideRulesFit lower [] xs
        → ((a : Automaton) → IsIn a xs → (r : ℕ) × (slice_get autos r ≡ Some a))
        → Every (IsGood face) (map (placed_auto f) xs)
    inner_good [] p h w = tt
    inner_good (a ∷ xs) p h w =
        let m = w a (inl refl) in (
          (
            placed_ranked f a p.0,
            placed_fit f face a (rules_grow S (faces_of k.before) (faces_of T) k.grow a h.0),
            inner_topped m.0 a m.1 p.0,
          ),
          inner_good xs p.1 h.1 (λ z i. w z (inr i)),
        )
