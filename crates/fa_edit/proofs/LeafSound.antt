-- The forest with another leaf in a field of a root is sound where the leaf fits, and box edges that lead back give
-- something.
use Rattle.std.proofs.Common.{◌≡◌, ℕ, zero, suc, ◌<◌, length, List, [], ◌∷◌, sym, ap, ap₂, subst, ◌∙◌, slice_get, Some}
use Rattle.std.proofs.Common.{arith}
use Rattle.std.proofs.lemmas.Option.{same_Some}
use Rattle.fore_base.specs.Lists.{Every}
use Rattle.fore_base.proofs.ListLemmas.{every_in}
use Rattle.ta_core.specs.Auto.{Automaton, IsRanked}
use Rattle.ta_core.specs.Language.{InLanguage}
use Rattle.ta_core.specs.Single.{HasOneTop}
use Rattle.ta_core.specs.declared.auto.Rule.{Rule}
use Rattle.ta_core.specs.declared.symbol.Symbol.{Symbol}
use Rattle.ta_core.specs.declared.tree.Tree.{Tree, out-Tree, roll-Tree, roll-out-Tree}
use Rattle.fa_core.specs.declared.faces.Face.{Face}
use Rattle.fa_core.specs.declared.forest.Forest.{Forest}
use Rattle.fa_core.specs.declared.forest.Target.{Target}
use Rattle.fa_core.specs.declared.forest.Target.TheVariants.{Null, Uninit, Dangling, At}
use Rattle.fa_core.specs.Boxless.{HasNoBoxes}
use Rattle.fa_core.specs.Dressed.{Node, End, node, leaf}
use Rattle.fa_core.specs.Filled.{Choice, TopsAre, IsTopped, SymbolFits, RulesFit, HasSignatures, HasSome, IsSound}
use Rattle.fa_core.specs.Filled.{target_of, FieldEnds}
use Rattle.fa_core.specs.Member.{bare, bare_end, leaf_symbol}
use Rattle.fa_core.proofs.Dressing.{cell_top}
use Rattle.fa_core.proofs.FilledKept.{top_of_filled}
use Rattle.fa_edit.specs.Fits.{LeafFits, symbol_shape}
use Rattle.fa_edit.specs.Leaves.{end_of_field, with_leaf}
use Rattle.fa_edit.specs.Plain.{IsLeafPlace, IsPlainAt, place_at}
use Rattle.fa_edit.proofs.EditedSound.{IsFilledTree, edited_plain, edited_sound}
use Rattle.fa_edit.proofs.Gifts.{gift_put}
use Rattle.fa_edit.proofs.LeafPuts.{ranked_own, inside, put_end, put_old, from_put}
use Rattle.fa_edit.proofs.PlainFields.{leaf_runs, tree_has, tree_put}
use Rattle.fa_edit.proofs.PutSpots.{node_shape, put_filled}
use Rattle.fa_sound.specs.Components.{component_at}
use Rattle.fa_merge.proofs.IdleRoots.{gift}
use Rattle.fa_merge.proofs.PlacedForests.{component_has, topped_node}
use Rattle.fa_merge.proofs.PutForests.{end_of_run}
use Rattle.fa_sound.proofs.ComponentLemmas.{component_got}
use Rattle.fa_split.specs.Split.{top_rule, top_parts, fixed, split_leaf, with_end}
use Rattle.fa_split.proofs.FixedSigned.{fixed_plain, fixed_signed}
use Rattle.fa_split.proofs.FixedTrees.{to_fixed, fixed_with, fixed_symbols, fixed_ranked}
use Rattle.fa_split.proofs.Places.{with_end_symbol, with_end_children, with_end_twice, with_end_same}
use Rattle.fa_split.proofs.SplitLeaves.{with_child, with_child_symbol, with_child_children, fitting_leaf}
use Rattle.fa_split.proofs.TopRules.{tree_by_top, top_in}
use Rattle.fa_split.specs.Giving.{RulesGive, SymbolGives}

topped_shape : (s : ℕ) (t : Tree) → IsTopped s t → symbol_shape (out-Tree t).symbol ≡ Some s
topped_shape s t h = ap symbol_shape h.2

pub shaped_node : (n : Node) → symbol_shape (out-Tree (bare n)).symbol ≡ Some (node_shape n)
shaped_node (node c s ds ps) = ap symbol_shape (cell_top c s ds ps)

-- the top of a root with one rule is of the struct of that rule
pub top_struct : (autos : List Automaton) (ts : List Tree) (tops : List ℕ) (k s : ℕ) → Choice autos ts → TopsAre ts tops
    → k < length autos → HasOneTop (component_at autos k) → symbol_shape (top_rule (component_at autos k)).symbol
    ≡ Some s → slice_get tops k ≡ Some s
top_struct [] ts tops k s c h l one e = absurd (omega (arith, l))
top_struct (a ∷ autos) [] tops k s c h l one e = absurd c
top_struct (a ∷ autos) (t ∷ ts) [] k s c h l one e = absurd h
top_struct (a ∷ autos) (t ∷ ts) (x ∷ tops) zero s c h l one e = sym (topped_shape x t h.0)
    ∙ ap symbol_shape (sym (tree_by_top a one t c.0).0) ∙ e
top_struct (a ∷ autos) (t ∷ ts) (x ∷ tops) (suc k) s c h l one e =
    top_struct autos ts tops k s c.1 h.1 (omega (arith, l)) one e

-- a tree with another child is one without numbers of the dressed tree with that end
with_end_tree : (p : ℕ) (x : End) (n : Node) → bare (with_end p x n) ≡ with_child p (bare_end x) (bare n)
with_end_tree p x n = sym
    (ap₂ (λ (y : Symbol) (ts : List Tree). roll-Tree (record { symbol = y; children = ts }))
    (sym (with_end_symbol p x n)) (sym (with_end_children p x n)) ∙ roll-out-Tree (bare (with_end p x n)))

module _ (face : Face) (F : Forest) (r f : ℕ) (ranked : Every IsRanked F.autos) (sound : IsSound face F)
    (at : IsPlainAt face.shapes.structs F r f) (p : ℕ) (place : place_at F r f ≡ Some p) (u : Target)
    (fits : LeafFits face.shapes.structs F r f u) where
  abbrev t : Target
  t = (at.leaf p place).0

  abbrev alone : IsLeafPlace F r p t
  alone = (at.leaf p place).1

  abbrev a : Automaton
  a = component_at F.autos r

  abbrev b : Automaton
  b = fixed a p u

  a_ranked : IsRanked a
  a_ranked = ranked_own face.shapes.structs F r f ranked at p place t alone u

  within : p < length (top_rule a).children
  within = inside face.shapes.structs F r f ranked at p place t alone u

  b_fits : RulesFit face b
  b_fits = fixed_symbols a p u a_ranked at.top within (SymbolFits face) (fitting_leaf face u)
      (component_has (RulesFit face) F.autos r sound.well_formed.filled.rules at.root)

  -- the old leaf put back
  abbrev old : Tree → Tree
  old x = with_child p (bare_end (leaf t)) x

  low : (x : Tree) → InLanguage b x → InLanguage a (old x)
  low x l = fixed_with a p u a_ranked at.top within x (old x) (bare_end (leaf t)) l
      (leaf_runs face.shapes.structs F r f ranked at p place t alone) (with_child_symbol p (bare_end (leaf t)) x)
      (with_child_children p (bare_end (leaf t)) x)

  top : (x : Tree) (s : ℕ) → InLanguage b x → IsTopped s (old x) → IsTopped s x
  top x s l h = (h.0, h.1, sym (with_child_symbol p (bare_end (leaf t)) x) ∙ h.2)

  -- the leaf fits the field of each tree of the root
  fitting : (us : List Tree) (tops : List ℕ) → Choice F.autos us → TopsAre us tops → (n : Node) → InLanguage a (bare n)
      → (k : ℕ) → target_of face.shapes.structs (node_shape n) f ≡ Some k → FieldEnds tops k (leaf_symbol u)
  fitting us tops c h n l k e = by u fits
    where
      by : (u : Target) → LeafFits face.shapes.structs F r f u → FieldEnds tops k (leaf_symbol u)
      by Null w = tt
      by Uninit w = tt
      by Dangling w = tt
      by (At j) w =
          let s : w.above ≡ node_shape n =
          same_Some w.above (node_shape n)
          (sym w.is_above ∙ ap symbol_shape (tree_by_top a at.top (bare n) l).0 ∙ shaped_node n) in
          let q : w.below ≡ k = same_Some w.below k
          (sym w.points ∙ ap (λ (m : ℕ). target_of face.shapes.structs m f) s ∙ e) in
          subst (λ (m : ℕ). slice_get tops j ≡ Some m) q
          (top_struct F.autos us tops j w.below c h w.root w.top w.is_below)

  -- a tree with the leaf is one with the old leaf, changed
  module _ (n : Node) (l : InLanguage b (bare n)) where
    abbrev m : Node
    m = with_leaf f t n

    in_a : InLanguage a (bare m)
    in_a = from_put face.shapes.structs F r f ranked at p place t alone u n l

    is : m ≡ with_end p (leaf t) n
    is = put_old face.shapes.structs F r f ranked at p place t alone u t n l

    before : old (bare n) ≡ bare m
    before = sym (with_end_tree p (leaf t) n) ∙ ap bare (sym is)

    again : with_leaf f u m ≡ n
    again = tree_put face.shapes.structs F r f ranked at p place u m in_a ∙ ap (with_end p (leaf u)) is
        ∙ with_end_twice p n (leaf u) (leaf t)
        ∙ with_end_same p n (leaf u) (put_end face.shapes.structs F r f ranked at p place t alone u n l)

    has : end_of_field f (top_parts m) ≡ Some (leaf t)
    has = tree_has face.shapes.structs F r f ranked at p place t alone m in_a

    node_filled : (us : List Tree) (tops : List ℕ) → Choice F.autos us → TopsAre us tops → (above : List ℕ)
        → IsFilledTree face tops above (old (bare n)) → IsFilledTree face tops above (bare n)
    node_filled us tops c h above filled =
        subst (λ (z : Node). IsFilledTree face tops above (bare z)) again
        (put_filled face tops f t u m has (fitting us tops c h m in_a) above
        (subst (λ (z : Tree). IsFilledTree face tops above z) before filled))

    node_gift : (k : ℕ) → gift face.boxes k (old (bare n)) ≡ gift face.boxes k (bare n)
    node_gift k = ap (gift face.boxes k) before ∙ sym (gift_put f u face.boxes k t m has)
        ∙ ap (λ (z : Node). gift face.boxes k (bare z)) again

  -- each tree of the new component is that of a cell
  a_node : (x : Tree) → InLanguage b x → (n : Node) × (bare n ≡ x)
  a_node x l =
      let e = end_of_run face b (fixed_ranked a p u a_ranked at.top within) b_fits l.0 x l.2 in
      let s = top_of_filled face F sound.well_formed.filled sound.full r a (old x) (component_got F.autos r at.root)
      (low x l) in
      let n = topped_node e.0 s.0 (subst (λ (z : Tree). IsTopped s.0 z) (sym e.1) (top x s.0 l s.1)) in
      (n.0, ap bare_end (sym n.1) ∙ e.1)

  cells : (us : List Tree) (tops : List ℕ) → Choice F.autos us → TopsAre us tops → (x : Tree) (above : List ℕ)
      → InLanguage b x → IsFilledTree face tops above (old x) → IsFilledTree face tops above x
  cells us tops c h x above l filled =
      let n = a_node x l in
      subst (λ (z : Tree). IsFilledTree face tops above z) n.1
      (node_filled n.0 (subst (λ (z : Tree). InLanguage b z) (sym n.1) l) us tops c h above
      (subst (λ (z : Tree). IsFilledTree face tops above (old z)) (sym n.1) filled))

  gifts : (k : ℕ) (x : Tree) → InLanguage b x → gift face.boxes k (old x) ≡ gift face.boxes k x
  gifts k x l =
      let n = a_node x l in
      subst (λ (z : Tree). gift face.boxes k (old z) ≡ gift face.boxes k z) n.1
      (node_gift n.0 (subst (λ (z : Tree). InLanguage b z) (sym n.1) l) k)

  some : HasSome b
  some =
      let x = component_has HasSome F.autos r sound.full at.root in
      let y = bare_end (leaf u) in (
        with_child p y x.0,
        to_fixed a p u a_ranked at.top within (with_child p y x.0) x.0 (tree_by_top a at.top x.0 x.1)
            (with_child_symbol p y x.0) (with_child_children p y x.0),
      )

  pub put_plain : Every HasNoBoxes F.autos → Every HasNoBoxes (split_leaf F r p u).autos
  put_plain plain = edited_plain face F r b old plain
      (fixed_plain a p u a_ranked at.top within (component_has HasNoBoxes F.autos r plain at.root))

  pub put_sound : Every (RulesGive face.boxes) F.autos → IsSound face (split_leaf F r p u)
  put_sound gives = edited_sound face F r b old sound b_fits
      (fixed_signed a p u a_ranked at.top within face.boxes
      (component_has (HasSignatures face.boxes) F.autos r sound.well_formed.signatures at.root)
      (every_in (λ (o : Rule). SymbolGives face.boxes o.symbol) a.rules (top_rule a)
      (component_has (RulesGive face.boxes) F.autos r gives at.root) (top_in a at.top))
      (bare_end (leaf t)) (leaf_runs face.shapes.structs F r f ranked at p place t alone))
      some low top gifts cells
