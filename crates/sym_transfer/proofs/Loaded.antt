-- What stands in a field of a root may be what a variable is: a leaf that names a root names one that is there, and a
-- datum fits.
use Rattle.std.proofs.Common.{◌≡◌, inl, ℕ, Bool, true, false, nat_eq, if◌then◌else◌, List, ◌++◌, length, slice_get}
use Rattle.std.proofs.Common.{Some, refl, sym, subst}
use Rattle.std.proofs.lemmas.Option.{none-some, same_Some}
use Rattle.fore_base.specs.Lists.{IsIn, Every}
use Rattle.fore_base.specs.declared.store.Datum.{Datum}
use Rattle.fore_base.proofs.ListLemmas.{in_left, in_right, every_in, in_from_place}
use Rattle.ta_core.specs.Auto.{IsRanked}
use Rattle.ta_core.specs.declared.auto.Rule.{Rule}
use Rattle.ta_core.specs.declared.symbol.Symbol.{Symbol}
use Rattle.ta_core.specs.declared.symbol.Symbol.TheVariants.{Null as NullSymbol, Uninit as UninitSymbol}
use Rattle.ta_core.specs.declared.symbol.Symbol.TheVariants.{Dangling as DanglingSymbol, Ref, Cell}
use Rattle.ta_core.specs.declared.tree.Tree.{Tree}
use Rattle.fa_core.specs.Dressed.{Node, Parts, End, node, no_parts, field, link, hook, leaf, refs, refs_of, end_refs}
use Rattle.fa_core.specs.declared.boxes.BoxDef.{BoxDef}
use Rattle.fa_core.specs.declared.faces.Face.{Face}
use Rattle.fa_core.specs.declared.forest.Forest.{Forest}
use Rattle.fa_core.specs.declared.forest.Target.{Target}
use Rattle.fa_core.specs.declared.forest.Target.TheVariants.{At}
use Rattle.fa_core.specs.Filled.{DatumFits, SymbolFits, RulesFit, IsRoot, IsSound}
use Rattle.fa_core.specs.Member.{bare}
use Rattle.fa_core.proofs.WaysOf.{tree_roots}
use Rattle.fa_leaves.proofs.Hollow.{filled_dressed, hollow_table}
use Rattle.fa_merge.specs.Reordered.{component_at}
use Rattle.fa_back.proofs.Dressable.{some_choice}
use Rattle.fa_merge.proofs.Named.{refers_below}
use Rattle.fa_merge.proofs.PlacedForests.{component_has}
use Rattle.fa_merge.proofs.RootTrees.{bare_at}
use Rattle.fa_split.specs.Split.{top_parts, top_rule}
use Rattle.fa_split.proofs.TopRules.{top_in}
use Rattle.fa_edit.specs.Data.{datums_at, symbol_datums}
use Rattle.fa_edit.specs.Leaves.{AllHaveLeaf, end_of_field}
use Rattle.sym_transfer.specs.inner.Tops.{HasTop}

field_refs : (f k : ℕ) (ps : Parts) → end_of_field f ps ≡ Some (leaf (At k)) → IsIn k (refs_of ps)
field_refs f k no_parts h = absurd (none-some (leaf (At k)) h)
field_refs f k (field g e ps) h = here (nat_eq g f) h (field_refs f k ps)
  where
    here : (b : Bool) → (if b then Some e else end_of_field f ps) ≡ Some (leaf (At k))
        → (end_of_field f ps ≡ Some (leaf (At k)) → IsIn k (refs_of ps)) → IsIn k (end_refs e ++ refs_of ps)
    here true q rest = in_left k (end_refs e) (refs_of ps)
        (subst (λ (x : End). IsIn k (end_refs x)) (sym (same_Some e (leaf (At k)) q)) (inl refl))
    here false q rest = in_right k (end_refs e) (refs_of ps) (rest q)
field_refs f k (link b inside e ps) h = in_right k (end_refs e) (refs_of ps) (field_refs f k ps h)
field_refs f k (hook b inside ps) h = field_refs f k ps h

node_refs : (f k : ℕ) (n : Node) → end_of_field f (top_parts n) ≡ Some (leaf (At k)) → IsIn k (refs n)
node_refs f k (node c s ds ps) h = field_refs f k ps h

symbol_data : (face : Face) (y : Symbol) → SymbolFits face y → Every DatumFits (symbol_datums y)
symbol_data face NullSymbol h = tt
symbol_data face UninitSymbol h = tt
symbol_data face DanglingSymbol h = tt
symbol_data face (Ref r) h = tt
symbol_data face (Cell s ds ss) h = h.2

module _ (face : Face) (F : Forest) (sound : IsSound face F) where
  -- a leaf that stands in a field of a root names a root, or none
  pub leaf_below : Every IsRanked F.autos → (r f : ℕ) (t : Target) → ((T : List BoxDef) → AllHaveLeaf T F r f t)
      → IsRoot (length F.autos) t
  leaf_below ranked r f t h k e =
      let c = some_choice F.autos sound.full in
      let x = filled_dressed face F 0 sound.well_formed.filled ranked c.0 c.1 in
      let l = h (hollow_table face.boxes) x.nodes x.of in
      let i : IsIn k (refs l.0) =
      node_refs f k l.0 (subst (λ (u : Target). end_of_field f (top_parts l.0) ≡ Some (leaf u)) e l.2) in
      refers_below face F sound.well_formed.filled c.0 c.1 r k (bare l.0)
      (subst (λ (ts : List Tree). slice_get ts r ≡ Some (bare l.0)) x.trees (bare_at x.nodes r l.0 l.1))
      (subst (λ (ks : List ℕ). IsIn k ks) (sym (tree_roots l.0)) i)

  -- a datum of a root fits
  pub datum_at_fits : (r f : ℕ) (y : Datum) → HasTop F r → slice_get (datums_at F r) f ≡ Some y → DatumFits y
  datum_at_fits r f y top e =
      let a = component_at F.autos r in
      let h : SymbolFits face (top_rule a).symbol =
      every_in (λ (x : Rule). SymbolFits face x.symbol) a.rules (top_rule a)
      (component_has (RulesFit face) F.autos r sound.well_formed.filled.rules top.root) (top_in a top.top) in
      every_in DatumFits (datums_at F r) y (symbol_data face (top_rule a).symbol h)
      (in_from_place (datums_at F r) f y e)
