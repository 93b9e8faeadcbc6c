-- The structs of the tops of a port's trees, and of the root at which a Link ends, are those of the box's face.
use Rattle.std.proofs.Common.{◌≡◌, ℕ, zero, suc, List, [], ◌∷◌, ◌++◌, refl, sym}
use Rattle.std.proofs.Common.{ap, subst, ◌∙◌, Option, Some, None, slice_get}
use Rattle.std.proofs.lemmas.Option.{none-some, same_Some}
use Rattle.fore_base.specs.Lists.{IsIn, Every}
use Rattle.fore_base.specs.declared.shape.Shapes.{Shapes}
use Rattle.fore_base.specs.declared.store.Datum.{Datum}
use Rattle.fore_base.proofs.ListLemmas.{every_in, every_weaker, in_mapped}
use Rattle.ta_core.specs.Auto.{Automaton, IsRanked}
use Rattle.ta_core.specs.Language.{run, InLanguage}
use Rattle.ta_core.specs.declared.auto.Rule.{Rule}
use Rattle.ta_core.specs.declared.symbol.Symbol.{Symbol}
use Rattle.ta_core.specs.declared.symbol.Symbol.TheVariants.{Null as NullSymbol, Uninit as UninitSymbol}
use Rattle.ta_core.specs.declared.symbol.Symbol.TheVariants.{Dangling as DanglingSymbol, Ref, Cell}
use Rattle.ta_core.specs.declared.tree.Tree.{Tree, out-Tree}
use Rattle.fa_core.specs.declared.boxes.BoxDef.{BoxDef}
use Rattle.fa_core.specs.declared.faces.BoxFace.{BoxFace}
use Rattle.fa_core.specs.declared.faces.Face.{Face}
use Rattle.fa_core.specs.declared.forest.Target.{Target}
use Rattle.fa_core.specs.declared.forest.Target.TheVariants.{Null, Uninit, Dangling, At}
use Rattle.fa_core.specs.Boxes.{AreSoundOver, PortRulesFit, PortSymbolFits, faces_of, port_structs}
use Rattle.fa_core.specs.Dressed.{Node, End, node, under, leaf}
use Rattle.fa_core.specs.Filled.{SlotFits, TopsAre}
use Rattle.fa_core.specs.Folding.{symbol_slots}
use Rattle.fa_core.specs.Member.{InsidesOfEnd, bare, bare_end, leaf_symbol}
use Rattle.fa_core.specs.Placed.{placed, placed_rule, placed_auto}
use Rattle.fa_core.proofs.Dressing.{IsDressed, dress, cell_top, leaf_top, cell_is_no_leaf}
use Rattle.fa_core.proofs.FilledKept.{choice_with}
use Rattle.fa_core.proofs.Placing.{symbol_kept, placed_ranked, from_placed}
use Rattle.fa_back.specs.Insides.{AreRankedInsides}
use Rattle.fa_unfold.specs.Unfolding.{IsTop}
use Rattle.fa_unfold.proofs.FittingRules.{slot_grows, port_inside}
use Rattle.fa_unfold.proofs.GrownTrees.{IsCellOf}
use Rattle.fa_unfold.proofs.PortTrees.{is_cell}
use Rattle.fa_unfold.proofs.TableBoxes.{IsBoxOf}

abbrev pub struct_of_symbol : Symbol → ℕ
struct_of_symbol NullSymbol = 0
struct_of_symbol UninitSymbol = 0
struct_of_symbol DanglingSymbol = 0
struct_of_symbol (Ref r) = 0
struct_of_symbol (Cell s ds ss) = s

-- the struct at the top of a tree
pub tops_at_place : (ts : List Tree) (tops : List ℕ) (r s : ℕ) (t : Tree) → TopsAre ts tops → slice_get ts r ≡ Some t
    → struct_of_symbol (out-Tree t).symbol ≡ s → slice_get tops r ≡ Some s
tops_at_place [] tops r s t h e q = absurd (none-some t e)
tops_at_place (u ∷ ts) [] r s t h e q = absurd h
tops_at_place (u ∷ ts) (k ∷ tops) zero s t h e q =
    ap (λ (z : ℕ). Some z)
    (sym (ap struct_of_symbol h.0.2) ∙ ap (λ (z : Tree). struct_of_symbol (out-Tree z).symbol) (same_Some u t e) ∙ q)
tops_at_place (u ∷ ts) (k ∷ tops) (suc r) s t h e q = tops_at_place ts tops r s t h.1 e q

module _ (S : Shapes) (T : List BoxDef) (sound : AreSoundOver S [] T) (ranked : AreRankedInsides T) (b : ℕ)
    (autos : List Automaton) (k : IsBoxOf S T b autos) where
  abbrev x : BoxFace
  x = k.def.face

  abbrev lower : Face
  lower = record { shapes = S; boxes = faces_of k.before }

  abbrev face : Face
  face = record { shapes = S; boxes = faces_of T }

  -- the tops of an inside begin with the structs of the face
  port_top : (r : ℕ) (a : Automaton) → slice_get autos r ≡ Some a → (n : Node) → InLanguage a (bare n) → (s : ℕ)
      → struct_of_symbol (out-Tree (bare n)).symbol ≡ s → (zs : List ℕ)
      × (slice_get (port_structs x x.output ++ zs) r ≡ Some s)
  port_top r a e n w s q =
      let c = choice_with k.def.inside.autos k.sound.full r a (bare n)
      (subst (λ (v : List Automaton). slice_get v r ≡ Some a) (sym k.inside) e) w in
      let f = k.sound.fits c.0 c.1 in
      let g : slice_get f.tops r ≡ Some s = tops_at_place c.0 f.tops r s (bare n) f.are c.2 q in
      (f.ports.0, subst (λ (v : List ℕ). slice_get v r ≡ Some s) f.ports.1 g)

  input_is : (o : Option ℕ) (zs : List ℕ) (s : ℕ) → slice_get (port_structs x o ++ zs) 0 ≡ Some s → s ≡ x.input
  input_is None zs s e = sym (same_Some x.input s e)
  input_is (Some t) zs s e = sym (same_Some x.input s e)

  -- A rule at the top of a port's trees, with other leaves.

  module _ (f : ℕ → Target) (a : Automaton) (right : IsRanked a) (fit : PortRulesFit lower a) (z : Rule)
      (i : IsIn z (placed_auto f a).rules) (top : IsTop (placed_auto f a) z) where
    abbrev p : Automaton
    p = placed_auto f a

    pub record IsPortRule : Type 0 where
      pub struct : ℕ
      pub slots : Every (SlotFits face struct) (symbol_slots z.symbol)
      pub tree : Node
      pub there : InLanguage a (bare tree)
      pub is : struct_of_symbol (out-Tree (bare tree)).symbol ≡ struct

    leaf_port : (u : Target) → PortSymbolFits lower (leaf_symbol u)
    leaf_port Null = tt
    leaf_port Uninit = tt
    leaf_port Dangling = tt
    leaf_port (At j) = tt

    symbol_fits : PortSymbolFits lower z.symbol
    symbol_fits =
        let m = in_mapped (placed_rule f) z a.rules i in
        let g = every_in (λ (r : Rule). IsIn r.state a.roots → PortSymbolFits lower r.symbol) a.rules m.0 fit.tops m.1
        (subst (λ (r : Rule). IsIn r.state a.roots) m.2 top.0.0) in
        subst (λ (r : Rule). PortSymbolFits lower r.symbol) (sym m.2)
        (symbol_kept f (PortSymbolFits lower) leaf_port m.0.symbol g)

    slots_fit : (s : ℕ) (ds : List Datum) → IsCellOf z.symbol s ds → Every (SlotFits face s) (symbol_slots z.symbol)
    slots_fit s ds c =
        let h : PortSymbolFits lower (Cell s ds c.0) = subst (PortSymbolFits lower) c.1 symbol_fits in
        subst (λ (y : Symbol). Every (SlotFits face s) (symbol_slots y)) (sym c.1)
        (every_weaker (SlotFits lower s) (SlotFits face s) c.0
        (λ v n. slot_grows S (faces_of k.before) (faces_of T) k.grow s v n) h.2)

    pub port_rule_is : IsPortRule
    port_rule_is = told (is_cell z.symbol top.1)
        (dress T p.states p.rules (placed_ranked f a right).1
        (port_inside S T sound ranked (faces_of k.before) k.grow f a fit) 0 (run z i refl top.0.1.1.0 top.0.1.1.1))
      where
        from_end : (s : ℕ) (ds : List Datum) → IsCellOf z.symbol s ds → (e : End) → bare_end e ≡ top.0.1.0
            → InsidesOfEnd T e → IsPortRule
        from_end s ds c (leaf u) q h =
            absurd
            (cell_is_no_leaf u s ds c.0
            (sym (leaf_top u) ∙ ap (λ (v : Tree). (out-Tree v).symbol) q ∙ sym top.0.1.1.0 ∙ c.1))
        from_end s ds c (under n) q h =
            let w : InLanguage p (bare n) =
            subst (λ (v : Tree). InLanguage p v) (sym q)
            (z.state, top.0.0, run z i refl top.0.1.1.0 top.0.1.1.1) in
            let m = from_placed f T a n w h in
            record {
              struct = s;
              slots = slots_fit s ds c;
              tree = m.0;
              there = m.2;
              is = same m.0 n m.1
                  ∙ ap (λ (v : Tree). struct_of_symbol (out-Tree v).symbol) q
                  ∙ ap struct_of_symbol (sym top.0.1.1.0 ∙ c.1);
            }
          where
            same : (m n : Node) → placed f m ≡ n → struct_of_symbol (out-Tree (bare m)).symbol
                ≡ struct_of_symbol (out-Tree (bare n)).symbol
            same (node c s ds ps) n e =
                ap struct_of_symbol (cell_top c s ds ps) ∙ sym (ap struct_of_symbol (cell_top c s ds _))
                ∙ ap (λ (v : Node). struct_of_symbol (out-Tree (bare v)).symbol) e

        told : ((s : ℕ) × (ds : List Datum) × IsCellOf z.symbol s ds) → IsDressed T 0 top.0.1.0 → IsPortRule
        told (s, ds, c) h = from_end s ds c h.end h.tree h.insides

  -- the slots of such a rule of the input fit the input's struct
  pub input_rule : (f : ℕ → Target) (a : Automaton) (others : List Automaton) → autos ≡ a ∷ others → IsRanked a
      → PortRulesFit lower a → (z : Rule) → IsIn z (placed_auto f a).rules → IsTop (placed_auto f a) z
      → Every (SlotFits face x.input) (symbol_slots z.symbol)
  input_rule f a others e right fit z i top =
      let r = port_rule_is f a right fit z i top in
      let g = port_top 0 a (ap (λ (v : List Automaton). slice_get v 0) e) r.tree r.there r.struct r.is in
      subst (λ (s : ℕ). Every (SlotFits face s) (symbol_slots z.symbol)) (input_is x.output g.0 r.struct g.1) r.slots

  -- those of one of the output the output's
  pub output_rule : (f : ℕ → Target) (a c : Automaton) (others : List Automaton) → autos ≡ a ∷ (c ∷ others)
      → IsRanked c → PortRulesFit lower c → (z : Rule) → IsIn z (placed_auto f c).rules → IsTop (placed_auto f c) z
      → (o : ℕ) → x.output ≡ Some o → Every (SlotFits face o) (symbol_slots z.symbol)
  output_rule f a c others e right fit z i top o out =
      let r = port_rule_is f c right fit z i top in
      let g = port_top 1 c (ap (λ (v : List Automaton). slice_get v 1) e) r.tree r.there r.struct r.is in
      let h : slice_get (port_structs x (Some o) ++ g.0) 1 ≡ Some r.struct =
      subst (λ (v : Option ℕ). slice_get (port_structs x v ++ g.0) 1 ≡ Some r.struct) out g.1 in
      subst (λ (s : ℕ). Every (SlotFits face s) (symbol_slots z.symbol)) (sym (same_Some o r.struct h)) r.slots
