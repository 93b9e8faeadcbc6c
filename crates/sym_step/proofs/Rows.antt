-- Worked values: what each kind of edge needs, faults without faces, forests with as many variables, and roots to which
-- ways back lead.
use Rattle.std.proofs.Common.{◌≡◌, inl, inr, ℕ, true, false, true≢false, List, [], ◌∷◌, map, refl, sym, ap, subst}
use Rattle.std.proofs.Common.{Some, arith}
use Rattle.fore_base.specs.Lists.{Every}
use Rattle.fore_base.specs.declared.fault.Fault.TheVariants.{NullDeref}
use Rattle.fore_base.specs.declared.store.Datum.TheVariants.{Known, Undefined}
use Rattle.ta_core.specs.Auto.{Automaton, automaton}
use Rattle.ta_core.specs.Language.{InLanguage, RunOf, RunEach, run, run_more, run_none}
use Rattle.ta_core.specs.declared.auto.Rule.{Rule}
use Rattle.ta_core.specs.declared.symbol.Slot.TheVariants.{Link}
use Rattle.ta_core.specs.declared.symbol.Symbol.TheVariants.{Ref, Cell as CellSymbol}
use Rattle.ta_core.specs.declared.tree.Tree.{Tree, Tree-F, fold-roll-Tree, out-roll-Tree, roll-Tree}
use Rattle.fa_core.specs.declared.faces.BoxFace.{BoxFace}
use Rattle.fa_core.specs.declared.signature.RefMark.{RefMark}
use Rattle.fa_core.specs.Ways.{Way, signature, ways, ways_at}
use Rattle.fa_core.specs.declared.faces.Face.{Face}
use Rattle.fa_core.specs.declared.forest.Forest.{Forest}
use Rattle.fa_core.specs.declared.forest.Target.TheVariants.{Null, At}
use Rattle.fa_sound.specs.Soundness.{SoundForest}
use Rattle.c_cfg.specs.declared.graph.Const.TheVariants.{Null as ConstNull, Known as ConstKnown}
use Rattle.c_cfg.specs.declared.graph.DataArg.TheVariants.{Var as ArgVar}
use Rattle.c_cfg.specs.declared.graph.PtrArg.TheVariants.{Var as PtrVar}
use Rattle.c_cfg.specs.declared.graph.Instr.TheVariants.{CopyPtr, LoadPtr, StorePtr, StoreConst, New, Free, Kill}
use Rattle.c_cfg.specs.declared.graph.Instr.TheVariants.{CopyData, LoadData, StoreData, TestPtr, TestData, Choose, Stop}
use Rattle.sym_step.specs.Freed.{NeverLeadsBack}
use Rattle.sym_step.specs.Posts.{bads, HasAsMany}
use Rattle.sym_step.specs.inner.Needing.{needs_of}
use Rattle.sym_step.specs.declared.needs.Needed.TheVariants.{Nothing, Field, Cell}

-- What edges need: `x1 = x2->f3`, `x1->f3 = x2`, `x1->f3 = NULL`, `x1->f3 = 5`, `free(x2)`.

a_load : needs_of (LoadPtr 1 2 3) ≡ Field 2 3
a_load = refl

a_store : needs_of (StorePtr 1 3 2) ≡ Field 1 3
a_store = refl

a_store_of_null : needs_of (StoreConst 1 3 ConstNull) ≡ Field 1 3
a_store_of_null = refl

a_store_of_a_number : needs_of (StoreConst 1 3 (ConstKnown 5)) ≡ Nothing
a_store_of_a_number = refl

a_free : needs_of (Free 2) ≡ Cell 2
a_free = refl

-- the others need no pointer field

a_copy : needs_of (CopyPtr 1 (PtrVar 2)) ≡ Nothing
a_copy = refl

a_new : needs_of (New 1 0) ≡ Nothing
a_new = refl

a_kill : needs_of (Kill (1 ∷ []) []) ≡ Nothing
a_kill = refl

a_copy_of_data : needs_of (CopyData 1 (ArgVar 2)) ≡ Nothing
a_copy_of_data = refl

a_load_of_data : needs_of (LoadData 1 2 3) ≡ Nothing
a_load_of_data = refl

a_store_of_data : needs_of (StoreData 1 3 2) ≡ Nothing
a_store_of_data = refl

a_test : needs_of (TestPtr (PtrVar 1) (PtrVar 2) true) ≡ Nothing
a_test = refl

a_test_of_data : needs_of (TestData (ArgVar 1) (ArgVar 2) false) ≡ Nothing
a_test_of_data = refl

a_choice : needs_of (Choose (Some 1)) ≡ Nothing
a_choice = refl

a_stop : needs_of (Stop true) ≡ Nothing
a_stop = refl

-- Forests of one root and of two.

abbrev auto : Automaton
auto = automaton 1 (0 ∷ []) []

abbrev face : Face
face = record { shapes = record { structs = [] }; boxes = [] }

abbrev one : Forest
one = record { autos = auto ∷ []; vars = At 0 ∷ Null ∷ []; data_vars = Known 1 ∷ [] }

abbrev two : Forest
two = record { autos = auto ∷ auto ∷ []; vars = At 0 ∷ At 1 ∷ []; data_vars = Undefined ∷ [] }

abbrev short : Forest
short = record { autos = []; vars = Null ∷ []; data_vars = Known 1 ∷ [] }

abbrev signed : Forest → SoundForest
signed F = record { forest = F; face = face; signatures = [] }

two_has_as_many : HasAsMany one two
two_has_as_many = (refl, refl)

short_has_fewer : HasAsMany one short → ⊥
short_has_fewer h = let w = h.0 in omega (arith, w)

one_bad : bads (record { fault = NullDeref; at = signed two } ∷ []) ≡ record { fault = NullDeref; at = two } ∷ []
one_bad = refl

-- Roots to which no way back leads: the cell of root 0 has an edge of box dll to root 1, which leads back from there,
-- and root 1 has no tree.

abbrev dll : List BoxFace
dll = record { input = 0; output = Some 0; gives_in = 0 ∷ []; gives_out = 1 ∷ []; back = true } ∷ []

abbrev rules : List Rule
rules =
    record { state = 0; symbol = CellSymbol 0 [] (Link 0 ∷ []); children = 1 ∷ [] }
    ∷ record { state = 1; symbol = Ref 1; children = [] } ∷ []

abbrev linked : Forest
linked =
    record {
      autos = automaton 2 (0 ∷ []) rules ∷ automaton 1 (0 ∷ []) [] ∷ [];
      vars = At 0 ∷ At 1 ∷ [];
      data_vars = [];
    }

opened : (x : Tree-F Tree) → ways (roll-Tree x) ≡ ways_at x.symbol (map ways x.children)
opened x = fold-roll-Tree (List Way) (λ t. ways_at t.symbol t.children) x

abbrev end_layer : Tree-F Tree
end_layer = record { symbol = Ref 1; children = [] }

abbrev top_layer : Tree-F Tree
top_layer = record { symbol = CellSymbol 0 [] (Link 0 ∷ []); children = roll-Tree end_layer ∷ [] }

end_runs : RunOf rules 1 (roll-Tree end_layer)
end_runs =
    run (record { state = 1; symbol = Ref 1; children = [] }) (inr (inl refl)) refl
    (sym (ap (λ (x : Tree-F Tree). x.symbol) (out-roll-Tree end_layer)))
    (subst (RunEach rules []) (sym (ap (λ (x : Tree-F Tree). x.children) (out-roll-Tree end_layer))) run_none)

top_runs : InLanguage (automaton 2 (0 ∷ []) rules) (roll-Tree top_layer)
top_runs = (
  0,
  inl refl,
  run (record { state = 0; symbol = CellSymbol 0 [] (Link 0 ∷ []); children = 1 ∷ [] }) (inl refl) refl
      (sym (ap (λ (x : Tree-F Tree). x.symbol) (out-roll-Tree top_layer)))
      (subst (RunEach rules (1 ∷ [])) (sym (ap (λ (x : Tree-F Tree). x.children) (out-roll-Tree top_layer)))
      (run_more end_runs run_none)),
)

top_ways : ways (roll-Tree top_layer) ≡ record { root = 1; steps = record { slot = Link 0; refers = 1 ∷ [] } ∷ [] } ∷ []
top_ways = simp opened

top_sign : signature dll (roll-Tree top_layer)
    ≡ record { root = 1; many = false; provided = 1 ∷ []; back = true; reach = 1 ∷ [] } ∷ []
top_sign = rw top_ways refl

an_edge_leads_back : NeverLeadsBack dll linked 0 → ⊥
an_edge_leads_back h =
    true≢false
    (subst (λ (ms : List RefMark). Every (λ m. m.back ≡ false) ms) top_sign (h (roll-Tree top_layer) top_runs)).0

no_tree_runs : (q : ℕ) (t : Tree) → RunOf [] q t → ⊥
no_tree_runs q t (run r i e w c) = i

no_tree_leads_back : NeverLeadsBack dll linked 1
no_tree_leads_back t i = absurd (no_tree_runs i.0 t i.2)
