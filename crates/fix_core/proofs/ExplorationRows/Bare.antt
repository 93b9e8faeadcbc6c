-- Forests without cells, of one pointer variable that is null or was never set, and their members.
use Rattle.std.proofs.Common.{◌≡◌, ◌<◌, ℕ, List, [], ◌∷◌, length, slice_get, None, Some, true, false, refl, sym}
use Rattle.std.proofs.Common.{◌∙◌, ap, arith}
use Rattle.fore_base.specs.declared.store.CellRec.{CellRec}
use Rattle.fore_base.specs.declared.store.Datum.{Datum}
use Rattle.fore_base.specs.declared.store.Store.{Store}
use Rattle.fore_base.specs.declared.store.Value.{Value}
use Rattle.fore_base.specs.declared.store.Value.TheVariants.{Null as NullValue, Uninit as UninitValue}
use Rattle.fore_base.specs.Heap.{IsAlike, NamesCell}
use Rattle.ta_core.specs.declared.tree.Tree.{Tree}
use Rattle.fa_core.specs.Boxes.{Boxes}
use Rattle.fa_core.specs.Canonical.{IsCanonical, Walks, ended, GoesOn, refs_at, var_roots, IsRootKind, IsUntied}
use Rattle.fa_core.specs.Dressed.{Nodes, no_nodes, more, value_in}
use Rattle.fa_core.specs.Filled.{Choice, ChoiceFilled, IsFilled, IsSound, IsWellFormed}
use Rattle.fa_core.specs.Member.{StandsBy, store_facts}
use Rattle.fa_core.specs.Rearranged.{empty}
use Rattle.fa_core.specs.declared.forest.Forest.{Forest}
use Rattle.fa_core.specs.declared.forest.Target.{Target}
use Rattle.fa_core.specs.declared.forest.Target.TheVariants.{Null, Uninit, At}
use Rattle.c_cfg.proofs.Moving.{permuted, none}
use Rattle.c_cfg.specs.Graphs.{ControlGraph}
use Rattle.c_cfg.specs.declared.graph.Edge.{Edge}
use Rattle.c_cfg.specs.declared.graph.Instr.{Instr}
use Rattle.fix_core.specs.declared.nodes.Node.{Node}
use Rattle.fix_core.specs.Follows.{IsMember}
use Rattle.fix_core.specs.States.{AbstractState}
use Rattle.fix_core.proofs.NoCells.{nothing, no_cells}

-- no struct, and no box
abbrev pub table : Boxes
table = record { face = record { shapes = record { structs = [] }; boxes = [] }; defs = [] }

-- no component, and one variable
abbrev pub bare : Target → Forest
bare t = record { autos = []; vars = t ∷ []; data_vars = [] }

-- the store with one variable and no cell
abbrev pub holding : Value → ℕ → Store
holding v next = record { vars = v ∷ []; data_vars = []; cells = []; next = next }

-- states and nodes
abbrev pub as_it_is : Forest → AbstractState
as_it_is F = record { face = table.face; forest = F; middle = None; folds = [] }

abbrev pub from_case : Forest → Forest → AbstractState
from_case M F = record { face = table.face; forest = F; middle = Some M; folds = [] }

abbrev pub entry : Node
entry =
    record { head = record { location = 0; parent = None; edge = None; choice = None }; state = as_it_is (bare Uninit) }

-- a node at the location, reached from node p by edge c, which has no choice
abbrev pub reached : ℕ → ℕ → ℕ → AbstractState → Node
reached location p c a =
    record { head = record { location = location; parent = Some p; edge = Some c; choice = None }; state = a }

-- an edge without a choice
abbrev pub edge : ℕ → ℕ → ℕ → Instr → Edge
edge from to line instr = record { from = from; to = to; instr = instr; choice = None; line = line }

-- four locations, of which location 2 is a loop head
abbrev pub graph_of : List Edge → ControlGraph
graph_of edges = record {
  locations = 4;
  ptrs = 1;
  datums = 0;
  edges = edges;
  heads = false ∷ false ∷ true ∷ false ∷ [];
  shapes = record { structs = [] };
}

store_is : (s : Store) (v : Value) → s.vars ≡ v ∷ [] → s.data_vars ≡ [] → s.cells ≡ [] → s ≡ holding v s.next
store_is s v a b c =
    ap (λ (z : List Value). record { vars = z; data_vars = s.data_vars; cells = s.cells; next = s.next }) a
    ∙ ap (λ (z : List Datum). record { vars = v ∷ []; data_vars = z; cells = s.cells; next = s.next }) b
    ∙ ap (λ (z : List CellRec). record { vars = v ∷ []; data_vars = []; cells = z; next = s.next }) c

-- a store is alike to itself
pub alike_null : (next : ℕ) → IsAlike (holding NullValue next) (holding NullValue next)
alike_null next = record
    { to = λ n. n; one_to_one = λ m n h k e. e; vars = refl; data_vars = refl; cells = permuted none }

module _ (t : Target) (v : Value) (no_root : (r : ℕ) → t ≡ At r → ⊥) (value : value_in [] t ≡ v)
    (named : NamesCell [] v)
    (no_roots : var_roots (t ∷ []) ≡ []) where
  filled : IsFilled table.face (bare t)
  filled = record { data_vars = tt; rules = tt; trees = λ ts c. trees ts c }
    where
      trees : (ts : List Tree) → Choice [] ts → ChoiceFilled table.face (bare t) ts
      trees [] c = record { tops = []; are = tt; vars = (λ r e. absurd (no_root r e), tt); cells = tt }
      trees (u ∷ ts) c = absurd c

  well_formed : IsWellFormed table.face (bare t)
  well_formed = record { filled = filled; signatures = tt }

  pub sound : IsSound table.face (bare t)
  sound = record { well_formed = well_formed; full = tt }

  pub canonical : IsCanonical table.face (bare t)
  canonical = record {
    well_formed = well_formed;
    tops = tt;
    kinds = λ ts c r less. kinds ts c r less;
    untied = λ ts c. untied ts c;
    order = λ ts c. order ts c;
  }
    where
      kinds : (ts : List Tree) → Choice [] ts → (r : ℕ) → r < length ts → IsRootKind [] (t ∷ []) ts r
      kinds [] c r less = absurd (omega (arith, less))
      kinds (u ∷ ts) c r less = absurd c

      untied : (ts : List Tree) → Choice [] ts → IsUntied (t ∷ []) ts
      untied [] c = λ r x y shared is. absurd (nowhere r x is)
        where
          nowhere : (r : ℕ) (x : Tree) → slice_get [] r ≡ Some x → ⊥
          nowhere r x is = cc
      untied (u ∷ ts) c = absurd c

      order : (ts : List Tree) → Choice [] ts → Walks (refs_at ts) (GoesOn [] ts) (var_roots (t ∷ [])) 0 (length ts)
      order [] c = rw no_roots ended
      order (u ∷ ts) c = absurd c

  -- its members are the stores that hold the value
  pub stands_by : (next : ℕ) → StandsBy [] [] (bare t) no_nodes (holding v next)
  stands_by next = record {
    proper = record { differ = tt; below = tt; vars = (named, tt); fields = tt };
    fields = tt;
    of = tt;
    same_facts = empty;
    vars = ap (λ z. z ∷ []) (sym value);
    data_vars = refl;
  }

  pub member : (next : ℕ) → IsMember table (bare t) (holding v next)
  member next = (no_nodes, stands_by next)

  pub is_holding_by : (d : Nodes) (s : Store) → StandsBy [] [] (bare t) d s → (s ≡ holding v s.next) × (d ≡ no_nodes)
  is_holding_by no_nodes s b = (
    store_is s v (b.vars ∙ ap (λ z. z ∷ []) value) b.data_vars
        (no_cells s.cells (nothing [] (store_facts s.cells) b.same_facts refl)),
    refl,
  )
  is_holding_by (more n ns) s b = absurd b.of

  pub is_holding : (s : Store) → IsMember table (bare t) s → s ≡ holding v s.next
  is_holding s m = (is_holding_by m.0 s m.1).0

-- the null one, and the one that was never set
null_no_root : (r : ℕ) → Null ≡ At r → ⊥
null_no_root r e = cc

uninit_no_root : (r : ℕ) → Uninit ≡ At r → ⊥
uninit_no_root r e = cc

pub null_sound : IsSound table.face (bare Null)
null_sound = sound Null NullValue null_no_root refl tt refl

pub null_canonical : IsCanonical table.face (bare Null)
null_canonical = canonical Null NullValue null_no_root refl tt refl

pub null_stands : (next : ℕ) → StandsBy [] [] (bare Null) no_nodes (holding NullValue next)
null_stands = stands_by Null NullValue null_no_root refl tt refl

pub null_member : (next : ℕ) → IsMember table (bare Null) (holding NullValue next)
null_member = member Null NullValue null_no_root refl tt refl

pub null_by : (d : Nodes) (s : Store) → StandsBy [] [] (bare Null) d s → (s ≡ holding NullValue s.next) × (d ≡ no_nodes)
null_by = is_holding_by Null NullValue null_no_root refl tt refl

pub null_only : (s : Store) → IsMember table (bare Null) s → s ≡ holding NullValue s.next
null_only = is_holding Null NullValue null_no_root refl tt refl

pub unset_sound : IsSound table.face (bare Uninit)
unset_sound = sound Uninit UninitValue uninit_no_root refl tt refl

pub unset_canonical : IsCanonical table.face (bare Uninit)
unset_canonical = canonical Uninit UninitValue uninit_no_root refl tt refl

pub unset_stands : (next : ℕ) → StandsBy [] [] (bare Uninit) no_nodes (holding UninitValue next)
unset_stands = stands_by Uninit UninitValue uninit_no_root refl tt refl

pub unset_member : (next : ℕ) → IsMember table (bare Uninit) (holding UninitValue next)
unset_member = member Uninit UninitValue uninit_no_root refl tt refl

pub unset_only : (s : Store) → IsMember table (bare Uninit) s → s ≡ holding UninitValue s.next
unset_only = is_holding Uninit UninitValue uninit_no_root refl tt refl
