-- Members of a forest are its dressed forests with cells: the variables follow.
use Rattle.std.proofs.Common.{◌≡◌, inl, ℕ, zero, suc, ◌<◌, List, [], ◌∷◌, map, Some, refl, sym, ap, ap₂, subst, ◌∙◌}
use Rattle.std.proofs.lemmas.Option.{none-some, same_Some}
use Rattle.fore_base.specs.Heap.{NamesCell, AllDiffer, IsAlike, value_renamed, cell_renamed}
use Rattle.fore_base.specs.Lists.{IsIn, Every}
use Rattle.fore_base.specs.declared.shape.Shape.{Shape}
use Rattle.fore_base.specs.declared.store.CellRec.{CellRec}
use Rattle.fore_base.specs.declared.store.Datum.{Datum}
use Rattle.fore_base.specs.declared.store.Store.{Store}
use Rattle.fore_base.specs.declared.store.Value.{Value}
use Rattle.fore_base.specs.declared.store.Value.TheVariants.{Null as NullValue, Uninit as UninitValue}
use Rattle.fore_base.specs.declared.store.Value.TheVariants.{Dangling as DanglingValue, Cell}
use Rattle.fore_base.proofs.ListLemmas.{in_left, in_right}
use Rattle.fa_core.specs.declared.boxes.BoxDef.{BoxDef}
use Rattle.fa_core.specs.declared.forest.Forest.{Forest}
use Rattle.fa_core.specs.declared.forest.Target.{Target}
use Rattle.fa_core.specs.declared.forest.Target.TheVariants.{Null, Uninit, Dangling, At}
use Rattle.fa_core.specs.Dressed.{Node, Parts, Nodes, node, no_nodes, more, Fact, Head, facts, tree_facts, forest_facts}
use Rattle.fa_core.specs.Dressed.{number, roots_of, nth_value, value_in}
use Rattle.fa_core.specs.Member.{HasItsFields, store_facts, OfForest, StandsBy}
use Rattle.fa_core.specs.Rearranged.{Rearranged}
use Rattle.fa_core.proofs.Permuted.{in_rearranged}
use Rattle.fa_back.specs.Reached.{node_at}
use Rattle.c_cfg.specs.Edges.{struct_of}
use Rattle.sym_transfer.proofs.Facts.{fact_has, head_there}

-- the cells with the heads and fields of the dressed forest, as a store may have them
pub record IsHeap (hs : List Shape) (d : Nodes) (cs : List CellRec) (next : ℕ) : Type 0 where
  pub differ : AllDiffer cs
  pub below : Every (λ c. c.number < next) cs
  pub fields : Every (λ c. Every (NamesCell cs) c.fields) cs
  pub filled : Every (HasItsFields hs) cs
  pub same_facts : Rearranged (facts d) (store_facts cs)

-- the store of these cells whose variables are the targets and data of F
abbrev pub store_by : Nodes → Forest → List CellRec → ℕ → Store
store_by d F cs next = record
    { vars = map (value_in (roots_of d)) F.vars; data_vars = F.data_vars; cells = cs; next = next }

-- the same store by trees with the same roots and a forest with the same variables
pub same_by : (d e : Nodes) (F G : Forest) (cs : List CellRec) (next : ℕ) → roots_of e ≡ roots_of d → G.vars ≡ F.vars
    → G.data_vars ≡ F.data_vars → store_by d F cs next ≡ store_by e G cs next
same_by d e F G cs next roots vars data_vars =
    ap₂ (λ (v : List Value) (w : List Datum). record { vars = v; data_vars = w; cells = cs; next = next })
    (ap₂ (λ (rs : List Value) (ts : List Target). map (value_in rs) ts) (sym roots) (sym vars)) (sym data_vars)

-- Roots.

-- the head of the r-th root is among the facts
pub root_head : (vs : List Value) (r : ℕ) (d : Nodes) (c s : ℕ) (ds : List Datum) (ps : Parts)
    → node_at d r ≡ Some (node c s ds ps) → IsIn (Head c s ds) (forest_facts vs [] d)
root_head vs r no_nodes c s ds ps e = absurd (none-some (node c s ds ps) e)
root_head vs zero (more m ns) c s ds ps e =
    in_left (Head c s ds) (tree_facts vs m) (forest_facts vs [] ns)
    (subst (λ (x : Node). IsIn (Head c s ds) (tree_facts vs x)) (sym (same_Some m (node c s ds ps) e)) (inl refl))
root_head vs (suc r) (more m ns) c s ds ps e =
    in_right (Head c s ds) (tree_facts vs m) (forest_facts vs [] ns) (root_head vs r ns c s ds ps e)

-- what root r is
pub root_value : (r : ℕ) (d : Nodes) (n : Node) → node_at d r ≡ Some n → nth_value (roots_of d) r ≡ Cell (number n)
root_value r no_nodes n e = absurd (none-some n e)
root_value zero (more m ns) n e = ap (λ (x : Node). Cell (number x)) (same_Some m n e)
root_value (suc r) (more m ns) n e = root_value r ns n e

roots_there : (vs : List Value) (cs : List CellRec) (d : Nodes)
    → ((x : Fact) → IsIn x (forest_facts vs [] d) → IsIn x (store_facts cs)) → Every (NamesCell cs) (roots_of d)
roots_there vs cs no_nodes h = tt
roots_there vs cs (more (node c s ds ps) ns) h = (
  fact_has (Head c s ds) cs (h (Head c s ds) (inl refl)),
  roots_there vs cs ns (λ x i. h x (in_right x (tree_facts vs (node c s ds ps)) (forest_facts vs [] ns) i)),
)

nth_names : (cs : List CellRec) (vs : List Value) (k : ℕ) → Every (NamesCell cs) vs → NamesCell cs (nth_value vs k)
nth_names cs [] k h = tt
nth_names cs (v ∷ vs) zero (g, h) = g
nth_names cs (v ∷ vs) (suc k) (g, h) = nth_names cs vs k h

module _ (hs : List Shape) where
  -- each root is a cell of the store
  pub roots_named : (d : Nodes) (cs : List CellRec) (next : ℕ) → IsHeap hs d cs next → Every (NamesCell cs) (roots_of d)
  roots_named d cs next h = roots_there (roots_of d) cs d (λ x i. in_rearranged x h.same_facts i)

  -- a leaf or a variable names a cell of the store, or none
  pub value_names : (d : Nodes) (cs : List CellRec) (next : ℕ) → IsHeap hs d cs next → (t : Target)
      → NamesCell cs (value_in (roots_of d) t)
  value_names d cs next h Null = tt
  value_names d cs next h Uninit = tt
  value_names d cs next h Dangling = tt
  value_names d cs next h (At k) = nth_names cs (roots_of d) k (roots_named d cs next h)

  -- the store has the struct of the root
  pub struct_is : (d : Nodes) (cs : List CellRec) (next : ℕ) → IsHeap hs d cs next
      → (r : ℕ) (c s : ℕ) (ds : List Datum) (ps : Parts) → node_at d r ≡ Some (node c s ds ps) → struct_of cs c ≡ Some s
  struct_is d cs next h r c s ds ps e =
      head_there c s ds cs h.differ (in_rearranged (Head c s ds) h.same_facts (root_head (roots_of d) r d c s ds ps e))

every_mapped : {X Y : Type 0} (P : Y → Type 0) (g : X → Y) (xs : List X) → ((x : X) → P (g x)) → Every P (map g xs)
every_mapped P g [] h = tt
every_mapped P g (x ∷ xs) h = (h x, every_mapped P g xs h)

-- Members.

module _ (hs : List Shape) (T : List BoxDef) (F : Forest) where
  pub heap_of : (d : Nodes) (s : Store) → StandsBy hs T F d s → IsHeap hs d s.cells s.next
  heap_of d s h =
      record {
        differ = h.proper.differ;
        below = h.proper.below;
        fields = h.proper.fields;
        filled = h.fields;
        same_facts = h.same_facts;
      }

  pub is_by : (d : Nodes) (s : Store) → StandsBy hs T F d s → s ≡ store_by d F s.cells s.next
  is_by d s h =
      ap₂ (λ (v : List Value) (w : List Datum). record { vars = v; data_vars = w; cells = s.cells; next = s.next })
      h.vars h.data_vars

  pub stands_by : (d : Nodes) (cs : List CellRec) (next : ℕ) → OfForest T F d → IsHeap hs d cs next
      → StandsBy hs T F d (store_by d F cs next)
  stands_by d cs next o h = record {
    proper =
        record {
          differ = h.differ;
          below = h.below;
          vars = every_mapped (NamesCell cs) (value_in (roots_of d)) F.vars (value_names hs d cs next h);
          fields =
              h.fields;
        };
    fields = h.filled;
    of = o;
    same_facts = h.same_facts;
    vars = refl;
    data_vars = refl;
  }

-- The same store.

value_by_none : (v : Value) → value_renamed (λ n. n) v ≡ v
value_by_none NullValue = refl
value_by_none UninitValue = refl
value_by_none DanglingValue = refl
value_by_none (Cell n) = refl

pub values_by_none : (vs : List Value) → map (value_renamed (λ n. n)) vs ≡ vs
values_by_none [] = refl
values_by_none (v ∷ vs) = ap₂ (λ (x : Value) (xs : List Value). x ∷ xs) (value_by_none v) (values_by_none vs)

pub cells_by_none : (cs : List CellRec) → map (cell_renamed (λ n. n)) cs ≡ cs
cells_by_none [] = refl
cells_by_none (c ∷ cs) =
    ap₂ (λ (x : List Value) (xs : List CellRec). record c { fields = x } ∷ xs) (values_by_none c.fields)
    (cells_by_none cs)

-- equal stores are alike, by the renaming that changes nothing
abbrev pub alike_equal : (s t : Store) → s ≡ t → IsAlike s t
alike_equal s t e = record {
  to = λ n. n;
  one_to_one = λ m n i j p. p;
  vars = ap (λ (z : Store). z.vars) (sym e) ∙ sym (values_by_none s.vars);
  data_vars = ap (λ (z : Store). z.data_vars) (sym e);
  cells =
      record { moves = []; below = tt; is = ap (λ (z : Store). z.cells) (sym e) ∙ sym (cells_by_none s.cells) };
}
