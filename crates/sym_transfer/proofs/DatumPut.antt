-- Another datum in a data field of a root: the head of its cell is a fact in front of others, which stay, and so do box
-- edges.
use Rattle.std.proofs.Common.{◌≡◌, ◌⊎◌, inl, inr, ℕ, zero, suc, List, [], ◌∷◌, ◌++◌, slice_get, slice_set, Some, refl}
use Rattle.std.proofs.Common.{sym, ap, subst, ◌∙◌}
use Rattle.std.proofs.lemmas.Option.{none-some, same_Some}
use Rattle.fore_base.specs.Lists.{IsIn}
use Rattle.fore_base.specs.declared.store.Datum.{Datum}
use Rattle.fore_base.specs.declared.store.Value.{Value}
use Rattle.fore_base.specs.declared.store.Value.TheVariants.{Cell}
use Rattle.fore_base.proofs.ListLemmas.{in_left, in_right, in_append}
use Rattle.fa_core.specs.Dressed.{Node, Parts, Nodes, node, no_nodes, more, Fact, Head, facts, tree_facts, slot_facts}
use Rattle.fa_core.specs.Dressed.{forest_facts, number, roots_of, SeenCell, seen, cells, forest_cells, tree_cells}
use Rattle.fa_core.specs.Rearranged.{Rearranged, chain}
use Rattle.fa_core.proofs.Rearranging.{equal, after, middle}
use Rattle.fa_back.specs.Reached.{node_at}
use Rattle.fa_edit.specs.Data.{top_datums, with_datum, datum_put, HasDatum}
use Rattle.sym_core.specs.Kept.{HasBoxEdge}
use Rattle.sym_transfer.proofs.Places.{set_same, set_twice}

pub datum_number : (f : ℕ) (x : Datum) (n : Node) → number (with_datum f x n) ≡ number n
datum_number f x (node c s ds ps) = refl

pub datum_roots : (r f : ℕ) (x : Datum) (d : Nodes) → roots_of (datum_put r f x d) ≡ roots_of d
datum_roots zero f x no_nodes = refl
datum_roots (suc r) f x no_nodes = refl
datum_roots zero f x (more n ns) = ap (λ (k : ℕ). Cell k ∷ roots_of ns) (datum_number f x n)
datum_roots (suc r) f x (more n ns) = ap (λ (vs : List Value). Cell (number n) ∷ vs) (datum_roots r f x ns)

pub datum_node : (r f : ℕ) (x : Datum) (d : Nodes) (n : Node) → node_at d r ≡ Some n → node_at (datum_put r f x d) r
    ≡ Some (with_datum f x n)
datum_node zero f x no_nodes n e = absurd (none-some n e)
datum_node (suc r) f x no_nodes n e = absurd (none-some n e)
datum_node zero f x (more m ns) n e = ap (λ (y : Node). Some (with_datum f x y)) (same_Some m n e)
datum_node (suc r) f x (more m ns) n e = datum_node r f x ns n e

pub datum_put_same : (r f : ℕ) (y : Datum) (d : Nodes) → HasDatum d r f y → datum_put r f y d ≡ d
datum_put_same zero f y no_nodes h = refl
datum_put_same (suc r) f y no_nodes h = refl
datum_put_same zero f y (more (node c s ds ps) ns) (n, e, h) =
    ap (λ (x : List Datum). more (node c s x ps) ns)
    (set_same ds f y
    (subst (λ (m : Node). slice_get (top_datums m) f ≡ Some y) (sym (same_Some (node c s ds ps) n e)) h))
datum_put_same (suc r) f y (more m ns) h = ap (λ (x : Nodes). more m x) (datum_put_same r f y ns h)

pub datum_put_twice : (r f : ℕ) (x y : Datum) (d : Nodes) → datum_put r f y (datum_put r f x d) ≡ datum_put r f y d
datum_put_twice zero f x y no_nodes = refl
datum_put_twice (suc r) f x y no_nodes = refl
datum_put_twice zero f x y (more (node c s ds ps) ns) =
    ap (λ (z : List Datum). more (node c s z ps) ns) (set_twice ds f x y)
datum_put_twice (suc r) f x y (more m ns) = ap (λ (z : Nodes). more m z) (datum_put_twice r f x y ns)

forest_head : (vs : List Value) (r c s : ℕ) (ds : List Datum) (ps : Parts) (d : Nodes)
    → node_at d r ≡ Some (node c s ds ps) → (R : List Fact)
    × ((f : ℕ) (x : Datum) → Rearranged (forest_facts vs [] (datum_put r f x d)) (Head c s (slice_set ds f x) ∷ R))
forest_head vs zero c s ds ps no_nodes e = absurd (none-some (node c s ds ps) e)
forest_head vs (suc r) c s ds ps no_nodes e = absurd (none-some (node c s ds ps) e)
forest_head vs zero c s ds ps (more m ns) e = (
  slot_facts vs c ps ++ forest_facts vs [] ns,
  λ f x.
      equal
      (ap (λ (y : Node). tree_facts vs (with_datum f x y) ++ forest_facts vs [] ns) (same_Some m (node c s ds ps) e)),
)
forest_head vs (suc r) c s ds ps (more m ns) e =
    let k = forest_head vs r c s ds ps ns e in (
      tree_facts vs m ++ k.0,
      λ f x. chain (after (tree_facts vs m) (k.1 f x)) (middle (tree_facts vs m) (Head c s (slice_set ds f x)) k.0),
    )

pub facts_head : (r c s : ℕ) (ds : List Datum) (ps : Parts) (d : Nodes) → node_at d r ≡ Some (node c s ds ps)
    → (R : List Fact) × ((f : ℕ) (x : Datum) → Rearranged (facts (datum_put r f x d)) (Head c s (slice_set ds f x) ∷ R))
facts_head r c s ds ps d e =
    let k = forest_head (roots_of d) r c s ds ps d e in (
      k.0,
      λ f x.
          subst (λ (vs : List Value).
          Rearranged (forest_facts vs [] (datum_put r f x d)) (Head c s (slice_set ds f x) ∷ k.0))
          (sym (datum_roots r f x d)) (k.1 f x),
    )

forest_datum_edges : (vs : List Value) (r f : ℕ) (y : Datum) (d : Nodes) → (m b : ℕ)
    → HasBoxEdge (forest_cells vs d) m b → HasBoxEdge (forest_cells vs (datum_put r f y d)) m b
forest_datum_edges vs zero f y no_nodes m b k = k
forest_datum_edges vs (suc r) f y no_nodes m b k = k
forest_datum_edges vs zero f y (more (node c s ds ps) ns) m b (x, inl p, q, i) = (
  record { cell = c; shape = s; datums = slice_set ds f y; slots = seen vs ps },
  inl refl,
  ap (λ (z : SeenCell). z.cell) (sym p) ∙ q,
  (i.0, subst (λ (z : SeenCell). IsIn i.0 z.slots) p i.1, i.2),
)
forest_datum_edges vs zero f y (more (node c s ds ps) ns) m b (x, inr p, q, i) = (x, inr p, q, i)
forest_datum_edges vs (suc r) f y (more n ns) m b (x, p, q, i) =
    here (in_append x (tree_cells vs n) (forest_cells vs ns) p) (forest_datum_edges vs r f y ns m b)
  where
    here : IsIn x (tree_cells vs n) ⊎ IsIn x (forest_cells vs ns)
        → (HasBoxEdge (forest_cells vs ns) m b → HasBoxEdge (forest_cells vs (datum_put r f y ns)) m b)
        → HasBoxEdge (tree_cells vs n ++ forest_cells vs (datum_put r f y ns)) m b
    here (inl a) rest = (x, in_left x (tree_cells vs n) (forest_cells vs (datum_put r f y ns)) a, q, i)
    here (inr a) rest =
        let z = rest (x, a, q, i) in
        (z.0, in_right z.0 (tree_cells vs n) (forest_cells vs (datum_put r f y ns)) z.1, z.2, z.3)

pub datum_edges : (r f : ℕ) (y : Datum) (d : Nodes) → (m b : ℕ) → HasBoxEdge (cells d) m b
    → HasBoxEdge (cells (datum_put r f y d)) m b
datum_edges r f y d m b k =
    subst (λ (vs : List Value). HasBoxEdge (forest_cells vs (datum_put r f y d)) m b) (sym (datum_roots r f y d))
    (forest_datum_edges (roots_of d) r f y d m b k)
