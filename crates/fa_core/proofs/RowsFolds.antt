-- A worked part and its fold: two cells of a doubly linked list that refer to each other, and the edge in their place.
use Rattle.std.proofs.Common.{◌≡◌, inl, inr, ℕ, zero, suc, List, [], ◌∷◌, ◌++◌, map, refl, sym, ap, ap₂, subst, ◌∙◌}
use Rattle.std.proofs.Common.{Some, slice_get, arith}
use Rattle.std.proofs.lemmas.Bool.{ne_eqb}
use Rattle.std.proofs.lemmas.Option.{none-some, same_Some}
use Rattle.fore_base.specs.Lists.{IsIn, IsDistinct}
use Rattle.fore_base.specs.declared.store.Datum.{Datum}
use Rattle.ta_core.specs.Auto.{Automaton}
use Rattle.ta_core.specs.Language.{InLanguage}
use Rattle.ta_core.specs.Single.{HasOneTop}
use Rattle.ta_core.specs.declared.auto.Rule.{Rule}
use Rattle.ta_core.specs.declared.symbol.Slot.{Slot}
use Rattle.ta_core.specs.declared.symbol.Slot.TheVariants.{Field, Link}
use Rattle.ta_core.specs.declared.symbol.Symbol.{Symbol}
use Rattle.ta_core.specs.declared.symbol.Symbol.TheVariants.{Null, Ref, Cell}
use Rattle.ta_core.specs.declared.tree.Tree.{Tree, roll-Tree, out-Tree, out-roll-Tree, fold-roll-Tree}
use Rattle.fa_core.specs.declared.forest.Forest.{Forest}
use Rattle.fa_core.specs.declared.forest.Target.TheVariants.{Null as NullTarget, At}
use Rattle.fa_core.specs.Dressed.{Node, node, no_parts, field, link, leaf, no_nodes}
use Rattle.fa_core.specs.Filled.{covers, least, IsInOrder}
use Rattle.fa_core.specs.Folding.{covered_fields, top_places, cell_of, left, moved_symbol, moved_tree, moved_places}
use Rattle.fa_core.specs.Folding.{all_placed, is_placed, position, ArePortFields, port_refs, ArePartRoots, IsLanguageOf}
use Rattle.fa_core.specs.Folding.{port_tree, IsPart, number_without, box_slot, gained, taken_at, IsFoldedTree}
use Rattle.fa_core.specs.Folding.{IsFoldedAuto, FoldOf}
use Rattle.fa_core.specs.Member.{bare}
use Rattle.fa_core.specs.Rearranged.{Rearranged, chain, IsRising}
use Rattle.fa_core.specs.Ways.{ways}
use Rattle.fa_core.proofs.Dressing.{cell_top}
use Rattle.fa_core.proofs.NodeRuns.{EndRun, node_bare}
use Rattle.fa_core.proofs.Rearranging.{same, back as turned}
use Rattle.fa_core.proofs.RowsBack.{dll, null, opened, ref}
use Rattle.fa_core.proofs.RowsBoxes.{port, port_node, port_runs, port_single, port_covers, dll_box}
use Rattle.fa_core.proofs.RowsCanonical.{rule, three}
use Rattle.fa_core.proofs.SameKeys.{same_by_keys}
use Rattle.fa_core.proofs.SingleTrees.{IsSingle, single_tree, single_choice}

-- Root 0 is the second cell, at which the variable is; root 1 the first.

-- an automaton with one cell, over a null pointer at state 1 and a reference at state 2
abbrev over : List Slot → List ℕ → ℕ → Automaton
over ss qs r =
    record { states = 3; roots = 0 ∷ []; rules = rule 0 (Cell 0 [] ss) qs ∷ rule 1 Null [] ∷ rule 2 (Ref r) [] ∷ [] }

over_single : (ss : List Slot) (qs : List ℕ) (r : ℕ) → IsSingle (over ss qs r)
over_single ss qs r = ((refl, (refl, (refl, tt))), (0, refl))

abbrev fields : List Slot
fields = Field 0 ∷ Field 1 ∷ Field 2 ∷ []

abbrev second_auto : Automaton
second_auto = over fields (1 ∷ 2 ∷ 1 ∷ []) 1

abbrev first_auto : Automaton
first_auto = over fields (2 ∷ 1 ∷ 1 ∷ []) 0

abbrev two_cells : Forest
two_cells = record { autos = second_auto ∷ first_auto ∷ []; vars = At 0 ∷ []; data_vars = [] }

abbrev second_node : Node
second_node = node 0 0 [] (field 0 (leaf NullTarget) (field 1 (leaf (At 1)) (field 2 (leaf NullTarget) no_parts)))

abbrev first_node : Node
first_node = node 1 0 [] (field 0 (leaf (At 0)) (field 1 (leaf NullTarget) (field 2 (leaf NullTarget) no_parts)))

module _ (ss : List Slot) (qs : List ℕ) (r : ℕ) where
  nil : EndRun (over ss qs r).rules 1 (leaf NullTarget)
  nil = (rule 1 Null [], inr (inl refl), refl, refl, refl)

  to_root : EndRun (over ss qs r).rules 2 (leaf (At r))
  to_root = (rule 2 (Ref r) [], inr (inr (inl refl)), refl, refl, refl)

second_runs : InLanguage second_auto (bare second_node)
second_runs = (
  0,
  inl refl,
  node_bare second_auto.rules 0 second_node (
    rule 0 three (1 ∷ 2 ∷ 1 ∷ []),
    inl refl,
    refl,
    refl,
    (nil fields (1 ∷ 2 ∷ 1 ∷ []) 1, (to_root fields (1 ∷ 2 ∷ 1 ∷ []) 1, (nil fields (1 ∷ 2 ∷ 1 ∷ []) 1, tt))),
  ),
)

first_runs : InLanguage first_auto (bare first_node)
first_runs = (
  0,
  inl refl,
  node_bare first_auto.rules 0 first_node (
    rule 0 three (2 ∷ 1 ∷ 1 ∷ []),
    inl refl,
    refl,
    refl,
    (to_root fields (2 ∷ 1 ∷ 1 ∷ []) 0, (nil fields (2 ∷ 1 ∷ 1 ∷ []) 0, (nil fields (2 ∷ 1 ∷ 1 ∷ []) 0, tt))),
  ),
)

-- Places of the trees.

abbrev place : Slot → Tree → Slot × List Tree
place s t = (s, t ∷ [])

second_places : top_places (bare second_node) ≡ place (Field 0) null ∷ place (Field 1) (ref 1) ∷ place (Field 2) null
    ∷ []
second_places = let e = out-roll-Tree (record { symbol = Cell 0 [] fields; children = null ∷ ref 1 ∷ null ∷ [] }) in
    rw e refl

first_places : top_places (bare first_node) ≡ place (Field 0) (ref 0) ∷ place (Field 1) null ∷ place (Field 2) null ∷ []
first_places = let e = out-roll-Tree (record { symbol = Cell 0 [] fields; children = ref 0 ∷ null ∷ null ∷ [] }) in
    rw e refl

moved_ref : (f : ℕ → ℕ) (r : ℕ) → moved_tree f (ref r) ≡ ref (f r)
moved_ref f r = fold-roll-Tree Tree
    (λ t. roll-Tree (record { symbol = moved_symbol f t.symbol; children = t.children }))
    (record { symbol = Ref r; children = [] })

moved_null : (f : ℕ → ℕ) → moved_tree f null ≡ null
moved_null f = fold-roll-Tree Tree (λ t. roll-Tree (record { symbol = moved_symbol f t.symbol; children = t.children }))
    (record { symbol = Null; children = [] })

ref_ways : (r : ℕ) → ways (ref r) ≡ record { root = r; steps = [] } ∷ []
ref_ways r = opened (record { symbol = Ref r; children = [] })

-- The part.

abbrev ports : List (ℕ × List ℕ)
ports = (1, 0 ∷ []) ∷ (0, 1 ∷ []) ∷ []

-- references go to the places in the part
abbrev places_in : ℕ → ℕ
places_in = position (1 ∷ 0 ∷ [])

input_tree : port_tree places_in 0 (0 ∷ []) (bare first_node) ≡ bare (port_node 0 0 1)
input_tree = let e = first_places in let m = moved_ref places_in 0 in rw (e, m) refl

output_tree : port_tree places_in 0 (1 ∷ []) (bare second_node) ≡ bare (port_node 0 1 0)
output_tree = let e = second_places in let m = moved_ref places_in 1 in rw (e, m) refl

-- the language of single automata by their trees
pub single_language : (g : Tree → Tree) (a b : Automaton) (t u : Tree) → IsSingle a → IsSingle b → InLanguage a t
    → InLanguage b u → g t ≡ u → IsLanguageOf g a b
single_language g a b t u s z h k e v = (
  (λ w. (t, h, single_tree b v u z w k ∙ sym e)),
  (λ w. subst (λ (x : Tree). InLanguage b x) (sym (w.2 ∙ ap g (single_tree a w.0 t s w.1 h) ∙ e)) k),
)

port_fields_are : (f r : ℕ) → ArePortFields dll (port f r) (f ∷ [])
port_fields_are f r = record {
  rising = tt;
  are = λ k. (
    (λ i. (bare (port_node 0 f r), port_runs 0 f r, (let e = port_covers dll f r in rw e i))),
    (λ w. subst (λ (l : List ℕ). IsIn k l) (port_covers dll f r)
        (subst (λ (t : Tree). IsIn k (covered_fields dll t))
        (single_tree (port f r) w.0 (bare (port_node 0 f r)) (port_single f r) w.1 (port_runs 0 f r)) w.2)),
  );
}

top_alone : (ss : List Slot) (qs : List ℕ) (r i : ℕ) (x : Rule) → slice_get (over ss qs r).rules i ≡ Some x
    → x.state ≡ 0 → i ≡ 0
top_alone ss qs r zero x e s = refl
top_alone ss qs r (suc zero) x e s = let z : 1 ≡ 0 = ap (λ (y : Rule). y.state) (same_Some (rule 1 Null []) x e) ∙ s in
    absurd (omega (arith, z))
top_alone ss qs r (suc (suc zero)) x e s =
    let z : 2 ≡ 0 = ap (λ (y : Rule). y.state) (same_Some (rule 2 (Ref r) []) x e) ∙ s in absurd (omega (arith, z))
top_alone ss qs r (suc (suc (suc i))) x e s = absurd (none-some x e)

abbrev over_top : (ss : List Slot) (qs : List ℕ) (r : ℕ) → HasOneTop (over ss qs r)
over_top ss qs r = record {
  root = 0;
  alone = refl;
  place = 0;
  rule = rule 0 (Cell 0 [] ss) qs;
  there = refl;
  top = refl;
  only = top_alone ss qs r;
}

abbrev two_trees : List Tree
two_trees = bare second_node ∷ bare first_node ∷ []

two_refs : port_refs two_trees ports ≡ 0 ∷ 1 ∷ []
two_refs = let a = first_places in let b = second_places in let c = ref_ways 0 in let d = ref_ways 1 in
    rw (a, b, c, d) refl

part_roots : ArePartRoots (At 0 ∷ []) two_trees ports []
part_roots = record {
  order = 1 ∷ 0 ∷ [];
  reached = (let e = two_refs in rw e (is_placed (inr (inl refl)) (is_placed (inl refl) all_placed)));
  are = refl;
  no_var = λ r i j. i;
  alone = λ r k i o l j. i;
}

taken_once : (r : ℕ) → IsDistinct (taken_at ports r)
taken_once zero = ((λ i. i), tt)
taken_once (suc zero) = ((λ i. i), tt)
taken_once (suc (suc r)) =
    let a = ne_eqb 1 (suc (suc r)) (λ e. omega (arith, e)) in
    let b = ne_eqb 0 (suc (suc r)) (λ e. omega (arith, e)) in
    rw (a, b) tt

abbrev two_part : IsPart dll two_cells dll_box 1 (Some 0) dll_box
two_part = record {
  ports = ports;
  shapes = 0 ∷ 0 ∷ [];
  inner = [];
  are_ports =
      (port 0 1, port 1 0, 0 ∷ [], 1 ∷ [], 0, refl, refl, port_fields_are 0 1, port_fields_are 1 0, refl, refl, refl);
  roots = (
    record {
      auto = first_auto;
      there = refl;
      one = over_top fields (2 ∷ 1 ∷ 1 ∷ []) 0;
      datums = [];
      slots = fields;
      symbol = refl;
      fields = λ f i. (elim i [ inl e ↦ inl (ap Field e) | inr x ↦ absurd x ]);
    },
    (
      record {
        auto = second_auto;
        there = refl;
        one = over_top fields (1 ∷ 2 ∷ 1 ∷ []) 1;
        datums = [];
        slots = fields;
        symbol = refl;
        fields = λ f i. (elim i [ inl e ↦ inr (inl (ap Field e)) | inr x ↦ absurd x ]);
      },
      tt,
    ),
  );
  once = taken_once;
  reached =
      λ ts c.
      (subst (λ (us : List Tree). ArePartRoots (At 0 ∷ []) us ports [])
      (single_choice (second_auto ∷ first_auto ∷ []) two_trees ts
      (over_single fields (1 ∷ 2 ∷ 1 ∷ []) 1, (over_single fields (2 ∷ 1 ∷ 1 ∷ []) 0, tt))
      (second_runs, (first_runs, tt)) c) part_roots);
  name = refl;
  face = refl;
  no_vars = refl;
  no_data = refl;
  port_autos = port 0 1 ∷ port 1 0 ∷ [];
  inner_autos = [];
  autos = refl;
  at_ports = (
    (
      first_auto,
      refl,
      single_language (port_tree places_in 0 (0 ∷ [])) first_auto (port 0 1) (bare first_node)
          (bare (port_node 0 0 1)) (over_single fields (2 ∷ 1 ∷ 1 ∷ []) 0) (port_single 0 1) first_runs
          (port_runs 0 0 1)
          input_tree,
    ),
    (
      (
        second_auto,
        refl,
        single_language (port_tree places_in 0 (1 ∷ [])) second_auto (port 1 0) (bare second_node)
            (bare (port_node 0 1 0)) (over_single fields (1 ∷ 2 ∷ 1 ∷ []) 1) (port_single 1 0) second_runs
            (port_runs 0 1 0)
            output_tree,
      ),
      refl,
    ),
  );
  at_inner = tt;
}

-- The fold.

abbrev folded_second : Automaton
folded_second = over (Field 0 ∷ Field 2 ∷ []) (1 ∷ 1 ∷ []) 0

abbrev folded_first : Automaton
folded_first = over (Link 0 ∷ Field 1 ∷ Field 2 ∷ []) (2 ∷ 1 ∷ 1 ∷ []) 0

abbrev folded : Forest
folded = record { autos = folded_second ∷ folded_first ∷ []; vars = At 0 ∷ []; data_vars = [] }

abbrev small_node : Node
small_node = node 0 0 [] (field 0 (leaf NullTarget) (field 2 (leaf NullTarget) no_parts))

abbrev edge_node : Node
edge_node = node 1 0 [] (link 0 no_nodes (leaf (At 0)) (field 1 (leaf NullTarget) (field 2 (leaf NullTarget) no_parts)))

small_runs : InLanguage folded_second (bare small_node)
small_runs = (
  0,
  inl refl,
  node_bare folded_second.rules 0 small_node (
    rule 0 (Cell 0 [] (Field 0 ∷ Field 2 ∷ [])) (1 ∷ 1 ∷ []),
    inl refl,
    refl,
    refl,
    (nil (Field 0 ∷ Field 2 ∷ []) (1 ∷ 1 ∷ []) 0, (nil (Field 0 ∷ Field 2 ∷ []) (1 ∷ 1 ∷ []) 0, tt)),
  ),
)

edge_runs : InLanguage folded_first (bare edge_node)
edge_runs = (
  0,
  inl refl,
  node_bare folded_first.rules 0 edge_node (
    rule 0 (Cell 0 [] (Link 0 ∷ Field 1 ∷ Field 2 ∷ [])) (2 ∷ 1 ∷ 1 ∷ []),
    inl refl,
    refl,
    refl,
    (
      to_root (Link 0 ∷ Field 1 ∷ Field 2 ∷ []) (2 ∷ 1 ∷ 1 ∷ []) 0,
      (
        nil (Link 0 ∷ Field 1 ∷ Field 2 ∷ []) (2 ∷ 1 ∷ 1 ∷ []) 0,
        (nil (Link 0 ∷ Field 1 ∷ Field 2 ∷ []) (2 ∷ 1 ∷ 1 ∷ []) 0, tt),
      ),
    ),
  ),
)

abbrev key : Slot × List Tree → ℕ
key p = least (covers dll p.0)

abbrev symbol_struct : Symbol → ℕ
symbol_struct (Cell s ds ss) = s
symbol_struct y = 9

abbrev symbol_data : Symbol → List Datum
symbol_data (Cell s ds ss) = ds
symbol_data y = []

slot_keys : (ps : List (Slot × List Tree)) → map (λ s. least (covers dll s)) (map (λ (p : Slot × List Tree). p.0) ps)
    ≡ map key ps
slot_keys [] = refl
slot_keys (p ∷ ps) = ap (λ (l : List ℕ). key p ∷ l) (slot_keys ps)

-- a fold of a single automaton over these slots
single_folded : (f : ℕ → ℕ) (more : List (Slot × List Tree)) (fs : List ℕ) (a c : Automaton) (n m : Node)
    (ss : List Slot) (made : List (Slot × List Tree))
    → IsSingle a → IsSingle c → InLanguage a (bare n) → InLanguage c (bare m)
    → (out-Tree (bare n)).symbol ≡ Cell 0 [] ss
    → Rearranged made (more ++ moved_places f (left fs (top_places (bare n))))
    → IsInOrder dll (map (λ (p : Slot × List Tree). p.0) made)
    → bare m ≡ cell_of 0 [] made
    → IsFoldedAuto dll f more fs a c
single_folded f more fs a c n m ss made sa sc ha hc y r o e u = (
  (λ w. (
    bare n,
    ha,
    record {
      shape = 0;
      datums = [];
      slots = ss;
      symbol = y;
      made = made;
      same = r;
      order = o;
      is = single_tree c u (bare m) sc w hc ∙ e;
    },
  )),
  back,
)
  where
    back : ((t : Tree) × InLanguage a t × IsFoldedTree dll f more fs t u) → InLanguage c u
    back (t, h, x) = from (subst (λ (v : Tree). IsFoldedTree dll f more fs v u) (single_tree a t (bare n) sa h ha) x)
      where
        from : IsFoldedTree dll f more fs (bare n) u → InLanguage c u
        from x =
            let z : Cell x.shape x.datums x.slots ≡ Cell 0 [] ss = sym x.symbol ∙ y in
            let k : x.made ≡ made = same_by_keys key x.made made (chain x.same (turned r))
            (subst (λ (l : List ℕ). IsRising l) (slot_keys x.made) x.order.1)
            (subst (λ (l : List ℕ). IsRising l) (slot_keys made) o.1) in
            let i : u ≡ bare m = x.is
            ∙ ap₂ (λ (s : ℕ) (ds : List Datum). cell_of s ds x.made) (ap symbol_struct z) (ap symbol_data z)
            ∙ ap (λ (l : List (Slot × List Tree)). cell_of 0 [] l) k ∙ sym e in
            subst (λ (v : Tree). InLanguage c v) (sym i) hc

second_folded : IsFoldedAuto dll (number_without []) [] (1 ∷ []) second_auto folded_second
second_folded = single_folded (number_without []) [] (1 ∷ []) second_auto folded_second second_node small_node fields
    (place (Field 0) null ∷ place (Field 2) null ∷ [])
    (over_single fields (1 ∷ 2 ∷ 1 ∷ []) 1) (over_single (Field 0 ∷ Field 2 ∷ []) (1 ∷ 1 ∷ []) 0) second_runs small_runs
    (cell_top 0 0 [] (field 0 (leaf NullTarget) (field 1 (leaf (At 1)) (field 2 (leaf NullTarget) no_parts))))
    (let e = second_places in let m = moved_null (number_without []) in rw (e, m) (same _))
    ((tt, (tt, tt)), (omega arith, tt)) refl

first_folded : IsFoldedAuto dll (number_without []) (place (Link 0) (ref 0) ∷ []) (0 ∷ []) first_auto folded_first
first_folded = single_folded (number_without []) (place (Link 0) (ref 0) ∷ []) (0 ∷ []) first_auto folded_first
    first_node edge_node fields (place (Link 0) (ref 0) ∷ place (Field 1) null ∷ place (Field 2) null ∷ [])
    (over_single fields (2 ∷ 1 ∷ 1 ∷ []) 0) (over_single (Link 0 ∷ Field 1 ∷ Field 2 ∷ []) (2 ∷ 1 ∷ 1 ∷ []) 0)
    first_runs edge_runs
    (cell_top 1 0 [] (field 0 (leaf (At 0)) (field 1 (leaf NullTarget) (field 2 (leaf NullTarget) no_parts))))
    (let e = first_places in let m = moved_null (number_without []) in rw (e, m) (same _))
    ((tt, (tt, (tt, tt))), (omega arith, (omega arith, tt))) refl

-- the two cells are folded into the edge
two_fold : FoldOf dll (dll_box ∷ []) two_cells folded 0 1 (Some 0) dll_box
two_fold = record {
  def = dll_box;
  there = refl;
  part = two_part;
  within = ((λ t h. h), ((λ t h. h), tt));
  vars = refl;
  data_vars = refl;
  count = refl;
  autos = all;
}
  where
    all : (r : ℕ) (a : Automaton) → slice_get (second_auto ∷ first_auto ∷ []) r ≡ Some a → (IsIn r [] → ⊥)
        → (c : Automaton) × (slice_get (folded_second ∷ folded_first ∷ []) (number_without [] r) ≡ Some c)
        × IsFoldedAuto dll (number_without []) (gained (box_slot (number_without []) 0 (Some 0)) 1 r) (taken_at ports r)
        a c
    all zero a e n = (
      folded_second,
      refl,
      subst
          (λ (x : Automaton). IsFoldedAuto dll (number_without []) [] (1 ∷ []) x folded_second)
          (same_Some second_auto a e) second_folded,
    )
    all (suc zero) a e n = (
      folded_first,
      refl,
      subst
          (λ (x : Automaton). IsFoldedAuto dll (number_without []) (place (Link 0) (ref 0) ∷ []) (0 ∷ []) x
          folded_first)
          (same_Some first_auto a e) first_folded,
    )
    all (suc (suc r)) a e n = absurd (none-some a e)
