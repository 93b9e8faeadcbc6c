-- Dressed trees with another in the place of their one reference to a root.
use Rattle.std.proofs.Common.{◌≡◌, inl, ℕ, Bool, true, false, true≢false, cond, List, [], ◌∷◌, map, flat_map, refl}
use Rattle.std.proofs.Common.{sym, ap, subst, ◌∙◌}
use Rattle.std.proofs.lemmas.Bool.{eqb-true, eq-eqb}
use Rattle.fore_base.specs.Lists.{Every, IsIn}
use Rattle.fore_base.proofs.ListLemmas.{every_append, every_in, every_weaker, in_right}
use Rattle.ta_core.specs.declared.symbol.Slot.{Slot}
use Rattle.ta_core.specs.declared.symbol.Slot.TheVariants.{Field, Link}
use Rattle.ta_core.specs.declared.symbol.Symbol.TheVariants.{Cell as CellSymbol}
use Rattle.fa_core.specs.declared.faces.BoxFace.{BoxFace}
use Rattle.fa_core.specs.declared.forest.Target.TheVariants.{Null, Uninit, Dangling, At}
use Rattle.fa_core.specs.Cells.{is_leaf}
use Rattle.fa_core.specs.Dressed.{Node, Parts, End, node, no_parts, field, link, hook, under, leaf, refs}
use Rattle.fa_core.specs.Member.{bare, bare_parts, bare_end, slots_of, leaf_symbol}
use Rattle.fa_core.specs.References.{IsNever, IsOnce}
use Rattle.fa_core.specs.Ways.{Step, Way, ways, child_ways, longer, all_back, led_to, has, roots_met, mark, signature}
use Rattle.fa_core.proofs.Dressing.{cell_top}
use Rattle.fa_core.proofs.Numbers.{has_right, Within}
use Rattle.fa_core.proofs.WayParts.{way_roots, IsEdged, HaveEdges, StepsIn, branch_ways, tree_in}
use Rattle.fa_core.proofs.WaysOf.{rolled_ways, tree_roots}
use Rattle.fa_leaves.specs.Grafting.{plug}
use Rattle.fa_leaves.proofs.PluggedParts.{Names}
use Rattle.fa_leaves.proofs.PluggedSigns.{Fits, split, plugged_same}
use Rattle.fa_leaves.proofs.PluggedWays.{put_way, ways_plugged}
use Rattle.fa_leaves.proofs.SameWays.{SameWays, signed_ways, ways_signed}

-- Each step of a way names the root of the way.

abbrev IsNamed : Way → Type 0
IsNamed w = Names w.root w.steps

abbrev pair_roots : List (Slot × Way) → List ℕ
pair_roots ps = map (λ p. p.1.root) ps

own_first : (n : ℕ) (ns : List ℕ) → has n (n ∷ ns) ≡ true
own_first n ns = let e = eq-eqb n n refl in rw e refl

own_in : (ps : List (Slot × Way)) → Every (λ (p : Slot × Way). has p.1.root (pair_roots ps) ≡ true) ps
own_in [] = tt
own_in (p ∷ ps) = (
  own_first p.1.root (pair_roots ps),
  every_weaker (λ (q : Slot × Way). has q.1.root (pair_roots ps) ≡ true)
      (λ (q : Slot × Way). has q.1.root (pair_roots (p ∷ ps)) ≡ true) ps
      (λ q h. has_right q.1.root (p.1.root ∷ []) (pair_roots ps) h) (own_in ps),
)

longer_named : (rs : List ℕ) (ps : List (Slot × Way)) → Every (λ (p : Slot × Way). has p.1.root rs ≡ true) ps
    → Every (λ (p : Slot × Way). IsNamed p.1) ps → Every IsNamed (map (longer rs) ps)
longer_named rs [] h k = tt
longer_named rs (p ∷ ps) h k = ((h.0, k.0), longer_named rs ps h.1 k.1)

slot_named : (s : Slot) (ws : List Way) → Every IsNamed ws
    → Every (λ (p : Slot × Way). IsNamed p.1) (map (λ (w : Way). (s, w)) ws)
slot_named s [] h = tt
slot_named s (w ∷ ws) h = (h.0, slot_named s ws h.1)

mutual
  tree_named : (n : Node) → Every IsNamed (ways (bare n))
  tree_named (node c s ds ps) =
      let qs = child_ways (slots_of ps) (map ways (bare_parts ps)) in
      subst (λ (ws : List Way). Every IsNamed ws)
      (sym (rolled_ways (record { symbol = CellSymbol s ds (slots_of ps); children = bare_parts ps })))
      (longer_named (pair_roots qs) qs (own_in qs) (parts_named ps))

  parts_named : (ps : Parts) → Every (λ (p : Slot × Way). IsNamed p.1)
      (child_ways (slots_of ps) (map ways (bare_parts ps)))
  parts_named no_parts = tt
  parts_named (field f e ps) = every_append (λ (p : Slot × Way). IsNamed p.1)
      (map (λ (w : Way). (Field f, w)) (ways (bare_end e))) (child_ways (slots_of ps) (map ways (bare_parts ps)))
      (slot_named (Field f) (ways (bare_end e)) (end_named e)) (parts_named ps)
  parts_named (link b inside e ps) = every_append (λ (p : Slot × Way). IsNamed p.1)
      (map (λ (w : Way). (Link b, w)) (ways (bare_end e))) (child_ways (slots_of ps) (map ways (bare_parts ps)))
      (slot_named (Link b) (ways (bare_end e)) (end_named e)) (parts_named ps)
  parts_named (hook b inside ps) = parts_named ps

  end_named : (e : End) → Every IsNamed (ways (bare_end e))
  end_named (under n) = tree_named n
  end_named (leaf Null) = rw (rolled_ways (record { symbol = leaf_symbol Null; children = [] })) tt
  end_named (leaf Uninit) = rw (rolled_ways (record { symbol = leaf_symbol Uninit; children = [] })) tt
  end_named (leaf Dangling) = rw (rolled_ways (record { symbol = leaf_symbol Dangling; children = [] })) tt
  end_named (leaf (At k)) = rw (rolled_ways (record { symbol = leaf_symbol (At k); children = [] })) (tt, tt)

-- A cell's ways have edges.

node_edges : (n : Node) → HaveEdges (ways (bare n))
node_edges (node c s ds ps) = branch_ways (bare (node c s ds ps)) (ap is_leaf (cell_top c s ds ps))

edges_each : (ws : List Way) → HaveEdges ws → Every (λ (w : Way). IsEdged w.steps) ws
edges_each [] h = tt
edges_each (w ∷ ws) h = (h.0, edges_each ws h.1)

led_within : (bs : List BoxFace) (rs : List ℕ) (xs : List Step) → StepsIn rs xs → Within (led_to bs xs) rs
led_within bs rs [] h n k = absurd (true≢false (sym k))
led_within bs rs (x ∷ xs) h n k = here (all_back bs (x ∷ xs)) k (led_within bs rs xs h.1 n)
  where
    here : (b : Bool) → has n (cond b x.refers (led_to bs xs)) ≡ true → (has n (led_to bs xs) ≡ true → has n rs ≡ true)
        → has n rs ≡ true
    here true k f = h.0 n k
    here false k f = f k

module _ (bs : List BoxFace) (r : ℕ) (m n : Node) (one : IsOnce r (refs n)) (never : IsNever r (refs m)) where
  fits : Fits bs r (ways (bare m)) (ways (bare n))
  fits =
      let s = split r (ways (bare n)) (subst (IsOnce r) (sym (tree_roots n)) one) in
      let at_in : IsIn s.at (ways (bare n)) = subst (λ (ws : List Way). IsIn s.at ws) (sym s.is)
      (in_right s.at s.before (s.at ∷ s.after) (inl refl)) in
      record {
        one = s;
        never = subst (IsNever r) (sym (tree_roots m)) never;
        edged = node_edges m;
        at_edged = every_in (λ (w : Way). IsEdged w.steps) (ways (bare n)) s.at
            (edges_each (ways (bare n)) (node_edges n)) at_in;
        named = subst (λ (k : ℕ). Names k s.at.steps) (sym (eqb-true r s.at.root s.here))
            (every_in IsNamed (ways (bare n)) s.at (tree_named n) at_in);
        low = λ j. every_weaker (λ (u : Way). StepsIn (way_roots (ways (bare m))) u.steps)
            (λ (u : Way). has j (led_to bs u.steps) ≡ true → has j (way_roots (ways (bare m))) ≡ true) (ways (bare m))
            (λ u h. led_within bs (way_roots (ways (bare m))) u.steps h j) (tree_in (bare m));
      }

-- the law: the signature follows from those of both trees
pub plugged_signature : (bs : List BoxFace) (r : ℕ) (m n l k : Node) → IsOnce r (refs n) → IsNever r (refs m)
    → IsOnce r (refs k) → IsNever r (refs l) → signature bs (bare n) ≡ signature bs (bare k)
    → signature bs (bare m) ≡ signature bs (bare l)
    → signature bs (bare (plug r m n)) ≡ signature bs (bare (plug r l k))
plugged_signature bs r m n l k one never once none e f =
    let vs = ways (bare m) in
    let us = ways (bare l) in
    let inner : SameWays bs (ways (bare m)) (ways (bare l)) =
    signed_ways bs (ways (bare m)) (ways (bare l)) (tree_in (bare m)) (tree_in (bare l)) f in
    let outer : SameWays bs (ways (bare n)) (ways (bare k)) =
    signed_ways bs (ways (bare n)) (ways (bare k)) (tree_in (bare n)) (tree_in (bare k)) e in
    ap (λ (ws : List Way). map (mark bs ws) (roots_met ws)) (ways_plugged r m n)
    ∙ ways_signed bs (flat_map (put_way r vs) (ways (bare n))) (flat_map (put_way r us) (ways (bare k)))
    (plugged_same bs r vs us inner (ways (bare n)) (ways (bare k)) outer (fits bs r m n one never)
    (fits bs r l k once none))
    ∙ ap (λ (ws : List Way). map (mark bs ws) (roots_met ws)) (sym (ways_plugged r l k))
