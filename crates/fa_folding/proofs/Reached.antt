-- What the taken and the left slots of a dressed tree refer to; so the references of a part agree with its inside.
use Rattle.std.proofs.Common.{◌≡◌, inl, inr, ℕ, zero, suc, ◌<◌, Bool, true, false, true≢false, cond, List, [], ◌∷◌}
use Rattle.std.proofs.Common.{◌++◌, map, refl, sym, ap, ap₂, subst, ◌∙◌, append-nil, not-suc-le-zero}
use Rattle.std.proofs.Common.{le_of_suc-le-suc}
use Rattle.fore_base.specs.Lists.{IsIn, IsDistinct}
use Rattle.fore_base.specs.declared.store.Value.{Value}
use Rattle.fore_base.specs.declared.store.Value.TheVariants.{Cell}
use Rattle.fore_base.proofs.ListLemmas.{in_left, in_right, in_every}
use Rattle.ta_core.specs.declared.symbol.Slot.{Slot}
use Rattle.ta_core.specs.declared.tree.Tree.{Tree}
use Rattle.fa_core.specs.declared.forest.Target.{Target}
use Rattle.fa_core.specs.Canonical.{refs_at}
use Rattle.fa_core.specs.Choices.{bares, count}
use Rattle.fa_core.specs.Dressed.{Node, Parts, Nodes, node, no_parts, field, link, hook, no_nodes}
use Rattle.fa_core.specs.Dressed.{more, refs, refs_of, end_refs, nth_value, roots_of, with_ports}
use Rattle.fa_core.specs.Folding.{Ports, Placing, position, taken, left, top_places, place_refs, places_at, port_refs}
use Rattle.fa_core.specs.Folding.{left_refs, taken_at}
use Rattle.fa_core.specs.Member.{bare, bare_end}
use Rattle.fa_core.specs.References.{tree_refs}
use Rattle.fa_core.specs.Placed.{placed}
use Rattle.fa_core.specs.Ways.{has, once, ways}
use Rattle.fa_core.proofs.Numbers.{in_once}
use Rattle.fa_core.proofs.Placing.{number_placed}
use Rattle.fa_core.proofs.WaysOf.{tree_roots, end_roots}
use Rattle.fa_folding.specs.Folded.{taken_parts, left_parts, parts_of, node_or, each_node, root_cell}
use Rattle.fa_folding.specs.Folded.{inside_of_part}
use Rattle.fa_folding.proofs.Insides.{numbered_at}
use Rattle.fa_folding.proofs.Law.{Agrees, AsMany, PortsAgree, InnerAgree, port_cells}
use Rattle.fa_back.proofs.RootMarks.{has_in, in_has}
use Rattle.fa_folding.proofs.Orders.{is_visited, is_closed, are_further, same_end, at_position}
use Rattle.fa_folding.proofs.Places.{part_places, top_places_are, taken_places, left_places}
use Rattle.fa_folding.proofs.Lists.{both_in}

places_refer : (ps : Parts) → place_refs (part_places ps) ≡ refs_of ps
places_refer no_parts = refl
places_refer (field f e ps) = ap₂ (λ (x y : List ℕ). x ++ y) (append-nil (tree_refs (bare_end e)) ∙ end_roots e)
    (places_refer ps)
places_refer (link b inside e ps) = ap₂ (λ (x y : List ℕ). x ++ y) (append-nil (tree_refs (bare_end e)) ∙ end_roots e)
    (places_refer ps)
places_refer (hook b inside ps) = places_refer ps

node_places : (n : Node) → top_places (bare n) ≡ part_places (parts_of n)
node_places (node c s ds ps) = top_places_are c s ds ps

pub places_there : (d : Nodes) (r : ℕ) → places_at (bares d) r ≡ part_places (parts_of (node_or d r))
places_there no_nodes r = refl
places_there (more n ns) zero = node_places n
places_there (more n ns) (suc r) = places_there ns r

-- the taken slots of a root refer to this, and the left ones to that
pub taken_refer : (d : Nodes) (fs : List ℕ) (r : ℕ)
    → place_refs (taken fs (places_at (bares d) r)) ≡ refs_of (taken_parts fs (parts_of (node_or d r)))
taken_refer d fs r = ap (λ (z : List (Slot × List Tree)). place_refs (taken fs z)) (places_there d r)
    ∙ ap place_refs (taken_places fs (parts_of (node_or d r))) ∙ places_refer (taken_parts fs (parts_of (node_or d r)))

pub left_refer : (d : Nodes) (ps : Ports) (r : ℕ)
    → left_refs (bares d) ps r ≡ refs_of (left_parts (taken_at ps r) (parts_of (node_or d r)))
left_refer d ps r = ap (λ (z : List (Slot × List Tree)). place_refs (left (taken_at ps r) z)) (places_there d r)
    ∙ ap place_refs (left_places (taken_at ps r) (parts_of (node_or d r)))
    ∙ places_refer (left_parts (taken_at ps r) (parts_of (node_or d r)))

in_met : (k : ℕ) (xs : List ℕ) → IsIn k xs → IsIn k (once xs)
in_met k xs i = elim (in_once k [] xs (in_has k xs i)) [
  | inl e ↦ absurd (true≢false (sym e))
  | inr e ↦ has_in k
      (once xs) e
]

pub tree_met : (d : Nodes) (r k : ℕ) → IsIn k (refs (node_or d r)) → IsIn k (refs_at (bares d) r)
tree_met no_nodes r k i = absurd i
tree_met (more n ns) zero k i = in_met k (map (λ w. w.root) (ways (bare n)))
    (subst (λ (z : List ℕ). IsIn k z) (sym (tree_roots n)) i)
tree_met (more n ns) (suc r) k i = tree_met ns r k i

pub root_there : (d : Nodes) (k : ℕ) → k < count d → nth_value (roots_of d) k ≡ root_cell d k
root_there no_nodes k l = absurd (not-suc-le-zero l)
root_there (more n ns) zero l = refl
root_there (more n ns) (suc k) l = root_there ns k (le_of_suc-le-suc l)

-- the values of the roots of the inside are the cells of the part's roots
pub inside_roots : (f : ℕ → Target) (d : Nodes) (ps : Ports) (ss inner : List ℕ) → AsMany ps ss
    → with_ports (port_cells d ps) (inside_of_part f d ps ss inner) ≡ map (root_cell d) (map (λ q. q.0) ps ++ inner)
inside_roots f d [] ss inner m = these inner
  where
    these : (rs : List ℕ) → roots_of (each_node (λ r. placed f (node_or d r)) rs) ≡ map (root_cell d) rs
    these [] = refl
    these (r ∷ rs) = ap₂ (λ (x : ℕ) (y : List Value). Cell x ∷ y) (number_placed f (node_or d r)) (these rs)
inside_roots f d (p ∷ ps) [] inner m = absurd m
inside_roots f d (p ∷ ps) (s ∷ ss) inner m =
    ap (λ (y : List Value). root_cell d p.0 ∷ y) (inside_roots f d ps ss inner m)

module _ (d : Nodes) (ports : Ports) (shapes inner order : List ℕ) (many : AsMany ports shapes)
    (reached : Placing (refs_at (bares d)) (port_refs (bares d) ports) (map (λ q. q.0) ports) order)
    (are : order ≡ map (λ q. q.0) ports ++ inner)
    (low : (r k : ℕ) → IsIn k (refs (node_or d r)) → k < count d) where
  abbrev firsts : List ℕ
  firsts = map (λ q. q.0) ports

  abbrev f : ℕ → ℕ
  f = position (firsts ++ inner)

  abbrev vin : List Value
  vin = with_ports (port_cells d ports) (inside_of_part (numbered_at f) d ports shapes inner)

  agrees : (k : ℕ) → k < count d → IsIn k order → Agrees (numbered_at f) (roots_of d) vin k
  agrees k l i = ap (λ (z : List Value). nth_value z (f k)) (inside_roots (numbered_at f) d ports shapes inner many)
      ∙ at_position (root_cell d) (firsts ++ inner) k (subst (λ (z : List ℕ). IsIn k z) are i) ∙ sym (root_there d k l)

  -- an inner root is no port
  pub inner_no_port : (r : ℕ) → IsIn r inner → IsIn r firsts → ⊥
  inner_no_port r i j =
      let w = are_further (refs_at (bares d)) reached in
      w.3 r (subst (λ (z : List ℕ). IsIn r z) (same_end firsts inner w.0 (sym are ∙ w.1)) i) j

  pub inner_once : IsDistinct inner
  inner_once =
      let w = are_further (refs_at (bares d)) reached in
      subst (λ (z : List ℕ). IsDistinct z) (sym (same_end firsts inner w.0 (sym are ∙ w.1))) w.2

  pub inner_agree : (rs : List ℕ) → ((r : ℕ) → IsIn r rs → IsIn r inner) → InnerAgree (numbered_at f) d vin rs
  inner_agree [] h = tt
  inner_agree (r ∷ rs) h = (
    in_every (Agrees (numbered_at f) (roots_of d) vin) (refs (node_or d r))
        (λ k i. agrees k (low r k i) (here k i)),
    inner_agree rs (λ q i. h q (inr i)),
  )
    where
      here : (k : ℕ) → IsIn k (refs (node_or d r)) → IsIn k order
      here k i = elim (is_closed (refs_at (bares d)) r reached
          (subst (λ (z : List ℕ). IsIn r z) (sym are) (in_right r firsts inner (h r (inl refl))))) [
            | inl j ↦ absurd (inner_no_port r (h r (inl refl)) j)
            | inr c ↦ c k (tree_met d r k i)
          ]

  taken_low : (n : Node) (fs : List ℕ) (k : ℕ) → IsIn k (refs_of (taken_parts fs (parts_of n))) → IsIn k (refs n)
  taken_low (node c s ds ps) fs k i = these ps i
    where
      these : (ps : Parts) → IsIn k (refs_of (taken_parts fs ps)) → IsIn k (refs_of ps)
      these no_parts i = i
      these (field g e ps) i = one (has g fs) (these ps) i
        where
          one : (b : Bool) → (IsIn k (refs_of (taken_parts fs ps)) → IsIn k (refs_of ps))
              → IsIn k (refs_of (cond b (field g e (taken_parts fs ps)) (taken_parts fs ps)))
              → IsIn k (end_refs e ++ refs_of ps)
          one true r i = both_in k (end_refs e) (refs_of (taken_parts fs ps)) (refs_of ps) r i
          one false r i = in_right k (end_refs e) (refs_of ps) (r i)
      these (link b inside e ps) i = in_right k (end_refs e) (refs_of ps) (these ps i)
      these (hook b inside ps) i = these ps i

  pub ports_agree : (ps : Ports) → ((k : ℕ) → IsIn k (port_refs (bares d) ps) → IsIn k order)
      → PortsAgree (numbered_at f) d vin ps
  ports_agree [] h = tt
  ports_agree (p ∷ ps) h =
      let qs = taken_parts p.1 (parts_of (node_or d p.0)) in (
        in_every (Agrees (numbered_at f) (roots_of d) vin) (refs_of qs)
            (λ k i. agrees k (low p.0 k (taken_low (node_or d p.0) p.1 k i))
            (h k (in_left k (place_refs (taken p.1 (places_at (bares d) p.0))) (port_refs (bares d) ps)
            (subst (λ (z : List ℕ). IsIn k z) (sym (taken_refer d p.1 p.0)) i)))),
        ports_agree ps (λ k i. h k (in_right k (place_refs (taken p.1 (places_at (bares d) p.0)))
            (port_refs (bares d) ps) i)),
      )

  pub all_ports_agree : PortsAgree (numbered_at f) d vin ports
  all_ports_agree = ports_agree ports (λ k i. is_visited (refs_at (bares d)) k reached i)
