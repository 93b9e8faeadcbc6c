-- From the definition of parts to the law: what is left to give are the trees of the kept roots.
use Rattle.std.proofs.Common.{◌≡◌, inl, inr, ℕ, zero, suc, ◌<◌, List, [], ◌∷◌, ◌++◌, map, length, refl, sym, ap}
use Rattle.std.proofs.Common.{subst, Option, Some, None, slice_get, arith}
use Rattle.std.proofs.lemmas.Option.{none-some, same_Some}
use Rattle.fore_base.specs.Lists.{IsIn, IsDistinct}
use Rattle.ta_core.specs.Auto.{Automaton}
use Rattle.fa_core.specs.declared.boxes.BoxDef.{BoxDef}
use Rattle.fa_core.specs.declared.faces.BoxFace.{BoxFace}
use Rattle.fa_core.specs.declared.forest.Forest.{Forest}
use Rattle.fa_core.specs.Choices.{bares, count}
use Rattle.fa_core.specs.Dressed.{Node, Nodes, no_nodes, more, refs, roots_of, inside_facts}
use Rattle.fa_core.specs.Filled.{Choice}
use Rattle.fa_core.specs.Folding.{Ports, taken_at, position, IsPart, ArePortRoots}
use Rattle.fa_core.specs.Folding.{AreInnerAutos, PortsAre}
use Rattle.fa_core.specs.Member.{TreesOf, OfForest}
use Rattle.fa_core.specs.Rearranged.{Rearranged}
use Rattle.fa_unfold.specs.Opens.{Item, tree_items, opened, Opens, inside_boxes, all_boxes}
use Rattle.fa_folding.specs.Folded.{node_or, each_node, inside_of_part}
use Rattle.fa_folding.proofs.Insides.{numbered_at}
use Rattle.fa_folding.proofs.Law.{AsMany, edge_at, rest_items, taken_items, none_items, port_cells}
use Rattle.fa_folding.proofs.Law.{folding_opens}
use Rattle.fa_folding.proofs.Lists.{AreIn, ArePartsApart}
use Rattle.fa_folding.proofs.Numbers.{kept, all_roots, kept_once, is_kept}
use Rattle.fa_folding.proofs.Reached.{inner_once, inner_no_port, inner_agree, all_ports_agree}

pub choice_of : (T : List BoxDef) (autos : List Automaton) (d : Nodes) → TreesOf T autos d → Choice autos (bares d)
choice_of T [] no_nodes h = tt
choice_of T [] (more n ns) h = absurd h
choice_of T (a ∷ autos) no_nodes h = absurd h
choice_of T (a ∷ autos) (more n ns) h = (h.0, choice_of T autos ns h.2)

pub as_many : (T : List BoxDef) (autos : List Automaton) (d : Nodes) → TreesOf T autos d → count d ≡ length autos
as_many T [] no_nodes h = refl
as_many T [] (more n ns) h = absurd h
as_many T (a ∷ autos) no_nodes h = absurd h
as_many T (a ∷ autos) (more n ns) h = ap (λ k. suc k) (as_many T autos ns h.2)

got : (autos : List Automaton) (k : ℕ) (a : Automaton) → slice_get autos k ≡ Some a → k < length autos
got [] k a e = absurd (none-some a e)
got (b ∷ autos) zero a e = omega arith
got (b ∷ autos) (suc k) a e = let l = got autos k a e in omega (arith, l)

shapes_many : (autos : List Automaton) (ps : Ports) (ss : List ℕ) → ArePortRoots autos ps ss → AsMany ps ss
shapes_many autos [] ss h = tt
shapes_many autos (p ∷ ps) [] h = absurd h
shapes_many autos (p ∷ ps) (s ∷ ss) h = shapes_many autos ps ss h.1

ports_low : (autos : List Automaton) (ps : Ports) (ss : List ℕ) → ArePortRoots autos ps ss → (r : ℕ)
    → IsIn r (map (λ q. q.0) ps) → r < length autos
ports_low autos [] ss h r i = absurd i
ports_low autos (p ∷ ps) [] h r i = absurd h
ports_low autos (p ∷ ps) (s ∷ ss) h r (inl e) =
    subst (λ (z : ℕ). z < length autos) (sym e) (got autos p.0 h.0.auto h.0.there)
ports_low autos (p ∷ ps) (s ∷ ss) h r (inr i) = ports_low autos ps ss h.1 r i

inner_low : (f : ℕ → ℕ) (autos : List Automaton) (inner : List ℕ) (made : List Automaton)
    → AreInnerAutos f autos inner made → (r : ℕ) → IsIn r inner → r < length autos
inner_low f autos [] made h r i = absurd i
inner_low f autos (x ∷ xs) [] h r i = absurd h
inner_low f autos (x ∷ xs) (b ∷ made) h r (inl e) =
    subst (λ (z : ℕ). z < length autos) (sym e) (got autos x h.0.0 h.0.1)
inner_low f autos (x ∷ xs) (b ∷ made) h r (inr i) = inner_low f autos xs made h.1 r i

module _ (T : List BoxDef) (bs : List BoxFace) (F : Forest) (def : BoxDef) (i : ℕ) (out : Option ℕ) (g : BoxDef)
    (p : IsPart bs F def i out g) (d : Nodes) (of : OfForest T F d)
    (low : (r k : ℕ) → IsIn k (refs (node_or d r)) → k < count d) where
  abbrev f : ℕ → ℕ
  f = position (map (λ q. q.0) p.ports ++ p.inner)

  abbrev pub inside : Nodes
  inside = inside_of_part (numbered_at f) d p.ports p.shapes p.inner

  many : AsMany p.ports p.shapes
  many = shapes_many F.autos p.ports p.shapes p.roots

  n_is : count d ≡ length F.autos
  n_is = as_many T F.autos d of

  pub reached_here : (r : ℕ) → IsIn r p.inner → IsIn r (map (λ q. q.0) p.ports) → ⊥
  reached_here = let w = p.reached (bares d) (choice_of T F.autos d of) in
      inner_no_port d p.ports p.shapes p.inner w.order many w.reached w.are low

  pub once_here : IsDistinct p.inner
  once_here = let w = p.reached (bares d) (choice_of T F.autos d of) in
      inner_once d p.ports p.shapes p.inner w.order many w.reached w.are low

  pub low_here : (r : ℕ) → IsIn r p.inner → r < count d
  low_here r j = let l = inner_low f F.autos p.inner p.inner_autos p.at_inner r j in
      subst (λ (z : ℕ). r < z) (sym n_is) l

  abbrev pub kept_roots : List ℕ
  kept_roots = kept p.inner (count d) once_here low_here

  pub port_kept : (r : ℕ) → IsIn r (map (λ q. q.0) p.ports) → IsIn r kept_roots
  port_kept r j = is_kept p.inner (count d) once_here low_here r
      (let l = ports_low F.autos p.ports p.shapes p.roots r j in subst (λ (z : ℕ). r < z) (sym n_is) l)
      (λ k. reached_here r k j)

  all_there : (ps : Ports) → ((r : ℕ) → IsIn r (map (λ q. q.0) ps) → IsIn r kept_roots)
      → AreIn (taken_items (roots_of d) d) (none_items (roots_of d) d) kept_roots ps
  all_there [] h = tt
  all_there (q ∷ ps) h = (h q.0 (inl refl), all_there ps (λ r j. h r (inr j)))

  -- the law for a part of a forest: given the trees of the kept roots
  pub part_folds : (edge : Item) (m : ℕ → Node) → IsIn i (map (λ q. q.0) p.ports)
      → ArePartsApart (taken_items (roots_of d) d) (none_items (roots_of d) d) p.ports
      → opened edge ≡ inside_facts (port_cells d p.ports) inside → inside_boxes edge ≡ all_boxes inside
      → ((r : ℕ) → IsIn r kept_roots → Rearranged (tree_items (roots_of (each_node m kept_roots)) (m r))
      (edge_at edge i r ++ rest_items (roots_of d) d r (taken_at p.ports r)))
      → Opens edge (each_node m kept_roots) d
  part_folds edge m at apart is boxes trees =
      let w = p.reached (bares d) (choice_of T F.autos d of) in
      folding_opens d p.ports p.shapes p.inner kept_roots (numbered_at f) i edge m (record {
        all = all_roots p.inner (count d) once_here low_here;
        differ = kept_once p.inner (count d) once_here low_here;
        input = port_kept i at;
        there = all_there p.ports port_kept;
        apart = apart;
        many = many;
        ports_agree = all_ports_agree d p.ports p.shapes p.inner w.order many w.reached w.are low;
        inner_agree = inner_agree d p.ports p.shapes p.inner w.order many w.reached w.are low p.inner (λ r j. j);
        edge_is = is;
        boxes_are = boxes;
        trees = trees;
      })

  -- the root of the output is there, and is no inner root
  pub ends_there : (j : ℕ) → out ≡ Some j → (j < count d) × (IsIn j p.inner → ⊥)
  ends_there j e =
      let at : IsIn j (map (λ q. q.0) p.ports) = second out e p.ports p.shapes p.are_ports in
      let l = ports_low F.autos p.ports p.shapes p.roots j at in
      (subst (λ (z : ℕ). j < z) (sym n_is) l, (λ k. reached_here j k at))
    where
      second : (o : Option ℕ) → o ≡ Some j → (ps : Ports) (ss : List ℕ) → PortsAre bs def i o ps ss
          → IsIn j (map (λ q. q.0) ps)
      second None q ps ss are = absurd (none-some j q)
      second (Some k) q ps ss (a, c, ins, outs, t, at, to, fields, fields_out, ports, some, shapes) =
          subst (λ (qs : Ports). IsIn j (map (λ q. q.0) qs)) (sym ports) (inr (inl (sym (same_Some k j q))))
