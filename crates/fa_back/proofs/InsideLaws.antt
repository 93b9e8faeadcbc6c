-- What is said of reaching in insides of a box, by the signatures of its components: both ways.
use Rattle.std.proofs.Common.{◌≡◌, ◌⊎◌, inl, inr, ℕ, zero, suc, ◌<◌, ◌≤◌, length, List, [], ◌∷◌, map, refl, sym}
use Rattle.std.proofs.Common.{ap, subst, ◌∙◌, Option, Some, None, arith}
use Rattle.std.proofs.lemmas.Option.{none-some}
use Rattle.fore_base.specs.Lists.{IsIn, Every, IsDistinct, Paired}
use Rattle.fore_base.specs.declared.store.Value.{Value}
use Rattle.fore_base.specs.declared.store.Value.TheVariants.{Dangling as DanglingValue, Cell}
use Rattle.ta_core.specs.Auto.{Automaton, IsRanked}
use Rattle.ta_core.specs.declared.tree.Tree.{Tree}
use Rattle.fa_core.specs.declared.faces.BoxFace.{BoxFace}
use Rattle.fa_core.specs.declared.forest.Target.TheVariants.{At}
use Rattle.fa_core.specs.declared.signature.Signature.{Signature}
use Rattle.fa_core.specs.Boxes.{Boxes, IsBoxTable, InsideFits, InsideFilled, PortsFit}
use Rattle.fa_core.specs.Boxes.{
  IsReached,
  LeadsUp,
  LeadsNowhere,
  Begins,
  port_structs,
  port_fields,
  Reaches,
  named,
  heads,
}
use Rattle.fa_core.specs.Choices.{bares, count}
use Rattle.fa_core.specs.Dressed.{Node, Nodes, no_nodes, more, inside_facts}
use Rattle.fa_core.specs.Filled.{Choice}
use Rattle.fa_core.specs.Member.{TreesOf}
use Rattle.fa_core.specs.Ways.{signature}
use Rattle.fa_core.proofs.Dressing.{choice_of, choice_length, bares_length}
use Rattle.fa_back.specs.Insides.{IsInside, AreRankedInsides, ReachesAll, AlwaysReaches, NeverReaches}
use Rattle.fa_back.specs.Reached.{RootReached, SignReached, AreSignaturesOf, IsSignedBy}
use Rattle.fa_back.specs.Reached.{node_at}
use Rattle.fa_back.proofs.ByMarks.{met_signed, signed_met}
use Rattle.fa_back.proofs.Dressable.{IsDressedApart, dressed_apart}
use Rattle.fa_back.proofs.EdgesWorth.{TableKnown}
use Rattle.fa_back.proofs.FactParts.{no_cell}
use Rattle.fa_back.proofs.Insides.{MetFrom, one_reached, one_met, two_reached, two_up, two_met, down_met, open_reached}
use Rattle.fa_back.proofs.LinksFit.{AllEnds, inside_ends}
use Rattle.fa_back.proofs.TablesKnown.{AllUse, table_known, inside_uses, faces_long}

-- Choices of signatures and choices of trees.

abbrev sign : List BoxFace → Tree → Signature
sign bs t = record { refs = signature bs t }

all_signed : (bs : List BoxFace) (ts : List Tree) → Paired (IsSignedBy bs) ts (map (sign bs) ts)
all_signed bs [] = tt
all_signed bs (t ∷ ts) = (refl, all_signed bs ts)

signatures_of : (bs : List BoxFace) (autos : List Automaton) (ts : List Tree) → Choice autos ts
    → AreSignaturesOf bs autos (map (sign bs) ts)
signatures_of bs autos ts c = record { trees = ts; choice = c; signed = all_signed bs ts }

pub node_there : (d : Nodes) (r : ℕ) (y : Node) → node_at d r ≡ Some y → r < count d
node_there no_nodes r y e = absurd (none-some y e)
node_there (more n ns) zero y e = omega arith
node_there (more n ns) (suc r) y e = let l = node_there ns r y e in omega (arith, l)

module _ (t : Boxes) (table : IsBoxTable t) (x : BoxFace) (autos : List Automaton) (inside : IsInside t.face x autos)
  where
    abbrev bs : List BoxFace
    bs = t.face.boxes

    known : TableKnown t.face.boxes t.defs
    known = subst (λ (z : List BoxFace). TableKnown z t.defs) (sym table.faces)
        (table_known t.defs t.face.shapes table.sound)

    module _ (d : Nodes) (of : TreesOf t.defs autos d) where
      choice : Choice autos (bares d)
      choice = choice_of t.defs autos d of

      fits : InsideFits t.face x (bares d)
      fits = inside.fits (bares d) choice

      ends : AllEnds t.face fits.tops d
      ends = inside_ends t.face fits.tops (bares d) 0 (port_fields x x.output) d fits.cells

      long : count d ≡ length autos
      long = sym (bares_length d) ∙ choice_length autos (bares d) choice

      begins : (o : Option ℕ) → x.output ≡ o → Begins (port_structs x o) fits.tops
      begins o e = subst (λ (z : Option ℕ). Begins (port_structs x z) fits.tops) e fits.ports

      -- met in the trees where reached by the signatures
      met : (i r : ℕ) → AlwaysReaches t.face.boxes autos i r → RootReached t.face.boxes (At i ∷ []) (bares d) r
      met i r h = signed_met t.face.boxes (At i ∷ []) (bares d) (map (sign t.face.boxes) (bares d))
          (all_signed t.face.boxes (bares d)) r
          (h (map (sign t.face.boxes) (bares d)) (signatures_of t.face.boxes autos (bares d) choice))

      all_met : (i : ℕ) → ReachesAll t.face.boxes autos i → MetFrom t.face t.defs known x autos i d
      all_met i h r y e = met i r (λ ss s. h ss s r (subst (λ (n : ℕ). r < n) long (node_there d r y e)))

      reached_in : ReachesAll t.face.boxes autos 0 → (o : Option ℕ) → x.output ≡ o → (c : ℕ) (ports : List Value)
          → PortsFit x o c ports → (n : ℕ) → IsIn n (heads (inside_facts ports d)) ⊎ IsIn (Cell n) ports
          → Reaches (Cell c ∷ []) (inside_facts ports d) n
      reached_in h None e c ports p n i =
          subst (λ (z : List Value). Reaches (Cell c ∷ []) (inside_facts z d) n) (sym p)
          (one_reached t.face t.defs known x autos fits.tops d fits.are (begins None e) ends of (all_met 0 h) c n
          (subst (λ (z : List Value). IsIn n (heads (inside_facts z d)) ⊎ IsIn (Cell n) z) p i))
      reached_in h (Some u) e c ports (w, p, inl m) n i =
          let q : ports ≡ Cell c ∷ (Cell m.0 ∷ []) = p ∙ ap (λ (z : Value). Cell c ∷ (z ∷ [])) m.1 in
          subst (λ (z : List Value). Reaches (Cell c ∷ []) (inside_facts z d) n) (sym q)
          (two_reached t.face t.defs known x autos fits.tops u d fits.are (begins (Some u) e) ends of (all_met 0 h)
          c m.0 n (subst (λ (z : List Value). IsIn n (heads (inside_facts z d)) ⊎ IsIn (Cell n) z) q i))
      reached_in h (Some u) e c ports (w, p, inr k) n i =
          let q : ports ≡ Cell c ∷ (DanglingValue ∷ []) = p ∙ ap (λ (z : Value). Cell c ∷ (z ∷ [])) k.0 in
          subst (λ (z : List Value). Reaches (Cell c ∷ []) (inside_facts z d) n) (sym q)
          (open_case (subst (λ (z : List Value). IsIn n (heads (inside_facts z d)) ⊎ IsIn (Cell n) z) q i))
        where
          fill : InsideFilled t.face (bares d) fits.tops 0 (x.gives_in ∷ ([] ∷ [])) (bares d)
          fill = subst (λ (z : List ℕ). InsideFilled t.face (bares d) fits.tops 0 (x.gives_in ∷ (z ∷ [])) (bares d)) k.1
              (subst (λ (z : Option ℕ). InsideFilled t.face (bares d) fits.tops 0 (port_fields x z) (bares d)) e
              fits.cells)

          open_case : IsIn n (heads (inside_facts (Cell c ∷ (DanglingValue ∷ [])) d))
              ⊎ IsIn (Cell n) (Cell c ∷ (DanglingValue ∷ []))
              → Reaches (Cell c ∷ []) (inside_facts (Cell c ∷ (DanglingValue ∷ [])) d) n
          open_case (inl j) = open_reached t.face t.defs known x autos fits.tops u d fits.are (begins (Some u) e) fill
              ends of (all_met 0 h) c n j
          open_case (inr (inl z)) = named (inl z)
          open_case (inr (inr (inl z))) = absurd (no_cell DanglingValue n (sym z))
          open_case (inr (inr (inr z))) = absurd z

    -- Where the closure holds it all.

    pub closure_reached : ReachesAll t.face.boxes autos 0 → IsReached t.defs x autos
    closure_reached h d of c ports p n i = reached_in d of h x.output refl c ports p n i

    pub closure_up : (u : ℕ) → x.output ≡ Some u → AlwaysReaches t.face.boxes autos 1 0 → LeadsUp t.defs autos
    closure_up u e h d of c m = two_up t.face t.defs known x autos (fits d of).tops u d (fits d of).are
        (begins d of (Some u) e) (ends d of) of (met d of 1 0 h) c m

    pub closure_nowhere : (u : ℕ) → x.output ≡ Some u → NeverReaches t.face.boxes autos 1 0 → LeadsNowhere t.defs autos
    closure_nowhere u e h d of c m differ w =
        h (map (sign t.face.boxes) (bares d)) (signatures_of t.face.boxes autos (bares d) (choice d of))
        (met_signed t.face.boxes (At 1 ∷ []) (bares d) (map (sign t.face.boxes) (bares d))
        (all_signed t.face.boxes (bares d)) 0
        (two_met t.face t.defs known x autos (fits d of).tops u d (fits d of).are (begins d of (Some u) e)
        (ends d of) of c m differ w))

    -- Where it holds in all insides, so does the closure.

    module _ (ranked : Every IsRanked autos) (insides : AreRankedInsides t.defs) where
      apart : (ts : List Tree) → Choice autos ts → IsDressedApart t.defs autos ts
      apart ts c =
          let long : length t.face.boxes ≡ length t.defs = ap length table.faces ∙ faces_long t.defs in
          let low : AllUse (length t.defs) autos = subst (λ (n : ℕ). AllUse n autos) long
          (inside_uses t.face (port_fields x x.output) autos inside.rules) in
          dressed_apart t.face.shapes t.defs table.sound insides autos ts (inside.fits ts c).tops low ranked c
          (inside.fits ts c).are

      to_signed : (i r : ℕ) (ss : List Signature) (s : AreSignaturesOf t.face.boxes autos ss) (d : Nodes)
          → bares d ≡ s.trees → RootReached t.face.boxes (At i ∷ []) (bares d) r → SignReached ss (i ∷ []) r
      to_signed i r ss s d e h = met_signed t.face.boxes (At i ∷ []) s.trees ss s.signed r
          (subst (λ (z : List Tree). RootReached t.face.boxes (At i ∷ []) z r) e h)

      from_signed : (i r : ℕ) (ss : List Signature) (s : AreSignaturesOf t.face.boxes autos ss) (d : Nodes)
          → bares d ≡ s.trees → SignReached ss (i ∷ []) r → RootReached t.face.boxes (At i ∷ []) (bares d) r
      from_signed i r ss s d e h = subst (λ (z : List Tree). RootReached t.face.boxes (At i ∷ []) z r) (sym e)
          (signed_met t.face.boxes (At i ∷ []) s.trees ss s.signed r h)

      differ_two : (ts : List Tree) (a : IsDressedApart t.defs autos ts) (ports : List Value)
          → IsDistinct (0 ∷ (1 ∷ heads (inside_facts ports a.nodes)))
      differ_two ts a ports = (
        (λ i. elim i [ inl e ↦ zero_one e | inr j ↦ low 0 (a.least ports 0 j) (omega arith) ]),
        ((λ j. low 1 (a.least ports 1 j) (omega arith)), a.differ ports),
      )
        where
          zero_one : zero ≡ suc zero → ⊥
          zero_one e = omega (arith, e)

          low : (n : ℕ) → 2 ≤ n → n < 2 → ⊥
          low n p q = omega (arith, p, q)

      differ_one : (ts : List Tree) (a : IsDressedApart t.defs autos ts) (ports : List Value)
          → IsDistinct (0 ∷ heads (inside_facts ports a.nodes))
      differ_one ts a ports = ((λ i. (differ_two ts a ports).0 (inr i)), a.differ ports)

      pub reached_closure : IsReached t.defs x autos → ReachesAll t.face.boxes autos 0
      reached_closure h ss s r l = go x.output refl
        where
          a : IsDressedApart t.defs autos s.trees
          a = apart s.trees s.choice

          below : r < count a.nodes
          below = subst (λ (n : ℕ). r < n) (sym (long a.nodes a.of)) l

          go : (o : Option ℕ) → x.output ≡ o → SignReached ss (0 ∷ []) r
          go None e = to_signed 0 r ss s a.nodes a.trees
              (one_met t.face t.defs known x autos (fits a.nodes a.of).tops a.nodes (fits a.nodes a.of).are
              (begins a.nodes a.of None e) (ends a.nodes a.of) a.of 0 (differ_one s.trees a (Cell 0 ∷ []))
              (λ n i. h a.nodes a.of 0 (Cell 0 ∷ [])
              (subst (λ (z : Option ℕ). PortsFit x z 0 (Cell 0 ∷ [])) (sym e) refl) n i) r below)
          go (Some u) e = to_signed 0 r ss s a.nodes a.trees
              (down_met t.face t.defs known x autos (fits a.nodes a.of).tops u a.nodes (fits a.nodes a.of).are
              (begins a.nodes a.of (Some u) e) (ends a.nodes a.of) a.of 0 1
              (differ_two s.trees a (Cell 0 ∷ (Cell 1 ∷ [])))
              (λ n i. h a.nodes a.of 0 (Cell 0 ∷ (Cell 1 ∷ []))
              (subst (λ (z : Option ℕ). PortsFit x z 0 (Cell 0 ∷ (Cell 1 ∷ []))) (sym e)
              (Cell 1, refl, inl (1, refl))) n i) r below)

      pub up_closure : (u : ℕ) → x.output ≡ Some u → LeadsUp t.defs autos → AlwaysReaches t.face.boxes autos 1 0
      up_closure u e h ss s =
          let a = apart s.trees s.choice in
          to_signed 1 0 ss s a.nodes a.trees
          (two_met t.face t.defs known x autos (fits a.nodes a.of).tops u a.nodes (fits a.nodes a.of).are
          (begins a.nodes a.of (Some u) e) (ends a.nodes a.of) a.of 0 1
          (differ_two s.trees a (Cell 0 ∷ (Cell 1 ∷ []))) (h a.nodes a.of 0 1))

      pub nowhere_closure : (u : ℕ) → x.output ≡ Some u → LeadsNowhere t.defs autos
          → NeverReaches t.face.boxes autos 1 0
      nowhere_closure u e h ss s w =
          let a = apart s.trees s.choice in
          h a.nodes a.of 0 1 (differ_two s.trees a (Cell 0 ∷ (Cell 1 ∷ [])))
          (two_up t.face t.defs known x autos (fits a.nodes a.of).tops u a.nodes (fits a.nodes a.of).are
          (begins a.nodes a.of (Some u) e) (ends a.nodes a.of) a.of (from_signed 1 0 ss s a.nodes a.trees w) 0 1)
