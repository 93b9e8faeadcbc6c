-- What is reached in insides of a box follows from the signatures of its components.
use Rattle.std.proofs.Common.{◌≡◌, ◌⊎◌, inl, inr, ℕ, zero, suc, ◌<◌, length, List, [], ◌∷◌, ◌++◌, refl, sym}
use Rattle.std.proofs.Common.{ap, subst, ◌∙◌, Some, cond, Bool, arith, flat_map}
use Rattle.std.proofs.lemmas.Bool.{eq-eqb}
use Rattle.fore_base.specs.Lists.{IsIn, Every, IsDistinct}
use Rattle.fore_base.specs.declared.store.Value.{Value}
use Rattle.fore_base.specs.declared.store.Value.TheVariants.{Dangling as DanglingValue, Cell}
use Rattle.ta_core.specs.Auto.{Automaton}
use Rattle.ta_core.specs.declared.symbol.Slot.{Slot}
use Rattle.fa_core.specs.declared.boxes.BoxDef.{BoxDef}
use Rattle.fa_core.specs.declared.faces.BoxFace.{BoxFace}
use Rattle.fa_core.specs.declared.faces.Face.{Face}
use Rattle.fa_core.specs.declared.forest.Target.TheVariants.{At}
use Rattle.fa_core.specs.Boxes.{InsideFilled, IsPortFilled}
use Rattle.fa_core.specs.Boxes.{Begins, Reaches, heads}
use Rattle.fa_core.specs.Choices.{bares, count}
use Rattle.fa_core.specs.Dressed.{Node, Parts, Nodes, node, no_parts, field, link, hook, no_nodes, more, Head}
use Rattle.fa_core.specs.Dressed.{nth_value, roots_of, inside_facts, tree_facts, slot_facts, forest_facts}
use Rattle.fa_core.specs.Filled.{TopsAre, Spot, given_at, covers, HasField}
use Rattle.fa_core.specs.Member.{bare, TreesOf, slots_of}
use Rattle.fa_core.specs.Rearranged.{Rearranged}
use Rattle.fa_core.proofs.Given.{Tip, all_tips, tip_to}
use Rattle.fa_core.proofs.GivenTips.{given_tips}
use Rattle.fa_core.proofs.NodeSpots.{spots_are, node_spots}
use Rattle.fa_core.proofs.Permuted.{in_rearranged}
use Rattle.fa_core.proofs.Rearranging.{back}
use Rattle.fa_back.specs.Reached.{RootReached}
use Rattle.fa_back.specs.Reached.{node_at}
use Rattle.fa_back.proofs.EdgesWorth.{TableKnown, AllFit, forest_sound}
use Rattle.fa_back.proofs.FactParts.{number_of, no_cell}
use Rattle.fa_back.proofs.Facts.{heads_right}
use Rattle.fa_back.proofs.LinksFit.{AllEnds, TipsFit, tops_long, root_cell, fit_roots, fit_all}
use Rattle.fa_back.proofs.Open.{own_forest, reached_open}
use Rattle.fa_back.proofs.Ports.{moved, up_of_met, all_of_met, met_of_up, one_head, two_heads, one_plain, two_plain}
use Rattle.fa_back.proofs.Ports.{one_kept, two_kept}

-- A port to which nothing is given has no slots.

nothing : {X : Type 0} (xs : List X) → Rearranged [] xs → xs ≡ []
nothing [] h = refl
nothing (x ∷ xs) h = absurd (in_rearranged x (back h) (inl refl))

nothing_left : {X : Type 0} (xs ys : List X) → (xs ++ ys) ≡ [] → (xs ≡ []) × (ys ≡ [])
nothing_left [] ys e = (refl, e)
nothing_left (x ∷ xs) ys e = absurd (some (xs ++ ys) e)
  where
    some : (zs : List _) → (x ∷ zs) ≡ [] → ⊥
    some zs e = let l : suc (length zs) ≡ 0 = ap length e in omega (arith, l)

bare_slots : (bs : List BoxFace) (ss : List Slot) → Every (λ s. HasField (covers bs s)) ss
    → flat_map (covers bs) ss ≡ [] → ss ≡ []
bare_slots bs [] h e = refl
bare_slots bs (s ∷ ss) h e =
    absurd (subst HasField (nothing_left (covers bs s) (flat_map (covers bs) ss) e).0 h.0)

bare_parts_are : (ps : Parts) → slots_of ps ≡ [] → ps ≡ no_parts
bare_parts_are no_parts e = refl
bare_parts_are (field f e ps) h = absurd (let l = ap length h in omega (arith, l))
bare_parts_are (link b i e ps) h = absurd (let l = ap length h in omega (arith, l))
bare_parts_are (hook b i ps) h = absurd (let l = ap length h in omega (arith, l))

-- the leaves that name root r are given nothing
tip_given : (bs : List BoxFace) (r : ℕ) (ts : List Tip) (g : List ℕ) → flat_map (tip_to r) ts ≡ []
    → IsIn (At r, g) ts → g ≡ []
tip_given bs r [] g e i = absurd i
tip_given bs r (t ∷ ts) g e (inl h) =
    let first : tip_to r t ≡ [] = (nothing_left (tip_to r t) (flat_map (tip_to r) ts) e).0 in
    let own : tip_to r (At r, g) ≡ [] = ap (tip_to r) h ∙ first in
    sym (ap (λ (b : Bool). cond b g []) (eq-eqb r r refl)) ∙ own
tip_given bs r (t ∷ ts) g e (inr i) =
    tip_given bs r ts g (nothing_left (tip_to r t) (flat_map (tip_to r) ts) e).1 i

-- the cell of a root has a head
pub root_head : (vs : List Value) (ns : Nodes) (r n : ℕ) → nth_value (roots_of ns) r ≡ Cell n
    → IsIn n (heads (forest_facts vs [] ns))
root_head vs no_nodes r n e = absurd (no_cell DanglingValue n e)
root_head vs (more (node c s ds ps) ns) zero n e = inl (sym (ap number_of e))
root_head vs (more y ns) (suc r) n e = heads_right (tree_facts vs y) (forest_facts vs [] ns) n (root_head vs ns r n e)

module _ (face : Face) (T : List BoxDef) (known : TableKnown face.boxes T) (x : BoxFace) (autos : List Automaton) where
  abbrev bs : List BoxFace
  bs = face.boxes

  -- each root is met from root i, in this dressed inside
  abbrev pub MetFrom : ℕ → Nodes → Type 0
  MetFrom i d = (r : ℕ) (y : Node) → node_at d r ≡ Some y → RootReached face.boxes (At i ∷ []) (bares d) r

  module _ (tops : List ℕ) where
    -- one port
    pub one_reached : (d : Nodes) → TopsAre (bares d) tops → Begins (x.input ∷ []) tops → AllEnds face tops d
        → TreesOf T autos d → MetFrom 0 d → (c n : ℕ)
        → IsIn n (heads (inside_facts (Cell c ∷ []) d)) ⊎ IsIn (Cell n) (Cell c ∷ [])
        → Reaches (Cell c ∷ []) (inside_facts (Cell c ∷ []) d) n
    one_reached no_nodes a b ends of met c n i = absurd (subst (TopsAre []) b.1 a)
    one_reached (more (node p s ds ps) ns) a b ends of met c n i =
        all_of_met face.boxes T known autos (more (node c s ds ps) ns) (one_head c s ds)
        (inside_facts (Cell c ∷ []) (more (node p s ds ps) ns)) (one_kept p c s ds ps ns) (one_plain c s ds) of
        (fit_roots face tops (more (node c s ds ps) ns) (tops_long (more (node p s ds ps) ns) tops a) ends)
        0 c refl (to_own met) n (there i)
      where
        to_own : MetFrom 0 (more (node p s ds ps) ns) → MetFrom 0 (more (node c s ds ps) ns)
        to_own met zero y e = met zero (node p s ds ps) refl
        to_own met (suc r) y e = met (suc r) y e

        there : IsIn n (heads (inside_facts (Cell c ∷ []) (more (node p s ds ps) ns))) ⊎ IsIn (Cell n) (Cell c ∷ [])
            → IsIn n (c ∷ heads (inside_facts (Cell c ∷ []) (more (node p s ds ps) ns)))
        there (inl j) = inr j
        there (inr (inl e)) = inl (ap number_of e)
        there (inr (inr e)) = absurd e

    -- and the other way: where all is reached and all cells differ, each root is met
    pub one_met : (d : Nodes) → TopsAre (bares d) tops → Begins (x.input ∷ []) tops → AllEnds face tops d
        → TreesOf T autos d → (c : ℕ) → IsDistinct (c ∷ heads (inside_facts (Cell c ∷ []) d))
        → ((n : ℕ) → IsIn n (heads (inside_facts (Cell c ∷ []) d)) ⊎ IsIn (Cell n) (Cell c ∷ [])
        → Reaches (Cell c ∷ []) (inside_facts (Cell c ∷ []) d) n)
        → (r : ℕ) → r < count d → RootReached face.boxes (At 0 ∷ []) (bares d) r
    one_met no_nodes a b ends of c differ h r l = absurd (subst (TopsAre []) b.1 a)
    one_met (more (node p s ds ps) ns) a b ends of c differ h r l =
        let y = root_cell (more (node c s ds ps) ns) r l in
        met_of_up face.boxes T known autos (more (node c s ds ps) ns) (one_head c s ds)
        (inside_facts (Cell c ∷ []) (more (node p s ds ps) ns)) (one_kept p c s ds ps ns) (one_plain c s ds) of
        (fit_roots face tops (more (node c s ds ps) ns) (tops_long (more (node p s ds ps) ns) tops a) ends)
        0 c refl differ r y.0 y.1 (h y.0 (there r y.0 y.1))
      where
        there : (r n : ℕ) → nth_value (roots_of (more (node c s ds ps) ns)) r ≡ Cell n
            → IsIn n (heads (inside_facts (Cell c ∷ []) (more (node p s ds ps) ns))) ⊎ IsIn (Cell n) (Cell c ∷ [])
        there zero n e = inr (inl (sym e))
        there (suc r) n e = inl (heads_right (slot_facts (Cell c ∷ roots_of ns) c ps)
            (forest_facts (Cell c ∷ roots_of ns) [] ns) n (root_head (Cell c ∷ roots_of ns) ns r n e))

    module _ (t : ℕ) where
      -- two ports, both cells
      pub two_reached : (d : Nodes) → TopsAre (bares d) tops → Begins (x.input ∷ (t ∷ [])) tops → AllEnds face tops d
          → TreesOf T autos d → MetFrom 0 d → (c m n : ℕ)
          → IsIn n (heads (inside_facts (Cell c ∷ (Cell m ∷ [])) d)) ⊎ IsIn (Cell n) (Cell c ∷ (Cell m ∷ []))
          → Reaches (Cell c ∷ []) (inside_facts (Cell c ∷ (Cell m ∷ [])) d) n
      two_reached no_nodes a b ends of met c m n i = absurd (subst (TopsAre []) b.1 a)
      two_reached (more y no_nodes) a b ends of met c m n i = absurd ((subst (TopsAre (bare y ∷ [])) b.1 a).1)
      two_reached (more (node p s ds ps) (more (node q u es qs) ns)) a b ends of met c m n i =
          all_of_met face.boxes T known autos (more (node c s ds ps) (more (node m u es qs) ns))
          (two_heads c s ds m u es)
          (inside_facts (Cell c ∷ (Cell m ∷ [])) (more (node p s ds ps) (more (node q u es qs) ns)))
          (two_kept p q c m s u ds es ps qs ns) (two_plain c s ds m u es) of
          (fit_roots face tops (more (node c s ds ps) (more (node m u es qs) ns))
          (tops_long (more (node p s ds ps) (more (node q u es qs) ns)) tops a) ends)
          0 c refl (to_own met) n (there i)
        where
          to_own : MetFrom 0 (more (node p s ds ps) (more (node q u es qs) ns))
              → MetFrom 0 (more (node c s ds ps) (more (node m u es qs) ns))
          to_own met zero y e = met zero (node p s ds ps) refl
          to_own met (suc zero) y e = met (suc zero) (node q u es qs) refl
          to_own met (suc (suc r)) y e = met (suc (suc r)) y e

          there : IsIn n (heads (inside_facts (Cell c ∷ (Cell m ∷ []))
              (more (node p s ds ps) (more (node q u es qs) ns)))) ⊎ IsIn (Cell n) (Cell c ∷ (Cell m ∷ []))
              → IsIn n (c ∷ (m ∷ heads (inside_facts (Cell c ∷ (Cell m ∷ []))
              (more (node p s ds ps) (more (node q u es qs) ns)))))
          there (inl j) = inr (inr j)
          there (inr (inl e)) = inl (ap number_of e)
          there (inr (inr (inl e))) = inr (inl (ap number_of e))
          there (inr (inr (inr e))) = absurd e

      -- from a root that is the one port the other is reached where it is met
      pub two_up : (d : Nodes) → TopsAre (bares d) tops → Begins (x.input ∷ (t ∷ [])) tops → AllEnds face tops d
          → TreesOf T autos d → RootReached face.boxes (At 1 ∷ []) (bares d) 0 → (c m : ℕ)
          → Reaches (Cell m ∷ []) (inside_facts (Cell c ∷ (Cell m ∷ [])) d) c
      two_up no_nodes a b ends of met c m = absurd (subst (TopsAre []) b.1 a)
      two_up (more y no_nodes) a b ends of met c m = absurd ((subst (TopsAre (bare y ∷ [])) b.1 a).1)
      two_up (more (node p s ds ps) (more (node q u es qs) ns)) a b ends of met c m =
          up_of_met face.boxes T known autos (more (node c s ds ps) (more (node m u es qs) ns))
          (two_heads c s ds m u es)
          (inside_facts (Cell c ∷ (Cell m ∷ [])) (more (node p s ds ps) (more (node q u es qs) ns)))
          (two_kept p q c m s u ds es ps qs ns) (two_plain c s ds m u es) of
          (fit_roots face tops (more (node c s ds ps) (more (node m u es qs) ns))
          (tops_long (more (node p s ds ps) (more (node q u es qs) ns)) tops a) ends)
          1 m refl 0 c refl met

      -- and the other way, where all cells differ
      pub two_met : (d : Nodes) → TopsAre (bares d) tops → Begins (x.input ∷ (t ∷ [])) tops → AllEnds face tops d
          → TreesOf T autos d → (c m : ℕ)
          → IsDistinct (c ∷ (m ∷ heads (inside_facts (Cell c ∷ (Cell m ∷ [])) d)))
          → Reaches (Cell m ∷ []) (inside_facts (Cell c ∷ (Cell m ∷ [])) d) c
          → RootReached face.boxes (At 1 ∷ []) (bares d) 0
      two_met no_nodes a b ends of c m differ h = absurd (subst (TopsAre []) b.1 a)
      two_met (more y no_nodes) a b ends of c m differ h = absurd ((subst (TopsAre (bare y ∷ [])) b.1 a).1)
      two_met (more (node p s ds ps) (more (node q u es qs) ns)) a b ends of c m differ h =
          met_of_up face.boxes T known autos (more (node c s ds ps) (more (node m u es qs) ns))
          (two_heads c s ds m u es)
          (inside_facts (Cell c ∷ (Cell m ∷ [])) (more (node p s ds ps) (more (node q u es qs) ns)))
          (two_kept p q c m s u ds es ps qs ns) (two_plain c s ds m u es) of
          (fit_roots face tops (more (node c s ds ps) (more (node m u es qs) ns))
          (tops_long (more (node p s ds ps) (more (node q u es qs) ns)) tops a) ends)
          1 m refl differ 0 c refl h

      -- where all is reached and all cells differ, each root is met
      pub down_met : (d : Nodes) → TopsAre (bares d) tops → Begins (x.input ∷ (t ∷ [])) tops → AllEnds face tops d
          → TreesOf T autos d → (c m : ℕ)
          → IsDistinct (c ∷ (m ∷ heads (inside_facts (Cell c ∷ (Cell m ∷ [])) d)))
          → ((n : ℕ) → IsIn n (heads (inside_facts (Cell c ∷ (Cell m ∷ [])) d))
          ⊎ IsIn (Cell n) (Cell c ∷ (Cell m ∷ []))
          → Reaches (Cell c ∷ []) (inside_facts (Cell c ∷ (Cell m ∷ [])) d) n)
          → (r : ℕ) → r < count d → RootReached face.boxes (At 0 ∷ []) (bares d) r
      down_met no_nodes a b ends of c m differ h r l = absurd (subst (TopsAre []) b.1 a)
      down_met (more y no_nodes) a b ends of c m differ h r l = absurd ((subst (TopsAre (bare y ∷ [])) b.1 a).1)
      down_met (more (node p s ds ps) (more (node q u es qs) ns)) a b ends of c m differ h r l =
          let y = root_cell (more (node c s ds ps) (more (node m u es qs) ns)) r l in
          met_of_up face.boxes T known autos (more (node c s ds ps) (more (node m u es qs) ns))
          (two_heads c s ds m u es)
          (inside_facts (Cell c ∷ (Cell m ∷ [])) (more (node p s ds ps) (more (node q u es qs) ns)))
          (two_kept p q c m s u ds es ps qs ns) (two_plain c s ds m u es) of
          (fit_roots face tops (more (node c s ds ps) (more (node m u es qs) ns))
          (tops_long (more (node p s ds ps) (more (node q u es qs) ns)) tops a) ends)
          0 c refl differ r y.0 y.1 (h y.0 (there r y.0 y.1))
        where
          there : (r n : ℕ) → nth_value (roots_of (more (node c s ds ps) (more (node m u es qs) ns))) r ≡ Cell n
              → IsIn n (heads (inside_facts (Cell c ∷ (Cell m ∷ []))
              (more (node p s ds ps) (more (node q u es qs) ns)))) ⊎ IsIn (Cell n) (Cell c ∷ (Cell m ∷ []))
          there zero n e = inr (inl (sym e))
          there (suc zero) n e = inr (inr (inl (sym e)))
          there (suc (suc r)) n e =
              inl (heads_right (slot_facts (Cell c ∷ (Cell m ∷ roots_of ns)) c ps)
              (slot_facts (Cell c ∷ (Cell m ∷ roots_of ns)) m qs
              ++ forest_facts (Cell c ∷ (Cell m ∷ roots_of ns)) [] ns) n
              (heads_right (slot_facts (Cell c ∷ (Cell m ∷ roots_of ns)) m qs)
              (forest_facts (Cell c ∷ (Cell m ∷ roots_of ns)) [] ns) n
              (root_head (Cell c ∷ (Cell m ∷ roots_of ns)) ns r n e)))

      -- where the output ends in Dangling, for the box gives it nothing
      pub open_reached : (d : Nodes) → TopsAre (bares d) tops → Begins (x.input ∷ (t ∷ [])) tops
          → InsideFilled face (bares d) tops 0 (x.gives_in ∷ ([] ∷ [])) (bares d) → AllEnds face tops d
          → TreesOf T autos d → MetFrom 0 d → (c n : ℕ)
          → IsIn n (heads (inside_facts (Cell c ∷ (DanglingValue ∷ [])) d))
          → Reaches (Cell c ∷ []) (inside_facts (Cell c ∷ (DanglingValue ∷ [])) d) n
      open_reached no_nodes a b fill ends of met c n i = absurd (subst (TopsAre []) b.1 a)
      open_reached (more y no_nodes) a b fill ends of met c n i = absurd ((subst (TopsAre (bare y ∷ [])) b.1 a).1)
      open_reached (more (node p s ds ps) (more (node q u es qs) ns)) a b fill ends of met c n i =
          let port : IsPortFilled face tops [] (node_spots face.boxes (node q u es qs)
          (given_at face.boxes (bares (more (node p s ds ps) (more (node q u es qs) ns))) 1)) =
          subst (λ (z : List Spot). IsPortFilled face tops [] z)
          (spots_are face.boxes (node q u es qs)
          (given_at face.boxes (bares (more (node p s ds ps) (more (node q u es qs) ns))) 1)) fill.1.0 in
          let none = nothing_left (flat_map (covers face.boxes) (slots_of qs))
          (given_at face.boxes (bares (more (node p s ds ps) (more (node q u es qs) ns))) 1)
          (nothing (flat_map (covers face.boxes) (slots_of qs)
          ++ given_at face.boxes (bares (more (node p s ds ps) (more (node q u es qs) ns))) 1) port.0.once) in
          let empty : qs ≡ no_parts = bare_parts_are qs
          (bare_slots face.boxes (slots_of qs) port.0.order.0 none.0) in
          go qs empty a ends of met none.1 i
        where
          go : (qs : Parts) → qs ≡ no_parts → TopsAre (bares (more (node p s ds ps) (more (node q u es qs) ns))) tops
              → AllEnds face tops (more (node p s ds ps) (more (node q u es qs) ns))
              → TreesOf T autos (more (node p s ds ps) (more (node q u es qs) ns))
              → MetFrom 0 (more (node p s ds ps) (more (node q u es qs) ns))
              → given_at face.boxes (bares (more (node p s ds ps) (more (node q u es qs) ns))) 1 ≡ []
              → IsIn n (heads (inside_facts (Cell c ∷ (DanglingValue ∷ []))
              (more (node p s ds ps) (more (node q u es qs) ns))))
              → Reaches (Cell c ∷ []) (inside_facts (Cell c ∷ (DanglingValue ∷ []))
              (more (node p s ds ps) (more (node q u es qs) ns))) n
          go no_parts e a ends of met given i =
              let fit : AllFit face.boxes (Cell c ∷ (DanglingValue ∷ roots_of ns))
              (own_forest c q s u ds es ps no_parts ns) =
              fit_all face tops (Cell c ∷ (DanglingValue ∷ roots_of ns)) (own_forest c q s u ds es ps no_parts ns)
              ends tips_fit in
              moved (Cell c ∷ []) (Head c s ds ∷ inside_facts (Cell c ∷ (DanglingValue ∷ []))
              (more (node p s ds ps) (more (node q u es no_parts) ns)))
              (inside_facts (Cell c ∷ (DanglingValue ∷ [])) (more (node p s ds ps) (more (node q u es no_parts) ns))) n
              (λ k f m h. elim h [ inl z ↦ absurd (one_plain c s ds k f m (inl z)) | inr z ↦ z ])
              (reached_open face.boxes q s u c ds es ps ns
              (forest_sound face.boxes T known (Cell c ∷ (DanglingValue ∷ roots_of ns)) autos
              (own_forest c q s u ds es ps no_parts ns) of fit) (to_own met) n i)
            where
              to_own : MetFrom 0 (more (node p s ds ps) (more (node q u es no_parts) ns))
                  → MetFrom 0 (own_forest c q s u ds es ps no_parts ns)
              to_own met zero y e = met zero (node p s ds ps) refl
              to_own met (suc zero) y e = met (suc zero) (node q u es no_parts) refl
              to_own met (suc (suc r)) y e = met (suc (suc r)) y e

              tips_fit : TipsFit face tops (Cell c ∷ (DanglingValue ∷ roots_of ns))
                  (all_tips face.boxes (own_forest c q s u ds es ps no_parts ns))
              tips_fit zero g j l = inl (c, refl)
              tips_fit (suc zero) g j l = inr (
                refl,
                tip_given face.boxes 1 (all_tips face.boxes (own_forest c q s u ds es ps no_parts ns)) g
                    (sym (given_tips face.boxes 1 (own_forest c q s u ds es ps no_parts ns)) ∙ given) j,
              )
              tips_fit (suc (suc k)) g j l =
                  let long = tops_long (more (node p s ds ps) (more (node q u es no_parts) ns)) tops a in
                  inl (root_cell ns k (omega (arith, l, long)))
          go (field f e qs) h a ends of met given i =
              absurd (let l = ap (λ (z : Parts). length (slots_of z)) h in omega (arith, l))
          go (link b j e qs) h a ends of met given i =
              absurd (let l = ap (λ (z : Parts). length (slots_of z)) h in omega (arith, l))
          go (hook b j qs) h a ends of met given i =
              absurd (let l = ap (λ (z : Parts). length (slots_of z)) h in omega (arith, l))
