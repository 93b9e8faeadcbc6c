-- What is reached in a box between two roots: all of it from the input, and the input from the output exactly where some
-- field of the output leads back.
use Rattle.std.proofs.Common.{◌≡◌, ◌<◌, inl, inr, ℕ, false, List, [], ◌∷◌, flat_map}
use Rattle.std.proofs.Common.{Bool, true, cond, refl, sym, ap, subst, ◌∙◌}
use Rattle.fore_base.specs.Lists.{IsIn, Every, Paired}
use Rattle.ta_core.specs.Auto.{Automaton}
use Rattle.ta_core.specs.declared.symbol.Slot.{Slot}
use Rattle.ta_core.specs.declared.symbol.Symbol.TheVariants.{Cell as CellSymbol}
use Rattle.ta_core.specs.declared.tree.Tree.{Tree}
use Rattle.fa_core.specs.declared.faces.BoxFace.{BoxFace}
use Rattle.fa_core.specs.declared.forest.Forest.{Forest}
use Rattle.fa_core.specs.declared.forest.Target.TheVariants.{At}
use Rattle.fa_core.specs.declared.signature.RefMark.{RefMark}
use Rattle.fa_core.specs.declared.signature.Signature.{Signature}
use Rattle.fa_core.specs.Canonical.{RefersTo}
use Rattle.fa_core.specs.Dressed.{Node, Parts, node, no_parts, field, link, hook, refs, refs_of}
use Rattle.fa_core.specs.Filled.{Choice}
use Rattle.fa_core.specs.Member.{bare, bare_parts, slots_of}
use Rattle.fa_core.specs.Placed.{placed_parts}
use Rattle.fa_core.specs.Ways.{has, mark, signature, ways}
use Rattle.fa_core.proofs.Placing.{refs_placed_parts, slots_placed}
use Rattle.fa_core.proofs.WaysOf.{rolled_ways, tree_roots}
use Rattle.fa_back.specs.Insides.{AlwaysReaches, NeverReaches, ReachesAll}
use Rattle.fa_back.specs.Reached.{AreSignaturesOf, IsSignedBy, SignReached}
use Rattle.fa_back.proofs.RootMarks.{flat_in, in_flat, in_mark, mark_in, reach_refers}
use Rattle.fa_folding.specs.Folded.{taken_parts}
use Rattle.fa_folding.proofs.Places.{none_taken}
use Rattle.fa_learn.specs.Learning.{IsBetween, port_of}
use Rattle.fa_learn.proofs.Closures.{all_reached, leads_nowhere, leads_up}
use Rattle.fa_learn.proofs.LeadFields.{some_refers}
use Rattle.fa_learn.proofs.PortsSeen.{AreSeen, in0, in1, input_port, near0, near1, output_port, port_node}
use Rattle.fa_learn.proofs.WaysOfPorts.{IsFieldSlot, ports_lead_nowhere}

module _ (f : ℕ → ℕ) (s : ℕ) (fs : List ℕ) (ps : Parts) where
  abbrev m : Node
  m = port_node f s fs ps

  port_refs : refs m ≡ flat_map (λ k. f k ∷ []) (refs_of (taken_parts fs ps))
  port_refs = refs_placed_parts (λ k. At (f k)) (taken_parts fs ps)

  -- a port refers to the moved roots, and to these alone
  pub refers : (k : ℕ) → IsIn k (refs_of (taken_parts fs ps)) → RefersTo (bare m) (f k)
  refers k h =
      subst (λ (l : List ℕ). IsIn (f k) l) (sym port_refs ∙ sym (tree_roots m))
      (in_flat (λ (n : ℕ). f n ∷ []) (refs_of (taken_parts fs ps)) k (f k) h (inl refl))

  pub referred : (n : ℕ) → RefersTo (bare m) n → (k : ℕ) × IsIn k (refs_of (taken_parts fs ps)) × (n ≡ f k)
  referred n h =
      let w = flat_in (λ (k : ℕ). f k ∷ []) (refs_of (taken_parts fs ps)) n
      (subst (λ (l : List ℕ). IsIn n l) (tree_roots m ∙ port_refs) h) in
      (w.0, w.1, (elim w.2 [ inl e ↦ e | inr x ↦ absurd x ]))

  -- its slots are fields
  fields_only : (us : Parts) → Every IsFieldSlot (slots_of (taken_parts fs us))
  fields_only no_parts = tt
  fields_only (field g e us) = here (has g fs) (fields_only us)
    where
      here : (b : Bool) → Every IsFieldSlot (slots_of (taken_parts fs us))
          → Every IsFieldSlot (slots_of (cond b (field g e (taken_parts fs us)) (taken_parts fs us)))
      here true k = (tt, k)
      here false k = k
  fields_only (link b i e us) = fields_only us
  fields_only (hook b i us) = fields_only us

  pub not_back : (bs : List BoxFace) (x : RefMark) → IsIn x (signature bs (bare m)) → x.back ≡ false
  not_back bs x h =
      let qs = placed_parts (λ k. At (f k)) (taken_parts fs ps) in
      ports_lead_nowhere bs s [] (slots_of qs)
      (subst (λ (ss : List Slot). Every IsFieldSlot ss) (sym (slots_placed (λ k. At (f k)) (taken_parts fs ps)))
      (fields_only ps)) (bare_parts qs) x h

module _ (bs : List BoxFace) (F : Forest) (i j : ℕ) (ins outs : List ℕ) (b : IsBetween F i j ins outs) where
  abbrev p : ℕ → ℕ
  p = port_of i j

  module _ (u0 u1 : Tree) (w : AreSeen F i j ins outs b u0 u1) where
    -- the ports refer to each other
    pub to_output : (g : ℕ) → IsIn g ins → RefersTo u0 1
    to_output g h =
        subst (λ (t : Tree). RefersTo t 1) (sym w.is0)
        (subst (λ (n : ℕ). RefersTo (bare (port_node p b.in_shape ins w.ps0)) n) (output_port i j b.differ)
        (refers p b.in_shape ins w.ps0 j
        (some_refers w.c0 b.in_shape w.ds0 w.ps0 b.input.auto j ins b.are_in (in0 F i j ins outs b u0 u1 w) g h)))

    pub to_input : (g : ℕ) → IsIn g outs → RefersTo u1 0
    to_input g h =
        subst (λ (t : Tree). RefersTo t 0) (sym w.is1)
        (subst (λ (n : ℕ). RefersTo (bare (port_node p b.out_shape outs w.ps1)) n) (input_port i j)
        (refers p b.out_shape outs w.ps1 i
        (some_refers w.c1 b.out_shape w.ds1 w.ps1 b.output.auto i outs b.are_out (in1 F i j ins outs b u0 u1 w) g h)))

    pub refs_input : (n : ℕ) → RefersTo u0 n → n ≡ 1
    refs_input n h =
        let k = referred p b.in_shape ins w.ps0 n (subst (λ (t : Tree). RefersTo t n) w.is0 h) in
        k.2 ∙ ap p (near0 F i j ins outs b u0 u1 w k.0 k.1) ∙ output_port i j b.differ

    pub refs_output : (n : ℕ) → RefersTo u1 n → n ≡ 0
    refs_output n h =
        let k = referred p b.out_shape outs w.ps1 n (subst (λ (t : Tree). RefersTo t n) w.is1 h) in
        k.2 ∙ ap p (near1 F i j ins outs b u0 u1 w k.0 k.1) ∙ input_port i j

    -- marks of their signatures
    pub input_low : (x : RefMark) → IsIn x (signature bs u0) → x.back ≡ false
    input_low x h =
        not_back p b.in_shape ins w.ps0 bs x (subst (λ (t : Tree). IsIn x (signature bs t)) w.is0 h)

    pub input_near : (x : RefMark) → IsIn x (signature bs u0) → (r : ℕ) → IsIn r x.reach → r ≡ 1
    input_near x h r k =
        let q = in_mark bs u0 x h in
        refs_input r (reach_refers bs u0 q.0 r (subst (λ (y : RefMark). IsIn r y.reach) q.2 k))

    pub output_none : outs ≡ [] → signature bs u1 ≡ []
    output_none e =
        ap (signature bs) w.is1
        ∙ ap (λ (us : Parts). signature bs (bare (node 0 b.out_shape [] (placed_parts (λ k. At (p k)) us))))
        (ap (λ (fs : List ℕ). taken_parts fs w.ps1) e ∙ none_taken w.ps1)
        ∙ (let k = rolled_ways (record { symbol = CellSymbol b.out_shape [] []; children = [] }) in rw k refl)

  -- The closures, for every choice of the box's trees.
  module _ (first second : Automaton)
      (see : (u0 u1 : Tree) → Choice (first ∷ second ∷ []) (u0 ∷ u1 ∷ []) → AreSeen F i j ins outs b u0 u1) where
    abbrev autos : List Automaton
    autos = first ∷ second ∷ []

    -- by the trees of the two components
    by_trees : (P : List Signature → Type 0)
        → ((u0 u1 : Tree) (s0 s1 : Signature) → AreSeen F i j ins outs b u0 u1 → signature bs u0 ≡ s0.refs
        → signature bs u1 ≡ s1.refs → P (s0 ∷ s1 ∷ [])) → (ss : List Signature) → AreSignaturesOf bs autos ss → P ss
    by_trees P go ss h = here h.trees ss h.choice h.signed
      where
        here : (ts : List Tree) (ss : List Signature) → Choice autos ts → Paired (IsSignedBy bs) ts ss → P ss
        here [] ss c k = absurd c
        here (u0 ∷ []) ss c k = absurd c.1
        here (u0 ∷ u1 ∷ t ∷ ts) ss c k = absurd c.1.1
        here (u0 ∷ u1 ∷ []) [] c k = absurd k
        here (u0 ∷ u1 ∷ []) (s0 ∷ []) c k = absurd k.1
        here (u0 ∷ u1 ∷ []) (s0 ∷ s1 ∷ s ∷ ss) c k = absurd k.1.1
        here (u0 ∷ u1 ∷ []) (s0 ∷ s1 ∷ []) c k = go u0 u1 s0 s1 (see u0 u1 c) k.0 k.1.0

    pub reaches_all : (g : ℕ) → IsIn g ins → ReachesAll bs autos 0
    reaches_all g h = by_trees (λ (ss : List Signature). (r : ℕ) → r < 2 → SignReached ss (0 ∷ []) r)
        (λ u0 u1 s0 s1 w e k. all_reached s0 s1 (mark bs (ways u0) 1)
        (subst (λ (ms : List RefMark). IsIn (mark bs (ways u0) 1) ms) e (mark_in bs u0 1 (to_output u0 u1 w g h))) refl)

    pub always_back : (g : ℕ) → IsIn g outs → AlwaysReaches bs autos 1 0
    always_back g h = by_trees (λ (ss : List Signature). SignReached ss (1 ∷ []) 0)
        (λ u0 u1 s0 s1 w e k. leads_up s0 s1 (mark bs (ways u1) 0)
        (subst (λ (ms : List RefMark). IsIn (mark bs (ways u1) 0) ms) k (mark_in bs u1 0 (to_input u0 u1 w g h))) refl)

    pub never_back : outs ≡ [] → NeverReaches bs autos 1 0
    never_back none = by_trees (λ (ss : List Signature). SignReached ss (1 ∷ []) 0 → ⊥)
        (λ u0 u1 s0 s1 w e k. leads_nowhere s0 s1 (sym k ∙ output_none u0 u1 w none)
        (λ x i. input_low u0 u1 w x (subst (λ (ms : List RefMark). IsIn x ms) (sym e) i))
        (λ x i. input_near u0 u1 w x (subst (λ (ms : List RefMark). IsIn x ms) (sym e) i)))
