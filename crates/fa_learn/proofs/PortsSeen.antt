-- The ports of a box that is between two roots, seen as parts of one dressed choice of the forest's trees.
use Rattle.std.proofs.Common.{◌≡◌, ◌≢◌, ℕ, zero, suc, Bool, true, false, true≢false, cond, nat_eq}
use Rattle.std.proofs.Common.{List, [], ◌∷◌, Some, slice_get, refl, sym, ap, subst, ◌∙◌}
use Rattle.std.proofs.lemmas.Bool.{eqb-true, eq-eqb}
use Rattle.std.proofs.lemmas.Option.{none-some, same_Some}
use Rattle.fore_base.specs.Lists.{IsIn, Every}
use Rattle.fore_base.specs.declared.store.Datum.{Datum}
use Rattle.ta_core.specs.Auto.{Automaton, IsRanked}
use Rattle.ta_core.specs.Language.{InLanguage}
use Rattle.ta_core.specs.declared.auto.Rule.{Rule}
use Rattle.ta_core.specs.declared.symbol.Symbol.{Symbol}
use Rattle.ta_core.specs.declared.symbol.Symbol.TheVariants.{Cell as CellSymbol}
use Rattle.ta_core.specs.declared.tree.Tree.{Tree}
use Rattle.fa_core.specs.declared.faces.Face.{Face}
use Rattle.fa_core.specs.declared.forest.Forest.{Forest}
use Rattle.fa_core.specs.declared.forest.Target.TheVariants.{At}
use Rattle.fa_core.specs.Choices.{bares}
use Rattle.fa_core.specs.Dressed.{Node, Parts, Nodes, node, no_nodes, more, refs_of}
use Rattle.fa_core.specs.Filled.{Choice, IsSound}
use Rattle.fa_core.specs.Folding.{IsLanguageOf, port_tree, symbol_slots}
use Rattle.fa_core.specs.Member.{bare, slots_of}
use Rattle.fa_core.specs.Placed.{placed_parts}
use Rattle.fa_core.proofs.Dressing.{cell_top}
use Rattle.fa_back.specs.Reached.{node_at}
use Rattle.fa_folding.specs.Folded.{taken_parts}
use Rattle.fa_folding.proofs.Insides.{port_is}
use Rattle.fa_leaves.proofs.Hollow.{filled_dressed}
use Rattle.fa_split.proofs.TopRules.{top_is, tree_by_top}
use Rattle.fa_learn.specs.Learning.{IsBetween, IsPort, port_of}
use Rattle.fa_learn.proofs.ChosenTrees.{two_trees}
use Rattle.fa_learn.proofs.LeadFields.{refer_to}
use Rattle.fa_learn.proofs.PortGiven.{node_there}

-- Numbers of ports.

eq_turned : (m n : ℕ) → nat_eq m n ≡ nat_eq n m
eq_turned m n = here (nat_eq m n) refl (nat_eq n m) refl
  where
    here : (a : Bool) → nat_eq m n ≡ a → (b : Bool) → nat_eq n m ≡ b → a ≡ b
    here true h true k = refl
    here false h false k = refl
    here true h false k = absurd (true≢false (sym (eq-eqb n m (sym (eqb-true m n h))) ∙ k))
    here false h true k = absurd (true≢false (sym (eq-eqb m n (sym (eqb-true n m k))) ∙ h))

pub not_equal : (m n : ℕ) → m ≢ n → nat_eq m n ≡ false
not_equal m n differ = here (nat_eq m n) refl
  where
    here : (b : Bool) → nat_eq m n ≡ b → nat_eq m n ≡ false
    here true e = absurd (differ (eqb-true m n e))
    here false e = e

module _ (i j : ℕ) where
  -- a reference to the input is to root 0
  pub is_input : (n : ℕ) → nat_eq 0 (port_of i j n) ≡ nat_eq i n
  is_input n = here (nat_eq n i) (nat_eq n j) ∙ eq_turned n i
    where
      here : (b c : Bool) → nat_eq 0 (cond b 0 (suc (cond c 0 1))) ≡ b
      here true c = refl
      here false true = refl
      here false false = refl

  pub input_port : port_of i j i ≡ 0
  input_port = let e : nat_eq i i ≡ true = eq-eqb i i refl in rw e refl

  module _ (differ : i ≢ j) where
    -- one to the output is to root 1
    pub is_output : (n : ℕ) → nat_eq 1 (port_of i j n) ≡ nat_eq j n
    is_output n = here (nat_eq n i) refl (nat_eq n j) refl ∙ eq_turned n j
      where
        here : (b : Bool) → nat_eq n i ≡ b → (c : Bool) → nat_eq n j ≡ c
            → nat_eq 1 (cond b 0 (suc (cond c 0 1))) ≡ c
        here true e true g = absurd (differ (sym (eqb-true n i e) ∙ eqb-true n j g))
        here true e false g = refl
        here false e true g = refl
        here false e false g = refl

    pub output_port : port_of i j j ≡ 1
    output_port =
        let e : nat_eq j i ≡ false = not_equal j i (λ d. differ (sym d)) in
        let g : nat_eq j j ≡ true = eq-eqb j j refl in rw (e, g) refl

-- Tops of ports.

abbrev struct_of : Symbol → ℕ
struct_of (CellSymbol s ds ss) = s
struct_of y = 0

module _ (F : Forest) (r shape : ℕ) (p : IsPort F r shape) where
  -- the cell at the top of each tree has the struct and the slots of the one rule
  pub port_cell : (c s : ℕ) (ds : List Datum) (ps : Parts) → InLanguage p.auto (bare (node c s ds ps))
      → (s ≡ shape) × (slots_of ps ≡ p.slots)
  port_cell c s ds ps h =
      let k = tree_by_top p.auto p.one (bare (node c s ds ps)) h in
      let e : CellSymbol s ds (slots_of ps) ≡ CellSymbol shape p.datums p.slots =
      sym (cell_top c s ds ps) ∙ sym k.0 ∙ ap (λ (x : Rule). x.symbol) (top_is p.auto p.one) ∙ p.symbol in
      (ap struct_of e, ap symbol_slots e)

-- the tree at a place of a choice
choice_in : (autos : List Automaton) (ts : List Tree) (k : ℕ) (a : Automaton) (t : Tree) → Choice autos ts
    → slice_get autos k ≡ Some a → slice_get ts k ≡ Some t → InLanguage a t
choice_in [] ts k a t h e g = absurd (none-some a e)
choice_in (x ∷ autos) [] k a t h e g = absurd (none-some t g)
choice_in (x ∷ autos) (u ∷ ts) zero a t h e g =
    subst (λ (z : Automaton). InLanguage z t) (same_Some x a e)
    (subst (λ (z : Tree). InLanguage x z) (same_Some u t g) h.0)
choice_in (x ∷ autos) (u ∷ ts) (suc k) a t h e g = choice_in autos ts k a t h.1 e g

bare_there : (d : Nodes) (k : ℕ) (n : Node) → node_at d k ≡ Some n → slice_get (bares d) k ≡ Some (bare n)
bare_there no_nodes k n e = absurd (none-some n e)
bare_there (more m ms) zero n e = ap (λ (x : Node). Some (bare x)) (same_Some m n e)
bare_there (more m ms) (suc k) n e = bare_there ms k n e

-- Ports.

-- a port of this struct, with these fields of a cell
abbrev pub port_node : (ℕ → ℕ) → ℕ → List ℕ → Parts → Node
port_node f s fs ps = node 0 s [] (placed_parts (λ k. At (f k)) (taken_parts fs ps))

module _ (F : Forest) (i j : ℕ) (ins outs : List ℕ) (b : IsBetween F i j ins outs) where
  -- the trees of a box are the ports of two trees of one dressed choice
  pub record AreSeen (u0 u1 : Tree) : Type 0 where
    pub nodes : Nodes
    pub choice : Choice F.autos (bares nodes)
    pub c0 : ℕ
    pub ds0 : List Datum
    pub ps0 : Parts
    pub c1 : ℕ
    pub ds1 : List Datum
    pub ps1 : Parts
    pub at0 : node_at nodes i ≡ Some (node c0 b.in_shape ds0 ps0)
    pub at1 : node_at nodes j ≡ Some (node c1 b.out_shape ds1 ps1)
    pub is0 : u0 ≡ bare (port_node (port_of i j) b.in_shape ins ps0)
    pub is1 : u1 ≡ bare (port_node (port_of i j) b.out_shape outs ps1)

  module _ (u0 u1 : Tree) (w : AreSeen u0 u1) where
    pub there0 : slice_get (bares w.nodes) i ≡ Some (bare (node w.c0 b.in_shape w.ds0 w.ps0))
    there0 = bare_there w.nodes i (node w.c0 b.in_shape w.ds0 w.ps0) w.at0

    pub there1 : slice_get (bares w.nodes) j ≡ Some (bare (node w.c1 b.out_shape w.ds1 w.ps1))
    there1 = bare_there w.nodes j (node w.c1 b.out_shape w.ds1 w.ps1) w.at1

    pub in0 : InLanguage b.input.auto (bare (node w.c0 b.in_shape w.ds0 w.ps0))
    in0 = choice_in F.autos (bares w.nodes) i b.input.auto _ w.choice b.input.there there0

    pub in1 : InLanguage b.output.auto (bare (node w.c1 b.out_shape w.ds1 w.ps1))
    in1 = choice_in F.autos (bares w.nodes) j b.output.auto _ w.choice b.output.there there1

    -- their slots
    pub slots0 : slots_of w.ps0 ≡ b.input.slots
    slots0 = (port_cell F i b.in_shape b.input w.c0 b.in_shape w.ds0 w.ps0 in0).1

    pub slots1 : slots_of w.ps1 ≡ b.output.slots
    slots1 = (port_cell F j b.out_shape b.output w.c1 b.out_shape w.ds1 w.ps1 in1).1

    -- and what they refer to
    pub near0 : (k : ℕ) → IsIn k (refs_of (taken_parts ins w.ps0)) → k ≡ j
    near0 = refer_to w.c0 b.in_shape w.ds0 w.ps0 b.input.auto j ins b.are_in in0

    pub near1 : (k : ℕ) → IsIn k (refs_of (taken_parts outs w.ps1)) → k ≡ i
    near1 = refer_to w.c1 b.out_shape w.ds1 w.ps1 b.output.auto i outs b.are_out in1

  module _ (face : Face) (sound : IsSound face F) (ranked : Every IsRanked F.autos) where
    seen_nodes : (d : Nodes) → Choice F.autos (bares d) → (n m : Node) → node_at d i ≡ Some n → node_at d j ≡ Some m
        → InLanguage b.input.auto (bare n) → InLanguage b.output.auto (bare m) → (u0 u1 : Tree)
        → u0 ≡ port_tree (port_of i j) b.in_shape ins (bare n)
        → u1 ≡ port_tree (port_of i j) b.out_shape outs (bare m) → AreSeen u0 u1
    seen_nodes d choice (node c0 s0 ds0 ps0) (node c1 s1 ds1 ps1) e0 e1 h0 h1 u0 u1 k0 k1 =
        let q0 = port_cell F i b.in_shape b.input c0 s0 ds0 ps0 h0 in
        let q1 = port_cell F j b.out_shape b.output c1 s1 ds1 ps1 h1 in
        record {
          nodes = d;
          choice = choice;
          c0 = c0;
          ds0 = ds0;
          ps0 = ps0;
          c1 = c1;
          ds1 = ds1;
          ps1 = ps1;
          at0 = e0 ∙ ap (λ (s : ℕ). Some (node c0 s ds0 ps0)) q0.0;
          at1 = e1 ∙ ap (λ (s : ℕ). Some (node c1 s ds1 ps1)) q1.0;
          is0 = k0 ∙ port_is (port_of i j) b.in_shape ins (node c0 s0 ds0 ps0);
          is1 = k1 ∙ port_is (port_of i j) b.out_shape outs (node c1 s1 ds1 ps1);
        }

    pub seen_trees : (t0 t1 u0 u1 : Tree) → InLanguage b.input.auto t0 → InLanguage b.output.auto t1
        → u0 ≡ port_tree (port_of i j) b.in_shape ins t0 → u1 ≡ port_tree (port_of i j) b.out_shape outs t1
        → AreSeen u0 u1
    seen_trees t0 t1 u0 u1 h0 h1 k0 k1 =
        let w = two_trees b.input.auto b.output.auto t0 t1 h0 h1 F.autos sound.full i j b.differ b.input.there
        b.output.there in
        let d = filled_dressed face F 0 sound.well_formed.filled ranked w.0 w.1 in
        let x = node_there d.nodes i t0 (ap (λ (l : List Tree). slice_get l i) d.trees ∙ w.2) in
        let y = node_there d.nodes j t1 (ap (λ (l : List Tree). slice_get l j) d.trees ∙ w.3) in
        seen_nodes d.nodes (subst (λ (l : List Tree). Choice F.autos l) (sym d.trees) w.1) x.0 y.0 x.1 y.1
        (subst (λ (t : Tree). InLanguage b.input.auto t) (sym x.2) h0)
        (subst (λ (t : Tree). InLanguage b.output.auto t) (sym y.2) h1) u0 u1
        (k0 ∙ ap (port_tree (port_of i j) b.in_shape ins) (sym x.2))
        (k1 ∙ ap (port_tree (port_of i j) b.out_shape outs) (sym y.2))

    -- each choice of the box is seen so
    pub seen : (first second : Automaton) → IsLanguageOf (port_tree (port_of i j) b.in_shape ins) b.input.auto first
        → IsLanguageOf (port_tree (port_of i j) b.out_shape outs) b.output.auto second → (u0 u1 : Tree)
        → InLanguage first u0 → InLanguage second u1 → AreSeen u0 u1
    seen first second at_input at_output u0 u1 h0 h1 =
        let x = (at_input u0).0 h0 in
        let y = (at_output u1).0 h1 in
        seen_trees x.0 y.0 u0 u1 x.1 y.1 x.2 y.2
