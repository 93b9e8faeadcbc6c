-- The forests with the cell of an edge lifted are sound.
use Rattle.std.proofs.Common.{◌≡◌, inl, inr, ℕ, suc, ◌<◌, ◌≤◌, ◌+◌, length, List, [], ◌∷◌, map, false, true≢false}
use Rattle.std.proofs.Common.{refl, sym, ap, subst, ◌∙◌, slice_set, length-set, length-append, arith}
use Rattle.std.proofs.lemmas.Option.{slice_get_within}
use Rattle.fore_base.specs.Lists.{IsIn, Every}
use Rattle.fore_base.proofs.ListLemmas.{every_in, in_every, every_append, in_mapped, place_of}
use Rattle.ta_core.specs.Arity.{arity}
use Rattle.ta_core.specs.Auto.{Automaton, IsRanked, IsRankedRule}
use Rattle.ta_core.specs.Language.{RunOf, run, InLanguage, IsWithin}
use Rattle.ta_core.specs.declared.auto.Rule.{Rule}
use Rattle.ta_core.specs.declared.symbol.Symbol.{Symbol}
use Rattle.ta_core.specs.declared.symbol.Symbol.TheVariants.{Null, Uninit, Dangling, Ref, Cell}
use Rattle.ta_core.specs.declared.tree.Tree.{Tree, out-Tree}
use Rattle.fa_core.specs.declared.faces.Face.{Face}
use Rattle.fa_core.specs.declared.forest.Forest.{Forest}
use Rattle.fa_core.specs.declared.forest.Target.{Target}
use Rattle.fa_core.specs.declared.signature.RefMark.{RefMark}
use Rattle.fa_core.specs.Cells.{is_leaf}
use Rattle.fa_core.specs.Dressed.{Node, End, under, leaf, refs}
use Rattle.fa_core.specs.Filled.{IsRoot, SymbolFits, RulesFit, HasSignatures, HasSome, IsSound}
use Rattle.fa_core.specs.Formed.{IsFormed}
use Rattle.fa_core.specs.Member.{bare, bare_end}
use Rattle.fa_core.specs.References.{AllBelow}
use Rattle.fa_core.proofs.Counts.{below_left, below_wider}
use Rattle.fa_core.proofs.Dressing.{leaf_top}
use Rattle.fa_core.proofs.FilledKept.{IsFormedTree, filled_kept, formed_by}
use Rattle.fa_core.proofs.NodeRuns.{NodeRun, node_bare, bare_node}
use Rattle.fa_core.proofs.Rearranging.{back, every_moved}
use Rattle.fa_core.proofs.WaysOf.{tree_roots}
use Rattle.fa_sound.specs.Components.{component_at}
use Rattle.fa_sound.proofs.ComponentLemmas.{item_component}
use Rattle.fa_merge.proofs.PlacedForests.{component_has, node_topped}
use Rattle.fa_signatures.specs.CutPieces.{IsPieceBy}
use Rattle.fa_split.proofs.HollowEnds.{run_end, tree_is_node}
use Rattle.fa_split.proofs.OtherComponent.{every_put, within_sound}
use Rattle.fa_split.proofs.SplitCells.{RefersWell, refers_well}
use Rattle.fa_split.proofs.SplitSound.{leaf_is_leaf}
use Rattle.fa_lift.specs.Lift.{Owns, owner, hole, hat_rules, hatted, lift_top, lift_in}
use Rattle.fa_lift.proofs.LiftHats.{OneHat, hat_found, at_hat, no_hat, of_hat}
use Rattle.fa_lift.proofs.LiftHoles.{CutNode, below_node, cut_refs}
use Rattle.fa_lift.proofs.LiftOwners.{owner_run, owner_ranked, owner_symbols, owner_cell, owner_signed}
use Rattle.fa_lift.proofs.LiftedForests.{in_regroups}

-- what the hatted automaton has

module _ (a : Automaton) (ranked : IsRanked a) (s u : ℕ) where
  with_children : (y : Symbol) (qs zs : List ℕ) → length qs ≡ arity y → OneHat a.states s qs zs → is_leaf y ≡ false
  with_children Null qs zs e o = absurd (no_hat a ranked s u qs e zs o)
  with_children Uninit qs zs e o = absurd (no_hat a ranked s u qs e zs o)
  with_children Dangling qs zs e o = absurd (no_hat a ranked s u qs e zs o)
  with_children (Ref k) qs zs e o = absurd (no_hat a ranked s u qs e zs o)
  with_children (Cell t ds ss) qs zs e o = refl

  -- its trees are cells
  hatted_cell : (t : Tree) → InLanguage (hatted a s u) t → is_leaf (out-Tree t).symbol ≡ false
  hatted_cell t (z, i, h) =
      let j = in_mapped (λ (y : ℕ). y + a.states) z a.roots i in
      there j.0 (every_in (λ y. y < a.states) a.roots j.0 ranked.0 j.1) j.2 h
    where
      there : (q : ℕ) → q < a.states → z ≡ q + a.states → RunOf (hatted a s u).rules z t
          → is_leaf (out-Tree t).symbol ≡ false
      there q l e (run o i w y k) =
          let m = at_hat a ranked s u q l o i (w ∙ e) in
          let p = (every_in (IsRankedRule a.states) a.rules m.0 ranked.1 m.1).2 in
          ap is_leaf (sym y ∙ m.3) ∙ with_children m.0.symbol m.0.children o.children p m.4

  -- its symbols are old ones, and the one reference
  hatted_symbols : (P : Symbol → Type 0) → P (Ref u) → Every (λ (o : Rule). P o.symbol) a.rules
      → Every (λ (o : Rule). P o.symbol) (hatted a s u).rules
  hatted_symbols P k h = every_append (λ (o : Rule).
      P o.symbol) a.rules (hole a.states u ∷ hat_rules a.states s a.rules) h (
        k,
        in_every (λ (o : Rule). P o.symbol) (hat_rules a.states s a.rules) (λ o i.
            let m = hat_found a.states s a.rules o i in
            subst P (sym m.3) (every_in (λ (z : Rule). P z.symbol) a.rules m.0 h m.1)),
      )

  -- the states of its rules are in range
  hats_within : (l : s < a.states) (qs zs : List ℕ) → Every (λ q. q < a.states) qs → OneHat a.states s qs zs
      → Every (λ q. q < a.states + a.states + 1) zs × (length zs ≡ length qs)
  hats_within l [] zs h o = absurd o
  hats_within l (q ∷ qs) [] h o = absurd o
  hats_within l (q ∷ qs) (z ∷ zs) h (inl (inl e, w)) =
      rw (sym w) ((let b = h.0 in omega (arith, e, b), more qs h.1), refl)
    where
      more : (qs : List ℕ) → Every (λ q. q < a.states) qs → Every (λ q. q < a.states + a.states + 1) qs
      more [] h = tt
      more (q ∷ qs) h = (let b = h.0 in omega (arith, b), more qs h.1)
  hats_within l (q ∷ qs) (z ∷ zs) h (inl (inr e, w)) =
      rw (sym w) ((let b = e.1 in omega (arith, b), more qs h.1), refl)
    where
      more : (qs : List ℕ) → Every (λ q. q < a.states) qs → Every (λ q. q < a.states + a.states + 1) qs
      more [] h = tt
      more (q ∷ qs) h = (let b = h.0 in omega (arith, b), more qs h.1)
  hats_within l (q ∷ qs) (z ∷ zs) h (inr (e, o)) =
      let m = hats_within l qs zs h.1 o in
      ((let b = h.0 in omega (arith, e, b), m.0), ap (λ k. suc k) m.1)

  old_rules : (m n : ℕ) → m ≤ n → (rs : List Rule) → Every (IsRankedRule m) rs → Every (IsRankedRule n) rs
  old_rules m n l [] h = tt
  old_rules m n l (o ∷ rs) h =
      ((let b = h.0.0 in omega (arith, b, l), more o.children h.0.1, h.0.2), old_rules m n l rs h.1)
    where
      more : (qs : List ℕ) → Every (λ q. q < m) qs → Every (λ q. q < n) qs
      more [] h = tt
      more (q ∷ qs) h = (let b = h.0 in omega (arith, b, l), more qs h.1)

  pub hatted_ranked : s < a.states → IsRanked (hatted a s u)
  hatted_ranked l = (
    in_every (λ q. q < a.states + a.states + 1) (map (λ q. q + a.states) a.roots)
        (λ z i. root z (in_mapped (λ (q : ℕ). q + a.states) z a.roots i)),
    every_append (IsRankedRule (a.states + a.states + 1)) a.rules (hole a.states u ∷ hat_rules a.states s a.rules)
        (old_rules a.states (a.states + a.states + 1) (omega arith) a.rules ranked.1) (
          (omega arith, tt, refl),
          in_every (IsRankedRule (a.states + a.states + 1)) (hat_rules a.states s a.rules) each,
        ),
  )
    where
      root : (z : ℕ) → (q : ℕ) × IsIn q a.roots × (z ≡ q + a.states) → z < a.states + a.states + 1
      root z (q, i, e) = let b = every_in (λ q. q < a.states) a.roots q ranked.0 i in omega (arith, b, e)

      each : (o : Rule) → IsIn o (hat_rules a.states s a.rules) → IsRankedRule (a.states + a.states + 1) o
      each o i =
          let m = hat_found a.states s a.rules o i in
          let w = every_in (IsRankedRule a.states) a.rules m.0 ranked.1 m.1 in
          let b = hats_within l m.0.children o.children w.1 m.4 in
          let e = m.2 in let v = w.0 in (omega (arith, e, v), b.0, b.1 ∙ w.2 ∙ ap arity (sym m.3))

module _ (face : Face) (F : Forest) (r f t : ℕ) (ranked : Every IsRanked F.autos) (there : t < length F.autos)
    (sound : IsSound face F) (x : Rule) (p : ℕ)
    (own : Owns face.boxes r f (component_at F.autos t) x p) where
  abbrev a : Automaton
  a = component_at F.autos t

  abbrev N : ℕ
  N = length F.autos

  abbrev O : Automaton
  O = owner a x p r

  a_ranked : IsRanked a
  a_ranked = component_has IsRanked F.autos t ranked there

  a_fits : RulesFit face a
  a_fits = component_has (RulesFit face) F.autos t sound.well_formed.filled.rules there

  a_signed : HasSignatures face.boxes a
  a_signed = component_has (HasSignatures face.boxes) F.autos t sound.well_formed.signatures there

  well : RefersWell F
  well = refers_well face F sound

  o_fits : RulesFit face O
  o_fits = owner_symbols face.boxes r f a a_ranked x p own (SymbolFits face) tt a_fits

  o_signed : HasSignatures face.boxes O
  o_signed = owner_signed face.boxes r f a a_ranked x p own a_signed

  -- The edge at the top.

  pub top_sound : IsIn x.state a.roots → HasSome O → IsSound face (lift_top F r t x p)
  top_sound i some = within_sound F t O (λ u l. (x.state, i, owner_run face.boxes r f a a_ranked x p own u l)) face
      o_fits o_signed some sound

  -- The edge inside.

  module _ (c : Automaton) (c_ranked : IsRanked c) (marks : List RefMark)
      (piece : IsPieceBy face.boxes (hatted a x.state N) marks c)
      (some : HasSome O) where
    abbrev C : Automaton
    C = hatted a x.state N

    abbrev G : Forest
    G = lift_in F r t x p c

    within : IsWithin c C
    within u l = ((piece.trees u).0 l).0

    same_size : length G.autos ≡ suc N
    same_size = length-append (slice_set F.autos t c) (O ∷ []) ∙ ap (λ (n : ℕ). n + 1) (length-set F.autos t c)
        ∙ omega arith

    each_lifted : (P : Automaton → Type 0) → Every P F.autos → P c → P O → Every P G.autos
    each_lifted P h k m = every_append P (slice_set F.autos t c) (O ∷ []) (every_put P F.autos t c h k) (m, tt)

    low_state : x.state < a.states
    low_state = (every_in (IsRankedRule a.states) a.rules x a_ranked.1 own.rule).0

    hat_fits : RulesFit face C
    hat_fits = hatted_symbols a a_ranked x.state N (SymbolFits face) tt a_fits

    c_fits : RulesFit face c
    c_fits = in_every (λ (o : Rule). SymbolFits face o.symbol) c.rules (λ o i.
        let k = every_in (λ (z : Rule). (w : Rule) × IsIn w C.rules × (w.symbol ≡ z.symbol)) c.rules o piece.symbols i
        in
        subst (SymbolFits face) k.2 (every_in (λ (z : Rule). SymbolFits face z.symbol) C.rules k.0 hat_fits k.1))

    -- Trees.

    formed_node : (m : ℕ) (n : Node) → AllBelow m (refs n) → IsFormedTree m (bare n)
    formed_node m n b = (node_topped n, subst (λ (ks : List ℕ). AllBelow m ks) (sym (tree_roots n)) b)

    -- a tree that is no leaf is that of a cell
    cell_node : (b : Automaton) → IsRanked b → RulesFit face b → (q : ℕ) (u : Tree) → RunOf b.rules q u
        → is_leaf (out-Tree u).symbol ≡ false → (n : Node) × (bare n ≡ u)
    cell_node b k fits q u w g = (let e = run_end face b k fits q u w in here e.0 e.1)
      where
        here : (e : End) → bare_end e ≡ u → (n : Node) × (bare n ≡ u)
        here (under n) s = (n, s)
        here (leaf y) s = absurd
            (true≢false (sym (leaf_is_leaf y) ∙ ap is_leaf (sym (leaf_top y) ∙ ap (λ (z : Tree). (out-Tree z).symbol) s)
            ∙ g))

    owner_node : (u : Tree) → InLanguage O u → (n : Node) × (bare n ≡ u)
    owner_node u l = cell_node a a_ranked a_fits x.state u (owner_run face.boxes r f a a_ranked x p own u l)
        (owner_cell face.boxes r f a a_ranked x p own u l)

    hat_node : (u : Tree) → InLanguage C u → (n : Node) × (bare n ≡ u)
    hat_node u l = cell_node C (hatted_ranked a a_ranked x.state N low_state) hat_fits l.0 u l.2
        (hatted_cell a a_ranked x.state N u l)

    -- a cell of the rule stands in the place of the leaf of what is left, in a tree of the component
    placed : (m k : Node) → InLanguage O (bare m) → InLanguage C (bare k) → (w : Node) × AllBelow N (refs w)
        × CutNode N m w k
    placed m k l (z, i, w) =
        let j = in_mapped (λ (y : ℕ). y + a.states) z a.roots i in
        let b = of_hat a a_ranked x.state N m
        (bare_node a.rules x.state m (owner_run face.boxes r f a a_ranked x p own (bare m) l)) j.0 k
        (every_in (λ y. y < a.states) a.roots j.0 a_ranked.0 j.1)
        (subst (λ (y : ℕ). NodeRun C.rules y k) j.2 (bare_node C.rules z k w)) in
        (b.0, well.trees t b.0 there (j.0, j.1, node_bare a.rules j.0 b.0 b.1), b.2)

    old_formed : Every (λ b. (u : Tree) → InLanguage b u → IsFormedTree (suc N) u) F.autos
    old_formed = in_every (λ b. (u : Tree) → InLanguage b u → IsFormedTree (suc N) u) F.autos (λ b i u w.
        let k = place_of F.autos b i in
        let e : b ≡ component_at F.autos k.0 = item_component F.autos k.0 b k.1 in
        let l : k.0 < N = slice_get_within F.autos k.0 b k.1 in
        let v : InLanguage (component_at F.autos k.0) u = subst (λ (z : Automaton). InLanguage z u) e w in
        let n = tree_is_node face F sound.well_formed.filled sound.full ranked k.0 l u v in
        subst (λ (z : Tree). IsFormedTree (suc N) z) n.1
        (formed_node (suc N) n.0
        (below_wider N (suc N) (omega arith) (refs n.0)
        (well.trees k.0 n.0 l (subst (λ (z : Tree). InLanguage (component_at F.autos k.0) z) (sym n.1) v)))))

    left_formed : (u : Tree) → InLanguage c u → IsFormedTree (suc N) u
    left_formed u l =
        let h = within u l in
        let k = hat_node u h in
        let m = owner_node some.0 some.1 in
        let b = placed m.0 k.0 (subst (λ (z : Tree). InLanguage O z) (sym m.1) some.1)
        (subst (λ (z : Tree). InLanguage C z) (sym k.1) h) in
        subst (λ (z : Tree). IsFormedTree (suc N) z) k.1
        (formed_node (suc N) k.0
        (below_left (suc N) (refs k.0) (refs m.0)
        (every_moved (λ q. q < suc N) (back (cut_refs N m.0 b.2))
        (omega arith, below_wider N (suc N) (omega arith) (refs b.0) b.1))))

    owner_formed : (u : Tree) → InLanguage O u → IsFormedTree (suc N) u
    owner_formed u l =
        let m = owner_node u l in
        let h = within piece.some.0 piece.some.1 in
        let k = hat_node piece.some.0 h in
        let b = placed m.0 k.0 (subst (λ (z : Tree). InLanguage O z) (sym m.1) l)
        (subst (λ (z : Tree). InLanguage C z) (sym k.1) h) in
        subst (λ (z : Tree). IsFormedTree (suc N) z) m.1
        (formed_node (suc N) m.0
        (below_wider N (suc N) (omega arith) (refs m.0) (below_node N N m.0 b.2 b.1)))

    root_vars : Every (IsRoot (suc N)) F.vars
    root_vars = in_every (IsRoot (suc N)) F.vars
        (λ u i k e. (let l = well.vars k (subst (λ (z : Target). IsIn z F.vars) e i) in omega (arith, l)))

    formed : IsFormed face G
    formed = record {
      ranked = each_lifted IsRanked ranked c_ranked (owner_ranked face.boxes r f a a_ranked x p own);
      data_vars = sound.well_formed.filled.data_vars;
      rules = each_lifted (RulesFit face) sound.well_formed.filled.rules c_fits o_fits;
      choices = formed_by G
          (rw same_size
          (each_lifted (λ b. (u : Tree) → InLanguage b u → IsFormedTree (suc N) u) old_formed left_formed
          owner_formed))
          (rw same_size root_vars);
    }

    pub in_sound : IsSound face G
    in_sound = record {
      well_formed = record {
        filled = filled_kept face F G sound.well_formed.filled
            (λ T. in_regroups face.boxes F r f t ranked there well T x p own c within) formed;
        signatures = each_lifted (HasSignatures face.boxes) sound.well_formed.signatures piece.uniform o_signed;
      };
      full = each_lifted HasSome sound.full piece.some some;
    }
