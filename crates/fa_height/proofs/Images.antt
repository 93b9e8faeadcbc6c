-- The runs of a quotient: each is a run of the component but for the trees that stand below joined states.
use Rattle.std.proofs.Common.{◌≡◌, ◌⊎◌, inl, inr, ℕ, suc, ◌<◌, eqb, Bool, true, false, List, [], ◌∷◌, map, refl, sym}
use Rattle.std.proofs.Common.{ap, ap₂, subst, ◌∙◌, true≢false}
use Rattle.std.specs.List.{list_any}
use Rattle.fore_base.specs.Lists.{IsIn, Every, Paired}
use Rattle.fore_base.proofs.ListLemmas.{in_map, in_mapped, every_in, number_in, in_number}
use Rattle.ta_core.specs.Auto.{Automaton, IsRanked, IsRankedRule}
use Rattle.ta_core.specs.Language.{RunOf, run, RunEach, run_none, run_more, InLanguage, HasTree, PassesBy, at_top}
use Rattle.ta_core.specs.Language.{below, OnePasses, this_one, later_one, IsTrim, IsWithin}
use Rattle.ta_core.specs.Renumbered.{renumbered}
use Rattle.ta_core.specs.declared.auto.Rule.{Rule}
use Rattle.ta_core.specs.declared.symbol.Symbol.{Symbol}
use Rattle.ta_core.specs.declared.tree.Tree.{Tree, Tree-F, out-Tree, out-roll-Tree}
use Rattle.ta_core.proofs.Runs.{along, tree_of, run_tree}
use Rattle.fa_core.specs.Cells.{is_leaf, below_of, marks_by}
use Rattle.fa_core.specs.Ways.{signature}
use Rattle.fa_core.specs.declared.faces.BoxFace.{BoxFace}
use Rattle.fa_core.specs.declared.signature.Below.{Below}
use Rattle.fa_core.proofs.CellMarks.{tree_signature}
use Rattle.fa_filling.proofs.SpotRules.{passed}
use Rattle.fa_height.specs.Quotients.{Agree, SameSignature, IsQuotient}

-- the trees have one symbol at the top, and one signature
abbrev pub LooksLike : List BoxFace → Tree → Tree → Type 0
LooksLike bs t u = ((out-Tree t).symbol ≡ (out-Tree u).symbol) × (signature bs t ≡ signature bs u)

-- what stands below an edge follows from that
below_same : (bs : List BoxFace) (ts us : List Tree) → Paired (LooksLike bs) ts us → map (below_of bs) ts
    ≡ map (below_of bs) us
below_same bs [] [] h = refl
below_same bs [] (u ∷ us) h = absurd h
below_same bs (t ∷ ts) [] h = absurd h
below_same bs (t ∷ ts) (u ∷ us) h =
    ap₂ (λ (x : Below) (xs : List Below). x ∷ xs)
    (ap₂ (λ (l : Bool) (ms : _). record { leaf = l; marks = ms }) (ap is_leaf h.0.0) h.0.1) (below_same bs ts us h.1)

-- a tree over trees that look like its children looks like it
pub looks_over : (bs : List BoxFace) (t : Tree) (y : Symbol) (us : List Tree) → y ≡ (out-Tree t).symbol
    → Paired (LooksLike bs) (out-Tree t).children us → LooksLike bs t (tree_of y us)
looks_over bs t y us e h =
    let x : Tree-F Tree = record { symbol = y; children = us } in
    let o = out-roll-Tree x in
    let below : map (below_of bs) (out-Tree t).children ≡ map (below_of bs) (out-Tree (tree_of y us)).children =
    below_same bs (out-Tree t).children us h ∙ ap (λ (z : Tree-F Tree). map (below_of bs) z.children) (sym o) in
    let top : (out-Tree t).symbol ≡ (out-Tree (tree_of y us)).symbol =
    sym e ∙ ap (λ (z : Tree-F Tree). z.symbol) (sym o) in (
      top,
      tree_signature bs t ∙ ap₂ (λ (z : Symbol) (xs : List Below). marks_by bs z xs) top below
          ∙ sym (tree_signature bs (tree_of y us)),
    )

looks_through : (bs : List BoxFace) (t u v : Tree) → LooksLike bs t u → LooksLike bs u v → LooksLike bs t v
looks_through bs t u v h k = (h.0 ∙ k.0, h.1 ∙ k.1)

-- a state is a root state, or none
root_or : (a : Automaton) (q : ℕ) → IsIn q a.roots ⊎ (IsIn q a.roots → ⊥)
root_or a q = here (list_any (λ m. eqb m q) a.roots) refl
  where
    here : (b : Bool) → list_any (λ m. eqb m q) a.roots ≡ b → IsIn q a.roots ⊎ (IsIn q a.roots → ⊥)
    here true e = inl (number_in q a.roots e)
    here false e = inr (λ i. true≢false (sym (in_number q a.roots i) ∙ e))

module _ (bs : List BoxFace) (k : ℕ) (a b : Automaton) (ranked : IsRanked a) (trim : IsTrim a)
    (h : IsQuotient bs (suc k) a b) where
  abbrev rules : List Rule
  rules = map (renumbered h.to) a.rules

  rules_are : b.rules ≡ rules
  rules_are = ap (λ (x : Automaton). x.rules) h.images

  roots_are : b.roots ≡ map h.to a.roots
  roots_are = ap (λ (x : Automaton). x.roots) h.images

  right : (r : Rule) → IsIn r a.rules → IsRankedRule a.states r
  right r i = every_in (IsRankedRule a.states) a.rules r ranked.1 i

  pub has_tree : (q : ℕ) → q < a.states → HasTree a.rules q
  has_tree q l = passed a.rules (trim q l).3

  pub have_trees : (qs : List ℕ) → Every (λ q. q < a.states) qs → (ts : List Tree) × RunEach a.rules qs ts
  have_trees [] l = ([], run_none)
  have_trees (q ∷ qs) l = let t = has_tree q l.0 in let ts = have_trees qs l.1 in (t.0 ∷ ts.0, run_more t.1 ts.1)

  -- a rule of b stands for one of a
  pub rule_of : (r : Rule) → IsIn r b.rules → (o : Rule) × IsIn o a.rules × (r ≡ renumbered h.to o)
  rule_of r i = in_mapped (renumbered h.to) r a.rules (subst (IsIn r) rules_are i)

  pub rule_to : (o : Rule) → IsIn o a.rules → IsIn (renumbered h.to o) b.rules
  rule_to o i = subst (IsIn (renumbered h.to o)) (sym rules_are) (in_map (renumbered h.to) o a.rules i)

  pub root_of : (v : ℕ) → IsIn v b.roots → (p : ℕ) × IsIn p a.roots × (v ≡ h.to p)
  root_of v i = in_mapped h.to v a.roots (subst (IsIn v) roots_are i)

  pub root_to : (p : ℕ) → IsIn p a.roots → IsIn (h.to p) b.roots
  root_to p i = subst (IsIn (h.to p)) (sym roots_are) (in_map h.to p a.roots i)

  -- states with one image are one state, or agree and have equal signatures
  joined_or : (p q : ℕ) → p < a.states → q < a.states → h.to p ≡ h.to q → (p ≡ q)
      ⊎ (Agree a.rules (suc k) p q × SameSignature bs a.rules p q)
  joined_or p q l m e = elim (root_or a p) [
    | inl i ↦ inl (h.lone p q i m e)
    | inr i ↦ elim (root_or a q) [
      | inl j ↦ inl (sym (h.lone q p j l (sym e)))
      | inr j ↦ inr ((h.joins p q (l, i) (m, j)).0 e)
    ]
  ]

  -- each rule has one with its symbol at each state with the same image
  pub same_symbol : (r : Rule) (q : ℕ) → IsIn r a.rules → q < a.states → h.to r.state ≡ h.to q → (o : Rule)
      × IsIn o a.rules × (o.state ≡ q) × (o.symbol ≡ r.symbol)
  same_symbol r q i l e = elim (joined_or r.state q (right r i).0 l e) [
    | inl d ↦ (r, i, d, refl)
    | inr j ↦ (let m = j.0.0 r i refl in (m.0, m.1, m.2, m.3))
  ]

  -- Each run is one of the quotient.

  images_each : (qs : List ℕ) → Paired (λ p q. q ≡ h.to p) qs (map h.to qs)
  images_each [] = tt
  images_each (q ∷ qs) = (refl, images_each qs)

  pub run_image : {q : ℕ} {t : Tree} → RunOf a.rules q t → RunOf b.rules (h.to q) t
  run_image {q} r = along a.rules b.rules (λ p q. q ≡ h.to p)
      (λ r q ts i e w. (renumbered h.to r, rule_to r i, sym e, refl, images_each r.children)) (h.to q) refl r

  pub run_image_each : {qs : List ℕ} {ts : List Tree} → RunEach a.rules qs ts → RunEach b.rules (map h.to qs) ts
  run_image_each run_none = run_none
  run_image_each (run_more r rs) = run_more (run_image r) (run_image_each rs)

  pub within : IsWithin a b
  within t l = (h.to l.0, root_to l.0 l.1, run_image l.2)

  mutual
    passes_image : {q p : ℕ} {t : Tree} → PassesBy a.rules q p t → PassesBy b.rules (h.to q) (h.to p) t
    passes_image (at_top e r) = at_top (ap h.to e) (run_image r)
    passes_image (below r i e s o) = below (renumbered h.to r) (rule_to r i) (ap h.to e) s (passes_one o)

    passes_one : {q : ℕ} {ps : List ℕ} {ts : List Tree} → OnePasses a.rules q ps ts
        → OnePasses b.rules (h.to q) (map h.to ps) ts
    passes_one (this_one p rs) = this_one (passes_image p) (run_image_each rs)
    passes_one (later_one r o) = later_one (run_image r) (passes_one o)

  -- each state of the quotient takes part
  pub image_trim : IsTrim b
  image_trim v l =
      let q = h.onto v l in
      let p = trim q.0 q.1 in
      subst (λ (x : ℕ). (p : ℕ) × (t : Tree) × IsIn p b.roots × PassesBy b.rules x p t) q.2
      (h.to p.0, p.1, root_to p.0 p.2, passes_image p.3)

  -- Each run of the quotient looks like one of the component.

  abbrev StandsFor : ℕ → ℕ → Type 0
  StandsFor v q = (v ≡ h.to q) × (q < a.states)

  stand_for : (qs : List ℕ) → Every (λ q. q < a.states) qs → Paired StandsFor (map h.to qs) qs
  stand_for [] l = tt
  stand_for (q ∷ qs) l = ((refl, l.0), stand_for qs l.1)

  -- a tree that looks like one of a joined state
  at_joined : (r : Rule) (us : List Tree) (q : ℕ) → IsIn r a.rules → RunEach a.rules r.children us → q < a.states
      → h.to r.state ≡ h.to q → (u : Tree) × RunOf a.rules q u × LooksLike bs (tree_of r.symbol us) u
  at_joined r us q i w l e =
      let first : RunOf a.rules r.state (tree_of r.symbol us) = run_tree a.rules r us i w in
      elim (joined_or r.state q (right r i).0 l e) [
        | inl d ↦ (tree_of r.symbol us, subst (λ (x : ℕ). RunOf a.rules x (tree_of r.symbol us)) d first, (refl, refl))
        | inr j ↦ (let m = j.0.0 r i refl in
            let vs = have_trees m.0.children (right m.0 m.1).1 in
            let other : RunOf a.rules q (tree_of m.0.symbol vs.0) =
            subst (λ (x : ℕ). RunOf a.rules x (tree_of m.0.symbol vs.0)) m.2
            (run_tree a.rules m.0 vs.0 m.1 vs.1) in (
              tree_of m.0.symbol vs.0,
              other,
              (
                ap (λ (z : Tree-F Tree). z.symbol) (out-roll-Tree (record { symbol = r.symbol; children = us }))
                    ∙ sym m.3 ∙ ap (λ (z : Tree-F Tree). z.symbol)
                    (sym (out-roll-Tree (record { symbol = m.0.symbol; children = vs.0 }))),
                sym (j.1.1.0 (tree_of r.symbol us) first) ∙ j.1.2.0 (tree_of m.0.symbol vs.0) other,
              ),
            ))
      ]

  mutual
    pub looked : {v : ℕ} {t : Tree} (q : ℕ) → StandsFor v q → RunOf b.rules v t → (u : Tree) × RunOf a.rules q u
        × LooksLike bs t u
    looked {v} {t} q d (run r i e s w) =
        let o = rule_of r i in
        let us = looked_each o.0.children
        (subst (λ (x : Rule). Paired StandsFor x.children o.0.children) (sym o.2)
        (stand_for o.0.children (right o.0 o.1).1)) w in
        let u = at_joined o.0 us.0 q o.1 us.1 d.1 (sym (ap (λ (x : Rule). x.state) o.2) ∙ e ∙ d.0) in (
          u.0,
          u.1,
          looks_through bs t (tree_of o.0.symbol us.0) u.0
              (looks_over bs t o.0.symbol us.0 (sym (ap (λ (x : Rule). x.symbol) o.2) ∙ s) us.2) u.2,
        )

    pub looked_each : {vs : List ℕ} {ts : List Tree} (qs : List ℕ) → Paired StandsFor vs qs → RunEach b.rules vs ts
        → (us : List Tree) × RunEach a.rules qs us × Paired (LooksLike bs) ts us
    looked_each [] d run_none = ([], run_none, tt)
    looked_each (q ∷ qs) d run_none = absurd d
    looked_each [] d (run_more r rs) = absurd d
    looked_each (q ∷ qs) d (run_more r rs) =
        let u = looked q d.0 r in
        let us = looked_each qs d.1 rs in
        (u.0 ∷ us.0, run_more u.1 us.1, (u.2, us.2))

  -- so does each tree of the quotient, and so do its children: a root state is joined with none
  pub outlined : (t : Tree) → InLanguage b t → (u : Tree) × InLanguage a u × LooksLike bs t u
      × Paired (LooksLike bs) (out-Tree t).children (out-Tree u).children
  outlined t (v, i, run r j e s w) =
      let o = rule_of r j in
      let p = root_of v i in
      let us = looked_each o.0.children
      (subst (λ (x : Rule). Paired StandsFor x.children o.0.children) (sym o.2)
      (stand_for o.0.children (right o.0 o.1).1)) w in
      let same : p.0 ≡ o.0.state =
      h.lone p.0 o.0.state p.1 (right o.0 o.1).0 (sym p.2 ∙ sym e ∙ ap (λ (x : Rule). x.state) o.2) in
      let u : Tree = tree_of o.0.symbol us.0 in
      let top = looks_over bs t o.0.symbol us.0 (sym (ap (λ (x : Rule). x.symbol) o.2) ∙ s) us.2 in (
        u,
        (o.0.state, subst (λ (x : ℕ). IsIn x a.roots) same p.1, run_tree a.rules o.0 us.0 o.1 us.1),
        top,
        subst (λ (z : Tree-F Tree). Paired (LooksLike bs) (out-Tree t).children z.children)
            (sym (out-roll-Tree (record { symbol = o.0.symbol; children = us.0 }))) us.2,
      )
