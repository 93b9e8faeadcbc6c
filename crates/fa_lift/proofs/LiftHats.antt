-- The trees of the hatted automaton are those of the first with one cell taken out.
use Rattle.std.proofs.Common.{◌≡◌, ◌⊎◌, inl, inr, ℕ, zero, suc, ◌<◌, ◌≤◌, ◌+◌, Bool, true, false, if◌then◌else◌, nat_eq}
use Rattle.std.proofs.Common.{length, List, [], ◌∷◌, ◌++◌, map, refl, sym, ap, ap₂, subst, ◌∙◌, Some, arith}
use Rattle.std.proofs.lemmas.Bool.{eqb-true, eq-eqb}
use Rattle.fore_base.specs.Lists.{IsIn, Every}
use Rattle.fore_base.specs.declared.store.Datum.{Datum}
use Rattle.fore_base.proofs.ListLemmas.{in_left, in_right, in_append, every_in, in_map, in_mapped}
use Rattle.ta_core.specs.Arity.{arity}
use Rattle.ta_core.specs.Auto.{Automaton, IsRanked, IsRankedRule}
use Rattle.ta_core.specs.declared.auto.Rule.{Rule}
use Rattle.ta_core.specs.declared.symbol.Slot.TheVariants.{Hook}
use Rattle.ta_core.specs.declared.symbol.Symbol.TheVariants.{Cell as CellSymbol}
use Rattle.fa_core.specs.declared.faces.BoxFace.{BoxFace}
use Rattle.fa_core.specs.declared.forest.Target.{Target}
use Rattle.fa_core.specs.declared.forest.Target.TheVariants.{At}
use Rattle.fa_core.specs.Dressed.{Node, Parts, End, Nodes, node, no_parts, field, link, hook, under, leaf}
use Rattle.fa_core.specs.Member.{bare_parts, bare_end, slots_of}
use Rattle.fa_core.proofs.Dressing.{cell_is_no_leaf}
use Rattle.fa_core.proofs.NodeRuns.{NodeRun, PartsRun, EndRun, parts_bare, end_bare, bare_each, bare_of_end}
use Rattle.fa_core.proofs.NodeSpots.{one_leaf}
use Rattle.fa_split.specs.Split.{end_at}
use Rattle.fa_split.proofs.ChosenTrees.{leaf_arity}
use Rattle.fa_split.proofs.FreshStates.{stay, stay_each, widen, widen_each}
use Rattle.fa_lift.specs.Lift.{hat_children, hat_rule, hat_rules, hole, child_gives}
use Rattle.fa_lift.proofs.LiftEdges.{HasEdge, HasEdgeIn, HasEdgeAt}
use Rattle.fa_lift.proofs.LiftHoles.{CutNode, CutParts, CutEnd, in_cell, at_field, at_link, on_field, on_link}
use Rattle.fa_lift.proofs.LiftHoles.{on_hook, cut_off, cut_in, cut_slots}

-- Runs on dressed trees, where the automaton has more rules behind its own.

module _ (a : Automaton) (extra : List Rule) (ranked : IsRanked a)
    (above : (o : Rule) → IsIn o extra → a.states ≤ o.state) where
  stay_parts : (qs : List ℕ) (ps : Parts) → Every (λ q. q < a.states) qs → PartsRun (a.rules ++ extra) qs ps
      → PartsRun a.rules qs ps
  stay_parts qs ps l h = bare_each a.rules qs ps
      (stay_each a extra ranked above qs (bare_parts ps) l (parts_bare (a.rules ++ extra) qs ps h))

  stay_end : (q : ℕ) (e : End) → q < a.states → EndRun (a.rules ++ extra) q e → EndRun a.rules q e
  stay_end q e l h = bare_of_end a.rules q e
      (stay a extra ranked above q (bare_end e) l (end_bare (a.rules ++ extra) q e h))

  wide_parts : (qs : List ℕ) (ps : Parts) → PartsRun a.rules qs ps → PartsRun (a.rules ++ extra) qs ps
  wide_parts qs ps h = bare_each (a.rules ++ extra) qs ps
      (widen_each a extra ranked above qs (bare_parts ps) (parts_bare a.rules qs ps h))

  wide_end : (q : ℕ) (e : End) → EndRun a.rules q e → EndRun (a.rules ++ extra) q e
  wide_end q e h = bare_of_end (a.rules ++ extra) q e
      (widen a extra ranked above q (bare_end e) (end_bare a.rules q e h))

-- state z is q hatted, or that of the hole in the place of state s
abbrev pub IsHat : ℕ → ℕ → ℕ → ℕ → Type 0
IsHat n s q z = (z ≡ q + n) ⊎ ((q ≡ s) × (z ≡ n + n))

-- one of the children is hatted
abbrev pub OneHat : ℕ → ℕ → List ℕ → List ℕ → Type 0
OneHat n s [] zs = ⊥
OneHat n s (q ∷ qs) [] = ⊥
OneHat n s (q ∷ qs) (z ∷ zs) = (IsHat n s q z × (qs ≡ zs)) ⊎ ((q ≡ z) × OneHat n s qs zs)

module _ (n s : ℕ) where
  hats_are : (qs zs : List ℕ) → IsIn zs (hat_children n s qs) → OneHat n s qs zs
  hats_are [] zs h = absurd h
  hats_are (q ∷ qs) zs h = elim h [ inl e ↦ first e | inr i ↦ next (hats_are qs) (nat_eq q s) refl i ]
    where
      first : zs ≡ (q + n) ∷ qs → OneHat n s (q ∷ qs) zs
      first e = rw e (inl (inl refl, refl))

      rest : (rec : (ys : List ℕ) → IsIn ys (hat_children n s qs) → OneHat n s qs ys)
          → IsIn zs (map (λ ys. q ∷ ys) (hat_children n s qs)) → OneHat n s (q ∷ qs) zs
      rest rec i = let m = in_mapped (λ (ys : List ℕ). q ∷ ys) zs (hat_children n s qs) i
          in rw m.2 (inr (refl, rec m.0 m.1))

      next : (rec : (ys : List ℕ) → IsIn ys (hat_children n s qs) → OneHat n s qs ys) → (b : Bool) → nat_eq q s ≡ b
          → IsIn zs (if b then ((n + n) ∷ qs)
          ∷ map (λ ys. q ∷ ys) (hat_children n s qs) else map (λ ys. q ∷ ys) (hat_children n s qs))
          → OneHat n s (q ∷ qs) zs
      next rec true w (inl e) = rw e (inl (inr (eqb-true q s w, refl), refl))
      next rec true w (inr i) = rest rec i
      next rec false w i = rest rec i

  are_hats : (qs zs : List ℕ) → OneHat n s qs zs → IsIn zs (hat_children n s qs)
  are_hats [] zs h = absurd h
  are_hats (q ∷ qs) [] h = absurd h
  are_hats (q ∷ qs) (z ∷ zs) (inl (inl e, w)) = inl (ap₂ (λ (a : ℕ) (b : List ℕ). a ∷ b) e (sym w))
  are_hats (q ∷ qs) (z ∷ zs) (inl (inr e, w)) = let t : nat_eq q s ≡ true = eq-eqb q s e.0
      in rw t (inr (inl (ap₂ (λ (a : ℕ) (b : List ℕ). a ∷ b) e.1 (sym w))))
  are_hats (q ∷ qs) (z ∷ zs) (inr h) = inr (next (nat_eq q s) (are_hats qs zs h.1))
    where
      there : IsIn zs (hat_children n s qs) → IsIn (z ∷ zs) (map (λ ys. q ∷ ys) (hat_children n s qs))
      there i = subst (λ (x : ℕ). IsIn (x ∷ zs) (map (λ ys. q ∷ ys) (hat_children n s qs))) h.0
          (in_map (λ (ys : List ℕ). q ∷ ys) zs (hat_children n s qs) i)

      next : (b : Bool) → IsIn zs (hat_children n s qs)
          → IsIn (z ∷ zs) (if b then ((n + n) ∷ qs)
          ∷ map (λ ys. q ∷ ys) (hat_children n s qs) else map (λ ys. q ∷ ys) (hat_children n s qs))
      next true i = inr (there i)
      next false i = there i

  pub hat_found : (ys : List Rule) (o : Rule) → IsIn o (hat_rules n s ys)
      → (y : Rule) × IsIn y ys × (o.state ≡ y.state + n) × (o.symbol ≡ y.symbol) × OneHat n s y.children o.children
  hat_found [] o h = absurd h
  hat_found (y ∷ ys) o h = elim (in_append o (map (hat_rule n y) (hat_children n s y.children)) (hat_rules n s ys) h) [
    | inl i ↦ (let m = in_mapped (hat_rule n y) o (hat_children n s y.children) i
        in (
          y,
          inl refl,
          ap (λ (v : Rule). v.state) m.2,
          ap (λ (v : Rule). v.symbol) m.2,
          subst (λ (v : Rule). OneHat n s y.children v.children) (sym m.2) (hats_are y.children m.0 m.1),
        ))
    | inr i ↦ (let m = hat_found ys o i in (m.0, inr m.1, m.2, m.3, m.4))
  ]

  pub found_hat : (ys : List Rule) (y : Rule) (zs : List ℕ) → IsIn y ys → OneHat n s y.children zs
      → IsIn (hat_rule n y zs) (hat_rules n s ys)
  found_hat [] y zs i h = absurd i
  found_hat (x ∷ ys) y zs (inl e) h =
      in_left (hat_rule n y zs) (map (hat_rule n x) (hat_children n s x.children)) (hat_rules n s ys)
      (rw (sym e) (in_map (hat_rule n y) zs (hat_children n s y.children) (are_hats y.children zs h)))
  found_hat (x ∷ ys) y zs (inr i) h =
      in_right (hat_rule n y zs) (map (hat_rule n x) (hat_children n s x.children)) (hat_rules n s ys)
      (found_hat ys y zs i h)

module _ (a : Automaton) (ranked : IsRanked a) (s u : ℕ) where
  abbrev n : ℕ
  n = a.states

  abbrev pub hats : List Rule
  hats = hole a.states u ∷ hat_rules a.states s a.rules

  abbrev H : List Rule
  H = a.rules ++ hats

  pub hats_above : (o : Rule) → IsIn o hats → a.states ≤ o.state
  hats_above o (inl e) = rw e (omega arith)
  hats_above o (inr i) = let m = hat_found n s a.rules o i in let e = m.2 in omega (arith, e)

  old_below : (o : Rule) → IsIn o a.rules → o.state < n
  old_below o i = (every_in (IsRankedRule a.states) a.rules o ranked.1 i).0

  -- a rule at a hatted state is a rule with one child hatted
  pub at_hat : (q : ℕ) → q < n → (o : Rule) → IsIn o H → o.state ≡ q + n
      → (y : Rule) × IsIn y a.rules × (y.state ≡ q) × (o.symbol ≡ y.symbol) × OneHat n s y.children o.children
  at_hat q l o i e = elim (in_append o a.rules hats i) [
    | inl j ↦ (let b = old_below o j in absurd (omega (arith, b, e)))
    | inr (inl w) ↦ (let v : n + n ≡ q + n = sym (ap (λ (v : Rule). v.state) w) ∙ e in absurd (omega (arith, v, l)))
    | inr (inr j) ↦ (let m = hat_found n s a.rules o j in let v = m.2 in (m.0, m.1, (omega (arith, v, e)), m.3, m.4))
  ]

  -- the hole's rule alone is at its state
  at_hole : (o : Rule) → IsIn o H → o.state ≡ n + n → o ≡ hole n u
  at_hole o i e = elim (in_append o a.rules hats i) [
    | inl j ↦ (let b = old_below o j in absurd (omega (arith, b, e)))
    | inr (inl w) ↦ w
    | inr (inr j) ↦ (let m = hat_found n s a.rules o j in let v = m.2 in let b = old_below m.0 m.1
        in absurd (omega (arith, v, e, b)))
  ]

  pub no_hat : (qs : List ℕ) → length qs ≡ 0 → (zs : List ℕ) → OneHat n s qs zs → ⊥
  no_hat [] e zs h = h
  no_hat (q ∷ qs) e zs h = let z : suc (length qs) ≡ 0 = e in omega (arith, z)

  -- with a cell of state s in the hole, a tree of a hatted state is one of the state
  module _ (m : Node) (is : NodeRun a.rules s m) where
    mutual
      pub of_hat : (q : ℕ) (k : Node) → q < n → NodeRun H (q + n) k → (w : Node) × NodeRun a.rules q w × CutNode u m w k
      of_hat q (node c t ds ps) l h =
          let y = at_hat q l h.0 h.1 h.2 in
          let z = of_hat_parts y.0.children h.0.children ps
          (every_in (IsRankedRule a.states) a.rules y.0 ranked.1 y.1).1 y.4 h.4 in (
            node c t ds z.0,
            (y.0, y.1, y.2, sym y.3 ∙ h.3 ∙ ap (CellSymbol t ds) (cut_slots u m z.2), z.1),
            in_cell c t ds z.2,
          )

      of_hat_parts : (qs zs : List ℕ) (ps : Parts) → Every (λ q. q < n) qs → OneHat n s qs zs → PartsRun H zs ps
          → (rs : Parts) × PartsRun a.rules qs rs × CutParts u m rs ps
      of_hat_parts [] zs ps l o h = absurd o
      of_hat_parts (q ∷ qs) [] ps l o h = absurd o
      of_hat_parts (q ∷ qs) (z ∷ zs) no_parts l o h = absurd h
      of_hat_parts (q ∷ qs) (z ∷ zs) (field f e ps) l (inl o) h =
          let v = of_hat_end q z e l.0 o.0 h.0 in (
            field f v.0 ps,
            (
              v.1,
              stay_parts a hats ranked hats_above qs ps l.1
                  (subst (λ (x : List ℕ). PartsRun H x ps) (sym o.1) h.1),
            ),
            at_field f ps v.2,
          )
      of_hat_parts (q ∷ qs) (z ∷ zs) (field f e ps) l (inr o) h =
          let v = of_hat_parts qs zs ps l.1 o.1 h.1 in (
            field f e v.0,
            (
              stay_end a hats ranked hats_above q e l.0 (subst (λ (x : ℕ). EndRun H x e) (sym o.0) h.0),
              v.1,
            ),
            on_field f e v.2,
          )
      of_hat_parts (q ∷ qs) (z ∷ zs) (link b i e ps) l (inl o) h =
          let v = of_hat_end q z e l.0 o.0 h.0 in (
            link b i v.0 ps,
            (
              v.1,
              stay_parts a hats ranked hats_above qs ps l.1
                  (subst (λ (x : List ℕ). PartsRun H x ps) (sym o.1) h.1),
            ),
            at_link b i ps v.2,
          )
      of_hat_parts (q ∷ qs) (z ∷ zs) (link b i e ps) l (inr o) h =
          let v = of_hat_parts qs zs ps l.1 o.1 h.1 in (
            link b i e v.0,
            (
              stay_end a hats ranked hats_above q e l.0 (subst (λ (x : ℕ). EndRun H x e) (sym o.0) h.0),
              v.1,
            ),
            on_link b i e v.2,
          )
      of_hat_parts (q ∷ qs) (z ∷ zs) (hook b i ps) l o h =
          let v = of_hat_parts (q ∷ qs) (z ∷ zs) ps l o h in
          (hook b i v.0, v.1, on_hook b i v.2)

      of_hat_end : (q z : ℕ) (e : End) → q < n → IsHat n s q z → EndRun H z e
          → (x : End) × EndRun a.rules q x × CutEnd u m x e
      of_hat_end q z (under k) l (inl o) h =
          let v = of_hat q k l (subst (λ (x : ℕ). NodeRun H x k) o h) in
          (under v.0, v.1, cut_in v.2)
      of_hat_end q z (leaf t) l (inl o) h =
          let y = at_hat q l h.0 h.1 (h.2 ∙ o) in
          let r = (every_in (IsRankedRule a.states) a.rules y.0 ranked.1 y.1).2 in
          absurd (no_hat y.0.children (r ∙ ap arity (sym y.3 ∙ h.3) ∙ leaf_arity t) h.0.children y.4)
      of_hat_end q z (under (node c t ds ps)) l (inr o) h =
          let w = at_hole h.0 h.1 (h.2 ∙ o.1) in
          absurd (cell_is_no_leaf (At u) t ds (slots_of ps) (sym (ap (λ (v : Rule). v.symbol) w) ∙ h.3))
      of_hat_end q z (leaf t) l (inr o) h =
          let w = at_hole h.0 h.1 (h.2 ∙ o.1) in
          let e : t ≡ At u = one_leaf t (At u) (sym h.3 ∙ ap (λ (v : Rule). v.symbol) w) in (
            under m,
            subst (λ (x : ℕ). NodeRun a.rules x m) (sym o.0) is,
            subst (λ (x : Target). CutEnd u m (under m) (leaf x)) (sym e) cut_off,
          )

-- the rule x of m, and the edge at its child p
pub record ByOwner (bs : List BoxFace) (f r : ℕ) (rules : List Rule) (x : Rule) (p : ℕ) (m : Node) : Type 0 where
  pub cell : ℕ
  pub shape : ℕ
  pub datums : List Datum
  pub parts : Parts
  pub is : m ≡ node cell shape datums parts
  pub symbol : x.symbol ≡ CellSymbol shape datums (slots_of parts)
  pub runs : PartsRun rules x.children parts
  pub ends : end_at p parts ≡ Some (leaf (At r))
  pub gives : child_gives bs f (slots_of parts) p ≡ true

-- each tree with the edge is by an owner at its top, or has the owner's cell inside
module _ (bs : List BoxFace) (f r u : ℕ) (a : Automaton) (ranked : IsRanked a) where
  abbrev N : ℕ
  N = a.states

  abbrev Hat : Rule → List Rule
  Hat x = a.rules ++ (hole a.states u ∷ hat_rules a.states x.state a.rules)

  wide_e : (x : Rule) (q : ℕ) (e : End) → EndRun a.rules q e → EndRun (Hat x) q e
  wide_e x q e h = wide_end a (hats a ranked x.state u) ranked (hats_above a ranked x.state u) q e h

  wide_p : (x : Rule) (qs : List ℕ) (ps : Parts) → PartsRun a.rules qs ps → PartsRun (Hat x) qs ps
  wide_p x qs ps h = wide_parts a (hats a ranked x.state u) ranked (hats_above a ranked x.state u) qs ps h

  pub record AtTop (q : ℕ) (w : Node) : Type 0 where
    pub x : Rule
    pub p : ℕ
    pub rule : IsIn x a.rules
    pub state : x.state ≡ q
    pub owner : ByOwner bs f r a.rules x p w

  pub record Inside (q : ℕ) (w : Node) : Type 0 where
    pub x : Rule
    pub p : ℕ
    pub m : Node
    pub k : Node
    pub rule : IsIn x a.rules
    pub owner : ByOwner bs f r a.rules x p m
    pub runs : NodeRun (a.rules ++ (hole a.states u ∷ hat_rules a.states x.state a.rules)) (q + a.states) k
    pub cut : CutNode u m w k

  record InsideParts (qs : List ℕ) (ps : Parts) : Type 0 where
    x : Rule
    p : ℕ
    m : Node
    zs : List ℕ
    ks : Parts
    rule : IsIn x a.rules
    owner : ByOwner bs f r a.rules x p m
    hat : OneHat a.states x.state qs zs
    runs : PartsRun (a.rules ++ (hole a.states u ∷ hat_rules a.states x.state a.rules)) zs ks
    cut : CutParts u m ps ks

  record InsideEnd (q : ℕ) (e : End) : Type 0 where
    x : Rule
    p : ℕ
    m : Node
    z : ℕ
    ke : End
    rule : IsIn x a.rules
    owner : ByOwner bs f r a.rules x p m
    hat : IsHat a.states x.state q z
    runs : EndRun (a.rules ++ (hole a.states u ∷ hat_rules a.states x.state a.rules)) z ke
    cut : CutEnd u m e ke

  abbrev OwnPlace : Parts → Type 0
  OwnPlace ps = (p : ℕ) × (end_at p ps ≡ Some (leaf (At r))) × (child_gives bs f (slots_of ps) p ≡ true)

  end_of : (q : ℕ) (w : Node) → NodeRun a.rules q w → AtTop q w ⊎ Inside q w → InsideEnd q (under w)
  end_of q w h (inl t) = record {
    x = t.x;
    p = t.p;
    m = w;
    z = a.states + a.states;
    ke = leaf (At u);
    rule = t.rule;
    owner = t.owner;
    hat = inr (sym t.state, refl);
    runs = (
      hole a.states u,
      in_right (hole a.states u) a.rules (hole a.states u
          ∷ hat_rules a.states t.x.state a.rules) (inl refl),
      refl,
      refl,
      refl,
    );
    cut = cut_off;
  }
  end_of q w h (inr i) = record {
    x = i.x;
    p = i.p;
    m = i.m;
    z = q + a.states;
    ke = under i.k;
    rule = i.rule;
    owner = i.owner;
    hat = inl refl;
    runs = i.runs;
    cut = cut_in i.cut;
  }

  field_at : (q : ℕ) (qs : List ℕ) (g : ℕ) (e : End) (ps : Parts) → PartsRun a.rules qs ps → InsideEnd q e
      → InsideParts (q ∷ qs) (field g e ps)
  field_at q qs g e ps h i = record {
    x = i.x;
    p = i.p;
    m = i.m;
    zs = i.z ∷ qs;
    ks = field g i.ke ps;
    rule = i.rule;
    owner = i.owner;
    hat = inl (i.hat, refl);
    runs = (i.runs, wide_p i.x qs ps h);
    cut = at_field g ps i.cut;
  }

  link_at : (q : ℕ) (qs : List ℕ) (b : ℕ) (n : Nodes) (e : End) (ps : Parts) → PartsRun a.rules qs ps → InsideEnd q e
      → InsideParts (q ∷ qs) (link b n e ps)
  link_at q qs b n e ps h i = record {
    x = i.x;
    p = i.p;
    m = i.m;
    zs = i.z ∷ qs;
    ks = link b n i.ke ps;
    rule = i.rule;
    owner = i.owner;
    hat = inl (i.hat, refl);
    runs = (i.runs, wide_p i.x qs ps h);
    cut =
        at_link b n ps i.cut;
  }

  field_on : (q : ℕ) (qs : List ℕ) (g : ℕ) (e : End) (ps : Parts) → EndRun a.rules q e → OwnPlace ps ⊎ InsideParts qs ps
      → OwnPlace (field g e ps) ⊎ InsideParts (q ∷ qs) (field g e ps)
  field_on q qs g e ps h (inl o) = inl (suc o.0, o.1, o.2)
  field_on q qs g e ps h (inr i) =
      inr (record {
        x = i.x;
        p = i.p;
        m = i.m;
        zs = q ∷ i.zs;
        ks = field g e i.ks;
        rule = i.rule;
        owner = i.owner;
        hat =
            inr (refl, i.hat);
        runs = (wide_e i.x q e h, i.runs);
        cut = on_field g e i.cut;
      })

  link_on : (q : ℕ) (qs : List ℕ) (b : ℕ) (n : Nodes) (e : End) (ps : Parts) → EndRun a.rules q e
      → OwnPlace ps ⊎ InsideParts qs ps → OwnPlace (link b n e ps) ⊎ InsideParts (q ∷ qs) (link b n e ps)
  link_on q qs b n e ps h (inl o) = inl (suc o.0, o.1, o.2)
  link_on q qs b n e ps h (inr i) =
      inr (record {
        x = i.x;
        p = i.p;
        m = i.m;
        zs = q ∷ i.zs;
        ks = link b n e i.ks;
        rule = i.rule;
        owner = i.owner;
        hat = inr (refl, i.hat);
        runs = (wide_e i.x q e h, i.runs);
        cut = on_link b n e i.cut;
      })

  hook_on : (qs : List ℕ) (b : ℕ) (n : Nodes) (ps : Parts) → OwnPlace ps ⊎ InsideParts qs ps
      → OwnPlace (hook b n ps) ⊎ InsideParts qs (hook b n ps)
  hook_on qs b n ps (inl o) = inl (o.0, end_hook o.0 o.1, gives_hook o.0 o.2)
    where
      end_hook : (p : ℕ) → end_at p ps ≡ Some (leaf (At r)) → end_at p (hook b n ps) ≡ Some (leaf (At r))
      end_hook zero e = e
      end_hook (suc p) e = e

      gives_hook : (p : ℕ) → child_gives bs f (slots_of ps) p ≡ true → child_gives bs f (Hook b ∷ slots_of ps) p ≡ true
      gives_hook zero e = e
      gives_hook (suc p) e = e
  hook_on qs b n ps (inr i) = inr
      (record {
        x = i.x;
        p = i.p;
        m = i.m;
        zs = i.zs;
        ks = hook b n i.ks;
        rule = i.rule;
        owner = i.owner;
        hat = i.hat;
        runs = run_hook qs i.zs i.hat i.runs;
        cut = on_hook b n i.cut;
      })
    where
      run_hook : (qs zs : List ℕ) → OneHat a.states i.x.state qs zs → PartsRun (Hat i.x) zs i.ks
          → PartsRun (Hat i.x) zs (hook b n i.ks)
      run_hook qs [] o h = h
      run_hook qs (z ∷ zs) o h = h

  mutual
    pub find_edge : (q : ℕ) (w : Node) → NodeRun a.rules q w → HasEdge bs f r w → AtTop q w ⊎ Inside q w
    find_edge q (node c s ds ps) h e = elim (find_in h.0.children ps h.4 e) [
      | inl o ↦ inl (record {
        x = h.0;
        p = o.0;
        rule = h.1;
        state = h.2;
        owner =
            record {
              cell = c;
              shape = s;
              datums = ds;
              parts = ps;
              is = refl;
              symbol = h.3;
              runs = h.4;
              ends = o.1;
              gives = o.2;
            };
      })
      | inr i ↦ inr (record {
        x = i.x;
        p = i.p;
        m = i.m;
        k = node c s ds i.ks;
        rule = i.rule;
        owner = i.owner;
        runs = (
          hat_rule a.states h.0 i.zs,
          in_right (hat_rule a.states h.0 i.zs) a.rules (hole a.states u
              ∷ hat_rules a.states i.x.state a.rules) (inr (found_hat a.states i.x.state a.rules h.0 i.zs h.1 i.hat)),
          ap (λ (v : ℕ). v + a.states) h.2,
          h.3 ∙ ap (CellSymbol s ds) (sym (cut_slots u i.m i.cut)),
          i.runs,
        );
        cut = in_cell c s ds i.cut;
      })
    ]

    find_in : (qs : List ℕ) (ps : Parts) → PartsRun a.rules qs ps → HasEdgeIn bs f r ps
        → OwnPlace ps ⊎ InsideParts qs ps
    find_in qs no_parts h e = absurd e
    find_in [] (field g x ps) h e = absurd h
    find_in (q ∷ qs) (field g x ps) h (inl e) = inr (field_at q qs g x ps h.1 (find_at q x h.0 e))
    find_in (q ∷ qs) (field g x ps) h (inr e) = field_on q qs g x ps h.0 (find_in qs ps h.1 e)
    find_in [] (link b i x ps) h e = absurd h
    find_in (q ∷ qs) (link b i x ps) h (inl e) = inl (0, ap (λ (v : End). Some v) e.0, e.1)
    find_in (q ∷ qs) (link b i x ps) h (inr (inl e)) = inr (link_at q qs b i x ps h.1 (find_at q x h.0 e))
    find_in (q ∷ qs) (link b i x ps) h (inr (inr e)) = link_on q qs b i x ps h.0 (find_in qs ps h.1 e)
    find_in qs (hook b i ps) h e = hook_on qs b i ps (find_in qs ps h e)

    find_at : (q : ℕ) (e : End) → EndRun a.rules q e → HasEdgeAt bs f r e → InsideEnd q e
    find_at q (leaf t) h e = absurd e
    find_at q (under w) h e = end_of q w h (find_edge q w h e)
