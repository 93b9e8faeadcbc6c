-- One tree of a component that shows whatever any tree of it may show, and what it shows.
use Rattle.std.proofs.Common.{◌≡◌, inl, inr, ℕ, Bool, true, false, not, ◌&&◌, ◌||◌, true≢false, nat_eq, List}
use Rattle.std.proofs.Common.{[], ◌∷◌, map, refl, sym, ap, ap₂, subst, ◌∙◌, slice_get}
use Rattle.std.proofs.lemmas.Bool.{and_parts, and_from, or_left, or_right, eqb-true, eq-eqb}
use Rattle.std.proofs.lemmas.Option.{same_Some}
use Rattle.fore_base.specs.Lists.{IsIn, Every, Paired}
use Rattle.fore_base.specs.Marks.{MarksOf, IsMarked, all_marked}
use Rattle.fore_base.proofs.ListLemmas.{every_in, in_from_place, only_item, place_of, every_weaker}
use Rattle.fore_base.proofs.MarkLemmas.{all_from, all_to}
use Rattle.ta_core.specs.Auto.{Automaton, IsRanked}
use Rattle.ta_core.specs.Language.{RunOf, run, RunEach, run_none, run_more, InLanguage, HasTree}
use Rattle.ta_core.specs.Single.{HasOneTop}
use Rattle.ta_core.specs.declared.auto.Rule.{Rule}
use Rattle.ta_core.specs.declared.symbol.Slot.{Slot}
use Rattle.ta_core.specs.declared.symbol.Slot.TheVariants.{Field, Link, Hook}
use Rattle.ta_core.specs.declared.symbol.Symbol.{Symbol}
use Rattle.ta_core.specs.declared.symbol.Symbol.TheVariants.{Null, Uninit, Dangling, Ref, Cell}
use Rattle.ta_core.specs.declared.tree.Tree.{Tree, out-Tree, out-roll-Tree}
use Rattle.ta_core.proofs.Runs.{run_tree, tree_of}
use Rattle.fa_core.specs.Canonical.{RefersTo, at_fields, fields_under, field_trees}
use Rattle.fa_core.specs.Cells.{is_leaf, below_of}
use Rattle.fa_core.specs.Filled.{Choice, HasSignatures, HasSome}
use Rattle.fa_core.specs.Ways.{Way, ways, ways_at, signature}
use Rattle.fa_core.specs.declared.faces.BoxFace.{BoxFace}
use Rattle.fa_core.specs.declared.signature.Below.{Below}
use Rattle.fa_core.specs.declared.signature.RefMark.{RefMark}
use Rattle.fa_core.proofs.WayParts.{ways_out}
use Rattle.fa_order.specs.declared.showing.Shown.{Shown}
use Rattle.fa_order.specs.inner.Following.{EndFollows, StaysTame}
use Rattle.fa_order.specs.inner.Showing.{shown_of, IsShownBy, IsShownEnd, IsRuleOf, HasNoRule, is_cell_rule}
use Rattle.fa_order.specs.inner.Showing.{has_cell_rule, states_at, states_under}
use Rattle.fa_order.proofs.SameMarks.{same_roots, met_refers}

-- Leaves.

abbrev IsNot : Symbol → ℕ → Type 0
IsNot y k = y ≡ Ref k → ⊥

way_root : (t : Tree) (ws : List Way) (k : ℕ) → ways t ≡ ws → RefersTo t k → IsIn k (map (λ (w : Way). w.root) ws)
way_root t ws k e h = subst (λ (z : List Way). IsIn k (map (λ (w : Way). w.root) z)) e h

-- a leaf that refers to a root is the reference
pub leaf_refers : (t : Tree) (k : ℕ) → is_leaf (out-Tree t).symbol ≡ true → RefersTo t k → (out-Tree t).symbol ≡ Ref k
leaf_refers t k l h = by (out-Tree t).symbol l (ways_out t)
  where
    by : (y : Symbol) → is_leaf y ≡ true → ways t ≡ ways_at y (map ways (out-Tree t).children) → y ≡ Ref k
    by Null l e = absurd (way_root t [] k e h)
    by Uninit l e = absurd (way_root t [] k e h)
    by Dangling l e = absurd (way_root t [] k e h)
    by (Ref r) l e = elim (way_root t (record { root = r; steps = [] } ∷ []) k e h)
        [ inl q ↦ ap Ref (sym q) | inr z ↦ absurd z ]
    by (Cell s ds ss) l e = absurd (true≢false (sym l))

pub ref_refers : (t : Tree) (k : ℕ) → (out-Tree t).symbol ≡ Ref k → RefersTo t k
ref_refers t k h =
    let e : ways t ≡ record { root = k; steps = [] } ∷ [] = ways_out t
    ∙ ap (λ (y : Symbol). ways_at y (map ways (out-Tree t).children)) h in
    subst (λ (z : List Way). IsIn k (map (λ (w : Way). w.root) z)) (sym e) (inl refl)

pub ref_is_leaf : (t : Tree) (k : ℕ) → (out-Tree t).symbol ≡ Ref k → is_leaf (out-Tree t).symbol ≡ true
ref_is_leaf t k h = ap is_leaf h

-- Cells of a state.

not_true : (a : Bool) → not a ≡ true → a ≡ false
not_true true h = absurd (true≢false (sym h))
not_true false h = refl

not_false : (a : Bool) → a ≡ false → not a ≡ true
not_false true h = absurd (true≢false h)
not_false false h = refl

trees_of : (rules : List Rule) (qs : List ℕ) → Every (HasTree rules) qs → (ts : List Tree) × RunEach rules qs ts
trees_of rules [] h = ([], run_none)
trees_of rules (q ∷ qs) h = let k = trees_of rules qs h.1 in (h.0.0 ∷ k.0, run_more h.0.1 k.1)

pub have_trees : (rules : List Rule) {qs : List ℕ} {ts : List Tree} → RunEach rules qs ts → Every (HasTree rules) qs
have_trees rules run_none = tt
have_trees rules (run_more {t = t} h k) = ((t, h), have_trees rules k)

module _ (rules : List Rule) (n : ℕ) (inhabited : List Bool) (marks : MarksOf n (HasTree rules) inhabited) (q : ℕ) where
  cell_of : (rs : List Rule) → ((r : Rule) → IsIn r rs → IsIn r rules) → has_cell_rule inhabited q rs ≡ true
      → (t : Tree) × RunOf rules q t × (is_leaf (out-Tree t).symbol ≡ false)
  cell_of [] f h = absurd (true≢false (sym h))
  cell_of (r ∷ rs) f h = here (is_cell_rule inhabited q r) refl h (cell_of rs (λ x i. f x (inr i)))
    where
      here : (b : Bool) → is_cell_rule inhabited q r ≡ b → (b || has_cell_rule inhabited q rs) ≡ true
          → (has_cell_rule inhabited q rs ≡ true → (t : Tree) × RunOf rules q t × (is_leaf (out-Tree t).symbol ≡ false))
          → (t : Tree) × RunOf rules q t × (is_leaf (out-Tree t).symbol ≡ false)
      here false e h later = later h
      here true e h later =
          let a = and_parts (nat_eq r.state q) (not (is_leaf r.symbol) && all_marked inhabited r.children) e in
          let b = and_parts (not (is_leaf r.symbol)) (all_marked inhabited r.children) a.1 in
          let k = trees_of rules r.children
          (every_weaker (IsMarked inhabited) (HasTree rules) r.children marks.only
          (all_from inhabited r.children b.1)) in
          let t = tree_of r.symbol k.0 in (
            t,
            subst (λ (z : ℕ). RunOf rules z t) (eqb-true r.state q a.0) (run_tree rules r k.0 (f r (inl refl)) k.1),
            rw (out-roll-Tree (record { symbol = r.symbol; children = k.0 })) (not_true (is_leaf r.symbol) b.0),
          )

  rule_there : (rs : List Rule) (r : Rule) → IsIn r rs → is_cell_rule inhabited q r ≡ true
      → has_cell_rule inhabited q rs ≡ true
  rule_there [] r i h = absurd i
  rule_there (x ∷ rs) r (inl e) h =
      or_left (is_cell_rule inhabited q x) (has_cell_rule inhabited q rs)
      (subst (λ (z : Rule). is_cell_rule inhabited q z ≡ true) e h)
  rule_there (x ∷ rs) r (inr i) h =
      or_right (is_cell_rule inhabited q x) (has_cell_rule inhabited q rs) (rule_there rs r i h)

  of_cell : (t : Tree) → RunOf rules q t → is_leaf (out-Tree t).symbol ≡ false → has_cell_rule inhabited q rules ≡ true
  of_cell t (run r i s y k) l =
      rule_there rules r i
      (and_from (nat_eq r.state q) (not (is_leaf r.symbol) && all_marked inhabited r.children) (eq-eqb r.state q s)
      (and_from (not (is_leaf r.symbol)) (all_marked inhabited r.children)
      (not_false (is_leaf r.symbol) (ap is_leaf y ∙ l))
      (all_to inhabited r.children
      (every_weaker (HasTree rules) (IsMarked inhabited) r.children marks.each (have_trees rules k)))))

  no_cell : has_cell_rule inhabited q rules ≡ false → (t : Tree) → RunOf rules q t → is_leaf (out-Tree t).symbol ≡ true
  no_cell e t h = here (is_leaf (out-Tree t).symbol) refl
    where
      here : (b : Bool) → is_leaf (out-Tree t).symbol ≡ b → b ≡ true
      here true l = refl
      here false l = absurd (true≢false (sym (of_cell t h l) ∙ e))

  -- what a tree of the state shows, a cell if there is one
  pub end_shown : (bs : List BoxFace)
      → ((t u : Tree) → RunOf rules q t → RunOf rules q u → signature bs t ≡ signature bs u) → HasTree rules q
      → (ms : List RefMark) → ((t : Tree) → RunOf rules q t → ms ≡ signature bs t)
      → IsShownEnd bs rules q (record { leaf = not (has_cell_rule inhabited q rules); marks = ms })
  end_shown bs same some ms signed = here (has_cell_rule inhabited q rules) refl
    where
      refers_too : (t u : Tree) → RunOf rules q t → RunOf rules q u → (k : ℕ) → RefersTo t k → RefersTo u k
      refers_too t u h i = met_refers t u (same_roots bs t u (same t u h i))

      here : (b : Bool) → has_cell_rule inhabited q rules ≡ b
          → IsShownEnd bs rules q (record { leaf = not b; marks = ms })
      here true e =
          let c = cell_of rules (λ r i. i) e in (
            c.0,
            c.1,
            ap₂ (λ (l : Bool) (m : List RefMark). record { leaf = l; marks = m }) c.2 (sym (signed c.0 c.1)),
            (λ u h. (
              (λ k. (refers_too c.0 u c.1 h k, refers_too u c.0 h c.1 k)),
              (λ k w. absurd (true≢false (sym (ref_is_leaf c.0 k w) ∙ c.2))),
            )),
          )
      here false e = (
        some.0,
        some.1,
        ap₂ (λ (l : Bool) (m : List RefMark). record { leaf = l; marks = m }) (no_cell e some.0 some.1)
            (sym (signed some.0 some.1)),
        (λ u h. (
          (λ k. (refers_too some.0 u some.1 h k, refers_too u some.0 h some.1 k)),
          (λ k w. leaf_refers u k (no_cell e u h) (refers_too some.0 u some.1 h k (ref_refers some.0 k w))),
        )),
      )

-- The top.

-- the one rule of the root state
pub one_rule : (a : Automaton) (h : HasOneTop a) (r : Rule) → IsIn r a.rules → r.state ≡ h.root → r ≡ h.rule
one_rule a h r i e =
    let p = place_of a.rules r i in
    same_Some r h.rule (sym p.1 ∙ ap (slice_get a.rules) (h.only p.0 r p.1 e) ∙ h.there)

-- the root state has a rule
pub has_rule : (a : Automaton) → HasOneTop a → (q : ℕ) → a.roots ≡ q ∷ [] → HasNoRule a.rules q → ⊥
has_rule a h q e none =
    let same : q ≡ h.root = only_item q h.root a.roots h.alone (subst (λ (z : List ℕ). IsIn q z) (sym e) (inl refl)) in
    every_in (λ (r : Rule). r.state ≡ q → ⊥) a.rules h.rule none (in_from_place a.rules h.place h.rule h.there)
    (h.top ∙ sym same)

abbrev AreShown : List BoxFace → List Rule → List Slot → List ℕ → List Below → Type 0
AreShown bs rules ss qs es = (ts : List Tree) × RunEach rules qs ts × (map (below_of bs) (at_fields ss ts) ≡ es)
    × ((us : List Tree) → RunEach rules qs us → Paired (EndFollows (λ k. k)) (at_fields ss ts) (at_fields ss us))

-- nothing stands at the ends of no fields
none_shown : (bs : List BoxFace) (rules : List Rule) (qs : List ℕ) (es : List Below) → Every (HasTree rules) qs
    → Paired (IsShownEnd bs rules) [] es → AreShown bs rules [] qs es
none_shown bs rules qs (e ∷ es) some h = absurd h
none_shown bs rules qs [] some h = let k = trees_of rules qs some in (k.0, k.1, refl, (λ us r. tt))

-- nor do any where there is no child
no_child : (bs : List BoxFace) (rules : List Rule) (s : Slot) (ss : List Slot) (es : List Below)
    → ((ts : List Tree) → at_fields (s ∷ ss) [] ≡ []) → Paired (IsShownEnd bs rules) [] es
    → AreShown bs rules (s ∷ ss) [] es
no_child bs rules s ss (e ∷ es) none h = absurd h
no_child bs rules s ss [] none h = ([], run_none, ap (map (below_of bs)) (none []), others)
  where
    others : (us : List Tree) → RunEach rules [] us
        → Paired (EndFollows (λ k. k)) (at_fields (s ∷ ss) []) (at_fields (s ∷ ss) us)
    others us run_none = rw (none []) tt

pick_each : (bs : List BoxFace) (rules : List Rule) (ss : List Slot) (qs : List ℕ) (es : List Below)
    → Every (HasTree rules) qs → Paired (IsShownEnd bs rules) (states_at ss qs) es → AreShown bs rules ss qs es
pick_each bs rules [] qs es some h = none_shown bs rules qs es some h
pick_each bs rules (Hook b ∷ ss) qs es some h = pick_each bs rules ss qs es some h
pick_each bs rules (Field f ∷ ss) [] es some h = no_child bs rules (Field f) ss es (λ ts. refl) h
pick_each bs rules (Link b ∷ ss) [] es some h = no_child bs rules (Link b) ss es (λ ts. refl) h
pick_each bs rules (Field f ∷ ss) (q ∷ qs) [] some h = absurd h
pick_each bs rules (Field f ∷ ss) (q ∷ qs) (e ∷ es) some h =
    let k = pick_each bs rules ss qs es some.1 h.1 in (
      h.0.0 ∷ k.0,
      run_more h.0.1 k.1,
      ap₂ (λ (x : Below) (z : List Below). x ∷ z) h.0.2 k.2,
      more h.0.0 k.0 h.0.3 k.3,
    )
  where
    more : (t : Tree) (ts : List Tree) → ((u : Tree) → RunOf rules q u → EndFollows (λ k. k) t u)
        → ((us : List Tree) → RunEach rules qs us → Paired (EndFollows (λ k. k)) (at_fields ss ts) (at_fields ss us))
        → (us : List Tree) → RunEach rules (q ∷ qs) us
        → Paired (EndFollows (λ k. k)) (at_fields (Field f ∷ ss) (t ∷ ts)) (at_fields (Field f ∷ ss) us)
    more t ts f g us (run_more {t = u} a b) = (f u a, g _ b)
pick_each bs rules (Link b ∷ ss) (q ∷ qs) es some h =
    let k = pick_each bs rules ss qs es some.1 h in
    (some.0.0 ∷ k.0, run_more some.0.1 k.1, k.2, more some.0.0 k.0 k.3)
  where
    more : (t : Tree) (ts : List Tree)
        → ((us : List Tree) → RunEach rules qs us → Paired (EndFollows (λ k. k)) (at_fields ss ts) (at_fields ss us))
        → (us : List Tree) → RunEach rules (q ∷ qs) us
        → Paired (EndFollows (λ k. k)) (at_fields (Link b ∷ ss) (t ∷ ts)) (at_fields (Link b ∷ ss) us)
    more t ts g us (run_more a b) = g _ b

-- what holds of all children holds of those at the ends of fields
at_every : (P : ℕ → Type 0) (ss : List Slot) (qs : List ℕ) → Every P qs → Every P (states_at ss qs)
at_every P [] qs h = tt
at_every P (Hook b ∷ ss) qs h = at_every P ss qs h
at_every P (Field f ∷ ss) [] h = tt
at_every P (Field f ∷ ss) (q ∷ qs) h = (h.0, at_every P ss qs h.1)
at_every P (Link b ∷ ss) [] h = tt
at_every P (Link b ∷ ss) (q ∷ qs) h = at_every P ss qs h.1

pub under_every : (P : ℕ → Type 0) (y : Symbol) (qs : List ℕ) → Every P qs → Every P (states_under y qs)
under_every P Null qs h = tt
under_every P Uninit qs h = tt
under_every P Dangling qs h = tt
under_every P (Ref r) qs h = tt
under_every P (Cell s ds ss) qs h = at_every P ss qs h

-- so for the children of a rule
pick_under : (bs : List BoxFace) (rules : List Rule) (y : Symbol) (qs : List ℕ) (es : List Below)
    → Every (HasTree rules) qs → Paired (IsShownEnd bs rules) (states_under y qs) es → (ts : List Tree)
    × RunEach rules qs ts × (map (below_of bs) (fields_under y ts) ≡ es)
    × ((us : List Tree) → RunEach rules qs us → Paired (EndFollows (λ k. k)) (fields_under y ts) (fields_under y us))
pick_under bs rules Null qs es some h = none_shown bs rules qs es some h
pick_under bs rules Uninit qs es some h = none_shown bs rules qs es some h
pick_under bs rules Dangling qs es some h = none_shown bs rules qs es some h
pick_under bs rules (Ref r) qs es some h = none_shown bs rules qs es some h
pick_under bs rules (Cell s ds ss) qs es some h = pick_each bs rules ss qs es some h

module _ (bs : List BoxFace) (a : Automaton) (ranked : IsRanked a) (signed : HasSignatures bs a)
    (top : HasOneTop a) (q : ℕ) (is_root : a.roots ≡ q ∷ []) (o : Rule) (is : IsRuleOf a.rules q o) where
  root_is : q ≡ top.root
  root_is = only_item q top.root a.roots top.alone (subst (λ (z : List ℕ). IsIn q z) (sym is_root) (inl refl))

  -- each tree has the rule at its top
  top_rule : (r : Rule) (p : ℕ) → IsIn p a.roots → IsIn r a.rules → r.state ≡ p → r ≡ o
  top_rule r p i j e =
      let same : p ≡ top.root = only_item p top.root a.roots top.alone i in
      one_rule a top r j (e ∙ same) ∙ sym (one_rule a top o is.0 (is.1 ∙ root_is))

  pub top_children : (t : Tree) → InLanguage a t → ((out-Tree t).symbol ≡ o.symbol)
      × RunEach a.rules o.children (out-Tree t).children
  top_children t (p, i, run r j s y k) =
      let e = top_rule r p i j s in (
        sym y ∙ ap (λ (x : Rule). x.symbol) e,
        subst (λ (x : Rule). RunEach a.rules x.children (out-Tree t).children) e k,
      )

  pub children_have_trees : HasSome a → Every (HasTree a.rules) o.children
  children_have_trees h = have_trees a.rules (top_children h.0 h.1).1

  fields_are : (t : Tree) → InLanguage a t → field_trees t ≡ fields_under o.symbol (out-Tree t).children
  fields_are t h = ap (λ (y : Symbol). fields_under y (out-Tree t).children) (top_children t h).0

  pub top_shown : HasSome a → (ms : List RefMark) → ((t : Tree) → RunOf a.rules q t → ms ≡ signature bs t)
      → (es : List Below) → Paired (IsShownEnd bs a.rules) (states_under o.symbol o.children) es
      → IsShownBy bs a (record { marks = ms; ends = es })
  top_shown some ms sign es ends =
      let k = pick_under bs a.rules o.symbol o.children es (children_have_trees some) ends in
      let t = tree_of o.symbol k.0 in
      let r : RunOf a.rules q t = subst (λ (z : ℕ). RunOf a.rules z t) is.1 (run_tree a.rules o k.0 is.0 k.1) in
      let l : InLanguage a t = (q, subst (λ (z : List ℕ). IsIn q z) (sym is_root) (inl refl), r) in
      let c : field_trees t ≡ fields_under o.symbol k.0 = fields_are t l
      ∙ ap (λ (x : _). fields_under o.symbol x.children) (out-roll-Tree (record { symbol = o.symbol; children = k.0 }))
      in (
        t,
        l,
        ap₂ (λ (m : List RefMark) (e : List Below). record { marks = m; ends = e }) (sym (sign t r))
            (ap (map (below_of bs)) c ∙ k.2),
        (λ u i. (
          signed.component t u l i,
          subst (λ (z : List Tree). Paired (EndFollows (λ k. k)) z (field_trees u)) (sym c)
              (subst (λ (z : List Tree). Paired (EndFollows (λ k. k)) (fields_under o.symbol k.0) z)
              (sym (fields_are u i)) (k.3 (out-Tree u).children (top_children u i).1)),
        )),
      )

-- One tree of each component.

abbrev pub AreChosen : List BoxFace → List Automaton → List Shown → Type 0
AreChosen bs autos ss = (ts : List Tree) × Choice autos ts × (map (shown_of bs) ts ≡ ss)
    × ((us : List Tree) → Choice autos us → Paired (StaysTame bs) ts us)

pub choose_shown : (bs : List BoxFace) (autos : List Automaton) (ss : List Shown) → Paired (IsShownBy bs) autos ss
    → AreChosen bs autos ss
choose_shown bs [] [] h = ([], tt, refl, none)
  where
    none : (us : List Tree) → Choice [] us → Paired (StaysTame bs) [] us
    none [] c = tt
    none (u ∷ us) c = absurd c
choose_shown bs [] (s ∷ ss) h = absurd h
choose_shown bs (a ∷ autos) [] h = absurd h
choose_shown bs (a ∷ autos) (s ∷ ss) h =
    let k = choose_shown bs autos ss h.1 in
    (h.0.0 ∷ k.0, (h.0.1, k.1), ap₂ (λ (x : Shown) (z : List Shown). x ∷ z) h.0.2 k.2, more h.0.0 k.0 h.0.3 k.3)
  where
    more : (t : Tree) (ts : List Tree) → ((u : Tree) → InLanguage a u → StaysTame bs t u)
        → ((us : List Tree) → Choice autos us → Paired (StaysTame bs) ts us) → (us : List Tree) → Choice (a ∷ autos) us
        → Paired (StaysTame bs) (t ∷ ts) us
    more t ts f g [] c = absurd c
    more t ts f g (u ∷ us) c = (f u c.0, g us c.1)
