-- What the table of a component says of all trees of its states.
use Rattle.std.proofs.Common.{◌≡◌, ◌≢◌, ◌⊎◌, inl, inr, ℕ, zero, suc, ◌<◌, ◌+◌, Bool, true, false, true≢false, not}
use Rattle.std.proofs.Common.{◌||◌, List, [], ◌∷◌, length, map, set, replicate, Option, Some, None, refl}
use Rattle.std.proofs.Common.{sym, ap, ap₂, subst, ◌∙◌, arith, length-set}
use Rattle.std.proofs.lemmas.Bool.{and_parts}
use Rattle.std.proofs.lemmas.Option.{none-some, same_Some}
use Rattle.std.specs.Bool.{MatchBool}
use Rattle.fore_base.specs.Lists.{IsIn, Every}
use Rattle.fore_base.proofs.ListLemmas.{every_in, every_weaker}
use Rattle.ta_core.specs.Auto.{Automaton, IsRanked, IsRankedRule}
use Rattle.ta_core.specs.Language.{RunOf, run, RunEach, run_none, run_more, IsTrim}
use Rattle.ta_core.specs.declared.auto.Rule.{Rule}
use Rattle.ta_core.specs.declared.symbol.Symbol.{Symbol}
use Rattle.ta_core.specs.declared.tree.Tree.{Tree, out-Tree}
use Rattle.ta_core.proofs.Rounding.{copies_or, set_or}
use Rattle.ta_core.proofs.Runs.{tree_of, run_tree}
use Rattle.fa_core.specs.declared.faces.BoxFace.{BoxFace}
use Rattle.fa_core.specs.declared.signature.Below.{Below}
use Rattle.fa_core.specs.declared.signature.RefMark.{RefMark}
use Rattle.fa_core.specs.Cells.{is_leaf, below_of, marks_by}
use Rattle.fa_core.specs.Ways.{signature}
use Rattle.fa_core.proofs.CellMarks.{tree_signature}
use Rattle.fa_sound.proofs.Between.{AreLeafs, IsBetween, AreBetween, none_between, more_between, marks_between}
use Rattle.fa_sound.proofs.Mixed.{leaf_signature}
use Rattle.fa_sound.proofs.Witnesses.{below_tree, known_each, known_run}
use Rattle.fa_sound.specs.Entries.{entry, is_there, is_known, all_known, IsKnown}
use Rattle.fa_boxes.specs.Signatures.{SignsApart}
use Rattle.fa_boxes.specs.declared.seeing.Seen.{Seen}
use Rattle.fa_boxes.specs.inner.Seeing.{has_kind, shows, said, below_at, own, marks_at, Adds, IsTaken, Learns, lacks}
use Rattle.fa_boxes.specs.inner.Seeing.{lacking, missing, IsSeen, AreSeen, IsLearnt, IsSettled, IsUnlike, IsUnsettled}
use Rattle.fa_boxes.specs.inner.Seeing.{IsTable}

or_true : (b : Bool) → (b || true) ≡ true
or_true true = refl
or_true false = refl

or_left : (b : Bool) → (b || false) ≡ true → b ≡ true
or_left true h = refl
or_left false h = h

-- Tables.

missing_set : (table : List (Option Seen)) (i : ℕ) (x : Option Seen) → i < length table → missing (set table i x)
    + lacking (entry table i) ≡ missing table + lacking x
missing_set [] i x l = absurd (omega (arith, l))
missing_set (e ∷ es) zero x l = omega arith
missing_set (e ∷ es) (suc i) x l = let k = missing_set es i x (omega (arith, l)) in omega (arith, k)

-- a mark that was lacking, beside one that stays
mark_less : (a b : Bool) → a ≡ false → lacks (a || true) + lacks (b || false) < lacks a + lacks b
mark_less true b h = absurd (true≢false h)
mark_less false true h = omega arith
mark_less false false h = omega arith

-- what is new was lacking
lacking_less : (o : Option Seen) (k : Bool) (ms : List RefMark) (x : Seen) → shows k o ≡ false → Adds o k ms (Some x)
    → lacking (Some x) < lacking o
lacking_less None true ms x h a = let e = ap lacking a in omega (arith, e)
lacking_less None false ms x h a = let e = ap lacking a in omega (arith, e)
lacking_less (Some s) true ms x h a =
    let e = ap (λ (y : Seen). lacks y.leaf + lacks y.cell) a.1 in
    let l = mark_less s.leaf s.cell h in omega (arith, e, l)
lacking_less (Some s) false ms x h a =
    let e = ap (λ (y : Seen). lacks y.leaf + lacks y.cell) a.1 in
    let l = mark_less s.cell s.leaf h in omega (arith, e, l)

pub none_seen : (bs : List BoxFace) (rules : List Rule) (n : ℕ) → AreSeen bs rules (replicate n None)
none_seen bs rules n q s h = absurd (none-some s (sym (copies_or n q None) ∙ h))

-- a known entry is there
known_entry : (table : List (Option Seen)) (q : ℕ) → is_known table q ≡ true → (s : Seen) × (entry table q ≡ Some s)
known_entry table q h = here (entry table q) refl h
  where
    here : (o : Option Seen) → entry table q ≡ o → is_there o ≡ true → (s : Seen) × (entry table q ≡ Some s)
    here None e h = absurd (true≢false (sym h))
    here (Some s) e h = (s, e)

-- Trees that are known.

module _ (bs : List BoxFace) (rules : List Rule) where
  -- what is taken for what stands below is below some tree
  said_seen : (q : ℕ) (s : Seen) → IsSeen bs rules q s → (k : Bool) → (t : Tree) × RunOf rules q t
      × (below_of bs t ≡ said k (Some s))
  said_seen q s h true = here s.leaf refl
    where
      cell_there : (k : Bool) → has_kind k s ≡ true → s.leaf ≡ false → s.cell ≡ true
      cell_there true e f = absurd (true≢false (sym e ∙ f))
      cell_there false e f = e

      here : (b : Bool) → s.leaf ≡ b → (t : Tree) × RunOf rules q t × (below_of bs t ≡ said true (Some s))
      here true e = let w = h.0 true e in
          (w.0, w.1, w.2 ∙ ap (λ (b : Bool). record { leaf = b; marks = s.marks }) (sym e))
      here false e = let w = h.0 false (cell_there h.1.0 h.1.1 e) in
          (w.0, w.1, w.2 ∙ ap (λ (b : Bool). record { leaf = b; marks = s.marks }) (sym e))
  said_seen q s h false = here s.cell refl
    where
      leaf_there : (k : Bool) → has_kind k s ≡ true → s.cell ≡ false → s.leaf ≡ true
      leaf_there true e f = e
      leaf_there false e f = absurd (true≢false (sym e ∙ f))

      here : (b : Bool) → s.cell ≡ b → (t : Tree) × RunOf rules q t × (below_of bs t ≡ said false (Some s))
      here true e = let w = h.0 false e in
          (w.0, w.1, w.2 ∙ ap (λ (b : Bool). record { leaf = not b; marks = s.marks }) (sym e))
      here false e = let w = h.0 true (leaf_there h.1.0 h.1.1 e) in
          (w.0, w.1, w.2 ∙ ap (λ (b : Bool). record { leaf = not b; marks = s.marks }) (sym e))

  module _ (table : List (Option Seen)) (w : AreSeen bs rules table) (k : Bool) where
    seen_each : (qs : List ℕ) → all_known table qs ≡ true → (ts : List Tree) × RunEach rules qs ts
        × (map (below_of bs) ts ≡ map (below_at k table) qs)
    seen_each [] h = ([], run_none, refl)
    seen_each (q ∷ qs) h =
        let b = and_parts (is_known table q) (all_known table qs) h in
        let e = known_entry table q b.0 in
        let a = said_seen q e.0 (w q e.0 e.1) k in
        let r = seen_each qs b.1 in (
          a.0 ∷ r.0,
          run_more a.1 r.1,
          ap₂ (λ (x : Below) (xs : List Below). x ∷ xs)
              (a.2 ∙ ap (said k) (sym e.1)) r.2,
        )

    -- a rule whose children are known makes a tree over what is taken for them
    rule_seen : (r : Rule) → IsIn r rules → all_known table r.children ≡ true → (t : Tree) × RunOf rules r.state t
        × (below_of bs t ≡ record { leaf = is_leaf r.symbol; marks = marks_at bs k table r })
    rule_seen r i h =
        let c = seen_each r.children h in (
          tree_of r.symbol c.0,
          run_tree rules r c.0 i c.1,
          below_tree bs r.symbol c.0 (map (below_at k table) r.children) c.2,
        )

  -- Learning.

  -- if the kind is known, it is that of some tree
  abbrev IsKindSeen : ℕ → Seen → Bool → Type 0
  IsKindSeen q s j = has_kind j s ≡ true → (t : Tree) × RunOf rules q t
      × (below_of bs t ≡ record { leaf = j; marks = s.marks })

  -- the trees of a kind, with marks that are the same
  moved : (q : ℕ) (s : Seen) (ms : List RefMark) → s.marks ≡ ms → ((j : Bool) → IsKindSeen q s j) → (j : Bool)
      → has_kind j s ≡ true → (t : Tree) × RunOf rules q t × (below_of bs t ≡ record { leaf = j; marks = ms })
  moved q s ms e h j k =
      let u = h j k in (u.0, u.1, u.2 ∙ ap (λ (m : List RefMark). record { leaf = j; marks = m }) e)

  add_seen : (q : ℕ) (o : Option Seen) (k : Bool) (ms : List RefMark) (x : Seen) → Adds o k ms (Some x)
      → ((s : Seen) → o ≡ Some s → IsSeen bs rules q s)
      → (t : Tree) × RunOf rules q t × (below_of bs t ≡ record { leaf = k; marks = ms }) → IsSeen bs rules q x
  add_seen q None true ms x a w t = subst (IsSeen bs rules q) (sym (same_Some x _ a)) (only, (true, refl))
    where
      only : (j : Bool) → IsKindSeen q (record { leaf = true; cell = false; marks = ms }) j
      only true e = t
      only false e = absurd (true≢false (sym e))
  add_seen q None false ms x a w t = subst (IsSeen bs rules q) (sym (same_Some x _ a)) (only, (false, refl))
    where
      only : (j : Bool) → IsKindSeen q (record { leaf = false; cell = true; marks = ms }) j
      only true e = absurd (true≢false (sym e))
      only false e = t
  add_seen q (Some s) true ms x a w t =
      subst (IsSeen bs rules q) (sym a.1) (both (moved q s ms a.0 (w s refl).0), (true, or_true s.leaf))
    where
      both : ((j : Bool) → has_kind j s ≡ true → (t : Tree) × RunOf rules q t
          × (below_of bs t ≡ record { leaf = j; marks = ms })) → (j : Bool)
          → IsKindSeen q (record { leaf = s.leaf || true; cell = s.cell || false; marks = ms }) j
      both old true e = t
      both old false e = old false (or_left s.cell e)
  add_seen q (Some s) false ms x a w t =
      subst (IsSeen bs rules q) (sym a.1) (both (moved q s ms a.0 (w s refl).0), (false, or_true s.cell))
    where
      both : ((j : Bool) → has_kind j s ≡ true → (t : Tree) × RunOf rules q t
          × (below_of bs t ≡ record { leaf = j; marks = ms })) → (j : Bool)
          → IsKindSeen q (record { leaf = s.leaf || false; cell = s.cell || true; marks = ms }) j
      both old true e = old true (or_left s.leaf e)
      both old false e = t

  -- a rule that is taken shows something new of its state, or nothing new
  pub rule_taken : (n : ℕ) (r : Rule) (now new : List (Option Seen)) (added : Bool) → IsIn r rules × (r.state < n)
      → (length now ≡ n) × AreSeen bs rules now → Learns bs r now new added
      → ((length new ≡ n) × AreSeen bs rules new)
      × MatchBool added (missing new < missing now) ((new ≡ now) × IsTaken bs now r)
  rule_taken n r now new true given kept (h, k, (x, a, e)) =
      let long = kept.0 in let low = given.1 in
      let g = ap missing e in
      let m = missing_set now r.state (Some x) (omega (arith, long, low)) in
      let d = lacking_less (entry now r.state) (is_leaf r.symbol) (marks_at bs false now r) x k a in (
        (
          ap length e ∙ length-set now r.state (Some x) ∙ kept.0,
          subst (AreSeen bs rules) (sym e)
              (λ q s f. elim (set_or now r.state q (Some x) None) [
                | inl p ↦ (let y : IsSeen bs rules r.state x = add_seen r.state (entry now r.state) (is_leaf r.symbol)
                    (marks_at bs false now r) x a (λ z g. kept.1 r.state z g)
                    (rule_seen now kept.1 false r given.0 h) in
                    let g : x ≡ s = same_Some x s (sym p.1 ∙ f) in
                    subst (λ (z : Seen). IsSeen bs rules q z) g
                    (subst (λ (n : ℕ). IsSeen bs rules n x) (sym p.0) y))
                | inr o ↦ kept.1 q s (sym o ∙ f)
              ]),
        ),
        omega (arith, g, m, d),
      )
  rule_taken n r now new false given kept learnt =
      ((ap length learnt.0 ∙ kept.0, subst (AreSeen bs rules) (sym learnt.0) kept.1), learnt)

-- All trees.

module _ (bs : List BoxFace) (rules : List Rule) (table : List (Option Seen)) (w : AreSeen bs rules table)
    (taken : Every (IsTaken bs table) rules) where
  known : Every (IsKnown table) rules
  known = every_weaker (IsTaken bs table) (IsKnown table) rules (λ r t h. (t h).0) taken

  -- where a rule is not settled, two trees of its state differ
  pub unlike : (r : Rule) → IsIn r rules → IsUnlike bs table r → (t : Tree) × (u : Tree) × RunOf rules r.state t
      × RunOf rules r.state u × (signature bs t ≢ signature bs u)
  unlike r i (h, (k, n)) =
      let e = known_entry table r.state (every_in (IsTaken bs table) rules r taken i h).0 in
      let t = said_seen bs rules r.state e.0 (w r.state e.0 e.1) true in
      let u = rule_seen bs rules table w k r i h in (
        t.0,
        u.0,
        t.1,
        u.1,
        (λ d. n (ap (λ (o : Option Seen). (said true o).marks) e.1
            ∙ sym (ap (λ (b : Below). b.marks) t.2) ∙ d ∙ ap (λ (b : Below). b.marks) u.2)),
      )

  module _ (settled : Every (IsSettled bs table) rules) where
    -- the state of a rule with known children shows a tree of the rule's kind
    kind_there : (r : Rule) → IsIn r rules → all_known table r.children ≡ true
        → shows (is_leaf r.symbol) (entry table r.state) ≡ true
    kind_there r i h = elim (every_in (IsTaken bs table) rules r taken i h).1 [
      | inl e ↦ e
      | inr n ↦ absurd (n (every_in (IsSettled bs table) rules r settled i h).0)
    ]

    between_of : (q : ℕ) (t : Tree) (o : Option Seen) → entry table q ≡ o → shows (is_leaf (out-Tree t).symbol) o ≡ true
        → (said true o).marks ≡ signature bs t → IsBetween (said false o) (below_of bs t) (said true o)
    between_of q t None e h m = absurd (true≢false (sym h))
    between_of q t (Some s) e h m = (m, m, here (is_leaf (out-Tree t).symbol) s.leaf s.cell refl refl refl)
      where
        leafs : s.leaf ≡ true → AreLeafs (signature bs t)
        leafs f = let u = (w q s e).0 true f in
            subst AreLeafs (ap (λ (b : Below). b.marks) u.2 ∙ m)
            (leaf_signature bs u.0 (ap (λ (b : Below). b.leaf) u.2))

        here : (k b d : Bool) → is_leaf (out-Tree t).symbol ≡ k → s.leaf ≡ b → s.cell ≡ d
            → ((not s.cell ≡ is_leaf (out-Tree t).symbol) × (s.leaf ≡ is_leaf (out-Tree t).symbol))
            ⊎ ((not s.cell ≡ false) × (s.leaf ≡ true) × AreLeafs (signature bs t))
        here true true true x y z = inr (ap not z, y, leafs y)
        here true true false x y z = inl (ap not z ∙ sym x, y ∙ sym x)
        here true false d x y z = absurd (true≢false (sym (subst (λ (b : Bool). has_kind b s ≡ true) x h) ∙ y))
        here false true true x y z = inr (ap not z, y, leafs y)
        here false false true x y z = inl (ap not z ∙ sym x, y ∙ sym x)
        here false b false x y z = absurd (true≢false (sym (subst (λ (b : Bool). has_kind b s ≡ true) x h) ∙ z))

    mutual
      -- each tree has the signature that its state has
      pub own_run : {q : ℕ} {t : Tree} → RunOf rules q t → own table q ≡ signature bs t
      own_run {q} {t} (run r i e s rs) =
          let c = known_each rules table known rs in
          let d = every_in (IsSettled bs table) rules r settled i c in
          subst (λ (n : ℕ). own table n ≡ marks_at bs false table r) e d.0
          ∙ sym (marks_between bs r.symbol (between_each rs) (sym d.0 ∙ d.1))
          ∙ ap (λ (y : Symbol). marks_by bs y (map (below_of bs) (out-Tree t).children)) s
          ∙ sym (tree_signature bs t)

      between_run : {q : ℕ} {t : Tree} → RunOf rules q t → own table q ≡ signature bs t
          → IsBetween (below_at false table q) (below_of bs t) (below_at true table q)
      between_run {q} {t} (run r i e s rs) m = between_of q t (entry table q) refl
          (subst (λ (n : ℕ). shows (is_leaf (out-Tree t).symbol) (entry table n) ≡ true) e
          (subst (λ (y : Symbol). shows (is_leaf y) (entry table r.state) ≡ true) s
          (kind_there r i (known_each rules table known rs)))) m

      between_each : {qs : List ℕ} {ts : List Tree} → RunEach rules qs ts
          → AreBetween (map (below_at false table) qs) (map (below_of bs) ts) (map (below_at true table) qs)
      between_each run_none = none_between
      between_each (run_more a b) = more_between _ _ _ (between_run a (own_run a)) (between_each b)

-- The decision.

module _ (bs : List BoxFace) (a : Automaton) (table : List (Option Seen))
    (l : IsLearnt bs a.states a.rules table) where
  pub settled_table : Every (IsSettled bs table) a.rules → IsTable bs a table
  settled_table h = record {
    trees = λ q t r. (
      known_run a.rules table (known bs a.rules table l.seen l.whole) r,
      own_run bs a.rules table l.seen l.whole h r,
    );
    some = λ q k. (let e = known_entry table q k in
        let t = said_seen bs a.rules q e.0 (l.seen q e.0 e.1) true in (t.0, t.1));
  }

  pub unsettled_apart : IsRanked a → IsTrim a → IsUnsettled bs table a.rules → SignsApart bs a
  unsettled_apart ranked trim (r, i, n) =
      let w = unlike bs a.rules table l.seen l.whole r i n in
      let m : IsRankedRule a.states r = every_in (IsRankedRule a.states) a.rules r ranked.1 i in
      (r.state, w.0, w.1, trim r.state m.0, w.2, w.3, w.4)
