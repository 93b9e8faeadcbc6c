-- Signatures with box edges: a state may have leaves and cells. The table is read twice, once with as few leaves as
-- its states allow, once with as many.
use Rattle.std.proofs.Common.{◌≡◌, ◌⊎◌, inl, inr, ℕ, zero, suc, ◌<◌, Bool, true, false, true≢false, ◌&&◌}
use Rattle.std.proofs.Common.{if◌then◌else◌, List, [], ◌∷◌, map, set, length, Option, Some, None, slice_get, refl}
use Rattle.std.proofs.Common.{sym, ap, ap₂, subst, ◌∙◌, arith, length-set}
use Rattle.std.proofs.lemmas.Bool.{and_from, and_parts}
use Rattle.std.proofs.lemmas.List.{get_or-set_same}
use Rattle.fore_base.specs.Lists.{IsIn, Every}
use Rattle.fore_base.proofs.ListLemmas.{every_in, in_every}
use Rattle.ta_core.specs.declared.auto.Rule.{Rule}
use Rattle.ta_core.specs.declared.symbol.Symbol.{Symbol}
use Rattle.ta_core.specs.declared.symbol.Symbol.TheVariants.{Null, Uninit, Dangling, Ref, Cell}
use Rattle.ta_core.specs.declared.tree.Tree.{Tree, out-Tree}
use Rattle.ta_core.specs.Auto.{Automaton}
use Rattle.ta_core.specs.Language.{RunOf, run, RunEach, run_none, run_more}
use Rattle.ta_core.proofs.Rounding.{set_or}
use Rattle.fa_core.specs.declared.faces.BoxFace.{BoxFace}
use Rattle.fa_core.specs.declared.signature.RefMark.{RefMark}
use Rattle.fa_core.specs.declared.signature.Below.{Below}
use Rattle.fa_core.specs.Ways.{signature}
use Rattle.fa_core.specs.Filled.{HasSignatures}
use Rattle.fa_core.specs.Cells.{is_leaf, below_of, marks_by}
use Rattle.fa_core.proofs.CellMarks.{tree_signature}
use Rattle.fa_sound.specs.Entries.{entry, is_there, is_known, all_known, IsKnown}
use Rattle.fa_sound.specs.inner.Learnt.{said, below_at, marks_at, AreWitnessed, IsLearnt, IsSettled, AreOne}
use Rattle.fa_sound.specs.inner.Learnt.{with_leaf, kind, shows, flag_rule, flagged}
use Rattle.fa_sound.proofs.Witnesses.{known_run, known_each, known_entry, rule_witness}
use Rattle.fa_sound.specs.Signatures.{AreSignatures}
use Rattle.ta_core.specs.Language.{HasTree}
use Rattle.fa_core.specs.declared.signature.Signature.{Signature}
use Rattle.fa_sound.proofs.Between.{AreLeafs, IsBetween, AreBetween, none_between, more_between, marks_between}

-- LISTS OF SIGNATURES

abbrev pub signs : Option Below → Signature
signs e = record { refs = (said e).marks }

sign_at : (es : List (Option Below)) (q : ℕ) (s : Signature) → slice_get (map signs es) q ≡ Some s
    → s.refs ≡ (below_at es q).marks
sign_at [] q s h = absurd (nothing h)
  where
    nothing : None ≡ Some s → ⊥
    nothing e = true≢false (sym (ap there e))
      where
        there : Option Signature → Bool
        there None = false
        there (Some x) = true
sign_at (e ∷ es) zero s h = ap refs_of (sym h)
  where
    refs_of : Option Signature → List RefMark
    refs_of None = []
    refs_of (Some x) = x.refs
sign_at (e ∷ es) (suc q) s h = sign_at es q s h

map_long : (es : List (Option Below)) → length (map signs es) ≡ length es
map_long [] = refl
map_long (e ∷ es) = ap suc (map_long es)

kind_is : (k b : Bool) → kind k b ≡ true → b ≡ k
kind_is true b h = h
kind_is false true h = absurd (true≢false (sym h))
kind_is false false h = refl

is_kind : (k b : Bool) → b ≡ k → kind k b ≡ true
is_kind true b h = h
is_kind false true h = absurd (true≢false h)
is_kind false false h = refl

-- TABLES

with_there : (k : Bool) (o : Option Below) → is_there (with_leaf k o) ≡ is_there o
with_there k None = refl
with_there k (Some b) = refl

with_marks : (k : Bool) (o : Option Below) → (said (with_leaf k o)).marks ≡ (said o).marks
with_marks k None = refl
with_marks k (Some b) = refl

with_twice : (k : Bool) (o : Option Below) → with_leaf k (with_leaf k o) ≡ with_leaf k o
with_twice k None = refl
with_twice k (Some b) = refl

with_flag : (k : Bool) (o : Option Below) → is_there o ≡ true → (said (with_leaf k o)).leaf ≡ k
with_flag k None h = absurd (true≢false (sym h))
with_flag k (Some b) h = refl

module _ (k : Bool) where
  -- a rule of the list shows a leaf or a cell of the state
  abbrev pub HasRule : List (Option Below) → List Rule → ℕ → Type 0
  HasRule table rules q = (r : Rule) × IsIn r rules × (r.state ≡ q) × (shows k table r ≡ true)

  step_at : (table : List (Option Below)) (r : Rule) (q : ℕ) → (entry (flag_rule k table r) q ≡ entry table q)
      ⊎ ((entry (flag_rule k table r) q ≡ with_leaf k (entry table q)) × (r.state ≡ q) × (shows k table r ≡ true))
  step_at table r q = here (shows k table r) refl
    where
      here : (b : Bool) → shows k table r ≡ b → (entry (if b then set table r.state
          (with_leaf k (entry table r.state)) else table) q ≡ entry table q)
          ⊎ ((entry (if b then set table r.state (with_leaf k (entry table r.state)) else table) q
          ≡ with_leaf k (entry table q)) × (r.state ≡ q) × (shows k table r ≡ true))
      here false e = inl refl
      here true e = elim (set_or table r.state q (with_leaf k (entry table r.state)) None) [
        | inl p ↦ inr (p.1 ∙ ap (λ (n : ℕ). with_leaf k (entry table n)) (sym p.0), sym p.0, e)
        | inr o ↦ inl o
      ]

  step_known : (table : List (Option Below)) (r : Rule) (q : ℕ) → is_known (flag_rule k table r) q ≡ is_known table q
  step_known table r q = elim (step_at table r q) [
    | inl e ↦ ap is_there e
    | inr p ↦ ap is_there p.0 ∙ with_there k (entry table q)
  ]

  step_all : (table : List (Option Below)) (r : Rule) (qs : List ℕ) → all_known (flag_rule k table r) qs
      ≡ all_known table qs
  step_all table r [] = refl
  step_all table r (q ∷ qs) = ap₂ (λ (a b : Bool). a && b) (step_known table r q) (step_all table r qs)

  step_shows : (table : List (Option Below)) (r o : Rule) → shows k (flag_rule k table r) o ≡ shows k table o
  step_shows table r o = ap (λ (b : Bool). kind k (is_leaf o.symbol) && b) (step_all table r o.children)

  step_long : (table : List (Option Below)) (r : Rule) → length (flag_rule k table r) ≡ length table
  step_long table r = here (shows k table r)
    where
      here : (b : Bool) → length (if b then set table r.state (with_leaf k (entry table r.state)) else table)
          ≡ length table
      here true = length-set table r.state (with_leaf k (entry table r.state))
      here false = refl

  -- an entry stays, or gets the flag, and then a rule shows it
  pub flag_at : (rules : List Rule) (table : List (Option Below)) (q : ℕ)
      → (entry (flagged k rules table) q ≡ entry table q) ⊎ ((entry (flagged k rules table) q
      ≡ with_leaf k (entry table q)) × HasRule table rules q)
  flag_at [] table q = inl refl
  flag_at (r ∷ rs) table q = elim (flag_at rs (flag_rule k table r) q) [
    | inl e ↦ elim (step_at table r q) [
      | inl s ↦ inl (e ∙ s)
      | inr p ↦ inr (e ∙ p.0, (r, inl refl, p.1, p.2))
    ]
    | inr w ↦ inr (
      elim (step_at table r q) [
        | inl s ↦ w.0 ∙ ap (with_leaf k) s
        | inr p ↦ w.0 ∙ ap (with_leaf k) p.0 ∙ with_twice k (entry table q)
      ],
      (w.1.0, inr w.1.1, w.1.2, sym (step_shows table r w.1.0) ∙ w.1.3),
    )
  ]

  pub flag_known : (rules : List Rule) (table : List (Option Below)) (q : ℕ) → is_known (flagged k rules table) q
      ≡ is_known table q
  flag_known rules table q = elim (flag_at rules table q) [
    | inl e ↦ ap is_there e
    | inr p ↦ ap is_there p.0 ∙ with_there k (entry table q)
  ]

  pub flag_all : (rules : List Rule) (table : List (Option Below)) (qs : List ℕ)
      → all_known (flagged k rules table) qs ≡ all_known table qs
  flag_all rules table [] = refl
  flag_all rules table (q ∷ qs) = ap₂ (λ (a b : Bool). a && b) (flag_known rules table q) (flag_all rules table qs)

  pub flag_marks : (rules : List Rule) (table : List (Option Below)) (q : ℕ)
      → (below_at (flagged k rules table) q).marks ≡ (below_at table q).marks
  flag_marks rules table q = elim (flag_at rules table q) [
    | inl e ↦ ap (λ (o : Option Below). (said o).marks) e
    | inr p ↦ ap (λ (o : Option Below). (said o).marks) p.0 ∙ with_marks k (entry table q)
  ]

  -- where a rule shows it, the flag is there
  pub flag_there : (rules : List Rule) (table : List (Option Below)) (r : Rule) → IsIn r rules → shows k table r
      ≡ true → r.state < length table → entry (flagged k rules table) r.state ≡ with_leaf k (entry table r.state)
  flag_there [] table r i h l = absurd i
  flag_there (o ∷ rs) table r (inl e) h l =
      let x : entry (flag_rule k table r) r.state ≡ with_leaf k (entry table r.state) = first (shows k table r) h in
      let y : entry (flag_rule k table o) r.state ≡ with_leaf k (entry table r.state) =
      subst (λ (z : Rule). entry (flag_rule k table z) r.state ≡ with_leaf k (entry table r.state)) e x in
      elim (flag_at rs (flag_rule k table o) r.state) [
        | inl s ↦ s ∙ y
        | inr p ↦ p.0 ∙ ap (with_leaf k) y ∙ with_twice k (entry table r.state)
      ]
    where
      first : (b : Bool) → b ≡ true → entry (if b then set table r.state
          (with_leaf k (entry table r.state)) else table) r.state ≡ with_leaf k (entry table r.state)
      first true g = get_or-set_same table r.state (with_leaf k (entry table r.state)) None l
      first false g = absurd (true≢false (sym g))
  flag_there (o ∷ rs) table r (inr i) h l =
      flag_there rs (flag_rule k table o) r i (step_shows table o r ∙ h) (let e = step_long table o in
      omega (arith, e, l))
      ∙ elim (step_at table o r.state) [
        | inl s ↦ ap (with_leaf k) s
        | inr p ↦ ap (with_leaf k) p.0 ∙ with_twice k (entry table r.state)
      ]

-- LEAVES

leaf_marks : (bs : List BoxFace) (y : Symbol) (xs : List Below) → is_leaf y ≡ true → AreLeafs (marks_by bs y xs)
leaf_marks bs Null xs h = inl refl
leaf_marks bs Uninit xs h = inl refl
leaf_marks bs Dangling xs h = inl refl
leaf_marks bs (Ref r) xs h = inr (r, refl)
leaf_marks bs (Cell s ds ss) xs h = absurd (true≢false (sym h))

pub leaf_signature : (bs : List BoxFace) (t : Tree) → is_leaf (out-Tree t).symbol ≡ true → AreLeafs (signature bs t)
leaf_signature bs t h = subst AreLeafs (sym (tree_signature bs t))
    (leaf_marks bs (out-Tree t).symbol (map (below_of bs) (out-Tree t).children) h)

module _ (bs : List BoxFace) (rules : List Rule) (table : List (Option Below)) (w : AreWitnessed bs rules table)
    (known : Every (IsKnown table) rules) (low : Every (λ (r : Rule). r.state < length table) rules) where
  abbrev pub lows : List (Option Below)
  lows = flagged false rules table

  abbrev pub highs : List (Option Below)
  highs = flagged true rules table

  -- FROM RULES TO TREES
  module _ (slow : Every (IsSettled bs lows) rules) (shigh : Every (IsSettled bs highs) rules) where
    -- a state of which a leaf is said has a leaf's marks
    said_leaf : (q : ℕ) → is_known table q ≡ true → (below_at highs q).leaf ≡ true → AreLeafs (below_at table q).marks
    said_leaf q g h = elim (flag_at true rules table q) [
      | inl e ↦ (let u = w q (below_at table q) (known_entry table q g) in
          let x : (below_at table q).leaf ≡ true = ap (λ (o : Option Below). (said o).leaf) (sym e) ∙ h in
          subst AreLeafs (ap (λ (b : Below). b.marks) u.2) (leaf_signature bs u.0 (ap (λ (b : Below). b.leaf) u.2 ∙ x)))
      | inr p ↦ (let r = p.1.0 in
          let c = and_parts (kind true (is_leaf r.symbol)) (all_known table r.children) p.1.3 in
          let e : (below_at lows r.state).marks ≡ marks_at bs lows r = every_in
          (IsSettled bs lows) rules r slow p.1.1 (flag_all false rules table r.children ∙ c.1) in
          let f : (below_at table q).marks ≡ marks_at bs lows r = ap (λ (n : ℕ). (below_at table n).marks) (sym p.1.2)
          ∙ sym (flag_marks false rules table r.state) ∙ e in
          subst AreLeafs (sym f) (leaf_marks bs r.symbol (map (below_at lows) r.children) c.0))
    ]

    -- a tree stands between what is said of its state
    between_at : {q : ℕ} {t : Tree} → RunOf rules q t → (below_at table q).marks ≡ signature bs t
        → IsBetween (below_at lows q) (below_of bs t) (below_at highs q)
    between_at {q} {t} (run r i e s rs) m = (
      flag_marks false rules table q ∙ m,
      flag_marks true rules table q ∙ m,
      here (is_leaf (out-Tree t).symbol) refl,
    )
      where
        kids : all_known table r.children ≡ true
        kids = known_each rules table known rs

        state : is_known table r.state ≡ true
        state = every_in (IsKnown table) rules r known i kids

        there : is_known table q ≡ true
        there = subst (λ (n : ℕ). is_known table n ≡ true) e state

        flag : (k : Bool) → is_leaf (out-Tree t).symbol ≡ k → (below_at (flagged k rules table) q).leaf ≡ k
        flag k z =
            let sh : shows k table r ≡ true = and_from (kind k (is_leaf r.symbol)) (all_known table r.children)
            (is_kind k (is_leaf r.symbol) (ap is_leaf s ∙ z)) kids in
            let x = flag_there k rules table r i sh (every_in (λ (o : Rule). o.state < length table) rules r low i) in
            subst (λ (n : ℕ). (below_at (flagged k rules table) n).leaf
            ≡ k) e (ap (λ (o : Option Below). (said o).leaf) x ∙ with_flag k (entry table r.state) state)

        here : (k : Bool) → is_leaf (out-Tree t).symbol ≡ k → (((below_at lows q).leaf ≡ is_leaf (out-Tree t).symbol)
            × ((below_at highs q).leaf ≡ is_leaf (out-Tree t).symbol))
            ⊎ (((below_at lows q).leaf ≡ false) × ((below_at highs q).leaf ≡ true) × AreLeafs (signature bs t))
        here true z = down (below_at lows q).leaf refl
          where
            down : (b : Bool) → (below_at lows q).leaf ≡ b → (((below_at lows q).leaf ≡ is_leaf (out-Tree t).symbol)
                × ((below_at highs q).leaf ≡ is_leaf (out-Tree t).symbol))
                ⊎ (((below_at lows q).leaf ≡ false) × ((below_at highs q).leaf ≡ true) × AreLeafs (signature bs t))
            down true y = inl (y ∙ sym z, flag true z ∙ sym z)
            down false y = inr (y, flag true z, leaf_signature bs t z)
        here false z = up (below_at highs q).leaf refl
          where
            up : (b : Bool) → (below_at highs q).leaf ≡ b → (((below_at lows q).leaf ≡ is_leaf (out-Tree t).symbol)
                × ((below_at highs q).leaf ≡ is_leaf (out-Tree t).symbol))
                ⊎ (((below_at lows q).leaf ≡ false) × ((below_at highs q).leaf ≡ true) × AreLeafs (signature bs t))
            up true y = inr (flag false z, y, subst AreLeafs m (said_leaf q there y))
            up false y = inl (flag false z ∙ sym z, y ∙ sym z)

    mutual
      -- each tree has the signature of its state's witness
      pub mixed_run : {q : ℕ} {t : Tree} → RunOf rules q t → (below_at table q).marks ≡ signature bs t
      mixed_run {q} {t} (run r i e s rs) =
          let c = known_each rules table known rs in
          let a : (below_at lows r.state).marks ≡ marks_at bs lows r = every_in
          (IsSettled bs lows) rules r slow i (flag_all false rules table r.children ∙ c) in
          let b : (below_at highs r.state).marks ≡ marks_at bs highs r = every_in
          (IsSettled bs highs) rules r shigh i (flag_all true rules table r.children ∙ c) in
          let d : marks_at bs lows r ≡ marks_at bs highs r = sym a ∙ flag_marks false rules table r.state
          ∙ sym (flag_marks true rules table r.state) ∙ b in
          subst (λ (n : ℕ). (below_at table n).marks ≡ marks_at bs lows r) e
          (sym (flag_marks false rules table r.state) ∙ a)
          ∙ sym (marks_between bs r.symbol (mixed_each rs) d)
          ∙ ap (λ (y : Symbol). marks_by bs y (map (below_of bs) (out-Tree t).children)) s
          ∙ sym (tree_signature bs t)

      mixed_each : {qs : List ℕ} {ts : List Tree} → RunEach rules qs ts
          → AreBetween (map (below_at lows) qs) (map (below_of bs) ts) (map (below_at highs) qs)
      mixed_each run_none = none_between
      mixed_each (run_more a b) = more_between _ _ _ (between_at a (mixed_run a)) (mixed_each b)

  -- FROM TREES TO RULES
  module _ (one : (q : ℕ) (t u : Tree) → RunOf rules q t → RunOf rules q u → signature bs t ≡ signature bs u) where
    -- what is said with a flag is said of some tree
    flag_witnessed : (k : Bool) → AreWitnessed bs rules (flagged k rules table)
    flag_witnessed k q b h = elim (flag_at k rules table q) [
      | inl e ↦ w q b (sym e ∙ h)
      | inr p ↦ here (entry table q) refl p.0 p.1
    ]
      where
        here : (o : Option Below) → entry table q ≡ o → entry (flagged k rules table) q ≡ with_leaf k (entry table q)
            → HasRule k table rules q → (t : Tree) × RunOf rules q t × (below_of bs t ≡ b)
        here None e f g = absurd (true≢false (ap is_there (sym h ∙ f ∙ ap (with_leaf k) e)))
        here (Some c) e f (r, i, st, sh) =
            let v = and_parts (kind k (is_leaf r.symbol)) (all_known table r.children) sh in
            let x = rule_witness bs rules table w r i v.1 in
            let u = w q c e in
            let y : b ≡ record { leaf = k; marks = c.marks } = ap said (sym h ∙ f ∙ ap (with_leaf k) e) in
            let t : RunOf rules q x.0 = subst (λ (n : ℕ). RunOf rules n x.0) st x.1 in
            let l : is_leaf r.symbol ≡ k = kind_is k (is_leaf r.symbol) v.0 in
            let m : marks_at bs table r ≡ c.marks = ap (λ (z : Below). z.marks) (sym x.2) ∙ one q x.0 u.0 t u.1
            ∙ ap (λ (z : Below). z.marks) u.2 in
            (x.0, t, x.2 ∙ ap₂ (λ (z : Bool) (ms : List RefMark). record { leaf = z; marks = ms }) l m ∙ sym y)

    -- each rule is settled, whatever the flags
    pub mixed_settled : (k : Bool) → Every (IsSettled bs (flagged k rules table)) rules
    mixed_settled k = in_every (IsSettled bs (flagged k rules table)) rules (λ r i h.
        let a = rule_witness bs rules (flagged k rules table) (flag_witnessed k) r i h in
        let g : is_known (flagged k rules table) r.state ≡ true = flag_known k rules table r.state ∙ every_in
        (IsKnown table) rules r known i (sym (flag_all k rules table r.children) ∙ h) in
        let b = flag_witnessed k r.state (below_at (flagged k rules table) r.state)
        (known_entry (flagged k rules table) r.state g) in
        ap (λ (x : Below). x.marks) (sym b.2) ∙ one r.state b.0 a.0 b.1 a.1 ∙ ap (λ (x : Below). x.marks) a.2)

-- THE DECISION

module _ (bs : List BoxFace) (a : Automaton) (table : List (Option Below)) (l : IsLearnt bs a.states a.rules table)
    (low : Every (λ (r : Rule). r.state < length table) a.rules) where
  -- uniform signatures exactly where each rule is settled with few leaves and with many, and the root states agree
  pub signed_mixed : Every (IsSettled bs (flagged false a.rules table)) a.rules
      → Every (IsSettled bs (flagged true a.rules table)) a.rules → AreOne table a.roots → HasSignatures bs a
  signed_mixed s h o = record {
    states = λ q t u x y. sym (mixed_run bs a.rules table l.witnessed l.whole low s h x)
        ∙ mixed_run bs a.rules table l.witnessed l.whole low s h y;
    component = λ t u x y. sym (mixed_run bs a.rules table l.witnessed l.whole low s h x.2)
        ∙ o x.0 y.0 x.1 y.1 (known_run a.rules table l.whole x.2) (known_run a.rules table l.whole y.2)
        ∙ mixed_run bs a.rules table l.witnessed l.whole low s h y.2;
  }

  pub mixed_signed : HasSignatures bs a → (k : Bool) → Every (IsSettled bs (flagged k a.rules table)) a.rules
  mixed_signed h k = mixed_settled bs a.rules table l.witnessed l.whole low h.states k

  pub mixed_one : HasSignatures bs a → AreOne table a.roots
  mixed_one h x y i j f g =
      let b = l.witnessed x (below_at table x) (known_entry table x f) in
      let c = l.witnessed y (below_at table y) (known_entry table y g) in
      ap (λ (z : Below). z.marks) (sym b.2) ∙ h.component b.0 c.0 (x, i, b.1) (y, j, c.1)
      ∙ ap (λ (z : Below). z.marks) c.2

  pub mixed_listed : Every (IsSettled bs (flagged false a.rules table)) a.rules
      → Every (IsSettled bs (flagged true a.rules table)) a.rules → AreSignatures bs a (map signs table)
  mixed_listed s h = record {
    long = map_long table ∙ l.long;
    each = λ q x t e r. sign_at table q x e ∙ mixed_run bs a.rules table l.witnessed l.whole low s h r;
    some = λ q x e. known_some q x (sign_at table q x e) (entry table q) refl;
    none = λ q x e n. sign_at table q x e ∙ unknown_none q n (entry table q) refl;
  }
    where
      known_some : (q : ℕ) (x : Signature) → x.refs ≡ (below_at table q).marks → (o : Option Below)
          → entry table q ≡ o → (x.refs ≡ []) ⊎ HasTree a.rules q
      known_some q x h None e = inl (h ∙ ap (λ (o : Option Below). (said o).marks) e)
      known_some q x h (Some b) e = let w = l.witnessed q b e in inr (w.0, w.1)

      unknown_none : (q : ℕ) → (HasTree a.rules q → ⊥) → (o : Option Below) → entry table q ≡ o → (said o).marks ≡ []
      unknown_none q n None e = refl
      unknown_none q n (Some b) e = let w = l.witnessed q b e in absurd (n (w.0, w.1))
