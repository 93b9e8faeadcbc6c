-- What remains of an automaton whose marked states are those that take part.
use Rattle.std.proofs.Common.{◌≡◌, inl, inr, ℕ, ◌<◌, Bool, true, false, true≢false, ◌&&◌, cond, List, [], ◌∷◌, map}
use Rattle.std.proofs.Common.{get_or, refl, sym, ap, subst, ◌∙◌}
use Rattle.fore_base.specs.Lists.{IsIn, Every, Paired}
use Rattle.ta_core.specs.declared.auto.Rule.{Rule}
use Rattle.ta_core.specs.declared.tree.Tree.{Tree, out-Tree}
use Rattle.ta_core.specs.Auto.{Automaton}
use Rattle.ta_core.specs.Language.{RunOf, RunEach, HasSameLanguage, PassesBy, at_top, below, OnePasses, this_one}
use Rattle.ta_core.specs.Language.{later_one, TakesPart, IsTrim}
use Rattle.fore_base.specs.Marks.{IsMarked, MarksOf, all_marked}
use Rattle.ta_core.specs.Renumbered.{renumbered, IsSublist, sub_none, sub_skip, sub_keep, StandsFor}
use Rattle.ta_core.specs.inner.Restricted.{rank, keeps, kept_states, kept_rules, restricted}
use Rattle.ta_core.proofs.Descending.{passing_run, passing_each, child_part}
use Rattle.ta_core.proofs.Kept.{nth_marked, nth_is_marked, nth_rank, rank_nth}
use Rattle.fore_base.proofs.ListLemmas.{in_every, in_map}
use Rattle.std.proofs.lemmas.Bool.{and_parts}
use Rattle.fore_base.proofs.MarkLemmas.{all_from, all_to}
use Rattle.ta_core.proofs.Runs.{along, along_each}

and_both : (a b : Bool) → a ≡ true → b ≡ true → (a && b) ≡ true
and_both true b h k = k
and_both false b h k = absurd (true≢false (sym h))

-- a kept state is one of the list with a mark, and the other way
kept_state : (marks : List Bool) (f : ℕ → ℕ) (qs : List ℕ) (p : ℕ) → IsIn p (kept_states marks f qs) → (q : ℕ)
    × IsIn q qs × IsMarked marks q × (p ≡ f q)
kept_state marks f [] p i = absurd i
kept_state marks f (q ∷ qs) p i = here (get_or marks q false) refl i (kept_state marks f qs p)
  where
    here : (b : Bool) → get_or marks q false ≡ b
        → IsIn p (cond b (f q ∷ kept_states marks f qs) (kept_states marks f qs))
        → (IsIn p (kept_states marks f qs) → (x : ℕ) × IsIn x qs × IsMarked marks x × (p ≡ f x)) → (x : ℕ)
        × IsIn x (q ∷ qs) × IsMarked marks x × (p ≡ f x)
    here true e (inl d) k = (q, inl refl, e, d)
    here true e (inr j) k = let m = k j in (m.0, inr m.1, m.2, m.3)
    here false e j k = let m = k j in (m.0, inr m.1, m.2, m.3)

state_kept : (marks : List Bool) (f : ℕ → ℕ) (qs : List ℕ) (q : ℕ) → IsIn q qs → IsMarked marks q
    → IsIn (f q) (kept_states marks f qs)
state_kept marks f [] q i m = absurd i
state_kept marks f (p ∷ qs) q i m = here (get_or marks p false) refl i (state_kept marks f qs q)
  where
    here : (b : Bool) → get_or marks p false ≡ b → IsIn q (p ∷ qs)
        → (IsIn q qs → IsMarked marks q → IsIn (f q) (kept_states marks f qs))
        → IsIn (f q) (cond b (f p ∷ kept_states marks f qs) (kept_states marks f qs))
    here true e (inl d) k = inl (ap f d)
    here true e (inr j) k = inr (k j m)
    here false e (inl d) k = absurd (true≢false (sym (subst (IsMarked marks) d m) ∙ e))
    here false e (inr j) k = k j m

-- a kept rule comes from one whose states have marks, and the other way
kept_rule : (marks : List Bool) (f : ℕ → ℕ) (rs : List Rule) (o : Rule) → IsIn o (kept_rules marks f rs) → (r : Rule)
    × IsIn r rs × (keeps marks r ≡ true) × (o ≡ renumbered f r)
kept_rule marks f [] o i = absurd i
kept_rule marks f (r ∷ rs) o i = here (keeps marks r) refl i (kept_rule marks f rs o)
  where
    here : (b : Bool) → keeps marks r ≡ b
        → IsIn o (cond b (renumbered f r ∷ kept_rules marks f rs) (kept_rules marks f rs))
        → (IsIn o (kept_rules marks f rs) → (x : Rule) × IsIn x rs × (keeps marks x ≡ true) × (o ≡ renumbered f x))
        → (x : Rule) × IsIn x (r ∷ rs) × (keeps marks x ≡ true) × (o ≡ renumbered f x)
    here true e (inl d) k = (r, inl refl, e, d)
    here true e (inr j) k = let m = k j in (m.0, inr m.1, m.2, m.3)
    here false e j k = let m = k j in (m.0, inr m.1, m.2, m.3)

rule_kept : (marks : List Bool) (f : ℕ → ℕ) (rs : List Rule) (r : Rule) → IsIn r rs → keeps marks r ≡ true
    → IsIn (renumbered f r) (kept_rules marks f rs)
rule_kept marks f [] r i m = absurd i
rule_kept marks f (x ∷ rs) r i m = here (keeps marks x) refl i (rule_kept marks f rs r)
  where
    here : (b : Bool) → keeps marks x ≡ b → IsIn r (x ∷ rs)
        → (IsIn r rs → keeps marks r ≡ true → IsIn (renumbered f r) (kept_rules marks f rs))
        → IsIn (renumbered f r) (cond b (renumbered f x ∷ kept_rules marks f rs) (kept_rules marks f rs))
    here true e (inl d) k = inl (ap (renumbered f) d)
    here true e (inr j) k = inr (k j m)
    here false e (inl d) k = absurd (true≢false (sym (subst (λ (y : Rule). keeps marks y ≡ true) d m) ∙ e))
    here false e (inr j) k = k j m

-- the old numbers of what is kept
module _ (marks : List Bool) where
  olds : (qs : List ℕ) → Every (IsMarked marks) qs → map (nth_marked marks) (map (rank marks) qs) ≡ qs
  olds [] h = refl
  olds (q ∷ qs) h = let a = nth_rank marks q h.0 in let b = olds qs h.1 in rw (a, b) refl

  old_rule : (r : Rule) → keeps marks r ≡ true → renumbered (nth_marked marks) (renumbered (rank marks) r) ≡ r
  old_rule r h =
      let a = nth_rank marks r.state (and_parts (get_or marks r.state false) (all_marked marks r.children) h).0 in
      let b =
      olds r.children
      (all_from marks r.children (and_parts (get_or marks r.state false) (all_marked marks r.children) h).1) in
      rw (a, b) refl

  pub sub_states : (qs : List ℕ) → IsSublist (map (nth_marked marks) (kept_states marks (rank marks) qs)) qs
  sub_states [] = sub_none
  sub_states (q ∷ qs) = here (get_or marks q false) refl (sub_states qs)
    where
      here : (b : Bool) → get_or marks q false ≡ b
          → IsSublist (map (nth_marked marks) (kept_states marks (rank marks) qs)) qs
          → IsSublist
          (map (nth_marked marks)
          (cond b (rank marks q ∷ kept_states marks (rank marks) qs) (kept_states marks (rank marks) qs))) (q ∷ qs)
      here true e k = let a = nth_rank marks q e in rw a (sub_keep k)
      here false e k = sub_skip k

  pub sub_rules : (rs : List Rule)
      → IsSublist (map (renumbered (nth_marked marks)) (kept_rules marks (rank marks) rs)) rs
  sub_rules [] = sub_none
  sub_rules (r ∷ rs) = here (keeps marks r) refl (sub_rules rs)
    where
      here : (b : Bool) → keeps marks r ≡ b
          → IsSublist (map (renumbered (nth_marked marks)) (kept_rules marks (rank marks) rs)) rs
          → IsSublist
          (map (renumbered (nth_marked marks))
          (cond b (renumbered (rank marks) r ∷ kept_rules marks (rank marks) rs) (kept_rules marks (rank marks) rs)))
          (r ∷ rs)
      here true e k = let a = old_rule r e in rw a (sub_keep k)
      here false e k = sub_skip k

module _ (a : Automaton) (marks : List Bool) (m : MarksOf a.states (TakesPart a) marks) where
  abbrev made : Automaton
  made = restricted marks (rank marks) a

  -- an old state and its new number
  abbrev IsNew : ℕ → ℕ → Type 0
  IsNew q p = IsMarked marks q × (p ≡ rank marks q)

  -- the children of a rule of a marked state that some tree can use are marked
  children_marked : (r : Rule) (ts : List Tree) → IsIn r a.rules → IsMarked marks r.state
      → RunEach a.rules r.children ts → Every (IsMarked marks) r.children
  children_marked r ts i h k =
      in_every (IsMarked marks) r.children (λ q c. m.each q (child_part a r ts q i k c (m.only r.state h)))

  keeps_rule : (r : Rule) → IsMarked marks r.state → Every (IsMarked marks) r.children → keeps marks r ≡ true
  keeps_rule r h c = and_both (get_or marks r.state false) (all_marked marks r.children) h (all_to marks r.children c)

  paired_new : (qs : List ℕ) → Every (IsMarked marks) qs → Paired IsNew qs (map (rank marks) qs)
  paired_new [] h = tt
  paired_new (q ∷ qs) h = ((h.0, refl), paired_new qs h.1)

  match_new : (r : Rule) (p : ℕ) (ts : List Tree) → IsIn r a.rules → IsNew r.state p → RunEach a.rules r.children ts
      → (o : Rule) × IsIn o made.rules × (o.state ≡ p) × (o.symbol ≡ r.symbol) × Paired IsNew r.children o.children
  match_new r p ts i n k =
      let c = children_marked r ts i n.0 k in (
        renumbered (rank marks) r,
        rule_kept marks (rank marks) a.rules r i (keeps_rule r n.0 c),
        sym n.1,
        refl,
        paired_new r.children c,
      )

  to_new : {q : ℕ} {t : Tree} → IsMarked marks q → RunOf a.rules q t → RunOf made.rules (rank marks q) t
  to_new {q} h r = along a.rules made.rules IsNew match_new (rank marks q) (h, refl) r

  each_new : {qs : List ℕ} {ts : List Tree} → Every (IsMarked marks) qs → RunEach a.rules qs ts
      → RunEach made.rules (map (rank marks) qs) ts
  each_new {qs} h rs = along_each a.rules made.rules IsNew match_new (map (rank marks) qs) (paired_new qs h) rs

  -- a new state and its old number
  abbrev IsOld : ℕ → ℕ → Type 0
  IsOld p q = q ≡ nth_marked marks p

  paired_old : (qs : List ℕ) → Every (IsMarked marks) qs → Paired IsOld (map (rank marks) qs) qs
  paired_old [] h = tt
  paired_old (q ∷ qs) h = (sym (nth_rank marks q h.0), paired_old qs h.1)

  match_old : (o : Rule) (q : ℕ) (ts : List Tree) → IsIn o made.rules → IsOld o.state q
      → RunEach made.rules o.children ts → (r : Rule) × IsIn r a.rules × (r.state ≡ q) × (r.symbol ≡ o.symbol)
      × Paired IsOld o.children r.children
  match_old o q ts i e k =
      let w = kept_rule marks (rank marks) a.rules o i in
      let h = (and_parts (get_or marks w.0.state false) (all_marked marks w.0.children) w.2).0 in
      let c = all_from marks w.0.children
      (and_parts (get_or marks w.0.state false) (all_marked marks w.0.children) w.2).1 in (
        w.0,
        w.1,
        sym (e ∙ ap (λ (x : Rule). nth_marked marks x.state) w.3 ∙ nth_rank marks w.0.state h),
        sym (ap (λ (x : Rule). x.symbol) w.3),
        subst (λ (x : Rule). Paired IsOld x.children w.0.children) (sym w.3) (paired_old w.0.children c),
      )

  to_old : {p : ℕ} {t : Tree} → RunOf made.rules p t → RunOf a.rules (nth_marked marks p) t
  to_old {p} r = along made.rules a.rules IsOld match_old (nth_marked marks p) refl r

  -- a root state that has a tree is marked
  root_marked : (q : ℕ) (t : Tree) → IsIn q a.roots → RunOf a.rules q t → IsMarked marks q
  root_marked q t i r = m.each q (q, t, i, at_top refl r)

  pub alike : HasSameLanguage a made
  alike t = (
    λ l.
        (let h = root_marked l.0 t l.1 l.2 in
        (rank marks l.0, state_kept marks (rank marks) a.roots l.0 l.1 h, to_new h l.2)),
    λ l. (let w = kept_state marks (rank marks) a.roots l.0 l.1 in
        let e : nth_marked marks l.0 ≡ w.0 = ap (nth_marked marks) w.3 ∙ nth_rank marks w.0 w.2 in
        (w.0, w.1, subst (λ (x : ℕ). RunOf a.rules x t) e (to_old l.2))),
  )

  -- a rule of a marked state that some tree can use is kept
  rule_stands : (q : ℕ) (r : Rule) (ts : List Tree) → q < made.states → IsIn r a.rules → r.state ≡ nth_marked marks q
      → RunEach a.rules r.children ts → IsIn r (map (renumbered (nth_marked marks)) made.rules)
  rule_stands q r ts l i e k =
      let g = subst (IsMarked marks) (sym e) (nth_is_marked marks q l) in
      let h = keeps_rule r g (children_marked r ts i g k) in
      subst (λ (x : Rule). IsIn x (map (renumbered (nth_marked marks)) made.rules)) (old_rule marks r h)
      (in_map (renumbered (nth_marked marks)) (renumbered (rank marks) r) made.rules
      (rule_kept marks (rank marks) a.rules r i h))

  pub standing : StandsFor a made
  standing = record {
    of = nth_marked marks;
    apart = λ p q h k e. sym (rank_nth marks p h) ∙ ap (rank marks) e ∙ rank_nth marks q k;
    runs =
        λ q t h. (
          λ r. to_old r,
          λ r. subst (λ (x : ℕ). RunOf made.rules x t) (rank_nth marks q h)
              (to_new (nth_is_marked marks q h) r),
        );
    rules = sub_rules marks a.rules;
    roots = sub_states marks a.roots;
    whole =
        λ q i t.
        (let h = root_marked q t.0 i t.1 in
        (rank marks q, state_kept marks (rank marks) a.roots q i h, nth_rank marks q h));
    used = rule_stands;
  }

  mutual
    passing_new : {q p : ℕ} {t : Tree} → IsMarked marks p → PassesBy a.rules q p t
        → PassesBy made.rules (rank marks q) (rank marks p) t
    passing_new h (at_top e r) = at_top (ap (rank marks) e) (to_new h r)
    passing_new {q} {p} {t} h (below r i e s o) =
        let g : IsMarked marks r.state = subst (IsMarked marks) (sym e) h in
        let c = children_marked r (out-Tree t).children i g (passing_each a.rules o) in
        below (renumbered (rank marks) r) (rule_kept marks (rank marks) a.rules r i (keeps_rule r g c))
        (ap (rank marks) e) s (ones_new c o)

    ones_new : {q : ℕ} {ps : List ℕ} {ts : List Tree} → Every (IsMarked marks) ps → OnePasses a.rules q ps ts
        → OnePasses made.rules (rank marks q) (map (rank marks) ps) ts
    ones_new h (this_one p rs) = this_one (passing_new h.0 p) (each_new h.1 rs)
    ones_new h (later_one r o) = later_one (to_new h.0 r) (ones_new h.1 o)

  pub trimmed : IsTrim made
  trimmed q h =
      let p = m.only (nth_marked marks q) (nth_is_marked marks q h) in
      let g = root_marked p.0 p.1 p.2 (passing_run a.rules p.3) in (
        rank marks p.0,
        p.1,
        state_kept marks (rank marks) a.roots p.0 p.2 g,
        subst (λ (x : ℕ). PassesBy made.rules x (rank marks p.0) p.1) (rank_nth marks q h) (passing_new g p.3),
      )
