-- The states that take part in the run of an accepted tree are those that are reached from the root states.
use Rattle.std.proofs.Common.{◌≡◌, ◌⊎◌, inl, inr, ℕ, ◌<◌, Bool, true, false, true≢false, cond, List, [], ◌∷◌, ◌++◌, map}
use Rattle.std.proofs.Common.{get_or, refl, sym, ap, subst, ◌∙◌}
use Rattle.fore_base.specs.Lists.{IsIn, Every}
use Rattle.ta_core.specs.declared.auto.Rule.{Rule}
use Rattle.ta_core.specs.declared.arc.Arc.{Arc}
use Rattle.ta_core.specs.declared.tree.Tree.{Tree, Tree-F, out-roll-Tree}
use Rattle.ta_core.specs.Auto.{Automaton, IsRankedRule}
use Rattle.ta_core.specs.inner.Closing.{Reached, reach, ReachedAll, reach_none, reach_more}
use Rattle.ta_core.specs.Language.{RunOf, run, RunEach, run_none, run_more, HasTree, PassesBy, at_top, below, OnePasses}
use Rattle.ta_core.specs.Language.{this_one, later_one, TakesPart}
use Rattle.fore_base.specs.Marks.{IsMarked, MarksOf, all_marked}
use Rattle.ta_core.specs.inner.Arcs.{first_arc, down_arc, root_arcs, rule_arcs}
use Rattle.fore_base.proofs.ListLemmas.{in_left, in_right, in_append, in_map, in_mapped, every_append}
use Rattle.fore_base.proofs.MarkLemmas.{all_from, all_to}
use Rattle.ta_core.proofs.Runs.{tree_of}

module _ (rules : List Rule) where
  mutual
    -- the tree has a run
    pub passing_run : {q p : ℕ} {t : Tree} → PassesBy rules q p t → RunOf rules p t
    passing_run {q} {p} {t} (at_top e r) = r
    passing_run (below r i e s o) = run r i e s (passing_each o)

    pub passing_each : {q : ℕ} {ps : List ℕ} {ts : List Tree} → OnePasses rules q ps ts → RunEach rules ps ts
    passing_each (this_one p rs) = run_more (passing_run p) rs
    passing_each (later_one r o) = run_more r (passing_each o)

  -- a run that passes a child
  pub one_of : (q : ℕ) {ps : List ℕ} {ts : List Tree} → IsIn q ps → RunEach rules ps ts → OnePasses rules q ps ts
  one_of q (inl e) (run_more r rs) = this_one (at_top (sym e) r) rs
  one_of q (inr i) (run_more r rs) = later_one r (one_of q i rs)
  one_of q i run_none = absurd i

  mutual
    -- below a node of state s another tree may stand that has a run to s
    pub graft : {s p : ℕ} {t : Tree} (q : ℕ) (u : Tree) → PassesBy rules s p t → PassesBy rules q s u → (v : Tree)
        × PassesBy rules q p v
    graft {s} {p} q u (at_top e r) h = (u, subst (λ (x : ℕ). PassesBy rules q x u) (sym e) h)
    graft q u (below r i e y o) h =
        let g = graft_one q u o h in
        let x : Tree-F Tree = record { symbol = r.symbol; children = g.0 } in
        (tree_of r.symbol g.0, below r i e (rw (out-roll-Tree x) refl) (rw (out-roll-Tree x) g.1))

    graft_one : {s : ℕ} {ps : List ℕ} {ts : List Tree} (q : ℕ) (u : Tree) → OnePasses rules s ps ts
        → PassesBy rules q s u → (vs : List Tree) × OnePasses rules q ps vs
    graft_one q u (this_one {ts = ts} p rs) h = let g = graft q u p h in (g.0 ∷ ts, this_one g.1 rs)
    graft_one q u (later_one {t = t} r o) h = let g = graft_one q u o h in (t ∷ g.0, later_one r g.1)

-- a child of a rule that some tree can use takes part where the rule's state does
pub child_part : (a : Automaton) (r : Rule) (ts : List Tree) (q : ℕ) → IsIn r a.rules → RunEach a.rules r.children ts
    → IsIn q r.children → TakesPart a r.state → TakesPart a q
child_part a r ts q i k c p =
    let x : Tree-F Tree = record { symbol = r.symbol; children = ts } in
    let o : PassesBy a.rules q r.state (tree_of r.symbol ts) =
    below r i refl (rw (out-roll-Tree x) refl) (rw (out-roll-Tree x) (one_of a.rules q c k)) in
    let g = graft a.rules q (tree_of r.symbol ts) p.3 o in
    (p.0, g.0, p.2, g.1)

-- what a arc of the two lists is
root_arc : (marks : List Bool) (qs : List ℕ) (s : Arc) → IsIn s (root_arcs marks qs) → IsIn s.to qs
    × IsMarked marks s.to
root_arc marks [] s i = absurd i
root_arc marks (q ∷ qs) s i = here (get_or marks q false) refl i (root_arc marks qs s)
  where
    here : (b : Bool) → get_or marks q false ≡ b
        → IsIn s (cond b (first_arc q ∷ root_arcs marks qs) (root_arcs marks qs))
        → (IsIn s (root_arcs marks qs) → IsIn s.to qs × IsMarked marks s.to) → IsIn s.to (q ∷ qs) × IsMarked marks s.to
    here true e (inl d) k = (inl (ap (λ (x : Arc). x.to) d), subst (λ (x : Arc). IsMarked marks x.to) (sym d) e)
    here true e (inr j) k = let m = k j in (inr m.0, m.1)
    here false e j k = let m = k j in (inr m.0, m.1)

abbrev IsRuleArc : List Bool → List Rule → Arc → Type 0
IsRuleArc marks rs s = (r : Rule) × IsIn r rs × (all_marked marks r.children ≡ true) × (s.from ≡ r.state ∷ [])
    × IsIn s.to r.children

rule_arc : (marks : List Bool) (rs : List Rule) (s : Arc) → IsIn s (rule_arcs marks rs) → IsRuleArc marks rs s
rule_arc marks [] s i = absurd i
rule_arc marks (r ∷ rs) s i =
    here (all_marked marks r.children) refl
    (in_append s (cond (all_marked marks r.children) (map (down_arc r.state) r.children) []) (rule_arcs marks rs) i)
    (rule_arc marks rs s)
  where
    here : (b : Bool) → all_marked marks r.children ≡ b
        → (IsIn s (cond b (map (down_arc r.state) r.children) []) ⊎ IsIn s (rule_arcs marks rs))
        → (IsIn s (rule_arcs marks rs) → IsRuleArc marks rs s) → IsRuleArc marks (r ∷ rs) s
    here true e (inl j) k = let m = in_mapped (down_arc r.state) s r.children j in
        (r, inl refl, e, ap (λ (x : Arc). x.from) m.2, subst (λ (x : Arc). IsIn x.to r.children) (sym m.2) m.1)
    here false e (inl j) k = absurd j
    here b e (inr j) k = let m = k j in (m.0, inr m.1, m.2, m.3, m.4)

to_root : (marks : List Bool) (qs : List ℕ) (q : ℕ) → IsIn q qs → IsMarked marks q
    → IsIn (first_arc q) (root_arcs marks qs)
to_root marks [] q i m = absurd i
to_root marks (p ∷ qs) q i m = here (get_or marks p false) refl i (to_root marks qs q)
  where
    here : (b : Bool) → get_or marks p false ≡ b → IsIn q (p ∷ qs)
        → (IsIn q qs → IsMarked marks q → IsIn (first_arc q) (root_arcs marks qs))
        → IsIn (first_arc q) (cond b (first_arc p ∷ root_arcs marks qs) (root_arcs marks qs))
    here true e (inl d) k = inl (ap first_arc d)
    here true e (inr j) k = inr (k j m)
    here false e (inl d) k = absurd (true≢false (sym (subst (IsMarked marks) d m) ∙ e))
    here false e (inr j) k = k j m

to_child : (marks : List Bool) (rs : List Rule) (r : Rule) (q : ℕ) → IsIn r rs → all_marked marks r.children ≡ true
    → IsIn q r.children → IsIn (down_arc r.state q) (rule_arcs marks rs)
to_child marks [] r q i a m = absurd i
to_child marks (x ∷ rs) r q (inr i) a m =
    in_right (down_arc r.state q) (cond (all_marked marks x.children) (map (down_arc x.state) x.children) [])
    (rule_arcs marks rs) (to_child marks rs r q i a m)
to_child marks (x ∷ rs) r q (inl e) a m =
    in_left (down_arc r.state q) (cond (all_marked marks x.children) (map (down_arc x.state) x.children) [])
    (rule_arcs marks rs)
    (subst
    (λ (y : Rule). IsIn (down_arc r.state q)
    (cond (all_marked marks y.children) (map (down_arc y.state) y.children) [])) e
    (rw a (in_map (down_arc r.state) q r.children m)))

-- the arcs stay in range
pub down_low : (n : ℕ) (marks : List Bool) (qs : List ℕ) (rs : List Rule) → Every (λ q. q < n) qs
    → Every (IsRankedRule n) rs → Every (λ (s : Arc). s.to < n) (root_arcs marks qs ++ rule_arcs marks rs)
down_low n marks qs rs h k = every_append _ (root_arcs marks qs) (rule_arcs marks rs) (roots qs h) (arcs rs k)
  where
    roots : (qs : List ℕ) → Every (λ q. q < n) qs → Every (λ (s : Arc). s.to < n) (root_arcs marks qs)
    roots [] h = tt
    roots (q ∷ qs) h = here (get_or marks q false) (roots qs h.1)
      where
        here : (b : Bool) → Every (λ (s : Arc). s.to < n) (root_arcs marks qs)
            → Every (λ (s : Arc). s.to < n) (cond b (first_arc q ∷ root_arcs marks qs) (root_arcs marks qs))
        here true k = (h.0, k)
        here false k = k

    downs : (p : ℕ) (qs : List ℕ) → Every (λ q. q < n) qs → Every (λ (s : Arc). s.to < n) (map (down_arc p) qs)
    downs p [] h = tt
    downs p (q ∷ qs) h = (h.0, downs p qs h.1)

    arcs : (rs : List Rule) → Every (IsRankedRule n) rs → Every (λ (s : Arc). s.to < n) (rule_arcs marks rs)
    arcs [] k = tt
    arcs (r ∷ rs) k = every_append _ (cond (all_marked marks r.children) (map (down_arc r.state) r.children) [])
        (rule_arcs marks rs) (here (all_marked marks r.children)) (arcs rs k.1)
      where
        here : (b : Bool) → Every (λ (s : Arc). s.to < n) (cond b (map (down_arc r.state) r.children) [])
        here true = downs r.state r.children k.0.1
        here false = tt

module _ (a : Automaton) (marks : List Bool) (m : MarksOf a.states (HasTree a.rules) marks) where
  abbrev arcs : List Arc
  arcs = root_arcs marks a.roots ++ rule_arcs marks a.rules

  -- each state of the list has a tree
  trees_each : (qs : List ℕ) → Every (IsMarked marks) qs → (ts : List Tree) × RunEach a.rules qs ts
  trees_each [] h = ([], run_none)
  trees_each (q ∷ qs) h = let t = m.only q h.0 in let ts = trees_each qs h.1 in (t.0 ∷ ts.0, run_more t.1 ts.1)

  each_marked : {qs : List ℕ} {ts : List Tree} → RunEach a.rules qs ts → Every (IsMarked marks) qs
  each_marked run_none = tt
  each_marked (run_more {q = q} {t = t} r rs) = (m.each q (t, r), each_marked rs)

  part_child : (r : Rule) (q : ℕ) → IsIn r a.rules → all_marked marks r.children ≡ true → IsIn q r.children
      → TakesPart a r.state → TakesPart a q
  part_child r q i f c p = let ts = trees_each r.children (all_from marks r.children f) in
      child_part a r ts.0 q i ts.1 c p

  mutual
    reached_part : {q : ℕ} → Reached arcs q → TakesPart a q
    reached_part {q} (reach s i e f) =
        subst (TakesPart a) e
        (here (in_append s (root_arcs marks a.roots) (rule_arcs marks a.rules) i) (reached_parts f))
      where
        here : (IsIn s (root_arcs marks a.roots) ⊎ IsIn s (rule_arcs marks a.rules)) → Every (TakesPart a) s.from
            → TakesPart a s.to
        here (inl j) k = let w = root_arc marks a.roots s j in let t = m.only s.to w.1 in
            (s.to, t.0, w.0, at_top refl t.1)
        here (inr j) k = let w = rule_arc marks a.rules s j in
            part_child w.0 s.to w.1 w.2 w.4
            (let h : Every (TakesPart a) (w.0.state ∷ []) = subst (Every (TakesPart a)) w.3 k in h.0)

    reached_parts : {qs : List ℕ} → ReachedAll arcs qs → Every (TakesPart a) qs
    reached_parts reach_none = tt
    reached_parts (reach_more r rs) = (reached_part r, reached_parts rs)

  mutual
    passing_reached : {q p : ℕ} {t : Tree} → PassesBy a.rules q p t → Reached arcs p → Reached arcs q
    passing_reached (at_top e r) h = subst (Reached arcs) e h
    passing_reached (below r i e s o) h =
        one_reached o r i (subst (Reached arcs) (sym e) h) (λ c j. j)
        (all_to marks r.children (each_marked (passing_each a.rules o)))

    one_reached : {q : ℕ} {ps : List ℕ} {ts : List Tree} → OnePasses a.rules q ps ts → (r : Rule) → IsIn r a.rules
        → Reached arcs r.state → ((c : ℕ) → IsIn c ps → IsIn c r.children) → all_marked marks r.children ≡ true
        → Reached arcs q
    one_reached (this_one {p = p} h rs) r i k f l =
        passing_reached h
        (reach (down_arc r.state p)
        (in_right (down_arc r.state p) (root_arcs marks a.roots) (rule_arcs marks a.rules)
        (to_child marks a.rules r p i l (f p (inl refl)))) refl (reach_more k reach_none))
    one_reached (later_one h o) r i k f l = one_reached o r i k (λ c j. f c (inr j)) l

  part_reached : (q : ℕ) → TakesPart a q → Reached arcs q
  part_reached q p = passing_reached p.3
      (reach (first_arc p.0)
      (in_left (first_arc p.0) (root_arcs marks a.roots) (rule_arcs marks a.rules)
      (to_root marks a.roots p.0 p.2 (m.each p.0 (p.1, passing_run a.rules p.3)))) refl reach_none)

  pub part_marks : (used : List Bool) → MarksOf a.states (Reached arcs) used → MarksOf a.states (TakesPart a) used
  part_marks used u = record
      { long = u.long; only = λ q k. reached_part (u.only q k); each = λ q p. u.each q (part_reached q p) }
