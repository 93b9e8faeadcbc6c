-- A trace whose nodes gained no members has a run of its own.
use Rattle.std.proofs.Common.{◌≡◌, ◌<◌, ℕ, suc, zero, ◌+◌, List, [], ◌∷◌, ◌++◌, length, slice_get, map}
use Rattle.std.proofs.Common.{replicate, if◌then◌else◌, Option, Some, None, Bool, true, false, nat_eq, refl, sym}
use Rattle.std.proofs.Common.{ap, ◌∙◌, subst, arith, inl, inr}
use Rattle.std.proofs.lemmas.Bool.{eq-eqb}
use Rattle.std.proofs.lemmas.List.{append_assoc}
use Rattle.fore_base.specs.Heap.{IsAlike, IsProper, value_renamed}
use Rattle.fore_base.specs.Lists.{IsIn}
use Rattle.fore_base.specs.declared.fault.Fault.{Fault as Kind}
use Rattle.fore_base.specs.declared.store.Store.{Store}
use Rattle.fore_base.specs.declared.store.Value.TheVariants.{Uninit}
use Rattle.c_types.specs.declared.outcome.Outcome.{Outcome}
use Rattle.c_types.specs.declared.outcome.Outcome.TheVariants.{Fault, StillRunning}
use Rattle.c_types.specs.Runs.{empty_store}
use Rattle.fa_core.specs.Boxes.{Boxes}
use Rattle.fa_core.specs.declared.forest.Forest.{Forest}
use Rattle.c_cfg.specs.Alike.{IsUnset, LikePass}
use Rattle.c_cfg.specs.Edges.{Pass, Passed, Faulted, Halted, NotPassed}
use Rattle.c_cfg.specs.Fans.{choice_list, used_by, GoesBy}
use Rattle.c_cfg.specs.GraphRuns.{out_of, after_pass, at_location, leave, ggo}
use Rattle.c_cfg.specs.Graphs.{ControlGraph}
use Rattle.c_cfg.specs.declared.graph.Edge.{Edge}
use Rattle.c_cfg.proofs.AlikeStores.{alike_chain}
use Rattle.c_cfg.proofs.LikeSteps.{steps_alike}
use Rattle.c_cfg.proofs.Moving.{Moved, none, permuted}
use Rattle.c_cfg.proofs.Properly.{steps_proper, empty_proper}
use Rattle.sym_core.specs.Cases.{ComesFrom}
use Rattle.fix_core.specs.declared.explored.AbsTrace.{AbsTrace}
use Rattle.fix_core.specs.declared.nodes.Node.{Node}
use Rattle.fix_core.specs.Explorations.{IsNode, IsEdge, is_head, Follows, FollowsEarlier, Exploration, IsWay, begins}
use Rattle.fix_core.specs.Explorations.{goes, AbstractTrace}
use Rattle.fix_core.specs.Follows.{IsMember, passed_by, IsStateAt}
use Rattle.fix_verdict.specs.Verdicts.{IsExact, AreExact}
use Rattle.fix_core.proofs.Lists.{some_same, in_left, in_right, length_push}
use Rattle.fix_core.proofs.Numbered.{one_node}

-- an edge that stands in the list begins at its location
pub in_out : (edges : List Edge) (c : ℕ) (e : Edge) (location : ℕ) → slice_get edges c ≡ Some e → e.from ≡ location
    → IsIn e (out_of edges location)
in_out [] c e location is fr = cc
in_out (d ∷ ds) zero e location is fr = here (nat_eq d.from location) refl
  where
    same : d ≡ e
    same = some_same d e is

    here : (b : Bool) → nat_eq d.from location ≡ b → IsIn e (if b then d ∷ out_of ds location else out_of ds location)
    here true t = inl (sym same)
    here false t = absurd (differ (sym t ∙ eq-eqb d.from location (ap (λ z. z.from) same ∙ fr)))
      where
        differ : false ≡ true → ⊥
        differ h = cc
in_out (d ∷ ds) (suc c) e location is fr = here (nat_eq d.from location) (in_out ds c e location is fr)
  where
    here : (b : Bool) → IsIn e (out_of ds location) → IsIn e (if b then d ∷ out_of ds location else out_of ds location)
    here true h = inr h
    here false h = h

-- like passes

like_passed : (p q : Pass) (u : Store) → LikePass p q → q ≡ Passed u → (v : Store) × (p ≡ Passed v) × IsAlike v u
like_passed (Passed s) (Passed t) u like is = (s, refl, subst (IsAlike s) (same t u is) like)
  where
    same : (t u : Store) → Passed t ≡ Passed u → t ≡ u
    same t u h = cc
like_passed (Passed s) (Faulted k) u like is = absurd like
like_passed (Passed s) Halted u like is = absurd like
like_passed (Passed s) NotPassed u like is = absurd like
like_passed (Faulted k) (Passed t) u like is = absurd like
like_passed (Faulted k) (Faulted j) u like is = cc
like_passed (Faulted k) Halted u like is = absurd like
like_passed (Faulted k) NotPassed u like is = absurd like
like_passed Halted (Passed t) u like is = absurd like
like_passed Halted (Faulted j) u like is = absurd like
like_passed Halted Halted u like is = cc
like_passed Halted NotPassed u like is = absurd like
like_passed NotPassed (Passed t) u like is = absurd like
like_passed NotPassed (Faulted j) u like is = absurd like
like_passed NotPassed Halted u like is = absurd like
like_passed NotPassed NotPassed u like is = cc

like_faulted : (p q : Pass) (k : Kind) → LikePass p q → q ≡ Faulted k → p ≡ Faulted k
like_faulted (Passed s) (Passed t) k like is = cc
like_faulted (Passed s) (Faulted j) k like is = absurd like
like_faulted (Passed s) Halted k like is = absurd like
like_faulted (Passed s) NotPassed k like is = absurd like
like_faulted (Faulted i) (Passed t) k like is = absurd like
like_faulted (Faulted i) (Faulted j) k like is = ap Faulted like ∙ is
like_faulted (Faulted i) Halted k like is = absurd like
like_faulted (Faulted i) NotPassed k like is = absurd like
like_faulted Halted (Passed t) k like is = absurd like
like_faulted Halted (Faulted j) k like is = absurd like
like_faulted Halted Halted k like is = cc
like_faulted Halted NotPassed k like is = absurd like
like_faulted NotPassed (Passed t) k like is = absurd like
like_faulted NotPassed (Faulted j) k like is = absurd like
like_faulted NotPassed Halted k like is = absurd like
like_faulted NotPassed NotPassed k like is = cc

-- the empty store is alike to each that has no cell and no variable set

unset_renamed : (f : ℕ → ℕ) (n : ℕ) → map (value_renamed f) (replicate n Uninit) ≡ replicate n Uninit
unset_renamed f zero = refl
unset_renamed f (suc n) = ap (λ vs. Uninit ∷ vs) (unset_renamed f n)

empty_alike : (ptrs datums : ℕ) (s : Store) → IsUnset ptrs datums s → IsAlike (empty_store ptrs datums) s
empty_alike ptrs datums s h = record {
  to = λ n. n;
  one_to_one = λ m n hm hn e. e;
  vars = h.vars ∙ sym (unset_renamed (λ n. n) ptrs);
  data_vars = h.data_vars;
  cells = permuted (subst (λ cs. Moved [] cs) (sym h.cells) none);
}

-- each edge that goes somewhere is the one by which a run leaves its location
abbrev pub RunsGoBy : Boxes → ControlGraph → Type 0
RunsGoBy T g = (location : ℕ) (e : Edge) (s : Store) → IsIn e (out_of g.edges location)
    → GoesBy T.face.shapes.structs (out_of g.edges location) e s

module _ (T : Boxes) (g : ControlGraph) (k : ℕ) (nodes : List Node) (by_edge : RunsGoBy T g)
    (explored : Exploration T g k nodes) where
  -- at most n further edges
  abbrev go : ℕ → ℕ → ℕ → Store → List ℕ → ℕ → Outcome
  go n step location s cs used = ggo T.face.shapes.structs g.edges (at_location g.edges) n step location s cs used

  -- the store with which a run begins
  abbrev start : Store
  start = empty_store g.ptrs g.datums

  -- A run on the choices of a way comes to a store that is alike to the member t of its last node.
  pub record Comes (steps location : ℕ) (way_choices : List ℕ) (t : Store) : Type 0 where
    pub store : Store
    pub alike : IsAlike store t
    pub proper : IsProper store
    pub used : ℕ
    pub goes_on : (n : ℕ) (cs : List ℕ) → go (steps + n) 0 0 start (way_choices ++ cs) 0
        ≡ go n steps location store cs used

  not_passed : (p : Pass) (t : Store) → p ≡ Passed t → p ≡ NotPassed → ⊥
  not_passed p t h i = cc

  member_proper : (F : Forest) (s : Store) → IsMember T F s → IsProper s
  member_proper F s m = m.1.proper

  -- the member of a node is one that its edge makes of a member of the parent, up to numbers
  from_parent : (j : ℕ) (n parent : Node) (p c : ℕ) (e : Edge) → Follows T g k p parent c e n → IsNode nodes j n
      → IsExact T nodes j → (t : Store) → IsMember T n.state.forest t → ComesFrom T.face T.defs parent.state.forest e t
  from_parent j n parent p c e f is exact t m = here (is_head g e.to) f.state.state
    where
      here : (b : Bool) → IsStateAt T b k parent.state.forest e n.state
          → ComesFrom T.face T.defs parent.state.forest e t
      here true h = h.case_of.true_case t (exact n h.middle is h.settles.middle t m)
      here false h = h.case_of.true_case t m

  no_parent : (n : Node) (p : ℕ) → n.head.parent ≡ None → n.head.parent ≡ Some p → ⊥
  no_parent n p h i = cc

  first_has_none : (n : Node) (p : ℕ) → IsNode nodes 0 n → n.head.parent ≡ Some p → ⊥
  first_has_none n p is par =
      no_parent n p
      (subst (λ z. z.head.parent ≡ None) (one_node nodes 0 explored.first.node n explored.first.is is)
      explored.first.no_parent) par

  follow_of : (j p : ℕ) (n : Node) → IsNode nodes j n → n.head.parent ≡ Some p → FollowsEarlier T g k nodes j n
  follow_of zero p n is par = absurd (first_has_none n p is par)
  follow_of (suc j) p n is par = explored.follow (suc j) n (omega arith) is

  positive : (j p : ℕ) (n : Node) → IsNode nodes j n → n.head.parent ≡ Some p → 0 < j
  positive zero p n is par = absurd (first_has_none n p is par)
  positive (suc j) p n is par = omega arith

  -- one edge more
  comes_on : (steps : ℕ) (way_choices : List ℕ) (parent n : Node) (p c : ℕ) (e : Edge) (t : Store)
      → Follows T g k p parent c e n → IsEdge g c e → (w : ComesFrom T.face T.defs parent.state.forest e t)
      → Comes steps parent.head.location way_choices w.was
      → Comes (suc steps) n.head.location (way_choices ++ choice_list n.head.choice) t
  comes_on steps way_choices parent n p c e t f ie w before =
      let like : LikePass (passed_by T e before.store) (passed_by T e w.was) =
      steps_alike T.face.shapes.structs e before.store w.was before.proper
      (member_proper parent.state.forest w.was w.stands) before.alike in
      let v = like_passed (passed_by T e before.store) (passed_by T e w.was) w.goes_to like w.goes in
      let fr : e.from ≡ parent.head.location = sym f.from in
      let listed = in_out g.edges c e parent.head.location ie fr in
      record {
        store = v.0;
        alike = alike_chain v.0 w.goes_to t v.2 w.alike;
        proper = steps_proper T.face.shapes.structs e before.store v.0 before.proper v.1;
        used = used_by e.choice before.used;
        goes_on = λ n' cs.
            ap (λ z. go z 0 0 start ((way_choices ++ choice_list n.head.choice) ++ cs) 0) (shift steps n')
            ∙ ap (λ z. go (steps + suc n') 0 0 start z 0) (append_assoc way_choices (choice_list n.head.choice) cs)
            ∙ before.goes_on (suc n') (choice_list n.head.choice ++ cs)
            ∙ ap
            (λ z. leave T.face.shapes.structs (out_of g.edges parent.head.location)
            (λ st to u ds x. go n' st to u ds x) steps before.store (choice_list z ++ cs) before.used) f.choice
            ∙ by_edge parent.head.location e before.store listed (not_passed (passed_by T e before.store) v.0 v.1)
            (λ st to u ds x. go n' st to u ds x) steps cs before.used
            ∙ ap
            (λ z. after_pass z e.line (steps + 1) (λ u. go n' (steps + 1) e.to u cs (used_by e.choice before.used))
            StillRunning) v.1
            ∙ ap (λ z. go n' z e.to v.0 cs (used_by e.choice before.used)) (one_more steps)
            ∙ ap (λ z. go n' (suc steps) z v.0 cs (used_by e.choice before.used)) (sym f.to);
      }
    where
      shift : (a b : ℕ) → suc a + b ≡ a + suc b
      shift a b = omega arith

      one_more : (a : ℕ) → a + 1 ≡ suc a
      one_more a = omega arith

  first_member : (n : Node) (t : Store) → IsNode nodes 0 n → IsMember T n.state.forest t → Comes 0 n.head.location [] t
  first_member n t is m =
      let same = one_node nodes 0 explored.first.node n explored.first.is is in
      let mem = subst (λ z. IsMember T z.state.forest t) (sym same) m in
      record {
        store = start;
        alike = empty_alike g.ptrs g.datums t ((explored.first.members t).0 mem);
        proper = empty_proper g.ptrs g.datums;
        used = 0;
        goes_on = λ n' cs. ap (λ z. go z 0 0 start cs 0) (none_more n')
            ∙ ap (λ z. go n' 0 z start cs 0) (sym (ap (λ z. z.head.location) (sym same) ∙ explored.first.entry));
      }
    where
      none_more : (a : ℕ) → 0 + a ≡ a
      none_more a = omega arith

  -- the number of edges of a way
  pub record ComesAt (at : ℕ) (way way_choices : List ℕ) (n : Node) (t : Store) : Type 0 where
    pub steps : ℕ
    pub many : length way ≡ suc steps
    pub comes : Comes steps n.head.location way_choices t

  pub way_comes : (at : ℕ) (way way_choices : List ℕ) → IsWay nodes at way way_choices → AreExact T nodes way
      → (n : Node) → IsNode nodes at n → (t : Store) → IsMember T n.state.forest t → ComesAt at way way_choices n t
  way_comes at way way_choices begins exact n is t m = record { steps = 0; many = refl; comes = first_member n t is m }
  way_comes at way way_choices
      (goes {p = p} {way = before} {choices = first} m more used earlier m_is par more_is used_is) exact n is t mem =
      let f = follow_of at p m m_is par in
      let same_parent : f.at ≡ p = some_same f.at p (sym f.follows.child.parent ∙ par) in
      let w = from_parent at m f.parent f.at f.number f.edge f.follows m_is
      (exact at (positive at p m m_is par)
      (subst (IsIn at) (sym more_is) (in_right before (at ∷ []) at (inl refl)))) t
      (subst (λ z. IsMember T z.state.forest t) (sym (one_node nodes at m n m_is is)) mem) in
      let r = way_comes p before first earlier
      (λ j pos h. exact j pos (subst (IsIn j) (sym more_is) (in_left before (at ∷ []) j h))) f.parent
      (subst (λ z. IsNode nodes z f.parent) same_parent f.is) w.was w.stands in
      record {
        steps = suc r.steps;
        many = ap length more_is ∙ length_push before at ∙ ap suc r.many;
        comes = subst (λ z. Comes (suc r.steps) z.head.location way_choices t) (one_node nodes at m n m_is is)
            (subst (λ z. Comes (suc r.steps) m.head.location z t) (sym used_is)
            (comes_on r.steps first f.parent m f.at f.number f.edge t f.follows f.is_edge w r.comes));
      }

  faulted_not : (p : Pass) (kind : Kind) → p ≡ Faulted kind → p ≡ NotPassed → ⊥
  faulted_not p kind h i = cc

  -- the graph's run on the choices of an exact trace meets its fault at its last edge
  pub trace_runs : (tr : AbsTrace) (s : Store) → AbstractTrace T g nodes tr → IsMember T tr.last.forest s
      → AreExact T nodes tr.nodes → go tr.steps 0 0 start tr.choices 0 ≡ Fault tr.fault tr.line tr.steps
  trace_runs tr s a member exact =
      let m = a.members s member in
      let r = way_comes a.at tr.nodes a.choices a.way exact a.node a.is s m.0 in
      let like : LikePass (passed_by T a.edge r.comes.store) (passed_by T a.edge s) =
      steps_alike T.face.shapes.structs a.edge r.comes.store s r.comes.proper
      (member_proper tr.last.forest s member) r.comes.alike in
      let f : passed_by T a.edge r.comes.store ≡ Faulted tr.fault =
      like_faulted (passed_by T a.edge r.comes.store) (passed_by T a.edge s) tr.fault like m.1 in
      let listed = in_out g.edges tr.edge a.edge a.node.head.location a.is_edge a.from in
      let many : tr.steps ≡ r.steps + 1 = a.steps ∙ r.many ∙ one_more r.steps in
      ap (λ z. go z 0 0 start tr.choices 0) many
      ∙ ap (λ z. go (r.steps + 1) 0 0 start z 0)
      (a.all_choices ∙ ap (λ z. a.choices ++ z) (sym (append_nil (choice_list a.edge.choice))))
      ∙ r.comes.goes_on 1 (choice_list a.edge.choice ++ [])
      ∙ by_edge a.node.head.location a.edge r.comes.store listed
      (faulted_not (passed_by T a.edge r.comes.store) tr.fault f) (λ st to u ds x. go 0 st to u ds x) r.steps []
      r.comes.used
      ∙ ap
      (λ z. after_pass z a.edge.line (r.steps + 1)
      (λ u. go 0 (r.steps + 1) a.edge.to u [] (used_by a.edge.choice r.comes.used)) StillRunning) f
      ∙ ap (λ z. Fault tr.fault z (r.steps + 1)) (sym a.line)
      ∙ ap (λ z. Fault tr.fault tr.line z) (sym many)
    where
      one_more : (a : ℕ) → suc a ≡ a + 1
      one_more a = omega arith

      append_nil : (xs : List ℕ) → xs ++ [] ≡ xs
      append_nil [] = refl
      append_nil (x ∷ xs) = ap (λ z. x ∷ z) (append_nil xs)

  -- without loop heads each way is exact
  pub all_exact : ((location : ℕ) → is_head g location ≡ false) → (way : List ℕ) → AreExact T nodes way
  all_exact no_head way j pos h n M is middle s m =
      absurd (here (is_head g f.edge.to) (no_head f.edge.to) f.follows.state.state)
    where
      f : FollowsEarlier T g k nodes j n
      f = explored.follow j n pos is

      differ : true ≡ false → ⊥
      differ e = cc

      none_some : (o : Option Forest) → o ≡ None → o ≡ Some M → ⊥
      none_some o a b = cc

      here : (b : Bool) → b ≡ false → IsStateAt T b k f.parent.state.forest f.edge n.state → ⊥
      here true e st = differ e
      here false e st = none_some n.state.middle st.no_middle middle
