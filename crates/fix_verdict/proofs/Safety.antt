-- Closed nodes: no run of the graph meets a fault.
use Rattle.std.proofs.Common.{◌≡◌, ℕ, suc, zero, ◌+◌, List, [], ◌∷◌, slice_get, if◌then◌else◌, Some, Bool}
use Rattle.std.proofs.Common.{true, false, nat_eq, refl, sym, ◌∙◌, subst}
use Rattle.std.proofs.lemmas.Bool.{eqb-true}
use Rattle.std.proofs.lemmas.Option.{slice_get_within}
use Rattle.fore_base.specs.declared.shape.Shapes.{Shapes}
use Rattle.fore_base.specs.declared.store.Store.{Store}
use Rattle.fore_base.specs.Lists.{Every}
use Rattle.c_types.specs.declared.outcome.Outcome.{Outcome}
use Rattle.c_types.specs.declared.outcome.Outcome.TheVariants.{StillRunning}
use Rattle.c_types.specs.Runs.{supply, empty_store}
use Rattle.c_types.specs.Over.{IsFault}
use Rattle.fa_core.specs.Boxes.{Boxes}
use Rattle.c_cfg.specs.Edges.{Pass, Passed, Faulted, Halted, NotPassed}
use Rattle.c_cfg.specs.GraphRuns.{out_of, is_taken_on, after_pass, unless_left, at_location, first_pass, leave, ggo}
use Rattle.c_cfg.specs.GraphRuns.{grun}
use Rattle.c_cfg.specs.Graphs.{ControlGraph, has_choice}
use Rattle.c_cfg.specs.declared.graph.Edge.{Edge}
use Rattle.fix_core.specs.declared.nodes.Node.{Node}
use Rattle.fix_core.specs.Explorations.{IsHoused, IsCared, IsClosed}
use Rattle.fix_core.specs.Follows.{passed_by}

-- what holds of each edge of a location holds of those that begin there
pub each_out : (edges : List Edge) (location : ℕ) (P : Edge → Type 0)
    → ((c : ℕ) (e : Edge) → slice_get edges c ≡ Some e → e.from ≡ location → P e) → Every P (out_of edges location)
each_out [] location P f = tt
each_out (e ∷ es) location P f =
    here (nat_eq e.from location) refl (each_out es location P (λ c d is fr. f (suc c) d is fr))
  where
    here : (b : Bool) → nat_eq e.from location ≡ b → Every P (out_of es location)
        → Every P (if b then e ∷ out_of es location else out_of es location)
    here true is rest = (f 0 e refl (eqb-true e.from location is), rest)
    here false is rest = rest

supply_safe : (b : Bool) (cs : List ℕ) (step used : ℕ) (next : ℕ → List ℕ → ℕ → Outcome)
    → ((x : ℕ) (ds : List ℕ) (u : ℕ) → IsFault (next x ds u) → ⊥) → IsFault (supply b cs step used next) → ⊥
supply_safe false cs step used next f h = f 0 cs used h
supply_safe true [] step used next f h = h
supply_safe true (zero ∷ cs) step used next f h = f 0 cs (used + 1) h
supply_safe true (suc zero ∷ cs) step used next f h = f 1 cs (used + 1) h
supply_safe true (suc (suc n) ∷ cs) step used next f h = h

stop_safe : (es : List Edge) (step : ℕ) → IsFault (unless_left es step StillRunning) → ⊥
stop_safe [] step h = h
stop_safe (e ∷ es) step h = h

module _ (T : Boxes) (g : ControlGraph) (nodes : List Node) (closed : IsClosed T g nodes) where
  cared_at : (location : ℕ) (s : Store) → IsHoused T g nodes location s
      → Every (λ e. IsCared T g nodes e.to (passed_by T e s)) (out_of g.edges location)
  cared_at location s h = each_out g.edges location (λ e. IsCared T g nodes e.to (passed_by T e s))
      (λ c e is fr. closed.done h.at (slice_get_within nodes h.at h.node h.is) h.node h.is c e is (fr ∙ sym h.there) s
      h.member)

  -- at most n further edges
  abbrev go : ℕ → ℕ → ℕ → Store → List ℕ → ℕ → Outcome
  go n step k s cs used = ggo T.face.shapes.structs g.edges (at_location g.edges) n step k s cs used

  module _ (n : ℕ) (ih : (step to : ℕ) (t : Store) (ds : List ℕ) (u : ℕ) → IsHoused T g nodes to t
      → IsFault (go n step to t ds u) → ⊥) where
    pass_safe : (p : Pass) (to line step : ℕ) (next : ℕ → Store → Outcome) (others : Outcome)
        → ((k : ℕ) (t : Store) → IsHoused T g nodes k t → IsFault (next k t) → ⊥) → IsCared T g nodes to p
        → (IsFault others → ⊥)
        → IsFault (after_pass p line step (next to) others) → ⊥
    pass_safe (Passed t) to line step next others safe cared rest h = safe to t cared h
    pass_safe (Faulted f) to line step next others safe cared rest h = cared
    pass_safe Halted to line step next others safe cared rest h = h
    pass_safe NotPassed to line step next others safe cared rest h = rest h

    first_safe : (es : List Edge) (x step : ℕ) (s : Store) (next : ℕ → Store → Outcome)
        → ((k : ℕ) (t : Store) → IsHoused T g nodes k t → IsFault (next k t) → ⊥)
        → Every (λ e. IsCared T g nodes e.to (passed_by T e s)) es
        → IsFault (first_pass T.face.shapes.structs es x next step s) → ⊥
    first_safe [] x step s next safe cared h = h
    first_safe (e ∷ es) x step s next safe cared h =
        here (is_taken_on x e.choice) (first_safe es x step s next safe cared.1) h
      where
        here : (b : Bool) → (IsFault (first_pass T.face.shapes.structs es x next step s) → ⊥)
            → IsFault
            (if b then after_pass (passed_by T e s) e.line step (next e.to)
            (first_pass T.face.shapes.structs es x next step s)
            else first_pass T.face.shapes.structs es x next step s) → ⊥
        here true rest i = pass_safe (passed_by T e s) e.to e.line step next
            (first_pass T.face.shapes.structs es x next step s) safe cared.0 rest i
        here false rest i = rest i

    leave_safe : (es : List Edge) (step : ℕ) (s : Store) (cs : List ℕ) (used : ℕ)
        → Every (λ e. IsCared T g nodes e.to (passed_by T e s)) es
        → IsFault (leave T.face.shapes.structs es (λ st k t ds u. go n st k t ds u) step s cs used) → ⊥
    leave_safe [] step s cs used cared h = h
    leave_safe (e ∷ es) step s cs used cared h =
        supply_safe (has_choice e.choice) cs (step + 1) used
        (λ x ds u. first_pass T.face.shapes.structs (e ∷ es) x (λ k t. go n (step + 1) k t ds u) (step + 1) s)
        (λ x ds u. first_safe (e ∷ es) x (step + 1) s (λ k t. go n (step + 1) k t ds u) (λ k t. ih (step + 1) k t ds u)
        cared) h

  -- from a member of a node on
  go_safe : (n step location : ℕ) (s : Store) (cs : List ℕ) (used : ℕ) → IsHoused T g nodes location s
      → IsFault (go n step location s cs used) → ⊥
  go_safe zero step location s cs used h i = stop_safe (out_of g.edges location) step i
  go_safe (suc n) step location s cs used h i =
      leave_safe n (λ st to t ds u. go_safe n st to t ds u) (out_of g.edges location) step s cs used
      (cared_at location s h) i

  -- the stores with which a run begins are members of node 0
  begins_housed : IsHoused T g nodes 0 (empty_store g.ptrs g.datums)
  begins_housed = record {
    at = 0;
    node = closed.first.node;
    is = closed.first.is;
    there = closed.first.entry;
    member = (closed.first.members (empty_store g.ptrs g.datums)).1
        (record { vars = refl; data_vars = refl; cells = refl });
  }

  pub runs_safe : g.shapes ≡ T.face.shapes → (cs : List ℕ) (n : ℕ) → IsFault (grun g cs n) → ⊥
  unfolding grun
  runs_safe same cs n h = go_safe n 0 0 (empty_store g.ptrs g.datums) cs 0 begins_housed
      (subst
      (λ (z : Shapes). IsFault
      (ggo z.structs g.edges (at_location g.edges) n 0 0 (empty_store g.ptrs g.datums) cs 0)) same h)
