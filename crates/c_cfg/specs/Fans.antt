-- The edges that leave one location: none, one without a choice, two for the choices 0 and 1, or the two of a test. So
-- a list of edges can be read as a run: where an edge goes somewhere, no other edge of its location goes elsewhere on
-- its choice.
use Rattle.std.specs.Prelude.{◌≡◌, ℕ, ◌+◌, List, [], ◌∷◌, ◌++◌, Option, Some, None}
use Rattle.fore_base.specs.declared.fault.Fault.{Fault as Kind}
use Rattle.fore_base.specs.declared.shape.Shape.{Shape}
use Rattle.fore_base.specs.declared.store.Store.{Store}
use Rattle.fore_base.specs.Lists.{IsIn}
use Rattle.c_types.specs.declared.outcome.Outcome.{Outcome}
use Rattle.c_types.specs.declared.outcome.Outcome.TheVariants.{StillRunning}
use Rattle.c_cfg.specs.declared.graph.Edge.{Edge}
use Rattle.c_cfg.specs.Edges.{Pass, Passed, Faulted, NotPassed, gstep}
use Rattle.c_cfg.specs.GraphRuns.{after_pass, leave}

-- of the two edges of a test one is not passed, or both meet one fault
pub data AreOpposed (p q : Pass) : Type 0 where
  first_out : p ≡ NotPassed → AreOpposed p q
  second_out : q ≡ NotPassed → AreOpposed p q
  one_fault : (kind : Kind) → p ≡ Faulted kind → q ≡ Faulted kind → AreOpposed p q

-- the choice of an edge, as a list
abbrev pub choice_list : Option ℕ → List ℕ
choice_list None = []
choice_list (Some x) = x ∷ []

-- how many choices were used after an edge with this choice
abbrev pub used_by : Option ℕ → ℕ → ℕ
used_by None used = used
used_by (Some x) used = used + 1

module _ (shapes : List Shape) where
  -- the edges from one location
  pub data IsFan : List Edge → Type 0 where
    no_edge : IsFan []
    one_edge : (e : Edge) → e.choice ≡ None → IsFan (e ∷ [])
    choices : (e f : Edge) → e.choice ≡ Some 0 → f.choice ≡ Some 1 → e.line ≡ f.line → IsFan (e ∷ f ∷ [])
    test : (e f : Edge) → e.choice ≡ None → f.choice ≡ None → e.line ≡ f.line
        → ((s : Store) → AreOpposed (gstep shapes e s) (gstep shapes f s))
        → IsFan (e ∷ f ∷ [])

  -- Where e goes somewhere from s, a run that comes to these edges with e's choice before others goes by e: to e's end,
  -- into e's fault, or to its end.
  abbrev pub GoesBy : List Edge → Edge → Store → Type 0
  GoesBy es e s =
      (gstep shapes e s ≡ NotPassed → ⊥)
      → (next : ℕ → ℕ → Store → List ℕ → ℕ → Outcome) (step : ℕ) (cs : List ℕ) (used : ℕ)
      → leave shapes es next step s (choice_list e.choice ++ cs) used
      ≡ after_pass (gstep shapes e s) e.line (step + 1) (λ t. next (step + 1) e.to t cs (used_by e.choice used))
      StillRunning

  abbrev pub IsPassed : Edge → Store → Type 0
  IsPassed e s = (t : Store) × (gstep shapes e s ≡ Passed t)

  -- of these edges at most one of each choice is passed
  abbrev pub AtMostOne : List Edge → Type 0
  AtMostOne es = (e f : Edge) (s : Store) → IsIn e es → IsIn f es → e.choice ≡ f.choice → IsPassed e s → IsPassed f s
      → e ≡ f
