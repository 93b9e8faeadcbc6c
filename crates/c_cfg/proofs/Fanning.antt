-- The edges of a lowered program fan out from their locations, so a list of edges is read as a run.
use Rattle.std.proofs.Common.{◌≡◌, ℕ, ◌+◌, List, [], ◌∷◌, ◌++◌, Bool, true, false, if◌then◌else◌, inl, inr, refl, sym}
use Rattle.std.proofs.Common.{ap, ◌∙◌, subst, length, Option, Some, None, Result, Ok, Err}
use Rattle.fore_base.specs.declared.fault.Fault.{Fault as Kind}
use Rattle.fore_base.specs.declared.shape.Shape.{Shape}
use Rattle.fore_base.specs.declared.store.Store.{Store}
use Rattle.fore_base.specs.Lists.{IsIn, Every}
use Rattle.c_types.specs.declared.outcome.Outcome.{Outcome}
use Rattle.c_types.specs.declared.outcome.Outcome.TheVariants.{Fault, StillRunning}
use Rattle.c_types.specs.declared.program.Atom.TheVariants.{Ptr as PtrAtom}
use Rattle.c_types.specs.declared.program.Atom.TheVariants.{Data as DataAtom}
use Rattle.c_types.specs.declared.mode.MallocMode.{MallocMode}
use Rattle.c_types.specs.Program.{Program}
use Rattle.c_types.specs.Control.{Items, Done, Do, If, Enter, Leave, Exit, Ask}
use Rattle.c_types.specs.Runs.{supply}
use Rattle.c_cfg.specs.declared.graph.Instr.{Instr}
use Rattle.c_cfg.specs.declared.graph.Instr.TheVariants.{Choose}
use Rattle.c_cfg.specs.declared.graph.Edge.{Edge}
use Rattle.c_cfg.specs.Graphs.{ControlGraph, has_choice}
use Rattle.c_cfg.specs.Edges.{Pass, Passed, NotPassed, onto, if_agreed, leak_tested, gstep}
use Rattle.c_cfg.specs.GraphRuns.{out_of, is_taken_on, after_pass, leave}
use Rattle.c_cfg.specs.Links.{Link, One, Two}
use Rattle.c_cfg.specs.Places.{places}
use Rattle.c_cfg.specs.Lowering.{edge, link_edges, numbers, LowerOf}
use Rattle.c_cfg.specs.Fans.{AreOpposed, first_out, second_out, one_fault, choice_list, used_by, IsFan, no_edge}
use Rattle.c_cfg.specs.Fans.{one_edge, choices, test, GoesBy, AtMostOne}
use Rattle.c_cfg.proofs.Leaving.{PlaceGood, PlaceLeads, each_location}

-- The two edges of a test

opposed : (r : Result Bool Kind) (s : Store)
    → AreOpposed (leak_tested (onto r (λ same. if_agreed true same s)))
    (leak_tested (onto r (λ same. if_agreed false same s)))
opposed (Ok true) s = second_out refl
opposed (Ok false) s = first_out refl
opposed (Err kind) s = one_fault kind refl refl

module _ (shapes : List Shape) where
  -- whatever the locations and the line
  abbrev IsOpposed : (Bool → Instr) → Type 0
  IsOpposed t = (line k a b : ℕ) (s : Store)
      → AreOpposed (gstep shapes (edge line k a (t true) None) s) (gstep shapes (edge line k b (t false) None) s)

  link_fans : (line k to : ℕ) (l : Link) → Unit {0} → Unit {0} → IsFan shapes (link_edges line k to l)
  link_fans line k to (One i) g t = one_edge (edge line k to i None) refl
  link_fans line k to (Two i j) g t = choices (edge line k to i (Some 0)) (edge line k to j (Some 1)) refl refl refl

  test_fans : (line k a b : ℕ) (t : Bool → Instr) → IsOpposed t → Unit {0} → Unit {0}
      → IsFan shapes (edge line k a (t true) None ∷ edge line k b (t false) None ∷ [])
  test_fans line k a b t o x y =
      test (edge line k a (t true) None) (edge line k b (t false) None) refl refl refl (λ s. o line k a b s)

  choice_fans : (line k a b : ℕ) → Unit {0} → Unit {0}
      → IsFan shapes (edge line k a (Choose None) (Some 0) ∷ edge line k b (Choose None) (Some 1) ∷ [])
  choice_fans line k a b x y =
      choices (edge line k a (Choose None) (Some 0)) (edge line k b (Choose None) (Some 1)) refl refl refl

-- all is said of each item
pub every_true : {A : Type 0} (xs : List A) → Every (λ x. Unit {0}) xs
every_true [] = tt
every_true (x ∷ xs) = (tt, every_true xs)

module _ (p : Program) (mode : MallocMode) (g : ControlGraph) (low : LowerOf p mode g) where
  abbrev shapes : List Shape
  shapes = g.shapes.structs

  abbrev Good : Items → Type 0
  Good = PlaceGood (length p.vars) (length p.data_vars) (λ l. Unit {0}) (IsOpposed shapes) mode

  good : (c : Items) → Good c
  good (Do a m is) = every_true _
  good (If (Ask (PtrAtom l r e) m) x y is) = (every_true _, (λ line k a b s. opposed _ s), every_true _)
  good (If (Ask (DataAtom l r e) m) x y is) = (every_true _, (λ line k a b s. opposed _ s), every_true _)
  good (Enter vs ws m is) = every_true _
  good (Leave v vs a m is) = every_true _
  good (Exit v vs d m is) = every_true _
  good _ = tt

  pub leads : (c : Items) → PlaceLeads (λ k. Unit {0}) low.at c
  leads (If (Ask a m) x y is) = (tt, tt)
  leads _ = tt

  every_of : (Q : Items → Type 0) → ((c : Items) → Q c) → (cs : List Items) → Every Q cs
  every_of Q q [] = tt
  every_of Q q (c ∷ cs) = (q c, every_of Q q cs)

  pub fans : (k : ℕ) → IsFan shapes (out_of g.edges k)
  fans =
      each_location p mode g low (IsFan shapes) (λ k. Unit {0}) (λ l. Unit {0}) (IsOpposed shapes) (link_fans shapes)
      (test_fans shapes) (choice_fans shapes) no_edge
      (every_of Good good (places low.items Done))
      (every_of (PlaceLeads (λ k. Unit {0}) low.at) leads (places low.items Done))
      (every_true (numbers low.at low.mids (places low.items Done)))

-- Reading edges as a run

-- where an edge goes somewhere, the other edges have no bearing
decided : (p : Pass) (line step : ℕ) (next : Store → Outcome) (o others : Outcome) → (p ≡ NotPassed → ⊥)
    → after_pass p line step next o ≡ after_pass p line step next others
decided NotPassed line step next o others d = absurd (d refl)
decided _ line step next o others d = refl

module _ (shapes : List Shape) (s : Store) where
  by_one : (d : Edge) → d.choice ≡ None → GoesBy shapes (d ∷ []) d s
  by_one d none h next step cs used = rw none refl

  -- two edges with choices: the one of the choice that comes next is taken
  abbrev Asked : (o u w : Option ℕ) (p q : Pass) (line other step used : ℕ) (cs : List ℕ)
      (go goes_other : List ℕ → ℕ → Store → Outcome) → Outcome
  Asked o u w p q line other step used cs go goes_other =
      supply (has_choice o) (choice_list w ++ cs) (step + 1) used (λ x ds v.
      if is_taken_on x o then after_pass p line (step + 1) (go ds v)
      (if is_taken_on x u then after_pass q other (step + 1) (goes_other ds v) StillRunning else StillRunning)
      else (if is_taken_on x u then after_pass q other (step + 1) (goes_other ds v) StillRunning else StillRunning))

  on_zero : (o u : Option ℕ) (p q : Pass) (line other step used : ℕ) (cs : List ℕ)
      (go goes_other : List ℕ → ℕ → Store → Outcome) → Some 0 ≡ o → Some 1 ≡ u
      → Asked o u o p q line other step used cs go goes_other
      ≡ after_pass p line (step + 1) (go cs (used_by o used)) StillRunning
  on_zero o u p q line other step used cs go goes_other h i =
      subst (λ z. Asked o z o p q line other step used cs go goes_other
      ≡ after_pass p line (step + 1) (go cs (used_by o used)) StillRunning) i
      (subst (λ z. Asked z (Some 1) z p q line other step used cs go goes_other
      ≡ after_pass p line (step + 1) (go cs (used_by z used)) StillRunning) h refl)

  on_one : (o u : Option ℕ) (p q : Pass) (line other step used : ℕ) (cs : List ℕ)
      (go goes_other : List ℕ → ℕ → Store → Outcome) → Some 0 ≡ o → Some 1 ≡ u
      → Asked o u u p q line other step used cs go goes_other
      ≡ after_pass q other (step + 1) (goes_other cs (used_by u used)) StillRunning
  on_one o u p q line other step used cs go goes_other h i =
      subst (λ z. Asked o z z p q line other step used cs go goes_other
      ≡ after_pass q other (step + 1) (goes_other cs (used_by z used)) StillRunning) i
      (subst (λ z. Asked z (Some 1) (Some 1) p q line other step used cs go goes_other
      ≡ after_pass q other (step + 1) (goes_other cs (used_by (Some 1) used)) StillRunning) h refl)

  by_zero : (d f : Edge) → d.choice ≡ Some 0 → f.choice ≡ Some 1 → GoesBy shapes (d ∷ f ∷ []) d s
  by_zero d f zero_is one_is h next step cs used =
      on_zero d.choice f.choice (gstep shapes d s) (gstep shapes f s) d.line f.line step used cs
      (λ ds v t. next (step + 1) d.to t ds v) (λ ds v t. next (step + 1) f.to t ds v) (sym zero_is) (sym one_is)

  by_other : (d f : Edge) → d.choice ≡ Some 0 → f.choice ≡ Some 1 → GoesBy shapes (d ∷ f ∷ []) f s
  by_other d f zero_is one_is h next step cs used =
      on_one d.choice f.choice (gstep shapes d s) (gstep shapes f s) d.line f.line step used cs
      (λ ds v t. next (step + 1) d.to t ds v) (λ ds v t. next (step + 1) f.to t ds v) (sym zero_is) (sym one_is)

  -- two edges without a choice: the first one is asked first
  both : (o u : Option ℕ) (p q : Pass) (line other step used : ℕ) (cs : List ℕ)
      (go goes_other : List ℕ → ℕ → Store → Outcome) → o ≡ None → u ≡ None
      → supply (has_choice o) (choice_list o ++ cs) (step + 1) used (λ x ds v.
      if is_taken_on x o then after_pass p line (step + 1) (go ds v)
      (if is_taken_on x u then after_pass q other (step + 1) (goes_other ds v) StillRunning else StillRunning)
      else (if is_taken_on x u then after_pass q other (step + 1) (goes_other ds v) StillRunning else StillRunning))
      ≡ after_pass p line (step + 1) (go cs used) (after_pass q other (step + 1) (goes_other cs used) StillRunning)
  both None None p q line other step used cs go goes_other h i = refl
  both None (Some y) p q line other step used cs go goes_other h i = cc
  both (Some x) u p q line other step used cs go goes_other h i = cc

  by_first : (d f : Edge) → d.choice ≡ None → f.choice ≡ None → GoesBy shapes (d ∷ f ∷ []) d s
  by_first d f none also h next step cs used =
      both d.choice f.choice (gstep shapes d s) (gstep shapes f s) d.line f.line step used cs
      (λ ds v t. next (step + 1) d.to t ds v) (λ ds v t. next (step + 1) f.to t ds v) none also
      ∙ decided (gstep shapes d s) d.line (step + 1) (λ t. next (step + 1) d.to t cs used)
      (after_pass (gstep shapes f s) f.line (step + 1) (λ t. next (step + 1) f.to t cs used) StillRunning)
      StillRunning h
      ∙ ap
      (λ z. after_pass (gstep shapes d s) d.line (step + 1) (λ t. next (step + 1) d.to t cs (used_by z used))
      StillRunning) (sym none)

  by_second : (d f : Edge) → d.choice ≡ None → f.choice ≡ None → d.line ≡ f.line
      → AreOpposed (gstep shapes d s) (gstep shapes f s) → GoesBy shapes (d ∷ f ∷ []) f s
  by_second d f none also line are h next step cs used =
      ap (λ z. leave shapes (d ∷ f ∷ []) next step s (choice_list z ++ cs) used) (also ∙ sym none)
      ∙ both d.choice f.choice (gstep shapes d s) (gstep shapes f s) d.line f.line step used cs
      (λ ds v t. next (step + 1) d.to t ds v) (λ ds v t. next (step + 1) f.to t ds v) none also
      ∙ either are
      ∙ ap
      (λ z. after_pass (gstep shapes f s) f.line (step + 1) (λ t. next (step + 1) f.to t cs (used_by z used))
      StillRunning) (sym also)
    where
      either : AreOpposed (gstep shapes d s) (gstep shapes f s)
          → after_pass (gstep shapes d s) d.line (step + 1) (λ t. next (step + 1) d.to t cs used)
          (after_pass (gstep shapes f s) f.line (step + 1) (λ t. next (step + 1) f.to t cs used) StillRunning)
          ≡ after_pass (gstep shapes f s) f.line (step + 1) (λ t. next (step + 1) f.to t cs used) StillRunning
      either (first_out p) = ap
          (λ z. after_pass z d.line (step + 1) (λ t. next (step + 1) d.to t cs used)
          (after_pass (gstep shapes f s) f.line (step + 1) (λ t. next (step + 1) f.to t cs used) StillRunning)) p
      either (second_out q) = absurd (h q)
      either (one_fault k p q) =
          ap
          (λ z. after_pass z d.line (step + 1) (λ t. next (step + 1) d.to t cs used)
          (after_pass (gstep shapes f s) f.line (step + 1) (λ t. next (step + 1) f.to t cs used) StillRunning)) p
          ∙ ap (λ z. Fault k z (step + 1)) line
          ∙ sym (ap (λ z. after_pass z f.line (step + 1) (λ t. next (step + 1) f.to t cs used) StillRunning) q)

  pub goes_by : (es : List Edge) (e : Edge) → IsFan shapes es → IsIn e es → GoesBy shapes es e s
  goes_by [] e fan h = absurd h
  goes_by (d ∷ []) e (one_edge d' none) (inl same) = subst (λ z. GoesBy shapes (d ∷ []) z s) (sym same) (by_one d none)
  goes_by (d ∷ []) e (one_edge d' none) (inr h) = absurd h
  goes_by (d ∷ f ∷ []) e (choices d' f' zero_is one_is line) (inl same) =
      subst (λ z. GoesBy shapes (d ∷ f ∷ []) z s) (sym same) (by_zero d f zero_is one_is)
  goes_by (d ∷ f ∷ []) e (choices d' f' zero_is one_is line) (inr (inl same)) =
      subst (λ z. GoesBy shapes (d ∷ f ∷ []) z s) (sym same) (by_other d f zero_is one_is)
  goes_by (d ∷ f ∷ []) e (choices d' f' zero_is one_is line) (inr (inr h)) = absurd h
  goes_by (d ∷ f ∷ []) e (test d' f' none also line are) (inl same) =
      subst (λ z. GoesBy shapes (d ∷ f ∷ []) z s) (sym same) (by_first d f none also)
  goes_by (d ∷ f ∷ []) e (test d' f' none also line are) (inr (inl same)) =
      subst (λ z. GoesBy shapes (d ∷ f ∷ []) z s) (sym same) (by_second d f none also line (are s))
  goes_by (d ∷ f ∷ []) e (test d' f' none also line are) (inr (inr h)) = absurd h
  goes_by (d ∷ f ∷ x ∷ es) e fan h = elim fan [ ]

-- At most one edge is passed

module _ (shapes : List Shape) where
  -- of opposed edges not both
  not_both : (p q : Pass) (t u : Store) → AreOpposed p q → p ≡ Passed t → q ≡ Passed u → ⊥
  not_both p q t u (first_out e) x y = cc
  not_both p q t u (second_out e) x y = cc
  not_both p q t u (one_fault k e f) x y = cc

  pub one_passed : (es : List Edge) → IsFan shapes es → AtMostOne shapes es
  one_passed [] fan e f s i j c x y = absurd i
  one_passed (d ∷ []) fan e f s (inl i) (inl j) c x y = i ∙ sym j
  one_passed (d ∷ []) fan e f s (inl i) (inr j) c x y = absurd j
  one_passed (d ∷ []) fan e f s (inr i) j c x y = absurd i
  one_passed (d ∷ b ∷ []) fan e f s (inl i) (inl j) c x y = i ∙ sym j
  one_passed (d ∷ b ∷ []) fan e f s (inr (inl i)) (inr (inl j)) c x y = i ∙ sym j
  one_passed (d ∷ b ∷ []) (choices d' b' zero one line) e f s (inl i) (inr (inl j)) c x y =
      absurd (differ (sym zero ∙ ap (λ z. z.choice) (sym i) ∙ c ∙ ap (λ z. z.choice) j ∙ one))
    where
      differ : ◌≡◌ {A = Option ℕ} (Some 0) (Some 1) → ⊥
      differ h = cc
  one_passed (d ∷ b ∷ []) (choices d' b' zero one line) e f s (inr (inl i)) (inl j) c x y =
      absurd (differ (sym zero ∙ ap (λ z. z.choice) (sym j) ∙ sym c ∙ ap (λ z. z.choice) i ∙ one))
    where
      differ : ◌≡◌ {A = Option ℕ} (Some 0) (Some 1) → ⊥
      differ h = cc
  one_passed (d ∷ b ∷ []) (test d' b' none also line are) e f s (inl i) (inr (inl j)) c x y =
      absurd
      (not_both (gstep shapes d s) (gstep shapes b s) x.0 y.0 (are s) (ap (λ z. gstep shapes z s) (sym i) ∙ x.1)
      (ap (λ z. gstep shapes z s) (sym j) ∙ y.1))
  one_passed (d ∷ b ∷ []) (test d' b' none also line are) e f s (inr (inl i)) (inl j) c x y =
      absurd
      (not_both (gstep shapes d s) (gstep shapes b s) y.0 x.0 (are s) (ap (λ z. gstep shapes z s) (sym j) ∙ y.1)
      (ap (λ z. gstep shapes z s) (sym i) ∙ x.1))
  one_passed (d ∷ b ∷ []) fan e f s (inr (inr i)) j c x y = absurd i
  one_passed (d ∷ b ∷ []) fan e f s (inl i) (inr (inr j)) c x y = absurd j
  one_passed (d ∷ b ∷ []) fan e f s (inr (inl i)) (inr (inr j)) c x y = absurd j
  one_passed (d ∷ b ∷ x ∷ es) fan e f s i j c z y = elim fan [ ]
