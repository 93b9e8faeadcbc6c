use Rattle.std.proofs.Common.{◌≡◌, ◌∙◌, ℕ, List, inl, ap, sym, subst, refl, true≢false}
use Rattle.fore_base.specs.Lists.{IsIn}
use Rattle.ta_core.specs.Auto.{Automaton}
use Rattle.fa_core.specs.declared.forest.Forest.{Forest}
use Rattle.fa_core.specs.Filled.{HasSome, IsSound}
use Rattle.fa_sound.specs.Components.{component_at, with_component}
use Rattle.fa_lift.specs.Lift.{owner}
use Rattle.fa_lift.proofs.LiftSound.{top_sound}
use Rattle.fa_lift.proofs.LiftedRoots.{top_is_lift}
use Rattle.fa_lift.proofs.lifting.with_top.Goals as goal
use Rattle.fa_lift.proofs.lifting.with_top.Goals.{then-has+in_ok-top+in_ok-with_component+in_ok-push, else-has}
use Rattle.fa_back.proofs.RootMarks.{has_in, in_has}

pub with_component-requires-clause-sound : goal.with_component-requires-clause-sound
with_component-requires-clause-sound c =
    let s = c.args.forest.now in
    let F = s.forest in
    let q = c.requires in
    let x = c.args.rule.now in
    let is : c.in_ok-top.top ≡ owner (component_at F.autos c.args.from) x c.args._place c.args._root =
    c.in_ok-top.ensures ∙ q.own in
    let roots : c.roots_of.result.now ≡ (component_at F.autos c.args.from).roots = c.roots_of.ensures
    ∙ ap (λ (b : Automaton). b.roots)
    (c.component.ensures ∙ ap (λ (G : Forest). component_at G.autos c.args.from) c.forest.ensures) in
    let i : IsIn x.state (component_at F.autos c.args.from).roots = subst (λ (qs : List ℕ). IsIn x.state qs) roots
    (has_in x.state c.roots_of.result.now (sym c.has.ensures ∙ c.if-has.true)) in
    subst (λ (b : Automaton). IsSound s.face (with_component F c.args.from b)) (sym is)
    (top_sound s.face F c.args._root c.args._field c.args.from c.known.ensures.ranked q.from c.known.ensures.sound x
    c.args._place q.owns i (subst (λ (b : Automaton). HasSome b) q.own q.some))

pub returns-clause-each : goal.returns-clause-each
returns-clause-each c =
    let s = c.args.forest.now in
    let F = s.forest in
    let q = c.requires in
    let x = c.args.rule.now in
    let roots : c.roots_of.result.now ≡ (component_at F.autos c.args.from).roots = c.roots_of.ensures
    ∙ ap (λ (b : Automaton). b.roots)
    (c.component.ensures ∙ ap (λ (G : Forest). component_at G.autos c.args.from) c.forest.ensures) in
    elim c.if-has.branch [
      | then-has+in_ok-top+in_ok-with_component+in_ok-push w ↦ rw (
        w.made-is,
        w.in_ok-push.ensures.ok,
        c.new-made.ensures,
      ) (
        (
          top_is_lift s.face.boxes F c.args._root c.args._field c.args.from c.known.ensures.ranked q.from x
              c.args._place q.owns
              (subst (λ (qs : List ℕ). IsIn x.state qs) roots
              (has_in x.state c.roots_of.result.now (sym c.has.ensures ∙ w.if-has.true)))
              w.in_ok-with_component.field-0.forest
              (w.in_ok-with_component.ensures.forest
              ∙ ap (with_component F c.args.from) (w.in_ok-top.ensures ∙ q.own)),
          w.in_ok-with_component.ensures.face,
        ),
        tt,
      )
      | else-has w ↦ rw (w.made-is, c.new-made.ensures) tt
    ]

pub returns-clause-top : goal.returns-clause-top
returns-clause-top c = λ i.
    let F = c.args.forest.now.forest in
    let q = c.requires in
    let x = c.args.rule.now in
    let roots : c.roots_of.result.now ≡ (component_at F.autos c.args.from).roots = c.roots_of.ensures
    ∙ ap (λ (b : Automaton). b.roots)
    (c.component.ensures ∙ ap (λ (G : Forest). component_at G.autos c.args.from) c.forest.ensures) in
    elim c.if-has.branch [
      | then-has+in_ok-top+in_ok-with_component+in_ok-push w ↦ rw (
        w.made-is,
        w.in_ok-push.ensures.ok,
        c.new-made.ensures,
      ) (
        w.in_ok-with_component.field-0,
        inl refl,
        w.in_ok-with_component.ensures.forest ∙ ap (with_component F c.args.from) (w.in_ok-top.ensures ∙ q.own),
      )
      | else-has w ↦ absurd
          (true≢false
          (sym (c.has.ensures ∙ in_has x.state c.roots_of.result.now
          (subst (λ (qs : List ℕ). IsIn x.state qs) (sym roots) i))
          ∙ w.if-has.false))
    ]
