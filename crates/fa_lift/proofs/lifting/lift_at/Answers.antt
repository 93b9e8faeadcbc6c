use Rattle.std.proofs.Common.{◌≡◌, ◌∙◌, ap, sym, subst}
use Rattle.ta_core.specs.Auto.{Automaton}
use Rattle.ta_core.specs.Language.{InLanguage}
use Rattle.fa_core.specs.declared.forest.Forest.{Forest}
use Rattle.fa_sound.specs.Components.{component_at}
use Rattle.fa_lift.specs.Lift.{owner, lift_top, lift_in}
use Rattle.fa_lift.proofs.LiftLists.{among_left, among_right}
use Rattle.fa_lift.proofs.lifting.lift_at.Goals as goal

pub returns-then-branch-clause-all : goal.returns-then-branch-clause-all
returns-then-branch-clause-all c =
    let F = c.args.forest.now.forest in
    let is : c.in_ok-own.own ≡ owner (component_at F.autos c.args.from) c.args.rule.now c.args.place c.args.root =
    c.in_ok-own.ensures
    ∙ ap (λ (b : Automaton). owner b c.args.rule.now c.args.place c.args.root)
    (c.component.ensures ∙ ap (λ (G : Forest). component_at G.autos c.args.from) c.forest.ensures) in
    let none = c.in_ok-is_empty.ensures.empty.0 c.if-branch.true in
    record {
      tops = λ i u l. absurd (none u (subst (λ (b : Automaton). InLanguage b u) (sym is) l));
      insides = λ u k l m. absurd (none u (subst (λ (b : Automaton). InLanguage b u) (sym is) l));
    }

pub returns-clause-all : goal.returns-clause-all
returns-clause-all c =
    let F = c.args.forest.now.forest in
    let r = c.args.root in
    let t = c.args.from in
    let x = c.args.rule.now in
    let xs = c.in_ok-made.made in
    let ys = c.in_ok-more.more in
    rw c.in_ok-append.ensures.ok
    (record {
      tops = λ i u l. among_left xs ys (lift_top F r t x c.args.place) (c.in_ok-made.ensures.top i);
      insides = λ u k l m. (let g = c.in_ok-more.ensures.all k m in
          (g.0, g.1, among_right xs ys (lift_in F r t x c.args.place g.0) g.2));
    })
