use Rattle.std.proofs.Common.{ℕ, Option, MatchOption, sym, subst}
use Rattle.fore_base.specs.Lists.{Every}
use Rattle.fa_core.specs.Faces.{IsGiving}
use Rattle.fa_core.specs.declared.faces.Face.{Face}
use Rattle.fa_merge.specs.Reached.{AlwaysLeaks, AreAllReached, IsLeastUnreached, NeverLeaks}
use Rattle.fa_split.specs.Divided.{forests}
use Rattle.sym_step.proofs.SettledForests.{settled_goes, each_next_on}
use Rattle.sym_step.proofs.Stepping.{all_leak, all_go}
use Rattle.sym_step.proofs.settling.settle_edited.Goals as goal

pub bad_alone-requires : goal.bad_alone-requires
bad_alone-requires g c =
    let s = c.args.forest.now in
    let R = c.args.raw.now in
    let leaks : AlwaysLeaks R.face R.forest =
    subst (λ (o : Option ℕ). MatchOption o (NeverLeaks R.face R.forest) (λ x. AlwaysLeaks R.face R.forest)) c.in-Some.is
    c.in_ok-leaking.ensures.leaks in
    record {
      met = all_leak s.face c.args.edge.now s.forest R.forest c.requires.carries
          (subst (λ (face : Face). AlwaysLeaks face R.forest) c.requires.like.face leaks);
    }

pub normal_forms-requires-clause-gives : goal.normal_forms-requires-clause-gives
normal_forms-requires-clause-gives g c = λ ls w.
    subst (λ (face : Face). Every IsGiving face.boxes) (sym c.requires.like.face) c.requires.gives

pub normal_forms-requires-clause-reached : goal.normal_forms-requires-clause-reached
normal_forms-requires-clause-reached g c = λ ls w.
    let R = c.args.raw.now in
    subst
    (λ (o : Option ℕ). MatchOption o (AreAllReached R.face R.forest) (IsLeastUnreached R.face R.forest)) c.in-None.is
    c.in_ok-leaking.ensures.root

pub returns-in_ok-next-in-None-clause-settles : goal.returns-in_ok-next-in-None-clause-settles
returns-in_ok-next-in-None-clause-settles g c =
    let s = c.args.forest.now in
    let R = c.args.raw.now in
    let made = c.in_ok-next-in-None.next in
    let tight : NeverLeaks R.face R.forest =
    subst (λ (o : Option ℕ). MatchOption o (NeverLeaks R.face R.forest) (λ x. AlwaysLeaks R.face R.forest)) c.in-None.is
    c.in_ok-leaking.ensures.leaks in
    rw c.new.ensures
    (settled_goes s c.args.edge.now made
    (all_go s.face c.args.edge.now s.forest R.forest c.requires.carries
    (subst (λ (face : Face). NeverLeaks face R.forest) c.requires.like.face tight) (forests made)
    c.in_ok-next-in-None.ensures.whole c.in_ok-next-in-None.ensures.regroups)
    (each_next_on s c.args.edge.now R c.requires.like made c.in_ok-next-in-None.ensures.next))
