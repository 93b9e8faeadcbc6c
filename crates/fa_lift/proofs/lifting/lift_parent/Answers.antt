use Rattle.std.proofs.Common.{◌≡◌}
use Rattle.fore_base.proofs.ListLemmas.{every_weaker}
use Rattle.fa_core.specs.Filled.{HasSignatures}
use Rattle.fa_core.specs.Member.{Regroups}
use Rattle.fa_merge.proofs.PlacedForests.{component_has}
use Rattle.fa_sound.specs.Components.{component_at}
use Rattle.fa_sound.specs.Unions.{forests}
use Rattle.fa_split.specs.Divided.{HasVarsOf}
use Rattle.fa_split.proofs.SplitCells.{refers_well}
use Rattle.fa_split.proofs.Unions.{union_of}
use Rattle.fa_lift.specs.Lift.{IsLiftOf, lift_in, lift_top}
use Rattle.fa_lift.specs.inner.Lifting.{IsLift}
use Rattle.fa_lift.proofs.LiftLists.{among_forests, each_forest, lift_regroups, lift_vars}
use Rattle.fa_lift.proofs.LiftProvides.{all_edged}
use Rattle.fa_lift.proofs.LiftedForests.{lift_whole}
use Rattle.fa_lift.proofs.lifting.lift_parent.Goals as goal

pub lift_from-requires : goal.lift_from-requires
lift_from-requires c = c.in_ok-from.ensures.there

pub returns-clause-lifted : goal.returns-clause-lifted
returns-clause-lifted c =
    let s = c.args.forest.now in
    let t = c.in_ok-from.from in
    let made = c.in_ok-made.made in (
      t,
      c.in_ok-from.ensures,
      each_forest (IsLiftOf s.face.boxes s.forest c.args.root c.args.field t) made
          (every_weaker (IsLift s.face s.forest c.args.root c.args.field t)
          (λ z. IsLiftOf s.face.boxes s.forest c.args.root c.args.field t z.forest) made (λ z h. h.0)
          c.in_ok-made.ensures.each),
    )

pub returns-clause-face : goal.returns-clause-face
returns-clause-face c =
    let s = c.args.forest.now in
    every_weaker (IsLift s.face s.forest c.args.root c.args.field c.in_ok-from.from) (λ z. z.face ≡ s.face)
    c.in_ok-made.made (λ z h. h.1) c.in_ok-made.ensures.each

pub returns-clause-vars : goal.returns-clause-vars
returns-clause-vars c =
    let s = c.args.forest.now in
    let t = c.in_ok-from.from in
    let made = c.in_ok-made.made in
    each_forest (HasVarsOf s.forest) made
    (every_weaker (IsLift s.face s.forest c.args.root c.args.field t) (λ z. HasVarsOf s.forest z.forest) made
    (λ z h. lift_vars s.face.boxes s.forest c.args.root c.args.field t z.forest h.0) c.in_ok-made.ensures.each)

pub returns-clause-regroups : goal.returns-clause-regroups
returns-clause-regroups c = λ T.
    let s = c.args.forest.now in
    let t = c.in_ok-from.from in
    let made = c.in_ok-made.made in
    let k = c.known.ensures in
    each_forest (Regroups T s.forest) made
    (every_weaker (IsLift s.face s.forest c.args.root c.args.field t) (λ z. Regroups T s.forest z.forest) made
    (λ z h. lift_regroups s.face.boxes s.forest c.args.root c.args.field t k.ranked c.in_ok-from.ensures.there
    (refers_well s.face s.forest k.sound) T z.forest h.0) c.in_ok-made.ensures.each)

pub returns-clause-whole : goal.returns-clause-whole
returns-clause-whole c = λ T.
    let s = c.args.forest.now in
    let F = s.forest in
    let r = c.args.root in
    let f = c.args.field in
    let t = c.in_ok-from.from in
    let from = c.in_ok-from.ensures in
    let made = c.in_ok-made.made in
    let all = c.in_ok-made.ensures.all in
    let k = c.known.ensures in
    lift_whole s.face.boxes F r f t k.ranked from.there (refers_well s.face F k.sound) T
    (all_edged s.face.boxes r f (component_at F.autos t)
    (component_has (HasSignatures s.face.boxes) F.autos t k.sound.well_formed.signatures from.there) from.provides)
    (forests made)
    (record {
      tops = λ x p own i u l. among_forests made (lift_top F r t x p) ((all x p own).tops i u l);
      insides = λ x p own u v l m. (let g = (all x p own).insides u v l m in
          (g.0, g.1, among_forests made (lift_in F r t x p g.0) g.2));
    })

pub returns-clause-members : goal.returns-clause-members
returns-clause-members c =
    union_of c.args.forest.now.forest (forests c.in_ok-made.made) (returns-clause-regroups c) (returns-clause-whole c)
