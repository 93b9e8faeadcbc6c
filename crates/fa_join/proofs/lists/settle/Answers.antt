use Rattle.std.proofs.Common.{◌++◌, ◌∷◌, [], length, List, ap, sym, subst, length-append, arith}
use Rattle.std.proofs.lemmas.Result.{on_ok_weaker}
use Rattle.fore_base.proofs.ListLemmas.{every_in, in_from_place}
use Rattle.fore_base.specs.Lists.{Every}
use Rattle.fa_core.specs.Faces.{IsGiving}
use Rattle.fa_core.specs.declared.faces.Face.{Face}
use Rattle.fa_sound.specs.Soundness.{SoundForest}
use Rattle.fa_join.specs.inner.Differing.{CanJoin}
use Rattle.fa_join.specs.inner.Joining.{IsReady, IsJoining}
use Rattle.fa_join.proofs.JoinSteps.{joining_push, joining_join, own_face, partner_joins, without_long}
use Rattle.fa_join.proofs.lists.settle.Goals as goal

pub join-requires-clause-left : goal.join-requires-clause-left
join-requires-clause-left g c κs within =
    let face = c.args.face.now in
    let done = c.args.done.now in
    let other = c.remove-other.result in
    let ready = every_in (IsReady face) done other c.requires.done
    (in_from_place done c.in-Some.found.place other c.remove-other.ensures.item) in
    own_face face other other ready ready

pub join-requires-clause-right : goal.join-requires-clause-right
join-requires-clause-right g c κs within =
    let face = c.args.face.now in
    let done = c.args.done.now in
    let next = c.args.next in
    let other = c.remove-other.result in
    let ready = every_in (IsReady face) done other c.requires.done
    (in_from_place done c.in-Some.found.place other c.remove-other.ensures.item) in
    own_face face other next ready c.requires.next

pub join-requires-clause-can : goal.join-requires-clause-can
join-requires-clause-can g c κs within =
    let face = c.args.face.now in
    let done = c.args.done.now in
    let next = c.args.next in
    let other = c.remove-other.result in
    let ready = every_in (IsReady face) done other c.requires.done
    (in_from_place done c.in-Some.found.place other c.remove-other.ensures.item) in
    let found = c.in-Some.found in
    let partner = rw (c.as_slice.ensures, c.in-Some.is) at c.in_ok-first_partner.ensures in
    let can = partner_joins face.boxes done next.forest found other partner c.remove-other.ensures.item in
    subst (λ (f : Face). CanJoin f.boxes other.forest next.forest found.differing) (sym ready.over) can

pub join-requires-clause-gives : goal.join-requires-clause-gives
join-requires-clause-gives g c κs within =
    let face = c.args.face.now in
    let done = c.args.done.now in
    let other = c.remove-other.result in
    let ready = every_in (IsReady face) done other c.requires.done
    (in_from_place done c.in-Some.found.place other c.remove-other.ensures.item) in
    subst (λ (f : Face). Every IsGiving f.boxes) (sym ready.over) c.requires.gives

pub returns-in-None-clause-joining : goal.returns-in-None-clause-joining
returns-in-None-clause-joining g c =
    let face = c.args.face.now in
    let todo = c.args.todo.now in
    let done = c.args.done.now in
    let next = c.args.next in
    let none = rw (c.as_slice.ensures, c.in-None.is) at c.in_ok-first_partner.ensures in
    on_ok_weaker c.push.result
    (λ e given h. subst (λ (z : List SoundForest). IsJoining face given todo z) (sym e)
    (joining_push face given todo done next none h))
    c.push.ensures.ok

pub returns-in_ok-made-in-Some-clause-joining : goal.returns-in_ok-made-in-Some-clause-joining
returns-in_ok-made-in-Some-clause-joining g c =
    let face = c.args.face.now in
    let todo = c.args.todo.now in
    let done = c.args.done.now in
    let next = c.args.next in
    let other = c.remove-other.result in
    let ready = every_in (IsReady face) done other c.requires.done
    (in_from_place done c.in-Some.found.place other c.remove-other.ensures.item) in
    let made = c.in_ok-made-in-Some.made in
    let made_ready = subst (λ (f : Face). IsReady f made) ready.over c.in_ok-made-in-Some.ensures.ready in
    on_ok_weaker c.push-in-Some.result
    (λ e given h. subst (λ (z : List SoundForest). IsJoining face given z c.remove-other.new.self) (sym e)
    (subst (λ (z : List SoundForest). IsJoining face given (todo ++ made ∷ []) z) (sym c.remove-other.ensures.rest)
    (joining_join face given todo done next other made c.in-Some.found.place c.remove-other.ensures.item made_ready
    c.in_ok-made-in-Some.ensures.plain c.in_ok-made-in-Some.ensures.joins h)))
    c.push-in-Some.ensures.ok

pub returns-in_ok-made-in-Some-clause-fewer : goal.returns-in_ok-made-in-Some-clause-fewer
returns-in_ok-made-in-Some-clause-fewer g c =
    let todo = c.args.todo.now in
    let done = c.args.done.now in
    let made = c.in_ok-made-in-Some.made in
    let rest = ap (λ (z : List SoundForest). length z) c.remove-other.ensures.rest in
    let less = without_long done c.in-Some.found.place c.remove-other.result c.remove-other.ensures.item in
    let long = length-append todo (made ∷ []) in
    on_ok_weaker c.push-in-Some.result
    (λ e. (let more = ap (λ (z : List SoundForest). length z) e in omega (arith, rest, less, long, more)))
    c.push-in-Some.ensures.ok
