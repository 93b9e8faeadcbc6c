use Rattle.std.proofs.Common.{◌≡◌, ◌++◌, ◌∷◌, [], List, subst}
use Rattle.fore_base.specs.Lists.{Every}
use Rattle.fore_base.proofs.ListLemmas.{every_parts, every_weaker}
use Rattle.fa_core.specs.Canonical.{IsCanonical}
use Rattle.fa_core.specs.Covering.{Reduced}
use Rattle.fa_sound.specs.Soundness.{SoundForest}
use Rattle.fa_sound.specs.Unions.{forests}
use Rattle.fa_join.specs.Joined.{IsJoined}
use Rattle.fa_join.specs.inner.Joining.{IsReady}
use Rattle.fa_join.proofs.JoinSteps.{all_ready, joining_first}
use Rattle.fa_join.proofs.Symmetric.{none_joinable}
use Rattle.fa_join.proofs.lists.join_all.Goals as goal

pub forests-init : goal.forests-init
forests-init g c =
    let face = c.args.face.now in
    let ready = all_ready face c.args.given c.requires.faces c.requires.canonical c.requires.reduced in
    rw c.new-done.ensures (joining_first face c.args.given ready)

pub settle-requires-clause-next : goal.settle-requires-clause-next
settle-requires-clause-next g c κs within =
    let face = c.args.face.now in
    let ready = subst (Every (IsReady face)) c.in-Some.ensures c.forests.invariant.todo_ready in
    (every_parts (IsReady face) c.pop.new.self (c.in-Some.next ∷ []) ready).1.0

pub returns-clause-joined : goal.returns-clause-joined
returns-clause-joined g c =
    let done = c.forests.done in
    let h = c.forests.invariant in
    (λ T. subst (λ (z : List SoundForest). IsJoined T (forests c.args.given) (forests z ++ forests done))
    c.in_default.ensures.0 (h.joined T))

pub returns-clause-apart : goal.returns-clause-apart
returns-clause-apart g c =
    let done = c.forests.done in
    let h = c.forests.invariant in
    none_joinable c.args.face.now.boxes done h.apart

pub returns-clause-canonical : goal.returns-clause-canonical
returns-clause-canonical g c =
    let done = c.forests.done in
    let h = c.forests.invariant in
    every_weaker (IsReady c.args.face.now) (λ (s : SoundForest). IsCanonical s.face s.forest) done (λ s r. r.canonical)
    h.done_ready

pub returns-clause-reduced : goal.returns-clause-reduced
returns-clause-reduced g c =
    let done = c.forests.done in
    let h = c.forests.invariant in
    every_weaker (IsReady c.args.face.now) (λ (s : SoundForest). Reduced s.forest) done (λ s r. r.reduced) h.done_ready

pub returns-clause-plain : goal.returns-clause-plain
returns-clause-plain g c = λ p. (c.forests.invariant.plain p).1

pub returns-clause-faces : goal.returns-clause-faces
returns-clause-faces g c =
    let done = c.forests.done in
    let h = c.forests.invariant in
    every_weaker (IsReady c.args.face.now) (λ (s : SoundForest). s.face ≡ c.args.face.now) done (λ s r. r.over)
    h.done_ready
