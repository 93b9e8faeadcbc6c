use Rattle.std.proofs.Common.{◌↔◌, ℕ, length, sym, subst, ◌∙◌, true≢false, IsTrue}
use Rattle.fore_base.proofs.ListLemmas.{paired_long}
use Rattle.ta_core.specs.Language.{HasSameLanguage}
use Rattle.fa_join.specs.declared.comparing.Apart.TheVariants.{At}
use Rattle.fa_join.specs.inner.Apart.{IsApart}
use Rattle.fa_join.specs.inner.Differing.{LookAlike, SameTops}
use Rattle.fa_join.proofs.DecidedForests.{joinable_alike, nowhere_can, more_cannot}
use Rattle.fa_join.proofs.differing.compare.Goals as goal

pub returns-then-not-look_alike : goal.returns-then-not-look_alike
returns-then-not-look_alike c =
    let F = c.args.left.now.forest in
    let G = c.args.right.now.forest in
    let faces = c.args.left.now.face.boxes in
    let look : IsTrue c.look_alike.result ↔ LookAlike F G =
    rw (c.forest.ensures, c.forest-2.ensures) at c.look_alike.ensures in
    (λ h.
    true≢false
    (sym (look.1 (joinable_alike faces F G c.requires.left c.requires.right c.known.ensures.sound.full h))
    ∙ c.if-not-look_alike.true))

pub autos_apart-requires : goal.autos_apart-requires
autos_apart-requires c =
    let F = c.args.left.now.forest in
    let G = c.args.right.now.forest in
    let faces = c.args.left.now.face.boxes in
    let look : IsTrue c.look_alike.result ↔ LookAlike F G =
    rw (c.forest.ensures, c.forest-2.ensures) at c.look_alike.ensures in
    rw (c.as_slice-lefts.ensures, c.as_slice-rights.ensures, c.forest-3.ensures, c.forest-4.ensures)
    (paired_long SameTops F.autos G.autos (look.0 c.if-not-look_alike.false).tops)

pub differing_below-requires-clause-apart : goal.differing_below-requires-clause-apart
differing_below-requires-clause-apart c =
    let F = c.args.left.now.forest in
    let G = c.args.right.now.forest in
    let faces = c.args.left.now.face.boxes in
    let apart =
    rw (c.as_slice-lefts.ensures, c.as_slice-rights.ensures, c.forest-3.ensures, c.forest-4.ensures, c.in-At.is)
    at c.in_ok-autos_apart.ensures in
    subst (λ (n : ℕ). IsApart HasSameLanguage F.autos G.autos (length F.autos) (At n))
    (sym c.in_ok-root_of-in-At.ensures) apart

pub returns-in-Nowhere : goal.returns-in-Nowhere
returns-in-Nowhere c =
    let F = c.args.left.now.forest in
    let G = c.args.right.now.forest in
    let faces = c.args.left.now.face.boxes in
    let look : IsTrue c.look_alike.result ↔ LookAlike F G =
    rw (c.forest.ensures, c.forest-2.ensures) at c.look_alike.ensures in
    let apart =
    rw (
      c.as_slice-lefts.ensures,
      c.as_slice-rights.ensures,
      c.forest-3.ensures,
      c.forest-4.ensures,
      c.in-Nowhere.is,
    ) at c.in_ok-autos_apart.ensures in
    nowhere_can faces F G (look.0 c.if-not-look_alike.false) apart

pub returns-in-More : goal.returns-in-More
returns-in-More c =
    let F = c.args.left.now.forest in
    let G = c.args.right.now.forest in
    let faces = c.args.left.now.face.boxes in
    let apart =
    rw (
      c.as_slice-lefts.ensures,
      c.as_slice-rights.ensures,
      c.forest-3.ensures,
      c.forest-4.ensures,
      c.in-More.is,
    ) at c.in_ok-autos_apart.ensures in
    more_cannot faces F G apart
