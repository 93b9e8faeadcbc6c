use Rattle.std.proofs.Common.{◌∙◌, sym, true≢false}
use Rattle.fa_part.proofs.OuterRefs.{from_below}
use Rattle.fa_part.proofs.PartRoots.{are_inner, each_free, free_vars, not_alone, not_free}
use Rattle.fa_part.proofs.finding.lone_roots.Goals as goal

pub inner_roots-requires : goal.inner_roots-requires
inner_roots-requires c =
    rw c.as_slice.ensures
    (from_below c.args.forest.now.face c.args.forest.now.forest c.known.ensures.sound c.args.ports.now c.requires
    c.in_ok-from.from c.in_ok-from.ensures)

pub returns-then-not-has_no_variable : goal.returns-then-not-has_no_variable
returns-then-not-has_no_variable c =
    let F = c.args.forest.now.forest in
    let inner = c.in_ok-inner.inner in
    let order = rw (c.in_ok-roots.ensures, c.as_slice.ensures) at c.in_ok-inner.ensures in
    let free = rw (c.as_slice-2.ensures, c.forest.ensures, c.as_slice-3.ensures) at c.has_no_variable.ensures in
    not_free c.args.forest.now.face F c.known.ensures.sound c.args.ports.now c.in_ok-from.from inner
    c.in_ok-from.ensures order
    (λ h. true≢false (sym (free.1 (each_free F.vars inner h)) ∙ c.if-not-has_no_variable.true))

pub returns-then-not-branch : goal.returns-then-not-branch
returns-then-not-branch c =
    let F = c.args.forest.now.forest in
    let inner = c.in_ok-inner.inner in
    let order = rw (c.in_ok-roots.ensures, c.as_slice.ensures) at c.in_ok-inner.ensures in
    let alone = rw c.as_slice-4.ensures at c.in_ok-is_alone.ensures in
    not_alone c.args.forest.now.face F c.known.ensures.sound c.args.ports.now c.in_ok-from.from inner
    c.in_ok-from.ensures order
    (λ ts h k. true≢false (sym ((alone ts h).1 k) ∙ c.if-not-branch.true))

pub returns : goal.returns
returns c =
    let F = c.args.forest.now.forest in
    let inner = c.in_ok-inner.inner in
    let order = rw (c.in_ok-roots.ensures, c.as_slice.ensures) at c.in_ok-inner.ensures in
    let free = rw (c.as_slice-2.ensures, c.forest.ensures, c.as_slice-3.ensures) at c.has_no_variable.ensures in
    let alone = rw c.as_slice-4.ensures at c.in_ok-is_alone.ensures in
    are_inner c.args.forest.now.face F c.known.ensures.sound c.args.ports.now c.in_ok-from.from inner
    c.in_ok-from.ensures order
    (free_vars F.vars inner (free.0 c.if-not-has_no_variable.false))
    (λ ts h. (alone ts h).0 c.if-not-branch.false)
