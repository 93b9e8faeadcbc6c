use Rattle.fa_core.specs.declared.faces.Face.{Face}
use Rattle.std.proofs.Common.{◌≡◌, ◌+◌, ◌∙◌, ap, sym, subst, ◌∷◌, length, drop, List, length-append, arith}
use Rattle.fore_base.specs.Lists.{Every}
use Rattle.fore_base.proofs.ListLemmas.{every_at, every_mapped, drop_item, in_at, only_item}
use Rattle.fa_core.specs.Boxes.{IsTableOf}
use Rattle.fa_core.specs.Canonical.{IsCanonical}
use Rattle.fa_core.specs.Faces.{IsGiving}
use Rattle.fa_core.specs.declared.forest.Forest.{Forest}
use Rattle.fa_sound.specs.Soundness.{SoundForest}
use Rattle.std.proofs.lemmas.List.{drop_all}
use Rattle.sym_core.specs.Explicit.{IsExplicit}
use Rattle.sym_step.specs.inner.Stepping.{IsLike, IsSettlingBy, IsThat}
use Rattle.sym_step.proofs.SettledForests.{settling_first, fits_still, settled_more}
use Rattle.sym_step.proofs.posting.settle_each.Goals as goal

pub loop-forest-init : goal.loop-forest-init
loop-forest-init g c =
    let s = c.args._forest.now in
    let e = c.args.edge.now in
    rw (c.as_slice-forest-items.ensures, c.new-next.ensures) (
      settling_first s.face s.forest e (λ (H : Forest). IsExplicit s.face.shapes.structs H e.instr)
          c.args.opened.ready c.args.opened.faults c.requires.opens,
      (λ q. omega arith),
    )

pub settle-requires-clause-gives : goal.settle-requires-clause-gives
settle-requires-clause-gives g c = λ ls w.
    let s = c.args._forest.now in
    let like = every_at (IsLike s.face s.forest) c.args.opened.ready c.loop-forest.forest-index c.forest-item.result
    c.requires.opens.like (rw c.as_slice-forest-items.ensures at c.loop-forest-test.true)
    (rw c.as_slice-forest-items.ensures at c.forest-item.is) in
    subst (λ (face : Face). Every IsGiving face.boxes) (sym like.face) c.requires.gives

pub settle-requires-clause-fits : goal.settle-requires-clause-fits
settle-requires-clause-fits g c = λ ls w.
    let s = c.args._forest.now in
    fits_still s.face s.forest c.args.edge.now c.forest-item.result
    (every_at (IsLike s.face s.forest) c.args.opened.ready c.loop-forest.forest-index c.forest-item.result
    c.requires.opens.like (rw c.as_slice-forest-items.ensures at c.loop-forest-test.true)
    (rw c.as_slice-forest-items.ensures at c.forest-item.is))
    c.requires.fits

pub settle-requires-clause-explicit : goal.settle-requires-clause-explicit
settle-requires-clause-explicit g c = λ ls w.
    let s = c.args._forest.now in
    let e = c.args.edge.now in
    let hs = s.face.shapes.structs in
    let more = rw c.as_slice-forest-items.ensures at c.loop-forest-test.true in
    let is = rw c.as_slice-forest-items.ensures at c.forest-item.is in
    let like = every_at (IsLike s.face s.forest) c.args.opened.ready c.loop-forest.forest-index c.forest-item.result
    c.requires.opens.like more is in
    subst (λ (face : Face). IsExplicit face.shapes.structs c.forest-item.result.forest e.instr) (sym like.face)
    (every_at (λ (x : SoundForest). IsExplicit hs x.forest e.instr) c.args.opened.ready c.loop-forest.forest-index
    c.forest-item.result
    (every_mapped (λ (x : SoundForest). x.forest) (λ (H : Forest). IsExplicit hs H e.instr) c.args.opened.ready
    c.requires.opens.ready) more is)

pub settle-requires-clause-calm : goal.settle-requires-clause-calm
settle-requires-clause-calm g c = λ ls w q.
    let s = c.args._forest.now in
    let i = in_at c.args.opened.ready c.loop-forest.forest-index c.forest-item.result
    (rw c.as_slice-forest-items.ensures at c.loop-forest-test.true)
    (rw c.as_slice-forest-items.ensures at c.forest-item.is) in
    let same : c.forest-item.result ≡ s = only_item c.forest-item.result s c.args.opened.ready (c.requires.calm q) i in
    subst (λ (x : SoundForest). IsCanonical x.face x.forest) (sym same) c.requires.canonical

pub loop-forest-preserved : goal.loop-forest-preserved
loop-forest-preserved g c =
    let s = c.args._forest.now in
    let F = s.forest in
    let e = c.args.edge.now in
    let G = c.forest-item.result in
    let all = c.args.opened.ready in
    let i = c.loop-forest.forest-index in
    let less = rw c.as_slice-forest-items.ensures at c.loop-forest-test.true in
    let is = rw c.as_slice-forest-items.ensures at c.forest-item.is in
    let like = every_at (IsLike s.face F) all i G c.requires.opens.like less is in
    let inv : IsSettlingBy (IsThat c.args._table.now.defs) s.face F e (G ∷ drop (i + 1) all) c.loop-forest.next
    c.loop-forest.faulty =
    rw (drop_item all i G less is) at (rw c.as_slice-forest-items.ensures at c.loop-forest.invariant.0) in
    let many = length-append c.loop-forest.next c.in_ok-more.more.next in
    rw (c.in_ok-append.ensures.ok, c.in_ok-append-2.ensures.ok, c.as_slice-forest-items.ensures) (
      settled_more s.face (λ T q. subst (IsTableOf s.face) (sym q) c.requires.table) F e G
          (drop (i + 1) all) c.loop-forest.next c.loop-forest.faulty c.in_ok-more.more.next
          c.in_ok-more.more.faults inv like c.in_ok-more.ensures.settles,
      (λ q. let a = c.loop-forest.invariant.1 q in let b = c.in_ok-more.ensures.quiet q in omega (arith, a, b, many)),
    )

pub returns-clause-settles : goal.returns-clause-settles
returns-clause-settles g c =
    let items = c.as_slice-forest-items.result.now in
    let past = drop_all c.loop-forest.forest-index items c.loop-forest-test.false in
    rw past at c.loop-forest.invariant.0

pub returns-clause-quiet : goal.returns-clause-quiet
returns-clause-quiet g c = λ q.
    let few = c.loop-forest.invariant.1 q in
    let long : length c.as_slice-forest-items.result.now ≡ 1 =
    ap (λ (xs : List SoundForest). length xs) (c.as_slice-forest-items.ensures ∙ c.requires.calm q) in
    let end = c.loop-forest.auto.forest-index-end in
    omega (arith, few, long, end)
