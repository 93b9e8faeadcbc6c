use Rattle.std.proofs.Common.{sym, ap, map, ◌∙◌, true≢false}
use Rattle.fa_core.specs.declared.signature.RefMark.{RefMark}
use Rattle.fa_reach.proofs.Signed.{down_added, down_kept}
use Rattle.fa_reach.proofs.parting.add_down.Goals as goal
use Rattle.fa_reach.proofs.parting.add_down.Goals.{then-same_hops+in_ok-roots+in_ok-push, else-same_hops}

pub returns : goal.returns
returns c = elim c.if-same_hops.branch [
  | then-same_hops+in_ok-roots+in_ok-push w ↦ rw (w.downs-is, w.in_ok-push.ensures.ok)
      (down_added c.args.place c.args.hops.now c.args.signature.now c.args.downs.now w.in_ok-roots.roots
      (sym c.in_ok-own.ensures ∙ sym c.as_slice.ensures ∙ c.same_hops.ensures.0 w.if-same_hops.true)
      (w.in_ok-roots.ensures ∙ ap (map (λ (m : RefMark). m.root)) w.as_slice-then-same_hops.ensures))
  | else-same_hops w ↦ rw (w.downs-is)
      (down_kept c.args.place c.args.hops.now c.args.signature.now c.args.downs.now
      (λ e. true≢false (sym (c.same_hops.ensures.1 (c.as_slice.ensures ∙ c.in_ok-own.ensures ∙ e))
      ∙ w.if-same_hops.false)))
]
