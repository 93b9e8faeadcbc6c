use Rattle.std.proofs.Common.{◌∙◌, ap, length, sym, true≢false}
use Rattle.fa_core.specs.declared.forest.Forest.{Forest}
use Rattle.fore_base.proofs.ListLemmas.{paired_long}
use Rattle.fa_sound.specs.Components.{component_at}
use Rattle.fa_merge.specs.Signed.{IsSignatureOf}
use Rattle.fa_merge.proofs.CountedRefs.{in_own, merge_decided}
use Rattle.fa_sound.proofs.ComponentLemmas.{component_got}
use Rattle.fa_merge.proofs.counting.can_merge.Goals as goal

pub returns-then-is_marked_root : goal.returns-then-is_marked_root
returns-then-is_marked_root c =
    let F = c.args.forest.now.forest in
    let signed = c.in_ok-own.ensures (component_at F.autos c.args.root) (component_got F.autos c.args.root c.requires)
    in
    let marked = rw c.as_slice-2.ensures at c.is_marked_root.ensures in (
      (λ no. absurd (true≢false (sym no))),
      (λ can.
          absurd
          (in_own c.args.forest.now.face F c.args.root c.known.ensures.sound c.in_ok-own.own c.requires signed
          (sym marked ∙ c.if-is_marked_root.true) can)),
    )

pub has_one-requires : goal.has_one-requires
has_one-requires c =
    let long = paired_long (IsSignatureOf c.args.forest.now.face.boxes) c.args.forest.now.forest.autos
    c.in_ok-signatures.signatures c.in_ok-signatures.ensures in
    rw c.as_slice-3.ensures (sym long ∙ sym (c.in_ok-count.ensures.value ∙ ap (λ (z : Forest). length z.autos)
    c.forest-2.ensures))

pub returns : goal.returns
returns c =
    let F = c.args.forest.now.forest in
    let signed = c.in_ok-own.ensures (component_at F.autos c.args.root) (component_got F.autos c.args.root c.requires)
    in
    let marked = rw c.as_slice-2.ensures at c.is_marked_root.ensures in
    let vars = rw (c.as_slice.ensures, c.forest.ensures) at c.is_target.ensures in
    merge_decided c.args.forest.now.face F c.args.root c.known.ensures.sound c.in_ok-own.own
    c.in_ok-signatures.signatures c.has_one.result c.requires
    (λ i. true≢false (sym (vars.1 i) ∙ c.if-is_target.false))
    signed (sym marked ∙ c.if-is_marked_root.false) c.in_ok-signatures.ensures
    (rw c.as_slice-3.ensures at c.has_one.ensures)
