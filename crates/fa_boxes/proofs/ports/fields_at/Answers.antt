use Rattle.std.proofs.Common.{◌≡◌, List, Option, ℕ, nat_eq, false, map, refl}
use Rattle.std.proofs.lemmas.Option.{slice_get_read}
use Rattle.std.proofs.lemmas.Result.{IfOk-weaker}
use Rattle.std.specs.Option.{MatchOption}
use Rattle.fore_base.specs.Lists.{Every}
use Rattle.fa_core.specs.Rearranged.{Rearranged}
use Rattle.fa_core.specs.declared.signature.Signature.{Signature}
use Rattle.fa_boxes.specs.inner.Parts.{ArePartsOf, PartsApart, HaveApart, provided_by}
use Rattle.fa_boxes.proofs.AllParts.{differ, match_weaker, other_parts, other_apart}
use Rattle.fa_boxes.proofs.ports.fields_at.Goals as goal

pub returns-else-place-port : goal.returns-else-place-port
returns-else-place-port c =
    let bs = c.args.boxes.now in
    let a = c.args.auto.now in
    let r = c.args.port in
    let i = c.args.place in
    let list : List Signature = c.index-lists-place.result in
    let s = c.requires.signs list
    (slice_get_read c.args.lists.now _ i list refl c.requires.there c.index-lists-place.is) in
    let n : nat_eq i r ≡ false = differ i r c.if-place-port.false in
    let e = rw c.as_slice.ensures at c.other_fields.ensures in
    IfOk-weaker c.other_fields.result
    (λ (found : Option (List ℕ)). MatchOption found (HaveApart (map (provided_by r) list))
    (λ fields. Every (Rearranged fields) (map (provided_by r) list)))
    (λ (found : Option (List ℕ)). MatchOption found (PartsApart bs r i a) (ArePartsOf bs r i a))
    (λ found h. match_weaker (HaveApart (map (provided_by r) list)) (PartsApart bs r i a)
    (λ fields. Every (Rearranged fields) (map (provided_by r) list)) (ArePartsOf bs r i a)
    (other_apart bs a list s r i n) (λ fields m. other_parts bs a list s r i n fields m) found h) e
