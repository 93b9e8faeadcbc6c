use Rattle.std.proofs.Common.{◌↔◌, ◌∙◌, ℕ, List, ap, subst, sym, IsTrue, set, length, Some, arith}
use Rattle.std.proofs.lemmas.List.{length-set}
use Rattle.fore_base.specs.Lists.{Every, Paired}
use Rattle.ta_core.specs.Auto.{Automaton}
use Rattle.ta_core.specs.declared.auto.Rule.{Rule}
use Rattle.fa_filling.specs.Ruled.{IsShapedRule}
use Rattle.fa_giving.specs.inner.Shaped.{AreTopStructs}
use Rattle.fa_giving.proofs.StructParts.{has_list, part_decides, put_back}
use Rattle.fa_giving.proofs.shapes.is_part_shaped.Goals as goal

pub part_for-requires : goal.part_for-requires
part_for-requires c = λ r i. (c.requires.rules.only r i).0

pub at-requires : goal.at-requires
at-requires c = has_list c.args._autos.now c.args.tops.now c.args.place c.args.auto.now c.requires.tops c.requires.own

pub set-requires : goal.set-requires
set-requires c = has_list c.args._autos.now c.args.tops.now c.args.place c.args.auto.now c.requires.tops c.requires.own

pub set-requires-2 : goal.set-requires-2
set-requires-2 c =
    let within = has_list c.args._autos.now c.args.tops.now c.args.place c.args.auto.now c.requires.tops c.requires.own
    in
    let long = ap length c.set.ensures ∙ length-set c.args.tops.now c.args.place c.in_ok-alone.alone in
    omega (arith, within, long)

pub returns-clause-shaped : goal.returns-clause-shaped
returns-clause-shaped c =
    let os = c.as_slice-2.ensures ∙ ap (λ (b : Automaton). b.rules) c.own.view_is in
    let alone = c.set.ensures ∙ ap (λ (l : List ℕ). set c.args.tops.now c.args.place l) c.in_ok-alone.ensures in
    let ts = c.as_slice.ensures ∙ alone in
    let g = subst (λ (rs : List Rule). IsTrue c.in_ok-yes.yes
    ↔ Every (IsShapedRule c.args.face.now c.as_slice.result.now rs) rs) os c.in_ok-yes.ensures in
    let k = subst (λ (t : List (List ℕ)). IsTrue c.in_ok-yes.yes
    ↔ Every (IsShapedRule c.args.face.now t c.in_ok-part.part.auto.rules) c.in_ok-part.part.auto.rules) ts g in
    part_decides c.args.face.now c.args._autos.now c.args.tops.now c.args.place c.args.auto.now c.requires.full
    c.requires.tops c.requires.own c.args.rules.now c.requires.rules c.args.shape c.in_ok-part.part
    c.in_ok-part.ensures c.known.ensures c.in_ok-yes.yes k

pub returns-clause-tops : goal.returns-clause-tops
returns-clause-tops c =
    let back = c.set-2.ensures ∙ ap (λ (ls : List (List ℕ)). set ls c.args.place c.in_ok-kept.kept) c.set.ensures
    ∙ put_back c.args.tops.now c.args.place c.in_ok-alone.alone c.in_ok-kept.kept
    (c.at.ensures ∙ ap (λ (l : List ℕ). Some l) (sym c.in_ok-kept.ensures)) in
    subst (Paired AreTopStructs c.args._autos.now) (sym back) c.requires.tops
