use Rattle.std.proofs.Common.{◌++◌, ℕ, List, subst}
use Rattle.fore_base.specs.Lists.{Every}
use Rattle.ta_core.specs.declared.auto.Rule.{Rule}
use Rattle.ta_core.specs.declared.tree.Tree.{Tree}
use Rattle.fa_giving.specs.inner.Totals.{ForAll, IsGivenRight, AreIn, given_fields, rule_fields}
use Rattle.fa_giving.proofs.RootFields.{root_decides}
use Rattle.fa_giving.proofs.roots.is_root_right.Goals as goal

pub returns : goal.returns
returns c =
    let face = c.args.face.now in
    let k = subst (λ (os : List Rule). AreIn c.in_ok-fields.fields (given_fields face.boxes ++ rule_fields face os))
    c.as_slice.ensures c.in_ok-fields.ensures in
    let g = subst (λ (fs : List ℕ). ForAll c.args.autos.now (λ (ts : List Tree). Every (λ (f : ℕ). IsGivenRight face
    c.args.port c.args.root f ts) fs) c.in_ok-yes.yes) c.as_slice-3.ensures c.in_ok-yes.ensures in
    root_decides face c.args.port c.args.root c.args.autos.now c.args.auto.now c.known.ensures c.requires.own
    c.in_ok-tops.tops c.in_ok-fields.fields c.in_ok-tops.ensures k c.in_ok-yes.yes g
