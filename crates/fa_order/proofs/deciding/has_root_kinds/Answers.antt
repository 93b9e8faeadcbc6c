use Rattle.std.proofs.Common.{◌≡◌, ◌∙◌, length, ap, sym, refl, arith}
use Rattle.fore_base.specs.Lists.{Every}
use Rattle.fore_base.proofs.ListLemmas.{paired_long}
use Rattle.ta_core.specs.Single.{HasOneTop}
use Rattle.fa_core.specs.Canonical.{var_roots}
use Rattle.fa_order.specs.inner.Showing.{IsShownBy}
use Rattle.fa_order.proofs.Exactly.{roots_decided}
use Rattle.fa_order.proofs.deciding.has_root_kinds.Goals as goal

pub are_roots-requires : goal.are_roots-requires
are_roots-requires c =
    let long : length c.args.forest.now.forest.autos ≡ length c.in_ok-shown.shown =
    paired_long (IsShownBy c.args.forest.now.face.boxes) _ _ c.in_ok-shown.ensures in
    let same : length c.as_slice-4.result.now ≡ length c.in_ok-shown.shown = ap length c.as_slice-4.ensures in
    let count = rw c.forest-2.ensures at c.in_ok-count.ensures.value in
    let few = c.in_ok-count.ensures.few in
    omega (arith, long, same, count, few)

pub returns : goal.returns
returns c =
    let F = c.args.forest.now.forest in
    let vars : c.as_slice-3.result.now ≡ var_roots F.vars = rw (c.as_slice-2.ensures, c.forest-3.ensures) at
    (c.as_slice-3.ensures ∙ c.in_ok-vars.ensures) in
    let here = rw (vars, c.as_slice-4.ensures) at c.are_roots.ensures in
    let tops : Every HasOneTop F.autos =
    rw (c.as_slice.ensures, c.forest.ensures) at (c.if-not-have_one_top.ensures.0 refl) in
    let d = roots_decided c.args.forest.now.face F c.in_ok-shown.shown c.in_ok-shown.ensures tops in
    ((λ t. d.0 (sym here ∙ t)), (λ h. here ∙ d.1 h))
