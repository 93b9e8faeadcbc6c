use Rattle.std.proofs.Common.{◌≡◌, ◌++◌, ◌∷◌, ◌∙◌, [], Some, ap, rules, sym}
use Rattle.std.specs.BTreeMap.{get}
use Rattle.fa_groups.specs.Grouped.{key_cmp, numbers_if, AreSame, IsJoined}
use Rattle.fa_groups.proofs.Grouping.{groups_same, joined, on_err, on_ok}
use Rattle.fa_groups.proofs.groups.join.Goals as goal

pub returns-clause-ok : goal.returns-clause-ok
returns-clause-ok c =
    let before = c.args.groups.now in
    let old = c.in-Some.group.now in
    let new = c.push.new.self in
    let after = c.get_mut.follows.lender new in
    let was : get key_cmp before c.args.key ≡ Some old = search rules in
    on_ok c.push.result (new ≡ old ++ c.args.number ∷ []) (IsJoined before c.args.key c.args.number after)
    (λ more. joined before after c.args.key new ((c.get_mut.follows.holds new).3 (search rules)) c.args.number
    (more ∙ ap (λ ns. ns ++ c.args.number ∷ []) (sym (ap numbers_if was)))) c.push.ensures.ok

pub returns-clause-err : goal.returns-clause-err
returns-clause-err c =
    let before = c.args.groups.now in
    let old = c.in-Some.group.now in
    let new = c.push.new.self in
    let after = c.get_mut.follows.lender new in
    let was : get key_cmp before c.args.key ≡ Some old = search rules in
    on_err c.push.result (new ≡ old) (AreSame before after)
    (λ same. groups_same before after c.args.key new ((c.get_mut.follows.holds new).3 (search rules))
    (same ∙ sym (ap numbers_if was))) c.push.ensures.err
