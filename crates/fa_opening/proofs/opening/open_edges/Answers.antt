use Rattle.std.proofs.Common.{◌≡◌, ℕ, suc, ◌+◌, ◌-◌, ◌≤◌, length, subst, arith}
use Rattle.fore_base.specs.Lists.{Every}
use Rattle.fa_core.specs.declared.faces.Face.{Face}
use Rattle.fa_sound.specs.Unions.{forests}
use Rattle.fa_opening.specs.Opened.{IsBared, IsThatField, OpensFrom, OpensInto}
use Rattle.fa_opening.specs.inner.Rounds.{IsRound}
use Rattle.fa_opening.proofs.OpenedForests.{into_regrouped, members_opened}
use Rattle.fa_opening.proofs.Rounds.{last_bared, last_face, last_from, last_plain, last_vars, round_first}
use Rattle.fa_opening.proofs.Rounds.{round_next, round_ready, round_whole}
use Rattle.fa_opening.proofs.Steps.{root_there}
use Rattle.fa_opening.proofs.opening.open_edges.Goals as goal

pub choose_rule-requires : goal.choose_rule-requires
choose_rule-requires c = root_there c.args.forest.now c.args.root c.known.ensures c.requires.target

pub loop-round-init : goal.loop-round-init
loop-round-init c =
    let t = c.args.table.now in
    let s = c.args.forest.now in
    let m = c.in_ok-made.ensures in (
      (λ k e.
          (let z : length t.defs ≡ k = omega (arith, e) in
          subst (λ (n : ℕ). Every (IsRound t c.args.root c.args.field s.forest n) c.in_ok-made.made) z
          (round_first t c.args.root c.args.field s c.requires.face c.known.ensures c.known-2.ensures
          c.ranked_insides.ensures c.requires.target c.in_ok-made.made m.face m.vars m.plain m.tops
          (m.regroups t.defs)))),
      into_regrouped t.face.boxes c.args.root (IsThatField c.args.field) t.defs s.forest (forests c.in_ok-made.made)
          (m.whole t.defs),
    )

pub on_each-requires : goal.on_each-requires
on_each-requires c =
    let t = c.args.table.now in
    let F = c.args.forest.now.forest in
    let l = c.loop-round-test.true in
    let n = c.len-round-end.ensures in
    let z : (length t.defs - c.loop-round._round) + c.loop-round._round ≡ length t.defs = omega (arith, l, n) in
    rw c.as_slice.ensures
    (round_ready t c.args.root c.args.field F c.requires.target (length t.defs - c.loop-round._round)
    c.loop-round.made (c.loop-round.invariant.0 (length t.defs - c.loop-round._round) z))

pub loop-round-preserved : goal.loop-round-preserved
loop-round-preserved c =
    let t = c.args.table.now in
    let F = c.args.forest.now.forest in
    let r = c.args.root in
    let f = c.args.field in
    let inv = c.loop-round.invariant in
    let l = c.loop-round-test.true in
    let n = c.len-round-end.ensures in
    let old = c.loop-round.made in
    let made = c.in_ok-made-2.made in
    let m = c.in_ok-made-2.ensures in
    let z : (length t.defs - c.loop-round._round) + c.loop-round._round ≡ length t.defs = omega (arith, l, n) in (
      (λ k e.
          (let y : suc k + c.loop-round._round ≡ length t.defs = omega (arith, e) in
          round_next t r f F c.requires.target k old made (inv.0 (suc k) y) (rw c.as_slice.ensures at m.each))),
      round_whole t r f F c.requires.target (length t.defs - c.loop-round._round) old made
          (inv.0 (length t.defs - c.loop-round._round) z) inv.1 (rw c.as_slice.ensures at m.whole),
    )

-- no round is left
none_left : (n r e : ℕ) → e ≤ r → r ≤ e → e ≡ n → 0 + r ≡ n
none_left n r e a b c = omega (arith, a, b, c)

pub returns-clause-bared : goal.returns-clause-bared
returns-clause-bared c =
    let t = c.args.table.now in
    let F = c.args.forest.now.forest in
    let z = none_left (length t.defs) c.loop-round._round c.len-round-end.result c.loop-round-test.false
    c.loop-round.auto._round-end c.len-round-end.ensures in
    subst (λ (x : Face). Every (IsBared x.boxes c.args.root c.args.field) (forests c.loop-round.made)) c.requires.face
    (last_bared t c.args.root c.args.field F c.known-2.ensures c.ranked_insides.ensures c.requires.target
    c.loop-round.made (rw c.as_slice-2.ensures at c.known_each.ensures) (c.loop-round.invariant.0 0 z))

pub returns-clause-face : goal.returns-clause-face
returns-clause-face c =
    let t = c.args.table.now in
    let F = c.args.forest.now.forest in
    let z = none_left (length t.defs) c.loop-round._round c.len-round-end.result c.loop-round-test.false
    c.loop-round.auto._round-end c.len-round-end.ensures in
    last_face t c.args.root c.args.field F c.known-2.ensures c.ranked_insides.ensures c.requires.target
    c.loop-round.made (rw c.as_slice-2.ensures at c.known_each.ensures) (c.loop-round.invariant.0 0 z)
    c.args.forest.now c.requires.face

pub returns-clause-vars : goal.returns-clause-vars
returns-clause-vars c =
    let t = c.args.table.now in
    let F = c.args.forest.now.forest in
    let z = none_left (length t.defs) c.loop-round._round c.len-round-end.result c.loop-round-test.false
    c.loop-round.auto._round-end c.len-round-end.ensures in
    last_vars t c.args.root c.args.field F c.known-2.ensures c.ranked_insides.ensures c.requires.target
    c.loop-round.made (rw c.as_slice-2.ensures at c.known_each.ensures) (c.loop-round.invariant.0 0 z)

pub returns-clause-stays : goal.returns-clause-stays
returns-clause-stays c =
    let t = c.args.table.now in
    let F = c.args.forest.now.forest in
    let z = none_left (length t.defs) c.loop-round._round c.len-round-end.result c.loop-round-test.false
    c.loop-round.auto._round-end c.len-round-end.ensures in
    last_plain t c.args.root c.args.field F c.known-2.ensures c.ranked_insides.ensures c.requires.target
    c.loop-round.made (rw c.as_slice-2.ensures at c.known_each.ensures) (c.loop-round.invariant.0 0 z)

pub returns-clause-each : goal.returns-clause-each
returns-clause-each c =
    let t = c.args.table.now in
    let F = c.args.forest.now.forest in
    let z = none_left (length t.defs) c.loop-round._round c.len-round-end.result c.loop-round-test.false
    c.loop-round.auto._round-end c.len-round-end.ensures in
    subst
    (λ (x : Face). Every (OpensFrom x.boxes t.defs c.args.root (IsThatField c.args.field) F)
    (forests c.loop-round.made))
    c.requires.face
    (last_from t c.args.root c.args.field F c.known-2.ensures c.ranked_insides.ensures c.requires.target
    c.loop-round.made (rw c.as_slice-2.ensures at c.known_each.ensures) (c.loop-round.invariant.0 0 z))

pub returns-clause-whole : goal.returns-clause-whole
returns-clause-whole c =
    let t = c.args.table.now in
    let F = c.args.forest.now.forest in
    subst
    (λ (x : Face). OpensInto x.boxes t.defs c.args.root (IsThatField c.args.field) F (forests c.loop-round.made))
    c.requires.face c.loop-round.invariant.1

pub returns-clause-members : goal.returns-clause-members
returns-clause-members c =
    members_opened c.args.forest.now.face.boxes c.args.root (IsThatField c.args.field) c.args.table.now.defs
    c.args.forest.now.forest (forests c.loop-round.made) (returns-clause-each c) (returns-clause-whole c)
