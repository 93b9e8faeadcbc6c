use Rattle.std.proofs.Common.{ℕ, List, subst, take, slice_index_or, arith}
use Rattle.std.proofs.lemmas.List.{take_all, take_more}
use Rattle.fore_base.specs.Lists.{Every}
use Rattle.fa_opening.specs.inner.Clearing.{IsCleared}
use Rattle.fa_opening.proofs.ClearedCells.{cleared_next, cleared_ready, cleared_whole}
use Rattle.fa_opening.proofs.clearing.open_fields.Goals as goal

pub on_each-requires : goal.on_each-requires
on_each-requires c =
    rw c.as_slice.ensures
    (cleared_ready c.args.table.now c.known.ensures c.ranked_insides.ensures c.args.root c.args._forest.now.forest
    c.requires.target (take c.loop-field.field-index c.args.fields.now) c.loop-field.made c.loop-field.invariant.0)

pub loop-field-preserved : goal.loop-field-preserved
loop-field-preserved c =
    let t = c.args.table.now in
    let r = c.args.root in
    let F = c.args._forest.now.forest in
    let all = c.args.fields.now in
    let i = c.loop-field.field-index in
    let f = slice_index_or all i 0 in
    let done = take i all in
    let e = take_more all i 0 c.loop-field-test.true in
    let old = c.loop-field.made in
    let made = c.in_ok-made.made in
    let m = c.in_ok-made.ensures in
    let inv = c.loop-field.invariant in
    rw e (
      cleared_next t c.known.ensures c.ranked_insides.ensures r F c.requires.target done f old made inv.0
          (rw c.as_slice.ensures at m.each),
      cleared_whole t c.known.ensures c.ranked_insides.ensures r F c.requires.target done f old made inv.0 inv.1
          (rw c.as_slice.ensures at m.whole),
    )

pub returns-clause-each : goal.returns-clause-each
returns-clause-each c =
    let past = c.loop-field-test.false in
    subst
    (λ (fs : List ℕ). Every (IsCleared c.args.table.now c.args.root c.args._forest.now.forest fs) c.loop-field.made)
    (take_all c.loop-field.field-index c.args.fields.now (omega (arith, past))) c.loop-field.invariant.0
