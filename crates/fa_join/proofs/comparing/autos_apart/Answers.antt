use Rattle.std.proofs.Common.{◌≡◌, ◌<◌, ◌+◌, ℕ, length, sym, subst, arith}
use Rattle.ta_core.specs.Language.{HasSameLanguage}
use Rattle.fa_join.specs.declared.comparing.Apart.{Apart}
use Rattle.fa_join.specs.inner.Apart.{IsApart}
use Rattle.fa_join.proofs.Children.{item_got}
use Rattle.fa_join.proofs.Deciding.{apart_step, apart_more}
use Rattle.fa_join.proofs.comparing.autos_apart.Goals as goal

pub loop-place-init : goal.loop-place-init
loop-place-init c = λ i l. absurd (omega (arith, l))

pub loop-place-preserved : goal.loop-place-preserved
loop-place-preserved c =
    let n = c.loop-place.place in
    let less = subst (λ (m : ℕ). n < m) c.requires c.loop-place-test.true in
    let x = item_got c.args.left.now n c.index-left-place.result c.loop-place-test.true c.index-left-place.is in
    let y = item_got c.args.right.now n c.index-right-place.result less c.index-right-place.is in
    let next = subst (λ (z : Apart). IsApart HasSameLanguage c.args.left.now c.args.right.now (n + 1) z)
    (sym c.with_place-found.ensures)
    (apart_step HasSameLanguage c.args.left.now c.args.right.now n c.index-left-place.result c.index-right-place.result
    c.loop-place.found c.in_ok-is_same.is_same x y c.in_ok-is_same.ensures c.loop-place.invariant) in
    next

pub returns-then-is_more : goal.returns-then-is_more
returns-then-is_more c =
    let n = c.loop-place.place in
    let less = subst (λ (m : ℕ). n < m) c.requires c.loop-place-test.true in
    let x = item_got c.args.left.now n c.index-left-place.result c.loop-place-test.true c.index-left-place.is in
    let y = item_got c.args.right.now n c.index-right-place.result less c.index-right-place.is in
    let next = subst (λ (z : Apart). IsApart HasSameLanguage c.args.left.now c.args.right.now (n + 1) z)
    (sym c.with_place-found.ensures)
    (apart_step HasSameLanguage c.args.left.now c.args.right.now n c.index-left-place.result c.index-right-place.result
    c.loop-place.found c.in_ok-is_same.is_same x y c.in_ok-is_same.ensures c.loop-place.invariant) in
    apart_more HasSameLanguage c.args.left.now c.args.right.now (n + 1) (length c.args.left.now)
    c.with_place-found.result (c.is_more.ensures.0 c.if-is_more.true) next

pub returns : goal.returns
returns c =
    let e : c.loop-place.place ≡ length c.args.left.now =
    omega (arith, c.loop-place.auto.place-end, c.loop-place-test.false) in
    subst (λ (m : ℕ). IsApart HasSameLanguage c.args.left.now c.args.right.now m c.loop-place.found) e
    c.loop-place.invariant
