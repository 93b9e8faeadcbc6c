use Rattle.std.proofs.Common.{IsTrue, List, ap, arith, length, subst}
use Rattle.fore_base.proofs.ListLemmas.{paired_long}
use Rattle.fa_pool.specs.declared.kept.Kept.{Kept}
use Rattle.fa_kept.specs.declared.asking.Asked.{Asked}
use Rattle.fa_kept.specs.inner.Asking.{IsAsked, IsPassed, IsPassedTo}
use Rattle.fa_kept.specs.inner.Within.{CoversByNumbers}
use Rattle.fa_kept.proofs.Passing.{front_passed, paired_passed}
use Rattle.fa_kept.proofs.Remembered.{all_found_right}
use Rattle.fa_kept.proofs.portions.ask_portion.Goals as goal

pub returns-in_err-remember_all-clause-agrees : goal.returns-in_err-remember_all-clause-agrees
returns-in_err-remember_all-clause-agrees g c =
    let pool = c.args.pool.now in
    c.remember_all.ensures pool c.requires.agrees
    (rw c.as_slice.ensures
    (all_found_right pool c.split_at.result.0.now c.args.forest.now c.in_ok-asked.asked c.in_ok-asked.ensures))

pub passed_of-requires : goal.passed_of-requires
passed_of-requires g c =
    let pool = c.args.pool.now in
    let long = paired_long (λ node one. IsAsked pool node c.args.forest.now one) c.split_at.result.0.now
    c.in_ok-asked.asked c.in_ok-asked.ensures in
    let shown = ap (λ (zs : List Asked). length zs) c.as_slice-2.ensures in
    let front = c.split_at.ensures.front_len in
    let some = c.portion_of.ensures.some in
    omega (arith, long, shown, front, some)

pub returns-clause-agrees : goal.returns-clause-agrees
returns-clause-agrees g c =
    let pool = c.args.pool.now in
    c.remember_all.ensures pool c.requires.agrees
    (rw c.as_slice.ensures
    (all_found_right pool c.split_at.result.0.now c.args.forest.now c.in_ok-asked.asked c.in_ok-asked.ensures))

pub returns-clause-passed : goal.returns-clause-passed
returns-clause-passed g c =
    let pool = c.args.pool.now in
    let forest = c.args.forest.now in
    let portion = c.split_at.result.0.now in
    let passed = c.passed_of.result in
    let shown = subst (λ (zs : List Asked). IsPassed (λ one. IsTrue one.covers) zs passed) c.as_slice-2.ensures
    c.passed_of.ensures in
    let front = paired_passed (λ (node : Kept). CoversByNumbers pool node forest) (λ (one : Asked). IsTrue one.covers)
    (λ node one. IsAsked pool node forest one) (λ node one a. a.covers) portion c.in_ok-asked.asked passed.count
    passed.met c.in_ok-asked.ensures shown in
    front_passed (λ (node : Kept). CoversByNumbers pool node forest) c.args.nodes.now c.portion_of.result passed.count
    passed.met
    (subst
    (λ (zs : List Kept). IsPassedTo (λ (node : Kept). CoversByNumbers pool node forest) zs passed.count passed.met)
    c.split_at.ensures.front front)
