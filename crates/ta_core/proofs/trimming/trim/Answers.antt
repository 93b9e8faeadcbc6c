use Rattle.std.proofs.Common.{◌≡◌, ◌≤◌, subst, sym, ap, arith}
use Rattle.std.proofs.lemmas.Result.{IfOk-weaker}
use Rattle.ta_core.specs.Auto.{Automaton}
use Rattle.ta_core.specs.Language.{HasSameLanguage, IsTrim}
use Rattle.ta_core.specs.Renumbered.{StandsFor}
use Rattle.ta_core.specs.inner.Restricted.{rank, restricted}
use Rattle.fore_base.specs.Marks.{marked_count}
use Rattle.fore_base.proofs.MarkLemmas.{count_within}
use Rattle.ta_core.proofs.Standing.{alike, standing, trimmed}
use Rattle.ta_core.proofs.trimming.trim.Goals as goal

pub returns-clause-language : goal.returns-clause-language
returns-clause-language c =
    let h = rw c.as_slice-2.ensures at c.restrict.ensures in
    IfOk-weaker c.restrict.result
    (λ (made : Automaton). made ≡ restricted c.in_ok-used.used (rank c.in_ok-used.used) c.args.auto.now)
    (λ (made : Automaton). HasSameLanguage c.args.auto.now made)
    (λ made e. subst (HasSameLanguage c.args.auto.now) (sym e)
    (alike c.args.auto.now c.in_ok-used.used c.in_ok-used.ensures)) h

pub returns-clause-trim : goal.returns-clause-trim
returns-clause-trim c =
    let h = rw c.as_slice-2.ensures at c.restrict.ensures in
    IfOk-weaker c.restrict.result
    (λ (made : Automaton). made ≡ restricted c.in_ok-used.used (rank c.in_ok-used.used) c.args.auto.now)
    (λ (made : Automaton). IsTrim made)
    (λ made e. subst IsTrim (sym e) (trimmed c.args.auto.now c.in_ok-used.used c.in_ok-used.ensures)) h

pub returns-clause-parts : goal.returns-clause-parts
returns-clause-parts c =
    let h = rw c.as_slice-2.ensures at c.restrict.ensures in
    IfOk-weaker c.restrict.result
    (λ (made : Automaton). made ≡ restricted c.in_ok-used.used (rank c.in_ok-used.used) c.args.auto.now)
    (λ (made : Automaton). StandsFor c.args.auto.now made)
    (λ made e. subst (StandsFor c.args.auto.now) (sym e)
    (standing c.args.auto.now c.in_ok-used.used c.in_ok-used.ensures)) h

pub returns-clause-size : goal.returns-clause-size
returns-clause-size c =
    let h = rw c.as_slice-2.ensures at c.restrict.ensures in
    let l = count_within c.in_ok-used.used in
    let n = c.in_ok-used.ensures.long in
    IfOk-weaker c.restrict.result
    (λ (made : Automaton). made ≡ restricted c.in_ok-used.used (rank c.in_ok-used.used) c.args.auto.now)
    (λ (made : Automaton). made.states ≤ c.args.auto.now.states)
    (λ made e. (let s : made.states ≡ marked_count c.in_ok-used.used = ap (λ (a : Automaton). a.states) e in
    omega (arith, s, l, n))) h
