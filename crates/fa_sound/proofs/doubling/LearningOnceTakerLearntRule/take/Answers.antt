use Rattle.std.proofs.Common.{List, Option, Bool, true, false, ap, sym, subst}
use Rattle.fa_core.specs.declared.signature.Below.{Below}
use Rattle.fa_sound.specs.declared.doubling.Learnt.{Learnt}
use Rattle.fa_sound.specs.inner.Doubled.{SpeaksOfDoubled}
use Rattle.fa_sound.proofs.Witnesses.{rule_taken}
use Rattle.fa_sound.proofs.doubling.LearningOnceTakerLearntRule.take.Goals as goal

abbrev learnt_of : Bool → List (Option Below) → Learnt
learnt_of doubled table = record { table = table; doubled = doubled }

pub returns-then-not-branch : goal.returns-then-not-branch
returns-then-not-branch c =
    let l = c.args.self.now in
    let k = c.requires.keeps in
    let same = rw c.if-not-branch.true at c.in_ok-learn_rule.ensures in
    let t = rule_taken l.boxes.now l.rules.now l.states c.args.rule.now c.args.learnt.now.table
    c.learn_rule.new.table false c.requires.accepts (k.0, k.1) same in
    record {
      keeps = (t.0.0, t.0.1, λ d. subst (SpeaksOfDoubled l.limit) (sym same.0) (k.2 d));
      changes = (ap (learnt_of c.args.learnt.now.doubled) same.0, tt);
    }

pub returns : goal.returns
returns c =
    let l = c.args.self.now in
    let k = c.requires.keeps in
    let more = rw c.if-not-branch.false at c.in_ok-learn_rule.ensures in
    let t = rule_taken l.boxes.now l.rules.now l.states c.args.rule.now c.args.learnt.now.table
    c.learn_rule.new.table true c.requires.accepts (k.0, k.1) more in
    let d = rw c.as_slice.ensures at c.is_doubled_at-learnt.ensures in
    record { keeps = (t.0.0, t.0.1, d); changes = t.1 }
