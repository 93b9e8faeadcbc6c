-- What one rule reads here another reads too, and where the one fails the other fails: the alternatives of a choice.
use Rattle.std.proofs.Common.{◌≡◌, ℕ, Bool, true, false, List, Result, IfOk, IfErr, refl}
use Rattle.std.proofs.lemmas.Result.{IfOk-weaker, IfErr-weaker}
use Rattle.fore_base.specs.declared.place.Place.{Place}
use Rattle.c_lexer.specs.declared.token.Token.{Token}
use Rattle.c_grammar.specs.Grammar.{Rule}
use Rattle.c_grammar.specs.Signs.{and, sign_at}
use Rattle.c_grammar.specs.declared.fault.SyntaxFault.{SyntaxFault}
use Rattle.c_grammar.specs.words.Faults.{Fails, Takes}
use Rattle.c_grammar.specs.words.Sets.{Signs, no_sign}
use Rattle.c_grammar.proofs.Choices.{left_takes, right_takes, left_fails, right_fails}
use Rattle.c_grammar.proofs.Families.{choice}
use Rattle.c_grammar.proofs.Parts.{Same, takes_same, fails_same, cont_either}
use Rattle.c_grammar.proofs.Rules.{Good, bars_both}
use Rattle.c_grammar.proofs.Steps.{Clear, Under, widen_takes, widen_fails}

pub record Carries {X : Type 0} (A : Rule X) (ca ba : Signs) (B : Rule X) (cb bb : Signs) (n : ℕ) (ts : List Token) :
    Type 0 where
  pub takes : (rest : List Token) (x : X) → Takes A ca ba n ts rest x → Takes B cb bb n ts rest x
  pub fails : (end : Place) (e : SyntaxFault) → Fails A ca ba no_sign n end ts e → Fails B cb bb no_sign n end ts e

pub over : {X : Type 0} {A B C : Rule X} {ca ba cb bb cc bc : Signs} {n : ℕ} {ts : List Token}
    → Carries A ca ba B cb bb n ts → Carries B cb bb C cc bc n ts → Carries A ca ba C cc bc n ts
over k l = record {
  takes = λ rest x t. l.takes rest x (k.takes rest x t);
  fails = λ end e f. l.fails end e (k.fails end e f);
}

pub widened : {X : Type 0} {A : Rule X} {ca ba cb bb : Signs} {n : ℕ} {ts : List Token} → Under ca cb → Under ba bb
    → Carries A ca ba A cb bb n ts
widened {cb = cb} {bb = bb} c b = record {
  takes = λ rest x t. widen_takes cb bb c b t;
  fails = λ end e f. widen_fails cb bb no_sign c b refl f;
}

pub same_carries : {X : Type 0} {A B : Rule X} {cont bars : Signs} {n : ℕ} {ts : List Token} → Same A B
    → Carries A cont bars B cont bars n ts
same_carries same = record { takes = λ rest x t. takes_same same t; fails = λ end e f. fails_same same e f }

module _ {X : Type 0} {A B : Rule X} {fa ca ba fb cb bb : Signs} {na nb : Bool} (ga : Good A fa ca ba na)
    (gb : Good B fb cb bb nb) (apart : Clear fa fb) (full : and na nb ≡ false) {n : ℕ} {ts : List Token} where
  pub left_carries : fa (sign_at ts) ≡ true
      → Carries A ca ba (choice A B) (cont_either fa ca na fb cb nb) (bars_both ba bb) n ts
  left_carries first = record {
    takes = λ rest x t. left_takes ga gb apart full first t;
    fails = λ end e f. left_fails ga gb apart full first f;
  }

  pub right_carries : na ≡ false → fa (sign_at ts) ≡ false
      → Carries B cb bb (choice A B) (cont_either fa ca na fb cb nb) (bars_both ba bb) n ts
  right_carries solid other = record {
    takes = λ rest x t. right_takes ga gb apart full solid other t;
    fails = λ end e f. right_fails ga gb apart full solid other f;
  }

module _ {X : Type 0} {A B : Rule X} {ca ba cb bb : Signs} {n : ℕ} {ts : List Token} (k : Carries A ca ba B cb bb n ts)
  where
    pub carry : {rest : List Token} {x : X} → Takes A ca ba n ts rest x → Takes B cb bb n ts rest x
    carry {rest = rest} {x = x} t = k.takes rest x t

    pub carry_fails : {end : Place} {e : SyntaxFault} → Fails A ca ba no_sign n end ts e
        → Fails B cb bb no_sign n end ts e
    carry_fails {end = end} {e = e} f = k.fails end e f

    -- the same of what a function answers
    pub carried_ok : {R : Type 0} (r : Result R SyntaxFault) (rest : R → List Token) (tree : R → X)
        → IfOk r (λ q. Takes A ca ba n ts (rest q) (tree q)) → IfOk r (λ q. Takes B cb bb n ts (rest q) (tree q))
    carried_ok r rest tree h = IfOk-weaker r (λ q. Takes A ca ba n ts (rest q) (tree q))
        (λ q. Takes B cb bb n ts (rest q) (tree q)) (λ q t. k.takes (rest q) (tree q) t) h

    pub carried_err : {R : Type 0} (end : Place) (r : Result R SyntaxFault) → IfErr r (Fails A ca ba no_sign n end ts)
        → IfErr r (Fails B cb bb no_sign n end ts)
    carried_err end r h = IfErr-weaker r (Fails A ca ba no_sign n end ts) (Fails B cb bb no_sign n end ts)
        (λ e f. k.fails end e f) h
