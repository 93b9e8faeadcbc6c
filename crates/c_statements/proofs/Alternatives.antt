-- One rule or another, or one of several, where nothing continues any and the same signs are barred after all: the laws
-- of choices, with the conditions on signs decided once.
use Rattle.std.proofs.Common.{◌≡◌, ℕ, Bool, true, false, not, List, refl}
use Rattle.fore_base.specs.declared.place.Place.{Place}
use Rattle.c_lexer.specs.declared.token.Token.{Token}
use Rattle.c_grammar.specs.Grammar.{Rule}
use Rattle.c_grammar.specs.Signs.{and, sign_at}
use Rattle.c_grammar.specs.declared.signs.Sign.{Sign}
use Rattle.c_grammar.specs.declared.fault.SyntaxFault.{SyntaxFault}
use Rattle.c_grammar.specs.words.Faults.{Fails, Takes}
use Rattle.c_grammar.specs.words.Sets.{Signs, no_sign}
use Rattle.c_grammar.proofs.Carrying.{Carries, over}
use Rattle.c_grammar.proofs.Choices.{left_takes, right_takes, left_fails, right_fails}
use Rattle.c_grammar.proofs.Decide.{every, implies}
use Rattle.c_grammar.proofs.Families.{choice}
use Rattle.c_grammar.proofs.Goods.{contd}
use Rattle.c_grammar.proofs.Parts.{first_either}
use Rattle.c_grammar.proofs.Rules.{Good, bars_both}
use Rattle.c_grammar.proofs.SignLemmas.{and_left, and_right}
use Rattle.c_grammar.proofs.Steps.{Clear, Under, good_or, widen_takes, widen_fails}

module _ {X : Type 0} {A B : Rule X} {fa fb bars : Signs} (ga : Good A fa no_sign bars false)
    (gb : Good B fb no_sign bars false) (apart : Clear fa fb) (both : Under (bars_both bars bars) bars) where
  pub either : Good (choice A B) (first_either fa fb) no_sign bars false
  either = contd no_sign bars (good_or ga gb apart refl) refl both

  pub first_takes : {n : ℕ} {ts rest : List Token} {x : X} → fa (sign_at ts) ≡ true
      → Takes A no_sign bars n ts rest x → Takes (choice A B) no_sign bars n ts rest x
  first_takes first t = widen_takes no_sign bars refl both (left_takes ga gb apart refl first t)

  pub first_fails : {n : ℕ} {end : Place} {ts : List Token} {e : SyntaxFault} → fa (sign_at ts) ≡ true
      → Fails A no_sign bars no_sign n end ts e → Fails (choice A B) no_sign bars no_sign n end ts e
  first_fails first f = widen_fails no_sign bars no_sign refl both refl (left_fails ga gb apart refl first f)

  pub second_takes : {n : ℕ} {ts rest : List Token} {x : X} → fa (sign_at ts) ≡ false
      → Takes B no_sign bars n ts rest x → Takes (choice A B) no_sign bars n ts rest x
  second_takes other t = widen_takes no_sign bars refl both (right_takes ga gb apart refl refl other t)

  pub second_fails : {n : ℕ} {end : Place} {ts : List Token} {e : SyntaxFault} → fa (sign_at ts) ≡ false
      → Fails B no_sign bars no_sign n end ts e → Fails (choice A B) no_sign bars no_sign n end ts e
  second_fails other f = widen_fails no_sign bars no_sign refl both refl (right_fails ga gb apart refl refl other f)

  pub first_carries : {n : ℕ} {ts : List Token} → fa (sign_at ts) ≡ true
      → Carries A no_sign bars (choice A B) no_sign bars n ts
  first_carries first = record { takes = λ rest x t. first_takes first t; fails = λ end e f. first_fails first f }

  pub second_carries : {n : ℕ} {ts : List Token} → fa (sign_at ts) ≡ false
      → Carries B no_sign bars (choice A B) no_sign bars n ts
  second_carries other = record { takes = λ rest x t. second_takes other t; fails = λ end e f. second_fails other f }

-- rules, one of which is read
pub data Alternatives (X : Type 0) (bars : Signs) : Type 1 where
  last : {A : Rule X} {f : Signs} → Good A f no_sign bars false → Alternatives X bars
  before : {A : Rule X} {f : Signs} → Good A f no_sign bars false → Alternatives X bars → Alternatives X bars

abbrev pub choice_of : {X : Type 0} {bars : Signs} → Alternatives X bars → Rule X
choice_of (last {A = A} good) = A
choice_of (before {A = A} good others) = choice A (choice_of others)

abbrev pub begins : {X : Type 0} {bars : Signs} → Alternatives X bars → Signs
begins (last {f = f} good) = f
begins (before {f = f} good others) = first_either f (begins others)

-- each begins apart from those after it
abbrev pub distinct : {X : Type 0} {bars : Signs} → Alternatives X bars → Bool
distinct (last good) = true
distinct (before {f = f} good others) = and (every (λ s. implies (f s) (not (begins others s)))) (distinct others)

-- a sign begins this rule, and none of those before it
pub data Picks {X : Type 0} {bars : Signs} (s : Sign) : Rule X → Alternatives X bars → Type 1 where
  only : {A : Rule X} {f : Signs} {good : Good A f no_sign bars false} → Picks s A (last good)
  here : {A : Rule X} {f : Signs} {good : Good A f no_sign bars false} {others : Alternatives X bars} → f s ≡ true
      → Picks s A (before good others)
  later : {A B : Rule X} {f : Signs} {good : Good A f no_sign bars false} {others : Alternatives X bars} → f s ≡ false
      → Picks s B others → Picks s B (before good others)

module _ {X : Type 0} {bars : Signs} (both : Under (bars_both bars bars) bars) where
  clear : (f : Signs) (others : Alternatives X bars)
      → and (every (λ s. implies (f s) (not (begins others s)))) (distinct others) ≡ true → Clear f (begins others)
  clear f others = and_left (every (λ s. implies (f s) (not (begins others s)))) (distinct others)

  rest : (f : Signs) (others : Alternatives X bars)
      → and (every (λ s. implies (f s) (not (begins others s)))) (distinct others) ≡ true → distinct others ≡ true
  rest f others = and_right (every (λ s. implies (f s) (not (begins others s)))) (distinct others)

  pub good_choice : (all : Alternatives X bars) → distinct all ≡ true
      → Good (choice_of all) (begins all) no_sign bars false
  good_choice (last good) apart = good
  good_choice (before {f = f} good others) apart =
      either good (good_choice others (rest f others apart)) (clear f others apart) both

  -- what a rule reads that the next token begins, the choice reads
  pub picked : (all : Alternatives X bars) → distinct all ≡ true → {B : Rule X} {n : ℕ} {ts : List Token}
      → Picks (sign_at ts) B all → Carries B no_sign bars (choice_of all) no_sign bars n ts
  picked (last good) apart only = record { takes = λ rest x t. t; fails = λ end e h. h }
  picked (before {f = f} good others) apart (here h) =
      first_carries good (good_choice others (rest f others apart)) (clear f others apart) both h
  picked (before {f = f} good others) apart (later h p) =
      over (picked others (rest f others apart) p)
      (second_carries good (good_choice others (rest f others apart)) (clear f others apart) both h)
