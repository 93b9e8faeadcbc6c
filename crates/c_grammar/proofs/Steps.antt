-- The laws of parts, with the conditions on signs decided.
use Rattle.std.proofs.Common.{◌≡◌, ℕ, Bool, true, false, List, [], inl, not, refl, sym, subst, ◌∙◌}
use Rattle.std.specs.Result.{IsErrAnd}
use Rattle.std.specs.Prelude.{Result, Ok, Err, IfErr}
use Rattle.fore_base.specs.declared.place.Place.{Place}
use Rattle.c_lexer.specs.declared.token.Token.{Token}
use Rattle.c_grammar.specs.words.Faults.{Fails, Takes, Alive}
use Rattle.c_grammar.specs.Grammar.{Rule}
use Rattle.c_grammar.specs.words.Sets.{Signs, no_sign}
use Rattle.c_grammar.specs.Signs.{and, or_on}
use Rattle.c_grammar.specs.declared.signs.Sign.TheVariants.{Open, End}
use Rattle.c_grammar.specs.declared.fault.SyntaxFault.{SyntaxFault}
use Rattle.c_grammar.proofs.Decide.{every, implies, within, inside, apart_of}
use Rattle.c_grammar.proofs.Families.{both, choice}
use Rattle.c_grammar.proofs.Parts.{fails_within, takes_within, good_either, good_within, first_either, cont_either}
use Rattle.c_grammar.proofs.Rules.{Good, first_both, cont_both, bars_both, heads_after, good_both, fails_front}
use Rattle.c_grammar.proofs.Rules.{fails_back, takes_both, follows, calm_of, nonempty}
use Rattle.c_grammar.proofs.Endings.{Ends, ends_calm, ends_solid}
use Rattle.c_grammar.proofs.SignLemmas.{or_of, off, and_left, and_right, only_right}

abbrev pub Clear : Signs → Signs → Type 0
Clear p q = every (λ s. implies (p s) (not (q s))) ≡ true

abbrev pub Under : Signs → Signs → Type 0
Under p q = every (λ s. implies (p s) (q s)) ≡ true

-- the first part is not empty, but where it may be; no call's bracket opens a level at the front of the second
abbrev pub steady : Bool → Signs → Signs → Signs → Bool
steady na fa ba hb = and (or_on na (and (not (fa End)) (not (ba End)))) (not (hb Open))

abbrev pub Steady : Bool → Signs → Signs → Signs → Type 0
Steady na fa ba hb = steady na fa ba hb ≡ true

steady_calm : (na : Bool) (fa ba hb : Signs) → Steady na fa ba hb → hb Open ≡ false
steady_calm na fa ba hb h = off _ (and_right (or_on na (and (not (fa End)) (not (ba End)))) _ h)

steady_solid : {X : Type 0} {A : Rule X} {fa ca ba : Signs} {na : Bool} → Good A fa ca ba na → (hb : Signs)
    → Steady na fa ba hb → na ≡ false →
    {n : ℕ} {ts mid : List Token} {x : X} → (t : Takes A ca ba n ts mid x) → t.front ≡ [] → ⊥
steady_solid {fa = fa} {ba = ba} {na = na} good hb h full t =
    let both_off = only_right na _ (and_left _ (not (hb Open)) h) full in
    nonempty good full (off _ (and_left (not (fa End)) (not (ba End)) both_off))
    (off _ (and_right (not (fa End)) (not (ba End)) both_off)) t

module _ {X Y : Type 0} {A : Rule X} {B : Rule Y} {fa ca ba fb cb bb : Signs} {na nb : Bool} (ga : Good A fa ca ba na)
    (gb : Good B fb cb bb nb) (apart : Clear ca fb) where
  pub good_pair : Good (both A B) (first_both na fa fb) (cont_both nb ca cb) (bars_both ba bb) (and na nb)
  good_pair = good_both ga gb (apart_of ca fb apart)

  -- both parts are read
  pub pair : {n : ℕ} {ts mid rest : List Token} {x : X} {y : Y} → Takes A ca ba n ts mid x → Takes B cb bb n mid rest y
      → Takes (both A B) (cont_both nb ca cb) (bars_both ba bb) n ts rest (x, y)
  pair {n = n} {ts = ts} {mid = mid} {rest = rest} {x = x} {y = y} t u =
      takes_both ga gb (apart_of ca fb apart) n ts mid x t rest y u

  -- the first part fails
  pub in_front : {ha : Signs} {n : ℕ} {end : Place} {ts : List Token} {e : SyntaxFault} → Clear ba fb → Alive B bb n []
      → Fails A ca ba ha n end ts e →
      Fails (both A B) (cont_both nb ca cb) (bars_both ba bb) ha n end ts e
  in_front {ha = ha} {n = n} {end = end} {ts = ts} {e = e} free least f =
      fails_front ga gb (apart_of ca fb apart) {ha = ha} n end ts least
      (follows ga gb (apart_of ca fb apart) n (apart_of ba fb free) least) e f

  -- the second part fails
  pub in_back : {hb : Signs} {n : ℕ} {end : Place} {ts mid : List Token} {x : X} {e : SyntaxFault} → Clear ba fb
      → Steady na fa ba hb → Takes A ca ba n ts mid x → Fails B cb bb hb n end mid e →
      Fails (both A B) (cont_both nb ca cb) (bars_both ba bb) (heads_after na hb) n end ts e
  in_back {hb = hb} {n = n} {end = end} {ts = ts} {mid = mid} {x = x} {e = e} free steady t f =
      fails_back ga gb (apart_of ca fb apart) {hb = hb} n end ts mid x (λ s f. inl (apart_of ba fb free s f)) t
      (calm_of hb (steady_calm na fa ba hb steady) t.front) (λ full. steady_solid ga hb steady full t) e f

  -- the same, where a call's bracket may open a level at the front of the second part, since the first part ends with
  -- no name
  pub in_back_of : {hb : Signs} {n : ℕ} {end : Place} {ts mid : List Token} {x : X} {e : SyntaxFault} → Clear ba fb
      → Ends A → ba End ≡ false → Takes A ca ba n ts mid x → Fails B cb bb hb n end mid e →
      Fails (both A B) (cont_both nb ca cb) (bars_both ba bb) (heads_after na hb) n end ts e
  in_back_of {hb = hb} {n = n} {end = end} {ts = ts} {mid = mid} {x = x} {e = e} free ends bars t f =
      fails_back ga gb (apart_of ca fb apart) {hb = hb} n end ts mid x (λ s f. inl (apart_of ba fb free s f)) t
      (λ u _. ends_calm ends bars t u) (λ _. ends_solid ends bars t) e f

pub or_none : (b : Bool) → or_on b false ≡ b
or_none true = refl
or_none false = refl

-- two parts that are not empty, the first of which bars nothing: they begin as the first does, and go on as the second
pub good_chain : {X Y : Type 0} {A : Rule X} {B : Rule Y} {fa ca fb cb bb : Signs} → Good A fa ca no_sign false
    → Good B fb cb bb false → Clear ca fb → Good (both A B) fa cb bb false
good_chain {fa = fa} {cb = cb} {bb = bb} ga gb apart =
    good_within fa cb bb (λ s h. sym (or_none (fa s)) ∙ h) (λ s h. or_of (cb s) false h refl) (λ s h. h)
    (good_pair ga gb apart)

pub good_or : {X : Type 0} {A B : Rule X} {fa ca ba fb cb bb : Signs} {na nb : Bool} (ga : Good A fa ca ba na)
    (gb : Good B fb cb bb nb) → Clear fa fb → and na nb ≡ false →
    Good (choice A B) (first_either fa fb) (cont_either fa ca na fb cb nb) (bars_both ba bb) (or_on na nb)
good_or {fa = fa} {fb = fb} ga gb apart full = good_either ga gb (apart_of fa fb apart) full

pub widen_takes : {X : Type 0} {A : Rule X} {ca ba : Signs} (cb bb : Signs) {n : ℕ} {ts rest : List Token} {x : X}
    → Under ca cb → Under ba bb → Takes A ca ba n ts rest x → Takes A cb bb n ts rest x
widen_takes {ca = ca} {ba = ba} cb bb c b t = takes_within (within ca cb c) (within ba bb b) t

pub widen_fails : {X : Type 0} {A : Rule X} {ca ba ha : Signs} (cb bb hb : Signs) {n : ℕ} {end : Place}
    {ts : List Token} {e : SyntaxFault} → Under ca cb → Under ba bb → Under ha hb →
    Fails A ca ba ha n end ts e → Fails A cb bb hb n end ts e
widen_fails {ca = ca} {ba = ba} {ha = ha} cb bb hb c b h f =
    fails_within (within ca cb c) (within ba bb b) (inside ha hb h) _ f

-- what the exit of a `?` returns
pub passed : {T : Type 0} (r : Result T SyntaxFault) (P : SyntaxFault → Type 0) {f : SyntaxFault}
    → IsErrAnd r (λ e. e ≡ f) → P f → IfErr r P
passed (Ok x) P h p = absurd h
passed (Err e) P h p = subst P (sym h) p
