-- A part, or two, and a token that closes them: where each of these fails, and what is read.
use Rattle.std.proofs.Common.{◌≡◌, ◌≢◌, ℕ, Bool, false, List, [], ◌∷◌, refl}
use Rattle.fore_base.specs.declared.place.Place.{Place}
use Rattle.c_lexer.specs.declared.token.Token.{Token}
use Rattle.c_grammar.specs.Grammar.{Rule}
use Rattle.c_grammar.specs.Hopeless.{place_at}
use Rattle.c_grammar.specs.Signs.{and, sign_at, sign_of}
use Rattle.c_grammar.specs.declared.fault.SyntaxFault.{SyntaxFault}
use Rattle.c_grammar.specs.declared.fault.SyntaxFault.TheVariants.{Syntax}
use Rattle.c_grammar.specs.declared.signs.Sign.{Sign}
use Rattle.c_grammar.specs.declared.signs.Sign.TheVariants.{End}
use Rattle.c_grammar.specs.words.Faults.{Alive, Fails, Takes}
use Rattle.c_grammar.specs.words.Sets.{Signs, among, no_sign}
use Rattle.c_grammar.proofs.Endings.{Ends}
use Rattle.c_grammar.proofs.Families.{both, made, one}
use Rattle.c_grammar.proofs.Goods.{good_one}
use Rattle.c_grammar.proofs.Parts.{takes_made, fails_made}
use Rattle.c_grammar.proofs.Rules.{Good, first_both, cont_both, bars_both, heads_after}
use Rattle.c_grammar.proofs.Sequences.{least_one, least_pair}
use Rattle.c_grammar.proofs.Steps.{Clear, Steady, Under, good_pair, pair, in_front, in_back, in_back_of, widen_takes}
use Rattle.c_grammar.proofs.Steps.{widen_fails}
use Rattle.c_grammar.proofs.Tokens.{fails_token, reads_token}

-- a part, and the token behind it, which neither continues it nor is barred there
pub record Closed {X : Type 0} (A : Rule X) (fa ca ba : Signs) (na : Bool) (close : Sign) : Type 0 where
  pub part : Good A fa ca ba na
  pub real : close ≢ End
  pub apart : Clear ca (among (close ∷ []))
  pub free : Clear ba (among (close ∷ []))
  pub steady : Steady na fa ba no_sign

pub closed : {X : Type 0} {A : Rule X} {fa ca ba : Signs} {na : Bool} {close : Sign} → Good A fa ca ba na → close ≢ End
    → Clear ca (among (close ∷ [])) → Clear ba (among (close ∷ [])) → Steady na fa ba no_sign →
    Closed A fa ca ba na close
closed good real apart free steady =
    record { part = good; real = real; apart = apart; free = free; steady = steady }

module _ {X : Type 0} {A : Rule X} {fa ca ba : Signs} {na : Bool} {close : Sign} (k : Closed A fa ca ba na close) where
  pub good_closed : Good (both A (one close)) (first_both na fa (among (close ∷ []))) (cont_both false ca no_sign)
      (bars_both ba no_sign) (and na false)
  good_closed = good_pair k.part (good_one close) k.apart

  pub least_closed : (n : ℕ) → Alive A ba n [] → Alive (both A (one close)) (bars_both ba no_sign) n []
  least_closed n a = least_pair k.part (good_one close) k.apart k.free n a (least_one close k.real n)

  pub part_fails : {ha : Signs} {n : ℕ} {end : Place} {ts : List Token} {e : SyntaxFault} → Fails A ca ba ha n end ts e
      → Fails (both A (one close)) (cont_both false ca no_sign) (bars_both ba no_sign) ha n end ts e
  part_fails {n = n} f = in_front k.part (good_one close) k.apart k.free (least_one close k.real n) f

  pub close_fails : {n : ℕ} {end : Place} {ts mid : List Token} {x : X} {e : SyntaxFault} → Takes A ca ba n ts mid x
      → (e ≡ Syntax (place_at end mid)) × (sign_at mid ≢ close) →
      Fails (both A (one close)) (cont_both false ca no_sign) (bars_both ba no_sign) (heads_after na no_sign) n end ts e
  close_fails t h = in_back k.part (good_one close) k.apart k.free k.steady t (fails_token close k.real h)

  pub takes_closed : {n : ℕ} {ts mid rest : List Token} {x : X} {t : Token} → Takes A ca ba n ts mid x
      → (mid ≡ t ∷ rest) × (sign_of t ≡ close) →
      Takes (both A (one close)) (cont_both false ca no_sign) (bars_both ba no_sign) n ts rest (x, t)
  takes_closed u h = pair k.part (good_one close) k.apart u (reads_token close h)

-- a part that nothing continues, one behind it, and the token that closes them
pub record Enclosed {X Y : Type 0} (A : Rule X) (fa : Signs) (B : Rule Y) (fb cb bb : Signs) (nb : Bool) (close : Sign)
    (bars : Signs) : Type 0 where
  pub outer : Good A fa no_sign no_sign false
  pub closed : Closed B fb cb bb nb close
  pub apart : Clear no_sign (first_both nb fb (among (close ∷ [])))
  pub steady : Steady false fa no_sign (heads_after nb no_sign)
  pub ended : Under (cont_both (and nb false) no_sign (cont_both false cb no_sign)) no_sign
  pub barred : Under (bars_both no_sign (bars_both bb no_sign)) bars
  pub least : (n : ℕ) → Alive B bb n []

pub enclosed : {X Y : Type 0} {A : Rule X} {B : Rule Y} {fa fb cb bb bars : Signs} {nb : Bool} {close : Sign}
    → Good A fa no_sign no_sign false → Closed B fb cb bb nb close → ((n : ℕ) → Alive B bb n []) →
    Clear no_sign (first_both nb fb (among (close ∷ []))) → Steady false fa no_sign (heads_after nb no_sign) →
    Under (cont_both (and nb false) no_sign (cont_both false cb no_sign)) no_sign →
    Under (bars_both no_sign (bars_both bb no_sign)) bars → Enclosed A fa B fb cb bb nb close bars
enclosed outer inner least apart steady ended barred =
    record {
      outer = outer;
      closed = inner;
      apart = apart;
      steady = steady;
      ended = ended;
      barred = barred;
      least = least;
    }

module _ {X Y Z : Type 0} {A : Rule X} {B : Rule Y} {fa fb cb bb bars : Signs} {nb : Bool} {close : Sign}
    (k : Enclosed A fa B fb cb bb nb close bars) (f : X × (Y × Token) → Z) where
  pub outer_fails : {n : ℕ} {end : Place} {ts : List Token} {e : SyntaxFault}
      → Fails A no_sign no_sign no_sign n end ts e →
      Fails (made f (both A (both B (one close)))) no_sign bars no_sign n end ts e
  outer_fails {n = n} h = widen_fails no_sign bars no_sign k.ended k.barred refl
      (fails_made f _
      (in_front k.outer (good_closed k.closed) k.apart k.apart (least_closed k.closed n (k.least n)) h))

  pub inner_fails : {hb : Signs} {n : ℕ} {end : Place} {ts mid : List Token} {x : X} {e : SyntaxFault}
      → Steady false fa no_sign hb → Takes A no_sign no_sign n ts mid x → Fails B cb bb hb n end mid e →
      Fails (made f (both A (both B (one close)))) no_sign bars no_sign n end ts e
  inner_fails calm t h = widen_fails no_sign bars no_sign k.ended k.barred refl
      (fails_made f _ (in_back k.outer (good_closed k.closed) k.apart k.apart calm t (part_fails k.closed h)))

  -- the same, where a call's bracket may open a level at the front of the inner part
  pub inner_fails_of : {hb : Signs} {n : ℕ} {end : Place} {ts mid : List Token} {x : X} {e : SyntaxFault} → Ends A
      → Takes A no_sign no_sign n ts mid x → Fails B cb bb hb n end mid e →
      Fails (made f (both A (both B (one close)))) no_sign bars no_sign n end ts e
  inner_fails_of ends t h = widen_fails no_sign bars no_sign k.ended k.barred refl
      (fails_made f _ (in_back_of k.outer (good_closed k.closed) k.apart k.apart ends refl t (part_fails k.closed h)))

  pub end_fails : {n : ℕ} {end : Place} {ts mid rest : List Token} {x : X} {y : Y} {e : SyntaxFault}
      → Takes A no_sign no_sign n ts mid x → Takes B cb bb n mid rest y
      → (e ≡ Syntax (place_at end rest)) × (sign_at rest ≢ close) →
      Fails (made f (both A (both B (one close)))) no_sign bars no_sign n end ts e
  end_fails t u h = widen_fails no_sign bars no_sign k.ended k.barred refl
      (fails_made f _ (in_back k.outer (good_closed k.closed) k.apart k.apart k.steady t (close_fails k.closed u h)))

  pub takes_enclosed : {n : ℕ} {ts mid later rest : List Token} {x : X} {y : Y} {t : Token}
      → Takes A no_sign no_sign n ts mid x → Takes B cb bb n mid later y → (later ≡ t ∷ rest) × (sign_of t ≡ close) →
      Takes (made f (both A (both B (one close)))) no_sign bars n ts rest (f (x, (y, t)))
  takes_enclosed t u h = widen_takes no_sign bars k.ended k.barred
      (takes_made f (pair k.outer (good_closed k.closed) k.apart t (takes_closed k.closed u h)))
