-- A repetition that is read part by part.
use Rattle.std.proofs.Common.{not, ◌≤◌, length, length-append, arith, inl, ◌≡◌, ℕ, true, false, List, [], ◌∷◌, ◌++◌}
use Rattle.std.proofs.Common.{refl, sym, ap, subst, append_assoc}
use Rattle.std.proofs.lemmas.List.{append-nil}
use Rattle.fore_base.specs.declared.place.Place.{Place}
use Rattle.c_lexer.specs.declared.token.Token.{Token}
use Rattle.c_grammar.specs.words.Faults.{Fails, Takes}
use Rattle.c_grammar.specs.Grammar.{Rule}
use Rattle.c_grammar.specs.words.Sets.{Signs}
use Rattle.c_grammar.specs.Signs.{sign_at}
use Rattle.c_grammar.proofs.Decide.{every, implies, apart_of}
use Rattle.c_grammar.proofs.SignLemmas.{clash}
use Rattle.c_grammar.specs.declared.signs.Sign.TheVariants.{Open, End}
use Rattle.c_grammar.specs.declared.fault.SyntaxFault.{SyntaxFault}
use Rattle.c_grammar.proofs.Families.{many}
use Rattle.c_grammar.proofs.Parts.{fails_within}
use Rattle.c_grammar.proofs.Repeats.{cont_many, good_many, takes_none, takes_more, fails_many, least_many}
use Rattle.c_grammar.proofs.Rules.{Apart, Good, fails_front, fails_back, follows, calm_of, nonempty}

-- from these tokens on parts were read up to those: what is read from there on is read by the whole rule after them
pub record Leads {X : Type 0} (A : Rule X) (fa ca ba ha : Signs) (R : Rule (List X)) (cr br hr : Signs) (n : ℕ)
    (end : Place) (ts mid : List Token) (xs : List X) : Type 0 where
  pub takes : (rest : List Token) (ys : List X) → Takes (many A) (cont_many fa ca) ba n mid rest ys
      → Takes R cr br n ts rest (xs ++ ys)
  pub fails : (e : SyntaxFault) → Fails (many A) (cont_many fa ca) ba ha n end mid e → Fails R cr br hr n end ts e

pub leads_none : {X : Type 0} (A : Rule X) (fa ca ba ha : Signs) (n : ℕ) (end : Place) (ts : List Token)
    → Leads A fa ca ba ha (many A) (cont_many fa ca) ba ha n end ts ts []
leads_none A fa ca ba ha n end ts = record { takes = λ rest ys t. t; fails = λ e f. f }

-- the same, of an equal list
pub leads_as : {X : Type 0} {A : Rule X} {fa ca ba ha : Signs} {R : Rule (List X)} {cr br hr : Signs} {n : ℕ}
    {end : Place} {ts mid : List Token} {xs ys : List X} → ys ≡ xs →
    Leads A fa ca ba ha R cr br hr n end ts mid xs → Leads A fa ca ba ha R cr br hr n end ts mid ys
leads_as {A = A} {fa = fa} {ca = ca} {ba = ba} {ha = ha} {R = R} {cr = cr} {br = br} {hr = hr} {n = n} {end = end}
    {ts = ts} {mid = mid} e l =
    subst (λ l. Leads A fa ca ba ha R cr br hr n end ts mid l) (sym e) l

-- what holds of a part of a repetition: what continues it and what bars it do not begin it; no call's bracket opens a
-- level at its front
pub record Lists (fa ca ba ha : Signs) : Type 0 where
  pub apart : Apart ca fa
  pub free : Apart ba fa
  pub calm : ha Open ≡ false
  pub first : fa End ≡ false
  pub bars : ba End ≡ false

module _ {X : Type 0} {A : Rule X} {fa ca ba ha : Signs} {R : Rule (List X)} {cr br hr : Signs}
    (ga : Good A fa ca ba false) (l : Lists fa ca ba ha)
    {n : ℕ} {end : Place} {ts mid : List Token} {xs : List X} (leads : Leads A fa ca ba ha R cr br hr n end ts mid xs)
  where
    pub leads_more : (next : List Token) (x : X) → fa (sign_at mid) ≡ true → Takes A ca ba n mid next x
        → Leads A fa ca ba ha R cr br hr n end ts next (xs ++ x ∷ [])
    leads_more next x first t = record {
      takes = λ rest ys u. subst (λ l. Takes R cr br n ts rest l) (sym (append_assoc xs (x ∷ []) ys))
          (leads.takes rest (x ∷ ys) (takes_more ga l.apart l.free n mid next rest x ys t u first));
      fails = λ e f. leads.fails e
          (fails_many ga l.apart l.free n end mid first e
          (fails_within (λ s h. h) (λ s h. h) (λ s h. absurd (clash (sym h))) e
          (fails_back ga (good_many ga l.apart l.free) l.apart {hb = ha} n end mid next x (λ s f. inl (l.free s f)) t
          (calm_of ha l.calm t.front) (λ _. nonempty ga refl l.first l.bars t) e f)));
    }

    pub leads_end : fa (sign_at mid) ≡ false → Takes R cr br n ts mid xs
    leads_end other = subst (λ l. Takes R cr br n ts mid l) (append-nil xs)
        (leads.takes mid [] (takes_none ga l.apart l.free n mid other))

    pub leads_stuck : fa (sign_at mid) ≡ true → (e : SyntaxFault) → Fails A ca ba ha n end mid e
        → Fails R cr br hr n end ts e
    leads_stuck first e f = leads.fails e (fails_many ga l.apart l.free n end mid first e
        (fails_front ga (good_many ga l.apart l.free) l.apart {ha = ha} n end mid (least_many A ba n)
        (follows ga (good_many ga l.apart l.free) l.apart n l.free (least_many A ba n)) e f))

pub takes_length : {X : Type 0} {A : Rule X} {ca ba : Signs} {n : ℕ} {ts rest : List Token} {x : X}
    → Takes A ca ba n ts rest x → length rest ≤ length ts
takes_length {ts = ts} {rest = rest} t = omega (arith, ap (λ l. length l) t.is, length-append t.front rest)

-- the same, decided
pub lists : (fa ca ba ha : Signs) → every (λ s. implies (ca s) (not (fa s))) ≡ true
    → every (λ s. implies (ba s) (not (fa s))) ≡ true → ha Open ≡ false → fa End ≡ false → ba End ≡ false
    → Lists fa ca ba ha
lists fa ca ba ha a b c f e =
    record { apart = apart_of ca fa a; free = apart_of ba fa b; calm = c; first = f; bars = e }
