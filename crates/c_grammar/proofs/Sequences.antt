-- What the parts of a sequence are given to the whole: shortest readings, and parts that are read into what the whole
-- makes of them.
use Rattle.std.proofs.Common.{◌≡◌, ◌≢◌, ℕ, Bool, false, List, [], ◌∷◌, ◌++◌, refl, sym, ◌∙◌, subst, append_assoc, inl}
use Rattle.std.proofs.Common.{inr}
use Rattle.std.proofs.lemmas.List.{append_cancel_right}
use Rattle.fore_base.specs.declared.place.Place.{Place}
use Rattle.c_lexer.specs.declared.token.Token.{Token}
use Rattle.c_grammar.specs.Grammar.{Rule}
use Rattle.c_grammar.specs.Syntax.{at, at_of, bracketed, middle}
use Rattle.c_grammar.specs.declared.fault.SyntaxFault.{SyntaxFault}
use Rattle.c_grammar.specs.declared.signs.Sign.{Sign}
use Rattle.c_grammar.specs.declared.signs.Sign.TheVariants.{Open, Close, End}
use Rattle.c_grammar.specs.words.Faults.{Alive, Fails, Takes}
use Rattle.c_grammar.specs.words.Sets.{Signs, among, no_sign}
use Rattle.c_grammar.proofs.Decide.{apart_of}
use Rattle.c_grammar.proofs.Families.{both, made, one}
use Rattle.c_grammar.proofs.Goods.{good_one}
use Rattle.c_grammar.proofs.Parts.{alive_made, least_token}
use Rattle.c_grammar.proofs.Rules.{Good, alive_front, fails_map, follows, bars_both}
use Rattle.c_grammar.proofs.Steps.{Clear, good_pair}
use Rattle.c_grammar.proofs.Tokens.{sample, sampled, real}

-- the same, with an equal tree
pub takes_as : {X : Type 0} {A : Rule X} {ca ba : Signs} {n : ℕ} {ts rest : List Token} {x : X} (y : X) → y ≡ x
    → Takes A ca ba n ts rest x → Takes A ca ba n ts rest y
takes_as {A = A} {ca = ca} {ba = ba} {n = n} {ts = ts} {rest = rest} y e t =
    subst (λ x. Takes A ca ba n ts rest x) (sym e) t

-- a token is there to be read
pub least_one : (s : Sign) → s ≢ End → (n : ℕ) → Alive (one s) no_sign n []
least_one s h n = least_token s (sample s) (sampled s h) n

pub least_at : (s : Sign) → s ≢ End → (n : ℕ) → Alive (λ n. at s) no_sign n []
least_at s h n = alive_made {A = one s} at_of (least_one s h n)

pub least_pair : {X Y : Type 0} {A : Rule X} {B : Rule Y} {fa ca ba fb cb bb : Signs} {na nb : Bool}
    (ga : Good A fa ca ba na) (gb : Good B fb cb bb nb) → Clear ca fb → Clear ba fb →
    (n : ℕ) → Alive A ba n [] → Alive B bb n [] → Alive (both A B) (bars_both ba bb) n []
least_pair {ca = ca} {ba = ba} {fb = fb} ga gb apart free n a b =
    alive_front ga gb (apart_of ca fb apart) n [] a b (follows ga gb (apart_of ca fb apart) n (apart_of ba fb free) b)

pub least_bracketed : {X : Type 0} {A : Rule X} {fa ca : Signs} {na : Bool} → Good A fa ca no_sign na
    → Clear ca (among (Close ∷ [])) → (n : ℕ) → Alive A no_sign n [] → Alive (λ n. bracketed (A n)) no_sign n []
least_bracketed ga clear n a = alive_made middle
    (least_pair (good_one Open) (good_pair ga (good_one Close) clear) refl refl n (least_one Open (real Open tt) n)
    (least_pair ga (good_one Close) clear refl n a (least_one Close (real Close tt) n)))

-- what was read into what the whole makes of it, was read
module _ {X Y : Type 0} {A : Rule X} {fa ca ba : Signs} {na : Bool} (ga : Good A fa ca ba na) (f : X → Y) where
  pub takes_unmade : {n : ℕ} {ts rest : List Token} {y : Y} → Takes (made f A) ca ba n ts rest y → (x : X) × (y ≡ f x)
      × Takes A ca ba n ts rest x
  takes_unmade {n = n} {ts = ts} {rest = rest} t =
      let r = t.alike rest (inl refl) in
      let p = ga.front n (t.front ++ rest) rest r.part r.read in
      let same = append_cancel_right t.front p.front rest p.is in (
        r.part,
        r.is,
        record {
          front = t.front;
          is = t.is;
          alike = λ y h. subst (λ l. A n (l ++ y) y r.part) (sym same) (p.alike y h);
          only = λ m z y u same h q. t.only m z y (f u) same h (record { part = u; read = q; is = refl });
        },
      )

  alive_unmade : (n : ℕ) (pre : List Token) → ba End ≡ false → Alive (made f A) ba n pre → Alive A ba n pre
  alive_unmade n pre open_end a =
      let r = a.reads [] open_end in
      let p = ga.front n (pre ++ (a.more ++ [])) [] r.part r.read in
      let same : pre ++ a.more ≡ p.front =
      append_cancel_right (pre ++ a.more) p.front [] (append_assoc pre a.more [] ∙ p.is) in
      record {
        more = a.more;
        tree = r.part;
        reads = λ y h. subst (λ l. A n l y r.part) (append_assoc pre a.more y)
            (subst (λ l. A n (l ++ y) y r.part) (sym same) (p.alike y (inr h)));
      }

  pub fails_unmade : {ha : Signs} {n : ℕ} {end : Place} {ts : List Token} → ba End ≡ false → (e : SyntaxFault)
      → Fails (made f A) ca ba ha n end ts e → Fails A ca ba ha n end ts e
  fails_unmade {n = n} h e p = fails_map n (λ m le pre a. alive_unmade m pre h a)
      (λ m pre post is d z y x same k r. d z y (f x) same k (record { part = x; read = r; is = refl })) (λ s h. h) e p
