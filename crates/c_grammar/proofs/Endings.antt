-- Parts that end with a token that is no name.
use Rattle.std.proofs.Common.{◌≡◌, ℕ, Bool, false, List, [], ◌∷◌, ◌++◌, sym, ap, ◌∙◌, subst, inl, inr, append_assoc}
use Rattle.std.proofs.Common.{cond}
use Rattle.std.proofs.lemmas.List.{append-nil}
use Rattle.c_lexer.specs.declared.token.Token.{Token}
use Rattle.c_grammar.specs.Grammar.{Rule}
use Rattle.c_grammar.specs.Hopeless.{opener, opener_of}
use Rattle.c_grammar.specs.Signs.{and, same_sign, sign_of}
use Rattle.c_grammar.specs.Syntax.{at, at_of}
use Rattle.c_grammar.specs.words.Faults.{Takes}
use Rattle.c_grammar.specs.words.Sets.{Signs}
use Rattle.c_grammar.specs.declared.signs.Sign.{Sign}
use Rattle.c_grammar.specs.declared.signs.Sign.TheVariants.{Id, Open, End}
use Rattle.c_grammar.proofs.Families.{both, choice, made, one}
use Rattle.c_grammar.proofs.Rules.{Good, IsCons, opener_after, nil_back}

-- the last token that was read is no name
pub record Ended (ts rest : List Token) : Type 0 where
  pub front : List Token
  pub last : Token
  pub is : ts ≡ front ++ last ∷ rest
  pub other : same_sign Id (sign_of last) ≡ false

abbrev pub Ends : {X : Type 0} → Rule X → Type 0
Ends {X} A = (n : ℕ) (ts rest : List Token) (x : X) → A n ts rest x → Ended ts rest

pub ends_one : (s : Sign) → same_sign Id s ≡ false → Ends (one s)
ends_one s h n ts rest x r = record { front = []; last = x; is = r.0; other = ap (same_sign Id) r.1 ∙ h }

pub ends_made : {X Y : Type 0} {A : Rule X} (f : X → Y) → Ends A → Ends (made f A)
ends_made f ends n ts rest x r = ends n ts rest r.part r.read

pub ends_at : (s : Sign) → same_sign Id s ≡ false → Ends (λ n. at s)
ends_at s h = ends_made at_of (ends_one s h)

pub ends_either : {X : Type 0} {A B : Rule X} → Ends A → Ends B → Ends (choice A B)
ends_either a b n ts rest x (inl r) = a n ts rest x r
ends_either a b n ts rest x (inr r) = b n ts rest x r

-- what was read is a front of the tokens
pub ends_both : {X Y : Type 0} {A : Rule X} {B : Rule Y}
    → ((n : ℕ) (ts rest : List Token) (x : X) → A n ts rest x → (front : List Token) × (ts ≡ front ++ rest)) → Ends B
    → Ends (both A B)
ends_both fronts ends n ts rest x r =
    let a = fronts n ts r.mid x.0 r.front in
    let b = ends n r.mid rest x.1 r.back in
    record {
      front = a.0 ++ b.front;
      last = b.last;
      is = a.1 ∙ ap (λ l. a.0 ++ l) b.is
          ∙ sym (append_assoc a.0 b.front (b.last ∷ rest));
      other = b.other;
    }

ended_front : {X : Type 0} {A : Rule X} {ca ba : Signs} → Ends A → ba End ≡ false
    → {n : ℕ} {ts mid : List Token} {x : X} → (t : Takes A ca ba n ts mid x) → Ended (t.front ++ []) []
ended_front ends bars {n = n} {x = x} t = ends n _ [] x (t.alike [] (inr bars))

not_nil : (t : Token) (ts : List Token) → t ∷ ts ≡ [] → ⊥
not_nil t ts e = subst IsCons e tt

last_other : (p t : Token) → same_sign Id (sign_of p) ≡ false → opener_of p t ≡ t
last_other p t h = ap (λ b. cond (and b (same_sign Open (sign_of t))) p t) h

pub ends_calm : {X : Type 0} {A : Rule X} {ca ba : Signs} → Ends A → ba End ≡ false
    → {n : ℕ} {ts mid : List Token} {x : X} → (t : Takes A ca ba n ts mid x) → (u : Token) → opener t.front u ≡ u
ends_calm ends bars t u =
    let e = ended_front ends bars t in
    ap (λ l. opener l u) (sym (append-nil t.front) ∙ e.is)
    ∙ opener_after e.front (e.last ∷ []) u (λ h. absurd (not_nil e.last [] h)) ∙ last_other e.last u e.other

pub ends_solid : {X : Type 0} {A : Rule X} {ca ba : Signs} → Ends A → ba End ≡ false
    → {n : ℕ} {ts mid : List Token} {x : X} → (t : Takes A ca ba n ts mid x) → t.front ≡ [] → ⊥
ends_solid ends bars t h = let e = ended_front ends bars t in
    not_nil e.last [] (nil_back e.front (e.last ∷ []) (sym e.is ∙ append-nil t.front ∙ h))

-- what stands first in the head of a `for` ends with a semicolon
fronts_of : {X : Type 0} {A : Rule X} {fa ca ba : Signs} {na : Bool} → Good A fa ca ba na
    → (n : ℕ) (ts rest : List Token) (x : X) → A n ts rest x → (front : List Token) × (ts ≡ front ++ rest)
fronts_of good n ts rest x r = let p = good.front n ts rest x r in (p.front, p.is)

pub ends_pair : {X Y : Type 0} {A : Rule X} {B : Rule Y} {fa ca ba : Signs} {na : Bool} → Good A fa ca ba na → Ends B
    → Ends (both A B)
ends_pair good ends = ends_both (fronts_of good) ends
