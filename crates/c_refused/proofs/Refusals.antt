-- The first refused token of a list: there is at most one, and none where no token is refused.
use Rattle.std.proofs.Common.{◌≡◌, ℕ, ◌++◌, List, [], ◌∷◌, Some, sym, ap, ◌∙◌}
use Rattle.std.proofs.lemmas.Option.{none-some}
use Rattle.fore_base.specs.declared.place.Place.{Place}
use Rattle.c_lexer.specs.declared.token.Token.{Token}
use Rattle.c_refused.specs.declared.refused.Refusal.{Refusal}
use Rattle.c_refused.specs.Refused.{rule_of, NoneRefused, IsFirstRefused}

-- of two readings of one list, the refused token behind tokens that are not is one token
same_token : (b c x y : List Token) (t u : Token) (r s : ℕ) → NoneRefused b → NoneRefused c → rule_of t ≡ Some r
    → rule_of u ≡ Some s
    → b ++ t ∷ x ≡ c ++ u ∷ y → t ≡ u
same_token [] [] x y t u r s p q m n e = cc e
same_token [] (d ∷ c) x y t u r s p q m n e =
    let same : d ≡ t = cc e in absurd (none-some r (sym q.0 ∙ ap rule_of same ∙ m))
same_token (d ∷ b) [] x y t u r s p q m n e =
    let same : d ≡ u = cc e in absurd (none-some s (sym p.0 ∙ ap rule_of same ∙ n))
same_token (d ∷ b) (f ∷ c) x y t u r s p q m n e = same_token b c x y t u r s p.1 q.1 m n (cc e)

pub first_is_one : (ts : List Token) (one other : Refusal) → IsFirstRefused ts one → IsFirstRefused ts other
    → one ≡ other
first_is_one ts one other f g =
    let same : f.token ≡ g.token =
    same_token f.before g.before f.after g.after f.token g.token one.rule other.rule f.none g.none f.rule g.rule
    (sym f.are ∙ g.are) in
    let rule : one.rule ≡ other.rule = cc (same, f.rule, g.rule) in
    let at : one.at ≡ other.at = cc (same, f.at, g.at) in
    let made : ℕ → Place → Refusal = λ r a. record { rule = r; at = a } in
    ap (λ r. made r one.at) rule ∙ ap (made other.rule) at

-- no token behind others is refused where none of the list is
none_within : (b x : List Token) (t : Token) (r : ℕ) → NoneRefused (b ++ t ∷ x) → rule_of t ≡ Some r → ⊥
none_within [] x t r p m = none-some r (sym p.0 ∙ m)
none_within (d ∷ b) x t r p m = none_within b x t r p.1 m

pub none_or_first : (ts : List Token) (one : Refusal) → NoneRefused ts → IsFirstRefused ts one → ⊥
none_or_first ts one p f = none_within f.before f.after f.token one.rule (let q = p in rw (sym f.are) q) f.rule
