-- A list of tokens is whole, or hopeless at one place, or too deep: no two of these.
use Rattle.std.proofs.Common.{◌≡◌, ◌⊎◌, ℕ, List, [], ◌∷◌, ◌++◌, refl, sym, ap, ◌∙◌, subst, append_assoc, inl, inr}
use Rattle.std.proofs.lemmas.List.{append-nil}
use Rattle.fore_base.specs.declared.place.Place.{Place}
use Rattle.c_lexer.specs.declared.token.Token.{Token}
use Rattle.c_grammar.specs.Grammar.{Rule}
use Rattle.c_grammar.specs.Hopeless.{IsWhole, IsAliveWithin, IsAlive, IsHopelessAt, IsSyntaxAt, IsDeepAt, opener}
use Rattle.c_grammar.specs.Hopeless.{place_at}
use Rattle.c_grammar.proofs.Rules.{first_or, rest_of}

-- of two fronts of a list one is a front of the other
abbrev Longer : List Token → List Token → List Token → List Token → Type 0
Longer p x q y = (m : List Token) × (q ≡ p ++ m) × (x ≡ m ++ y)

longer : (p q x y : List Token) → p ++ x ≡ q ++ y → Longer p x q y ⊎ Longer q y p x
longer [] q x y e = inl (q, refl, e)
longer (t ∷ p) [] x y e = inr (t ∷ p, refl, sym e)
longer (t ∷ p) (u ∷ q) x y e = grow (ap (first_or t) e) (longer p q x y (ap rest_of e))
  where
    grow : t ≡ u → Longer p x q y ⊎ Longer q y p x → Longer (t ∷ p) x (u ∷ q) y ⊎ Longer (u ∷ q) y (t ∷ p) x
    grow h (inl (m, a, b)) = inl (m, (λ i. sym h i ∷ a i), b)
    grow h (inr (m, a, b)) = inr (m, (λ i. h i ∷ a i), b)

module _ {X : Type 0} (R : Rule X) where
  within_front : (n : ℕ) (pre more : List Token) → IsAliveWithin R n (pre ++ more) → IsAliveWithin R n pre
  within_front n pre more (rest, u, r) = (more ++ rest, u, subst (λ l. R n l [] u) (append_assoc pre more rest) r)

  alive_front : (pre more : List Token) → IsAlive R (pre ++ more) → IsAlive R pre
  alive_front pre more (n, a) = (n, within_front n pre more a)

  -- what is not alive with one more token, is not the front of something alive
  dead_next : (pre m : List Token) (t : Token) → (IsAlive R (pre ++ t ∷ []) → ⊥) → IsAlive R (pre ++ t ∷ m) → ⊥
  dead_next pre m t dead a =
      dead (alive_front (pre ++ t ∷ []) m (subst (λ l. IsAlive R l) (sym (append_assoc pre (t ∷ []) m)) a))

  whole_alive : (ts : List Token) (u : X) → IsWhole R ts u → IsAlive R ts
  whole_alive ts u (n, r) = (n, ([], u, subst (λ l. R n l [] u) (sym (append-nil ts)) r))

  pub syntax_or_whole : (n : ℕ) (end : Place) (ts : List Token) (at : Place) (u : X) → IsSyntaxAt R n end ts at
      → IsWhole R ts u → ⊥
  syntax_or_whole n end ts at u s w = split s.pre s.post s.is s.hopeless
    where
      split : (pre post : List Token) → ts ≡ pre ++ post → IsHopelessAt R pre post → ⊥
      split pre [] is h = h.1 u (subst (λ l. IsWhole R l u) (is ∙ append-nil pre) w)
      split pre (t ∷ post) is h = dead_next pre post t h.1 (subst (λ l. IsAlive R l) is (whole_alive ts u w))

  pub deep_or_whole : (n : ℕ) (ts : List Token) (at : Place) (u : X) → IsDeepAt R n ts at → R n ts [] u → ⊥
  deep_or_whole n ts at u d r =
      d.deep (d.post, u, subst (λ l. R n l [] u) (d.is ∙ sym (append_assoc d.pre (d.next ∷ []) d.post)) r)

  -- a shorter hopeless front is no front of an alive one, but itself
  same_front : (p q x y : List Token) → IsHopelessAt R p x → IsAlive R q → Longer p x q y → (q ≡ p) × (x ≡ y)
  same_front p q x y h a ([], e, f) = (e ∙ append-nil p, f)
  same_front p q x y h a (t ∷ m, e, f) =
      absurd (dead_next p m t (subst (λ l. IsHopelessAt R p l) f h).1 (subst (λ l. IsAlive R l) e a))

  alive_of : (pre post : List Token) → IsHopelessAt R pre post → IsAlive R pre
  alive_of pre [] h = h.0
  alive_of pre (t ∷ post) h = h.0

  -- the hopeless token is one
  pub one_syntax : (n m : ℕ) (end : Place) (ts : List Token) (at bt : Place) → IsSyntaxAt R n end ts at
      → IsSyntaxAt R m end ts bt → at ≡ bt
  one_syntax n m end ts at bt s t = join (longer s.pre t.pre s.post t.post (sym s.is ∙ t.is))
    where
      join : Longer s.pre s.post t.pre t.post ⊎ Longer t.pre t.post s.pre s.post → at ≡ bt
      join (inl l) = s.place ∙ ap (place_at end)
          (same_front s.pre t.pre s.post t.post s.hopeless (alive_of t.pre t.post t.hopeless) l).1 ∙ sym t.place
      join (inr l) = s.place ∙ ap (place_at end)
          (sym (same_front t.pre s.pre t.post s.post t.hopeless (alive_of s.pre s.post s.hopeless) l).1) ∙ sym t.place

  -- what is hopeless first is not too deep first
  pub syntax_or_deep : (n : ℕ) (end : Place) (ts : List Token) (at bt : Place) → IsSyntaxAt R n end ts at
      → IsDeepAt R n ts bt → ⊥
  syntax_or_deep n end ts at bt s d = join (longer s.pre d.pre s.post (d.next ∷ d.post) (sym s.is ∙ d.is))
    where
      with_next : IsHopelessAt R s.pre s.post → (d.pre ≡ s.pre) × (s.post ≡ d.next ∷ d.post) → ⊥
      with_next h e = (subst (λ l. IsHopelessAt R s.pre l) e.1 h).1
          (subst (λ l. IsAlive R (l ++ d.next ∷ [])) e.0 d.deeper)

      alive_deep : IsAlive R d.pre
      alive_deep = (n, d.shallow)

      behind : Longer d.pre (d.next ∷ d.post) s.pre s.post → ⊥
      behind ([], e, f) = with_next s.hopeless (sym (e ∙ append-nil d.pre), sym f)
      behind (t ∷ m, e, f) = d.deep
          (within_front n (d.pre ++ d.next ∷ []) m
          (subst (λ l. IsAliveWithin R n l)
          (e ∙ ap (λ t. d.pre ++ t ∷ m) (sym (ap (first_or d.next) f)) ∙ sym (append_assoc d.pre (d.next ∷ []) m))
          s.shallow))

      join : Longer s.pre s.post d.pre (d.next ∷ d.post) ⊎ Longer d.pre (d.next ∷ d.post) s.pre s.post → ⊥
      join (inl l) = with_next s.hopeless (same_front s.pre d.pre s.post (d.next ∷ d.post) s.hopeless alive_deep l)
      join (inr l) = behind l

  -- the token that opens a level too many is one
  same_deep : (n : ℕ) (p q : List Token) (t u : Token) (x y : List Token) → (IsAliveWithin R n (p ++ t ∷ []) → ⊥)
      → IsAliveWithin R n q → Longer p (t ∷ x) q (u ∷ y) → (q ≡ p) × (t ∷ x ≡ u ∷ y)
  same_deep n p q t u x y dead a ([], e, f) = (e ∙ append-nil p, f)
  same_deep n p q t u x y dead a (v ∷ m, e, f) = absurd (dead (within_front n (p ++ t ∷ []) m
      (subst (λ l. IsAliveWithin R n l)
      (e ∙ ap (λ t. p ++ t ∷ m) (sym (ap (first_or t) f)) ∙ sym (append_assoc p (t ∷ []) m)) a)))

  place_of : (p q x y : List Token) (t u : Token) → q ≡ p → t ∷ x ≡ u ∷ y → (opener p t).at ≡ (opener q u).at
  place_of p q x y t u e f = ap (λ (l : List Token). (opener l t).at) (sym e)
      ∙ ap (λ (v : Token). (opener q v).at) (ap (first_or t) f)

  pub one_deep : (n : ℕ) (ts : List Token) (at bt : Place) → IsDeepAt R n ts at → IsDeepAt R n ts bt → at ≡ bt
  one_deep n ts at bt s t = join (longer s.pre t.pre (s.next ∷ s.post) (t.next ∷ t.post) (sym s.is ∙ t.is))
    where
      join : Longer s.pre (s.next ∷ s.post) t.pre (t.next ∷ t.post)
          ⊎ Longer t.pre (t.next ∷ t.post) s.pre (s.next ∷ s.post) → at ≡ bt
      join (inl l) = let e = same_deep n s.pre t.pre s.next t.next s.post t.post s.deep t.shallow l in
          s.place ∙ place_of s.pre t.pre s.post t.post s.next t.next e.0 e.1 ∙ sym t.place
      join (inr l) = let e = same_deep n t.pre s.pre t.next s.next t.post s.post t.deep s.shallow l in
          s.place ∙ sym (place_of t.pre s.pre t.post s.post t.next s.next e.0 e.1) ∙ sym t.place
