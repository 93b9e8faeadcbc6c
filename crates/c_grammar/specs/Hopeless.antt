-- What holds of the tokens of a whole text: alive beginnings, the hopeless token, the token that opens a level too
-- many. R is the rule of the whole.
use Rattle.std.specs.Prelude.{◌≡◌, ℕ, cond, List, [], ◌∷◌, ◌++◌}
use Rattle.fore_base.specs.declared.place.Place.{Place}
use Rattle.c_lexer.specs.declared.token.Token.{Token}
use Rattle.c_grammar.specs.Grammar.{Rule}
use Rattle.c_grammar.specs.Signs.{and, same_sign, sign_of}
use Rattle.c_grammar.specs.declared.signs.Sign.TheVariants.{Id, Open}

-- the place of the next token; the end is one more token
abbrev pub place_at : Place → List Token → Place
place_at end [] = end
place_at end (t ∷ ts) = t.at

-- a name and then an opening bracket: a call opens its level at its name
abbrev pub opener_of : Token → Token → Token
opener_of name t = cond (and (same_sign Id (sign_of name)) (same_sign Open (sign_of t))) name t

-- the first token of what the token t opens after these tokens
abbrev pub opener : List Token → Token → Token
opener [] t = t
opener (p ∷ []) t = opener_of p t
opener (p ∷ (q ∷ ps)) t = opener (q ∷ ps) t

-- the tokens are those of this tree
abbrev pub IsWhole : {X : Type 0} → Rule X → List Token → X → Type 0
IsWhole R ts u = (n : ℕ) × R n ts [] u

-- the tokens begin something whole in which no more than n levels are open at once
abbrev pub IsAliveWithin : {X : Type 0} → Rule X → ℕ → List Token → Type 0
IsAliveWithin {X} R n ts = (more : List Token) × (u : X) × R n (ts ++ more) [] u

-- the tokens begin something whole
abbrev pub IsAlive : {X : Type 0} → Rule X → List Token → Type 0
IsAlive R ts = (n : ℕ) × IsAliveWithin R n ts

-- the tokens before the next one are alive, and with it they are not; at the end: they are alive and nothing whole
abbrev pub IsHopelessAt : {X : Type 0} → Rule X → List Token → List Token → Type 0
IsHopelessAt {X} R pre [] = IsAlive R pre × ((u : X) → IsWhole R pre u → ⊥)
IsHopelessAt R pre (t ∷ post) = IsAlive R pre × (IsAlive R (pre ++ t ∷ []) → ⊥)

-- the hopeless token stands at this place, and no level above n is opened before it
pub record IsSyntaxAt {X : Type 0} (R : Rule X) (n : ℕ) (end : Place) (ts : List Token) (at : Place) : Type 0 where
  pub pre : List Token
  pub post : List Token
  pub is : ts ≡ pre ++ post
  pub place : at ≡ place_at end post
  pub shallow : IsAliveWithin R n pre
  pub hopeless : IsHopelessAt R pre post

-- the tokens up to the next one begin something whole, but only with more than n levels; level n + 1 is opened at this
-- place
pub record IsDeepAt {X : Type 0} (R : Rule X) (n : ℕ) (ts : List Token) (at : Place) : Type 0 where
  pub pre : List Token
  pub next : Token
  pub post : List Token
  pub is : ts ≡ pre ++ next ∷ post
  pub place : at ≡ (opener pre next).at
  pub shallow : IsAliveWithin R n pre
  pub deeper : IsAlive R (pre ++ next ∷ [])
  pub deep : IsAliveWithin R n (pre ++ next ∷ []) → ⊥
