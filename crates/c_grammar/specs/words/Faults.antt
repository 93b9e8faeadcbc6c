-- Where a reading by a rule stops: the words of the contracts of parsing functions.
use Rattle.std.specs.Prelude.{◌≡◌, ◌⊎◌, ◌≤◌, ℕ, true, false, List, [], ◌∷◌, ◌++◌}
use Rattle.fore_base.specs.declared.place.Place.{Place}
use Rattle.c_lexer.specs.declared.token.Token.{Token}
use Rattle.c_grammar.specs.Grammar.{Rule}
use Rattle.c_grammar.specs.Hopeless.{opener, place_at}
use Rattle.c_grammar.specs.Signs.{sign_of, sign_at}
use Rattle.c_grammar.specs.words.Sets.{Signs}
use Rattle.c_grammar.specs.declared.fault.SyntaxFault.{SyntaxFault}
use Rattle.c_grammar.specs.declared.fault.SyntaxFault.TheVariants.{Syntax, Deep, Memory}

-- these tokens begin something that the rule reads, whatever stands after it but for the barred signs
pub record Alive {X : Type 0} (A : Rule X) (bars : Signs) (n : ℕ) (pre : List Token) : Type 0 where
  pub more : List Token
  pub tree : X
  pub reads : (y : List Token) → bars (sign_at y) ≡ false → A n (pre ++ (more ++ y)) y tree

-- with a token of the sign of the next one they begin nothing that the rule reads
abbrev pub Dead : {X : Type 0} → Rule X → Signs → ℕ → List Token → List Token → Type 0
Dead {X} A cont n pre post = (z y : List Token) (x : X) → sign_at z ≡ sign_at post → cont (sign_at y) ≡ false
    → A n (pre ++ z) y x → ⊥

-- the next token is the first with which these tokens begin nothing that the rule reads, however many levels may be
-- opened
pub record IsSyntax {X : Type 0} (A : Rule X) (cont bars : Signs) (n : ℕ) (end : Place) (ts : List Token) (at : Place) :
    Type 0 where
  pub pre : List Token
  pub post : List Token
  pub is : ts ≡ pre ++ post
  pub place : at ≡ place_at end post
  pub alive : Alive A bars n pre
  pub dead : (m : ℕ) → Dead A cont m pre post

-- the next token is the first with which these tokens begin nothing that the rule reads with so many levels, but
-- something with more;
-- where it is the first of all, its sign is one of `heads`
pub record Sinks {X : Type 0} (A : Rule X) (cont bars heads : Signs) (n : ℕ) (ts : List Token) (at : Place) :
    Type 0 where
  pub pre : List Token
  pub next : Token
  pub post : List Token
  pub is : ts ≡ pre ++ next ∷ post
  pub place : at ≡ (opener pre next).at
  pub early : pre ≡ [] → heads (sign_of next) ≡ true
  pub alive : Alive A bars n pre
  pub dead : (m : ℕ) → m ≤ n → Dead A cont m pre (next ∷ post)
  pub room : ℕ
  pub higher : n ≤ room
  pub deeper : Alive A bars room (pre ++ next ∷ [])

-- where the reading of these tokens by a rule stops
pub data Fails {X : Type 0} (A : Rule X) (cont bars heads : Signs) (n : ℕ) (end : Place) (ts : List Token) : SyntaxFault
    → Type 0 where
  stuck : {at : Place} → IsSyntax A cont bars n end ts at → Fails A cont bars heads n end ts (Syntax at)
  sunk : {at : Place} → Sinks A cont bars heads n ts at → Fails A cont bars heads n end ts (Deep at)
  no_memory : Fails A cont bars heads n end ts Memory

-- the front that a rule reads, where with the next token as it is the rule reads nothing else
pub record Takes {X : Type 0} (A : Rule X) (cont bars : Signs) (n : ℕ) (ts rest : List Token) (x : X) : Type 0 where
  pub front : List Token
  pub is : ts ≡ front ++ rest
  pub alike : (y : List Token) → (sign_at y ≡ sign_at rest) ⊎ (bars (sign_at y) ≡ false) → A n (front ++ y) y x
  pub only : (m : ℕ) (z y : List Token) (t : X) → sign_at z ≡ sign_at rest → cont (sign_at y) ≡ false
      → A m (front ++ z) y t → z ≡ y
