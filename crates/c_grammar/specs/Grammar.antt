-- The parts that rules of a grammar are made of. A part relates the tokens that are left before it, those that are left
-- after it, and the tree of
-- what stands between them.
use Rattle.std.specs.Prelude.{◌≡◌, ◌≢◌, ◌⊎◌, ℕ, zero, suc, List, [], ◌∷◌}
use Rattle.c_lexer.specs.declared.token.Token.{Token}
use Rattle.c_grammar.specs.Signs.{sign_of, sign_at}
use Rattle.c_grammar.specs.declared.signs.Sign.{Sign}

infixr 30 ◌then◌
infixr 20 ◌or◌
abbrev pub Part : Type 0 → Type 1
Part X = List Token → List Token → X → Type 0

-- one token of this sign
abbrev pub token : Sign → Part Token
token s ts rest t = (ts ≡ t ∷ rest) × (sign_of t ≡ s)

-- no token
abbrev pub empty : {X : Type 0} → X → Part X
empty v ts rest x = (ts ≡ rest) × (x ≡ v)

-- what never stands there
abbrev pub nowhere : {X : Type 0} → Part X
nowhere ts rest x = ⊥

-- one part, and then another
pub record ◌then◌ {X Y : Type 0} (A : Part X) (B : Part Y) (ts rest : List Token) (p : X × Y) : Type 0 where
  pub mid : List Token
  pub front : A ts mid p.0
  pub back : B mid rest p.1

-- one of two parts
abbrev pub ◌or◌ : {X : Type 0} → Part X → Part X → Part X
◌or◌ A B ts rest x = A ts rest x ⊎ B ts rest x

-- a part, any number of times
pub data Many {X : Type 0} (A : Part X) : List Token → List Token → List X → Type 0 where
  none : {rest : List Token} → Many A rest rest []
  more : {ts mid rest : List Token} {x : X} {xs : List X} → A ts mid x → Many A mid rest xs → Many A ts rest (x ∷ xs)

-- what is made of a part
pub record Made {X Y : Type 0} (f : X → Y) (A : Part X) (ts rest : List Token) (y : Y) : Type 0 where
  pub part : X
  pub read : A ts rest part
  pub is : y ≡ f part

-- a part after which no token of this sign stands
abbrev pub unless : {X : Type 0} → Sign → Part X → Part X
unless s A ts rest x = A ts rest x × (sign_at rest ≢ s)

-- a rule says for each number of levels that may still be opened what it reads
abbrev pub Rule : Type 0 → Type 1
Rule X = ℕ → Part X

-- what a rule reads one level further in
abbrev pub level : {X : Type 0} → Rule X → Rule X
level A zero = nowhere
level A (suc n) = A n
