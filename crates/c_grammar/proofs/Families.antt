-- The parts of rules, for each number of levels, and readings put together from their pieces.
use Rattle.std.proofs.Common.{List, refl}
use Rattle.c_lexer.specs.declared.token.Token.{Token}
use Rattle.c_grammar.specs.Grammar.{Part, Rule, token, empty, ◌then◌, ◌or◌, Many, Made}
use Rattle.c_grammar.specs.declared.signs.Sign.{Sign}

abbrev pub one : Sign → Rule Token
one s n = token s

abbrev pub no_token : {X : Type 0} → X → Rule X
no_token v n = empty v

abbrev pub both : {X Y : Type 0} → Rule X → Rule Y → Rule (X × Y)
both A B n = A n then B n

abbrev pub choice : {X : Type 0} → Rule X → Rule X → Rule X
choice A B n = A n or B n

abbrev pub many : {X : Type 0} → Rule X → Rule (List X)
many A n = Many (A n)

abbrev pub made : {X Y : Type 0} → (X → Y) → Rule X → Rule Y
made f A n = Made f (A n)

pub make : {X Y : Type 0} {A : Part X} {ts rest : List Token} {x : X} (f : X → Y) → A ts rest x → Made f A ts rest (f x)
make {x = x} f r = record { part = x; read = r; is = refl }

pub and_then : {X Y : Type 0} {A : Part X} {B : Part Y} {ts rest : List Token} {x : X} {y : Y} (mid : List Token)
    → A ts mid x → B mid rest y → (A then B) ts rest (x, y)
and_then mid r q = record { mid = mid; front = r; back = q }
