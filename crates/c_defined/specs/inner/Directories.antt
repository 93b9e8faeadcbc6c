-- Values that are found by texts.
use Rattle.std.specs.Prelude.{cond, List, [], ◌∷◌, Option, Some, None}
use Rattle.c_typing.specs.Texts.{Text, same}

-- the value of a text: that of its first place among the names
abbrev pub look_up : {X : Type 0} → Text → List Text → List X → Option X
look_up x [] vs = None
look_up x (n ∷ ns) [] = None
look_up x (n ∷ ns) (v ∷ vs) = cond (same x n) (Some v) (look_up x ns vs)

-- the one, or else the other
abbrev pub or_else : {X : Type 0} → Option X → Option X → Option X
or_else (Some v) o = Some v
or_else None o = o
