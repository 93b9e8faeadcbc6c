-- Truth values, and signs that are told apart by their numbers.
use Rattle.std.proofs.Common.{◌≡◌, ◌≢◌, ℕ, zero, suc, Bool, true, false, [], ◌∷◌, refl, sym, ap, ◌∙◌, subst, not}
use Rattle.std.proofs.lemmas.Bool.{eqb-true}
use Rattle.c_grammar.specs.Signs.{or_on, and, number_of, same_sign}
use Rattle.c_grammar.specs.words.Sets.{among}
use Rattle.c_grammar.specs.declared.signs.Sign.{Sign}
use Rattle.c_grammar.specs.declared.signs.Sign.TheVariants.{Id, Number, Struct, Enum, Int, Void, Extern, If, Else}
use Rattle.c_grammar.specs.declared.signs.Sign.TheVariants.{While, Do, For, Return, Break, Continue, Sizeof, Malloc}
use Rattle.c_grammar.specs.declared.signs.Sign.TheVariants.{Free, Assert, Null, True, False, Arrow, Equal, Unequal, And}
use Rattle.c_grammar.specs.declared.signs.Sign.TheVariants.{Or, OpenBrace, CloseBrace, Open, Close, Semicolon, Comma}
use Rattle.c_grammar.specs.declared.signs.Sign.TheVariants.{Star, Assign, Not, Other, End}

abbrev IsOn : Bool → Type 0
IsOn true = Unit {0}
IsOn false = ⊥

pub clash : true ≡ false → ⊥
clash e = subst IsOn e tt

pub or_left : (a b : Bool) → or_on a b ≡ false → a ≡ false
or_left true b e = e
or_left false b e = refl

pub or_right : (a b : Bool) → or_on a b ≡ false → b ≡ false
or_right true b e = absurd (clash e)
or_right false b e = e

pub or_of : (a b : Bool) → a ≡ false → b ≡ false → or_on a b ≡ false
or_of true b e f = e
or_of false b e f = f

pub or_first : (a b : Bool) → a ≡ true → or_on a b ≡ true
or_first true b e = refl
or_first false b e = absurd (clash (sym e))

pub or_second : (a b : Bool) → b ≡ true → or_on a b ≡ true
or_second true b e = refl
or_second false b e = e

pub and_of : (a b : Bool) → a ≡ true → b ≡ true → and a b ≡ true
and_of true b e f = f
and_of false b e f = e

pub and_gives : (a b : Bool) → and a b ≡ false → a ≡ true → b ≡ false
and_gives true b e f = e
and_gives false b e f = absurd (clash (sym f))

pub and_left : (a b : Bool) → and a b ≡ true → a ≡ true
and_left true b h = refl
and_left false b h = h

pub and_right : (a b : Bool) → and a b ≡ true → b ≡ true
and_right true b h = h
and_right false b h = absurd (clash (sym h))

pub only_right : (a b : Bool) → or_on a b ≡ true → a ≡ false → b ≡ true
only_right true b h e = absurd (clash e)
only_right false b h e = h

pub off : (b : Bool) → not b ≡ true → b ≡ false
off true h = absurd (clash (sym h))
off false h = refl

pub and_no : (a b : Bool) → b ≡ false → and a b ≡ false
and_no true b e = e
and_no false b e = refl

abbrev sign_by : ℕ → Sign
sign_by zero = Id
sign_by (suc zero) = Number
sign_by (suc (suc zero)) = Struct
sign_by (suc (suc (suc zero))) = Enum
sign_by (suc (suc (suc (suc zero)))) = Int
sign_by (suc (suc (suc (suc (suc zero))))) = Void
sign_by (suc (suc (suc (suc (suc (suc zero)))))) = Extern
sign_by (suc (suc (suc (suc (suc (suc (suc zero))))))) = If
sign_by (suc (suc (suc (suc (suc (suc (suc (suc zero)))))))) = Else
sign_by (suc (suc (suc (suc (suc (suc (suc (suc (suc zero))))))))) = While
sign_by (suc (suc (suc (suc (suc (suc (suc (suc (suc (suc zero)))))))))) = Do
sign_by (suc (suc (suc (suc (suc (suc (suc (suc (suc (suc (suc zero))))))))))) = For
sign_by (suc (suc (suc (suc (suc (suc (suc (suc (suc (suc (suc (suc zero)))))))))))) = Return
sign_by (suc (suc (suc (suc (suc (suc (suc (suc (suc (suc (suc (suc (suc zero))))))))))))) = Break
sign_by (suc (suc (suc (suc (suc (suc (suc (suc (suc (suc (suc (suc (suc (suc zero)))))))))))))) = Continue
sign_by (suc (suc (suc (suc (suc (suc (suc (suc (suc (suc (suc (suc (suc (suc (suc zero))))))))))))))) = Sizeof
sign_by (suc (suc (suc (suc (suc (suc (suc (suc (suc (suc (suc (suc (suc (suc (suc (suc zero)))))))))))))))) = Malloc
sign_by (suc (suc (suc (suc (suc (suc (suc (suc (suc (suc (suc (suc (suc (suc (suc (suc (suc zero))))))))))))))))) =
    Free
sign_by
    (suc (suc (suc (suc (suc (suc (suc (suc (suc (suc (suc (suc (suc (suc (suc (suc (suc (suc zero)))))))))))))))))) =
    Assert
sign_by
    (suc
    (suc (suc (suc (suc (suc (suc (suc (suc (suc (suc (suc (suc (suc (suc (suc (suc (suc (suc zero))))))))))))))))))) =
    Null
sign_by
    (suc
    (suc
    (suc (suc (suc (suc (suc (suc (suc (suc (suc (suc (suc (suc (suc (suc (suc (suc (suc (suc zero)))))))))))))))))))) =
    True
sign_by
    (suc
    (suc
    (suc
    (suc
    (suc (suc (suc (suc (suc (suc (suc (suc (suc (suc (suc (suc (suc (suc (suc (suc (suc zero))))))))))))))))))))) =
    False
sign_by
    (suc
    (suc
    (suc
    (suc
    (suc
    (suc (suc (suc (suc (suc (suc (suc (suc (suc (suc (suc (suc (suc (suc (suc (suc (suc zero)))))))))))))))))))))) =
    Arrow
sign_by
    (suc
    (suc
    (suc
    (suc
    (suc
    (suc
    (suc (suc (suc (suc (suc (suc (suc (suc (suc (suc (suc (suc (suc (suc (suc (suc (suc zero))))))))))))))))))))))) =
    Equal
sign_by
    (suc
    (suc
    (suc
    (suc
    (suc
    (suc
    (suc
    (suc (suc (suc (suc (suc (suc (suc (suc (suc (suc (suc (suc (suc (suc (suc (suc (suc zero)))))))))))))))))))))))) =
    Unequal
sign_by
    (suc
    (suc
    (suc
    (suc
    (suc
    (suc
    (suc
    (suc
    (suc (suc (suc (suc (suc (suc (suc (suc (suc (suc (suc (suc (suc (suc (suc (suc (suc zero))))))))))))))))))))))))) =
    And
sign_by
    (suc
    (suc
    (suc
    (suc
    (suc
    (suc
    (suc
    (suc
    (suc
    (suc
    (suc (suc (suc (suc (suc (suc (suc (suc (suc (suc (suc (suc (suc (suc (suc (suc zero)))))))))))))))))))))))))) = Or
sign_by
    (suc
    (suc
    (suc
    (suc
    (suc
    (suc
    (suc
    (suc
    (suc
    (suc
    (suc
    (suc (suc (suc (suc (suc (suc (suc (suc (suc (suc (suc (suc (suc (suc (suc (suc zero))))))))))))))))))))))))))) =
    OpenBrace
sign_by
    (suc
    (suc
    (suc
    (suc
    (suc
    (suc
    (suc
    (suc
    (suc
    (suc
    (suc
    (suc
    (suc (suc (suc (suc (suc (suc (suc (suc (suc (suc (suc (suc (suc (suc (suc (suc zero)))))))))))))))))))))))))))) =
    CloseBrace
sign_by
    (suc
    (suc
    (suc
    (suc
    (suc
    (suc
    (suc
    (suc
    (suc
    (suc
    (suc
    (suc
    (suc
    (suc (suc (suc (suc (suc (suc (suc (suc (suc (suc (suc (suc (suc (suc (suc (suc zero))))))))))))))))))))))))))))) =
    Open
sign_by
    (suc
    (suc
    (suc
    (suc
    (suc
    (suc
    (suc
    (suc
    (suc
    (suc
    (suc
    (suc
    (suc
    (suc
    (suc (suc (suc (suc (suc (suc (suc (suc (suc (suc (suc (suc (suc (suc (suc (suc zero)))))))))))))))))))))))))))))) =
    Close
sign_by
    (suc
    (suc
    (suc
    (suc
    (suc
    (suc
    (suc
    (suc
    (suc
    (suc
    (suc
    (suc
    (suc
    (suc
    (suc
    (suc
    (suc (suc (suc (suc (suc (suc (suc (suc (suc (suc (suc (suc (suc (suc (suc zero))))))))))))))))))))))))))))))) =
    Semicolon
sign_by
    (suc
    (suc
    (suc
    (suc
    (suc
    (suc
    (suc
    (suc
    (suc
    (suc
    (suc
    (suc
    (suc
    (suc
    (suc
    (suc
    (suc
    (suc (suc (suc (suc (suc (suc (suc (suc (suc (suc (suc (suc (suc (suc (suc zero)))))))))))))))))))))))))))))))) =
    Comma
sign_by
    (suc
    (suc
    (suc
    (suc
    (suc
    (suc
    (suc
    (suc
    (suc
    (suc
    (suc
    (suc
    (suc
    (suc
    (suc
    (suc
    (suc
    (suc
    (suc (suc (suc (suc (suc (suc (suc (suc (suc (suc (suc (suc (suc (suc (suc zero))))))))))))))))))))))))))))))))) =
    Star
sign_by
    (suc
    (suc
    (suc
    (suc
    (suc
    (suc
    (suc
    (suc
    (suc
    (suc
    (suc
    (suc
    (suc
    (suc
    (suc
    (suc
    (suc
    (suc
    (suc
    (suc (suc (suc (suc (suc (suc (suc (suc (suc (suc (suc (suc (suc (suc (suc zero)))))))))))))))))))))))))))))))))) =
    Assign
sign_by
    (suc
    (suc
    (suc
    (suc
    (suc
    (suc
    (suc
    (suc
    (suc
    (suc
    (suc
    (suc
    (suc
    (suc
    (suc
    (suc
    (suc
    (suc
    (suc
    (suc
    (suc (suc (suc (suc (suc (suc (suc (suc (suc (suc (suc (suc (suc (suc (suc zero))))))))))))))))))))))))))))))))))) =
    Not
sign_by
    (suc
    (suc
    (suc
    (suc
    (suc
    (suc
    (suc
    (suc
    (suc
    (suc
    (suc
    (suc
    (suc
    (suc
    (suc
    (suc
    (suc
    (suc
    (suc
    (suc
    (suc
    (suc
    (suc (suc (suc (suc (suc (suc (suc (suc (suc (suc (suc (suc (suc (suc zero)))))))))))))))))))))))))))))))))))) =
    Other
sign_by _ = End

known : (s : Sign) → sign_by (number_of s) ≡ s
known Id = refl
known Number = refl
known Struct = refl
known Enum = refl
known Int = refl
known Void = refl
known Extern = refl
known If = refl
known Else = refl
known While = refl
known Do = refl
known For = refl
known Return = refl
known Break = refl
known Continue = refl
known Sizeof = refl
known Malloc = refl
known Free = refl
known Assert = refl
known Null = refl
known True = refl
known False = refl
known Arrow = refl
known Equal = refl
known Unequal = refl
known And = refl
known Or = refl
known OpenBrace = refl
known CloseBrace = refl
known Open = refl
known Close = refl
known Semicolon = refl
known Comma = refl
known Star = refl
known Assign = refl
known Not = refl
known Other = refl
known End = refl

pub told_apart : (a b : Sign) → b ≢ a → same_sign a b ≡ false
told_apart a b h = split (same_sign a b) refl
  where
    split : (v : Bool) → same_sign a b ≡ v → v ≡ false
    split false e = refl
    split true e = absurd (h (sym (known b) ∙ ap sign_by (sym (eqb-true (number_of a) (number_of b) e)) ∙ known a))

pub one_of : (a b : Sign) → among (a ∷ []) b ≡ true → b ≡ a
one_of a b h = split (same_sign a b) refl h
  where
    split : (v : Bool) → same_sign a b ≡ v → or_on v false ≡ true → b ≡ a
    split true e k = sym (sym (known a) ∙ ap sign_by (eqb-true (number_of a) (number_of b) e) ∙ known b)
    split false e k = absurd (clash (sym k))
