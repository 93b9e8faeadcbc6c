-- A reader that gives fewer bytes than it is asked for has given all that it had.
use Rattle.std.proofs.Common.{◌≡◌, ◌<◌, ℕ, List, [], ◌++◌, Option, Some, None, IfSome, length, take, ap, subst, ◌∙◌}
use Rattle.std.proofs.Common.{arith}
use Rattle.std.specs.Option.{option_map}
use Rattle.std.proofs.lemmas.List.{take_all, length-take}

whole_given : (left : Option (List ℕ)) (most : ℕ) (before after : List ℕ)
    → IfSome (option_map (take most) left) (λ given. after ≡ before ++ given)
    → before ≡ [] → length after < most → IfSome left (λ all. after ≡ all)
whole_given None most before after is empty short = tt
whole_given (Some all) most before after is empty short =
    let front : after ≡ take most all = is ∙ ap (λ bytes. bytes ++ take most all) empty in
    front ∙ take_all most all (omega (arith, ap length front, length-take most all))

pub all_given : {R : Type 0} (remaining : R → Option (List ℕ)) (reader inner : R) (most : ℕ) (before after : List ℕ)
    → IfSome (option_map (take most) (remaining inner)) (λ given. after ≡ before ++ given)
    → inner ≡ reader → before ≡ [] → length after < most → IfSome (remaining reader) (λ all. after ≡ all)
all_given {R} remaining reader inner most before after is same empty short =
    let P : R → Type 0 = λ r. IfSome (option_map (take most) (remaining r)) (λ given. after ≡ before ++ given) in
    whole_given (remaining reader) most before after (subst P same is) empty short
