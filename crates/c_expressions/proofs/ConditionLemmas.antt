-- `&&` and `||` of some parts.
use Rattle.std.proofs.Common.{◌≡◌, ◌↔◌, Bool, false, true≢false, IsTrue, List, [], ◌∷◌, refl, sym, ◌∙◌}
use Rattle.c_types.specs.declared.program.Cond.{Cond}
use Rattle.c_types.specs.declared.program.Cond.TheVariants.{All, Any}
use Rattle.c_typing.specs.Programs.{all_of, any_of}

pub all_of_some : (empty : Bool) (cs : List Cond) → IsTrue empty ↔ (cs ≡ []) → empty ≡ false → All cs ≡ all_of cs
all_of_some empty [] h none = absurd (true≢false (sym (h.1 refl) ∙ none))
all_of_some empty (c ∷ cs) h none = refl

pub any_of_some : (empty : Bool) (cs : List Cond) → IsTrue empty ↔ (cs ≡ []) → empty ≡ false → Any cs ≡ any_of cs
any_of_some empty [] h none = absurd (true≢false (sym (h.1 refl) ∙ none))
any_of_some empty (c ∷ cs) h none = refl
