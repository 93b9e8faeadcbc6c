-- Worked answers of the first node that covers a forest, each made by hand.
use Rattle.std.proofs.Common.{◌≡◌, List, [], ◌∷◌, length, Some, None, refl, sym, ap, subst, arith}
use Rattle.std.proofs.lemmas.Option.{none-some, same_Some}
use Rattle.fa_core.specs.Covering.{Covers}
use Rattle.fa_core.specs.declared.forest.Forest.{Forest}
use Rattle.fa_core.specs.declared.forest.Target.{Target}
use Rattle.fa_core.specs.declared.forest.Target.TheVariants.{Null}
use Rattle.fa_sound.specs.Soundness.{SoundForest}
use Rattle.fa_cover.specs.Firsts.{FirstCover}

-- forests without cells
abbrev none : List Target → Forest
none vars = record { autos = []; vars = vars; data_vars = [] }

abbrev node : List Target → SoundForest
node vars =
    record { forest = none vars; face = record { shapes = record { structs = [] }; boxes = [] }; signatures = [] }

same : (vars : List Target) → Covers (none vars) (none vars)
same vars = record { vars = refl; data_vars = refl; within = tt }

other : Covers (none []) (none (Null ∷ [])) → ⊥
other c = let e : 1 ≡ 0 = ap (λ (vs : List Target). length vs) c.vars in omega (arith, e)

longer : Covers (none (Null ∷ Null ∷ [])) (none (Null ∷ [])) → ⊥
longer c = let e : 1 ≡ 2 = ap (λ (vs : List Target). length vs) c.vars in omega (arith, e)

-- of no node, none
of_no_node : FirstCover [] (none (Null ∷ [])) None
of_no_node = tt

not_past_the_end : FirstCover [] (none (Null ∷ [])) (Some 0) → ⊥
not_past_the_end h = none-some h.0 h.1

-- none, where no node covers the forest; not where one does
none_covers : FirstCover (node [] ∷ node (Null ∷ Null ∷ []) ∷ []) (none (Null ∷ [])) None
none_covers = (other, (longer, tt))

one_covers : FirstCover (node [] ∷ node (Null ∷ []) ∷ []) (none (Null ∷ [])) None → ⊥
one_covers h = h.1.0 (same (Null ∷ []))

-- the least place of two
first_of_two : FirstCover (node [] ∷ node (Null ∷ []) ∷ node (Null ∷ []) ∷ []) (none (Null ∷ [])) (Some 1)
first_of_two = (node (Null ∷ []), refl, same (Null ∷ []), (other, tt))

not_the_second : FirstCover (node [] ∷ node (Null ∷ []) ∷ node (Null ∷ []) ∷ []) (none (Null ∷ [])) (Some 2) → ⊥
not_the_second h = h.3.1.0 (same (Null ∷ []))

-- a place whose node does not cover it is none
not_another : FirstCover (node [] ∷ node (Null ∷ []) ∷ []) (none (Null ∷ [])) (Some 0) → ⊥
not_another h =
    other (subst (λ (x : SoundForest). Covers x.forest (none (Null ∷ []))) (sym (same_Some (node []) h.0 h.1)) h.2)
