-- Worked faces of boxes.
use Rattle.std.proofs.Common.{true, false, true≢false, [], ◌∷◌, length, Some, None, refl, ap, sym, arith}
use Rattle.fa_core.specs.declared.faces.BoxFace.{BoxFace}
use Rattle.fa_core.specs.Faces.{IsGiving, IsSortedFace}

-- one that leads back and gives its output field 1; the same that gives nothing; one that does not lead back
abbrev giving : BoxFace
giving = record { input = 0; output = Some 0; gives_in = 0 ∷ []; gives_out = 1 ∷ []; back = true }

abbrev mute : BoxFace
mute = record { input = 0; output = Some 0; gives_in = 0 ∷ []; gives_out = []; back = true }

abbrev onward : BoxFace
onward = record { input = 0; output = Some 0; gives_in = 0 ∷ []; gives_out = []; back = false }

gives : IsGiving giving
gives b e = let l = ap length e in omega (arith, l)

gives_nothing : IsGiving mute → ⊥
gives_nothing h = h refl refl

leads_nowhere : IsGiving onward
leads_nowhere b e = true≢false (sym b)

-- fields that rise, that fall, and one that stands twice
sorted : IsSortedFace (record { input = 0; output = Some 0; gives_in = 0 ∷ 2 ∷ []; gives_out = 1 ∷ []; back = true })
sorted = ((omega arith, tt), tt)

falling : IsSortedFace (record { input = 0; output = None; gives_in = 2 ∷ 0 ∷ []; gives_out = []; back = false }) → ⊥
falling h = let l = h.0.0 in omega (arith, l)

repeated : IsSortedFace (record { input = 0; output = Some 0; gives_in = 0 ∷ []; gives_out = 1 ∷ 1 ∷ []; back = false })
    → ⊥
repeated h = let l = h.1.0 in omega (arith, l)
