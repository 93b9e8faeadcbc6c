-- The part of a forest at two roots is determined but for how its languages are given, and so is whether it is within.
use Rattle.std.proofs.Common.{Bool, IsTrue, ◌↔◌, ◌≡◌, ℕ, List, [], ◌∷◌, ◌++◌, map, sym, ap₂, subst, Option}
use Rattle.std.proofs.Common.{Some, slice_get}
use Rattle.fore_base.specs.Lists.{Paired}
use Rattle.fore_base.proofs.ListLemmas.{same_item}
use Rattle.ta_core.specs.Auto.{Automaton}
use Rattle.ta_core.specs.Language.{HasSameLanguage, IsWithin}
use Rattle.ta_core.specs.declared.tree.Tree.{Tree}
use Rattle.fa_back.proofs.Dressable.{some_choice}
use Rattle.fa_core.specs.Boxes.{Boxes}
use Rattle.fa_core.specs.Filled.{IsSound}
use Rattle.fa_core.specs.Folding.{AreInnerAutos, ArePortAutos, ArePartRoots, IsLanguageOf, IsPart, IsPartWithin}
use Rattle.fa_core.specs.Folding.{Ports, position}
use Rattle.fa_core.specs.LeastFolds.{CanFold}
use Rattle.fa_core.specs.declared.boxes.BoxDef.{BoxDef}
use Rattle.fa_core.specs.declared.faces.BoxFace.{BoxFace}
use Rattle.fa_core.specs.declared.faces.Face.{Face}
use Rattle.fa_core.specs.declared.forest.Forest.{Forest}
use Rattle.fa_part.proofs.PartRoots.{one_inner}
use Rattle.fa_part.proofs.WholeParts.{one_ports}

-- what g makes of the trees of one automaton is one language
one_language : (g : Tree → Tree) (autos : List Automaton) (r : ℕ) (b c : Automaton)
    → (a : Automaton) × (slice_get autos r ≡ Some a) × IsLanguageOf g a b
    → (a : Automaton) × (slice_get autos r ≡ Some a) × IsLanguageOf g a c → HasSameLanguage b c
one_language g autos r b c (a, at, h) (a2, at2, k) u =
    let e = same_item autos r a a2 at at2 in
    let w = subst (λ (z : Automaton). IsLanguageOf g z b) e h in
    ((λ i. (k u).1 ((w u).0 i)), (λ i. (w u).1 ((k u).0 i)))

one_port_autos : (f : ℕ → ℕ) (autos : List Automaton) (ps : Ports) (shapes : List ℕ) (made other : List Automaton)
    → ArePortAutos f autos ps shapes made → ArePortAutos f autos ps shapes other → Paired HasSameLanguage made other
one_port_autos f autos [] shapes made other h k =
    subst (λ (l : List Automaton). Paired HasSameLanguage l other) (sym h)
    (subst (λ (l : List Automaton). Paired HasSameLanguage [] l) (sym k) tt)
one_port_autos f autos (p ∷ ps) [] made other h k = absurd h
one_port_autos f autos (p ∷ ps) (s ∷ shapes) [] other h k = absurd h
one_port_autos f autos (p ∷ ps) (s ∷ shapes) (b ∷ made) [] h k = absurd k
one_port_autos f autos (p ∷ ps) (s ∷ shapes) (b ∷ made) (c ∷ other) h k = (
  one_language _ autos p.0 b c h.0 k.0,
  one_port_autos f autos ps shapes made other h.1 k.1,
)

one_inner_autos : (f : ℕ → ℕ) (autos : List Automaton) (inner : List ℕ) (made other : List Automaton)
    → AreInnerAutos f autos inner made → AreInnerAutos f autos inner other → Paired HasSameLanguage made other
one_inner_autos f autos [] [] [] h k = tt
one_inner_autos f autos [] [] (c ∷ other) h k = absurd k
one_inner_autos f autos [] (b ∷ made) other h k = absurd h
one_inner_autos f autos (r ∷ inner) [] other h k = absurd h
one_inner_autos f autos (r ∷ inner) (b ∷ made) [] h k = absurd k
one_inner_autos f autos (r ∷ inner) (b ∷ made) (c ∷ other) h k = (
  one_language _ autos r b c h.0 k.0,
  one_inner_autos f autos inner made other h.1 k.1,
)

paired_joined : {X Y : Type 0} (R : X → Y → Type 0) (xs us : List X) (ys vs : List Y) → Paired R xs ys → Paired R us vs
    → Paired R (xs ++ us) (ys ++ vs)
paired_joined R [] us [] vs h k = k
paired_joined R [] us (y ∷ ys) vs h k = absurd h
paired_joined R (x ∷ xs) us [] vs h k = absurd h
paired_joined R (x ∷ xs) us (y ∷ ys) vs h k = (h.0, paired_joined R xs us ys vs h.1 k)

-- the languages of one list are within those of a third where those of the second are
within_same : (xs ys zs : List Automaton) → Paired HasSameLanguage xs ys → Paired IsWithin ys zs → Paired IsWithin xs zs
within_same [] [] zs h k = k
within_same [] (y ∷ ys) zs h k = absurd h
within_same (x ∷ xs) [] zs h k = absurd h
within_same (x ∷ xs) (y ∷ ys) [] h k = absurd k
within_same (x ∷ xs) (y ∷ ys) (z ∷ zs) h k = ((λ t i. k.0 t ((h.0 t).0 i)), within_same xs ys zs h.1 k.1)

module _ (bs : List BoxFace) (face : Face) (F : Forest) (sound : IsSound face F) (b : BoxDef) (i : ℕ)
    (out : Option ℕ) where
  -- parts at one place have the same languages
  pub one_part : (g h : BoxDef) → IsPart bs F b i out g → IsPart bs F b i out h
      → Paired HasSameLanguage g.inside.autos h.inside.autos
  one_part g h p q =
      let e = one_ports bs b i out p.ports q.ports p.shapes q.shapes p.are_ports q.are_ports in
      let c = some_choice F.autos sound.full in
      let d : p.inner ≡ q.inner = one_inner F.vars c.0 p.ports p.inner q.inner (p.reached c.0 c.1)
      (subst (λ (ps : Ports). ArePartRoots F.vars c.0 ps q.inner) (sym e.0) (q.reached c.0 c.1)) in
      let f = position (map (λ p. p.0) p.ports ++ p.inner) in
      let l : map (λ p. p.0) p.ports ++ p.inner ≡ map (λ p. p.0) q.ports ++ q.inner =
      ap₂ (λ (ps : Ports) (rs : List ℕ). map (λ p. p.0) ps ++ rs) e.0 d in
      let ports = subst (λ (rs : List ℕ). ArePortAutos (position rs) F.autos p.ports p.shapes q.port_autos) (sym l)
      (subst (λ (ss : List ℕ). ArePortAutos _ F.autos p.ports ss q.port_autos) (sym e.1)
      (subst (λ (ps : Ports). ArePortAutos _ F.autos ps q.shapes q.port_autos) (sym e.0) q.at_ports)) in
      let inner = subst (λ (rs : List ℕ). AreInnerAutos (position rs) F.autos p.inner q.inner_autos) (sym l)
      (subst (λ (rs : List ℕ). AreInnerAutos _ F.autos rs q.inner_autos) (sym d) q.at_inner) in
      subst (λ (l : List Automaton). Paired HasSameLanguage l h.inside.autos) (sym p.autos)
      (subst (λ (l : List Automaton). Paired HasSameLanguage (p.port_autos ++ p.inner_autos) l) (sym q.autos)
      (paired_joined HasSameLanguage p.port_autos p.inner_autos q.port_autos q.inner_autos
      (one_port_autos f F.autos p.ports p.shapes p.port_autos q.port_autos p.at_ports ports)
      (one_inner_autos f F.autos p.inner p.inner_autos q.inner_autos p.at_inner inner)))

  -- one of them is within the box where another is
  pub within_by_other : (g h : BoxDef) → IsPart bs F b i out g → IsPart bs F b i out h → IsPartWithin h b
      → IsPartWithin g b
  within_by_other g h p q w =
      within_same g.inside.autos h.inside.autos b.inside.autos (one_part g h p q) w

module _ (T : Boxes) (F : Forest) (b i : ℕ) (out : Option ℕ) where
  -- the box cannot be folded where there is no part
  pub none_folds : ((def : BoxDef) → slice_get T.defs b ≡ Some def → (g : BoxDef) → IsPart T.face.boxes F def i out g
      → ⊥)
      → CanFold T F b i out → ⊥
  none_folds h (def, there, (g, part, within)) = h def there g part

  -- where there is one, it can be folded where that one is within
  pub some_folds : (face : Face) → IsSound face F → (def g : BoxDef) (v : Bool) → slice_get T.defs b ≡ Some def
      → IsPart T.face.boxes F def i out g → (IsTrue v ↔ IsPartWithin g def) → IsTrue v ↔ CanFold T F b i out
  some_folds face sound def g v there part d = ((λ y. (def, there, (g, part, d.0 y))), from)
    where
      from : CanFold T F b i out → IsTrue v
      from (other, at, (k, is, within)) =
          let e : other ≡ def = same_item T.defs b other def at there in
          d.1 (within_by_other T.face.boxes face F sound def i out g k part
          (subst (λ (z : BoxDef). IsPart T.face.boxes F z i out k) e is)
          (subst (λ (z : BoxDef). IsPartWithin k z) e within))
