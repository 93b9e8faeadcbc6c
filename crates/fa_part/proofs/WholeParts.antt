-- Parts of forests: what the code finds, and where there is none.
use Rattle.std.proofs.Common.{◌≡◌, ◌<◌, inl, inr, ℕ, List, [], ◌∷◌, ◌++◌, map, refl, sym, ap, ap₂, subst}
use Rattle.std.proofs.Common.{◌∙◌, Option, Some, None, arith}
use Rattle.std.proofs.lemmas.Option.{same_Some}
use Rattle.fore_base.specs.Lists.{IsIn, IsDistinct, Every}
use Rattle.fore_base.proofs.ListLemmas.{same_item}
use Rattle.ta_core.specs.Auto.{Automaton}
use Rattle.fa_core.specs.Folding.{AreInnerAutos, ArePortAutos, ArePortFields, ArePortRoots, IsPart, Ports, PortsAre}
use Rattle.fa_core.specs.Folding.{position, taken_at}
use Rattle.fa_core.specs.Rearranged.{IsRising, RisesFrom}
use Rattle.fa_core.specs.declared.boxes.BoxDef.{BoxDef}
use Rattle.fa_core.specs.declared.faces.BoxFace.{BoxFace}
use Rattle.fa_core.specs.declared.forest.Forest.{Forest}
use Rattle.fa_part.specs.declared.ports.Port.{Port}
use Rattle.fa_part.specs.Made.{IsMade}
use Rattle.fa_part.specs.Ports.{AreInnerRoots, IsPortOf, IsTakenOnce, ports_of, roots_of, shapes_of}
use Rattle.fa_part.proofs.PortLists.{all_ports, each_once, each_port, once_at_all, port_roots}

-- The ports of a part are determined.

above_from : (n : ℕ) (xs : List ℕ) → RisesFrom n xs → (k : ℕ) → IsIn k xs → n < k
above_from n [] h k i = absurd i
above_from n (x ∷ xs) h k (inl e) = let l = h.0 in omega (arith, l, e)
above_from n (x ∷ xs) h k (inr i) = let l = h.0 in let m = above_from x xs h.1 k i in omega (arith, l, m)

first_of_both : (x y : ℕ) (xs ys : List ℕ) → RisesFrom x xs → RisesFrom y ys → IsIn x (y ∷ ys) → IsIn y (x ∷ xs) → x ≡ y
first_of_both x y xs ys h k (inl e) j = e
first_of_both x y xs ys h k (inr i) (inl e) = sym e
first_of_both x y xs ys h k (inr i) (inr j) =
    let a = above_from y ys k x i in let b = above_from x xs h y j in absurd (omega (arith, a, b))

rises_on : (n : ℕ) (xs : List ℕ) → RisesFrom n xs → IsRising xs
rises_on n [] h = tt
rises_on n (x ∷ xs) h = h.1

-- lists that rise and have the same numbers are one
one_rising : (xs ys : List ℕ) → IsRising xs → IsRising ys → ((k : ℕ) → IsIn k xs → IsIn k ys)
    → ((k : ℕ) → IsIn k ys → IsIn k xs) → xs ≡ ys
one_rising [] [] h k f g = refl
one_rising [] (y ∷ ys) h k f g = absurd (g y (inl refl))
one_rising (x ∷ xs) [] h k f g = absurd (f x (inl refl))
one_rising (x ∷ xs) (y ∷ ys) h k f g =
    let e = first_of_both x y xs ys h k (f x (inl refl)) (g y (inl refl)) in
    ap₂ (λ (z : ℕ) (zs : List ℕ). z ∷ zs) e
    (one_rising xs ys (rises_on x xs h) (rises_on y ys k)
    (λ n i. other n y ys (above_from x xs h n i) e (f n (inr i)))
    (λ n i. other n x xs (above_from y ys k n i) (sym e) (g n (inr i))))
  where
    other : {m : ℕ} (n z : ℕ) (zs : List ℕ) → m < n → m ≡ z → IsIn n (z ∷ zs) → IsIn n zs
    other n z zs l e (inl same) = absurd (omega (arith, l, e, same))
    other n z zs l e (inr i) = i

one_fields : (bs : List BoxFace) (a c : Automaton) (fs gs : List ℕ) → a ≡ c → ArePortFields bs a fs
    → ArePortFields bs c gs → fs ≡ gs
one_fields bs a c fs gs e h k =
    let w = subst (λ (z : Automaton). ArePortFields bs z fs) e h in
    one_rising fs gs w.rising k.rising (λ f i. (k.are f).1 ((w.are f).0 i)) (λ f i. (w.are f).1 ((k.are f).0 i))

pub one_ports : (bs : List BoxFace) (b : BoxDef) (i : ℕ) (out : Option ℕ) (ps qs : Ports) (ss us : List ℕ)
    → PortsAre bs b i out ps ss → PortsAre bs b i out qs us → (ps ≡ qs) × (ss ≡ us)
one_ports bs b i None ps qs ss us (a, ins, at, fields, ports, none, shapes)
    (c, others, at2, fields2, ports2, none2, shapes2) =
    let e = one_fields bs a c ins others (same_item b.inside.autos 0 a c at at2) fields fields2 in
    (ports ∙ ap (λ (fs : List ℕ). (i, fs) ∷ []) e ∙ sym ports2, shapes ∙ sym shapes2)
one_ports bs b i (Some j) ps qs ss us
    (a, c, ins, outs, t, at, at_out, fields, fields_out, ports, some, shapes)
    (a2, c2, ins2, outs2, t2, at2, at_out2, fields2, fields_out2, ports2, some2, shapes2) =
    let e = one_fields bs a a2 ins ins2 (same_item b.inside.autos 0 a a2 at at2) fields fields2 in
    let d = one_fields bs c c2 outs outs2 (same_item b.inside.autos 1 c c2 at_out at_out2) fields_out fields_out2 in
    let s : t ≡ t2 = same_Some t t2 (sym some ∙ some2) in (
      ports ∙ ap₂ (λ (fs gs : List ℕ). (i, fs) ∷ ((j, gs) ∷ [])) e d ∙ sym ports2,
      shapes ∙ ap (λ (z : ℕ). b.face.input ∷ (z ∷ [])) s ∙ sym shapes2,
    )

module _ (bs : List BoxFace) (F : Forest) (b : BoxDef) (i : ℕ) (out : Option ℕ) (ps : List Port)
    (are : PortsAre bs b i out (ports_of ps) (shapes_of ps)) where
  abbrev NoPart : Type 0
  NoPart = (g : BoxDef) → IsPart bs F b i out g → ⊥

  -- there is none without such roots
  pub no_roots : (Every (IsPortOf F.autos) ps → ⊥) → NoPart
  no_roots n g h =
      let e = one_ports bs b i out h.ports (ports_of ps) h.shapes (shapes_of ps) h.are_ports are in
      n (each_port F.autos ps (subst (λ (ss : List ℕ). ArePortRoots F.autos (ports_of ps) ss) e.1
      (subst (λ (qs : Ports). ArePortRoots F.autos qs h.shapes) e.0 h.roots)))

  -- nor where a field is taken twice
  pub no_once : (Every (IsTakenOnce ps) ps → ⊥) → NoPart
  no_once n g h =
      let e = one_ports bs b i out h.ports (ports_of ps) h.shapes (shapes_of ps) h.are_ports are in
      n (each_once ps (subst (λ (qs : Ports). (r : ℕ) → IsDistinct (taken_at qs r)) e.0 h.once))

  -- nor where no roots are reached through the fields alone
  pub no_inner : ((inner : List ℕ) → AreInnerRoots F (ports_of ps) inner → ⊥) → NoPart
  no_inner n g h =
      let e = one_ports bs b i out h.ports (ports_of ps) h.shapes (shapes_of ps) h.are_ports are in
      n h.inner (subst (λ (qs : Ports). AreInnerRoots F qs h.inner) e.0 h.reached)

  -- else what is made is the part
  pub is_part : (inner : List ℕ) (g : BoxDef) → Every (IsPortOf F.autos) ps → Every (IsTakenOnce ps) ps
      → AreInnerRoots F (ports_of ps) inner
      → IsMade F.autos b ps inner g → IsPart bs F b i out g
  is_part inner g roots once found made =
      let e : roots_of ps ≡ map (λ p. p.0) (ports_of ps) = sym (port_roots ps) in
      record {
        ports = ports_of ps;
        shapes = shapes_of ps;
        inner = inner;
        are_ports = are;
        roots = all_ports F.autos ps roots;
        once = once_at_all ps once;
        reached = found;
        name = made.1.name;
        face = made.1.face;
        no_vars = made.1.no_vars;
        no_data = made.1.no_data;
        port_autos = made.2.port_autos;
        inner_autos = made.2.inner_autos;
        autos = made.1.are ∙ made.2.are;
        at_ports = subst (λ (l : List ℕ). ArePortAutos (position (l ++ inner)) F.autos (ports_of ps) (shapes_of ps)
            made.2.port_autos) e made.2.at_ports;
        at_inner = subst (λ (l : List ℕ). AreInnerAutos (position (l ++ inner)) F.autos inner made.2.inner_autos) e
            made.2.at_inner;
      }
