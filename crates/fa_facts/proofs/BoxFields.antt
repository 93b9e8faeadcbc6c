-- Insides of sound boxes give their ports what the boxes' faces say, and their cells the fields of their structs.
use Rattle.std.proofs.Common.{◌≡◌, inl, inr, ℕ, zero, suc, ◌<◌, ◌+◌, List, [], ◌∷◌, ◌++◌}
use Rattle.std.proofs.Common.{Option, Some, None, slice_get, length, flat_map, refl, sym, ap, subst}
use Rattle.std.proofs.Common.{◌∙◌, arith}
use Rattle.std.proofs.lemmas.Option.{none-some, same_Some}
use Rattle.fore_base.specs.Lists.{IsIn, Paired}
use Rattle.fore_base.specs.declared.shape.Shape.{Shape}
use Rattle.fore_base.specs.declared.shape.Shapes.{Shapes}
use Rattle.fore_base.specs.declared.store.Value.{Value}
use Rattle.fore_base.specs.declared.store.Value.TheVariants.{Cell}
use Rattle.ta_core.specs.Auto.{Automaton}
use Rattle.fa_core.specs.declared.boxes.BoxDef.{BoxDef}
use Rattle.fa_core.specs.declared.faces.BoxFace.{BoxFace}
use Rattle.fa_core.specs.declared.faces.Face.{Face}
use Rattle.fa_core.specs.declared.forest.Target.TheVariants.{At}
use Rattle.fa_core.specs.Boxes.{IsPortFilled, InsideFilled, InsideFits, port_fields, SoundBox, AreSoundOver, faces_of}
use Rattle.fa_core.specs.Choices.{bares}
use Rattle.fa_core.specs.Dressed.{Nodes, node, no_nodes, more, nth_value, with_ports, inside_facts}
use Rattle.fa_core.specs.Filled.{Spot, covers, given_at}
use Rattle.fa_core.specs.Member.{TreesOf, slots_of, inside_of}
use Rattle.fa_core.specs.Rearranged.{Rearranged, often}
use Rattle.fa_core.proofs.Dressing.{choice_of}
use Rattle.fa_core.proofs.Given.{all_tips}
use Rattle.fa_core.proofs.GivenTips.{given_tips}
use Rattle.fa_core.proofs.NodeSpots.{node_spots, spots_are}
use Rattle.fa_core.proofs.SeenCells.{node_structs, tops_structs}
use Rattle.fa_facts.proofs.FactCounts.{given_n, owed_n, at_cell, at_value, fields_sum}
use Rattle.fa_facts.proofs.ForestFields.{root_is, idle_port, ports_count}
use Rattle.fa_facts.proofs.RootGifts.{roots_tips, gift_none}
use Rattle.fa_facts.proofs.Tables.{face_of_table, face_before, face_next, inside_next, each_box}
use Rattle.fa_facts.proofs.TreeFields.{Lands, LinkGives, HookGives}

-- One box.

module _ (face : Face) (T : List BoxDef) (c f : ℕ) (links : (b : ℕ) → LinkGives face T c f b)
    (hooks : (b : ℕ) → HookGives face T c f b) where
  abbrev hs : List Shape
  hs = face.shapes.structs

  -- the facts of an inside whose ports are these values
  inside_count : (x : BoxFace) (autos : List Automaton) (i : Nodes) (values : List Value) → TreesOf T autos i
      → (fits : InsideFits face x (bares i)) → Paired Lands (port_fields x x.output) values
      → ((r t : ℕ) (g : List ℕ) → slice_get fits.tops r ≡ Some t → IsIn (At r, g) (all_tips face.boxes i)
      → Lands g (nth_value (with_ports values i) r))
      → given_n hs c f (inside_facts values i) ≡ owed_n hs c f (inside_facts values i)
      + fields_sum hs c f values (port_fields x x.output)
  inside_count x autos i values o fits l lands =
      let e = ports_count face T c f links hooks i fits.tops (with_ports values i) lands autos i 0 values
      (port_fields x x.output) o fits.cells (λ p h. h) l in
      let t = roots_tips face T c f (with_ports values i) (all_tips face.boxes i) in
      omega (arith, e, t)

  -- where the ends of a box's edges land
  lands_alone : (x : BoxFace) (i : Nodes) (m : ℕ) (tops : List ℕ) → tops ≡ node_structs i → (r t : ℕ) (g : List ℕ)
      → slice_get tops r ≡ Some t → Lands g (nth_value (with_ports (Cell m ∷ []) i) r)
  lands_alone x no_nodes m tops e r t g h = let z = rw e at h in absurd (none-some t z)
  lands_alone x (more n ns) m tops e zero t g h = inl (m, refl)
  lands_alone x (more (node k s ds ps) ns) m tops e (suc r) t g h = let z = rw e at h in inl (root_is ns r t z)

  hook_count : (x : BoxFace) (autos : List Automaton) (i : Nodes) (m : ℕ) → TreesOf T autos i
      → InsideFits face x (bares i) → x.output ≡ None → given_n hs c f (inside_facts (Cell m ∷ []) i)
      ≡ owed_n hs c f (inside_facts (Cell m ∷ []) i) + at_cell hs c f m (often f x.gives_in)
  hook_count x autos i m o fits e =
      let l : Paired Lands (port_fields x None) (Cell m ∷ []) = (inl (m, refl), tt) in
      let q = inside_count x autos i (Cell m ∷ []) o fits
      (subst (λ (y : Option ℕ). Paired Lands (port_fields x y) (Cell m ∷ [])) (sym e) l)
      (λ r t g h k. lands_alone x i m fits.tops (tops_structs i fits.tops fits.are) r t g h) in
      let s : fields_sum hs c f (Cell m ∷ []) (port_fields x x.output) ≡ at_cell hs c f m (often f x.gives_in) + 0 =
      ap (λ (y : Option ℕ). fields_sum hs c f (Cell m ∷ []) (port_fields x y)) e in
      omega (arith, q, s)

  lands_two : (x : BoxFace) (i : Nodes) (m : ℕ) (w : Value) (tops : List ℕ) → tops ≡ node_structs i
      → InsideFilled face (bares i) tops 0 (x.gives_in ∷ (x.gives_out ∷ [])) (bares i) → Lands x.gives_out w
      → (r t : ℕ) (g : List ℕ) → slice_get tops r ≡ Some t → IsIn (At r, g) (all_tips face.boxes i)
      → Lands g (nth_value (with_ports (Cell m ∷ (w ∷ [])) i) r)
  lands_two x no_nodes m w tops e h l r t g q k = let z = rw e at q in absurd (none-some t z)
  lands_two x (more n ns) m w tops e h l zero t g q k = inl (m, refl)
  lands_two x (more (node a s ds ps) no_nodes) m w tops e h l (suc r) t g q k =
      let z = rw e at q in absurd (none-some t z)
  lands_two x (more n (more o ns)) m w tops e h (inl l) (suc zero) t g q k = inl l
  lands_two x (more n (more (node a s ds ps) ns)) m w tops e h (inr l) (suc zero) t g q k =
      let all : Nodes = more n (more (node a s ds ps) ns) in
      let p : IsPortFilled face tops x.gives_out (node_spots face.boxes (node a s ds ps)
      (given_at face.boxes (bares (more n (more (node a s ds ps) ns))) 1)) =
      subst (λ (z : List Spot). IsPortFilled face tops x.gives_out z)
      (spots_are face.boxes (node a s ds ps) (given_at face.boxes (bares (more n (more (node a s ds ps) ns))) 1)) h.1.0
      in
      let o = p.0.once in
      let y = idle_port face.boxes (slots_of ps) (given_at face.boxes (bares (more n (more (node a s ds ps) ns))) 1)
      (subst (λ (z : List ℕ). Rearranged z (flat_map (covers face.boxes) (slots_of ps)
      ++ given_at face.boxes (bares (more n (more (node a s ds ps) ns))) 1)) l.1 o) in
      inr (
        l.0,
        gift_none 1 g (all_tips face.boxes (more n (more (node a s ds ps) ns))) k
            (sym (given_tips face.boxes 1 (more n (more (node a s ds ps) ns))) ∙ y.1),
      )
  lands_two x (more (node b u es qs) (more (node a s ds ps) ns)) m w tops e h l (suc (suc r)) t g q k =
      let z = rw e at q in inl (root_is ns r t z)

  link_count : (x : BoxFace) (t : ℕ) (autos : List Automaton) (i : Nodes) (m : ℕ) (w : Value) → TreesOf T autos i
      → InsideFits face x (bares i) → x.output ≡ Some t → Lands x.gives_out w
      → given_n hs c f (inside_facts (Cell m ∷ (w ∷ [])) i) ≡ owed_n hs c f (inside_facts (Cell m ∷ (w ∷ [])) i)
      + (at_cell hs c f m (often f x.gives_in) + at_value hs c f w (often f x.gives_out))
  link_count x t autos i m w o fits e l =
      let ll : Paired Lands (port_fields x (Some t)) (Cell m ∷ (w ∷ [])) = (inl (m, refl), (l, tt)) in
      let h : InsideFilled face (bares i) fits.tops 0 (x.gives_in ∷ (x.gives_out ∷ [])) (bares i) =
      subst (λ (y : Option ℕ). InsideFilled face (bares i) fits.tops 0 (port_fields x y) (bares i)) e fits.cells in
      let q = inside_count x autos i (Cell m ∷ (w ∷ [])) o fits
      (subst (λ (y : Option ℕ). Paired Lands (port_fields x y) (Cell m ∷ (w ∷ []))) (sym e) ll)
      (lands_two x i m w fits.tops (tops_structs i fits.tops fits.are) h l) in
      let s : fields_sum hs c f (Cell m ∷ (w ∷ [])) (port_fields x x.output) ≡ at_cell hs c f m (often f x.gives_in)
      + (at_value hs c f w (often f x.gives_out) + 0) =
      ap (λ (y : Option ℕ). fields_sum hs c f (Cell m ∷ (w ∷ [])) (port_fields x y)) e in
      omega (arith, q, s)

-- All boxes of a table.

module _ (shapes : Shapes) (c f : ℕ) where
  abbrev face_at : List BoxDef → Face
  face_at T = face_of_table shapes T

  abbrev pub Gives : List BoxDef → ℕ → Type 0
  Gives T b = LinkGives (face_at T) T c f b × HookGives (face_at T) T c f b

  module _ (before : List BoxDef) (d : BoxDef) (defs : List BoxDef) (sound : SoundBox (face_at before) before d)
      (lower : (b : ℕ) → b < length before → Gives (before ++ (d ∷ defs)) b) where
    there : (b : ℕ) (x : BoxFace) → slice_get (faces_of before) b ≡ Some x
        → (b < length before) × (slice_get (faces_of (before ++ (d ∷ defs))) b ≡ Some x)
    there b x e = face_before (λ (o : Option BoxFace). o ≡ Some x) (none-some x) before (d ∷ defs) b e

    links : (b : ℕ) → LinkGives (face_at before) (before ++ (d ∷ defs)) c f b
    links b x t autos i m w e o s trees l = let h = there b x e in (lower b h.0).0 x t autos i m w h.1 o s trees l

    hooks : (b : ℕ) → HookGives (face_at before) (before ++ (d ∷ defs)) c f b
    hooks b x autos i m e o s trees = let h = there b x e in (lower b h.0).1 x autos i m h.1 o s trees

    fits : (autos : List Automaton) (i : Nodes) → inside_of (before ++ (d ∷ defs)) (length before) ≡ Some autos
        → TreesOf (before ++ (d ∷ defs)) autos i → InsideFits (face_at before) d.face (bares i)
    fits autos i s trees =
        let e = inside_next before d defs autos s in
        sound.fits (bares i) (choice_of (before ++ (d ∷ defs)) d.inside.autos i
        (subst (λ (y : List Automaton). TreesOf (before ++ (d ∷ defs)) y i) (sym e) trees))

    -- the next box has this face
    face_is : (x : BoxFace) → slice_get (faces_of (before ++ (d ∷ defs))) (length before) ≡ Some x → d.face ≡ x
    face_is x e = same_Some d.face x (sym (face_next before d defs) ∙ e)

    next_gives : Gives (before ++ (d ∷ defs)) (length before)
    next_gives = (
      λ x t autos i m w e o s trees l.
          link_count (face_at before) (before ++ (d ∷ defs)) c f links hooks x t autos i m w trees
          (subst (λ (z : BoxFace). InsideFits (face_at before) z (bares i)) (face_is x e) (fits autos i s trees)) o l,
      λ x autos i m e o s trees.
          hook_count (face_at before) (before ++ (d ∷ defs)) c f links hooks x autos i m trees
          (subst (λ (z : BoxFace). InsideFits (face_at before) z (bares i)) (face_is x e) (fits autos i s trees)) o,
    )

  -- each box of a sound table gives its ports what its face says
  pub table_gives : (T : List BoxDef) → AreSoundOver shapes [] T → (b : ℕ) → Gives T b
  table_gives T h b = (
    λ x t autos i m w e o s trees l.
        (each_box shapes Gives next_gives T h b (inside_there T b autos s)).0 x t autos i m w e o s trees l,
    λ x autos i m e o s trees.
        (each_box shapes Gives next_gives T h b (inside_there T b autos s)).1 x autos i m e o s trees,
  )
    where
      inside_there : (T : List BoxDef) (b : ℕ) (autos : List Automaton) → inside_of T b ≡ Some autos → b < length T
      inside_there [] b autos e = absurd (none-some autos e)
      inside_there (d ∷ T) zero autos e = omega arith
      inside_there (d ∷ T) (suc b) autos e = let l = inside_there T b autos e in omega (arith, l)
