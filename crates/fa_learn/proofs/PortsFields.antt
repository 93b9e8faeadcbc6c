-- The fields that the ports of a box between two roots have: those that its trees cover and are given are the same for
-- all of them.
use Rattle.std.proofs.Common.{◌≡◌, ◌≢◌, inl, inr, ℕ, Bool, true, false, cond, List, [], ◌∷◌, ◌++◌, filter, flat_map}
use Rattle.std.proofs.Common.{refl, sym, ap, ap₂, subst, ◌∙◌}
use Rattle.fore_base.specs.Lists.{IsIn}
use Rattle.fore_base.specs.declared.store.Datum.{Datum}
use Rattle.ta_core.specs.Auto.{Automaton}
use Rattle.ta_core.specs.Language.{InLanguage, RunEach, run_none, run_more, RunOf}
use Rattle.ta_core.specs.Single.{HasOneTop}
use Rattle.ta_core.specs.declared.auto.Rule.{Rule}
use Rattle.ta_core.specs.declared.symbol.Slot.{Slot}
use Rattle.ta_core.specs.declared.symbol.Slot.TheVariants.{Field, Link, Hook}
use Rattle.ta_core.specs.declared.symbol.Symbol.{Symbol}
use Rattle.ta_core.specs.declared.symbol.Symbol.TheVariants.{Cell as CellSymbol}
use Rattle.ta_core.specs.declared.tree.Tree.{Tree, Tree-F, out-roll-Tree}
use Rattle.fa_core.specs.declared.faces.BoxFace.{BoxFace}
use Rattle.fa_core.specs.declared.faces.Face.{Face}
use Rattle.fa_core.specs.declared.forest.Forest.{Forest}
use Rattle.fa_core.specs.declared.forest.Target.TheVariants.{At}
use Rattle.fa_core.specs.declared.signature.RefMark.{RefMark}
use Rattle.fa_core.specs.Cells.{mark_of}
use Rattle.fa_core.specs.Dressed.{Parts, node, no_parts, field, link, hook}
use Rattle.fa_core.specs.Filled.{HasField, HasSignatures, covers, given_at}
use Rattle.fa_core.specs.Folding.{covered_fields, is_one_of, symbol_slots}
use Rattle.fa_core.specs.Member.{bare, bare_end, bare_parts, slots_of}
use Rattle.fa_core.specs.Placed.{placed_parts}
use Rattle.fa_core.specs.Rearranged.{Rearranged, chain, empty}
use Rattle.fa_core.specs.Ways.{Way, given, has, signature, to_root, ways}
use Rattle.fa_core.proofs.Dressing.{cell_top}
use Rattle.fa_core.proofs.Given.{end_tips, tip_to, tips_of}
use Rattle.fa_core.proofs.Placing.{slots_placed}
use Rattle.fa_core.proofs.Rearranging.{back, both, equal, flat_map-append}
use Rattle.fa_back.proofs.RootMarks.{in_flat, in_has}
use Rattle.fa_box_rules.specs.Rules.{root_fields}
use Rattle.fa_folding.specs.Folded.{taken_parts}
use Rattle.fa_sound.specs.inner.Owned.{fields_of_mark}
use Rattle.fa_sound.proofs.Given.{given_tree}
use Rattle.fa_split.specs.Split.{top_rule}
use Rattle.fa_split.proofs.TopRules.{tree_by_top}
use Rattle.fa_learn.specs.Learning.{IsBetween, port_of}
use Rattle.fa_learn.proofs.LeadFields.{has_slot}
use Rattle.fa_learn.proofs.PortGiven.{end_given}
use Rattle.fa_learn.proofs.PortsRight.{given_input, given_output}
use Rattle.fa_learn.proofs.PortsSeen.{AreSeen, in0, in1, port_node, slots0, slots1}
use Rattle.fa_learn.proofs.TakenParts.{taken_slots}

module _ (bs : List BoxFace) (fs : List ℕ) where
  -- what a port covers
  pub port_covers : (f : ℕ → ℕ) (s : ℕ) (ps : Parts) → covered_fields bs (bare (port_node f s fs ps))
      ≡ flat_map (covers bs) (filter (is_one_of fs) (slots_of ps))
  port_covers f s ps =
      let qs = placed_parts (λ k. At (f k)) (taken_parts fs ps) in
      ap (λ (y : Symbol). flat_map (covers bs) (symbol_slots y)) (cell_top 0 s [] qs)
      ∙ ap (flat_map (covers bs)) (slots_placed (λ k. At (f k)) (taken_parts fs ps) ∙ taken_slots fs ps)

  module _ (r : ℕ) where
    -- what box edges below the taken fields give to root r, by the slots and the trees below them
    abbrev by_ways : Tree → List ℕ
    by_ways t = flat_map (λ (w : Way). given bs w.steps) (to_root r (ways t))

    abbrev below : Bool → Tree → List ℕ → List ℕ
    below b t xs = cond b (by_ways t ++ xs) xs

    abbrev given_below : List Slot → List Tree → List ℕ
    given_below [] ts = []
    given_below (Hook b ∷ ss) ts = given_below ss ts
    given_below (Field g ∷ ss) [] = []
    given_below (Field g ∷ ss) (t ∷ ts) = below (has g fs) t (given_below ss ts)
    given_below (Link b ∷ ss) [] = []
    given_below (Link b ∷ ss) (t ∷ ts) = given_below ss ts

    below_parts : (ps : Parts) → flat_map (tip_to r) (tips_of bs (taken_parts fs ps))
        ≡ given_below (slots_of ps) (bare_parts ps)
    below_parts no_parts = refl
    below_parts (field g e ps) = here (has g fs) (below_parts ps)
      where
        here : (b : Bool) → flat_map (tip_to r) (tips_of bs (taken_parts fs ps))
            ≡ given_below (slots_of ps) (bare_parts ps)
            → flat_map (tip_to r) (tips_of bs (cond b (field g e (taken_parts fs ps)) (taken_parts fs ps)))
            ≡ below b (bare_end e) (given_below (slots_of ps) (bare_parts ps))
        here true k =
            flat_map-append (tip_to r) (end_tips bs [] e) (tips_of bs (taken_parts fs ps))
            ∙ ap₂ (λ (x y : List ℕ). x ++ y) (sym (end_given bs r e)) k
        here false k = k
    below_parts (link b i e ps) = below_parts ps
    below_parts (hook b i ps) = below_parts ps

    signs_give : (t u : Tree) → signature bs t ≡ signature bs u → Rearranged (by_ways t) (by_ways u)
    signs_give t u h =
        chain (given_tree bs t r)
        (chain (equal (ap (λ (ms : List RefMark). fields_of_mark (mark_of r ms)) h)) (back (given_tree bs u r)))

    module _ (rules : List Rule)
        (signed : (q : ℕ) (t u : Tree) → RunOf rules q t → RunOf rules q u → signature bs t ≡ signature bs u) where
      same_below : (ss : List Slot) {qs : List ℕ} {ts us : List Tree} → RunEach rules qs ts → RunEach rules qs us
          → Rearranged (given_below ss ts) (given_below ss us)
      same_below [] h k = empty
      same_below (Hook b ∷ ss) h k = same_below ss h k
      same_below (Field g ∷ ss) run_none run_none = empty
      same_below (Field g ∷ ss) (run_more {q = q} {t = t} {ts = ts} a h) (run_more {t = u} {ts = us} c k) =
          here (has g fs) (same_below ss h k)
        where
          here : (b : Bool) → Rearranged (given_below ss ts) (given_below ss us)
              → Rearranged (below b t (given_below ss ts)) (below b u (given_below ss us))
          here true x = both (signs_give t u (signed q t u a c)) x
          here false x = x
      same_below (Link b ∷ ss) run_none run_none = empty
      same_below (Link b ∷ ss) (run_more a h) (run_more c k) = same_below ss h k

    -- so it is the same for two trees of one automaton with one top
    pub same_given : (a : Automaton) → HasSignatures bs a → (one : HasOneTop a) → (c s : ℕ) (ds : List Datum) (ps : Parts)
        → InLanguage a (bare (node c s ds ps)) → (d u : ℕ) (es : List Datum) (qs : Parts)
        → InLanguage a (bare (node d u es qs)) → slots_of ps ≡ slots_of qs
        → Rearranged (flat_map (tip_to r) (tips_of bs (taken_parts fs ps)))
        (flat_map (tip_to r) (tips_of bs (taken_parts fs qs)))
    same_given a signed one c s ds ps h d u es qs k e =
        let x : Tree-F Tree = record { symbol = CellSymbol s ds (slots_of ps); children = bare_parts ps } in
        let y : Tree-F Tree = record { symbol = CellSymbol u es (slots_of qs); children = bare_parts qs } in
        let m = (tree_by_top a one (bare (node c s ds ps)) h).1 in
        let n = (tree_by_top a one (bare (node d u es qs)) k).1 in
        chain (equal (below_parts ps ∙ ap (λ (ss : List Slot). given_below ss (bare_parts ps)) e))
        (chain (same_below a.rules signed.states (slots_of qs)
        (subst (λ (z : Tree-F Tree). RunEach a.rules (top_rule a).children z.children) (out-roll-Tree x) m)
        (subst (λ (z : Tree-F Tree). RunEach a.rules (top_rule a).children z.children) (out-roll-Tree y) n))
        (equal (sym (below_parts qs))))

-- Two choices of a box's trees.
module _ (face : Face) (F : Forest) (i j : ℕ) (ins outs : List ℕ) (b : IsBetween F i j ins outs)
    (signed0 : HasSignatures face.boxes b.input.auto) (signed1 : HasSignatures face.boxes b.output.auto) where
  abbrev bs : List BoxFace
  bs = face.boxes

  covers0 : (u0 u1 : Tree) (w : AreSeen F i j ins outs b u0 u1) → covered_fields bs u0
      ≡ flat_map (covers bs) (filter (is_one_of ins) b.input.slots)
  covers0 u0 u1 w =
      ap (covered_fields bs) w.is0 ∙ port_covers bs ins (port_of i j) b.in_shape w.ps0
      ∙ ap (λ (ss : List Slot). flat_map (covers bs) (filter (is_one_of ins) ss)) (slots0 F i j ins outs b u0 u1 w)

  covers1 : (u0 u1 : Tree) (w : AreSeen F i j ins outs b u0 u1) → covered_fields bs u1
      ≡ flat_map (covers bs) (filter (is_one_of outs) b.output.slots)
  covers1 u0 u1 w =
      ap (covered_fields bs) w.is1 ∙ port_covers bs outs (port_of i j) b.out_shape w.ps1
      ∙ ap (λ (ss : List Slot). flat_map (covers bs) (filter (is_one_of outs) ss)) (slots1 F i j ins outs b u0 u1 w)

  in_filter : (p : Slot → Bool) (ss : List Slot) (s : Slot) → IsIn s ss → p s ≡ true → IsIn s (filter p ss)
  in_filter p [] s h e = absurd h
  in_filter p (x ∷ ss) s (inl d) e = let k : p x ≡ true = ap p (sym d) ∙ e in rw k (inl d)
  in_filter p (x ∷ ss) s (inr h) e = here (p x) (in_filter p ss s h e)
    where
      here : (b : Bool) → IsIn s (filter p ss) → IsIn s (cond b (x ∷ filter p ss) (filter p ss))
      here true k = inr k
      here false k = k

  in_field : (g : ℕ) (xs : List ℕ) → IsIn g xs → HasField xs
  in_field g [] h = h
  in_field g (x ∷ xs) h = tt

  -- a field that leads to the other root is covered
  covered : (fs : List ℕ) (g : ℕ) (ss : List Slot) → IsIn g fs → IsIn (Field g) ss
      → IsIn g (flat_map (covers bs) (filter (is_one_of fs) ss))
  covered fs g ss h k =
      in_flat (covers bs) (filter (is_one_of fs) ss) (Field g) g
      (in_filter (is_one_of fs) ss (Field g) k (in_has g fs h)) (inl refl)

  pub input_covers : (g : ℕ) → IsIn g ins → (u0 u1 : Tree) (w : AreSeen F i j ins outs b u0 u1)
      → IsIn g (covered_fields bs u0)
  input_covers g h u0 u1 w =
      subst (λ (l : List ℕ). IsIn g l) (sym (covers0 u0 u1 w))
      (covered ins g b.input.slots h (subst (λ (ss : List Slot). IsIn (Field g) ss) (slots0 F i j ins outs b u0 u1 w)
      (has_slot w.c0 b.in_shape w.ds0 w.ps0 b.input.auto j ins b.are_in (in0 F i j ins outs b u0 u1 w) g h)))

  pub output_covers : (g : ℕ) → IsIn g outs → (u0 u1 : Tree) (w : AreSeen F i j ins outs b u0 u1)
      → IsIn g (covered_fields bs u1)
  output_covers g h u0 u1 w =
      subst (λ (l : List ℕ). IsIn g l) (sym (covers1 u0 u1 w))
      (covered outs g b.output.slots h
      (subst (λ (ss : List Slot). IsIn (Field g) ss) (slots1 F i j ins outs b u0 u1 w)
      (has_slot w.c1 b.out_shape w.ds1 w.ps1 b.output.auto i outs b.are_out (in1 F i j ins outs b u0 u1 w) g h)))

  -- the input covers some field
  first_of : (xs : List ℕ) → xs ≢ [] → (g : ℕ) × IsIn g xs
  first_of [] n = absurd (n refl)
  first_of (x ∷ xs) n = (x, inl refl)

  pub some_in : (g : ℕ) × IsIn g ins
  some_in = first_of ins b.some

  pub input_some : (u0 u1 : Tree) (w : AreSeen F i j ins outs b u0 u1) → HasField (covered_fields bs u0)
  input_some u0 u1 w = in_field some_in.0 (covered_fields bs u0) (input_covers some_in.0 some_in.1 u0 u1 w)

  module _ (u0 u1 : Tree) (w : AreSeen F i j ins outs b u0 u1) (v0 v1 : Tree)
      (v : AreSeen F i j ins outs b v0 v1) where
    pub same_covers0 : covered_fields bs u0 ≡ covered_fields bs v0
    same_covers0 = covers0 u0 u1 w ∙ sym (covers0 v0 v1 v)

    pub same_covers1 : covered_fields bs u1 ≡ covered_fields bs v1
    same_covers1 = covers1 u0 u1 w ∙ sym (covers1 v0 v1 v)

    given0 : Rearranged (given_at bs (u0 ∷ u1 ∷ []) 0) (given_at bs (v0 ∷ v1 ∷ []) 0)
    given0 =
        chain (equal (ap₂ (λ (x y : Tree). given_at bs (x ∷ y ∷ []) 0) w.is0 w.is1
        ∙ given_input face F i j ins outs b u0 u1 w))
        (chain (same_given bs outs i b.output.auto signed1 b.output.one w.c1 b.out_shape w.ds1 w.ps1
        (in1 F i j ins outs b u0 u1 w) v.c1 b.out_shape v.ds1 v.ps1 (in1 F i j ins outs b v0 v1 v)
        (slots1 F i j ins outs b u0 u1 w ∙ sym (slots1 F i j ins outs b v0 v1 v)))
        (equal (sym (ap₂ (λ (x y : Tree). given_at bs (x ∷ y ∷ []) 0) v.is0 v.is1
        ∙ given_input face F i j ins outs b v0 v1 v))))

    given1 : Rearranged (given_at bs (u0 ∷ u1 ∷ []) 1) (given_at bs (v0 ∷ v1 ∷ []) 1)
    given1 =
        chain (equal (ap₂ (λ (x y : Tree). given_at bs (x ∷ y ∷ []) 1) w.is0 w.is1
        ∙ given_output face F i j ins outs b u0 u1 w))
        (chain (same_given bs ins j b.input.auto signed0 b.input.one w.c0 b.in_shape w.ds0 w.ps0
        (in0 F i j ins outs b u0 u1 w) v.c0 b.in_shape v.ds0 v.ps0 (in0 F i j ins outs b v0 v1 v)
        (slots0 F i j ins outs b u0 u1 w ∙ sym (slots0 F i j ins outs b v0 v1 v)))
        (equal (sym (ap₂ (λ (x y : Tree). given_at bs (x ∷ y ∷ []) 1) v.is0 v.is1
        ∙ given_output face F i j ins outs b v0 v1 v))))

    -- the ports have the same fields
    pub same_fields0 : Rearranged (root_fields bs (u0 ∷ u1 ∷ []) 0) (root_fields bs (v0 ∷ v1 ∷ []) 0)
    same_fields0 = both (equal same_covers0) given0

    pub same_fields1 : Rearranged (root_fields bs (u0 ∷ u1 ∷ []) 1) (root_fields bs (v0 ∷ v1 ∷ []) 1)
    same_fields1 = both (equal same_covers1) given1
