-- The taken fields of a cell: their slots, ends and the cells below them, and what they refer to and are given.
use Rattle.std.proofs.Common.{◌≡◌, ◌<◌, inl, inr, ℕ, Bool, true, false, true≢false, cond, List, [], ◌∷◌, map, filter}
use Rattle.std.proofs.Common.{flat_map, refl, sym, ap, subst, ◌∙◌, arith}
use Rattle.fore_base.specs.Lists.{IsIn, Every}
use Rattle.fore_base.proofs.ListLemmas.{every_append, every_parts, in_append, in_left, in_right}
use Rattle.ta_core.specs.declared.symbol.Slot.{Slot}
use Rattle.ta_core.specs.declared.symbol.Slot.TheVariants.{Field, Link, Hook}
use Rattle.fa_core.specs.declared.faces.BoxFace.{BoxFace}
use Rattle.fa_core.specs.declared.faces.Face.{Face}
use Rattle.fa_core.specs.Dressed.{Parts, no_parts, field, link, hook, refs_of, end_refs}
use Rattle.fa_core.specs.Filled.{Spot, EndsFit, HasField, IsInOrder, covers, least}
use Rattle.fa_core.specs.Folding.{is_one_of}
use Rattle.fa_core.specs.Member.{slots_of}
use Rattle.fa_core.specs.Rearranged.{IsRising, RisesFrom}
use Rattle.fa_core.specs.Ways.{gives_out_of, has}
use Rattle.fa_core.proofs.Given.{end_tips, tip_to, tips_of}
use Rattle.fa_core.proofs.NodeSpots.{end_spots, end_symbols, parts_spots}
use Rattle.fa_core.proofs.Rearranging.{flat_map-append}
use Rattle.fa_back.proofs.RootMarks.{has_in, in_has}
use Rattle.fa_folding.specs.Folded.{taken_parts}
use Rattle.fa_learn.proofs.Contained.{IsContained, contained_both, contained_later, contained_same}

module _ (fs : List ℕ) where
  pub taken_slots : (ps : Parts) → slots_of (taken_parts fs ps) ≡ filter (is_one_of fs) (slots_of ps)
  taken_slots no_parts = refl
  taken_slots (field g e ps) = here (has g fs) (taken_slots ps)
    where
      here : (b : Bool) → slots_of (taken_parts fs ps) ≡ filter (is_one_of fs) (slots_of ps)
          → slots_of (cond b (field g e (taken_parts fs ps)) (taken_parts fs ps))
          ≡ cond b (Field g ∷ filter (is_one_of fs) (slots_of ps)) (filter (is_one_of fs) (slots_of ps))
      here true r = ap (λ (z : List Slot). Field g ∷ z) r
      here false r = r
  taken_slots (link b i e ps) = taken_slots ps
  taken_slots (hook b i ps) = taken_slots ps

  -- the ends of the taken slots fit
  pub taken_ends : (face : Face) (tops : List ℕ) (s : ℕ) (ps : Parts) → EndsFit face tops s (slots_of ps) (end_symbols ps)
      → EndsFit face tops s (slots_of (taken_parts fs ps)) (end_symbols (taken_parts fs ps))
  taken_ends face tops s no_parts h = tt
  taken_ends face tops s (field g e ps) h = here (has g fs) (taken_ends face tops s ps h.1)
    where
      here : (b : Bool) → EndsFit face tops s (slots_of (taken_parts fs ps)) (end_symbols (taken_parts fs ps))
          → EndsFit face tops s (slots_of (cond b (field g e (taken_parts fs ps)) (taken_parts fs ps)))
          (end_symbols (cond b (field g e (taken_parts fs ps)) (taken_parts fs ps)))
      here true r = (h.0, r)
      here false r = r
  taken_ends face tops s (link b i e ps) h = taken_ends face tops s ps h.1
  taken_ends face tops s (hook b i ps) h = taken_ends face tops s ps h.1

  module _ (bs : List BoxFace) where
    -- the cells below them are some of those below the slots
    pub taken_spots : (P : Spot → Type 0) (ps : Parts) → Every P (parts_spots bs ps)
        → Every P (parts_spots bs (taken_parts fs ps))
    taken_spots P no_parts h = tt
    taken_spots P (field g e ps) h =
        let k = every_parts P (end_spots bs [] e) (parts_spots bs ps) h in
        here (has g fs) k.0 (taken_spots P ps k.1)
      where
        here : (b : Bool) → Every P (end_spots bs [] e) → Every P (parts_spots bs (taken_parts fs ps))
            → Every P (parts_spots bs (cond b (field g e (taken_parts fs ps)) (taken_parts fs ps)))
        here true x r = every_append P (end_spots bs [] e) (parts_spots bs (taken_parts fs ps)) x r
        here false x r = r
    taken_spots P (link b i e ps) h =
        taken_spots P ps (every_parts P (end_spots bs (gives_out_of bs b) e) (parts_spots bs ps) h).1
    taken_spots P (hook b i ps) h = taken_spots P ps h

    -- each covers a field, and they stand in order
    taken_cover : (ps : Parts) → Every (λ s. HasField (covers bs s)) (slots_of ps)
        → Every (λ s. HasField (covers bs s)) (slots_of (taken_parts fs ps))
    taken_cover no_parts h = tt
    taken_cover (field g e ps) h = here (has g fs) (taken_cover ps h.1)
      where
        here : (b : Bool) → Every (λ s. HasField (covers bs s)) (slots_of (taken_parts fs ps))
            → Every (λ s. HasField (covers bs s)) (slots_of (cond b (field g e (taken_parts fs ps)) (taken_parts fs ps)))
        here true r = (tt, r)
        here false r = r
    taken_cover (link b i e ps) h = taken_cover ps h.1
    taken_cover (hook b i ps) h = taken_cover ps h.1

    abbrev leasts : Parts → List ℕ
    leasts ps = map (λ s. least (covers bs s)) (slots_of ps)

    lower : (m n : ℕ) (xs : List ℕ) → m < n → RisesFrom n xs → RisesFrom m xs
    lower m n [] l h = tt
    lower m n (x ∷ xs) l h = (let k = h.0 in omega (arith, l, k), h.1)

    pub rises_on : (n : ℕ) (xs : List ℕ) → RisesFrom n xs → IsRising xs
    rises_on n [] h = tt
    rises_on n (x ∷ xs) h = h.1

    taken_rise : (n : ℕ) (ps : Parts) → RisesFrom n (leasts ps) → RisesFrom n (leasts (taken_parts fs ps))
    taken_rise n no_parts h = tt
    taken_rise n (field g e ps) h = here (has g fs) (taken_rise g ps h.1)
      where
        here : (b : Bool) → RisesFrom g (leasts (taken_parts fs ps))
            → RisesFrom n (leasts (cond b (field g e (taken_parts fs ps)) (taken_parts fs ps)))
        here true r = (h.0, r)
        here false r = lower n g (leasts (taken_parts fs ps)) h.0 r
    taken_rise n (link b i e ps) h =
        lower n (least (covers bs (Link b))) (leasts (taken_parts fs ps)) h.0
        (taken_rise (least (covers bs (Link b))) ps h.1)
    taken_rise n (hook b i ps) h =
        lower n (least (covers bs (Hook b))) (leasts (taken_parts fs ps)) h.0
        (taken_rise (least (covers bs (Hook b))) ps h.1)

    taken_rising : (ps : Parts) → IsRising (leasts ps) → IsRising (leasts (taken_parts fs ps))
    taken_rising no_parts h = tt
    taken_rising (field g e ps) h = here (has g fs) (taken_rise g ps h)
      where
        here : (b : Bool) → RisesFrom g (leasts (taken_parts fs ps))
            → IsRising (leasts (cond b (field g e (taken_parts fs ps)) (taken_parts fs ps)))
        here true r = r
        here false r = rises_on g (leasts (taken_parts fs ps)) r
    taken_rising (link b i e ps) h =
        rises_on (least (covers bs (Link b))) (leasts (taken_parts fs ps)) (taken_rise (least (covers bs (Link b))) ps h)
    taken_rising (hook b i ps) h =
        rises_on (least (covers bs (Hook b))) (leasts (taken_parts fs ps)) (taken_rise (least (covers bs (Hook b))) ps h)

    pub taken_order : (ps : Parts) → IsInOrder bs (slots_of ps) → IsInOrder bs (slots_of (taken_parts fs ps))
    taken_order ps h = (taken_cover ps h.0, taken_rising ps h.1)

    -- what they cover, and what box edges below them give to a root, is contained in that of all slots
    pub covers_contained : (ps : Parts)
        → IsContained (flat_map (covers bs) (slots_of (taken_parts fs ps))) (flat_map (covers bs) (slots_of ps))
    covers_contained no_parts = contained_same []
    covers_contained (field g e ps) = here (has g fs) (covers_contained ps)
      where
        here : (b : Bool)
            → IsContained (flat_map (covers bs) (slots_of (taken_parts fs ps))) (flat_map (covers bs) (slots_of ps))
            → IsContained
            (flat_map (covers bs) (slots_of (cond b (field g e (taken_parts fs ps)) (taken_parts fs ps))))
            (flat_map (covers bs) (slots_of (field g e ps)))
        here true r =
            contained_both (g ∷ []) (g ∷ []) (flat_map (covers bs) (slots_of (taken_parts fs ps)))
            (flat_map (covers bs) (slots_of ps)) (contained_same (g ∷ [])) r
        here false r =
            contained_later (g ∷ []) (flat_map (covers bs) (slots_of (taken_parts fs ps)))
            (flat_map (covers bs) (slots_of ps)) r
    covers_contained (link b i e ps) =
        contained_later (covers bs (Link b)) (flat_map (covers bs) (slots_of (taken_parts fs ps)))
        (flat_map (covers bs) (slots_of ps)) (covers_contained ps)
    covers_contained (hook b i ps) =
        contained_later (covers bs (Hook b)) (flat_map (covers bs) (slots_of (taken_parts fs ps)))
        (flat_map (covers bs) (slots_of ps)) (covers_contained ps)

    module _ (r : ℕ) where
      abbrev given : Parts → List ℕ
      given ps = flat_map (tip_to r) (tips_of bs ps)

      pub given_contained : (ps : Parts) → IsContained (given (taken_parts fs ps)) (given ps)
      given_contained no_parts = contained_same []
      given_contained (field g e ps) = here (has g fs) (given_contained ps)
        where
          here : (b : Bool) → IsContained (given (taken_parts fs ps)) (given ps)
              → IsContained (given (cond b (field g e (taken_parts fs ps)) (taken_parts fs ps))) (given (field g e ps))
          here true k =
              rw (
                flat_map-append (tip_to r) (end_tips bs [] e) (tips_of bs (taken_parts fs ps)),
                flat_map-append (tip_to r) (end_tips bs [] e) (tips_of bs ps),
              )
              (contained_both (flat_map (tip_to r) (end_tips bs [] e)) (flat_map (tip_to r) (end_tips bs [] e))
              (given (taken_parts fs ps)) (given ps) (contained_same (flat_map (tip_to r) (end_tips bs [] e))) k)
          here false k =
              rw (flat_map-append (tip_to r) (end_tips bs [] e) (tips_of bs ps))
              (contained_later (flat_map (tip_to r) (end_tips bs [] e)) (given (taken_parts fs ps)) (given ps) k)
      given_contained (link b i e ps) =
          rw (flat_map-append (tip_to r) (end_tips bs (gives_out_of bs b) e) (tips_of bs ps))
          (contained_later (flat_map (tip_to r) (end_tips bs (gives_out_of bs b) e)) (given (taken_parts fs ps))
          (given ps) (given_contained ps))
      given_contained (hook b i ps) = given_contained ps

  -- What the taken fields refer to.

  -- is under one of them
  pub by_field : (k : ℕ) (ps : Parts) → IsIn k (refs_of (taken_parts fs ps))
      → (g : ℕ) × IsIn g fs × IsIn k (refs_of (taken_parts (g ∷ []) ps))
  by_field k no_parts h = absurd h
  by_field k (field g e ps) h = here (has g fs) refl h (by_field k ps)
    where
      own : (b : Bool) (x : ℕ) → IsIn k (refs_of (taken_parts (x ∷ []) ps))
          → IsIn k (refs_of (cond b (field g e (taken_parts (x ∷ []) ps)) (taken_parts (x ∷ []) ps)))
      own true x i = in_right k (end_refs e) (refs_of (taken_parts (x ∷ []) ps)) i
      own false x i = i

      first : IsIn k (end_refs e) → IsIn k (refs_of (taken_parts (g ∷ []) (field g e ps)))
      first i =
          let t : has g (g ∷ []) ≡ true = in_has g (g ∷ []) (inl refl) in
          rw t (in_left k (end_refs e) (refs_of (taken_parts (g ∷ []) ps)) i)

      here : (b : Bool) → has g fs ≡ b
          → IsIn k (refs_of (cond b (field g e (taken_parts fs ps)) (taken_parts fs ps)))
          → (IsIn k (refs_of (taken_parts fs ps))
          → (x : ℕ) × IsIn x fs × IsIn k (refs_of (taken_parts (x ∷ []) ps)))
          → (x : ℕ) × IsIn x fs × IsIn k (refs_of (taken_parts (x ∷ []) (field g e ps)))
      here true t i go = elim (in_append k (end_refs e) (refs_of (taken_parts fs ps)) i) [
        | inl j ↦ (g, has_in g fs t, first j)
        | inr j ↦ (let w = go j in (w.0, w.1, own (has g (w.0 ∷ [])) w.0 w.2))
      ]
      here false t i go = let w = go i in (w.0, w.1, own (has g (w.0 ∷ [])) w.0 w.2)
  by_field k (link b i e ps) h = by_field k ps h
  by_field k (hook b i ps) h = by_field k ps h

  -- and what is under one of them is under all
  pub of_field : (g k : ℕ) → IsIn g fs → (ps : Parts) → IsIn k (refs_of (taken_parts (g ∷ []) ps))
      → IsIn k (refs_of (taken_parts fs ps))
  of_field g k j no_parts h = h
  of_field g k j (field x e ps) h = here (has x (g ∷ [])) refl (has x fs) refl h (of_field g k j ps)
    where
      here : (b : Bool) → has x (g ∷ []) ≡ b → (c : Bool) → has x fs ≡ c
          → IsIn k (refs_of (cond b (field x e (taken_parts (g ∷ []) ps)) (taken_parts (g ∷ []) ps)))
          → (IsIn k (refs_of (taken_parts (g ∷ []) ps)) → IsIn k (refs_of (taken_parts fs ps)))
          → IsIn k (refs_of (cond c (field x e (taken_parts fs ps)) (taken_parts fs ps)))
      here true s true t i go = elim (in_append k (end_refs e) (refs_of (taken_parts (g ∷ []) ps)) i) [
        | inl m ↦ in_left k (end_refs e) (refs_of (taken_parts fs ps)) m
        | inr m ↦ in_right k (end_refs e) (refs_of (taken_parts fs ps)) (go m)
      ]
      here true s false t i go =
          absurd (elim (has_in x (g ∷ []) s) [
            | inl d ↦ true≢false (sym (in_has x fs (subst (λ (z : ℕ). IsIn z fs) (sym d) j)) ∙ t)
            | inr n ↦ n
          ])
      here false s true t i go = in_right k (end_refs e) (refs_of (taken_parts fs ps)) (go i)
      here false s false t i go = go i
  of_field g k j (link b i e ps) h = of_field g k j ps h
  of_field g k j (hook b i ps) h = of_field g k j ps h

-- a field under which something is refers to it by a slot of its own
pub field_slot : (g k : ℕ) (ps : Parts) → IsIn k (refs_of (taken_parts (g ∷ []) ps)) → IsIn (Field g) (slots_of ps)
field_slot g k no_parts h = absurd h
field_slot g k (field x e ps) h = here (has x (g ∷ [])) refl h (field_slot g k ps)
  where
    here : (b : Bool) → has x (g ∷ []) ≡ b
        → IsIn k (refs_of (cond b (field x e (taken_parts (g ∷ []) ps)) (taken_parts (g ∷ []) ps)))
        → (IsIn k (refs_of (taken_parts (g ∷ []) ps)) → IsIn (Field g) (slots_of ps))
        → IsIn (Field g) (Field x ∷ slots_of ps)
    here true s i go =
        elim (has_in x (g ∷ []) s) [ inl d ↦ inl (ap (λ (z : ℕ). Field z) (sym d)) | inr n ↦ absurd n ]
    here false s i go = inr (go i)
field_slot g k (link b i e ps) h = inr (field_slot g k ps h)
field_slot g k (hook b i ps) h = inr (field_slot g k ps h)
