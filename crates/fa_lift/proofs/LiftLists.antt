-- Lists of lifted forests put together, and what each rule and place brings.
use Rattle.std.proofs.Common.{◌≡◌, inl, inr, ℕ, zero, suc, ◌<◌, true, true≢false, length}
use Rattle.std.proofs.Common.{List, [], ◌∷◌, ◌++◌, refl, sym, ap, subst, ◌∙◌, slice_get, slice_index_or, Some}
use Rattle.std.proofs.Common.{arith}
use Rattle.std.proofs.lemmas.Option.{none-some, same_Some}
use Rattle.fore_base.specs.Lists.{IsIn, Every}
use Rattle.fore_base.proofs.ListLemmas.{in_left, in_right, in_map, every_in}
use Rattle.ta_core.specs.Arity.{arity}
use Rattle.ta_core.specs.Auto.{Automaton, IsRanked, IsRankedRule}
use Rattle.ta_core.specs.Language.{RunOf, run, run_none}
use Rattle.ta_core.specs.declared.auto.Rule.{Rule}
use Rattle.ta_core.specs.declared.symbol.Slot.{Slot}
use Rattle.ta_core.specs.declared.symbol.Slot.TheVariants.{Field, Link, Hook}
use Rattle.ta_core.specs.declared.symbol.Symbol.TheVariants.{Ref}
use Rattle.ta_core.specs.declared.tree.Tree.{out-roll-Tree}
use Rattle.fa_core.specs.declared.faces.BoxFace.{BoxFace}
use Rattle.fa_core.specs.declared.forest.Forest.{Forest}
use Rattle.fa_core.specs.declared.forest.Target.TheVariants.{At}
use Rattle.fa_core.specs.Cells.{edges}
use Rattle.fa_core.specs.Dressed.{leaf}
use Rattle.fa_core.specs.Folding.{symbol_slots}
use Rattle.fa_core.specs.Member.{bare_end}
use Rattle.fa_core.proofs.Dressing.{leaf_top}
use Rattle.fa_core.proofs.NodeRuns.{bare_of_end}
use Rattle.fa_sound.specs.Soundness.{SoundForest}
use Rattle.fa_sound.specs.Unions.{forests}
use Rattle.fa_core.specs.declared.boxes.BoxDef.{BoxDef}
use Rattle.fa_core.specs.Member.{Regroups}
use Rattle.fa_split.specs.Divided.{HasVarsOf}
use Rattle.fa_split.proofs.RunPlaces.{at_index}
use Rattle.fa_split.proofs.SplitCells.{RefersWell}
use Rattle.fa_lift.specs.Lift.{IsLiftOf}
use Rattle.fa_lift.proofs.LiftedForests.{top_regroups, in_regroups}
use Rattle.fa_lift.specs.Lift.{Owns, child_gives, lift_top, lift_in}
use Rattle.fa_lift.specs.Lift.{MayRefer, slot_gives}
use Rattle.fa_lift.specs.inner.Lifting.{Among, HasLifts}

-- Lists put together.

pub among_left : (xs ys : List SoundForest) (G : Forest) → Among xs G → Among (xs ++ ys) G
among_left xs ys G (s, i, e) = (s, in_left s xs ys i, e)

pub among_right : (xs ys : List SoundForest) (G : Forest) → Among ys G → Among (xs ++ ys) G
among_right xs ys G (s, i, e) = (s, in_right s xs ys i, e)

pub among_forests : (xs : List SoundForest) (G : Forest) → Among xs G → IsIn G (forests xs)
among_forests xs G (s, i, e) =
    subst (λ (H : Forest). IsIn H (forests xs)) e (in_map (λ (z : SoundForest). z.forest) s xs i)

module _ (F : Forest) (r t : ℕ) (x : Rule) (p : ℕ) (xs ys : List SoundForest) where
  pub lifts_left : HasLifts F r t x p xs → HasLifts F r t x p (xs ++ ys)
  lifts_left h = record {
    tops = λ i u l. among_left xs ys (lift_top F r t x p) (h.tops i u l);
    insides = λ u k l m. (let c = h.insides u k l m in (c.0, c.1, among_left xs ys (lift_in F r t x p c.0) c.2));
  }

  pub lifts_right : HasLifts F r t x p ys → HasLifts F r t x p (xs ++ ys)
  lifts_right h = record {
    tops = λ i u l. among_right xs ys (lift_top F r t x p) (h.tops i u l);
    insides = λ u k l m. (let c = h.insides u k l m in (c.0, c.1, among_right xs ys (lift_in F r t x p c.0) c.2));
  }

-- what each forest of sound ones has
pub each_forest : (P : Forest → Type 0) (xs : List SoundForest) → Every (λ s. P s.forest) xs → Every P (forests xs)
each_forest P [] h = tt
each_forest P (x ∷ xs) h = (h.0, each_forest P xs h.1)

-- Edges of a rule.

module _ (bs : List BoxFace) (f : ℕ) where
  -- the slot and the state at a place
  edge_place : (ss : List Slot) (qs : List ℕ) (p : ℕ) (e : Slot × ℕ) → slice_get (edges ss qs) p ≡ Some e
      → (child_gives bs f ss p ≡ slot_gives bs f e.0) × (slice_get qs p ≡ Some e.1)
  edge_place [] qs p e h = absurd (none-some e h)
  edge_place (Hook b ∷ ss) qs p e h = edge_place ss qs p e h
  edge_place (Field g ∷ ss) [] p e h = absurd (none-some e h)
  edge_place (Field g ∷ ss) (q ∷ qs) zero e h =
      let w : (Field g, q) ≡ e = same_Some (Field g, q) e h in
      (ap (λ (y : Slot × ℕ). slot_gives bs f y.0) w, ap (λ (y : Slot × ℕ). Some y.1) w)
  edge_place (Field g ∷ ss) (q ∷ qs) (suc p) e h = edge_place ss qs p e h
  edge_place (Link b ∷ ss) [] p e h = absurd (none-some e h)
  edge_place (Link b ∷ ss) (q ∷ qs) zero e h =
      let w : (Link b, q) ≡ e = same_Some (Link b, q) e h in
      (ap (λ (y : Slot × ℕ). slot_gives bs f y.0) w, ap (λ (y : Slot × ℕ). Some y.1) w)
  edge_place (Link b ∷ ss) (q ∷ qs) (suc p) e h = edge_place ss qs p e h

  -- a place whose slot gives the field is one of them
  place_edge : (ss : List Slot) (qs : List ℕ) (p : ℕ) → child_gives bs f ss p ≡ true → p < length qs
      → p < length (edges ss qs)
  place_edge [] qs p g l = absurd (true≢false (sym g))
  place_edge (Hook b ∷ ss) qs p g l = place_edge ss qs p g l
  place_edge (Field h ∷ ss) [] p g l = absurd (omega (arith, l))
  place_edge (Field h ∷ ss) (q ∷ qs) zero g l = absurd (true≢false (sym g))
  place_edge (Field h ∷ ss) (q ∷ qs) (suc p) g l =
      let m : suc p < suc (length qs) = l in
      let k = place_edge ss qs p g (omega (arith, m)) in omega (arith, k)
  place_edge (Link b ∷ ss) [] p g l = absurd (omega (arith, l))
  place_edge (Link b ∷ ss) (q ∷ qs) zero g l = omega arith
  place_edge (Link b ∷ ss) (q ∷ qs) (suc p) g l =
      let m : suc p < suc (length qs) = l in
      let k = place_edge ss qs p g (omega (arith, m)) in omega (arith, k)

none_left : (qs : List ℕ) → length qs ≡ 0 → qs ≡ []
none_left [] e = refl
none_left (q ∷ qs) e = let z : suc (length qs) ≡ 0 = e in absurd (omega (arith, z))

-- a state may be the reference exactly where one of its rules is
pub refer_runs : (a : Automaton) → IsRanked a → (r q : ℕ) → MayRefer a.rules r q
    → RunOf a.rules q (bare_end (leaf (At r)))
refer_runs a ranked r q (o, i, s, y) =
    let k = (every_in (IsRankedRule a.states) a.rules o ranked.1 i).2 in
    let n : o.children ≡ [] = none_left o.children (k ∙ ap arity y) in
    run o i s (y ∙ sym (leaf_top (At r)))
    (rw (n, out-roll-Tree (record { symbol = Ref r; children = [] })) run_none)

pub runs_refer : (rules : List Rule) (r q : ℕ) → RunOf rules q (bare_end (leaf (At r))) → MayRefer rules r q
runs_refer rules r q h = let m = bare_of_end rules q (leaf (At r)) h in (m.0, m.1, m.2, m.3)

module _ (bs : List BoxFace) (r f : ℕ) (a : Automaton) (ranked : IsRanked a) (x : Rule) (rule : IsIn x a.rules) where
  -- the rule owns the edge at a place where the slot gives the field and the child may be the reference
  pub owns_at : (p : ℕ) (e : Slot × ℕ) → slice_get (edges (symbol_slots x.symbol) x.children) p ≡ Some e
      → slot_gives bs f e.0 ≡ true → MayRefer a.rules r e.1 → Owns bs r f a x p
  owns_at p e h g m =
      let k = edge_place bs f (symbol_slots x.symbol) x.children p e h in
      let l = within x.children p e.1 k.1 in
      record {
        rule = rule;
        place = l;
        gives = k.0 ∙ g;
        ends = subst (λ (q : ℕ). RunOf a.rules q (bare_end (leaf (At r))))
            (same_Some e.1 (slice_index_or x.children p 0) (sym k.1 ∙ at_index x.children p l))
            (refer_runs a ranked r e.1 m);
      }
    where
      within : (qs : List ℕ) (p q : ℕ) → slice_get qs p ≡ Some q → p < length qs
      within [] p q e = absurd (none-some q e)
      within (y ∷ qs) zero q e = omega arith
      within (y ∷ qs) (suc p) q e = let l = within qs p q e in omega (arith, l)

  -- and only there
  pub owned_at : (p : ℕ) (e : Slot × ℕ) → slice_get (edges (symbol_slots x.symbol) x.children) p ≡ Some e
      → Owns bs r f a x p → (slot_gives bs f e.0 ≡ true) × MayRefer a.rules r e.1
  owned_at p e h own =
      let k = edge_place bs f (symbol_slots x.symbol) x.children p e h in
      let q : slice_index_or x.children p 0 ≡ e.1 =
      same_Some (slice_index_or x.children p 0) e.1 (sym (at_index x.children p own.place) ∙ k.1) in (
        sym k.0 ∙ own.gives,
        subst (λ (n : ℕ). MayRefer a.rules r n) q (runs_refer a.rules r (slice_index_or x.children p 0) own.ends),
      )

  pub owned_within : (p : ℕ) → Owns bs r f a x p → p < length (edges (symbol_slots x.symbol) x.children)
  owned_within p own = place_edge bs f (symbol_slots x.symbol) x.children p own.gives own.place

-- What each lifted forest has.

pub lift_vars : (bs : List BoxFace) (F : Forest) (r f t : ℕ) (G : Forest) → IsLiftOf bs F r f t G → HasVarsOf F G
lift_vars bs F r f t G (x, p, u, own, inl (i, e, k), h) = subst (HasVarsOf F) (sym e) (refl, refl)
lift_vars bs F r f t G (x, p, u, own, inr (c, piece, e, k), h) = subst (HasVarsOf F) (sym e) (refl, refl)

pub lift_regroups : (bs : List BoxFace) (F : Forest) (r f t : ℕ) → Every IsRanked F.autos → t < length F.autos
    → RefersWell F → (T : List BoxDef) (G : Forest) → IsLiftOf bs F r f t G → Regroups T F G
lift_regroups bs F r f t ranked there well T G (x, p, u, own, inl (i, e, k), h) =
    subst (Regroups T F) (sym e) (top_regroups bs F r f t ranked there well T x p own i)
lift_regroups bs F r f t ranked there well T G (x, p, u, own, inr (c, piece, e, k), h) =
    subst (Regroups T F) (sym e)
    (in_regroups bs F r f t ranked there well T x p own c (λ v l. ((piece.1.trees v).0 l).0))
