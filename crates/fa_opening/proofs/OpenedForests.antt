-- Forests with box edges replaced, one after the other.
use Rattle.std.proofs.Common.{◌≡◌, inl, inr, ℕ, List, [], ◌∷◌, map, refl, sym, ap, subst, ◌∙◌}
use Rattle.fore_base.specs.Lists.{IsIn, Every}
use Rattle.fore_base.specs.declared.shape.Shape.{Shape}
use Rattle.fore_base.specs.declared.store.Store.{Store}
use Rattle.fore_base.specs.declared.store.Value.{Value}
use Rattle.fore_base.specs.declared.store.Value.TheVariants.{Dangling as DanglingValue}
use Rattle.fore_base.proofs.ListLemmas.{every_in, in_mapped}
use Rattle.fa_core.specs.declared.boxes.BoxDef.{BoxDef}
use Rattle.fa_core.specs.declared.faces.BoxFace.{BoxFace}
use Rattle.fa_core.specs.declared.forest.Forest.{Forest}
use Rattle.fa_core.specs.declared.forest.Target.{Target}
use Rattle.fa_core.specs.declared.forest.Target.TheVariants.{At}
use Rattle.fa_core.specs.Dressed.{Nodes, cells, nth_value, roots_of, value_in}
use Rattle.fa_core.specs.Member.{Regroups, RegroupsInto, Stands}
use Rattle.fa_core.specs.Rearranged.{Rearranged, chain}
use Rattle.fa_core.proofs.Permuted.{in_rearranged}
use Rattle.fa_core.proofs.Rearranging.{back, same}
use Rattle.fa_core.proofs.Regrouped.{facts_follow}
use Rattle.fa_sound.specs.Soundness.{SoundForest}
use Rattle.fa_sound.specs.Unions.{forests}
use Rattle.fa_split.specs.Divided.{HasVarsOf}
use Rattle.fa_unfold.specs.Opens.{Item}
use Rattle.fa_unfold.specs.Unfolded.{Unfolded}
use Rattle.fa_unfold.specs.UnfoldingOf.{HaveMembersOf}
use Rattle.fa_unfold.proofs.Opening.{opens_facts, opens_keeps}
use Rattle.fa_unfold.proofs.UnfoldedMembers.{items_regrouped, stands_again}
use Rattle.fa_opening.specs.Opened.{IsEdgeForRoot, IsEdgeForSome, IsOpened, OpensFrom, OpensInto}

-- The cell of a root at which a variable is.

abbrev first_value : List Value → Value
first_value [] = DanglingValue
first_value (v ∷ vs) = v

abbrev later_values : List Value → List Value
later_values [] = []
later_values (v ∷ vs) = vs

value_at : (us ws : List Value) (r : ℕ) (vs : List Target) → map (value_in us) vs ≡ map (value_in ws) vs
    → IsIn (At r) vs → nth_value us r ≡ nth_value ws r
value_at us ws r [] e i = absurd i
value_at us ws r (v ∷ vs) e (inl h) =
    subst (λ (t : Target). value_in us t ≡ value_in ws t) (sym h) (ap first_value e)
value_at us ws r (v ∷ vs) e (inr i) = value_at us ws r vs (ap later_values e) i

-- where the variables have the same values, the root is the same cell
pub same_root : (r : ℕ) (F G : Forest) (d e : Nodes) → G.vars ≡ F.vars → IsIn (At r) F.vars
    → map (value_in (roots_of d)) F.vars ≡ map (value_in (roots_of e)) G.vars
    → nth_value (roots_of d) r ≡ nth_value (roots_of e) r
same_root r F G d e v i m =
    value_at (roots_of d) (roots_of e) r F.vars (m ∙ ap (map (value_in (roots_of e))) v) i

-- an edge for the root's cell is one where the root is the same cell
pub edge_moved : (bs : List BoxFace) (r f : ℕ) (d e : Nodes) (y : Item)
    → nth_value (roots_of d) r ≡ nth_value (roots_of e) r → IsEdgeForRoot bs r f e y → IsEdgeForRoot bs r f d y
edge_moved bs r f d e y m (n, h, k) = (n, m ∙ h, k)

module _ (bs : List BoxFace) (r : ℕ) (P : ℕ → Type 0) where
  -- first the ones, then the others
  pub opened_on : (F G H : Forest) (d e k : Nodes) → G.vars ≡ F.vars → IsIn (At r) F.vars → IsOpened bs r P F G d e
      → IsOpened bs r P G H e k → IsOpened bs r P F H d k
  opened_on F G H d e k v i a b = record {
    same_facts = chain a.same_facts b.same_facts;
    stays = λ y j. elim (a.stays y j) [
      | inl w ↦ elim (b.stays y w) [
        | inl z ↦ inl z
        | inr (g, h, z) ↦ inr (g, h, edge_moved bs r g d e y (same_root r F G d e v i a.vars) z)
      ]
      | inr w ↦ inr w
    ];
    vars = a.vars ∙ b.vars;
    data_vars = a.data_vars ∙ b.data_vars;
  }

  -- none
  pub regrouped_opened : (F G : Forest) (d e : Nodes) → Rearranged (cells d) (cells e)
      → map (value_in (roots_of d)) F.vars ≡ map (value_in (roots_of e)) G.vars → F.data_vars ≡ G.data_vars
      → IsOpened bs r P F G d e
  regrouped_opened F G d e c v w = record {
    same_facts = facts_follow d e c;
    stays = λ y i. inl (in_rearranged y (items_regrouped d e c) i);
    vars = v;
    data_vars = w;
  }

  -- one
  pub unfolded_opened : (F G : Forest) (u p : ℕ) (d e : Nodes) (o : Unfolded F G u p d e)
      → IsEdgeForSome bs r P d o.edge → IsOpened bs r P F G d e
  unfolded_opened F G u p d e o h = record {
    same_facts = opens_facts o.edge d e o.opens;
    stays = λ y i. elim (opens_keeps o.edge d e o.opens y i) [
      | inl w ↦ inr (subst (IsEdgeForSome bs r P d) (sym w) h)
      | inr j ↦ inl j
    ];
    vars = o.vars;
    data_vars = o.data_vars;
  }

  module _ (T : List BoxDef) where
    pub from_self : (F : Forest) → OpensFrom bs T r P F F
    from_self F e h = (e, h, regrouped_opened F F e e (same (cells e)) refl refl)

    pub from_on : (F G H : Forest) → G.vars ≡ F.vars → IsIn (At r) F.vars → OpensFrom bs T r P F G
        → OpensFrom bs T r P G H → OpensFrom bs T r P F H
    from_on F G H v i a b k h =
        let w = b k h in
        let z = a w.0 w.1 in
        (z.0, z.1, opened_on F G H z.0 w.0 k v i z.2 w.2)

    into_on : (F : Forest) (Gs Hs : List Forest) → Every (HasVarsOf F) Gs → IsIn (At r) F.vars
        → OpensInto bs T r P F Gs → ((G : Forest) → IsIn G Gs → OpensInto bs T r P G Hs) → OpensInto bs T r P F Hs
    into_on F Gs Hs v i a b d h =
        let w = a d h in
        let z = b w.0 w.1 w.2.0 w.2.1 in (
          z.0,
          z.1,
          (
            z.2.0,
            z.2.1,
            opened_on F w.0 z.0 d w.2.0 z.2.0 (every_in (HasVarsOf F) Gs w.0 v w.1).0 i w.2.2 z.2.2,
          ),
        )

    pub into_each : (F : Forest) (parts : List SoundForest) (Hs : List Forest) → Every (HasVarsOf F) (forests parts)
        → IsIn (At r) F.vars → OpensInto bs T r P F (forests parts)
        → ((S : SoundForest) → IsIn S parts → OpensInto bs T r P S.forest Hs) → OpensInto bs T r P F Hs
    into_each F parts Hs v i a b = into_on F (forests parts) Hs v i a
        (λ G j.
        (let m = in_mapped (λ (S : SoundForest). S.forest) G parts j in
        subst (λ (H : Forest). OpensInto bs T r P H Hs) (sym m.2) (b m.0 m.1)))

    -- more fields
    opened_more : (Q : ℕ → Type 0) → ((f : ℕ) → P f → Q f) → (F G : Forest) (d e : Nodes) → IsOpened bs r P F G d e
        → IsOpened bs r Q F G d e
    opened_more Q w F G d e o = record {
      same_facts = o.same_facts;
      stays = λ y i. elim (o.stays y i) [ inl j ↦ inl j | inr (f, h, k) ↦ inr (f, w f h, k) ];
      vars = o.vars;
      data_vars = o.data_vars;
    }

    pub from_more : (Q : ℕ → Type 0) → ((f : ℕ) → P f → Q f) → (F G : Forest) → OpensFrom bs T r P F G
        → OpensFrom bs T r Q F G
    from_more Q w F G a e h = let k = a e h in (k.0, k.1, opened_more Q w F G k.0 e k.2)

    pub into_more : (Q : ℕ → Type 0) → ((f : ℕ) → P f → Q f) → (F : Forest) (Gs : List Forest)
        → OpensInto bs T r P F Gs → OpensInto bs T r Q F Gs
    into_more Q w F Gs a d h =
        let k = a d h in
        (k.0, k.1, (k.2.0, k.2.1, opened_more Q w F k.0 d k.2.0 k.2.2))

    pub from_regrouped : (F G : Forest) → Regroups T F G → OpensFrom bs T r P F G
    from_regrouped F G c e h =
        let w = c e h in
        (w.0, w.1.of, regrouped_opened F G w.0 e (back w.1.same_cells) (sym w.1.vars) (sym w.1.data_vars))

    pub into_regrouped : (F : Forest) (Gs : List Forest) → RegroupsInto T F Gs → OpensInto bs T r P F Gs
    into_regrouped F Gs c d h =
        let w = c d h in
        let z = w.2.1 in
        (w.0, w.1, (w.2.0, z.of, regrouped_opened F w.0 d w.2.0 z.same_cells z.vars z.data_vars))

    -- Members.

    module _ (hs : List Shape) (F : Forest) where
      into_members : (Gs : List Forest) → OpensInto bs T r P F Gs → (s : Store) → Stands hs T F s
          → (G : Forest) × IsIn G Gs × Stands hs T G s
      into_members Gs a s h =
          let w = a h.0 h.1.of in
          let o = w.2.2 in (
            w.0,
            w.1,
            (w.2.0, stands_again hs T F w.0 h.0 w.2.0 s h.1 w.2.1 (back o.same_facts) o.vars o.data_vars),
          )

      from_members : (G : Forest) → OpensFrom bs T r P F G → (s : Store) → Stands hs T G s → Stands hs T F s
      from_members G a s h =
          let w = a h.0 h.1.of in
          let o = w.2 in
          (w.0, stands_again hs T G F h.0 w.0 s h.1 w.1 o.same_facts (sym o.vars) (sym o.data_vars))

    -- none is lost, and none is new
    pub members_opened : (F : Forest) (Gs : List Forest) → Every (OpensFrom bs T r P F) Gs → OpensInto bs T r P F Gs
        → HaveMembersOf T F Gs
    members_opened F Gs each whole hs s = (
      (λ h. into_members hs F Gs whole s h),
      (λ h. from_members hs F h.0 (every_in (OpensFrom bs T r P F) Gs h.0 each h.1) s h.2),
    )
