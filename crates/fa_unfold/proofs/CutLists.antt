-- Lists of sound forests into which forests are cut by signatures, and box edges unfolded before.
use Rattle.std.proofs.Common.{◌≡◌, inl, inr, ℕ, List, [], ◌∷◌, ◌++◌, sym, ◌∙◌}
use Rattle.fore_base.specs.Lists.{IsIn, Every}
use Rattle.fa_core.specs.declared.boxes.BoxDef.{BoxDef}
use Rattle.fa_core.specs.declared.faces.Face.{Face}
use Rattle.fa_core.specs.declared.forest.Forest.{Forest}
use Rattle.fa_core.specs.Dressed.{Nodes}
use Rattle.fa_core.specs.Member.{OfForest, Regroups, RegroupsInto, Regrouping}
use Rattle.fa_core.proofs.Rearranging.{back}
use Rattle.fa_sound.specs.Soundness.{SoundForest}
use Rattle.fa_sound.specs.Unions.{forests}
use Rattle.fa_signatures.specs.CutForests.{IsCutForest}
use Rattle.fa_unfold.specs.Unfolded.{Unfolded, UnfoldsFrom, UnfoldsInto}
use Rattle.fa_unfold.specs.inner.Cuts.{IsCutOf, HasCuts}
use Rattle.fa_unfold.proofs.UnfoldedMembers.{regrouped_opens}

-- Lists.

pub forests_left : (xs ys : List SoundForest) (G : Forest) → IsIn G (forests xs) → IsIn G (forests (xs ++ ys))
forests_left [] ys G i = absurd i
forests_left (x ∷ xs) ys G (inl e) = inl e
forests_left (x ∷ xs) ys G (inr i) = inr (forests_left xs ys G i)

pub forests_right : (xs ys : List SoundForest) (G : Forest) → IsIn G (forests ys) → IsIn G (forests (xs ++ ys))
forests_right [] ys G i = i
forests_right (x ∷ xs) ys G i = inr (forests_right xs ys G i)

pub cuts_left : (G : Forest) (xs ys : List SoundForest) → HasCuts G xs → HasCuts G (xs ++ ys)
cuts_left G xs ys h = λ T d k. (let w = h T d k in (w.0, forests_left xs ys w.0 w.1, w.2))

pub cuts_right : (G : Forest) (xs ys : List SoundForest) → HasCuts G ys → HasCuts G (xs ++ ys)
cuts_right G xs ys h = λ T d k. (let w = h T d k in (w.0, forests_right xs ys w.0 w.1, w.2))

pub cut_more : (face : Face) (Gs Hs : List Forest) → ((G : Forest) → IsIn G Gs → IsIn G Hs) → (s : SoundForest)
    → IsCutOf face Gs s → IsCutOf face Hs s
cut_more face Gs Hs f s h = record {
  whole = h.whole;
  there = f h.whole h.there;
  cut = h.cut;
  regroups = h.regroups;
  face_is = h.face_is;
}

pub cuts_of : (face : Face) (G : Forest) (Gs : List Forest) → IsIn G Gs → (ss : List SoundForest)
    → Every (λ (s : SoundForest). s.face ≡ face) ss → Every (IsCutForest face.boxes G) (forests ss)
    → Every (λ (s : SoundForest). (T : List BoxDef) → Regroups T G s.forest) ss → Every (IsCutOf face Gs) ss
cuts_of face G Gs i [] f c r = tt
cuts_of face G Gs i (s ∷ ss) f c r = (
  record { whole = G; there = i; cut = c.0; regroups = r.0; face_is = f.0 },
  cuts_of face G Gs i ss f.1 c.1 r.1,
)

-- A box edge is unfolded, and the forests are cut.

module _ (T : List BoxDef) (F : Forest) (root slot : ℕ) where
  pub cut_from : (G S : Forest) → UnfoldsFrom T F root slot G → Regroups T G S → UnfoldsFrom T F root slot S
  cut_from G S u r = λ k h. by k (r k h)
    where
      by : (k : Nodes) → (e : Nodes) × Regrouping T G S k e → (d : Nodes) × OfForest T F d × Unfolded F S root slot d k
      by k (e, m) =
          let w = u e m.of in (
            w.0,
            w.1,
            record {
              edge = w.2.edge;
              at = w.2.at;
              opens = regrouped_opens w.2.edge w.0 e k w.2.opens (back m.same_cells);
              vars = w.2.vars ∙ sym m.vars;
              data_vars = w.2.data_vars ∙ sym m.data_vars;
            },
          )

  pub cut_into : (Gs Ss : List Forest) → UnfoldsInto T F root slot Gs
      → ((G : Forest) → IsIn G Gs → RegroupsInto T G Ss) → UnfoldsInto T F root slot Ss
  cut_into Gs Ss u r = λ d h.
      (let w = u d h in
      let m = r w.0 w.1 w.2.0 w.2.1 in
      let o = w.2.2 in
      let q = m.2.1 in (
        m.0,
        m.1,
        (
          m.2.0,
          q.of,
          record {
            edge = o.edge;
            at = o.at;
            opens = regrouped_opens o.edge d w.2.0 m.2.0 o.opens q.same_cells;
            vars = o.vars ∙ q.vars;
            data_vars = o.data_vars ∙ q.data_vars;
          },
        ),
      ))
