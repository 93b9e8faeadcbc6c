-- The signatures of the root states of a component are those of its trees.
use Rattle.std.proofs.Common.{◌≡◌, inl, inr, ℕ, true, true≢false, List, [], ◌∷◌, ◌++◌, Option, Some}
use Rattle.std.proofs.Common.{None, refl, sym, ap, subst, ◌∙◌}
use Rattle.fore_base.specs.Lists.{IsIn}
use Rattle.fore_base.proofs.ListLemmas.{every_in, every_push, every_weaker, distinct_push, in_left, in_last}
use Rattle.ta_core.specs.Auto.{Automaton}
use Rattle.fa_core.specs.declared.faces.BoxFace.{BoxFace}
use Rattle.fa_core.specs.declared.signature.RefMark.{RefMark}
use Rattle.fa_core.specs.declared.signature.Signature.{Signature}
use Rattle.fa_box_rules.specs.Rules.{HaveSignatures}
use Rattle.fa_box_rules.specs.Signs.{AreSignsOf}
use Rattle.fa_boxes.specs.declared.seeing.Seen.{Seen}
use Rattle.fa_sound.specs.Entries.{entry, is_there, is_known}
use Rattle.fa_boxes.specs.inner.Seeing.{said, own, IsTable}
use Rattle.fa_boxes.specs.inner.Signs.{sign, IsAdded, IsSignAt, AreSignsIn}

-- one state more
pub sign_added : (table : List (Option Seen)) (states done : List ℕ) (q : ℕ) (old new : List Signature) → IsIn q states
    → IsAdded (entry table q) old new → AreSignsIn table states done old → AreSignsIn table states (done ++ q ∷ []) new
sign_added table states done q old new i a h = here (entry table q) refl a
  where
    HasSign : List Signature → ℕ → Type 0
    HasSign list p = is_known table p ≡ true → IsIn (sign (own table p)) list

    here : (o : Option Seen) → entry table q ≡ o → IsAdded o old new → AreSignsIn table states (done ++ q ∷ []) new
    here None e f = subst (AreSignsIn table states (done ++ q ∷ [])) (sym f) (record {
      each = every_push (HasSign old) done q h.each (λ k. absurd (true≢false (sym k ∙ ap is_there e)));
      some = h.some;
      apart = h.apart;
    })
    here (Some s) e (inl (j, f)) = subst (AreSignsIn table states (done ++ q ∷ [])) (sym f) (record {
      each = every_push (HasSign old) done q h.each
          (λ k. subst (λ (ms : List RefMark). IsIn (sign ms) old)
          (sym (ap (λ (o : Option Seen). (said true o).marks) e)) j);
      some = h.some;
      apart = h.apart;
    })
    here (Some s) e (inr (n, f)) =
        let m : own table q ≡ s.marks = ap (λ (o : Option Seen). (said true o).marks) e in
        subst (AreSignsIn table states (done ++ q ∷ [])) (sym f) (record {
          each = every_push (HasSign (old ++ sign s.marks ∷ [])) done q
              (every_weaker (HasSign old) (HasSign (old ++ sign s.marks ∷ [])) done
              (λ p g k. in_left (sign (own table p)) old (sign s.marks ∷ []) (g k)) h.each)
              (λ k. subst (λ (ms : List RefMark). IsIn (sign ms) (old ++ sign s.marks ∷ [])) (sym m)
              (in_last (sign s.marks) old));
          some = every_push (IsSignAt table states) old (sign s.marks) h.some
              (q, i, ap is_there e, ap sign (sym m));
          apart = distinct_push old (sign s.marks) h.apart n;
        })

module _ (bs : List BoxFace) (a : Automaton) (table : List (Option Seen)) (l : IsTable bs a table) where
  pub table_uniform : HaveSignatures bs a
  table_uniform q p t u r s = sym (l.trees q t r).1 ∙ (l.trees q u s).1

  pub table_signs : (list : List Signature) → AreSignsIn table a.roots a.roots list → AreSignsOf bs a list
  table_signs list h = record {
    each = λ t (q, i, r). (let k = l.trees q t r in (
      sign (own table q),
      every_in (λ (p : ℕ). is_known table p ≡ true → IsIn (sign (own table p)) list) a.roots q h.each i k.0,
      k.1,
    ));
    some = λ s i. (let w = every_in (IsSignAt table a.roots) list s h.some i in
        let t = l.some w.0 w.2 in (
          t.0,
          (w.0, w.1, t.1),
          ap (λ (x : Signature). x.refs) w.3 ∙ (l.trees w.0 t.0 t.1).1,
        ));
  }
