-- A box of which all is known but what is reached breaks none of B4, B5 and B7, and each of its insides fits its face.
use Rattle.std.proofs.Common.{◌≡◌, ℕ, zero, suc, ◌<◌, Bool, true, false, List, [], ◌∷◌, Option, Some, None}
use Rattle.std.proofs.Common.{slice_get, refl, subst, arith}
use Rattle.std.proofs.lemmas.Option.{none-some, same_Some}
use Rattle.fore_base.specs.Lists.{Every}
use Rattle.fore_base.proofs.ListLemmas.{every_in}
use Rattle.ta_core.specs.Auto.{Automaton}
use Rattle.ta_core.specs.declared.tree.Tree.{Tree}
use Rattle.fa_core.specs.declared.boxes.BoxDef.{BoxDef}
use Rattle.fa_core.specs.declared.faces.BoxFace.{BoxFace}
use Rattle.fa_core.specs.declared.faces.Face.{Face}
use Rattle.fa_core.specs.Boxes.{CoverAlike, CoverSome, PortsCover, IsReached, LeadsUp, LeadsNowhere, BackHolds}
use Rattle.fa_core.specs.Filled.{Choice, HasSome}
use Rattle.fa_core.specs.Rearranged.{Rearranged, chain}
use Rattle.fa_core.proofs.Rearranging.{back}
use Rattle.fa_back.specs.Insides.{IsInside}
use Rattle.fa_box_rules.specs.Rules.{Inside, IsWellNamed, port_count, root_fields}
use Rattle.fa_box_rules.specs.Rules.{Breaks4, Breaks5, takes_leaf, other_struct, covers_apart, covers_none, signs_apart}
use Rattle.fa_box_rules.specs.Rules.{gives_apart, leads_apart, Breaks6, Breaks7, Gives, GivesOutput}
use Rattle.fa_box_rules.specs.Rules.{IsUnbroken, HaveSignatures}
use Rattle.fa_box_rules.proofs.SoundBoxes.{topped_no_leaf, nil_only}
use Rattle.fa_box_rules.proofs.Unbroken.{inside_fits}
use Rattle.fa_faces.specs.inner.Parts.{AllRight, AreTopsRight, IsShown}
use Rattle.fa_faces.proofs.Named.{refs_there, rules_ports}

covers_alike : (face : Face) (out : Option ℕ) (autos : List Automaton) (r : ℕ) (a : Automaton)
    → PortsCover face.boxes out autos → r < port_count out → slice_get autos r ≡ Some a → CoverAlike face.boxes a
covers_alike face out [] r a h l e = absurd (none-some a e)
covers_alike face None (c ∷ autos) zero a h l e = subst (CoverAlike face.boxes) (same_Some c a e) h.0
covers_alike face None (c ∷ autos) (suc r) a h l e = absurd (omega (arith, l))
covers_alike face (Some t) (c ∷ []) r a h l e = absurd h
covers_alike face (Some t) (c ∷ (d ∷ autos)) zero a h l e = subst (CoverAlike face.boxes) (same_Some c a e) h.0
covers_alike face (Some t) (c ∷ (d ∷ autos)) (suc zero) a h l e = subst (CoverAlike face.boxes) (same_Some d a e) h.2
covers_alike face (Some t) (c ∷ (d ∷ autos)) (suc (suc r)) a h l e = absurd (omega (arith, l))

covers_some : (face : Face) (out : Option ℕ) (autos : List Automaton) (a : Automaton) → PortsCover face.boxes out autos
    → slice_get autos 0 ≡ Some a → CoverSome face.boxes a
covers_some face out [] a h e = absurd (none-some a e)
covers_some face None (c ∷ autos) a h e = subst (CoverSome face.boxes) (same_Some c a e) h.1
covers_some face (Some t) (c ∷ []) a h e = absurd h
covers_some face (Some t) (c ∷ (d ∷ autos)) a h e = subst (CoverSome face.boxes) (same_Some c a e) h.1

pub full_no_seven : (b : Inside) → Every HasSome b.autos → Breaks7 b → ⊥
full_no_seven b full w = let s = every_in HasSome b.autos w.0 full w.1 in w.2 s.0 s.1

pub right_no_four : (face : Face) (b : Inside) → AllRight face b → Breaks4 face b → ⊥
right_no_four face b right w = w.2 (right w.0 w.1)

module _ (face : Face) (T : List BoxDef) (b : Inside) (x : BoxFace) (h : IsShown face T b x) where
  same_fields : (out : Option ℕ) → GivesOutput face.boxes b.autos out x.gives_out → (r : ℕ) (ts us : List Tree)
      → r < port_count out → Choice b.autos ts → Choice b.autos us
      → Rearranged (root_fields face.boxes ts r) (root_fields face.boxes us r)
  same_fields out g zero ts us l c d = chain (back (h.one.gives_in ts c)) (h.one.gives_in us d)
  same_fields None g (suc r) ts us l c d = absurd (omega (arith, l))
  same_fields (Some t) g (suc zero) ts us l c d = chain (back (g ts c)) (g us d)
  same_fields (Some t) g (suc (suc r)) ts us l c d = absurd (omega (arith, l))

  leads_one : (v : Bool) → x.back ≡ v → (t : ℕ) → BackHolds T x (Some t) b.autos → (LeadsUp T b.autos → ⊥)
      → (LeadsNowhere T b.autos → ⊥) → ⊥
  leads_one true w t k n m = n (k.0 w).1
  leads_one false w t k n m = m (k.1 w)

  pub shown_no_five : Breaks5 face T b → ⊥
  shown_no_five (takes_leaf a t i l e) = let k = h.tops.tops a t i l in topped_no_leaf t k.0 k.1 e
  shown_no_five (other_struct r s u a t e g l k n) = n (h.tops.structs r s u a t e g l k)
  shown_no_five (covers_apart r f a t u l e m k i n) =
      n (covers_alike face b.output b.autos r a h.tops.covers l e t u m k f i)
  shown_no_five (covers_none a t e l n) = n (covers_some face b.output b.autos a h.tops.covers e t l)
  shown_no_five (signs_apart a q t u i p l k n) =
      n (every_in (HaveSignatures face.boxes) b.autos a h.signatures i q p t u l k)
  shown_no_five (gives_apart ts us r c d l n) = n (same_fields b.output h.one.gives_out r ts us l c d)
  shown_no_five (leads_apart t e n m) =
      leads_one x.back refl t (subst (λ (o : Option ℕ). BackHolds T x o b.autos) e h.one.back) n m

  pub shown_unbroken : IsReached T x b.autos → IsUnbroken face T b x
  shown_unbroken r = record {
    full = h.full;
    right = h.right;
    tops = h.tops.tops;
    structs = h.tops.structs;
    covers = h.tops.covers;
    signatures = h.signatures;
    one = h.one;
    reached = r;
  }

  -- B6, by a face that says no less of the output

  abbrev giving : BoxFace
  giving = record {
    input = x.input;
    output = x.output;
    gives_in = x.gives_in;
    gives_out = 0 ∷ [];
    back = x.back;
  }

  pub shown_six : (IsReached T x b.autos → ⊥) → Breaks6 face T b
  shown_six n = here b.output h.one.output h.one.gives_out
    where
      here : (out : Option ℕ) → x.output ≡ out → GivesOutput face.boxes b.autos out x.gives_out → Breaks6 face T b
      here None e g = (
        giving,
        h.one.output,
        (λ z. absurd cc),
        (λ f. n (λ d c n ports p k i. f d c n ports (rw e (rw e at p)) k i)),
      )
      here (Some t) e g = (
        x,
        h.one.output,
        (λ z ts c. (let m = g ts c in
            nil_only (back (subst (λ (l : List ℕ). Rearranged l (root_fields face.boxes ts 1)) z m)))),
        n,
      )

-- each choice of trees fits a face
pub shown_inside : (face : Face) (b : Inside) (x : BoxFace) → IsWellNamed face b → AllRight face b
    → AreTopsRight face.boxes b → x.input ≡ b.input → x.output ≡ b.output
    → Gives face.boxes b.autos 0 x.gives_in → GivesOutput face.boxes b.autos b.output x.gives_out
    → IsInside face x b.autos
shown_inside face b x named right tops i o gin gout = record {
  rules = rules_ports face b x o named;
  fits = inside_fits face x b.autos tops.tops (rw (i, o) tops.structs) (rw o tops.covers) (rw o right) gin (rw o gout)
      (refs_there b.autos named.refs);
}
