-- A sound forest is its own only part.
use Rattle.std.proofs.Common.{◌≡◌, inl, false, List, [], ◌∷◌, get_or, refl, sym, ap, subst, arith}
use Rattle.std.proofs.lemmas.Option.{slice_get-get_or}
use Rattle.fore_base.specs.Lists.{IsIn, Every, Paired}
use Rattle.fore_base.proofs.ListLemmas.{in_every}
use Rattle.ta_core.specs.Auto.{Automaton}
use Rattle.ta_core.specs.declared.auto.Rule.{Rule}
use Rattle.fa_core.specs.declared.faces.BoxFace.{BoxFace}
use Rattle.fa_core.specs.declared.faces.Face.{Face}
use Rattle.fa_core.specs.declared.forest.Forest.{Forest}
use Rattle.fa_core.specs.declared.signature.Below.{Below}
use Rattle.fa_core.specs.declared.signature.RefMark.{RefMark}
use Rattle.fa_core.specs.declared.signature.Signature.{Signature}
use Rattle.fa_core.specs.Filled.{HasSignatures, HasSome}
use Rattle.fa_core.specs.Ways.{signature}
use Rattle.fa_sound.specs.Signatures.{AreSignatures}
use Rattle.fa_sound.specs.Soundness.{SoundForest, IsSigned}
use Rattle.fa_sound.specs.Unions.{forests}
use Rattle.fa_signatures.specs.CutForests.{AreCutForests}
use Rattle.fa_signatures.specs.CutPieces.{CutsStates, IsPiece}

-- an automaton with uniform signatures and a tree is a piece of itself
own_piece : (bs : List BoxFace) (a : Automaton) (list : List Signature) → HasSignatures bs a → HasSome a
    → AreSignatures bs a list → IsPiece bs a a
own_piece bs a list h s k = (
  signature bs s.0,
  record {
    trees = λ t. (λ l. (l, h.component t s.0 l s.1), λ l. l.0);
    some = s;
    uniform = h;
    states = own_states;
    symbols = in_every (λ (r : Rule). (o : Rule) × IsIn o a.rules × (o.symbol ≡ r.symbol)) a.rules
        (λ r i. (r, i, refl));
  },
)
  where
    own_states : CutsStates bs a a
    own_states q l =
        let none : Signature = record { refs = [] } in
        let e = slice_get-get_or list q none (omega (arith, l, k.long)) in
        let x : Below = record { leaf = false; marks = (get_or list q none).refs } in (
          q,
          false,
          x,
          l,
          λ _. refl,
          λ t. (
            λ r. (
              r,
              ap (λ (m : List RefMark). record { leaf = false; marks = m })
                  (sym (k.each q (get_or list q none) t e r)),
            ),
            λ w. w.0,
          ),
        )

own_pieces : (bs : List BoxFace) (autos : List Automaton) (all : List (List Signature)) → Every (HasSignatures bs) autos
    → Every HasSome autos → Paired (AreSignatures bs) autos all → Paired (IsPiece bs) autos autos
own_pieces bs [] all h s k = tt
own_pieces bs (a ∷ autos) [] h s k = absurd k
own_pieces bs (a ∷ autos) (list ∷ all) h s k = (own_piece bs a list h.0 s.0 k.0, own_pieces bs autos all h.1 s.1 k.1)

-- a sound forest is cut into itself
sound_cuts : (s : SoundForest) → IsSigned s → AreCutForests s.face.boxes s.forest (s.forest ∷ [])
sound_cuts s h = record {
  each = (
    record {
      autos = own_pieces s.face.boxes s.forest.autos s.signatures h.sound.well_formed.signatures h.sound.full
          h.signed;
      vars = refl;
      data_vars = refl;
    },
    tt,
  );
  whole = λ ts c. (s.forest, inl refl, c);
  apart = (tt, tt);
}

pub cuts_alone : (face : Face) (F : Forest) (s : SoundForest) (list : List SoundForest) → IsSigned s → s.forest ≡ F
    → s.face ≡ face → list ≡ s ∷ [] → AreCutForests face.boxes F (forests list)
cuts_alone face F s list h e f l =
    let own = subst (λ (g : Face). AreCutForests g.boxes s.forest (s.forest ∷ [])) f (sound_cuts s h) in
    let here = subst (λ (G : Forest). AreCutForests face.boxes G (s.forest ∷ [])) e own in
    subst (λ (v : List SoundForest). AreCutForests face.boxes F (forests v)) (sym l) here
