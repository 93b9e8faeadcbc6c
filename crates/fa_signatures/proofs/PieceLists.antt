-- Pieces, one for each signature, and what one more signature adds.
use Rattle.std.proofs.Common.{◌≡◌, inl, inr, ℕ, ◌+◌, ◌<◌, List, [], ◌∷◌, ◌++◌, length, take, drop, get_or, sym, ap}
use Rattle.std.proofs.Common.{subst, ◌∙◌}
use Rattle.std.proofs.lemmas.List.{take-append-drop}
use Rattle.fore_base.specs.Lists.{IsIn, Every, IsDistinct}
use Rattle.fore_base.proofs.ListLemmas.{in_left, in_last, in_push, every_in, every_push, every_weaker, drop_item, twice}
use Rattle.ta_core.specs.Auto.{Automaton}
use Rattle.ta_core.specs.Language.{InLanguage, IsTrim}
use Rattle.ta_core.specs.declared.auto.Rule.{Rule}
use Rattle.ta_core.specs.declared.tree.Tree.{Tree}
use Rattle.fa_core.specs.declared.faces.BoxFace.{BoxFace}
use Rattle.fa_core.specs.declared.signature.RefMark.{RefMark}
use Rattle.fa_core.specs.Boxless.{HasNoBoxes, IsPlain}
use Rattle.fa_core.specs.Ways.{signature}
use Rattle.fa_signatures.specs.CutPieces.{KeepsSymbols, IsPieceBy, IsPiece, ShareSignature, AreCut}
use Rattle.fa_signatures.specs.inner.CutPairs.{AreCutBy}
use Rattle.fa_signatures.proofs.ProductItems.{apart_push}

-- an item of a list without repeats is none of those before it
pub not_before : {X : Type 0} (xs : List X) (i : ℕ) (x : X) → i < length xs → x ≡ get_or xs i x → IsDistinct xs
    → IsIn x (take i xs) → ⊥
not_before xs i x l e d h =
    twice (take i xs) (drop (i + 1) xs) x h
    (subst IsDistinct (sym (take-append-drop i xs) ∙ ap (λ ys. take i xs ++ ys) (drop_item xs i x l e)) d)

-- no rule of a piece has a box edge where none of the automaton has
pub piece_plain : (a b : Automaton) → HasNoBoxes a → KeepsSymbols a b → HasNoBoxes b
piece_plain a b h k = every_weaker (λ (r : Rule). (o : Rule) × IsIn o a.rules × (o.symbol ≡ r.symbol))
    (λ (r : Rule). IsPlain r.symbol) b.rules
    (λ r w. subst IsPlain w.2 (every_in (λ (o : Rule). IsPlain o.symbol) a.rules w.0 h w.1)) k

-- a trim piece of one of the signatures
abbrev IsDone : List BoxFace → Automaton → List (List RefMark) → Automaton → Type 0
IsDone bs a all b = (m : List RefMark) × IsIn m all × IsPieceBy bs a m b × IsTrim b

module _ (bs : List BoxFace) (a : Automaton) (done : List (List RefMark)) (pieces : List Automaton)
    (h : AreCutBy bs a done pieces) (marks : List RefMark) where
  still_done : Every (IsDone bs a (done ++ marks ∷ [])) pieces
  still_done = every_weaker (IsDone bs a done) (IsDone bs a (done ++ marks ∷ [])) pieces
      (λ b w. (w.0, in_left w.0 done (marks ∷ []) w.1, w.2, w.3)) h.each

  -- one more signature, with its piece
  pub cut_push : (b : Automaton) → (IsIn marks done → ⊥) → IsPieceBy bs a marks b → IsTrim b
      → AreCutBy bs a (done ++ marks ∷ []) (pieces ++ b ∷ [])
  cut_push b new p trim = record {
    each = every_push (IsDone bs a (done ++ marks ∷ [])) pieces b still_done (marks, in_last marks done, p, trim);
    whole = λ t l i. elim (in_push marks (signature bs t) done i) [
      | inl j ↦ (let w = h.whole t l j in (w.0, in_left w.0 pieces (b ∷ []) w.1, w.2))
      | inr e ↦ (b, in_last b pieces, (p.trees t).1 (l, e))
    ];
    apart = apart_push (ShareSignature bs) pieces b h.apart
        (every_weaker (IsDone bs a done) (λ (c : Automaton). ShareSignature bs c b → ⊥) pieces (λ c w s.
        let x = ((w.2.trees s.0).0 s.2).1 in
        let y = ((p.trees s.1).0 s.3).1 in
        new (subst (λ (m : List RefMark). IsIn m done) (sym x ∙ s.4 ∙ y) w.1)) h.each);
  }

  -- one more signature, which no tree has
  pub cut_skip : ((t : Tree) → InLanguage a t → signature bs t ≡ marks → ⊥) → AreCutBy bs a (done ++ marks ∷ []) pieces
  cut_skip none = record {
    each = still_done;
    whole = λ t l i. elim (in_push marks (signature bs t) done i) [
      | inl j ↦ h.whole t l j
      | inr e ↦ absurd (none t l e)
    ];
    apart = h.apart;
  }

-- pieces for all signatures of trees are the whole
pub cut_whole : (bs : List BoxFace) (a : Automaton) (all : List (List RefMark)) (pieces : List Automaton)
    → ((t : Tree) → InLanguage a t → IsIn (signature bs t) all) → AreCutBy bs a all pieces → AreCut bs a pieces
cut_whole bs a all pieces f h = record {
  each = every_weaker (IsDone bs a all) (IsPiece bs a) pieces (λ b w. (w.0, w.2)) h.each;
  whole = λ t l. h.whole t l (f t l);
  apart = h.apart;
}

pub all_trim : (bs : List BoxFace) (a : Automaton) (all : List (List RefMark)) (pieces : List Automaton)
    → AreCutBy bs a all pieces → Every IsTrim pieces
all_trim bs a all pieces h = every_weaker (IsDone bs a all) IsTrim pieces (λ b w. w.3) h.each

-- no rule of the pieces has a box edge where none of the automaton has
pub all_plain : (bs : List BoxFace) (a : Automaton) (pieces : List Automaton) → HasNoBoxes a → AreCut bs a pieces
    → Every HasNoBoxes pieces
all_plain bs a pieces plain h =
    every_weaker (IsPiece bs a) HasNoBoxes pieces (λ b w. piece_plain a b plain w.1.symbols) h.each
