-- What cuts the trimmed automaton cuts the automaton.
use Rattle.std.proofs.Common.{◌≡◌, ℕ, ◌<◌, List, refl, ◌∙◌}
use Rattle.fore_base.specs.Lists.{IsIn}
use Rattle.fore_base.proofs.ListLemmas.{every_in, in_every, every_weaker, in_map}
use Rattle.ta_core.specs.Auto.{Automaton, IsRanked}
use Rattle.ta_core.specs.Language.{HasSameLanguage, IsTrim}
use Rattle.ta_core.specs.Renumbered.{StandsFor, renumbered}
use Rattle.ta_core.specs.declared.auto.Rule.{Rule}
use Rattle.ta_core.proofs.Runs.{passed_tree}
use Rattle.ta_core.proofs.Shifting.{in_sub}
use Rattle.fa_core.specs.declared.faces.BoxFace.{BoxFace}
use Rattle.fa_core.specs.declared.signature.RefMark.{RefMark}
use Rattle.fa_signatures.specs.CutPieces.{CutsStates, KeepsSymbols, IsPieceBy, IsPiece, AreCut}
use Rattle.fa_signatures.proofs.PieceLists.{piece_plain}
use Rattle.fa_signatures.proofs.PieceTrees.{run_state}

module _ (bs : List BoxFace) (a part : Automaton) (ranked : IsRanked a) (same : HasSameLanguage a part)
    (trim : IsTrim part) (st : StandsFor a part) where
  -- no symbol is new
  part_symbols : KeepsSymbols a part
  part_symbols = in_every (λ (r : Rule). (o : Rule) × IsIn o a.rules × (o.symbol ≡ r.symbol)) part.rules
      (λ r i.
      let j = in_map (renumbered st.of) r part.rules i in
      (renumbered st.of r, in_sub (renumbered st.of r) st.rules j, refl))

  symbols_on : (b : Automaton) → KeepsSymbols part b → KeepsSymbols a b
  symbols_on b k = every_weaker (λ (r : Rule). (o : Rule) × IsIn o part.rules × (o.symbol ≡ r.symbol))
      (λ (r : Rule). (o : Rule) × IsIn o a.rules × (o.symbol ≡ r.symbol)) b.rules
      (λ r w.
      let v = every_in (λ (x : Rule). (o : Rule) × IsIn o a.rules × (o.symbol ≡ x.symbol)) part.rules w.0 part_symbols
      w.1 in
      (v.0, v.1, v.2 ∙ w.2)) k

  -- a state of the trimmed automaton stands for one of the automaton
  stands_low : (q : ℕ) → q < part.states → st.of q < a.states
  stands_low q l =
      let u = passed_tree (trim q l).3 in
      run_state a.states a.rules ranked.1 ((st.runs q u.0 l).0 u.1)

  states_on : (b : Automaton) → CutsStates bs part b → CutsStates bs a b
  states_on b k p l =
      let w = k p l in (
        st.of w.0,
        w.1,
        w.2,
        stands_low w.0 w.3,
        λ plain. w.4 (piece_plain a part plain part_symbols),
        λ t. (
          λ r. let v = (w.5 t).0 r in ((st.runs w.0 t w.3).0 v.0, v.1),
          λ v. (w.5 t).1 ((st.runs w.0 t w.3).1 v.0, v.1),
        ),
      )

  piece_on : (marks : List RefMark) (b : Automaton) → IsPieceBy bs part marks b → IsPieceBy bs a marks b
  piece_on marks b p = record {
    trees = λ t. (
      λ l. let w = (p.trees t).0 l in ((same t).1 w.0, w.1),
      λ w. (p.trees t).1 ((same t).0 w.0, w.1),
    );
    some = p.some;
    uniform = p.uniform;
    states = states_on b p.states;
    symbols = symbols_on b p.symbols;
  }

  pub cut_on : (pieces : List Automaton) → AreCut bs part pieces → AreCut bs a pieces
  cut_on pieces h = record {
    each = every_weaker (IsPiece bs part) (IsPiece bs a) pieces (λ b w. (w.0, piece_on w.0 b w.1)) h.each;
    whole = λ t l. h.whole t ((same t).0 l);
    apart = h.apart;
  }
