-- Which of two forests comes first has no bearing on whether they can be joined.
use Rattle.std.proofs.Common.{◌≡◌, ℕ, zero, suc, List, [], ◌∷◌, refl, sym, ap, subst, slice_get, Some}
use Rattle.std.proofs.lemmas.Option.{none-some, same_Some}
use Rattle.fore_base.specs.Lists.{Every}
use Rattle.ta_core.specs.Auto.{Automaton}
use Rattle.ta_core.specs.Language.{HasSameLanguage}
use Rattle.fa_core.specs.declared.faces.BoxFace.{BoxFace}
use Rattle.fa_core.specs.declared.forest.Forest.{Forest}
use Rattle.fa_sound.specs.Soundness.{SoundForest}
use Rattle.fa_sound.specs.Unions.{forests}
use Rattle.fa_split.specs.Split.{top_rule}
use Rattle.fa_join.specs.Joinable.{SameRuns, SameSignatures, DifferInChild, Joinable, NoneJoinable}
use Rattle.fa_join.specs.inner.Joining.{NoLater}
use Rattle.fa_join.proofs.Deciding.{one_turned}

pub language_back : (a b : Automaton) → HasSameLanguage a b → HasSameLanguage b a
language_back a b h t = ((h t).1, (h t).0)

runs_back : (a b : Automaton) (p q : ℕ) → SameRuns a b p q → SameRuns b a q p
runs_back a b p q h t = ((h t).1, (h t).0)

signatures_back : (bs : List BoxFace) (a b : Automaton) (p q : ℕ) → SameSignatures bs a b p q
    → SameSignatures bs b a q p
signatures_back bs a b p q h t u x y = sym (h u t y x)

differ_back : (bs : List BoxFace) (a b : Automaton) → DifferInChild bs a b → DifferInChild bs b a
differ_back bs a b h = record {
  symbols = sym h.symbols;
  children = one_turned (SameRuns a b) (SameRuns b a) (SameSignatures bs a b) (SameSignatures bs b a) (runs_back a b)
      (signatures_back bs a b) (top_rule a).children (top_rule b).children h.children;
}

pub joinable_turned : (bs : List BoxFace) (F G : Forest) → Joinable bs F G → Joinable bs G F
joinable_turned bs F G h = record {
  vars = sym h.vars;
  data_vars = sym h.data_vars;
  components = one_turned HasSameLanguage HasSameLanguage (DifferInChild bs) (DifferInChild bs) language_back
      (differ_back bs) F.autos G.autos h.components;
}

-- Where no forest of a list can be joined with a later one, no two can be.

later_none : (bs : List BoxFace) (H : Forest) (Fs : List SoundForest) → Every (λ G. Joinable bs H G.forest → ⊥) Fs
    → (j : ℕ) (G : Forest) → slice_get (forests Fs) j ≡ Some G → Joinable bs H G → ⊥
later_none bs H [] h j G e k = none-some G e
later_none bs H (F ∷ Fs) h zero G e k = h.0 (subst (λ (z : Forest). Joinable bs H z) (sym (same_Some F.forest G e)) k)
later_none bs H (F ∷ Fs) h (suc j) G e k = later_none bs H Fs h.1 j G e k

pub none_joinable : (bs : List BoxFace) (Fs : List SoundForest) → NoLater bs Fs → NoneJoinable bs (forests Fs)
none_joinable bs [] h i j F G e f n k = none-some F e
none_joinable bs (H ∷ Fs) h zero zero F G e f n k = n refl
none_joinable bs (H ∷ Fs) h zero (suc j) F G e f n k =
    later_none bs H.forest Fs h.0 j G f (subst (λ (z : Forest). Joinable bs z G) (sym (same_Some H.forest F e)) k)
none_joinable bs (H ∷ Fs) h (suc i) zero F G e f n k =
    later_none bs H.forest Fs h.0 i F e
    (joinable_turned bs F H.forest (subst (λ (z : Forest). Joinable bs F z) (sym (same_Some H.forest G f)) k))
none_joinable bs (H ∷ Fs) h (suc i) (suc j) F G e f n k =
    none_joinable bs Fs h.1 i j F G e f (λ q. n (ap (λ m. suc m) q)) k
