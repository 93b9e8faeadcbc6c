use Rattle.std.proofs.Common.{◌≡◌, inl, List, [], ◌∷◌, length, ap}
use Rattle.fore_base.specs.Lists.{Every}
use Rattle.fore_base.specs.declared.store.Datum.{Datum}
use Rattle.fa_core.specs.Boxless.{HasNoBoxes}
use Rattle.fa_core.specs.Canonical.{IsCanonical}
use Rattle.fa_core.specs.Covering.{Reduced}
use Rattle.fa_sound.specs.Soundness.{SoundForest}
use Rattle.sym_step.specs.inner.Stepping.{IsNext}
use Rattle.sym_step.proofs.settling.canonical_forms.Goals as goal

-- the clauses of each forest, together
each_next : (F : SoundForest) (ss : List SoundForest) → Every (λ s. IsCanonical s.face s.forest) ss
    → Every (λ s. Reduced s.forest) ss
    → (Every HasNoBoxes F.forest.autos → Every (λ (s : SoundForest). Every HasNoBoxes s.forest.autos) ss)
    → Every (λ s. s.face ≡ F.face) ss
    → Every (λ s. length s.forest.vars ≡ length F.forest.vars) ss
    → Every (λ s. s.forest.data_vars ≡ F.forest.data_vars) ss → Every (IsNext F.face F.forest) ss
each_next F [] a b p d e f = tt
each_next F (s ∷ ss) a b p d e f = (
  record {
    like = record {
      face = d.0;
      counts = (e.0, ap (λ (xs : List Datum). length xs) f.0);
      plain = λ none. (p none).0;
    };
    canonical = a.0;
    reduced = b.0;
  },
  each_next F ss a.1 b.1 (λ none. (p none).1) d.1 e.1 f.1,
)

pub canonical-requires-clause-giving : goal.canonical-requires-clause-giving
canonical-requires-clause-giving g c κs within = inl c.requires.gives

pub returns-clause-next : goal.returns-clause-next
returns-clause-next g c =
    let e = c.in_ok-made.ensures in
    each_next c.args.raw.now c.in_ok-made.made e.canonical e.reduced e.plain
    e.face e.vars e.data_vars
