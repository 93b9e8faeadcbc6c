use Rattle.std.proofs.Common.{◌≡◌, inl, List, [], ◌∷◌, ◌++◌, ◌∙◌, length, refl, sym, ap, subst}
use Rattle.fore_base.specs.Lists.{Every}
use Rattle.fore_base.specs.declared.store.Datum.{Datum}
use Rattle.fa_core.specs.Member.{Regroups, RegroupsInto}
use Rattle.fa_core.specs.declared.forest.Target.{Target}
use Rattle.fa_canon.proofs.Finishing.{covered_regroups}
use Rattle.fa_sound.specs.Soundness.{SoundForest}
use Rattle.fa_split.specs.Divided.{forests}
use Rattle.sym_step.specs.inner.Stepping.{IsNext}
use Rattle.sym_step.proofs.settling.reduced_alone.Goals as goal

pub returns-clause-regroups : goal.returns-clause-regroups
returns-clause-regroups g c =
    let F = c.args.raw.now.forest in
    let G = c.in_ok-reduced.reduced in
    let r = c.in_ok-reduced.ensures in
    let list : c.push.new.self ≡ G ∷ [] = c.in_ok-push.ensures.ok
    ∙ ap (λ (z : List SoundForest). z ++ G ∷ []) c.new-made.ensures in
    (λ T. subst (λ (z : List SoundForest). Every (Regroups T F) (forests z)) (sym list)
    (covered_regroups F G.forest r.covered T, tt))

pub returns-clause-whole : goal.returns-clause-whole
returns-clause-whole g c =
    let F = c.args.raw.now.forest in
    let G = c.in_ok-reduced.reduced in
    let r = c.in_ok-reduced.ensures in
    let list : c.push.new.self ≡ G ∷ [] = c.in_ok-push.ensures.ok
    ∙ ap (λ (z : List SoundForest). z ++ G ∷ []) c.new-made.ensures in
    (λ T. subst (λ (z : List SoundForest). RegroupsInto T F (forests z)) (sym list)
    (λ d h. (G.forest, inl refl, covered_regroups G.forest F r.covers T d h)))

pub returns-clause-next : goal.returns-clause-next
returns-clause-next g c =
    let R = c.args.raw.now in
    let G = c.in_ok-reduced.reduced in
    let r = c.in_ok-reduced.ensures in
    let list : c.push.new.self ≡ G ∷ [] = c.in_ok-push.ensures.ok
    ∙ ap (λ (z : List SoundForest). z ++ G ∷ []) c.new-made.ensures in
    subst (λ (z : List SoundForest). Every (IsNext R.face R.forest) z) (sym list) (
      record {
        like = record {
          face = r.face;
          counts = (
            ap (λ (ts : List Target). length ts) r.covered.vars,
            ap (λ (ds : List Datum). length ds) r.covered.data_vars,
          );
          plain = r.plain;
        };
        canonical = r.canonical c.requires.canonical;
        reduced = r.reduced;
      },
      tt,
    )
