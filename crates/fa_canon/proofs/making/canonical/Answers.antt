use Rattle.std.proofs.Common.{◌≡◌, length}
use Rattle.fore_base.specs.Lists.{Every}
use Rattle.fore_base.proofs.ListLemmas.{every_map}
use Rattle.fa_core.specs.Boxless.{HasNoBoxes}
use Rattle.fa_core.specs.Canonical.{IsCanonical}
use Rattle.fa_core.specs.Covering.{Reduced}
use Rattle.fa_core.specs.Member.{Regroups}
use Rattle.fa_merge.specs.Reached.{AreAllReached, NeverLeaks}
use Rattle.fa_merge.proofs.LeaksDecided.{all_never_leak}
use Rattle.fa_order.proofs.CanonicalReached.{canonical_reached}
use Rattle.fa_sound.specs.Soundness.{SoundForest}
use Rattle.fa_canon.specs.inner.Finished.{IsFinished}
use Rattle.fa_canon.proofs.Finishing.{union_of}
use Rattle.fa_canon.proofs.Splits.{each_piece}
use Rattle.fa_canon.proofs.making.canonical.Goals as goal

pub returns-clause-regroups : goal.returns-clause-regroups
returns-clause-regroups g c =
    λ T. every_map (λ (s : SoundForest). s.forest) (Regroups T c.args.forest.now.forest) c.in_ok-made.made
    (each_piece IsFinished (λ (s : SoundForest). Regroups T c.args.forest.now.forest s.forest) c.args.forest.now
    c.in_ok-made.made c.in_ok-made.ensures.split (λ G piece h. piece.regroups T))

pub returns-clause-members : goal.returns-clause-members
returns-clause-members g c = union_of IsFinished c.args.forest.now c.in_ok-made.made c.in_ok-made.ensures.split

pub returns-clause-canonical : goal.returns-clause-canonical
returns-clause-canonical g c =
    each_piece IsFinished (λ (s : SoundForest). IsCanonical s.face s.forest) c.args.forest.now c.in_ok-made.made
    c.in_ok-made.ensures.split (λ G piece h. h.0)

pub returns-clause-reduced : goal.returns-clause-reduced
returns-clause-reduced g c =
    each_piece IsFinished (λ (s : SoundForest). Reduced s.forest) c.args.forest.now c.in_ok-made.made
    c.in_ok-made.ensures.split (λ G piece h. h.1)

pub returns-clause-plain : goal.returns-clause-plain
returns-clause-plain g c plain =
    each_piece IsFinished (λ (s : SoundForest). Every HasNoBoxes s.forest.autos) c.args.forest.now c.in_ok-made.made
    c.in_ok-made.ensures.split (λ G piece h. piece.plain plain)

pub returns-clause-reached : goal.returns-clause-reached
returns-clause-reached g c =
    each_piece IsFinished (λ (s : SoundForest). AreAllReached s.face s.forest) c.args.forest.now c.in_ok-made.made
    c.in_ok-made.ensures.split (λ G piece h. canonical_reached G.face G.forest h.0)

pub returns-clause-tight : goal.returns-clause-tight
returns-clause-tight g c =
    each_piece IsFinished (λ (s : SoundForest). NeverLeaks s.face s.forest) c.args.forest.now c.in_ok-made.made
    c.in_ok-made.ensures.split
    (λ G piece h. all_never_leak G.face G.forest h.0.well_formed.filled (canonical_reached G.face G.forest h.0))

pub returns-clause-face : goal.returns-clause-face
returns-clause-face g c =
    each_piece IsFinished (λ (s : SoundForest). s.face ≡ c.args.forest.now.face) c.args.forest.now c.in_ok-made.made
    c.in_ok-made.ensures.split (λ G piece h. piece.face)

pub returns-clause-vars : goal.returns-clause-vars
returns-clause-vars g c =
    each_piece IsFinished (λ (s : SoundForest). length s.forest.vars ≡ length c.args.forest.now.forest.vars)
    c.args.forest.now c.in_ok-made.made c.in_ok-made.ensures.split (λ G piece h. piece.vars)

pub returns-clause-data_vars : goal.returns-clause-data_vars
returns-clause-data_vars g c =
    each_piece IsFinished (λ (s : SoundForest). s.forest.data_vars ≡ c.args.forest.now.forest.data_vars)
    c.args.forest.now c.in_ok-made.made c.in_ok-made.ensures.split (λ G piece h. piece.data_vars)
