use Rattle.std.proofs.Common.{◌≡◌, ℕ, List}
use Rattle.std.proofs.lemmas.Result.{IfOk-weaker, IfErr-weaker}
use Rattle.fa_core.specs.declared.faces.BoxFace.{BoxFace}
use Rattle.fa_core.specs.Boxes.{SoundBox}
use Rattle.fa_box_rules.specs.Rules.{IsUnbroken}
use Rattle.fa_faces.specs.Faults.{box_inside, IsFaultOf}
use Rattle.fa_faces.specs.declared.fault.FaceFault.{FaceFault}
use Rattle.fa_faces.specs.declared.fault.FaceFault.TheVariants.{Memory}
use Rattle.fa_faces.proofs.Exact.{face_sound, sound_face, sound_fault}
use Rattle.fa_faces.proofs.face.box_face.Goals as goal

pub returns-clause-sound : goal.returns-clause-sound
returns-clause-sound c =
    IfOk-weaker c.decided.result
    (IsUnbroken c.args.table.now.face c.args.table.now.defs
    (box_inside c.args.input c.args.output c.args.inside.now.autos))
    (λ (x : BoxFace). (n : List ℕ) → SoundBox c.args.table.now.face c.args.table.now.defs
    (record { name = n; face = x; inside = c.args.inside.now }))
    (face_sound c.args.table.now c.args.input c.args.output c.args.inside.now c.requires.named)
    c.decided.ensures.face

pub returns-clause-one : goal.returns-clause-one
returns-clause-one c = λ n x i o sound.
    IfOk-weaker c.decided.result
    (IsUnbroken c.args.table.now.face c.args.table.now.defs
    (box_inside c.args.input c.args.output c.args.inside.now.autos))
    (λ (y : BoxFace). y ≡ x)
    (sound_face c.args.table.now c.args.input c.args.output c.args.inside.now c.requires.named c.known.ensures
    c.ranked_insides.ensures n x i o sound) c.decided.ensures.face

pub returns-clause-none : goal.returns-clause-none
returns-clause-none c = λ n x i o sound.
    IfErr-weaker c.decided.result
    (IsFaultOf c.args.table.now.face c.args.table.now.defs
    (box_inside c.args.input c.args.output c.args.inside.now.autos))
    (λ (e : FaceFault). e ≡ Memory)
    (sound_fault c.args.table.now c.args.input c.args.output c.args.inside.now c.requires.named c.known.ensures
    c.ranked_insides.ensures n x i o sound) c.decided.ensures.breaks
