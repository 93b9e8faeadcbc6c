use Rattle.std.proofs.Common.{◌<◌, length, arith}
use Rattle.fa_core.specs.Filled.{HasSignatures}
use Rattle.fa_sound.proofs.ComponentLemmas.{set_here}
use Rattle.fa_sound.proofs.Signed.{signed_long}
use Rattle.fa_sound.proofs.sound.Sound.with_component.Goals as goal

pub signatures_with-requires-clause-root : goal.signatures_with-requires-clause-root
signatures_with-requires-clause-root c =
    let s = c.self.inside in
    let l : c.args.root < length s.forest.autos = rw (← c.self.view_is) at c.requires.root in
    let e = signed_long s.face.boxes s.forest.autos s.signatures c.self.invariant.signed in
    omega (arith, l, e)

pub signatures_with-requires-clause-uniform : goal.signatures_with-requires-clause-uniform
signatures_with-requires-clause-uniform c =
    let s = c.self.inside in
    let l : c.args.root < length s.forest.autos = rw (← c.self.view_is) at c.requires.root in
    let h = rw (← c.self.view_is) at c.requires.sound.well_formed.signatures in
    rw c.as_slice-boxes.ensures (set_here (HasSignatures s.face.boxes) s.forest.autos c.args.root c.args.auto l h)
