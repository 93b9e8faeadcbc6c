use Rattle.std.proofs.Common.{◌≡◌, ◌<◌, ℕ, Some, slice_get, slice_index, length, sym, subst}
use Rattle.std.proofs.lemmas.Result.{IfOk-weaker}
use Rattle.fore_base.proofs.ListLemmas.{same_item}
use Rattle.ta_core.specs.Auto.{Automaton}
use Rattle.ta_core.specs.Renumbered.{image}
use Rattle.fa_sound.proofs.Signed.{signed_at, signed_long}
use Rattle.fa_filling.proofs.SpotRules.{passed}
use Rattle.fa_height.specs.Quotients.{IsQuotient}
use Rattle.ta_classes.specs.Classes.{AreClasses}
use Rattle.fa_height.specs.inner.Joining.{AreMarksEach, IsJoined}
use Rattle.fa_height.proofs.Joined.{get_there, joined_quotient}
use Rattle.fa_height.proofs.joining.quotient.Goals as goal

pub returns : goal.returns
returns c =
    let F = c.args.forest.now.forest in
    let bs = c.args.forest.now.face.boxes in
    let a : Automaton = c.at-auto.result.now in
    let k = c.args.height in
    let numbers = c.in_ok-joined.joined.numbers in
    let firsts = c.in_ok-joined.joined.firsts in
    let there : slice_get F.autos c.args.root ≡ Some a = rw c.forest.ensures at c.at-auto.ensures in
    let trim = c.requires.trim a there in
    let some = get_there c.args.forest.now.signatures c.args.root
    (subst (λ (n : ℕ). c.args.root < n)
    (signed_long bs F.autos c.args.forest.now.signatures c.known.ensures.signed) c.requires.below) in
    let signed = signed_at bs F.autos c.args.forest.now.signatures c.args.root a some.0 c.known.ensures.signed there
    some.1 in
    let marked : AreMarksEach some.0 a.states c.in_ok-marks.marks =
    subst (λ (x : Automaton). AreMarksEach some.0 x.states c.in_ok-marks.marks) c.auto.view_is
    (c.in_ok-marks.ensures some.0 some.1) in
    let joined : AreClasses (IsJoined a.roots c.in_ok-classes.classes c.in_ok-marks.marks) a.states numbers firsts =
    rw (c.as_slice.ensures, c.as_slice-2.ensures) at c.in_ok-joined.ensures in
    let made = joined_quotient bs k a c.known-2.ensures (λ q l. passed a.rules (trim q l).3) c.in_ok-classes.classes
    c.in_ok-classes.ensures some.0 signed c.in_ok-marks.marks marked numbers firsts joined in
    let is = rw (c.as_slice-3.ensures, c.len.ensures) at c.renumber.ensures in
    IfOk-weaker c.renumber.result (λ (b : Automaton). b ≡ image (length firsts) (λ q. slice_index numbers q) a)
    (λ (b : Automaton). (x : Automaton) → slice_get F.autos c.args.root ≡ Some x → IsQuotient bs k x b)
    (λ b e x i. subst (λ (y : Automaton). IsQuotient bs k y b) (same_item F.autos c.args.root a x there i)
    (subst (IsQuotient bs k a) (sym e) made))
    is
