use Rattle.std.proofs.Common.{◌≡◌, ◌<◌, ◌∙◌, sym, subst, ℕ}
use Rattle.ta_core.specs.Language.{RunOf}
use Rattle.fa_sound.specs.Components.{component_at}
use Rattle.fa_sound.proofs.ComponentLemmas.{component_got}
use Rattle.fa_split.specs.Split.{child_state}
use Rattle.fa_split.proofs.ChildStates.{child_tree, child_is_state}
use Rattle.fa_split.proofs.children.child_marks.Goals as goal

pub signature-requires : goal.signature-requires
signature-requires c =
    let F = c.args.forest.now.forest in
    let below : c.child_of-state.result < (component_at F.autos c.args.root).states =
    rw c.forest.ensures at c.child_of-state.ensures.below in
    child_is_state F c.args.root c.args.place c.requires c.child_of-state.result below

pub returns : goal.returns
returns c =
    let F = c.args.forest.now.forest in
    let a = component_at F.autos c.args.root in
    let state : c.child_of-state.result ≡ child_state a c.args.place =
    rw c.forest.ensures at c.child_of-state.ensures.state in record {
      each = λ t w. c.as_slice.ensures
          ∙ c.signature.ensures.trees a t (component_got F.autos c.args.root c.requires.root)
          (subst (λ (q : ℕ). RunOf a.rules q t) (sym state) w);
      some = child_tree F c.args.root c.args.place c.requires c.args.forest.now.face c.known.ensures.sound;
    }
