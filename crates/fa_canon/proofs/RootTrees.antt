-- The trees of a sound forest are cells with a child for each field and Link.
use Rattle.std.proofs.Common.{◌≡◌, ℕ, List, sym, ap, ◌∙◌, slice_get, Some}
use Rattle.fore_base.specs.Lists.{Every}
use Rattle.fore_base.proofs.ListLemmas.{every_in}
use Rattle.ta_core.specs.Arity.{arity}
use Rattle.ta_core.specs.Auto.{Automaton, IsRanked, IsRankedRule}
use Rattle.ta_core.specs.Language.{RunOf, run}
use Rattle.ta_core.specs.declared.tree.Tree.{Tree}
use Rattle.fa_core.specs.Filled.{Choice, IsSound, IsTopped}
use Rattle.fa_core.specs.declared.faces.Face.{Face}
use Rattle.fa_core.specs.declared.forest.Forest.{Forest}
use Rattle.fa_core.proofs.Dressing.{each_length}
use Rattle.fa_core.proofs.FilledKept.{top_of_filled}
use Rattle.fa_sound.specs.Components.{component_at}
use Rattle.fa_merge.proofs.LoneFound.{choice_component}
use Rattle.fa_sound.proofs.ComponentLemmas.{component_got}
use Rattle.fa_merge.proofs.PlacedForests.{component_has}
use Rattle.fa_canon.specs.inner.Cutting.{IsRankedCell}

ranked_cell : (a : Automaton) → IsRanked a → (q s : ℕ) (t : Tree) → IsTopped s t → RunOf a.rules q t
    → IsRankedCell t
ranked_cell a ranked q s t h (run r i e y k) =
    let same : r.symbol ≡ _ = y ∙ h.2 in
    record {
      shape = s;
      datums = h.0;
      slots = h.1;
      symbol = h.2;
      many = sym (each_length a.rules k) ∙ (every_in (IsRankedRule a.states) a.rules r ranked.1 i).2 ∙ ap arity same;
    }

pub root_cell : (face : Face) (F : Forest) → IsSound face F → Every IsRanked F.autos
    → (ts : List Tree) → Choice F.autos ts → (i : ℕ) (t : Tree) → slice_get ts i ≡ Some t → IsRankedCell t
root_cell face F sound ranked ts c i t e =
    let k = choice_component F.autos ts i t c e in
    let a = component_at F.autos i in
    let top = top_of_filled face F sound.well_formed.filled sound.full i a t (component_got F.autos i k.0) k.1 in
    ranked_cell a (component_has IsRanked F.autos i ranked k.0) k.1.0 top.0
    t top.1 k.1.2
