-- Roots that are ports of a part: one rule stands at their top, a cell with a slot for each of the fields.
use Rattle.std.proofs.Common.{◌≡◌, ◌<◌, ℕ, List, length, refl, sym, ap, subst, ◌∙◌}
use Rattle.fore_base.specs.Lists.{Every, IsIn}
use Rattle.fore_base.specs.declared.store.Datum.{Datum}
use Rattle.fore_base.proofs.ListLemmas.{every_in, in_every}
use Rattle.ta_core.specs.Auto.{Automaton}
use Rattle.ta_core.specs.Single.{HasOneTop}
use Rattle.ta_core.specs.declared.auto.Rule.{Rule}
use Rattle.ta_core.specs.declared.symbol.Slot.{Slot}
use Rattle.ta_core.specs.declared.symbol.Slot.TheVariants.{Field}
use Rattle.ta_core.specs.declared.symbol.Symbol.{Symbol}
use Rattle.ta_core.specs.declared.symbol.Symbol.TheVariants.{Null, Uninit, Dangling, Ref, Cell}
use Rattle.fa_core.specs.Folding.{IsPortRoot}
use Rattle.fa_sound.specs.Components.{component_at}
use Rattle.fa_sound.proofs.ComponentLemmas.{component_got, item_component}
use Rattle.fa_split.specs.Split.{top_rule}
use Rattle.fa_split.proofs.TopRules.{top_is}
use Rattle.fa_part.specs.inner.PortCells.{IsPortCell}

module _ (shape : ℕ) (fs : List ℕ) where
  -- the parts of such a cell
  cell_parts : (y : Symbol) → IsPortCell shape fs y → (datums : List Datum) × (slots : List Slot)
      × (y ≡ Cell shape datums slots) × Every (λ f. IsIn (Field f) slots) fs
  cell_parts Null h = absurd h
  cell_parts Uninit h = absurd h
  cell_parts Dangling h = absurd h
  cell_parts (Ref r) h = absurd h
  cell_parts (Cell s ds ss) h = (ds, ss, ap (λ (z : ℕ). Cell z ds ss) h.0, h.1)

  module _ (autos : List Automaton) (r : ℕ) where
    abbrev here : Automaton
    here = component_at autos r

    pub port_by_cell : r < length autos → HasOneTop here → IsPortCell shape fs (top_rule here).symbol
        → IsPortRoot autos r shape fs
    port_by_cell l one cell =
        let p = cell_parts (top_rule here).symbol cell in
        record {
          auto = here;
          there = component_got autos r l;
          one = one;
          datums = p.0;
          slots = p.1;
          symbol = sym (ap (λ (x : Rule). x.symbol) (top_is here one)) ∙ p.2;
          fields = λ f i. every_in (λ f. IsIn (Field f) p.1) fs f p.3 i;
        }

    pub port_one : IsPortRoot autos r shape fs → HasOneTop here
    port_one h = subst HasOneTop (item_component autos r h.auto h.there) h.one

    pub cell_by_port : IsPortRoot autos r shape fs → IsPortCell shape fs (top_rule here).symbol
    cell_by_port h =
        subst (λ (a : Automaton). IsPortCell shape fs (top_rule a).symbol) (item_component autos r h.auto h.there)
        (subst (IsPortCell shape fs) (sym (ap (λ (x : Rule). x.symbol) (top_is h.auto h.one) ∙ h.symbol))
        (refl, in_every (λ f. IsIn (Field f) h.slots) fs h.fields))
