-- The fields that lead to a root, in a dressed tree: they are slots of its top, and refer to that root alone.
use Rattle.std.proofs.Common.{◌≡◌, ℕ, List, [], ◌∷◌, ◌++◌, refl, sym, ap, ap₂, subst, ◌∙◌, append-nil}
use Rattle.fore_base.specs.Lists.{IsIn}
use Rattle.fore_base.specs.declared.store.Datum.{Datum}
use Rattle.ta_core.specs.Auto.{Automaton}
use Rattle.ta_core.specs.Language.{InLanguage}
use Rattle.ta_core.specs.declared.symbol.Slot.{Slot}
use Rattle.ta_core.specs.declared.symbol.Slot.TheVariants.{Field}
use Rattle.ta_core.specs.declared.tree.Tree.{Tree}
use Rattle.fa_core.specs.Dressed.{Parts, node, no_parts, field, link, hook, refs_of}
use Rattle.fa_core.specs.Folding.{place_refs, taken}
use Rattle.fa_core.specs.Member.{bare, bare_end, slots_of}
use Rattle.fa_core.specs.References.{tree_refs}
use Rattle.fa_core.proofs.WaysOf.{end_roots}
use Rattle.fa_folding.specs.Folded.{taken_parts}
use Rattle.fa_folding.proofs.Places.{part_places, taken_places, top_places_are}
use Rattle.fa_learn.specs.Learning.{AreFieldsTo, field_refs}
use Rattle.fa_learn.proofs.TakenParts.{by_field, field_slot, of_field}

places_refer : (ps : Parts) → place_refs (part_places ps) ≡ refs_of ps
places_refer no_parts = refl
places_refer (field g e ps) =
    ap₂ (λ (x y : List ℕ). x ++ y) (append-nil (tree_refs (bare_end e)) ∙ end_roots e) (places_refer ps)
places_refer (link b i e ps) =
    ap₂ (λ (x y : List ℕ). x ++ y) (append-nil (tree_refs (bare_end e)) ∙ end_roots e) (places_refer ps)
places_refer (hook b i ps) = places_refer ps

module _ (c s : ℕ) (ds : List Datum) (ps : Parts) where
  abbrev t : Tree
  t = bare (node c s ds ps)

  pub field_refs_are : (f : ℕ) → field_refs f t ≡ refs_of (taken_parts (f ∷ []) ps)
  field_refs_are f =
      ap (λ (x : List (Slot × List Tree)). place_refs (taken (f ∷ []) x)) (top_places_are c s ds ps)
      ∙ ap place_refs (taken_places (f ∷ []) ps) ∙ places_refer (taken_parts (f ∷ []) ps)

  module _ (a : Automaton) (j : ℕ) (fs : List ℕ) (lead : AreFieldsTo a j fs) (here : InLanguage a t) where
    pub refer_to : (k : ℕ) → IsIn k (refs_of (taken_parts fs ps)) → k ≡ j
    refer_to k i =
        let w = by_field fs k ps i in
        ((lead.are w.0).0 w.1 t here).1 k (subst (λ (l : List ℕ). IsIn k l) (sym (field_refs_are w.0)) w.2)

    own_refers : (f : ℕ) → IsIn f fs → IsIn j (refs_of (taken_parts (f ∷ []) ps))
    own_refers f i = subst (λ (l : List ℕ). IsIn j l) (field_refs_are f) ((lead.are f).0 i t here).0

    pub some_refers : (f : ℕ) → IsIn f fs → IsIn j (refs_of (taken_parts fs ps))
    some_refers f i = of_field fs f j i ps (own_refers f i)

    pub has_slot : (f : ℕ) → IsIn f fs → IsIn (Field f) (slots_of ps)
    has_slot f i = field_slot f j ps (own_refers f i)
