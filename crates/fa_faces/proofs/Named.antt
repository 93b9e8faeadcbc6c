-- What the names and references of a box say of its trees, and of the rules of its inside.
use Rattle.std.proofs.Common.{◌≡◌, inl, inr, ℕ, ◌<◌, List, [], ◌∷◌, ◌++◌, map, length, Option, Some, None}
use Rattle.std.proofs.Common.{refl, sym, subst, ◌∙◌, arith}
use Rattle.fore_base.specs.Lists.{IsIn, Every}
use Rattle.fore_base.proofs.ListLemmas.{every_in, every_append, in_mapped}
use Rattle.ta_core.specs.Auto.{Automaton}
use Rattle.ta_core.specs.Language.{InLanguage, RunOf, run, RunEach, run_none, run_more}
use Rattle.ta_core.specs.declared.symbol.Slot.{Slot}
use Rattle.ta_core.specs.declared.symbol.Slot.TheVariants.{Field, Link, Hook}
use Rattle.ta_core.specs.declared.symbol.Symbol.{Symbol}
use Rattle.ta_core.specs.declared.symbol.Symbol.TheVariants.{Null, Uninit, Dangling, Ref, Cell}
use Rattle.ta_core.specs.declared.tree.Tree.{Tree, out-Tree}
use Rattle.fa_core.specs.declared.faces.BoxFace.{BoxFace}
use Rattle.fa_core.specs.declared.faces.Face.{Face}
use Rattle.fa_core.specs.Boxes.{InsideRulesFit, port_fields}
use Rattle.fa_core.specs.Canonical.{RefersTo}
use Rattle.fa_core.specs.Filled.{Choice}
use Rattle.fa_core.specs.Ways.{Way, ways, ways_at, child_ways, longer}
use Rattle.fa_core.proofs.Dressing.{choice_length}
use Rattle.fa_core.proofs.WayParts.{ways_out}
use Rattle.fa_core.proofs.WaysOf.{map-append}
use Rattle.fa_box_rules.specs.Rules.{Inside, IsWellNamed, AreRefsBelow, AreRefsThere, structs_of}

-- References.

module _ (n : ℕ) where
  abbrev IsLow : Way → Type 0
  IsLow w = w.root < n

  longer_low : (s : Slot) (rs : List ℕ) (ws : List Way) → Every IsLow ws
      → Every IsLow (map (longer rs) (map (λ (w : Way). (s, w)) ws))
  longer_low s rs [] h = tt
  longer_low s rs (w ∷ ws) h = (h.0, longer_low s rs ws h.1)

  joined_low : (s : Slot) (rs : List ℕ) (ws : List Way) (ps : List (Slot × Way)) → Every IsLow ws
      → Every IsLow (map (longer rs) ps) → Every IsLow (map (longer rs) (map (λ (w : Way). (s, w)) ws ++ ps))
  joined_low s rs ws ps h k =
      let e = map-append (longer rs) (map (λ (w : Way). (s, w)) ws) ps in
      rw e (every_append IsLow (map (longer rs) (map (λ (w : Way). (s, w)) ws)) (map (longer rs) ps)
      (longer_low s rs ws h) k)

  slots_low : (rs : List ℕ) (ss : List Slot) (wss : List (List Way)) → Every (Every IsLow) wss
      → Every IsLow (map (longer rs) (child_ways ss wss))
  slots_low rs [] wss h = tt
  slots_low rs (Hook b ∷ ss) wss h = slots_low rs ss wss h
  slots_low rs (Field f ∷ ss) [] h = tt
  slots_low rs (Field f ∷ ss) (ws ∷ wss) h =
      joined_low (Field f) rs ws (child_ways ss wss) h.0 (slots_low rs ss wss h.1)
  slots_low rs (Link b ∷ ss) [] h = tt
  slots_low rs (Link b ∷ ss) (ws ∷ wss) h =
      joined_low (Link b) rs ws (child_ways ss wss) h.0 (slots_low rs ss wss h.1)

  symbol_low : (y : Symbol) (wss : List (List Way)) → ((k : ℕ) → y ≡ Ref k → k < n) → Every (Every IsLow) wss
      → Every IsLow (ways_at y wss)
  symbol_low Null wss l h = tt
  symbol_low Uninit wss l h = tt
  symbol_low Dangling wss l h = tt
  symbol_low (Ref r) wss l h = (l r refl, tt)
  symbol_low (Cell s ds ss) wss l h = slots_low _ ss wss h

  module _ (a : Automaton) (refs : AreRefsBelow n a) where
    mutual
      run_low : {q : ℕ} {t : Tree} → RunOf a.rules q t → Every IsLow (ways t)
      run_low {t = t} (run r i s y h) =
          let e = ways_out t in
          rw e
          (symbol_low (out-Tree t).symbol (map ways (out-Tree t).children) (λ k o. refs r k i (y ∙ o)) (each_low h))

      each_low : {qs : List ℕ} {ts : List Tree} → RunEach a.rules qs ts → Every (Every IsLow) (map ways ts)
      each_low run_none = tt
      each_low (run_more x y) = (run_low x, each_low y)

    -- the roots to which a tree of the component refers
    pub tree_low : (t : Tree) (k : ℕ) → InLanguage a t → RefersTo t k → k < n
    tree_low t k l i =
        let w = in_mapped (λ (w : Way). w.root) k (ways t) i in
        let e = w.2 in
        let h : w.0.root < n = every_in IsLow (ways t) w.0 (run_low l.2) w.1 in
        rw e h

choice_refs : (n : ℕ) (autos : List Automaton) (ts : List Tree) → Every (AreRefsBelow n) autos → Choice autos ts
    → (t : Tree) (k : ℕ) → IsIn t ts → RefersTo t k → k < n
choice_refs n [] [] f c t k i m = absurd i
choice_refs n [] (u ∷ ts) f c t k i m = absurd c
choice_refs n (a ∷ autos) [] f c t k i m = absurd c
choice_refs n (a ∷ autos) (u ∷ ts) f c t k (inl e) m =
    tree_low n a f.0 u k c.0 (subst (λ (z : Tree). RefersTo z k) e m)
choice_refs n (a ∷ autos) (u ∷ ts) f c t k (inr i) m = choice_refs n autos ts f.1 c.1 t k i m

pub refs_there : (autos : List Automaton) → Every (AreRefsBelow (length autos)) autos → AreRefsThere autos
refs_there autos f ts c t k i m =
    subst (λ (n : ℕ). k < n) (sym (choice_length autos ts c)) (choice_refs (length autos) autos ts f c t k i m)

-- Rules.

-- how many ports there are is all that counts
same_ports : (face : Face) (ps qs : List (List ℕ)) (autos : List Automaton) → length ps ≡ length qs
    → InsideRulesFit face ps autos → InsideRulesFit face qs autos
same_ports face ps qs [] e h = tt
same_ports face [] [] (a ∷ autos) e h = (h.0, same_ports face [] [] autos refl h.1)
same_ports face [] (q ∷ qs) (a ∷ autos) e h = absurd (omega (arith, e))
same_ports face (p ∷ ps) [] (a ∷ autos) e h = absurd (omega (arith, e))
same_ports face (p ∷ ps) (q ∷ qs) (a ∷ autos) e h =
    (h.0, same_ports face ps qs autos (omega (arith, e)) h.1)

-- the rules fit the ports of a face
pub rules_ports : (face : Face) (b : Inside) (x : BoxFace) → x.output ≡ b.output → IsWellNamed face b
    → InsideRulesFit face (port_fields x x.output) b.autos
rules_ports face b x o h = here b.output o h.rules
  where
    here : (out : Option ℕ) → x.output ≡ out
        → InsideRulesFit face (map (λ (s : ℕ). []) (structs_of b.input out)) b.autos
        → InsideRulesFit face (port_fields x x.output) b.autos
    here None e k = rw e (same_ports face ([] ∷ []) (x.gives_in ∷ []) b.autos refl k)
    here (Some t) e k =
        rw e (same_ports face ([] ∷ ([] ∷ [])) (x.gives_in ∷ (x.gives_out ∷ [])) b.autos refl k)
