-- Where there is no box edge, the signature of a tree is read off the roots to which it refers.
use Rattle.std.proofs.Common.{◌≡◌, ℕ, ◌+◌, Bool, true, false, cond, nat_eq, nat_le, length, List, [], ◌∷◌, map, filter}
use Rattle.std.proofs.Common.{flat_map, refl, ap, ap₂, subst, arith}
use Rattle.fore_base.specs.Lists.{Every}
use Rattle.fore_base.proofs.ListLemmas.{every_in, every_append}
use Rattle.ta_core.specs.declared.auto.Rule.{Rule}
use Rattle.ta_core.specs.declared.symbol.Slot.{Slot}
use Rattle.ta_core.specs.declared.symbol.Slot.TheVariants.{Field, Link, Hook}
use Rattle.ta_core.specs.declared.symbol.Symbol.{Symbol}
use Rattle.ta_core.specs.declared.symbol.Symbol.TheVariants.{Null, Uninit, Dangling, Ref, Cell}
use Rattle.ta_core.specs.declared.tree.Tree.{Tree, out-Tree}
use Rattle.ta_core.specs.Language.{RunOf, run, RunEach, run_none, run_more}
use Rattle.fa_core.specs.declared.faces.BoxFace.{BoxFace}
use Rattle.fa_core.specs.Boxless.{IsField, IsPlain}
use Rattle.fa_core.specs.Rearranged.{often}
use Rattle.fa_core.specs.References.{tree_refs, plain_mark, plain_marks}
use Rattle.fa_core.specs.Ways.{Way, Step, ways, ways_at, child_ways, longer, to_root, given, leads_back, led_to}
use Rattle.fa_core.specs.Ways.{any_back, has, once, roots_met, mark, signature}
use Rattle.fa_core.proofs.WayParts.{ways_out}
use Rattle.fa_core.proofs.WaysOf.{map-append}

-- the way gives no field, and no part of it leads back
abbrev pub IsPlainWay : List BoxFace → Way → Type 0
IsPlainWay bs w = (given bs w.steps ≡ []) × (leads_back bs w.steps ≡ false) × (led_to bs w.steps ≡ [])

module _ (bs : List BoxFace) where
  given_after : (f : ℕ) (rs : List ℕ) (ss : List Step) → given bs ss ≡ []
      → given bs (record { slot = Field f; refers = rs } ∷ ss) ≡ []
  given_after f rs [] h = refl
  given_after f rs (t ∷ ss) h = h

  longer_plain : (f : ℕ) (rs : List ℕ) (ws : List Way) → Every (IsPlainWay bs) ws
      → Every (IsPlainWay bs) (map (longer rs) (map (λ (w : Way). (Field f, w)) ws))
  longer_plain f rs [] h = tt
  longer_plain f rs (w ∷ ws) h = ((given_after f rs w.steps h.0.0, refl, h.0.2), longer_plain f rs ws h.1)

  slots_plain : (rs : List ℕ) (ss : List Slot) (wss : List (List Way)) → Every IsField ss
      → Every (λ ws. Every (IsPlainWay bs) ws) wss → Every (IsPlainWay bs) (map (longer rs) (child_ways ss wss))
  slots_plain rs [] wss f h = tt
  slots_plain rs (Field g ∷ ss) [] f h = tt
  slots_plain rs (Field g ∷ ss) (ws ∷ wss) f h =
      let e = map-append (longer rs) (map (λ (w : Way). (Field g, w)) ws) (child_ways ss wss) in
      rw e
      (every_append (IsPlainWay bs) (map (longer rs) (map (λ (w : Way). (Field g, w)) ws))
      (map (longer rs) (child_ways ss wss)) (longer_plain g rs ws h.0) (slots_plain rs ss wss f.1 h.1))
  slots_plain rs (Link b ∷ ss) wss f h = absurd f.0
  slots_plain rs (Hook b ∷ ss) wss f h = absurd f.0

  symbol_plain : (y : Symbol) (wss : List (List Way)) → IsPlain y → Every (λ ws. Every (IsPlainWay bs) ws) wss
      → Every (IsPlainWay bs) (ways_at y wss)
  symbol_plain Null wss p h = tt
  symbol_plain Uninit wss p h = tt
  symbol_plain Dangling wss p h = tt
  symbol_plain (Ref r) wss p h = ((refl, refl, refl), tt)
  symbol_plain (Cell s ds ss) wss p h = slots_plain _ ss wss p h

  module _ (rules : List Rule) (plain : Every (λ (r : Rule). IsPlain r.symbol) rules) where
    mutual
      -- the ways of a tree that runs without box edges
      pub run_plain : {q : ℕ} {t : Tree} → RunOf rules q t → Every (IsPlainWay bs) (ways t)
      run_plain {t = t} (run r i s y h) =
          let e = ways_out t in
          rw e
          (symbol_plain (out-Tree t).symbol (map ways (out-Tree t).children)
          (subst IsPlain y (every_in (λ (r : Rule). IsPlain r.symbol) rules r plain i)) (each_plain h))

      each_plain : {qs : List ℕ} {ts : List Tree} → RunEach rules qs ts
          → Every (λ ws. Every (IsPlainWay bs) ws) (map ways ts)
      each_plain run_none = tt
      each_plain (run_more a b) = (run_plain a, each_plain b)

  pub plain_to : (r : ℕ) (ws : List Way) → Every (IsPlainWay bs) ws → Every (IsPlainWay bs) (to_root r ws)
  plain_to r [] h = tt
  plain_to r (w ∷ ws) h = here (nat_eq r w.root) (plain_to r ws h.1)
    where
      here : (b : Bool) → Every (IsPlainWay bs) (to_root r ws)
          → Every (IsPlainWay bs) (cond b (w ∷ to_root r ws) (to_root r ws))
      here true k = (h.0, k)
      here false k = k

  pub none_given : (ws : List Way) → Every (IsPlainWay bs) ws → flat_map (λ (w : Way). given bs w.steps) ws ≡ []
  none_given [] h = refl
  none_given (w ∷ ws) h = let a = h.0.0 in let b = none_given ws h.1 in rw (a, b) refl

  none_led : (ws : List Way) → Every (IsPlainWay bs) ws → flat_map (λ (w : Way). led_to bs w.steps) ws ≡ []
  none_led [] h = refl
  none_led (w ∷ ws) h = let a = h.0.2 in let b = none_led ws h.1 in rw (a, b) refl

  none_back : (ws : List Way) → Every (IsPlainWay bs) ws → any_back bs ws ≡ false
  none_back [] h = refl
  none_back (w ∷ ws) h = let a = h.0.1 in let b = none_back ws h.1 in rw (a, b) refl

none_has : (ns : List ℕ) → filter (λ n. has n []) ns ≡ []
none_has [] = refl
none_has (n ∷ ns) = none_has ns

-- the ways to a root are as many as the references to it
pub to_often : (r : ℕ) (ws : List Way) → length (to_root r ws) ≡ often r (map (λ (w : Way). w.root) ws)
to_often r [] = refl
to_often r (w ∷ ws) = here (nat_eq r w.root) (to_often r ws)
  where
    here : (b : Bool) → length (to_root r ws) ≡ often r (map (λ (w : Way). w.root) ws)
        → length (cond b (w ∷ to_root r ws) (to_root r ws))
        ≡ cond b (often r (map (λ (w : Way). w.root) ws) + 1) (often r (map (λ (w : Way). w.root) ws))
    here true e = omega (arith, e)
    here false e = e

mark_is : (bs : List BoxFace) (ws : List Way) (r : ℕ) → Every (IsPlainWay bs) ws
    → mark bs ws r ≡ plain_mark (map (λ (w : Way). w.root) ws) r
mark_is bs ws r h =
    let a : nat_le 2 (length (to_root r ws)) ≡ nat_le 2 (often r (map (λ (w : Way). w.root) ws)) =
    ap (λ (n : ℕ). nat_le 2 n) (to_often r ws) in
    let p = plain_to bs r ws h in
    let b = none_given bs (to_root r ws) p in
    let c = none_back bs (to_root r ws) p in
    let l = none_led bs (to_root r ws) p in
    let d : filter (λ n. has n (flat_map (λ (w : Way). led_to bs w.steps) (to_root r ws))) (roots_met ws) ≡ [] =
    rw l (none_has (roots_met ws)) in
    rw (a, b, c, d) refl

pub map_same : {X Y : Type 0} (f g : X → Y) (xs : List X) → ((x : X) → f x ≡ g x) → map f xs ≡ map g xs
map_same f g [] h = refl
map_same {X} {Y} f g (x ∷ xs) h = ap₂ (λ (a : Y) (b : List Y). a ∷ b) (h x) (map_same f g xs h)

-- the law on trees whose ways are plain
pub plain_signature : (bs : List BoxFace) (t : Tree) → Every (IsPlainWay bs) (ways t)
    → signature bs t ≡ plain_marks (tree_refs t)
plain_signature bs t h =
    map_same (mark bs (ways t)) (plain_mark (tree_refs t)) (once (tree_refs t)) (λ r. mark_is bs (ways t) r h)

-- the law: where no rule has a box edge, the signature of a tree that runs is read off its references
pub signature_is : (bs : List BoxFace) (rules : List Rule) → Every (λ (r : Rule). IsPlain r.symbol) rules
    → {q : ℕ} {t : Tree} → RunOf rules q t → signature bs t ≡ plain_marks (tree_refs t)
signature_is bs rules plain {t = t} h = plain_signature bs t (run_plain bs rules plain h)
