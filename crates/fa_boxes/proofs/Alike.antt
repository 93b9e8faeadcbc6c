-- Whether rules of root states, and the trees by them, cover the same fields.
use Rattle.std.proofs.Common.{◌≡◌, inl, inr, ℕ, Bool, true, false, List, sym, subst}
use Rattle.fore_base.specs.Lists.{IsIn}
use Rattle.fore_base.proofs.ListLemmas.{every_in, in_every}
use Rattle.ta_core.specs.Auto.{Automaton, IsRanked}
use Rattle.ta_core.specs.Language.{InLanguage, IsTrim, run}
use Rattle.ta_core.specs.declared.auto.Rule.{Rule}
use Rattle.ta_core.specs.declared.symbol.Symbol.{Symbol}
use Rattle.ta_core.specs.declared.tree.Tree.{Tree, out-Tree}
use Rattle.fa_core.specs.Boxes.{CoverAlike}
use Rattle.fa_core.specs.Folding.{covered_fields}
use Rattle.fa_core.specs.declared.faces.BoxFace.{BoxFace}
use Rattle.fa_boxes.specs.Tops.{CoverApart}
use Rattle.fa_boxes.specs.inner.TopRules.{AtTop, IsTop, IsLike, EachAlike, AllAlike, fields_by}
use Rattle.fa_boxes.proofs.TopRules.{rule_tree}

-- the rule of a root state by which an accepted tree is made
pub top_rule : (a : Automaton) (t : Tree) → InLanguage a t → (r : Rule) × IsTop a.roots a.rules r
    × (r.symbol ≡ (out-Tree t).symbol)
top_rule a t (q, i, run r j e s k) = (r, (j, subst (λ (x : ℕ). IsIn x a.roots) (sym e) i), s)

module _ (bs : List BoxFace) where
  among : (x y : Symbol) → IsLike bs x y → (f : ℕ) → IsIn f (fields_by bs x) → IsIn f (fields_by bs y)
  among x y l f i = every_in (λ (n : ℕ). IsIn n (fields_by bs y)) (fields_by bs x) f l.0 i

  like_both : (x y z : Symbol) → IsLike bs x y → IsLike bs x z → IsLike bs y z
  like_both x y z l k = (
    in_every (λ (n : ℕ). IsIn n (fields_by bs z)) (fields_by bs y) (λ n i. among x z k n (among y x (l.1, l.0) n i)),
    in_every (λ (n : ℕ). IsIn n (fields_by bs y)) (fields_by bs z) (λ n i. among x y l n (among z x (k.1, k.0) n i)),
  )

  -- where each is like one of them, all are alike
  pub each_all : (roots : List ℕ) (rules : List Rule) (o : Rule) → IsTop roots rules o → (yes : Bool)
      → EachAlike bs o.symbol roots rules yes → AllAlike bs roots rules yes
  each_all roots rules o i true h = λ r p j k.
      like_both o.symbol r.symbol p.symbol (every_in (AtTop (IsLike bs o.symbol) roots) rules r h j.0 j.1)
      (every_in (AtTop (IsLike bs o.symbol) roots) rules p h k.0 k.1)
  each_all roots rules o i false h = (o, h.0, i, h.1, h.2)

  pub all_trees : (a : Automaton) → AllAlike bs a.roots a.rules true → CoverAlike bs a
  all_trees a h t u i j f k =
      let r = top_rule a t i in
      let p = top_rule a u j in
      subst (λ (y : Symbol). IsIn f (fields_by bs y)) p.2
      (among r.0.symbol p.0.symbol (h r.0 p.0 r.1 p.1) f (subst (λ (y : Symbol). IsIn f (fields_by bs y)) (sym r.2) k))

  pub some_apart : (a : Automaton) → IsRanked a → IsTrim a → AllAlike bs a.roots a.rules false → CoverApart bs a
  some_apart a ranked trim (r, p, i, j, d) =
      let t = rule_tree a ranked trim r i.0 i.1 in
      let u = rule_tree a ranked trim p j.0 j.1 in
      elim d [
        | inl (f, k, n) ↦ (f, t.0, u.0, t.1, u.1, at t.0 r f t.2 k, (λ m. n (there u.0 p f u.2 m)))
        | inr (f, k, n) ↦ (f, u.0, t.0, u.1, t.1, at u.0 p f u.2 k, (λ m. n (there t.0 r f t.2 m)))
      ]
    where
      at : (t : Tree) (r : Rule) (f : ℕ) → (out-Tree t).symbol ≡ r.symbol → IsIn f (fields_by bs r.symbol)
          → IsIn f (covered_fields bs t)
      at t r f e k = subst (λ (y : Symbol). IsIn f (fields_by bs y)) (sym e) k

      there : (t : Tree) (r : Rule) (f : ℕ) → (out-Tree t).symbol ≡ r.symbol → IsIn f (covered_fields bs t)
          → IsIn f (fields_by bs r.symbol)
      there t r f e k = subst (λ (y : Symbol). IsIn f (fields_by bs y)) e k
