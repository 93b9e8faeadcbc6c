use Rattle.std.proofs.Common.{
  ◌≡◌,
  ◌∙◌,
  ℕ,
  List,
  [],
  ◌∷◌,
  length,
  get_or,
  slice_index_or,
  true,
  false,
  sym,
  ap,
  subst,
  arith,
}
use Rattle.fore_base.specs.Lists.{IsIn}
use Rattle.fa_reach.proofs.Known.{only_down}
use Rattle.fa_reach.proofs.spreading.spread_down.Goals as goal

one_item : (xs : List (List ℕ)) (d : List ℕ) → length xs ≡ 1 → d ≡ get_or xs 0 d → xs ≡ d ∷ []
one_item [] d n e = absurd (omega (arith, n))
one_item (x ∷ []) d n e = ap (λ (y : List ℕ). y ∷ []) (sym e)
one_item (x ∷ (y ∷ xs)) d n e = absurd (omega (arith, n))

pub mark_all-requires : goal.mark_all-requires
mark_all-requires c =
    let ds = c.as_slice-2.result.now in
    let n : length ds ≡ 1 = omega arith in
    let only = sym c.as_slice-2.ensures ∙ one_item ds c.only-item.result n c.only-item.is in
    let m : slice_index_or c.args.known.now c.args.place false ≡ true =
    cc (c.is_marked.ensures, c.as_slice.ensures, c.if-not-is_marked.false) in
    λ r i. only_down c.args.parts.now c.args.known.now c.args.place c.args.part.now c.only-item.result r c.requires only
    m
    (subst (λ (l : List ℕ). IsIn r l) c.as_slice-in-len1.ensures i)
