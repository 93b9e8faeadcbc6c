-- Items of a list by their places.
use Rattle.std.proofs.Common.{◌≡◌, ℕ, zero, suc, ◌<◌, ◌≤◌, List, [], ◌∷◌, ◌++◌, length, Some, slice_get}
use Rattle.std.proofs.Common.{slice_set, get_or, refl, sym, ap, arith, not-suc-le-zero, le_of_suc-le-suc}
use Rattle.std.proofs.lemmas.Option.{same_Some}
use Rattle.fore_base.specs.declared.store.Value.{Value}
use Rattle.fore_base.specs.declared.store.Value.TheVariants.{Dangling}
use Rattle.ta_core.specs.Auto.{Automaton}
use Rattle.ta_core.specs.Language.{InLanguage}
use Rattle.ta_core.specs.declared.tree.Tree.{Tree}
use Rattle.fa_core.specs.Dressed.{nth_value}
use Rattle.fa_core.specs.Filled.{Choice}
use Rattle.fa_sample.specs.declared.drafts.Draft.{Draft}
use Rattle.fa_sample.specs.declared.drafts.FieldValue.{FieldValue}
use Rattle.fa_sample.specs.inner.Written.{put_in, put_at}

-- a field is put by setting the cell in its place
pub put_at_set : (at : ℕ) (x : FieldValue) (cs : List Draft) (c : Draft) → slice_get cs at ≡ Some c
    → slice_set cs at (record c { fields = put_in x c.fields }) ≡ put_at at x cs
put_at_set zero x [] c e = cc
put_at_set (suc at) x [] c e = cc
put_at_set zero x (d ∷ cs) c e =
    ap (λ (y : Draft). record y { fields = put_in x y.fields } ∷ cs) (sym (same_Some d c e))
put_at_set (suc at) x (d ∷ cs) c e = ap (λ (ys : List Draft). d ∷ ys) (put_at_set at x cs c e)

-- where there is no cell, nothing is put
pub put_at_past : (at : ℕ) (x : FieldValue) (cs : List Draft) → length cs ≤ at → cs ≡ put_at at x cs
put_at_past at x [] l = refl
put_at_past zero x (c ∷ cs) l = absurd (let z : suc (length cs) ≤ 0 = l in omega (arith, z))
put_at_past (suc at) x (c ∷ cs) l =
    ap (λ (ys : List Draft). c ∷ ys) (put_at_past at x cs (let z : suc (length cs) ≤ suc at = l in omega (arith, z)))

-- What a root is.

pub value_found : (vs : List Value) (r : ℕ) (v : Value) → r < length vs → v ≡ get_or vs r v → v ≡ nth_value vs r
value_found [] r v l e = absurd (not-suc-le-zero l)
value_found (w ∷ vs) zero v l e = e
value_found (w ∷ vs) (suc r) v l e = value_found vs r v (le_of_suc-le-suc l) e

pub value_missing : (vs : List Value) (r : ℕ) → length vs ≤ r → Dangling ≡ nth_value vs r
value_missing [] r l = refl
value_missing (w ∷ vs) zero l = absurd (not-suc-le-zero l)
value_missing (w ∷ vs) (suc r) l = value_missing vs r (le_of_suc-le-suc l)

pub choice_push : (autos : List Automaton) (ts : List Tree) (a : Automaton) (t : Tree) → Choice autos ts
    → InLanguage a t → Choice (autos ++ a ∷ []) (ts ++ t ∷ [])
choice_push [] [] a t c h = (h, tt)
choice_push [] (u ∷ ts) a t c h = absurd c
choice_push (b ∷ autos) [] a t c h = absurd c
choice_push (b ∷ autos) (u ∷ ts) a t c h = (c.0, choice_push autos ts a t c.1 h)
