-- The rules of the grammar are good.
use Rattle.std.proofs.Common.{◌≡◌, ◌⊎◌, ◌<◌, ℕ, zero, suc, Bool, true, false, List, [], ◌∷◌, refl, sym, ap, ◌∙◌, subst}
use Rattle.std.proofs.Common.{Some, None, inl, inr, arith}
use Rattle.c_ast.specs.declared.operands.Arrow.{Arrow}
use Rattle.c_ast.specs.declared.operands.Call.{Call}
use Rattle.c_ast.specs.declared.operands.Name.{Name}
use Rattle.c_ast.specs.declared.operands.Operand.{Operand}
use Rattle.c_ast.specs.declared.operands.Operand.TheVariants as operand'
use Rattle.c_lexer.specs.declared.token.Token.{Token}
use Rattle.c_grammar.specs.Grammar.{Part, Rule, token, empty, nowhere, ◌then◌, ◌or◌, Many, Made, level}
use Rattle.c_grammar.specs.words.Sets.{opens, tails, operands_go_on, arguments_go_on, Signs, among, no_sign}
use Rattle.c_grammar.specs.words.Sets.{arrows, names, operand_goes_on, begins_operand}
use Rattle.c_grammar.specs.Syntax.{at, at_of, name, name_of, arrow, arrow_of, path, path_of, middle, series, joined}
use Rattle.c_grammar.specs.Syntax.{behind, optional, second, arguments, call_with, call_of, call, operand_with, operand}
use Rattle.c_grammar.specs.Syntax.{argument}
use Rattle.c_grammar.specs.Syntax.{literal_part}
use Rattle.c_grammar.specs.declared.signs.Sign.{Sign}
use Rattle.c_grammar.specs.declared.signs.Sign.TheVariants as sign
use Rattle.c_grammar.proofs.Decide.{holds, every, implies, inside, within, apart_of}
use Rattle.c_grammar.proofs.Families.{one, make, and_then}
use Rattle.c_grammar.proofs.Fix.{good_fix}
use Rattle.c_grammar.proofs.Parts.{good_token, good_nothing, good_made, good_either, good_level, good_same, good_within}
use Rattle.c_grammar.proofs.Parts.{cont_either}
use Rattle.c_grammar.proofs.Parts.{Same}
use Rattle.c_grammar.proofs.Repeats.{good_many, cont_many}
use Rattle.c_grammar.proofs.Rules.{Good, cont_both}
use Rattle.c_grammar.proofs.Steps.{Clear, Under, or_none, good_pair, good_chain, good_or}
use Rattle.c_grammar.proofs.SignLemmas.{clash}
use Rattle.c_grammar.specs.Signs.{or_on, same_sign}

-- a rule with sets of signs that are given
pub named : {X : Type 0} {A : Rule X} {fa ca ba : Signs} {na : Bool} (fb cb bb : Signs) → Good A fa ca ba na →
    every (λ s. implies (fa s) (fb s)) ≡ true → every (λ s. implies (ca s) (cb s)) ≡ true
    → every (λ s. implies (ba s) (bb s)) ≡ true → Good A fb cb bb na
named {fa = fa} {ca = ca} {ba = ba} fb cb bb good f c b =
    good_within fb cb bb (inside fa fb f) (within ca cb c) (within ba bb b) good

-- the same, beginning as it does
pub contd : {X : Type 0} {A : Rule X} {fa ca ba : Signs} {na : Bool} (cb bb : Signs) → Good A fa ca ba na →
    every (λ s. implies (ca s) (cb s)) ≡ true → every (λ s. implies (ba s) (bb s)) ≡ true → Good A fa cb bb na
contd {fa = fa} {ca = ca} {ba = ba} cb bb good c b =
    good_within fa cb bb (λ s h. h) (within ca cb c) (within ba bb b) good

pub good_one : (s : Sign) → Good (one s) (among (s ∷ [])) no_sign no_sign false
good_one s = good_token s (among (s ∷ []))
    (λ t e. subst (λ t. among (s ∷ []) t ≡ true) (sym e) (ap (λ b. or_on b false) (holds (λ s. same_sign s s) refl s)))

pub good_at : (s : Sign) → Good (λ n. at s) (among (s ∷ [])) no_sign no_sign false
good_at s = good_made (good_one s) at_of

pub good_name : Good (λ n. name) names no_sign no_sign false
good_name = good_made (good_one sign.Id) name_of

pub good_arrow : Good (λ n. arrow) arrows no_sign no_sign false
good_arrow = good_made (good_chain (good_at sign.Arrow) good_name refl) arrow_of

pub good_arrows : Good (λ n. Many arrow) arrows arrows no_sign true
good_arrows = good_many good_arrow (apart_of no_sign arrows refl) (apart_of no_sign arrows refl)

pub good_path : Good (λ n. path) names arrows no_sign false
good_path = named _ _ _ (good_made (good_pair good_name good_arrows refl) path_of) refl refl refl

-- a token, and a part behind it, which alone is kept; any number of those; and one part or more, with the token between
-- two of them
pub good_next : {X : Type 0} {A : Rule X} {fa ca ba : Signs} (word : Sign) → Good A fa ca ba false
    → Good (λ n. behind word (A n)) (among (word ∷ [])) ca ba false
good_next word ga = good_made (good_chain (good_one word) ga refl) second

module _ {X : Type 0} {A : Rule X} {fa ca : Signs} (word : Sign) (ga : Good A fa ca no_sign false)
    (clear : Clear ca (among (word ∷ []))) where
  pub good_more : Good (λ n. Many (behind word (A n))) (among (word ∷ [])) (cont_many (among (word ∷ [])) ca) no_sign
      true
  good_more = good_many (good_next word ga) (apart_of ca (among (word ∷ [])) clear)
      (apart_of no_sign (among (word ∷ [])) refl)

  pub good_series : {cs : Signs} → Under (cont_both true ca (cont_many (among (word ∷ [])) ca)) cs
      → Good (λ n. series word (A n)) fa cs no_sign false
  good_series {cs = cs} wide =
      good_within fa cs no_sign (λ s h. sym (or_none (fa s)) ∙ h)
      (within (cont_both true ca (cont_many (among (word ∷ [])) ca)) cs wide) (λ s h. h)
      (good_made (good_pair ga good_more clear) joined)

-- a part that is not empty, or none
pub good_or_empty : {X : Type 0} {A : Rule X} {fa ca cb : Signs} → Good A fa ca no_sign false → (v : X)
    → Under (cont_either fa ca false no_sign no_sign true) cb → Good (λ n. A n or empty v) fa cb no_sign true
good_or_empty {fa = fa} {ca = ca} {cb = cb} ga v wide =
    good_within fa cb no_sign (λ s h. sym (or_none (fa s)) ∙ h)
    (within (cont_either fa ca false no_sign no_sign true) cb wide) (λ s h. h)
    (good_either ga (good_nothing v) (λ s h. absurd (clash (sym h))) refl)

pub good_optional : {X : Type 0} {A : Rule X} {fa ca cb : Signs} → Good A fa ca no_sign false
    → Under (cont_either fa ca false no_sign no_sign true) cb → Good (λ n. optional (A n)) fa cb no_sign true
good_optional ga wide = good_or_empty (good_made ga Some) None wide

-- a list of operands in brackets
module _ {I : Rule Operand} (gi : Good I begins_operand operand_goes_on no_sign false) where
  pub good_operands : Good (λ n. series sign.Comma (I n)) begins_operand operands_go_on no_sign false
  good_operands = good_series sign.Comma gi refl refl

  pub good_some_operands : Good (λ n. series sign.Comma (I n) or empty []) begins_operand arguments_go_on no_sign true
  good_some_operands = good_or_empty good_operands [] refl

  pub good_closed_operands : Good (λ n. (series sign.Comma (I n) or empty []) then token sign.Close)
      (λ s. or_on (begins_operand s) (same_sign sign.Close s)) no_sign no_sign false
  good_closed_operands = named _ _ _ (good_pair good_some_operands (good_one sign.Close) refl) refl refl refl

  pub good_arguments : Good (λ n. arguments (I n)) opens no_sign no_sign false
  good_arguments = good_made (good_chain (good_one sign.Open) good_closed_operands refl) middle

-- a path and a call begin alike: a name, and then operands in brackets or arrows
abbrev pub Tail : Type 0
Tail = List Operand ⊎ List Arrow

abbrev pub tail_part : Part (List Operand) → Part Tail
tail_part args = Made inl args or Made inr (Many arrow)

abbrev pub word_of : Name × Tail → Operand
word_of p = elim p.1 [ inl os ↦ operand'.Call (call_of (p.0, os)) | inr es ↦ operand'.Path (path_of (p.0, es)) ]

abbrev pub word_part : Part (List Operand) → Part Operand
word_part args = Made word_of (name then tail_part args)

abbrev pub begins_literal : Signs
begins_literal = among (sign.Number ∷ (sign.Null ∷ (sign.True ∷ (sign.False ∷ []))))

pub good_tail : {R : Rule (List Operand)} → Good R opens no_sign no_sign false
    → Good (λ n. tail_part (R n)) tails tails no_sign true
good_tail gr = named _ _ _ (good_or (good_made gr inl) (good_made good_arrows inr) refl refl) refl refl refl

pub good_word : {R : Rule (List Operand)} → Good R opens no_sign no_sign false
    → Good (λ n. word_part (R n)) names tails no_sign false
good_word gr = named _ _ _ (good_made (good_pair good_name (good_tail gr) refl) word_of) refl refl refl

pub good_literal : Good (λ n. literal_part) begins_literal no_sign no_sign false
good_literal = named _ _ _
    (good_or (good_made (good_made (good_one sign.Number) name_of) operand'.Number)
    (good_or (good_made (good_at sign.Null) operand'.Null)
    (good_or (good_made (good_at sign.True) operand'.True) (good_made (good_at sign.False) operand'.False) refl refl)
    refl refl) refl refl) refl refl refl

abbrev pub factored : Part (List Operand) → Part Operand
factored args = word_part args or literal_part

pub good_factored : {R : Rule (List Operand)} → Good R opens no_sign no_sign false
    → Good (λ n. factored (R n)) begins_operand operand_goes_on no_sign false
good_factored gr = named _ _ _ (good_or (good_word gr) good_literal refl refl) refl refl refl

-- both forms read the same
pub to_factored : (args : Part (List Operand)) (ts rest : List Token) (x : Operand)
    → operand_with (Made call_of (name then args)) ts rest x → factored args ts rest x
to_factored args ts rest x (inl r) = inl (record {
  part = (r.read.part.0, inr r.read.part.1);
  read = and_then r.read.read.mid r.read.read.front (inr (make inr r.read.read.back));
  is = r.is ∙ ap operand'.Path r.read.is;
})
to_factored args ts rest x (inr (inl r)) = inl (record {
  part = (r.read.part.0, inl r.read.part.1);
  read = and_then r.read.read.mid r.read.read.front (inl (make inl r.read.read.back));
  is = r.is ∙ ap operand'.Call r.read.is;
})
to_factored args ts rest x (inr (inr r)) = inr r

from_word : (args : Part (List Operand)) (ts mid rest : List Token) (x : Operand) (head : Name) (t : Tail)
    → x ≡ word_of (head, t) → name ts mid head → tail_part args mid rest t →
    operand_with (Made call_of (name then args)) ts rest x
from_word args ts mid rest x head t is n (inl r) = inr (inl (record {
  part = call_of (head, r.part);
  read = make call_of (and_then mid n r.read);
  is = is ∙ ap (λ v. word_of (head, v)) r.is;
}))
from_word args ts mid rest x head t is n (inr r) = inl (record {
  part = path_of (head, r.part);
  read = make path_of (and_then mid n r.read);
  is = is ∙ ap (λ v. word_of (head, v)) r.is;
})

pub from_factored : (args : Part (List Operand)) (ts rest : List Token) (x : Operand) → factored args ts rest x
    → operand_with (Made call_of (name then args)) ts rest x
from_factored args ts rest x (inl r) =
    from_word args ts r.read.mid rest x r.part.0 r.part.1 r.is r.read.front r.read.back
from_factored args ts rest x (inr r) = inr (inr r)

-- no call is one with brackets that are never there
to_closed : (ts rest : List Token) (x : Operand) → operand_with nowhere ts rest x
    → operand_with (Made call_of (name then nowhere)) ts rest x
to_closed ts rest x (inl r) = inl r
to_closed ts rest x (inr (inl r)) = absurd r.read
to_closed ts rest x (inr (inr r)) = inr (inr r)

from_closed : (ts rest : List Token) (x : Operand) → operand_with (Made call_of (name then nowhere)) ts rest x
    → operand_with nowhere ts rest x
from_closed ts rest x (inl r) = inl r
from_closed ts rest x (inr (inl r)) = absurd r.read.read.back
from_closed ts rest x (inr (inr r)) = inr (inr r)

module _ (I : Rule Operand) where
  abbrev pub inner_arguments : Rule (List Operand)
  inner_arguments = level (λ n. arguments (I n))

  to_layer : (n : ℕ) (ts rest : List Token) (x : Operand) → factored (inner_arguments n) ts rest x
      → operand_with (level (λ k. call_with (I k)) n) ts rest x
  to_layer zero ts rest x r = from_closed ts rest x (from_factored nowhere ts rest x r)
  to_layer (suc n) ts rest x r = from_factored (arguments (I n)) ts rest x r

  back_layer : (n : ℕ) (ts rest : List Token) (x : Operand) → operand_with (level (λ k. call_with (I k)) n) ts rest x
      → factored (inner_arguments n) ts rest x
  back_layer zero ts rest x r = to_factored nowhere ts rest x (to_closed ts rest x r)
  back_layer (suc n) ts rest x r = to_factored (arguments (I n)) ts rest x r

  pub same_layer : Same (λ n. factored (inner_arguments n)) (λ n. operand_with (level (λ k. call_with (I k)) n))
  same_layer = record { to = to_layer; back = back_layer }

abbrev pub argument_layer : Rule Operand → Rule Operand
argument_layer I n = operand_with (level (λ k. call_with (I k)) n)

pub layer_is : (n : ℕ) → argument n ≡ argument_layer argument n
layer_is zero = refl
layer_is (suc zero) = refl
layer_is (suc (suc n)) = refl

pub layer_causal : (G H : Rule Operand) (n : ℕ) → ((k : ℕ) → k < n → G k ≡ H k) → argument_layer G n
    ≡ argument_layer H n
layer_causal G H zero h = refl
layer_causal G H (suc n) h = ap (λ P. operand_with (call_with P)) (h n (omega arith))

layer_good : (G : Rule Operand) → Good G begins_operand operand_goes_on no_sign false
    → Good (argument_layer G) begins_operand operand_goes_on no_sign false
layer_good G good = good_same (same_layer G) (good_factored (good_level (good_arguments good)))

pub good_argument : Good argument begins_operand operand_goes_on no_sign false
good_argument = good_fix argument_layer argument begins_operand operand_goes_on no_sign false layer_is layer_causal
    layer_good

-- an operand outside calls
to_operand : (n : ℕ) (ts rest : List Token) (x : Operand) → factored (arguments (argument n)) ts rest x
    → operand n ts rest x
to_operand zero ts rest x r = from_factored (arguments (argument zero)) ts rest x r
to_operand (suc n) ts rest x r = from_factored (arguments (argument (suc n))) ts rest x r

back_operand : (n : ℕ) (ts rest : List Token) (x : Operand) → operand n ts rest x
    → factored (arguments (argument n)) ts rest x
back_operand zero ts rest x r = to_factored (arguments (argument zero)) ts rest x r
back_operand (suc n) ts rest x r = to_factored (arguments (argument (suc n))) ts rest x r

pub same_operand : Same (λ n. factored (arguments (argument n))) operand
same_operand = record { to = to_operand; back = back_operand }

pub good_operand : Good operand begins_operand operand_goes_on no_sign false
good_operand = good_same same_operand (good_factored (good_arguments good_argument))

to_call : (n : ℕ) (ts rest : List Token) (x : Call) → call_with (argument n) ts rest x → call n ts rest x
to_call zero ts rest x r = r
to_call (suc n) ts rest x r = r

back_call : (n : ℕ) (ts rest : List Token) (x : Call) → call n ts rest x → call_with (argument n) ts rest x
back_call zero ts rest x r = r
back_call (suc n) ts rest x r = r

pub same_call : Same (λ n. call_with (argument n)) call
same_call = record { to = to_call; back = back_call }

pub good_call : Good call names no_sign no_sign false
good_call = good_same same_call (good_made (good_chain good_name (good_arguments good_argument) refl) call_of)
