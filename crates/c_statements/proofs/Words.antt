-- What stands behind a word: the laws of a word with any sign, and a rule that nothing continues.
use Rattle.std.proofs.Common.{◌≢◌, true, false, [], ◌∷◌, not, refl, sym, ap}
use Rattle.c_grammar.specs.Signs.{and, or_on}
use Rattle.c_grammar.specs.declared.signs.Sign.{Sign}
use Rattle.c_grammar.specs.declared.signs.Sign.TheVariants.{End}
use Rattle.c_grammar.specs.words.Sets.{among, no_sign}
use Rattle.c_statements.specs.Shapes.{read_named, read_tested}
use Rattle.c_grammar.proofs.Goods.{good_at, good_name}
use Rattle.c_grammar.proofs.Rules.{Good}
use Rattle.c_grammar.proofs.SignLemmas.{told_apart}
use Rattle.c_grammar.proofs.Statements.{good_closed_cond}
use Rattle.c_grammar.proofs.Steps.{Steady, good_chain}

pub good_named : (word : Sign) → Good (read_named word).rule (among (word ∷ [])) no_sign no_sign false
good_named word = good_chain (good_at word) good_name refl

pub good_tested : (word : Sign) → Good (read_tested word).rule (among (word ∷ [])) no_sign no_sign false
good_tested word = good_chain (good_at word) good_closed_cond refl

-- what stands behind a word does not stand first
pub steady_behind : (word : Sign) → word ≢ End → Steady false (among (word ∷ [])) no_sign no_sign
steady_behind word real =
    ap (λ b. and (and (not b) true) true) (ap (λ b. or_on b false) (told_apart word End (λ e. real (sym e))))
