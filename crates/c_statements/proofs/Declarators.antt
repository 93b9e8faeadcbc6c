-- The declarators of a declaration, each behind a star or none: the laws of both.
use Rattle.std.proofs.Common.{ℕ, Bool, true, false, [], ◌∷◌, refl}
use Rattle.c_grammar.specs.Syntax as s
use Rattle.c_grammar.specs.declared.signs.Sign.TheVariants as sign
use Rattle.c_grammar.specs.words.Faults.{Alive}
use Rattle.c_grammar.specs.words.Parted.{declarator_goes_on, declarators_go_on}
use Rattle.c_grammar.specs.words.Sets.{Signs, among, no_sign, commas}
use Rattle.c_statements.specs.Shapes.{init_declarator, read_next_declarator, read_more_declarators, read_declarators}
use Rattle.c_grammar.proofs.Goods.{named, good_name, good_next, good_more}
use Rattle.c_grammar.proofs.Leasts.{least_name, least_absent}
use Rattle.c_grammar.proofs.Parts.{alive_made}
use Rattle.c_grammar.proofs.Rules.{Good}
use Rattle.c_grammar.proofs.Sequences.{least_pair}
use Rattle.c_grammar.proofs.Series.{least_behind, least_series}
use Rattle.c_grammar.proofs.Statements.{good_declarator, good_maybe_from, good_star_declarator}

abbrev pub begins_init_declarator : Signs
begins_init_declarator = among (sign.Id ∷ (sign.Star ∷ []))

pub good_init_declarator : (starred : Bool)
    → Good (init_declarator starred) begins_init_declarator declarator_goes_on no_sign false
good_init_declarator true = named _ _ _ good_star_declarator refl refl refl
good_init_declarator false = named _ _ _ good_declarator refl refl refl

pub good_next_declarator : (starred : Bool)
    → Good (read_next_declarator starred).rule commas declarator_goes_on no_sign false
good_next_declarator starred = good_next sign.Comma (good_init_declarator starred)

pub good_more_declarators : (starred : Bool)
    → Good (read_more_declarators starred).rule commas declarators_go_on no_sign true
good_more_declarators starred = named _ _ _ (good_more sign.Comma (good_init_declarator starred) refl) refl refl refl

-- each reads something
pub least_declarator : (n : ℕ) → Alive s.declarator no_sign n []
least_declarator n =
    alive_made s.declarator_of (least_pair good_name good_maybe_from refl refl n (least_name n) (least_absent n))

pub least_init_declarator : (starred : Bool) (n : ℕ) → Alive (init_declarator starred) no_sign n []
least_init_declarator true n = least_behind sign.Star refl good_declarator n (least_declarator n)
least_init_declarator false n = least_declarator n

pub least_declarators : (starred : Bool) (n : ℕ) → Alive (read_declarators starred).rule no_sign n []
least_declarators starred n =
    least_series sign.Comma (good_init_declarator starred) refl n (least_init_declarator starred n)
