-- The alternatives of a statement that is a level.
use Rattle.std.proofs.Common.{ℕ, List, refl}
use Rattle.c_ast.specs.declared.statements.Stmt.{Stmt}
use Rattle.c_ast.specs.declared.statements.Stmt.TheVariants as stmt'
use Rattle.c_lexer.specs.declared.token.Token.{Token}
use Rattle.c_grammar.specs.Grammar.{Rule}
use Rattle.c_grammar.specs.Signs.{sign_at}
use Rattle.c_grammar.specs.Syntax as s
use Rattle.c_grammar.specs.words.Sets.{no_sign, elses}
use Rattle.c_statements.specs.Shapes.{read_nested}
use Rattle.c_grammar.proofs.Carrying.{Carries}
use Rattle.c_grammar.proofs.Parts.{good_made}
use Rattle.c_grammar.proofs.Statements.{good_do, good_for, good_if, good_inner_block, good_stmt, good_while}
use Rattle.c_statements.proofs.Alternatives.{Alternatives, Picks, picked}
use Rattle.c_statements.proofs.Alternatives.Alternatives.{last, before}

-- the alternatives, as the grammar has them one after another
abbrev pub nesteds : Alternatives Stmt elses
nesteds =
    before (good_made good_inner_block stmt'.Block)
    (before (good_made (good_if good_stmt) s.if_of)
    (before (good_made (good_while good_stmt) s.while_of)
    (before (good_made (good_do good_stmt) s.do_of) (last (good_made (good_for good_stmt) s.for_of)))))

-- what the alternative reads that the next token begins, is read as such a statement
pub at_nested : {A : Rule Stmt} {n : ℕ} {ts : List Token} → Picks (sign_at ts) A nesteds
    → Carries A no_sign elses read_nested.rule no_sign elses n ts
at_nested p = picked refl nesteds refl p
