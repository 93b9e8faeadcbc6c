-- What stands after a type and a name: a call's brackets, or the names of a declaration of data or of pointers.
use Rattle.std.proofs.Common.{false, [], ◌∷◌, inl, inr, refl}
use Rattle.c_ast.specs.declared.operands.Name.{Name}
use Rattle.c_grammar.specs.declared.signs.Sign.TheVariants as sign
use Rattle.c_grammar.specs.words.Parted.{Called, Declared, begins_declared, called}
use Rattle.c_grammar.specs.words.Sets.{among, no_sign, elses}
use Rattle.c_parser.specs.declared.globals.Base.{Base}
use Rattle.c_parser.specs.inner.Shapes.{base_declared, is_pointer, item_of}
use Rattle.c_grammar.proofs.Families.{made}
use Rattle.c_grammar.proofs.Goods.{named}
use Rattle.c_grammar.proofs.Items.{good_called, good_declared_with}
use Rattle.c_grammar.proofs.Parts.{good_made}
use Rattle.c_grammar.proofs.Rules.{Good}
use Rattle.c_statements.proofs.Declarators.{good_init_declarator}

pub good_declared : (base : Base) → Good (base_declared base) begins_declared no_sign no_sign false
good_declared base = good_declared_with (good_init_declarator (is_pointer base))

pub good_base_declared : (base : Base) (name : Name)
    → Good (made (λ (r : Declared). item_of base name (inr r)) (base_declared base)) begins_declared no_sign elses false
good_base_declared base name = named _ _ _
    (good_made (good_declared base) (λ (r : Declared). item_of base name (inr r))) refl refl refl

pub good_base_called : (base : Base) (name : Name)
    → Good (made (λ (q : Called). item_of base name (inl q)) called) (among (sign.Open ∷ [])) no_sign elses false
good_base_called base name = good_made good_called (λ (q : Called). item_of base name (inl q))
