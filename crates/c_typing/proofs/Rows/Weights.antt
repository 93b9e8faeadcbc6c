-- Rows on what `main` weighs.
use Rattle.std.proofs.Common.{◌≡◌, [], ◌∷◌, Some, None, codes, refl}
use Rattle.c_ast.specs.declared.items.Item.TheVariants as item
use Rattle.c_ast.specs.declared.items.Params.TheVariants as params
use Rattle.c_ast.specs.declared.items.ReturnType.TheVariants as gives
use Rattle.c_ast.specs.declared.statements.Data.TheVariants as data'
use Rattle.c_typing.specs.Typing.{k9, or_else}
use Rattle.c_typing.specs.declared.fault.TypeFault.TheVariants.{Rule, Limit}
use Rattle.c_typing.proofs.Rows.Forms.{at, name}
use Rattle.c_typing.proofs.Rows.Forms.{block, head}
use Rattle.c_typing.specs.Globals.{main_head}

-- What `main` may weigh (K9)

weight_16384 : k9 16384 (Some (head (gives.Void (at 200)) (name (codes "main") 201) None)) ≡ []
weight_16384 = refl

weight_16385 : k9 16385 (Some (head (gives.Void (at 200)) (name (codes "main") 201) None)) ≡ at 201 ∷ []
weight_16385 = refl

weight_of_no_main : k9 99999 None ≡ []
weight_of_no_main = refl

-- at the first `main`, wherever it stands
-- void f(void) { } int main(void) { } int main(void) { }
first_main_weighs : k9 16385 (main_head (item.Function (head (gives.Void (at 200)) (name (codes "f") 201) (Some
    (params.Void (at 203)))) (block 205 [] 206) ∷ item.Function (head (gives.Data (data'.Int (at 207))) (name (codes
    "main") 208) (Some (params.Void (at 210)))) (block 212 [] 213) ∷ item.Function (head (gives.Data (data'.Int (at
    214))) (name (codes "main") 215) (Some (params.Void (at 217)))) (block 219 [] 220) ∷ [])) ≡ at 208 ∷ []
first_main_weighs = refl

-- it is asked only where nothing else is broken
light_enough : {X : Type 0} → or_else {X = X} [] [] ≡ []
light_enough = refl

too_heavy : or_else [] (Limit 9 (at 1) ∷ []) ≡ Limit 9 (at 1) ∷ []
too_heavy = refl

heavy_and_broken : or_else (Rule 15 (at 7) ∷ Rule 3 (at 8) ∷ []) (Limit 9 (at 1) ∷ [])
    ≡ Rule 15 (at 7) ∷ Rule 3 (at 8) ∷ []
heavy_and_broken = refl
