-- Where nothing is broken, declarations, statements and blocks are typed.
use Rattle.std.proofs.Common.{◌≡◌, ◌<◌, ℕ, Bool, true, false, ◌&&◌, List, [], ◌∷◌, ◌++◌, length, map, Option, Some}
use Rattle.std.proofs.Common.{None, is_some, refl, sym, ap, ◌∙◌, subst, true≢false}
use Rattle.std.proofs.lemmas.Bool.{lt-ltb}
use Rattle.std.proofs.lemmas.List.{length-map}
use Rattle.fore_base.specs.Lists.{Every}
use Rattle.fore_base.specs.declared.place.Place.{Place}
use Rattle.c_ast.specs.declared.conditions.Cond as tree
use Rattle.c_ast.specs.declared.operands.Operand.{Operand}
use Rattle.c_ast.specs.declared.simples.Rhs.{Rhs}
use Rattle.c_ast.specs.declared.simples.Simple.{Simple}
use Rattle.c_ast.specs.declared.statements.Block.{Block, roll-Block}
use Rattle.c_ast.specs.declared.statements.Declarator.{Declarator}
use Rattle.c_ast.specs.declared.statements.Declare.{Declare}
use Rattle.c_ast.specs.declared.statements.Declare.TheVariants as declare
use Rattle.c_ast.specs.declared.statements.First.{First}
use Rattle.c_ast.specs.declared.statements.First.TheVariants as first
use Rattle.c_ast.specs.declared.statements.Part as part
use Rattle.c_ast.specs.declared.statements.Stmt as tree'
use Rattle.c_ast.specs.declared.statements.Stmt.TheVariants as stmt
use Rattle.c_types.specs.Program.{Spot, Outside, InBody, InNext, body_of, is_in_body, vars_typed, cond_typed}
use Rattle.c_types.specs.Program.{act_typed, each_typed, stmt_typed, all_below}
use Rattle.c_types.specs.declared.program.Act.TheVariants as act
use Rattle.c_types.specs.declared.program.Func.{Func}
use Rattle.c_types.specs.declared.program.Stmt.{Stmt}
use Rattle.c_types.specs.declared.program.Stmt.TheVariants.{Do, Branch, While, DoWhile, For}
use Rattle.c_types.specs.declared.program.VarDef.{VarDef}
use Rattle.c_types.proofs.Layers.{typed-Branch, typed-While, typed-DoWhile, typed-For, typed-Group}
use Rattle.c_typing.specs.BodySites.{maybe_sites, type_sites, declarator_sites, declarators_sites, declare_sites}
use Rattle.c_typing.specs.BodySites.{first_sites, rest_sites, part_sites, stmt_sites, block_sites, parts_sites}
use Rattle.c_typing.specs.BodySites.{other_sites}
use Rattle.c_typing.specs.Globals.{Globals, struct_name, struct_number}
use Rattle.c_typing.specs.Programs.{next_variable, return_act, simple_stmts, cond_of, maybe_cond, maybe_simple}
use Rattle.c_typing.specs.Programs.{initialised, declarators_stmts, declare_stmts, grouped, loop_of}
use Rattle.c_typing.specs.Programs.{for_stmts, part_stmts, stmt_stmts, block_stmts, parts_stmts, other_stmts, ptrs_of}
use Rattle.c_typing.specs.Programs.{datums_of}
use Rattle.c_typing.specs.Scopes.{Scope, innermost, var_name, declared_so_far, opened, declared, all_declared, kind_of}
use Rattle.c_typing.specs.Scopes.{declarators_of, past_declare, past_first, past_part, past_parts, past_stmt}
use Rattle.c_typing.specs.Scopes.{past_block, past_other}
use Rattle.c_typing.specs.Sites as site
use Rattle.c_typing.specs.Sites.{want_of_kind, want_of_return, want_of_target, wanted_sites, rhs_sites}
use Rattle.c_typing.specs.Sites.{simple_sites, cond_sites}
use Rattle.c_typing.specs.Texts.{Text}
use Rattle.c_typing.specs.Typing.{breaches_at}
use Rattle.c_typing.specs.declared.meaning.Spot.TheVariants.{Elsewhere}
use Rattle.c_typing.specs.declared.meaning.Kind.{Kind}
use Rattle.c_typing.specs.declared.meaning.Kind.TheVariants.{Points, Datum}
use Rattle.c_typing.proofs.Clean.{IsClean, clean_parts, clean_first, struct_there, in_loop, return_right}
use Rattle.c_typing.proofs.ProgramLayers as made
use Rattle.c_typing.proofs.ScopeLayers as past
use Rattle.c_typing.proofs.ScopeLaws.{Within, back_all, stmt_keeps, other_kept, part_back, next_good, innermost_good}
use Rattle.c_typing.proofs.ScopeLaws.{declared_good, declared_vars, home-declared, ptrs_below, datums_below}
use Rattle.c_typing.proofs.SiteLayers as sites
use Rattle.c_typing.proofs.Sound.{GoodKind, GoodGlobals, shapes, GoodBlocks, number_below}
use Rattle.c_typing.proofs.SoundCalls.{GoodFuncs, return_typed}
use Rattle.c_typing.proofs.SoundConds.{Typed, typed_one, typed_act, typed_append, assign_typed, simple_typed}
use Rattle.c_typing.proofs.SoundConds.{maybe_simple_typed, cond_is_typed, maybe_cond_typed}
use Rattle.c_typing.proofs.Trees.{OfOption, Cases, block_holds}

-- where a statement stands: outside loops, or in the body of one
abbrev pub spot_of : Bool → Spot
spot_of true = InBody
spot_of false = Outside

body_spot : (loop : Bool) → body_of (spot_of loop) ≡ InBody
body_spot true = refl
body_spot false = refl

known_kind : (n : ℕ) (o : Option ℕ) → OfOption (λ k. k < n) o → is_some o ≡ true → GoodKind n (Points o)
known_kind n None below there = absurd (true≢false (sym there))
known_kind n (Some s) below there = lt-ltb s n below

pub struct_kind : (g : Globals) (n : ℕ) (x : Text) → length g.structs ≡ n → is_some (struct_number g x) ≡ true
    → GoodKind n (Points (struct_number g x))
struct_kind g n x is there =
    known_kind n (struct_number g x)
    (subst (λ k. OfOption (λ j. j < k) (struct_number g x)) (length-map g.structs struct_name ∙ is)
    (number_below x (map struct_name g.structs))) there

module _ (g : Globals) (V : List VarDef) (D n : ℕ) (size : length g.structs ≡ n) (globals : GoodGlobals n g)
    (F : List Func) (H : Option ℕ) (funcs : GoodFuncs g V D g.functions F)
    (home : OfOption (λ f. f < length g.functions) H) where
  kind_good : (d : Declare) → IsClean g (type_sites d) → GoodKind n (kind_of g d)
  kind_good (declare.Pointers at name vars) c =
      struct_kind g n name.text size (struct_there g name (clean_first g (site.UsesStruct name) [] c).0)
  kind_good (declare.Datums base vars) c = tt

  -- what is known before a piece of a body, and what is to be known after it
  abbrev pub Ready : Scope → Type 0
  Ready scope = GoodBlocks g V D scope.blocks × ((vars_typed n scope.vars ≡ true) × (scope.home ≡ H))

  abbrev pub Result : List Stmt → Spot → Scope → Type 0
  Result ss spot after = Typed g V D F H ss spot × (vars_typed n after.vars ≡ true)

  wanted_next : (scope : Scope) (k : Kind) → want_of_kind k ≡ want_of_target (next_variable scope k)
  wanted_next scope (Points to) = refl
  wanted_next scope Datum = refl

  initialised_typed : (scope : Scope) (k : Kind) (d : Declarator) (spot : Spot) → GoodKind n k
      → Within g V D (declared scope d.name.text k) → GoodBlocks g V D scope.blocks
      → (from : Option Rhs) → IsClean g (maybe_sites (rhs_sites g (declared scope d.name.text k) (want_of_kind k)) from)
      → Typed g V D F H (initialised g (declared scope d.name.text k) (next_variable scope k) d.name.at.line from) spot
  initialised_typed scope k d spot kind w blocks None c = refl
  initialised_typed scope k d spot kind w blocks (Some r) c =
      assign_typed g V D F H n globals (declared scope d.name.text k)
      (declared_good g V D n scope d.name.text k kind w blocks) funcs (next_variable scope k) r d.name.at.line spot
      (next_good g V D n scope d.name.text k kind w)
      (subst (λ want. IsClean g (rhs_sites g (declared scope d.name.text k) want r)) (wanted_next scope k) c)

  declarators_typed : (k : Kind) (ds : List Declarator) (scope : Scope) (spot : Spot) → GoodKind n k
      → Within g V D (all_declared k ds scope) → Ready scope → IsClean g (declarators_sites g k ds scope)
      → Typed g V D F H (declarators_stmts g k ds scope) spot × Ready (all_declared k ds scope)
  declarators_typed k [] scope spot kind w ready c = (refl, ready)
  declarators_typed k (d ∷ ds) scope spot kind w ready c =
      let here : Within g V D (declared scope d.name.text k) = back_all g V D k ds (declared scope d.name.text k) w in
      let halves : IsClean g (declarator_sites g k scope d)
      × IsClean g (declarators_sites g k ds (declared scope d.name.text k)) =
      clean_parts g (declarator_sites g k scope d) (declarators_sites g k ds (declared scope d.name.text k)) c in
      let from : IsClean g (maybe_sites (rhs_sites g (declared scope d.name.text k) (want_of_kind k)) d.from) =
      (clean_first g (site.Defines site.Variable d.name (map var_name (innermost scope.blocks)) (declared_so_far scope))
      (maybe_sites (rhs_sites g (declared scope d.name.text k) (want_of_kind k)) d.from) halves.0).1 in
      let rest : Typed g V D F H (declarators_stmts g k ds (declared scope d.name.text k)) spot
      × Ready (all_declared k ds (declared scope d.name.text k)) =
      declarators_typed k ds (declared scope d.name.text k) spot kind w (
        declared_good g V D n scope d.name.text k kind here ready.0,
        (declared_vars g V D n scope d.name.text k kind ready.1.0, home-declared scope d.name.text k ∙ ready.1.1),
      ) halves.1 in
      (typed_append g V D F H _ _ spot (initialised_typed scope k d spot kind here ready.0 d.from from) rest.0, rest.1)

  declare_typed : (d : Declare) (scope : Scope) (spot : Spot) → Within g V D (past_declare g d scope) → Ready scope
      → IsClean g (declare_sites g d scope)
      → Typed g V D F H (declare_stmts g d scope) spot × Ready (past_declare g d scope)
  declare_typed d scope spot w ready c =
      let halves : IsClean g (type_sites d) × IsClean g (declarators_sites g (kind_of g d) (declarators_of d) scope) =
      clean_parts g (type_sites d) (declarators_sites g (kind_of g d) (declarators_of d) scope) c in
      declarators_typed (kind_of g d) (declarators_of d) scope spot (kind_good d halves.0) w ready halves.1

  -- A block's group

  group_typed : (body : List Stmt) (scope : Scope) (line : ℕ) (spot : Spot) → Typed g V D F H body spot
      → GoodBlocks g V D scope.blocks → Typed g V D F H (grouped body scope line ∷ []) spot
  group_typed body scope line spot typed blocks =
      typed_one g V D F H (grouped body scope line) spot
      (typed-Group (shapes g V D) V D F H body (ptrs_of (innermost scope.blocks))
      (datums_of (innermost scope.blocks)) line spot
      ∙ ap
      (λ b. b
      && (all_below (length V) (ptrs_of (innermost scope.blocks))
      && all_below D (datums_of (innermost scope.blocks)))) typed
      ∙ ap (λ b. b && all_below D (datums_of (innermost scope.blocks)))
      (ptrs_below g V D (innermost scope.blocks) (innermost_good g V D scope.blocks blocks))
      ∙ datums_below g V D (innermost scope.blocks) (innermost_good g V D scope.blocks blocks))

  -- Statements

  abbrev PartOk : part.Part → Type 0
  PartOk p = (loop : Bool) (scope : Scope) → Within g V D (past_part g p scope) → Ready scope
      → IsClean g (part_sites g p loop scope)
      → Typed g V D F H (part_stmts g p scope) (spot_of loop) × Ready (past_part g p scope)

  abbrev StmtOk : tree'.Stmt → Type 0
  StmtOk s = (loop : Bool) (scope : Scope) → Within g V D (past_stmt g s scope) → Ready scope
      → IsClean g (stmt_sites g s loop scope)
      → Result (stmt_stmts g s scope) (spot_of loop) (past_stmt g s scope)

  abbrev BlockOk : Block → Type 0
  BlockOk b = (loop : Bool) (scope : Scope) → Within g V D (past_block g b scope) → Ready scope
      → IsClean g (block_sites g b loop scope)
      → Result (block_stmts g b scope) (spot_of loop) (past_block g b scope)

  -- the result for equal statements and scopes
  told : (made ss : List Stmt) (spot : Spot) (after scope : Scope) → made ≡ ss → after ≡ scope → Result ss spot scope
      → Result made spot after
  told made ss spot after scope is is' r =
      (subst (λ xs. Typed g V D F H xs spot) (sym is) r.0, subst (λ s. vars_typed n s.vars ≡ true) (sym is') r.1)

  parts_typed : (ps : List part.Part) → Every PartOk ps → (loop : Bool) (scope : Scope)
      → Within g V D (past_parts g ps scope) → Ready scope → IsClean g (parts_sites g ps loop scope)
      → Typed g V D F H (parts_stmts g ps scope) (spot_of loop) × Ready (past_parts g ps scope)
  parts_typed [] all loop scope w ready c = (refl, ready)
  parts_typed (p ∷ ps) all loop scope w ready c =
      let halves : IsClean g (part_sites g p loop scope) × IsClean g (parts_sites g ps loop (past_part g p scope)) =
      clean_parts g (part_sites g p loop scope) (parts_sites g ps loop (past_part g p scope)) c in
      let one : Typed g V D F H (part_stmts g p scope) (spot_of loop) × Ready (past_part g p scope) =
      all.0 loop scope (parts_within ps (past_part g p scope) w) ready halves.0 in
      let rest : Typed g V D F H (parts_stmts g ps (past_part g p scope)) (spot_of loop)
      × Ready (past_parts g ps (past_part g p scope)) =
      parts_typed ps all.1 loop (past_part g p scope) w one.1 halves.1 in (
        typed_append g V D F H (part_stmts g p scope) (parts_stmts g ps (past_part g p scope))
            (spot_of loop) one.0 rest.0,
        rest.1,
      )
    where
      parts_within : (qs : List part.Part) (s : Scope) → Within g V D (past_parts g qs s) → Within g V D s
      parts_within [] s w = w
      parts_within (q ∷ qs) s w = (part_back g V D q s).0 (parts_within qs (past_part g q s) w)

  other_typed : (other : Option tree'.Stmt) → OfOption StmtOk other → (loop : Bool) (scope : Scope)
      → Within g V D (past_other g other scope) → Ready scope → IsClean g (other_sites g other loop scope)
      → Result (other_stmts g other scope) (spot_of loop) (past_other g other scope)
  other_typed None ok loop scope w ready c = (refl, ready.1.0)
  other_typed (Some s) ok loop scope w ready c = ok loop scope w ready c

  -- after a statement the open blocks are as before
  still_ready : (s : tree'.Stmt) (scope : Scope) → Ready scope → vars_typed n (past_stmt g s scope).vars ≡ true
      → Ready (past_stmt g s scope)
  still_ready s scope ready vars = (
    subst (GoodBlocks g V D) (sym (stmt_keeps g V D s scope).0) ready.0,
    (vars, (stmt_keeps g V D s scope).1.1 ∙ ready.1.1),
  )

  first_typed : (f : First) (scope : Scope) → Within g V D (past_first g f scope) → Ready scope
      → IsClean g (first_sites g f scope) → Ready (past_first g f scope)
  first_typed (first.Declare d) scope w ready c = (declare_typed d scope Outside w ready c).1
  first_typed (first.Simple s) scope w ready c = ready
  first_typed first.Nothing scope w ready c = ready

  abbrev each : List Stmt → Spot → Bool
  each ss = each_typed (shapes g V D) V D (map (stmt_typed (shapes g V D) V D F H) ss)

  -- a loop's test, and its body
  round_typed : {test : Bool} (body : List Stmt) (loop : Bool) → test ≡ true → Typed g V D F H body InBody
      → (test && each body (body_of (spot_of loop))) ≡ true
  round_typed body loop test round = ap (λ b. b && each body (body_of (spot_of loop))) test
      ∙ subst (λ spot. each body spot ≡ true) (sym (body_spot loop)) round

  loop_typed : (at : Place) (c : Option tree.Cond) (next : Option Simple) (body : tree'.Stmt) (loop : Bool)
      (scope : Scope) → Ready scope
      → cond_typed (shapes g V D) V D (maybe_cond g scope at.line c) ≡ true
      → Typed g V D F H (maybe_simple g scope next) InNext → Typed g V D F H (stmt_stmts g body scope) InBody
      → Typed g V D F H (loop_of g at c next (body, stmt_stmts g body) scope ∷ []) (spot_of loop)
  loop_typed at c next body loop scope ready test step round =
      typed_one g V D F H (For (maybe_cond g scope at.line c) (maybe_simple g scope next) (stmt_stmts g body scope))
      (spot_of loop)
      (typed-For (shapes g V D) V D F H (maybe_cond g scope at.line c) (maybe_simple g scope next)
      (stmt_stmts g body scope) (spot_of loop)
      ∙ ap
      (λ b. b
      && (each (maybe_simple g scope next) InNext && each (stmt_stmts g body scope) (body_of (spot_of loop)))) test
      ∙ round_typed (stmt_stmts g body scope) loop step round)

  for_typed : (f : First) (at : Place) (c : Option tree.Cond) (next : Option Simple) (body : tree'.Stmt) (loop : Bool)
      (scope : Scope) → Within g V D (past_first g f (opened scope)) → Ready scope
      → IsClean g (first_sites g f (opened scope))
      → Typed g V D F H (loop_of g at c next (body, stmt_stmts g body) (past_first g f (opened scope)) ∷ [])
      (spot_of loop)
      → Typed g V D F H (for_stmts g f at c next (body, stmt_stmts g body) scope) (spot_of loop)
  for_typed (first.Declare d) at c next body loop scope w ready clean rest =
      let head : Typed g V D F H (declare_stmts g d (opened scope)) (spot_of loop)
      × Ready (past_declare g d (opened scope)) = declare_typed d (opened scope) (spot_of loop) w ready clean in
      group_typed _ (past_declare g d (opened scope)) at.line (spot_of loop)
      (typed_append g V D F H (declare_stmts g d (opened scope)) _ (spot_of loop) head.0 rest) head.1.0
  for_typed (first.Simple s) at c next body loop scope w ready clean rest =
      typed_append g V D F H (simple_stmts g (opened scope) s) _ (spot_of loop)
      (simple_typed g V D F H n globals (opened scope) ready.0 funcs s (spot_of loop) clean) rest
  for_typed first.Nothing at c next body loop scope w ready clean rest = rest

  of_for : (at : Place) (f : First) (c : Option tree.Cond) (next : Option Simple) (body : tree'.Stmt) → StmtOk body
      → StmtOk (stmt.For at f c next body)
  of_for at f c next body ok loop scope w ready clean =
      let inner : Scope = past_first g f (opened scope) in
      let end : Within g V D (past_stmt g body inner) =
      subst (Within g V D) (past.past-For-stmt g at f c next body scope) w in
      let start : Within g V D inner = (stmt_keeps g V D body inner).1.0 end in
      let all : IsClean g (first_sites g f (opened scope))
      × IsClean g (rest_sites g c next (body, stmt_sites g body) inner) =
      clean_parts g (first_sites g f (opened scope)) (rest_sites g c next (body, stmt_sites g body) inner)
      (subst (IsClean g) (sites.stmt-For g at f c next body loop scope) clean) in
      let parts : IsClean g (maybe_sites (cond_sites g inner) c ++ maybe_sites (simple_sites g inner) next)
      × IsClean g (stmt_sites g body true inner) =
      clean_parts g (maybe_sites (cond_sites g inner) c ++ maybe_sites (simple_sites g inner) next)
      (stmt_sites g body true inner) all.1 in
      let heads : IsClean g (maybe_sites (cond_sites g inner) c) × IsClean g (maybe_sites (simple_sites g inner) next) =
      clean_parts g (maybe_sites (cond_sites g inner) c) (maybe_sites (simple_sites g inner) next) parts.0 in
      let within : Ready inner = first_typed f (opened scope) start ready all.0 in
      let round : Result (stmt_stmts g body inner) InBody (past_stmt g body inner) = ok true inner end within parts.1 in
      told _ _ (spot_of loop) _ _ (made.made-For-stmt g at f c next body scope)
      (past.past-For-stmt g at f c next body scope) (
        for_typed f at c next body loop scope start ready all.0
            (loop_typed at c next body loop inner within
            (maybe_cond_typed g V D F H n globals inner within.0 funcs c at.line heads.0)
            (maybe_simple_typed g V D F H n globals inner within.0 funcs next InNext heads.1) round.0),
        round.1,
      )

  of_if : (at : Place) (c : tree.Cond) (s : tree'.Stmt) (other : Option tree'.Stmt) → StmtOk s → OfOption StmtOk other
      → StmtOk (stmt.If at c s other)
  of_if at c s other ok ok' loop scope w ready clean =
      let end : Within g V D (past_other g other (past_stmt g s scope)) =
      subst (Within g V D) (past.past-If-stmt g at c s other scope) w in
      let mid : Within g V D (past_stmt g s scope) = (other_kept g V D other (past_stmt g s scope)).1.0 end in
      let all : IsClean g (cond_sites g scope c ++ stmt_sites g s loop scope)
      × IsClean g (other_sites g other loop (past_stmt g s scope)) =
      clean_parts g (cond_sites g scope c ++ stmt_sites g s loop scope) (other_sites g other loop (past_stmt g s scope))
      (subst (IsClean g) (sites.stmt-If g at c s other loop scope) clean) in
      let front : IsClean g (cond_sites g scope c) × IsClean g (stmt_sites g s loop scope) =
      clean_parts g (cond_sites g scope c) (stmt_sites g s loop scope) all.0 in
      let left : Result (stmt_stmts g s scope) (spot_of loop) (past_stmt g s scope) = ok loop scope mid ready front.1 in
      let right : Result (other_stmts g other (past_stmt g s scope)) (spot_of loop)
      (past_other g other (past_stmt g s scope)) =
      other_typed other ok' loop (past_stmt g s scope) end (still_ready s scope ready left.1) all.1 in
      told _ _ (spot_of loop) _ _ (made.made-If-stmt g at c s other scope) (past.past-If-stmt g at c s other scope) (
        typed_one g V D F H
            (Branch (cond_of g scope c) (stmt_stmts g s scope) (other_stmts g other (past_stmt g s scope)))
            (spot_of loop)
            (typed-Branch (shapes g V D) V D F H (cond_of g scope c) (stmt_stmts g s scope)
            (other_stmts g other (past_stmt g s scope)) (spot_of loop)
            ∙ ap
            (λ b. b
            && (each (stmt_stmts g s scope) (spot_of loop)
            && each (other_stmts g other (past_stmt g s scope)) (spot_of loop)))
            (cond_is_typed g V D F H n globals scope ready.0 funcs c front.0)
            ∙ ap (λ b. b && each (other_stmts g other (past_stmt g s scope)) (spot_of loop)) left.0 ∙ right.0),
        right.1,
      )

  of_while : (at : Place) (c : tree.Cond) (body : tree'.Stmt) → StmtOk body → StmtOk (stmt.While at c body)
  of_while at c body ok loop scope w ready clean =
      let all : IsClean g (cond_sites g scope c) × IsClean g (stmt_sites g body true scope) =
      clean_parts g (cond_sites g scope c) (stmt_sites g body true scope)
      (subst (IsClean g) (sites.stmt-While g at c body loop scope) clean) in
      let round : Result (stmt_stmts g body scope) InBody (past_stmt g body scope) =
      ok true scope (subst (Within g V D) (past.past-While-stmt g at c body scope) w) ready all.1 in
      told _ _ (spot_of loop) _ _ (made.made-While-stmt g at c body scope) (past.past-While-stmt g at c body scope) (
        typed_one g V D F H (While (cond_of g scope c) (stmt_stmts g body scope)) (spot_of loop)
            (typed-While (shapes g V D) V D F H (cond_of g scope c) (stmt_stmts g body scope) (spot_of loop)
            ∙ round_typed (stmt_stmts g body scope) loop
            (cond_is_typed g V D F H n globals scope ready.0 funcs c all.0) round.0),
        round.1,
      )

  of_do : (at : Place) (body : tree'.Stmt) (c : tree.Cond) → StmtOk body → StmtOk (stmt.Do at body c)
  of_do at body c ok loop scope w ready clean =
      let all : IsClean g (stmt_sites g body true scope) × IsClean g (cond_sites g scope c) =
      clean_parts g (stmt_sites g body true scope) (cond_sites g scope c)
      (subst (IsClean g) (sites.stmt-Do g at body c loop scope) clean) in
      let round : Result (stmt_stmts g body scope) InBody (past_stmt g body scope) =
      ok true scope (subst (Within g V D) (past.past-Do-stmt g at body c scope) w) ready all.0 in
      told _ _ (spot_of loop) _ _ (made.made-Do-stmt g at body c scope) (past.past-Do-stmt g at body c scope) (
        typed_one g V D F H (DoWhile (cond_of g scope c) (stmt_stmts g body scope)) (spot_of loop)
            (typed-DoWhile (shapes g V D) V D F H (cond_of g scope c) (stmt_stmts g body scope) (spot_of loop)
            ∙ round_typed (stmt_stmts g body scope) loop
            (cond_is_typed g V D F H n globals scope ready.0 funcs c all.1) round.0),
        round.1,
      )

  of_simple : (s : Simple) → StmtOk (stmt.Simple s)
  of_simple s loop scope w ready clean =
      told _ _ (spot_of loop) _ _ (made.made-Simple-stmt g s scope) (past.past-Simple-stmt g s scope) (
        simple_typed g V D F H n globals scope ready.0 funcs s (spot_of loop)
            (subst (IsClean g) (sites.stmt-Simple g s loop scope) clean),
        ready.1.0,
      )

  of_parts : (at close : Place) (parts : List part.Part) → Every PartOk parts
      → BlockOk (roll-Block (record { at = at; parts = parts; close = close }))
  of_parts at close parts all loop scope w ready clean =
      let body : Typed g V D F H (parts_stmts g parts (opened scope)) (spot_of loop)
      × Ready (past_parts g parts (opened scope)) =
      parts_typed parts all loop (opened scope) (subst (Within g V D) (past.past-parts g at close parts scope) w) ready
      (subst (IsClean g) (sites.block-parts g at close parts loop scope) clean) in
      told _ _ (spot_of loop) _ _ (made.made-parts g at close parts scope) (past.past-parts g at close parts scope) (
        group_typed (parts_stmts g parts (opened scope)) (past_parts g parts (opened scope)) close.line (spot_of loop)
            body.0 body.1.0,
        body.1.1.0,
      )

  jump_typed : (loop : Bool) → loop ≡ true → is_in_body (spot_of loop) ≡ true
  jump_typed loop is = ap (λ b. is_in_body (spot_of b)) is

  return_is_typed : (at : Place) (o : Option Operand) (loop : Bool) (scope : Scope) → Ready scope
      → IsClean g (site.Returns scope.home (is_some o) at
      ∷ maybe_sites (wanted_sites g scope Elsewhere (want_of_return g scope.home)) o)
      → act_typed (shapes g V D) V D F H (return_act g scope scope.home o) (spot_of loop) ≡ true
  return_is_typed at o loop scope ready c =
      let halves : (breaches_at g (site.Returns scope.home (is_some o) at) ≡ [])
      × IsClean g (maybe_sites (wanted_sites g scope Elsewhere (want_of_return g scope.home)) o) =
      clean_first g (site.Returns scope.home (is_some o) at)
      (maybe_sites (wanted_sites g scope Elsewhere (want_of_return g scope.home)) o) c in
      subst (λ h. act_typed (shapes g V D) V D F h (return_act g scope scope.home o) (spot_of loop) ≡ true) ready.1.1
      (return_typed g V D n globals scope ready.0 F funcs scope.home
      (subst (OfOption (λ f. f < length g.functions)) (sym ready.1.1) home) o (spot_of loop)
      (return_right g scope.home (is_some o) at halves.0) halves.1)

  typed_cases : Cases PartOk StmtOk BlockOk
  typed_cases = record {
    of_Declare = λ d loop scope w ready c.
        let r : Typed g V D F H (declare_stmts g d scope) (spot_of loop) × Ready (past_declare g d scope) =
        declare_typed d scope (spot_of loop) (subst (Within g V D) (past.past-Declare g d scope) w) ready
        (subst (IsClean g) (sites.part-Declare g d loop scope) c) in (
          subst (λ xs. Typed g V D F H xs (spot_of loop)) (sym (made.made-Declare g d scope)) r.0,
          subst Ready (sym (past.past-Declare g d scope)) r.1,
        );
    of_Stmt = λ s ok loop scope w ready c.
        let r : Result (stmt_stmts g s scope) (spot_of loop) (past_stmt g s scope) =
        ok loop scope (subst (Within g V D) (past.past-Stmt g s scope) w) ready
        (subst (IsClean g) (sites.part-Stmt g s loop scope) c) in (
          subst (λ xs. Typed g V D F H xs (spot_of loop)) (sym (made.made-Stmt g s scope)) r.0,
          subst Ready (sym (past.past-Stmt g s scope)) (still_ready s scope ready r.1),
        );
    of_parts = of_parts;
    of_Empty = λ at loop scope w ready c.
        told _ _ (spot_of loop) _ _ (made.made-Empty-stmt g at scope) (past.past-Empty-stmt g at scope)
        (refl, ready.1.0);
    of_Block = λ b ok loop scope w ready c.
        told _ _ (spot_of loop) _ _ (made.made-Block-stmt g b scope) (past.past-Block-stmt g b scope)
        (ok loop scope (subst (Within g V D) (past.past-Block-stmt g b scope) w) ready
        (subst (IsClean g) (sites.stmt-Block g b loop scope) c));
    of_Simple = of_simple;
    of_If = of_if;
    of_While = of_while;
    of_Do = of_do;
    of_For = of_for;
    of_Return = λ at o loop scope w ready c.
        told _ _ (spot_of loop) _ _ (made.made-Return-stmt g at o scope) (past.past-Return-stmt g at o scope) (
          typed_act g V D F H (return_act g scope scope.home o) at.line (spot_of loop)
              (return_is_typed at o loop scope ready (subst (IsClean g) (sites.stmt-Return g at o loop scope) c)),
          ready.1.0,
        );
    of_Break = λ at loop scope w ready c.
        told _ _ (spot_of loop) _ _ (made.made-Break-stmt g at scope) (past.past-Break-stmt g at scope) (
          typed_act g V D F H act.Break at.line (spot_of loop)
              (jump_typed loop
              (in_loop g loop at
              (clean_first g (site.Jumps loop at) [] (subst (IsClean g) (sites.stmt-Break g at loop scope) c)).0)),
          ready.1.0,
        );
    of_Continue = λ at loop scope w ready c.
        told _ _ (spot_of loop) _ _ (made.made-Continue-stmt g at scope) (past.past-Continue-stmt g at scope) (
          typed_act g V D F H act.Continue at.line (spot_of loop)
              (jump_typed loop
              (in_loop g loop at
              (clean_first g (site.Jumps loop at) [] (subst (IsClean g) (sites.stmt-Continue g at loop scope) c)).0)),
          ready.1.0,
        );
    of_Assert = λ at x loop scope w ready c.
        told _ _ (spot_of loop) _ _ (made.made-Assert-stmt g at x scope) (past.past-Assert-stmt g at x scope) (
          typed_one g V D F H (Branch (cond_of g scope x) [] (Do act.Error at.line ∷ [])) (spot_of loop)
              (typed-Branch (shapes g V D) V D F H (cond_of g scope x) [] (Do act.Error at.line ∷ []) (spot_of loop)
              ∙ ap
              (λ b. b
              && (true && each_typed (shapes g V D) V D
              (map (stmt_typed (shapes g V D) V D F H) (Do act.Error at.line ∷ [])) (spot_of loop)))
              (cond_is_typed g V D F H n globals scope ready.0 funcs x
              (subst (IsClean g) (sites.stmt-Assert g at x loop scope) c))
              ∙ typed_act g V D F H act.Error at.line (spot_of loop) refl),
          ready.1.0,
        );
  }

  pub block_typed : (b : Block) (loop : Bool) (scope : Scope) → Within g V D (past_block g b scope) → Ready scope
      → IsClean g (block_sites g b loop scope)
      → Result (block_stmts g b scope) (spot_of loop) (past_block g b scope)
  block_typed = block_holds PartOk StmtOk BlockOk typed_cases
