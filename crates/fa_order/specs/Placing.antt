-- The walk that places the roots, and forests with their roots in its order. It follows the references of each root,
-- and where nothing is left to visit the ways back: `Leads i j r` says that a way back from root i into tree j leads to
-- root r, and `Gives i j f` that box edges of tree j give field f to root i.
use Rattle.std.specs.Prelude.{◌≡◌, ◌≤◌, ◌⊎◌, ℕ, List, [], ◌∷◌, ◌++◌}
use Rattle.fore_base.specs.Lists.{Every, IsIn}
use Rattle.ta_core.specs.declared.tree.Tree.{Tree}
use Rattle.fa_core.specs.Boxless.{HasNoBoxes}
use Rattle.fa_core.specs.Canonical.{LeadsBack, provides, refs_at, var_roots}
use Rattle.fa_core.specs.Faces.{IsGiving}
use Rattle.fa_core.specs.Filled.{Choice}
use Rattle.fa_core.specs.declared.faces.Face.{Face}
use Rattle.fa_core.specs.declared.forest.Forest.{Forest}
use Rattle.fa_merge.specs.Reordered.{IsOrderOf, place_of, reordered}

-- from root i a way back into tree j leads to a root that is not placed
abbrev pub IsOpenAt : (ℕ → ℕ → ℕ → Type 0) → List ℕ → ℕ → ℕ → Type 0
IsOpenAt Leads placed i j = (r : ℕ) × (IsIn r placed → ⊥) × Leads i j r

-- no way back from a placed root leads to a root that is not placed
abbrev pub NoneOpen : (ℕ → ℕ → ℕ → Type 0) → List ℕ → Type 0
NoneOpen Leads placed = (i j : ℕ) → IsIn i placed → IsOpenAt Leads placed i j → ⊥

-- root i is the first placed one from which a way back leads to a root that is not placed
pub record IsLowestOpen (Leads : ℕ → ℕ → ℕ → Type 0) (placed : List ℕ) (i : ℕ) : Type 0 where
  pub is_placed : IsIn i placed
  pub some : (j : ℕ) × IsOpenAt Leads placed i j
  pub lowest : (k j : ℕ) → IsIn k placed → IsOpenAt Leads placed k j → place_of placed i ≤ place_of placed k

-- the tree `into` gives root i its least field of those that trees give it into which a way back from root i is open
pub record GivesLeast (Leads Gives : ℕ → ℕ → ℕ → Type 0) (placed : List ℕ) (i into : ℕ) : Type 0 where
  pub open_way : IsOpenAt Leads placed i into
  pub field : ℕ
  pub given : Gives i into field
  pub least : (j f : ℕ) → IsOpenAt Leads placed i j → Gives i j f → field ≤ f

-- r is the first root of the list that meets P and is not placed
abbrev pub IsFirstLed : (ℕ → Type 0) → List ℕ → ℕ → List ℕ → Type 0
IsFirstLed P placed r [] = ⊥
IsFirstLed P placed r (x ∷ xs) = ((x ≡ r) × P r) ⊎ (((IsIn x placed → ⊥) → P x → ⊥) × IsFirstLed P placed r xs)

-- the way back from root i into tree j goes on to root r: to the tree's own root, if it leads there and this is not
-- placed, and else to the first root to which the tree refers of those to which it leads and that are not placed
pub record IsLedOn (refers : ℕ → List ℕ) (Leads : ℕ → ℕ → ℕ → Type 0) (placed : List ℕ) (i j r : ℕ) : Type 0 where
  pub own_first : (IsIn j placed → ⊥) → Leads i j j → r ≡ j
  pub then_list : (Leads i j j → IsIn j placed) → IsFirstLed (λ x. Leads i j x) placed r (refers j)

-- where these roots are placed, in their order, and nothing is left to visit, the walk goes on from root r
pub record GoesOnFrom (refers : ℕ → List ℕ) (Leads Gives : ℕ → ℕ → ℕ → Type 0) (placed : List ℕ) (r : ℕ) : Type 0 where
  pub from : ℕ
  pub into : ℕ
  pub lowest : IsLowestOpen Leads placed from
  pub gives : GivesLeast Leads Gives placed from into
  pub led : IsLedOn refers Leads placed from into r

-- the walk is stuck: the first placed root from which a way back is open is given no field by the trees into which it
-- leads. So it is for no face of a table of boxes, of which each that leads back gives its output something
pub record IsStuck (Leads Gives : ℕ → ℕ → ℕ → Type 0) (placed : List ℕ) : Type 0 where
  pub from : ℕ
  pub lowest : IsLowestOpen Leads placed from
  pub no_field : (j f : ℕ) → IsOpenAt Leads placed from j → Gives from j f → ⊥

-- where the roots of `placed` are placed, in their order, and `todo` is to be visited, the walk ends with `order`
pub data PlacingOn (refers : ℕ → List ℕ) (Leads Gives : ℕ → ℕ → ℕ → Type 0) : List ℕ → List ℕ → List ℕ → Type 0 where
  all_placed : {order : List ℕ} → NoneOpen Leads order → PlacingOn refers Leads Gives [] order order
  stuck : {order : List ℕ} → IsStuck Leads Gives order → PlacingOn refers Leads Gives [] order order
  is_placed : {r : ℕ} {todo placed order : List ℕ} → IsIn r placed → PlacingOn refers Leads Gives todo placed order
      → PlacingOn refers Leads Gives (r ∷ todo) placed order
  place_now : {r : ℕ} {todo placed order : List ℕ} → (IsIn r placed → ⊥)
      → PlacingOn refers Leads Gives (refers r ++ todo) (placed ++ r ∷ []) order
      → PlacingOn refers Leads Gives (r ∷ todo) placed order
  goes_on : {r : ℕ} {placed order : List ℕ} → (IsIn r placed → ⊥) → GoesOnFrom refers Leads Gives placed r
      → PlacingOn refers Leads Gives (r ∷ []) placed order → PlacingOn refers Leads Gives [] placed order

-- the roots in the order of the walk from the variables, whichever trees are taken
abbrev pub IsWalkOrder : Face → Forest → List ℕ → Type 0
IsWalkOrder face F order = (ts : List Tree) → Choice F.autos ts
    → PlacingOn (refs_at ts) (LeadsBack face.boxes ts) (provides face.boxes ts) (var_roots F.vars) [] order

-- G is F with its roots in the order of the walk, which has each of them once
abbrev pub IsPlaced : Face → Forest → Forest → Type 0
IsPlaced face F G = (order : List ℕ) × IsOrderOf F order × IsWalkOrder face F order × (G ≡ reordered order F)

-- box edges that lead back give the cells at their ends something: the boxes do, as those of each table, or there is no
-- box edge. So the walk is stuck nowhere
abbrev pub DoEdgesGive : Face → Forest → Type 0
DoEdgesGive face F = Every IsGiving face.boxes ⊎ Every HasNoBoxes F.autos
