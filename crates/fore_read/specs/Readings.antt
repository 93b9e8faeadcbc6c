-- What was read from a shelf between two moments.
use Rattle.std.specs.Prelude.{◌≡◌, ◌≤◌, ◌<◌, ◌++◌, ⊤, ℕ, List, [], ◌∷◌, length, Option, IfSome}
use Rattle.fore_outside.specs.Outside.{Rose}
use Rattle.fore_outside.specs.declared.named_files.NamedFile.{NamedFile}
use Rattle.fore_outside.specs.declared.shelf.Shelf.{Ghosts as ShelfMeaning}

-- what a shelf tells at a moment: the bytes that it holds at each path, the readings that were answered so far, in
-- their order, and how often reading each path has failed
pub record ShelfView : Type 0 where
  pub holds : List ℕ → Option (List ℕ)
  pub given : List NamedFile
  pub faults : List ℕ → ℕ

-- a shelf at two moments
pub record Reading : Type 0 where
  pub before : ShelfView
  pub after : ShelfView

-- these readings were answered between the two, in this order, and no others
abbrev pub AreReadings : Reading → List NamedFile → Type 0
AreReadings r [] = r.after.given ≡ r.before.given
AreReadings r (file ∷ files) = r.after.given ≡ r.before.given ++ file ∷ files

-- reading this path has failed between the two
abbrev pub HasFailed : Reading → List ℕ → Type 0
HasFailed r path = Rose (r.before.faults path) (r.after.faults path)

-- none, or one reading of this path
abbrev pub AreAtMost : List ℕ → List NamedFile → Type 0
AreAtMost path [] = ⊤
AreAtMost path (file ∷ []) = file.name ≡ path
AreAtMost path (file ∷ other ∷ others) = ⊥

-- at most one reading was answered, which is of this path; what the shelf holds stays, and no count of faults falls
pub record ReadsAtMost (r : Reading) (path : List ℕ) : Type 0 where
  pub done : List NamedFile
  pub given : AreReadings r done
  pub at_most : AreAtMost path done
  pub holds : (p : List ℕ) → r.after.holds p ≡ r.before.holds p
  pub never_falls : (p : List ℕ) → r.before.faults p ≤ r.after.faults p

-- Of a file of which the shelf tells this, if anything.

-- these bytes may have been read: within the limit, and those that the shelf holds, where it tells them
pub record IsRead (told : Option (List ℕ)) (limit : ℕ) (bytes : List ℕ) : Type 0 where
  pub within : length bytes ≤ limit
  pub held : IfSome told (λ held. bytes ≡ held)

-- it has more bytes than the limit
abbrev pub IsTooLong : Option (List ℕ) → ℕ → Type 0
IsTooLong told limit = IfSome told (λ held. limit < length held)

abbrev pub shelf_view : {S : Type 0} → ShelfMeaning S → S → ShelfView
shelf_view meaning s = record { holds = meaning.holds s; given = meaning.given s; faults = meaning.faults s }

abbrev pub reading_of : {S : Type 0} → ShelfMeaning S → S → S → Reading
reading_of meaning old new = record { before = shelf_view meaning old; after = shelf_view meaning new }
