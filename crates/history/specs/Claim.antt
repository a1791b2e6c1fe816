-- The snapshot claim: after every run, a registered snapshot reads exactly what the ledger lists for its place.
use Rattle.std.specs.Prelude.{◌≡◌, ℕ, ◌<◌, Bool, true, false, List, [], ◌∷◌, length, Some, None, Ok, Option, ◌≢◌}
use Rattle.page.specs.declared.versions.Address.{Address}
use Rattle.heap_read.specs.Reading.{FoundRow}
use Rattle.history.specs.Archive.{Archive, is_above}
use Rattle.history.specs.Calls.Reading.{next, fetch}
use Rattle.history.specs.Checks.{place_taken}
use Rattle.history.specs.Granted.{shown}
use Rattle.history.specs.Runs.{Unused, Event, Run}
use Rattle.history.specs.Ledger.{Ledger, ledger, Listed, nowhere}

-- f is the version v of the ledger: its address and its bytes
pub record Is (l : Ledger) (v : ℕ) (f : FoundRow) : Type 0 where
  pub same_address_lem : f.address ≡ (l.versions.entry v).address
  pub same_bytes : f.row ≡ (l.versions.entry v).bytes

abbrev pub is_past : Ledger → Address → ℕ → Bool
is_past l a v = is_above (l.versions.entry v).address a

-- the version that is listed for place k with the lowest address above a
pub record FirstPast (l : Ledger) (k : ℕ) (a : Address) (f : FoundRow) : Type 0 where
  pub version : ℕ
  pub listed : Listed l k version
  pub is : Is l version f
  pub past : is_past l a version ≡ true
  pub lowest : (w : ℕ) → Listed l k w → is_past l a w ≡ true → is_above (l.versions.entry version).address (l.versions.entry w).address ≡ false

-- or none if there is none
abbrev pub NextIs : Ledger → ℕ → Address → Option FoundRow → Type 0
NextIs l k a None = (v : ℕ) → Listed l k v → is_past l a v ≢ true
NextIs l k a (Some f) = FirstPast l k a f

-- the one listed version of the row whose first address is r
pub record OneOf (l : Ledger) (k : ℕ) (r : Address) (f : FoundRow) : Type 0 where
  pub version : ℕ
  pub listed : Listed l k version
  pub is : Is l version f
  pub of_row : (l.versions.entry version).root ≡ r
  pub only : (w : ℕ) → Listed l k w → (l.versions.entry w).root ≡ r → w ≡ version

abbrev pub FetchIs : Ledger → ℕ → Address → Option FoundRow → Type 0
FetchIs l k r None = (v : ℕ) → Listed l k v → (l.versions.entry v).root ≢ r
FetchIs l k r (Some f) = OneOf l k r f

-- Reading is next after next, from an address on.
pub data ReadsFrom (s : Archive) (k : ℕ) : Address → List FoundRow → Type 0 where
  at_end : (a : Address) → shown s (next k a) ≡ Ok None → ReadsFrom s k a []
  finds : (a : Address) (f : FoundRow) (fs : List FoundRow) → shown s (next k a) ≡ Ok (Some f) → ReadsFrom s k f.address fs → ReadsFrom s k a (f ∷ fs)

pub data Among (f : FoundRow) : List FoundRow → Type 0 where
  first : (fs : List FoundRow) → Among f (f ∷ fs)
  later : (g : FoundRow) (fs : List FoundRow) → Among f fs → Among f (g ∷ fs)

-- in address order, and so once each
pub data Ascending : List FoundRow → Type 0 where
  nil : Ascending []
  cons : (f : FoundRow) (fs : List FoundRow) → ((g : FoundRow) → Among g fs → is_above g.address f.address ≡ true) → Ascending fs → Ascending (f ∷ fs)

-- fs are the versions listed for place k, all of them and no others, in address order
pub record Lists (l : Ledger) (k : ℕ) (fs : List FoundRow) : Type 0 where
  pub ascending : Ascending fs
  pub only : (f : FoundRow) → Among f fs → (v : ℕ) × Listed l k v × Is l v f
  pub all : (v : ℕ) → Listed l k v → (f : FoundRow) × Among f fs × Is l v f

-- place k of the archive s reads what the ledger l lists
pub record Shows (s : Archive) (l : Ledger) (k : ℕ) : Type 0 where
  -- next in an existing block is not refused, and gives the first listed version above its address, or none
  pub next_right : (a : Address) → a.block < length s.pages → (r : Option FoundRow) × (shown s (next k a) ≡ Ok r) × NextIs l k a r
  -- reading from the start ends, and gives the listed versions in address order, once each
  pub reading_right : (fs : List FoundRow) × ReadsFrom s k nowhere fs × Lists l k fs
  -- a fetch by the first address of a row is not refused, and gives the row's listed version, or none
  pub fetch_right : (v : ℕ) → v < l.versions.added
      → (r : Option FoundRow) × (shown s (fetch k (l.versions.entry v).root) ≡ Ok r) × FetchIs l k (l.versions.entry v).root r

-- for every unused archive, every run from it, and every place that is registered then
abbrev pub SnapshotClaim : Type 0
SnapshotClaim = (s : Archive) → Unused s → (es : List Event) (t : Archive) → Run s es t → (k : ℕ) → place_taken t.xacts k ≡ true → Shows t (ledger es) k
