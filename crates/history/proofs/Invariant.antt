-- What holds between an archive and the ledger after every run.
--
-- Transaction i of the ledger stands at the place base + i of the endless line of numbers, the oldest number of the source at the
-- place low. So numbers come round, and places never do.
use Rattle.std.proofs.Common.{◌≡◌, ℕ, ◌+◌, ◌<◌, ◌≤◌, Bool, true, false, not, ◌&&◌, ◌||◌, leb, ◌⊎◌, List, length, get_or, Some, None}
use Rattle.page.specs.Slots.{Version, Slot}
use Rattle.page.specs.Slots.Slot.{redirect, holds}
use Rattle.page.specs.declared.kinds.Kind.{Kind}
use Rattle.page.specs.declared.versions.Address.{Address}
use Rattle.page_check.specs.Lawful.{is_lawful}
use Rattle.xid.specs.Line.{number_on, full_number}
use Rattle.xid.specs.Meaning.{Lawful}
use Rattle.xid.specs.Statuses.{is_open}
use Rattle.xid.specs.declared.statuses.Status.{Status}
use Rattle.snapshot.specs.Lists.{is_listed}
use Rattle.snapshot.specs.Snapshots.{SnapshotData, running}
use Rattle.heap_read.specs.Links.{is_root}
use Rattle.heap_upkeep.specs.Hints.{is_committed}
use Rattle.history.specs.Archive.{Archive, Transactions, page_at, slot_in}
use Rattle.history.specs.Checks.{place_taken}
use Rattle.history.specs.Granted.{or_zero}
use Rattle.history.specs.Ledger.{TransactionLog, VersionLog, Ledger}

-- Transactions.

-- x is the number of a transaction of the window that is open
pub record Live (status : ℕ → Status) (begun base low x : ℕ) : Type 0 where
  pub turn : ℕ
  pub has_begun : turn < begun
  pub current : low ≤ base + turn
  pub number : x ≡ number_on (base + turn)
  pub is_open_lem : is_open (status x) ≡ true

-- the snapshot sn of place k tells what the place keeps: of the transactions of the window those committed and not running, of
-- earlier ones all that committed
pub record KeptBy (status : ℕ → Status) (t : TransactionLog) (base low k : ℕ) (sn : SnapshotData) : Type 0 where
  pub lo : ℕ
  pub hi : ℕ
  pub xmin_is : sn.xmin ≡ number_on lo
  pub xmax_is : sn.xmax ≡ number_on hi
  pub low_lo : low ≤ lo
  pub lo_hi : lo ≤ hi
  pub hi_top : hi ≤ base + t.begun
  pub kept_is : (i : ℕ) → i < t.begun → low ≤ base + i → t.keeps k i ≡ (t.committed i && not (running sn (number_on (base + i))))
  pub runs : (i : ℕ) → i < t.begun → low ≤ base + i → is_open (status (number_on (base + i))) ≡ true → running sn (number_on (base + i)) ≡ true
  pub old : (i : ℕ) → base + i < low → t.committed i ≡ true → t.keeps k i ≡ true

-- the source, the active numbers and the places agree with the ledger's transactions
pub record Agrees (d : Transactions) (t : TransactionLog) (base low : ℕ) : Type 0 where
  pub lawful : Lawful d.source
  pub oldest_is : d.source.oldest ≡ number_on low
  pub next_is : d.source.next ≡ number_on (base + t.begun)
  pub base_in : low ≤ base + t.begun
  pub near : full_number (base + t.begun) < full_number low + 2147483648
  pub meant_is : (i : ℕ) → i < t.begun → low ≤ base + i → t.meant (number_on (base + i)) ≡ Some i
  pub meant_from : (x i : ℕ) → t.meant x ≡ Some i → (i < t.begun) × (x ≡ number_on (base + i))
  pub status_is : (i : ℕ) → i < t.begun → low ≤ base + i → is_committed (d.source.status (number_on (base + i))) ≡ t.committed i
  pub active_is : (x : ℕ) → is_listed x d.active ≡ true → Live d.source.status t.begun base low x
  pub open_is : (i : ℕ) → i < t.begun → low ≤ base + i → is_open (d.source.status (number_on (base + i))) ≡ true → is_listed (number_on (base + i)) d.active ≡ true
  pub before : (p : ℕ) → low ≤ p → p < base → is_open (d.source.status (number_on p)) ≡ false
  pub committed_begun : (i : ℕ) → t.committed i ≡ true → i < t.begun
  pub kept_committed : (k i : ℕ) → t.keeps k i ≡ true → t.committed i ≡ true
  pub places_16 : length d.places ≡ 16
  pub place_is : (k : ℕ) (sn : SnapshotData) → get_or d.places k None ≡ Some sn → KeptBy d.source.status t base low k sn

-- committed, or of the window and open: not aborted
abbrev pub alive : Transactions → TransactionLog → ℕ → ℕ → ℕ → Bool
alive d t base low i = t.committed i || (leb low (base + i) && is_open (d.source.status (number_on (base + i))))

-- committed, and kept by each place that is in use: so by each one later too
pub record Settled (t : TransactionLog) (used : ℕ → Bool) (i : ℕ) : Type 0 where
  pub is_committed_lem : t.committed i ≡ true
  pub is_kept : (k : ℕ) → used k ≡ true → t.keeps k i ≡ true

-- some transaction that is settled is recorded with version v
pub record Passed (t : TransactionLog) (b : VersionLog) (used : ℕ → Bool) (v : ℕ) : Type 0 where
  pub by : ℕ
  pub is_recorded : b.recorded v by ≡ true
  pub settled : Settled t used by

-- who is recorded with a version comes after its maker: a place that keeps the one keeps the other
pub record Order (t : TransactionLog) (b : VersionLog) : Type 0 where
  pub rec_added : (v i : ℕ) → b.recorded v i ≡ true → v < b.added
  pub rec_after : (v i : ℕ) → b.recorded v i ≡ true → (t.committed (b.entry v).maker ≡ true) ⊎ (i ≡ (b.entry v).maker)
  pub kept_after : (k v i : ℕ) → b.recorded v i ≡ true → t.keeps k i ≡ true → t.keeps k (b.entry v).maker ≡ true

-- Versions on pages. S is the slot at each address.

-- the version last added at an address, its maker and its row's first address
abbrev pub id_at : VersionLog → Address → ℕ
id_at b a = or_zero (b.last_at a)

abbrev pub maker_at : VersionLog → Address → ℕ
maker_at b a = (b.entry (id_at b a)).maker

abbrev pub root_at : VersionLog → Address → Address
root_at b a = (b.entry (id_at b a)).root

-- of the transactions recorded with a version, all are aborted but perhaps its remover
pub data Removed (al cm rec : ℕ → Bool) (begun base low : ℕ) (v : Version) : Type 0 where
  nobody : v.remover ≡ 0 → v.remover_invalid ≡ true → v.remover_committed ≡ false → ((i : ℕ) → rec i ≡ true → al i ≡ false)
      → Removed al cm rec begun base low v
  somebody : (i : ℕ) → v.remover ≡ number_on (base + i) → rec i ≡ true → i < begun → low ≤ base + i → (v.remover_committed ≡ true → cm i ≡ true)
      → (v.remover_invalid ≡ true → al i ≡ false) → ((j : ℕ) → rec j ≡ true → (j ≡ i → ⊥) → al j ≡ false) → Removed al cm rec begun base low v

-- a version that stands on a page is the one last added at its address; its numbers are those of its maker and its remover, or it
-- is frozen; its bits tell the truth. al, cm and st say of a transaction that it is not aborted, committed, settled.
pub record Stands (al cm : ℕ → Bool) (st : ℕ → Type 0) (begun base low : ℕ) (b : VersionLog) (a : Address) (v : Version) : Type 0 where
  pub last : b.last_at a ≡ Some (id_at b a)
  pub is_added : id_at b a < b.added
  pub address_is : (b.entry (id_at b a)).address ≡ a
  pub row_is : v.row ≡ (b.entry (id_at b a)).bytes
  pub maker_begun : maker_at b a < begun
  pub creator_is : (v.creator_committed && v.creator_invalid) ≡ false → (v.creator ≡ number_on (base + maker_at b a)) × (low ≤ base + maker_at b a)
  pub marked_committed : v.creator_committed ≡ true → cm (maker_at b a) ≡ true
  pub marked_aborted : v.creator_committed ≡ false → v.creator_invalid ≡ true → al (maker_at b a) ≡ false
  pub frozen_settled : (v.creator_committed && v.creator_invalid) ≡ true → st (maker_at b a)
  pub removed : Removed al cm (b.recorded (id_at b a)) begun base low v
  pub ctid_block : v.ctid.block < 4294967296
  pub ctid_pointer : v.ctid.pointer < 65536

abbrev pub StandsIn : Transactions → TransactionLog → VersionLog → ℕ → ℕ → Address → Version → Type 0
StandsIn d t b base low a v = Stands (alive d t base low) t.committed (Settled t (place_taken d)) t.begun base low b a v

-- Rows: each version that is not aborted and not the first of its row is named by the row's redirect or by the version before it.

pub record Before (b : VersionLog) (S : Address → Slot) (a : Address) : Type 0 where
  pub from : Address
  pub what : Version
  pub is : S from ≡ holds what
  pub is_hot_lem : what.hot_updated ≡ true
  pub to_is : what.ctid ≡ a
  pub made_by : b.recorded (id_at b from) (maker_at b a) ≡ true

abbrev pub Prior : VersionLog → (Address → Slot) → Address → Type 0
Prior b S a = (S (root_at b a) ≡ redirect a.pointer) ⊎ Before b S a

-- the HOT-updated version u at c, with i recorded, names the version that i made: on its page, in its row, and added later
pub record Follow (b : VersionLog) (S : Address → Slot) (c : Address) (u : Version) (i : ℕ) : Type 0 where
  pub what : Version
  pub is : S u.ctid ≡ holds what
  pub only : what.heap_only ≡ true
  pub by : what.creator ≡ u.remover
  pub near : u.ctid.block ≡ c.block
  pub maker_is : maker_at b u.ctid ≡ i
  pub same_row : root_at b u.ctid ≡ root_at b c
  pub later : id_at b c < id_at b u.ctid

abbrev pub pointer_in : Address → ℕ → Address
pointer_in r n = record { block = r.block; pointer = n }

-- the redirect at r leads to a heap-only version of its row whose maker committed
pub record Target (cm : ℕ → Bool) (b : VersionLog) (S : Address → Slot) (r : Address) (n : ℕ) : Type 0 where
  pub what : Version
  pub is : S (pointer_in r n) ≡ holds what
  pub only : what.heap_only ≡ true
  pub is_committed_lem : cm (maker_at b (pointer_in r n)) ≡ true
  pub row_is : root_at b (pointer_in r n) ≡ r

pub record Rows (al cm : ℕ → Bool) (begun : ℕ) (b : VersionLog) (S : Address → Slot) : Type 0 where
  pub rec_begun : (v i : ℕ) → b.recorded v i ≡ true → i < begun
  pub root_is : (v : ℕ) → v < b.added → is_root (S (b.entry v).root) ≡ true
  pub root_block : (v : ℕ) → v < b.added → (b.entry v).root.block ≡ (b.entry v).address.block
  pub first : (a : Address) (v : Version) → S a ≡ holds v → v.heap_only ≡ false → root_at b a ≡ a
  pub prior : (a : Address) (v : Version) → S a ≡ holds v → v.heap_only ≡ true → al (maker_at b a) ≡ true → Prior b S a
  pub follow : (c : Address) (u : Version) → S c ≡ holds u → u.hot_updated ≡ true → (i : ℕ) → b.recorded (id_at b c) i ≡ true → al i ≡ true → Follow b S c u i
  pub redirected : (r : Address) (n : ℕ) → S r ≡ redirect n → Target cm b S r n

-- a version of the ledger is on its page, or its maker aborted, or a settled transaction is recorded with it
pub data Account (d : Transactions) (t : TransactionLog) (b : VersionLog) (base low : ℕ) (S : Address → Slot) (v : ℕ) : Type 0 where
  here : (u : Version) → S (b.entry v).address ≡ holds u → b.last_at (b.entry v).address ≡ Some v → Account d t b base low S v
  aborted : alive d t base low (b.entry v).maker ≡ false → Account d t b base low S v
  past : Passed t b (place_taken d) v → Account d t b base low S v

-- the slots agree with the ledger's versions
pub record SlotsAgree (d : Transactions) (t : TransactionLog) (b : VersionLog) (base low : ℕ) (S : Address → Slot) : Type 0 where
  pub stands : (a : Address) (v : Version) → S a ≡ holds v → StandsIn d t b base low a v
  pub rows : Rows (alive d t base low) t.committed t.begun b S
  pub account : (v : ℕ) → v < b.added → Account d t b base low S v
  pub makers : (v : ℕ) → v < b.added → (b.entry v).maker < t.begun

-- the heap has its size, and its pages are lawful
pub record Sound (kinds : List Kind) (pages : List (List ℕ)) : Type 0 where
  pub some_page : 1 ≤ length pages
  pub few_pages : length pages ≤ 64
  pub long : (b : ℕ) → b < length pages → length (page_at pages b) ≡ 8192
  pub lawful : (b : ℕ) → b < length pages → is_lawful kinds b (page_at pages b) ≡ true

-- The whole.
pub record Invariant (s : Archive) (l : Ledger) (base : ℕ) : Type 0 where
  pub low : ℕ
  pub agrees : Agrees s.xacts l.transactions base low
  pub order : Order l.transactions l.versions
  pub slots : SlotsAgree s.xacts l.transactions l.versions base low (slot_in s.pages)
  pub heap : Sound s.kinds s.pages
