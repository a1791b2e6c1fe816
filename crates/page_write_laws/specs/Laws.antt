-- What writing means for the slots of a page, and that a lawful page stays lawful: over any table of kinds and every block.
use Rattle.std.specs.Prelude.{◌≡◌, ℕ, ◌+◌, ◌-◌, ◌<◌, ◌≤◌, true, List, map, length, slice_index, slice_set}
use Rattle.page.specs.Kinds.{row_fits}
use Rattle.page.specs.Headers.{count_of}
use Rattle.page.specs.Slots.{Version, Slot, slot_at, view_of}
use Rattle.page.specs.Slots.Slot.{holds}
use Rattle.page.specs.declared.kinds.Kind.{Kind}
use Rattle.page.specs.declared.versions.Address.{Address}
use Rattle.page_check.specs.Lawful.{is_lawful}
use Rattle.page_room.specs.Room.{takes, free_pointer}
use Rattle.page_write.specs.Fields.{address_of, new_version, is_heap_only_update, removed_by, leads_to, is_hot}
use Rattle.page_write.specs.Changing.{change_version, change_to, mark_removed}
use Rattle.page_write.specs.Placing.{put_version, placed_version}
use Rattle.page_write_laws.specs.Slots.{free_slot, put_slot, on_version, NoneAwaits, NamesAlone, NoOtherNames, Replaces, Milder}
use Rattle.page_write.specs.declared.fields.Origin.{Origin}
use Rattle.page_write.specs.declared.fields.Removal.{Removal}

-- the page q of block b is lawful, and its slots are ss
pub record Becomes (kinds : List Kind) (b : ℕ) (q : List ℕ) (ss : List Slot) : Type 0 where
  pub view : view_of q ≡ ss
  pub lawful : is_lawful kinds b q ≡ true

-- A page that takes a row gets it in its lowest unused slot, and nothing else changes. A heap-only version needs that
-- nothing on the page awaits the pointer and its creator.
abbrev pub PutLaw : Type 0
PutLaw = (kinds : List Kind) (b : ℕ) (p : List ℕ) (reserve t : ℕ) (o : Origin) (row : List ℕ)
    → length p ≡ 8192 → is_lawful kinds b p ≡ true → takes reserve p (24 + length row) ≡ true → row_fits kinds row ≡ true
    → 3 ≤ t → t < 4294967296 → b < 4294967296
    → (is_heap_only_update o ≡ true → NoneAwaits b (free_slot (view_of p)) t (view_of p))
    → Becomes kinds b (put_version p (placed_version b p t o row))
    (put_slot (view_of p) (free_slot (view_of p)) (holds (new_version t (address_of b (free_slot (view_of p))) o row)))

-- the pointer that a new version takes is that of the lowest unused slot
abbrev pub FreeLaw : Type 0
FreeLaw = (p : List ℕ) → free_pointer p ≡ free_slot (view_of p)

-- What stands in the slot m is replaced, and nothing else changes: for versions that no other slot stands in the way of.
abbrev pub ChangeLaw : Type 0
ChangeLaw = (kinds : List Kind) (b : ℕ) (p : List ℕ) (f : Version → Version) (m : ℕ) (u : Version)
    → length p ≡ 8192 → is_lawful kinds b p ≡ true → slot_at (view_of p) m ≡ holds u
    → Replaces u (f u) → NamesAlone b (view_of p) m (holds (f u))
    → Becomes kinds b (change_version f p m) (slice_set (view_of p) (m - 1) (holds (f u)))

-- the same of all versions of a page, where none names more than before
abbrev pub ChangeAllLaw : Type 0
ChangeAllLaw = (kinds : List Kind) (b : ℕ) (p : List ℕ) (f : Version → Version)
    → length p ≡ 8192 → is_lawful kinds b p ≡ true
    → ((k : ℕ) (u : Version) → slot_at (view_of p) k ≡ holds u → Milder u (f u))
    → Becomes kinds b (change_to f p (count_of p)) (map (on_version f) (view_of p))

-- a version of a lawful page of bytes can be written over itself
abbrev pub SameLaw : Type 0
SameLaw = (kinds : List Kind) (b : ℕ) (p : List ℕ) (m : ℕ) (u : Version)
    → ((k : ℕ) → slice_index p k < 256) → is_lawful kinds b p ≡ true → slot_at (view_of p) m ≡ holds u → Replaces u u

-- The old version of an update or a delete is marked, and nothing else changes. A heap-only update needs that no other
-- slot names the new version.
abbrev pub MarkLaw : Type 0
MarkLaw = (kinds : List Kind) (b : ℕ) (p : List ℕ) (own : Address) (t : ℕ) (r : Removal) (u : Version)
    → length p ≡ 8192 → is_lawful kinds b p ≡ true → slot_at (view_of p) own.pointer ≡ holds u
    → 3 ≤ t → t < 4294967296 → (leads_to own r).block < 4294967296 → (leads_to own r).pointer < 65536
    → (is_hot r ≡ true → NoOtherNames b (view_of p) own.pointer (leads_to own r).pointer)
    → Becomes kinds b (mark_removed p own t r)
    (slice_set (view_of p) (own.pointer - 1) (holds (removed_by t (leads_to own r) (is_hot r) u)))
