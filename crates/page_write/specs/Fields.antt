-- The fields of a version: how they are written as a header, what those of a new version are, and what removing does.
use Rattle.std.specs.Prelude.{Bool, true, false, cond, List, [], ℕ, ◌+◌}
use Rattle.page.specs.Slots.{Version}
use Rattle.page.specs.Versions.{weight}
use Rattle.page.specs.declared.versions.Address.{Address}
use Rattle.page.specs.declared.versions.VersionHeader.{VersionHeader}
use Rattle.page.specs.declared.versions.Mark.{Mark}
use Rattle.page.specs.declared.versions.Mark.TheVariants.{CreatorCommitted, CreatorInvalid, RemoverCommitted, RemoverInvalid, Updated, HotUpdated, HeapOnly}
use Rattle.page_write.specs.declared.fields.VersionFields.{VersionFields}
use Rattle.page_write.specs.declared.fields.Origin.{Origin}
use Rattle.page_write.specs.declared.fields.Origin.TheVariants as origin
use Rattle.page_write.specs.declared.fields.Removal.{Removal}
use Rattle.page_write.specs.declared.fields.Removal.TheVariants as removal

-- the version of these fields; the row is not among them
abbrev pub version_of : VersionFields → Version
version_of f = record {
  creator = f.creator;
  remover = f.remover;
  creator_committed = f.creator_committed;
  creator_invalid = f.creator_invalid;
  remover_committed = f.remover_committed;
  remover_invalid = f.remover_invalid;
  updated = f.updated;
  hot_updated = f.hot_updated;
  heap_only = f.heap_only;
  ctid = f.ctid;
  row = [];
}

-- what a mark adds to its word
abbrev pub mark_if : Bool → Mark → ℕ
mark_if b m = cond b (weight m) 0

-- the header of a version: one attribute, command 0
abbrev pub encoded : Version → VersionHeader
encoded v = record {
  creator = v.creator;
  remover = v.remover;
  command = 0;
  ctid = v.ctid;
  infomask2 = 1 + mark_if v.hot_updated HotUpdated + mark_if v.heap_only HeapOnly;
  infomask =
      mark_if v.creator_committed CreatorCommitted + mark_if v.creator_invalid CreatorInvalid
      + mark_if v.remover_committed RemoverCommitted + mark_if v.remover_invalid RemoverInvalid + mark_if v.updated Updated;
  hoff = 24;
  zero = 0;
}

abbrev pub address_of : ℕ → ℕ → Address
address_of b n = record { block = b; pointer = n }

-- A new version.

abbrev pub is_update : Origin → Bool
is_update origin.Insert = false
is_update origin.Update = true
is_update origin.HeapOnlyUpdate = true

abbrev pub is_heap_only_update : Origin → Bool
is_heap_only_update origin.Insert = false
is_heap_only_update origin.Update = false
is_heap_only_update origin.HeapOnlyUpdate = true

-- made by the transaction t, at its own address
abbrev pub new_version : ℕ → Address → Origin → List ℕ → Version
new_version t own o row = record {
  creator = t;
  remover = 0;
  creator_committed = false;
  creator_invalid = false;
  remover_committed = false;
  remover_invalid = true;
  updated = is_update o;
  hot_updated = false;
  heap_only = is_heap_only_update o;
  ctid = own;
  row = row;
}

-- An old version.

-- where its ctid leads: to the new version, or to itself where it is deleted
abbrev pub leads_to : Address → Removal → Address
leads_to own (removal.HeapOnlyUpdate to) = to
leads_to own (removal.Update to) = to
leads_to own removal.Delete = own

abbrev pub is_hot : Removal → Bool
is_hot (removal.HeapOnlyUpdate to) = true
is_hot (removal.Update to) = false
is_hot removal.Delete = false

-- removed by the transaction t: it loses both remover bits
abbrev pub removed_by : ℕ → Address → Bool → Version → Version
removed_by t to hot v = record {
  creator = v.creator;
  remover = t;
  creator_committed = v.creator_committed;
  creator_invalid = v.creator_invalid;
  remover_committed = false;
  remover_invalid = false;
  updated = v.updated;
  hot_updated = hot;
  heap_only = v.heap_only;
  ctid = to;
  row = v.row;
}
