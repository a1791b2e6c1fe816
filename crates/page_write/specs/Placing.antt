-- The bytes of a page after a version was put on it.
use Rattle.std.specs.Prelude.{cond, List, ℕ, ◌+◌, ◌-◌, ◌*◌, length, set, replicate}
use borrow.Rule.Slice.PartMut.{put_mid}
use Rattle.page.specs.Bytes.{put16, put32}
use Rattle.page.specs.Headers.{header_of}
use Rattle.page.specs.LinePointers.{word_of}
use Rattle.page.specs.Slots.{Version}
use Rattle.page.specs.declared.line_pointers.Pointer.TheVariants.{Normal}
use Rattle.page.specs.declared.versions.VersionHeader.{VersionHeader}
use Rattle.page_room.specs.Room.{up8, free_pointer, has_unused}
use Rattle.page_write.specs.Fields.{encoded, address_of, new_version}
use Rattle.page_write.specs.Changing.{rewrite}
use Rattle.page_write.specs.declared.fields.Origin.{Origin}

-- the header v at o
abbrev pub write_header : List ℕ → ℕ → VersionHeader → List ℕ
write_header p o v = set (set (rewrite (put32 (put32 p o v.creator) (o + 8) v.command) o v) (o + 22) v.hoff) (o + 23) v.zero

-- the row at o, and n zeros after it
abbrev pub write_row : List ℕ → ℕ → List ℕ → ℕ → List ℕ
write_row p o row n = put_mid (o + length row) n (put_mid o (length row) p row) (replicate n 0)

-- a version at o, with zeros up to the next multiple of 8
abbrev pub write_version : List ℕ → ℕ → VersionHeader → List ℕ → List ℕ
write_version p o v row = write_row (write_header p o v) (o + 24) row (up8 (24 + length row) - (24 + length row))

-- where a version of n bytes goes: just below upper
abbrev pub place_of : List ℕ → ℕ → ℕ
place_of p n = (header_of p).upper - up8 n

-- lower afterwards: a new pointer takes 4 bytes
abbrev pub lower_after : List ℕ → ℕ
lower_after p = cond (has_unused p) (header_of p).lower ((header_of p).lower + 4)

-- the version goes to o, which is then upper; lower is then l, and the pointer n leads to it
abbrev pub put_at : List ℕ → ℕ → ℕ → ℕ → VersionHeader → List ℕ → List ℕ
put_at p o l n v row =
    put32 (put16 (put16 (write_version p o v row) 14 o) 12 l) (20 + 4 * n) (word_of (Normal o (24 + length row)))

-- the page with the version v put on it
abbrev pub put_version : List ℕ → Version → List ℕ
put_version p v = put_at p (place_of p (24 + length v.row)) (lower_after p) (free_pointer p) (encoded v) v.row

-- the version that the transaction t puts on the page of block b
abbrev pub placed_version : ℕ → List ℕ → ℕ → Origin → List ℕ → Version
placed_version b p t o row = new_version t (address_of b (free_pointer p)) o row
