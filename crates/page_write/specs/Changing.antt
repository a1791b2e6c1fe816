-- The bytes of a page after the headers of versions were rewritten.
use Rattle.std.specs.Prelude.{cond, List, ℕ, zero, suc, ◌+◌, ◌/◌, ◌%◌, leb}
use Rattle.page.specs.Bytes.{put16, put32}
use Rattle.page.specs.LinePointers.{pointer_at}
use Rattle.page.specs.Slots.{Version, decoded}
use Rattle.page.specs.Versions.{header_at, row_of}
use Rattle.page.specs.declared.line_pointers.Pointer.{Pointer}
use Rattle.page.specs.declared.line_pointers.Pointer.TheVariants.{Unused, Normal, Redirect, Dead}
use Rattle.page.specs.declared.versions.Address.{Address}
use Rattle.page.specs.declared.versions.VersionHeader.{VersionHeader}
use Rattle.page_write.specs.Fields.{encoded, leads_to, is_hot, removed_by}
use Rattle.page_write.specs.declared.fields.Removal.{Removal}

-- the fields of a header that may change: remover, ctid and the two words of bits
abbrev pub rewrite : List ℕ → ℕ → VersionHeader → List ℕ
rewrite p o v =
    put16 (put16 (put16 (put16 (put16 (put32 p (o + 4) v.remover) (o + 12) (v.ctid.block / 65536)) (o + 14) (v.ctid.block % 65536))
    (o + 16) v.ctid.pointer) (o + 18) v.infomask2) (o + 20) v.infomask

-- the version of a pointer becomes what f makes of it
abbrev pub change_at : (Version → Version) → List ℕ → Pointer → List ℕ
change_at f p Unused = p
change_at f p (Normal o n) = cond (leb (o + 24) 8192) (rewrite p o (encoded (f (decoded (header_at p o) (row_of p o n))))) p
change_at f p (Redirect t) = p
change_at f p Dead = p

abbrev pub change_version : (Version → Version) → List ℕ → ℕ → List ℕ
change_version f p n = change_at f p (pointer_at p n)

-- the same of each of the pointers 1 to n
abbrev pub change_to : (Version → Version) → List ℕ → ℕ → List ℕ
change_to f p zero = p
change_to f p (suc n) = change_version f (change_to f p n) (n + 1)

-- the version at its own address is removed by the transaction t
abbrev pub mark_removed : List ℕ → Address → ℕ → Removal → List ℕ
mark_removed p own t r = change_version (removed_by t (leads_to own r) (is_hot r)) p own.pointer
