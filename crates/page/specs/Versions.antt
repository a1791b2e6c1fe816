-- Versions.
use Rattle.std.specs.Prelude.{ℕ, ◌+◌, ◌*◌, ◌/◌, ◌%◌, Bool, cond, ◌&&◌, List, Some, None, Option, ◌==◌, nat_le, nat_lt, slice_index}
use Rattle.std.specs.List.{between}
use Rattle.page.specs.Bytes.{get16, get32}
use Rattle.page.specs.declared.versions.VersionHeader.{VersionHeader}
use Rattle.page.specs.declared.versions.Mark.{Mark}
use Rattle.page.specs.declared.versions.Mark.TheVariants.{CreatorCommitted, CreatorInvalid, RemoverCommitted, RemoverInvalid, Updated, HotUpdated, HeapOnly}

-- the codes of the marks
abbrev pub weight : Mark → ℕ
weight CreatorCommitted = 0x0100
weight CreatorInvalid = 0x0200
weight RemoverCommitted = 0x0400
weight RemoverInvalid = 0x0800
weight Updated = 0x2000
weight HotUpdated = 0x4000
weight HeapOnly = 0x8000

-- the word that has a mark
abbrev pub word_of : VersionHeader → Mark → ℕ
word_of v CreatorCommitted = v.infomask
word_of v CreatorInvalid = v.infomask
word_of v RemoverCommitted = v.infomask
word_of v RemoverInvalid = v.infomask
word_of v Updated = v.infomask
word_of v HotUpdated = v.infomask2
word_of v HeapOnly = v.infomask2

-- the bit of a weight
abbrev pub bit : ℕ → ℕ → Bool
bit word w = word / w % 2 == 1

abbrev pub has_mark : VersionHeader → Mark → Bool
has_mark v m = bit (word_of v m) (weight m)

-- the header of the version at offset o
abbrev pub header_at : List ℕ → ℕ → VersionHeader
header_at p o = record {
  creator = get32 p o;
  remover = get32 p (o + 4);
  command = get32 p (o + 8);
  ctid = record { block = get16 p (o + 12) * 65536 + get16 p (o + 14); pointer = get16 p (o + 16) };
  infomask2 = get16 p (o + 18);
  infomask = get16 p (o + 20);
  hoff = slice_index p (o + 22);
  zero = slice_index p (o + 23);
}

-- the same, where it lies inside the page
abbrev pub version_at : List ℕ → ℕ → Option VersionHeader
version_at p o = cond (nat_le (o + 24) 8192) (Some (header_at p o)) None

-- the row of the version at offset o whose pointer has the length n: what follows the header
abbrev pub row_of : List ℕ → ℕ → ℕ → List ℕ
row_of p o n = between (o + 24) (o + n) p

-- the same, where it has at least a kind and lies inside the page
abbrev pub row_at : List ℕ → ℕ → ℕ → Option (List ℕ)
row_at p o n = cond (nat_lt 24 n && nat_le (o + n) 8192) (Some (row_of p o n)) None
