-- The page header.
use Rattle.std.specs.Prelude.{ℕ, ◌-◌, ◌/◌, min, List}
use Rattle.page.specs.Bytes.{get16, get32, get64}
use Rattle.page.specs.declared.headers.PageHeader.{PageHeader}

abbrev pub header_of : List ℕ → PageHeader
header_of p = record {
  lsn = get64 p 0;
  checksum = get16 p 8;
  flags = get16 p 10;
  lower = get16 p 12;
  upper = get16 p 14;
  special = get16 p 16;
  version = get16 p 18;
  prune_xid = get32 p 20;
}

-- the line pointers between the header and lower, as far as the page goes
abbrev pub pointer_count : PageHeader → ℕ
pointer_count h = (min h.lower 8192 - 24) / 4

abbrev pub count_of : List ℕ → ℕ
count_of p = pointer_count (header_of p)
