-- The rules of a lawful page as facts.
use Rattle.std.specs.Prelude.{◌≡◌, ℕ, ◌-◌, ◌%◌, ◌<◌, ◌≤◌, true, List}
use Rattle.page.specs.Headers.{header_of, pointer_count, count_of}
use Rattle.page.specs.LinePointers.{line_pointer_at, pointer_at}
use Rattle.page.specs.Slots.{slot_no}
use Rattle.page.specs.declared.kinds.Kind.{Kind}
use Rattle.page.specs.declared.headers.PageHeader.{PageHeader}
use Rattle.page_check.specs.Rules.{apart, name_of, leads_well, other_name}
use Rattle.page_check.specs.Lawful.{is_lawful, own_holds}

pub record HeaderKeeps (h : PageHeader) : Type 0 where
  pub special_at_end : h.special ≡ 8192
  pub layout_version : h.version ≡ 0x2004
  pub no_flags : h.flags ≡ 0
  pub lower_past_header : 24 ≤ h.lower
  pub lower_by_upper : h.lower ≤ h.upper
  pub upper_in_page : h.upper ≤ 8192
  pub whole_pointers : (h.lower - 24) % 4 ≡ 0
  pub upper_aligned : h.upper % 8 ≡ 0
  pub pointer_limit : pointer_count h ≤ 291

-- the page p of block b keeps the rules
pub record Keeps (kinds : List Kind) (b : ℕ) (p : List ℕ) : Type 0 where
  pub header : HeaderKeeps (header_of p)
  pub own : (n : ℕ) → 1 ≤ n → n ≤ count_of p → own_holds kinds p (line_pointer_at p n) ≡ true
  pub no_overlap : (n m : ℕ) → 1 ≤ m → m < n → n ≤ count_of p → apart (pointer_at p n) (pointer_at p m) ≡ true
  pub redirect_target : (n : ℕ) → 1 ≤ n → n ≤ count_of p → leads_well (slot_no p) (slot_no p n) ≡ true
  pub named_once : (n m : ℕ) → 1 ≤ m → m < n → n ≤ count_of p
      → other_name (name_of b (slot_no p) (slot_no p n)) (name_of b (slot_no p) (slot_no p m)) ≡ true

abbrev pub LawfulMeans : Type 0
LawfulMeans = (kinds : List Kind) (b : ℕ) (p : List ℕ)
    → (is_lawful kinds b p ≡ true → Keeps kinds b p) × (Keeps kinds b p → is_lawful kinds b p ≡ true)
