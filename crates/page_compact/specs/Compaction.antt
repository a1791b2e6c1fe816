-- The versions of a page laid anew: in the order of their pointers, from the end of the page down.
use Rattle.std.specs.Prelude.{◌≡◌, ℕ, zero, suc, ◌+◌, ◌-◌, ◌*◌, ◌<◌, ◌≤◌, true, List, replicate}
use borrow.Rule.Slice.PartMut.{put_mid}
use Rattle.std.specs.List.{between}
use Rattle.page.specs.Bytes.{put16, put32}
use Rattle.page.specs.Headers.{header_of, count_of}
use Rattle.page.specs.LinePointers.{pointer_at, word_of}
use Rattle.page.specs.declared.kinds.Kind.{Kind}
use Rattle.page.specs.declared.line_pointers.Pointer.{Pointer}
use Rattle.page.specs.declared.line_pointers.Pointer.TheVariants.{Unused, Normal, Redirect, Dead}
use Rattle.page_check.specs.Lawful.{is_lawful}
use Rattle.page_check.specs.Marking.{LiesIn}
use Rattle.page_room.specs.Room.{up8}

-- a page that is lawful by some table of kinds, as that of some block
pub record LawfulPage (p : List ℕ) : Type 0 where
  pub kinds : List Kind
  pub block : ℕ
  pub lawful : is_lawful kinds block p ≡ true

-- how many bytes the version of a pointer takes, with its padding
abbrev pub size_of : Pointer → ℕ
size_of Unused = 0
size_of (Normal o n) = up8 n
size_of (Redirect t) = 0
size_of Dead = 0

-- where the last of the versions of the pointers 1 to n comes to begin
abbrev pub top_to : List ℕ → ℕ → ℕ
top_to p zero = 8192
top_to p (suc n) = top_to p n - size_of (pointer_at p (suc n))

-- all from lower on is zero
abbrev pub cleared : List ℕ → List ℕ
cleared p = put_mid (header_of p).lower (8192 - (header_of p).lower) p (replicate (8192 - (header_of p).lower) 0)

-- in the page q the version of a pointer of the page p is laid at t, and the pointer n leads to it
abbrev pub laid : List ℕ → List ℕ → ℕ → ℕ → Pointer → List ℕ
laid p q t n Unused = q
laid p q t n (Normal o l) = put32 (put_mid t ((t + l) - t) q (between o (o + l) p)) (20 + 4 * n) (word_of (Normal t l))
laid p q t n (Redirect r) = q
laid p q t n Dead = q

-- the versions of the pointers 1 to n are laid
abbrev pub laid_to : List ℕ → ℕ → List ℕ
laid_to p zero = cleared p
laid_to p (suc n) = laid p (laid_to p n) (top_to p (suc n)) (suc n) (pointer_at p (suc n))

-- the versions of the pointers 1 to n lie in the page, and each has room below those before it
pub record Packs (p : List ℕ) (n : ℕ) : Type 0 where
  pub lies : (k : ℕ) → k < n → LiesIn (pointer_at p (k + 1))
  pub room : (k : ℕ) → k < n → size_of (pointer_at p (k + 1)) ≤ top_to p k

-- the page with all its versions laid anew
abbrev pub compacted : List ℕ → List ℕ
compacted p = put16 (laid_to p (count_of p)) 14 (top_to p (count_of p))
