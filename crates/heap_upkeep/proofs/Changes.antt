-- One version changed, and one more.
use Rattle.std.proofs.Common.{◌≡◌, ℕ, ◌+◌, ◌-◌, ◌≤◌, Bool, true, false, cond, leb, List, Some, None, suc, refl, ap, ◌∙◌, arith}
use Rattle.std.specs.Int.{from_bool}
use Rattle.std.specs.Option.{option_map}
use Rattle.page.specs.LinePointers.{pointer_at}
use Rattle.page.specs.Slots.{Version, decoded}
use Rattle.page.specs.Versions.{header_at, row_of}
use Rattle.page.specs.declared.line_pointers.Pointer.{Pointer}
use Rattle.page.specs.declared.line_pointers.Pointer.TheVariants.{Unused, Normal, Redirect, Dead}
use Rattle.page.specs.declared.versions.VersionHeader.{VersionHeader}
use Rattle.page_write.specs.Changing.{rewrite, change_at, change_version, change_to}
use Rattle.page_write.specs.Fields.{encoded}
use Rattle.xid.specs.Meaning.{Meaning}
use Rattle.heap_upkeep.specs.Along.{one, per_version, count_along}
use Rattle.page.specs.Slots.{place_in}

-- a yes as a number
pub one_from : (b : Bool) → from_bool b ≡ one b
one_from true = refl
one_from false = refl

-- where a version z stands: its offset is that of the pointer, and its header is there
there : (b : Bool) (o : ℕ) (v : VersionHeader) (z : ℕ × VersionHeader) → Some z ≡ option_map (λ w. (o, w)) (cond b (Some v) None) → (b ≡ true) × (z ≡ (o, v))
there true o v z e = (refl, cc)
there false o v z e = cc

module _ (p : List ℕ) (z : ℕ × VersionHeader) where
  -- it is changed by f, where the header that is written is that of its change
  changed_at : (x : Pointer) → Some z ≡ place_in p x → (f : Version → Version) (h : VersionHeader) → ((row : List ℕ) → h ≡ encoded (f (decoded z.1 row))) → rewrite p z.0 h ≡ change_at f p x
  changed_at Unused e f h same = cc
  changed_at (Redirect t) e f h same = cc
  changed_at Dead e f h same = cc
  changed_at (Normal o n) e f h same =
      let w = there (leb (o + 24) 8192) o (header_at p o) z e in
      rw (w.0, same (row_of p o n), w.1) refl

  -- and counted by b
  counted_at : (x : Pointer) → Some z ≡ place_in p x → (b : Version → ℕ) (r : ℕ) → ((row : List ℕ) → r ≡ b (decoded z.1 row)) → r ≡ per_version b p x
  counted_at Unused e b r same = cc
  counted_at (Redirect t) e b r same = cc
  counted_at Dead e b r same = cc
  counted_at (Normal o n) e b r same =
      let w = there (leb (o + 24) 8192) o (header_at p o) z e in
      rw (w.0, same (row_of p o n), w.1) refl

module _ (p : List ℕ) (number o : ℕ) (v : VersionHeader) (stands : Some (o, v) ≡ place_in p (pointer_at p number)) where
  pub changed_one : (f : Version → Version) (h : VersionHeader) (q : List ℕ) → ((row : List ℕ) → h ≡ encoded (f (decoded v row))) → q ≡ rewrite p o h → q ≡ change_version f p number
  changed_one f h q same wrote = wrote ∙ changed_at p (o, v) (pointer_at p number) stands f h same

  pub counted_one : (b : Version → ℕ) (r : ℕ) → ((row : List ℕ) → r ≡ b (decoded v row)) → r ≡ per_version b p (pointer_at p number)
  counted_one = counted_at p (o, v) (pointer_at p number) stands

-- one pointer more, with a source that means the same
module _ (F : Meaning → Version → Version) (m n : Meaning) (p q : List ℕ) (i : ℕ) (first : 1 ≤ i) (kept : n ≡ m) (page : q ≡ change_to (F m) p (i - 1)) where
  pub changed_more : (q' : List ℕ) → q' ≡ change_version (F n) q i → q' ≡ change_to (F m) p (i + 1 - 1)
  changed_more q' e =
      let a : i + 1 - 1 ≡ suc (i - 1) = omega arith in
      let b : i - 1 + 1 ≡ i = omega arith in
      rw (a, b) (e ∙ ap (λ (x : Meaning). change_version (F x) q i) kept ∙ ap (λ (x : List ℕ). change_version (F m) x i) page)

  pub counted_more : (B : Meaning → Version → ℕ) (s r : ℕ) → s ≡ count_along (B m) (F m) p (i - 1) → r ≡ per_version (B n) q (pointer_at q i) → s + r ≡ count_along (B m) (F m) p (i + 1 - 1)
  counted_more B s r h e =
      let a : i + 1 - 1 ≡ suc (i - 1) = omega arith in
      let b : i - 1 + 1 ≡ i = omega arith in
      rw (a, b) (ap (λ (x : ℕ). x + r) h
      ∙ ap (λ (x : ℕ). count_along (B m) (F m) p (i - 1) + x)
      (e ∙ ap (λ (x : Meaning). per_version (B x) q (pointer_at q i)) kept ∙ ap (λ (x : List ℕ). per_version (B m) x (pointer_at x i)) page))
