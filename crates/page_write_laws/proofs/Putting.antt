-- A version is put on a page: where there is room, what is read afterwards, and what stays.
use Rattle.std.proofs.Common.{◌≡◌, ℕ, ◌+◌, ◌-◌, ◌*◌, ◌/◌, ◌%◌, ◌<◌, ◌≤◌, min, max, true, ◌&&◌, ltb, leb, ◌≢◌, ◌⊎◌, List, length, sym, refl, ap, ◌∙◌, inl, inr, ⊎_elim, arith}
use Rattle.std.proofs.lemmas.Bool.{and_parts, cases_lt, cond-true, cond-false, leb-true, ltb-true, le-leb, lt-leb}
use Rattle.page.specs.Bytes.{get16, put16}
use Rattle.page.specs.Headers.{header_of, count_of}
use Rattle.page.specs.LinePointers.{line_pointer_of, line_pointer_at, pointer_of, pointer_at, word_of}
use Rattle.page.specs.Versions.{header_at, row_of}
use Rattle.page.specs.declared.line_pointers.Pointer.TheVariants.{Normal}
use Rattle.page.specs.declared.versions.VersionHeader.{VersionHeader}
use Rattle.page_laws.specs.Keeps.{HeaderKeeps}
use Rattle.page_laws.specs.Windows.{Same}
use Rattle.page_laws.proofs.Windows.{same_put16, same_put32, get16_same, get16-put16, get32-put32, header_at_same, between_same, line_pointer_at_same, length-put16, length-put32}
use Rattle.page_room.specs.Room.{up8, is_unused, free_pointer, has_unused, room_of, takes}
use Rattle.page_write.specs.Placing.{write_version, place_of, lower_after, put_at}
use Rattle.page_room.proofs.Least.{least_le}
use Rattle.page_write_laws.proofs.Rewriting.{Small}
use Rattle.page_write_laws.proofs.Written.{decode_normal, length_version, same_version, version_reads, row_reads}

-- On a page with the pointers up to lo and the versions from up, of which c pointers: a version of n bytes goes to o under
-- the pointer i, and the pointers then end at l.
pub record Spot (lo up c n o l i : ℕ) : Type 0 where
  pub first : 1 ≤ i
  pub next : i ≤ c + 1
  pub top : o + up8 n ≡ up
  pub high : up ≤ 8192
  pub short : n ≤ up8 n
  pub under : l ≤ o
  pub below : 24 + 4 * i ≤ l
  pub low : lo ≤ l
  pub ends : 24 + 4 * c ≤ lo
  pub aligned : o % 8 ≡ 0
  pub whole : (l - 24) % 4 ≡ 0
  pub few : l ≤ 1188
  pub count : (min l 8192 - 24) / 4 ≡ max c i

spot : (lo up c n l i : ℕ) → 24 ≤ lo → lo ≤ up → up ≤ 8192 → (lo - 24) % 4 ≡ 0 → up % 8 ≡ 0 → c ≡ (min lo 8192 - 24) / 4
    → 1 ≤ i → i ≤ c + 1 → max c i ≤ 291 → l ≡ max lo (24 + 4 * i) → l + up8 n ≤ up → Spot lo up c n (up - up8 n) l i
spot lo up c n l i a b d e f g x y z u v = record {
  first = x;
  next = y;
  top = omega arith;
  high = d;
  short = omega arith;
  under = omega arith;
  below = omega arith;
  low = omega arith;
  ends = omega arith;
  aligned = omega arith;
  whole = omega arith;
  few = omega arith;
  count = omega arith;
}

abbrev pub SpotOn : List ℕ → List ℕ → Type 0
SpotOn p row = Spot (header_of p).lower (header_of p).upper (count_of p) (24 + length row) (place_of p (24 + length row)) (lower_after p) (free_pointer p)

pub takes_spot : (p : List ℕ) (reserve : ℕ) (row : List ℕ) → HeaderKeeps (header_of p) → takes reserve p (24 + length row) ≡ true → SpotOn p row
takes_spot p reserve row h t =
    let h1 = h.lower_past_header in
    let h2 = h.lower_by_upper in
    let h3 = h.upper_in_page in
    let h4 = h.whole_pointers in
    let h5 = h.upper_aligned in
    let h6 = h.pointer_limit in
    let le = least_le (λ k. is_unused (pointer_at p (k + 1))) (count_of p) in
    let old = leb (up8 (24 + length row) + reserve) (room_of p) in
    let new = leb (up8 (24 + length row) + 4 + reserve) (room_of p) && ltb (count_of p) 291 in
    let make : max (count_of p) (free_pointer p) ≤ 291 → lower_after p ≡ max (header_of p).lower (24 + 4 * free_pointer p)
    → lower_after p + up8 (24 + length row) ≤ (header_of p).upper → SpotOn p row
    = spot (header_of p).lower (header_of p).upper (count_of p) (24 + length row) (lower_after p) (free_pointer p) h1 h2 h3 h4 h5 refl (omega arith) (omega arith) in
    ⊎_elim
    (λ (z : count_of p < free_pointer p).
    let e = lt-leb (free_pointer p) (count_of p) z in
    let both = and_parts (leb (up8 (24 + length row) + 4 + reserve) (room_of p)) (ltb (count_of p) 291) (sym (cond-false (has_unused p) old new e) ∙ t) in
    let room = leb-true (up8 (24 + length row) + 4 + reserve) (room_of p) both.0 in
    let few = ltb-true (count_of p) 291 both.1 in
    let l : lower_after p ≡ (header_of p).lower + 4 = cond-false (has_unused p) (header_of p).lower ((header_of p).lower + 4) e in
    make (omega arith) (omega arith) (omega arith))
    (λ (z : free_pointer p ≤ count_of p).
    let e = le-leb (free_pointer p) (count_of p) z in
    let room = leb-true (up8 (24 + length row) + reserve) (room_of p) (sym (cond-true (has_unused p) old new e) ∙ t) in
    let l : lower_after p ≡ (header_of p).lower = cond-true (has_unused p) (header_of p).lower ((header_of p).lower + 4) e in
    make (omega arith) (omega arith) (omega arith))
    (cases_lt (count_of p) (free_pointer p))

module _ (p : List ℕ) (o l i : ℕ) (v : VersionHeader) (row : List ℕ) (len : length p ≡ 8192)
    (at : Spot (header_of p).lower (header_of p).upper (count_of p) (24 + length row) o l i) where
  abbrev p1 : List ℕ
  p1 = write_version p o v row

  abbrev p2 : List ℕ
  p2 = put16 p1 14 o

  abbrev p3 : List ℕ
  p3 = put16 p2 12 l

  abbrev q : List ℕ
  q = put_at p o l i v row

  fit : o + up8 (24 + length row) ≤ length p
  fit = omega (arith, at.top, at.high, len)

  long1 : length p1 ≡ 8192
  long1 = length_version p o v row fit ∙ len

  long3 : length p3 ≡ 8192
  long3 = length-put16 p2 12 l ∙ length-put16 p1 14 o ∙ long1

  pub put_long : length q ≡ 8192
  put_long = length-put32 p3 (20 + 4 * i) (word_of (Normal o (24 + length row))) ∙ long3

  -- what is written lies in the header's lower and upper, in the pointer, and from o to the old upper
  same_pointer : (a e : ℕ) → (e ≤ 20 + 4 * i) ⊎ (24 + 4 * i ≤ a) → Same a e q p3
  same_pointer a e out = same_put32 p3 (20 + 4 * i) (word_of (Normal o (24 + length row))) a e (⊎_elim (λ z. inl z) (λ z. inr (omega arith)) out)

  pub same_put : (a e : ℕ) → (e ≤ 12) ⊎ (16 ≤ a) → (e ≤ 20 + 4 * i) ⊎ (24 + 4 * i ≤ a) → (e ≤ o) ⊎ ((header_of p).upper ≤ a) → Same a e p q
  same_put a e out1 out2 out3 k h m =
      sym
      (same_pointer a e out2 k h m
      ∙ same_put16 p2 12 l a e (⊎_elim (λ z. inl z) (λ z. inr (omega arith)) out1) k h m
      ∙ same_put16 p1 14 o a e (⊎_elim (λ z. inl (omega arith)) (λ z. inr z) out1) k h m
      ∙ same_version p o v row fit a e (⊎_elim (λ z. inl z) (λ z. inr (omega (arith, at.top))) out3) k h m)

  -- the version itself is read as it was written
  same_new : (a e : ℕ) → o ≤ a → Same a e q p1
  same_new a e le k h m =
      let b = at.below in let u = at.under in let f = at.first in
      same_pointer a e (inr (omega arith)) k h m ∙ same_put16 p2 12 l a e (inr (omega arith)) k h m ∙ same_put16 p1 14 o a e (inr (omega arith)) k h m

  pub put_header : Small v → v.creator < 4294967296 → v.command < 4294967296 → header_at q o ≡ v
  put_header r c m = header_at_same q p1 o (same_new o (o + 24) (omega arith)) ∙ version_reads p o v row fit r c m

  pub put_row : row_of q o (24 + length row) ≡ row
  put_row =
      between_same q p1 (o + 24) (o + (24 + length row)) (put_long ∙ sym long1) (omega (arith, put_long, at.top, at.high, at.short))
      (same_new (o + 24) (o + (24 + length row)) (omega arith))
      ∙ row_reads p o v row fit

  -- the header of the page
  pub put_lower : get16 q 12 ≡ l
  put_lower =
      get16_same q p3 12 (same_pointer 12 14 (inl (omega (arith, at.first))))
      ∙ get16-put16 p2 12 l (omega (arith, length-put16 p1 14 o, long1)) (omega (arith, at.few))

  pub put_upper : get16 q 14 ≡ o
  put_upper =
      get16_same q p3 14 (same_pointer 14 16 (inl (omega (arith, at.first))))
      ∙ get16_same p3 p2 14 (same_put16 p2 12 l 14 16 (inr (omega arith)))
      ∙ get16-put16 p1 14 o (omega (arith, long1)) (omega (arith, at.top, at.high))

  pub put_count : count_of q ≡ max (count_of p) i
  put_count = ap (λ (x : ℕ). (min x 8192 - 24) / 4) put_lower ∙ at.count

  field_stays : (j : ℕ) → (j + 2 ≤ 12) ⊎ (16 ≤ j) → j + 2 ≤ 24 → get16 q j ≡ get16 p j
  field_stays j out le =
      sym (get16_same p q j (same_put j (j + 2) out (inl (omega (arith, at.first))) (inl (omega (arith, at.below, at.under)))))

  pub put_head : HeaderKeeps (header_of p) → HeaderKeeps (header_of q)
  put_head h =
      let lower = put_lower in let upper = put_upper in
      record {
        special_at_end = field_stays 16 (inr (omega arith)) (omega arith) ∙ h.special_at_end;
        layout_version = field_stays 18 (inr (omega arith)) (omega arith) ∙ h.layout_version;
        no_flags = field_stays 10 (inl (omega arith)) (omega arith) ∙ h.no_flags;
        lower_past_header = omega (arith, at.below);
        lower_by_upper = omega (arith, at.under);
        upper_in_page = omega (arith, at.top, at.high);
        whole_pointers = ap (λ (x : ℕ). (x - 24) % 4) put_lower ∙ at.whole;
        upper_aligned = ap (λ (x : ℕ). x % 8) put_upper ∙ at.aligned;
        pointer_limit = omega (arith, put_count, at.count, at.few);
      }

  -- the pointers
  pub put_pointer : pointer_at q i ≡ Normal o (24 + length row)
  put_pointer =
      ap (λ (w : ℕ). pointer_of (line_pointer_of w))
      (get32-put32 p3 (20 + 4 * i) (word_of (Normal o (24 + length row))) (omega (arith, long3, at.few, at.below)) (omega arith))
      ∙ decode_normal o (24 + length row) (omega (arith, at.top, at.high)) (omega (arith, at.top, at.high, at.short))

  pub pointer_stays : (n : ℕ) → 1 ≤ n → n ≤ count_of p → n ≢ i → line_pointer_at p n ≡ line_pointer_at q n
  pointer_stays n one last ne =
      line_pointer_at_same p q n
      (same_put (20 + 4 * n) (24 + 4 * n) (inr (omega arith))
      (⊎_elim (λ (z : n < i). inl (omega arith)) (λ (z : i ≤ n). inr (omega arith)) (cases_lt n i))
      (inl (omega (arith, at.ends, at.low, at.under))))

  -- all versions that stand above
  pub above_stays : (a e : ℕ) → (header_of p).upper ≤ a → Same a e p q
  above_stays a e le = same_put a e (inr (omega (arith, at.below, at.under, at.top))) (inr (omega (arith, at.below, at.under, at.top))) (inr le)
