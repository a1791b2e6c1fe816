-- An empty page, and pages that are filled from empty.
use Rattle.std.proofs.Common.{◌≡◌, ℕ, ◌+◌, ◌-◌, ◌*◌, ◌/◌, ◌<◌, ◌≤◌, true, false, ◌&&◌, ltb, leb, List, [], ◌∷◌, length, get_or, replicate, sym, ap, ◌∙◌, inl, ⊎_elim, add-mul, le-div_iff_mul-le, mul-add, arith}
use Rattle.std.proofs.lemmas.List.{length-replicate, get_or-replicate, nil_from_length}
use Rattle.std.proofs.lemmas.Bool.{and_from, and_left, and_right, cases_lt, cond-false, le-leb, lt-leb, lt-ltb, le-ltb}
use Rattle.page.specs.Bytes.{get16, put16}
use Rattle.page.specs.Headers.{header_of, count_of}
use Rattle.page.specs.LinePointers.{pointer_of, pointer_at}
use Rattle.page.specs.Slots.{Version, view_of}
use Rattle.page.specs.declared.kinds.Kind.{Kind}
use Rattle.page_laws.specs.Keeps.{HeaderKeeps, Keeps}
use Rattle.page_laws.proofs.Views.{view_length}
use Rattle.page_laws.proofs.Windows.{same_put16, get16_same, get16-put16, length-put16}
use Rattle.page_room.specs.Room.{up8, is_unused, free_pointer, has_unused, room_of, takes}
use Rattle.page_write.specs.Fields.{encoded}
use Rattle.page_write.specs.Placing.{place_of, lower_after, put_version}
use Rattle.page_write.specs.Empty.{formatted, empty_page}
use Rattle.page_write_laws.specs.Edges.{put_all, EachHas, rows_taken}
use Rattle.page_room.proofs.Least.{least_is}
use Rattle.page_write_laws.proofs.Putting.{takes_spot, put_long, put_lower, put_upper, put_head, put_pointer, pointer_stays}

-- The header of an empty page.

module _ (z : List ℕ) (len : length z ≡ 8192) where
  abbrev e1 : List ℕ
  e1 = put16 z 12 24

  abbrev e2 : List ℕ
  e2 = put16 e1 14 8192

  abbrev e3 : List ℕ
  e3 = put16 e2 16 8192

  long1 : length e1 ≡ 8192
  long1 = length-put16 z 12 24 ∙ len

  long2 : length e2 ≡ 8192
  long2 = length-put16 e1 14 8192 ∙ long1

  long3 : length e3 ≡ 8192
  long3 = length-put16 e2 16 8192 ∙ long2

  formatted_long : length (formatted z) ≡ 8192
  formatted_long = length-put16 e3 18 0x2004 ∙ long3

  formatted_version : get16 (formatted z) 18 ≡ 0x2004
  formatted_version = get16-put16 e3 18 0x2004 (omega (arith, long3)) (omega arith)

  formatted_special : get16 (formatted z) 16 ≡ 8192
  formatted_special =
      get16_same (formatted z) e3 16 (same_put16 e3 18 0x2004 16 18 (inl (omega arith))) ∙ get16-put16 e2 16 8192 (omega (arith, long2)) (omega arith)

  formatted_upper : get16 (formatted z) 14 ≡ 8192
  formatted_upper =
      get16_same (formatted z) e3 14 (same_put16 e3 18 0x2004 14 16 (inl (omega arith)))
      ∙ get16_same e3 e2 14 (same_put16 e2 16 8192 14 16 (inl (omega arith)))
      ∙ get16-put16 e1 14 8192 (omega (arith, long1)) (omega arith)

  formatted_lower : get16 (formatted z) 12 ≡ 24
  formatted_lower =
      get16_same (formatted z) e3 12 (same_put16 e3 18 0x2004 12 14 (inl (omega arith)))
      ∙ get16_same e3 e2 12 (same_put16 e2 16 8192 12 14 (inl (omega arith)))
      ∙ get16_same e2 e1 12 (same_put16 e1 14 8192 12 14 (inl (omega arith)))
      ∙ get16-put16 z 12 24 (omega (arith, len)) (omega arith)

  formatted_flags : get16 (formatted z) 10 ≡ get16 z 10
  formatted_flags =
      get16_same (formatted z) e3 10 (same_put16 e3 18 0x2004 10 12 (inl (omega arith)))
      ∙ get16_same e3 e2 10 (same_put16 e2 16 8192 10 12 (inl (omega arith)))
      ∙ get16_same e2 e1 10 (same_put16 e1 14 8192 10 12 (inl (omega arith)))
      ∙ get16_same e1 z 10 (same_put16 z 12 24 10 12 (inl (omega arith)))

  formatted_count : count_of (formatted z) ≡ 0
  formatted_count = omega (arith, formatted_lower)

  formatted_head : get16 z 10 ≡ 0 → HeaderKeeps (header_of (formatted z))
  formatted_head flags =
      let lower = formatted_lower in
      let upper = formatted_upper in
      record {
        special_at_end = formatted_special;
        layout_version = formatted_version;
        no_flags = formatted_flags ∙ flags;
        lower_past_header = omega arith;
        lower_by_upper = omega arith;
        upper_in_page = omega arith;
        whole_pointers = omega arith;
        upper_aligned = omega arith;
        pointer_limit = omega (arith, formatted_count);
      }

  formatted_keeps : get16 z 10 ≡ 0 → (kinds : List Kind) (b : ℕ) → Keeps kinds b (formatted z)
  formatted_keeps flags kinds b =
      let none = formatted_count in
      record {
        header = formatted_head flags;
        own = λ n x y. absurd (omega arith);
        no_overlap = λ n m x y l. absurd (omega arith);
        redirect_target = λ n x y. absurd (omega arith);
        named_once = λ n m x y l. absurd (omega arith);
      }

abbrev zeros : List ℕ
zeros = replicate 8192 0

zeros_long : length zeros ≡ 8192
zeros_long = length-replicate {A = ℕ} 8192 0

zeros_flags : get16 zeros 10 ≡ 0
zeros_flags =
    let nil : (k : ℕ) → k < 8192 → get_or zeros k 0 ≡ 0 = λ k l. get_or-replicate 8192 k _ _ l in
    omega (arith, nil 10 (omega arith), nil 11 (omega arith))

pub empty_keeps : (kinds : List Kind) (b : ℕ) → Keeps kinds b empty_page
empty_keeps = formatted_keeps zeros zeros_long zeros_flags

pub empty_view : view_of empty_page ≡ []
empty_view = nil_from_length (view_of empty_page) (view_length empty_page ∙ formatted_count zeros zeros_long)

-- Rows of one length are put on it.

-- k versions of n bytes stand on q, and no pointer is unused
pub record Filled (q : List ℕ) (n k : ℕ) : Type 0 where
  pub long : length q ≡ 8192
  pub head : HeaderKeeps (header_of q)
  pub lower : (header_of q).lower ≡ 24 + 4 * k
  pub upper : (header_of q).upper + k * up8 n ≡ 8192
  pub used : (j : ℕ) → j < k → is_unused (pointer_at q (j + 1)) ≡ false

-- there is room for one more version of s bytes with its pointer
room_for : (k s reserve room : ℕ) → room + k * (s + 4) ≡ 8168 → k < (8168 - reserve) / (s + 4) → s + 4 + reserve ≤ room
room_for k s reserve room e l =
    let d : (k + 1) * (s + 4) ≤ 8168 - reserve = (le-div_iff_mul-le {k = s + 4} {x = k + 1} {y = 8168 - reserve} (omega arith)).0 (omega arith) in
    omega (arith, add-mul k 1 (s + 4))

no_room : (k s reserve room : ℕ) → room + k * (s + 4) ≡ 8168 → (8168 - reserve) / (s + 4) ≤ k → room < s + 4 + reserve
no_room k s reserve room e l =
    ⊎_elim
    (λ (z : room < s + 4 + reserve). z)
    (λ (z : s + 4 + reserve ≤ room).
    let d : (k + 1) * (s + 4) ≤ 8168 - reserve = omega (arith, add-mul k 1 (s + 4)) in
    let c : k + 1 ≤ (8168 - reserve) / (s + 4) = (le-div_iff_mul-le {k = s + 4} {x = k + 1} {y = 8168 - reserve} (omega arith)).1 d in
    absurd (omega arith))
    (cases_lt room (s + 4 + reserve))

module _ (q : List ℕ) (n k : ℕ) (f : Filled q n k) where
  count : count_of q ≡ k
  count = let lower = f.lower in let a = f.head.lower_by_upper in let b = f.head.upper_in_page in omega arith

  free : free_pointer q ≡ k + 1
  free =
      ap (λ (x : ℕ). x + 1)
      (least_is (λ j. is_unused (pointer_at q (j + 1))) (count_of q) k (omega (arith, count)) f.used (λ l. absurd (omega (arith, count))))

  none_unused : has_unused q ≡ false
  none_unused = lt-leb (free_pointer q) (count_of q) (omega (arith, count, free))

  room : room_of q + k * (up8 n + 4) ≡ 8168
  room = let a = f.head.lower_by_upper in omega (arith, f.lower, f.upper, mul-add k (up8 n) 4)

  pub filled_takes : (reserve : ℕ) → takes reserve q n ≡ ltb k (rows_taken reserve n)
  filled_takes reserve =
      cond-false (has_unused q) (leb (up8 n + reserve) (room_of q)) (leb (up8 n + 4 + reserve) (room_of q) && ltb (count_of q) 291) none_unused ∙
      ⊎_elim
      (λ (z : k < rows_taken reserve n).
      and_from (leb (up8 n + 4 + reserve) (room_of q)) (ltb (count_of q) 291)
      (le-leb (up8 n + 4 + reserve) (room_of q) (room_for k (up8 n) reserve (room_of q) room (omega arith)))
      (lt-ltb (count_of q) 291 (omega (arith, count)))
      ∙ sym (lt-ltb k (rows_taken reserve n) z))
      (λ (z : rows_taken reserve n ≤ k).
      ⊎_elim
      (λ (y : k < 291).
      and_left (leb (up8 n + 4 + reserve) (room_of q)) (ltb (count_of q) 291)
      (lt-leb (up8 n + 4 + reserve) (room_of q) (no_room k (up8 n) reserve (room_of q) room (omega arith))))
      (λ (y : 291 ≤ k). and_right (leb (up8 n + 4 + reserve) (room_of q)) (ltb (count_of q) 291) (le-ltb (count_of q) 291 (omega (arith, count))))
      (cases_lt k 291)
      ∙ sym (le-ltb k (rows_taken reserve n) z))
      (cases_lt k (rows_taken reserve n))

  pub filled_more : (v : Version) → 24 + length v.row ≡ n → takes 0 q n ≡ true → Filled (put_version q v) n (k + 1)
  filled_more v e t =
      let o = place_of q (24 + length v.row) in
      let l = lower_after q in
      let i = free_pointer q in
      let at = takes_spot q 0 v.row f.head (ap (takes 0 q) e ∙ t) in
      let lower : l ≡ (header_of q).lower + 4 = cond-false (has_unused q) (header_of q).lower ((header_of q).lower + 4) none_unused in
      let size : up8 (24 + length v.row) ≡ up8 n = ap up8 e in
      let top = at.top in
      record {
        long = put_long q o l i (encoded v) v.row f.long at;
        head = put_head q o l i (encoded v) v.row f.long at f.head;
        lower = put_lower q o l i (encoded v) v.row f.long at ∙ omega (arith, lower, f.lower);
        upper = omega (arith, put_upper q o l i (encoded v) v.row f.long at, size, top, f.upper, add-mul k 1 (up8 n));
        used = λ j h.
            ⊎_elim
            (λ (z : j < k).
            ap is_unused (sym (ap pointer_of (pointer_stays q o l i (encoded v) v.row f.long at (j + 1) (omega arith) (omega (arith, count)) (λ d. absurd (omega (arith, free, d))))))
            ∙ f.used j z)
            (λ (z : k ≤ j).
            let is : j + 1 ≡ i = omega (arith, free) in
            ap (λ (x : ℕ). is_unused (pointer_at (put_version q v) x)) is ∙ ap is_unused (put_pointer q o l i (encoded v) v.row f.long at))
            (cases_lt j k);
      }

empty_filled : (n : ℕ) → Filled empty_page n 0
empty_filled n = record {
  long = formatted_long zeros zeros_long;
  head = formatted_head zeros zeros_long zeros_flags;
  lower = formatted_lower zeros zeros_long;
  upper = omega (arith, formatted_upper zeros zeros_long);
  used = λ j h. absurd (omega arith);
}

pub all_filled : (n : ℕ) (vs : List Version) → EachHas n vs → length vs ≤ rows_taken 0 n → Filled (put_all empty_page vs) n (length vs)
all_filled n [] h l = empty_filled n
all_filled n (v ∷ vs) h l =
    let f = all_filled n vs h.1 (omega arith) in
    let e : length vs + 1 ≡ length (v ∷ vs) = omega arith in
    rw e at (filled_more (put_all empty_page vs) n (length vs) f v h.0 (filled_takes (put_all empty_page vs) n (length vs) f 0 ∙ lt-ltb (length vs) (rows_taken 0 n) (omega arith)))
