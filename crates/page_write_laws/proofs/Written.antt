-- What is read of a version that was written, and of a page that it was put on.
use Rattle.std.proofs.Common.{◌≡◌, ℕ, ◌+◌, ◌-◌, ◌*◌, ◌/◌, ◌%◌, ◌<◌, ◌≤◌, ◌⊎◌, List, length, set, replicate, sym, refl, ap, ◌∙◌, inl, inr, ⊎_elim, arith}
use borrow.Rule.Slice.PartMut.{put_mid}
use Rattle.std.proofs.lemmas.List.{length-set, get_or-set_same, length-replicate}
use Rattle.std.proofs.lemmas.Slice.{between-put_mid}
use Rattle.page.specs.Bytes.{get16, put32}
use Rattle.page.specs.LinePointers.{line_pointer_of, pointer_of, word_of}
use Rattle.page.specs.Versions.{header_at, row_of}
use Rattle.page.specs.declared.line_pointers.Pointer.TheVariants.{Normal}
use Rattle.page.specs.declared.versions.VersionHeader.{VersionHeader}
use Rattle.page_laws.specs.Windows.{Same}
use Rattle.page_laws.proofs.Windows.{same_put32, same_set, same_put_mid, get32_same, get16_same, get32-put32, header_at_same, between_same, length-put32, length-put_mid}
use Rattle.page_room.specs.Room.{up8}
use Rattle.page_write.specs.Changing.{rewrite}
use Rattle.page_write.specs.Placing.{write_header, write_version}
use Rattle.page_write_laws.proofs.Rewriting.{Small, length_rewrite, same_rewrite, rewrite_reads}

-- the pointer of a version is read as it is written
pub decode_normal : (o n : ℕ) → o < 32768 → n < 32768 → pointer_of (line_pointer_of (word_of (Normal o n))) ≡ Normal o n
decode_normal o n a b =
    let e : word_of (Normal o n) ≡ o + 32768 + n * 131072 = omega arith in
    let e0 : (o + 32768 + n * 131072) / 32768 % 4 ≡ 1 = omega arith in
    let e1 : (o + 32768 + n * 131072) % 32768 ≡ o = omega arith in
    let e2 : (o + 32768 + n * 131072) / 131072 ≡ n = omega arith in
    ap (λ (w : ℕ). pointer_of (line_pointer_of w)) e
    ∙ rw e0 (ap (λ (x : ℕ). Normal x ((o + 32768 + n * 131072) / 131072)) e1 ∙ ap (λ (x : ℕ). Normal o x) e2)

module _ (p : List ℕ) (o : ℕ) (v : VersionHeader) where
  abbrev p1 : List ℕ
  p1 = put32 p o v.creator

  abbrev p2 : List ℕ
  p2 = put32 p1 (o + 8) v.command

  abbrev p3 : List ℕ
  p3 = rewrite p2 o v

  abbrev p4 : List ℕ
  p4 = set p3 (o + 22) v.hoff

  length_p3 : length p3 ≡ length p
  length_p3 = length_rewrite p2 o v ∙ length-put32 p1 (o + 8) v.command ∙ length-put32 p o v.creator

  pub length_header : length (write_header p o v) ≡ length p
  length_header = length-set p4 (o + 23) v.zero ∙ length-set p3 (o + 22) v.hoff ∙ length_p3

  pub same_header : (a e : ℕ) → (e ≤ o) ⊎ (o + 24 ≤ a) → Same a e (write_header p o v) p
  same_header a e out k h l =
      let off : (i n : ℕ) → o ≤ i → i + n ≤ o + 24 → (e ≤ i) ⊎ (i + n ≤ a)
      = λ i n x y. ⊎_elim (λ z. inl (omega arith)) (λ z. inr (omega arith)) out in
      same_set p4 (o + 23) v.zero a e (off (o + 23) 1 (omega arith) (omega arith)) k h l
      ∙ same_set p3 (o + 22) v.hoff a e (off (o + 22) 1 (omega arith) (omega arith)) k h l
      ∙ same_rewrite p2 o v a e (⊎_elim (λ z. inl (omega arith)) (λ z. inr (omega arith)) out) k h l
      ∙ same_put32 p1 (o + 8) v.command a e (off (o + 8) 4 (omega arith) (omega arith)) k h l
      ∙ same_put32 p o v.creator a e (off o 4 (omega arith) (omega arith)) k h l

  s3 : Same 0 (o + 22) (write_header p o v) p3
  s3 k h l =
      same_set p4 (o + 23) v.zero 0 (o + 23) (inl (omega arith)) k h (omega arith) ∙ same_set p3 (o + 22) v.hoff 0 (o + 22) (inl (omega arith)) k h l

  pub header_reads : o + 24 ≤ length p → Small v → v.creator < 4294967296 → v.command < 4294967296 → header_at (write_header p o v) o ≡ v
  header_reads fit r c m =
      let q = write_header p o v in
      let l1 = length-put32 p o v.creator in
      let l2 = length-put32 p1 (o + 8) v.command in
      let l3 = length_p3 in
      let l4 = length-set p3 (o + 22) v.hoff in
      let e = rewrite_reads p2 o v (omega arith) r in
      let creator = get32_same q p3 o (λ k h l. s3 k (omega arith) (omega arith)) ∙ ap (λ (x : VersionHeader). x.creator) e
      ∙ get32_same p2 p1 o (same_put32 p1 (o + 8) v.command o (o + 4) (inl (omega arith))) ∙ get32-put32 p o v.creator (omega arith) c in
      let remover = get32_same q p3 (o + 4) (λ k h l. s3 k (omega arith) (omega arith)) ∙ ap (λ (x : VersionHeader). x.remover) e in
      let command = get32_same q p3 (o + 8) (λ k h l. s3 k (omega arith) (omega arith)) ∙ ap (λ (x : VersionHeader). x.command) e
      ∙ get32-put32 p1 (o + 8) v.command (omega arith) m in
      let high = get16_same q p3 (o + 12) (λ k h l. s3 k (omega arith) (omega arith)) in
      let low = get16_same q p3 (o + 14) (λ k h l. s3 k (omega arith) (omega arith)) in
      let block : get16 q (o + 12) * 65536 + get16 q (o + 14) ≡ v.ctid.block
      = ap (λ (x : ℕ). x * 65536 + get16 q (o + 14)) high ∙ ap (λ (x : ℕ). get16 p3 (o + 12) * 65536 + x) low ∙ ap (λ (x : VersionHeader). x.ctid.block) e in
      let pointer = get16_same q p3 (o + 16) (λ k h l. s3 k (omega arith) (omega arith)) ∙ ap (λ (x : VersionHeader). x.ctid.pointer) e in
      let infomask2 = get16_same q p3 (o + 18) (λ k h l. s3 k (omega arith) (omega arith)) ∙ ap (λ (x : VersionHeader). x.infomask2) e in
      let infomask = get16_same q p3 (o + 20) (λ k h l. s3 k (omega arith) (omega arith)) ∙ ap (λ (x : VersionHeader). x.infomask) e in
      let hoff = same_set p4 (o + 23) v.zero (o + 22) (o + 23) (inl (omega arith)) (o + 22) (omega arith) (omega arith) ∙ get_or-set_same p3 (o + 22) v.hoff 0 (omega arith) in
      let zero = get_or-set_same p4 (o + 23) v.zero 0 (omega arith) in
      joined _ _ _ _ _ _ _ _ _ creator remover command block pointer infomask2 infomask hoff zero
    where
      joined : (a b c d e f g h i : ℕ) → a ≡ v.creator → b ≡ v.remover → c ≡ v.command → d ≡ v.ctid.block → e ≡ v.ctid.pointer
          → f ≡ v.infomask2 → g ≡ v.infomask → h ≡ v.hoff → i ≡ v.zero
          → record { creator = a; remover = b; command = c; ctid = record { block = d; pointer = e }; infomask2 = f; infomask = g; hoff = h; zero = i } ≡ v
      joined a b c d e f g h i e1 e2 e3 e4 e5 e6 e7 e8 e9 = rw (e1, e2, e3, e4, e5, e6, e7, e8, e9)

-- A version with its row and padding.

module _ (p : List ℕ) (o : ℕ) (v : VersionHeader) (row : List ℕ) (fit : o + up8 (24 + length row) ≤ length p) where
  abbrev pad : ℕ
  pad = up8 (24 + length row) - (24 + length row)

  abbrev q1 : List ℕ
  q1 = write_header p o v

  abbrev q2 : List ℕ
  q2 = put_mid (o + 24) (length row) q1 row

  length_q2 : length q2 ≡ length p
  length_q2 = length-put_mid q1 row (o + 24) (length row) refl (omega (arith, length_header p o v)) ∙ length_header p o v

  pub length_version : length (write_version p o v row) ≡ length p
  length_version =
      length-put_mid q2 (replicate pad 0) (o + 24 + length row) pad (length-replicate pad 0) (omega (arith, length_q2)) ∙ length_q2

  same_padding : (a e : ℕ) → (e ≤ o + 24 + length row) ⊎ (o + up8 (24 + length row) ≤ a) → Same a e (write_version p o v row) q2
  same_padding a e out =
      same_put_mid q2 (replicate pad 0) (o + 24 + length row) pad a e (length-replicate pad 0) (omega (arith, length_q2))
      (⊎_elim (λ z. inl z) (λ z. inr (omega arith)) out)

  same_row : (a e : ℕ) → (e ≤ o + 24) ⊎ (o + 24 + length row ≤ a) → Same a e q2 q1
  same_row a e out = same_put_mid q1 row (o + 24) (length row) a e refl (omega (arith, length_header p o v)) out

  pub same_version : (a e : ℕ) → (e ≤ o) ⊎ (o + up8 (24 + length row) ≤ a) → Same a e (write_version p o v row) p
  same_version a e out k h l =
      same_padding a e (⊎_elim (λ z. inl (omega arith)) (λ z. inr z) out) k h l
      ∙ same_row a e (⊎_elim (λ z. inl (omega arith)) (λ z. inr (omega arith)) out) k h l
      ∙ same_header p o v a e (⊎_elim (λ z. inl z) (λ z. inr (omega arith)) out) k h l

  pub version_reads : Small v → v.creator < 4294967296 → v.command < 4294967296 → header_at (write_version p o v row) o ≡ v
  version_reads r c m =
      header_at_same (write_version p o v row) q1 o
      (λ k h l. same_padding o (o + 24) (inl (omega arith)) k h l ∙ same_row o (o + 24) (inl (omega arith)) k h l)
      ∙ header_reads p o v (omega arith) r c m

  pub row_reads : row_of (write_version p o v row) o (24 + length row) ≡ row
  row_reads =
      between_same (write_version p o v row) q2 (o + 24) (o + (24 + length row)) (length_version ∙ sym length_q2) (omega (arith, length_version))
      (same_padding (o + 24) (o + (24 + length row)) (inl (omega arith)))
      ∙ between-put_mid (o + 24) (length row) q1 row (o + (24 + length row)) (omega (arith, length_header p o v)) (omega arith)
