-- What is read of a header that was rewritten.
use Rattle.std.proofs.Common.{◌≡◌, ℕ, ◌+◌, ◌*◌, ◌/◌, ◌%◌, ◌<◌, ◌≤◌, ◌⊎◌, List, length, get_or, ◌∙◌, inl, inr, ⊎_elim, arith}
use Rattle.std.proofs.lemmas.List.{length-set}
use Rattle.page.specs.Bytes.{get16, get32, put16, put32}
use Rattle.page.specs.Versions.{header_at}
use Rattle.page.specs.declared.versions.VersionHeader.{VersionHeader}
use Rattle.page_laws.specs.Windows.{Same}
use Rattle.page_laws.proofs.Windows.{same_put16, same_put32, get16_same, get32_same, get16-put16, get32-put32, length-put16, length-put32}
use Rattle.page_write.specs.Changing.{rewrite}

-- the fields of a header that may change fit their places
pub record Small (v : VersionHeader) : Type 0 where
  pub remover : v.remover < 4294967296
  pub block : v.ctid.block < 4294967296
  pub pointer : v.ctid.pointer < 65536
  pub infomask2 : v.infomask2 < 65536
  pub infomask : v.infomask < 65536

-- the header u with the changing fields of v
abbrev pub rewritten : VersionHeader → VersionHeader → VersionHeader
rewritten u v = record {
  creator = u.creator;
  remover = v.remover;
  command = u.command;
  ctid = v.ctid;
  infomask2 = v.infomask2;
  infomask = v.infomask;
  hoff = u.hoff;
  zero = u.zero;
}

pub length_rewrite : (p : List ℕ) (o : ℕ) (v : VersionHeader) → length (rewrite p o v) ≡ length p
length_rewrite p o v = simp length-set

module _ (p : List ℕ) (o : ℕ) (v : VersionHeader) where
  abbrev p1 : List ℕ
  p1 = put32 p (o + 4) v.remover

  abbrev p2 : List ℕ
  p2 = put16 p1 (o + 12) (v.ctid.block / 65536)

  abbrev p3 : List ℕ
  p3 = put16 p2 (o + 14) (v.ctid.block % 65536)

  abbrev p4 : List ℕ
  p4 = put16 p3 (o + 16) v.ctid.pointer

  abbrev p5 : List ℕ
  p5 = put16 p4 (o + 18) v.infomask2

  -- all that is written lies from o + 4 to o + 22
  pub same_rewrite : (a e : ℕ) → (e ≤ o + 4) ⊎ (o + 22 ≤ a) → Same a e (rewrite p o v) p
  same_rewrite a e out k h l =
      let off : (i n : ℕ) → o + 4 ≤ i → i + n ≤ o + 22 → (e ≤ i) ⊎ (i + n ≤ a)
      = λ i n x y. ⊎_elim (λ z. inl (omega arith)) (λ z. inr (omega arith)) out in
      same_put16 p5 (o + 20) v.infomask a e (off (o + 20) 2 (omega arith) (omega arith)) k h l
      ∙ same_put16 p4 (o + 18) v.infomask2 a e (off (o + 18) 2 (omega arith) (omega arith)) k h l
      ∙ same_put16 p3 (o + 16) v.ctid.pointer a e (off (o + 16) 2 (omega arith) (omega arith)) k h l
      ∙ same_put16 p2 (o + 14) (v.ctid.block % 65536) a e (off (o + 14) 2 (omega arith) (omega arith)) k h l
      ∙ same_put16 p1 (o + 12) (v.ctid.block / 65536) a e (off (o + 12) 2 (omega arith) (omega arith)) k h l
      ∙ same_put32 p (o + 4) v.remover a e (off (o + 4) 4 (omega arith) (omega arith)) k h l

  -- below the place of a field, what was written after it is not seen
  s5 : Same 0 (o + 20) (rewrite p o v) p5
  s5 = same_put16 p5 (o + 20) v.infomask 0 (o + 20) (inl (omega arith))

  s4 : Same 0 (o + 18) (rewrite p o v) p4
  s4 k h l = s5 k h (omega arith) ∙ same_put16 p4 (o + 18) v.infomask2 0 (o + 18) (inl (omega arith)) k h l

  s3 : Same 0 (o + 16) (rewrite p o v) p3
  s3 k h l = s4 k h (omega arith) ∙ same_put16 p3 (o + 16) v.ctid.pointer 0 (o + 16) (inl (omega arith)) k h l

  s2 : Same 0 (o + 14) (rewrite p o v) p2
  s2 k h l = s3 k h (omega arith) ∙ same_put16 p2 (o + 14) (v.ctid.block % 65536) 0 (o + 14) (inl (omega arith)) k h l

  s1 : Same 0 (o + 12) (rewrite p o v) p1
  s1 k h l = s2 k h (omega arith) ∙ same_put16 p1 (o + 12) (v.ctid.block / 65536) 0 (o + 12) (inl (omega arith)) k h l

  command_kept : get32 (rewrite p o v) (o + 8) ≡ get32 p (o + 8)
  command_kept =
      get32_same (rewrite p o v) p (o + 8)
      (λ k h l. s1 k (omega arith) (omega arith) ∙ same_put32 p (o + 4) v.remover (o + 8) (o + 12) (inr (omega arith)) k h (omega arith))

  pub rewrite_reads : o + 24 ≤ length p → Small v → header_at (rewrite p o v) o ≡ rewritten (header_at p o) v
  rewrite_reads fit r =
      let q = rewrite p o v in
      let l1 = length-put32 p (o + 4) v.remover in
      let l2 = length-put16 p1 (o + 12) (v.ctid.block / 65536) in
      let l3 = length-put16 p2 (o + 14) (v.ctid.block % 65536) in
      let l4 = length-put16 p3 (o + 16) v.ctid.pointer in
      let l5 = length-put16 p4 (o + 18) v.infomask2 in
      let small = r.block in
      let creator = get32_same q p o (same_rewrite o (o + 4) (inl (omega arith))) in
      let remover = get32_same q p1 (o + 4) (λ k h l. s1 k (omega arith) (omega arith)) ∙ get32-put32 p (o + 4) v.remover (omega arith) r.remover in
      let command = command_kept in
      let high = get16_same q p2 (o + 12) (λ k h l. s2 k (omega arith) (omega arith)) ∙ get16-put16 p1 (o + 12) (v.ctid.block / 65536) (omega arith) (omega arith) in
      let low = get16_same q p3 (o + 14) (λ k h l. s3 k (omega arith) (omega arith)) ∙ get16-put16 p2 (o + 14) (v.ctid.block % 65536) (omega arith) (omega arith) in
      let block : get16 q (o + 12) * 65536 + get16 q (o + 14) ≡ v.ctid.block = omega (arith, high, low) in
      let pointer = get16_same q p4 (o + 16) (λ k h l. s4 k (omega arith) (omega arith)) ∙ get16-put16 p3 (o + 16) v.ctid.pointer (omega arith) r.pointer in
      let infomask2 = get16_same q p5 (o + 18) (λ k h l. s5 k (omega arith) (omega arith)) ∙ get16-put16 p4 (o + 18) v.infomask2 (omega arith) r.infomask2 in
      let infomask = get16-put16 p5 (o + 20) v.infomask (omega arith) r.infomask in
      let hoff = same_rewrite (o + 22) (o + 24) (inr (omega arith)) (o + 22) (omega arith) (omega arith) in
      let zero = same_rewrite (o + 22) (o + 24) (inr (omega arith)) (o + 23) (omega arith) (omega arith) in
      joined _ _ _ _ _ _ _ _ _ creator remover command block pointer infomask2 infomask hoff zero
    where
      joined : (a b c d e f g h i : ℕ) → a ≡ get32 p o → b ≡ v.remover → c ≡ get32 p (o + 8) → d ≡ v.ctid.block → e ≡ v.ctid.pointer
          → f ≡ v.infomask2 → g ≡ v.infomask → h ≡ get_or p (o + 22) 0 → i ≡ get_or p (o + 23) 0
          → record { creator = a; remover = b; command = c; ctid = record { block = d; pointer = e }; infomask2 = f; infomask = g; hoff = h; zero = i } ≡ rewritten (header_at p o) v
      joined a b c d e f g h i e1 e2 e3 e4 e5 e6 e7 e8 e9 = rw (e1, e2, e3, e4, e5, e6, e7, e8, e9)
