-- Headers that are made of fields: they are read as these, and keep the rules.
use Rattle.std.proofs.Common.{◌≡◌, ℕ, ◌+◌, ◌*◌, ◌/◌, ◌%◌, ◌<◌, ◌≤◌, Bool, true, false, not, ◌&&◌, ◌||◌, eqb, leb, List, refl, ap, ◌∙◌, arith}
use Rattle.std.proofs.lemmas.Bool.{and_parts, and_from, eqb-true, eq-eqb, leb-true, le-leb, not-true, not_from_false}
use Rattle.page.specs.Slots.{Version, decoded}
use Rattle.page.specs.Versions.{bit, has_mark}
use Rattle.page.specs.declared.line_pointers.State.TheVariants as state
use Rattle.page.specs.declared.versions.Address.{Address}
use Rattle.page.specs.declared.versions.VersionHeader.{VersionHeader}
use Rattle.page.specs.declared.versions.Mark.TheVariants.{CreatorCommitted, CreatorInvalid, RemoverCommitted, RemoverInvalid, Updated, HotUpdated, HeapOnly}
use Rattle.page_check.specs.All.{all_of}
use Rattle.page_check.specs.Rules.{version_holds, version_rules, only_named_bits}
use Rattle.page_write.specs.Fields.{mark_if, encoded}

-- the two words, by their bits
abbrev word : Bool → Bool → Bool → Bool → Bool → ℕ
word a b c d e =
    mark_if a CreatorCommitted + mark_if b CreatorInvalid + mark_if c RemoverCommitted + mark_if d RemoverInvalid + mark_if e Updated

abbrev word2 : Bool → Bool → ℕ
word2 a b = 1 + mark_if a HotUpdated + mark_if b HeapOnly

module _ (a b c d e : Bool) where
  bit_0100 : bit (word a b c d e) 0x0100 ≡ a
  bit_0100 = grind arith

  bit_0200 : bit (word a b c d e) 0x0200 ≡ b
  bit_0200 = grind arith

  bit_0400 : bit (word a b c d e) 0x0400 ≡ c
  bit_0400 = grind arith

  bit_0800 : bit (word a b c d e) 0x0800 ≡ d
  bit_0800 = grind arith

  bit_2000 : bit (word a b c d e) 0x2000 ≡ e
  bit_2000 = grind arith

  pub word_small : word a b c d e < 65536
  word_small = grind arith

  abbrev w : ℕ
  w = word a b c d e

  word_parts : w ≡ w / 0x0100 % 2 * 0x0100 + w / 0x0200 % 2 * 0x0200 + w / 0x0400 % 2 * 0x0400 + w / 0x0800 % 2 * 0x0800 + w / 0x2000 % 2 * 0x2000
  word_parts = grind arith

module _ (a b : Bool) where
  bit_4000 : bit (word2 a b) 0x4000 ≡ a
  bit_4000 = grind arith

  bit_8000 : bit (word2 a b) 0x8000 ≡ b
  bit_8000 = grind arith

  pub word2_small : word2 a b < 65536
  word2_small = grind arith

  word2_count : word2 a b % 2048 ≡ 1
  word2_count = grind arith

  word2_parts : word2 a b ≡ word2 a b % 2048 + word2 a b / 0x4000 % 2 * 0x4000 + word2 a b / 0x8000 % 2 * 0x8000
  word2_parts = grind arith

-- v has the bits of w
pub record BitsOf (v : VersionHeader) (w : Version) : Type 0 where
  pub infomask : v.infomask ≡ (encoded w).infomask
  pub infomask2 : v.infomask2 ≡ (encoded w).infomask2

module _ (v : VersionHeader) (w : Version) (same : BitsOf v w) where
  at_infomask : (m : ℕ) (x : Bool) → bit (encoded w).infomask m ≡ x → bit v.infomask m ≡ x
  at_infomask m x e = ap (λ (n : ℕ). bit n m) same.infomask ∙ e

  at_infomask2 : (m : ℕ) (x : Bool) → bit (encoded w).infomask2 m ≡ x → bit v.infomask2 m ≡ x
  at_infomask2 m x e = ap (λ (n : ℕ). bit n m) same.infomask2 ∙ e

  has_committed : has_mark v RemoverCommitted ≡ w.remover_committed
  has_committed = at_infomask 0x0400 w.remover_committed (bit_0400 w.creator_committed w.creator_invalid w.remover_committed w.remover_invalid w.updated)

  has_invalid : has_mark v RemoverInvalid ≡ w.remover_invalid
  has_invalid = at_infomask 0x0800 w.remover_invalid (bit_0800 w.creator_committed w.creator_invalid w.remover_committed w.remover_invalid w.updated)

  -- a header is read as the version that it is made of
  pub decoded_is : (row : List ℕ) → v.creator ≡ w.creator → v.remover ≡ w.remover → v.ctid ≡ w.ctid → row ≡ w.row → decoded v row ≡ w
  decoded_is row e1 e2 e3 e4 =
      joined _ _ _ _ _ _ _ _ _ _ _ e1 e2
      (at_infomask 0x0100 w.creator_committed (bit_0100 w.creator_committed w.creator_invalid w.remover_committed w.remover_invalid w.updated))
      (at_infomask 0x0200 w.creator_invalid (bit_0200 w.creator_committed w.creator_invalid w.remover_committed w.remover_invalid w.updated))
      has_committed has_invalid
      (at_infomask 0x2000 w.updated (bit_2000 w.creator_committed w.creator_invalid w.remover_committed w.remover_invalid w.updated))
      (at_infomask2 0x4000 w.hot_updated (bit_4000 w.hot_updated w.heap_only))
      (at_infomask2 0x8000 w.heap_only (bit_8000 w.hot_updated w.heap_only))
      e3 e4
    where
      joined : (x y : ℕ) (a b c d e f g : Bool) (t : Address) (r : List ℕ) → x ≡ w.creator → y ≡ w.remover
          → a ≡ w.creator_committed → b ≡ w.creator_invalid → c ≡ w.remover_committed → d ≡ w.remover_invalid → e ≡ w.updated
          → f ≡ w.hot_updated → g ≡ w.heap_only → t ≡ w.ctid → r ≡ w.row
          → record { creator = x; remover = y; creator_committed = a; creator_invalid = b; remover_committed = c; remover_invalid = d; updated = e; hot_updated = f; heap_only = g; ctid = t; row = r } ≡ w
      joined x y a b c d e f g t r h1 h2 h3 h4 h5 h6 h7 h8 h9 h10 h11 = rw (h1, h2, h3, h4, h5, h6, h7, h8, h9, h10, h11)

  named_bits : only_named_bits v ≡ true
  named_bits =
      and_from _ _
      (eq-eqb v.infomask _ (parts v.infomask same.infomask))
      (eq-eqb v.infomask2 _ (parts2 v.infomask2 same.infomask2))
    where
      parts : (n : ℕ) → n ≡ (encoded w).infomask → n ≡ n / 0x0100 % 2 * 0x0100 + n / 0x0200 % 2 * 0x0200 + n / 0x0400 % 2 * 0x0400 + n / 0x0800 % 2 * 0x0800 + n / 0x2000 % 2 * 0x2000
      parts n e = rw e (word_parts w.creator_committed w.creator_invalid w.remover_committed w.remover_invalid w.updated)

      parts2 : (n : ℕ) → n ≡ (encoded w).infomask2 → n ≡ n % 2048 + n / 0x4000 % 2 * 0x4000 + n / 0x8000 % 2 * 0x8000
      parts2 n e = rw e (word2_parts w.hot_updated w.heap_only)

  -- and it keeps the rules of a version
  pub head_from : v.hoff ≡ 24 → v.zero ≡ 0 → 3 ≤ v.creator → v.remover ≡ w.remover
      → (w.remover_committed && w.remover_invalid) ≡ false → (leb 3 w.remover || (eqb w.remover 0 && w.remover_invalid)) ≡ true
      → all_of (version_holds v) (version_rules state.Normal) ≡ true
  head_from hoff zero creator remover one_bit number =
      and_from _ _ (eq-eqb v.hoff 24 hoff)
      (and_from _ _ (eq-eqb v.zero 0 zero)
      (and_from _ _ (eq-eqb (v.infomask2 % 2048) 1 (ap (λ (n : ℕ). n % 2048) same.infomask2 ∙ word2_count w.hot_updated w.heap_only))
      (and_from _ _ named_bits
      (and_from _ _
      (not_from_false (has_mark v RemoverCommitted && has_mark v RemoverInvalid)
      (ap (λ (x : Bool). x && has_mark v RemoverInvalid) has_committed ∙ ap (λ (x : Bool). w.remover_committed && x) has_invalid ∙ one_bit))
      (and_from _ _ (le-leb 3 v.creator creator)
      (and_from _ _
      (ap (λ (n : ℕ). leb 3 n || (eqb n 0 && has_mark v RemoverInvalid)) remover
      ∙ ap (λ (x : Bool). leb 3 w.remover || (eqb w.remover 0 && x)) has_invalid ∙ number)
      refl))))))

-- what the rules say of the header of a version
pub record HeadKeeps (v : VersionHeader) : Type 0 where
  pub hoff : v.hoff ≡ 24
  pub zero : v.zero ≡ 0
  pub one_bit : (has_mark v RemoverCommitted && has_mark v RemoverInvalid) ≡ false
  pub creator : 3 ≤ v.creator
  pub remover : (leb 3 v.remover || (eqb v.remover 0 && has_mark v RemoverInvalid)) ≡ true

pub head_tells : (v : VersionHeader) → all_of (version_holds v) (version_rules state.Normal) ≡ true → HeadKeeps v
head_tells v h =
    let a = and_parts (eqb v.hoff 24) _ h in
    let b = and_parts (eqb v.zero 0) _ a.1 in
    let c = and_parts (eqb (v.infomask2 % 2048) 1) _ b.1 in
    let d = and_parts (only_named_bits v) _ c.1 in
    let e = and_parts (not (has_mark v RemoverCommitted && has_mark v RemoverInvalid)) _ d.1 in
    let f = and_parts (leb 3 v.creator) _ e.1 in
    let g = and_parts (leb 3 v.remover || (eqb v.remover 0 && has_mark v RemoverInvalid)) true f.1 in
    record {
      hoff = eqb-true v.hoff 24 a.0;
      zero = eqb-true v.zero 0 b.0;
      one_bit = not-true (has_mark v RemoverCommitted && has_mark v RemoverInvalid) e.0;
      creator = leb-true 3 v.creator f.0;
      remover = g.0;
    }
