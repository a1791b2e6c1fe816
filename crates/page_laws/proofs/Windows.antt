-- What is read of a page depends on the bytes of its place alone, and a write leaves all others.
use Rattle.std.proofs.Common.{◌≡◌, ℕ, ◌+◌, ◌*◌, ◌%◌, ◌<◌, ◌≤◌, ◌≢◌, ◌⊎◌, List, length, get_or, set, sym, ap, ◌∙◌, inl, inr, ⊎_elim, arith, rules}
use borrow.Rule.Slice.PartMut.{put_mid}
use Rattle.std.specs.List.{between}
use Rattle.std.proofs.lemmas.List.{ext_get_or, get_or-set_same, get_or-set_other, places, length-set}
use Rattle.std.proofs.lemmas.List.Edits.{length-between, get_or-between}
use Rattle.page.specs.Bytes.{get16, get32, put16, put32}
use Rattle.page.specs.LinePointers.{line_pointer_of, line_pointer_at, pointer_of, pointer_at}
use Rattle.page.specs.Versions.{header_at}
use Rattle.page_laws.specs.Windows.{Same}

-- Reading.

pub get16_same : (p q : List ℕ) (i : ℕ) → Same i (i + 2) p q → get16 p i ≡ get16 q i
get16_same p q i s = omega (arith, s i (omega arith) (omega arith), s (i + 1) (omega arith) (omega arith))

pub get32_same : (p q : List ℕ) (i : ℕ) → Same i (i + 4) p q → get32 p i ≡ get32 q i
get32_same p q i s =
    omega (arith, s i (omega arith) (omega arith), s (i + 1) (omega arith) (omega arith), s (i + 2) (omega arith) (omega arith), s (i + 3) (omega arith) (omega arith))

pub same_sym : (a e : ℕ) (p q : List ℕ) → Same a e p q → Same a e q p
same_sym a e p q s k h l = sym (s k h l)

pub same_trans : (a e : ℕ) (p q r : List ℕ) → Same a e p q → Same a e q r → Same a e p r
same_trans a e p q r s t k h l = s k h l ∙ t k h l

pub same_part : (a e a' e' : ℕ) (p q : List ℕ) → a ≤ a' → e' ≤ e → Same a e p q → Same a' e' p q
same_part a e a' e' p q h l s k x y = s k (omega arith) (omega arith)

pub line_pointer_at_same : (p q : List ℕ) (n : ℕ) → Same (20 + 4 * n) (24 + 4 * n) p q → line_pointer_at p n ≡ line_pointer_at q n
line_pointer_at_same p q n s = ap line_pointer_of (get32_same p q (20 + 4 * n) (λ k h l. s k h (omega arith)))

pub pointer_at_same : (p q : List ℕ) (n : ℕ) → Same (20 + 4 * n) (24 + 4 * n) p q → pointer_at p n ≡ pointer_at q n
pointer_at_same p q n s = ap pointer_of (line_pointer_at_same p q n s)

pub header_at_same : (p q : List ℕ) (o : ℕ) → Same o (o + 24) p q → header_at p o ≡ header_at q o
header_at_same p q o s =
    let a = get32_same p q o (λ k h l. s k (omega arith) (omega arith)) in
    let b = get32_same p q (o + 4) (λ k h l. s k (omega arith) (omega arith)) in
    let x = get32_same p q (o + 8) (λ k h l. s k (omega arith) (omega arith)) in
    let c = get16_same p q (o + 12) (λ k h l. s k (omega arith) (omega arith)) in
    let d = get16_same p q (o + 14) (λ k h l. s k (omega arith) (omega arith)) in
    let e = get16_same p q (o + 16) (λ k h l. s k (omega arith) (omega arith)) in
    let f = get16_same p q (o + 18) (λ k h l. s k (omega arith) (omega arith)) in
    let g = get16_same p q (o + 20) (λ k h l. s k (omega arith) (omega arith)) in
    let h = s (o + 22) (omega arith) (omega arith) in
    let i = s (o + 23) (omega arith) (omega arith) in cc

pub between_same : (p q : List ℕ) (a e : ℕ) → length p ≡ length q → e ≤ length p → Same a e p q → between a e p ≡ between a e q
between_same p q a e len le s =
    ext_get_or 0 (between a e p) (between a e q) (length-between p a e le ∙ sym (length-between q a e (omega arith)))
    (λ i h. let l : a + i < e = omega (arith, length-between p a e le) in
    get_or-between p a e i 0 l ∙ s (a + i) (omega arith) l ∙ sym (get_or-between q a e i 0 l))

-- Writing.

pub length-put16 : (p : List ℕ) (i v : ℕ) → length (put16 p i v) ≡ length p
length-put16 p i v = simp length-set

pub length-put32 : (p : List ℕ) (i v : ℕ) → length (put32 p i v) ≡ length p
length-put32 p i v = simp length-set

pub length-put_mid : (p ys : List ℕ) (i n : ℕ) → length ys ≡ n → i + n ≤ length p → length (put_mid i n p ys) ≡ length p
length-put_mid p ys i n e f = search (rules, places)

-- a byte outside of what is written
get_or-put16 : (p : List ℕ) (i v k : ℕ) → (k < i) ⊎ (i + 2 ≤ k) → get_or (put16 p i v) k 0 ≡ get_or p k 0
get_or-put16 p i v k h = let a : k ≢ i = omega arith in let b : k ≢ i + 1 = omega arith in simp get_or-set_other

get_or-put32 : (p : List ℕ) (i v k : ℕ) → (k < i) ⊎ (i + 4 ≤ k) → get_or (put32 p i v) k 0 ≡ get_or p k 0
get_or-put32 p i v k h =
    let a : k ≢ i = omega arith in
    let b : k ≢ i + 1 = omega arith in
    let c : k ≢ i + 2 = omega arith in
    let d : k ≢ i + 3 = omega arith in simp get_or-set_other

pub same_put16 : (p : List ℕ) (i v a e : ℕ) → (e ≤ i) ⊎ (i + 2 ≤ a) → Same a e (put16 p i v) p
same_put16 p i v a e out k h l = get_or-put16 p i v k (⊎_elim (λ x. inl (omega arith)) (λ x. inr (omega arith)) out)

pub same_put32 : (p : List ℕ) (i v a e : ℕ) → (e ≤ i) ⊎ (i + 4 ≤ a) → Same a e (put32 p i v) p
same_put32 p i v a e out k h l = get_or-put32 p i v k (⊎_elim (λ x. inl (omega arith)) (λ x. inr (omega arith)) out)

pub same_set : (p : List ℕ) (i v a e : ℕ) → (e ≤ i) ⊎ (i + 1 ≤ a) → Same a e (set p i v) p
same_set p i v a e out k h l = let n : k ≢ i = omega arith in simp get_or-set_other

pub same_put_mid : (p ys : List ℕ) (i n a e : ℕ) → length ys ≡ n → i + n ≤ length p → (e ≤ i) ⊎ (i + n ≤ a) → Same a e (put_mid i n p ys) p
same_put_mid p ys i n a e x f out k h l = search (rules, places)

-- what was written is read back
pub get16-put16 : (p : List ℕ) (i v : ℕ) → i + 2 ≤ length p → v < 65536 → get16 (put16 p i v) i ≡ v
get16-put16 p i v h small =
    let a : i < length p = omega arith in
    let b : i + 1 < length (set p i (v % 256)) = simp length-set (omega arith) in
    let n : i ≢ i + 1 = omega arith in
    simp (get_or-set_same, get_or-set_other) (omega arith)

pub get32-put32 : (p : List ℕ) (i v : ℕ) → i + 4 ≤ length p → v < 4294967296 → get32 (put32 p i v) i ≡ v
get32-put32 p i v h small =
    let a : i < length p = omega arith in
    let b : i + 1 < length p = omega arith in
    let c : i + 2 < length p = omega arith in
    let d : i + 3 < length p = omega arith in
    grind (arith, get_or-set_same, get_or-set_other, length-set)
