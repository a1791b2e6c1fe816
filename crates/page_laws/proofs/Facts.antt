-- The tests of a lawful page and the facts behind them.
use Rattle.std.proofs.Common.{◌≡◌, ℕ, ◌+◌, ◌-◌, ◌%◌, ◌<◌, ◌≤◌, Bool, true, ◌&&◌, List, refl, arith}
use Rattle.std.proofs.lemmas.Bool.{and_parts, and_from, eq-eqb, le-leb}
use Rattle.std.proofs.lemmas.Bool.Decides.{nat_tests}
use Rattle.page.specs.Headers.{header_of, pointer_count, count_of}
use Rattle.page.specs.LinePointers.{line_pointer_at, pointer_at}
use Rattle.page.specs.Slots.{slot_no}
use Rattle.page.specs.declared.kinds.Kind.{Kind}
use Rattle.page.specs.declared.headers.PageHeader.{PageHeader}
use Rattle.page_check.specs.All.{each, all_of}
use Rattle.page_check.specs.Rules.{header_holds, header_rules, apart, name_of, leads_well, other_name, page_holds}
use Rattle.page_check.specs.Lawful.{is_lawful, own_holds}
use Rattle.page_check.specs.declared.rules.PageRule.TheVariants.{NoOverlap, RedirectTarget, NamedOnce}
use Rattle.page_check.proofs.All.{all_to_at, all_to_from}
use Rattle.page_laws.specs.Keeps.{HeaderKeeps, Keeps}

pub header_tells : (h : PageHeader) → all_of (header_holds h) header_rules ≡ true → HeaderKeeps h
header_tells h e = record {
  special_at_end = grind (arith, nat_tests);
  layout_version = grind (arith, nat_tests);
  no_flags = grind (arith, nat_tests);
  lower_past_header = grind (arith, nat_tests);
  lower_by_upper = grind (arith, nat_tests);
  upper_in_page = grind (arith, nat_tests);
  whole_pointers = grind (arith, nat_tests);
  upper_aligned = grind (arith, nat_tests);
  pointer_limit = grind (arith, nat_tests);
}

pub header_from : (h : PageHeader) → HeaderKeeps h → all_of (header_holds h) header_rules ≡ true
header_from h k =
    and_from _ _ (eq-eqb h.special 8192 k.special_at_end)
    (and_from _ _ (eq-eqb h.version 0x2004 k.layout_version)
    (and_from _ _ (eq-eqb h.flags 0 k.no_flags)
    (and_from _ _ (le-leb 24 h.lower k.lower_past_header)
    (and_from _ _ (le-leb h.lower h.upper k.lower_by_upper)
    (and_from _ _ (le-leb h.upper 8192 k.upper_in_page)
    (and_from _ _ (eq-eqb ((h.lower - 24) % 4) 0 k.whole_pointers)
    (and_from _ _ (eq-eqb (h.upper % 8) 0 k.upper_aligned)
    (and_from _ _ (le-leb (pointer_count h) 291 k.pointer_limit) refl))))))))

-- the numbers 1 to c, and the pairs of them
pub each_at : (f : ℕ → Bool) (c n : ℕ) → each f c ≡ true → 1 ≤ n → n ≤ c → f n ≡ true
each_at f c n h a b = let e : (n - 1) + 1 ≡ n = omega arith in rw e at (all_to_at (λ k. f (k + 1)) c (n - 1) h (omega arith))

pub each_from : (f : ℕ → Bool) (c : ℕ) → ((n : ℕ) → 1 ≤ n → n ≤ c → f n ≡ true) → each f c ≡ true
each_from f c h = all_to_from (λ k. f (k + 1)) c (λ k l. h (k + 1) (omega arith) (omega arith))

pub pairs_at : (g : ℕ → ℕ → Bool) (c n m : ℕ) → each (λ n. each (g n) (n - 1)) c ≡ true → 1 ≤ m → m < n → n ≤ c → g n m ≡ true
pairs_at g c n m h a b l = each_at (g n) (n - 1) m (each_at (λ n. each (g n) (n - 1)) c n h (omega arith) l) a (omega arith)

pub pairs_from : (g : ℕ → ℕ → Bool) (c : ℕ) → ((n m : ℕ) → 1 ≤ m → m < n → n ≤ c → g n m ≡ true) → each (λ n. each (g n) (n - 1)) c ≡ true
pairs_from g c h = each_from (λ n. each (g n) (n - 1)) c (λ n a l. each_from (g n) (n - 1) (λ m x y. h n m x (omega arith) l))

module _ (kinds : List Kind) (b : ℕ) (p : List ℕ) where
  abbrev A : Bool
  A = all_of (header_holds (header_of p)) header_rules

  abbrev B : Bool
  B = each (λ n. own_holds kinds p (line_pointer_at p n)) (count_of p)

  abbrev C : Bool
  C = each (λ n. page_holds b p n NoOverlap) (count_of p)

  abbrev D : Bool
  D = each (λ n. page_holds b p n RedirectTarget) (count_of p)

  abbrev E : Bool
  E = each (λ n. page_holds b p n NamedOnce) (count_of p)

  pub lawful_tells : is_lawful kinds b p ≡ true → Keeps kinds b p
  lawful_tells h =
      let e = and_parts (A && B && C && D) E h in
      let d = and_parts (A && B && C) D e.0 in
      let c = and_parts (A && B) C d.0 in
      let a = and_parts A B c.0 in
      record {
        header = header_tells (header_of p) a.0;
        own = λ n x y. each_at (λ n. own_holds kinds p (line_pointer_at p n)) (count_of p) n a.1 x y;
        no_overlap = λ n m. pairs_at (λ n j. apart (pointer_at p n) (pointer_at p j)) (count_of p) n m c.1;
        redirect_target = λ n x y. each_at (λ n. leads_well (slot_no p) (slot_no p n)) (count_of p) n d.1 x y;
        named_once = λ n m. pairs_at (λ n j. other_name (name_of b (slot_no p) (slot_no p n)) (name_of b (slot_no p) (slot_no p j))) (count_of p) n m e.1;
      }

  pub lawful_from : Keeps kinds b p → is_lawful kinds b p ≡ true
  lawful_from k =
      and_from (A && B && C && D) E
      (and_from (A && B && C) D
      (and_from (A && B) C
      (and_from A B (header_from (header_of p) k.header)
      (each_from (λ n. own_holds kinds p (line_pointer_at p n)) (count_of p) k.own))
      (pairs_from (λ n j. apart (pointer_at p n) (pointer_at p j)) (count_of p) k.no_overlap))
      (each_from (λ n. leads_well (slot_no p) (slot_no p n)) (count_of p) k.redirect_target))
      (pairs_from (λ n j. other_name (name_of b (slot_no p) (slot_no p n)) (name_of b (slot_no p) (slot_no p j))) (count_of p) k.named_once)
