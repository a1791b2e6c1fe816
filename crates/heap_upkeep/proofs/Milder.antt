-- Hints and the marks of freeze name no more than before.
use Rattle.std.proofs.Common.{◌≡◌, ℕ, ◌<◌, Bool, true, false, cond, not, ◌&&◌, ◌||◌, eqb, leb, refl, arith}
use Rattle.std.proofs.lemmas.Bool.{and_parts, not-true}
use Rattle.page.specs.Slots.{Version}
use Rattle.page_write_laws.specs.Slots.{Replaces, Milder}
use Rattle.xid.specs.Numbers.{precedes}
use Rattle.xid.specs.declared.statuses.Status.{Status}
use Rattle.xid.specs.declared.statuses.Status.TheVariants.{Unknown}
use Rattle.heap_read.specs.Fates.{remover_fate, remover_by_status}
use Rattle.heap_read.specs.Links.{is_none}
use Rattle.heap_read.specs.declared.fates.RemoverFate.TheVariants as remover
use Rattle.heap_upkeep.specs.Hints.{is_committed, is_aborted, remover_news, hinted}
use Rattle.heap_upkeep.specs.Freezing.{to_clear, frozen_at}

-- news of a remover never gives it both bits
one_bit_lem : (z a b : Bool) (s : Status) → (a && b) ≡ false
    → ((a || is_committed (cond (z || a || b) Unknown s)) && (b || is_aborted (cond (z || a || b) Unknown s))) ≡ false
one_bit_lem z a b s h = grind arith

-- a bit more keeps the rule on the remover's number
number_more : (a z b x : Bool) → (a || (z && b)) ≡ true → (a || (z && (b || x))) ≡ true
number_more a z b x h = grind arith

pub hinted_milder : (told : ℕ → Status) (u : Version) → Replaces u u → Milder u (hinted told u)
hinted_milder told u r = record {
  replaces = record {
    creator = refl;
    heap_only = refl;
    row = refl;
    remover = r.remover;
    block = r.block;
    pointer = r.pointer;
    one_bit = one_bit_lem (eqb u.remover 0) u.remover_committed u.remover_invalid (told u.remover) r.one_bit;
    number = number_more (leb 3 u.remover) (eqb u.remover 0) u.remover_invalid (is_aborted (remover_news told u)) r.number;
  };
  ctid = refl;
  hot = λ h. (h, refl);
}

-- a remover that is cleared had no committed bit
fate_none : (z a b : Bool) (s : Status) → (a && b) ≡ false → z ≡ false → is_none (cond (z || b) remover.None (cond a remover.Committed (remover_by_status s))) ≡ true → a ≡ false
fate_none z a b s h zf n = grind arith

cleared_bit : (told : ℕ → Status) (c : ℕ) (u : Version) → (u.remover_committed && u.remover_invalid) ≡ false → to_clear told c u ≡ true → u.remover_committed ≡ false
cleared_bit told c u h e =
    let one = and_parts (not (eqb u.remover 0) && is_none (remover_fate told u)) (precedes u.remover c) e in
    let two = and_parts (not (eqb u.remover 0)) (is_none (remover_fate told u)) one.0 in
    fate_none (eqb u.remover 0) u.remover_committed u.remover_invalid (told u.remover) h (not-true (eqb u.remover 0) two.0) two.1

-- the rules on a remover, where it is cleared or not
mark_bit : (a b x : Bool) → (a && b) ≡ false → (x ≡ true → a ≡ false) → (a && (b || x)) ≡ false
mark_bit a b x h k = grind arith

mark_number : (x b : Bool) (n : ℕ) → (leb 3 n || (eqb n 0 && b)) ≡ true → (leb 3 (cond x 0 n) || (eqb (cond x 0 n) 0 && (b || x))) ≡ true
mark_number x b n h = grind arith

mark_small : (x : Bool) (n : ℕ) → n < 4294967296 → cond x 0 n < 4294967296
mark_small x n h = grind arith

mark_hot : (x hot : Bool) (n : ℕ) → (hot && not x) ≡ true → (hot ≡ true) × (cond x 0 n ≡ n)
mark_hot x hot n h = (grind arith, grind arith)

pub frozen_milder : (told : ℕ → Status) (c : ℕ) (u : Version) → Replaces u u → Milder u (frozen_at told c u)
frozen_milder told c u r = record {
  replaces = record {
    creator = refl;
    heap_only = refl;
    row = refl;
    remover = mark_small (to_clear told c u) u.remover r.remover;
    block = r.block;
    pointer = r.pointer;
    one_bit = mark_bit u.remover_committed u.remover_invalid (to_clear told c u) r.one_bit (cleared_bit told c u r.one_bit);
    number = mark_number (to_clear told c u) u.remover_invalid u.remover r.number;
  };
  ctid = refl;
  hot = λ h. mark_hot (to_clear told c u) u.hot_updated u.remover h;
}
