-- What each call leaves of a sound plain source. The statuses have 16 places.
use Rattle.std.proofs.Common.{◌≡◌, ℕ, ◌+◌, ◌<◌, ◌≤◌, Bool, true, false, leb, List, length, get_or, set, ap, ◌∙◌, ⊎_elim, arith}
use Rattle.std.proofs.lemmas.List.{get_or-set_same, get_or-set_other}
use Rattle.std.proofs.lemmas.Bool.{leb-false}
use Rattle.xid.specs.declared.statuses.Status.{Status}
use Rattle.xid.specs.declared.statuses.Status.TheVariants.{Open, Unknown}
use Rattle.xid.specs.declared.statuses.End.{End}
use Rattle.xid.specs.Numbers.{distance, successor, in_window}
use Rattle.xid.specs.Statuses.{end_status, is_open}
use Rattle.xid.specs.Meaning.{Known, windowed, meaning_by, forgettable, after_open, after_close, after_forget}
use Rattle.xid.proofs.Distances.{distance_apart, successor_steps}
use Rattle.xid.proofs.Stored.{opened_by, opened_known, closed_by, closed_known, open_within, forgot_by, forgot_known, forgettable_near}
use Rattle.xid.proofs.Windows.{window_within, window_from, window_shrinks}
use Rattle.plain_source.specs.Bounded.{stored_at, Bounded}

-- open: the next number's place has open
module _ (statuses statuses' : List Status) (all : length statuses ≡ 16) (o n n' : ℕ) (wrote : statuses' ≡ set statuses (distance o n) Open) (moved : n' ≡ successor n)
    (s : Bounded o n (stored_at statuses o)) (room : leb 8 (distance o n) ≡ false) where
  near : distance o n < 8
  near = leb-false 8 (distance o n) room

  here : stored_at (set statuses (distance o n) Open) o n ≡ Open
  here = get_or-set_same statuses (distance o n) Open Unknown (omega (arith, near))

  kept : (x : ℕ) → in_window o n x ≡ true → (x ≡ n → ⊥) → stored_at (set statuses (distance o n) Open) o x ≡ stored_at statuses o x
  kept x t e = get_or-set_other statuses (distance o n) (distance o x) Open Unknown (λ q. omega (arith, q, (window_within o n x t).near))

  known_then : Known o (successor n) (stored_at (set statuses (distance o n) Open) o)
  known_then = opened_known o n false false (stored_at statuses o) (stored_at (set statuses (distance o n) Open) o) s.oldest_low s.oldest_high s.next_low s.next_high
      (omega (arith, s.near)) here kept s.known

  pub opened_meaning : (f : Bool) → meaning_by o n' f (stored_at statuses' o) ≡ after_open (meaning_by o n (leb 8 (distance o n)) (stored_at statuses o)) f
  opened_meaning f = rw (wrote, moved) (opened_by o n (leb 8 (distance o n)) f (stored_at statuses o) (stored_at (set statuses (distance o n) Open) o)
      s.oldest_low s.oldest_high s.next_low s.next_high (omega (arith, s.near)) room here kept)

  pub opened_bounded : Bounded o n' (stored_at statuses' o)
  opened_bounded = rw (wrote, moved) (⊎_elim
      (λ h. let e = h.0 in let high = h.1 in let d = h.2 in let low = s.next_low in record {
        oldest_low = s.oldest_low;
        oldest_high = s.oldest_high;
        next_low = omega arith;
        next_high = omega arith;
        known = known_then;
        near = omega (arith, near, d);
      })
      (λ h. let e = h.0 in let d = h.2 in record {
        oldest_low = s.oldest_low;
        oldest_high = s.oldest_high;
        next_low = omega arith;
        next_high = omega arith;
        known = known_then;
        near = omega (arith, near, d);
      })
      (successor_steps o n s.oldest_low s.oldest_high s.next_high (omega (arith, s.near))))

-- close: the place of x has its end
module _ (statuses statuses' : List Status) (all : length statuses ≡ 16) (o n x : ℕ) (e : End) (wrote : statuses' ≡ set statuses (distance o x) (end_status e))
    (s : Bounded o n (stored_at statuses o)) (t : is_open (windowed o n (stored_at statuses o) x) ≡ true) where
  within : in_window o n x ≡ true
  within = open_within o n false false (stored_at statuses o) (stored_at statuses o) x t

  ended : stored_at (set statuses (distance o x) (end_status e)) o x ≡ end_status e
  ended = get_or-set_same statuses (distance o x) (end_status e) Unknown (omega (arith, s.near, (window_within o n x within).near))

  others : (y : ℕ) → in_window o n y ≡ true → (y ≡ x → ⊥) → stored_at (set statuses (distance o x) (end_status e)) o y ≡ stored_at statuses o y
  others y u ne = get_or-set_other statuses (distance o x) (distance o y) (end_status e) Unknown
      (λ q. ne (distance_apart o y x s.oldest_high (window_within o n y u).high (window_within o n x within).high q))

  pub closed_bounded : Bounded o n (stored_at statuses' o)
  closed_bounded = record {
    oldest_low = s.oldest_low;
    oldest_high = s.oldest_high;
    next_low = s.next_low;
    next_high = s.next_high;
    known = rw wrote (closed_known o n false false (stored_at statuses o) (stored_at (set statuses (distance o x) (end_status e)) o) x e ended others s.known);
    near = s.near;
  }

  pub closed_meaning : (f : Bool) → meaning_by o n f (stored_at statuses' o) ≡ after_close (meaning_by o n (leb 8 (distance o n)) (stored_at statuses o)) x e f
  closed_meaning f = rw wrote (closed_by o n (leb 8 (distance o n)) f (stored_at statuses o) (stored_at (set statuses (distance o x) (end_status e)) o) x e t
      ended others)

-- forget: the statuses have moved down by the distance of c
module _ (statuses down : List Status) (o n c : ℕ) (s : Bounded o n (stored_at statuses o)) (ch : c < 4294967296) (t : forgettable (meaning_by o n (leb 8 (distance o n)) (stored_at statuses o)) c ≡ true)
    (moved : (k : ℕ) → get_or down k Unknown ≡ get_or statuses (distance o c + k) Unknown) where
  reached : (3 ≤ c) × (distance o c ≤ distance o n)
  reached = forgettable_near o n (leb 8 (distance o n)) false (stored_at statuses o) (stored_at statuses o) c s.next_low t

  same : (x : ℕ) → in_window c n x ≡ true → stored_at down c x ≡ stored_at statuses o x
  same x i = moved (distance c x) ∙ ap (λ k. get_or statuses k Unknown) (window_from o n c s.oldest_high s.next_high ch reached.1 x i).1

  pub forgot_meaning : (f : Bool) → meaning_by c n f (stored_at down c) ≡ after_forget (meaning_by o n (leb 8 (distance o n)) (stored_at statuses o)) c f
  forgot_meaning f = forgot_by o n (leb 8 (distance o n)) f (stored_at statuses o) (stored_at down c) c s.oldest_high s.next_low s.next_high ch t same

  pub forgot_bounded : Bounded c n (stored_at down c)
  forgot_bounded = record {
    oldest_low = reached.0;
    oldest_high = ch;
    next_low = s.next_low;
    next_high = s.next_high;
    known = forgot_known o n (leb 8 (distance o n)) false (stored_at statuses o) (stored_at down c) c s.oldest_high s.next_low s.next_high ch t same s.known;
    near = omega (arith, s.near, window_shrinks o n c s.oldest_high s.next_high ch reached.1);
  }
