-- Places of the endless line: their numbers, and the windows between two of them.
use Rattle.std.proofs.Common.{◌≡◌, ℕ, ◌+◌, ◌-◌, ◌<◌, ◌≤◌, true, ◌⊎◌, inl, inr, arith}
use Rattle.std.proofs.lemmas.Bool.{cases_lt}
use Rattle.xid.specs.Numbers.{distance, in_window}
use Rattle.xid.specs.Line.{number_on, full_number}
use Rattle.xid.proofs.Line.{number_on_low, number_on_high, full_number_less, full_number_most, distance_full}
use Rattle.xid.proofs.Windows.{Within, window_within, within_window}

-- the numbers of two places that are less than half a round apart differ
pub numbers_apart : (p q : ℕ) → p < q → full_number q < full_number p + 2147483648 → number_on p ≡ number_on q → ⊥
unfolding full_number
numbers_apart p q h near e = omega arith

pub full_back : (p q : ℕ) → full_number p < full_number q → p < q
full_back p q h = go (cases_lt p q)
  where
    go : (p < q) ⊎ (q ≤ p) → p < q
    go (inl l) = l
    go (inr l) = absurd (omega (arith, full_number_most q p l))

-- one place further: one number, or four at the end of a lap
pub full_one : (p : ℕ) → full_number (p + 1) ≤ full_number p + 4
unfolding full_number
full_one p = omega arith

full_lap : (p : ℕ) → full_number (p + 4294967293) ≡ full_number p + 4294967296
unfolding full_number
full_lap p = omega arith

-- the number x stands at a place of the window, which reaches from the place low to below the place n
pub record At (low n x : ℕ) : Type 0 where
  pub place : ℕ
  pub from : low ≤ place
  pub below : place < n
  pub is : x ≡ number_on place

place_up : (low x : ℕ) → x < 4294967296 → number_on low ≤ x → x ≡ number_on (low + (x - number_on low))
place_up low x h k = omega arith

place_down : (low x : ℕ) → 3 ≤ x → x < number_on low → x ≡ number_on (low + (x + 4294967293 - number_on low))
place_down low x h k = omega arith

module _ (low n : ℕ) (up : low ≤ n) (near : full_number n < full_number low + 2147483648) where
  reached : full_number low + distance (number_on low) (number_on n) ≡ full_number n
  reached = distance_full low n up (omega arith)

  -- a number of the window stands at one of its places
  pub place_of : (x : ℕ) → in_window (number_on low) (number_on n) x ≡ true → At low n x
  place_of x w = go (cases_lt x (number_on low))
    where
      i : Within (number_on low) (number_on n) x
      i = window_within (number_on low) (number_on n) x w

      found : (p : ℕ) → low ≤ p → p < low + 4294967293 → x ≡ number_on p → At low n x
      found p f u e =
          let m = full_number_less p (low + 4294967293) u in
          let t = full_lap low in
          let d : full_number low + distance (number_on low) (number_on p) ≡ full_number p = distance_full low p f (omega arith) in
          let d' : full_number low + distance (number_on low) x ≡ full_number p = rw e d in
          record { place = p; from = f; below = full_back p n (omega (arith, i.near, d', reached)); is = e }

      go : (x < number_on low) ⊎ (number_on low ≤ x) → At low n x
      go (inl u) = found (low + (x + 4294967293 - number_on low)) (omega arith) (omega arith) (place_down low x i.low u)
      go (inr u) = found (low + (x - number_on low)) (omega arith) (omega (arith, i.high)) (place_up low x i.high u)

-- and a place of the window has its number in it
pub at_window : (low n p : ℕ) → low ≤ p → p < n → full_number n < full_number low + 2147483648 → in_window (number_on low) (number_on n) (number_on p) ≡ true
at_window low n p f b near =
    let m = full_number_less p n b in
    let d : full_number low + distance (number_on low) (number_on p) ≡ full_number p = distance_full low p f (omega arith) in
    within_window (number_on low) (number_on n) (number_on p) (number_on_low p) (number_on_high p) (omega (arith, reached low n (omega arith) near))

-- distances are in the order of the places
pub distance_order : (low p q : ℕ) → low ≤ p → low ≤ q → full_number p < full_number low + 2147483648 → full_number q < full_number low + 2147483648
    → distance (number_on low) (number_on p) ≤ distance (number_on low) (number_on q) → p ≤ q
distance_order low p q f g near near' h = go (cases_lt q p)
  where
    go : (q < p) ⊎ (p ≤ q) → p ≤ q
    go (inr l) = l
    go (inl l) = absurd (omega (arith, full_number_less q p l, reached low p f near, reached low q g near', h))
