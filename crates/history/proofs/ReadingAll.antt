-- Reading, next after next, gives the listed versions in address order, once each.
--
-- Each version that is found lies above the one before it, and the heap has an end: so reading ends.
use Rattle.std.proofs.Common.{◌≡◌, ℕ, zero, suc, ◌+◌, ◌*◌, ◌<◌, ◌≤◌, true, ◌⊎◌, List, [], ◌∷◌, length, get_or, Some, None, Ok, Option, sym, refl, ap, ◌∙◌, inl, inr, arith}
use Rattle.std.proofs.lemmas.Bool.Decides.{nat_tests}
use Rattle.page.specs.Headers.{count_of}
use Rattle.page.specs.declared.versions.Address.{Address}
use Rattle.refusal.specs.declared.Refusal.{Refusal}
use Rattle.snapshot.specs.Snapshots.{SnapshotData}
use Rattle.heap_read.specs.Reading.{FoundRow}
use Rattle.history.specs.Archive.{Archive, page_at, slot_in, is_above}
use Rattle.history.specs.Calls.Reading.{next}
use Rattle.history.specs.Checks.{first_failing, reading_checks}
use Rattle.history.specs.Granted.{next_for, found, for_place, reply_by, shown}
use Rattle.history.specs.Ledger.{Ledger, Listed, nowhere}
use Rattle.history.specs.Claim.{Is, is_past, FirstPast, NextIs, ReadsFrom, Among, Ascending, Lists}
use Rattle.history.specs.Claim.ReadsFrom.{at_end, finds}
use Rattle.history.specs.Claim.Among.{first, later}
use Rattle.history.specs.Claim.Ascending.{nil, cons}
use Rattle.history.proofs.Invariant.{Agrees, SlotsAgree, id_at}
use Rattle.history.proofs.Visible.{There, listed_there}
use Rattle.history.proofs.Heap.{InHeap, held_in}
use Rattle.history.proofs.Nexts.{above_then, above_other, next_right}

-- an address by its place in the heap: a page has fewer than 4,096 pointers
rank : Address → ℕ
rank a = a.block * 4096 + a.pointer

count_below : (p : List ℕ) → count_of p < 4096
count_below p = omega arith

rank_rises : (c a : Address) → is_above c a ≡ true → a.pointer < 4096 → rank a < rank c
unfolding rank
rank_rises c a h l = grind (arith, nat_tests)

rank_below : (a : Address) (n : ℕ) → a.block < n → a.pointer < 4096 → rank a < n * 4096
unfolding rank
rank_below a n h l = omega arith

among_none : (g : FoundRow) (fs : List FoundRow) → fs ≡ [] → Among g fs → ⊥
among_none g _ e (first fs) = let z : ◌≡◌ {A = ℕ} 0 1 = cc in omega arith
among_none g _ e (later f fs i) = let z : ◌≡◌ {A = ℕ} 0 1 = cc in omega arith

among_cases : (g f : FoundRow) (fs gs : List FoundRow) → gs ≡ f ∷ fs → Among g gs → (g ≡ f) ⊎ Among g fs
among_cases g f fs _ e (first gs) = inl (cc)
among_cases g f fs _ e (later x gs i) = let z : gs ≡ fs = cc in inr (rw z at i)

module _ (s : Archive) (l : Ledger) (base low : ℕ) (g : Agrees s.xacts l.transactions base low)
    (q : SlotsAgree s.xacts l.transactions l.versions base low (slot_in s.pages))
    (k : ℕ) (sn : SnapshotData) (pl : get_or s.xacts.places k None ≡ Some sn)
    (granted : (a : Address) → a.block < length s.pages → first_failing (reading_checks s (next k a)) ≡ None) where
  -- next is not refused, and shows what is found for the snapshot
  pub next_shown : (a : Address) → a.block < length s.pages → shown s (next k a) ≡ Ok (next_for s sn a)
  next_shown a h =
      ap (λ (o : Option Refusal). reply_by o (found s (next k a))) (granted a h)
      ∙ ap (λ (o : Option SnapshotData). Ok (for_place (λ sn. next_for s sn a) o)) pl

  there : (v : ℕ) → Listed l k v → There s.xacts l base low g (slot_in s.pages) q k sn pl v
  there = listed_there s.xacts l base low g (slot_in s.pages) q k sn pl

  listed_in : (v : ℕ) → Listed l k v → InHeap s.pages (l.versions.entry v).address
  listed_in v y = let t = there v y in held_in s.pages (l.versions.entry v).address t.what t.is

  -- two listed versions have two addresses
  same_version : (v w : ℕ) → Listed l k v → Listed l k w → (l.versions.entry v).address ≡ (l.versions.entry w).address → v ≡ w
  same_version v w x y e = sym (there v x).id ∙ ap (id_at l.versions) e ∙ (there w y).id

  -- what is read from a on: the listed versions past it
  record Rest (a : Address) : Type 0 where
    pub rows : List FoundRow
    pub reads : ReadsFrom s k a rows
    pub ascending : Ascending rows
    pub only : (f : FoundRow) → Among f rows → (v : ℕ) × Listed l k v × Is l v f × (is_past l a v ≡ true)
    pub all : (v : ℕ) → Listed l k v → is_past l a v ≡ true → (f : FoundRow) × Among f rows × Is l v f

  -- where next finds none, all is read; else the version that is found comes first, and what is read from it on follows
  read_none : (a : Address) → shown s (next k a) ≡ Ok None → NextIs l k a None → Rest a
  read_none a e none = record {
    rows = [];
    reads = at_end a e;
    ascending = nil;
    only = λ f i. absurd (among_none f [] refl i);
    all = λ v y p. absurd (none v y p);
  }

  read_one : (a : Address) (f : FoundRow) → shown s (next k a) ≡ Ok (Some f) → FirstPast l k a f → Rest f.address → Rest a
  read_one a f e o r = record {
    rows = f ∷ r.rows;
    reads = finds a f r.rows e r.reads;
    ascending = cons f r.rows above r.ascending;
    only = λ h i. among h (among_cases h f r.rows (f ∷ r.rows) refl i);
    all = λ v y p. lists v y p (above_other _ _ (o.lowest v y p));
  }
    where
      at : f.address ≡ (l.versions.entry o.version).address
      at = o.is.same_address_lem

      above : (h : FoundRow) → Among h r.rows → is_above h.address f.address ≡ true
      above h i = let w = r.only h i in rw w.2.same_address_lem w.3

      among : (h : FoundRow) → (h ≡ f) ⊎ Among h r.rows → (v : ℕ) × Listed l k v × Is l v h × (is_past l a v ≡ true)
      among h (inl z) = (o.version, o.listed, rw z o.is, o.past)
      among h (inr i) =
          let w = r.only h i in
          (w.0, w.1, w.2, above_then (l.versions.entry w.0).address f.address a w.3 (rw at o.past))

      lists : (v : ℕ) → Listed l k v → is_past l a v ≡ true
          → ((l.versions.entry o.version).address ≡ (l.versions.entry v).address)
          ⊎ (is_above (l.versions.entry v).address (l.versions.entry o.version).address ≡ true)
          → (h : FoundRow) × Among h (f ∷ r.rows) × Is l v h
      lists v y p (inl z) = let i = same_version o.version v o.listed y z in (f, first r.rows, rw (sym i) o.is)
      lists v y p (inr z) = let w = r.all v y (rw at z) in (w.0, later f r.rows w.1, w.2)

  -- n bounds how many addresses lie above a
  read : (n : ℕ) (a : Address) → a.block < length s.pages → a.pointer < 4096 → length s.pages * 4096 ≤ n + rank a → Rest a
  read zero a h m b = absurd (omega (arith, rank_below a (length s.pages) h m))
  read (suc n) a h m b = go (next_for s sn a) (next_shown a h) (next_right s.xacts l base low g s.pages q k sn pl a) (read n)
    where
      go : (r : Option FoundRow) → shown s (next k a) ≡ Ok r → NextIs l k a r
          → ((c : Address) → c.block < length s.pages → c.pointer < 4096 → length s.pages * 4096 ≤ n + rank c → Rest c) → Rest a
      go None e none ih = read_none a e none
      go (Some f) e o ih =
          let i : InHeap s.pages f.address = rw o.is.same_address_lem (listed_in o.version o.listed) in
          let up : is_above f.address a ≡ true = rw o.is.same_address_lem o.past in
          let c = count_below (page_at s.pages f.address.block) in
          read_one a f e o
          (ih f.address i.block_in (omega (arith, i.pointer_high)) (omega (arith, rank_rises f.address a up m)))

  pub reading_right : 1 ≤ length s.pages → (fs : List FoundRow) × ReadsFrom s k nowhere fs × Lists l k fs
  reading_right some =
      let r = read (length s.pages * 4096) nowhere (omega arith) (omega arith) (omega arith) in (
        r.rows,
        r.reads,
        record {
          ascending = r.ascending;
          only = λ f i. let w = r.only f i in (w.0, w.1, w.2);
          all = λ v y. r.all v y (past v y);
        },
      )
    where
      past : (v : ℕ) → Listed l k v → is_past l nowhere v ≡ true
      past v y = let h = (listed_in v y).pointer_low in grind (arith, nat_tests)
