-- The rows stay linked: as transactions move on, as each version is changed in place, as a version is added.
use Rattle.std.proofs.Common.{◌≡◌, ℕ, ◌<◌, ◌≤◌, Bool, true, false, not, ◌⊎◌, List, Some, sym, refl, ap, ◌∙◌, subst, inl, inr, arith}
use Rattle.std.proofs.lemmas.Bool.{both_ways}
use Rattle.page.specs.Slots.{Version, Slot}
use Rattle.page.specs.Slots.Slot.{unused, dead, redirect, holds}
use Rattle.page.specs.declared.versions.Address.{Address}
use Rattle.page_write_laws.specs.Slots.{on_version}
use Rattle.heap_read.specs.Links.{is_root}
use Rattle.history.specs.Ledger.{VersionLog, Entry, adds}
use Rattle.history.proofs.Addresses.{cases_address}
use Rattle.history.proofs.Invariant.{Before, Prior, Follow, Target, Rows, id_at, maker_at, root_at, pointer_in}
use Rattle.history.proofs.Log.{id_other, entry_here, entry_other, entry_each}

-- Slots.

pub holds_same : (v w : Version) → holds v ≡ holds w → v ≡ w
holds_same v w e = cc

pub unused_holds : (s : Slot) (v : Version) → s ≡ unused → s ≡ holds v → ⊥
unused_holds s v e f = let z : ◌≡◌ {A = ℕ} 0 1 = cc in omega arith

-- a version that stands after a change stood before it
pub held_by : (f : Version → Version) (s : Slot) (w : Version) → on_version f s ≡ holds w → (v : Version) × (s ≡ holds v) × (f v ≡ w)
held_by f unused w e = let z : ◌≡◌ {A = ℕ} 0 1 = cc in absurd (omega arith)
held_by f dead w e = let z : ◌≡◌ {A = ℕ} 0 1 = cc in absurd (omega arith)
held_by f (redirect n) w e = let z : ◌≡◌ {A = ℕ} 0 1 = cc in absurd (omega arith)
held_by f (holds v) w e = (v, refl, holds_same (f v) w e)

redirect_by : (f : Version → Version) (s : Slot) (n : ℕ) → on_version f s ≡ redirect n → s ≡ redirect n
redirect_by f unused n e = e
redirect_by f dead n e = e
redirect_by f (redirect m) n e = e
redirect_by f (holds v) n e = let z : ◌≡◌ {A = ℕ} 0 1 = cc in absurd (omega arith)

pub root_by : (f : Version → Version) (s : Slot) → ((v : Version) → s ≡ holds v → (f v).heap_only ≡ v.heap_only) → is_root (on_version f s) ≡ is_root s
root_by f unused h = refl
root_by f dead h = refl
root_by f (redirect n) h = refl
root_by f (holds v) h = ap not (h v refl)

pub on_same : (s : Slot) → on_version (λ v. v) s ≡ s
on_same unused = refl
on_same dead = refl
on_same (redirect n) = refl
on_same (holds v) = refl

-- Transactions move on.
pub rows_moves : (al al' cm cm' : ℕ → Bool) (begun begun' : ℕ) (b : VersionLog) (S : Address → Slot) → begun ≤ begun'
    → ((i : ℕ) → i < begun → al' i ≡ true → al i ≡ true) → ((i : ℕ) → cm i ≡ true → cm' i ≡ true)
    → ((a : Address) (v : Version) → S a ≡ holds v → maker_at b a < begun) → Rows al cm begun b S → Rows al' cm' begun' b S
rows_moves al al' cm cm' begun begun' b S up less more mb q = record {
  rec_begun = λ v i r. omega (arith, q.rec_begun v i r);
  root_is = q.root_is;
  root_block = q.root_block;
  first = q.first;
  prior = λ a v e h m. q.prior a v e h (less (maker_at b a) (mb a v e) m);
  follow = λ c u e h i r m. q.follow c u e h i r (less i (q.rec_begun (id_at b c) i r) m);
  redirected = λ r n e. let k = q.redirected r n e in record { what = k.what; is = k.is; only = k.only; is_committed_lem = more _ k.is_committed_lem; row_is = k.row_is };
}

-- Each version is changed in place, and with it who is recorded: v becomes w, rec becomes rec'. What w names v named too, and a name that
-- leads to a version that is not aborted stays.
pub record Alike (al rec rec' : ℕ → Bool) (v w : Version) : Type 0 where
  pub same_only : w.heap_only ≡ v.heap_only
  pub same_creator : w.creator ≡ v.creator
  pub hot_was : w.hot_updated ≡ true → (v.hot_updated ≡ true) × (w.ctid ≡ v.ctid) × (w.remover ≡ v.remover)
  pub hot_rec : w.hot_updated ≡ true → (i : ℕ) → rec' i ≡ true → rec i ≡ true
  pub alive_hot : (i : ℕ) → rec i ≡ true → al i ≡ true → v.hot_updated ≡ true → (w.hot_updated ≡ true) × (w.ctid ≡ v.ctid)

pub alike_same : (al rec rec' : ℕ → Bool) (v : Version) → ((i : ℕ) → rec' i ≡ true → rec i ≡ true) → Alike al rec rec' v v
alike_same al rec rec' v h = record {
  same_only = refl;
  same_creator = refl;
  hot_was = λ z. (z, refl, refl);
  hot_rec = λ z. h;
  alive_hot = λ i r m z. (z, refl);
}

module _ (al cm : ℕ → Bool) (begun : ℕ) (b : VersionLog) (rec' : ℕ → ℕ → Bool) (S S' : Address → Slot) (f : Address → Version → Version)
    (is : (a : Address) → S' a ≡ on_version (f a) (S a))
    (alike : (a : Address) (v : Version) → S a ≡ holds v → Alike al (b.recorded (id_at b a)) (rec' (id_at b a)) v (f a v))
    (more-rec : (v i : ℕ) → b.recorded v i ≡ true → rec' v i ≡ true) (begun-rec : (v i : ℕ) → rec' v i ≡ true → i < begun) where
  abbrev b' : VersionLog
  b' = record { added = b.added; entry = b.entry; last_at = b.last_at; recorded = rec' }

  still : (a : Address) (v : Version) → S a ≡ holds v → S' a ≡ holds (f a v)
  still a v e = is a ∙ ap (on_version (f a)) e

  was : (a : Address) (w : Version) → S' a ≡ holds w → (v : Version) × (S a ≡ holds v) × (f a v ≡ w)
  was a w e = held_by (f a) (S a) w (sym (is a) ∙ e)

  only_was : (a : Address) (w : Version) (y : (v : Version) × (S a ≡ holds v) × (f a v ≡ w)) → y.0.heap_only ≡ w.heap_only
  only_was a w y = sym (alike a y.0 y.1).same_only ∙ ap (λ (x : Version). x.heap_only) y.2

  pub rows_each : Rows al cm begun b S → Rows al cm begun b' S'
  rows_each q = record {
    rec_begun = begun-rec;
    root_is = λ v h. ap is_root (is (b.entry v).root) ∙ root_by (f (b.entry v).root) (S (b.entry v).root) (λ w e. (alike _ w e).same_only) ∙ q.root_is v h;
    root_block = q.root_block;
    first = λ a w e h. let y = was a w e in q.first a y.0 y.1 (only_was a w y ∙ h);
    prior = λ a w e h m. let y = was a w e in prior' a m (q.prior a y.0 y.1 (only_was a w y ∙ h) m);
    follow = λ c w e h i r m. follow' c w h i r m (was c w e);
    redirected = redirected';
  }
    where
      prior' : (a : Address) → al (maker_at b a) ≡ true → Prior b S a → Prior b' S' a
      prior' a m (inl e) = inl (is (root_at b a) ∙ ap (on_version (f (root_at b a))) e)
      prior' a m (inr k) =
          let z = (alike k.from k.what k.is).alive_hot (maker_at b a) k.made_by m k.is_hot_lem in
          inr (record {
            from = k.from;
            what = f k.from k.what;
            is = still k.from k.what k.is;
            is_hot_lem = z.0;
            to_is = z.1 ∙ k.to_is;
            made_by = more-rec _ _ k.made_by;
          })

      follow' : (c : Address) (w : Version) → w.hot_updated ≡ true → (i : ℕ) → rec' (id_at b c) i ≡ true → al i ≡ true
          → (u : Version) × (S c ≡ holds u) × (f c u ≡ w) → Follow b' S' c w i
      follow' c w h i r m y =
          let u = y.0 in
          let k = alike c u y.1 in
          let h' : (f c u).hot_updated ≡ true = ap (λ (x : Version). x.hot_updated) y.2 ∙ h in
          let p = k.hot_was h' in
          let n = q.follow c u y.1 p.0 i (k.hot_rec h' i r) m in
          let j = alike u.ctid n.what n.is in
          subst (λ (x : Version). Follow b' S' c x i) y.2
          (record {
            what = f u.ctid n.what;
            is = ap S' p.1 ∙ still u.ctid n.what n.is;
            only = j.same_only ∙ n.only;
            by = j.same_creator ∙ n.by ∙ sym p.2;
            near = ap (λ (x : Address). x.block) p.1 ∙ n.near;
            maker_is = ap (maker_at b) p.1 ∙ n.maker_is;
            same_row = ap (root_at b) p.1 ∙ n.same_row;
            later = subst (λ (x : Address). id_at b c < id_at b x) (sym p.1) n.later;
          })

      redirected' : (r : Address) (n : ℕ) → S' r ≡ redirect n → Target cm b' S' r n
      redirected' r n e =
          let k = q.redirected r n (redirect_by (f r) (S r) n (sym (is r) ∙ e)) in
          record {
            what = f (pointer_in r n) k.what;
            is = still (pointer_in r n) k.what k.is;
            only = (alike _ k.what k.is).same_only ∙ k.only;
            is_committed_lem = k.is_committed_lem;
            row_is = k.row_is;
          }

-- The version w is added at n, which was unused, by the transaction i, in the row with the first address r. The other versions are changed
-- by f: each is as it was, or was not HOT-updated and names what f makes it name.
module _ (b : VersionLog) (i : ℕ) (row : List ℕ) (n r : Address) where
  abbrev more : VersionLog
  more = adds b (Some i) row n r

  module _ (al cm : ℕ → Bool) (begun : ℕ) (S S' : Address → Slot) (f : Address → Version → Version) (w : Version)
      (free : S n ≡ unused) (here : S' n ≡ holds w) (cold : w.hot_updated ≡ false) (is : (a : Address) → (a ≡ n → ⊥) → S' a ≡ on_version (f a) (S a))
      (inside : (a : Address) (v : Version) → S a ≡ holds v → id_at b a < b.added)
      (same_only : (a : Address) (v : Version) → S a ≡ holds v → (f a v).heap_only ≡ v.heap_only)
      (same_creator : (a : Address) (v : Version) → S a ≡ holds v → (f a v).creator ≡ v.creator)
      (named : (a : Address) (v : Version) → S a ≡ holds v
      → (f a v ≡ v) ⊎ ((v.hot_updated ≡ false) × ((j : ℕ) → b.recorded (id_at b a) j ≡ true → al j ≡ true → Follow more S' a (f a v) j)))
      (root_new : is_root (S' r) ≡ true) (block_new : r.block ≡ n.block) (first-new : w.heap_only ≡ false → r ≡ n)
      (prior-new : w.heap_only ≡ true → Before more S' n) (q : Rows al cm begun b S) where
    not_n : (a : Address) (v : Version) → S a ≡ holds v → a ≡ n → ⊥
    not_n a v e z = unused_holds (S a) v (ap S z ∙ free) e

    root_not_n : (a : Address) → is_root (S a) ≡ true → a ≡ n → ⊥
    root_not_n a e z = both_ways false refl (ap is_root (sym free ∙ ap S (sym z)) ∙ e)

    stay : (a : Address) (v : Version) → S a ≡ holds v → S' a ≡ holds (f a v)
    stay a v e = is a (not_n a v e) ∙ ap (on_version (f a)) e

    entry_at : (a : Address) (v : Version) → S a ≡ holds v → more.entry (id_at more a) ≡ b.entry (id_at b a)
    entry_at a v e = entry_other b i row n r a (not_n a v e) (inside a v e)

    id_at_lem : (a : Address) (v : Version) → S a ≡ holds v → id_at more a ≡ id_at b a
    id_at_lem a v e = id_other b i row n r a (not_n a v e)

    abbrev Was : Address → Version → Type 0
    Was a x = (v : Version) × (S a ≡ holds v) × (f a v ≡ x)

    -- what stands afterwards: the new version, or one that stood before
    split : (a : Address) (x : Version) → S' a ≡ holds x → ((a ≡ n) × (w ≡ x)) ⊎ Was a x
    split a x e = go (cases_address a n)
      where
        go : (a ≡ n) ⊎ (a ≡ n → ⊥) → ((a ≡ n) × (w ≡ x)) ⊎ Was a x
        go (inl z) = inl (z, holds_same w x (sym here ∙ ap S' (sym z) ∙ e))
        go (inr k) = inr (held_by (f a) (S a) x (sym (is a k) ∙ e))

    only_before : (a : Address) (x : Version) (y : Was a x) → y.0.heap_only ≡ x.heap_only
    only_before a x y = sym (same_only a y.0 y.1) ∙ ap (λ (z : Version). z.heap_only) y.2

    first' : (a : Address) (x : Version) → x.heap_only ≡ false → ((a ≡ n) × (w ≡ x)) ⊎ Was a x → root_at more a ≡ a
    first' a x h (inl z) =
        ap (root_at more) z.0 ∙ ap (λ (y : Entry). y.root) (entry_here b i row n r) ∙ first-new (ap (λ (y : Version). y.heap_only) z.1 ∙ h) ∙ sym z.0
    first' a x h (inr y) = ap (λ (e : Entry). e.root) (entry_at a y.0 y.1) ∙ q.first a y.0 y.1 (only_before a x y ∙ h)

    prior' : (a : Address) (x : Version) → x.heap_only ≡ true → al (maker_at more a) ≡ true → ((a ≡ n) × (w ≡ x)) ⊎ Was a x → Prior more S' a
    prior' a x h m (inl z) = inr (subst (λ (c : Address). Before more S' c) (sym z.0) (prior-new (ap (λ (y : Version). y.heap_only) z.1 ∙ h)))
    prior' a x h m (inr y) = go (q.prior a y.0 y.1 (only_before a x y ∙ h) (ap (λ (e : Entry). al e.maker) (sym en) ∙ m))
      where
        en : more.entry (id_at more a) ≡ b.entry (id_at b a)
        en = entry_at a y.0 y.1

        go : Prior b S a → Prior more S' a
        go (inl k) =
            inl (ap (λ (e : Entry). S' e.root) en ∙ is (root_at b a) (root_not_n (root_at b a) (q.root_is (id_at b a) (inside a y.0 y.1))) ∙ ap (on_version (f (root_at b a))) k)
        go (inr k) = which (named k.from k.what k.is)
          where
            which : (f k.from k.what ≡ k.what)
                ⊎ ((k.what.hot_updated ≡ false) × ((j : ℕ) → b.recorded (id_at b k.from) j ≡ true → al j ≡ true → Follow more S' k.from (f k.from k.what) j))
                → Prior more S' a
            which (inr z) = absurd (both_ways _ z.0 k.is_hot_lem)
            which (inl z) = inr (record {
              from = k.from;
              what = k.what;
              is = stay k.from k.what k.is ∙ ap holds z;
              is_hot_lem = k.is_hot_lem;
              to_is = k.to_is;
              made_by = ap (λ (m : ℕ). b.recorded m (maker_at more a)) (id_at_lem k.from k.what k.is)
                  ∙ ap (λ (e : Entry). b.recorded (id_at b k.from) e.maker) en ∙ k.made_by;
            })

    -- a version that is as it was names what it named
    follow_same : (c : Address) (u : Version) (j : ℕ) → S c ≡ holds u → Follow b S c u j → Follow more S' c u j
    follow_same c u j e k =
        let to-id = id_at_lem u.ctid k.what k.is in
        let c-id = id_at_lem c u e in
        let l = k.later in
        record {
          what = f u.ctid k.what;
          is = stay u.ctid k.what k.is;
          only = same_only u.ctid k.what k.is ∙ k.only;
          by = same_creator u.ctid k.what k.is ∙ k.by;
          near = k.near;
          maker_is = ap (λ (z : Entry). z.maker) (entry_at u.ctid k.what k.is) ∙ k.maker_is;
          same_row = ap (λ (z : Entry). z.root) (entry_at u.ctid k.what k.is) ∙ k.same_row ∙ ap (λ (z : Entry). z.root) (sym (entry_at c u e));
          later = omega arith;
        }

    follow' : (c : Address) (x : Version) → x.hot_updated ≡ true → (j : ℕ) → b.recorded (id_at more c) j ≡ true → al j ≡ true
        → ((c ≡ n) × (w ≡ x)) ⊎ Was c x → Follow more S' c x j
    follow' c x h j r m (inl z) = absurd (both_ways _ cold (ap (λ (y : Version). y.hot_updated) z.1 ∙ h))
    follow' c x h j r m (inr y) = which (named c y.0 y.1)
      where
        rec : b.recorded (id_at b c) j ≡ true
        rec = ap (λ (k : ℕ). b.recorded k j) (sym (id_at_lem c y.0 y.1)) ∙ r

        which : (f c y.0 ≡ y.0) ⊎ ((y.0.hot_updated ≡ false) × ((j : ℕ) → b.recorded (id_at b c) j ≡ true → al j ≡ true → Follow more S' c (f c y.0) j))
            → Follow more S' c x j
        which (inr z) = subst (λ (v : Version). Follow more S' c v j) y.2 (z.1 j rec m)
        which (inl z) =
            let vx : y.0 ≡ x = sym z ∙ y.2 in
            subst (λ (v : Version). Follow more S' c v j) vx
            (follow_same c y.0 j y.1 (q.follow c y.0 y.1 (ap (λ (v : Version). v.hot_updated) vx ∙ h) j rec m))

    redirected' : (c : Address) (m : ℕ) → S' c ≡ redirect m → (c ≡ n) ⊎ (c ≡ n → ⊥) → Target cm more S' c m
    redirected' c m e (inl z) = let y : holds w ≡ redirect m = sym here ∙ ap S' (sym z) ∙ e in let x : ◌≡◌ {A = ℕ} 0 1 = cc in absurd (omega arith)
    redirected' c m e (inr k) =
        let t = q.redirected c m (redirect_by (f c) (S c) m (sym (is c k) ∙ e)) in
        let en = entry_at (pointer_in c m) t.what t.is in
        record {
          what = f (pointer_in c m) t.what;
          is = stay (pointer_in c m) t.what t.is;
          only = same_only _ t.what t.is ∙ t.only;
          is_committed_lem = ap (λ (z : Entry). cm z.maker) en ∙ t.is_committed_lem;
          row_is = ap (λ (z : Entry). z.root) en ∙ t.row_is;
        }

    pub rows_add : Rows al cm begun more S'
    rows_add = record {
      rec_begun = q.rec_begun;
      root_is = entry_each b i row n r (λ e. is_root (S' e.root) ≡ true) root_new old_root;
      root_block = entry_each b i row n r (λ e. e.root.block ≡ e.address.block) block_new q.root_block;
      first = λ a x e h. first' a x h (split a x e);
      prior = λ a x e h m. prior' a x h m (split a x e);
      follow = λ c x e h j r m. follow' c x h j r m (split c x e);
      redirected = λ c m e. redirected' c m e (cases_address c n);
    }
      where
        old_root : (v : ℕ) → v < b.added → is_root (S' (b.entry v).root) ≡ true
        old_root v h =
            let y = q.root_is v h in
            ap is_root (is (b.entry v).root (root_not_n (b.entry v).root y))
            ∙ root_by (f (b.entry v).root) (S (b.entry v).root) (same_only (b.entry v).root) ∙ y
