-- The ledger: what the changes and their answers tell, and nothing else. It never sees a page.
use Rattle.std.specs.Prelude.{◌≡◌, ℕ, ◌+◌, ◌<◌, Bool, true, false, cond, List, [], ◌∷◌, Some, None, Ok, Err, Option, ◌==◌}
use Rattle.page.specs.declared.versions.Address.{Address}
use Rattle.history.specs.Archive.{same_address}
use Rattle.history.specs.Calls.{Change, Answer, Reply}
use Rattle.history.specs.Calls.Change.{begin, commit, abort, register, release, insert, update, delete, hint, prune, freeze, forget}
use Rattle.history.specs.Runs.{Event}

-- f, but v at i
abbrev pub with : {A : Type 0} → (ℕ → A) → ℕ → A → ℕ → A
with f i v j = cond (j == i) v (f j)

-- Transactions are counted from 0 in order of beginning, versions from 0 in order of being added.

pub record TransactionLog : Type 0 where
  pub begun : ℕ
  -- the transaction that a number means
  pub meant : ℕ → Option ℕ
  pub committed : ℕ → Bool
  -- by place: the transactions that were committed when it was registered
  pub keeps : ℕ → ℕ → Bool

pub record Entry : Type 0 where
  pub maker : ℕ
  pub bytes : List ℕ
  pub address : Address
  -- the first address of its row
  pub root : Address

pub record VersionLog : Type 0 where
  pub added : ℕ
  pub entry : ℕ → Entry
  -- the version last added at an address
  pub last_at : Address → Option ℕ
  -- by version: the transactions recorded with it
  pub recorded : ℕ → ℕ → Bool

pub record Ledger : Type 0 where
  pub transactions : TransactionLog
  pub versions : VersionLog

abbrev pub nowhere : Address
nowhere = record { block = 0; pointer = 0 }

abbrev pub no_entry : Entry
no_entry = record { maker = 0; bytes = []; address = nowhere; root = nowhere }

abbrev pub empty : Ledger
empty = record {
  transactions = record { begun = 0; meant = λ x. None; committed = λ i. false; keeps = λ k i. false };
  versions = record { added = 0; entry = λ v. no_entry; last_at = λ a. None; recorded = λ v i. false };
}

-- What a granted change does to the transactions.

abbrev pub begins_as : TransactionLog → ℕ → TransactionLog
begins_as t x = record { begun = t.begun + 1; meant = with t.meant x (Some t.begun); committed = t.committed; keeps = t.keeps }

abbrev pub committed_with : (ℕ → Bool) → Option ℕ → ℕ → Bool
committed_with f None = f
committed_with f (Some i) = with f i true

abbrev pub commits : TransactionLog → ℕ → TransactionLog
commits t x = record { begun = t.begun; meant = t.meant; committed = committed_with t.committed (t.meant x); keeps = t.keeps }

-- place k keeps the transactions committed by now
abbrev pub registers : TransactionLog → ℕ → TransactionLog
registers t k = record { begun = t.begun; meant = t.meant; committed = t.committed; keeps = with t.keeps k t.committed }

abbrev pub transactions_fed : TransactionLog → (c : Change) → Answer c → TransactionLog
transactions_fed t begin x = begins_as t x
transactions_fed t (commit x) r = commits t x
transactions_fed t (abort x) r = t
transactions_fed t register k = registers t k
transactions_fed t (release k) r = t
transactions_fed t (insert x row) r = t
transactions_fed t (update x a keep row) r = t
transactions_fed t (delete x a) r = t
transactions_fed t (hint b) r = t
transactions_fed t (prune b) r = t
transactions_fed t (freeze b c) r = t
transactions_fed t (forget c) r = t

-- What it does to the versions.

-- the transaction m adds a version with this row at the address a, in the row with the first address r
abbrev pub adds : VersionLog → Option ℕ → List ℕ → Address → Address → VersionLog
adds b None row a r = b
adds b (Some i) row a r = record {
  added = b.added + 1;
  entry = with b.entry b.added (record { maker = i; bytes = row; address = a; root = r });
  last_at = λ o. cond (same_address o a) (Some b.added) (b.last_at o);
  recorded = b.recorded;
}

-- the transaction m is recorded with the version v
abbrev pub records : VersionLog → Option ℕ → Option ℕ → VersionLog
records b None v = b
records b (Some i) None = b
records b (Some i) (Some v) = record {
  added = b.added;
  entry = b.entry;
  last_at = b.last_at;
  recorded = with b.recorded v (with (b.recorded v) i true);
}

abbrev pub root_of : VersionLog → Option ℕ → Address
root_of b None = nowhere
root_of b (Some v) = (b.entry v).root

abbrev pub versions_fed : TransactionLog → VersionLog → (c : Change) → Answer c → VersionLog
versions_fed t b begin x = b
versions_fed t b (commit x) r = b
versions_fed t b (abort x) r = b
versions_fed t b register k = b
versions_fed t b (release k) r = b
versions_fed t b (insert x row) n = adds b (t.meant x) row n n
versions_fed t b (update x a keep row) r =
    adds (records b (t.meant x) (b.last_at a)) (t.meant x) row r.0 (cond r.1 (root_of b (b.last_at a)) r.0)
versions_fed t b (delete x a) r = records b (t.meant x) (b.last_at a)
versions_fed t b (hint n) r = b
versions_fed t b (prune n) r = b
versions_fed t b (freeze n c) r = b
versions_fed t b (forget c) r = b

-- a refusal changes nothing
abbrev pub fed : Ledger → (c : Change) → Reply c → Ledger
fed l c (Err q) = l
fed l c (Ok r) = record {
  transactions = transactions_fed l.transactions c r;
  versions = versions_fed l.transactions l.versions c r;
}

-- the ledger of a run, whose last event comes first
abbrev pub ledger : List Event → Ledger
ledger [] = empty
ledger (e ∷ es) = fed (ledger es) e.call e.reply

-- the version v is listed for the place k: its maker is among those kept, and no transaction recorded with it is
pub record Listed (l : Ledger) (k v : ℕ) : Type 0 where
  pub is_added : v < l.versions.added
  pub maker_kept : l.transactions.keeps k (l.versions.entry v).maker ≡ true
  pub none_kept : (i : ℕ) → l.versions.recorded v i ≡ true → l.transactions.keeps k i ≡ false
