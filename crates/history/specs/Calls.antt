-- The fourteen calls with what they take, and what they answer when they are granted.
use Rattle.std.specs.Prelude.{ℕ, Bool, List, Option, Result}
use Rattle.page.specs.declared.versions.Address.{Address}
use Rattle.refusal.specs.declared.Refusal.{Refusal}
use Rattle.heap_read.specs.Reading.{FoundRow}

-- the calls that can change an archive
pub data Change : Type 0 where
  begin : Change
  -- the number of the transaction
  commit : ℕ → Change
  abort : ℕ → Change
  register : Change
  -- the place
  release : ℕ → Change
  -- the transaction and the row
  insert : ℕ → List ℕ → Change
  -- the transaction, the version's address, whether the keys are unchanged, and the new row
  update : ℕ → Address → Bool → List ℕ → Change
  delete : ℕ → Address → Change
  -- the block
  hint : ℕ → Change
  prune : ℕ → Change
  -- the block and the cutoff
  freeze : ℕ → ℕ → Change
  -- the cutoff
  forget : ℕ → Change

-- the calls that only read: each takes a place and an address
pub data Reading : Type 0 where
  next : ℕ → Address → Reading
  fetch : ℕ → Address → Reading

-- what a granted change answers
abbrev pub Answer : Change → Type 0
-- the number that was opened
Answer begin = ℕ
Answer (commit x) = Unit {0}
Answer (abort x) = Unit {0}
-- the place that was taken
Answer register = ℕ
Answer (release k) = Unit {0}
-- the address of the new version
Answer (insert x row) = Address
-- the same, and whether it is heap-only
Answer (update x a keep row) = Address × Bool
Answer (delete x a) = Unit {0}
-- how many bits were set
Answer (hint b) = ℕ
-- how many versions were removed, and how many pointers made dead
Answer (prune b) = ℕ × ℕ
-- the same, and how many versions were frozen and how many removers cleared
Answer (freeze b c) = ℕ × ℕ × ℕ × ℕ
Answer (forget c) = Unit {0}

-- an answer or a refusal
abbrev pub Reply : Change → Type 0
Reply c = Result (Answer c) Refusal

-- what a reading answers: the version that was found, or none
abbrev pub Shown : Type 0
Shown = Result (Option FoundRow) Refusal
