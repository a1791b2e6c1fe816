-- What two-bit pages mean, and when they are made.
use Rattle.std.specs.Prelude.{◌≡◌, ℕ, cond, List, length, Some, None, Option, nat_le}
use Rattle.xid.specs.declared.statuses.Status.TheVariants.{Open}
use Rattle.xid.specs.declared.statuses.End.{End}
use Rattle.xid.specs.Numbers.{successor}
use Rattle.xid.specs.Statuses.{code_of, end_status, is_open}
use Rattle.xid.specs.Meaning.{Meaning, meaning_by, forgettable}
use Rattle.clog.specs.declared.pages.TwoBitPages.{TwoBitPages}
use Rattle.refusal.specs.declared.Refusal.{Refusal}
use Rattle.refusal.specs.declared.Refusal.TheVariants.{WrongSize, NumberOutOfRange}
use Rattle.clog.specs.Codes.{put_code}
use Rattle.clog.specs.Sound.{fitting_size, stored_in, full_at}

-- the size is asked first, then whether the oldest number is at least 3
abbrev pub refused_with : ℕ → ℕ → Option Refusal
refused_with size oldest =
    cond (fitting_size size) (cond (nat_le 3 oldest) None (Some NumberOutOfRange)) (Some WrongSize)

-- the bytes of pages, and what they mean
abbrev pub bytes_of : TwoBitPages → List ℕ
bytes_of p = p.memory.now

abbrev pub meaning_of : TwoBitPages → Meaning
meaning_of p = meaning_by p.window.oldest p.window.next (full_at p.memory.now p.window.oldest p.window.next) (stored_in p.memory.now)

-- pages that are made of a memory, with its bytes as they were and nothing in the window
pub record Made (memory : List ℕ) (oldest : ℕ) (p : TwoBitPages) : Type 0 where
  pub accepted : refused_with (length memory) oldest ≡ None
  pub bytes : bytes_of p ≡ memory
  pub from : p.window.oldest ≡ oldest
  pub to : p.window.next ≡ oldest

-- a memory that is handed back, with its bytes as they were
pub record NotMade (memory : List ℕ) (oldest : ℕ) (back : List ℕ) (why : Refusal) : Type 0 where
  pub reason : refused_with (length memory) oldest ≡ Some why
  pub bytes : back ≡ memory

-- What each call leaves, byte for byte, where p are the pages before and q those after; turned down, it leaves all as it was.
pub record OpenLeft (p q : TwoBitPages) : Type 0 where
  pub bytes : bytes_of q ≡ cond (meaning_of p).full (bytes_of p) (put_code (bytes_of p) p.window.next (code_of Open))
  pub oldest : q.window.oldest ≡ p.window.oldest
  pub next : q.window.next ≡ cond (meaning_of p).full p.window.next (successor p.window.next)

pub record CloseLeft (p q : TwoBitPages) (x : ℕ) (e : End) : Type 0 where
  pub bytes : bytes_of q ≡ cond (is_open ((meaning_of p).status x)) (put_code (bytes_of p) x (code_of (end_status e))) (bytes_of p)
  pub oldest : q.window.oldest ≡ p.window.oldest
  pub next : q.window.next ≡ p.window.next

pub record ForgetLeft (p q : TwoBitPages) (c : ℕ) : Type 0 where
  pub bytes : bytes_of q ≡ bytes_of p
  pub oldest : q.window.oldest ≡ cond (forgettable (meaning_of p) c) c p.window.oldest
  pub next : q.window.next ≡ p.window.next
