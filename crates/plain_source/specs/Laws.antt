-- The plain source keeps the laws of a source.
use Rattle.std.specs.Prelude.{◌<◌}
use Rattle.std.proofs.Common.{subst, arith}
use Rattle.std.proofs.lemmas.Bool.{lt-leb, cond-false}
use Rattle.xid.specs.declared.statuses.Status.TheVariants.{Unknown}
use Rattle.xid.specs.Numbers.{distance, in_window}
use Rattle.xid.specs.Meaning.{Lawful}
use Rattle.xid.proofs.Stored.{known_within}
use Rattle.plain_source.specs.declared.plain.PlainSource.{PlainSource}
use Rattle.plain_source.specs.Bounded.{stored_at}
use Rattle.plain_source.specs.Plain.{meaning_of}

pub plain_lawful : (p : PlainSource) → Lawful (meaning_of p)
plain_lawful p =
    let s = p.bounded in
    let o = p.window.oldest in
    let n = p.window.next in
    record {
      oldest_low = s.oldest_low;
      oldest_high = s.oldest_high;
      next_low = s.next_low;
      next_high = s.next_high;
      inside = known_within o n (stored_at p.statuses o) s.known;
      outside = λ x f. cond-false (in_window o n x) (stored_at p.statuses o x) Unknown f;
      short = omega (arith, s.near);
      empty = λ e. lt-leb 8 (distance o n) (subst (λ k. distance o k < 8) e (omega (arith, s.oldest_high)));
      long = λ f. absurd (omega (arith, s.near));
    }
