use Rattle.std.proofs.Common.{◌≡◌, ℕ, ◌+◌, ◌-◌, ◌≤◌, Bool, None, Option, sym, refl, ap, ◌∙◌, subst, replicate, unwrap_or, arith}
use Rattle.std.proofs.lemmas.List.{length-replicate, length-set}
use Rattle.page.specs.Headers.{count_of}
use Rattle.page.specs.Slots.{Slot, slot_no}
use Rattle.page_check.proofs.Slots.{slot_no_in}
use Rattle.page_prune.specs.Members.{no_member}
use Rattle.page_prune.specs.declared.chains.Member.{Member}
use Rattle.xid.specs.Meaning.{Meaning}
use Rattle.heap_read.specs.Links.{link_in, LeadsAlong}
use Rattle.heap_upkeep.specs.Dead.{dead_slot, member_of}
use Rattle.heap_upkeep.proofs.Tables.{Filled, filled_none, filled_more, filled_page, slot_told, AlongTo, along_none, along_more, along_all}
use Rattle.heap_upkeep.proofs.dead.members_of.Goals as goal

pub loop-number-init : goal.loop-number-init
loop-number-init g c =
    let m = g.S.StatusSource.meaning c.args.source.now in let p = c.args.page.now in
    let f = λ (n : ℕ). member_of m.status c.args.horizon c.args.block (slot_no p) (slot_no p n) in
    let d = c.default-members in
    let none : d.result ≡ no_member
    = ap (λ (o : Option ℕ). (let y : Member = record { next = o; dead = d.result.dead } in y)) d.ensures.0
    ∙ ap (λ (b : Bool). (let y : Member = record { next = None; dead = b } in y)) d.ensures.1 in
    record {
      long = length-replicate 292 d.result;
      along = subst (λ (x : Member). AlongTo c.args.block p 0 (replicate 292 x)) (sym none) (along_none c.args.block p);
      kept = refl;
      filled = subst (λ (x : Member). Filled f no_member 0 (replicate 292 x)) (sym none) (filled_none f no_member);
    }

pub loop-number-preserved : goal.loop-number-preserved
loop-number-preserved g c =
    let m = g.S.StatusSource.meaning c.args.source.now in let p = c.args.page.now in let h = c.args.horizon in let b = c.args.block in
    let n = c.loop-number.number in let i = c.loop-number.invariant in let e = c.link_of.ensures in let f = c.is_slot_dead.ensures in
    let last : n ≤ count_of p = omega (arith, c.pointer_count-number-end.ensures, c.loop-number-test.true) in
    let next = slot_told (λ (x : Meaning) (s : Slot). link_in x.status b (slot_no p) s) m _ p n c.link_of.result i.kept (omega arith) last e.answer in
    let gone = slot_told (λ (x : Meaning) (s : Slot). dead_slot x.status h s) m _ p n c.is_slot_dead.result (e.kept ∙ i.kept) (omega arith) last f.answer in
    let told : (d : Bool) → d ≡ dead_slot m.status h (slot_no p n) → (let y : Member = record { next = c.link_of.result; dead = d } in y) ≡ member_of m.status h b (slot_no p) (slot_no p n)
    = λ d same. ap (λ (o : Option ℕ). (let y : Member = record { next = o; dead = d } in y)) next
    ∙ ap (λ (d : Bool). (let y : Member = record { next = link_in m.status b (slot_no p) (slot_no p n); dead = d } in y)) same in
    let s : n + 1 - 1 ≡ n = omega arith in
    let along = subst (λ (s : Slot). LeadsAlong b (slot_no p) s (unwrap_or c.link_of.result 0)) (sym (slot_no_in p n (omega arith) last)) e.along in
    record {
      long = length-set c.loop-number.members n _ ∙ i.long;
      along = rw s (along_more b p (n - 1) n c.loop-number.members _ (omega arith) i.long (omega (arith, c.requires.few)) i.along along);
      kept = f.kept ∙ e.kept ∙ i.kept;
      filled = rw s (filled_more (λ k. member_of m.status h b (slot_no p) (slot_no p k)) no_member (n - 1) n c.loop-number.members _ (omega arith) i.long (omega (arith, c.requires.few)) i.filled (told _ (grind (arith, gone))));
    }

pub returns-clause-told : goal.returns-clause-told
returns-clause-told g c =
    let m = g.S.StatusSource.meaning c.args.source.now in let p = c.args.page.now in
    let same : c.loop-number.number - 1 ≡ count_of p = omega (arith, c.pointer_count-number-end.ensures, c.loop-number-test.false) in
    filled_page (member_of m.status c.args.horizon c.args.block (slot_no p)) no_member p (c.loop-number.number - 1) c.loop-number.members refl same c.loop-number.invariant.filled

pub returns-clause-along : goal.returns-clause-along
returns-clause-along g c =
    let same : c.loop-number.number - 1 ≡ count_of c.args.page.now = omega (arith, c.pointer_count-number-end.ensures, c.loop-number-test.false) in
    along_all c.args.block c.args.page.now (c.loop-number.number - 1) c.loop-number.members same c.loop-number.invariant.along
