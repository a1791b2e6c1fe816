use Rattle.std.proofs.Common.{ℕ, sym, refl, ap, ◌∙◌, subst, arith}
use Rattle.page.specs.Slots.{view_of}
use Rattle.page.specs.Slots.Slot.{holds}
use Rattle.page_laws.proofs.Facts.{lawful_tells, lawful_from}
use Rattle.page_write.specs.Fields.{address_of, new_version}
use Rattle.page_write.specs.Placing.{put_version, placed_version}
use Rattle.page_write_laws.specs.Slots.{put_slot, NoneAwaits}
use Rattle.page_write_laws.proofs.Putting.{takes_spot}
use Rattle.page_write_laws.proofs.PutLaw.{New, free_is, row_keeps, put_view, put_keeps}
use Rattle.page_write_laws.proofs.put_law.Goals as goal

pub returns : goal.returns
returns c kinds b p reserve t o row len law room fits three small block wait =
    let k = lawful_tells kinds b p law in
    let w = placed_version b p t o row in
    let at = takes_spot p reserve row k.header room in
    let new : New w = record {
      creator = small;
      number = three;
      remover = refl;
      block = block;
      pointer = omega (arith, at.next, k.header.pointer_limit);
      not_committed = refl;
      invalid = refl;
      cold = refl;
    } in
    record {
      view = put_view kinds b p w len k at (row_keeps kinds row fits) new
          ∙ ap (λ (n : ℕ). put_slot (view_of p) n (holds (new_version t (address_of b n) o row))) (free_is p);
      lawful = lawful_from kinds b (put_version p w)
          (put_keeps kinds b p w len k at (row_keeps kinds row fits) new (λ e. subst (λ (n : ℕ). NoneAwaits b n t (view_of p)) (sym (free_is p)) (wait e)));
    }
