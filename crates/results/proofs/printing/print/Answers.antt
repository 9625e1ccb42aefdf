use Rattle.std.proofs.Common.{length, sym, ◌∙◌}
use Rattle.results.proofs.Cuts.{line-cut}
use Rattle.results.proofs.printing.print.Goals as goal

pub returns-in-Ok : goal.returns-in-Ok
returns-in-Ok c =
    c.truncate.ensures.items ∙
    line-cut c.args.file.now c.args.text.now c.args.setup (length c.deref_mut.result.now) (length c.deref_mut-2.result.now) (length c.deref_mut-3.result.now)
    (length c.deref_mut-4.result.now) (length c.deref_mut-5.result.now) c.deref_mut-6.result.now c.tell.new.buffer
    (c.deref_mut.ensures.len ∙ c.in_ok-tree.ensures.len) (c.deref_mut-2.ensures.len ∙ c.in_ok-types.ensures.len)
    (c.deref_mut-3.ensures.len ∙ c.in_ok-slots.ensures.len) (c.deref_mut-4.ensures.len ∙ c.in_ok-cells.ensures.len)
    (c.deref_mut-5.ensures.len ∙ c.in_ok-frames.ensures.len) (c.deref_mut-6.ensures.len ∙ c.in_ok-buffer.ensures.len)
    c.in_ok-buffer.buffer.items c.in-Ok.len c.in_ok-buffer.buffer.len (sym c.deref_mut-6.ensures.len) c.in-Ok.ensures
