use Rattle.std.proofs.Common.{◌≡◌, ℕ, length, ◌++◌, take, drop, sym, ap, ◌∙◌, rules}
use Rattle.line.specs.Lines.{refusal_bytes}
use Rattle.results.proofs.Cuts.{cut, room}
use Rattle.results.proofs.printing.refused.Goals as goal

pub unwrap-len-requires : goal.unwrap-len-requires
unwrap-len-requires c =
    let xs = c.deref_mut.result.now in
    let w = c.write_refusal.ensures in
    let full = room c.into.result xs c.write_refusal.result c.into.ensures (c.deref_mut.ensures.len ∙ c.in_ok-buffer.ensures.len) w.answer in
    rw full (search rules)

pub returns : goal.returns
returns c =
    let xs = c.deref_mut.result.now in
    let ys = c.write_refusal.new.buffer in
    let w = c.write_refusal.ensures in
    let l = c.deref_mut.ensures.len in
    let full = room c.into.result xs c.write_refusal.result c.into.ensures (l ∙ c.in_ok-buffer.ensures.len) w.answer in
    let u = c.unwrap-len.ensures in
    let len : c.unwrap-len.result ≡ 24 = cc in
    c.truncate.ensures.items
    ∙ ap (λ (n : ℕ). take n (take c.in_ok-buffer.buffer.len (ys ++ drop (length ys) c.in_ok-buffer.buffer.items))) len
    ∙ cut (refusal_bytes c.into.result) xs ys c.in_ok-buffer.buffer.items 24 c.in_ok-buffer.buffer.len (sym l)
    (record { answers = sym full ∙ w.answer; leaves = w.written })
    ∙ ap refusal_bytes c.into.ensures
