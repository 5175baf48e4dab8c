use Rattle.std.proofs.Common.{◌∙◌, append_assoc}
use Rattle.state_codec.proofs.writing.rows.put_head.Goals as goal

pub returns : goal.returns
returns c = record {
  items = rw (
    c.put_told.ensures.items,
    c.put_u64-2.ensures.items,
    c.put_u64.ensures.items,
    c.put_byte.ensures.items,
    c.put_u32.ensures.items,
  ) (simp append_assoc);
  capacity = c.put_told.ensures.capacity ∙ c.put_u64-2.ensures.capacity ∙ c.put_u64.ensures.capacity ∙ c.put_byte.ensures.capacity
      ∙ c.put_u32.ensures.capacity;
}
