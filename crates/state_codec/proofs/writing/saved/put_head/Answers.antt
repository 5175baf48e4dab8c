use Rattle.std.proofs.Common.{◌∙◌, append_assoc}
use Rattle.state_codec.proofs.writing.saved.put_head.Goals as goal

pub returns : goal.returns
returns c = record {
  items = rw (
    c.put_options.ensures.items,
    c.put_byte.ensures.items,
    c.put_u32-2.ensures.items,
    c.put_u32.ensures.items,
    c.put_u64.ensures.items,
    c.put_bytes.ensures.items,
  )
      (rw (
        c.options.ensures,
        c.percent.ensures.value,
        c.volume.ensures,
        c.next_id.ensures,
        c.version.ensures.version,
        c.order.ensures,
        c.key.ensures.key,
        c.queue-queue.ensures,
      )
      (simp append_assoc));
  capacity = c.put_options.ensures.capacity ∙ c.put_byte.ensures.capacity ∙ c.put_u32-2.ensures.capacity ∙ c.put_u32.ensures.capacity
      ∙ c.put_u64.ensures.capacity
      ∙ c.put_bytes.ensures.capacity;
}
