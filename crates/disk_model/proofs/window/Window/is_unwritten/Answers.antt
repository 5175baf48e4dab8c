use Rattle.std.proofs.Common.{◌≡◌, ◌<◌, ℕ, length, get_or, rules, arith, sym, subst}
use Rattle.disk_model.specs.Images.{Extent, IsOutside}
use Rattle.disk_model.proofs.Written.{unwritten-reverse, written-reverse}
use Rattle.disk_model.proofs.window.Window.is_unwritten.Goals as goal

pub returns-then-not-is_outside : goal.returns-then-not-is_outside
returns-then-not-is_outside c =
    let item = c.extent-item.result in
    let found : get_or c.self.inside.written.items c.loop-extent.extent-index item ≡ item =
    rw (← c.deref-extent-items.ensures.value) (sym c.extent-item.is) in
    let inside : c.loop-extent.extent-index < length c.self.inside.written.items = omega (arith, c.deref-extent-items.ensures.len) in
    rw (← c.self.view_is) (
      λ no. (cc),
      λ free.
          c.if-not-is_outside.ensures.1
          (subst (λ extent. IsOutside extent c.args.offset) found (written-reverse _ c.args.offset _ item inside free)),
    )

pub returns : goal.returns
returns c =
    let each : (k : ℕ) → k < length c.self.inside.written.items → (d : Extent)
    → IsOutside (get_or c.self.inside.written.items k d) c.args.offset =
    λ k below d. rw (← c.deref-extent-items.ensures.value) (c.loop-extent.invariant k (omega
    (arith, c.deref-extent-items.ensures.len)) d) in
    rw (← c.self.view_is) (λ _. unwritten-reverse _ _ each, λ _. search rules)
