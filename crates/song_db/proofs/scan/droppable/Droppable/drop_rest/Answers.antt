use Rattle.std.proofs.Common.{◌≡◌, [], ◌∷◌, ◌++◌, sym, ap, ◌∙◌, append_assoc, append-nil, arith}
use Rattle.song_db.specs.declared.change.RowChange.TheVariants.{Drop}
use Rattle.song_db.specs.Scan.{drops_of, puts_of}
use Rattle.song_db.proofs.BatchSteps.{drops-append, puts-append}
use Rattle.song_db.proofs.scan.droppable.Droppable.drop_rest.Goals as goal

pub drops-preserved : goal.drops-preserved
drops-preserved c =
    let first : c.drops.self.left ≡ c.in-Some.uri ∷ c.next_drop.new.self.left = rw c.in-Some.is at c.in_ok-uri.ensures.next in
    let more = drops-append c.drops.changes.items (Drop c.in-Some.uri ∷ []) in
    record {
      room = omega arith;
      few = omega arith;
      known = c.next_drop.ensures.known ∙ c.drops.invariant.known;
      dropped = ap (λ l. drops_of l ++ c.next_drop.new.self.left) c.push_reserved.ensures.items
          ∙ ap (λ l. l ++ c.next_drop.new.self.left) more
          ∙ append_assoc (drops_of c.drops.changes.items) (c.in-Some.uri ∷ []) c.next_drop.new.self.left
          ∙ ap (λ l. drops_of c.drops.changes.items ++ l) (sym first) ∙ c.drops.invariant.dropped;
      put = ap puts_of c.push_reserved.ensures.items ∙ puts-append c.drops.changes.items (Drop c.in-Some.uri ∷ [])
          ∙ append-nil (puts_of c.drops.changes.items) ∙ c.drops.invariant.put;
    }
