use Rattle.std.proofs.Common.{◌≡◌, ℕ, true, List, [], length, nat_eq, rules, sym, ◌∙◌, arith}
use Rattle.std.proofs.lemmas.Bool.Decides.{nat_tests}
use Rattle.std.proofs.lemmas.List.{nil_from_length}
use Rattle.song_db.specs.Pending.{AreTold}
use Rattle.song_db.proofs.scan.Scan.next.Goals as goal

-- a batch without changes
no_items : {X : Type 0} (xs : List X) (n : ℕ) → n ≡ length xs → nat_eq n 0 ≡ true → xs ≡ []
no_items xs n is none = nil_from_length xs (grind (arith, nat_tests))

pub returns-then-self-clause-read : goal.returns-then-self-clause-read
returns-then-self-clause-read g c = λ honest told.
    let same : c.then-self.self-inside.reader.walk.listed ≡ c.args.self.now.listed = search rules in
    (rw same told, search rules)

pub returns-then-is_empty-clause-read : goal.returns-then-is_empty-clause-read
returns-then-is_empty-clause-read g c =
    let none = no_items c.in-Ok.changes.items _ c.in-Ok.changes.ok.0 (sym c.is_empty.ensures ∙ c.if-is_empty.true) in
    rw (← c.self.view_is, c.in-Ok.ensures.begun) (λ honest told.
    let now : AreTold (g.F.Folder.files c.args.folder.now) c.is_at_end.new.self.walk.listed = rw c.is_at_end.ensures.same told in
    (c.in-Ok.ensures.listed honest now, rw (c.is_at_end.ensures.same, none) at (c.in-Ok.ensures.honest_read honest now)))

pub returns-then-is_empty-clause-whole : goal.returns-then-is_empty-clause-whole
returns-then-is_empty-clause-whole g c =
    let none = no_items c.in-Ok.changes.items _ c.in-Ok.changes.ok.0 (sym c.is_empty.ensures ∙ c.if-is_empty.true) in
    rw (← c.self.view_is, c.in-Ok.ensures.begun) (λ honest steady told.
    rw (c.is_at_end.ensures.same, none) at (c.in-Ok.ensures.whole_read honest steady (rw c.is_at_end.ensures.same told)))

pub returns-else-is_empty-clause-read : goal.returns-else-is_empty-clause-read
returns-else-is_empty-clause-read g c =
    rw (← c.self.view_is, c.in-Ok.ensures.begun) (λ honest told.
    let now : AreTold (g.F.Folder.files c.args.folder.now) c.is_at_end.new.self.walk.listed = rw c.is_at_end.ensures.same told in
    (c.in-Ok.ensures.listed honest now, rw c.is_at_end.ensures.same at (c.in-Ok.ensures.honest_read honest now)))

pub returns-else-is_empty-clause-whole : goal.returns-else-is_empty-clause-whole
returns-else-is_empty-clause-whole g c =
    rw (← c.self.view_is, c.in-Ok.ensures.begun) (λ honest steady told.
    rw c.is_at_end.ensures.same at (c.in-Ok.ensures.whole_read honest steady (rw c.is_at_end.ensures.same told)))
