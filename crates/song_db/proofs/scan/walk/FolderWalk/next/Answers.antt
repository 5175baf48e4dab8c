use Rattle.std.proofs.Common.{◌≡◌, ◌++◌, Some, None, refl, sym, ap}
use Rattle.std.specs.String.{string_bytes}
use Rattle.std.proofs.lemmas.List.Elements.{All-pop, All-push, All-same}
use Rattle.song_db.specs.declared.scan.walk.Level.{Level}
use Rattle.song_db.specs.Found.{IsPrefixIn}
use Rattle.song_db.specs.Pending.{Walked}
use Rattle.song_db.proofs.ListedTold.{told_left, told_taken, visit_told}
use Rattle.song_db.proofs.Taken.{taken_entry, popped, visit_in}
use Rattle.song_db.proofs.scan.walk.FolderWalk.next.Goals as goal

pub invariant_of-self-2 : goal.invariant_of-self-2
invariant_of-self-2 c =
    let popped = All-pop (λ (level : Level). IsPrefixIn c.self.inside.place (string_bytes level.prefix)) c.self.inside.levels.items
    c.pop.new.self.items (Some c.in-Some.level) c.in-Some.ensures.items c.self.invariant in
    All-same (λ (level : Level). IsPrefixIn c.self.inside.place (string_bytes level.prefix)) _ _ c.push_reserved.ensures.items
    (All-push (λ (level : Level). IsPrefixIn c.self.inside.place (string_bytes level.prefix)) c.pop.new.self.items _ popped.0 popped.1)

pub returns-clause-taken : goal.returns-clause-taken
returns-clause-taken c =
    let rules : c.self.inside.rules ≡ c.args.self.now.rules = ap (λ (w : Walked). w.rules) c.self.view_is in
    rw (c.in_ok-visit.ensures, c.as_str.ensures.value, ← rules)
    (taken_entry c.self.inside.rules c.args.self.now.pending _ (string_bytes c.in-Some.level.prefix ++ string_bytes c.in-Some-pop.entry.name)
    c.in-Some-pop.entry.is_folder
    (λ uri. popped (λ (level : Level). string_bytes level.prefix) (λ (level : Level). level.entries.items) c.self.inside.levels.items
    c.pop.new.self.items c.push_reserved.new.self.items c.in-Some.level _ c.in-Some-pop.entry c.args.self.now.pending uri
    (ap (λ (w : Walked). w.pending) (sym c.self.view_is)) c.in-Some.ensures.items c.in-Some-pop.ensures.items c.push_reserved.ensures.items
    refl))

pub returns-clause-visit : goal.returns-clause-visit
returns-clause-visit c =
    let rules : c.self.inside.rules ≡ c.args.self.now.rules = ap (λ (w : Walked). w.rules) c.self.view_is in
    let place : c.self.inside.place ≡ c.args.self.now.place = ap (λ (w : Walked). w.place) c.self.view_is in
    let popped = All-pop (λ (level : Level). IsPrefixIn c.self.inside.place (string_bytes level.prefix)) c.self.inside.levels.items
    c.pop.new.self.items (Some c.in-Some.level) c.in-Some.ensures.items c.self.invariant in
    rw (← rules, ← place, c.in_ok-visit.ensures, c.as_str.ensures.value) (visit_in c.self.inside.rules c.self.inside.place
    (string_bytes c.in-Some.level.prefix ++ string_bytes c.in-Some-pop.entry.name) c.in-Some-pop.entry.is_folder
    (popped.1 (string_bytes c.in-Some-pop.entry.name)))

pub returns-clause-listed : goal.returns-clause-listed
returns-clause-listed c = λ files all.
    let taken = told_taken files (λ (level : Level). record { prefix = string_bytes level.prefix; entries = level.entries.items })
    c.self.inside.levels.items c.pop.new.self.items c.push_reserved.new.self.items c.in-Some.level _ c.in-Some-pop.entry
    c.args.self.now.listed (ap (λ (w : Walked). w.listed) (sym c.self.view_is)) c.in-Some.ensures.items c.in-Some-pop.ensures.items refl
    c.push_reserved.ensures.items all in (
      taken.0,
      rw (c.in_ok-visit.ensures, c.as_str.ensures.value) (visit_told c.self.inside.rules
          (string_bytes c.in-Some.level.prefix ++ string_bytes c.in-Some-pop.entry.name) c.in-Some-pop.entry.is_folder files
          c.in-Some-pop.entry.stamp taken.1),
    )

pub returns-in_default-clause-listed : goal.returns-in_default-clause-listed
returns-in_default-clause-listed c = λ files all. (
  told_left files (λ (level : Level). record { prefix = string_bytes level.prefix; entries = level.entries.items })
      c.self.inside.levels.items c.pop.new.self.items None c.args.self.now.listed (ap (λ (w : Walked). w.listed) (sym c.self.view_is))
      c.in_default.ensures.items all,
  tt,
)

pub returns-in_default-pop-clause-listed : goal.returns-in_default-pop-clause-listed
returns-in_default-pop-clause-listed c = λ files all. (
  told_left files (λ (level : Level). record { prefix = string_bytes level.prefix; entries = level.entries.items })
      c.self.inside.levels.items c.pop.new.self.items (Some c.in-Some.level) c.args.self.now.listed
      (ap (λ (w : Walked). w.listed) (sym c.self.view_is)) c.in-Some.ensures.items all,
  tt,
)
