use Rattle.std.proofs.Common.{◌≡◌, ◌∙◌, ◌+◌, ℕ, Ok, refl, sym, ap, subst}
use Rattle.disk_model.specs.Images.{window, IsImage}
use Rattle.disk_model.specs.History.{Synced}
use Rattle.disk_model.proofs.LaterLaws.{later_adds, later_on}
use Rattle.play_journal.specs.Content.{Content}
use Rattle.play_journal.specs.FileRead.{content_read}
use Rattle.play_journal.specs.Pair.{IsBelow, told}
use Rattle.play_journal.specs.Reading.{Open, front, read}
use Rattle.play_journal.proofs.ChosenLaws.{first_newer, second_newer}
use Rattle.play_journal.proofs.OpenLaws.{gate_of, cut_content, cut_in_use}
use Rattle.play_journal.proofs.PairLaws.{keeps_synced, keeps_then, front_below, reading_first, reading_second}
use Rattle.play_journal.proofs.RecordLaws.{bytes_fit}
use Rattle.play_journal.proofs.opening.open_files.Goals as goal

pub returns-in_err-file_in_use-clause-kept_a : goal.returns-in_err-file_in_use-clause-kept_a
returns-in_err-file_in_use-clause-kept_a g c = λ a b.
    keeps_synced (g.D.Disk.history c.args.a.now) (g.D.Disk.history c.file_in_use.new.a) (g.D.Disk.content c.args.a.now)
    (g.met.D.Disk.content_is_image c.args.a.now a) (c.file_in_use.ensures.synced_a.synced a)

pub returns-in_err-file_in_use-clause-kept_b : goal.returns-in_err-file_in_use-clause-kept_b
returns-in_err-file_in_use-clause-kept_b g c = λ a b.
    keeps_synced (g.D.Disk.history c.args.b.now) (g.D.Disk.history c.file_in_use.new.b) (g.D.Disk.content c.args.b.now)
    (g.met.D.Disk.content_is_image c.args.b.now b) (c.file_in_use.ensures.synced_b.synced b)

pub returns-in_err-open_file-clause-kept_a : goal.returns-in_err-open_file-clause-kept_a
returns-in_err-open_file-clause-kept_a g c = λ a b.
    keeps_synced (g.D.Disk.history c.args.a.now) (g.D.Disk.history c.file_in_use.new.a) (g.D.Disk.content c.args.a.now)
    (g.met.D.Disk.content_is_image c.args.a.now a) (c.file_in_use.ensures.synced_a.synced a)

pub returns-in_err-open_file-clause-kept_b : goal.returns-in_err-open_file-clause-kept_b
returns-in_err-open_file-clause-kept_b g c = λ a b.
    let newer = second_newer (front (g.D.Disk.content c.args.a.now)) (front
    (g.D.Disk.content c.args.b.now)) c.in_ok-file_in_use.field-0 c.if-branch.true (c.in_ok-file_in_use.ensures.chosen a b) in
    let honest' = c.file_in_use.ensures.synced_b.honesty.0 b in
    let same : (g.D.Disk.content c.file_in_use.new.b) ≡ (g.D.Disk.content c.args.b.now) = c.in_ok-file_in_use.ensures.content.b b in
    let opened : front (g.D.Disk.content c.file_in_use.new.b) ≡ Open newer.generation = ap front same ∙ newer.opened in
    let image : IsImage (window (g.D.Disk.history c.args.b.now)) (g.D.Disk.content c.file_in_use.new.b) =
    subst (λ l. IsImage (window (g.D.Disk.history c.args.b.now)) l) (sym same) (g.met.D.Disk.content_is_image c.args.b.now b) in
    let before = keeps_synced (g.D.Disk.history c.args.b.now) (g.D.Disk.history c.file_in_use.new.b) (g.D.Disk.content c.args.b.now)
    (g.met.D.Disk.content_is_image c.args.b.now b) (c.file_in_use.ensures.synced_b.synced b) in
    keeps_then (g.D.Disk.history c.args.b.now) (g.D.Disk.history c.file_in_use.new.b) (g.D.Disk.history c.open_file.new.disk)
    (g.D.Disk.content c.file_in_use.new.b) image before (c.open_file.ensures.later.done honest')
    (c.open_file.ensures.any_moment honest' (c.in_ok-file_in_use.ensures.settled.b b) newer.generation opened)

pub returns-in_ok-open_file-clause-kept_a : goal.returns-in_ok-open_file-clause-kept_a
returns-in_ok-open_file-clause-kept_a g c = λ a b.
    keeps_synced (g.D.Disk.history c.args.a.now) (g.D.Disk.history c.file_in_use.new.a) (g.D.Disk.content c.args.a.now)
    (g.met.D.Disk.content_is_image c.args.a.now a) (c.file_in_use.ensures.synced_a.synced a)

pub returns-in_ok-open_file-clause-kept_b : goal.returns-in_ok-open_file-clause-kept_b
returns-in_ok-open_file-clause-kept_b g c = λ a b.
    let newer = second_newer (front (g.D.Disk.content c.args.a.now)) (front
    (g.D.Disk.content c.args.b.now)) c.in_ok-file_in_use.field-0 c.if-branch.true (c.in_ok-file_in_use.ensures.chosen a b) in
    let honest' = c.file_in_use.ensures.synced_b.honesty.0 b in
    let same : (g.D.Disk.content c.file_in_use.new.b) ≡ (g.D.Disk.content c.args.b.now) = c.in_ok-file_in_use.ensures.content.b b in
    let opened : front (g.D.Disk.content c.file_in_use.new.b) ≡ Open newer.generation = ap front same ∙ newer.opened in
    let image : IsImage (window (g.D.Disk.history c.args.b.now)) (g.D.Disk.content c.file_in_use.new.b) =
    subst (λ l. IsImage (window (g.D.Disk.history c.args.b.now)) l) (sym same) (g.met.D.Disk.content_is_image c.args.b.now b) in
    let before = keeps_synced (g.D.Disk.history c.args.b.now) (g.D.Disk.history c.file_in_use.new.b) (g.D.Disk.content c.args.b.now)
    (g.met.D.Disk.content_is_image c.args.b.now b) (c.file_in_use.ensures.synced_b.synced b) in
    keeps_then (g.D.Disk.history c.args.b.now) (g.D.Disk.history c.file_in_use.new.b) (g.D.Disk.history c.open_file.new.disk)
    (g.D.Disk.content c.file_in_use.new.b) image before (c.open_file.ensures.later.done honest')
    (c.open_file.ensures.any_moment honest' (c.in_ok-file_in_use.ensures.settled.b b) newer.generation opened)

pub returns-in_ok-open_file-clause-opened : goal.returns-in_ok-open_file-clause-opened
returns-in_ok-open_file-clause-opened g c = λ a b.
    let newer = second_newer (front (g.D.Disk.content c.args.a.now)) (front
    (g.D.Disk.content c.args.b.now)) c.in_ok-file_in_use.field-0 c.if-branch.true (c.in_ok-file_in_use.ensures.chosen a b) in
    let honest' = c.file_in_use.ensures.synced_b.honesty.0 b in
    let same : (g.D.Disk.content c.file_in_use.new.b) ≡ (g.D.Disk.content c.args.b.now) = c.in_ok-file_in_use.ensures.content.b b in
    let opened : front (g.D.Disk.content c.file_in_use.new.b) ≡ Open newer.generation = ap front same ∙ newer.opened in
    let content : Content = content_read c.in_ok-open_file.field-0.file in
    let fits = bytes_fit (g.D.Disk.content c.file_in_use.new.b) (g.met.D.Disk.content_is_image c.file_in_use.new.b honest').bytes in
    let found = c.in_ok-open_file.ensures.opened honest' in
    let is : read (g.D.Disk.content c.file_in_use.new.b) ≡ Ok content = found.read in
    let end : c.in_ok-open_file.field-0.file.end ≡ gate_of content = c.in_ok-open_file.ensures.ready.end in
    let other : (g.D.Disk.content c.file_in_use.new.a) ≡ (g.D.Disk.content c.args.a.now) = c.in_ok-file_in_use.ensures.content.a a in
    let below = front_below newer.generation (g.D.Disk.content c.args.a.now) (bytes_fit (g.D.Disk.content c.args.a.now)
    (g.met.D.Disk.content_is_image c.args.a.now a).bytes) newer.below in
    let below_now : IsBelow newer.generation (g.D.Disk.content c.file_in_use.new.a) =
    subst (λ l. IsBelow newer.generation l) (sym other) below in
    let len : c.in_ok-open_file.field-0.file.end + 1 ≡ gate_of content + 1 = ap (λ (n : ℕ). n + 1) end in
    record {
      read = reading_second (g.D.Disk.content c.args.b.now) (g.D.Disk.content c.args.a.now) newer.generation newer.opened below
          ∙ ap (λ l. told (read l)) (sym same) ∙ ap told is;
      says = cut_content (g.D.Disk.content c.file_in_use.new.b) newer.generation content fits opened is
          (g.D.Disk.content c.open_file.new.disk)
          (c.in_ok-open_file.field-0.file.end + 1) found.cut len;
      in_use = record {
        here_settled = found.settled;
        there_settled = c.in_ok-file_in_use.ensures.settled.a a;
        in_use = cut_in_use (g.D.Disk.content c.file_in_use.new.b) newer.generation content fits opened is
            (g.D.Disk.content c.open_file.new.disk) (g.D.Disk.content c.file_in_use.new.a) c.in_ok-open_file.field-0.file.end
            (c.in_ok-open_file.field-0.file.end + 1) found.cut refl end below_now;
      };
      other = other;
    }

pub returns-in_err-open_file-2-clause-kept_b : goal.returns-in_err-open_file-2-clause-kept_b
returns-in_err-open_file-2-clause-kept_b g c = λ a b.
    keeps_synced (g.D.Disk.history c.args.b.now) (g.D.Disk.history c.file_in_use.new.b) (g.D.Disk.content c.args.b.now)
    (g.met.D.Disk.content_is_image c.args.b.now b) (c.file_in_use.ensures.synced_b.synced b)

pub returns-in_err-open_file-2-clause-kept_a : goal.returns-in_err-open_file-2-clause-kept_a
returns-in_err-open_file-2-clause-kept_a g c = λ a b.
    let newer = first_newer (front (g.D.Disk.content c.args.a.now)) (front
    (g.D.Disk.content c.args.b.now)) c.in_ok-file_in_use.field-0 c.if-branch.false (c.in_ok-file_in_use.ensures.chosen a b) in
    let honest' = c.file_in_use.ensures.synced_a.honesty.0 a in
    let same : (g.D.Disk.content c.file_in_use.new.a) ≡ (g.D.Disk.content c.args.a.now) = c.in_ok-file_in_use.ensures.content.a a in
    let opened : front (g.D.Disk.content c.file_in_use.new.a) ≡ Open newer.generation = ap front same ∙ newer.opened in
    let image : IsImage (window (g.D.Disk.history c.args.a.now)) (g.D.Disk.content c.file_in_use.new.a) =
    subst (λ l. IsImage (window (g.D.Disk.history c.args.a.now)) l) (sym same) (g.met.D.Disk.content_is_image c.args.a.now a) in
    let before = keeps_synced (g.D.Disk.history c.args.a.now) (g.D.Disk.history c.file_in_use.new.a) (g.D.Disk.content c.args.a.now)
    (g.met.D.Disk.content_is_image c.args.a.now a) (c.file_in_use.ensures.synced_a.synced a) in
    keeps_then (g.D.Disk.history c.args.a.now) (g.D.Disk.history c.file_in_use.new.a)
    (g.D.Disk.history c.open_file-else-branch.new.disk) (g.D.Disk.content c.file_in_use.new.a) image before
    (c.open_file-else-branch.ensures.later.done honest') (c.open_file-else-branch.ensures.any_moment honest'
    (c.in_ok-file_in_use.ensures.settled.a a) newer.generation opened)

pub returns-in_ok-open_file-2-clause-kept_b : goal.returns-in_ok-open_file-2-clause-kept_b
returns-in_ok-open_file-2-clause-kept_b g c = λ a b.
    keeps_synced (g.D.Disk.history c.args.b.now) (g.D.Disk.history c.file_in_use.new.b) (g.D.Disk.content c.args.b.now)
    (g.met.D.Disk.content_is_image c.args.b.now b) (c.file_in_use.ensures.synced_b.synced b)

pub returns-in_ok-open_file-2-clause-kept_a : goal.returns-in_ok-open_file-2-clause-kept_a
returns-in_ok-open_file-2-clause-kept_a g c = λ a b.
    let newer = first_newer (front (g.D.Disk.content c.args.a.now)) (front
    (g.D.Disk.content c.args.b.now)) c.in_ok-file_in_use.field-0 c.if-branch.false (c.in_ok-file_in_use.ensures.chosen a b) in
    let honest' = c.file_in_use.ensures.synced_a.honesty.0 a in
    let same : (g.D.Disk.content c.file_in_use.new.a) ≡ (g.D.Disk.content c.args.a.now) = c.in_ok-file_in_use.ensures.content.a a in
    let opened : front (g.D.Disk.content c.file_in_use.new.a) ≡ Open newer.generation = ap front same ∙ newer.opened in
    let image : IsImage (window (g.D.Disk.history c.args.a.now)) (g.D.Disk.content c.file_in_use.new.a) =
    subst (λ l. IsImage (window (g.D.Disk.history c.args.a.now)) l) (sym same) (g.met.D.Disk.content_is_image c.args.a.now a) in
    let before = keeps_synced (g.D.Disk.history c.args.a.now) (g.D.Disk.history c.file_in_use.new.a) (g.D.Disk.content c.args.a.now)
    (g.met.D.Disk.content_is_image c.args.a.now a) (c.file_in_use.ensures.synced_a.synced a) in
    keeps_then (g.D.Disk.history c.args.a.now) (g.D.Disk.history c.file_in_use.new.a)
    (g.D.Disk.history c.open_file-else-branch.new.disk) (g.D.Disk.content c.file_in_use.new.a) image before
    (c.open_file-else-branch.ensures.later.done honest') (c.open_file-else-branch.ensures.any_moment honest'
    (c.in_ok-file_in_use.ensures.settled.a a) newer.generation opened)

pub returns-in_ok-open_file-2-clause-opened : goal.returns-in_ok-open_file-2-clause-opened
returns-in_ok-open_file-2-clause-opened g c = λ a b.
    let newer = first_newer (front (g.D.Disk.content c.args.a.now)) (front
    (g.D.Disk.content c.args.b.now)) c.in_ok-file_in_use.field-0 c.if-branch.false (c.in_ok-file_in_use.ensures.chosen a b) in
    let honest' = c.file_in_use.ensures.synced_a.honesty.0 a in
    let same : (g.D.Disk.content c.file_in_use.new.a) ≡ (g.D.Disk.content c.args.a.now) = c.in_ok-file_in_use.ensures.content.a a in
    let opened : front (g.D.Disk.content c.file_in_use.new.a) ≡ Open newer.generation = ap front same ∙ newer.opened in
    let content : Content = content_read c.in_ok-open_file-2.field-0.file in
    let fits = bytes_fit (g.D.Disk.content c.file_in_use.new.a) (g.met.D.Disk.content_is_image c.file_in_use.new.a honest').bytes in
    let found = c.in_ok-open_file-2.ensures.opened honest' in
    let is : read (g.D.Disk.content c.file_in_use.new.a) ≡ Ok content = found.read in
    let end : c.in_ok-open_file-2.field-0.file.end ≡ gate_of content = c.in_ok-open_file-2.ensures.ready.end in
    let other : (g.D.Disk.content c.file_in_use.new.b) ≡ (g.D.Disk.content c.args.b.now) = c.in_ok-file_in_use.ensures.content.b b in
    let below = front_below newer.generation (g.D.Disk.content c.args.b.now) (bytes_fit (g.D.Disk.content c.args.b.now)
    (g.met.D.Disk.content_is_image c.args.b.now b).bytes) newer.below in
    let below_now : IsBelow newer.generation (g.D.Disk.content c.file_in_use.new.b) =
    subst (λ l. IsBelow newer.generation l) (sym other) below in
    let len : c.in_ok-open_file-2.field-0.file.end + 1 ≡ gate_of content + 1 = ap (λ (n : ℕ). n + 1) end in
    record {
      read = reading_first (g.D.Disk.content c.args.a.now) (g.D.Disk.content c.args.b.now) newer.generation newer.opened below
          ∙ ap (λ l. told (read l)) (sym same) ∙ ap told is;
      says = cut_content (g.D.Disk.content c.file_in_use.new.a) newer.generation content fits opened is
          (g.D.Disk.content c.open_file-else-branch.new.disk)
          (c.in_ok-open_file-2.field-0.file.end + 1) found.cut len;
      in_use = record {
        here_settled = found.settled;
        there_settled = c.in_ok-file_in_use.ensures.settled.b b;
        in_use = cut_in_use (g.D.Disk.content c.file_in_use.new.a) newer.generation content fits opened is
            (g.D.Disk.content c.open_file-else-branch.new.disk) (g.D.Disk.content c.file_in_use.new.b) c.in_ok-open_file-2.field-0.file.end
            (c.in_ok-open_file-2.field-0.file.end + 1) found.cut refl end below_now;
      };
      other = other;
    }

pub returns-in_err-file_in_use-clause-later : goal.returns-in_err-file_in_use-clause-later
returns-in_err-file_in_use-clause-later g c = record {
  a = (later_adds g.D.Disk.honest g.D.Disk.history g.D.Disk.faults c.args.a.now c.file_in_use.new.a c.file_in_use.ensures.synced_a.honesty
      c.file_in_use.ensures.synced_a.counted (Synced (g.D.Disk.content c.args.a.now)) c.file_in_use.ensures.synced_a.synced);
  b = (later_adds g.D.Disk.honest g.D.Disk.history g.D.Disk.faults c.args.b.now c.file_in_use.new.b c.file_in_use.ensures.synced_b.honesty
      c.file_in_use.ensures.synced_b.counted (Synced (g.D.Disk.content c.args.b.now)) c.file_in_use.ensures.synced_b.synced);
}

pub returns-in_err-open_file-clause-later : goal.returns-in_err-open_file-clause-later
returns-in_err-open_file-clause-later g c = record {
  a = (later_adds g.D.Disk.honest g.D.Disk.history g.D.Disk.faults c.args.a.now c.file_in_use.new.a c.file_in_use.ensures.synced_a.honesty
      c.file_in_use.ensures.synced_a.counted (Synced (g.D.Disk.content c.args.a.now)) c.file_in_use.ensures.synced_a.synced);
  b = later_on (later_adds g.D.Disk.honest g.D.Disk.history g.D.Disk.faults c.args.b.now c.file_in_use.new.b
      c.file_in_use.ensures.synced_b.honesty c.file_in_use.ensures.synced_b.counted (Synced
      (g.D.Disk.content c.args.b.now)) c.file_in_use.ensures.synced_b.synced) c.open_file.ensures.later;
}

pub returns-in_ok-open_file-clause-later : goal.returns-in_ok-open_file-clause-later
returns-in_ok-open_file-clause-later g c = record {
  a = (later_adds g.D.Disk.honest g.D.Disk.history g.D.Disk.faults c.args.a.now c.file_in_use.new.a c.file_in_use.ensures.synced_a.honesty
      c.file_in_use.ensures.synced_a.counted (Synced (g.D.Disk.content c.args.a.now)) c.file_in_use.ensures.synced_a.synced);
  b = later_on (later_adds g.D.Disk.honest g.D.Disk.history g.D.Disk.faults c.args.b.now c.file_in_use.new.b
      c.file_in_use.ensures.synced_b.honesty c.file_in_use.ensures.synced_b.counted (Synced
      (g.D.Disk.content c.args.b.now)) c.file_in_use.ensures.synced_b.synced) c.open_file.ensures.later;
}

pub returns-in_err-open_file-2-clause-later : goal.returns-in_err-open_file-2-clause-later
returns-in_err-open_file-2-clause-later g c = record {
  a = later_on (later_adds g.D.Disk.honest g.D.Disk.history g.D.Disk.faults c.args.a.now c.file_in_use.new.a
      c.file_in_use.ensures.synced_a.honesty c.file_in_use.ensures.synced_a.counted (Synced
      (g.D.Disk.content c.args.a.now)) c.file_in_use.ensures.synced_a.synced) c.open_file-else-branch.ensures.later;
  b = (later_adds g.D.Disk.honest g.D.Disk.history g.D.Disk.faults c.args.b.now c.file_in_use.new.b c.file_in_use.ensures.synced_b.honesty
      c.file_in_use.ensures.synced_b.counted (Synced (g.D.Disk.content c.args.b.now)) c.file_in_use.ensures.synced_b.synced);
}

pub returns-in_ok-open_file-2-clause-later : goal.returns-in_ok-open_file-2-clause-later
returns-in_ok-open_file-2-clause-later g c = record {
  a = later_on (later_adds g.D.Disk.honest g.D.Disk.history g.D.Disk.faults c.args.a.now c.file_in_use.new.a
      c.file_in_use.ensures.synced_a.honesty c.file_in_use.ensures.synced_a.counted (Synced
      (g.D.Disk.content c.args.a.now)) c.file_in_use.ensures.synced_a.synced) c.open_file-else-branch.ensures.later;
  b = (later_adds g.D.Disk.honest g.D.Disk.history g.D.Disk.faults c.args.b.now c.file_in_use.new.b c.file_in_use.ensures.synced_b.honesty
      c.file_in_use.ensures.synced_b.counted (Synced (g.D.Disk.content c.args.b.now)) c.file_in_use.ensures.synced_b.synced);
}
