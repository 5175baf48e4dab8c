use Rattle.std.proofs.Common.{◌≡◌, ◌∙◌, ◌+◌, ◌≤◌, ℕ, List, Ok, length, arith, sym, ap}
use Rattle.disk_model.specs.Images.{window, settled}
use Rattle.disk_model.proofs.FaultLaws.{grown_before}
use Rattle.play_journal.specs.Content.{Content}
use Rattle.play_journal.specs.FileRead.{content_read}
use Rattle.play_journal.specs.Reading.{read}
use Rattle.play_journal.proofs.OpenLaws.{gate_of, gate_within, cut_since, settled_since}
use Rattle.play_journal.proofs.RecordLaws.{bytes_fit}
use Rattle.play_journal.proofs.opening.open_file.Goals as goal

pub returns-in_err-bytes-clause-any_moment : goal.returns-in_err-bytes-clause-any_moment
returns-in_err-bytes-clause-any_moment g c = λ honest is_settled generation opened.
    settled_since (g.D.Disk.history c.args.disk.now) (g.D.Disk.history c.bytes_of.new.disk)
    (g.D.Disk.content c.args.disk.now) is_settled (c.bytes_of.ensures.history honest)

pub returns-in_err-file-clause-any_moment : goal.returns-in_err-file-clause-any_moment
returns-in_err-file-clause-any_moment g c = λ honest is_settled generation opened.
    settled_since (g.D.Disk.history c.args.disk.now) (g.D.Disk.history c.bytes_of.new.disk)
    (g.D.Disk.content c.args.disk.now) is_settled (c.bytes_of.ensures.history honest)

pub returns-in_err-buffer-clause-any_moment : goal.returns-in_err-buffer-clause-any_moment
returns-in_err-buffer-clause-any_moment g c = λ honest is_settled generation opened.
    settled_since (g.D.Disk.history c.args.disk.now) (g.D.Disk.history c.bytes_of.new.disk)
    (g.D.Disk.content c.args.disk.now) is_settled (c.bytes_of.ensures.history honest)

pub returns-in_err-cut_to-clause-any_moment : goal.returns-in_err-cut_to-clause-any_moment
returns-in_err-cut_to-clause-any_moment g c = λ honest is_settled generation opened.
    let bytes = g.D.Disk.content c.args.disk.now in
    let content : Content = content_read c.in_ok-file.file in
    let honest' = c.bytes_of.ensures.later.honesty.0 honest in
    let same : g.D.Disk.content c.bytes_of.new.disk ≡ bytes = c.bytes_of.ensures.content honest in
    let fits = bytes_fit bytes (g.met.D.Disk.content_is_image c.args.disk.now honest).bytes in
    let is : read bytes ≡ Ok content = ap read (sym (c.in_ok-bytes.ensures.bytes honest))
    ∙ c.in_ok-file.ensures.read in
    let within : gate_of content + 1 ≤ length bytes = gate_within bytes generation content fits opened is in
    let small = g.met.D.Disk.length_fits c.args.disk.now honest in
    let len : c.saturating_add.result ≡ gate_of content + 1 = omega (arith, c.saturating_add.ensures, c.in_ok-file.ensures.end) in
    let settled' : window (g.D.Disk.history c.bytes_of.new.disk) ≡ settled (g.D.Disk.content c.bytes_of.new.disk) =
    ap window (c.bytes_of.ensures.history honest) ∙ is_settled ∙ ap settled (sym same) in
    let len_within : c.saturating_add.result ≤ length (g.D.Disk.content c.bytes_of.new.disk) =
    omega (arith, ap (λ (l : List ℕ). length l) same) in
    cut_since bytes generation content fits opened is (g.D.Disk.history c.args.disk.now) (g.D.Disk.history c.bytes_of.new.disk)
    (g.D.Disk.history c.cut_to.new.disk) (g.D.Disk.content c.bytes_of.new.disk) c.saturating_add.result
    (c.bytes_of.ensures.history honest) same len (c.cut_to.ensures.any_moment honest' settled' len_within)

pub returns-clause-any_moment : goal.returns-clause-any_moment
returns-clause-any_moment g c = λ honest is_settled generation opened.
    let bytes = g.D.Disk.content c.args.disk.now in
    let content : Content = content_read c.in_ok-file.file in
    let honest' = c.bytes_of.ensures.later.honesty.0 honest in
    let same : g.D.Disk.content c.bytes_of.new.disk ≡ bytes = c.bytes_of.ensures.content honest in
    let fits = bytes_fit bytes (g.met.D.Disk.content_is_image c.args.disk.now honest).bytes in
    let is : read bytes ≡ Ok content = ap read (sym (c.in_ok-bytes.ensures.bytes honest))
    ∙ c.in_ok-file.ensures.read in
    let within : gate_of content + 1 ≤ length bytes = gate_within bytes generation content fits opened is in
    let small = g.met.D.Disk.length_fits c.args.disk.now honest in
    let len : c.saturating_add.result ≡ gate_of content + 1 = omega (arith, c.saturating_add.ensures, c.in_ok-file.ensures.end) in
    let settled' : window (g.D.Disk.history c.bytes_of.new.disk) ≡ settled (g.D.Disk.content c.bytes_of.new.disk) =
    ap window (c.bytes_of.ensures.history honest) ∙ is_settled ∙ ap settled (sym same) in
    let len_within : c.saturating_add.result ≤ length (g.D.Disk.content c.bytes_of.new.disk) =
    omega (arith, ap (λ (l : List ℕ). length l) same) in
    cut_since bytes generation content fits opened is (g.D.Disk.history c.args.disk.now) (g.D.Disk.history c.bytes_of.new.disk)
    (g.D.Disk.history c.cut_to.new.disk) (g.D.Disk.content c.bytes_of.new.disk) c.saturating_add.result
    (c.bytes_of.ensures.history honest) same len (c.cut_to.ensures.any_moment honest' settled' len_within)

pub returns-in_err-cut_to-clause-fault : goal.returns-in_err-cut_to-clause-fault
returns-in_err-cut_to-clause-fault g c = λ honest generation opened failed.
    let bytes = g.D.Disk.content c.args.disk.now in
    let content : Content = content_read c.in_ok-file.file in
    let honest' = c.bytes_of.ensures.later.honesty.0 honest in
    let same : g.D.Disk.content c.bytes_of.new.disk ≡ bytes = c.bytes_of.ensures.content honest in
    let fits = bytes_fit bytes (g.met.D.Disk.content_is_image c.args.disk.now honest).bytes in
    let is : read bytes ≡ Ok content = ap read (sym (c.in_ok-bytes.ensures.bytes honest))
    ∙ c.in_ok-file.ensures.read in
    let within : gate_of content + 1 ≤ length bytes = gate_within bytes generation content fits opened is in
    let small = g.met.D.Disk.length_fits c.args.disk.now honest in
    let len : c.saturating_add.result ≡ gate_of content + 1 = omega (arith, c.saturating_add.ensures, c.in_ok-file.ensures.end) in
    let len_within : c.saturating_add.result ≤ length (g.D.Disk.content c.bytes_of.new.disk) =
    omega (arith, ap (λ (l : List ℕ). length l) same) in
    grown_before (g.D.Disk.faults c.args.disk.now) (g.D.Disk.faults c.bytes_of.new.disk)
    (g.D.Disk.faults c.cut_to.new.disk) c.bytes_of.ensures.later.counted (c.in_err-cut_to.ensures.fault honest' len_within)
