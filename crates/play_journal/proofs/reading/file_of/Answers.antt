use Rattle.std.proofs.Common.{Ok, ◌≡◌, ◌∙◌, ◌+◌, ◌-◌, List, ℕ, length, length-drop, drop, arith, sym, ap}
use Rattle.std.specs.Prelude.{flat_map, slice_range}
use Rattle.std.proofs.lemmas.List.{length-take-le}
use Rattle.play_journal.specs.File.{gated}
use Rattle.play_journal.specs.Pair.{told}
use Rattle.play_journal.specs.Reading.{read}
use Rattle.play_journal.specs.Stored.{bodies_in}
use Rattle.play_journal.proofs.ReadLaws.{at_exit, snapshot_passes, read-records, records_cause}
use Rattle.play_journal.proofs.reading.file_of.Goals as goal

pub returns-then-file-lt-HEAD_LEN-clause-fault : goal.returns-then-file-lt-HEAD_LEN-clause-fault
returns-then-file-lt-HEAD_LEN-clause-fault c = ap (λ l. told (read l)) (sym c.as_slice-file.ensures.value)
    ∙ ap told (snapshot_passes c.as_slice-file.result.now (omega arith))

pub returns-then-file-size-clause-fault : goal.returns-then-file-size-clause-fault
returns-then-file-size-clause-fault c = ap (λ l. told (read l)) (sym c.as_slice-file.ensures.value)
    ∙ ap told (snapshot_passes c.as_slice-file.result.now (omega (arith, c.u32_at-size.ensures)))

pub returns-in_err-bodies-clause-fault : goal.returns-in_err-bodies-clause-fault
returns-in_err-bodies-clause-fault c =
    at_exit c.from_residual.result _ _ c.from_residual.ensures.1 (λ e is.
    rw (is, ← c.as_slice-file.ensures.value) (records_cause c.as_slice-file.result.now c.u32_at-layout.result c.u64_at-generation.result
    c.u64_at-base.result c.u32_at-size.result
    (sym c.u32_at-layout.ensures) (sym c.u64_at-generation.ensures) (sym c.u64_at-base.ensures) (sym c.u32_at-size.ensures)
    (omega arith) c.in_err-bodies.field-0.0 c.in_err-bodies.ensures.fault))

pub returns-clause-read : goal.returns-clause-read
returns-clause-read c =
    let bytes = c.as_slice-file.result.now in
    let same : bytes ≡ c.args.bytes.items = c.as_slice-file.ensures.value in
    ap (λ l. read l) (sym same)
    ∙ read-records bytes c.u32_at-layout.result c.u64_at-generation.result c.u64_at-base.result c.u32_at-size.result
    (sym c.u32_at-layout.ensures) (sym c.u64_at-generation.ensures) (sym c.u64_at-base.ensures) (sym c.u32_at-size.ensures)
    (omega arith)
    c.new.result.snapshot c.new.result.records (c.new.ensures.snapshot ∙ ap (λ l. slice_range l 32 (32 + c.u32_at-size.result)) (sym same))
    (c.in_ok-bodies.ensures.read ∙ ap (λ l. Ok (bodies_in l c.in_ok-bodies.bodies.items)) same ∙ ap Ok (sym c.new.ensures.records))

pub returns-clause-end : goal.returns-clause-end
returns-clause-end c =
    let bytes = c.args.bytes.items in
    let size = c.u32_at-size.result in
    let same : c.as_slice-file.result.now ≡ bytes = c.as_slice-file.ensures.value in
    let long : length c.as_slice-file.result.now ≡ length bytes = ap (λ (l : List ℕ). length l) same in
    let snapshot : length c.new.result.snapshot ≡ size = ap (λ (l : List ℕ). length l) c.new.ensures.snapshot
    ∙ length-take-le (32 + size - 32) (drop 32 bytes) (omega (arith, length-drop 32 bytes, long)) ∙ omega arith in
    let records : length (flat_map gated c.new.result.records) ≡ length (flat_map gated (bodies_in c.as_slice-file.result.now
    c.in_ok-bodies.bodies.items)) =
    ap (λ l. length (flat_map gated l)) (c.new.ensures.records ∙ ap (λ l. bodies_in l c.in_ok-bodies.bodies.items) (sym same)) in
    omega (arith, snapshot, records, c.in_ok-bodies.ensures.end)
