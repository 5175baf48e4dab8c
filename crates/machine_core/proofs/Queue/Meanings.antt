-- What the commands that show entries mean, once the range or the id is found.
use Rattle.std.proofs.Common.{◌≡◌, ℕ, ◌+◌, ◌<◌, ◌≤◌, zero, suc, add-one, List, [], ◌∷◌, ◌++◌, length, drop, get_or, slice_index_or}
use Rattle.std.proofs.Common.{Option, Some, None, Result, Ok, Err, refl, sym, ap, ◌∙◌, subst, arith, append_assoc}
use Rattle.std.proofs.lemmas.List.{append-nil}
use Rattle.std.proofs.lemmas.List.Quantifiers.{position-Some}
use Rattle.std.proofs.Math.ListN.{drop_of_length-le}
use Rattle.std.proofs.Math.Seq.{drop-cons}
use Rattle.std.specs.Prelude.{◌==◌}
use Rattle.std.specs.List.{flat_map}
use Rattle.std.specs.Global.{Vec}
use Rattle.std.specs.Option.{ok_or}
use Rattle.std.specs.Result.{IsErrAnd}
use Rattle.command_text.specs.AnswerSongs.{id_line}
use Rattle.command_text.specs.declared.command.queue.QueueCommand.TheVariants as commands
use Rattle.command_text.specs.Masks.{all_in_mask}
use Rattle.command_text.specs.declared.tag_mask.TagMask.{TagMask}
use Rattle.command_text.specs.declared.range.PositionRange.{PositionRange}
use Rattle.command_text.specs.declared.refusal.CommandRefusal.{CommandRefusal}
use Rattle.command_text.specs.declared.refusal.CommandRefusal.TheVariants.{NoSuchUri}
use Rattle.play_queue.specs.Positions.{in_front, position_of, position_or_id, positions_of}
use Rattle.play_queue.specs.declared.entry.Entry.{Entry}
use Rattle.play_queue.specs.declared.target.Target.{Target}
use Rattle.song_db.specs.Query.{number_at}
use Rattle.state_codec.specs.Steps.{◌>>=◌}
use Rattle.state_codec.specs.declared.op.Op.TheVariants.{Queue}
use Rattle.state_codec.specs.declared.op.queue_op.QueueOp.TheVariants.{Add}
use Rattle.machine_core.specs.Adding.{adds, place_in}
use Rattle.machine_core.specs.Entries.{file_info, place_info, position_info}
use Rattle.machine_core.specs.Meaning.{edits, says}
use Rattle.machine_core.specs.Named.{IsNotFound, numbers_named}
use Rattle.machine_core.specs.Queue.{changed_in, place_of_id, queue_length, queue_meaning}
use Rattle.machine_core.specs.Spans.{FindsItems, positions_in, span_in, span_or_all, spans_in, whole}
use Rattle.machine_core.specs.State.{MachineState}
use Rattle.machine_core.specs.declared.span.Span.{Span}
use Rattle.machine_core.specs.declared.work.Failure.{Failure}
use Rattle.machine_core.specs.declared.work.Failure.TheVariants.{Refused}

pub range_shown : (mask : TagMask) (range : Option PositionRange) (m : MachineState) (span : Span) → span_or_all range (queue_length m)
    ≡ Ok span
    → queue_meaning mask (commands.Info range) m ≡ says (flat_map (position_info mask m.saved) (positions_in span)) m
unfolding queue_meaning
range_shown mask range m span is = rw is

pub queue_shown : (mask : TagMask) (m : MachineState) (end : ℕ) → end ≡ queue_length m
    → queue_meaning mask (commands.InfoId None) m ≡ says (flat_map (position_info mask m.saved) (positions_in (whole end))) m
unfolding queue_meaning
queue_shown mask m end is = rw is

pub files_shown : (m : MachineState) (end : ℕ) → end ≡ queue_length m
    → queue_meaning all_in_mask commands.Files m ≡ says (flat_map (file_info m.saved.queue.entries) (positions_in (whole end))) m
unfolding queue_meaning
files_shown m end is = rw is

pub id_shown : (mask : TagMask) (id : ℕ) (m : MachineState) (at : ℕ) → place_of_id id m ≡ Ok at
    → queue_meaning mask (commands.InfoId (Some id)) m ≡ says (position_info mask m.saved at) m
unfolding queue_meaning
id_shown mask id m at is = rw is

pub changes_shown : (mask : TagMask) (version : ℕ) (range : Option PositionRange) (m : MachineState) (span : Span)
    → span_or_all range (queue_length m) ≡ Ok span
    → queue_meaning mask (commands.Changes version range) m
    ≡ says (flat_map (position_info mask m.saved) (changed_in m.saved.queue version span)) m
unfolding queue_meaning
changes_shown mask version range m span is = rw is

pub places_shown : (version : ℕ) (range : Option PositionRange) (m : MachineState) (span : Span)
    → span_or_all range (queue_length m) ≡ Ok span
    → queue_meaning all_in_mask (commands.ChangesPositions version range) m
    ≡ says (flat_map (place_info m.saved.queue.entries) (changed_in m.saved.queue version span)) m
unfolding queue_meaning
places_shown version range m span is = rw is

-- the entries of ids stand in the queue
pub place_within : (entries : List Entry) (id at : ℕ) → position_of entries id ≡ Some at → at < length entries
place_within [] id at is = cc
place_within (entry ∷ entries) id at is = (position-Some (λ other. other.id == id) (entry ∷ entries) at entry is).0

abbrev AreBelow : ℕ → List ℕ → Type 0
AreBelow n places = (k : ℕ) → (d : ℕ) → k < length places → slice_index_or places k d < n

abbrev AreWithin : ℕ → Result (List ℕ) ℕ → Type 0
AreWithin n (Ok places) = AreBelow n places
AreWithin n (Err id) = Unit {0}

one_more : (n at : ℕ) (places : List ℕ) → at < n → AreBelow n places → AreBelow n (at ∷ places)
one_more n at places h all zero d k = h
one_more n at places h all (suc i) d k = all i d (omega arith)

in_front_within : (n at : ℕ) (others : Result (List ℕ) ℕ) → at < n → AreWithin n others → AreWithin n (in_front at others)
in_front_within n at (Ok places) h all = one_more n at places h all
in_front_within n at (Err id) h all = tt

first_within : (n id : ℕ) (place : Option ℕ) (others : Result (List ℕ) ℕ) → ((at : ℕ) → place ≡ Some at → at < n) → AreWithin n others
    → AreWithin n (position_or_id id place others)
first_within n id None others h all = tt
first_within n id (Some at) others h all = in_front_within n at others (h at refl) all

all_within : (entries : List Entry) (ids : List ℕ) → AreWithin (length entries) (positions_of entries ids)
all_within entries [] = λ k d h. absurd (omega arith)
all_within entries (id ∷ ids) =
    first_within (length entries) id (position_of entries id) (positions_of entries ids) (place_within entries id) (all_within entries ids)

pub places_within : (entries : List Entry) (ids places : List ℕ) (n : ℕ) → positions_of entries ids ≡ Ok places → length entries ≤ n
    → (k : ℕ) → (d : ℕ) → k < length places → slice_index_or places k d < n
places_within entries ids places n is few k d h =
    let all : AreWithin (length entries) (Ok places) = subst (AreWithin (length entries)) is (all_within entries ids) in
    omega (arith, all k d h, few)

-- spans that were found, and those of the ranges behind them
abbrev pub behind : List (ℕ × ℕ) → Result (List (ℕ × ℕ)) CommandRefusal → Result (List (ℕ × ℕ)) CommandRefusal
behind spans (Ok others) = Ok (spans ++ others)
behind spans (Err refusal) = Err refusal

behind_more : (spans : List (ℕ × ℕ)) (start end : ℕ) (r : Result (List (ℕ × ℕ)) CommandRefusal)
    → behind spans (r >>= λ others. Ok ((start, end) ∷ others)) ≡ behind (spans ++ (start, end) ∷ []) r
behind_more spans start end (Ok others) = ap (λ (l : List (ℕ × ℕ)). Ok l) (sym (append_assoc spans ((start, end) ∷ []) others))
behind_more spans start end (Err refusal) = refl

module _ (ranges : List PositionRange) (count i : ℕ) (other : PositionRange) (spans : List (ℕ × ℕ)) (h : i < length ranges)
    (found : spans_in ranges count ≡ behind spans (spans_in (drop i ranges) count)) where
  next_range : drop i ranges ≡ get_or ranges i other ∷ drop (i + 1) ranges
  next_range = rw (add-one, drop-cons ranges i other) refl

  pub span_next : (span : Span) → span_in (get_or ranges i other) count ≡ Ok span
      → spans_in ranges count ≡ behind (spans ++ (span.start, span.end) ∷ []) (spans_in (drop (i + 1) ranges) count)
  span_next span one =
      found ∙ ap (λ (l : List PositionRange). behind spans (spans_in l count)) next_range
      ∙ ap (λ (r : Result Span CommandRefusal). behind spans (r >>= λ s. spans_in (drop (i + 1) ranges) count
      >>= λ others. Ok ((s.start, s.end) ∷ others))) one
      ∙ behind_more spans span.start span.end (spans_in (drop (i + 1) ranges) count)

  pub span_off : (refusal : CommandRefusal) → span_in (get_or ranges i other) count ≡ Err refusal → spans_in ranges count ≡ Err refusal
  span_off refusal one =
      found ∙ ap (λ (l : List PositionRange). behind spans (spans_in l count)) next_range
      ∙ ap (λ (r : Result Span CommandRefusal). behind spans (r >>= λ s. spans_in (drop (i + 1) ranges) count
      >>= λ others. Ok ((s.start, s.end) ∷ others))) one

pub not_found : {A : Type 0} (looked : Result (List A) CommandRefusal) (refusal : CommandRefusal) (r : Result (Vec A) Failure)
    → looked ≡ Err refusal → IsErrAnd r (λ e. e ≡ Refused refusal) → FindsItems looked r
not_found looked refusal (Ok x) is told = absurd told
not_found looked refusal (Err e) is told = subst (IsNotFound looked) (sym told) is

pub spans_done : (ranges : List PositionRange) (count i : ℕ) (spans : List (ℕ × ℕ)) → length ranges ≤ i
    → spans_in ranges count ≡ behind spans (spans_in (drop i ranges) count) → spans_in ranges count ≡ Ok spans
spans_done ranges count i spans h found =
    found ∙ ap (λ (l : List PositionRange). behind spans (spans_in l count)) (drop_of_length-le ranges h)
    ∙ ap (λ (l : List (ℕ × ℕ)). Ok l) (append-nil spans)

-- a song of this row is added there
pub song_added : (uri : List ℕ) (to : Option Target) (m : MachineState) (row at : ℕ)
    → ok_or (number_at m.saved.songs uri) NoSuchUri ≡ Ok row → place_in to m ≡ Ok at
    → queue_meaning all_in_mask (commands.AddId uri to) m ≡ edits (Queue (Add at (row ∷ []))) (id_line m.saved.queue.next_id) m
unfolding queue_meaning
song_added uri to m row at named place = rw (named, place)

-- the songs of these rows are added
pub songs_added : (uri : List ℕ) (to : Option Target) (m : MachineState) (rows : List ℕ)
    → numbers_named m.saved.profile m.saved.songs uri ≡ Ok rows → queue_meaning all_in_mask (commands.Add uri to) m ≡ adds to rows [] m
unfolding queue_meaning
songs_added uri to m rows named = rw named
