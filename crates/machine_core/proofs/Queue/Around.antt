-- What a shuffle around a song has done: the range was shuffled, and then the song was moved.
use Rattle.std.proofs.Common.{◌≡◌, ℕ, ◌+◌, ◌-◌, ◌≤◌, [], ◌∷◌, ◌++◌, length, None, sym, ap, subst, ◌∙◌}
use Rattle.std.proofs.lemmas.List.{append-nil}
use Rattle.std.specs.Global.{Vec}
use Rattle.std.specs.Prelude.{unwrap_or}
use Rattle.std.specs.Vec.{vec_len, vec_capacity}
use Rattle.play_queue.specs.Positions.{position_of}
use Rattle.profile.specs.declared.profile.Profile.{Profile}
use Rattle.state_codec.specs.Applied.{after, after_all, refusal_of}
use Rattle.state_codec.specs.OpsQueue.{queue_refusal}
use Rattle.state_codec.specs.SavedState.{SavedState}
use Rattle.state_codec.specs.Spelling.{ops_bytes}
use Rattle.state_codec.specs.declared.op.Op.{Op}
use Rattle.state_codec.specs.declared.op.Op.TheVariants.{Queue}
use Rattle.state_codec.specs.declared.op.queue_op.QueueOp.TheVariants.{Move, Shuffle}
use Rattle.machine_core.specs.Front.{front_of}
use Rattle.machine_core.specs.Meaning.{does}
use Rattle.machine_core.specs.Queue.{bring, shuffle_ops, shuffles_around}
use Rattle.machine_core.specs.State.{MachineState}
use Rattle.machine_core.specs.Work.{AddsNothing, AddsOps, CanKeep, HasRoom, Went, command_room}
use Rattle.machine_core.specs.declared.span.Span.{Span}
use Rattle.machine_core.specs.declared.work.Work.{Work}
use Rattle.machine_core.proofs.Queue.Shuffled.{around_means, move_is_free}
use Rattle.machine_core.proofs.Shuffling.{shuffle}

-- the op of a move to the beginning of the range
abbrev pub move : ℕ → Span → Op
move at span = Queue (Move at (at + 1) span.start)

-- the machine behind the shuffle, and where the song stands there
module _ (id at : ℕ) (span : Span) (m n : MachineState) (stands : n ≡ record m { saved = after (shuffle span) m.saved })
    (found : at ≡ unwrap_or (position_of n.saved.queue.entries id) span.start) where
  -- the move is free
  pub free_there : queue_refusal (Shuffle span.start span.end) m.saved ≡ None → 2 ≤ span.end - span.start
      → queue_refusal (Move at (at + 1) span.start) n.saved ≡ None
  free_there free several =
      ap (λ k. refusal_of (move k span) n.saved) found
      ∙ ap (λ (k : MachineState). refusal_of (Queue (bring k.saved.queue.entries id span.start)) k.saved) stands
      ∙ move_is_free id span m.saved free several

  made : (shuffle span ∷ move at span ∷ []) ≡ shuffle_ops id span m.saved
  made =
      ap (λ k. shuffle span ∷ move k span ∷ []) found
      ∙ ap (λ (k : MachineState). shuffle span ∷ Queue (bring k.saved.queue.entries id span.start) ∷ []) stands

  moved : (saved : SavedState) → saved ≡ after (move at span) n.saved
      → record n { saved = saved } ≡ record m { saved = after_all (shuffle_ops id span m.saved) m.saved }
  moved saved is =
      ap (λ s. record n { saved = s }) is
      ∙ ap (λ k. record n { saved = after (move k span) n.saved }) found
      ∙ ap (λ (k : MachineState). record k { saved = after (Queue (bring k.saved.queue.entries id span.start)) k.saved }) stands

  -- both were made, and told
  pub around_went : (profile : Profile) (saved : SavedState) (work admitted done : Work) → profile ≡ m.saved.profile
      → queue_refusal (Shuffle span.start span.end) m.saved ≡ None → 2 ≤ span.end - span.start
      → saved ≡ after (move at span) n.saved → HasRoom command_room work → AddsNothing work admitted → admitted.text ≡ work.text
      → AddsOps (shuffle span ∷ move at span ∷ []) (length (ops_bytes profile (shuffle span ∷ move at span ∷ []))) admitted done
      → done.text ≡ admitted.text → CanKeep done
      → Went m.saved.profile (shuffles_around id span m) (record n { saved = saved }) work done
  around_went profile saved work admitted done under free several is room nothing same adds written can = record {
    meaning = does [] (shuffle_ops id span m.saved) m.player m;
    means = around_means id span m free several;
    stands = moved saved is;
    text = ap front_of (ap (λ (t : Vec ℕ). t.items) (written ∙ same) ∙ sym (append-nil work.text.items));
    ops = record {
      ops = adds.ops ∙ (λ i. nothing.ops i ++ made i);
      size = adds.size ∙ (λ i. nothing.size i + length (ops_bytes (under i) (made i)));
      fits = adds.fits;
    };
    room = subst (λ (t : Vec ℕ). vec_len t + command_room ≤ vec_capacity t) (sym (written ∙ same)) room;
    keeps = λ could. can;
  }
