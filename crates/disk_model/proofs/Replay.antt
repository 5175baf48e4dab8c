-- One call more in the record of a disk in memory.
use Rattle.std.proofs.Common.{◌≡◌, ℕ, ◌+◌, ◌<◌, ◌≤◌, ◌^◌, List, [], ◌∷◌, ◌++◌, length, take, refl, sym, ap, subst, arith, ◌∙◌}
use Rattle.std.specs.Prelude.{All, Vec}
use Rattle.std.specs.declared.alloc.Global.{Global}
use Rattle.disk_model.specs.declared.call.Call.{Call}
use Rattle.disk_model.specs.declared.call.Call.TheVariants.{Write, Cut, Sync}
use Rattle.disk_model.specs.Calls.{overwritten}
use Rattle.disk_model.specs.CallsMade.{bytes_after, content_of, change_of, continued, history_of, IsKept}
use Rattle.disk_model.specs.History.{Change, Synced}
use Rattle.disk_model.specs.Images.{window, IsImage}
use Rattle.disk_model.specs.Memory.{IsHonest}
use Rattle.disk_model.proofs.ImageLaws.{settled_image, cut_image, write_image}
use Rattle.disk_model.proofs.Overwrites.{length-overwritten}
use Rattle.std.proofs.lemmas.List.{length-take-le}

pub content_of-push : (first : List ℕ) (calls : List Call) (call : Call)
    → content_of first (calls ++ call ∷ []) ≡ bytes_after call (content_of first calls)
content_of-push first [] call = refl
content_of-push first (c ∷ calls) call = content_of-push (bytes_after c first) calls call

continued-push : (history : List Change) (first : List ℕ) (calls : List Call) (call : Call)
    → continued history first (calls ++ call ∷ []) ≡ change_of call (content_of first calls) ∷ continued history first calls
continued-push history first [] call = refl
continued-push history first (c ∷ calls) call = continued-push (change_of c first ∷ history) (bytes_after c first) calls call

length-continued : (history : List Change) (first : List ℕ) (calls : List Call)
    → length (continued history first calls) ≡ length history + length calls
length-continued history first [] = omega arith
length-continued history first (c ∷ calls) = omega (arith, length-continued (change_of c first ∷ history) (bytes_after c first) calls)

-- each call is one moment
pub length-history_of : (first : List ℕ) (calls : List Call) → length (history_of first calls) ≡ length calls + 1
length-history_of first calls = omega (arith, length-continued (Synced first ∷ []) first calls)

-- the history has the call in front
pub history_of-one : (first : List ℕ) (calls : List Call) (call : Call)
    → history_of first (calls ++ call ∷ []) ≡ change_of call (content_of first calls) ∷ history_of first calls
history_of-one first calls call = continued-push (Synced first ∷ []) first calls call

pub history_of-push : (first : List ℕ) (calls : List Call) (call : Call) (bytes : List ℕ) → IsKept first calls bytes
    → history_of first (calls ++ call ∷ []) ≡ change_of call bytes ∷ history_of first calls
history_of-push first calls call bytes kept = history_of-one first calls call
    ∙ ap (λ b. change_of call b ∷ history_of first calls) kept.replayed

-- a call more, where its bytes are one of the images after it
kept-push : (first : List ℕ) (calls : List Call) (call : Call) (bytes : List ℕ) → IsKept first calls bytes
    → IsImage (window (change_of call bytes ∷ history_of first calls)) (bytes_after call bytes)
    → length (bytes_after call bytes) < 2 ^ 63 → IsKept first (calls ++ call ∷ []) (bytes_after call bytes)
kept-push first calls call bytes kept image fits = record {
  replayed = content_of-push first calls call ∙ ap (bytes_after call) kept.replayed;
  image = subst (λ history. IsImage (window history) (bytes_after call bytes)) (sym (history_of-push first calls call bytes kept)) image;
  fits = fits;
}

pub kept-cut : (first : List ℕ) (calls : List Call) (bytes : List ℕ) (len : ℕ) → len ≤ length bytes → IsKept first calls bytes
    → IsKept first (calls ++ Cut len ∷ []) (take len bytes)
kept-cut first calls bytes len within kept =
    kept-push first calls (Cut len) bytes kept (cut_image (history_of first calls) bytes len within kept.image)
    (let cut : length (take len bytes) ≡ len = length-take-le len bytes within in omega (arith, cut, kept.fits))

pub kept-sync : (first : List ℕ) (calls : List Call) (bytes : List ℕ) → IsKept first calls bytes → IsKept first (calls ++ Sync ∷ []) bytes
kept-sync first calls bytes kept = kept-push first calls Sync bytes kept (settled_image bytes kept.image.bytes) kept.fits

pub kept-write : (first : List ℕ) (calls : List Call) (bytes : List ℕ) (at : ℕ) (data' : Vec ℕ Global) → at ≤ length bytes
    → at + length data'.items < 2 ^ 63 → All (λ b. b < 256) (overwritten bytes at data'.items) → IsKept first calls bytes
    → IsKept first (calls ++ Write at data' ∷ []) (overwritten bytes at data'.items)
kept-write first calls bytes at data' within fits bytes_fit kept =
    kept-push first calls (Write at data') bytes kept (write_image (history_of first calls) bytes at data'.items within bytes_fit
    kept.image)
    (omega (arith, length-overwritten bytes at data'.items within, kept.fits))

-- what contracts see of such a disk is honest
pub honest-kept : (first : List ℕ) (calls : List Call) (bytes : List ℕ) (faults : ℕ) → IsKept first calls bytes
    → IsHonest (record { content = bytes; history = history_of first calls; faults = faults })
honest-kept first calls bytes faults kept = record { image = kept.image; fits = kept.fits }
