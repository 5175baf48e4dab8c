-- Frames from their parts.
use Rattle.std.proofs.Common.{◌≡◌, ℕ, ◌-◌, ◌/◌, Bool, cond, List, [], ◌∷◌, length, refl, ℤ, eqb, Result, Ok, Err}
use Rattle.flac_frames.specs.Bits.{bits_of}
use Rattle.flac_frames.specs.Frame.{Frame, frame, frame_of, frame_head, frame_fields, guarded, is_mono, Refuses}
use Rattle.flac_frames.specs.FrameRest.{frame_from, frame_body, shown}
use Rattle.flac_frames.specs.declared.head.Stream.{Stream}
use Rattle.flac_frames.specs.declared.head.FrameHead.{FrameHead}
use Rattle.flac_frames.specs.declared.head.Channels.{Channels}
use Rattle.flac_frames.specs.declared.head.Channels.TheVariants.{Mono, Stereo, LeftSide, SideRight, MidSide}
use Rattle.flac_frames.specs.declared.refusal.FrameError.{FrameError}
use Rattle.flac_frames.specs.declared.refusal.FrameError.TheVariants.{NoMemory, Ended, NoSync, Forbidden, TooLarge, TooManyChannels, RateNotSupported, BitsNotSupported, HeadCrc, FrameCrc}

frame_is : (stream : Stream) (bits rest : List Bool) (head : FrameHead) → frame_head stream bits ≡ Ok (record { value = head; rest = rest })
    → frame stream bits ≡ frame_from head bits rest
unfolding frame guarded frame_fields frame_from frame_body
frame_is stream bits rest head h = rw h refl

pub frame_read : (stream : Stream) (bytes : List ℕ) (bits start rest : List Bool) (head : FrameHead) (value : Frame) (used : ℕ)
    → start ≡ bits_of bytes
    → frame_head stream start ≡ Ok (record { value = head; rest = bits })
    → frame_from head (bits_of bytes) bits ≡ Ok (record { value = value; rest = rest })
    → used ≡ length bytes - length rest / 8
    → frame_of stream bytes ≡ Ok (record { frame = value; used = used })
unfolding frame_of
frame_read stream bytes bits start rest head value used same h f u =
    let h' : frame_head stream (bits_of bytes) ≡ Ok (record { value = head; rest = bits }) = rw same at h in
    rw (frame_is stream (bits_of bytes) bits head h', f, u) refl

pub frame_refused : (stream : Stream) (bytes : List ℕ) (bits start : List Bool) (head : FrameHead) (error : FrameError)
    → start ≡ bits_of bytes
    → frame_head stream start ≡ Ok (record { value = head; rest = bits })
    → frame_from head (bits_of bytes) bits ≡ Err error
    → frame_of stream bytes ≡ Err error
unfolding frame_of
frame_refused stream bytes bits start head error same h f =
    let h' : frame_head stream (bits_of bytes) ≡ Ok (record { value = head; rest = bits }) = rw same at h in
    rw (frame_is stream (bits_of bytes) bits head h', f) refl

pub head_refused : (stream : Stream) (bytes : List ℕ) (start : List Bool) (error : FrameError)
    → start ≡ bits_of bytes → frame_head stream start ≡ Err error → frame_of stream bytes ≡ Err error
unfolding frame_of frame guarded frame_fields
head_refused stream bytes start error same h =
    let h' : frame_head stream (bits_of bytes) ≡ Err error = rw same at h in
    rw h' refl

pub refuses : {A : Type 0} (reading : Result A FrameError) (error : FrameError) → reading ≡ Err error → Refuses reading error
refuses reading NoMemory h = tt
refuses reading Ended h = h
refuses reading NoSync h = h
refuses reading Forbidden h = h
refuses reading TooLarge h = h
refuses reading TooManyChannels h = h
refuses reading RateNotSupported h = h
refuses reading BitsNotSupported h = h
refuses reading HeadCrc h = h
refuses reading FrameCrc h = h

pub shown_is : (channels : Channels) (k : ℕ) (first second : List ℤ) → k ≡ cond (is_mono channels) 1 2
    → shown channels first second ≡ cond (eqb k 0) [] (cond (eqb k 1) (first ∷ []) (first ∷ second ∷ []))
shown_is Mono k first second h = rw h refl
shown_is Stereo k first second h = rw h refl
shown_is LeftSide k first second h = rw h refl
shown_is SideRight k first second h = rw h refl
shown_is MidSide k first second h = rw h refl
