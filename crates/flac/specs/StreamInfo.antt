-- What STREAMINFO tells of the stream, 34 bytes (RFC 9639, section 8.2).
use Rattle.std.specs.Prelude.{ℕ, ◌+◌, ◌/◌, ◌%◌, ◌^◌, ◌==◌, ◌&&◌, not, nat_le, List, [], ◌∷◌, take, drop, Bool, Result, Ok, Err}
use Rattle.std.specs.Prelude.{if◌then◌else◌}
use Rattle.flac.specs.Blocks.{body_of}
use Rattle.flac.specs.Limits.{MAX_RATE}
use Rattle.flac.specs.Numbers.{be16, be24, be64}
use Rattle.flac.specs.declared.blocks.BlockHead.{BlockHead}
use Rattle.flac.specs.declared.stream_info.StreamInfo.{StreamInfo}
use Rattle.flac.specs.declared.refusal.FlacError.{FlacError}
use Rattle.flac.specs.declared.refusal.FlacError.TheVariants.{BadStreamInfo, Unsupported}

-- the 64 bits behind the sizes: a rate of 20 bits, the channels less 1 in 3, the bits a sample less 1 in 5, the samples in 36
abbrev pub packed : List ℕ → ℕ
packed body = be64 (drop 10 body)

abbrev pub info_in : List ℕ → StreamInfo
info_in body = record {
  min_block = be16 body;
  max_block = be16 (drop 2 body);
  min_frame = be24 (drop 4 body);
  max_frame = be24 (drop 7 body);
  rate = packed body / 2 ^ 44;
  channels = packed body / 2 ^ 41 % 8 + 1;
  bits = packed body / 2 ^ 36 % 32 + 1;
  samples = packed body % 2 ^ 36;
  md5 = take 16 (drop 18 body);
}

-- blocks have at least 16 samples
abbrev pub has_sizes : StreamInfo → Bool
has_sizes info = nat_le 16 info.min_block && nat_le info.min_block info.max_block

-- one or two channels, 1 to 192,000 samples a second, 4 to 32 bits a sample
abbrev pub is_supported : StreamInfo → Bool
is_supported info = nat_le info.channels 2 && nat_le 1 info.rate && nat_le info.rate MAX_RATE && nat_le 4 info.bits

abbrev pub judged : StreamInfo → Result StreamInfo FlacError
judged info =
    if not (has_sizes info) then Err BadStreamInfo
    else if is_supported info then Ok info
    else Err (Unsupported info.rate info.channels info.bits)

-- STREAMINFO has type 0
abbrev pub is_stream_info : BlockHead → Bool
is_stream_info block = block.kind == 0 && block.len == 34

-- it is the first block
abbrev pub info_of : List ℕ → List BlockHead → Result StreamInfo FlacError
info_of file [] = Err BadStreamInfo
info_of file (block ∷ blocks) = if is_stream_info block then judged (info_in (body_of file block)) else Err BadStreamInfo
