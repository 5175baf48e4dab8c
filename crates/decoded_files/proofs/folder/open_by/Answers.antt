use Rattle.std.proofs.Common.{rules, ◌≡◌, true, false, is_none, refl}
use Rattle.decoded_files.proofs.FolderFiles.{none_there, told_there, plain_too, not_told, not_asked}
use Rattle.decoded_files.proofs.folder.open_by.Goals as goal

pub returns-then-is_none-clause-opened : goal.returns-then-is_none-clause-opened
returns-then-is_none-clause-opened g c = λ told honest.
    let none : is_none c.in_ok-look.field-0 ≡ true = search rules in
    none_there (g.D.Decoder.told c.args.decoder.now) (g.F.Folder.files c.args.folder.now) c.args.path.now c.in_ok-look.field-0
    (c.in_ok-look.ensures.stamp told) none

pub returns-in-Ok-clause-opened : goal.returns-in-Ok-clause-opened
returns-in-Ok-clause-opened g c = λ told honest.
    let some : is_none c.in_ok-look.field-0 ≡ false = search rules in (
      told_there (g.D.Decoder.told c.args.decoder.now) (g.F.Folder.files c.args.folder.now) c.args.path.now _ c.in_ok-look.field-0
          (c.in_ok-look.ensures.stamp told) some (search rules) (c.in-Ok.ensures.bytes honest),
      c.in-Ok.ensures.honest honest,
    )

pub returns-in-Err-NoSong-clause-opened : goal.returns-in-Err-NoSong-clause-opened
returns-in-Err-NoSong-clause-opened g c = λ told honest.
    plain_too c.open_plain-in-Err-NoSong.result (g.D.Decoder.told c.args.decoder.now) (g.F.Folder.files c.args.folder.now) _ c.args.path.now _ _
    (c.in_ok-look.ensures.files told) (λ b. not_told (g.D.Decoder.told c.args.decoder.now) c.args.path.now b
    (c.in-Err-NoSong.ensures.no_song honest (search rules))) (c.open_plain-in-Err-NoSong.ensures.opened (c.in_ok-look.ensures.honest told))

pub returns-then-not-is_asked-clause-opened : goal.returns-then-not-is_asked-clause-opened
returns-then-not-is_asked-clause-opened g c = λ told honest.
    plain_too c.open_plain.result (g.D.Decoder.told c.args.decoder.now) (g.F.Folder.files c.args.folder.now) _ c.args.path.now _ _
    refl (λ b. not_asked (g.D.Decoder.told c.args.decoder.now) c.args.path.now b (search rules)) (c.open_plain.ensures.opened told)
