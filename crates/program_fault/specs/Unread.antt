-- Why a text can't be read, in words (this project's own format).
use Rattle.std.specs.Prelude.{ℕ, List, Option, Some, None, codes}
use Rattle.std.specs.declared.io.ErrorKind.TheVariants as kind
use Rattle.program_fault.specs.declared.unread.Unread.{Unread}
use Rattle.program_fault.specs.declared.unread.Unread.TheVariants.{Refused, TooLong, Taken}

-- the words for it, where there are some
abbrev pub unread_words : Unread → Option (List ℕ)
unread_words (Refused kind.NotFound) = Some (codes "no such file or directory")
unread_words (Refused kind.PermissionDenied) = Some (codes "permission denied")
unread_words (Refused kind.IsADirectory) = Some (codes "it is a directory")
unread_words (Refused _) = None
unread_words TooLong = Some (codes "longer than 2 GiB")
unread_words Taken = Some (codes "standard input can be one text only")
