-- Tables of one line, read by computing.
use Rattle.std.proofs.Common.{◌≡◌, [], ◌∷◌, refl}
use Rattle.std.specs.Prelude.{Some, Ok, Err, codes}
use Rattle.packet.specs.declared.kinds.Code.TheVariants as code
use Rattle.packet.specs.declared.kinds.Reply.TheVariants.{Old}
use Rattle.trace_table.specs.declared.reason.TableReason.TheVariants as reason
use Rattle.trace_table.specs.Cells.{separator_of, table_cells}
use Rattle.trace_table.specs.Literals.{literal}
use Rattle.trace_table.specs.Row.{reply_expected}

-- a comma goes before a semicolon, and this before a tab
commas : separator_of (codes "core;1,op") ≡ 44
commas = refl

semicolons : separator_of (codes "core\t1;op") ≡ 59
semicolons = refl

tabs : separator_of (codes "core\top") ≡ 9
tabs = refl

cells : table_cells 59 (codes "0;;1,5") ≡ codes "0" ∷ [] ∷ codes "1,5" ∷ []
cells = refl

-- a chip's number
chip : literal (codes "0x0000_001F") ≡ Some 31
chip = refl

-- a cas that expects 5 found it, or another word
found : reply_expected code.Cas (Some 5) (codes "true") ≡ Ok (Old 5)
found = refl

failed : reply_expected code.Cas (Some 5) (codes "false") ≡ Err reason.FoundUnnamed
failed = refl
