-- Each operation has a word and a number of its own.
use Rattle.std.proofs.Common.{◌≡◌, refl}
use Rattle.std.specs.Prelude.{Some}
use Rattle.packet.specs.declared.kinds.Code.{Code}
use Rattle.packet.specs.declared.kinds.Code.TheVariants as code
use Rattle.packet.specs.Names.{code_word, code_named}
use Rattle.packet.specs.Numbers.{code_number, code_of_number}

pub named_by_its_word : (c : Code) → code_named (code_word c) ≡ Some c
named_by_its_word code.Load = refl
named_by_its_word code.Store = refl
named_by_its_word code.Swap = refl
named_by_its_word code.Cas = refl
named_by_its_word code.Add = refl
named_by_its_word code.And = refl
named_by_its_word code.Or = refl
named_by_its_word code.Xor = refl
named_by_its_word code.Max = refl
named_by_its_word code.Min = refl

pub named_by_its_number : (c : Code) → code_of_number (code_number c) ≡ Some c
named_by_its_number code.Load = refl
named_by_its_number code.Store = refl
named_by_its_number code.Swap = refl
named_by_its_number code.Cas = refl
named_by_its_number code.Add = refl
named_by_its_number code.And = refl
named_by_its_number code.Or = refl
named_by_its_number code.Xor = refl
named_by_its_number code.Max = refl
named_by_its_number code.Min = refl
