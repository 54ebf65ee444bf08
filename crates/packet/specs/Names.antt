-- The words that name the operations in every text, and how many values stand behind them.
use Rattle.std.specs.Prelude.{ℕ, List, [], ◌∷◌, length, Option, find, codes}
use Rattle.std.specs.Str.{bytes_eq}
use Rattle.packet.specs.declared.kinds.Code.{Code}
use Rattle.packet.specs.declared.kinds.Code.TheVariants as code
use Rattle.packet.specs.declared.kinds.Values.{Values}
use Rattle.packet.specs.declared.kinds.Values.TheVariants as values
pub use Rattle.packet.specs.Numbers.{every_code}
use Rattle.packet.specs.Kinds.{op_with}
use Rattle.packet.specs.Spelling.{values_of_op}

-- the word that names an operation in every text (this project's own format)
abbrev pub code_word : Code → List ℕ
code_word code.Load = codes "load"
code_word code.Store = codes "store"
code_word code.Swap = codes "swap"
code_word code.Cas = codes "cas"
code_word code.Add = codes "add"
code_word code.And = codes "and"
code_word code.Or = codes "or"
code_word code.Xor = codes "xor"
code_word code.Max = codes "max"
code_word code.Min = codes "min"

-- the operation that a word names
abbrev pub code_named : List ℕ → Option Code
code_named word = find (λ code. bytes_eq word (code_word code)) every_code

-- how many values stand behind an operation and its address
abbrev pub arity : Code → ℕ
arity code = length (values_of_op (op_with code 0 0))

-- the values of the program as a list
abbrev pub values_listed : Values → List ℕ
values_listed values.None = []
values_listed (values.One v) = v ∷ []
values_listed (values.Two v w) = v ∷ w ∷ []
