-- Operations of 64-bit values at words of the memory.
use Rattle.std.proofs.Common.{◌≡◌, ℕ, ◌^◌, ◌<◌, List, [], ◌∷◌, Option, Some, None, refl, subst}
use Rattle.std.specs.Prelude.{option_map, option_and_then}
use Rattle.std.proofs.lemmas.List.Elements.{All-cons}
use Rattle.packet.specs.declared.kinds.Op.{Op}
use Rattle.packet.specs.declared.kinds.Op.TheVariants.{Load, Store, Swap, Cas, Add, And, Or, Xor, Max, Min}
use Rattle.packet.specs.declared.kinds.Reply.{Reply}
use Rattle.packet.specs.declared.kinds.Operation.{Operation}
use Rattle.packet.specs.Kinds.{code_of, IsReplyOf}
use Rattle.packet.specs.Memory.{reply_to}
use Rattle.packet.specs.Spelling.{values_of_op}
use Rattle.packet.proofs.Words.{Below, none_below, one_below}
use Rattle.script_lines.specs.declared.line.Line.{Line}
use Rattle.script_lines.specs.declared.line.Line.TheVariants as line
use Rattle.script_lines.specs.declared.line.Value.{Value}
use Rattle.script_lines.specs.declared.line.Value.TheVariants.{Number, Last}
use Rattle.script_lines.specs.Lines.{IsWord, IsAcceptedLine}
use Rattle.one_order.specs.declared.spin.OpenSpin.{OpenSpin}
use Rattle.one_order.specs.Scripts.{reply_number}
use Rattle.one_order.specs.Following.{ready_operation, operation_asked, asked, operand_of}
use Rattle.one_order.proofs.Places.{Each}

-- what an operation replies is a reply of its kind
pub reply_fits : (op : Op) (w : ℕ) → IsReplyOf (code_of op) (reply_to op w)
reply_fits Load w = refl
reply_fits (Store v) w = refl
reply_fits (Swap v) w = refl
reply_fits (Cas e n) w = refl
reply_fits (Add v) w = refl
reply_fits (And v) w = refl
reply_fits (Or v) w = refl
reply_fits (Xor v) w = refl
reply_fits (Max v) w = refl
reply_fits (Min v) w = refl

-- the number of a reply that is there is of 64 bits
abbrev pub Known : Option Reply → Type 0
Known None = Unit {0}
Known (Some reply) = reply_number reply < 2 ^ 64

-- an operation at a word of the memory, of 64-bit values
abbrev pub IsInside : ℕ → Operation → Type 0
IsInside words o = (o.address < words) × Below (values_of_op o.op)

-- the address of an open spin is that of a word
abbrev pub IsSpinInside : ℕ → Option OpenSpin → Type 0
IsSpinInside words None = Unit {0}
IsSpinInside words (Some s) = s.address < words

operand_below : (v : Value) (last : Option Reply) (x : ℕ) → IsWord v → Known last → operand_of v last ≡ Some x → x < 2 ^ 64
operand_below (Number n) last x word known e = let same : n ≡ x = cc in subst (λ m. m < 2 ^ 64) same word
operand_below Last None x word known e = cc
operand_below Last (Some reply) x word known e = let same : reply_number reply ≡ x = cc in subst (λ m. m < 2 ^ 64) same known

asked_inside : (words : ℕ) (kind : ℕ → Op) → ((x : ℕ) → x < 2 ^ 64 → Below (values_of_op (kind x))) → (a : ℕ) (v : Value) (last : Option Reply) (o : Operation)
    → a < words → IsWord v → Known last
    → (found : Option ℕ) → operand_of v last ≡ found → option_map (λ x. record { address = a; op = kind x }) found ≡ Some o → IsInside words o
asked_inside words kind below a v last o a_in word known None is e = cc
asked_inside words kind below a v last o a_in word known (Some x) is e =
    let same : record { address = a; op = kind x } ≡ o = cc in
    subst (λ (p : Operation). IsInside words p) same (a_in, below x (operand_below v last x word known is))

cas_inside : (words a : ℕ) (e n : Value) (last : Option Reply) (o : Operation) → a < words → IsWord e → IsWord n → Known last
    → (found : Option ℕ) → operand_of e last ≡ found → option_and_then (λ x. asked (Cas x) a n last) found ≡ Some o → IsInside words o
cas_inside words a e n last o a_in we wn known None is h = cc
cas_inside words a e n last o a_in we wn known (Some x) is h =
    asked_inside words (Cas x) (λ y small. All-cons (λ v. v < 2 ^ 64) x (y ∷ []) (operand_below e last x we known is) (one_below y small)) a n last o a_in wn
    known (operand_of n last) refl h

loads_inside : (words a : ℕ) (o : Operation) → a < words → Some (record { address = a; op = Load }) ≡ Some o → IsInside words o
loads_inside words a o a_in h =
    let same : record { address = a; op = Load } ≡ o = cc in
    subst (λ (p : Operation). IsInside words p) same (a_in, none_below)

line_inside : (words : ℕ) (first : Line) (last : Option Reply) (o : Operation) → IsAcceptedLine words first → Known last → operation_asked first last ≡ Some o
    → IsInside words o
line_inside words (line.Load a) last o ok known h = loads_inside words a o ok h
line_inside words (line.Store a v) last o ok known h = asked_inside words Store one_below a v last o ok.0 ok.1 known (operand_of v last) refl h
line_inside words (line.Swap a v) last o ok known h = asked_inside words Swap one_below a v last o ok.0 ok.1 known (operand_of v last) refl h
line_inside words (line.Cas a e n) last o ok known h = cas_inside words a e n last o ok.0 ok.1 ok.2 known (operand_of e last) refl h
line_inside words (line.Add a v) last o ok known h = asked_inside words Add one_below a v last o ok.0 ok.1 known (operand_of v last) refl h
line_inside words (line.And a v) last o ok known h = asked_inside words And one_below a v last o ok.0 ok.1 known (operand_of v last) refl h
line_inside words (line.Or a v) last o ok known h = asked_inside words Or one_below a v last o ok.0 ok.1 known (operand_of v last) refl h
line_inside words (line.Xor a v) last o ok known h = asked_inside words Xor one_below a v last o ok.0 ok.1 known (operand_of v last) refl h
line_inside words (line.Max a v) last o ok known h = asked_inside words Max one_below a v last o ok.0 ok.1 known (operand_of v last) refl h
line_inside words (line.Min a v) last o ok known h = asked_inside words Min one_below a v last o ok.0 ok.1 known (operand_of v last) refl h
line_inside words line.Fence last o ok known h = cc
line_inside words (line.Spin a v m) last o ok known h = loads_inside words a o ok.0 h

-- the operation that is ready_operation is at a word, and of 64-bit values
pub ready_inside : (words : ℕ) (spin : Option OpenSpin) (ahead : List Line) (last : Option Reply) (o : Operation) → Each (IsAcceptedLine words) ahead
    → IsSpinInside words spin → Known last
    → ready_operation spin ahead last ≡ Some o → IsInside words o
ready_inside words None [] last o each inside known h = cc
ready_inside words None (first ∷ lines) last o each inside known h = line_inside words first last o each.0 known h
ready_inside words (Some s) ahead None o each inside known h = cc
ready_inside words (Some s) ahead (Some reply) o each inside known h = loads_inside words s.address o inside h
