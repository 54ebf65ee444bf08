-- The numbers that an operation brings are of 64 bits, where those of the lines and of the replies are.
use Rattle.std.proofs.Common.{◌≡◌, ℕ, ◌-◌, ◌^◌, ◌<◌, List, [], ◌∷◌, length, Option, Some, None, refl, sym, subst}
use Rattle.std.specs.Prelude.{All, option_map, option_and_then, slice_get}
use Rattle.std.proofs.lemmas.List.Elements.{All-nil, All-cons}
use Rattle.packet.specs.declared.kinds.Op.{Op}
use Rattle.packet.specs.declared.kinds.Op.TheVariants.{Load, Store, Swap, Cas, Add, And, Or, Xor, Max, Min}
use Rattle.packet.specs.declared.kinds.Reply.{Reply}
use Rattle.packet.specs.declared.kinds.Operation.{Operation}
use Rattle.packet.specs.Spelling.{values_of_op}
use Rattle.script_lines.specs.declared.line.Line.{Line}
use Rattle.script_lines.specs.declared.line.Line.TheVariants as line
use Rattle.script_lines.specs.declared.line.Value.{Value}
use Rattle.script_lines.specs.declared.line.Value.TheVariants.{Number, Last}
use Rattle.script_lines.specs.Lines.{IsWord, IsAcceptedLine}
use Rattle.one_order.specs.declared.spin.OpenSpin.{OpenSpin}
use Rattle.one_order.specs.Scripts.{Invocation, IsFollowable, reply_number, reply_of, last_reply}
use Rattle.one_order.specs.Following.{Following, ShowsPast, next_operation_of, ready_operation, operation_asked, asked, operand_of}
use Rattle.one_order.proofs.Places.{Each, IsLineIn}
use Rattle.one_order.proofs.Shown.{stands}

abbrev Below : List ℕ → Type 0
Below vs = All (λ v. v < 2 ^ 64) vs

none_below : Below []
none_below = All-nil (λ v. v < 2 ^ 64)

one_below : (v : ℕ) → v < 2 ^ 64 → Below (v ∷ [])
one_below v h = All-cons (λ v. v < 2 ^ 64) v [] h none_below

-- the number of a reply that is there
abbrev Known : Option Reply → Type 0
Known None = Unit {0}
Known (Some reply) = reply_number reply < 2 ^ 64

operand_below : (v : Value) (last : Option Reply) (x : ℕ) → IsWord v → Known last → operand_of v last ≡ Some x → x < 2 ^ 64
operand_below (Number n) last x word known e = let same : n ≡ x = cc in subst (λ m. m < 2 ^ 64) same word
operand_below Last None x word known e = cc
operand_below Last (Some reply) x word known e = let same : reply_number reply ≡ x = cc in subst (λ m. m < 2 ^ 64) same known

asked_below : (kind : ℕ → Op) → ((x : ℕ) → x < 2 ^ 64 → Below (values_of_op (kind x))) → (a : ℕ) (v : Value) (last : Option Reply) (o : Operation) → IsWord v
    → Known last
    → (found : Option ℕ) → operand_of v last ≡ found → option_map (λ x. record { address = a; op = kind x }) found ≡ Some o → Below (values_of_op o.op)
asked_below kind below a v last o word known None is e = cc
asked_below kind below a v last o word known (Some x) is e =
    let same : record { address = a; op = kind x } ≡ o = cc in
    subst (λ (p : Operation). Below (values_of_op p.op)) same (below x (operand_below v last x word known is))

cas_below : (a : ℕ) (e n : Value) (last : Option Reply) (o : Operation) → IsWord e → IsWord n → Known last
    → (found : Option ℕ) → operand_of e last ≡ found → option_and_then (λ x. asked (Cas x) a n last) found ≡ Some o → Below (values_of_op o.op)
cas_below a e n last o we wn known None is h = cc
cas_below a e n last o we wn known (Some x) is h =
    asked_below (Cas x) (λ y small. All-cons (λ v. v < 2 ^ 64) x (y ∷ []) (operand_below e last x we known is) (one_below y small)) a n last o wn known
    (operand_of n last) refl h

loads_below : (a : ℕ) (o : Operation) → Some (record { address = a; op = Load }) ≡ Some o → Below (values_of_op o.op)
loads_below a o h =
    let same : record { address = a; op = Load } ≡ o = cc in
    subst (λ (p : Operation). Below (values_of_op p.op)) same none_below

line_below : (words : ℕ) (first : Line) (last : Option Reply) (o : Operation) → IsAcceptedLine words first → Known last → operation_asked first last ≡ Some o
    → Below (values_of_op o.op)
line_below words (line.Load a) last o ok known h = loads_below a o h
line_below words (line.Store a v) last o ok known h = asked_below Store one_below a v last o ok.1 known (operand_of v last) refl h
line_below words (line.Swap a v) last o ok known h = asked_below Swap one_below a v last o ok.1 known (operand_of v last) refl h
line_below words (line.Cas a e n) last o ok known h = cas_below a e n last o ok.1 ok.2 known (operand_of e last) refl h
line_below words (line.Add a v) last o ok known h = asked_below Add one_below a v last o ok.1 known (operand_of v last) refl h
line_below words (line.And a v) last o ok known h = asked_below And one_below a v last o ok.1 known (operand_of v last) refl h
line_below words (line.Or a v) last o ok known h = asked_below Or one_below a v last o ok.1 known (operand_of v last) refl h
line_below words (line.Xor a v) last o ok known h = asked_below Xor one_below a v last o ok.1 known (operand_of v last) refl h
line_below words (line.Max a v) last o ok known h = asked_below Max one_below a v last o ok.1 known (operand_of v last) refl h
line_below words (line.Min a v) last o ok known h = asked_below Min one_below a v last o ok.1 known (operand_of v last) refl h
line_below words line.Fence last o ok known h = cc
line_below words (line.Spin a v m) last o ok known h = loads_below a o h

ready_below : (words : ℕ) (spin : Option OpenSpin) (ahead : List Line) (last : Option Reply) (o : Operation) → Each (IsAcceptedLine words) ahead → Known last
    → ready_operation spin ahead last ≡ Some o → Below (values_of_op o.op)
ready_below words None [] last o each known h = cc
ready_below words None (first ∷ lines) last o each known h = line_below words first last o each.0 known h
ready_below words (Some s) ahead None o each known h = cc
ready_below words (Some s) ahead (Some reply) o each known h = loads_below s.address o h

each_accepted : (words : ℕ) (lines ahead : List Line) → ((i : ℕ) (first : Line) → slice_get lines i ≡ Some first → IsAcceptedLine words first)
    → Each (IsLineIn lines) ahead → Each (IsAcceptedLine words) ahead
each_accepted words lines [] ok there = tt
each_accepted words lines (first ∷ more) ok there = (ok there.0.0 first there.0.1, each_accepted words lines more ok there.1)

last_known : (past : List Invocation)
    → ((i : ℕ) (x : Invocation) (a : ℕ) (reply : Reply) → slice_get past i ≡ Some x → x.answer ≡ Some (a, reply) → reply_number reply < 2 ^ 64)
    → Known (last_reply past)
last_known past ok = by_last (slice_get past (length past - 1)) refl where
  by_answer : (x : Invocation) → slice_get past (length past - 1) ≡ Some x → (answer : Option (ℕ × Reply)) → x.answer ≡ answer
      → Known (option_map (λ a. a.1) answer)
  by_answer x is None e = tt
  by_answer x is (Some (a, reply)) e = ok (length past - 1) x a reply is e

  by_last : (o : Option Invocation) → slice_get past (length past - 1) ≡ o → Known (option_and_then reply_of o)
  by_last None e = tt
  by_last (Some x) e = by_answer x e x.answer refl

pub brings_words : (words : ℕ) (lines : List Line) (past : List Invocation) (f : Following) (o : Operation) → IsFollowable lines → ShowsPast lines past f
    → ((i : ℕ) (first : Line) → slice_get lines i ≡ Some first → IsAcceptedLine words first)
    → ((i : ℕ) (x : Invocation) (a : ℕ) (reply : Reply) → slice_get past i ≡ Some x → x.answer ≡ Some (a, reply) → reply_number reply < 2 ^ 64)
    → next_operation_of f ≡ Some o → Below (values_of_op o.op)
unfolding next_operation_of
brings_words words lines past f o followable shows ok known next =
    let s = stands lines past f followable shows in
    ready_below words f.spin f.ahead f.last o (each_accepted words lines f.ahead ok s.ahead_in) (subst Known (sym s.last) (last_known past known)) next
