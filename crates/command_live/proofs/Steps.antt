-- Steps that lines of a dialogue ask for.
use Rattle.std.proofs.Common.{◌≡◌, ℕ, zero, suc, ◌%◌, ◌*◌, ◌+◌, nat_lt, ◌<◌, ◌≤◌, List, [], ◌∷◌, length, map, Bor, Bool, arith, false, true, refl}
use Rattle.std.specs.Prelude.{Option, Some, None, Ok, Err, is_some, ok_or, codes}
use Rattle.lexer.specs.Numbers.{index_of}
use Rattle.std.specs.Str.{bytes_eq}
use Rattle.std.proofs.lemmas.Slice.Eq.{bytes_eq-Decides}
use Rattle.torus.specs.Shape.{Shape, dims_of, tiles_of}
use Rattle.torus.specs.declared.fault.Fault.TheVariants as fault
use Rattle.script.specs.Settings.{an_index}
use Rattle.script.specs.Steps.{choice_word}
use Rattle.command_live.specs.Step.{if_there, of_a_port, of_no_port, step_asked}

-- an index that a word spells
is_found : (x : Option ℕ) (n : ℕ) → ok_or x fault.Line ≡ Ok n → x ≡ Some n
is_found None n is = absurd (cc)
is_found (Some m) n is = cc

-- a word without a number, by what it is
without_port_by : (s : Shape) (agent word : List ℕ) (a k : ℕ) (low send take put credit serve done look : Bool)
    → bytes_eq word (codes "send") ≡ send
    → bytes_eq word (codes "take") ≡ take
    → bytes_eq word (codes "put") ≡ put
    → bytes_eq word (codes "credit") ≡ credit
    → bytes_eq word (codes "serve") ≡ serve
    → bytes_eq word (codes "done") ≡ done
    → bytes_eq word (codes "look") ≡ look
    → index_of agent ≡ Some a → a % 3 ≡ k → nat_lt a (3 * tiles_of s) ≡ low → is_some (choice_word word) ≡ true
    → step_asked (tiles_of s) (dims_of s) (agent ∷ word ∷ []) ≡ if_there s a (of_no_port word)
without_port_by s agent word a zero true true take put credit serve done look e1 e2 e3 e4 e5 e6 e7 found of is there = let w = (bytes_eq-Decides word (codes "send")).0 e1 in simp (w, found, of, is)
without_port_by s agent word a zero false true take put credit serve done look e1 e2 e3 e4 e5 e6 e7 found of is there = let w = (bytes_eq-Decides word (codes "send")).0 e1 in simp (w, found, of, is)
without_port_by s agent word a (suc zero) true true take put credit serve done look e1 e2 e3 e4 e5 e6 e7 found of is there = let w = (bytes_eq-Decides word (codes "send")).0 e1 in simp (w, found, of, is)
without_port_by s agent word a (suc zero) false true take put credit serve done look e1 e2 e3 e4 e5 e6 e7 found of is there = let w = (bytes_eq-Decides word (codes "send")).0 e1 in simp (w, found, of, is)
without_port_by s agent word a (suc (suc zero)) true true take put credit serve done look e1 e2 e3 e4 e5 e6 e7 found of is there = let w = (bytes_eq-Decides word (codes "send")).0 e1 in simp (w, found, of, is)
without_port_by s agent word a (suc (suc zero)) false true take put credit serve done look e1 e2 e3 e4 e5 e6 e7 found of is there = let w = (bytes_eq-Decides word (codes "send")).0 e1 in simp (w, found, of, is)
without_port_by s agent word a zero true false true put credit serve done look e1 e2 e3 e4 e5 e6 e7 found of is there = let w = (bytes_eq-Decides word (codes "take")).0 e2 in simp (w, found, of, is)
without_port_by s agent word a zero false false true put credit serve done look e1 e2 e3 e4 e5 e6 e7 found of is there = let w = (bytes_eq-Decides word (codes "take")).0 e2 in simp (w, found, of, is)
without_port_by s agent word a (suc zero) true false true put credit serve done look e1 e2 e3 e4 e5 e6 e7 found of is there = let w = (bytes_eq-Decides word (codes "take")).0 e2 in simp (w, found, of, is)
without_port_by s agent word a (suc zero) false false true put credit serve done look e1 e2 e3 e4 e5 e6 e7 found of is there = let w = (bytes_eq-Decides word (codes "take")).0 e2 in simp (w, found, of, is)
without_port_by s agent word a (suc (suc zero)) true false true put credit serve done look e1 e2 e3 e4 e5 e6 e7 found of is there = let w = (bytes_eq-Decides word (codes "take")).0 e2 in simp (w, found, of, is)
without_port_by s agent word a (suc (suc zero)) false false true put credit serve done look e1 e2 e3 e4 e5 e6 e7 found of is there = let w = (bytes_eq-Decides word (codes "take")).0 e2 in simp (w, found, of, is)
without_port_by s agent word a zero true false false true credit serve done look e1 e2 e3 e4 e5 e6 e7 found of is there = let w = (bytes_eq-Decides word (codes "put")).0 e3 in simp (w, found, of, is)
without_port_by s agent word a zero false false false true credit serve done look e1 e2 e3 e4 e5 e6 e7 found of is there = let w = (bytes_eq-Decides word (codes "put")).0 e3 in simp (w, found, of, is)
without_port_by s agent word a (suc zero) true false false true credit serve done look e1 e2 e3 e4 e5 e6 e7 found of is there = let w = (bytes_eq-Decides word (codes "put")).0 e3 in simp (w, found, of, is)
without_port_by s agent word a (suc zero) false false false true credit serve done look e1 e2 e3 e4 e5 e6 e7 found of is there = let w = (bytes_eq-Decides word (codes "put")).0 e3 in simp (w, found, of, is)
without_port_by s agent word a (suc (suc zero)) true false false true credit serve done look e1 e2 e3 e4 e5 e6 e7 found of is there = let w = (bytes_eq-Decides word (codes "put")).0 e3 in simp (w, found, of, is)
without_port_by s agent word a (suc (suc zero)) false false false true credit serve done look e1 e2 e3 e4 e5 e6 e7 found of is there = let w = (bytes_eq-Decides word (codes "put")).0 e3 in simp (w, found, of, is)
without_port_by s agent word a zero true false false false true serve done look e1 e2 e3 e4 e5 e6 e7 found of is there = let w = (bytes_eq-Decides word (codes "credit")).0 e4 in simp (w, found, of, is)
without_port_by s agent word a zero false false false false true serve done look e1 e2 e3 e4 e5 e6 e7 found of is there = let w = (bytes_eq-Decides word (codes "credit")).0 e4 in simp (w, found, of, is)
without_port_by s agent word a (suc zero) true false false false true serve done look e1 e2 e3 e4 e5 e6 e7 found of is there = let w = (bytes_eq-Decides word (codes "credit")).0 e4 in simp (w, found, of, is)
without_port_by s agent word a (suc zero) false false false false true serve done look e1 e2 e3 e4 e5 e6 e7 found of is there = let w = (bytes_eq-Decides word (codes "credit")).0 e4 in simp (w, found, of, is)
without_port_by s agent word a (suc (suc zero)) true false false false true serve done look e1 e2 e3 e4 e5 e6 e7 found of is there = let w = (bytes_eq-Decides word (codes "credit")).0 e4 in simp (w, found, of, is)
without_port_by s agent word a (suc (suc zero)) false false false false true serve done look e1 e2 e3 e4 e5 e6 e7 found of is there = let w = (bytes_eq-Decides word (codes "credit")).0 e4 in simp (w, found, of, is)
without_port_by s agent word a zero true false false false false true done look e1 e2 e3 e4 e5 e6 e7 found of is there = let w = (bytes_eq-Decides word (codes "serve")).0 e5 in simp (w, found, of, is)
without_port_by s agent word a zero false false false false false true done look e1 e2 e3 e4 e5 e6 e7 found of is there = let w = (bytes_eq-Decides word (codes "serve")).0 e5 in simp (w, found, of, is)
without_port_by s agent word a (suc zero) true false false false false true done look e1 e2 e3 e4 e5 e6 e7 found of is there = let w = (bytes_eq-Decides word (codes "serve")).0 e5 in simp (w, found, of, is)
without_port_by s agent word a (suc zero) false false false false false true done look e1 e2 e3 e4 e5 e6 e7 found of is there = let w = (bytes_eq-Decides word (codes "serve")).0 e5 in simp (w, found, of, is)
without_port_by s agent word a (suc (suc zero)) true false false false false true done look e1 e2 e3 e4 e5 e6 e7 found of is there = let w = (bytes_eq-Decides word (codes "serve")).0 e5 in simp (w, found, of, is)
without_port_by s agent word a (suc (suc zero)) false false false false false true done look e1 e2 e3 e4 e5 e6 e7 found of is there = let w = (bytes_eq-Decides word (codes "serve")).0 e5 in simp (w, found, of, is)
without_port_by s agent word a zero true false false false false false true look e1 e2 e3 e4 e5 e6 e7 found of is there = let w = (bytes_eq-Decides word (codes "done")).0 e6 in simp (w, found, of, is)
without_port_by s agent word a zero false false false false false false true look e1 e2 e3 e4 e5 e6 e7 found of is there = let w = (bytes_eq-Decides word (codes "done")).0 e6 in simp (w, found, of, is)
without_port_by s agent word a (suc zero) true false false false false false true look e1 e2 e3 e4 e5 e6 e7 found of is there = let w = (bytes_eq-Decides word (codes "done")).0 e6 in simp (w, found, of, is)
without_port_by s agent word a (suc zero) false false false false false false true look e1 e2 e3 e4 e5 e6 e7 found of is there = let w = (bytes_eq-Decides word (codes "done")).0 e6 in simp (w, found, of, is)
without_port_by s agent word a (suc (suc zero)) true false false false false false true look e1 e2 e3 e4 e5 e6 e7 found of is there = let w = (bytes_eq-Decides word (codes "done")).0 e6 in simp (w, found, of, is)
without_port_by s agent word a (suc (suc zero)) false false false false false false true look e1 e2 e3 e4 e5 e6 e7 found of is there = let w = (bytes_eq-Decides word (codes "done")).0 e6 in simp (w, found, of, is)
without_port_by s agent word a zero true false false false false false false true e1 e2 e3 e4 e5 e6 e7 found of is there = let w = (bytes_eq-Decides word (codes "look")).0 e7 in simp (w, found, of, is)
without_port_by s agent word a zero false false false false false false false true e1 e2 e3 e4 e5 e6 e7 found of is there = let w = (bytes_eq-Decides word (codes "look")).0 e7 in simp (w, found, of, is)
without_port_by s agent word a (suc zero) true false false false false false false true e1 e2 e3 e4 e5 e6 e7 found of is there = let w = (bytes_eq-Decides word (codes "look")).0 e7 in simp (w, found, of, is)
without_port_by s agent word a (suc zero) false false false false false false false true e1 e2 e3 e4 e5 e6 e7 found of is there = let w = (bytes_eq-Decides word (codes "look")).0 e7 in simp (w, found, of, is)
without_port_by s agent word a (suc (suc zero)) true false false false false false false true e1 e2 e3 e4 e5 e6 e7 found of is there = let w = (bytes_eq-Decides word (codes "look")).0 e7 in simp (w, found, of, is)
without_port_by s agent word a (suc (suc zero)) false false false false false false false true e1 e2 e3 e4 e5 e6 e7 found of is there = let w = (bytes_eq-Decides word (codes "look")).0 e7 in simp (w, found, of, is)
without_port_by s agent word a k low false false false false false false false e1 e2 e3 e4 e5 e6 e7 found of is there = absurd (let no = simp (e1, e2, e3, e4, e5, e6, e7) at there in cc)
without_port_by s agent word a (suc (suc (suc k))) low true take put credit serve done look e1 e2 e3 e4 e5 e6 e7 found of is there = absurd (omega (arith, of))
without_port_by s agent word a (suc (suc (suc k))) low false true put credit serve done look e1 e2 e3 e4 e5 e6 e7 found of is there = absurd (omega (arith, of))
without_port_by s agent word a (suc (suc (suc k))) low false false true credit serve done look e1 e2 e3 e4 e5 e6 e7 found of is there = absurd (omega (arith, of))
without_port_by s agent word a (suc (suc (suc k))) low false false false true serve done look e1 e2 e3 e4 e5 e6 e7 found of is there = absurd (omega (arith, of))
without_port_by s agent word a (suc (suc (suc k))) low false false false false true done look e1 e2 e3 e4 e5 e6 e7 found of is there = absurd (omega (arith, of))
without_port_by s agent word a (suc (suc (suc k))) low false false false false false true look e1 e2 e3 e4 e5 e6 e7 found of is there = absurd (omega (arith, of))
without_port_by s agent word a (suc (suc (suc k))) low false false false false false false true e1 e2 e3 e4 e5 e6 e7 found of is there = absurd (omega (arith, of))

pub step_without_port : (s : Shape) (agent word : List ℕ) (a : ℕ) → an_index agent ≡ Ok a → is_some (choice_word word) ≡ true
    → step_asked (tiles_of s) (dims_of s) (agent ∷ word ∷ []) ≡ if_there s a (of_no_port word)
step_without_port s agent word a is there =
    without_port_by s agent word a _ _ _ _ _ _ _ _ _ refl refl refl refl refl refl refl (is_found (index_of agent) a is) refl refl there

-- a word with the number of an input or output, by what it is
at_port_by : (s : Shape) (agent word port : List ℕ) (a n k : ℕ) (low fits send take put credit serve done look : Bool)
    → bytes_eq word (codes "send") ≡ send
    → bytes_eq word (codes "take") ≡ take
    → bytes_eq word (codes "put") ≡ put
    → bytes_eq word (codes "credit") ≡ credit
    → bytes_eq word (codes "serve") ≡ serve
    → bytes_eq word (codes "done") ≡ done
    → bytes_eq word (codes "look") ≡ look
    → index_of agent ≡ Some a → a % 3 ≡ k → nat_lt a (3 * tiles_of s) ≡ low → is_some (choice_word word) ≡ true
    → index_of port ≡ Some n → nat_lt n (8 * dims_of s + 2) ≡ fits
    → step_asked (tiles_of s) (dims_of s) (agent ∷ word ∷ port ∷ []) ≡ if_there s a (of_a_port n word)
at_port_by s agent word port a n zero true fits true take put credit serve done look e1 e2 e3 e4 e5 e6 e7 found of is there at room = let w = (bytes_eq-Decides word (codes "send")).0 e1 in simp (w, found, of, is, at, room)
at_port_by s agent word port a n zero false fits true take put credit serve done look e1 e2 e3 e4 e5 e6 e7 found of is there at room = let w = (bytes_eq-Decides word (codes "send")).0 e1 in simp (w, found, of, is, at, room)
at_port_by s agent word port a n (suc zero) true true true take put credit serve done look e1 e2 e3 e4 e5 e6 e7 found of is there at room = let w = (bytes_eq-Decides word (codes "send")).0 e1 in simp (w, found, of, is, at, room)
at_port_by s agent word port a n (suc zero) true false true take put credit serve done look e1 e2 e3 e4 e5 e6 e7 found of is there at room = let w = (bytes_eq-Decides word (codes "send")).0 e1 in simp (w, found, of, is, at, room)
at_port_by s agent word port a n (suc zero) false fits true take put credit serve done look e1 e2 e3 e4 e5 e6 e7 found of is there at room = let w = (bytes_eq-Decides word (codes "send")).0 e1 in simp (w, found, of, is, at, room)
at_port_by s agent word port a n (suc (suc zero)) true fits true take put credit serve done look e1 e2 e3 e4 e5 e6 e7 found of is there at room = let w = (bytes_eq-Decides word (codes "send")).0 e1 in simp (w, found, of, is, at, room)
at_port_by s agent word port a n (suc (suc zero)) false fits true take put credit serve done look e1 e2 e3 e4 e5 e6 e7 found of is there at room = let w = (bytes_eq-Decides word (codes "send")).0 e1 in simp (w, found, of, is, at, room)
at_port_by s agent word port a n zero true fits false true put credit serve done look e1 e2 e3 e4 e5 e6 e7 found of is there at room = let w = (bytes_eq-Decides word (codes "take")).0 e2 in simp (w, found, of, is, at, room)
at_port_by s agent word port a n zero false fits false true put credit serve done look e1 e2 e3 e4 e5 e6 e7 found of is there at room = let w = (bytes_eq-Decides word (codes "take")).0 e2 in simp (w, found, of, is, at, room)
at_port_by s agent word port a n (suc zero) true true false true put credit serve done look e1 e2 e3 e4 e5 e6 e7 found of is there at room = let w = (bytes_eq-Decides word (codes "take")).0 e2 in simp (w, found, of, is, at, room)
at_port_by s agent word port a n (suc zero) true false false true put credit serve done look e1 e2 e3 e4 e5 e6 e7 found of is there at room = let w = (bytes_eq-Decides word (codes "take")).0 e2 in simp (w, found, of, is, at, room)
at_port_by s agent word port a n (suc zero) false fits false true put credit serve done look e1 e2 e3 e4 e5 e6 e7 found of is there at room = let w = (bytes_eq-Decides word (codes "take")).0 e2 in simp (w, found, of, is, at, room)
at_port_by s agent word port a n (suc (suc zero)) true fits false true put credit serve done look e1 e2 e3 e4 e5 e6 e7 found of is there at room = let w = (bytes_eq-Decides word (codes "take")).0 e2 in simp (w, found, of, is, at, room)
at_port_by s agent word port a n (suc (suc zero)) false fits false true put credit serve done look e1 e2 e3 e4 e5 e6 e7 found of is there at room = let w = (bytes_eq-Decides word (codes "take")).0 e2 in simp (w, found, of, is, at, room)
at_port_by s agent word port a n zero true fits false false true credit serve done look e1 e2 e3 e4 e5 e6 e7 found of is there at room = let w = (bytes_eq-Decides word (codes "put")).0 e3 in simp (w, found, of, is, at, room)
at_port_by s agent word port a n zero false fits false false true credit serve done look e1 e2 e3 e4 e5 e6 e7 found of is there at room = let w = (bytes_eq-Decides word (codes "put")).0 e3 in simp (w, found, of, is, at, room)
at_port_by s agent word port a n (suc zero) true true false false true credit serve done look e1 e2 e3 e4 e5 e6 e7 found of is there at room = let w = (bytes_eq-Decides word (codes "put")).0 e3 in simp (w, found, of, is, at, room)
at_port_by s agent word port a n (suc zero) true false false false true credit serve done look e1 e2 e3 e4 e5 e6 e7 found of is there at room = let w = (bytes_eq-Decides word (codes "put")).0 e3 in simp (w, found, of, is, at, room)
at_port_by s agent word port a n (suc zero) false fits false false true credit serve done look e1 e2 e3 e4 e5 e6 e7 found of is there at room = let w = (bytes_eq-Decides word (codes "put")).0 e3 in simp (w, found, of, is, at, room)
at_port_by s agent word port a n (suc (suc zero)) true fits false false true credit serve done look e1 e2 e3 e4 e5 e6 e7 found of is there at room = let w = (bytes_eq-Decides word (codes "put")).0 e3 in simp (w, found, of, is, at, room)
at_port_by s agent word port a n (suc (suc zero)) false fits false false true credit serve done look e1 e2 e3 e4 e5 e6 e7 found of is there at room = let w = (bytes_eq-Decides word (codes "put")).0 e3 in simp (w, found, of, is, at, room)
at_port_by s agent word port a n zero true fits false false false true serve done look e1 e2 e3 e4 e5 e6 e7 found of is there at room = let w = (bytes_eq-Decides word (codes "credit")).0 e4 in simp (w, found, of, is, at, room)
at_port_by s agent word port a n zero false fits false false false true serve done look e1 e2 e3 e4 e5 e6 e7 found of is there at room = let w = (bytes_eq-Decides word (codes "credit")).0 e4 in simp (w, found, of, is, at, room)
at_port_by s agent word port a n (suc zero) true true false false false true serve done look e1 e2 e3 e4 e5 e6 e7 found of is there at room = let w = (bytes_eq-Decides word (codes "credit")).0 e4 in simp (w, found, of, is, at, room)
at_port_by s agent word port a n (suc zero) true false false false false true serve done look e1 e2 e3 e4 e5 e6 e7 found of is there at room = let w = (bytes_eq-Decides word (codes "credit")).0 e4 in simp (w, found, of, is, at, room)
at_port_by s agent word port a n (suc zero) false fits false false false true serve done look e1 e2 e3 e4 e5 e6 e7 found of is there at room = let w = (bytes_eq-Decides word (codes "credit")).0 e4 in simp (w, found, of, is, at, room)
at_port_by s agent word port a n (suc (suc zero)) true fits false false false true serve done look e1 e2 e3 e4 e5 e6 e7 found of is there at room = let w = (bytes_eq-Decides word (codes "credit")).0 e4 in simp (w, found, of, is, at, room)
at_port_by s agent word port a n (suc (suc zero)) false fits false false false true serve done look e1 e2 e3 e4 e5 e6 e7 found of is there at room = let w = (bytes_eq-Decides word (codes "credit")).0 e4 in simp (w, found, of, is, at, room)
at_port_by s agent word port a n zero true fits false false false false true done look e1 e2 e3 e4 e5 e6 e7 found of is there at room = let w = (bytes_eq-Decides word (codes "serve")).0 e5 in simp (w, found, of, is, at, room)
at_port_by s agent word port a n zero false fits false false false false true done look e1 e2 e3 e4 e5 e6 e7 found of is there at room = let w = (bytes_eq-Decides word (codes "serve")).0 e5 in simp (w, found, of, is, at, room)
at_port_by s agent word port a n (suc zero) true true false false false false true done look e1 e2 e3 e4 e5 e6 e7 found of is there at room = let w = (bytes_eq-Decides word (codes "serve")).0 e5 in simp (w, found, of, is, at, room)
at_port_by s agent word port a n (suc zero) true false false false false false true done look e1 e2 e3 e4 e5 e6 e7 found of is there at room = let w = (bytes_eq-Decides word (codes "serve")).0 e5 in simp (w, found, of, is, at, room)
at_port_by s agent word port a n (suc zero) false fits false false false false true done look e1 e2 e3 e4 e5 e6 e7 found of is there at room = let w = (bytes_eq-Decides word (codes "serve")).0 e5 in simp (w, found, of, is, at, room)
at_port_by s agent word port a n (suc (suc zero)) true fits false false false false true done look e1 e2 e3 e4 e5 e6 e7 found of is there at room = let w = (bytes_eq-Decides word (codes "serve")).0 e5 in simp (w, found, of, is, at, room)
at_port_by s agent word port a n (suc (suc zero)) false fits false false false false true done look e1 e2 e3 e4 e5 e6 e7 found of is there at room = let w = (bytes_eq-Decides word (codes "serve")).0 e5 in simp (w, found, of, is, at, room)
at_port_by s agent word port a n zero true fits false false false false false true look e1 e2 e3 e4 e5 e6 e7 found of is there at room = let w = (bytes_eq-Decides word (codes "done")).0 e6 in simp (w, found, of, is, at, room)
at_port_by s agent word port a n zero false fits false false false false false true look e1 e2 e3 e4 e5 e6 e7 found of is there at room = let w = (bytes_eq-Decides word (codes "done")).0 e6 in simp (w, found, of, is, at, room)
at_port_by s agent word port a n (suc zero) true true false false false false false true look e1 e2 e3 e4 e5 e6 e7 found of is there at room = let w = (bytes_eq-Decides word (codes "done")).0 e6 in simp (w, found, of, is, at, room)
at_port_by s agent word port a n (suc zero) true false false false false false false true look e1 e2 e3 e4 e5 e6 e7 found of is there at room = let w = (bytes_eq-Decides word (codes "done")).0 e6 in simp (w, found, of, is, at, room)
at_port_by s agent word port a n (suc zero) false fits false false false false false true look e1 e2 e3 e4 e5 e6 e7 found of is there at room = let w = (bytes_eq-Decides word (codes "done")).0 e6 in simp (w, found, of, is, at, room)
at_port_by s agent word port a n (suc (suc zero)) true fits false false false false false true look e1 e2 e3 e4 e5 e6 e7 found of is there at room = let w = (bytes_eq-Decides word (codes "done")).0 e6 in simp (w, found, of, is, at, room)
at_port_by s agent word port a n (suc (suc zero)) false fits false false false false false true look e1 e2 e3 e4 e5 e6 e7 found of is there at room = let w = (bytes_eq-Decides word (codes "done")).0 e6 in simp (w, found, of, is, at, room)
at_port_by s agent word port a n zero true fits false false false false false false true e1 e2 e3 e4 e5 e6 e7 found of is there at room = let w = (bytes_eq-Decides word (codes "look")).0 e7 in simp (w, found, of, is, at, room)
at_port_by s agent word port a n zero false fits false false false false false false true e1 e2 e3 e4 e5 e6 e7 found of is there at room = let w = (bytes_eq-Decides word (codes "look")).0 e7 in simp (w, found, of, is, at, room)
at_port_by s agent word port a n (suc zero) true true false false false false false false true e1 e2 e3 e4 e5 e6 e7 found of is there at room = let w = (bytes_eq-Decides word (codes "look")).0 e7 in simp (w, found, of, is, at, room)
at_port_by s agent word port a n (suc zero) true false false false false false false false true e1 e2 e3 e4 e5 e6 e7 found of is there at room = let w = (bytes_eq-Decides word (codes "look")).0 e7 in simp (w, found, of, is, at, room)
at_port_by s agent word port a n (suc zero) false fits false false false false false false true e1 e2 e3 e4 e5 e6 e7 found of is there at room = let w = (bytes_eq-Decides word (codes "look")).0 e7 in simp (w, found, of, is, at, room)
at_port_by s agent word port a n (suc (suc zero)) true fits false false false false false false true e1 e2 e3 e4 e5 e6 e7 found of is there at room = let w = (bytes_eq-Decides word (codes "look")).0 e7 in simp (w, found, of, is, at, room)
at_port_by s agent word port a n (suc (suc zero)) false fits false false false false false false true e1 e2 e3 e4 e5 e6 e7 found of is there at room = let w = (bytes_eq-Decides word (codes "look")).0 e7 in simp (w, found, of, is, at, room)
at_port_by s agent word port a n k low fits false false false false false false false e1 e2 e3 e4 e5 e6 e7 found of is there at room = absurd (let no = simp (e1, e2, e3, e4, e5, e6, e7) at there in cc)
at_port_by s agent word port a n (suc (suc (suc k))) low fits true take put credit serve done look e1 e2 e3 e4 e5 e6 e7 found of is there at room = absurd (omega (arith, of))
at_port_by s agent word port a n (suc (suc (suc k))) low fits false true put credit serve done look e1 e2 e3 e4 e5 e6 e7 found of is there at room = absurd (omega (arith, of))
at_port_by s agent word port a n (suc (suc (suc k))) low fits false false true credit serve done look e1 e2 e3 e4 e5 e6 e7 found of is there at room = absurd (omega (arith, of))
at_port_by s agent word port a n (suc (suc (suc k))) low fits false false false true serve done look e1 e2 e3 e4 e5 e6 e7 found of is there at room = absurd (omega (arith, of))
at_port_by s agent word port a n (suc (suc (suc k))) low fits false false false false true done look e1 e2 e3 e4 e5 e6 e7 found of is there at room = absurd (omega (arith, of))
at_port_by s agent word port a n (suc (suc (suc k))) low fits false false false false false true look e1 e2 e3 e4 e5 e6 e7 found of is there at room = absurd (omega (arith, of))
at_port_by s agent word port a n (suc (suc (suc k))) low fits false false false false false false true e1 e2 e3 e4 e5 e6 e7 found of is there at room = absurd (omega (arith, of))

pub step_at_port : (s : Shape) (agent word port : List ℕ) (a n : ℕ) → an_index agent ≡ Ok a → is_some (choice_word word) ≡ true
    → an_index port ≡ Ok n
    → step_asked (tiles_of s) (dims_of s) (agent ∷ word ∷ port ∷ []) ≡ if_there s a (of_a_port n word)
step_at_port s agent word port a n is there at =
    at_port_by s agent word port a n _ _ _ _ _ _ _ _ _ _ refl refl refl refl refl refl refl (is_found (index_of agent) a is) refl refl there (is_found (index_of port) n at) refl

-- too few words, and too many
pub few_words : (tiles dims : ℕ) (words : List (Bor (List ℕ))) → length words < 2
    → Err fault.Line ≡ step_asked tiles dims (map (λ word. word.now) words)
few_words tiles dims [] few = refl
few_words tiles dims (x ∷ []) few = refl
few_words tiles dims (x ∷ y ∷ more) few = absurd (omega (arith, few))

pub many_words : (tiles dims : ℕ) (words : List (Bor (List ℕ))) → 4 ≤ length words
    → Err fault.Line ≡ step_asked tiles dims (map (λ word. word.now) words)
many_words tiles dims [] many = absurd (omega (arith, many))
many_words tiles dims (x ∷ []) many = absurd (omega (arith, many))
many_words tiles dims (x ∷ y ∷ []) many = absurd (omega (arith, many))
many_words tiles dims (x ∷ y ∷ z ∷ []) many = absurd (omega (arith, many))
many_words tiles dims (x ∷ y ∷ z ∷ w ∷ more) many = refl
