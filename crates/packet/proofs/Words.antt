-- Operations of 64-bit values leave 64-bit words.
use Rattle.std.proofs.Common.{ℕ, ◌+◌, ◌^◌, ◌<◌, Bool, true, false, List, [], ◌∷◌, arith}
use Rattle.std.specs.Prelude.{All, ◌==◌, if◌then◌else◌}
use Rattle.std.proofs.lemmas.Nat.{mod_below, or_lt, xor_lt, and_le_l}
use Rattle.std.proofs.lemmas.List.Elements.{All-nil, All-cons, All-head}
use Rattle.packet.specs.declared.kinds.Op.{Op}
use Rattle.packet.specs.declared.kinds.Op.TheVariants.{Load, Store, Swap, Cas, Add, And, Or, Xor, Max, Min}
use Rattle.packet.specs.Memory.{new_word, reply_to}
use Rattle.packet.specs.Spelling.{values_of_op, values_of_reply}

-- values of 64 bits
abbrev pub Below : List ℕ → Type 0
Below vs = All (λ v. v < 2 ^ 64) vs

pub none_below : Below []
none_below = All-nil (λ v. v < 2 ^ 64)

pub one_below : (v : ℕ) → v < 2 ^ 64 → Below (v ∷ [])
one_below v h = All-cons (λ v. v < 2 ^ 64) v [] h none_below

first_below : (v : ℕ) (vs : List ℕ) → Below (v ∷ vs) → v < 2 ^ 64
first_below v vs h = All-head (λ v. v < 2 ^ 64) v vs h

second_below : (v w : ℕ) (vs : List ℕ) → Below (v ∷ w ∷ vs) → w < 2 ^ 64
second_below v w vs h = h 1 w (omega arith)

either : (b : Bool) (n w k : ℕ) → n < k → w < k → (if b then n else w) < k
either true n w k a c = a
either false n w k a c = c

-- an operation of 64-bit values leaves a 64-bit word
pub word_stays : (op : Op) (w : ℕ) → w < 2 ^ 64 → Below (values_of_op op) → new_word op w < 2 ^ 64
word_stays Load w h b = h
word_stays (Store v) w h b = first_below v [] b
word_stays (Swap v) w h b = first_below v [] b
word_stays (Cas e n) w h b = either (w == e) n w (2 ^ 64) (second_below e n [] b) h
word_stays (Add v) w h b = mod_below (w + v) (2 ^ 64) (omega arith)
word_stays (And v) w h b = let l = and_le_l w v in omega (arith, l, h)
word_stays (Or v) w h b = or_lt 64 w v h (first_below v [] b)
word_stays (Xor v) w h b = xor_lt 64 w v h (first_below v [] b)
word_stays (Max v) w h b = let l = first_below v [] b in omega (arith, l, h)
word_stays (Min v) w h b = let l = first_below v [] b in omega (arith, l, h)

-- and replies one
pub reply_stays : (op : Op) (w : ℕ) → w < 2 ^ 64 → Below (values_of_reply (reply_to op w))
reply_stays Load w h = one_below w h
reply_stays (Store v) w h = none_below
reply_stays (Swap v) w h = one_below w h
reply_stays (Cas e n) w h = one_below w h
reply_stays (Add v) w h = one_below w h
reply_stays (And v) w h = one_below w h
reply_stays (Or v) w h = one_below w h
reply_stays (Xor v) w h = one_below w h
reply_stays (Max v) w h = one_below w h
reply_stays (Min v) w h = one_below w h
