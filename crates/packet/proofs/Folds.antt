-- Laws of operations on one memory, one after the other.
use Rattle.std.proofs.Common.{◌≡◌, ◌≢◌, ℕ, ◌∙◌, List, [], ◌∷◌, ◌++◌, length, suc, refl, ap, get_or}
use Rattle.std.proofs.lemmas.List.{length-set, set-get_or, get_or-set_other}
use Rattle.packet.specs.Memory.{memory_after_one, memory_after, replies, reply_of_one, new_word}
use Rattle.packet.specs.declared.kinds.Op.TheVariants.{Load}
use Rattle.packet.specs.declared.kinds.Operation.{Operation}

pub memory_after-append : (xs ys : List Operation) (m : List ℕ) → memory_after (xs ++ ys) m ≡ memory_after ys (memory_after xs m)
memory_after-append [] ys m = refl
memory_after-append (x ∷ xs) ys m = memory_after-append xs ys (memory_after_one x m)

pub replies-append : (xs ys : List Operation) (m : List ℕ) → replies (xs ++ ys) m ≡ replies xs m ++ replies ys (memory_after xs m)
replies-append [] ys m = refl
replies-append (x ∷ xs) ys m = ap (λ rs. reply_of_one x m ∷ rs) (replies-append xs ys (memory_after_one x m))

pub length-memory_after : (os : List Operation) (m : List ℕ) → length (memory_after os m) ≡ length m
length-memory_after [] m = refl
length-memory_after (o ∷ os) m =
    length-memory_after os (memory_after_one o m) ∙ length-set m o.address (new_word o.op (get_or m o.address 0))

pub length-replies : (os : List Operation) (m : List ℕ) → length (replies os m) ≡ length os
length-replies [] m = refl
length-replies (o ∷ os) m = ap suc (length-replies os (memory_after_one o m))

pub other_word : (o : Operation) (m : List ℕ) (a : ℕ) → a ≢ o.address → get_or (memory_after_one o m) a 0 ≡ get_or m a 0
other_word o m a other = get_or-set_other m o.address a (new_word o.op (get_or m o.address 0)) 0 other

pub load_leaves : (a : ℕ) (m : List ℕ) → memory_after_one (record { address = a; op = Load }) m ≡ m
load_leaves a m = set-get_or m a 0
