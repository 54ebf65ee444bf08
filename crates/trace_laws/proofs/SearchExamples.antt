-- Worked configurations of one word, and branches of two, against the definitions.
use Rattle.std.proofs.Common.{◌≡◌, ◌⊎◌, inl, inr, ℕ, zero, suc, ◌<◌, true, List, [], ◌∷◌, Option, Some, None}
use Rattle.std.proofs.Common.{refl, subst, sym, arith}
use Rattle.std.specs.Prelude.{slice_get}
use Rattle.packet.specs.declared.kinds.Op.{Op}
use Rattle.packet.specs.declared.kinds.Op.TheVariants.{Load, Store}
use Rattle.packet.specs.declared.kinds.Reply.{Reply}
use Rattle.packet.specs.declared.kinds.Reply.TheVariants.{Old, Ok as Stored}
use Rattle.packet.specs.Memory.{reply_to, new_word}
use Rattle.trace_laws.specs.declared.event.Call.{Call}
use Rattle.trace_laws.specs.declared.event.Event.{Event}
use Rattle.trace_laws.specs.declared.event.Event.TheVariants.{Issue, Answer}
use Rattle.trace_laws.specs.Traces.{TraceAnswersAt}
use Rattle.trace_laws.specs.declared.opened.Open.{Open}
use Rattle.trace_laws.specs.declared.opened.Config.{Config}
use Rattle.trace_laws.specs.declared.opened.Branch.{Branch}
use Rattle.trace_laws.specs.declared.opened.Node.{Node}
use Rattle.trace_laws.specs.Configs.{HasTakenEffect, IsOpen, MayTake, IsIn, IsIdle, IsAsGood, effect, release}
use Rattle.trace_laws.specs.Searches.{WasIdle, IsTrail, Picks}

-- operation 1 on word 0, and what the trace will answer it
abbrev call : Op → Call
call op = record { id = 1; operation = record { address = 0; op = op } }

abbrev open_with : Op → Option Reply → Open
open_with op promise = record { call = call op; promise = promise }

-- word 0 holds this, and these slots have taken effect: bit 0 for slot 0
abbrev config : ℕ → ℕ → Config
config word taken = record { word = word; taken = taken }

-- a store that takes effect leaves its word, and marks its slot
store_leaves_its_word : effect (config 0 0) 0 (open_with (Store 17) (Some Stored)) ≡ config 17 1
store_leaves_its_word = refl

-- once it is answered its slot is free
slot_is_free_again : release (config 17 1) 0 ≡ config 17 0
slot_is_free_again = refl

-- a load that the trace answers with 17 doesn't take effect where the word is 0
no_load_of_another_word : (table : List (Option Open))
    → MayTake table 0 (config 0 0) 0 (open_with Load (Some (Old 17))) → ⊥
no_load_of_another_word table h =
    let e : ◌≡◌ {A = Reply} (Old 0) (Old 17) = h.agrees in
    let f : ◌≡◌ {A = ℕ} 0 17 = cc in absurd (omega (arith, f))

-- a load is idle, and a store is not
load_is_idle : IsIdle (open_with Load None)
load_is_idle word agrees = refl

store_is_not_idle : IsIdle (open_with (Store 17) None) → ⊥
store_is_not_idle h = let e : ◌≡◌ {A = ℕ} 17 0 = h 0 tt in absurd (omega (arith, e))

-- a store that is answered later has taken effect in one configuration: the other one is not as good
abbrev table : List (Option Open)
table = Some (open_with (Store 17) (Some Stored)) ∷ []

answered_one_is_missing : IsAsGood table 0 (config 17 0) (config 17 1) → ⊥
answered_one_is_missing h = missing (h.taken 0 (omega arith) refl)
  where
    missing : HasTakenEffect (config 17 0) 0 ⊎ ((o : Open) × IsOpen table 0 0 o × (o.promise ≡ None)) → ⊥
    missing (inl taken) = let e : ◌≡◌ {A = ℕ} 0 1 = taken in absurd (omega (arith, e))
    missing (inr found) = promised found.0 found.1.there found.2
      where
        promised : (o : Open) → slice_get table 0 ≡ Some (Some o) → o.promise ≡ None → ⊥
        promised o there none =
            let same : open_with (Store 17) (Some Stored) ≡ o = cc in
            let e : ◌≡◌ {A = Option Reply} (Some Stored) None =
            subst (λ (p : Open). p.promise ≡ None) (sym same) none in cc (e)

-- a store that was answered was not idle, so it doesn't stand behind a cut
abbrev trace : List Event
trace = Issue (call (Store 17)) ∷ Answer 1 Stored ∷ []

store_was_not_idle : WasIdle trace 2 (call (Store 17)) → ⊥
store_was_not_idle h = told h.0 h.1 h.3 h.4
  where
    told : (i : ℕ) (reply : Reply) → TraceAnswersAt trace i 1 reply
        → ((word : ℕ) → reply_to (Store 17) word ≡ reply → new_word (Store 17) word ≡ word) → ⊥
    told zero reply is kept = cc (is)
    told (suc zero) reply is kept =
        let same : Stored ≡ reply = cc in let e : ◌≡◌ {A = ℕ} 17 0 = kept 0 same in absurd (omega (arith, e))
    told (suc (suc i)) reply is kept = cc (is)

-- two words, of which word 1 has an operation, and word 0 has none: each has the trail of its own branch
abbrev nodes : List Node
nodes = record { call = call (Store 17); before = None } ∷ []

abbrev pick : ℕ → Branch
pick zero = record { config = config 0 0; trail = None }
pick (suc w) = record { config = config 17 0; trail = Some 0 }

abbrev trails : ℕ → List ℕ
trails zero = []
trails (suc w) = 0 ∷ []

each_has_its_trail : Picks 2 (λ w. pick w ∷ []) nodes pick trails (true ∷ [])
each_has_its_trail = record {
  sized = refl;
  picked = λ w low. (0, refl);
  trailed = trailed;
  marked = marked;
  only = only;
}
  where
    trailed : (w : ℕ) → w < 2 → IsTrail nodes (pick w).trail (trails w)
    trailed zero low = refl
    trailed (suc w) low = (record { call = call (Store 17); before = None }, refl, refl, refl)

    marked : (w i : ℕ) → w < 2 → IsIn (trails w) i → slice_get (true ∷ []) i ≡ Some true
    marked zero i low is = cc (is.1)
    marked (suc w) zero low is = refl
    marked (suc w) (suc i) low is = other is.0 is.1
      where
        other : (k : ℕ) → slice_get (0 ∷ []) k ≡ Some (suc i) → slice_get (true ∷ []) (suc i) ≡ Some true
        other zero e = let f : ◌≡◌ {A = ℕ} 0 (suc i) = cc in absurd (omega (arith, f))
        other (suc k) e = absurd (cc (e))

    only : (i : ℕ) → slice_get (true ∷ []) i ≡ Some true → (w : ℕ) × (w < 2) × IsIn (trails w) i
    only zero is = (1, omega arith, (0, refl))
    only (suc i) is = absurd (cc (is))
