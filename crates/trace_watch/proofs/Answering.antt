-- An answer, as the code reads and writes it.
use Rattle.std.proofs.Common.{◌≡◌, ◌↔◌, ◌==◌, true, false, ⊎_elim, ℕ, ◌<◌, ◌≤◌, List, [], ◌∷◌, length, Vec, refl, sym, ◌∙◌, ap, subst, arith}
use Rattle.std.proofs.Common.{set, get_or, vec_len}
use Rattle.std.proofs.lemmas.Bool.{cases_lt, eqb-true, eqb-false}
use Rattle.std.proofs.lemmas.List.{nil_from_length}
use Rattle.packet.specs.declared.kinds.Reply.{Reply}
use Rattle.trace_laws.specs.declared.event.Call.{Call}
use Rattle.trace_laws.specs.declared.event.Event.{Event}
use Rattle.trace_laws.specs.declared.event.Event.TheVariants.{Answer}
use Rattle.trace_laws.specs.Configs.{IsIn}
use Rattle.trace_watch.specs.declared.state.State.{State}
use Rattle.trace_watch.specs.declared.watch.Watch.{Watch}
use Rattle.trace_watch.specs.declared.watch.Seen.TheVariants.{Linearizable, NotLinearizable}
use Rattle.trace_watch.specs.States.{Config, config_of, configs_of}
use Rattle.trace_watch.specs.Closed.{IsAnsweredBy}
use Rattle.trace_watch.specs.Follows.{Tracks, TellsSeen, states_of}
use Rattle.trace_watch.proofs.Watching.{seen_answer, seen_no_answer, states_read}

-- what the code read before it judged an answer: the open operations, those on the word, and its states
pub record IsRead {A : Type 0} (watch : Watch A) (call : Call) (id : ℕ) (reply : Reply) (calls : List Call)
    (new : List Config) : Type 0 where
  pub on : IsIn watch.pending.items call
  pub number : call.id ≡ id
  pub here : (c : Call) → IsIn calls c ↔ (IsIn watch.pending.items c × (c.operation.address ≡ call.operation.address))
  pub by : IsAnsweredBy call reply calls (states_of watch.words.items call.operation.address) new

pub is_read : {A : Type 0} (watch : Watch A) (call : Call) (id : ℕ) (reply : Reply) (p q calls cs : List Call)
    (v : Vec (State A) A) (ss : List (State A)) (new : List Config)
    → p ≡ watch.pending.items → q ≡ watch.pending.items → cs ≡ calls → ss ≡ v.items
    → v ≡ get_or watch.words.items call.operation.address v → call.operation.address < length watch.words.items
    → IsIn p call × (call.id ≡ id)
    → ((c : Call) → IsIn calls c ↔ (IsIn q c × (c.operation.address ≡ call.operation.address)))
    → IsAnsweredBy call reply cs (configs_of ss) new → IsRead watch call id reply calls new
is_read {A} watch call id reply p q calls cs v ss new same also listed items read inside on here by = record {
  on = subst (λ (xs : List Call). IsIn xs call) same on.0;
  number = on.1;
  here = subst
      (λ (xs : List Call). (c : Call) → IsIn calls c ↔ (IsIn xs c × (c.operation.address ≡ call.operation.address)))
      also here;
  by = subst (λ (xs : List Config). IsAnsweredBy call reply calls xs new)
      (ap (λ (xs : List (State A)). configs_of xs) items ∙ states_read watch.words.items call.operation.address v inside read)
      (subst (λ (xs : List Call). IsAnsweredBy call reply xs (configs_of ss) new) listed by);
}

some_config : {A : Type 0} (states : List (State A)) → 0 < length states → (c : Config) × IsIn (configs_of states) c
some_config [] l = absurd (omega arith)
some_config (s ∷ states) l = (config_of s, (0, refl))

not_empty : {A : Type 0} (later : Vec (State A) A) → false ≡ (vec_len later == 0) → 0 < length later.items
not_empty later e =
    let ne = eqb-false (vec_len later) 0 (sym e) in
    let sized = later.ok.0 in
    ⊎_elim {C = 0 < length later.items}
    (λ (l : 0 < length later.items). l)
    (λ (g : length later.items ≤ 0). absurd (ne (omega arith)))
    (cases_lt 0 (length later.items))

empty : {A : Type 0} (later : Vec (State A) A) → true ≡ (vec_len later == 0) → later.items ≡ []
empty later e =
    let z = eqb-true (vec_len later) 0 (sym e) in
    let sized = later.ok.0 in
    nil_from_length later.items (omega arith)

pub answer_yes : {A : Type 0} (opening : List ℕ) (t : List Event) (watch : Watch A) (call : Call) (id : ℕ)
    (reply : Reply) (calls r : List Call) (later : Vec (State A) A) (words : Vec (Vec (State A) A) A)
    (pending : Vec Call A) → IsRead watch call id reply calls (configs_of later.items)
    → false ≡ (vec_len later == 0) → r ≡ watch.pending.items
    → ((c : Call) → IsIn pending.items c ↔ (IsIn r c × (c.id ≡ id → ⊥)))
    → words.items ≡ set watch.words.items call.operation.address later → Tracks opening t watch
    → TellsSeen {A = A} opening t (Answer id reply)
    (record { words = words; pending = pending; last = watch.last }) Linearizable
answer_yes opening t watch call id reply calls r later words pending read full same less written f =
    let some = some_config later.items (not_empty later full) in
    seen_answer opening t watch call id reply calls later words pending some.0 read.on read.number read.here read.by
    some.1 (subst (λ (xs : List Call). (c : Call) → IsIn pending.items c ↔ (IsIn xs c × (c.id ≡ id → ⊥))) same less)
    written f

pub answer_no : {A : Type 0} (opening : List ℕ) (t : List Event) (watch : Watch A) (call : Call) (id : ℕ)
    (reply : Reply) (calls : List Call) (later : Vec (State A) A)
    → IsRead watch call id reply calls (configs_of later.items) → true ≡ (vec_len later == 0) → Tracks opening t watch
    → TellsSeen {A = A} opening t (Answer id reply) watch NotLinearizable
answer_no opening t watch call id reply calls later read none f =
    seen_no_answer opening t watch call id reply calls later.items read.on read.number read.here read.by
    (empty later none) f
