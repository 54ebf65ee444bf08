-- Effects of whatever operations they may be of: how orders go on.
use Rattle.std.proofs.Common.{◌≡◌, ⊎_elim, ℕ, ◌<◌, List, [], ◌∷◌, ◌++◌, length, Some, refl, sym, ◌∙◌, ap, subst, slice_get}
use Rattle.std.specs.List.{insert, remove}
use Rattle.packet.specs.declared.kinds.Op.{Op}
use Rattle.packet.specs.declared.kinds.Reply.{Reply}
use Rattle.packet.specs.Memory.{new_word, reply_to}
use Rattle.trace_laws.specs.declared.event.Call.{Call}
use Rattle.trace_laws.specs.declared.event.Event.{Event}
use Rattle.trace_laws.specs.declared.event.Event.TheVariants.{Answer}
use Rattle.trace_laws.specs.Traces.{IsTrace}
use Rattle.trace_laws.proofs.Lists.{get_push_cases, get_append_left, get_push}
use Rattle.trace_laws.specs.Configs.{IsIn}
use Rattle.trace_watch.specs.declared.state.Effect.{Effect}
use Rattle.trace_watch.specs.States.{Config, less_one}
use Rattle.trace_watch.specs.Matchings.{Matches, Other}
use Rattle.trace_watch.specs.Named.{NamedConfig, NamedEffect, IsLike, IsWithoutCall, named, named_after, named_config}
use Rattle.trace_watch.specs.Known.{Explains, IsOpenOn}
use Rattle.trace_watch.proofs.Matched.{insert_from, insert_new, insert_old, match_place, named_insert}
use Rattle.trace_watch.proofs.Effects.{explains_after, explains_answer, explains_like}

-- the names are those of the operations
pub match_ids : (P : Call → Type 0) (es : List Effect) (calls : List Call) (x : NamedEffect) → Matches P es calls
    → IsIn (named es calls) x → (c : Call) × P c × (c.id ≡ x.id)
match_ids P es calls x m on = let r = match_place P es calls on.0 x m on.1 in (r.call, r.on, r.number)

-- no effect is of an operation that is left out
pub left_out : (P : Call → Type 0) (es : List Effect) (calls : List Call) (id : ℕ) → Matches (Other P id) es calls
    → (x : NamedEffect) → IsIn (named es calls) x → x.id ≡ id → ⊥
left_out P es calls id m x on e = let r = match_ids (Other P id) es calls x m on in r.1.1 (r.2 ∙ e)

-- one name more, at its place or at the end
inserted_like : (xs : List NamedEffect) (k : ℕ) (x : NamedEffect) (word other : ℕ) → word ≡ other
    → IsLike (record { word = word; effects = insert xs k x }) (record { word = other; effects = xs ++ x ∷ [] })
inserted_like xs k x word other same = record {
  word = same;
  effects = λ y. (
    (λ on. ⊎_elim {C = IsIn (xs ++ x ∷ []) y}
        (λ (old : IsIn xs y). (old.0, get_append_left xs (x ∷ []) old.0 y old.1))
        (λ (e : x ≡ y). subst (λ (z : NamedEffect). IsIn (xs ++ x ∷ []) z) e (length xs, get_push xs x))
        (insert_from xs k x y on.0 on.1)),
    (λ on. ⊎_elim {C = IsIn (insert xs k x) y}
        (λ (old : slice_get xs on.0 ≡ Some y). insert_old xs k x y on.0 old)
        (λ (new : (on.0 ≡ length xs) × (x ≡ y)).
        subst (λ (z : NamedEffect). IsIn (insert xs k x) z) new.1 (insert_new xs k x))
        (get_push_cases xs x on.0 y on.1)),
  );
}

-- an operation takes effect whose effect stands at a place
pub put_explains : (P : Call → Type 0) (opening : List ℕ) (t : List Event) (w : ℕ) (order : List Call) (word : ℕ)
    (es : List Effect) (calls : List Call) (k : ℕ) (e : Effect) (b : Call) → w < length opening → IsOpenOn t w b
    → b.operation.op ≡ e.op → e.reply ≡ reply_to e.op word → Matches P es calls
    → ((x : NamedEffect) → IsIn (named es calls) x → x.id ≡ b.id → ⊥)
    → Explains opening t w order (record { word = word; effects = named es calls })
    → Explains opening t w (order ++ b ∷ [])
    (record { word = new_word e.op word; effects = named (insert es k e) (insert calls k b) })
put_explains P opening t w order word es calls k e b inside waits asks replies m none x =
    let xs = named es calls in
    let was : NamedConfig = record { word = word; effects = xs } in
    let name : Reply → NamedEffect = λ r. record { id = b.id; reply = r } in
    let later = explains_after opening t w order was b inside waits.pending waits.here
    (λ has. none has.0 has.1 has.2) x in
    let told : reply_to b.operation.op word ≡ e.reply = ap (λ (o : Op). reply_to o word) asks ∙ sym replies in
    let like : IsLike (record { word = new_word e.op word; effects = insert xs k (name e.reply) })
    (record { word = new_word b.operation.op word; effects = xs ++ name e.reply ∷ [] }) =
    inserted_like xs k (name e.reply) (new_word e.op word) (new_word b.operation.op word)
    (ap (λ (o : Op). new_word o word) (sym asks)) in
    let named_like : IsLike (record { word = new_word e.op word; effects = named (insert es k e) (insert calls k b) })
    (named_after was b) = subst
    (λ (ys : List NamedEffect). IsLike (record { word = new_word e.op word; effects = ys }) (named_after was b))
    (sym (named_insert P es calls k e b m)) (subst
    (λ (r : Reply). IsLike (record { word = new_word e.op word; effects = insert xs k (name e.reply) })
    (record { word = new_word b.operation.op word; effects = xs ++ name r ∷ [] })) (sym told) like) in
    explains_like opening t w (order ++ b ∷ []) (named_after was b)
    (record { word = new_word e.op word; effects = named (insert es k e) (insert calls k b) }) named_like later

-- the answered operation takes effect last
pub taken_explains : (P : Call → Type 0) (words : ℕ) (opening : List ℕ) (t : List Event) (w : ℕ) (order : List Call)
    (c : Config) (calls : List Call) (b : Call) (reply : Reply) → w < length opening
    → IsTrace words (t ++ Answer b.id reply ∷ []) → IsOpenOn t w b → reply_to b.operation.op c.word ≡ reply
    → Matches (Other P b.id) c.effects calls → Explains opening t w order (named_config c calls)
    → Explains opening (t ++ Answer b.id reply ∷ []) w (order ++ b ∷ [])
    (record { word = new_word b.operation.op c.word; effects = named c.effects calls })
taken_explains P words opening t w order c calls b reply inside is waits replies m x =
    let xs = named c.effects calls in
    let none = left_out P c.effects calls b.id m in
    let e : NamedEffect = record { id = b.id; reply = reply_to b.operation.op c.word } in
    let later = explains_after opening t w order (named_config c calls) b inside waits.pending waits.here
    (λ has. none has.0 has.1 has.2) x in
    let less : IsWithoutCall b.id (named_after (named_config c calls) b)
    (record { word = new_word b.operation.op c.word; effects = named c.effects calls }) = record {
      word = refl;
      effects = λ y. (
        (λ on. ((on.0, get_append_left xs (e ∷ []) on.0 y on.1), none y on)),
        (λ r. ⊎_elim {C = IsIn xs y}
            (λ (old : slice_get xs r.0.0 ≡ Some y). (r.0.0, old))
            (λ (new : (r.0.0 ≡ length xs) × (e ≡ y)). absurd (r.1 (ap (λ (z : NamedEffect). z.id) (sym new.1))))
            (get_push_cases xs e r.0.0 y r.0.1)),
      );
    } in
    explains_answer words opening t w (order ++ b ∷ []) (named_after (named_config c calls) b)
    (record { word = new_word b.operation.op c.word; effects = named c.effects calls }) e b.id reply is
    (length xs, get_push xs e) refl replies less later

-- the answered operation has taken effect
pub claimed_explains : (P : Call → Type 0) (words : ℕ) (opening : List ℕ) (t : List Event) (w : ℕ) (order : List Call)
    (c : Config) (k : ℕ) (e : Effect) (calls rest : List Call) (b : Call) (reply : Reply)
    → IsTrace words (t ++ Answer b.id reply ∷ []) → c.effects ≡ insert (remove c.effects k) k e
    → calls ≡ insert rest k b → e.reply ≡ reply → Matches (Other P b.id) (remove c.effects k) rest
    → Explains opening t w order (named_config c calls)
    → Explains opening (t ++ Answer b.id reply ∷ []) w order (named_config (less_one c k) rest)
claimed_explains P words opening t w order c k e calls rest b reply is back placed replies m x =
    let xs = named (remove c.effects k) rest in
    let n : NamedEffect = record { id = b.id; reply = e.reply } in
    let none = left_out P (remove c.effects k) rest b.id m in
    let same : named c.effects calls ≡ insert xs k n =
    ap (λ (es : List Effect). named es calls) back
    ∙ (ap (λ (cs : List Call). named (insert (remove c.effects k) k e) cs) placed
    ∙ named_insert (Other P b.id) (remove c.effects k) rest k e b m) in
    let on : IsIn (named c.effects calls) n =
    subst (λ (ys : List NamedEffect). IsIn ys n) (sym same) (insert_new xs k n) in
    let less : IsWithoutCall b.id (named_config c calls) (named_config (less_one c k) rest) = record {
      word = refl;
      effects = λ y. (
        (λ there. (
          subst (λ (ys : List NamedEffect). IsIn ys y) (sym same) (insert_old xs k n y there.0 there.1),
          none y there,
        )),
        (λ r.
            let h : IsIn (insert xs k n) y = subst (λ (ys : List NamedEffect). IsIn ys y) same r.0 in
            ⊎_elim {C = IsIn xs y}
            (λ (old : IsIn xs y). old)
            (λ (new : n ≡ y). absurd (r.1 (ap (λ (z : NamedEffect). z.id) (sym new))))
            (insert_from xs k n y h.0 h.1)),
      );
    } in
    explains_answer words opening t w order (named_config c calls) (named_config (less_one c k) rest) n b.id reply is on
    refl replies less x
