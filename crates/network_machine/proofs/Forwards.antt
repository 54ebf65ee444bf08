-- A flit goes from one channel into another.
use Rattle.std.proofs.Common.{◌≡◌, ◌≢◌, ⊎_elim, ℕ, ◌<◌, Bool, true, false, cond, List, Some, None, refl, sym, ◌∙◌, ap, subst}
use Rattle.std.proofs.lemmas.Bool.{cases_eq}
use Rattle.std.specs.Prelude.{slice_index_or}
use Rattle.wormhole.specs.Net.{Net}
use Rattle.wormhole.specs.State.{NetLine, update}
use Rattle.wormhole.specs.Events.{put, forwarded, unlatched, CanHappen}
use Rattle.wormhole.proofs.Changes.{update_same, update_other}
use Rattle.network_machine.specs.declared.channel.Channel.{Channel}
use Rattle.network_machine.specs.Lines.{ShowsLine}
use Rattle.network_machine.specs.Forwards.{IsLatchOutput, Forwards, forward}
use Rattle.network_machine.specs.Moves.{ShowAll}

pub needs_owner : (n : Net) (ls : ℕ → NetLine) (x y flit : ℕ) (is_head : Bool) → CanHappen n ls (forward is_head x y flit)
    → (ls y).owner ≡ cond is_head None (Some x)
needs_owner n ls x y flit true c = c.free
needs_owner n ls x y flit false c = c.owned

pub needs_credit : (n : Net) (ls : ℕ → NetLine) (x y flit : ℕ) (is_head : Bool) → CanHappen n ls (forward is_head x y flit) → 0 < (ls y).held
needs_credit n ls x y flit true c = c.credit
needs_credit n ls x y flit false c = c.credit

may : (n : Net) (ls : ℕ → NetLine) (x y flit : ℕ) (is_head is_tail : Bool) → IsLatchOutput n ls x y flit is_head is_tail
    → (ls y).owner ≡ cond is_head None (Some x) → 0 < (ls y).held → CanHappen n ls (forward is_head x y flit)
may n ls x y flit true is_tail o owner credit =
    record { here = o.here; input = o.input; full = o.full; head = o.head; output = o.output refl; free = owner; credit = credit }
may n ls x y flit false is_tail o owner credit =
    record { here = o.here; input = o.input; full = o.full; rest = o.head; owned = owner; credit = credit }

abbrev pub after : (ls : ℕ → NetLine) (x y flit : ℕ) (is_tail : Bool) → ℕ → NetLine
after ls x y flit is_tail = update ls y (record (put flit (ls y)) { owner = cond is_tail None (Some x) })

same_lines : (n : Net) (ls : ℕ → NetLine) (x y flit : ℕ) (is_tail : Bool) → x ≢ y → n.is_tail flit ≡ is_tail → (z : ℕ)
    → update (after ls x y flit is_tail) x (unlatched (after ls x y flit is_tail x)) z
    ≡ update (update ls x (unlatched (ls x))) y (forwarded n x flit (ls y)) z
same_lines n ls x y flit is_tail apart tail z = ⊎_elim
    (λ (e : z ≡ y). ap (update (after ls x y flit is_tail) x (unlatched (after ls x y flit is_tail x))) e
    ∙ (update_other (after ls x y flit is_tail) x (unlatched (after ls x y flit is_tail x)) y (λ d. apart (sym d))
    ∙ (update_same ls y _ ∙ (ap (λ b. record (put flit (ls y)) { owner = cond b None (Some x) }) (sym tail)
    ∙ (sym (update_same (update ls x (unlatched (ls x))) y (forwarded n x flit (ls y)))
    ∙ sym (ap (update (update ls x (unlatched (ls x))) y (forwarded n x flit (ls y))) e))))))
    (λ (other : z ≢ y). ⊎_elim
    (λ (e : z ≡ x). ap (update (after ls x y flit is_tail) x (unlatched (after ls x y flit is_tail x))) e
    ∙ (update_same (after ls x y flit is_tail) x _ ∙ (ap unlatched (update_other ls y _ x apart)
    ∙ (sym (update_same ls x (unlatched (ls x))) ∙ (sym (ap (update ls x (unlatched (ls x))) e)
    ∙ sym (update_other (update ls x (unlatched (ls x))) y _ z other))))))
    (λ (d : z ≢ x). update_other (after ls x y flit is_tail) x _ z d ∙ (update_other ls y _ z other
    ∙ (sym (update_other ls x (unlatched (ls x)) z d) ∙ sym (update_other (update ls x (unlatched (ls x))) y _ z other))))
    (cases_eq z x))
    (cases_eq z y)

pub forwards_at : (n : Net) (ls : ℕ → NetLine) (cs : List Channel) (x y flit : ℕ) (is_head is_tail : Bool) → x ≢ y
    → IsLatchOutput n ls x y flit is_head is_tail → (ls y).owner ≡ cond is_head None (Some x) → 0 < (ls y).held
    → ShowAll (update (after ls x y flit is_tail) x (unlatched (after ls x y flit is_tail x))) cs → Forwards n ls cs x y flit is_head true
forwards_at n ls cs x y flit true is_tail apart o owner credit all = (
  may n ls x y flit true is_tail o owner credit,
  λ z d l. subst (λ (m : NetLine). ShowsLine m (slice_index_or cs z d)) (same_lines n ls x y flit is_tail apart o.tail z) (all z d l),
)
forwards_at n ls cs x y flit false is_tail apart o owner credit all = (
  may n ls x y flit false is_tail o owner credit,
  λ z d l. subst (λ (m : NetLine). ShowsLine m (slice_index_or cs z d)) (same_lines n ls x y flit is_tail apart o.tail z) (all z d l),
)
