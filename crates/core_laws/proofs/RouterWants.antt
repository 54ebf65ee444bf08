-- What a router wants: by its choices, and after one of its moves.
use Rattle.std.proofs.Common.{◌≡◌, ℕ, zero, suc, ◌<◌, ◌==◌, Bool, true, false, List, [], ◌∷◌, Option, Some, None, refl, sym, ◌∙◌, ap, get_or-set_other}
use Rattle.std.proofs.Common.{slice_set, slice_index_or}
use Rattle.std.specs.Prelude.{nat_lt, option_map}
use Rattle.std.proofs.lemmas.Bool.{eq-eqb, eqb-true}
use Rattle.std.proofs.lemmas.Option.{same_Some}
use Rattle.torus.specs.Shape.{Shape, dims_of}
use Rattle.torus.specs.declared.step.Choice.{Choice}
use Rattle.torus.specs.declared.step.Choice.TheVariants as choice
use Rattle.packet.specs.declared.heading.Head.{Head}
use Rattle.packet.specs.Flits.{head_of}
use Rattle.channel_number.specs.Ports.{port_count}
use Rattle.flit_buffer.specs.declared.want.Want.{Want}
use Rattle.flit_buffer.specs.declared.want.Want.TheVariants.{Take, Put, Credit, Access, Await}
use Rattle.flit_buffer.proofs.PortLaws.{some_if, less}
use Rattle.router.specs.Table.{RouterState, latch_of, output_for, wants_to_take, wants_to_put, router_wants, router_after}
use Rattle.core_laws.proofs.AgentSteps.{option_map_some}
use Rattle.core_laws.proofs.ChannelWants.{if_what}
use Rattle.core_laws.proofs.RouterChoices.{if_true}
use Rattle.core_laws.specs.Routers.{empties, fills}

unequal : (a b : ℕ) → a ≡ b → (a == b) ≡ false → ⊥
unequal a b same h = let e : ◌≡◌ {A = Bool} true false = sym (eq-eqb a b same) ∙ h in cc

-- a latch that a move neither fills nor empties
pub latch_kept : (r : RouterState) (c : Choice) (want : Want) (n i : ℕ) → fills c i ≡ false → empties c i ≡ false
    → latch_of (router_after r c want n) i ≡ latch_of r i
latch_kept r (choice.TakeFrom k) want n i f e = get_or-set_other r.latches k i (Some n) None (λ same. unequal k i (sym same) f)
latch_kept r (choice.Put k) (Put o flit) n i f e = get_or-set_other r.latches k i None None (λ same. unequal k i (sym same) e)
latch_kept r (choice.Put k) (Take j) n i f e = refl
latch_kept r (choice.Put k) (Credit o) n i f e = refl
latch_kept r (choice.Put k) (Access w op) n i f e = refl
latch_kept r (choice.Put k) (Await w value) n i f e = refl
latch_kept r (choice.CreditOf o) want n i f e = refl
latch_kept r choice.Send want n i f e = refl
latch_kept r choice.Take want n i f e = refl
latch_kept r choice.Credit want n i f e = refl
latch_kept r choice.Serve want n i f e = refl
latch_kept r choice.Done want n i f e = refl
latch_kept r choice.Look want n i f e = refl

-- the latch that a put empties
cleared : (latches : List (Option ℕ)) (i : ℕ) → slice_index_or (slice_set latches i None) i None ≡ None
cleared [] i = refl
cleared (x ∷ xs) zero = refl
cleared (x ∷ xs) (suc i) = cleared xs i

put_inverse : (s : Shape) (t : ℕ) (r : RouterState) (i : ℕ) (latch : Option ℕ) (w : Want) → wants_to_put s t r i latch ≡ Some w
    → (o : ℕ) × (flit : ℕ) × (w ≡ Put o flit)
put_inverse s t r i None w h = absurd (cc)
put_inverse s t r i (Some flit) w h = let f = option_map_some (λ (o : ℕ). Put o flit) (output_for s t r i (head_of flit)) w h in (f.0, flit, sym f.2)

take_inverse : (s : Shape) (t i : ℕ) (latch : Option ℕ) (w : Want) → wants_to_take s t i latch ≡ Some w → w ≡ Take i
take_inverse s t i None w h = sym (same_Some _ _ h)
take_inverse s t i (Some flit) w h = absurd (cc)

pub latch_emptied : (s : Shape) (t : ℕ) (r : RouterState) (c : Choice) (want : Want) (n i : ℕ) → router_wants s t r c ≡ Some want → empties c i ≡ true
    → latch_of (router_after r c want n) i ≡ None
latch_emptied s t r (choice.Put k) want n i wants e =
    let f = put_inverse s t r k (latch_of r k) want (if_what (nat_lt k (port_count (dims_of s))) (wants_to_put s t r k (latch_of r k)) want wants) in
    let same : k ≡ i = eqb-true k i e in
    ap (λ (w : Want). latch_of (router_after r (choice.Put k) w n) i) f.2
    ∙ (ap (λ (j : ℕ). slice_index_or (slice_set r.latches j None) i None) same ∙ cleared r.latches i)
latch_emptied s t r (choice.TakeFrom k) want n i wants e = absurd (cc)
latch_emptied s t r (choice.CreditOf o) want n i wants e = absurd (cc)
latch_emptied s t r choice.Send want n i wants e = absurd (cc)
latch_emptied s t r choice.Take want n i wants e = absurd (cc)
latch_emptied s t r choice.Credit want n i wants e = absurd (cc)
latch_emptied s t r choice.Serve want n i wants e = absurd (cc)
latch_emptied s t r choice.Done want n i wants e = absurd (cc)
latch_emptied s t r choice.Look want n i wants e = absurd (cc)

-- what a choice of a router seeks
abbrev pub Seeks : ℕ → Choice → Want → Type 0
Seeks ports (choice.TakeFrom i) w = (i < ports) × (w ≡ Take i)
Seeks ports (choice.Put i) w = (o : ℕ) × (flit : ℕ) × (w ≡ Put o flit)
Seeks ports (choice.CreditOf o) w = (o < ports) × (w ≡ Credit o)
Seeks ports _ w = ⊥

pub seeks : (s : Shape) (t : ℕ) (r : RouterState) (c : Choice) (w : Want) → router_wants s t r c ≡ Some w → Seeks (port_count (dims_of s)) c w
seeks s t r (choice.TakeFrom i) w h =
    let ports : ℕ = port_count (dims_of s) in (
      less i ports (if_true (nat_lt i ports) (wants_to_take s t i (latch_of r i)) w h),
      take_inverse s t i (latch_of r i) w (if_what (nat_lt i ports) (wants_to_take s t i (latch_of r i)) w h),
    )
seeks s t r (choice.Put i) w h =
    let ports : ℕ = port_count (dims_of s) in
    put_inverse s t r i (latch_of r i) w (if_what (nat_lt i ports) (wants_to_put s t r i (latch_of r i)) w h)
seeks s t r (choice.CreditOf o) w h =
    let f = some_if (nat_lt o (port_count (dims_of s))) (Credit o) w h in (less o (port_count (dims_of s)) f.0, sym f.1)
seeks s t r choice.Send w h = absurd (cc)
seeks s t r choice.Take w h = absurd (cc)
seeks s t r choice.Credit w h = absurd (cc)
seeks s t r choice.Serve w h = absurd (cc)
seeks s t r choice.Done w h = absurd (cc)
seeks s t r choice.Look w h = absurd (cc)

-- a put is wanted as before where its latch and the owners are
output_kept : (s : Shape) (t : ℕ) (r : RouterState) (latches : List (Option ℕ)) (i : ℕ) (h : Option Head)
    → output_for s t (record { latches = latches; owned = r.owned }) i h ≡ output_for s t r i h
output_kept s t r latches i None = refl
output_kept s t r latches i (Some head) = refl

pub put_kept : (s : Shape) (t : ℕ) (r : RouterState) (latches : List (Option ℕ)) (i : ℕ) (latch : Option ℕ)
    → wants_to_put s t (record { latches = latches; owned = r.owned }) i latch ≡ wants_to_put s t r i latch
put_kept s t r latches i None = refl
put_kept s t r latches i (Some flit) = ap (option_map (λ o. Put o flit)) (output_kept s t r latches i (head_of flit))
