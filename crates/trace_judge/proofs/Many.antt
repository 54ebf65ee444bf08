-- Branches that are too many tell as many orders.
use Rattle.std.proofs.Common.{◌≡◌, ◌≢◌, ⊎_elim, ℕ, zero, suc, ◌<◌, ◌^◌, List, [], ◌∷◌, length, Option, Some, None, Result, Err, IfErr, refl, sym, ◌∙◌, ap, subst}
use Rattle.std.proofs.Common.{arith, slice_get, take}
use Rattle.std.proofs.lemmas.List.{length-take}
use Rattle.std.specs.Int.{bit_at}
use Rattle.std.proofs.lemmas.Bool.{cases_eq}
use Rattle.std.proofs.lemmas.Nat.Bits.{same_from_bits_below}
use Rattle.trace_laws.specs.declared.event.Call.{Call}
use Rattle.packet.specs.declared.kinds.Reply.{Reply}
use Rattle.trace_laws.specs.declared.event.Event.{Event}
use Rattle.trace_laws.specs.declared.event.Event.TheVariants.{Answer}
use Rattle.trace_laws.specs.Traces.{IsTrace, TraceAnswersAt}
use Rattle.trace_laws.proofs.Lists.{take_get}
use Rattle.trace_laws.specs.Legal.{Legal}
use Rattle.trace_laws.specs.declared.opened.Open.{Open}
use Rattle.trace_laws.specs.declared.opened.Config.{Config}
use Rattle.trace_laws.specs.declared.opened.Branch.{Branch}
use Rattle.trace_laws.specs.declared.opened.Node.{Node}
use Rattle.trace_laws.specs.Configs.{IsOpen, IsIn, IsLeft, HasTakenEffect}
use Rattle.trace_laws.specs.Searches.{IsIndexTable, Fits, IsSoundSearch, order_of}
use Rattle.trace_laws.proofs.Bits.{bit_cases, not_both}
use Rattle.trace_judge.specs.declared.search.Search.{Search}
use Rattle.trace_judge.specs.declared.undecided.Full.{Full}
use Rattle.trace_judge.specs.declared.undecided.Full.TheVariants.{Configurations}
use Rattle.trace_judge.specs.Sets.{lists_of, with_set}
use Rattle.trace_judge.specs.Searched.{HasSearched}
use Rattle.trace_judge.specs.Stops.{IsAnAnswer, IsBeginning, LeaveSame, HasMany}
use Rattle.trace_judge.specs.Crowds.{AreDistinct, IsOverfull}
use Rattle.trace_judge.proofs.Branches.{with_same, with_other, stays_fewer}
use Rattle.trace_judge.proofs.Marking.{first_of}
use Rattle.trace_judge.proofs.Existing.{pick_firsts}
use Rattle.trace_judge.proofs.Answering.{sound_as}

-- an order explains what comes before an event, and a configuration tells what it leaves of a word
abbrev Tells : List ℕ → List Event → ℕ → List (Option Open) → ℕ → Branch → List Call → Type 0
Tells opening trace k table w b order = Legal opening trace k order × Fits opening table w order b.config

-- a branch of a word tells such an order
branch_order : (opening : List ℕ) (trace : List Event) (k : ℕ) (tables : ℕ → List (Option Open))
    (sets : ℕ → List Branch) (nodes : List Node) (w : ℕ) (b : Branch) → w < length opening
    → ((v : ℕ) → v < length opening → (c : Branch) × IsIn (sets v) c)
    → IsSoundSearch opening trace k tables (with_set sets w (b ∷ [])) nodes
    → (order : List Call) × Tells opening trace k (tables w) w b order
branch_order opening trace k tables sets nodes w b inside filled sound =
    let picked = pick_firsts alone nodes (length opening) sound.back sound.inside some (length opening) (omega arith) in
    let explained = sound.explained (λ v. first_of (alone v)) picked.1.0 picked.0 picked.1.1 in (
      order_of nodes picked.0,
      (
        explained.legal,
        subst (λ (c : Branch). Fits opening (tables w) w (order_of nodes picked.0) c.config)
            (ap (λ (bs : List Branch). first_of bs) (with_same sets w (b ∷ []))) (explained.fits w inside),
      ),
    )
  where
    alone : ℕ → List Branch
    alone = with_set sets w (b ∷ [])

    some : (v : ℕ) → v < length opening → (c : Branch) × IsIn (alone v) c
    some v l = ⊎_elim {C = (c : Branch) × IsIn (alone v) c}
        (λ (e : v ≡ w). (
          b,
          subst (λ (bs : List Branch). IsIn bs b)
              (sym (ap alone e ∙ with_same sets w (b ∷ []))) (0, refl),
        ))
        (λ (ne : v ≢ w).
        let c = filled v l in
        (c.0, subst (λ (bs : List Branch). IsIn bs c.0) (sym (with_other sets w (b ∷ []) v ne)) c.1))
        (cases_eq v w)

-- each of some branches
orders_of : (P : Branch → List Call → Type 0) (found : List Branch)
    → ((b : Branch) → IsIn found b → (order : List Call) × P b order)
    → (orders : List (List Call)) × (length orders ≡ length found)
    × ((i : ℕ) (order : List Call) → slice_get orders i ≡ Some order
    → (b : Branch) × (slice_get found i ≡ Some b) × P b order)
orders_of P [] tells = ([], refl, λ i order h. absurd (let e : None ≡ Some order = h in cc))
orders_of P (b ∷ found) tells =
    let rest = orders_of P found (λ c on. tells c (suc on.0, on.1)) in
    let first = tells b (0, refl) in
    (first.0 ∷ rest.0, ap suc rest.1, each rest.0 rest.2 first.0 first.1)
  where
    each : (orders : List (List Call)) → ((i : ℕ) (order : List Call) → slice_get orders i ≡ Some order
        → (c : Branch) × (slice_get found i ≡ Some c) × P c order) → (head : List Call) → P b head
        → (i : ℕ) (order : List Call) → slice_get (head ∷ orders) i ≡ Some order
        → (c : Branch) × (slice_get (b ∷ found) i ≡ Some c) × P c order
    each orders rest head told zero order h =
        let e : head ≡ order = cc in (b, refl, subst (λ (o : List Call). P b o) e told)
    each orders rest head told (suc i) order h = rest i order h

-- an operation that has taken effect in one configuration and not in the other
clash : (opening : List ℕ) (trace : List Event) (k w : ℕ) (table : List (Option Open)) (a b : List Call) (c d : Config)
    (s : ℕ) (o : Open) → IsIndexTable trace k w table → Fits opening table w a c → Fits opening table w b d
    → LeaveSame opening trace k w a b → IsOpen table w s o → (HasTakenEffect c s → IsLeft d s → ⊥) × (IsLeft c s → HasTakenEffect d s → ⊥)
clash opening trace k w table a b c d s o is fits also same at =
    let p = is.pending s o at.there in
    let on = same.on p.at o.call p.early p.issue at.here p.unanswered in (
      (λ taken left. also.left s o at left (on.0 (fits.taken s o at taken))),
      (λ left taken. fits.left s o at left (on.1 (also.taken s o at taken))),
    )

-- orders that leave the same have one configuration
same_config : (opening : List ℕ) (trace : List Event) (k w : ℕ) (table : List (Option Open)) (a b : List Call)
    (c d : Config) → IsIndexTable trace k w table → Fits opening table w a c → Fits opening table w b d
    → c.taken < 2 ^ 128 → d.taken < 2 ^ 128 → LeaveSame opening trace k w a b → c ≡ d
same_config opening trace k w table a b c d is fits also low below same =
    let word : c.word ≡ d.word = fits.word ∙ (same.word ∙ sym also.word) in
    let taken : c.taken ≡ d.taken = same_from_bits_below 128 c.taken d.taken low below bits in
    ap (λ (v : ℕ). made v c.taken) word ∙ ap (λ (t : ℕ). made d.word t) taken
  where
    made : ℕ → ℕ → Config
    made v t = record { word = v; taken = t }

    apart : (s : ℕ) → s < 128 → bit_at c.taken s ≡ 1 → bit_at d.taken s ≡ 0 → ⊥
    apart s l one none = ⊎_elim {C = ⊥}
        (λ (left : IsLeft c s). not_both (bit_at c.taken s) left one)
        (λ (r : (o : Open) × IsOpen table w s o). (clash opening trace k w table a b c d s r.0 is fits also same r.1).0 one none)
        (fits.free s l)

    other : (s : ℕ) → s < 128 → bit_at c.taken s ≡ 0 → bit_at d.taken s ≡ 1 → ⊥
    other s l none one = ⊎_elim {C = ⊥}
        (λ (left : IsLeft d s). not_both (bit_at d.taken s) left one)
        (λ (r : (o : Open) × IsOpen table w s o). (clash opening trace k w table a b c d s r.0 is fits also same r.1).1 none one)
        (also.free s l)

    bits : (s : ℕ) → s < 128 → bit_at c.taken s ≡ bit_at d.taken s
    bits s l = ⊎_elim {C = bit_at c.taken s ≡ bit_at d.taken s}
        (λ (z : bit_at c.taken s ≡ 0). ⊎_elim {C = bit_at c.taken s ≡ bit_at d.taken s}
        (λ (y : bit_at d.taken s ≡ 0). z ∙ sym y)
        (λ (o : bit_at d.taken s ≡ 1). absurd (other s l z o))
        (bit_cases d.taken s))
        (λ (o : bit_at c.taken s ≡ 1). ⊎_elim {C = bit_at c.taken s ≡ bit_at d.taken s}
        (λ (y : bit_at d.taken s ≡ 0). absurd (apart s l o y))
        (λ (p : bit_at d.taken s ≡ 1). o ∙ sym p)
        (bit_cases d.taken s))
        (bit_cases c.taken s)

-- the branches of a word lead to too many, before an event of a beginning of a trace
many_orders : (opening : List ℕ) (trace whole : List Event) (k w n bound : ℕ) (table : List (Option Open))
    (found : List Branch) → trace ≡ take n whole → k < length trace → IsIndexTable trace k w table
    → bound < length found → AreDistinct found
    → ((b : Branch) → IsIn found b → (order : List Call) × Tells opening trace k table w b order)
    → HasMany opening whole k bound
many_orders opening trace whole k w n bound table found begins early is many distinct tells =
    let r = orders_of (λ b order. Tells opening trace k table w b order) found tells in record {
      word = w;
      told = n;
      early = let e = ap (λ (t : List Event). length t) begins in let f = length-take n whole in omega arith;
      orders = r.0;
      many = let e = r.1 in omega arith;
      legal = λ i order h. subst (λ (t : List Event). Legal opening t k order) begins (r.2 i order h).2.0;
      unlike = λ i j a b l h m same.
          let x = r.2 i a h in
          let y = r.2 j b m in
          distinct.apart i j x.0 y.0 l x.1 y.1
          (same_config opening trace k w table a b x.0.config y.0.config is x.2.1 y.2.1
          (distinct.low i x.0 x.1) (distinct.low j y.0 y.1)
          (subst (λ (t : List Event). LeaveSame opening t k w a b) (sym begins) same));
    }

pub has_many : {A : Type 0} (opening : List ℕ) (trace whole : List Event) (k bound : ℕ) (s : Search A) (w : ℕ)
    (branches : List Branch) (nodes : List Node) (table : List (Option Open)) → IsTrace (length opening) trace
    → IsBeginning trace whole → k < length trace → HasSearched {A = A} opening trace whole k s → w < length opening
    → branches ≡ lists_of s.words.items w → nodes ≡ s.nodes.items → table ≡ lists_of s.tables.items w
    → IsOverfull table w bound branches nodes → HasMany opening whole k bound
has_many {A} opening trace whole k bound s w branches nodes table t begins early holds inside was kept listed over =
    many_orders opening trace whole k w begins.0 bound table over.found begins.1 early
    (subst (λ (os : List (Option Open)). IsIndexTable trace k w os) (sym listed) (holds.searched.tabled w inside))
    over.crowd.many over.crowd.distinct (λ b on.
    let alone = stays_fewer table w over.found (b ∷ []) over.more (λ c h. subst (λ (d : Branch). IsIn over.found d) (only b c h) on) in
    let sound = alone opening trace k tables sets t holds.searched.tabled (sym listed) inside
    (over.sound opening trace k tables sets t holds.searched.tabled (sym listed) inside begun) in
    let r = branch_order opening trace k tables sets over.more w b inside holds.filled sound in
    (r.0, subst (λ (os : List (Option Open)). Tells opening trace k os w b r.0) (sym listed) r.1))
  where
    tables : ℕ → List (Option Open)
    tables = lists_of s.tables.items

    sets : ℕ → List Branch
    sets = lists_of s.words.items

    only : (b c : Branch) → IsIn (b ∷ []) c → b ≡ c
    only b c (zero, h) = cc
    only b c (suc i, h) = absurd (let e : None ≡ Some c = h in cc)

    begun : IsSoundSearch opening trace k tables (with_set sets w branches) nodes
    begun = subst (λ (ns : List Node). IsSoundSearch opening trace k tables (with_set sets w branches) ns) (sym kept)
        (sound_as opening trace k tables sets (with_set sets w branches) s.nodes.items
        (λ v. ⊎_elim {C = with_set sets w branches v ≡ sets v}
        (λ (e : v ≡ w). ap (λ (u : ℕ). with_set sets w branches u) e ∙ (with_same sets w branches ∙ (was ∙ ap sets (sym e))))
        (λ (ne : v ≢ w). with_other sets w branches v ne)
        (cases_eq v w)) holds.searched.sound)

-- what an error says that is this one
pub full_told : {X : Type 0} (r : Result X Full) (e : Full) (P : Type 0) → r ≡ Err e → e ≡ Configurations
    → IfErr r (λ full. full ≡ Configurations → P) → P
full_told {X} r e P is told says = subst (λ (s : Result X Full). IfErr s (λ full. full ≡ Configurations → P)) is says told

-- an event of a beginning is one of the whole trace
pub answer_in : (trace whole : List Event) (k id : ℕ) (reply : Reply) → IsBeginning trace whole
    → TraceAnswersAt trace k id reply → IsAnAnswer whole k
answer_in trace whole k id reply begins answer = (
  id,
  reply,
  (take_get begins.0 whole k (Answer id reply)
      (subst (λ (t : List Event). slice_get t k ≡ Some (Answer id reply)) begins.1 answer)).1,
)
