-- What is shown at one moment, against the order of the services so far.
use Rattle.std.proofs.Common.{◌≡◌, ⊎_elim, ℕ, ◌+◌, ◌<◌, ◌==◌, cond, List, [], ◌∷◌, ◌++◌, length, take, Some, refl, sym, ◌∙◌, ap, subst, arith}
use Rattle.std.proofs.Common.{slice_get, slice_index, length-set}
use Rattle.std.proofs.lemmas.List.{take_at}
use Rattle.std.proofs.lemmas.List.Sums.{sum_by-append}
use Rattle.std.proofs.lemmas.Option.{slice_get_within}
use Rattle.std.proofs.Math.Nat.{mod-lt}
use Rattle.packet.specs.declared.kinds.Operation.{Operation}
use Rattle.packet.specs.Memory.{replies, memory_after, reply_of_one, memory_after_one, new_word}
use Rattle.torus.specs.declared.step.Tag.{Tag}
use Rattle.home_bank.specs.declared.entry.Entry.{Entry}
use Rattle.one_order.specs.declared.answer.Answer.{Answer}
use Rattle.one_order.specs.Observed.{Observed, list_at, HasAnswered, IsOfMachine}
use Rattle.one_order.specs.Order.{LinearizationPoint, operations_of, home, count_at, IsInOrder, StandsBefore, IsToldBefore}
use Rattle.one_order.specs.Events.{Served, push_at, event_entry, happens, points_of, MayServe}
use Rattle.one_order.specs.Events.{TellsService}
use Rattle.one_order.proofs.Lists.{push_at_cases, push_at_keeps, push_at_new, length-push_at, length_list_at_push, list_within, get_push_cases}
use Rattle.one_order.proofs.Lists.{get_append_left}
use Rattle.one_order.proofs.Folds.{reply_kept, reply_new, memory_new, before_kept}

-- the k-th of the order has its entry
pub record HasEntry (tiles : ℕ) (opening : List ℕ) (s : Observed) (order : List LinearizationPoint) (k : ℕ) (x : LinearizationPoint) : Type 0 where
  pub entry : Entry
  pub there : slice_get (list_at s.entries (home tiles x.operation)) (count_at tiles (home tiles x.operation) (take k order)) ≡ Some entry
  pub source : entry.source ≡ x.source
  pub address : entry.address ≡ x.operation.address
  pub op : entry.op ≡ x.operation.op
  pub reply : slice_get (replies (operations_of order) opening) k ≡ Some entry.reply

-- of an answer of p, each earlier service of p by that bank is told by an earlier answer
abbrev pub AnswerTurns : Observed → Type 0
AnswerTurns s = (p i place : ℕ) (a : Answer) (earlier : Entry) → slice_get (list_at s.answers p) i ≡ Some a → place < a.place
    → slice_get (list_at s.entries a.bank) place ≡ Some earlier → earlier.source ≡ p → IsToldBefore s p i a.bank place

-- what is shown agrees with the order of the services so far
pub record Account (tiles tags : ℕ) (opening : List ℕ) (s : Observed) (order : List LinearizationPoint) : Type 0 where
  pub memory : s.memory ≡ memory_after (operations_of order) opening
  pub entries : (k : ℕ) (x : LinearizationPoint) → slice_get order k ≡ Some x → HasEntry tiles opening s order k x
  pub counts : (b : ℕ) → length (list_at s.entries b) ≡ count_at tiles b order
  pub issued : (k : ℕ) (x : LinearizationPoint) → slice_get order k ≡ Some x → slice_get (list_at s.issued x.source) x.index ≡ Some x.operation
  pub distinct : (j k : ℕ) (x y : LinearizationPoint) → slice_get order j ≡ Some x → slice_get order k ≡ Some y → x.source ≡ y.source → x.index ≡ y.index
      → j ≡ k
  pub answers : (p i : ℕ) (a : Answer) → slice_get (list_at s.answers p) i ≡ Some a → TellsService tiles opening order p a
  pub once : (p i j : ℕ) (a c : Answer) → slice_get (list_at s.answers p) i ≡ Some a → slice_get (list_at s.answers p) j ≡ Some c → a.index ≡ c.index → i ≡ j
  pub in_turn : (k i : ℕ) (y : LinearizationPoint) (o : Operation) → slice_get order k ≡ Some y → i < y.index
      → slice_get (list_at s.issued y.source) i ≡ Some o → home tiles o ≡ home tiles y.operation → StandsBefore order k y.source i
  pub answer_turns : AnswerTurns s
  pub shown : IsOfMachine tiles tags (length opening) s

-- a home is a tile, where a processor has issued anything
pub home_within : (tiles tags words : ℕ) (s : Observed) (p i : ℕ) (o : Operation) → IsOfMachine tiles tags words s → slice_get (list_at s.issued p) i ≡ Some o
    → home tiles o < tiles
home_within tiles tags words s p i o shown h =
    let p_in = list_within s.issued p i o h in
    let e = shown.processors in
    let some : 0 < tiles = omega arith in
    mod-lt o.address some

-- an operation that isn't served isn't answered
pub unserved_unanswered : (tiles tags : ℕ) (opening : List ℕ) (s : Observed) (order : List LinearizationPoint) (p i : ℕ) → Account tiles tags opening s order
    → (IsInOrder order p i → ⊥) → HasAnswered s p i → ⊥
unserved_unanswered tiles tags opening s order p i acc waits was =
    let told = acc.answers p was.0 was.1 was.2 in
    waits (told.k, told.point, told.there, told.source, told.index ∙ was.3)

entry_more : (tiles : ℕ) (opening : List ℕ) (s : Observed) (order more : List LinearizationPoint) (k : ℕ) (x : LinearizationPoint) (b : ℕ) (e : Entry)
    (issued : List (List Operation)) (answers : List (List Answer)) (memory : List ℕ)
    → slice_get order k ≡ Some x → HasEntry tiles opening s order k x
    → HasEntry tiles opening (record { issued = issued; answers = answers; entries = push_at s.entries b e; memory = memory }) (order ++ more) k x
entry_more tiles opening s order more k x b e issued answers memory h at = record {
  entry = at.entry;
  there = ap (λ o. slice_get (list_at (push_at s.entries b e) (home tiles x.operation)) (count_at tiles (home tiles x.operation) o))
      (before_kept order more k x h)
      ∙ push_at_keeps s.entries b e (home tiles x.operation) (count_at tiles (home tiles x.operation) (take k order)) at.entry at.there;
  source = at.source;
  address = at.address;
  op = at.op;
  reply = reply_kept order more opening k at.entry.reply at.reply;
}

-- an answer's service stays as the order grows
abbrev pub tells_more : (tiles : ℕ) (opening : List ℕ) (order more : List LinearizationPoint) (p : ℕ) (a : Answer) → TellsService tiles opening order p a
    → TellsService tiles opening (order ++ more) p a
tells_more tiles opening order more p a at = record {
  k = at.k;
  point = at.point;
  there = get_append_left order more at.k at.point at.there;
  source = at.source;
  index = at.index;
  op = at.op;
  bank = at.bank;
  place = at.place ∙ ap (count_at tiles a.bank) (sym (before_kept order more at.k at.point at.there));
  reply = reply_kept order more opening at.k a.reply at.reply;
}

-- what stands before a place stays as the order grows
pub stands_more : (order more : List LinearizationPoint) (k p i : ℕ) → StandsBefore order k p i → StandsBefore (order ++ more) k p i
stands_more order more k p i h = (h.0, h.1, h.2, get_append_left order more h.0 h.1 h.3, h.4, h.5)

pub count_more : (tiles b : ℕ) (order : List LinearizationPoint) (x : LinearizationPoint)
    → count_at tiles b (order ++ x ∷ []) ≡ count_at tiles b order + cond (home tiles x.operation == b) 1 0
count_more tiles b order x =
    omega (arith, sum_by-append (λ (y : LinearizationPoint). cond (home tiles y.operation == b) 1 0) order (x ∷ []))

-- the machine's lists, after a service
served_shown : (tiles tags : ℕ) (opening : List ℕ) (s : Observed) (order : List LinearizationPoint) (p i : ℕ) (tag : Tag) (o : Operation)
    → IsOfMachine tiles tags (length opening) s → MayServe tiles tags s order p i tag o
    → IsOfMachine tiles tags (length opening) (happens tiles s (Served p i tag o))
served_shown tiles tags opening s order p i tag o shown may = record {
  processors = shown.processors;
  answerers = shown.answerers;
  banks = length-push_at s.entries (home tiles o) (event_entry p tag o s.memory) ∙ shown.banks;
  size = length-set s.memory o.address (new_word o.op (slice_index s.memory o.address)) ∙ shown.size;
  addresses = shown.addresses;
  tagged = λ b place e h. ⊎_elim
      (λ old. shown.tagged b place e old)
      (λ (new : (b ≡ home tiles o) × (place ≡ length (list_at s.entries (home tiles o))) × (event_entry p tag o s.memory ≡ e)).
      subst (λ (x : Entry). x.tag.0 < tags) new.2 may.tagged)
      (push_at_cases s.entries (home tiles o) (event_entry p tag o s.memory) b place e h);
}

-- the service that an answer tells has been made
pub told_within : (tiles tags : ℕ) (opening : List ℕ) (s : Observed) (order : List LinearizationPoint) (p : ℕ) (a : Answer)
    → Account tiles tags opening s order → TellsService tiles opening order p a → a.place < length (list_at s.entries a.bank)
told_within tiles tags opening s order p a acc at =
    let e = acc.entries at.k at.point at.there in
    let within = slice_get_within (list_at s.entries (home tiles at.point.operation)) (count_at tiles (home tiles at.point.operation) (take at.k order)) e.entry
    e.there in
    let place : a.place ≡ count_at tiles (home tiles at.point.operation) (take at.k order) = at.place ∙ ap (λ b. count_at tiles b (take at.k order)) at.bank in
    let bank = ap (λ b. length (list_at s.entries b)) at.bank in
    omega (arith, within, place, bank)

-- all that follows from one service
pub served_keeps : (tiles tags : ℕ) (opening : List ℕ) (s : Observed) (order : List LinearizationPoint) (p i : ℕ) (tag : Tag) (o : Operation) (t : ℕ)
    → Account tiles tags opening s order → MayServe tiles tags s order p i tag o
    → Account tiles tags opening (happens tiles s (Served p i tag o)) (order ++ points_of (Served p i tag o) t)
served_keeps tiles tags opening s order p i tag o t a may =
    let new : LinearizationPoint = record { source = p; index = i; operation = o; step = t } in
    let b : ℕ = home tiles o in
    let e : Entry = event_entry p tag o s.memory in
    let after : Observed = happens tiles s (Served p i tag o) in
    let in_range : b < length s.entries = subst (λ (n : ℕ). b < n) (sym a.shown.banks) (home_within tiles tags (length opening) s p i o a.shown may.issued) in
    let front : take (length order) (order ++ new ∷ []) ≡ order = take_at order (new ∷ []) (length order) refl in
    let newest : (k : ℕ) (x : LinearizationPoint) → (k ≡ length order) × (new ≡ x) → HasEntry tiles opening after (order ++ new ∷ []) k x = λ k x r.
    subst (λ (n : ℕ). HasEntry tiles opening after (order ++ new ∷ []) n x) (sym r.0)
    (subst (λ (y : LinearizationPoint). HasEntry tiles opening after (order ++ new ∷ []) (length order) y) r.1 (record {
      entry = e;
      there = ap (λ xs. slice_get (list_at (push_at s.entries b e) b) (count_at tiles b xs)) front
          ∙ (ap (λ n. slice_get (list_at (push_at s.entries b e) b) n) (sym (a.counts b)) ∙ push_at_new s.entries b e in_range);
      source = refl;
      address = refl;
      op = refl;
      reply = reply_new order new opening ∙ ap (λ m. Some (reply_of_one o m)) (sym a.memory);
    })) in
    record {
      memory = ap (memory_after_one o) a.memory ∙ sym (memory_new order new opening);
      entries = λ k x h. ⊎_elim
          (λ (l : slice_get order k ≡ Some x). entry_more tiles opening s order (new ∷ []) k x b e s.issued s.answers (memory_after_one o s.memory) l
          (a.entries k x l))
          (newest k x)
          (get_push_cases order new k x h);
      counts = λ c. length_list_at_push s.entries b e c in_range ∙ (ap (λ n. n + cond (b == c) 1 0) (a.counts c) ∙ sym (count_more tiles c order new));
      issued = λ k x h. ⊎_elim
          (λ (l : slice_get order k ≡ Some x). a.issued k x l)
          (λ (r : (k ≡ length order) × (new ≡ x)). subst (λ (y : LinearizationPoint). slice_get (list_at s.issued y.source) y.index ≡ Some y.operation) r.1
          may.issued)
          (get_push_cases order new k x h);
      distinct = λ j k x y hj hk same_source same_index. ⊎_elim
          (λ (lj : slice_get order j ≡ Some x). ⊎_elim
          (λ (lk : slice_get order k ≡ Some y). a.distinct j k x y lj lk same_source same_index)
          (λ (rk : (k ≡ length order) × (new ≡ y)). absurd
          (may.waits (
            j,
            x,
            lj,
            same_source ∙ sym (ap (λ (z : LinearizationPoint). z.source) rk.1),
            same_index
                ∙ sym (ap (λ (z : LinearizationPoint). z.index) rk.1),
          )))
          (get_push_cases order new k y hk))
          (λ (rj : (j ≡ length order) × (new ≡ x)). ⊎_elim
          (λ (lk : slice_get order k ≡ Some y). absurd
          (may.waits (
            k,
            y,
            lk,
            sym same_source ∙ sym (ap (λ (z : LinearizationPoint). z.source) rj.1),
            sym same_index
                ∙ sym (ap (λ (z : LinearizationPoint). z.index) rj.1),
          )))
          (λ (rk : (k ≡ length order) × (new ≡ y)). rj.0 ∙ sym rk.0)
          (get_push_cases order new k y hk))
          (get_push_cases order new j x hj);
      answers = λ q j c h. tells_more tiles opening order (new ∷ []) q c (a.answers q j c h);
      once = a.once;
      in_turn = λ k j y earlier hk below hj same. ⊎_elim
          (λ (lk : slice_get order k ≡ Some y). stands_more order (new ∷ []) k y.source j (a.in_turn k j y earlier lk below hj same))
          (λ (rk : (k ≡ length order) × (new ≡ y)).
          let turn : (z : LinearizationPoint) → new ≡ z → j < z.index → slice_get (list_at s.issued z.source) j ≡ Some earlier
          → home tiles earlier ≡ home tiles z.operation → IsInOrder order z.source j =
          λ z same_point. subst (λ (z : LinearizationPoint). j < z.index → slice_get (list_at s.issued z.source) j ≡ Some earlier
          → home tiles earlier ≡ home tiles z.operation → IsInOrder order z.source j)
          same_point (λ l g h. may.in_turn j earlier l g h) in
          let at = turn y rk.1 below hj same in
          let within = slice_get_within order at.0 at.1 at.2 in
          let last = rk.0 in
          (at.0, at.1, omega arith, get_append_left order (new ∷ []) at.0 at.1 at.2, at.3, at.4))
          (get_push_cases order new k y hk);
      answer_turns = λ q j place c earlier h below there of. ⊎_elim
          (λ old. a.answer_turns q j place c earlier h below old of)
          (λ (r : (c.bank ≡ b) × (place ≡ length (list_at s.entries b)) × (e ≡ earlier)).
          let same = ap (λ n. length (list_at s.entries n)) r.0 in
          let last = r.1 in
          absurd (omega (arith, told_within tiles tags opening s order q c a (a.answers q j c h), same, last)))
          (push_at_cases s.entries b e c.bank place earlier there);
      shown = served_shown tiles tags opening s order p i tag o a.shown may;
    }
