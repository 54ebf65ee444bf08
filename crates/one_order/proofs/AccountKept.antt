-- The account of what is shown goes on by an issue, an answer, and any event that may happen.
use Rattle.std.proofs.Common.{◌≡◌, ⊎_elim, ℕ, ◌+◌, ◌<◌, List, [], ◌++◌, length, Some, None, refl, sym, ◌∙◌, ap, subst, arith}
use Rattle.std.proofs.Common.{slice_get}
use Rattle.std.proofs.lemmas.List.{append-nil, length-replicate}
use Rattle.std.proofs.lemmas.Option.{slice_get_within}
use Rattle.packet.specs.declared.kinds.Operation.{Operation}
use Rattle.home_bank.specs.declared.entry.Entry.{Entry}
use Rattle.one_order.specs.declared.answer.Answer.{Answer}
use Rattle.one_order.specs.Observed.{Observed, list_at, IsTold}
use Rattle.one_order.specs.Order.{LinearizationPoint}
use Rattle.one_order.specs.Events.{Event, Nothing, Issued, Served, Answered, happens, nothing_yet, points_of, MayIssue}
use Rattle.one_order.specs.Events.{MayAnswer, MayHappen, TellsService}
use Rattle.one_order.proofs.Lists.{push_at_cases, push_at_keeps, length-push_at, list_at_none}
use Rattle.one_order.proofs.Account.{Account, served_keeps}

issued_keeps : (tiles tags : ℕ) (opening : List ℕ) (s : Observed) (order : List LinearizationPoint) (p : ℕ) (o : Operation)
    → Account tiles tags opening s order → MayIssue tiles (length opening) p o → Account tiles tags opening (happens tiles s (Issued p o)) order
issued_keeps tiles tags opening s order p o a may = record {
  memory = a.memory;
  entries = λ k x h. let at = a.entries k x h in
      record { entry = at.entry; there = at.there; source = at.source; address = at.address; op = at.op; reply = at.reply };
  counts = a.counts;
  issued = λ k x h. push_at_keeps s.issued p o x.source x.index x.operation (a.issued k x h);
  distinct = a.distinct;
  answers = a.answers;
  once = a.once;
  in_turn = λ k i y earlier hk below hi same. ⊎_elim
      (λ (old : slice_get (list_at s.issued y.source) i ≡ Some earlier). a.in_turn k i y earlier hk below old same)
      (λ (new : (y.source ≡ p) × (i ≡ length (list_at s.issued p)) × (o ≡ earlier)).
      let within = slice_get_within (list_at s.issued y.source) y.index y.operation (a.issued k y hk) in
      let e = ap (λ q. length (list_at s.issued q)) new.0 in
      let f = new.1 in
      absurd (omega arith))
      (push_at_cases s.issued p o y.source i earlier hi);
  answer_turns = a.answer_turns;
  shown = record {
    processors = length-push_at s.issued p o ∙ a.shown.processors;
    answerers = a.shown.answerers;
    banks = a.shown.banks;
    size = a.shown.size;
    addresses = λ q i x h. ⊎_elim
        (λ old. a.shown.addresses q i x old)
        (λ (new : (q ≡ p) × (i ≡ length (list_at s.issued p)) × (o ≡ x)). subst (λ (z : Operation). z.address < length opening) new.2 may.address)
        (push_at_cases s.issued p o q i x h);
    tagged = a.shown.tagged;
  };
}

answered_keeps : (tiles tags : ℕ) (opening : List ℕ) (s : Observed) (order : List LinearizationPoint) (p : ℕ) (new : Answer)
    → Account tiles tags opening s order → MayAnswer tiles opening s order p new → Account tiles tags opening (happens tiles s (Answered p new)) order
answered_keeps tiles tags opening s order p new a may = record {
  memory = a.memory;
  entries = λ k x h. let at = a.entries k x h in
      record { entry = at.entry; there = at.there; source = at.source; address = at.address; op = at.op; reply = at.reply };
  counts = a.counts;
  issued = a.issued;
  distinct = a.distinct;
  answers = λ q i c h. ⊎_elim
      (λ l. a.answers q i c l)
      (λ (r : (q ≡ p) × (i ≡ length (list_at s.answers p)) × (new ≡ c)). subst (λ (n : ℕ). TellsService tiles opening order n c) (sym r.0)
      (subst (λ (d : Answer). TellsService tiles opening order p d) r.2 may.tells))
      (push_at_cases s.answers p new q i c h);
  once = λ q i j c d hi hj same. ⊎_elim
      (λ (li : slice_get (list_at s.answers q) i ≡ Some c). ⊎_elim
      (λ (lj : slice_get (list_at s.answers q) j ≡ Some d). a.once q i j c d li lj same)
      (λ (rj : (q ≡ p) × (j ≡ length (list_at s.answers p)) × (new ≡ d)). absurd
      (may.first (i, c, subst (λ (n : ℕ). slice_get (list_at s.answers n) i ≡ Some c) rj.0 li, same ∙ ap (λ (z : Answer). z.index) (sym rj.2))))
      (push_at_cases s.answers p new q j d hj))
      (λ (ri : (q ≡ p) × (i ≡ length (list_at s.answers p)) × (new ≡ c)). ⊎_elim
      (λ (lj : slice_get (list_at s.answers q) j ≡ Some d). absurd
      (may.first (j, d, subst (λ (n : ℕ). slice_get (list_at s.answers n) j ≡ Some d) ri.0 lj, sym same ∙ ap (λ (z : Answer). z.index) (sym ri.2))))
      (λ (rj : (q ≡ p) × (j ≡ length (list_at s.answers p)) × (new ≡ d)). ri.1 ∙ sym rj.1)
      (push_at_cases s.answers p new q j d hj))
      (push_at_cases s.answers p new q i c hi);
  in_turn = a.in_turn;
  answer_turns = λ q i place c earlier h below there of. ⊎_elim
      (λ l. let at = a.answer_turns q i place c earlier l below there of in (at.0, at.1, at.2, push_at_keeps s.answers p new q at.0 at.1 at.3, at.4, at.5))
      (λ (r : (q ≡ p) × (i ≡ length (list_at s.answers p)) × (new ≡ c)).
      let told : IsTold s p c.bank place =
      subst (λ (d : Answer). place < d.place → slice_get (list_at s.entries d.bank) place ≡ Some earlier → IsTold s p d.bank place) r.2
      (λ l g. may.in_turn place earlier l g (of ∙ r.0)) below there in
      let within = slice_get_within (list_at s.answers p) told.0 told.1 told.2 in
      let last = r.1 in (
        told.0,
        told.1,
        omega arith,
        push_at_keeps s.answers p new q told.0 told.1 (ap (λ n. slice_get (list_at s.answers n) told.0) r.0 ∙ told.2),
        told.3,
        told.4,
      ))
      (push_at_cases s.answers p new q i c h);
  shown = record {
    processors = a.shown.processors;
    answerers = length-push_at s.answers p new ∙ a.shown.answerers;
    banks = a.shown.banks;
    size = a.shown.size;
    addresses = a.shown.addresses;
    tagged = a.shown.tagged;
  };
}

-- the account goes on by any event that may happen
pub keeps : (tiles tags : ℕ) (opening : List ℕ) (s : Observed) (order : List LinearizationPoint) (e : Event) (t : ℕ)
    → Account tiles tags opening s order → MayHappen tiles tags opening s order e → Account tiles tags opening (happens tiles s e) (order ++ points_of e t)
keeps tiles tags opening s order Nothing t a may = rw append-nil a
keeps tiles tags opening s order (Issued p o) t a may = rw append-nil (issued_keeps tiles tags opening s order p o a may)
keeps tiles tags opening s order (Served p i tag o) t a may = served_keeps tiles tags opening s order p i tag o t a may
keeps tiles tags opening s order (Answered p c) t a may = rw append-nil (answered_keeps tiles tags opening s order p c a may)

pub account_none : (tiles tags : ℕ) (opening : List ℕ) → Account tiles tags opening (nothing_yet tiles opening) []
account_none tiles tags opening = record {
  memory = refl;
  entries = λ k x h. cc;
  counts = λ b. ap length (list_at_none tiles b);
  issued = λ k x h. cc;
  distinct = λ j k x y h. cc;
  answers = λ p i a h. let e : None ≡ Some a = sym (ap (λ xs. slice_get xs i) (list_at_none {A = Answer} tiles p)) ∙ h in cc;
  once = λ p i j a c h. let e : None ≡ Some a = sym (ap (λ xs. slice_get xs i) (list_at_none {A = Answer} tiles p)) ∙ h in cc;
  in_turn = λ k i y o h. cc;
  answer_turns = λ p i place a earlier h. let e : None ≡ Some a = sym (ap (λ xs. slice_get xs i) (list_at_none {A = Answer} tiles p)) ∙ h in cc;
  shown = record {
    processors = length-replicate tiles [];
    answerers = length-replicate tiles [];
    banks = length-replicate tiles [];
    size = refl;
    addresses = λ p i o h. let e : None ≡ Some o = sym (ap (λ xs. slice_get xs i) (list_at_none {A = Operation} tiles p)) ∙ h in cc;
    tagged = λ b place x h. let e : None ≡ Some x = sym (ap (λ xs. slice_get xs place) (list_at_none {A = Entry} tiles b)) ∙ h in cc;
  };
}
