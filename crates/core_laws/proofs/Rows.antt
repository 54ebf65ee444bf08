-- What each choice of a tile's agents does to what its ends have still to do.
use Rattle.std.proofs.Common.{◌≡◌, ℕ, ◌+◌, ◌-◌, ◌<◌, ◌≤◌, Bool, true, false, cond, List, [], ◌∷◌, length, Some, None, refl, sym, ◌∙◌, ap, subst, arith}
use Rattle.std.specs.Prelude.{not, ◌&&◌, if◌then◌else◌}
use Rattle.std.proofs.lemmas.List.{length_push}
use Rattle.torus.specs.declared.step.Choice.TheVariants as choice
use Rattle.packet.specs.declared.kinds.Operation.{Operation}
use Rattle.packet.specs.declared.kinds.Packet.TheVariants as packet
use Rattle.packet.specs.declared.kinds.Request.{Request}
use Rattle.packet.specs.declared.assembler.Offered.{Offered}
use Rattle.packet.specs.declared.assembler.Offered.TheVariants.{More, Whole, Refused}
use Rattle.packet.specs.Memory.{reply_to}
use Rattle.home_bank.specs.ServiceList.{entry_of, response_of}
use Rattle.one_order.specs.Following.{left_of, is_finished, after_issue}
use Rattle.one_order.proofs.Shown.{left_after_answer}
use Rattle.flit_buffer.specs.declared.want.Want.{Want}
use Rattle.flit_buffer.specs.Channel.{rest}
use Rattle.one_order.specs.ProcessorRecord.{ProcessorRecord, ready, issued_by, index_of}
use Rattle.wormhole.specs.Net.{Net, Parcel, net_flits as parcel_flits}
use Rattle.wormhole.specs.Work.{End, Issues, Replies, Serves, NetReports, NetStays}
use Rattle.packet.specs.Flits.{offered, flits_of}
use Rattle.core_laws.specs.Heads.{carries_route}
use Rattle.one_order.specs.ProcessorTable.{ProcessorState, processor_wants, processor_after, record_sent, record_offered, issued_of}
use Rattle.home_bank.specs.BankTable.{BankState, bank_after, served}
use Rattle.core_laws.proofs.Projection.{first_flit}

-- 1 unless it is done
abbrev pub unless : Bool → ℕ
unless true = 0
unless false = 1

-- the flits of a reply of which none is put
abbrev pub unsent_flits : List ℕ → ℕ
unsent_flits to_put = if carries_route (first_flit to_put) then length to_put else 0

-- what the ends of a tile have still to do, where its bank may make so many entries
abbrev pub end_of : ℕ → ProcessorState → BankState → End
end_of cap p b = record {
  left = left_of p.operations.following;
  reports = unless p.reported + unless p.seen;
  room = cap - length b.entries;
  unsent = unsent_flits b.to_put;
}

module _ (tiles words t cap : ℕ) (p : ProcessorState) (b : BankState) where
  -- an offered flit leaves the operations that are left, or ends a spin
  offered_left : (c : ProcessorRecord) (o : Offered) → left_of (record_offered tiles words t c o).following ≤ left_of c.following
  offered_left c More = omega arith
  offered_left c (Whole (packet.Request r)) = omega arith
  offered_left c (Whole (packet.Response r)) = left_after_answer c.following (index_of c r.tag.0) r.reply
  offered_left c (Refused k) = omega arith

  pub processor_takes : (w : Want) (flit : ℕ) → NetStays (end_of cap p b) (end_of cap (processor_after tiles words t p choice.Take w flit) b)
  processor_takes w flit = record { left = offered_left p.operations (offered p.so_far flit); reports = refl; room = refl; unsent = refl }

  -- a request's first flit: the operation is issued
  pub issue_left : (n : Net) (k : Parcel) (w : Want) (learned tag : ℕ) (o : Operation) → p.to_put ≡ [] → ready p.operations ≡ Some (tag, o)
      → left_of (after_issue p.operations.following) < left_of p.operations.following
      → length (parcel_flits k) ≤ 5 → length (n.route k.source k.destination) ≤ 10
      → Issues n k (end_of cap p b) (end_of cap (processor_after tiles words t p choice.Send w learned) b)
  issue_left n k w learned tag o none due falls short near =
      let book : record_sent tiles words t p.to_put p.operations ≡ issued_by p.operations tag o =
      ap (λ l. record_sent tiles words t l p.operations) none ∙ ap (λ r. issued_of tiles words t r p.operations) due in
      let left : left_of (record_sent tiles words t p.to_put p.operations).following ≡ left_of (after_issue p.operations.following) =
      ap (λ (c : ProcessorRecord). left_of c.following) book in
      record { left = omega arith; reports = refl; room = refl; unsent = refl; short = short; near = near }

  -- a further flit of a request
  pub send_stays : (w : Want) (learned f : ℕ) (fs : List ℕ) → p.to_put ≡ f ∷ fs
      → NetStays (end_of cap p b) (end_of cap (processor_after tiles words t p choice.Send w learned) b)
  send_stays w learned f fs due =
      let book : record_sent tiles words t p.to_put p.operations ≡ p.operations = ap (λ l. record_sent tiles words t l p.operations) due in
      let left : left_of (record_sent tiles words t p.to_put p.operations).following ≡ left_of p.operations.following =
      ap (λ (c : ProcessorRecord). left_of c.following) book in
      record { left = omega arith; reports = refl; room = refl; unsent = refl }

  not_yet : (c d : Bool) (x w : Want) → (if c && not d then Some x else None) ≡ Some w → d ≡ false
  not_yet true true x w h = absurd (cc)
  not_yet true false x w h = refl
  not_yet false d x w h = absurd (cc)

  -- a report, and the sight of the end
  pub done_reports : (w : Want) (learned : ℕ) → processor_wants tiles words t p choice.Done ≡ Some w
      → NetReports (end_of cap p b) (end_of cap (processor_after tiles words t p choice.Done w learned) b)
  done_reports w learned wanted =
      let new = ap unless (not_yet (is_finished p.operations.following) p.reported _ w wanted) in
      record { left = refl; reports = omega arith; room = refl; unsent = refl }

  pub look_reports : (w : Want) (learned : ℕ) → processor_wants tiles words t p choice.Look ≡ Some w
      → NetReports (end_of cap p b) (end_of cap (processor_after tiles words t p choice.Look w learned) b)
  look_reports w learned wanted =
      let new = ap unless (not_yet p.reported p.seen _ w wanted) in
      record { left = refl; reports = omega arith; room = refl; unsent = refl }

  -- a bank serves the request that waits, where it has room
  pub serve_serves : (w : Want) (found : ℕ) (r : Request) → b.waiting ≡ Some r → length b.entries < cap
      → length (flits_of (packet.Response (response_of t (length b.entries) r (reply_to r.op found)))) ≤ 3
      → Serves (end_of cap p b) (end_of cap p (bank_after tiles t b choice.Serve w found))
  serve_serves w found r waits room short =
      let after : BankState = served tiles t b (Some r) found in
      let is : served tiles t b b.waiting found ≡ after = ap (λ o. served tiles t b o found) waits in
      let longer = length_push b.entries (entry_of t tiles r (reply_to r.op found)) in
      let few : unsent_flits after.to_put ≤ length after.to_put = at_most (carries_route (first_flit after.to_put)) (length after.to_put) in
      subst (λ (c : BankState). Serves (end_of cap p b) (end_of cap p c)) (sym is)
      (record { left = refl; reports = refl; room = omega arith; unsent = omega arith })
    where
      at_most : (c : Bool) (m : ℕ) → (if c then m else 0) ≤ m
      at_most true m = omega arith
      at_most false m = omega arith

  -- the first flit of a reply
  pub reply_begins : (n : Net) (k : Parcel) (w : Want) (learned f : ℕ) (fs : List ℕ) → b.to_put ≡ f ∷ fs → carries_route f ≡ true → carries_route (first_flit fs) ≡ false
      → length (parcel_flits k) ≡ length (f ∷ fs)
      → length (n.route k.source k.destination) ≤ 10 → Replies n k (end_of cap p b) (end_of cap p (bank_after tiles t b choice.Send w learned))
  reply_begins n k w learned f fs due first later size near = record {
    left = refl;
    reports = refl;
    room = refl;
    before = ap unsent_flits due ∙ ap (λ c. cond c (length (f ∷ fs)) 0) first ∙ sym size;
    unsent = ap (λ l. unsent_flits (rest l)) due ∙ ap (λ c. cond c (length fs) 0) later;
    near = near;
  }

  -- a further flit of a reply
  pub reply_goes_on : (w : Want) (learned f : ℕ) (fs : List ℕ) → b.to_put ≡ f ∷ fs → carries_route f ≡ false → carries_route (first_flit fs) ≡ false
      → NetStays (end_of cap p b) (end_of cap p (bank_after tiles t b choice.Send w learned))
  reply_goes_on w learned f fs due first later = record {
    left = omega arith;
    reports = refl;
    room = refl;
    unsent = ap (λ l. unsent_flits (rest l)) due ∙ ap (λ c. cond c (length fs) 0) later
        ∙ sym (ap unsent_flits due ∙ ap (λ c. cond c (length (f ∷ fs)) 0) first);
  }

  -- a bank takes a flit
  pub bank_takes : (w : Want) (flit : ℕ) → NetStays (end_of cap p b) (end_of cap p (bank_after tiles t b choice.Take w flit))
  bank_takes w flit = record { left = omega arith; reports = refl; room = refl; unsent = refl }

  -- a credit comes back
  pub processor_credit : (w : Want) (learned : ℕ) → NetStays (end_of cap p b) (end_of cap (processor_after tiles words t p choice.Credit w learned) b)
  processor_credit w learned = record { left = omega arith; reports = refl; room = refl; unsent = refl }

  pub bank_credit : (w : Want) (learned : ℕ) → NetStays (end_of cap p b) (end_of cap p (bank_after tiles t b choice.Credit w learned))
  bank_credit w learned = record { left = omega arith; reports = refl; room = refl; unsent = refl }
