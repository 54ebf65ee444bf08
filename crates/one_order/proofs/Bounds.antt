-- A flight stays within the room of its scripts, and a move that is found has room.
use Rattle.std.proofs.Common.{◌≡◌, ℕ, ◌<◌, ◌≤◌, ◌==◌, List, [], length, take, Some, refl, sym, ◌∙◌, ap, subst, arith, slice_get}
use Rattle.std.proofs.Common.{eq-eqb}
use Rattle.std.proofs.lemmas.Bool.{cond-true}
use Rattle.std.proofs.lemmas.List.{length-map}
use Rattle.std.proofs.lemmas.Option.{slice_get_within, get_or_from_slice_get}
use Rattle.packet.specs.declared.kinds.Operation.{Operation}
use Rattle.packet.specs.declared.kinds.Request.{Request}
use Rattle.packet.specs.declared.kinds.Response.{Response}
use Rattle.script_lines.specs.declared.line.Line.{Line}
use Rattle.script_lines.specs.Lines.{operation_count}
use Rattle.one_order.specs.Scripts.{IsFollowable}
use Rattle.one_order.specs.ProcessorRecord.{ProcessorRecord}
use Rattle.one_order.proofs.Shown.{followed, left_after_issue, left_within}
use Rattle.one_order.specs.Observed.{Observed, Run, list_at, total, event_count}
use Rattle.one_order.specs.Order.{LinearizationPoint, home, count_at}
use Rattle.one_order.proofs.Lists.{within_length, list_within}
use Rattle.one_order.proofs.Account.{home_within}
use Rattle.one_order.specs.OneOrder.{HasOneOrder}
use Rattle.one_order.proofs.BankReplay.{name_entries}
use Rattle.one_order.specs.Flight.{Flight, Move, Sends, Serves, Takes, IsFound, processor_at, asked_place, told_place, show}
use Rattle.one_order.specs.EventBook.{EventBook, row_at}
use Rattle.one_order.specs.Room.{IsWithin, IsBookWithin, RoomToSend, RoomToServe, RoomToTake, HasRoomForMove}
use Rattle.one_order.proofs.Counts.{asked_remove}
use Rattle.one_order.proofs.Follows.{Follows}
use Rattle.one_order.proofs.Parts.{tags_of, tags_at, issued_at}
use Rattle.one_order.proofs.Whole.{Whole, address_is, index_is, operation_is}
use Rattle.one_order.proofs.EventBooks.{IsBookOf}
use Rattle.one_order.proofs.BoundsScripts.{followed_home_within, home_total_within, total_within_room, total_below_room}
use Rattle.one_order.proofs.Balances.{Balanced, out_less}

-- What holds of a flight at a moment of a run, whose scripts can be followed.
pub record Moment (tiles tags : ℕ) (opening : List ℕ) (scripts : List (List Line)) (run : Run) (n : ℕ) (f : Flight) (order : List LinearizationPoint) : Type 0
  where
    pub whole : Whole tiles tags opening f order
    pub shown : run n ≡ show f
    pub follows : (p : ℕ) (lines : List Line) → slice_get scripts p ≡ Some lines → Follows run n p lines (processor_at f p).following
    pub balanced : (p : ℕ) → Balanced (processor_at f p)
    pub processors : length scripts ≡ tiles
    pub followable : (p : ℕ) → p < length scripts → IsFollowable (list_at scripts p)

module _ (tiles tags : ℕ) (opening : List ℕ) (scripts : List (List Line)) (run : Run) (n : ℕ) (f : Flight) (order : List LinearizationPoint)
    (h : Moment tiles tags opening scripts run n f order) where
  pub can_follow : (p : ℕ) (lines : List Line) → slice_get scripts p ≡ Some lines → IsFollowable lines
  can_follow p lines there = subst IsFollowable (get_or_from_slice_get scripts p lines [] there) (h.followable p (slice_get_within scripts p lines there))

  issued_within : (p : ℕ) (lines : List Line) → slice_get scripts p ≡ Some lines → length (list_at (show f).issued p) ≤ operation_count lines
  issued_within p lines there =
      let g = h.follows p lines there in
      let most = left_within lines g.ops (processor_at f p).following (can_follow p lines there) g.shows in
      let same = ap (λ (x : Observed). length (list_at x.issued p)) h.shown in
      omega (arith, most, same, g.are.count)

  count : length (show f).issued ≡ length scripts
  count = h.whole.account.shown.processors ∙ sym h.processors

  pub within : IsWithin tiles scripts f
  within =
      let all = total_within_room (show f).issued scripts count issued_within in
      let asked = h.whole.counted.asked in
      record {
        processors = sym (length-map f.processors (λ (p : ProcessorRecord). p.issued)) ∙ h.whole.account.shown.processors;
        banks = h.whole.account.shown.banks;
        issued = λ p lines there. subst (λ (k : ℕ). k ≤ operation_count lines) (ap length (issued_at f p)) (issued_within p lines there);
        answers = h.balanced;
        homes = λ b.
            let of_bank = h.whole.counted.homes b in
            let most = home_total_within tiles b (show f).issued scripts count (λ p lines there.
            let g = h.follows p lines there in
            let same = ap (λ (x : Observed). list_at x.issued p) h.shown in
            followed_home_within tiles b lines g.ops (list_at (show f).issued p)
            (followed lines g.ops (processor_at f p).following (can_follow p lines there) g.shows)
            (g.are.count ∙ ap length same)
            (λ i o there. sym (ap (λ xs. slice_get xs i) same) ∙ (g.are.each i o there).0)) in
            omega (arith, of_bank, most);
        asked = omega (arith, asked, all);
        told = let told = h.whole.counted.told in omega (arith, told);
      }

  pub book_within : (g : EventBook) → IsBookOf run n g → HasOneOrder tiles tags opening run n g.rows → IsBookWithin scripts f g
  book_within g book one =
      let all = within.asked in
      let told = h.whole.counted.told in
      let asked = h.whole.counted.asked in
      let positions : (b : ℕ) → length (list_at g.positions b) ≡ length (list_at f.entries b) =
      λ b. book.service_counts b ∙ ap (λ (x : Observed). length (list_at x.entries b)) h.shown in
      record {
        events = let e = book.events ∙ ap event_count h.shown in omega (arith, e, asked, told, all);
        rows = (name_entries tiles tags opening run n g.rows one).count ∙ ap (λ (x : Observed). total x.entries) h.shown;
        issues = λ p. book.issues.count p ∙ (ap (λ (x : Observed). length (list_at x.issued p)) h.shown ∙ ap length (issued_at f p));
        positions = positions;
        row = λ b place below.
            let at = within_length (list_at g.positions b) place (let e = positions b in omega (arith, e, below)) in
            let read : row_at b place g ≡ at.0 = get_or_from_slice_get (list_at g.positions b) place at.0 0 at.1 in
            let row = book.positions b place at.0 at.1 in
            subst (λ (k : ℕ). k < length g.rows) (sym read) (slice_get_within g.rows at.0 row.0 row.1);
      }

  room_to_send : (t tag : ℕ) (o : Operation) → IsFound (length opening) f (Sends t tag o) → RoomToSend scripts f t
  room_to_send t tag o found =
      let below : (lines : List Line) → slice_get scripts t ≡ Some lines → length (list_at (show f).issued t) < operation_count lines =
      λ lines there.
      let g = h.follows t lines there in
      let good = can_follow t lines there in
      let most = left_within lines g.ops (processor_at f t).following good g.shows in
      let falls = left_after_issue lines g.ops (processor_at f t).following good g.shows o found.1 in
      let same = ap (λ (x : Observed). length (list_at x.issued t)) h.shown in
      omega (arith, most, falls, same, g.are.count) in
      let script = within_length scripts t (let e = within.processors in omega (arith, found.0, e, h.processors)) in
      let all = total_below_room (show f).issued scripts count issued_within t script.0 script.1 (below script.0 script.1) in
      let asked = h.whole.counted.asked in
      record {
        issued = λ lines there. subst (λ (k : ℕ). k < operation_count lines) (ap length (issued_at f t)) (below lines there);
        asked = omega (arith, asked, all);
      }

  room_to_serve : (r : Request) → IsFound (length opening) f (Serves r) → RoomToServe tiles (length opening) scripts f r
  room_to_serve r found =
      let q = h.whole.sound.requests (asked_place f.asked r) r found in
      let one = cond-true {A = ℕ} (r.destination == r.destination) 1 0 (eq-eqb r.destination r.destination refl) in
      let gone = asked_remove r.destination f.asked (asked_place f.asked r) r found in
      let homes = within.homes r.destination in
      let some = slice_get_within f.asked (asked_place f.asked r) r found in
      let asked = within.asked in
      let index = index_is f r.source r.tag.0 q.index q.holds in
      let issued = (h.whole.sound.held r.source r.tag.0 q.index q.holds).0 in
      let here = ap length (issued_at f r.source) in
      let below = h.whole.account.shown.addresses r.source q.index q.operation q.issued in
      let address = address_is tiles q.operation.address r.word r.destination q.word q.bank in
      record {
        entries = omega (arith, one, gone, homes);
        all = omega (arith, asked, some);
        bank = subst (λ (c : ℕ). c < tiles) q.bank
            (home_within tiles tags (length opening) (show f) r.source q.index q.operation h.whole.account.shown q.issued);
        word = subst (λ (k : ℕ). k < length opening) (sym address) below;
        source = subst (λ (k : ℕ). r.source < k) h.whole.sound.tagged (list_within (tags_of f) r.source r.tag.0 (Some (record { 0 = q.index })) q.holds);
        holder = omega (arith, index, issued, here);
        home = ap (home tiles) (operation_is f r.source r.tag.0 q.index q.operation q.holds q.issued) ∙ q.bank;
      }

  room_to_take : (r : Response) → IsFound (length opening) f (Takes r) → RoomToTake tiles scripts f r
  room_to_take r found =
      let p : ℕ = r.destination in
      let q = h.whole.sound.responses (told_place f.told r) r found in
      let has : slice_get (processor_at f p).tags r.tag.0 ≡ Some (Some (record { 0 = q.index })) =
      sym (ap (λ xs. slice_get xs r.tag.0) (tags_at f p)) ∙ q.holds in
      let issued = (h.whole.sound.held p r.tag.0 q.index q.holds).0 in
      let here = ap length (issued_at f p) in
      let out = out_less (processor_at f p).tags r.tag.0 (record { 0 = q.index }) has in
      let sums = h.balanced p in
      -- the service that the response names
      let at = q.at in
      let entry = h.whole.account.entries at.k at.point at.there in
      let place_is : count_at tiles (home tiles at.point.operation) (take at.k order) ≡ r.place =
      sym (at.place ∙ ap (λ c. count_at tiles c (take at.k order)) at.bank) in
      let of_entries : r.place < length (list_at f.entries r.source) =
      subst (λ (c : ℕ). r.place < length (list_at f.entries c)) (sym at.bank)
      (subst (λ (m : ℕ). m < length (list_at f.entries (home tiles at.point.operation))) place_is
      (slice_get_within (list_at f.entries (home tiles at.point.operation)) _ entry.entry entry.there)) in
      let there = within_length (list_at f.entries r.source) r.place of_entries in
      record {
        answers = λ lines script. let most = within.issued p lines script in omega (arith, most, out, sums);
        processor = subst (λ (k : ℕ). p < k) h.whole.sound.tagged (list_within (tags_of f) p r.tag.0 (Some (record { 0 = q.index })) q.holds);
        held = (q.index, has, omega (arith, issued, here));
        source = subst (λ (k : ℕ). r.source < k) h.whole.account.shown.banks (list_within f.entries r.source r.place there.0 there.1);
        place = of_entries;
      }

  pub room_for : (m : Move) → IsFound (length opening) f m → HasRoomForMove tiles (length opening) scripts f m
  room_for (Sends t tag o) found = room_to_send t tag o found
  room_for (Serves r) found = room_to_serve r found
  room_for (Takes r) found = room_to_take r found
