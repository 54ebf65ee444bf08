-- What holds of the packets in flight and of the processors, and what each move makes of it.
use Rattle.std.proofs.Common.{◌≡◌, ℕ, ◌+◌, ◌*◌, ◌/◌, ◌%◌, ◌<◌, ◌==◌, true, false, cond, List, [], ◌∷◌, ◌++◌, length}
use Rattle.std.proofs.Common.{Option, Some, None, refl, sym, ◌∙◌, ap, subst, arith, slice_get, slice_set, slice_index}
use Rattle.std.proofs.Common.{slice_index_or}
use Rattle.std.specs.Prelude.{remove}
use Rattle.std.proofs.lemmas.List.{map-set, length-map, append-nil, length_push}
use Rattle.std.proofs.lemmas.Option.{slice_get_within, get_or_from_slice_get}
use Rattle.std.proofs.Math.Nat.{div-add-mod, mul_comm}
use Rattle.torus.specs.declared.step.Tag.{Tag}
use Rattle.torus.specs.declared.step.OpId.{OpId}
use Rattle.packet.specs.declared.kinds.Op.{Op}
use Rattle.packet.specs.declared.kinds.Op.TheVariants.{Load as Loads}
use Rattle.packet.specs.declared.kinds.Operation.{Operation}
use Rattle.packet.specs.declared.kinds.Reply.{Reply}
use Rattle.packet.specs.declared.kinds.Request.{Request}
use Rattle.packet.specs.declared.kinds.Response.{Response}
use Rattle.packet.specs.Memory.{reply_to, new_word, reply_of_one}
use Rattle.home_bank.specs.declared.entry.Entry.{Entry}
use Rattle.home_bank.specs.ServiceList.{response_of}
use Rattle.one_order.specs.Following.{Following, after_issue, after_answer, last_answered, other_answered}
use Rattle.one_order.specs.declared.answer.Answer.{Answer}
use Rattle.one_order.specs.Observed.{list_at}
use Rattle.one_order.specs.Order.{LinearizationPoint}
use Rattle.one_order.specs.Events.{Event, Issued, Served, Answered, push_at, event_entry, happens, points_of, MayIssue}
use Rattle.one_order.specs.Events.{MayServe, MayAnswer, MayHappen}
use Rattle.one_order.proofs.Lists.{length_list_at_push, total_push, list_within}
use Rattle.one_order.proofs.Account.{Account, home_within}
use Rattle.one_order.proofs.AccountKept.{keeps}
use Rattle.one_order.specs.ProcessorRecord.{ProcessorRecord, no_processor, index_in, index_of, operation_under, issued_by}
use Rattle.one_order.specs.ProcessorRecord.{answered_by, request_of, answer_of}
use Rattle.one_order.specs.Flight.{Flight, Move, Sends, Serves, Takes, processor_at, is_asked_alike, is_told_alike, asked_place}
use Rattle.one_order.specs.Flight.{told_place, word_asked, reply_given, IsFound, moved, moved_by, show, event, flight_event}
use Rattle.one_order.proofs.Counts.{Counted, length-remove, home_total_push, asked_of, asked_push, asked_remove}
use Rattle.one_order.proofs.Words.{put, length_list_at_put}
use Rattle.one_order.proofs.Transport.{Holds, answer_in, Sound, sends_sound}
use Rattle.one_order.proofs.Transported.{served_in_turn, serves_sound, takes_sound}
use Rattle.one_order.proofs.Telling.{Telling, answered_in_turn, telling_sends, telling_serves, telling_takes}
use Rattle.one_order.proofs.Parts.{tags_of, same_shown, map_same, issued_at, answers_at, tags_at, processor_set}
use Rattle.one_order.proofs.FirstPlaces.{none_before, alike_true, told_alike_true}

pub record Whole (tiles tags : ℕ) (opening : List ℕ) (f : Flight) (order : List LinearizationPoint) : Type 0 where
  pub account : Account tiles tags opening (show f) order
  pub sound : Sound tiles opening (show f) (tags_of f) f.asked f.told order
  pub tag_counts : (p : ℕ) → p < tiles → length (list_at (tags_of f) p) ≡ tags
  pub followed : (p : ℕ) → (processor_at f p).following.issued ≡ length (processor_at f p).issued
  pub counted : Counted tiles (show f) f.asked (length f.told)
  pub telling : Telling (show f) f.told

-- a move goes from one such flight to another, by an event that may happen
pub record Steps (tiles tags : ℕ) (opening : List ℕ) (f : Flight) (order : List LinearizationPoint) (t : ℕ) (after : Flight) (e : Event) : Type 0 where
  pub shown : show after ≡ happens tiles (show f) e
  pub may : MayHappen tiles tags opening (show f) order e
  pub whole : Whole tiles tags opening after (order ++ points_of e t)

issue_counted : (f : Following) (xs : List Operation) (o : Operation) → f.issued ≡ length xs
    → (after_issue f).issued ≡ length (xs ++ o ∷ [])
unfolding after_issue
issue_counted f xs o h = ap (λ n. n + 1) h ∙ sym (length_push xs o)

answer_counted : (f : Following) (i : ℕ) (r : Reply) → (after_answer f i r).issued ≡ f.issued
unfolding after_answer
answer_counted f i r =
    elim ((i + 1) == f.issued) as (λ b. (cond {A = Following} b (last_answered f r) (other_answered f)).issued ≡ f.issued) [ true ↦ refl | false ↦ refl ]

pub sends_steps : (tiles tags : ℕ) (opening : List ℕ) (f : Flight) (order : List LinearizationPoint) (t tag : ℕ) (o : Operation) (n : ℕ)
    → Whole tiles tags opening f order → IsFound (length opening) f (Sends t tag o)
    → Steps tiles tags opening f order n (moved tiles f (Sends t tag o)) (Issued t o)
sends_steps tiles tags opening f order t tag o n w g =
    let b : ProcessorRecord = processor_at f t in
    let new : ProcessorRecord = issued_by b tag o in
    let after : Flight = moved tiles f (Sends t tag o) in
    let id : OpId = record { 0 = length (list_at (show f).issued t) } in
    let t_in : t < tiles =
    subst (λ (m : ℕ). t < m) (sym (length-map f.processors (λ (p : ProcessorRecord). p.issued)) ∙ w.account.shown.processors) g.0 in
    let shown : show after ≡ happens tiles (show f) (Issued t o) = same_shown _ _ _ _ _ _ _ _
    (map-set (λ (p : ProcessorRecord). p.issued) f.processors t new ∙ ap (λ xs. slice_set (show f).issued t (xs ++ o ∷ [])) (sym (issued_at f t)))
    (map_same (λ (p : ProcessorRecord). p.answers) no_processor refl f.processors t new refl)
    refl refl in
    let index : b.following.issued ≡ length (list_at (show f).issued t) = w.followed t ∙ sym (ap length (issued_at f t)) in
    let tagged : tags_of after ≡ put (tags_of f) t tag (Some id) =
    map-set (λ (p : ProcessorRecord). p.tags) f.processors t new
    ∙ (ap (λ xs. slice_set (tags_of f) t (slice_set xs tag (Some (record { 0 = b.following.issued })))) (sym (tags_at f t))
    ∙ ap (λ m. put (tags_of f) t tag (Some (record { 0 = m }))) index) in
    let free : slice_get (list_at (tags_of f) t) tag ≡ Some None = ap (λ xs. slice_get xs tag) (tags_at f t) ∙ g.2 in
    let sound =
    sends_sound tiles tags opening (show f) (tags_of f) f.asked f.told order w.account w.sound t tag o
    (request_of tiles t tag o) t_in free refl refl refl refl refl in
    let may : MayIssue tiles (length opening) t o = record { source = t_in; address = g.3 } in
    let in_issued : t < length (show f).issued = subst (λ (m : ℕ). t < m) (sym w.account.shown.processors) t_in in
    record {
      shown = shown;
      may = may;
      whole = rw append-nil (record {
        account = rw shown (rw append-nil at (keeps tiles tags opening (show f) order (Issued t o) n w.account may));
        sound = rw (shown, tagged) sound;
        tag_counts = λ p h. rw (tagged, length_list_at_put) (w.tag_counts p h);
        followed = λ p. processor_set f.processors t new p (λ (x : ProcessorRecord). x.following.issued ≡ length x.issued)
            (issue_counted b.following b.issued o (w.followed t)) (w.followed p);
        counted = rw shown (record {
          asked = omega (arith, w.counted.asked, length_push f.asked (request_of tiles t tag o), total_push (show f).issued t o in_issued);
          told = w.counted.told;
          homes = λ c. omega (arith, w.counted.homes c, asked_push c f.asked (request_of tiles t tag o), home_total_push tiles c (show f).issued t o in_issued);
        });
        telling = rw shown (telling_sends tiles (show f) f.told t o w.telling);
      });
    }

same_entry : (a b : ℕ) (o q : Op) (m n : Reply) (source : ℕ) (tag : Tag) → a ≡ b → o ≡ q → m ≡ n
    → ◌≡◌ {A = Entry} (record { source = source; tag = tag; address = a; op = o; reply = m })
    (record { source = source; tag = tag; address = b; op = q; reply = n })
same_entry a b o q m n source tag ha ho hm =
    ap (λ x. record { source = source; tag = tag; address = x; op = o; reply = m }) ha
    ∙ (ap (λ x. record { source = source; tag = tag; address = b; op = x; reply = m }) ho
    ∙ ap (λ x. record { source = source; tag = tag; address = b; op = q; reply = x }) hm)

pub address_is : (n a w b : ℕ) → a / n ≡ w → a % n ≡ b → b + w * n ≡ a
address_is n a w b hw hb =
    let parts = div-add-mod a n in
    let turned = mul_comm n (a / n) in
    let word = ap (λ x. x * n) hw in
    omega (arith, parts, turned, word, hb)

pub index_is : (f : Flight) (p tag i : ℕ) → Holds (tags_of f) p tag i → index_of (processor_at f p) tag ≡ i
index_is f p tag i h =
    ap index_in (get_or_from_slice_get (processor_at f p).tags tag (Some (record { 0 = i })) None (sym (ap (λ xs. slice_get xs tag) (tags_at f p)) ∙ h))

abbrev pub nothing : Operation
nothing = record { address = 0; op = Loads }

pub operation_is : (f : Flight) (p tag i : ℕ) (o : Operation) → Holds (tags_of f) p tag i → slice_get (list_at (show f).issued p) i ≡ Some o
    → operation_under (processor_at f p) tag ≡ o
operation_is f p tag i o h g =
    ap (λ k. slice_index_or (processor_at f p).issued k nothing) (index_is f p tag i h)
    ∙ get_or_from_slice_get (processor_at f p).issued i o nothing (sym (ap (λ xs. slice_get xs i) (issued_at f p)) ∙ g)

-- a tag that is held is one of the machine's
tag_within : (tiles tags : ℕ) (opening : List ℕ) (f : Flight) (order : List LinearizationPoint) → Whole tiles tags opening f order
    → (p tag i : ℕ) → Holds (tags_of f) p tag i → tag < tags
tag_within tiles tags opening f order w p tag i h =
    let p_in : p < tiles = subst (λ (k : ℕ). p < k) w.sound.tagged (list_within (tags_of f) p tag (Some (record { 0 = i })) h) in
    subst (λ (k : ℕ). tag < k) (w.tag_counts p p_in) (slice_get_within (list_at (tags_of f) p) tag (Some (record { 0 = i })) h)

pub serves_steps : (tiles tags : ℕ) (opening : List ℕ) (f : Flight) (order : List LinearizationPoint) (r : Request) (n : ℕ)
    → (w : Whole tiles tags opening f order) → (there : slice_get f.asked (asked_place f.asked r) ≡ Some r)
    → let q = w.sound.requests (asked_place f.asked r) r there in Steps tiles tags opening f order n (moved tiles f (Serves r))
    (Served r.source q.index r.tag q.operation)
serves_steps tiles tags opening f order r n w there =
    let place : ℕ = asked_place f.asked r in
    let q = w.sound.requests place r there in
    let o : Operation = q.operation in
    let a : ℕ = o.address in
    let m : List ℕ = f.memory in
    let after : Flight = moved tiles f (Serves r) in
    let home_in : a % tiles < tiles = home_within tiles tags (length opening) (show f) r.source q.index o w.account.shown q.issued in
    let address : word_asked tiles r ≡ a = address_is tiles a r.word r.destination q.word q.bank in
    let told : reply_given tiles f r ≡ reply_of_one o m =
    ap (λ k. reply_to r.op (slice_index m k)) address ∙ sym (ap (λ p. reply_to p (slice_index m a)) q.op) in
    let shown : show after ≡ happens tiles (show f) (Served r.source q.index r.tag o) = same_shown _ _ _ _ _ _ _ _ refl refl
    (ap (λ e. push_at f.entries r.destination e) (same_entry _ _ _ _ _ _ r.source r.tag address (sym q.op) told)
    ∙ sym (ap (λ c. push_at f.entries c (event_entry r.source r.tag o m)) q.bank))
    (ap (λ k. slice_set m k (new_word r.op (slice_index m k))) address ∙ sym (ap (λ p. slice_set m a (new_word p (slice_index m a))) q.op)) in
    let oldest : (k : ℕ) (x : Request) → k < place → slice_get f.asked k ≡ Some x → x.source ≡ r.source → x.destination ≡ r.destination → ⊥ =
    λ k x below at source to. none_before (is_asked_alike r) f.asked k x below at (alike_true r x source to) in
    let may : MayServe tiles tags (show f) order r.source q.index r.tag o = record {
      tagged = tag_within tiles tags opening f order w r.source r.tag.0 q.index q.holds;
      issued = q.issued;
      waits = q.waits;
      in_turn = served_in_turn tiles opening (show f) (tags_of f) f.asked f.told order w.sound place r there q oldest;
    } in
    let sound = serves_sound tiles tags opening (show f) (tags_of f) f.asked f.told order w.account w.sound place n r there q
    (response_of r.destination (length (list_at f.entries r.destination)) r (reply_given tiles f r)) refl refl (sym q.bank)
    (sym (ap (λ c. length (list_at f.entries c)) q.bank)) told in
    let telling = telling_serves tiles tags opening (show f) (tags_of f) f.told order w.account w.sound.responses w.telling r.source q.index r.tag o
    (response_of r.destination (length (list_at f.entries r.destination)) r (reply_given tiles f r)) refl (sym q.bank)
    (sym (ap (λ c. length (list_at f.entries c)) q.bank)) in
    let in_entries : a % tiles < length f.entries = subst (λ (k : ℕ). a % tiles < k) (sym w.account.shown.banks) home_in in
    record {
      shown = shown;
      may = may;
      whole = record {
        account = rw shown (keeps tiles tags opening (show f) order (Served r.source q.index r.tag o) n w.account may);
        sound = rw shown sound;
        tag_counts = w.tag_counts;
        followed = w.followed;
        counted = rw (shown, length_push) (record {
          asked = omega (
            arith,
            w.counted.asked,
            total_push f.entries (a % tiles)
                (event_entry r.source r.tag o m) in_entries,
            length-remove f.asked place (slice_get_within f.asked place r there),
          );
          told = omega (arith, w.counted.told, total_push f.entries (a % tiles) (event_entry r.source r.tag o m) in_entries);
          homes = λ c.
              let gone : asked_of c (remove f.asked place) + cond ((a % tiles) == c) 1 0 ≡ asked_of c f.asked =
              ap (λ d. asked_of c (remove f.asked place) + cond (d == c) 1 0) q.bank ∙ asked_remove c f.asked place r there in
              omega (arith, w.counted.homes c, gone, length_list_at_push f.entries (a % tiles) (event_entry r.source r.tag o m) c in_entries);
        });
        telling = rw shown telling;
      };
    }

pub takes_answer : (tiles tags : ℕ) (opening : List ℕ) (f : Flight) (order : List LinearizationPoint) (r : Response)
    → (w : Whole tiles tags opening f order) → (there : slice_get f.told (told_place f.told r) ≡ Some r)
    → let q = w.sound.responses (told_place f.told r) r there in answer_of (processor_at f r.destination) r ≡ answer_in r q.index q.op
takes_answer tiles tags opening f order r w there =
    let q = w.sound.responses (told_place f.told r) r there in
    let p : ℕ = r.destination in
    let b : ProcessorRecord = processor_at f p in
    let index : index_of b r.tag.0 ≡ q.index = index_is f p r.tag.0 q.index q.holds in
    let at = w.account.issued q.at.k q.at.point q.at.there in
    let issued : slice_get (list_at (show f).issued p) q.index ≡ Some q.at.point.operation =
    sym (ap (λ k. slice_get (list_at (show f).issued k) q.index) q.at.source)
    ∙ (sym (ap (λ k. slice_get (list_at (show f).issued q.at.point.source) k) q.at.index) ∙ at) in
    let op : (operation_under b r.tag.0).op ≡ q.op =
    ap (λ (o : Operation). o.op) (operation_is f p r.tag.0 q.index q.at.point.operation q.holds issued) ∙ sym q.at.op in
    ap (λ i. record { index = i; op = (operation_under b r.tag.0).op; reply = r.reply; bank = r.source; place = r.place }) index
    ∙ ap (λ o. answer_in r q.index o) op

pub takes_steps : (tiles tags : ℕ) (opening : List ℕ) (f : Flight) (order : List LinearizationPoint) (r : Response) (n : ℕ)
    → (w : Whole tiles tags opening f order) → (there : slice_get f.told (told_place f.told r) ≡ Some r)
    → let q = w.sound.responses (told_place f.told r) r there in Steps tiles tags opening f order n (moved tiles f (Takes r))
    (Answered r.destination (answer_in r q.index q.op))
takes_steps tiles tags opening f order r n w there =
    let place : ℕ = told_place f.told r in
    let q = w.sound.responses place r there in
    let p : ℕ = r.destination in
    let b : ProcessorRecord = processor_at f p in
    let new : ProcessorRecord = answered_by b r in
    let a : Answer = answer_in r q.index q.op in
    let after : Flight = moved tiles f (Takes r) in
    let answer : answer_of b r ≡ a = takes_answer tiles tags opening f order r w there in
    let in_tags : p < length (tags_of f) = list_within (tags_of f) p r.tag.0 (Some (record { 0 = q.index })) q.holds in
    let p_in : p < tiles = subst (λ (k : ℕ). p < k) w.sound.tagged in_tags in
    let shown : show after ≡ happens tiles (show f) (Answered p a) = same_shown _ _ _ _ _ _ _ _
    (map_same (λ (x : ProcessorRecord). x.issued) no_processor refl f.processors p new refl)
    (map-set (λ (x : ProcessorRecord). x.answers) f.processors p new
    ∙ (sym (ap (λ xs. slice_set (show f).answers p (xs ++ answer_of b r ∷ [])) (answers_at f p)) ∙ ap (push_at (show f).answers p) answer))
    refl refl in
    let tagged : tags_of after ≡ put (tags_of f) p r.tag.0 None =
    map-set (λ (x : ProcessorRecord). x.tags) f.processors p new
    ∙ sym (ap (λ xs. slice_set (tags_of f) p (slice_set xs r.tag.0 None)) (tags_at f p)) in
    let oldest : (k : ℕ) (x : Response) → k < place → slice_get f.told k ≡ Some x → x.source ≡ r.source → x.destination ≡ r.destination → ⊥ =
    λ k x below at source to. none_before (is_told_alike r) f.told k x below at (told_alike_true r x source to) in
    let may : MayAnswer tiles opening (show f) order p a = record {
      tells = q.at;
      first = (w.sound.held p r.tag.0 q.index q.holds).1;
      in_turn = answered_in_turn (show f) f.told w.telling place r there oldest;
    } in
    let in_answers : p < length (show f).answers = subst (λ (k : ℕ). p < k) (sym w.account.shown.answerers) p_in in
    let sound = takes_sound tiles opening (show f) (tags_of f) f.asked f.told order w.sound place r there q p_in in
    record {
      shown = shown;
      may = may;
      whole = rw append-nil (record {
        account = rw shown (rw append-nil at (keeps tiles tags opening (show f) order (Answered p a) n w.account may));
        sound = rw (shown, tagged) sound;
        tag_counts = λ c h. rw (tagged, length_list_at_put) (w.tag_counts c h);
        followed = λ c. processor_set f.processors p new c (λ (x : ProcessorRecord). x.following.issued ≡ length x.issued)
            (answer_counted b.following (index_of b r.tag.0) r.reply ∙ w.followed p) (w.followed c);
        counted = rw shown (record {
          asked = w.counted.asked;
          told = omega (arith, w.counted.told, total_push (show f).answers p a in_answers, length-remove f.told place (slice_get_within f.told place r there));
          homes = w.counted.homes;
        });
        telling = rw shown (telling_takes tiles (show f) f.told w.telling place r q.index q.op there in_answers);
      });
    }

move_steps : (tiles tags : ℕ) (opening : List ℕ) (f : Flight) (order : List LinearizationPoint) (n : ℕ) (m : Move)
    → Whole tiles tags opening f order → IsFound (length opening) f m
    → Steps tiles tags opening f order n (moved tiles f m) (event f m)
move_steps tiles tags opening f order n (Sends t tag o) w g = sends_steps tiles tags opening f order t tag o n w g
move_steps tiles tags opening f order n (Serves r) w g =
    let q = w.sound.requests (asked_place f.asked r) r g in
    let e : Served r.source q.index r.tag q.operation ≡ event f (Serves r) =
    sym (ap (λ i. Served r.source i r.tag (operation_under (processor_at f r.source) r.tag.0)) (index_is f r.source r.tag.0 q.index q.holds)
    ∙ ap (λ o. Served r.source q.index r.tag o) (operation_is f r.source r.tag.0 q.index q.operation q.holds q.issued)) in
    subst (λ (x : Event). Steps tiles tags opening f order n (moved tiles f (Serves r)) x) e (serves_steps tiles tags opening f order r n w g)
move_steps tiles tags opening f order n (Takes r) w g =
    subst (λ (x : Answer). Steps tiles tags opening f order n (moved tiles f (Takes r)) (Answered r.destination x))
    (sym (takes_answer tiles tags opening f order r w g))
    (takes_steps tiles tags opening f order r n w g)

-- any step, be it a move or none
pub any_steps : (tiles tags : ℕ) (opening : List ℕ) (f : Flight) (order : List LinearizationPoint) (n : ℕ) (m : Option Move)
    → Whole tiles tags opening f order
    → ((x : Move) → m ≡ Some x → IsFound (length opening) f x) → Steps tiles tags opening f order n (moved_by tiles f m) (flight_event f m)
any_steps tiles tags opening f order n None w g = record { shown = refl; may = tt; whole = rw append-nil w }
any_steps tiles tags opening f order n (Some m) w g = move_steps tiles tags opening f order n m w (g m refl)
