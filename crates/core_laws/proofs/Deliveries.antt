-- Packets are delivered in order at every machine that steps reach.
use Rattle.std.proofs.Common.{◌≡◌, ◌≢◌, ⊎_elim, ℕ, zero, suc, ◌+◌, ◌<◌, ◌≤◌, ◌==◌, Bool, true, false, cond, List, [], ◌∷◌, ◌++◌, All, map, length, take}
use Rattle.std.proofs.Common.{Option, Some, None, refl, sym, ◌∙◌, ap, ap₂, subst, arith, slice_get, append_assoc}
use Rattle.std.specs.Prelude.{filter, ◌&&◌, option_to_list}
use Rattle.std.proofs.lemmas.Bool.{cases_eq, cases_lt, eq-eqb, ne_eqb, and_parts}
use Rattle.std.proofs.lemmas.List.{append-nil, take_all, get_or_past}
use Rattle.std.proofs.lemmas.List.Elements.{filter-append, All-nil, All-cons, All-head, All-tail, All-append}
use Rattle.std.proofs.lemmas.Option.{same_Some, slice_get-get_or}
use Rattle.torus.specs.Shape.{tiles_of}
use Rattle.torus.specs.declared.step.Step.{Step}
use Rattle.packet.specs.declared.kinds.Request.{Request}
use Rattle.packet.specs.declared.kinds.Response.{Response}
use Rattle.home_bank.specs.declared.entry.Entry.{Entry}
use Rattle.home_bank.specs.BankTable.{BankState}
use Rattle.one_order.specs.declared.answer.Answer.{Answer}
use Rattle.one_order.specs.Observed.{Observed, list_at}
use Rattle.one_order.specs.Events.{push_at, order_after}
use Rattle.one_order.proofs.Lists.{list_at_push_same, list_at_push_other, list_at_none, list_within}
use Rattle.one_order.proofs.Naming.{answers_name}
use Rattle.wormhole.specs.Delivery.{IsPrefix}
use Rattle.one_order.specs.ProcessorRecord.{request_of}
use Rattle.one_order.specs.Flight.{Move, Sends, Serves, Takes}
use Rattle.core_laws.specs.Tile.{Design, TileState}
use Rattle.core_laws.specs.Core.{Load, State, design_of, first_state, next, after, after_from, run_of, show}
use Rattle.core_laws.specs.Moves.{move_of}
use Rattle.core_laws.specs.Mirrors.{no_tile, tile_at}
use Rattle.core_laws.specs.Noted.{noted, requests_noted, taken_noted}
use Rattle.core_laws.specs.Runs.{IsAcceptedLoad}
use Rattle.core_laws.specs.Delivery.{asked_operation, notice_of, notice_by, requests_between, responses_between, requests_whole}
use Rattle.core_laws.specs.Delivery.{request_served, responses_sent, DeliversPackets}
use Rattle.core_laws.proofs.Histories.{move_at, state_at, event_at}
use Rattle.core_laws.proofs.EveryRun.{holds_in, packets_delivered}
use Rattle.core_laws.proofs.Stands.{Stands, IsProperRequest, IsProperResponse, responses_from}
use Rattle.core_laws.specs.Machine.{Core, IsAfter, core_after_load}
use Rattle.core_laws.specs.Delivered.{request_sent, response_taken, brought_from, sent_requests, whole_responses, requests_from, responses_to}
use Rattle.core_laws.specs.Delivered.{DeliversInOrder}
use Rattle.core_laws.proofs.Lawful.{one_order}
use Rattle.core_laws.proofs.Machines.{named_machine}

-- of one step more
brought_more : {A : Type 0} (bring : Option Move → List A) → bring None ≡ [] → (d : Design) (steps : List Step) (s : State) (k : ℕ)
    → brought_from bring d s (take (suc k) steps)
    ≡ brought_from bring d s (take k steps) ++ bring (move_at d (after_from d s (take k steps)) (slice_get steps k))
brought_more bring none d [] s zero = sym none
brought_more bring none d [] s (suc k) = sym none
brought_more bring none d (step ∷ steps) s zero = append-nil (bring (move_of d s step))
brought_more bring none d (step ∷ steps) s (suc k) =
    ap (λ ys. bring (move_of d s step) ++ ys) (brought_more bring none d steps (next d s step) k)
    ∙ sym (append_assoc (bring (move_of d s step)) (brought_from bring d (next d s step) (take k steps))
    (bring (move_at d (after_from d (next d s step) (take k steps)) (slice_get steps k))))

-- a list at the end of which one more item stands, by its key among lists and in one list of all
pushed : {A : Type 0} (key : A → ℕ) (xss : List (List A)) (p : ℕ) → p < length xss → (all : List A) → list_at xss p ≡ filter (λ x. key x == p) all
    → (x : A) → list_at (push_at xss (key x) x) p ≡ filter (λ y. key y == p) (all ++ x ∷ [])
pushed {A} key xss p inside all same x =
    let keyed : List A → List A = filter (λ y. key y == p) in
    ⊎_elim
    (λ (e : key x ≡ p).
    let here : keyed (x ∷ []) ≡ x ∷ [] = ap (λ (b : Bool). cond b (x ∷ []) []) (eq-eqb (key x) p e) in
    ap (λ (q : ℕ). list_at (push_at xss q x) p) e ∙ (list_at_push_same xss p x inside ∙ (ap (λ (xs : List A). xs ++ x ∷ []) same
    ∙ (ap (λ (xs : List A). keyed all ++ xs) (sym here) ∙ sym (filter-append (λ y. key y == p) all (x ∷ []))))))
    (λ (other : key x ≢ p).
    let none : keyed (x ∷ []) ≡ [] = ap (λ (b : Bool). cond b (x ∷ []) []) (ne_eqb (key x) p other) in
    list_at_push_other xss (key x) p x (λ e. other (sym e)) ∙ (same ∙ (sym (append-nil (keyed all))
    ∙ (ap (λ (xs : List A). keyed all ++ xs) (sym none) ∙ sym (filter-append (λ y. key y == p) all (x ∷ []))))))
    (cases_eq (key x) p)

unpushed : {A : Type 0} (test : A → Bool) (xs all : List A) → xs ≡ filter test all → xs ≡ filter test (all ++ [])
unpushed test xs all same = same ∙ ap (filter test) (sym (append-nil all))

one_request : (tiles : ℕ) (rss : List (List Request)) (p : ℕ) → p < length rss → (all : List Request) → list_at rss p ≡ requests_from p all
    → (m : Option Move) → list_at (requests_noted tiles m rss) p ≡ requests_from p (all ++ request_sent tiles m)
one_request tiles rss p inside all same None = unpushed (λ r. r.source == p) (list_at rss p) all same
one_request tiles rss p inside all same (Some (Sends t tag o)) = pushed (λ (r : Request). r.source) rss p inside all same (request_of tiles t tag o)
one_request tiles rss p inside all same (Some (Serves r)) = unpushed (λ r. r.source == p) (list_at rss p) all same
one_request tiles rss p inside all same (Some (Takes r)) = unpushed (λ r. r.source == p) (list_at rss p) all same

one_response : (rss : List (List Response)) (p : ℕ) → p < length rss → (all : List Response) → list_at rss p ≡ responses_to p all
    → (m : Option Move) → list_at (taken_noted m rss) p ≡ responses_to p (all ++ response_taken m)
one_response rss p inside all same None = unpushed (λ r. r.destination == p) (list_at rss p) all same
one_response rss p inside all same (Some (Sends t tag o)) = unpushed (λ r. r.destination == p) (list_at rss p) all same
one_response rss p inside all same (Some (Serves r)) = unpushed (λ r. r.destination == p) (list_at rss p) all same
one_response rss p inside all same (Some (Takes r)) = pushed (λ (r : Response). r.destination) rss p inside all same r

-- items that pass a test, among those that pass one which follows from it
among_more : {A : Type 0} (test more : A → Bool) (x : A) (xs : List A) (c e : Bool) → more x ≡ c → test x ≡ e → (test x ≡ true → more x ≡ true)
    → filter test (filter more xs) ≡ filter test xs → filter test (cond c (x ∷ filter more xs) (filter more xs)) ≡ cond e (x ∷ filter test xs) (filter test xs)
among_more {A} test more x xs true e is passes so same = ap₂ (λ (b : Bool) (ys : List A). cond b (x ∷ ys) ys) passes same
among_more test more x xs false false is passes so same = same
among_more test more x xs false true is passes so same = let no : ◌≡◌ {A = Bool} true false = sym (so passes) ∙ is in absurd (cc)

among : {A : Type 0} (test more : A → Bool) → ((x : A) → test x ≡ true → more x ≡ true) → (xs : List A) → filter test (filter more xs) ≡ filter test xs
among test more so [] = refl
among test more so (x ∷ xs) = among_more test more x xs (more x) (test x) refl refl (so x) (among test more so xs)

-- where all pass the second
and_true : (a b : Bool) → b ≡ true → (a && b) ≡ a
and_true true b h = h
and_true false b h = refl

second_passed : {A : Type 0} (a b : A → Bool) (xs : List A) → All (λ x. b x ≡ true) xs → filter (λ x. a x && b x) xs ≡ filter a xs
second_passed a b [] h = refl
second_passed {A} a b (x ∷ xs) h =
    ap₂ (λ (c : Bool) (ys : List A). cond c (x ∷ ys) ys) (and_true (a x) (b x) (All-head (λ y. b y ≡ true) x xs h))
    (second_passed a b xs (All-tail (λ y. b y ≡ true) x xs h))

-- where none passes
none_passes : {A : Type 0} (a : A → Bool) (xs : List A) → All (λ x. a x ≡ false) xs → filter a xs ≡ []
none_passes a [] h = refl
none_passes {A} a (x ∷ xs) h =
    ap (λ (c : Bool). cond c (x ∷ filter a xs) (filter a xs)) (All-head (λ y. a y ≡ false) x xs h) ∙ none_passes a xs (All-tail (λ y. a y ≡ false) x xs h)

all_so : {X : Type 0} (P Q : X → Type 0) → ((x : X) → P x → Q x) → (xs : List X) → All P xs → All Q xs
all_so P Q f [] h = All-nil Q
all_so P Q f (x ∷ xs) h = All-cons Q x xs (f x (All-head P x xs h)) (all_so P Q f xs (All-tail P x xs h))

-- what holds of the items of one list holds of those of another that tells the same
all_across : {A B C : Type 0} (f : A → C) (g : B → C) (Q : C → Type 0) (xs : List A) (ys : List B) → map f xs ≡ map g ys
    → ((i : ℕ) (x : A) → slice_get xs i ≡ Some x → Q (f x)) → All (λ y. Q (g y)) ys
all_across f g Q xs [] h each = All-nil (λ y. Q (g y))
all_across f g Q [] (y ∷ ys) h each = absurd (cc)
all_across f g Q (x ∷ xs) (y ∷ ys) h each =
    let first : f x ≡ g y = cc in
    let rest : map f xs ≡ map g ys = cc in
    All-cons (λ z. Q (g z)) y ys (subst Q first (each 0 x refl)) (all_across f g Q xs ys rest (λ i z there. each (suc i) z there))

-- the requests of a bank's entries come from where its responses go
served_from : (d : Design) (b place : ℕ) (entries : List Entry) → All (λ r. IsProperResponse d r × (r.source ≡ b)) (responses_from b place entries)
    → All (λ r. (r.source < tiles_of d.shape) × (r.destination ≡ b)) (map (request_served (tiles_of d.shape) b) entries)
served_from d b place [] h = All-nil (λ r. (r.source < tiles_of d.shape) × (r.destination ≡ b))
served_from d b place (e ∷ entries) h =
    let first = All-head (λ r. IsProperResponse d r × (r.source ≡ b)) _ _ h in
    All-cons (λ r. (r.source < tiles_of d.shape) × (r.destination ≡ b)) (request_served (tiles_of d.shape) b e)
    (map (request_served (tiles_of d.shape) b) entries)
    (first.0.destination, refl) (served_from d b (place + 1) entries (All-tail (λ r. IsProperResponse d r × (r.source ≡ b)) _ _ h))

waiting_from : (tiles b : ℕ) (o : Option Request) → ((r : Request) → o ≡ Some r → (r.source < tiles) × (r.destination ≡ b))
    → All (λ r. (r.source < tiles) × (r.destination ≡ b)) (option_to_list o)
waiting_from tiles b None h = All-nil (λ r. (r.source < tiles) × (r.destination ≡ b))
waiting_from tiles b (Some r) h =
    All-cons (λ r. (r.source < tiles) × (r.destination ≡ b)) r [] (h r refl) (All-nil (λ r. (r.source < tiles) × (r.destination ≡ b)))

module _ (l : Load) (ok : IsAcceptedLoad l) (steps : List Step) where
  abbrev tiles : ℕ
  tiles = tiles_of l.shape

  -- the requests and responses that are noted of a processor, in one list of all
  requests_are : (p k : ℕ) → p < tiles → list_at (noted l steps k).requests p ≡ requests_from p (sent_requests l (take k steps))
  requests_are p zero p_in = list_at_none {A = Request} tiles p
  requests_are p (suc k) p_in =
      one_request tiles (noted l steps k).requests p (subst (λ (m : ℕ). p < m) (sym (holds_in l ok steps k).stands.carries.processors) p_in)
      (sent_requests l (take k steps)) (requests_are p k p_in) (move_at (design_of l) (state_at l steps k) (slice_get steps k))
      ∙ ap (requests_from p) (sym (brought_more (request_sent tiles) refl (design_of l) steps (first_state l) k))

  responses_are : (p k : ℕ) → p < tiles → list_at (noted l steps k).taken p ≡ responses_to p (whole_responses l (take k steps))
  responses_are p zero p_in = list_at_none {A = Response} tiles p
  responses_are p (suc k) p_in =
      one_response (noted l steps k).taken p (subst (λ (m : ℕ). p < m) (sym (holds_in l ok steps k).stands.carries.takers) p_in)
      (whole_responses l (take k steps)) (responses_are p k p_in) (move_at (design_of l) (state_at l steps k) (slice_get steps k))
      ∙ ap (responses_to p) (sym (brought_more response_taken refl (design_of l) steps (first_state l) k))

  abbrev n : ℕ
  n = length steps

  abbrev d : Design
  d = design_of l

  -- after all steps
  all_steps : take n steps ≡ steps
  all_steps = take_all n steps (omega arith)

  abbrev s : State
  s = after l (take n steps)

  st : Stands d l.tags l.opening s (noted l steps n) (order_after (event_at l steps) n)
  st = (holds_in l ok steps n).stands

  by_law : DeliversPackets d (length l.opening) s (noted l steps n).requests (noted l steps n).taken
  by_law = packets_delivered l ok steps n

  sent_are : (p : ℕ) → p < tiles → list_at (noted l steps n).requests p ≡ requests_from p (sent_requests l steps)
  sent_are p p_in = requests_are p n p_in ∙ ap (λ (xs : List Step). requests_from p (sent_requests l xs)) all_steps

  whole_are : (p : ℕ) → p < tiles → list_at (noted l steps n).taken p ≡ responses_to p (whole_responses l steps)
  whole_are p p_in = responses_are p n p_in ∙ ap (λ (xs : List Step). responses_to p (whole_responses l xs)) all_steps

  tile_there : (b : ℕ) → b < tiles → slice_get s.tiles b ≡ Some (tile_at s b)
  tile_there b b_in = slice_get-get_or s.tiles b no_tile (subst (λ (m : ℕ). b < m) (sym st.tiles) b_in)

  no_tile_there : (b : ℕ) → tiles ≤ b → tile_at s b ≡ no_tile
  no_tile_there b past = get_or_past s.tiles b no_tile (subst (λ (m : ℕ). m ≤ b) (sym st.tiles) past)

  -- the requests that a bank has whole come from processors, and to it
  whole_from : (b : ℕ) → b < tiles → All (λ r. (r.source < tiles) × (r.destination ≡ b)) (requests_whole tiles b (tile_at s b).bank)
  whole_from b b_in = All-append (λ r. (r.source < tiles) × (r.destination ≡ b)) _ _
      (served_from d b 0 (tile_at s b).bank.entries (st.carries.replies_proper b b_in))
      (waiting_from tiles b (tile_at s b).bank.waiting (λ r waits. let proper = st.carries.waiting_proper b r waits in (proper.0.source, proper.1)))

  abbrev IsRequestsBeginning : ℕ → ℕ → TileState → Type 0
  IsRequestsBeginning p b tile = IsPrefix (requests_from p (requests_whole tiles b tile.bank)) (requests_between p b (sent_requests l steps))

  requests_begin : (p b : ℕ) → b < tiles → IsRequestsBeginning p b (tile_at s b)
  requests_begin p b b_in =
      let has : List Request = requests_whole tiles b (tile_at s b).bank in
      let sent : List Request = sent_requests l steps in
      ⊎_elim
      (λ (p_in : p < tiles).
      let law : IsPrefix (requests_between p b has) (requests_between p b (list_at (noted l steps n).requests p)) =
      by_law.at_banks p b (tile_at s b) p_in (tile_there b b_in) in
      let left : requests_between p b has ≡ requests_from p has = second_passed (λ r. r.source == p) (λ r. r.destination == b) has
      (all_so (λ r. (r.source < tiles) × (r.destination ≡ b)) (λ r. (r.destination == b) ≡ true) (λ r h. eq-eqb r.destination b h.1) has (whole_from b b_in)) in
      let right : requests_between p b (list_at (noted l steps n).requests p) ≡ requests_between p b sent =
      ap (requests_between p b) (sent_are p p_in)
      ∙ among (λ r. r.source == p && r.destination == b) (λ r. r.source == p) (λ r h. (and_parts (r.source == p) (r.destination == b) h).0) sent in
      subst (λ (xs : List Request). IsPrefix xs (requests_between p b sent)) left (subst (IsPrefix (requests_between p b has)) right law))
      (λ (past : tiles ≤ p).
      let none : requests_from p has ≡ [] = none_passes (λ r. r.source == p) has
      (all_so (λ r. (r.source < tiles) × (r.destination ≡ b)) (λ r. (r.source == p) ≡ false) (λ r h. ne_eqb r.source p (λ e. omega (arith, e, h.0))) has
      (whole_from b b_in)) in
      subst (λ (xs : List Request). IsPrefix xs (requests_between p b sent)) (sym none) (requests_between p b sent, refl))
      (cases_lt p tiles)

  -- where there is no tile, no bank has a request
  requests_come : (p b : ℕ) → IsRequestsBeginning p b (tile_at s b)
  requests_come p b = ⊎_elim
      (requests_begin p b)
      (λ (past : tiles ≤ b). subst (IsRequestsBeginning p b) (sym (no_tile_there b past)) (requests_between p b (sent_requests l steps), refl))
      (cases_lt b tiles)

  -- the responses that a processor has whole come from banks
  whole_of_banks : (p : ℕ) → p < tiles → All (λ r. r.source < tiles) (list_at (noted l steps n).taken p)
  whole_of_banks p p_in =
      let order = one_order l ok steps in
      let names = answers_name tiles l.tags l.opening (run_of l steps) n _ order in
      all_across (notice_by p) notice_of (λ x. x.bank < tiles) (list_at (run_of l steps n).answers p) (list_at (noted l steps n).taken p) (by_law.answered p)
      (λ i a there. let named = names.named p i a there in
      subst (λ (m : ℕ). a.bank < m) order.shown.banks (list_within (run_of l steps n).entries a.bank a.place named.entry named.there))

  abbrev IsResponsesBeginning : ℕ → ℕ → TileState → Type 0
  IsResponsesBeginning b p tile = IsPrefix (responses_between b p (whole_responses l steps)) (responses_between b p (responses_sent b tile.bank))

  responses_begin : (b p : ℕ) → p < tiles → IsResponsesBeginning b p (tile_at s b)
  responses_begin b p p_in =
      let all : List Response = whole_responses l steps in
      let has : List Response = list_at (noted l steps n).taken p in
      let sent : List Response = responses_sent b (tile_at s b).bank in
      let same : responses_between b p has ≡ responses_between b p all =
      ap (responses_between b p) (whole_are p p_in)
      ∙ among (λ r. r.source == b && r.destination == p) (λ r. r.destination == p) (λ r h. (and_parts (r.source == b) (r.destination == p) h).1) all in
      ⊎_elim
      (λ (b_in : b < tiles). subst (λ (xs : List Response). IsPrefix xs (responses_between b p sent)) same
      (by_law.at_processors b p (tile_at s b) p_in (tile_there b b_in)))
      (λ (past : tiles ≤ b).
      let none : responses_between b p has ≡ [] = none_passes (λ r. r.source == b && r.destination == p) has
      (all_so (λ r. r.source < tiles) (λ r. (r.source == b && r.destination == p) ≡ false)
      (λ r h. ap (λ (x : Bool). x && (r.destination == p)) (ne_eqb r.source b (λ e. omega (arith, e, h)))) has (whole_of_banks p p_in)) in
      subst (λ (xs : List Response). IsPrefix xs (responses_between b p sent)) (sym none ∙ same) (responses_between b p sent, refl))
      (cases_lt b tiles)

  -- Packets are delivered in order after all steps.
  pub delivers : DeliversInOrder l steps (core_after_load l steps)
  delivers =
      record {
        issued = λ p p_in. ap (map (asked_operation tiles)) (sym (sent_are p p_in))
            ∙ (by_law.issued p ∙ ap (λ (xs : List Step). list_at (show (length l.opening) (after l xs)).issued p) all_steps);
        answered = λ p p_in. ap (map notice_of) (sym (whole_are p p_in))
            ∙ (sym (by_law.answered p) ∙ ap (λ (xs : List Step). map (notice_by p) (list_at (show (length l.opening) (after l xs)).answers p)) all_steps);
        requests = λ p b. subst (λ (xs : List Step). IsRequestsBeginning p b (tile_at (after l xs) b)) all_steps (requests_come p b);
        responses = λ b p p_in. subst (λ (xs : List Step). IsResponsesBeginning b p (tile_at (after l xs) b)) all_steps (responses_begin b p p_in);
      }

-- and so at each machine that steps reach
pub delivers_packets : (l : Load) (c : Core) (steps : List Step) → IsAfter l c steps → DeliversInOrder l steps c
delivers_packets l c steps h = subst (DeliversInOrder l steps) (sym (named_machine l c steps h)) (delivers l h.accepted steps)
