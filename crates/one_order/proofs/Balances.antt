-- The tags that a processor has out are those of its operations that await an answer.
use Rattle.std.proofs.Common.{◌≡◌, ℕ, zero, suc, ◌+◌, cond, List, [], ◌∷◌, length, map, replicate, Option, Some, None, refl, sym}
use Rattle.std.proofs.Common.{◌∙◌, ap, subst, arith, slice_get, slice_index_or, set, get_or}
use Rattle.std.specs.Prelude.{is_some}
use Rattle.std.proofs.lemmas.List.{length_push}
use Rattle.std.proofs.lemmas.List.Sums.{sum_by-set, sum_by-cons}
use Rattle.std.proofs.lemmas.Option.{slice_get_within, get_or_from_slice_get}
use Rattle.torus.specs.declared.step.OpId.{OpId}
use Rattle.packet.specs.declared.kinds.Operation.{Operation}
use Rattle.packet.specs.declared.kinds.Response.{Response}
use Rattle.script_lines.specs.declared.line.Line.{Line}
use Rattle.tag_table.specs.Tags.{out_count}
use Rattle.one_order.specs.Order.{LinearizationPoint}
use Rattle.one_order.specs.ProcessorRecord.{ProcessorRecord, no_processor, issued_by, answered_by, answer_of}
use Rattle.one_order.specs.Flight.{Flight, Move, Sends, Serves, Takes, IsFound, processor_at, told_place, moved, moved_by}
use Rattle.one_order.specs.ProcessorRecord.{first_record}
use Rattle.one_order.specs.Courses.{IsCourse}
use Rattle.one_order.proofs.Parts.{tags_at, processor_set}
use Rattle.one_order.proofs.Whole.{Whole}
use Rattle.one_order.proofs.Courses.{shorter, holds_at}

-- the tags that are out and the answers are as many as the operations issued
abbrev pub Balanced : ProcessorRecord → Type 0
Balanced p = out_count p.tags + length p.answers ≡ length p.issued

abbrev is_out : Option OpId → ℕ
is_out x = cond (is_some x) 1 0

out_more : (tags : List (Option OpId)) (k : ℕ) (id : OpId) → slice_get tags k ≡ Some None
    → out_count (set tags k (Some id)) ≡ out_count tags + 1
out_more tags k id free =
    let was : is_out (get_or tags k None) ≡ 0 = ap is_out (get_or_from_slice_get tags k None None free) in
    let change = sum_by-set is_out tags k (Some id) None (slice_get_within tags k None free) in
    omega (arith, was, change)

pub out_less : (tags : List (Option OpId)) (k : ℕ) (id : OpId) → slice_get tags k ≡ Some (Some id)
    → out_count (set tags k None) + 1 ≡ out_count tags
out_less tags k id holds =
    let was : is_out (get_or tags k None) ≡ 1 = ap is_out (get_or_from_slice_get tags k (Some id) None holds) in
    let change = sum_by-set is_out tags k None None (slice_get_within tags k (Some id) holds) in
    omega (arith, was, change)

issued_balanced : (p : ProcessorRecord) (tag : ℕ) (o : Operation) → slice_get p.tags tag ≡ Some None → Balanced p → Balanced (issued_by p tag o)
issued_balanced p tag o free h =
    let more = out_more p.tags tag (record { 0 = p.following.issued }) free in
    omega (arith, more, h, length_push p.issued o)

answered_balanced : (p : ProcessorRecord) (r : Response) (i : ℕ) → slice_get p.tags r.tag.0 ≡ Some (Some (record { 0 = i })) → Balanced p
    → Balanced (answered_by p r)
answered_balanced p r i holds h =
    let less = out_less p.tags r.tag.0 (record { 0 = i }) holds in
    omega (arith, less, h, length_push p.answers (answer_of p r))

balanced_move : (tiles tags : ℕ) (opening : List ℕ) (f : Flight) (order : List LinearizationPoint) (m : Move) → Whole tiles tags opening f order
    → IsFound (length opening) f m → ((p : ℕ) → Balanced (processor_at f p)) → (p : ℕ) → Balanced (processor_at (moved tiles f m) p)
balanced_move tiles tags opening f order (Sends t tag o) w found h p =
    processor_set f.processors t (issued_by (processor_at f t) tag o) p Balanced
    (issued_balanced (processor_at f t) tag o found.2 (h t)) (h p)
balanced_move tiles tags opening f order (Serves r) w found h p = h p
balanced_move tiles tags opening f order (Takes r) w found h p =
    let t : ℕ = r.destination in
    let q = w.sound.responses (told_place f.told r) r found in
    let holds : slice_get (processor_at f t).tags r.tag.0 ≡ Some (Some (record { 0 = q.index })) =
    sym (ap (λ xs. slice_get xs r.tag.0) (tags_at f t)) ∙ q.holds in
    processor_set f.processors t (answered_by (processor_at f t) r) p Balanced
    (answered_balanced (processor_at f t) r q.index holds (h t)) (h p)

balanced_any : (tiles tags : ℕ) (opening : List ℕ) (f : Flight) (order : List LinearizationPoint) (m : Option Move)
    → Whole tiles tags opening f order → ((x : Move) → m ≡ Some x → IsFound (length opening) f x)
    → ((p : ℕ) → Balanced (processor_at f p)) → (p : ℕ) → Balanced (processor_at (moved_by tiles f m) p)
balanced_any tiles tags opening f order None w found h p = h p
balanced_any tiles tags opening f order (Some m) w found h p = balanced_move tiles tags opening f order m w (found m refl) h p

out_none : (n : ℕ) → out_count (replicate n None) ≡ 0
out_none zero = refl
out_none (suc n) = omega (arith, out_none n, sum_by-cons is_out None (replicate n None))

balanced_first : (tags : ℕ) (scripts : List (List Line)) (p : ℕ) → Balanced (slice_index_or (map (first_record tags) scripts) p no_processor)
balanced_first tags [] p = refl
balanced_first tags (lines ∷ scripts) zero = omega (arith, out_none tags)
balanced_first tags (lines ∷ scripts) (suc p) = balanced_first tags scripts p

module _ (tiles tags : ℕ) (opening : List ℕ) (scripts : List (List Line)) (flight : ℕ → Flight) (move : ℕ → Option Move) where
  pub balanced : (n : ℕ) → IsCourse tiles tags opening scripts flight move n → (p : ℕ) → Balanced (processor_at (flight n) p)
  balanced zero c p = subst (λ (f : Flight). Balanced (processor_at f p)) (sym c.start) (balanced_first tags scripts p)
  balanced (suc n) c p =
      let fewer = shorter tiles tags opening scripts flight move n c in
      subst (λ (f : Flight). Balanced (processor_at f p)) (sym (c.each n (omega arith)))
      (balanced_any tiles tags opening (flight n) _ (move n) (holds_at tiles tags opening scripts flight move n fewer).whole
      (λ x e. c.found n x (omega arith) e) (λ q. balanced n fewer q) p)
