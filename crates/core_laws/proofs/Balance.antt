-- As many operations of a processor await an answer as its tags are out, and the others are answered: in every reached state.
use Rattle.std.proofs.Common.{◌≡◌, ℕ, ◌+◌, ◌<◌, List, length, Option, Some, None, refl, sym, ◌∙◌, ap, arith, slice_get}
use Rattle.std.proofs.lemmas.List.{length_push}
use Rattle.torus.specs.declared.step.OpId.{OpId}
use Rattle.packet.specs.declared.kinds.Operation.{Operation}
use Rattle.packet.specs.declared.kinds.Response.{Response}
use Rattle.tag_table.specs.Tags.{out_count}
use Rattle.one_order.specs.ProcessorRecord.{ProcessorRecord, issued_by, answered_by, index_of, answer_of}
use Rattle.one_order.specs.Order.{LinearizationPoint}
use Rattle.one_order.specs.Flight.{Flight, Move, Sends, Serves, Takes, IsFound, processor_at, moved, moved_by}
use Rattle.one_order.proofs.Whole.{Whole}
use Rattle.one_order.proofs.Parts.{tags_at, processor_set}
use Rattle.core_laws.proofs.Out.{AreOut, issue_out, answer_out, issue_waits, answer_waits, out_some}

-- who awaits an answer holds a tag, and the others are answered
pub record IsBalanced (b : ProcessorRecord) : Type 0 where
  pub out : AreOut b.following b.tags
  pub answered : b.following.waiting + length b.answers ≡ length b.issued

issued_balanced : (b : ProcessorRecord) (tag : ℕ) (o : Operation) → IsBalanced b → slice_get b.tags tag ≡ Some None → IsBalanced (issued_by b tag o)
issued_balanced b tag o at free =
    let waits = issue_waits b.following in
    let longer = length_push b.issued o in
    let old = at.answered in
    record { out = issue_out b.following b.tags tag (record { 0 = b.following.issued }) at.out free; answered = omega arith }

answered_balanced : (b : ProcessorRecord) (r : Response) (id : OpId) → IsBalanced b → slice_get b.tags r.tag.0 ≡ Some (Some id) → IsBalanced (answered_by b r)
answered_balanced b r id at held =
    let waits = answer_waits b.following (index_of b r.tag.0) r.reply in
    let some : 0 < out_count b.tags = out_some b.tags r.tag.0 id held in
    let out = at.out in
    let longer = length_push b.answers (answer_of b r) in
    let old = at.answered in
    record { out = answer_out b.following b.tags r.tag.0 (index_of b r.tag.0) r.reply id at.out held; answered = omega arith }

-- every processor's is
abbrev pub AreBalanced : Flight → Type 0
AreBalanced f = (p : ℕ) → IsBalanced (processor_at f p)

-- each move keeps it
pub move_balanced : (tiles tags words : ℕ) (opening : List ℕ) (f : Flight) (order : List LinearizationPoint) → Whole tiles tags opening f order → (m : Move)
    → IsFound words f m
    → AreBalanced f → AreBalanced (moved tiles f m)
move_balanced tiles tags words opening f order w (Sends t tag o) found at p =
    processor_set f.processors t (issued_by (processor_at f t) tag o) p IsBalanced (issued_balanced (processor_at f t) tag o (at t) found.2) (at p)
move_balanced tiles tags words opening f order w (Serves r) found at p = at p
move_balanced tiles tags words opening f order w (Takes r) found at p =
    let is = w.sound.responses _ r found in
    let held : slice_get (processor_at f r.destination).tags r.tag.0 ≡ Some (Some (record { 0 = is.index })) =
    sym (ap (λ ts. slice_get ts r.tag.0) (tags_at f r.destination)) ∙ is.holds in
    processor_set f.processors r.destination (answered_by (processor_at f r.destination) r) p IsBalanced
    (answered_balanced (processor_at f r.destination) r (record { 0 = is.index }) (at r.destination) held) (at p)

pub any_balanced : (tiles tags words : ℕ) (opening : List ℕ) (f : Flight) (order : List LinearizationPoint) → Whole tiles tags opening f order
    → (m : Option Move) → ((k : Move) → m ≡ Some k → IsFound words f k)
    → AreBalanced f → AreBalanced (moved_by tiles f m)
any_balanced tiles tags words opening f order w None found at = at
any_balanced tiles tags words opening f order w (Some m) found at = move_balanced tiles tags words opening f order w m (found m refl) at
