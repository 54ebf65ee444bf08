-- The flits so far of a reply that comes in.
use Rattle.std.proofs.Common.{◌≡◌, ℕ, Bool, true, false, cond, List, [], ◌∷◌, ◌++◌, Option, Some, None, refl, ap, ◌∙◌}
use Rattle.std.specs.Prelude.{◌==◌, is_some, unwrap_or, slice_index}
use Rattle.packet.specs.declared.kinds.Packet.{Packet}
use Rattle.packet.specs.declared.kinds.Packet.TheVariants.{Request, Response}
use Rattle.packet.specs.declared.kinds.Request.{Request as Asked}
use Rattle.packet.specs.declared.kinds.Response.{Response as Reply}
use Rattle.packet.specs.declared.assembler.Kind.{Kind}
use Rattle.packet.specs.declared.assembler.Offered.{Offered}
use Rattle.packet.specs.declared.assembler.Offered.TheVariants.{More, Whole, Refused}
use Rattle.packet.specs.Flit.{field, Heading}
use Rattle.packet.specs.Flits.{offered, offered_by, is_tail}
use Rattle.packet.specs.Reading.{packet_told, packet_with, heading_told, value_at}
use Rattle.packet.specs.Refusal.{refusal}
use Rattle.flit_buffer.specs.Channel.{first_of}
use Rattle.tag_table.specs.Tags.{holder_of}
use Rattle.one_order.specs.ProcessorRecord.{ProcessorRecord}
use Rattle.net_interface.specs.Place.{IsForProcessor}

-- the first of some flits and one more
pub first_more : (xs : List ℕ) (flit : ℕ) → Some (unwrap_or (first_of xs) flit) ≡ first_of (xs ++ flit ∷ [])
first_more [] flit = refl
first_more (x ∷ xs) flit = refl

first_is : (xs : List ℕ) (flit : ℕ) → slice_index (xs ++ flit ∷ []) 0 ≡ unwrap_or (first_of xs) flit
first_is [] flit = refl
first_is (x ∷ xs) flit = refl

-- the tag of a packet that is told as a reply
reply_if : (b : Bool) (q : Asked) (x r : Reply) → ◌≡◌ {A = Packet} (cond b (Request q) (Response x)) (Response r) → r ≡ x
reply_if true q x r e = cc
reply_if false q x r e = cc

tag_with : (told : Heading) (v w : ℕ) (r : Reply) → packet_with told v w ≡ Response r → r.tag.0 ≡ told.tag
tag_with told v w r e = ap (λ (x : Reply). x.tag.0) (reply_if (told.class == 0) _ _ r e)

tag_told : (flits : List ℕ) (r : Reply) → packet_told flits ≡ Response r → r.tag.0 ≡ field (slice_index flits 0) 41 4
tag_told flits r e = tag_with (heading_told (slice_index flits 0)) (value_at flits 1) (value_at flits 3) r e

whole_if : (b : Bool) (q p : Packet) → cond b (Whole q) More ≡ Whole p → q ≡ p
whole_if true q p e = cc
whole_if false q p e = cc

whole_by : (refused : Option Kind) (so_far : List ℕ) (flit : ℕ) (p : Packet) → offered_by refused so_far flit ≡ Whole p → packet_told (so_far ++ flit ∷ []) ≡ p
whole_by (Some kind) so_far flit p e = cc
whole_by None so_far flit p e = whole_if (is_tail flit) (packet_told (so_far ++ flit ∷ [])) p e

-- a reply that is whole with a flit has the tag that its head flit tells
whole_tag : (so_far : List ℕ) (flit : ℕ) (r : Reply) → offered so_far flit ≡ Whole (Response r) → r.tag.0 ≡ field (unwrap_or (first_of so_far) flit) 41 4
unfolding offered
whole_tag so_far flit r e =
    tag_told (so_far ++ flit ∷ []) r (whole_by (refusal so_far flit) so_far flit (Response r) e) ∙ ap (λ h. field h 41 4) (first_is so_far flit)

-- where that tag is out, the flit is for the processor
for_processor : (b : ProcessorRecord) (so_far : List ℕ) (flit : ℕ) → is_some (holder_of b.tags (field (unwrap_or (first_of so_far) flit) 41 4)) ≡ true
    → (o : Offered) → offered so_far flit ≡ o → IsForProcessor b o
for_processor b so_far flit out More e = tt
for_processor b so_far flit out (Refused k) e = tt
for_processor b so_far flit out (Whole (Request r)) e = tt
for_processor b so_far flit out (Whole (Response r)) e =
    ap (λ t. is_some (holder_of b.tags t)) (whole_tag so_far flit r e) ∙ out

pub acceptable : (b : ProcessorRecord) (so_far : List ℕ) (flit : ℕ) → is_some (holder_of b.tags (field (unwrap_or (first_of so_far) flit) 41 4)) ≡ true
    → IsForProcessor b (offered so_far flit)
acceptable b so_far flit out = for_processor b so_far flit out (offered so_far flit) refl
